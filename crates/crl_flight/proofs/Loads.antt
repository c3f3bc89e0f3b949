-- Messages with a part of their bytes, and keys.
use Rattle.std.proofs.Common.{◌≡◌, ℕ, true, None, Some, Option, List, [], refl, ap, arith}
use Rattle.crl_model.specs.declared.name.Name.{Name}
use Rattle.crl_model.specs.declared.message.Granted.{Granted}
use Rattle.crl_model.specs.declared.message.Granted.TheVariants.{Shared, Exclusive, Upgrade}
use Rattle.crl_model.specs.declared.message.Kind.{Kind}
use Rattle.crl_model.specs.declared.message.Kind.TheVariants as kind
use Rattle.crl_protocol.specs.Parcels.{load_of_grant, load_of_return, load_of, grant_with, return_with, with_load, Load, OfGrant, OfReturn, OfRelease, load_eq, Key, key_eq, key_of_grant, key_of_return, key_in}

-- with its own bytes it is the whole
regranted_whole : (part : List ℕ) (g : Granted) → grant_with (load_of_grant g) (grant_with part g) ≡ g
regranted_whole part (Shared bytes) = refl
regranted_whole part (Exclusive bytes) = refl
regranted_whole part Upgrade = refl

rereturned_whole : (part : List ℕ) (b : Option (List ℕ)) → return_with (load_of_return b) (return_with part b) ≡ b
rereturned_whole part None = refl
rereturned_whole part (Some bytes) = refl

pub whole_again : (part : List ℕ) (k : Kind) → with_load (load_of k) (with_load part k) ≡ k
whole_again part (kind.Grant name version g) = ap (λ x. kind.Grant name version x) (regranted_whole part g)
whole_again part (kind.Return name version b) = ap (λ x. kind.Return name version x) (rereturned_whole part b)
whole_again part (kind.Release name version bytes) = refl
whole_again part (kind.InfoAsk name) = refl
whole_again part (kind.InfoIs name t) = refl
whole_again part (kind.Ask name write have) = refl
whole_again part (kind.Recall name version) = refl
whole_again part (kind.Yield name version) = refl
whole_again part (kind.DeleteAsk name) = refl
whole_again part (kind.DeleteIs name t) = refl
whole_again part (kind.Purge name) = refl
whole_again part (kind.Purged name) = refl
whole_again part (kind.Come round p) = refl
whole_again part (kind.Result round fold) = refl

-- a piece has its message's key
regranted_key : (s : ℕ) (name : Name) (version : ℕ) (part : List ℕ) (g : Granted) → key_of_grant s name version (grant_with part g) ≡ key_of_grant s name version g
regranted_key s name version part (Shared bytes) = refl
regranted_key s name version part (Exclusive bytes) = refl
regranted_key s name version part Upgrade = refl

rereturned_key : (s : ℕ) (name : Name) (version : ℕ) (part : List ℕ) (b : Option (List ℕ)) → key_of_return s name version (return_with part b) ≡ key_of_return s name version b
rereturned_key s name version part None = refl
rereturned_key s name version part (Some bytes) = refl

pub key_kept : (s : ℕ) (part : List ℕ) (k : Kind) → key_in s (with_load part k) ≡ key_in s k
key_kept s part (kind.Grant name version g) = regranted_key s name version part g
key_kept s part (kind.Return name version b) = rereturned_key s name version part b
key_kept s part (kind.Release name version bytes) = refl
key_kept s part (kind.InfoAsk name) = refl
key_kept s part (kind.InfoIs name t) = refl
key_kept s part (kind.Ask name write have) = refl
key_kept s part (kind.Recall name version) = refl
key_kept s part (kind.Yield name version) = refl
key_kept s part (kind.DeleteAsk name) = refl
key_kept s part (kind.DeleteIs name t) = refl
key_kept s part (kind.Purge name) = refl
key_kept s part (kind.Purged name) = refl
key_kept s part (kind.Come round p) = refl
key_kept s part (kind.Result round fold) = refl

-- a piece of a message with bytes has the part
regranted_load : (s : ℕ) (name : Name) (version : ℕ) (part : List ℕ) (g : Granted) (key : Key) → key_of_grant s name version g ≡ Some key → load_of_grant (grant_with part g) ≡ part
regranted_load s name version part (Shared bytes) key e = refl
regranted_load s name version part (Exclusive bytes) key e = refl
regranted_load s name version part Upgrade key e = cc

rereturned_load : (s : ℕ) (name : Name) (version : ℕ) (part : List ℕ) (b : Option (List ℕ)) (key : Key) → key_of_return s name version b ≡ Some key → load_of_return (return_with part b) ≡ part
rereturned_load s name version part None key e = cc
rereturned_load s name version part (Some bytes) key e = refl

pub load_is : (s : ℕ) (part : List ℕ) (k : Kind) (key : Key) → key_in s k ≡ Some key → load_of (with_load part k) ≡ part
load_is s part (kind.Grant name version g) key e = regranted_load s name version part g key e
load_is s part (kind.Return name version b) key e = rereturned_load s name version part b key e
load_is s part (kind.Release name version bytes) key e = refl
load_is s part (kind.InfoAsk name) key e = cc
load_is s part (kind.InfoIs name t) key e = cc
load_is s part (kind.Ask name write have) key e = cc
load_is s part (kind.Recall name version) key e = cc
load_is s part (kind.Yield name version) key e = cc
load_is s part (kind.DeleteAsk name) key e = cc
load_is s part (kind.DeleteIs name t) key e = cc
load_is s part (kind.Purge name) key e = cc
load_is s part (kind.Purged name) key e = cc
load_is s part (kind.Come round p) key e = cc
load_is s part (kind.Result round fold) key e = cc

-- a message without a key has no bytes, and its piece is the message
regranted_none : (s : ℕ) (name : Name) (version : ℕ) (part : List ℕ) (g : Granted) → key_of_grant s name version g ≡ None → (load_of_grant g ≡ []) × (grant_with part g ≡ g)
regranted_none s name version part (Shared bytes) e = cc
regranted_none s name version part (Exclusive bytes) e = cc
regranted_none s name version part Upgrade e = (refl, refl)

rereturned_none : (s : ℕ) (name : Name) (version : ℕ) (part : List ℕ) (b : Option (List ℕ)) → key_of_return s name version b ≡ None → (load_of_return b ≡ []) × (return_with part b ≡ b)
rereturned_none s name version part None e = (refl, refl)
rereturned_none s name version part (Some bytes) e = cc

pub plain_same : (s : ℕ) (part : List ℕ) (k : Kind) → key_in s k ≡ None → (load_of k ≡ []) × (with_load part k ≡ k)
plain_same s part (kind.Grant name version g) e = let r = regranted_none s name version part g e in (r.0, ap (λ x. kind.Grant name version x) r.1)
plain_same s part (kind.Return name version b) e = let r = rereturned_none s name version part b e in (r.0, ap (λ x. kind.Return name version x) r.1)
plain_same s part (kind.Release name version bytes) e = cc
plain_same s part (kind.InfoAsk name) e = (refl, refl)
plain_same s part (kind.InfoIs name t) e = (refl, refl)
plain_same s part (kind.Ask name write have) e = (refl, refl)
plain_same s part (kind.Recall name version) e = (refl, refl)
plain_same s part (kind.Yield name version) e = (refl, refl)
plain_same s part (kind.DeleteAsk name) e = (refl, refl)
plain_same s part (kind.DeleteIs name t) e = (refl, refl)
plain_same s part (kind.Purge name) e = (refl, refl)
plain_same s part (kind.Purged name) e = (refl, refl)
plain_same s part (kind.Come round p) e = (refl, refl)
plain_same s part (kind.Result round fold) e = (refl, refl)

-- keys that are equal are the same
load_same : (a b : Load) → load_eq a b ≡ true → a ≡ b
load_same OfGrant OfGrant e = refl
load_same OfReturn OfReturn e = refl
load_same OfRelease OfRelease e = refl
load_same OfGrant OfReturn e = cc
load_same OfGrant OfRelease e = cc
load_same OfReturn OfGrant e = cc
load_same OfReturn OfRelease e = cc
load_same OfRelease OfGrant e = cc
load_same OfRelease OfReturn e = cc

load_self : (a : Load) → load_eq a a ≡ true
load_self OfGrant = refl
load_self OfReturn = refl
load_self OfRelease = refl

pub key_same : (a b : Key) → key_eq a b ≡ true → a ≡ b
key_same a b e = let l = load_same a.load b.load in grind arith

pub key_self : (a : Key) → key_eq a a ≡ true
key_self a = let l = load_self a.load in grind arith
