-- Keys that are equal are the same.
use Rattle.std.proofs.Common.{◌≡◌, true, false, refl, sym, ap, ◌∙◌, arith}
use Rattle.crl_protocol.specs.Parcels.{Load, OfGrant, OfReturn, OfRelease, load_eq, Key, key_eq}

load_same : (a b : Load) → load_eq a b ≡ true → a ≡ b
load_same OfGrant OfGrant e = refl
load_same OfReturn OfReturn e = refl
load_same OfRelease OfRelease e = refl
load_same OfGrant OfReturn e = cc
load_same OfGrant OfRelease e = cc
load_same OfReturn OfGrant e = cc
load_same OfReturn OfRelease e = cc
load_same OfRelease OfGrant e = cc
load_same OfRelease OfReturn e = cc

load_self : (a : Load) → load_eq a a ≡ true
load_self OfGrant = refl
load_self OfReturn = refl
load_self OfRelease = refl

pub key_same : (a b : Key) → key_eq a b ≡ true → a ≡ b
key_same a b e = let l = load_same a.load b.load in grind arith

pub key_self : (a : Key) → key_eq a a ≡ true
key_self a = let l = load_self a.load in grind arith

-- one of two keys that differ isn't a third one's
pub not_both : (k a b : Key) → key_eq a b ≡ false → key_eq k b ≡ true → key_eq k a ≡ true → ⊥
not_both k a b differ is_b is_a =
    let same : a ≡ b = sym (key_same k a is_a) ∙ key_same k b is_b in
    let e : false ≡ true = sym differ ∙ ap (key_eq a) (sym same) ∙ key_self a in
    cc
