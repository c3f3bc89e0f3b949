-- Each message that comes fits.
use Rattle.std.proofs.Common.{ℕ, List, [], ◌∷◌, Bool, true, false, ◌&&◌, ◌||◌, ◌≡◌, ◌≢◌, ◌==◌, ◌⊎◌, if◌then◌else◌, length, refl, arith}
use Rattle.std.specs.declared.option.Option.{Option}
use Rattle.std.specs.declared.option.Option.TheVariants.{None, Some}
use Rattle.crl_model.specs.declared.directory.Listing.{Listing}
use Rattle.crl_model.specs.declared.directory.Asked.{Asked}
use Rattle.crl_model.specs.declared.message.Granted.{Granted}
use Rattle.crl_protocol.specs.Places.{at, find_all, Took}
use Rattle.crl_protocol.specs.Mail.{Ask, Grant, Return, Release}
use Rattle.crl_protocol.specs.Home.{is_listed, bytes_fit, return_fits, release_fits}
use Rattle.crl_protocol.specs.Remote.{grant_fits}
use Rattle.crl_protocol.specs.Handlers.{is_queued}
use Rattle.crl_coherence.specs.Region.{Flying, Region, flies}
use Rattle.crl_coherence.specs.Pairs.{pair_of, of_node, asked_in, returned_in, released_in, queued_of}
use Rattle.crl_coherence.specs.Coherent.{IsCoherent}
use Rattle.crl_coherence.proofs.Lists.{took_some, took_all, took_right}
use Rattle.crl_coherence.proofs.Facts.{returns_one, pending_one, grant_is_fit, return_listed}
use Rattle.crl_coherence.proofs.Opens.{only_grant}
use Rattle.crl_coherence.proofs.Pairs.{release_size}

pub fits_grant : (me : ℕ) (g : Region) (n version : ℕ) (granted : Granted) (rest : List Flying) → IsCoherent me g → n ≢ me → Took (flies n (Grant version granted)) g.flight rest → grant_fits granted (g.remotes n) ≡ true
fits_grant me g n version granted rest k other took =
    grant_is_fit g.home.last g.array (pair_of g.home.listed g.home.queue g.remotes g.flight n) (record { version = version; what = granted }) (only_grant me g n version granted rest k other took) (k.loose.pairs n other)

return_found : (n version : ℕ) (bytes : Option (List ℕ)) → of_node n returned_in (flies n (Return version bytes)) ≡ Some (record { version = version; bytes = bytes })
return_found n version bytes = grind arith

-- what is listed of a node whose return comes
pub return_at : (me : ℕ) (g : Region) (n version : ℕ) (bytes : Option (List ℕ)) (rest : List Flying) → IsCoherent me g → n ≢ me → Took (flies n (Return version bytes)) g.flight rest
    → (l : Listing) × (at n g.home.listed ≡ Some l) × (l.version ≡ version) × ((bytes ≡ Some g.array) ⊎ (bytes ≡ None) × (l.exclusive ≡ false))
return_at me g n version bytes rest k other took =
    return_listed g.home.last g.array (pair_of g.home.listed g.home.queue g.remotes g.flight n) (record { version = version; bytes = bytes })
    (took_all (record { version = version; bytes = bytes }) (find_all (of_node n returned_in) g.flight) (find_all (of_node n returned_in) rest)
    (took_some (of_node n returned_in) took (record { version = version; bytes = bytes }) (return_found n version bytes))
    (returns_one g.home.last g.array (pair_of g.home.listed g.home.queue g.remotes g.flight n) (k.loose.pairs n other))).0 (k.loose.pairs n other)

bytes_fit_back : (bytes : Option (List ℕ)) (l : Listing) (array : List ℕ) (size : ℕ) → length array ≡ size → (bytes ≡ Some array) ⊎ (bytes ≡ None) × (l.exclusive ≡ false) → bytes_fit bytes (Some l) size ≡ true
bytes_fit_back None l array size e f = grind arith
bytes_fit_back (Some b) l array size e f = grind arith

pub fits_return : (me : ℕ) (g : Region) (n version : ℕ) (bytes : Option (List ℕ)) (rest : List Flying) → IsCoherent me g → n ≢ me → Took (flies n (Return version bytes)) g.flight rest → return_fits n version bytes g.home ≡ true
fits_return me g n version bytes rest k other took =
    let u = return_at me g n version bytes rest k other took in go (at n g.home.listed) u.0 u.1 u.2 (bytes_fit_back bytes u.0 g.array g.home.size k.loose.size u.3)
  where
    go : (o : Option Listing) (l : Listing) → o ≡ Some l → l.version ≡ version → bytes_fit bytes (Some l) g.home.size ≡ true → is_listed version o && bytes_fit bytes o g.home.size ≡ true
    go o l e v f = rw e (grind arith)

pub release_found : (n version : ℕ) (bytes : List ℕ) → of_node n released_in (flies n (Release version bytes)) ≡ Some (record { version = version; bytes = bytes })
release_found n version bytes = grind arith

release_sized : (me : ℕ) (g : Region) (n version : ℕ) (bytes : List ℕ) (rest : List Flying) → IsCoherent me g → n ≢ me → Took (flies n (Release version bytes)) g.flight rest → length bytes ≡ length g.array
release_sized me g n version bytes rest k other took =
    release_size g.home.last g.array (pair_of g.home.listed g.home.queue g.remotes g.flight n) (record { version = version; bytes = bytes }) (find_all (of_node n released_in) rest)
    (took_some (of_node n released_in) took (record { version = version; bytes = bytes }) (release_found n version bytes)) (k.loose.pairs n other)

pub fits_release : (me : ℕ) (g : Region) (n version : ℕ) (bytes : List ℕ) (rest : List Flying) → IsCoherent me g → n ≢ me → Took (flies n (Release version bytes)) g.flight rest → release_fits bytes g.home ≡ true
fits_release me g n version bytes rest k other took = let u = release_sized me g n version bytes rest k other took in let v = k.loose.size in grind arith

-- an ask that comes is its node's only one
ask_found : (n : ℕ) (write : Bool) (have : ℕ) → of_node n (asked_in n) (flies n (Ask write have)) ≡ Some (record { node = n; write = write; have = have })
ask_found n write have = grind arith

pub queued_none : (n : ℕ) (q : List Asked) → find_all (queued_of n) q ≡ [] → is_queued n q ≡ false
queued_none n [] e = refl
queued_none n (a ∷ q) e = go (a.node == n) refl e (λ f. queued_none n q f)
  where
    go : (b : Bool) → (a.node == n) ≡ b → ◌≡◌ {A = List Asked} (elim (if b then Some a else None) [ None ↦ find_all (queued_of n) q | Some y ↦ y ∷ find_all (queued_of n) q ]) [] → (find_all (queued_of n) q ≡ [] → is_queued n q ≡ false) → b || is_queued n q ≡ false
    go true e f r = cc
    go false e f r = r f

pub fits_ask : (me : ℕ) (g : Region) (n : ℕ) (write : Bool) (have : ℕ) (rest : List Flying) → IsCoherent me g → n ≢ me → Took (flies n (Ask write have)) g.flight rest → is_queued n g.home.queue ≡ false
fits_ask me g n write have rest k other took =
    queued_none n g.home.queue (took_right (record { node = n; write = write; have = have }) (find_all (queued_of n) g.home.queue) (find_all (of_node n (asked_in n)) g.flight) (find_all (of_node n (asked_in n)) rest)
    (took_some (of_node n (asked_in n)) took (record { node = n; write = write; have = have }) (ask_found n write have))
    (pending_one g.home.last g.array (pair_of g.home.listed g.home.queue g.remotes g.flight n) (k.loose.pairs n other))).0
