-- While a section is open the array stays, and what the home opens while it serves shows it.
use Rattle.std.proofs.Common.{ℕ, List, [], Bool, true, false, ◌≡◌, ◌≢◌, ◌⊎◌, if◌then◌else◌, refl, inl, inr, sym, ap, subst, ◌∙◌}
use Rattle.std.specs.declared.option.Option.{Option}
use Rattle.std.specs.declared.option.Option.TheVariants.{None, Some}
use Rattle.crl_model.specs.declared.directory.Section.TheVariants.{Closed, Writing}
use Rattle.crl_model.specs.declared.directory.Listing.{Listing}
use Rattle.crl_model.specs.Names.{at_node}
use Rattle.crl_protocol.specs.Places.{at, put, Took}
use Rattle.crl_protocol.specs.Mail.{Return, Release}
use Rattle.crl_protocol.specs.Home.{Home, bytes_after, is_to_lower, shared_listing, serve, home_takes_return, home_takes_release, home_ends_write}
use Rattle.crl_protocol.specs.Remote.{Copy, Remote, with_written, leaves_over, lowers_over, sends_nothing, remote_ends_write}
use Rattle.crl_coherence.specs.Region.{Flying, Region, flies, IsIdle, at_home, at_remote, Happens, ask_comes, return_comes, release_comes, home_start, home_end_read, home_end_write, grant_comes, recall_comes, yield_comes, start, end_read, end_write, flush, forget, appears, carry, elsewhere}
use Rattle.crl_coherence.specs.Coherent.{IsCoherent, MineFits, node_section}
use Rattle.crl_coherence.proofs.Lists.{same_or}
use Rattle.crl_coherence.proofs.Mails.{set_here}
use Rattle.crl_coherence.proofs.Opens.{open_here, open_there, reader_at, writer_at, reader_is, own_shut}
use Rattle.crl_coherence.proofs.Rounds.{ServeOpens, serve_mine, serve_opens}
use Rattle.crl_coherence.proofs.HomeEvents.{return_loose, lowered_loose}
use Rattle.crl_coherence.proofs.OwnEvents.{idle_none}

-- what a return or a release opens at the home
pub return_opens : (me : ℕ) (g : Region) (n version : ℕ) (bytes : Option (List ℕ)) (rest : List Flying) → IsCoherent me g → n ≢ me → Took (flies n (Return version bytes)) g.flight rest
    → (home_takes_return me n bytes g.home).opened ≡ true → ServeOpens me g.array g.home.mine g.remotes (home_takes_return me n bytes g.home)
unfolding home_takes_return
return_opens me g n version bytes rest k other took o =
    serve_opens me g.array (record g.home { bytes = bytes_after bytes g.home.bytes; listed = put n None g.home.listed }) g.home.queue g.remotes rest (return_loose me g n version bytes rest other took k) o

pub release_opens : (me : ℕ) (g : Region) (n version : ℕ) (bytes : List ℕ) (rest : List Flying) → IsCoherent me g → n ≢ me → Took (flies n (Release version bytes)) g.flight rest
    → (home_takes_release me n version bytes g.home).opened ≡ true → ServeOpens me g.array g.home.mine g.remotes (home_takes_release me n version bytes g.home)
unfolding home_takes_release
release_opens me g n version bytes rest k other took o = go (is_to_lower version (at n g.home.listed)) refl o
  where
    go : (b : Bool) → is_to_lower version (at n g.home.listed) ≡ b
        → (if b then serve me (record g.home { bytes = bytes; listed = put n (Some (shared_listing version)) g.home.listed }) g.home.queue else record { home = g.home; posts = []; opened = false }).opened ≡ true
        → ServeOpens me g.array g.home.mine g.remotes (if b then serve me (record g.home { bytes = bytes; listed = put n (Some (shared_listing version)) g.home.listed }) g.home.queue else record { home = g.home; posts = []; opened = false })
    go false e f = cc
    go true e f =
        serve_opens me g.array (record g.home { bytes = bytes; listed = put n (Some (shared_listing version)) g.home.listed }) g.home.queue g.remotes rest (lowered_loose me g n version bytes rest other took k e) f

-- a write section that ends is open no more
leaves_shut : (c : Option Copy) (r : Remote) → (leaves_over c r).remote.here ≡ r.here
leaves_shut None r = refl
leaves_shut (Some c) r = refl

lowers_shut : (c : Option Copy) (r : Remote) → (lowers_over c r).remote.here ≡ r.here
lowers_shut None r = refl
lowers_shut (Some c) r = refl

write_shut : (bytes : List ℕ) (r : Remote) → (remote_ends_write bytes r).remote.here ≡ Closed
unfolding remote_ends_write
write_shut bytes r = go r.leaving r.lowering
  where
    go : (b c : Bool) → (if b then leaves_over (with_written bytes r.copy) (record r { here = Closed; copy = with_written bytes r.copy })
        else if c then lowers_over (with_written bytes r.copy) (record r { here = Closed; copy = with_written bytes r.copy })
        else sends_nothing (record r { here = Closed; copy = with_written bytes r.copy })).remote.here ≡ Closed
    go true c = leaves_shut (with_written bytes r.copy) (record r { here = Closed; copy = with_written bytes r.copy })
    go false true = lowers_shut (with_written bytes r.copy) (record r { here = Closed; copy = with_written bytes r.copy })
    go false false = refl

own_write_shut : (me : ℕ) (bytes : List ℕ) (h : Home) → IsIdle me h.queue → (home_ends_write me bytes h).home.mine ≡ Closed
unfolding home_ends_write
own_write_shut me bytes h idle = serve_mine me (record h { bytes = bytes; mine = Closed }) h.queue (idle_none me h.queue idle)

-- the array after the event is that before it, or the section that is open at node n ended and wrote it
abbrev pub IsLeft : ℕ → Region → Region → ℕ → Type 0
IsLeft me g h n = (h.array ≡ g.array) ⊎ ((node_section me g n ≡ Writing) × (node_section me h n ≡ Closed))

own_end : (me : ℕ) (g : Region) (n : ℕ) (bytes : List ℕ) → IsCoherent me g → g.home.mine ≡ Writing → IsIdle me g.home.queue → node_section me g n ≢ Closed
    → IsLeft me g (record (at_home (home_ends_write me bytes g.home) g.flight g) { array = bytes }) n
own_end me g n bytes k writing idle is_open = elim (same_or n me) [
  | inl e ↦ inr (open_here me n g.home.mine g.remotes e ∙ writing, open_here me n (home_ends_write me bytes g.home).home.mine g.remotes e ∙ own_write_shut me bytes g.home idle)
  | inr ne ↦ absurd (none (reader_at me g.array g.home g.home.queue g.remotes g.flight k.loose n ne (λ c. is_open (open_there me n g.home.mine g.remotes ne ∙ c))))
]
  where
    none : (l : Listing) × (at n g.home.listed ≡ Some l) → ⊥
    none u = let m : MineFits Writing u.0.exclusive = subst (λ s. MineFits s u.0.exclusive) writing (k.loose.mine n u.0 u.1) in elim m [ ]

other_end : (me : ℕ) (g : Region) (n m : ℕ) (bytes : List ℕ) → IsCoherent me g → m ≢ me → (g.remotes m).here ≡ Writing → node_section me g n ≢ Closed
    → IsLeft me g (record (at_remote m (remote_ends_write bytes (g.remotes m)) g.flight g) { array = bytes }) n
other_end me g n m bytes k other writing is_open = elim (same_or n m) [
  | inl e ↦ subst (λ x. IsLeft me g (record (at_remote m (remote_ends_write bytes (g.remotes m)) g.flight g) { array = bytes }) x) (sym e) (inr (
    open_there me m g.home.mine g.remotes other ∙ writing,
    open_there me m g.home.mine (at_node g.remotes m (remote_ends_write bytes (g.remotes m)).remote) other ∙ (ap (λ r. r.here) (set_here g.remotes m (remote_ends_write bytes (g.remotes m)).remote) ∙ write_shut bytes (g.remotes m)),
  ))
  | inr ne ↦ absurd (elim (same_or n me) [
    | inl e ↦ is_open (open_here me n g.home.mine g.remotes e ∙ own_shut me g.array g.home g.home.queue g.remotes g.flight k.loose m writer.0 writer.1 writer.2)
    | inr x ↦ ne (sym (reader_is me g.array g.home g.home.queue g.remotes g.flight k.loose m n writer.0 writer.1 writer.2 x (λ c. is_open (open_there me n g.home.mine g.remotes x ∙ c))))
  ])
]
  where
    writer : (l : Listing) × (at m g.home.listed ≡ Some l) × (l.exclusive ≡ true)
    writer = writer_at me g.array g.home g.home.queue g.remotes g.flight k.loose m other writing

pub array_left : (me : ℕ) (g h : Region) (n : ℕ) → IsCoherent me g → Happens me g h → node_section me g n ≢ Closed → IsLeft me g h n
array_left me g h n k (ask_comes m write have rest other took) is_open = inl refl
array_left me g h n k (return_comes m version bytes rest other took) is_open = inl refl
array_left me g h n k (release_comes m version bytes rest other took) is_open = inl refl
array_left me g h n k (home_start write may idle) is_open = inl refl
array_left me g h n k (home_end_read count reading idle) is_open = inl refl
array_left me g h n k (home_end_write bytes writing idle sized) is_open = own_end me g n bytes k writing idle is_open
array_left me g h n k (grant_comes m version granted rest other took) is_open = inl refl
array_left me g h n k (recall_comes m version rest other took) is_open = inl refl
array_left me g h n k (yield_comes m version rest other took) is_open = inl refl
array_left me g h n k (start m write other may idle size) is_open = inl refl
array_left me g h n k (end_read m count other reading) is_open = inl refl
array_left me g h n k (end_write m bytes other writing sized) is_open = other_end me g n m bytes k other writing is_open
array_left me g h n k (flush m other closed idle) is_open = inl refl
array_left me g h n k (forget m size other closed idle) is_open = inl refl
array_left me g h n k (appears m size other blank) is_open = inl refl
array_left me g h n k (carry f rest after took put) is_open = inl refl
array_left me g h n k elsewhere is_open = inl refl
