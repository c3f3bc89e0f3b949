-- What follows for one node from what holds of it and the home.
use Rattle.std.proofs.Common.{ℕ, ◌≤◌, List, [], ◌∷◌, Bool, true, false, ◌≡◌, ◌≢◌, ◌⊎◌, subst, refl, arith}
use Rattle.std.specs.declared.option.Option.{Option}
use Rattle.std.specs.declared.option.Option.TheVariants.{None, Some}
use Rattle.crl_model.specs.declared.directory.Section.{Section}
use Rattle.crl_model.specs.declared.directory.Section.TheVariants.{Closed, Reading, Writing}
use Rattle.crl_model.specs.declared.directory.Listing.{Listing}
use Rattle.crl_model.specs.declared.message.Granted.{Granted}
use Rattle.crl_model.specs.declared.message.Granted.TheVariants.{Shared, Exclusive, Upgrade}
use Rattle.crl_protocol.specs.Remote.{Copy, copy_after_grant, grant_fits}
use Rattle.crl_protocol.specs.Sections.{is_writing}
use Rattle.crl_coherence.specs.Pairs.{Given, Back, HomeAndNode, PairHolds, MarkFits, RecallFits}
use Rattle.crl_coherence.proofs.Lists.{NoTwo}

-- of each kind of message at most one is under way
pub grants_one : (last : ℕ) (array : List ℕ) (p : HomeAndNode) → PairHolds last array p → NoTwo p.grants
grants_one last array p h y z ws e = let k = h.ask in let o = h.places in grind arith

pub returns_one : (last : ℕ) (array : List ℕ) (p : HomeAndNode) → PairHolds last array p → NoTwo p.returns
returns_one last array p h y z ws e = let o = h.places in grind arith

pub pending_one : (last : ℕ) (array : List ℕ) (p : HomeAndNode) → PairHolds last array p → NoTwo p.pending
pending_one last array p h y z ws e = let k = h.ask in grind arith

-- the marks of what is listed
pub marks_of : (last : ℕ) (array : List ℕ) (p : HomeAndNode) (l : Listing) → p.listed ≡ Some l → PairHolds last array p → MarkFits last array l p.recalls p.yields p.returns p.releases p.remote
marks_of last array p l e h = subst (λ o. RecallFits last array o p.recalls p.yields p.returns p.releases p.remote) e h.recall

-- a listed version is between 1 and the last that was granted
pub listed_version : (last : ℕ) (array : List ℕ) (p : HomeAndNode) (l : Listing) → p.listed ≡ Some l → PairHolds last array p → (1 ≤ l.version) × (l.version ≤ last)
listed_version last array p l e h = let m = marks_of last array p l e h in (m.least, m.most)

-- a node with an open section has a listed copy
pub reader_listed : (last : ℕ) (array : List ℕ) (p : HomeAndNode) → p.remote.here ≢ Closed → PairHolds last array p → (l : Listing) × (p.listed ≡ Some l)
reader_listed last array p is_open h = go p.listed refl
  where
    go : (o : Option Listing) → p.listed ≡ o → (l : Listing) × (p.listed ≡ Some l)
    go None e = let s = h.section in let k = h.ask in let o = h.places in grind arith
    go (Some l) e = (l, e)

-- a node that writes has an exclusive one
pub writer_listed : (last : ℕ) (array : List ℕ) (p : HomeAndNode) → p.remote.here ≡ Writing → PairHolds last array p → (l : Listing) × (p.listed ≡ Some l) × (l.exclusive ≡ true)
writer_listed last array p w h = go p.listed refl
  where
    go : (o : Option Listing) → p.listed ≡ o → (l : Listing) × (p.listed ≡ Some l) × (l.exclusive ≡ true)
    go None e = let s = h.section in let k = h.ask in let o = h.places in grind arith
    go (Some l) e = (l, e, (let s = h.section in let k = h.ask in let o = h.places in grind arith))

-- a node that doesn't wait has its copy listed, and its bytes are the array's
pub copy_listed : (last : ℕ) (array : List ℕ) (p : HomeAndNode) (c : Copy) → p.remote.copy ≡ Some c → p.remote.asking ≡ None → PairHolds last array p
    → (l : Listing) × (p.listed ≡ Some l) × (c.exclusive ≡ true → l.exclusive ≡ true) × (c.bytes ≡ array)
copy_listed last array p c e idle h = go p.listed refl
  where
    go : (o : Option Listing) → p.listed ≡ o → (l : Listing) × (p.listed ≡ Some l) × (c.exclusive ≡ true → l.exclusive ≡ true) × (c.bytes ≡ array)
    go None f = let k = h.ask in let o = h.places in grind arith
    go (Some l) f = (l, f, (λ x. let k = h.ask in let o = h.places in grind arith), (let k = h.ask in let o = h.places in grind arith))

-- what is listed where a grant is under way
pub grant_listed : (last : ℕ) (array : List ℕ) (p : HomeAndNode) (g : Given) → p.grants ≡ g ∷ [] → PairHolds last array p
    → (l : Listing) × (w : Bool) × (p.listed ≡ Some l) × (p.remote.asking ≡ Some w) × (p.remote.here ≡ Closed) × (w ≡ true → l.exclusive ≡ true)
grant_listed last array p g e h = go p.listed p.remote.asking refl refl
  where
    go : (o : Option Listing) (a : Option Bool) → p.listed ≡ o → p.remote.asking ≡ a
        → (l : Listing) × (w : Bool) × (p.listed ≡ Some l) × (p.remote.asking ≡ Some w) × (p.remote.here ≡ Closed) × (w ≡ true → l.exclusive ≡ true)
    go None a f k = let o = h.places in grind arith
    go (Some l) None f k = let o = h.ask in grind arith
    go (Some l) (Some w) f k = (l, w, f, k, (let s = h.section in grind arith), (λ x. let a = h.ask in let o = h.places in grind arith))

-- the copy that a grant leaves has the array's bytes
pub grant_shows : (last : ℕ) (array : List ℕ) (p : HomeAndNode) (g : Given) → p.grants ≡ g ∷ [] → PairHolds last array p → (c : Copy) × (copy_after_grant g.version g.what p.remote.copy ≡ Some c) × (c.bytes ≡ array)
grant_shows last array p g e h = go p.listed p.remote.copy g.what refl refl refl
  where
    go : (o : Option Listing) (d : Option Copy) (w : Granted) → p.listed ≡ o → p.remote.copy ≡ d → g.what ≡ w → (c : Copy) × (copy_after_grant g.version w d ≡ Some c) × (c.bytes ≡ array)
    go None d w f k x = let o = h.places in grind arith
    go (Some l) d (Shared bytes) f k x = (record { exclusive = false; version = g.version; bytes = bytes }, refl, (let o = h.places in grind arith))
    go (Some l) d (Exclusive bytes) f k x = (record { exclusive = true; version = g.version; bytes = bytes }, refl, (let o = h.places in grind arith))
    go (Some l) None Upgrade f k x = let o = h.places in grind arith
    go (Some l) (Some c) Upgrade f k x = (record { exclusive = true; version = g.version; bytes = c.bytes }, refl, (let o = h.places in grind arith))

-- a grant is what was asked for
pub grant_is_fit : (last : ℕ) (array : List ℕ) (p : HomeAndNode) (g : Given) → p.grants ≡ g ∷ [] → PairHolds last array p → grant_fits g.what p.remote ≡ true
grant_is_fit last array p g e h = go p.listed p.remote.copy g.what refl refl refl
  where
    go : (o : Option Listing) (d : Option Copy) (w : Granted) → p.listed ≡ o → p.remote.copy ≡ d → g.what ≡ w → grant_fits w p.remote ≡ true
    go None d w f k x = let o = h.places in grind arith
    go (Some l) d (Shared bytes) f k x = let o = h.places in let a = h.ask in let s = h.asks_size in grind arith
    go (Some l) d (Exclusive bytes) f k x = let o = h.places in let a = h.ask in let s = h.asks_size in grind arith
    go (Some l) None Upgrade f k x = let o = h.places in grind arith
    go (Some l) (Some c) Upgrade f k x = let o = h.places in let a = h.ask in grind arith

-- what is listed where a return is under way
pub return_listed : (last : ℕ) (array : List ℕ) (p : HomeAndNode) (b : Back) → p.returns ≡ b ∷ [] → PairHolds last array p
    → (l : Listing) × (p.listed ≡ Some l) × (l.version ≡ b.version) × ((b.bytes ≡ Some array) ⊎ (b.bytes ≡ None) × (l.exclusive ≡ false))
return_listed last array p b e h = go p.listed refl
  where
    go : (o : Option Listing) → p.listed ≡ o → (l : Listing) × (p.listed ≡ Some l) × (l.version ≡ b.version) × ((b.bytes ≡ Some array) ⊎ (b.bytes ≡ None) × (l.exclusive ≡ false))
    go None f = let o = h.places in grind arith
    go (Some l) f = (l, f, (let o = h.places in grind arith), (let o = h.places in grind arith))

pub section_closed : (s : Section) → (s ≢ Closed → ⊥) → s ≡ Closed
section_closed Closed h = refl
section_closed (Reading k) h = absurd (h (λ e. cc))
section_closed Writing h = absurd (h (λ e. cc))

pub not_writing : (s : Section) → (s ≡ Writing → ⊥) → is_writing s ≡ false
not_writing Closed h = refl
not_writing (Reading k) h = refl
not_writing Writing h = absurd (h refl)
