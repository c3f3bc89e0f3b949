-- Where no message is under way and a node waits, another node has a section open.
use Rattle.std.proofs.Common.{ℕ, List, [], ◌∷◌, ◌++◌, Bool, true, false, ◌||◌, ◌≡◌, ◌≢◌, ◌==◌, ◌⊎◌, if◌then◌else◌, refl, arith, inl, inr, sym, ap, subst, ◌∙◌}
use Rattle.std.specs.declared.option.Option.{Option}
use Rattle.std.specs.declared.option.Option.TheVariants.{None, Some}
use Rattle.crl_model.specs.declared.directory.Section.{Section}
use Rattle.crl_model.specs.declared.directory.Section.TheVariants.{Closed}
use Rattle.crl_model.specs.declared.directory.Mark.{Mark}
use Rattle.crl_model.specs.declared.directory.Mark.TheVariants.{Plain, Recalled, Yielding}
use Rattle.crl_model.specs.declared.directory.Listing.{Listing}
use Rattle.crl_model.specs.declared.directory.Asked.{Asked}
use Rattle.crl_protocol.specs.Places.{at, find_all}
use Rattle.crl_protocol.specs.Home.{blocks, is_clear, lets_open}
use Rattle.crl_protocol.specs.Remote.{Copy, is_recall_due, is_yield_due}
use Rattle.crl_protocol.specs.Handlers.{is_queued}
use Rattle.crl_coherence.specs.Region.{Region}
use Rattle.crl_coherence.specs.Pairs.{HomeAndNode, PairHolds, RecallFits, MarkFits, LeavingFits, pair_of, of_node, asked_in, granted_in, recalled_in, yields_in, returned_in, released_in, queued_of}
use Rattle.crl_coherence.specs.Coherent.{IsCoherent, HeadWaits, OwnAsk, node_section}
use Rattle.crl_coherence.proofs.Lists.{same_or, picked_some}
use Rattle.crl_coherence.proofs.Calls.{blocker}

-- no message of a node is under way
pub record IsStill (p : HomeAndNode) : Type 0 where
  pub grants : p.grants ≡ []
  pub recalls : p.recalls ≡ []
  pub yields : p.yields ≡ []
  pub returns : p.returns ≡ []
  pub releases : p.releases ≡ []

-- then its copy is the one that is listed
still_copy : (last : ℕ) (array : List ℕ) (p : HomeAndNode) (l : Listing) → p.listed ≡ Some l → IsStill p → PairHolds last array p
    → (c : Copy) × (p.remote.copy ≡ Some c) × (c.version ≡ l.version) × (c.exclusive ≡ l.exclusive)
still_copy last array p l e s h = go p.remote.copy refl
  where
    go : (o : Option Copy) → p.remote.copy ≡ o → (c : Copy) × (p.remote.copy ≡ Some c) × (c.version ≡ l.version) × (c.exclusive ≡ l.exclusive)
    go None f = let x = h.places in let a = s.grants in let b = s.returns in grind arith
    go (Some c) f = (c, f, (let x = h.places in let a = s.grants in let b = s.returns in grind arith), (let x = h.kind in let a = s.grants in let b = s.releases in grind arith))

-- it doesn't stand in the way of the node's own ask
still_clear : (last m : ℕ) (array : List ℕ) (p : HomeAndNode) (l : Listing) (a : Asked) (rest : List Asked) → p.listed ≡ Some l → p.pending ≡ a ∷ rest → a.node ≡ m → IsStill p → PairHolds last array p → blocks m l a ≡ false
still_clear last m array p l a rest e f at_m s h = let u = still_copy last array p l e s h in let c = u.1 in let v = u.2 in let x = u.3 in let y = h.have in grind arith

-- and where it was called, a section is open over it
marked_open : (last : ℕ) (array : List ℕ) (p : HomeAndNode) (l : Listing) → p.listed ≡ Some l → l.mark ≢ Plain → IsStill p → PairHolds last array p → p.remote.here ≢ Closed
marked_open last array p l e marked s h = go l.mark refl
  where
    m : MarkFits last array l p.recalls p.yields p.returns p.releases p.remote
    m = subst (λ o. RecallFits last array o p.recalls p.yields p.returns p.releases p.remote) e h.recall

    u : (c : Copy) × (p.remote.copy ≡ Some c) × (c.version ≡ l.version) × (c.exclusive ≡ l.exclusive)
    u = still_copy last array p l e s h

    leaves : LeavingFits (Some l) p.remote
    leaves = subst (λ o. LeavingFits o p.remote) e h.leaving

    not_due : (is_recall_due l.version p.remote.due ≡ false) × (is_yield_due l.version p.remote.due ≡ false)
    not_due = let x = h.due in let y = u.1 in let z = u.2 in grind arith

    go : (k : Mark) → l.mark ≡ k → p.remote.here ≢ Closed
    go Plain f = absurd (marked f)
    go Recalled f = let w = m.recalled f in let a = s.recalls in let b = s.returns in let d = not_due in let x : p.remote.leaving ≡ true = grind arith in (leaves.0 x).1
    go Yielding f = λ c. let w = (m.yielding f).1 in let a = s.yields in let b = s.returns in let r = s.releases in let d = not_due in let x : p.remote.lowering ≡ true = grind arith in let y = (leaves.1 x).1 in cc

-- a node with a section open doesn't wait
open_idle : (last : ℕ) (array : List ℕ) (p : HomeAndNode) → p.remote.here ≢ Closed → PairHolds last array p → p.remote.asking ≡ None
open_idle last array p is_open h = let s = h.section in grind arith

still : (me : ℕ) (g : Region) (n : ℕ) → g.flight ≡ [] → IsStill (pair_of g.home.listed g.home.queue g.remotes g.flight n)
still me g n e = record {
  grants = ap (λ l. find_all (of_node n granted_in) l) e;
  recalls = ap (λ l. find_all (of_node n recalled_in) l) e;
  yields = ap (λ l. find_all (of_node n yields_in) l) e;
  returns = ap (λ l. find_all (of_node n returned_in) l) e;
  releases = ap (λ l. find_all (of_node n released_in) l) e;
}

-- the home, or another node, has a section open
abbrev pub IsBlocked : ℕ → Region → Type 0
IsBlocked me g = (g.home.mine ≢ Closed) ⊎ ((m : ℕ) × (m ≢ me) × ((g.remotes m).here ≢ Closed))

lets_closed : (s : Section) (w : Bool) → lets_open s w ≡ false → s ≢ Closed
lets_closed s w e f = grind arith

blocked : (me : ℕ) (g : Region) (a : Asked) (q : List Asked) → IsCoherent me g → g.flight ≡ [] → g.home.queue ≡ a ∷ q → IsBlocked me g
blocked me g a q k e f = go (lets_open g.home.mine a.write) refl (is_clear 0 g.home.listed a) refl
  where
    head : HeadWaits g.home (a ∷ q)
    head = subst (λ l. HeadWaits g.home l) f k.head

    p : ℕ → HomeAndNode
    p n = pair_of g.home.listed g.home.queue g.remotes g.flight n

    pending : (m : ℕ) → a.node ≡ m → (p m).pending ≡ a ∷ (find_all (queued_of m) q ++ find_all (of_node m (asked_in m)) g.flight)
    pending m x = ap (λ l. find_all (queued_of m) l ++ find_all (of_node m (asked_in m)) g.flight) f ∙ ap (λ l. l ++ find_all (of_node m (asked_in m)) g.flight) (picked_some (queued_of m a) a (find_all (queued_of m) q) (grind arith))

    other : (m : ℕ) (l : Listing) → at m g.home.listed ≡ Some l → m ≢ me
    other m l x y = let o = k.loose.own in let z : at me g.home.listed ≡ Some l = subst (λ i. at i g.home.listed ≡ Some l) y x in cc

    at_own : (m : ℕ) (l : Listing) → at m g.home.listed ≡ Some l → blocks m l a ≡ true → a.node ≡ m → ⊥
    at_own m l x b y = let c = still_clear g.home.last m g.array (p m) l a (find_all (queued_of m) q ++ find_all (of_node m (asked_in m)) g.flight) x (pending m y) y (still me g m e) (k.loose.pairs m (other m l x)) in cc

    at_other : (m : ℕ) (l : Listing) → at m g.home.listed ≡ Some l → blocks m l a ≡ true → IsBlocked me g
    at_other m l x b = elim (same_or a.node m) [
      | inl y ↦ absurd (at_own m l x b y)
      | inr y ↦ inr (m, other m l x, marked_open g.home.last g.array (p m) l x (head.1 m l x b (λ z. y (sym z))) (still me g m e) (k.loose.pairs m (other m l x)))
    ]

    go : (b : Bool) → lets_open g.home.mine a.write ≡ b → (c : Bool) → is_clear 0 g.home.listed a ≡ c → IsBlocked me g
    go false x c y = inl (lets_closed g.home.mine a.write x)
    go true x false y = let u = blocker g.home.listed a y in at_other u.0 u.1 u.2 u.3
    go true x true y = let z = head.0 in absurd (grind arith)

-- a node that waits has its ask in the queue
queued : (last : ℕ) (array : List ℕ) (p : HomeAndNode) → p.remote.asking ≢ None → p.grants ≡ [] → PairHolds last array p → p.pending ≢ []
queued last array p waits none h e = let a = h.ask in grind arith

abbrev pub IsHeld : ℕ → Region → ℕ → Type 0
IsHeld me g n = (m : ℕ) × (m ≢ n) × (node_section me g m ≢ Closed)

section_own : (me : ℕ) (g : Region) → node_section me g me ≡ g.home.mine
section_own me g = grind arith

section_other : (me : ℕ) (g : Region) (m : ℕ) → m ≢ me → node_section me g m ≡ (g.remotes m).here
section_other me g m h = grind arith

pub waits_other : (me : ℕ) (g : Region) (n : ℕ) → IsCoherent me g → g.flight ≡ [] → n ≢ me → (g.remotes n).asking ≢ None → IsHeld me g n
waits_other me g n k e other waits = go g.home.queue refl
  where
    p : HomeAndNode
    p = pair_of g.home.listed g.home.queue g.remotes g.flight n

    held : IsBlocked me g → IsHeld me g n
    held (inl mine) = (me, (λ x. other (sym x)), λ c. mine (sym (section_own me g) ∙ c))
    held (inr (m, m_other, is_open)) = (m, (λ x. waits (subst (λ i. (g.remotes i).asking ≡ None) x (open_idle g.home.last g.array (pair_of g.home.listed g.home.queue g.remotes g.flight m) is_open (k.loose.pairs m m_other)))), λ c. is_open (sym (section_other me g m m_other) ∙ c))

    go : (q : List Asked) → g.home.queue ≡ q → IsHeld me g n
    go [] f = absurd (queued g.home.last g.array (pair_of g.home.listed g.home.queue g.remotes g.flight n) waits (ap (λ l. find_all (of_node n granted_in) l) e) (k.loose.pairs n other)
        (ap (λ l. find_all (queued_of n) l ++ find_all (of_node n (asked_in n)) g.flight) f ∙ ap (λ l. find_all (of_node n (asked_in n)) l) e))
    go (a ∷ q) f = held (blocked me g a q k e f)

-- the home's own ask waits only where none of its sections is open
own_waits : (me : ℕ) (s : Section) (q : List Asked) → is_queued me q ≡ true → OwnAsk s (find_all (queued_of me) q) → s ≡ Closed
own_waits me s [] e o = cc
own_waits me s (a ∷ q) e o = go (a.node == me) e o (λ f r. own_waits me s q f r)
  where
    last_one : (xs : List Asked) → OwnAsk s (a ∷ xs) → s ≡ Closed
    last_one [] r = r
    last_one (x ∷ xs) r = elim r [ ]

    go : (b : Bool) → b || is_queued me q ≡ true → OwnAsk s (elim (if b then Some a else None) [ None ↦ find_all (queued_of me) q | Some y ↦ y ∷ find_all (queued_of me) q ]) → (is_queued me q ≡ true → OwnAsk s (find_all (queued_of me) q) → s ≡ Closed) → s ≡ Closed
    go true f r w = last_one (find_all (queued_of me) q) r
    go false f r w = w f r

pub waits_home : (me : ℕ) (g : Region) → IsCoherent me g → g.flight ≡ [] → is_queued me g.home.queue ≡ true → IsHeld me g me
waits_home me g k e waits = go g.home.queue refl
  where
    held : IsBlocked me g → IsHeld me g me
    held (inl mine) = absurd (mine (own_waits me g.home.mine g.home.queue waits k.loose.own_ask))
    held (inr (m, m_other, is_open)) = (m, m_other, λ c. is_open (sym (section_other me g m m_other) ∙ c))

    go : (q : List Asked) → g.home.queue ≡ q → IsHeld me g me
    go [] f = let w : is_queued me [] ≡ true = subst (λ l. is_queued me l ≡ true) f waits in cc
    go (a ∷ q) f = held (blocked me g a q k e f)
