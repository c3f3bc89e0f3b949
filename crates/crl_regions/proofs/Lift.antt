-- What an outcome of one node does to a region is a run of the region's events.
use Rattle.std.proofs.Common.{◌≡◌, inl, inr, ℕ, ◌==◌, None, Some, Option, List, ◌++◌, refl, ap, sym, ◌∙◌, subst}
use Rattle.std.proofs.lemmas.Bool.{cond-true, cond-false, eqb-true, eq-eqb, ne_eqb}
use Rattle.crl_model.specs.declared.name.Name.{Name}
use Rattle.crl_model.specs.declared.message.Message.{Message}
use Rattle.crl_model.specs.Names.{at_node}
use Rattle.crl_protocol.specs.Places.{find_all}
use Rattle.crl_protocol.specs.Home.{Home, bytes_after}
use Rattle.crl_protocol.specs.Remote.{Remote}
use Rattle.crl_protocol.specs.Node.{Node, home_of}
use Rattle.crl_coherence.specs.Region.{Flying, Region, Happens, elsewhere, Run, next}
use Rattle.crl_coherence.proofs.Laws.{same_or}
use Rattle.crl_regions.specs.View.{flying, side, sight}
use Rattle.crl_regions.specs.Steps.{GoesOn}
use Rattle.crl_flight.specs.Flight.{Moves}
use Rattle.crl_regions.proofs.Moves.{run_moves}
use Rattle.crl_regions.proofs.Acts.{Comes, Acts, nothing, home_acts, side_acts, absent, made, home_is}
use Rattle.crl_deeds.specs.NodeFacts.{SizeIs}
use Rattle.crl_deeds.proofs.Laws.{append_nil}

-- An event, after which messages may stand at other places, is a run.
pub run_of : (me : ℕ) (g k : Region) → GoesOn me g k → Run me g k
run_of me g k (c, happens, x) =
    let same : record c { flight = k.flight } ≡ k = λ i. record { home = x.home i; remotes = λ n. x.remotes n i; flight = k.flight; array = x.array i } in
    next happens (subst (λ y. Run me c y) same (run_moves me c k.flight x.flight))

pub finish : (me : ℕ) (g c k : Region) → Happens me g c → c.home ≡ k.home → ((n : ℕ) → c.remotes n ≡ k.remotes n) → c.array ≡ k.array → Moves c.flight k.flight → GoesOn me g k
finish me g c k happens home remotes array moves = (c, happens, record { home = home; remotes = remotes; flight = moves; array = array })

-- what the region is after the outcome, and how it came to be so
pub record Lifted (q : Name) (i : ℕ) (came : Option Flying) (before after : ℕ → Node) (boxes_before boxes_after : List Message) (h : Home) (array left : List ℕ) : Type 0 where
  pub home : Home
  pub there : home_of (after q.home) q ≡ Some home
  pub size : home.size ≡ h.size
  pub goes_on : GoesOn q.home (sight q h before boxes_before array) (sight q home after boxes_after left)

-- Node i goes from n to m, and sends these messages; the others stay.
pub record Outcomes (q : Name) (i : ℕ) (before after : ℕ → Node) (n m : Node) : Type 0 where
  pub me : n.me ≡ i
  pub home_before : home_of (before i) q ≡ home_of n q
  pub home_after : home_of (after i) q ≡ home_of m q
  pub remote_before : (before i).remotes q ≡ n.remotes q
  pub remote_after : (after i).remotes q ≡ m.remotes q
  pub home_other : (j : ℕ) → (j ≡ i → ⊥) → home_of (after j) q ≡ home_of (before j) q
  pub remote_other : (j : ℕ) → (j ≡ i → ⊥) → (after j).remotes q ≡ (before j).remotes q

-- what stays at the node stays in the world
home_stays : (q : Name) (i : ℕ) (before after : ℕ → Node) (n m : Node) → Outcomes q i before after n m → home_of m q ≡ home_of n q → home_of (after q.home) q ≡ home_of (before q.home) q
home_stays q i before after n m o e = elim (same_or q.home i) [
  | inl at_i ↦ subst (λ j. home_of (after j) q ≡ home_of (before j) q) (sym at_i) (o.home_after ∙ e ∙ sym o.home_before)
  | inr other ↦ o.home_other q.home other
]

remotes_stay : (q : Name) (i : ℕ) (before after : ℕ → Node) (n m : Node) → Outcomes q i before after n m → m.remotes q ≡ n.remotes q → (j : ℕ) → (after j).remotes q ≡ (before j).remotes q
remotes_stay q i before after n m o e j = elim (same_or j i) [
  | inl at_i ↦ subst (λ k. (after k).remotes q ≡ (before k).remotes q) (sym at_i) (o.remote_after ∙ e ∙ sym o.remote_before)
  | inr other ↦ o.remote_other j other
]

remotes_but : (q : Name) (i size : ℕ) (before after : ℕ → Node) (n m : Node) (r : Remote) → Outcomes q i before after n m → side size (m.remotes q) ≡ r
    → (j : ℕ) → at_node (λ k. side size ((before k).remotes q)) i r j ≡ side size ((after j).remotes q)
remotes_but q i size before after n m r o e j = elim (same_or i j) [
  | inl at_i ↦ cond-true (i == j) r _ (eq-eqb i j at_i) ∙ sym e ∙ sym (ap (λ x. side size x) (subst (λ k. (after k).remotes q ≡ m.remotes q) at_i o.remote_after))
  | inr other ↦ cond-false (i == j) r _ (ne_eqb i j other) ∙ sym (ap (λ x. side size x) (o.remote_other j (λ w. other (sym w))))
]

pub lift : (K : Name → ℕ → Type 0) (q : Name) (i : ℕ) (before after : ℕ → Node) (n m : Node) (boxes_before boxes_after posts : List Message) (rest : List Flying) (came : Option Flying) (written : Option (List ℕ)) (h : Home) (array : List ℕ)
    → Outcomes q i before after n m → home_of (before q.home) q ≡ Some h → SizeIs (n.remotes q) h.size
    → Comes came (find_all (flying q) boxes_before) rest → Moves (rest ++ find_all (flying q) posts) (find_all (flying q) boxes_after)
    → Acts K q i came written n m posts → Lifted q i came before after boxes_before boxes_after h array (bytes_after written array)
lift K q i before after n m bb ba posts rest came written h array o there sized comes moves (nothing none unwritten e f p o1) = record {
  home = h;
  there = home_stays q i before after n m o e ∙ there;
  size = refl;
  goes_on = let g = sight q h before bb array in let k = sight q h after ba (bytes_after written array) in
      let stays : rest ≡ g.flight = subst (λ c. Comes c g.flight rest) none comes in
      finish q.home g g k elsewhere refl (λ j. sym (ap (λ x. side h.size x) (remotes_stay q i before after n m o f j))) (sym (ap (λ w. bytes_after w array) unwritten))
      (subst (λ l. Moves l k.flight) (ap (λ l. rest ++ l) p ∙ append_nil rest ∙ stays) moves);
}
lift K q i before after n m bb ba posts rest came written h array o there sized comes moves (home_acts h0 s e f size same p o1 happens) = record {
  home = s.home;
  there = subst (λ j. home_of (after j) q ≡ Some s.home) (sym at_home) (o.home_after ∙ f);
  size = size ∙ ap (λ (x : Home). x.size) (sym table);
  goes_on = let g = sight q h before bb array in let k = sight q s.home after ba (bytes_after written array) in
      finish q.home g _ k (happens g rest table comes) refl
      (λ j. ap (λ z. side z ((before j).remotes q)) (ap (λ (x : Home). x.size) table ∙ sym size) ∙ sym (ap (λ x. side s.home.size x) (remotes_stay q i before after n m o same j))) refl
      (subst (λ l. Moves (rest ++ l) k.flight) p moves);
}
  where
    at_home : q.home ≡ i
    at_home = sym (eqb-true n.me q.home (home_is n q h0 e)) ∙ o.me

    table : h ≡ h0
    table = let both : Some h ≡ Some h0 = sym there ∙ subst (λ j. home_of (before j) q ≡ home_of n q) (sym at_home) o.home_before ∙ e in cc
lift K q i before after n m bb ba posts rest came written h array o there sized comes moves (side_acts r mails z e f p o1 known happens) = record {
  home = h;
  there = home_stays q i before after n m o e ∙ there;
  size = refl;
  goes_on = let g = sight q h before bb array in let k = sight q h after ba (bytes_after written array) in
      finish q.home g _ k (happens g rest (ap (λ x. side h.size x) o.remote_before) sized comes) refl
      (λ j. remotes_but q i h.size before after n m (r h.size) o (f h.size) j) refl
      (subst (λ l. Moves (rest ++ l) k.flight) p moves);
}
lift K q i before after n m bb ba posts rest came written h array o there sized comes moves (absent unwritten at_i e f same p o1) =
    absurd (let none : home_of (before q.home) q ≡ None = subst (λ j. home_of (before j) q ≡ home_of n q) (sym (eqb-true q.home i at_i)) o.home_before ∙ e in cc)
lift K q i before after n m bb ba posts rest came written h array o there sized comes moves (made size none unwritten at_i e f same p o1) =
    absurd (let none : home_of (before q.home) q ≡ None = subst (λ j. home_of (before j) q ≡ home_of n q) (sym (eqb-true q.home i at_i)) o.home_before ∙ e in cc)
