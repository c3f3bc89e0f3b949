-- A round ends with its last part, and a node is told its result.
use Rattle.std.proofs.Common.{◌≡◌, ℕ, zero, suc, ◌+◌, ◌-◌, ◌≤◌, ◌<◌, ◌==◌, false, None, Some, Option, List, [], ◌∷◌, length, refl, ap, sym, ◌∙◌, subst, arith}
use Rattle.std.specs.List.{AllByRecursion}
use Rattle.std.proofs.lemmas.Bool.{cond-true, cond-false, eq-eqb}
use Rattle.std.proofs.Math.Logic.{inr}
use Rattle.crl_model.specs.declared.collective.Part.{Part}
use Rattle.crl_model.specs.declared.collective.Fold.{Fold}
use Rattle.crl_model.specs.declared.collective.Fold.TheVariants as fold
use Rattle.crl_model.specs.declared.call.CallKind.{CallKind}
use Rattle.crl_model.specs.declared.event.Event.{Event}
use Rattle.crl_model.specs.declared.message.Message.{Message}
use Rattle.crl_model.specs.Calls.{kind_of}
use Rattle.crl_model.specs.Names.{at_node}
use Rattle.crl_model.specs.FoldOf.{fold_of}
use Rattle.crl_machine.specs.SingleMachine.{State, change, part_at, parts_from, parts_of}
use Rattle.crl_protocol.specs.Gathering.{Gathering, with_part, all_parts, no_parts}
use Rattle.crl_protocol.specs.Node.{Node, Outcome}
use Rattle.crl_protocol.specs.Calls.{result_of, results_from, results}
use Rattle.crl_protocol.specs.World.{World, steps_node}
use Rattle.crl_deeds.specs.Deeds.{with_parts, next_round}
use Rattle.crl_deeds.specs.Tokens.{weighs, load}
use Rattle.crl_deeds.specs.Turns.{Frame}
use Rattle.crl_rounds.specs.Standing.{RoundCall, round_awaited, WaitsIn, StandsIn, Stands, IsTold, FitsRounds}
use Rattle.crl_rounds.proofs.States.{Grows, grows_same, stands_same, told_result, came_result, nodes_result}
use Rattle.crl_rounds.proofs.Counts.{token, gathering, waits_round, is_there, all_there}
use Rattle.crl_rounds.proofs.Boxes.{ResultKept, Kept, kept_other, BoxAt, box_map, zero_box, spent}
use Rattle.crl_rounds.proofs.Story.{PartThere, AreThere, Story, Steps, TokensAfter, Leaves, story_after, first_of}

-- All parts, by node, and their nodes came to the round.
pub record Collected (count round : ℕ) (t : State) (parts : List Part) : Type 0 where
  pub all : (i : ℕ) → i < count → round ≤ length (t.came i)
  pub parts_are : parts ≡ parts_of t round

pub record Two (o : Option Part) (r : Option (List Part)) (parts : List Part) : Type 0 where
  pub part : Part
  pub others : List Part
  pub is_part : o ≡ Some part
  pub are_others : r ≡ Some others
  pub together : parts ≡ part ∷ others

two_of : (o : Option Part) (r : Option (List Part)) (parts : List Part) → with_part o r ≡ Some parts → Two o r parts
two_of None r parts e = cc
two_of (Some p) None parts e = cc
two_of (Some p) (Some qs) parts e = record { part = p; others = qs; is_part = refl; are_others = refl; together = cc }

collect : (t : State) (round m k : ℕ) (ps : ℕ → Option Part) (parts : List Part) → all_parts m k ps ≡ Some parts → ((i : ℕ) (p : Part) → i < m + k → ps i ≡ Some p → part_at t i round ≡ p) → parts ≡ parts_from t round m k
collect t round m zero ps parts e h = cc
collect t round m (suc k) ps parts e h =
    let two = two_of (ps m) (all_parts (m + 1) k ps) parts e in
    let rest = collect t round (m + 1) k ps two.others two.are_others (λ i p l f. h i p (omega arith) f) in
    two.together ∙ ap (λ p. p ∷ two.others) (sym (h m two.part (omega arith) two.is_part)) ∙ ap (λ ps. part_at t m round ∷ ps) rest

pub collected : (count : ℕ) (g : Gathering) (t : State) (from : ℕ) (part : Part) (parts : List Part) → AreThere count (with_parts from part g) t → t.nodes ≡ count → all_parts 0 count (at_node g.parts from (Some part)) ≡ Some parts → Collected count g.round t parts
collected count g t from part parts h few all = record {
  all = λ i small. let here = is_there (at_node g.parts from (Some part) i) (let one = all_there 0 count (at_node g.parts from (Some part)) parts i all (omega arith) (omega arith) in omega arith) in (h i here.0 small here.1).came;
  parts_are = collect t g.round 0 count (at_node g.parts from (Some part)) parts all (λ i p l e. (h i p (omega arith) e).brought) ∙ sym (ap (λ k. parts_from t g.round 0 k) few);
}

-- What is told.
pub fits_result : (s : State) (i round : ℕ) (kind : CallKind) (f : Fold) → IsTold s i round f → kind ≡ kind_of (part_at s i round) → FitsRounds s i (result_of round kind f)
fits_result s i round kind fold.Mixed h e = record { told = h; of_call = e }
fits_result s i round kind _ h e = h

stands_next : (k : ℕ) (t : State) (i : ℕ) (m : Node) (c : RoundCall) → Stands k t i m → round_awaited m.activity ≡ Some c → c.round ≡ k → Stands (k + 1) t i m
stands_next k t i m c h e same =
    let x : WaitsIn k t i m.rounds c = subst (λ o. StandsIn k t i m.rounds o) e h.call in
    let own = x.own in
    record { came = h.came; call = subst (λ o. StandsIn (k + 1) t i m.rounds o) (sym e) (record { own = x.own; kind = x.kind; told = x.told; near = inr (omega arith) }) }

results_kept : (count current : ℕ) (t : State) (n : Node) (m k round : ℕ) (f : Fold) → ((to : ℕ) → to < count → ResultKept count current t to round f) → m + k ≤ count → AllByRecursion (Kept count current t) (results_from n m k round f)
results_kept count current t n m zero round f h l = tt
results_kept count current t n m (suc k) round f h l = (h m (omega arith), results_kept count current t n (m + 1) k round f h (omega arith))

all_results : (count current : ℕ) (t : State) (n : Node) (round : ℕ) (f : Fold) → ((to : ℕ) → to < count → ResultKept count current t to round f) → n.nodes ≡ count → 0 < count → AllByRecursion (Kept count current t) (results n round f)
all_results count current t n round f h few some = results_kept count current t n 1 (n.nodes - 1) round f h (omega arith)

-- no part is gathered of a round that begins
none_begins : (count : ℕ) → 0 < count → all_parts 0 count no_parts ≡ None
none_begins zero h = absurd (omega arith)
none_begins (suc k) h = refl

-- The other nodes as they were, in the state before the result.
pub record OthersSame (w : World) (s u : State) (j : ℕ) : Type 0 where
  pub came : (i : ℕ) → (j == i) ≡ false → u.came i ≡ s.came i
  pub told : (i : ℕ) → (j == i) ≡ false → u.told i ≡ s.told i

abbrev pub OthersWait : World → ℕ → ℕ → Type 0
OthersWait w j k = (i : ℕ) → i < w.count → (j == i) ≡ false → (c : RoundCall) × (round_awaited (w.nodes i).activity ≡ Some c) × (c.round ≡ k)

pub record Spent (w : World) (j : ℕ) (n : Node) : Type 0 where
  pub came : ℕ → ℕ → ℕ
  pub loads : (i r : ℕ) → load (token i r) (gathering i r) (w.nodes j) ≡ came i r + load (token i r) (gathering i r) n
  pub all : (i r : ℕ) → i < w.count → waits_round r (w.nodes i).activity ≤ came i r + gathering i r n

pub story_ends : (w : World) (s u : State) (g : Gathering) (j : ℕ) (n : Node) (e : Event) (o : Outcome) (round : ℕ) (kind : CallKind) (parts : List Part) → Story w s g → Steps w s g j n → j ≡ 0 → Frame n o.node → TokensAfter w j e o
    → Grows s u → OthersSame w s u j → Collected w.count g.round u parts → OthersWait w j g.round → Spent w j n → round ≡ g.round → o.node.gathering ≡ next_round n.gathering
    → Stands (g.round + 1) (change u n.me (result_of round kind (fold_of parts))) n.me o.node → o.posts ≡ results n round (fold_of parts)
    → Story (steps_node j e o w).world (change u n.me (result_of round kind (fold_of parts))) (next_round g)
story_ends w s u g j n e o round kind parts h st zero_is frame tokens grows same all wait gone is_round next own posts = story_after w t (next_round g) j n e o leaves frame tokens
  where
    t : State
    t = change u n.me (result_of round kind (fold_of parts))

    t_came : t.came ≡ u.came
    t_came = came_result u n.me round kind (fold_of parts)

    t_nodes : t.nodes ≡ u.nodes
    t_nodes = nodes_result u n.me round kind (fold_of parts)

    last : Grows u t
    last = grows_same u t t_nodes t_came

    long : (i : ℕ) → i < w.count → g.round ≤ length (t.came i)
    long i small = let a = all.all i small in let l = last.longer i in omega arith

    some : 0 < w.count
    some = subst (λ k. k < w.count) zero_is st.few

    u_nodes : u.nodes ≡ w.count
    u_nodes = grows.nodes ∙ h.nodes

    parts_same : parts_of t g.round ≡ parts_of u g.round
    parts_same = ap (λ k. parts_from t g.round 0 k) t_nodes ∙ Rattle.crl_rounds.proofs.States.parts_grow u t w.count g.round 0 u.nodes last h.positive all.all (omega arith)

    kept : (to : ℕ) → to < w.count → ResultKept w.count (g.round + 1) t to g.round (fold_of parts)
    kept to small = record { addressee = small; some = h.positive; before = refl; all_came = long; gives = ap fold_of (all.parts_are ∙ sym parts_same) }

    told_other : (i : ℕ) → (j == i) ≡ false → t.told i ≡ s.told i
    told_other i x = ap (λ (f : ℕ → ℕ). f i) (told_result u n.me round kind (fold_of parts)) ∙ cond-false (n.me == i) _ _ (ap (λ k. k == i) st.me ∙ x) ∙ same.told i x

    came_other : (i : ℕ) → (j == i) ≡ false → t.came i ≡ s.came i
    came_other i x = ap (λ (f : ℕ → List Part). f i) t_came ∙ same.came i x

    others : (i : ℕ) → i < w.count → (j == i) ≡ false → Stands (g.round + 1) t i (w.nodes i)
    others i small x = let c = wait i small x in stands_next g.round t i (w.nodes i) c.0 (stands_same g.round s t i (w.nodes i) (w.nodes i) (came_other i x) (told_other i x) refl refl (h.each i small)) c.1 c.2

    empty : (i : ℕ) → i < w.count → (h r : ℕ) → h < w.count → weighs (token h r) (at_node w.nodes j n i).inbox + weighs (token h r) (at_node w.nodes j n i).outbox ≡ 0
    empty i small a r few = spent (token a r) (gathering a r) w j n (gone.came a r) st.few (gone.loads a r) (let x = h.tokens a r few in let y = gone.all a r few in omega arith) i small

    quiet : (m : Message) → Rattle.crl_rounds.proofs.Still.IsOther m → Kept w.count (g.round + 1) t m
    quiet = kept_other w.count (g.round + 1) t

    box_other : (i : ℕ) → i < w.count → (j == i) ≡ false → BoxAt (Kept w.count (g.round + 1) t) i (w.nodes i)
    box_other i small x =
        let same : at_node w.nodes j n i ≡ w.nodes i = cond-false (j == i) n (w.nodes i) x in
        box_map _ _ quiet i (w.nodes i) (zero_box w.count g.round s i (w.nodes i) (h.boxes i small) (λ a r few. subst (λ m. weighs (token a r) m.inbox + weighs (token a r) m.outbox ≡ 0) same (empty i small a r few)))

    box_own : BoxAt (Kept w.count (g.round + 1) t) j n
    box_own =
        let same : at_node w.nodes j n j ≡ n = cond-true (j == j) n (w.nodes j) (eq-eqb j j refl) in
        box_map _ _ quiet j n (zero_box w.count g.round s j n st.box (λ a r few. subst (λ m. weighs (token a r) m.inbox + weighs (token a r) m.outbox ≡ 0) same (empty j st.few a r few)))

    leaves : Leaves w t (next_round g) j n o
    leaves = record {
      nodes = t_nodes ∙ u_nodes;
      own_first = λ x. next ∙ ap next_round (first_of w s g j n h st x);
      other_first = λ x. absurd (x zero_is);
      positive = omega arith;
      own = subst (λ x. Stands (g.round + 1) t x o.node) st.me own;
      others = others;
      gathered = λ i p small e. cc;
      missing = λ x. none_begins w.count x;
      boxes = box_other;
      box = box_own;
      posts = subst (AllByRecursion (Kept w.count (g.round + 1) t)) (sym posts) (all_results w.count (g.round + 1) t n round (fold_of parts) (λ to small. subst (λ r. ResultKept w.count (g.round + 1) t to r (fold_of parts)) (sym is_round) (kept to small)) st.nodes some);
    }

-- A node is told the result of its round.
pub told_after_wait : (k : ℕ) (s : State) (n : Node) (round : ℕ) (kind : CallKind) (f : Fold) (m : Node) → Stands k s n.me n → round_awaited n.activity ≡ Some (record { round = round; kind = kind }) → m.rounds ≡ n.rounds → round_awaited m.activity ≡ None
    → (after : ℕ) → round + 1 ≡ after → Stands after (change s n.me (result_of round kind f)) n.me m
told_after_wait k s n round kind f m h e rounds idle after next =
    let c : RoundCall = record { round = round; kind = kind } in
    let x : WaitsIn k s n.me n.rounds c = subst (λ o. StandsIn k s n.me n.rounds o) e h.call in
    let t : State = change s n.me (result_of round kind f) in
    let told : t.told n.me ≡ s.told n.me + 1 = ap (λ (g : ℕ → ℕ). g n.me) (told_result s n.me round kind f) ∙ cond-true (n.me == n.me) _ _ (eq-eqb n.me n.me refl) in
    let own = x.own in
    record {
      came = ap (λ (g : ℕ → List Part). length (g n.me)) (came_result s n.me round kind f) ∙ h.came ∙ sym rounds;
      call = subst (λ r. StandsIn after t n.me r (round_awaited m.activity)) (sym rounds) (subst (λ o. StandsIn after t n.me n.rounds o) (sym idle) (record { told = told ∙ x.told; next = ap (λ r. r + 1) (sym own) ∙ next }));
    }

pub story_told : (w : World) (s : State) (g : Gathering) (j : ℕ) (n : Node) (e : Event) (o : Outcome) (round : ℕ) (kind : CallKind) (f : Fold) → Story w s g → Steps w s g j n → Frame n o.node → TokensAfter w j e o
    → round + 1 ≡ g.round → o.node.gathering ≡ n.gathering → Stands g.round (change s n.me (result_of round kind f)) n.me o.node → o.posts ≡ []
    → Story (steps_node j e o w).world (change s n.me (result_of round kind f)) g
story_told w s g j n e o round kind f h st frame tokens before gathering own posts = story_after w t g j n e o leaves frame tokens
  where
    t : State
    t = change s n.me (result_of round kind f)

    grows : Grows s t
    grows = grows_same s t (nodes_result s n.me round kind f) (came_result s n.me round kind f)

    more : (m : Message) → Kept w.count g.round s m → Kept w.count g.round t m
    more = Rattle.crl_rounds.proofs.Boxes.kept_grows w.count g.round s t grows h.nodes h.positive

    told_other : (i : ℕ) → (j == i) ≡ false → t.told i ≡ s.told i
    told_other i x = ap (λ (f : ℕ → ℕ). f i) (told_result s n.me round kind f) ∙ cond-false (n.me == i) _ _ (ap (λ k. k == i) st.me ∙ x)

    leaves : Leaves w t g j n o
    leaves = record {
      nodes = nodes_result s n.me round kind f ∙ h.nodes;
      own_first = λ x. gathering ∙ first_of w s g j n h st x;
      other_first = λ x. h.first;
      positive = h.positive;
      own = subst (λ x. Stands g.round t x o.node) st.me own;
      others = λ i small x. stands_same g.round s t i (w.nodes i) (w.nodes i) (ap (λ (f : ℕ → List Part). f i) (came_result s n.me round kind f)) (told_other i x) refl refl (h.each i small);
      gathered = Rattle.crl_rounds.proofs.Story.there_grows w.count g s t grows h.positive h.gathered;
      missing = h.missing;
      boxes = λ i small x. box_map _ _ more i (w.nodes i) (h.boxes i small);
      box = box_map _ _ more j n st.box;
      posts = subst (AllByRecursion (Kept w.count g.round t)) (sym posts) tt;
    }
