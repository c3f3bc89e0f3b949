-- Where all nodes of a world stand in their rounds, and what an outcome of one node leaves of that.
use Rattle.std.proofs.Common.{◌≡◌, ℕ, ◌+◌, ◌≤◌, ◌<◌, ◌==◌, Bool, true, false, None, Some, List, length, if◌then◌else◌, refl, ap, sym, ◌∙◌, subst, arith}
use Rattle.std.specs.List.{AllByRecursion}
use Rattle.std.proofs.lemmas.Bool.{cond_both, cond-false, eqb-true, eqb-false}
use Rattle.std.proofs.Math.Logic.{inl}
use Rattle.crl_model.specs.declared.collective.Part.{Part}
use Rattle.crl_model.specs.declared.event.Event.{Event}
use Rattle.crl_model.specs.declared.entry.What.TheVariants as what
use Rattle.crl_model.specs.declared.message.Message.{Message}
use Rattle.crl_model.specs.Calls.{kind_of}
use Rattle.crl_machine.specs.SingleMachine.{State, change, after_all, part_at}
use Rattle.crl_protocol.specs.Gathering.{Gathering, all_parts}
use Rattle.crl_protocol.specs.Node.{Node, Free, Outcome}
use Rattle.crl_protocol.specs.World.{World, commits, steps_node}
use Rattle.crl_deeds.specs.Deeds.{with_parts}
use Rattle.crl_deeds.specs.Tokens.{sum, load}
use Rattle.crl_deeds.specs.Turns.{Frame}
use Rattle.crl_rounds.specs.Standing.{round_awaited, IsBetween, StandsIn, Stands}
use Rattle.crl_rounds.proofs.States.{SameRounds, Grows, grows_same, grows_one, length_put, part_last_came, stands_same}
use Rattle.crl_rounds.proofs.Still.{IsOther, Still}
use Rattle.crl_rounds.proofs.Counts.{token, gathering, waits_round}
use Rattle.crl_rounds.proofs.Boxes.{Kept, kept_parts, kept_grows, kept_other, all_map, BoxAt, Boxed, box_map, boxed_outcome}

-- the part that is gathered of a node is that with which it came
pub record PartThere (current : ℕ) (s : State) (i : ℕ) (p : Part) : Type 0 where
  pub came : current ≤ length (s.came i)
  pub brought : part_at s i current ≡ p

abbrev pub AreThere : ℕ → Gathering → State → Type 0
AreThere count g s = (i : ℕ) (p : Part) → i < count → g.parts i ≡ Some p → PartThere g.round s i p

pub record Story (w : World) (s : State) (g : Gathering) : Type 0 where
  pub nodes : s.nodes ≡ w.count
  pub first : (w.nodes 0).gathering ≡ g
  pub positive : 1 ≤ g.round
  pub each : (i : ℕ) → i < w.count → Stands g.round s i (w.nodes i)
  pub gathered : AreThere w.count g s
  pub missing : 0 < w.count → all_parts 0 w.count g.parts ≡ None
  pub tokens : (i j : ℕ) → i < w.count → sum (load (token i j) (gathering i j)) w ≡ waits_round j (w.nodes i).activity
  pub boxes : Boxed (Kept w.count g.round s) w

-- A node that takes a step, without the piece that came.
pub record Steps (w : World) (s : State) (g : Gathering) (j : ℕ) (n : Node) : Type 0 where
  pub few : j < w.count
  pub me : n.me ≡ j
  pub nodes : n.nodes ≡ w.count
  pub rounds : n.rounds ≡ (w.nodes j).rounds
  pub gathering : n.gathering ≡ (w.nodes j).gathering
  pub activity : n.activity ≡ (w.nodes j).activity
  pub box : BoxAt (Kept w.count g.round s) j n

abbrev pub TokensAfter : World → ℕ → Event → Outcome → Type 0
TokensAfter w j e o = (i r : ℕ) → i < w.count → sum (load (token i r) (gathering i r)) (steps_node j e o w).world ≡ waits_round r ((steps_node j e o w).world.nodes i).activity

-- what an outcome has to leave
pub record Leaves (w : World) (t : State) (g : Gathering) (j : ℕ) (n : Node) (o : Outcome) : Type 0 where
  pub nodes : t.nodes ≡ w.count
  pub own_first : j ≡ 0 → o.node.gathering ≡ g
  pub other_first : (j ≡ 0 → ⊥) → (w.nodes 0).gathering ≡ g
  pub positive : 1 ≤ g.round
  pub own : Stands g.round t j o.node
  pub others : (i : ℕ) → i < w.count → (j == i) ≡ false → Stands g.round t i (w.nodes i)
  pub gathered : AreThere w.count g t
  pub missing : 0 < w.count → all_parts 0 w.count g.parts ≡ None
  pub boxes : (i : ℕ) → i < w.count → (j == i) ≡ false → BoxAt (Kept w.count g.round t) i (w.nodes i)
  pub box : BoxAt (Kept w.count g.round t) j n
  pub posts : AllByRecursion (Kept w.count g.round t) o.posts

pub story_after : (w : World) (t : State) (g : Gathering) (j : ℕ) (n : Node) (e : Event) (o : Outcome) → Leaves w t g j n o → Frame n o.node → TokensAfter w j e o → Story (steps_node j e o w).world t g
story_after w t g j n e o l frame tokens = record {
  nodes = l.nodes;
  first = cond_both (j == 0) (commits w.events e o) (w.nodes 0) (λ m. m.gathering ≡ g) (λ x. l.own_first (eqb-true j 0 x)) (λ x. l.other_first (eqb-false j 0 x));
  positive = l.positive;
  each = λ i small. cond_both (j == i) (commits w.events e o) (w.nodes i) (λ m. Stands g.round t i m)
      (λ x. subst (λ k. Stands g.round t k (commits w.events e o)) (eqb-true j i x) (record { came = l.own.came; call = l.own.call })) (λ x. l.others i small x);
  gathered = l.gathered;
  missing = l.missing;
  tokens = tokens;
  boxes = boxed_outcome (Kept w.count g.round t) (kept_parts w.count g.round t) w j n e o frame l.boxes l.box l.posts;
}

-- parts that stay where more come
pub there_grows : (count : ℕ) (g : Gathering) (s t : State) → Grows s t → 1 ≤ g.round → AreThere count g s → AreThere count g t
there_grows count g s t grows some h i p small e =
    let a = h i p small e in
    let l = grows.longer i in
    let c = a.came in record { came = omega arith; brought = grows.part i g.round some a.came ∙ a.brought }

same_part : (p q : Part) → Some p ≡ Some q → p ≡ q
same_part p q e = cc

pub there_put : (count : ℕ) (g : Gathering) (t : State) (from : ℕ) (part : Part) → PartThere g.round t from part → AreThere count g t → AreThere count (with_parts from part g) t
there_put count g t from part one h i p small e = go (from == i) refl e
  where
    go : (b : Bool) → (from == i) ≡ b → (if b then Some part else g.parts i) ≡ Some p → PartThere g.round t i p
    go true w x = subst (λ q. PartThere g.round t i q) (same_part part p x) (subst (λ k. PartThere g.round t k part) (eqb-true from i w) one)
    go false w x = h i p small x

-- An outcome that is of no round.
pub stands_self : (w : World) (s : State) (g : Gathering) (j : ℕ) (n : Node) → Story w s g → Steps w s g j n → Stands g.round s n.me n
stands_self w s g j n h st = subst (λ k. Stands g.round s k n) (sym st.me) (stands_same g.round s s j (w.nodes j) n refl refl st.rounds (ap round_awaited st.activity) (h.each j st.few))

pub first_of : (w : World) (s : State) (g : Gathering) (j : ℕ) (n : Node) → Story w s g → Steps w s g j n → j ≡ 0 → n.gathering ≡ g
first_of w s g j n h st e = st.gathering ∙ ap (λ k. (w.nodes k).gathering) e ∙ h.first

pub story_still : (w : World) (s : State) (g : Gathering) (j : ℕ) (n : Node) (e : Event) (o : Outcome) → Story w s g → Steps w s g j n → Still n o → Frame n o.node → TokensAfter w j e o → Story (steps_node j e o w).world (after_all s o.entries) g
story_still w s g j n e o h st still frame tokens = story_after w t g j n e o leaves frame tokens
  where
    t : State
    t = after_all s o.entries

    same : SameRounds s t
    same = still.same s

    grows : Grows s t
    grows = grows_same s t same.nodes same.came

    came_at : (i : ℕ) → t.came i ≡ s.came i
    came_at i = ap (λ (f : ℕ → List Part). f i) same.came

    more : (m : Message) → Kept w.count g.round s m → Kept w.count g.round t m
    more = kept_grows w.count g.round s t grows h.nodes h.positive

    leaves : Leaves w t g j n o
    leaves = record {
      nodes = same.nodes ∙ h.nodes;
      own_first = λ x. still.gathering ∙ first_of w s g j n h st x;
      other_first = λ x. h.first;
      positive = h.positive;
      own = stands_same g.round s t j (w.nodes j) o.node (came_at j) (same.told j) (still.rounds ∙ st.rounds) (still.awaited ∙ ap round_awaited st.activity) (h.each j st.few);
      others = λ i small x. stands_same g.round s t i (w.nodes i) (w.nodes i) (came_at i) (same.told i) refl refl (h.each i small);
      gathered = there_grows w.count g s t grows h.positive h.gathered;
      missing = h.missing;
      boxes = λ i small x. box_map _ _ more i (w.nodes i) (h.boxes i small);
      box = box_map _ _ more j n st.box;
      posts = all_map IsOther (Kept w.count g.round t) (kept_other w.count g.round t) o.posts still.posts;
    }

-- A node comes to the next round.
pub between : (k : ℕ) (s : State) (n : Node) → Stands k s n.me n → n.activity ≡ Free → IsBetween k s n.me n.rounds
between k s n h free = subst (λ a. StandsIn k s n.me n.rounds (round_awaited a)) free h.call

pub own_comes : (k : ℕ) (s : State) (n m : Node) (part : Part) → Stands k s n.me n → n.activity ≡ Free → m.rounds ≡ n.rounds + 1 → round_awaited m.activity ≡ Some (record { round = n.rounds + 1; kind = kind_of part })
    → Stands k (change s n.me (what.Come part)) n.me m
own_comes k s n m part h free rounds awaited =
    let t : State = change s n.me (what.Come part) in
    let b = between k s n h free in
    let long = length_put s.came n.me part in
    let came = h.came in
    let last : part_at t n.me (n.rounds + 1) ≡ part = ap (λ x. part_at t n.me (x + 1)) (sym came) ∙ part_last_came s t n.me part refl in
    record {
      came = long ∙ ap (λ x. x + 1) came ∙ sym rounds;
      call = subst (λ r. StandsIn k t n.me r (round_awaited m.activity)) (sym rounds)
          (subst (λ o. StandsIn k t n.me (n.rounds + 1) o) (sym awaited) (record { own = refl; kind = sym (ap kind_of last); told = ap (λ x. x + 1) b.told; near = inl b.next }));
    }

others_come : (k : ℕ) (s : State) (me j i : ℕ) (part : Part) (m : Node) → me ≡ j → (j == i) ≡ false → Stands k s i m → Stands k (change s me (what.Come part)) i m
others_come k s me j i part m e other h = stands_same k s (change s me (what.Come part)) i m m (cond-false (me == i) _ _ (ap (λ x. x == i) e ∙ other)) refl refl refl h

pub story_comes : (w : World) (s : State) (g after : Gathering) (j : ℕ) (n : Node) (e : Event) (o : Outcome) (part : Part) → Story w s g → Steps w s g j n → n.activity ≡ Free → Frame n o.node → TokensAfter w j e o
    → after.round ≡ g.round → (n.me ≡ 0 → o.node.gathering ≡ after) → ((n.me ≡ 0 → ⊥) → after ≡ g) → AreThere w.count after (change s n.me (what.Come part)) → (0 < w.count → all_parts 0 w.count after.parts ≡ None)
    → o.node.rounds ≡ n.rounds + 1 → round_awaited o.node.activity ≡ Some (record { round = n.rounds + 1; kind = kind_of part }) → AllByRecursion (Kept w.count g.round (change s n.me (what.Come part))) o.posts
    → Story (steps_node j e o w).world (change s n.me (what.Come part)) after
story_comes w s g after j n e o part h st free frame tokens round own other there missing rounds awaited posts = story_after w t after j n e o leaves frame tokens
  where
    t : State
    t = change s n.me (what.Come part)

    grows : Grows s t
    grows = grows_one s t n.me part refl refl

    more : (m : Message) → Kept w.count g.round s m → Kept w.count after.round t m
    more m x = subst (λ k. Kept w.count k t m) (sym round) (kept_grows w.count g.round s t grows h.nodes h.positive m x)

    leaves : Leaves w t after j n o
    leaves = record {
      nodes = h.nodes;
      own_first = λ x. own (st.me ∙ x);
      other_first = λ x. h.first ∙ sym (other (λ y. x (sym st.me ∙ y)));
      positive = subst (λ k. 1 ≤ k) (sym round) h.positive;
      own = subst (λ k. Stands k t j o.node) (sym round) (subst (λ x. Stands g.round t x o.node) st.me (own_comes g.round s n o.node part (stands_self w s g j n h st) free rounds awaited));
      others = λ i small x. subst (λ k. Stands k t i (w.nodes i)) (sym round) (others_come g.round s n.me j i part (w.nodes i) st.me x (h.each i small));
      gathered = there;
      missing = missing;
      boxes = λ i small x. box_map _ _ more i (w.nodes i) (h.boxes i small);
      box = box_map _ _ more j n st.box;
      posts = subst (λ k. AllByRecursion (Kept w.count k t) o.posts) (sym round) posts;
    }
