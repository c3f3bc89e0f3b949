-- What each deed of a round leaves.
use Rattle.std.proofs.Common.{◌≡◌, ℕ, ◌+◌, ◌≤◌, ◌<◌, ◌==◌, Bool, true, false, None, Some, Option, List, length, if◌then◌else◌, refl, ap, sym, ◌∙◌, subst, arith}
use Rattle.std.proofs.lemmas.Bool.{cond-true, cond-false, eqb-true, eq-eqb}
use Rattle.crl_model.specs.declared.collective.Part.{Part}
use Rattle.crl_model.specs.declared.event.Event.{Event}
use Rattle.crl_model.specs.declared.entry.What.TheVariants as what
use Rattle.crl_model.specs.Calls.{kind_of}
use Rattle.crl_model.specs.Names.{at_node}
use Rattle.crl_model.specs.FoldOf.{fold_of}
use Rattle.crl_machine.specs.SingleMachine.{State, change, after_all, part_at}
use Rattle.crl_protocol.specs.Gathering.{Gathering, all_parts}
use Rattle.crl_protocol.specs.Node.{Node, ForRound, Activity, Free, Waiting, Outcome}
use Rattle.crl_protocol.specs.Calls.{results}
use Rattle.crl_protocol.specs.World.{World, steps_node}
use Rattle.crl_deeds.specs.Deeds.{FreeIf, Cause, with_parts, next_round, Rounds, comes_away, comes_home, comes_last, part_comes, part_last, part_last_idle, result_comes}
use Rattle.crl_deeds.specs.Tokens.{load, came}
use Rattle.crl_deeds.specs.Turns.{Frame, Came}
use Rattle.crl_rounds.specs.Standing.{FitAll, RoundCall, round_awaited, WaitsIn, StandsIn, Stands, IsTold}
use Rattle.crl_rounds.proofs.States.{grows_same, grows_one, length_put, part_last_came, stands_same}
use Rattle.crl_rounds.proofs.Counts.{of_round, token, gathered, gathering, waits_call, waits_round, one_round, waits_in, awaits_none, Facts}
use Rattle.crl_rounds.proofs.Balances.{full_gathered, waits_first, open_first}
use Rattle.crl_rounds.proofs.Boxes.{Kept}
use Rattle.crl_rounds.proofs.Story.{PartThere, Story, Steps, TokensAfter, story_after, there_grows, there_put, stands_self, first_of, between, own_comes, story_comes}
use Rattle.crl_rounds.proofs.Ending.{Collected, collected, fits_result, OthersWait, Spent, story_ends, told_after_wait, story_told}

-- what a turn leaves, with the entries of its event
pub record After (w v : World) (s t : State) : Type 0 where
  pub gathering : Gathering
  pub story : Story v t gathering

abbrev pub Loads : World → ℕ → Node → Cause → Type 0
Loads w j n cause = (i r : ℕ) → load (token i r) (gathering i r) (w.nodes j) ≡ came (token i r) n.me cause + load (token i r) (gathering i r) n

abbrev pub activities : World → ℕ → Activity
activities w i = (w.nodes i).activity

-- the part with which a node has just come
pub record JustCame (k : ℕ) (s : State) (n : Node) (part : Part) : Type 0 where
  pub brought : part_at (change s n.me (what.Come part)) n.me (n.rounds + 1) ≡ part
  pub long : length ((change s n.me (what.Come part)).came n.me) ≡ n.rounds + 1

just_came : (k : ℕ) (s : State) (n : Node) (part : Part) → Stands k s n.me n → JustCame k s n part
just_came k s n part h =
    let t : State = change s n.me (what.Come part) in
    record { brought = ap (λ x. part_at t n.me (x + 1)) (sym h.came) ∙ part_last_came s t n.me part refl; long = length_put s.came n.me part ∙ ap (λ x. x + 1) h.came }

there_own : (k : ℕ) (s : State) (n : Node) (part : Part) → Stands k s n.me n → n.rounds + 1 ≡ k → PartThere k (change s n.me (what.Come part)) n.me part
there_own k s n part h next =
    let j = just_came k s n part h in
    let long = j.long in record { came = omega arith; brought = ap (λ x. part_at (change s n.me (what.Come part)) n.me x) (sym next) ∙ j.brought }

come_fits : (k : ℕ) (s : State) (n : Node) → Stands k s n.me n → n.activity ≡ Free → length (s.came n.me) ≤ s.told n.me
come_fits k s n h free = let b = (between k s n h free).told in let c = h.came in omega arith

all_here : (n : Node) (count from : ℕ) (part : Part) (g : Gathering) (o : Option (List Part)) → n.nodes ≡ count → n.gathering ≡ g → all_parts 0 n.nodes (at_node n.gathering.parts from (Some part)) ≡ o → all_parts 0 count (at_node g.parts from (Some part)) ≡ o
all_here n count from part g o few same e = sym (ap (λ k. all_parts 0 k (at_node g.parts from (Some part))) few) ∙ sym (ap (λ (x : Gathering). all_parts 0 n.nodes (at_node x.parts from (Some part))) same) ∙ e

other_first : (j i : ℕ) → j ≡ 0 → (j == i) ≡ false → (0 == i) ≡ false
other_first j i e x = sym (ap (λ k. k == i) e) ∙ x

-- of a completed round: the others wait in it, and all that stands for their waits is here
others_wait : (w : World) (g : Gathering) (j : ℕ) (n : Node) (cause : Cause) → Facts w.count g (activities w) n cause → n.me ≡ 0 → j ≡ 0 → n.gathering ≡ g
    → ((i : ℕ) → i < w.count → (0 == i) ≡ false → 1 ≤ came (token i g.round) n.me cause + gathered i g.round n.gathering) → OthersWait w j g.round
others_wait w g j n cause f me zero_is same h i small x =
    let k = g.round in
    let p = f.portion i k small in
    let a : gathering i k n ≡ gathered i k n.gathering = cond-true (n.me == 0) _ _ (eq-eqb n.me 0 me) in
    let one = h i small (other_first j i zero_is x) in
    let y = waits_in (activities w i) k (omega arith) in (record { round = k; kind = y.0 }, ap round_awaited y.1, refl)

waits_others : (w : World) (g : Gathering) (j : ℕ) → OthersWait w j g.round → (i r : ℕ) → i < w.count → (j == i) ≡ false → waits_round r (w.nodes i).activity ≡ of_round g.round r
waits_others w g j h i r small x = let c = h i small x in ap (waits_call r) c.1 ∙ ap (λ k. of_round k r) c.2

comes_spent : (w : World) (g : Gathering) (j : ℕ) (n : Node) (c : Cause) (part : Part) (parts : List Part) → n.me ≡ j → j ≡ 0 → (w.nodes j).activity ≡ Free → n.gathering ≡ g → g.parts 0 ≡ None → all_parts 0 w.count (at_node g.parts 0 (Some part)) ≡ Some parts
    → OthersWait w j g.round → (i r : ℕ) → i < w.count → waits_round r (w.nodes i).activity ≤ 0 + gathering i r n
comes_spent w g j n c part parts me zero_is free same none all wait i r small = go (j == i) refl
  where
    go : (b : Bool) → (j == i) ≡ b → waits_round r (w.nodes i).activity ≤ 0 + gathering i r n
    go true x = let z : waits_round r (w.nodes i).activity ≡ 0 = ap (λ k. waits_round r (w.nodes k).activity) (sym (eqb-true j i x)) ∙ ap (waits_round r) free in omega arith
    go false x =
        let z = waits_others w g j wait i r small x in
        let a : gathering i r n ≡ gathered i r n.gathering = cond-true (n.me == 0) _ _ (eq-eqb n.me 0 (me ∙ zero_is)) in
        let b : gathered i r n.gathering ≡ gathered i r g = ap (gathered i r) same in
        let full = full_gathered i r w.count 0 part parts g none all small in
        let d : (if 0 == i then of_round g.round r else 0) ≡ 0 = cond-false (0 == i) _ _ (other_first j i zero_is x) in omega arith

told_is : (k : ℕ) (s : State) (i : ℕ) (m : Node) (c : RoundCall) (count : ℕ) (parts : List Part) → Stands k s i m → round_awaited m.activity ≡ Some c → s.nodes ≡ count → Collected count c.round s parts → IsTold s i c.round (fold_of parts) × (c.kind ≡ kind_of (part_at s i c.round))
told_is k s i m c count parts h e few all =
    let x : WaitsIn k s i m.rounds c = subst (λ o. StandsIn k s i m.rounds o) e h.call in
    let own = x.own in
    let told = x.told in
    let came = h.came in
    (record { full = (omega arith, omega arith, λ a small. all.all a (subst (λ z. a < z) few small)); gives = ap fold_of all.parts_are }, x.kind ∙ ap (λ r. kind_of (part_at s i r)) (sym own))

round_same : (c d : RoundCall) → Some c ≡ Some d → c.round ≡ d.round
round_same c d e = let same : c ≡ d = cc in ap (λ (x : RoundCall). x.round) same

waits_as : (k : ℕ) (s : State) (n : Node) (c : RoundCall) → Stands k s n.me n → round_awaited n.activity ≡ Some c → WaitsIn k s n.me n.rounds c
waits_as k s n c h e = subst (λ o. StandsIn k s n.me n.rounds o) e h.call

part_spent : (w : World) (g : Gathering) (j : ℕ) (n : Node) (cause : Cause) → n.me ≡ j → j ≡ 0 → OthersWait w j g.round → (r : ℕ) → waits_round r (w.nodes j).activity ≡ of_round g.round r → (i : ℕ) → i < w.count
    → came (token i r) n.me cause + gathered i r n.gathering ≡ of_round g.round r → waits_round r (w.nodes i).activity ≤ came (token i r) n.me cause + gathering i r n
part_spent w g j n cause me zero_is wait r own i small full = go (j == i) refl
  where
    a : gathering i r n ≡ gathered i r n.gathering
    a = cond-true (n.me == 0) _ _ (eq-eqb n.me 0 (me ∙ zero_is))

    go : (b : Bool) → (j == i) ≡ b → waits_round r (w.nodes i).activity ≤ came (token i r) n.me cause + gathering i r n
    go true x = let z : waits_round r (w.nodes i).activity ≡ of_round g.round r = ap (λ k. waits_round r (w.nodes k).activity) (sym (eqb-true j i x)) ∙ own in omega (arith, z, a, full)
    go false x = let z = waits_others w g j wait i r small x in omega (arith, z, a, full)

pub round_story : (w : World) (s : State) (g : Gathering) (j : ℕ) (n : Node) (e : Event) (cause : Cause) (o : Outcome) → Rounds n cause o → Story w s g → Steps w s g j n → FreeIf cause n → Facts w.count g (activities w) n cause → Came (Kept w.count g.round s) n.me cause
    → Loads w j n cause → Frame n o.node → TokensAfter w j e o → After w (steps_node j e o w).world s (after_all s o.entries) × FitAll s o.entries
round_story w s g j n e cause o (comes_away part other fits) h st free f mail loads frame tokens =
    let own = stands_self w s g j n h st in
    let came = just_came g.round s n part own in
    let b = between g.round s n own free in
    let long = came.long in (
      record {
        gathering = g;
        story = story_comes w s g g j n e o part h st free frame tokens refl (λ x. absurd (let y = eq-eqb n.me 0 x in cc)) (λ x. refl) (there_grows w.count g s _ (grows_one s _ n.me part refl refl) h.positive h.gathered) h.missing refl refl
            (record { sender = f.small; to_first = refl; current_one = b.next; came = omega arith; brought = sym came.brought }, tt);
      },
      (come_fits g.round s n own free, tt),
    )
round_story w s g j n e cause o (comes_home part first fits all) h st free f mail loads frame tokens =
    let me : n.me ≡ 0 = eqb-true n.me 0 first in
    let own = stands_self w s g j n h st in
    let b = between g.round s n own free in
    let t : State = change s n.me (what.Come part) in
    let same = first_of w s g j n h st (sym st.me ∙ me) in (
      record {
        gathering = with_parts 0 part g;
        story = story_comes w s g (with_parts 0 part g) j n e o part h st free frame tokens refl (λ x. ap (with_parts 0 part) same) (λ x. absurd (x me))
            (there_put w.count g t 0 part (subst (λ k. PartThere g.round t k part) me (there_own g.round s n part own b.next)) (there_grows w.count g s t (grows_one s t n.me part refl refl) h.positive h.gathered))
            (λ some. all_here n w.count 0 part g None f.few same all) refl refl tt;
      },
      (come_fits g.round s n own free, tt),
    )
round_story w s g j n e cause o (comes_last part parts first fits all) h st free f mail loads frame tokens =
    let me : n.me ≡ 0 = eqb-true n.me 0 first in
    let zero_is : j ≡ 0 = sym st.me ∙ me in
    let own = stands_self w s g j n h st in
    let b = between g.round s n own free in
    let u : State = change s n.me (what.Come part) in
    let same = first_of w s g j n h st zero_is in
    let here = all_here n w.count 0 part g (Some parts) f.few same all in
    let grows = grows_one s u n.me part refl refl in
    let there = there_put w.count g u 0 part (subst (λ k. PartThere g.round u k part) me (there_own g.round s n part own b.next)) (there_grows w.count g s u grows h.positive h.gathered) in
    let col = collected w.count g u 0 part parts there h.nodes here in
    let none : n.gathering.parts 0 ≡ None = open_first w.count g (activities w) n cause f me free refl free in
    let none_g : g.parts 0 ≡ None = sym (ap (λ (x : Gathering). x.parts 0) same) ∙ none in
    let wait : OthersWait w j g.round = others_wait w g j n cause f me zero_is same (λ i small x.
    let full = full_gathered i g.round w.count 0 part parts g none_g here small in
    let d : (if 0 == i then of_round g.round g.round else 0) ≡ 0 = cond-false (0 == i) _ _ x in
    let z : gathered i g.round n.gathering ≡ gathered i g.round g = ap (gathered i g.round) same in
    let one = one_round g.round in omega arith) in
    let m : Node = record n { rounds = n.rounds + 1; activity = Waiting (ForRound (n.rounds + 1) (kind_of part)) } in
    let waiting : Stands g.round u n.me m = own_comes g.round s n m part own free refl refl in
    let c : RoundCall = record { round = n.rounds + 1; kind = kind_of part } in
    let at : Collected w.count c.round u parts = subst (λ r. Collected w.count r u parts) (sym b.next) col in
    let told = told_is g.round u n.me m c w.count parts waiting refl h.nodes at in
    let gone : Spent w j n = record { came = λ i r. 0; loads = loads; all = comes_spent w g j n cause part parts st.me zero_is (sym st.activity ∙ free) same none_g here wait } in (
      record {
        gathering = next_round g;
        story = story_ends w s u g j n e o (n.rounds + 1) (kind_of part) parts h st zero_is frame tokens grows (record { came = λ i x. cond-false (n.me == i) _ _ (ap (λ k. k == i) st.me ∙ x); told = λ i x. refl }) col wait gone b.next refl
            (told_after_wait g.round u m (n.rounds + 1) (kind_of part) (fold_of parts) o.node waiting refl refl (ap round_awaited free) (g.round + 1) (ap (λ r. r + 1) b.next)) refl;
      },
      (come_fits g.round s n own free, (fits_result u n.me (n.rounds + 1) (kind_of part) (fold_of parts) told.0 told.1, tt)),
    )
round_story w s g j n e cause o (part_comes from round part a all) h st free f mail loads frame tokens =
    let me = f.heard.1 in
    let zero_is : j ≡ 0 = sym st.me ∙ me in
    let same = first_of w s g j n h st zero_is in
    let there : PartThere g.round s from part = record { came = subst (λ r. r ≤ length (s.came from)) mail.current_one mail.came; brought = ap (part_at s from) (sym mail.current_one) ∙ sym mail.brought } in (
      record {
        gathering = with_parts from part g;
        story = story_after w s (with_parts from part g) j n e o (record {
          nodes = h.nodes;
          own_first = λ x. ap (with_parts from part) same;
          other_first = λ x. absurd (x zero_is);
          positive = h.positive;
          own = stands_same g.round s s j (w.nodes j) o.node refl refl st.rounds (ap round_awaited st.activity) (h.each j st.few);
          others = λ i small x. h.each i small;
          gathered = there_put w.count g s from part there h.gathered;
          missing = λ some. all_here n w.count from part g None f.few same all;
          boxes = λ i small x. h.boxes i small;
          box = st.box;
          posts = tt;
        }) frame tokens;
      },
      tt,
    )
round_story w s g j n e cause o (part_last from round part parts mine k x a all) h st free f mail loads frame tokens =
    let me = f.heard.1 in
    let zero_is : j ≡ 0 = sym st.me ∙ me in
    let own = stands_self w s g j n h st in
    let same = first_of w s g j n h st zero_is in
    let here = all_here n w.count from part g (Some parts) f.few same all in
    let there : PartThere g.round s from part = record { came = subst (λ r. r ≤ length (s.came from)) mail.current_one mail.came; brought = ap (part_at s from) (sym mail.current_one) ∙ sym mail.brought } in
    let col = collected w.count g s from part parts (there_put w.count g s from part there h.gathered) h.nodes here in
    let none_g : g.parts from ≡ None = sym (ap (λ (y : Gathering). y.parts from) same) ∙ awaits_none from n.gathering a in
    let first = waits_first w.count g (activities w) n from round part parts f a all in
    let awaited : round_awaited n.activity ≡ Some (record { round = mine; kind = k }) = ap round_awaited x in
    let again : round_awaited n.activity ≡ Some (record { round = n.gathering.round; kind = first.0 }) = ap round_awaited first.1 in
    let is_mine : mine ≡ n.gathering.round = round_same (record { round = mine; kind = k }) (record { round = n.gathering.round; kind = first.0 }) (sym awaited ∙ again) in
    let is_round : mine ≡ g.round = is_mine ∙ ap (λ (y : Gathering). y.round) same in
    let full : (i r : ℕ) → i < w.count → came (token i r) n.me cause + gathered i r n.gathering ≡ of_round g.round r = λ i r small.
    let y = full_gathered i r w.count from part parts g none_g here small in
    let it : (if from == i then of_round round r else 0) ≡ (if from == i then of_round g.round r else 0) = ap (λ z. if from == i then of_round z r else 0) f.heard.2 in
    let z : gathered i r n.gathering ≡ gathered i r g = ap (gathered i r) same in omega arith in
    let wait : OthersWait w j g.round = others_wait w g j n cause f me zero_is same (λ i small y. let l = full i g.round small in let one = one_round g.round in omega arith) in
    let c : RoundCall = record { round = mine; kind = k } in
    let told = told_is g.round s n.me n c w.count parts own awaited h.nodes (subst (λ r. Collected w.count r s parts) (sym is_round) col) in
    let gone : Spent w j n = record { came = λ i r. came (token i r) n.me cause; loads = loads; all = λ i r small. part_spent w g j n cause st.me zero_is wait r (ap (waits_round r) (sym st.activity ∙ x) ∙ ap (λ y. of_round y r) is_round) i small (full i r small) } in (
      record {
        gathering = next_round g;
        story = story_ends w s s g j n e o mine k parts h st zero_is frame tokens (grows_same s s refl refl) (record { came = λ i y. refl; told = λ i y. refl }) col wait gone is_round refl
            (told_after_wait g.round s n mine k (fold_of parts) o.node own awaited refl refl (g.round + 1) (ap (λ r. r + 1) is_round)) (ap (λ r. results n r (fold_of parts)) (sym is_mine));
      },
      (fits_result s n.me mine k (fold_of parts) told.0 told.1, tt),
    )
round_story w s g j n e cause o (part_last_idle from round part parts idle a all) h st free f mail loads frame tokens =
    let first = waits_first w.count g (activities w) n from round part parts f a all in absurd (idle n.gathering.round first.0 first.1)
round_story w s g j n e cause o (result_comes from round fold k x) h st free f mail loads frame tokens =
    let own = stands_self w s g j n h st in
    let awaited : round_awaited n.activity ≡ Some (record { round = round; kind = k }) = ap round_awaited x in
    let at = waits_as g.round s n (record { round = round; kind = k }) own awaited in
    let own_is = at.own in
    let told = at.told in
    let came = own.came in (
      record { gathering = g; story = story_told w s g j n e o round k fold h st frame tokens mail.before refl (told_after_wait g.round s n round k fold o.node own awaited refl refl g.round mail.before) refl },
      (fits_result s n.me round k fold (record { full = (omega arith, omega arith, λ a small. mail.all_came a (subst (λ z. a < z) h.nodes small)); gives = mail.gives }) (at.kind ∙ ap (λ r. kind_of (part_at s n.me r)) (sym own_is)), tt),
    )
