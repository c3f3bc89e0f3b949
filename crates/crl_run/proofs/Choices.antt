-- A choice of a turn: what it needs, and the run after it.
use Rattle.std.proofs.Common.{◌≡◌, ◌∙◌, sym, ap, refl, ◌<◌, ◌≤◌, ◌^◌, true, Option, Some, None, ℕ, zero, suc, List, [], ◌∷◌, length, drop, set, get_or, subst, arith}
use Rattle.std.specs.List.{All}
use Rattle.std.proofs.lemmas.List.{length-set}
use Rattle.crl_model.specs.declared.call.Call.{Call}
use Rattle.crl_model.specs.declared.choice.Choice.{Choice}
use Rattle.crl_model.specs.declared.choice.Choice.TheVariants as choice
use Rattle.crl_model.specs.declared.event.Event.TheVariants as event
use Rattle.crl_model.specs.declared.statement.Statement.{Statement}
use Rattle.crl_protocol.specs.Places.{take_out}
use Rattle.crl_protocol.specs.Node.{Activity, Free}
use Rattle.crl_protocol.specs.Verdict.{verdict}
use Rattle.crl_protocol.specs.World.{World, step, is_enabled, is_free}
use Rattle.crl_protocol.specs.Chosen.{Running, takes_choice, block_of}
use Rattle.crl_talk.specs.Guards.{Given}
use Rattle.crl_member.specs.Members.{TakenIsSafe, TakenIsInTable}
use Rattle.crl_world.specs.Seen.{NodesAreSafe}
use Rattle.crl_world.specs.Stepping.{GoesElsewhere}
use Rattle.crl_run.specs.declared.act.Act.{Act}
use Rattle.crl_run.specs.declared.act.Act.TheVariants as act
use Rattle.crl_run.specs.PlayerState.{PlayerState}
use Rattle.crl_run.specs.Acting.{IsShort, Acts}
use Rattle.crl_run.specs.Actors.{asked_call, call_made}
use Rattle.crl_run.specs.Staging.{AfterTaken}
use Rattle.crl_run.specs.Making.{IsKeptFrom, CallOfAct, IsMade, MayTake, HasTaken}
use Rattle.crl_run.specs.Playing.{player_of, StandsFor, IsPossible, CanChoose, SomeCanChoose, HasChosen, AreShort}
use Rattle.crl_run.proofs.Playing.{counted, all_safe, piece_safe, piece_leaves, piece_framed, all_put, after_answer, after_handle, after_carry}
use Rattle.crl_run.proofs.Taken.{AfterMade, statement_can, statement_fits, statement_taken, statement_made}
use Rattle.crl_run.proofs.Unguarded.{IsUnguarded, act_unguarded}

module _ (blocks : List (List Statement)) (w : World) (players : List PlayerState) (c : Choice) where
  pub some_counted : SomeCanChoose blocks w players c → w.count ≡ length players
  some_counted (capacity, r, k) = counted capacity blocks r w players k.stands k.way

  pub some_safe : SomeCanChoose blocks w players c → w.events < 2 ^ 62 → NodesAreSafe w
  some_safe (capacity, r, k) few = all_safe capacity blocks r w players k.stands k.way few

  pub some_piece : SomeCanChoose blocks w players c → (i place : ℕ) → i < w.count → TakenIsSafe (w.nodes i) (take_out place (w.nodes i).inbox)
  some_piece (capacity, r, k) i place below = piece_safe capacity blocks r w players k.stands k.way i place below

  pub some_leaves : SomeCanChoose blocks w players c → (i place : ℕ) → i < w.count → GoesElsewhere i w.count (take_out place (w.nodes i).outbox)
  some_leaves (capacity, r, k) i place below = piece_leaves capacity blocks r w players k.stands k.way i place below

  pub some_framed : SomeCanChoose blocks w players c → w.events < 2 ^ 62 → (i place : ℕ) → i < w.count → w.count ≤ 64 → TakenIsInTable (take_out place (w.nodes i).outbox)
  some_framed (capacity, r, k) few i place below = piece_framed capacity blocks r w players k.stands k.way few i place below

  possible_of : (capacity : ℕ) (r : Running) → CanChoose capacity blocks r w players c → (d : Choice) → c ≡ d → IsPossible r d
  possible_of capacity r k d e = subst (λ x. IsPossible r x) e k.possible

  pub collect_may : (i : ℕ) → c ≡ choice.Collect i → SomeCanChoose blocks w players c → is_enabled (event.Collect i) w ≡ true
  collect_may i e (capacity, r, k) = subst (λ (x : World). is_enabled (event.Collect i) x ≡ true) (sym k.stands.world) (possible_of capacity r k (choice.Collect i) e)

  pub handle_may : (i place : ℕ) → c ≡ choice.Handle i place → SomeCanChoose blocks w players c → is_enabled (event.Handle i place) w ≡ true
  handle_may i place e (capacity, r, k) = subst (λ (x : World). is_enabled (event.Handle i place) x ≡ true) (sym k.stands.world) (possible_of capacity r k (choice.Handle i place) e)

  pub carry_may : (i place : ℕ) → c ≡ choice.Carry i place → SomeCanChoose blocks w players c → is_enabled (event.Carry i place) w ≡ true
  carry_may i place e (capacity, r, k) = subst (λ (x : World). is_enabled (event.Carry i place) x ≡ true) (sym k.stands.world) (possible_of capacity r k (choice.Carry i place) e)

  pub answer_chosen : (v : World) (i : ℕ) (q : PlayerState) → c ≡ choice.Collect i → IsKeptFrom (event.Collect i) w v (player_of players i).place (player_of players i).guards q → HasChosen blocks w players c v (set players i q)
  answer_chosen v i q e kept capacity r k = (
    subst (λ d. StandsFor capacity blocks (takes_choice d r) v (set players i q)) (sym e)
        (after_answer capacity blocks r w players k.stands k.way v i q (collect_may i e (capacity, r, k)) kept),
    length-set players i q,
  )

  pub handle_chosen : (v : World) (i place : ℕ) → c ≡ choice.Handle i place → v ≡ (step (event.Handle i place) w).world → HasChosen blocks w players c v players
  handle_chosen v i place e is capacity r k = (
    subst (λ d. StandsFor capacity blocks (takes_choice d r) v players) (sym e)
        (after_handle capacity blocks r w players k.stands k.way v i place (handle_may i place e (capacity, r, k)) is),
    refl,
  )

  pub carry_chosen : (v : World) (i place : ℕ) → c ≡ choice.Carry i place → v ≡ (step (event.Carry i place) w).world → HasChosen blocks w players c v players
  carry_chosen v i place e is capacity r k = (
    subst (λ d. StandsFor capacity blocks (takes_choice d r) v players) (sym e)
        (after_carry capacity blocks r w players k.stands k.way v i place (carry_may i place e (capacity, r, k)) is),
    refl,
  )

-- The next statement of a node.
free_of : (a : Activity) → a ≡ Free → is_free a ≡ true
free_of a e = ap is_free e

call_of_act : (i : ℕ) (w : World) (a : Act) → ((c : Call) → call_made a ≡ Some c → is_enabled (event.Call i c) w ≡ true) → IsUnguarded (w.nodes i) a → CallOfAct i w a
call_of_act i w (act.Call c) come un = record { enabled = come c refl; unguarded = un }
call_of_act i w (act.EndRead g) come un = tt
call_of_act i w (act.EndWrite g) come un = tt
call_of_act i w act.Inside come un = tt

drop_within : {A : Type 0} (k : ℕ) (xs : List A) (x : A) (rest : List A) → drop k xs ≡ x ∷ rest → k < length xs
drop_within zero (y ∷ xs) x rest e = omega arith
drop_within (suc k) (y ∷ xs) x rest e = let h = drop_within k xs x rest e in omega arith
drop_within zero [] x rest e = cc
drop_within (suc k) [] x rest e = cc

module _ (capacity : ℕ) (blocks : List (List Statement)) (r : Running) (w : World) (players : List PlayerState) (i : ℕ) (k : CanChoose capacity blocks r w players (choice.Statement i)) where
  below : i < length players
  below = subst (λ n. i < n) (ap (λ (x : World). x.count) (sym k.stands.world) ∙ counted capacity blocks r w players k.stands k.way) k.possible.0

  pub left_within : (player_of players i).place < length (block_of blocks i)
  left_within = drop_within (player_of players i).place (block_of blocks i) k.possible.2 k.possible.3 (sym (k.stands.all i below).actor.left ∙ k.possible.4)

  module _ (s : Statement) (next : drop (player_of players i).place (block_of blocks i) ≡ s ∷ drop (suc (player_of players i).place) (block_of blocks i)) where
    may_come : (a : Act) (new : List Given) → Acts (verdict (r.world.nodes i) (asked_call s)) s (player_of players i).guards a new → (c : Call) → call_made a ≡ Some c → is_enabled (event.Call i c) r.world ≡ true
    may_come a new acts c e =
        let made : AfterMade (length players) capacity blocks r k.way (player_of players) k.stands.all i below k.possible.1 s next (Some c) =
        subst (λ o. AfterMade (length players) capacity blocks r k.way (player_of players) k.stands.all i below k.possible.1 s next o) e
        (statement_made (length players) capacity blocks r k.way (player_of players) k.stands.all i below k.possible.1 s next a new acts) in
        made.1 k.calls k.possible.0

    take_there : MayTake i s r.world (player_of players i).guards
    take_there =
        let can = statement_can (length players) capacity blocks r k.way (player_of players) k.stands.all i below k.possible.1 s next in
        record {
          can = can;
          made = λ a new acts. record {
            free = free_of (r.world.nodes i).activity k.possible.1;
            fits = statement_fits (length players) capacity blocks r k.way (player_of players) k.stands.all i below k.possible.1 s next a new acts;
            call = call_of_act i r.world a (may_come a new acts) (act_unguarded (r.world.nodes i) (player_of players i).guards new s a can acts);
          };
        }

    pub may_take : MayTake i s w (player_of players i).guards
    may_take = subst (λ (x : World). MayTake i s x (player_of players i).guards) (sym k.stands.world) take_there

    module _ (v : World) (q : PlayerState) where
      made_chosen : (a : Act) (new : List Given) → Acts (verdict (r.world.nodes i) (asked_call s)) s (player_of players i).guards a new → IsMade i (call_made a) r.world v (suc (player_of players i).place) new q
          → StandsFor capacity blocks (takes_choice (choice.Statement i) r) v (set players i q)
      made_chosen a new acts made = go (call_made a) (statement_taken (length players) capacity blocks r k.way (player_of players) k.stands.all i below k.possible.1 s next a new acts)
          (statement_made (length players) capacity blocks r k.way (player_of players) k.stands.all i below k.possible.1 s next a new acts) made
        where
          go : (o : Option Call) → AfterTaken (length players) capacity blocks r (player_of players) i new o → AfterMade (length players) capacity blocks r k.way (player_of players) k.stands.all i below k.possible.1 s next o
              → IsMade i o r.world v (suc (player_of players i).place) new q → StandsFor capacity blocks (takes_choice (choice.Statement i) r) v (set players i q)
          go None taken there m = record {
            world = m.0 ∙ sym there;
            all = all_put capacity blocks (takes_choice (choice.Statement i) r) players i q below (taken q m.1 m.2);
          }
          go (Some c) taken there m = record {
            world = m.world ∙ sym there.0;
            all = all_put capacity blocks (takes_choice (choice.Statement i) r) players i q below (taken q m.place m.guards (there.1 k.calls k.possible.0));
          }

      taken_chosen : HasTaken i s r.world v (player_of players i) q → StandsFor capacity blocks (takes_choice (choice.Statement i) r) v (set players i q)
      taken_chosen h = made_chosen h.act h.guards h.acts h.made

      pub statement_chosen : HasTaken i s w v (player_of players i) q → StandsFor capacity blocks (takes_choice (choice.Statement i) r) v (set players i q)
      statement_chosen h = taken_chosen (subst (λ (x : World). HasTaken i s x v (player_of players i) q) k.stands.world h)

-- the statements are short
pub short_there : (blocks : List (List Statement)) (i place : ℕ) (s : Statement) (rest : List Statement) → AreShort blocks → i < length blocks → drop place (block_of blocks i) ≡ s ∷ rest → IsShort s
short_there blocks i place s rest all below e = at_place (block_of blocks i) place (all i [] below) e
  where
    at_place : (xs : List Statement) (place : ℕ) → All IsShort xs → drop place xs ≡ s ∷ rest → IsShort s
    at_place [] zero all e = cc
    at_place [] (suc n) all e = cc
    at_place (x ∷ xs) zero all e = let h : IsShort x = all 0 x (omega arith) in go refl h
      where
        go : {y : Statement} → x ≡ y → IsShort y → IsShort s
        go same h = subst (λ z. IsShort z) (sym same ∙ ap (λ l. get_or l 0 s) e) h
    at_place (x ∷ xs) (suc n) all e = at_place xs n (λ k d lt. all (suc k) d (omega arith)) e

module _ (blocks : List (List Statement)) (w : World) (players : List PlayerState) (i : ℕ) where
  pub some_below : SomeCanChoose blocks w players (choice.Statement i) → i < length players
  some_below (capacity, r, k) = below capacity blocks r w players i k

  pub some_within : SomeCanChoose blocks w players (choice.Statement i) → (player_of players i).place < length (block_of blocks i)
  some_within (capacity, r, k) = left_within capacity blocks r w players i k

  pub some_take : SomeCanChoose blocks w players (choice.Statement i) → (s : Statement) → drop (player_of players i).place (block_of blocks i) ≡ s ∷ drop (suc (player_of players i).place) (block_of blocks i) → MayTake i s w (player_of players i).guards
  some_take (capacity, r, k) s next = may_take capacity blocks r w players i k s next

  pub statement_done : (s : Statement) → drop (player_of players i).place (block_of blocks i) ≡ s ∷ drop (suc (player_of players i).place) (block_of blocks i) → (v : World) (q : PlayerState) → HasTaken i s w v (player_of players i) q
      → HasChosen blocks w players (choice.Statement i) v (set players i q)
  statement_done s next v q h capacity r k = (statement_chosen capacity blocks r w players i k s next v q h, length-set players i q)
