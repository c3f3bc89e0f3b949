-- The choices of a turn, and the turn that is taken.
use Rattle.std.proofs.Common.{◌≡◌, ◌∙◌, sym, ap, refl, ◌+◌, ◌<◌, ◌%◌, Bool, true, false, Some, ℕ, zero, suc, List, [], ◌∷◌, length, get_or, subst, arith}
use Rattle.std.specs.Prelude.{not, slice_get}
use Rattle.std.specs.List.{AllByRecursion}
use Rattle.std.proofs.lemmas.Bool.{and_from, lt-ltb}
use Rattle.crl_model.specs.declared.choice.Choice.{Choice}
use Rattle.crl_model.specs.declared.statement.Statement.{Statement}
use Rattle.crl_protocol.specs.Parcels.{Piece}
use Rattle.crl_protocol.specs.Home.{is_empty}
use Rattle.crl_protocol.specs.Node.{Activity, Free, Waiting, Ready}
use Rattle.crl_protocol.specs.World.{World, is_enabled, is_ready}
use Rattle.crl_protocol.specs.Chosen.{Running, next_of, nexts_from, handles_of, handles_from, carries_of, choices, takes_choice, takes_choice_at, turn}
use Rattle.crl_deeds.proofs.Laws.{all_append, all_gathered, nexts_gather, handles_gather, carries_gather}
use Rattle.crl_world.specs.Choosing.{choices_by, left_in, has_some}
use Rattle.crl_world.proofs.Laws.{choices_of_run}
use Rattle.crl_run.specs.PlayerState.{PlayerState}
use Rattle.crl_run.specs.Playing.{IsPossible, CanChoose, SomeCanChoose, HasChosen, StandsFor}
use Rattle.crl_run.specs.Turning.{SayWhatIsLeft, IsNextOf, IsTurn, SomeTurn, TurnIsTaken}
use Rattle.crl_run.proofs.Playing.{counted}
use Rattle.crl_order.specs.declared.order.Order.{Order}
use Rattle.crl_order.specs.Words.{words_to_come}

-- Each choice of a turn may be taken.
next_all : (r : Running) (i : ℕ) (left : List Statement) (a : Activity) → (r.actors i).left ≡ left → (r.world.nodes i).activity ≡ a → i < r.world.count → AllByRecursion (IsPossible r) (next_of i left a)
unfolding is_enabled
next_all r i [] Free l e h = tt
next_all r i (s ∷ left) Free l e h = ((h, e, s, left, l), tt)
next_all r i left (Waiting awaited) l e h = tt
next_all r i left (Ready answer) l e h = (and_from _ _ (lt-ltb i r.world.count h) (ap is_ready e), tt)

handles_all : (r : Running) (i place : ℕ) (ms : List Piece) → i < r.world.count → place + length ms ≡ length (r.world.nodes i).inbox → AllByRecursion (IsPossible r) (handles_of i place ms)
unfolding is_enabled
handles_all r i place [] h e = tt
handles_all r i place (m ∷ ms) h e =
    (and_from _ _ (lt-ltb i r.world.count h) (lt-ltb place (length (r.world.nodes i).inbox) (omega arith)), handles_all r i (place + 1) ms h (omega arith))

carries_all : (r : Running) (i place : ℕ) (ms : List Piece) → i < r.world.count → place + length ms ≡ length (r.world.nodes i).outbox → AllByRecursion (IsPossible r) (carries_of i place ms)
unfolding is_enabled
carries_all r i place [] h e = tt
carries_all r i place (m ∷ ms) h e =
    (and_from _ _ (lt-ltb i r.world.count h) (lt-ltb place (length (r.world.nodes i).outbox) (omega arith)), carries_all r i (place + 1) ms h (omega arith))

choices_all : (r : Running) → AllByRecursion (IsPossible r) (choices r)
choices_all r =
    all_append (IsPossible r) (nexts_from 0 r.world.count r) _
    (subst (λ cs. AllByRecursion (IsPossible r) cs) (sym (nexts_gather r 0 r.world.count))
    (all_gathered (IsPossible r) _ 0 r.world.count r.world.count (omega arith) (λ j h. next_all r j (r.actors j).left (r.world.nodes j).activity refl refl h)))
    (all_append (IsPossible r) (handles_from 0 r.world.count r) _
    (subst (λ cs. AllByRecursion (IsPossible r) cs) (sym (handles_gather r 0 r.world.count))
    (all_gathered (IsPossible r) _ 0 r.world.count r.world.count (omega arith) (λ j h. handles_all r j 0 (r.world.nodes j).inbox h (omega arith))))
    (subst (λ cs. AllByRecursion (IsPossible r) cs) (sym (carries_gather r 0 r.world.count))
    (all_gathered (IsPossible r) _ 0 r.world.count r.world.count (omega arith) (λ j h. carries_all r j 0 (r.world.nodes j).outbox h (omega arith)))))

pub at_get : {A : Type 0} (P : A → Type 0) (xs : List A) (k : ℕ) (x : A) → AllByRecursion P xs → slice_get xs k ≡ Some x → P x
at_get P [] k x h e = cc
at_get P (y ∷ xs) zero x h e = subst P (inside e) h.0
  where
    inside : Some y ≡ Some x → y ≡ x
    inside e = cc
at_get P (y ∷ xs) (suc k) x h e = at_get P xs k x h.1 e

get_is : {A : Type 0} (xs : List A) (k : ℕ) (x d : A) → slice_get xs k ≡ Some x → get_or xs k d ≡ x
get_is [] k x d e = cc
get_is (y ∷ xs) zero x d e = cc
get_is (y ∷ xs) (suc k) x d e = get_is xs k x d e

-- the turn takes this choice
turn_takes : (word : ℕ) (r : Running) (cs : List Choice) (c : Choice) → slice_get cs (word % length cs) ≡ Some c → takes_choice_at word cs r ≡ takes_choice c r
turn_takes word r [] c e = cc
turn_takes word r (x ∷ cs) c e = ap (λ d. takes_choice d r) (get_is (x ∷ cs) (word % length (x ∷ cs)) c x e)

some_left : (l : List Statement) → not (is_empty l) ≡ has_some l
some_left [] = refl
some_left (s ∷ l) = refl

module _ (capacity : ℕ) (blocks : List (List Statement)) (r : Running) (w : World) (players : List PlayerState) (t : IsTurn capacity blocks r w players) (left : List Bool) (says : SayWhatIsLeft blocks players left) where
  same_choices : choices_by (left_in left) w ≡ choices r
  same_choices = ap (λ (x : World). choices_by (left_in left) x) t.stands.world ∙ choices_of_run r (left_in left)
      (λ i below.
      let lt : i < length players = subst (λ n. i < n) (ap (λ (x : World). x.count) (sym t.stands.world) ∙ counted capacity blocks r w players t.stands t.way) below in
      says.says i lt ∙ some_left _ ∙ ap has_some (sym (t.stands.all i lt).actor.left))

  can_choose : (k : ℕ) (c : Choice) → slice_get (choices_by (left_in left) w) k ≡ Some c → CanChoose capacity blocks r w players c
  can_choose k c e = record {
    stands = t.stands;
    way = t.way;
    calls = t.calls;
    possible = at_get (IsPossible r) (choices r) k c (choices_all r) (ap (λ cs. slice_get cs k) (sym same_choices) ∙ e);
  }

  taken : (word : ℕ) (c : Choice) → slice_get (choices_by (left_in left) w) (word % length (choices_by (left_in left) w)) ≡ Some c → turn word r ≡ takes_choice c r
  taken word c e = turn_takes word r (choices r) c (ap (λ cs. slice_get cs (word % length cs)) (sym same_choices) ∙ e)

module _ (blocks : List (List Statement)) (w : World) (players : List PlayerState) (left : List Bool) (says : SayWhatIsLeft blocks players left) where
  pub turn_counted : SomeTurn blocks w players → length left ≡ w.count
  turn_counted (capacity, r, t) = says.many ∙ sym (counted capacity blocks r w players t.stands t.way)

  pub turn_can : (order order' : Order) (c : Choice) → IsNextOf (choices_by (left_in left) w) order order' c → SomeTurn blocks w players → SomeCanChoose blocks w players c
  turn_can order order' c next (capacity, r, t) = (capacity, r, can_choose capacity blocks r w players t left says _ c next.found)

  pub turn_over : (order order' : Order) → choices_by (left_in left) w ≡ [] → TurnIsTaken blocks w players order false w players order'
  turn_over order order' none capacity r t = (sym (same_choices capacity blocks r w players t left says) ∙ none, refl, refl)

  pub turn_done : (order order' : Order) (v : World) (then : List PlayerState) (c : Choice) → IsNextOf (choices_by (left_in left) w) order order' c → HasChosen blocks w players c v then → TurnIsTaken blocks w players order true v then order'
  turn_done order order' v then c next chosen capacity r t =
      let done = chosen capacity r (can_choose capacity blocks r w players t left says _ c next.found) in
      (subst (λ x. StandsFor capacity blocks x v then) (sym (taken capacity blocks r w players t left says (words_to_come order 1) c next.found)) done.0, done.1, next.given)
