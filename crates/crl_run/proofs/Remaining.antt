-- Of which nodes statements are left after a choice: of the others as before.
use Rattle.std.proofs.Common.{◌≡◌, ◌∙◌, sym, ap, refl, ◌==◌, ◌<◌, Bool, true, false, not, if◌then◌else◌, ℕ, List, [], ◌∷◌, length, drop, set, get_or, subst}
use Rattle.std.proofs.lemmas.Bool.{eqb-true, eqb-false}
use Rattle.std.proofs.lemmas.List.{length-set, get_or-set_same, get_or-set_other}
use Rattle.crl_model.specs.declared.call.Call.{Call}
use Rattle.crl_model.specs.declared.choice.Choice.{Choice}
use Rattle.crl_model.specs.declared.choice.Choice.TheVariants as choice
use Rattle.crl_model.specs.declared.event.Event.{Event}
use Rattle.crl_model.specs.declared.event.Event.TheVariants as event
use Rattle.crl_model.specs.declared.statement.Statement.{Statement}
use Rattle.crl_model.specs.Names.{at_node}
use Rattle.crl_protocol.specs.Home.{is_empty}
use Rattle.crl_protocol.specs.Verdict.{verdict}
use Rattle.crl_protocol.specs.World.{World}
use Rattle.crl_protocol.specs.Chosen.{Actor, Running, block_of, is_change, is_allowed, after_change, makes_call, takes_statement, takes_choice, goes_on, with_actor}
use Rattle.crl_run.specs.PlayerState.{PlayerState}
use Rattle.crl_run.specs.Playing.{player_of, IsPossible, SomeCanChoose, HasChosen}
use Rattle.crl_run.specs.Turning.{SayWhatIsLeft, node_of}
use Rattle.crl_run.proofs.Playing.{counted}
use Rattle.crl_deeds.proofs.Laws.{collect_node, handle_node, carry_node}

at_other : {X : Type 0} (f : ℕ → X) (i j : ℕ) (x : X) → (i == j) ≡ false → at_node f i x j ≡ f j
at_other f i j x other = ap (λ b. if b then x else f j) other

module _ (i j : ℕ) (other : (i == j) ≡ false) where
  goes_other : (r : Running) (e : Event) → (goes_on i e r).actors j ≡ r.actors j
  goes_other r e = at_other r.actors i j _ other

  with_other : (r : Running) (a : Actor) → (with_actor i a r).actors j ≡ r.actors j
  with_other r a = at_other r.actors i j a other

  call_other : (r : Running) (s : Statement) (c : Call) → (makes_call i s c r).actors j ≡ r.actors j
  call_other r s c = go (is_change s) (is_allowed (verdict (r.world.nodes i) c))
    where
      go : (changes allowed : Bool) → (if changes then (if allowed then with_actor i (after_change s (r.actors i)) r else goes_on i (event.Call i c) r) else goes_on i (event.Call i c) r).actors j ≡ r.actors j
      go true true = with_other r (after_change s (r.actors i))
      go true false = goes_other r (event.Call i c)
      go false allowed = goes_other r (event.Call i c)

  statement_other : (r : Running) (left : List Statement) → (takes_statement i left r).actors j ≡ r.actors j
  statement_other r [] = refl
  statement_other r (s ∷ left) = call_other (with_actor i (record (r.actors i) { left = left }) r) s _ ∙ with_other r _

-- a choice changes the place in its script of its own node alone
choice_other : (c : Choice) (r : Running) (j : ℕ) → (node_of c == j) ≡ false → (takes_choice c r).actors j ≡ r.actors j
unfolding takes_choice
choice_other (choice.Statement i) r j other = statement_other i j other r (r.actors i).left
choice_other (choice.Collect i) r j other = goes_other i j other r (event.Collect i)
choice_other (choice.Handle i place) r j other = goes_other i j other r (event.Handle i place)
choice_other (choice.Carry i place) r j other = goes_other i j other r (event.Carry i place)

-- the node of a choice is there
possible_node : (c : Choice) (r : Running) → IsPossible r c → node_of c < r.world.count
possible_node (choice.Statement i) r may = may.0
possible_node (choice.Collect i) r may = collect_node i r.world may
possible_node (choice.Handle i place) r may = handle_node i place r.world may
possible_node (choice.Carry i place) r may = carry_node i place r.world may

pub node_there : (blocks : List (List Statement)) (w : World) (players : List PlayerState) (c : Choice) → SomeCanChoose blocks w players c → node_of c < length players
node_there blocks w players c (capacity, r, can) =
    subst (λ n. node_of c < n) (ap (λ (x : World). x.count) (sym can.stands.world) ∙ counted capacity blocks r w players can.stands can.way) (possible_node c r can.possible)

module _ (blocks : List (List Statement)) (w v : World) (players later : List PlayerState) (c : Choice) (chosen : HasChosen blocks w players c v later) where
  abbrev says_of : List PlayerState → ℕ → Bool
  says_of ps j = not (is_empty (drop (player_of ps j).place (block_of blocks j)))

  other_stays : SomeCanChoose blocks w players c → (j : ℕ) → j < length players → (node_of c == j) ≡ false → says_of players j ≡ says_of later j
  other_stays (capacity, r, can) j lt other =
      let done = chosen capacity r can in
      let lt' : j < length later = subst (λ n. j < n) (sym done.1) lt in
      ap (λ l. not (is_empty l)) (sym (can.stands.all j lt).actor.left ∙ ap (λ (a : Actor). a.left) (sym (choice_other c r j other)) ∙ (done.0.all j lt').actor.left)

  pub many_stay : SomeCanChoose blocks w players c → length later ≡ length players
  many_stay (capacity, r, can) = (chosen capacity r can).1

  pub left_then : SomeCanChoose blocks w players c → (left : List Bool) → SayWhatIsLeft blocks players left → SayWhatIsLeft blocks later (set left (node_of c) (says_of later (node_of c)))
  left_then can left says = record { many = length-set left (node_of c) _ ∙ says.many ∙ sym (many_stay can); says = λ j few. go j few (node_of c == j) refl }
    where
      go : (j : ℕ) → j < length later → (b : Bool) → (node_of c == j) ≡ b → get_or (set left (node_of c) (says_of later (node_of c))) j false ≡ says_of later j
      go j few true e =
          subst (λ k. get_or (set left (node_of c) (says_of later (node_of c))) k false ≡ says_of later k) (eqb-true (node_of c) j e)
          (get_or-set_same left (node_of c) (says_of later (node_of c)) false (subst (λ n. node_of c < n) (sym says.many) (node_there blocks w players c can)))
      go j few false e =
          get_or-set_other left (node_of c) j (says_of later (node_of c)) false (λ same. eqb-false (node_of c) j e (sym same))
          ∙ says.says j (subst (λ n. j < n) (many_stay can) few) ∙ other_stays can j (subst (λ n. j < n) (many_stay can) few) e
