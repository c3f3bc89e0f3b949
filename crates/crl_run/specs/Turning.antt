-- A turn of a run.
use Rattle.std.specs.Prelude.{◌≡◌, ℕ, suc, ◌+◌, ◌<◌, ◌%◌, Bool, true, false, not, List, [], length, drop, slice_get, slice_index_or}
use Rattle.std.specs.declared.option.Option.TheVariants.{Some}
use Rattle.crl_model.specs.declared.choice.Choice.{Choice}
use Rattle.crl_model.specs.declared.choice.Choice.TheVariants as choice
use Rattle.crl_model.specs.declared.statement.Statement.{Statement}
use Rattle.crl_protocol.specs.Home.{is_empty}
use Rattle.crl_protocol.specs.World.{World}
use Rattle.crl_protocol.specs.Chosen.{Running, block_of, choices, turn, IsChosen}
use Rattle.crl_deeds.specs.Laws.{chosen}
use Rattle.crl_order.specs.declared.order.Order.{Order}
use Rattle.crl_order.specs.Words.{words_to_come}
use Rattle.crl_run.specs.Words.{words_then}
use Rattle.crl_run.specs.PlayerState.{PlayerState}
use Rattle.crl_run.specs.Staging.{IsOnItsWay, CallsMayCome}
use Rattle.crl_run.specs.Playing.{player_of, StandsFor}

-- the list says of so many nodes whether they have a statement left
pub record SayOfSome (blocks : List (List Statement)) (players : List PlayerState) (count : ℕ) (left : List Bool) : Type 0 where
  pub many : length left ≡ count
  pub says : (i : ℕ) → i < count → slice_index_or left i false ≡ not (is_empty (drop (player_of players i).place (block_of blocks i)))

abbrev pub SayWhatIsLeft : List (List Statement) → List PlayerState → List Bool → Type 0
SayWhatIsLeft blocks players left = SayOfSome blocks players (length players) left

-- A world and players stand for a run on its way.
pub record IsTurn (capacity : ℕ) (blocks : List (List Statement)) (r : Running) (w : World) (players : List PlayerState) : Type 0 where
  pub stands : StandsFor capacity blocks r w players
  pub way : IsOnItsWay (length players) capacity r
  pub calls : CallsMayCome (length players) capacity blocks r

abbrev pub SomeTurn : List (List Statement) → World → List PlayerState → Type 0
SomeTurn blocks w players = (capacity : ℕ) × (r : Running) × IsTurn capacity blocks r w players

-- the order gave its next word
abbrev pub HasGiven : Order → Order → Type 0
HasGiven old new = (p : ℕ) → words_to_come new (suc p) ≡ words_to_come old (suc (suc p))

-- the choice is the one of these that the order's next word chooses
pub record IsNextOf (choices : List Choice) (old new : Order) (c : Choice) : Type 0 where
  pub found : slice_get choices (words_to_come old 1 % length choices) ≡ Some c
  pub given : HasGiven old new

-- the node of a choice
abbrev pub node_of : Choice → ℕ
node_of (choice.Statement i) = i
node_of (choice.Collect i) = i
node_of (choice.Handle i place) = i
node_of (choice.Carry i place) = i

-- They stand for the run after the turn of the next word; or no choice is left, and nothing is changed.
abbrev pub AfterTurn : ℕ → List (List Statement) → Running → World → List PlayerState → Order → Bool → World → List PlayerState → Order → Type 0
AfterTurn capacity blocks r w players order false v then order' = (choices r ≡ []) × (v ≡ w) × (then ≡ players)
AfterTurn capacity blocks r w players order true v then order' = StandsFor capacity blocks (turn (words_to_come order 1) r) v then × (length then ≡ length players) × HasGiven order order'

abbrev pub TurnIsTaken : List (List Statement) → World → List PlayerState → Order → Bool → World → List PlayerState → Order → Type 0
TurnIsTaken blocks w players order more v then order' = (capacity : ℕ) (r : Running) → IsTurn capacity blocks r w players → AfterTurn capacity blocks r w players order more v then order'

-- They stand for what these words choose in so many turns.
abbrev pub IsAt : ℕ → List (List Statement) → (ℕ → ℕ) → ℕ → World → List PlayerState → Type 0
IsAt capacity blocks words k w players = StandsFor capacity blocks (chosen (length players) capacity blocks words k) w players

-- the words to come are those after so many
abbrev pub GoesOnAfter : ℕ → (ℕ → ℕ) → Order → Type 0
GoesOnAfter k words order = (p : ℕ) → words_to_come order (suc p) ≡ words (k + suc p)

-- After so many turns from there, by these words, they stand for what was chosen and what these words choose in as many.
pub record AfterTurns (blocks : List (List Statement)) (rest : ℕ → ℕ) (n : ℕ) (w : World) (players : List PlayerState) (v : World) (then : List PlayerState) (now : Order) : Type 0 where
  pub many : length then ≡ length players
  pub come : (capacity : ℕ) (words : ℕ → ℕ) (k : ℕ) → IsAt capacity blocks words k w players → IsAt capacity blocks (words_then k words rest) (k + n) v then
  pub order : GoesOnAfter n rest now

-- The run that the words choose is over, and they stand for its end.
pub record IsOver (capacity : ℕ) (blocks : List (List Statement)) (words : ℕ → ℕ) (v : World) (then : List PlayerState) : Type 0 where
  pub end : Running
  pub stands : StandsFor capacity blocks end v then
  pub chosen : IsChosen (length then) capacity blocks words end

-- From what some words chose the rest of the words has led to the end.
abbrev pub RunIsOver : List (List Statement) → (ℕ → ℕ) → World → List PlayerState → World → List PlayerState → Type 0
RunIsOver blocks rest w players v then =
    (length then ≡ length players)
    × ((capacity : ℕ) (words : ℕ → ℕ) (k : ℕ) → IsAt capacity blocks words k w players → IsOver capacity blocks (words_then k words rest) v then)
