-- A world and its players stand for a run on its way, and a choice of a turn that may be taken.
use Rattle.std.specs.Prelude.{◌≡◌, ℕ, ◌<◌, true, List, [], ◌∷◌, length, slice_index_or}
use Rattle.std.specs.List.{All}
use Rattle.crl_model.specs.declared.choice.Choice.{Choice}
use Rattle.crl_model.specs.declared.choice.Choice.TheVariants as choice
use Rattle.crl_model.specs.declared.event.Event.TheVariants as event
use Rattle.crl_model.specs.declared.statement.Statement.{Statement}
use Rattle.crl_protocol.specs.Node.{Free}
use Rattle.crl_protocol.specs.World.{World, is_enabled}
use Rattle.crl_protocol.specs.Chosen.{Running, takes_choice}
use Rattle.crl_run.specs.PlayerState.{PlayerState}
use Rattle.crl_run.specs.Acting.{IsShort}
use Rattle.crl_run.specs.Staging.{IsOnItsWay, AllStand, CallsMayCome}

-- the player of a node
abbrev pub player_of : List PlayerState → ℕ → PlayerState
player_of players i = slice_index_or players i (record { place = 0; guards = []; room = 0 })

-- The world is the run's, and the players stand for it.
pub record StandsFor (capacity : ℕ) (blocks : List (List Statement)) (r : Running) (w : World) (players : List PlayerState) : Type 0 where
  pub world : w ≡ r.world
  pub all : AllStand (length players) capacity blocks r (player_of players)

-- the choice is one of this run
abbrev pub IsPossible : Running → Choice → Type 0
IsPossible r (choice.Statement i) = (i < r.world.count) × ((r.world.nodes i).activity ≡ Free) × (s : Statement) × (left : List Statement) × ((r.actors i).left ≡ s ∷ left)
IsPossible r (choice.Collect i) = is_enabled (event.Collect i) r.world ≡ true
IsPossible r (choice.Handle i place) = is_enabled (event.Handle i place) r.world ≡ true
IsPossible r (choice.Carry i place) = is_enabled (event.Carry i place) r.world ≡ true

-- They stand for a run on its way, of which this is a choice.
pub record CanChoose (capacity : ℕ) (blocks : List (List Statement)) (r : Running) (w : World) (players : List PlayerState) (c : Choice) : Type 0 where
  pub stands : StandsFor capacity blocks r w players
  pub way : IsOnItsWay (length players) capacity r
  pub calls : CallsMayCome (length players) capacity blocks r
  pub possible : IsPossible r c

abbrev pub SomeCanChoose : List (List Statement) → World → List PlayerState → Choice → Type 0
SomeCanChoose blocks w players c = (capacity : ℕ) × (r : Running) × CanChoose capacity blocks r w players c

-- Of each such run the choice is taken.
abbrev pub HasChosen : List (List Statement) → World → List PlayerState → Choice → World → List PlayerState → Type 0
HasChosen blocks w players c v then = (capacity : ℕ) (r : Running) → CanChoose capacity blocks r w players c → StandsFor capacity blocks (takes_choice c r) v then × (length then ≡ length players)

abbrev pub AreShort : List (List Statement) → Type 0
AreShort blocks = All (λ block. All IsShort block) blocks
