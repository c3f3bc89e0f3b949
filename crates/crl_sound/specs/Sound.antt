-- What is said of the nodes of every run, and of the pieces in their boxes.
use Rattle.std.specs.Prelude.{◌≡◌, ◌≢◌, ℕ, ◌<◌, List}
use Rattle.std.specs.declared.option.Option.TheVariants.{Some}
use Rattle.crl_model.specs.declared.event.Event.{Event}
use Rattle.crl_protocol.specs.Parcels.{Piece}
use Rattle.crl_protocol.specs.Places.{Taken, take_out}
use Rattle.crl_protocol.specs.World.{World, new_world, world_of, IsRun, IsRunFrom}
use Rattle.crl_safety.specs.Safety.{IsSafe, PieceIsSafe}

-- it holds of so many nodes and their world after any run, and after any run within the limit of a run's events
abbrev pub AfterAnyRun : (ℕ → World → Type 0) → Type 0
AfterAnyRun Holds = (count capacity : ℕ) (run : List Event) → IsRunFrom (new_world count capacity) run → Holds count (world_of count capacity run)

abbrev pub AfterEachRun : (ℕ → World → Type 0) → Type 0
AfterEachRun Holds = (count capacity : ℕ) (run : List Event) → IsRun count capacity run → Holds count (world_of count capacity run)

-- each node has its own number, and knows how many nodes there are
abbrev pub NodesKnowTheirNumber : ℕ → World → Type 0
NodesKnowTheirNumber count w = (i : ℕ) → ((w.nodes i).me ≡ i) × ((w.nodes i).nodes ≡ count)

abbrev pub NodesAreSafe : ℕ → World → Type 0
NodesAreSafe count w = (i : ℕ) → i < count → IsSafe (w.nodes i)

abbrev pub PiecesAreSafe : ℕ → World → Type 0
PiecesAreSafe count w = (i place : ℕ) (t : Taken Piece) → i < count → take_out place (w.nodes i).inbox ≡ Some t → PieceIsSafe (w.nodes i) t.taken

-- the piece is this node's, and for another node of the world
pub record LeavesForOther (count i : ℕ) (p : Piece) : Type 0 where
  pub sender : p.message.sender ≡ i
  pub addressee : p.message.addressee < count
  pub other : p.message.addressee ≢ i

abbrev pub PiecesLeaveForOthers : ℕ → World → Type 0
PiecesLeaveForOthers count w = (i place : ℕ) (t : Taken Piece) → i < count → take_out place (w.nodes i).outbox ≡ Some t → LeavesForOther count i t.taken
