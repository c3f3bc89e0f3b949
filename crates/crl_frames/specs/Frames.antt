-- What is said of each piece in a box of every run whose calls are typed: it has a frame, of bytes, which is read as the piece.
use Rattle.std.specs.Prelude.{◌≡◌, ℕ, ◌<◌, ◌≤◌, ◌^◌, List, [], ◌∷◌, length, Option, None, Some, Ok, FitsSigned}
use Rattle.std.specs.Int.{w64}
use Rattle.std.specs.List.{All, AllByRecursion}
use Rattle.crl_model.specs.declared.TheConstants.{NODE_LIMIT}
use Rattle.crl_model.specs.declared.collective.Part.{Part}
use Rattle.crl_model.specs.declared.collective.Part.TheVariants as part
use Rattle.crl_model.specs.declared.call.Call.{Call}
use Rattle.crl_model.specs.declared.call.Call.TheVariants as call
use Rattle.crl_model.specs.declared.event.Event.{Event}
use Rattle.crl_model.specs.declared.event.Event.TheVariants as event
use Rattle.crl_model.specs.declared.statement.Statement.{Statement}
use Rattle.crl_model.specs.declared.statement.Statement.TheVariants as statement
use Rattle.crl_protocol.specs.Parcels.{Piece}
use Rattle.crl_protocol.specs.Places.{Taken, take_out}
use Rattle.crl_protocol.specs.World.{world_of, pieces_in_boxes, IsRun}
use Rattle.crl_deeds.specs.Laws.{AreStatements, chosen}
use Rattle.crl_framed.specs.Framed.{IsTypedName, IsTypedCall, AreTyped}
use Rattle.crl_wire.specs.Frame.{frame}
use Rattle.crl_wire.specs.Decoding.{decoded}

abbrev pub IsByte : ℕ → Type 0
IsByte b = b < 2 ^ 8

abbrev pub AreBytes : List ℕ → Type 0
AreBytes bytes = AllByRecursion IsByte bytes

-- What calls bring, as their types have it: bytes, and values of 64 bits.
abbrev pub IsTypedPart : Part → Type 0
IsTypedPart (part.Send bytes) = AreBytes bytes
IsTypedPart (part.Sum value) = FitsSigned w64 value
IsTypedPart (part.Min value) = FitsSigned w64 value
IsTypedPart (part.Max value) = FitsSigned w64 value
IsTypedPart _ = Unit {0}

abbrev pub BringsTyped : Call → Type 0
BringsTyped (call.EndWrite name after) = AreBytes after
BringsTyped (call.Come part) = IsTypedPart part
BringsTyped _ = Unit {0}

abbrev pub BringTyped : List Event → Type 0
BringTyped [] = Unit {0}
BringTyped (event.Call i c ∷ es) = BringsTyped c × BringTyped es
BringTyped (_ ∷ es) = BringTyped es

-- a run among at most 64 nodes, whose calls have what their types hold: names and sizes, and what they bring
pub record IsTypedRun (count capacity : ℕ) (run : List Event) : Type 0 where
  pub nodes : count ≤ NODE_LIMIT
  pub is_run : IsRun count capacity run
  pub names : AreTyped run
  pub brought : BringTyped run

-- The statements, of each piece in a box after such a run.
abbrev pub OfEachPiece : (Piece → Type 0) → Type 0
OfEachPiece Holds = (count capacity : ℕ) (run : List Event) → IsTypedRun count capacity run → AllByRecursion Holds (pieces_in_boxes (world_of count capacity run))

-- The same of each run among at most 64 nodes, whatever its calls have; and of the piece at each place of an outbox, which
-- is carried from there.
abbrev pub OfEachPieceOfFew : (Piece → Type 0) → Type 0
OfEachPieceOfFew Holds = (count capacity : ℕ) (run : List Event) → count ≤ NODE_LIMIT → IsRun count capacity run → AllByRecursion Holds (pieces_in_boxes (world_of count capacity run))

abbrev pub HoldsOf : (Piece → Type 0) → Option (Taken Piece) → Type 0
HoldsOf Holds None = Unit {0}
HoldsOf Holds (Some t) = Holds t.taken

abbrev pub OfEachToCarry : (Piece → Type 0) → Type 0
OfEachToCarry Holds =
    (count capacity : ℕ) (run : List Event) → count ≤ NODE_LIMIT → IsRun count capacity run
    → let w = world_of count capacity run in (i place : ℕ) → i < w.count → HoldsOf Holds (take_out place (w.nodes i).outbox)

-- the frame is read as the piece
abbrev pub IsReadAgain : Piece → Type 0
IsReadAgain p = decoded (frame p) ≡ Ok p

abbrev pub HasByteFrame : Piece → Type 0
HasByteFrame p = AreBytes (frame p)

-- Statements as their types have them, where a put has no more bytes than its call can say.
abbrev pub IsTypedStatement : Statement → Type 0
IsTypedStatement (statement.Call c) = IsTypedCall c × BringsTyped c
IsTypedStatement (statement.Put name offset bytes) = IsTypedName name × (offset < 2 ^ 32) × (length bytes < 2 ^ 32) × AreBytes bytes
IsTypedStatement (statement.Add name offset number) = IsTypedName name × (offset < 2 ^ 32)

abbrev pub AreTypedStatements : List (List Statement) → Type 0
AreTypedStatements blocks = All (λ block. All IsTypedStatement block) blocks

-- a script for at most 64 nodes, of such statements
pub record IsTypedScript (count : ℕ) (blocks : List (List Statement)) : Type 0 where
  pub few : count ≤ NODE_LIMIT
  pub are : AreStatements blocks
  pub typed : AreTypedStatements blocks

-- what a script and an order choose in so many turns is a typed run
abbrev pub ChosenIsTyped : ℕ → ℕ → List (List Statement) → (ℕ → ℕ) → ℕ → Type 0
ChosenIsTyped count capacity blocks words k = IsTypedRun count capacity (chosen count capacity blocks words k).events
