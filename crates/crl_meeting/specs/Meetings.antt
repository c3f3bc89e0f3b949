-- What the acts about rounds need, and what they leave.
use Rattle.std.specs.Prelude.{◌≡◌, ℕ, zero, suc, ◌+◌, ◌≤◌, ◌==◌, true, if◌then◌else◌, List, [], ◌∷◌, ◌++◌, max}
use Rattle.std.specs.declared.option.Option.{Option}
use Rattle.std.specs.declared.option.Option.TheVariants.{None, Some}
use Rattle.crl_model.specs.Guards.{Guard}
use Rattle.crl_model.specs.declared.activity.Activity.{Activity}
use Rattle.crl_model.specs.declared.activity.Activity.TheVariants.{Waiting}
use Rattle.crl_model.specs.declared.activity.Awaited.TheVariants.{ForRound}
use Rattle.crl_model.specs.declared.collective.Part.{Part}
use Rattle.crl_model.specs.declared.collective.Fold.{Fold}
use Rattle.crl_model.specs.declared.call.CallKind.{CallKind}
use Rattle.crl_model.specs.declared.entry.What.TheVariants as what
use Rattle.crl_model.specs.declared.message.Message.{Message}
use Rattle.crl_model.specs.declared.message.Kind.TheVariants as kind
use Rattle.crl_protocol.specs.Gathering.{gathers}
use Rattle.crl_protocol.specs.Node.{Node, entry_of}
use Rattle.crl_protocol.specs.Calls.{result_of, answer_of}
use Rattle.crl_protocol.specs.Handlers.{becomes_ready}
use Rattle.crl_protocol.specs.World.{records_of}
use Rattle.crl_gathering.specs.Lengths.{part_bytes, fold_bytes, longest_sent}
use Rattle.crl_gathering.specs.RoundState.{RoundState, completes_round}
use Rattle.crl_desk.specs.declared.desk.Desk.{Desk}
use Rattle.crl_desk.specs.Desks.{HasRoom}
use Rattle.crl_meeting.specs.PapersState.{PapersState, HasFoldPapers}
use Rattle.crl_meeting.specs.declared.ready.RoundKit.{RoundKit}
use Rattle.crl_meeting.specs.declared.waiting.RoundWaited.{RoundWaited}

-- If the round closes with this part of the node, there is a paper for each node, for as many bytes as a part sends.
abbrev pub FoldsHavePapers : ℕ → ℕ → Part → PapersState → RoundState → Type 0
FoldsHavePapers node nodes part papers r = completes_round node part r ≡ true → HasFoldPapers (max (longest_sent r.parts) (part_bytes part)) nodes papers

-- such papers have room for the fold
abbrev pub FitsPapers : ℕ → ℕ → Part → RoundState → Fold → Type 0
FitsPapers node nodes part r fold = (papers : PapersState) → FoldsHavePapers node nodes part papers r → HasFoldPapers (fold_bytes fold) nodes papers

-- The node may come with this part.
pub record IsComeReady (part : Part) (kit : RoundKit) (d : Desk) : Type 0 where
  pub room : HasRoom d.nodes 2 1 d
  pub entry : part_bytes part ≤ kit.part
  pub folds : FoldsHavePapers d.me d.nodes part kit.folds d.round

-- This part of a node may come.
pub record IsPartReady (from : ℕ) (part : Part) (papers : PapersState) (d : Desk) : Type 0 where
  pub room : HasRoom d.nodes 1 1 d
  pub folds : FoldsHavePapers from d.nodes part papers d.round

-- This result may come.
pub record IsResultReady (fold : Fold) (paper : ℕ) (d : Desk) : Type 0 where
  pub room : HasRoom 0 1 1 d
  pub fits : fold_bytes fold ≤ paper

-- what so many nodes from this one on are told
abbrev pub result_message : ℕ → ℕ → ℕ → Fold → Message
result_message sender node round fold = record { sender = sender; addressee = node; kind = kind.Result round fold }

abbrev pub result_messages : ℕ → ℕ → ℕ → ℕ → Fold → List Message
result_messages sender node zero round fold = []
result_messages sender node (suc k) round fold = result_message sender node round fold ∷ result_messages sender (node + 1) k round fold

-- the node once it has entered its next round, waits in a round, has gathered a part, or was told a result
abbrev pub once_entered : ℕ → Part → Node → Node
once_entered position part n = record n { rounds = n.rounds + 1; records = n.records ++ records_of position (entry_of n.me (what.Come part) ∷ []) }

abbrev pub once_waiting : ℕ → CallKind → Node → Node
once_waiting round kind n = record n { activity = Waiting (ForRound round kind) }

abbrev pub once_gathered : ℕ → Part → Node → Node
once_gathered node part n = record n { gathering = (gathers n.nodes node part n.gathering).gathering }

abbrev pub once_told : ℕ → ℕ → CallKind → Fold → Node → Node
once_told position round kind fold n =
    record (becomes_ready (answer_of round fold) n) { records = n.records ++ records_of position (entry_of n.me (result_of round kind fold) ∷ []) }

-- the round in which a node waits, and the call with which it came to this very round
abbrev pub round_waited : Activity Guard Guard → Option RoundWaited
round_waited (Waiting (ForRound round kind)) = Some (record { round = round; kind = kind })
round_waited _ = None

abbrev pub kind_waiting : ℕ → Option RoundWaited → Option CallKind
kind_waiting round None = None
kind_waiting round (Some waited) = if waited.round == round then Some waited.kind else None
