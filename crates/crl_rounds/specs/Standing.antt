-- Where each node of a run stands in its rounds, and what of them is under way. What the nodes brought to the rounds
-- and which results they were told is what the single machine has of it after the run's account.
use Rattle.std.specs.Prelude.{◌≡◌, ◌⊎◌, ℕ, ◌+◌, ◌<◌, ◌≤◌, ◌==◌, Bool, true, false, ◌&&◌, if◌then◌else◌, List, [], ◌∷◌, ◌++◌, length}
use Rattle.std.specs.List.{All}
use Rattle.std.specs.declared.option.Option.{Option}
use Rattle.std.specs.declared.option.Option.TheVariants.{None, Some}
use Rattle.crl_model.specs.declared.collective.Part.{Part}
use Rattle.crl_model.specs.declared.collective.Fold.{Fold}
use Rattle.crl_model.specs.declared.collective.Fold.TheVariants as fold
use Rattle.crl_model.specs.declared.call.CallKind.{CallKind}
use Rattle.crl_model.specs.declared.call.Refusal.{Refusal}
use Rattle.crl_model.specs.declared.call.Refusal.TheVariants.{Mixed}
use Rattle.crl_model.specs.declared.entry.Entry.{Entry}
use Rattle.crl_model.specs.declared.entry.Place.TheVariants.{Round}
use Rattle.crl_model.specs.declared.entry.What.{What}
use Rattle.crl_model.specs.declared.entry.What.TheVariants as what
use Rattle.crl_model.specs.declared.event.Event.{Event}
use Rattle.crl_model.specs.declared.message.Kind.{Kind}
use Rattle.crl_model.specs.declared.message.Kind.TheVariants as kind
use Rattle.crl_model.specs.Calls.{kind_of}
use Rattle.crl_model.specs.FoldOf.{fold_of}
use Rattle.crl_machine.specs.SingleMachine.{State, start, after, after_all, part_at, parts_of, IsFull}
use Rattle.crl_protocol.specs.Parcels.{Piece}
use Rattle.crl_protocol.specs.Node.{Node, Activity, Waiting, ForRound}
use Rattle.crl_protocol.specs.World.{World, new_world, world_of, account, pieces_in_boxes, step, is_enabled, IsRunFrom}

-- the single machine after a run's account
abbrev pub machine_of : ℕ → ℕ → List Event → State
machine_of count capacity run = after_all (start count) (account count capacity run)

-- a collective call that waits: its round and its kind
pub record RoundCall : Type 0 where
  pub round : ℕ
  pub kind : CallKind

abbrev pub round_awaited : Activity → Option RoundCall
round_awaited (Waiting (ForRound round kind)) = Some (record { round = round; kind = kind })
round_awaited _ = None

-- the round that node 0 gathers, and the part of a node that it has
abbrev pub current_round : World → ℕ
current_round w = (w.nodes 0).gathering.round

abbrev pub part_gathered : World → ℕ → Option Part
part_gathered w i = (w.nodes 0).gathering.parts i

-- A node that waits in no round was told the results of all rounds to which it came: all before the current one. A node
-- that waits in a round came to it last, with a part of the kind that it notes, and was told all results but this. The
-- round is the current one, or the one before it.
pub record IsBetween (current : ℕ) (s : State) (i rounds : ℕ) : Type 0 where
  pub told : s.told i ≡ rounds
  pub next : rounds + 1 ≡ current

pub record WaitsIn (current : ℕ) (s : State) (i rounds : ℕ) (c : RoundCall) : Type 0 where
  pub own : c.round ≡ rounds
  pub kind : c.kind ≡ kind_of (part_at s i rounds)
  pub told : s.told i + 1 ≡ rounds
  pub near : (rounds ≡ current) ⊎ (rounds + 1 ≡ current)

abbrev pub StandsIn : ℕ → State → ℕ → ℕ → Option RoundCall → Type 0
StandsIn current s i rounds None = IsBetween current s i rounds
StandsIn current s i rounds (Some c) = WaitsIn current s i rounds c

pub record Stands (current : ℕ) (s : State) (i : ℕ) (n : Node) : Type 0 where
  pub came : length (s.came i) ≡ n.rounds
  pub call : StandsIn current s i n.rounds (round_awaited n.activity)

-- The part of a node on its way to node 0, and the result of a round on its way to a node.
pub record IsPartSent (w : World) (s : State) (from to round : ℕ) (part : Part) : Type 0 where
  pub sender : from < w.count
  pub to_first : to ≡ 0
  pub current : round ≡ current_round w
  pub waits : round_awaited (w.nodes from).activity ≡ Some (record { round = round; kind = kind_of part })
  pub brought : part ≡ part_at s from round
  pub awaited : part_gathered w from ≡ None

pub record IsResultSent (w : World) (s : State) (to round : ℕ) (fold : Fold) : Type 0 where
  pub addressee : to < w.count
  pub before : round + 1 ≡ current_round w
  pub waits : round_awaited (w.nodes to).activity ≡ Some (record { round = round; kind = kind_of (part_at s to round) })
  pub all_came : (m : ℕ) → m < w.count → round ≤ length (s.came m)
  pub gives : fold ≡ fold_of (parts_of s round)

abbrev pub IsRoundMail : World → State → ℕ → ℕ → Kind → Type 0
IsRoundMail w s from to (kind.Come round part) = IsPartSent w s from to round part
IsRoundMail w s from to (kind.Result round fold) = IsResultSent w s to round fold
IsRoundMail w s from to _ = Unit {0}

abbrev pub RoundMailFits : World → State → Piece → Type 0
RoundMailFits w s p = IsRoundMail w s p.message.sender p.message.addressee p.message.kind

-- how many parts of a node and results for it are under way
abbrev pub is_part_from : ℕ → ℕ → Kind → Bool
is_part_from i from (kind.Come round part) = from == i
is_part_from i from _ = false

abbrev pub is_result_for : ℕ → ℕ → Kind → Bool
is_result_for i to (kind.Result round fold) = to == i
is_result_for i to _ = false

abbrev pub count_parts : ℕ → List Piece → ℕ
count_parts i [] = 0
count_parts i (p ∷ ps) = (if is_part_from i p.message.sender p.message.kind then 1 else 0) + count_parts i ps

abbrev pub count_results : ℕ → List Piece → ℕ
count_results i [] = 0
count_results i (p ∷ ps) = (if is_result_for i p.message.addressee p.message.kind then 1 else 0) + count_results i ps

-- Where the call of a node that waits in a round is: its part is on its way, or is gathered, or its result is on its way.
pub record AreUnderWay (w : World) (i parts results : ℕ) (gathered : Option Part) : Type 0 where
  pub parts_sent : count_parts i (pieces_in_boxes w) ≡ parts
  pub results_sent : count_results i (pieces_in_boxes w) ≡ results
  pub part_there : part_gathered w i ≡ gathered

pub data RoundPlace (w : World) (s : State) (i : ℕ) : Option RoundCall → Type 0 where
  nowhere : AreUnderWay w i 0 0 None → RoundPlace w s i None
  sent : (c : RoundCall) → c.round ≡ current_round w → AreUnderWay w i 1 0 None → RoundPlace w s i (Some c)
  gathered : (c : RoundCall) → c.round ≡ current_round w → AreUnderWay w i 0 0 (Some (part_at s i c.round)) → RoundPlace w s i (Some c)
  told : (c : RoundCall) → c.round + 1 ≡ current_round w → AreUnderWay w i 0 1 None → RoundPlace w s i (Some c)

-- the part that node 0 has of a node: that with which the node came to the current round, its last
pub record IsGathered (w : World) (s : State) (i : ℕ) (gathered : Part) : Type 0 where
  pub came : length (s.came i) ≡ current_round w
  pub brought : gathered ≡ part_at s i (current_round w)

abbrev pub IsMissing : World → ℕ → Type 0
IsMissing w m = (m < w.count) × (part_gathered w m ≡ None)

-- a node that hasn't come to the current round
pub record IsAbsent (w : World) (s : State) (m : ℕ) : Type 0 where
  pub node : m < w.count
  pub part : part_gathered w m ≡ None
  pub came : length (s.came m) + 1 ≡ current_round w
  pub waits : round_awaited (w.nodes m).activity ≡ None

-- All of it: where each node stands and where its call is; that some part is missing; and that, where no piece is in a
-- box, who waits in a round waits for a node that hasn't come to it.
pub record RoundsStand (w : World) (s : State) : Type 0 where
  pub stands : (i : ℕ) → i < w.count → Stands (current_round w) s i (w.nodes i)
  pub place : (i : ℕ) → i < w.count → RoundPlace w s i (round_awaited (w.nodes i).activity)
  pub gathered : (i : ℕ) (p : Part) → i < w.count → part_gathered w i ≡ Some p → IsGathered w s i p
  pub missing : 0 < w.count → (m : ℕ) × IsMissing w m
  pub absent : pieces_in_boxes w ≡ [] → (i : ℕ) (c : RoundCall) → i < w.count → round_awaited (w.nodes i).activity ≡ Some c → (c.round ≡ current_round w) × (m : ℕ) × IsAbsent w s m

-- Entries of rounds: who comes is free of rounds, and who is told a round's result is told what all parts give.
pub record IsTold (s : State) (i round : ℕ) (fold : Fold) : Type 0 where
  pub full : IsFull s i round
  pub gives : fold ≡ fold_of (parts_of s round)

pub record IsToldMixed (s : State) (i round : ℕ) (kind : CallKind) : Type 0 where
  pub told : IsTold s i round fold.Mixed
  pub of_call : kind ≡ kind_of (part_at s i round)

abbrev pub IsRoundRefused : State → ℕ → ℕ → CallKind → Refusal → Type 0
IsRoundRefused s i round kind Mixed = IsToldMixed s i round kind
IsRoundRefused s i round kind _ = (length (s.came i) ≤ s.told i) × (round ≡ length (s.came i) + 1)

abbrev pub FitsRounds : State → ℕ → What → Type 0
FitsRounds s i (what.Come part) = length (s.came i) ≤ s.told i
FitsRounds s i (what.Came round fold) = IsTold s i round fold
FitsRounds s i (what.Refused kind (Round round) why) = IsRoundRefused s i round kind why
FitsRounds s i _ = Unit {0}

-- the entries of an event, each in the state that those before it leave
abbrev pub FitAll : State → List Entry → Type 0
FitAll s [] = Unit {0}
FitAll s (e ∷ es) = FitsRounds s e.node e.what × FitAll (after s e) es

-- What an account has of a node's rounds: the parts with which it came, and how many results it was told.
abbrev pub part_in : What → List Part
part_in (what.Come part) = part ∷ []
part_in _ = []

abbrev pub is_mixed : Refusal → Bool
is_mixed Mixed = true
is_mixed _ = false

abbrev pub is_result : What → Bool
is_result (what.Came round fold) = true
is_result (what.Refused kind place why) = is_mixed why
is_result _ = false

abbrev pub parts_brought : ℕ → List Entry → List Part
parts_brought i [] = []
parts_brought i (e ∷ es) = if e.node == i then part_in e.what ++ parts_brought i es else parts_brought i es

abbrev pub results_told : ℕ → List Entry → ℕ
results_told i [] = 0
results_told i (e ∷ es) = if (e.node == i) && is_result e.what then 1 + results_told i es else results_told i es

-- The statements, of a world and the single machine after the same run.
abbrev pub RoundMailFitsAll : World → State → Type 0
RoundMailFitsAll w s = All (RoundMailFits w s) (pieces_in_boxes w)

abbrev pub RoundEntriesFit : World → State → Type 0
RoundEntriesFit w s = (e : Event) → is_enabled e w ≡ true → FitAll s (step e w).entries

abbrev pub InEveryRun : (World → State → Type 0) → Type 0
InEveryRun Holds = (count capacity : ℕ) (run : List Event) → IsRunFrom (new_world count capacity) run → Holds (world_of count capacity run) (machine_of count capacity run)
