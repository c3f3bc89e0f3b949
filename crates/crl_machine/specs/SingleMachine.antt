-- The single machine with one array of byte regions: its state, which entries are legal steps, and what
-- each of them changes. Nothing here knows of homes, copies, versions or messages.
use Rattle.std.specs.Prelude.{◌≡◌, ◌≢◌, ◌⊎◌, ℕ, zero, suc, min, slice_index_or, ◌+◌, ◌-◌, ◌^◌, ◌<◌, ◌≤◌, Bool, true, false, List, [], ◌∷◌, ◌++◌, length, replicate, IsTrue}
use Rattle.crl_model.specs.declared.TheConstants.{REGION_LIMIT, BROADCAST_LIMIT}
use Rattle.crl_model.specs.declared.name.Name.{Name}
use Rattle.crl_model.specs.declared.stage.Stage.{Stage}
use Rattle.crl_model.specs.declared.stage.Stage.TheVariants as stage
use Rattle.crl_model.specs.declared.collective.Part.{Part}
use Rattle.crl_model.specs.declared.collective.Part.TheVariants as part
use Rattle.crl_model.specs.declared.call.CallKind.{CallKind}
use Rattle.crl_model.specs.declared.call.CallKind.TheVariants as call
use Rattle.crl_model.specs.declared.call.Refusal.{Refusal}
use Rattle.crl_model.specs.declared.call.Refusal.TheVariants.{BadSize, NamesSpent, Unknown, NotMapped, SectionOpen, NotReading, NotWriting, InSection, OutOfRange, WrongSize, TooMany, Mixed}
use Rattle.crl_model.specs.declared.call.Refusal.TheVariants as refusal
use Rattle.crl_model.specs.declared.entry.What.{What}
use Rattle.crl_model.specs.declared.entry.What.TheVariants.{Create, Map, Unmap, StartRead, Read, StartWrite, Write, Flush, Deleting, Deleted, Come, Came, Refused}
use Rattle.crl_model.specs.declared.entry.Place.TheVariants.{Region, Round}
use Rattle.crl_model.specs.declared.entry.Entry.{Entry}
use Rattle.crl_model.specs.Calls.{asks_the_home, needs_map, needs_write, needs_close, has_range, kind_of}
use Rattle.crl_model.specs.Folds.{Agrees, IsMixed}
use Rattle.crl_model.specs.Names.{at_node, at_name, at_pair}
use Rattle.crl_model.specs.Stages.{is_there, is_deleted}

pub record State : Type 0 where
  -- how many nodes there are
  pub nodes : ℕ
  -- of each name: where it stands, and the bytes of its region
  pub stage : Name → Stage
  pub bytes : Name → List ℕ
  -- of each node: how many serials it has used
  pub used : ℕ → ℕ
  -- of each node and name: how often it is mapped there, how many read sections are open, and whether a write section is
  pub maps : ℕ → Name → ℕ
  pub reads : ℕ → Name → ℕ
  pub writes : ℕ → Name → Bool
  -- of each node: the parts with which it came to rounds 1, 2 and so on, and how many results it was told
  pub came : ℕ → List Part
  pub told : ℕ → ℕ

-- no region yet, and nodes that have done nothing
abbrev pub start : ℕ → State
start nodes = record {
  nodes = nodes;
  stage = λ _. stage.Unknown;
  bytes = λ _. [];
  used = λ _. 0;
  maps = λ _ _. 0;
  reads = λ _ _. 0;
  writes = λ _ _. false;
  came = λ _. [];
  told = λ _. 0;
}

-- the node waits for no round's result, and for no delete of its own
abbrev pub IsFree : State → ℕ → Type 0
IsFree s n = (length (s.came n) ≤ s.told n) × ((q : Name) → s.stage q ≢ stage.Going n)

abbrev pub IsMapped : State → ℕ → Name → Type 0
IsMapped s n name = 1 ≤ s.maps n name

-- a section of the region is open at the node, and none is
abbrev pub IsOpenAt : State → ℕ → Name → Type 0
IsOpenAt s n name = (1 ≤ s.reads n name) ⊎ (s.writes n name ≡ true)

abbrev pub IsClosedAt : State → ℕ → Name → Type 0
IsClosedAt s n name = (s.reads n name ≡ 0) × (s.writes n name ≡ false)

-- no write section of the region is open at any node, and no section at all
abbrev pub IsUnwritten : State → Name → Type 0
IsUnwritten s name = (m : ℕ) → m < s.nodes → s.writes m name ≡ false

abbrev pub IsUnused : State → Name → Type 0
IsUnused s name = (m : ℕ) → m < s.nodes → IsClosedAt s m name

-- a broadcast has some bytes, and not too many
abbrev pub IsSendable : Part → Type 0
IsSendable (part.Send bytes) = (1 ≤ length bytes) × (length bytes ≤ BROADCAST_LIMIT)
IsSendable part.Barrier = Unit {0}
IsSendable part.Receive = Unit {0}
IsSendable (part.Sum v) = Unit {0}
IsSendable (part.Min v) = Unit {0}
IsSendable (part.Max v) = Unit {0}

-- the node's part in the round, and the parts of all nodes
abbrev pub part_at : State → ℕ → ℕ → Part
part_at s n round = slice_index_or (s.came n) (round - 1) part.Barrier

abbrev pub parts_from : State → ℕ → ℕ → ℕ → List Part
parts_from s round n zero = []
parts_from s round n (suc k) = part_at s n round ∷ parts_from s round (n + 1) k

abbrev pub parts_of : State → ℕ → List Part
parts_of s round = parts_from s round 0 s.nodes

-- the node's next result is that of this round, to which it and every other node came
abbrev pub IsFull : State → ℕ → ℕ → Type 0
IsFull s n round = (round ≡ s.told n + 1) × (round ≡ length (s.came n)) × ((m : ℕ) → m < s.nodes → round ≤ length (s.came m))

-- the serial of a refused create: the next one, or 0 where all are used
abbrev pub IsRefusedSerial : ℕ → ℕ → Type 0
IsRefusedSerial used serial = ((used + 1 < 2 ^ 32) × (serial ≡ used + 1)) ⊎ ((used + 1 ≡ 2 ^ 32) × (serial ≡ 0))

-- a free node's call about this region may be refused so
abbrev pub IsRefusedAt : State → ℕ → Refusal → CallKind → Name → Type 0
IsRefusedAt s n BadSize kind name = (kind ≡ call.Create) × (name.home ≡ n) × IsRefusedSerial (s.used n) name.serial
IsRefusedAt s n NamesSpent kind name = (kind ≡ call.Create) × (name.home ≡ n) × (name.serial ≡ 0) × (s.used n + 1 ≡ 2 ^ 32)
IsRefusedAt s n Unknown kind name = IsTrue (asks_the_home kind) × (s.stage name ≡ stage.Unknown)
IsRefusedAt s n refusal.Deleted kind name = IsTrue (asks_the_home kind) × IsTrue (is_deleted (s.stage name))
IsRefusedAt s n NotMapped kind name = IsTrue (needs_map kind) × (s.maps n name ≡ 0)
IsRefusedAt s n SectionOpen kind name =
    IsMapped s n name × (((kind ≡ call.Read) × (s.writes n name ≡ true)) ⊎ ((kind ≡ call.Write) × IsOpenAt s n name))
IsRefusedAt s n NotReading kind name = (kind ≡ call.EndRead) × IsMapped s n name × (s.reads n name ≡ 0)
IsRefusedAt s n NotWriting kind name = IsTrue (needs_write kind) × IsMapped s n name × (s.writes n name ≡ false)
IsRefusedAt s n InSection kind name = IsTrue (needs_close kind) × IsMapped s n name × IsOpenAt s n name
IsRefusedAt s n OutOfRange kind name = IsTrue (has_range kind) × (s.writes n name ≡ true)
IsRefusedAt s n TooMany kind name =
    ((kind ≡ call.Map) × (s.maps n name + 1 ≡ 2 ^ 32) × (s.stage name ≢ stage.Gone))
    ⊎ ((kind ≡ call.Read) × IsMapped s n name × (s.writes n name ≡ false) × (s.reads n name + 1 ≡ 2 ^ 32))
IsRefusedAt s n WrongSize kind name = ⊥
IsRefusedAt s n Mixed kind name = ⊥

-- the node's call to come to this round is refused so
abbrev pub IsRefusedIn : State → ℕ → Refusal → CallKind → ℕ → Type 0
IsRefusedIn s n WrongSize kind round = IsFree s n × (kind ≡ call.Send) × (round ≡ length (s.came n) + 1)
IsRefusedIn s n Mixed kind round = IsFull s n round × IsMixed (parts_of s round) × (kind ≡ kind_of (part_at s n round))
IsRefusedIn s n _ kind round = ⊥

-- the entry's row of the table of legal steps, for node n
abbrev pub Applies : State → ℕ → What → Type 0
Applies s n (Create name size) =
    IsFree s n × (name.home ≡ n) × (name.serial ≡ s.used n + 1) × (s.used n + 1 < 2 ^ 32) × (1 ≤ size) × (size ≤ REGION_LIMIT)
Applies s n (Map name size) = IsFree s n × IsTrue (is_there (s.stage name)) × (size ≡ length (s.bytes name)) × (s.maps n name + 1 < 2 ^ 32)
Applies s n (Unmap name) = IsFree s n × IsMapped s n name × IsClosedAt s n name
Applies s n (Flush name) = IsFree s n × IsMapped s n name × IsClosedAt s n name
Applies s n (StartRead name) = IsFree s n × IsMapped s n name × IsUnwritten s name × (s.reads n name + 1 < 2 ^ 32)
Applies s n (Read name seen) = IsFree s n × (1 ≤ s.reads n name) × (seen ≡ s.bytes name)
Applies s n (StartWrite name) = IsFree s n × IsMapped s n name × IsUnused s name
Applies s n (Write name before after) =
    IsFree s n × (s.writes n name ≡ true) × (before ≡ s.bytes name) × (length after ≡ length before)
Applies s n (Deleting name) = IsFree s n × (s.stage name ≡ stage.Live)
Applies s n (Deleted name) = s.stage name ≡ stage.Going n
Applies s n (Come part) = IsFree s n × IsSendable part
Applies s n (Came round fold) = IsFull s n round × Agrees (parts_of s round) fold
Applies s n (Refused kind (Region name) why) = IsFree s n × IsRefusedAt s n why kind name
Applies s n (Refused kind (Round round) why) = IsRefusedIn s n why kind round

-- the entry is a legal step
abbrev pub IsLegal : State → Entry → Type 0
IsLegal s e = (e.node < s.nodes) × Applies s e.node e.what

-- a create that is refused for its size uses its serial, and a round of mixed parts is told
abbrev pub used_after : Refusal → ℕ → ℕ
used_after BadSize used = min (used + 1) (2 ^ 32 - 1)
used_after _ used = used

abbrev pub told_after : Refusal → ℕ → ℕ
told_after Mixed told = told + 1
told_after _ told = told

-- what the entry of node n changes
abbrev pub change : State → ℕ → What → State
change s n (Create name size) = record s {
  stage = at_name s.stage name stage.Live;
  bytes = at_name s.bytes name (replicate size 0);
  used = at_node s.used n (s.used n + 1);
}
change s n (Map name size) = record s { maps = at_pair s.maps n name (s.maps n name + 1) }
change s n (Unmap name) = record s { maps = at_pair s.maps n name (s.maps n name - 1) }
change s n (Flush name) = s
change s n (StartRead name) = record s { reads = at_pair s.reads n name (s.reads n name + 1) }
change s n (Read name seen) = record s { reads = at_pair s.reads n name (s.reads n name - 1) }
change s n (StartWrite name) = record s { writes = at_pair s.writes n name true }
change s n (Write name before after) = record s {
  writes = at_pair s.writes n name false;
  bytes = at_name s.bytes name after;
}
change s n (Deleting name) = record s { stage = at_name s.stage name (stage.Going n) }
change s n (Deleted name) = record s { stage = at_name s.stage name stage.Gone }
change s n (Come part) = record s { came = at_node s.came n (s.came n ++ part ∷ []) }
change s n (Came round fold) = record s { told = at_node s.told n (s.told n + 1) }
change s n (Refused kind place why) = record s {
  used = at_node s.used n (used_after why (s.used n));
  told = at_node s.told n (told_after why (s.told n));
}

abbrev pub after : State → Entry → State
after s e = change s e.node e.what

-- each entry is legal after those before it
abbrev pub IsHistory : State → List Entry → Type 0
IsHistory s [] = Unit {0}
IsHistory s (e ∷ es) = IsLegal s e × IsHistory (after s e) es

-- the state after the entries
abbrev pub after_all : State → List Entry → State
after_all s [] = s
after_all s (e ∷ es) = after_all (after s e) es
