-- What a run told: its events in their order, each with what it recorded at one node.
use Rattle.std.specs.Prelude.{◌≡◌, ℕ, ◌+◌, ◌<◌, ◌≤◌, ◌==◌, if◌then◌else◌, List, [], ◌∷◌, ◌++◌, ⊤, length, get_or}
use Rattle.crl_model.specs.declared.journal.Recorded.{Recorded}
use Rattle.crl_model.specs.declared.entry.Entry.{Entry}
use Rattle.crl_protocol.specs.World.{records_of}

pub record EventEntries : Type 0 where
  pub position : ℕ
  pub node : ℕ
  pub entries : List Entry

-- the entries in the order of the events
abbrev pub entries_told : List EventEntries → List Entry
entries_told [] = []
entries_told (t ∷ ts) = t.entries ++ entries_told ts

-- what the run recorded at one node
abbrev pub records_at : ℕ → List EventEntries → List Recorded
records_at i [] = []
records_at i (t ∷ ts) = (if t.node == i then records_of t.position t.entries else []) ++ records_at i ts

-- the events are of so many nodes, and their positions ascend, from this one on
abbrev pub Ascends : ℕ → ℕ → List EventEntries → Type 0
Ascends nodes p [] = ⊤
Ascends nodes p (t ∷ ts) = (t.node < nodes) × (p ≤ t.position) × Ascends nodes (t.position + 1) ts

-- the least position that may come next
abbrev pub next_position : ℕ → List EventEntries → ℕ
next_position p [] = p
next_position p (t ∷ ts) = next_position (t.position + 1) ts

-- the lists have what the run recorded at each node
pub record AreRecordsOf (run : List EventEntries) (journals : List (List Recorded)) : Type 0 where
  pub ascends : Ascends (length journals) 0 run
  pub recorded : (i : ℕ) → i < length journals → get_or journals i [] ≡ records_at i run
