-- What a section takes that may open, and what there is if it is ready.
use Rattle.std.specs.Prelude.{◌≡◌, ℕ, Bool, if◌then◌else◌, ◌+◌, ◌≤◌, ◌++◌, ◌∷◌, []}
use Rattle.crl_model.specs.declared.name.Name.{Name}
use Rattle.crl_pieces.specs.Pieces.{count}
use Rattle.crl_model.specs.declared.entry.Entry.{Entry}
use Rattle.crl_model.specs.declared.entry.What.TheVariants as what
use Rattle.crl_protocol.specs.Node.{Node, SectionOpening, entry_of}
use Rattle.crl_protocol.specs.World.{records_of}
use Rattle.crl_table.specs.Tables.{HasPlace}
use Rattle.crl_desk.specs.declared.desk.Desk.{Desk}
use Rattle.crl_desk.specs.declared.kit.SectionKit.{SectionKit}
use Rattle.crl_desk.specs.Desks.{HasRoom, size_at}

-- There is paper for so many bytes on each.
pub record HasPapers (size : ℕ) (kit : SectionKit) : Type 0 where
  pub guard : size ≤ kit.guard
  pub began : size ≤ kit.began
  pub end : size ≤ kit.end
  pub sheets : kit.sheets ≡ size

-- A section of the region may start with this kit, and open.
pub record IsSectionReady (name : Name) (kit : SectionKit) (d : Desk) : Type 0 where
  pub room : HasRoom (count (size_at name d) + 2) 2 2 d
  pub place : HasPlace name d.sections.rows
  pub papers : HasPapers (size_at name d) kit

-- the entry of a section that opens
abbrev pub start_entry : Bool → ℕ → Name → Entry
start_entry write node name = entry_of node (if write then what.StartWrite name else what.StartRead name)

-- the node once the section has opened, and its entry is recorded at this position
abbrev pub once_opened : ℕ → SectionOpening → Node
once_opened position o = record o.node { records = o.node.records ++ records_of position (o.entry ∷ []) }
