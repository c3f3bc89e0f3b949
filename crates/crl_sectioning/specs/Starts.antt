-- What the start of a section requires.
use Rattle.std.specs.Prelude.{◌≡◌, ℕ, ◌+◌, ◌-◌, ◌<◌, ◌≤◌, ◌^◌, Bool, true, false, if◌then◌else◌, length}
use Rattle.std.specs.declared.option.Option.{Option}
use Rattle.std.specs.declared.option.Option.TheVariants.{None, Some}
use Rattle.crl_model.specs.declared.name.Name.{Name}
use Rattle.crl_model.specs.declared.call.Call.{Call}
use Rattle.crl_model.specs.declared.call.Call.TheVariants.{StartRead, StartWrite}
use Rattle.crl_protocol.specs.Home.{Home, is_reading}
use Rattle.crl_protocol.specs.Remote.{Remote}
use Rattle.crl_protocol.specs.Sections.{OpenSection, count_of}
use Rattle.crl_protocol.specs.Node.{Node, Waiting, ForSection}
use Rattle.crl_home.specs.Starts as home
use Rattle.crl_remote.specs.Copies as remote

abbrev pub start_call : Bool → Name → Call
start_call write name = if write then StartWrite name else StartRead name

-- the node waits for a section of the region
abbrev pub at_wait : Name → Node → Node
at_wait name n = record n { activity = Waiting (ForSection name) }

-- there is paper for so many bytes on each
abbrev pub PapersFit : ℕ → ℕ → ℕ → ℕ → Type 0
PapersFit size guard began end = (size ≤ guard) × (size ≤ began) × (size ≤ end)

-- A section that shows so many bytes may open: to write where none is open, to read also inside read sections of as many.
abbrev pub SectionMayOpen : Bool → ℕ → Option OpenSection → Type 0
SectionMayOpen write size None = Unit {0}
SectionMayOpen true size (Some s) = ⊥
SectionMayOpen false size (Some s) = (is_reading s.section ≡ true) × (count_of s.section < 2 ^ 32 - 1) × (size ≡ length s.bytes)

-- A section may start at the region's home, among so many nodes.
pub record HomeLets (write : Bool) (row : Option OpenSection) (nodes : ℕ) (h : Home) : Type 0 where
  pub few : length h.queue < nodes
  pub reads : home.ReadsBelow (2 ^ 32 - 1) h.mine
  pub versions : h.last + length h.queue + 1 < 2 ^ 64
  pub may : SectionMayOpen write h.size row

-- A section may start over a copy.
pub record RemoteLets (write : Bool) (row : Option OpenSection) (r : Remote) : Type 0 where
  pub reads : remote.ReadsBelow (2 ^ 32 - 1) r.here
  pub may : SectionMayOpen write r.size row
