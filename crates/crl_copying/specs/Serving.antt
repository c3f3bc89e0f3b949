-- What is left of a message with which a section opens.
use Rattle.std.specs.Prelude.{ℕ, ◌≤◌, ◌++◌, ◌∷◌, [], Bool, true, false, if◌then◌else◌}
use Rattle.crl_model.specs.declared.name.Name.{Name}
use Rattle.crl_model.specs.declared.message.Granted.{Granted}
use Rattle.crl_model.specs.declared.message.Granted.TheVariants.{Shared, Exclusive, Upgrade}
use Rattle.crl_protocol.specs.Home.{Home}
use Rattle.crl_protocol.specs.Sections.{is_writing}
use Rattle.crl_protocol.specs.Node.{Node, SectionOpening, section_opens, Ready}
use Rattle.crl_protocol.specs.World.{records_of}
use Rattle.crl_home.specs.HomesState.{table_at}
use Rattle.crl_copying.specs.declared.opening.Papers.{Papers}

-- the home's own section opens as the table has it
abbrev pub own_section : Name → Home → Node → SectionOpening
own_section name h n = section_opens (is_writing h.mine) name h.bytes n

-- the node, ready with the section that opened, whose entry is recorded at this position
abbrev pub ready_with : ℕ → SectionOpening → Node
ready_with position o = record o.node { activity = Ready o.answer; records = o.node.records ++ records_of position (o.entry ∷ []) }

-- the node whose home has served its queue: if its own section opened it is ready with that
abbrev pub if_served : ℕ → Name → Bool → Node → Node
if_served position name opened n = if opened then ready_with position (own_section name (table_at name n.homes) n) else n

-- there is paper for so many bytes on each
pub record AreFor (size : ℕ) (papers : Papers) : Type 0 where
  pub guard : size ≤ papers.guard
  pub began : size ≤ papers.began
  pub end : size ≤ papers.end

-- the grant is one for an ask to write
abbrev pub gives_write : Granted → Bool
gives_write (Shared bytes) = false
gives_write (Exclusive bytes) = true
gives_write Upgrade = true
