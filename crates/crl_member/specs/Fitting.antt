-- Guards that fit the open sections of a node, and the calls that go by guards.
use Rattle.std.specs.Prelude.{ℕ, ◌==◌, nat_eq, Bool, true, false, ◌&&◌, ◌≡◌, List, length}
use Rattle.std.specs.Cmp.Lexicographic.{pointwise}
use Rattle.std.specs.declared.option.Option.{Option}
use Rattle.std.specs.declared.option.Option.TheVariants.{None, Some}
use Rattle.crl_model.specs.declared.call.Call.{Call}
use Rattle.crl_model.specs.declared.call.Call.TheVariants as call
use Rattle.crl_model.specs.declared.call.Refusal.{Refusal}
use Rattle.crl_model.specs.declared.directory.Section.{Section}
use Rattle.crl_model.specs.declared.directory.Section.TheVariants.{Closed, Reading, Writing}
use Rattle.crl_protocol.specs.Sections.{Guard, OpenSection, is_writing}
use Rattle.crl_protocol.specs.Node.{Node}
use Rattle.crl_protocol.specs.Verdict.{verdict}
use Rattle.crl_protocol.specs.World.{is_call}

abbrev pub is_reading : Section → Bool
is_reading Closed = false
is_reading (Reading count) = true
is_reading Writing = false

abbrev pub same_bytes : List ℕ → List ℕ → Bool
same_bytes xs ys = pointwise nat_eq xs ys

-- the guard is of the read section that is open: its number and its bytes are the section's
abbrev pub fits_open_read : Guard → Option OpenSection → Bool
fits_open_read g None = false
fits_open_read g (Some s) = is_reading s.section && ((s.number == g.number) && same_bytes s.bytes g.bytes)

-- the guard is of the write section that is open: its number is the section's, and it has as many bytes
abbrev pub fits_open_write : Guard → Option OpenSection → Bool
fits_open_write g None = false
fits_open_write g (Some s) = is_writing s.section && ((s.number == g.number) && (length g.bytes == length s.bytes))

abbrev pub fits_reading : Node → Guard → Bool
fits_reading n g = (g.node == n.me) && fits_open_read g (n.sections.records g.name)

abbrev pub fits_writing : Node → Guard → Bool
fits_writing n g = (g.node == n.me) && fits_open_write g (n.sections.records g.name)

-- the end of a section that is allowed: it goes by the section's guard, and not as a call
abbrev pub is_end : Call → Bool
is_end (call.EndRead name) = true
is_end (call.EndWrite name after) = true
is_end c = false

abbrev pub goes_by_guard : Call → Option Refusal → Bool
goes_by_guard c None = is_end c
goes_by_guard c (Some why) = false

-- the node may make the call, and it doesn't go by a guard
pub record MayCall (n : Node) (c : Call) : Type 0 where
  pub enabled : is_call n c (verdict n c) ≡ true
  pub unguarded : goes_by_guard c (verdict n c) ≡ false
