-- What is printed of a run: when it can be read again as an account.
use Rattle.std.specs.Prelude.{◌≢◌, []}
use Rattle.std.specs.List.{All, AllByRecursion}
use Rattle.crl_model.specs.declared.blocked.Blocked.{Blocked}
use Rattle.crl_model.specs.declared.blocked.Blocked.TheVariants as blocks
use Rattle.crl_model.specs.declared.report.FinalRegion.{FinalRegion}
use Rattle.crl_model.specs.Reports.{Reported}
use Rattle.crl_account.specs.declared.line.Line.{Line}
use Rattle.crl_account.specs.declared.line.Line.TheVariants as lines
use Rattle.crl_account.specs.Text.{IsPrintable}
use Rattle.crl_account.specs.Account.{FitsEntry, FitsLine}

-- the region has a byte at least
abbrev pub HasBytes : FinalRegion → Type 0
HasBytes region = region.bytes ≢ []

-- each entry is printable, and each region has a byte at least
pub record IsPrintableReport (report : Reported) : Type 0 where
  pub entries : AllByRecursion IsPrintable report.entries
  pub regions : AllByRecursion HasBytes report.regions

-- the line of a region, and that of what keeps a node waiting
abbrev pub region_line : FinalRegion → Line
region_line region = lines.Region region.name region.bytes

abbrev pub stuck_line : Blocked → Line
stuck_line (blocks.Region node name holder) = lines.StuckSection node name holder
stuck_line (blocks.Round node round absent) = lines.StuckRound node round absent

-- each number is within the type of its field
abbrev pub FitsRegion : FinalRegion → Type 0
FitsRegion region = FitsLine (region_line region)

abbrev pub FitsBlocked : Blocked → Type 0
FitsBlocked cause = FitsLine (stuck_line cause)

pub record FitsReport (report : Reported) : Type 0 where
  pub entries : All FitsEntry report.entries
  pub regions : All FitsRegion report.regions
  pub blocked : All FitsBlocked report.blocked
  pub counts : FitsLine (lines.Counts report.events report.messages)
