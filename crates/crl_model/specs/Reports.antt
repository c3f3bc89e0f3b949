-- What is printed of a run, as contracts see it.
use Rattle.std.specs.Prelude.{ℕ, List}
use Rattle.crl_model.specs.declared.blocked.Blocked.{Blocked}
use Rattle.crl_model.specs.declared.entry.Entry.{Entry}
use Rattle.crl_model.specs.declared.report.FinalRegion.{FinalRegion}

-- A run's account, the regions at its end by name or else what blocks each unfinished node, and how many
-- events and messages there were.
pub record Reported : Type 0 where
  pub entries : List Entry
  pub regions : List FinalRegion
  pub blocked : List Blocked
  pub events : ℕ
  pub messages : ℕ
