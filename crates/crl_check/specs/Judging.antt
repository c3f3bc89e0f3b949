-- Judging of entries that come one by one.
use Rattle.std.specs.Prelude.{◌≡◌, ℕ, Bool, true, false, List, length}
use Rattle.crl_model.specs.declared.entry.Entry.{Entry}
use Rattle.crl_machine.specs.Seen.{state}
use Rattle.crl_machine.specs.SingleMachine.{State, IsHistory, after_all}
use Rattle.crl_check.specs.declared.judge.Judge.{Judge}
use Rattle.crl_check.specs.Histories.{IsFirstIllegal}

-- The entries so far are a legal history, of so many entries, that leads to this state; or the first that is no legal step
-- stands behind so many.
abbrev pub Found : State → List Entry → Bool → ℕ → State → Type 0
Found s given false legal now = IsHistory s given × (legal ≡ length given) × (now ≡ after_all s given)
Found s given true legal now = IsFirstIllegal s given legal

abbrev pub HasJudged : State → List Entry → Judge → Type 0
HasJudged s given judge = Found s given judge.broken judge.legal (state judge.machine)
