use Rattle.std.proofs.Common.{◌≡◌, ◌++◌, take}
use Rattle.std.specs.List.{flat_map}
use Rattle.crl_account.specs.Text.{blocked_text}
use Rattle.crl_account.proofs.report.write_blocked.Given as goal

-- the lines so far stand behind the old text
abbrev pub invariant-loop-cause : goal.invariant-loop-cause
invariant-loop-cause l = l.out.items ≡ l.initial.out.items ++ flat_map blocked_text (take l.cause-index l.blocked)
