use Rattle.std.proofs.Common.{◌≡◌, ◌++◌, take}
use Rattle.crl_account.specs.Text.{account_text}
use Rattle.crl_account.proofs.write.write_account.Given as goal

-- the lines of the entries so far stand behind the old text
abbrev pub invariant-loop-entry : goal.invariant-loop-entry
invariant-loop-entry l = l.out.items ≡ l.initial.out.items ++ account_text (take l.entry-index l.entries)
