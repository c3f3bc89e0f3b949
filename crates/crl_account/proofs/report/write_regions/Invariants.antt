use Rattle.std.proofs.Common.{◌≡◌, ◌++◌, take}
use Rattle.std.specs.List.{flat_map}
use Rattle.crl_account.specs.Text.{final_text}
use Rattle.crl_account.proofs.report.write_regions.Given as goal

-- the lines so far stand behind the old text
abbrev pub invariant-loop-region : goal.invariant-loop-region
invariant-loop-region l = l.out.items ≡ l.initial.out.items ++ flat_map final_text (take l.region-index l.regions)
