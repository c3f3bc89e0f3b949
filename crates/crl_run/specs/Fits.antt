-- The guard that a node spends with an end is of a section that is open there.
use Rattle.std.specs.Prelude.{◌≡◌, ℕ, true}
use Rattle.std.specs.declared.option.Option.TheVariants.{None}
use Rattle.crl_model.specs.declared.call.Call.TheVariants as call
use Rattle.crl_protocol.specs.Node.{Node}
use Rattle.crl_protocol.specs.Verdict.{verdict}
use Rattle.crl_member.specs.Fitting.{fits_reading, fits_writing}
use Rattle.crl_run.specs.declared.act.Act.{Act}
use Rattle.crl_run.specs.declared.act.Act.TheVariants as act

-- Its guard is this node's, and fits, and the node allows the end.
abbrev pub GuardFits : ℕ → Node → Act → Type 0
GuardFits i n (act.Call c) = Unit {0}
GuardFits i n (act.EndRead guard) = (guard.node ≡ i) × (fits_reading n guard ≡ true) × (verdict n (call.EndRead guard.name) ≡ None)
GuardFits i n (act.EndWrite guard) = (guard.node ≡ i) × (fits_writing n guard ≡ true) × (verdict n (call.EndWrite guard.name guard.bytes) ≡ None)
GuardFits i n act.Inside = Unit {0}
