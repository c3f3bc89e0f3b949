use Rattle.std.proofs.Common.{◌≡◌, drop, None}
use Rattle.std.specs.Option.{option_copied}
use Rattle.crl_model.specs.FoldOf.{sent_from}
use Rattle.crl_machine.specs.Rounds.{cames, parts_in}
use Rattle.crl_machine.proofs.round.sent_of.Given as goal

abbrev pub invariant-loop-row : goal.invariant-loop-row
invariant-loop-row l = sent_from (option_copied l.sent) (parts_in l.last l.k (cames (drop l.row-index l.rows))) ≡ sent_from None (parts_in l.last l.k (cames l.rows))
