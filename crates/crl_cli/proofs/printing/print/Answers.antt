use Rattle.std.proofs.Common.{subst}
use Rattle.std.specs.Prelude.{IfOk}
use Rattle.crl_cli.specs.Answers.{IsAnswered}
use Rattle.crl_cli.specs.Outcome.{Comes}
use Rattle.crl_cli.proofs.Says.{print_whole, comes_no_fault, comes_no_want}
use Rattle.crl_cli.proofs.printing.print.Goals as goal

pub returns-in-Ok-push_all-clause-prints : goal.returns-in-Ok-push_all-clause-prints
returns-in-Ok-push_all-clause-prints g c a comes =
    print_whole a _ _ c.in-Ok.outcome.status c.in-Ok.outcome.text.items (subst (λ r. IfOk r (λ o. Comes a o.status o.text.items)) c.in-Ok.is comes) (rw c.as_slice.ensures.value at c.in-Ok-push_all.ensures.ok)

pub returns-in-Ok-push_all-clause-write_fault : goal.returns-in-Ok-push_all-clause-write_fault
returns-in-Ok-push_all-clause-write_fault g c =
    let answered = subst (λ r. IfOk r IsAnswered) c.in-Ok.is c.requires in
    λ fault. absurd (comes_no_fault answered.0 c.in-Ok.outcome.status c.in-Ok.outcome.text.items answered.1 fault)

pub returns-in-Ok-push_all-clause-unprinted : goal.returns-in-Ok-push_all-clause-unprinted
returns-in-Ok-push_all-clause-unprinted g c =
    let answered = subst (λ r. IfOk r IsAnswered) c.in-Ok.is c.requires in
    λ want. absurd (comes_no_want answered.0 c.in-Ok.outcome.status c.in-Ok.outcome.text.items answered.1 want)
