use Rattle.std.proofs.Common.{sym, subst}
use Rattle.crl_run.specs.Acting.{CanAct}
use Rattle.crl_run.proofs.Judging.{acts_judged}
use Rattle.crl_run.proofs.taking.take_statement.Goals as goal

pub make_act-requires-clause-judged : goal.make_act-requires-clause-judged
make_act-requires-clause-judged g c =
    acts_judged c.verdict_on-refusal.result _ c.args.statement.now c.args.player.now.guards c.act.new.self.guards c.in_ok-act.act c.verdict_on-refusal.ensures
    (subst (λ why. CanAct why c.args.statement.now c.args.player.now.guards) (sym c.verdict_on-refusal.ensures) c.requires.may.can) c.in_ok-act.ensures.ok
