use Rattle.std.proofs.Common.{◌≡◌, ◌∙◌, ◌+◌, suc, subst, sym, ap, arith}
use Rattle.std.specs.Prelude.{OnOk}
use Rattle.std.specs.declared.result.Result.{Result}
use Rattle.std.specs.declared.result.Result.TheVariants.{Ok, Err}
use Rattle.std.specs.declared.alloc.AllocError.{AllocError}
use Rattle.crl_protocol.specs.Verdict.{verdict}
use Rattle.crl_cluster.specs.Clusters.{view_of, shape_of, IsOf}
use Rattle.crl_run.specs.Acting.{IsShort, CanAct, Acts}
use Rattle.crl_run.specs.Actors.{asked_call, call_made}
use Rattle.crl_crew.specs.Driving.{IsDoneFor}
use Rattle.crl_crew.specs.Working.{WorksAt}
use Rattle.crl_crew.proofs.Taking.{at_place, can, may, taken_works}
use Rattle.crl_crew.proofs.acting.take_statement.Goals as goal

pub verdict_on-refusal-requires : goal.verdict_on-refusal-requires
verdict_on-refusal-requires g c = at_place IsShort c.args.statements.now c.args.player.now.place c.statement-statement.result.now _ c.requires.taken.short c.statement-statement.ensures

pub act-requires-clause-short : goal.act-requires-clause-short
act-requires-clause-short g c = at_place IsShort c.args.statements.now c.args.player.now.place c.statement-statement.result.now _ c.requires.taken.short c.statement-statement.ensures

pub act-requires-clause-can : goal.act-requires-clause-can
act-requires-clause-can g c =
    let x = c.statement-statement.result.now in
    subst (λ o. CanAct o x c.args.player.now.guards) (sym (c.verdict_on-refusal.ensures ∙ ap (λ n. verdict (g.N.Member.state n) (asked_call x)) c.node.ensures))
    (can g.N.Member.state c.args.nodes.now c.args.statements.now c.args.pass.now c.args.held.now c.args.player.now c.requires.works (c.fronts_are_histories.ensures c.args.pass.now) c.requires.free x)

pub make_act-requires-clause-may : goal.make_act-requires-clause-may
make_act-requires-clause-may g c =
    let x = c.statement-statement.result.now in
    may g.N.Member.state c.args.nodes.now c.args.statements.now c.args.pass.now c.args.held.now c.args.player.now c.requires.works (c.fronts_are_histories.ensures c.args.pass.now) c.requires.free x
    c.requires.taken c.statement-statement.ensures c.in_ok-act.act c.act.new.self.guards
    (subst (λ o. Acts o x c.args.player.now.guards c.in_ok-act.act c.act.new.self.guards) (c.verdict_on-refusal.ensures ∙ ap (λ n. verdict (g.N.Member.state n) (asked_call x)) c.node.ensures) c.in_ok-act.ensures.ok)

pub returns : goal.returns
returns g c = go c.make_act.result c.make_act.ensures.here c.make_act.ensures.place c.make_act.ensures.told
  where
    go : (r : Result (Unit {0}) AllocError) → OnOk r (IsOf c.args.nodes.now c.make_act.new.pass) → OnOk r (c.make_act.new.player.place ≡ c.act.new.self.place)
        → OnOk r (IsDoneFor g.N.Member.state (shape_of c.args.nodes.now) (call_made c.in_ok-act.act) (view_of c.args.pass.now) c.args.held.now c.act.new.self.guards (view_of c.make_act.new.pass) c.make_act.new.held c.make_act.new.player.guards)
        → OnOk r (WorksAt g.N.Member.state c.args.nodes.now c.args.held.now.number c.args.statements.now c.make_act.new.pass c.make_act.new.held c.make_act.new.player)
    go (Err e) here place told = tt
    go (Ok done) here place told =
        let x = c.statement-statement.result.now in
        let p = c.args.player.now in
        let next : p.place + 1 ≡ suc p.place = omega arith in
        taken_works g.N.Member.state c.args.nodes.now c.args.statements.now c.args.pass.now c.args.held.now p c.requires.works (c.fronts_are_histories.ensures c.args.pass.now) c.requires.free x
        c.requires.taken c.statement-statement.ensures c.in_ok-act.act c.act.new.self.guards
        (subst (λ o. Acts o x p.guards c.in_ok-act.act c.act.new.self.guards) (c.verdict_on-refusal.ensures ∙ ap (λ n. verdict (g.N.Member.state n) (asked_call x)) c.node.ensures) c.in_ok-act.ensures.ok)
        c.make_act.new.pass c.make_act.new.held c.make_act.new.player here (place ∙ c.in_ok-act.ensures.place ∙ next) told
