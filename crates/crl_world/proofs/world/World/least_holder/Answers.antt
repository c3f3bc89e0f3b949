use Rattle.std.proofs.Common.{◌<◌, ◌∙◌, sym, subst}
use Rattle.std.proofs.lemmas.List.{length-map}
use Rattle.crl_protocol.specs.Ends.{holds_open}
use Rattle.crl_world.specs.Seen.{world_seen}
use Rattle.crl_world.proofs.Totals.{least_more}
use Rattle.crl_world.proofs.world.World.least_holder.Goals as goal

pub loop-m-preserved : goal.loop-m-preserved
loop-m-preserved g c =
    let w = world_seen g.N.Member.state c.args.self.now in
    let lt : c.loop-m.m < w.count = subst (λ n. c.loop-m.m < n) (c.count-m-end.ensures ∙ sym (length-map c.args.self.now.nodes g.N.Member.state)) c.loop-m-test.true in
    least_more (holds_open c.args.i c.args.name) w.nodes c.loop-m.m w.count lt (sym c.if-has_open.ensures) ∙ c.loop-m.invariant
