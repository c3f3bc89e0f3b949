use Rattle.std.proofs.Common.{◌<◌, ◌∙◌, sym, subst}
use Rattle.std.proofs.lemmas.List.{length-map}
use Rattle.crl_protocol.specs.Ends.{regions}
use Rattle.crl_world.specs.Seen.{world_seen}
use Rattle.crl_world.proofs.Totals.{homes_more}
use Rattle.crl_world.proofs.world.World.regions.Goals as goal

pub loop-i-preserved : goal.loop-i-preserved
loop-i-preserved g c =
    let w = world_seen g.N.Member.state c.args.self.now in
    let lt : c.loop-i.i < w.count = subst (λ n. c.loop-i.i < n) (c.count-i-end.ensures ∙ sym (length-map c.args.self.now.nodes g.N.Member.state)) c.loop-i-test.true in
    homes_more w c.loop-i.i w.count c.loop-i.list.items c.push_regions.new.regions.items (regions w) lt c.loop-i.invariant c.in_ok-push_regions.ensures
