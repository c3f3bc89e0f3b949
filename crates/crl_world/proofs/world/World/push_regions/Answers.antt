use Rattle.std.proofs.Common.{◌<◌, ◌++◌, ◌∙◌, ap, subst, length}
use Rattle.crl_protocol.specs.Node.{Node}
use Rattle.crl_protocol.specs.Ends.{final_bytes, region_line, regions_of}
use Rattle.crl_world.specs.Seen.{world_seen}
use Rattle.crl_world.proofs.Totals.{regions_more}
use Rattle.crl_world.proofs.world.World.push_regions.Goals as goal

pub loop-serial-preserved : goal.loop-serial-preserved
loop-serial-preserved g c =
    let w = world_seen g.N.Member.state c.args.self.now in
    let lt : c.loop-serial.serial < length (w.nodes c.args.i).homes = subst (λ n. c.loop-serial.serial < n) (c.serials-serial-end.ensures ∙ ap (λ (n : Node). length n.homes) c.node.ensures) c.loop-serial-test.true in
    regions_more w c.args.i c.loop-serial.serial (w.nodes c.args.i).homes c.loop-serial.regions.items c.push_region.new.regions.items (c.args.regions.now.items ++ regions_of c.args.i 1 (w.nodes c.args.i).homes w) lt c.loop-serial.invariant
    (c.in_ok-push_region.ensures ∙ ap (λ q. c.loop-serial.regions.items ++ region_line q (final_bytes q w)) c.new.ensures)
