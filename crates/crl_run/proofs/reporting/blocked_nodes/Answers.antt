use Rattle.std.proofs.Common.{◌<◌, ◌∙◌, sym, subst, map}
use Rattle.std.proofs.lemmas.List.{length-map}
use Rattle.crl_protocol.specs.Ends.{blocked_from}
use Rattle.crl_world.specs.Seen.{world_seen}
use Rattle.crl_run.specs.Reporting.{running_seen}
use Rattle.crl_run.proofs.ReportSums.{blocked_more}
use Rattle.crl_run.proofs.reporting.blocked_nodes.Goals as goal

pub loop-i-preserved : goal.loop-i-preserved
loop-i-preserved g c =
    let w = world_seen g.N.Member.state c.args.world.now in
    let r = running_seen (map (λ b. b.items) c.args.blocks.now) w c.args.players.now in
    let lt : c.loop-i.i < w.count = subst (λ n. c.loop-i.i < n) (c.count-i-end.ensures ∙ sym (length-map c.args.world.now.nodes g.N.Member.state)) c.loop-i-test.true in
    blocked_more c.loop-i.list.items c.push_blocked.new.list.items (blocked_from 0 w.count r) c.loop-i.i w.count r lt c.loop-i.invariant c.in_ok-push_blocked.ensures
