use Rattle.std.proofs.Common.{◌<◌, ◌∙◌, ap, sym, subst}
use Rattle.std.proofs.lemmas.List.{length-map}
use Rattle.crl_protocol.specs.Node.{Node}
use Rattle.crl_protocol.specs.World.{messages_sent}
use Rattle.crl_world.specs.Seen.{world_seen}
use Rattle.crl_world.proofs.Totals.{sent_more}
use Rattle.crl_world.proofs.world.World.messages.Goals as goal

pub loop-i-preserved : goal.loop-i-preserved
loop-i-preserved g c =
    let w = world_seen g.N.Member.state c.args.self.now in
    let lt : c.loop-i.i < w.count = subst (λ n. c.loop-i.i < n) (c.count-i-end.ensures ∙ sym (length-map c.args.self.now.nodes g.N.Member.state)) c.loop-i-test.true in
    sent_more w.nodes c.loop-i.i w.count c.loop-i.sum c.posted-sum.result (messages_sent w) lt c.loop-i.invariant (c.posted-sum.ensures ∙ ap (λ (n : Node). n.posted) c.node.ensures)
