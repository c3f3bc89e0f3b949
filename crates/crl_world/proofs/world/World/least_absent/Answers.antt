use Rattle.std.proofs.Common.{◌<◌, ◌≤◌, ◌∙◌, ap, sym, subst}
use Rattle.std.proofs.lemmas.Bool.{le-ltb}
use Rattle.std.proofs.lemmas.List.{length-map}
use Rattle.crl_protocol.specs.Node.{Node}
use Rattle.crl_protocol.specs.Ends.{is_absent}
use Rattle.crl_world.specs.Seen.{world_seen}
use Rattle.crl_world.proofs.Totals.{least_more}
use Rattle.crl_world.proofs.world.World.least_absent.Goals as goal

pub loop-m-preserved : goal.loop-m-preserved
loop-m-preserved g c =
    let w = world_seen g.N.Member.state c.args.self.now in
    let lt : c.loop-m.m < w.count = subst (λ n. c.loop-m.m < n) (c.count-m-end.ensures ∙ sym (length-map c.args.self.now.nodes g.N.Member.state)) c.loop-m-test.true in
    let came : c.args.round ≤ (w.nodes c.loop-m.m).rounds = subst (λ n. c.args.round ≤ n) (c.rounds.ensures ∙ ap (λ (n : Node). n.rounds) c.node.ensures) c.if-rounds-round.false in
    least_more (is_absent c.args.round) w.nodes c.loop-m.m w.count lt (le-ltb _ _ came) ∙ c.loop-m.invariant
