use Rattle.std.proofs.Common.{◌≡◌, ◌<◌, ◌∙◌, ap, sym, subst, Some, None}
use Rattle.std.proofs.lemmas.List.{length-map}
use Rattle.crl_protocol.specs.Node.{Node}
use Rattle.crl_protocol.specs.Ends.{exclusive_bytes, copy_of}
use Rattle.crl_world.specs.Seen.{world_seen}
use Rattle.crl_world.proofs.Totals.{bytes_more}
use Rattle.crl_world.proofs.world.World.exclusive_bytes.Goals as goal

pub returns-in-Some : goal.returns-in-Some
returns-in-Some g c bytes =
    let w = world_seen g.N.Member.state c.args.self.now in
    let lt : c.loop-i.i < w.count = subst (λ n. c.loop-i.i < n) (c.count-i-end.ensures ∙ sym (length-map c.args.self.now.nodes g.N.Member.state)) c.loop-i-test.true in
    c.loop-i.invariant bytes ∙ bytes_more c.args.name w.nodes c.loop-i.i w.count (Some c.in-Some.bytes.now) lt (c.in-Some.ensures ∙ ap (λ (n : Node). exclusive_bytes (copy_of (n.remotes c.args.name))) c.node.ensures) bytes

pub loop-i-preserved : goal.loop-i-preserved
loop-i-preserved g c bytes =
    let w = world_seen g.N.Member.state c.args.self.now in
    let lt : c.loop-i.i < w.count = subst (λ n. c.loop-i.i < n) (c.count-i-end.ensures ∙ sym (length-map c.args.self.now.nodes g.N.Member.state)) c.loop-i-test.true in
    let none : None ≡ exclusive_bytes (copy_of ((w.nodes c.loop-i.i).remotes c.args.name)) = c.in_default.ensures ∙ ap (λ (n : Node). exclusive_bytes (copy_of (n.remotes c.args.name))) c.node.ensures in
    c.loop-i.invariant bytes ∙ bytes_more c.args.name w.nodes c.loop-i.i w.count None lt none bytes
