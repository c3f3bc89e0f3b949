use Rattle.std.proofs.Common.{◌∙◌, ◌<◌, sym, subst, zero-add}
use Rattle.std.proofs.lemmas.List.{length-map}
use Rattle.crl_world.specs.Choosing.{choices_in, left_in}
use Rattle.crl_world.specs.Seen.{world_seen}
use Rattle.crl_world.proofs.RowSums.{rest_more, row_found}
use Rattle.crl_world.proofs.world.World.find_in.Goals as goal

pub loop-i-init : goal.loop-i-init
loop-i-init g c = sym (zero-add c.args.k)

pub returns-then-rest-here : goal.returns-then-rest-here
returns-then-rest-here g c =
    let f = choices_in c.args.rows (left_in c.args.left.now) (world_seen g.N.Member.state c.args.self.now) in
    let long = c.count-i-end.ensures ∙ sym (length-map c.args.self.now.nodes g.N.Member.state) in
    row_found f c.loop-i.i _ c.args.k c.loop-i.rest c.choice_at.result (subst (λ n. c.loop-i.i < n) long c.loop-i-test.true) c.loop-i.invariant
    (subst (λ n. c.loop-i.rest < n) c.count_at-here.ensures c.if-rest-here.true) c.choice_at.ensures

pub loop-i-preserved : goal.loop-i-preserved
loop-i-preserved g c =
    rest_more (choices_in c.args.rows (left_in c.args.left.now) (world_seen g.N.Member.state c.args.self.now)) c.loop-i.i c.args.k c.loop-i.rest c.count_at-here.result c.loop-i.invariant c.count_at-here.ensures c.if-rest-here.false
