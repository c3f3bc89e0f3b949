use Rattle.std.proofs.Common.{rules, sym, ap, subst, ◌∙◌, ◌≡◌, ◌<◌, ◌≤◌, ◌^◌}
use Rattle.crl_turns.specs.declared.turned.Shape.{Shape}
use Rattle.crl_turns.specs.Passes.{part_count}
use Rattle.crl_world.specs.Starting.{AreSomeNodes}
use Rattle.crl_cluster.proofs.Fresh.{new_stand, shape_is}
use Rattle.crl_cluster.proofs.cluster.Cluster.start.Goals as goal

pub new-requires-clause-stand : goal.new-requires-clause-stand
new-requires-clause-stand g c = new_stand g.N.Member.state g.T.Luggage.stands c.args.nodes c.args.capacity c.in-Ok.values.items c.in-Ok.ensures

pub invariant_of-result : goal.invariant_of-result
invariant_of-result g c =
    let some : AreSomeNodes c.args.nodes = search rules in
    let common = shape_is g.N.Member.state g.T.Luggage.stands c.args.nodes c.args.capacity c.in-Ok.values.items _ c.in-Ok.ensures some.some c.in-Ok-new.ensures.shape in
    let many : part_count c.in-Ok-new.turns ≡ c.args.nodes = search (rules, c.in-Ok.ensures.count) in
    let width : c.args.capacity < 2 ^ 16 = search rules in
    record { narrow = subst (λ (s : Shape). s.extra < 2 ^ 16) (sym common) width; all = many ∙ sym (ap (λ (s : Shape). s.parts) common); some = subst (λ (s : Shape). (0 < s.parts) × (s.parts ≤ 64)) (sym common) (some.some, some.few) }

pub returns-in-Ok-new : goal.returns-in-Ok-new
returns-in-Ok-new g c =
    let some : AreSomeNodes c.args.nodes = search rules in
    let common = shape_is g.N.Member.state g.T.Luggage.stands c.args.nodes c.args.capacity c.in-Ok.values.items _ c.in-Ok.ensures some.some c.in-Ok-new.ensures.shape in
    record { some = some; shape = common; here = record { turns_are = c.in-Ok-new.ensures.pass.0; shape_is = sym common }; view = c.in-Ok-new.ensures.pass.1 }
