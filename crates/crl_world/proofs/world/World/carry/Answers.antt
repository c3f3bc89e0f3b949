use Rattle.std.proofs.Common.{◌<◌, length, ◌∙◌}
use Rattle.crl_world.proofs.Doing.{Stands, of_node, has_room}
use Rattle.crl_world.proofs.Carried.{carry_places, carry_piece, carry_framed, carry_done_refilled}
use Rattle.crl_deeds.proofs.Laws.{may_carry}
use Rattle.crl_world.proofs.world.World.carry.Goals as goal

pub addressee-j-requires : goal.addressee-j-requires
addressee-j-requires g c =
    let b : Stands g.N.Member.state c.self.inside.nodes.items c.self.inside.events c.self.inside.capacity c.args.i c.index.result.now c.args.self.now =
    record { is = c.self.view_is; below = c.requires.node; here = c.index.ensures; kept = c.self.invariant } in
    of_node b (λ m. c.args.place < length m.outbox) (may_carry _ _ _ c.requires.enabled).1

pub carry_between-requires-clause-places : goal.carry_between-requires-clause-places
carry_between-requires-clause-places g c =
    let b : Stands g.N.Member.state c.self.inside.nodes.items c.self.inside.events c.self.inside.capacity c.args.i c.index.result.now c.args.self.now =
    record { is = c.self.view_is; below = c.requires.node; here = c.index.ensures; kept = c.self.invariant } in
    carry_places b c.args.place c.addressee-j.result c.requires.enabled c.requires.elsewhere c.addressee-j.ensures c.as_mut_slice.result.now c.as_mut_slice.ensures.value

pub carry_between-requires-clause-there : goal.carry_between-requires-clause-there
carry_between-requires-clause-there g c =
    let b : Stands g.N.Member.state c.self.inside.nodes.items c.self.inside.events c.self.inside.capacity c.args.i c.index.result.now c.args.self.now =
    record { is = c.self.view_is; below = c.requires.node; here = c.index.ensures; kept = c.self.invariant } in
    carry_piece b c.args.place c.addressee-j.result c.requires.enabled c.requires.elsewhere c.addressee-j.ensures c.as_mut_slice.result.now c.as_mut_slice.ensures.value

pub carry_between-requires-clause-in_table : goal.carry_between-requires-clause-in_table
carry_between-requires-clause-in_table g c =
    let b : Stands g.N.Member.state c.self.inside.nodes.items c.self.inside.events c.self.inside.capacity c.args.i c.index.result.now c.args.self.now =
    record { is = c.self.view_is; below = c.requires.node; here = c.index.ensures; kept = c.self.invariant } in
    carry_framed b c.args.place c.addressee-j.result c.requires.enabled c.requires.elsewhere c.addressee-j.ensures c.as_mut_slice.result.now c.as_mut_slice.ensures.value c.requires.in_table

pub returns-in-Ok : goal.returns-in-Ok
returns-in-Ok g c =
    let b : Stands g.N.Member.state c.self.inside.nodes.items c.self.inside.events c.self.inside.capacity c.args.i c.index.result.now c.args.self.now =
    record { is = c.self.view_is; below = c.requires.node; here = c.index.ensures; kept = c.self.invariant } in
    carry_done_refilled b c.args.place c.addressee-j.result c.requires.enabled c.requires.elsewhere c.addressee-j.ensures c.as_mut_slice.result.now c.carry_between.new.nodes c.self.inside.nodes.items c.self.inside.nodes.len
    (c.carry_between.auto.nodes ∙ c.as_mut_slice.ensures.len) c.as_mut_slice.ensures.value c.in-Ok.ensures.ok (has_room b c.if-self-eq-EVENT_LIMIT.false)
