use Rattle.std.proofs.Common.{◌≡◌, true}
use Rattle.crl_protocol.specs.World.{is_ready}
use Rattle.crl_world.proofs.Doing.{Stands, of_node, is_safe, has_room, kept_stays, not_done, collect_kept, collect_done}
use Rattle.crl_deeds.proofs.Laws as enabled
use Rattle.crl_world.proofs.world.World.collect.Goals as goal

pub collect-requires-clause-safe : goal.collect-requires-clause-safe
collect-requires-clause-safe g c =
    let b : Stands g.N.Member.state c.self.inside.nodes.items c.self.inside.events c.self.inside.capacity c.args.i c.index_mut.result.now c.args.self.now =
    record { is = c.self.view_is; below = c.requires.node; here = c.index_mut.ensures.value; kept = c.self.invariant } in
    is_safe b c.requires.safe

pub collect-requires-clause-ready : goal.collect-requires-clause-ready
collect-requires-clause-ready g c =
    let b : Stands g.N.Member.state c.self.inside.nodes.items c.self.inside.events c.self.inside.capacity c.args.i c.index_mut.result.now c.args.self.now =
    record { is = c.self.view_is; below = c.requires.node; here = c.index_mut.ensures.value; kept = c.self.invariant } in
    of_node b (λ m. is_ready m.activity ≡ true) (enabled.may_collect _ _ c.requires.enabled).1

pub invariant_of-self : goal.invariant_of-self
invariant_of-self g c =
    let b : Stands g.N.Member.state c.self.inside.nodes.items c.self.inside.events c.self.inside.capacity c.args.i c.index_mut.result.now c.args.self.now =
    record { is = c.self.view_is; below = c.requires.node; here = c.index_mut.ensures.value; kept = c.self.invariant } in
    collect_kept b c.collect.new.self c.in-Ok.answer c.requires.enabled (has_room b c.if-self-eq-EVENT_LIMIT.false) c.in-Ok.ensures

pub invariant_of-self-in-Err : goal.invariant_of-self-in-Err
invariant_of-self-in-Err g c =
    let b : Stands g.N.Member.state c.self.inside.nodes.items c.self.inside.events c.self.inside.capacity c.args.i c.index_mut.result.now c.args.self.now =
    record { is = c.self.view_is; below = c.requires.node; here = c.index_mut.ensures.value; kept = c.self.invariant } in
    kept_stays b c.collect.new.self c.in-Err.ensures

pub returns-in-Ok : goal.returns-in-Ok
returns-in-Ok g c =
    let b : Stands g.N.Member.state c.self.inside.nodes.items c.self.inside.events c.self.inside.capacity c.args.i c.index_mut.result.now c.args.self.now =
    record { is = c.self.view_is; below = c.requires.node; here = c.index_mut.ensures.value; kept = c.self.invariant } in
    collect_done b c.collect.new.self c.in-Ok.answer (has_room b c.if-self-eq-EVENT_LIMIT.false) c.in-Ok.ensures

pub returns-in-Err : goal.returns-in-Err
returns-in-Err g c =
    let b : Stands g.N.Member.state c.self.inside.nodes.items c.self.inside.events c.self.inside.capacity c.args.i c.index_mut.result.now c.args.self.now =
    record { is = c.self.view_is; below = c.requires.node; here = c.index_mut.ensures.value; kept = c.self.invariant } in
    not_done b c.collect.new.self c.in-Err.ensures (has_room b c.if-self-eq-EVENT_LIMIT.false)
