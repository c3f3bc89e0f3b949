use Rattle.std.proofs.Common.{◌<◌, length}
use Rattle.crl_world.proofs.Doing.{Stands, of_node, has_room, kept_stays, not_done, handle_kept, handle_done}
use Rattle.crl_deeds.proofs.Laws as enabled
use Rattle.crl_world.proofs.world.World.handle.Goals as goal

pub handle-requires-clause-there : goal.handle-requires-clause-there
handle-requires-clause-there g c =
    let b : Stands g.N.Member.state c.self.inside.nodes.items c.self.inside.events c.self.inside.capacity c.args.i c.index_mut.result.now c.args.self.now =
    record { is = c.self.view_is; below = c.requires.node; here = c.index_mut.ensures.value; kept = c.self.invariant } in
    of_node b (λ m. c.args.place < length m.inbox) (enabled.may_handle _ _ _ c.requires.enabled).1

pub invariant_of-self : goal.invariant_of-self
invariant_of-self g c =
    let b : Stands g.N.Member.state c.self.inside.nodes.items c.self.inside.events c.self.inside.capacity c.args.i c.index_mut.result.now c.args.self.now =
    record { is = c.self.view_is; below = c.requires.node; here = c.index_mut.ensures.value; kept = c.self.invariant } in
    handle_kept b c.handle.new.self c.args.place c.requires.enabled (has_room b c.if-self-eq-EVENT_LIMIT.false) c.in-Ok.ensures.ok

pub invariant_of-self-in-Err : goal.invariant_of-self-in-Err
invariant_of-self-in-Err g c =
    let b : Stands g.N.Member.state c.self.inside.nodes.items c.self.inside.events c.self.inside.capacity c.args.i c.index_mut.result.now c.args.self.now =
    record { is = c.self.view_is; below = c.requires.node; here = c.index_mut.ensures.value; kept = c.self.invariant } in
    kept_stays b c.handle.new.self c.in-Err.ensures.err

pub returns-in-Ok : goal.returns-in-Ok
returns-in-Ok g c =
    let b : Stands g.N.Member.state c.self.inside.nodes.items c.self.inside.events c.self.inside.capacity c.args.i c.index_mut.result.now c.args.self.now =
    record { is = c.self.view_is; below = c.requires.node; here = c.index_mut.ensures.value; kept = c.self.invariant } in
    handle_done b c.handle.new.self c.args.place c.requires.enabled (has_room b c.if-self-eq-EVENT_LIMIT.false) c.in-Ok.ensures.ok

pub returns-in-Err : goal.returns-in-Err
returns-in-Err g c =
    let b : Stands g.N.Member.state c.self.inside.nodes.items c.self.inside.events c.self.inside.capacity c.args.i c.index_mut.result.now c.args.self.now =
    record { is = c.self.view_is; below = c.requires.node; here = c.index_mut.ensures.value; kept = c.self.invariant } in
    not_done b c.handle.new.self c.in-Err.ensures.err (has_room b c.if-self-eq-EVENT_LIMIT.false)
