use Rattle.std.proofs.Common.{◌≡◌, true, ap}
use Rattle.crl_protocol.specs.World.{is_free}
use Rattle.crl_world.proofs.Doing.{Stands, of_node, has_room, may_call, kept_stays, not_done, call_kept, call_done}
use Rattle.crl_deeds.proofs.Laws as enabled
use Rattle.crl_world.proofs.world.World.call_judged.Goals as goal

pub call_judged-requires-clause-free : goal.call_judged-requires-clause-free
call_judged-requires-clause-free g c =
    of_node (record { is = c.self.view_is; below = c.requires.node; here = c.index_mut.ensures.value; kept = c.self.invariant }) (λ m. is_free m.activity ≡ true) (ap is_free (enabled.may_call _ _ _ c.requires.enabled).1)

pub call_judged-requires-clause-may : goal.call_judged-requires-clause-may
call_judged-requires-clause-may g c =
    may_call (record { is = c.self.view_is; below = c.requires.node; here = c.index_mut.ensures.value; kept = c.self.invariant }) c.args.call c.requires.enabled c.requires.unguarded

pub invariant_of-self : goal.invariant_of-self
invariant_of-self g c =
    let b : Stands g.N.Member.state c.self.inside.nodes.items c.self.inside.events c.self.inside.capacity c.args.i c.index_mut.result.now c.args.self.now =
    record { is = c.self.view_is; below = c.requires.node; here = c.index_mut.ensures.value; kept = c.self.invariant } in
    call_kept b c.call_judged.new.self c.args.call c.in-Ok.answer c.requires.enabled (has_room b c.if-self-eq-EVENT_LIMIT.false) c.in-Ok.ensures

pub invariant_of-self-in-Err : goal.invariant_of-self-in-Err
invariant_of-self-in-Err g c =
    kept_stays (record { is = c.self.view_is; below = c.requires.node; here = c.index_mut.ensures.value; kept = c.self.invariant }) c.call_judged.new.self c.in-Err.ensures.node

pub returns-in-Ok : goal.returns-in-Ok
returns-in-Ok g c =
    let b : Stands g.N.Member.state c.self.inside.nodes.items c.self.inside.events c.self.inside.capacity c.args.i c.index_mut.result.now c.args.self.now =
    record { is = c.self.view_is; below = c.requires.node; here = c.index_mut.ensures.value; kept = c.self.invariant } in
    call_done b c.call_judged.new.self c.args.call c.in-Ok.answer (has_room b c.if-self-eq-EVENT_LIMIT.false) c.in-Ok.ensures

pub returns-in-Err : goal.returns-in-Err
returns-in-Err g c =
    let b : Stands g.N.Member.state c.self.inside.nodes.items c.self.inside.events c.self.inside.capacity c.args.i c.index_mut.result.now c.args.self.now =
    record { is = c.self.view_is; below = c.requires.node; here = c.index_mut.ensures.value; kept = c.self.invariant } in
    (c.in-Err.ensures.call, not_done b c.call_judged.new.self c.in-Err.ensures.node (has_room b c.if-self-eq-EVENT_LIMIT.false))
