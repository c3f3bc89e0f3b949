use Rattle.std.proofs.Common.{sym}
use Rattle.crl_world.proofs.Doing.{Stands, has_room}
use Rattle.crl_world.proofs.Guarded.{reading_below, reading_kept, reading_done}
use Rattle.crl_world.proofs.world.World.end_read.Goals as goal

pub invariant_of-self : goal.invariant_of-self
invariant_of-self g c =
    let fit = sym c.if-not-fits_reading.ensures in
    let b : Stands g.N.Member.state c.self.inside.nodes.items c.self.inside.events c.self.inside.capacity c.node-i.result c.index_mut.result.now c.args.self.now =
    record { is = c.self.view_is; below = reading_below g.N.Member.state c.args.self.now c.args.guard c.node-i.result c.node-i.ensures fit; here = c.index_mut.ensures.value; kept = c.self.invariant } in
    reading_kept b c.end_read.new.self c.args.guard c.node-i.ensures (c.requires.may fit) (has_room b c.if-self-eq-EVENT_LIMIT.false) c.end_read.ensures

pub returns : goal.returns
returns g c =
    let fit = sym c.if-not-fits_reading.ensures in
    let b : Stands g.N.Member.state c.self.inside.nodes.items c.self.inside.events c.self.inside.capacity c.node-i.result c.index_mut.result.now c.args.self.now =
    record { is = c.self.view_is; below = reading_below g.N.Member.state c.args.self.now c.args.guard c.node-i.result c.node-i.ensures fit; here = c.index_mut.ensures.value; kept = c.self.invariant } in
    reading_done b c.end_read.new.self c.args.guard c.node-i.ensures fit (c.requires.may fit) (has_room b c.if-self-eq-EVENT_LIMIT.false) c.end_read.ensures
