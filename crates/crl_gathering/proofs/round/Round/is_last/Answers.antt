use Rattle.std.proofs.Common.{◌<◌, ◌∙◌, ap, arith, length}
use Rattle.crl_gathering.specs.RoundState.{RoundState, others_there}
use Rattle.crl_gathering.proofs.Filling.{completed}
use Rattle.crl_gathering.proofs.round.Round.is_last.Goals as goal

pub returns : goal.returns
returns c = λ part.
    let inside = c.self.inside in let h = c.self.invariant in
    let seen : RoundState = record { round = inside.number; nodes = inside.nodes; parts = inside.parts.items } in
    let below : c.args.node < inside.nodes = rw (← c.self.view_is) at c.requires in
    let within : c.args.node < length inside.parts.items = omega (arith, h.places, below) in
    rw (← c.self.view_is) (c.others_there.ensures ∙ ap (others_there c.args.node) c.as_slice.ensures.value ∙ completed c.args.node part seen within h.places)
