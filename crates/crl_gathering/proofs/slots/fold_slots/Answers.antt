use Rattle.std.proofs.Common.{◌<◌, ◌∙◌, arith, length}
use Rattle.std.proofs.lemmas.List.{length-set}
use Rattle.crl_gathering.proofs.Filling.{fold_next, nothing_next, all_nothing}
use Rattle.crl_gathering.proofs.slots.fold_slots.Goals as goal

pub loop-place-preserved : goal.loop-place-preserved
loop-place-preserved c =
    let now = c.loop-place in let h = now.invariant in let made = c.add_slot-tally.ensures in
    let taken = c.add_slot-tally.new.slot in
    let below : now.place < length now.slots = omega (arith, c.loop-place-test.true, h.places) in
    record {
      gives = fold_next now.place now.slots c.index-slots-place.result taken now.tally c.add_slot-tally.result below made.gives ∙ h.gives;
      within = made.within now.place h.within;
      nothing = nothing_next now.place now.slots taken made.taken below h.nothing;
      places = length-set now.slots now.place taken ∙ h.places;
    }

pub returns-clause-nothing : goal.returns-clause-nothing
returns-clause-nothing c = all_nothing c.loop-place.slots (λ k l. c.loop-place.invariant.nothing k (omega (arith, c.loop-place-test.false, c.loop-place.invariant.places)))
