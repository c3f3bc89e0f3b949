use Rattle.std.proofs.Common.{rules, ap, sym, ◌∙◌, ◌+◌, arith}
use Rattle.crl_turns.specs.Calls.{HasValue}
use Rattle.crl_turns.specs.Passes.{view_of, common_shape}
use Rattle.crl_turns.proofs.Laws.{holds_what_it_has, still_if_refused}
use Rattle.crl_turns_tests.specs.Tallies.{events_of}
use Rattle.crl_turns_tests.proofs.Events.{within, one_more}
use Rattle.crl_turns_tests.proofs.counting.append_counted.Goals as goal

pub overflow_add-tally : goal.overflow_add-tally
overflow_add-tally c =
    let took = c.in-Ok.ensures.told in
    let front = (view_of c.try_take.new.pass).front in
    omega (arith, took.stands_for.1, within c.args.part front, took.grows.limit)

pub give_back-requires-clause-value : goal.give_back-requires-clause-value
give_back-requires-clause-value c =
    let took = c.in-Ok.ensures.told in
    let has : HasValue c.args.part (view_of c.try_take.new.pass) = search rules in
    let seen = view_of c.seen-saw.new.pass in
    let stood = c.seen-saw.ensures.told.grows.still c.args.part c.in-Ok.tally (holds_what_it_has c.args.part (view_of c.try_take.new.pass) has) took.stands_for in (
      stood.0,
      ap (λ count. count + 1) stood.1 ∙ sym (one_more c.args.part seen.front c.args.event.now c.requires.node) ∙ ap (events_of c.args.part) (sym c.in-Ok-append.ensures.told.ends),
    )

pub give_back-requires-in-Err-clause-value : goal.give_back-requires-in-Err-clause-value
give_back-requires-in-Err-clause-value c =
    let took = c.in-Ok.ensures.told in
    let has : HasValue c.args.part (view_of c.try_take.new.pass) = search rules in
    let still_has : HasValue c.args.part (view_of c.seen-saw.new.pass) = search rules in
    let stood = c.seen-saw.ensures.told.grows.still c.args.part c.in-Ok.tally (holds_what_it_has c.args.part (view_of c.try_take.new.pass) has) took.stands_for in
    still_if_refused _ _ _ _ (common_shape c.args.turns.now) c.seen-saw.result (view_of c.seen-saw.new.pass) (view_of c.append.new.pass) c.in-Err.fault c.args.part c.in-Ok.tally c.in-Err.ensures.told
    (holds_what_it_has c.args.part (view_of c.seen-saw.new.pass) still_has) stood
