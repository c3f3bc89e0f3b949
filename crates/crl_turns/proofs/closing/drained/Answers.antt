use Rattle.std.proofs.Common.{rules, ap, sym, subst, ◌∙◌, ◌≡◌, ◌+◌, ◌<◌, ◌≤◌, ℕ, length, false, true, slice_index_or}
use lib.ListN.{get_elem?}
use Rattle.std.specs.Slots.{slots_items, slots_filled, slots_counts}
use Rattle.crl_turns.proofs.Draining.{is_some_there, drained_more, cleared, still_full}
use Rattle.crl_turns.proofs.closing.drained.Goals as goal

pub unwrap-requires : goal.unwrap-requires
unwrap-requires g c =
    let inv = c.loop-i.invariant in
    let counts = slots_counts c.args.closed.slots in
    let here = ap (λ l. get_elem? l c.loop-i.i) (sym inv.2) ∙ c.take.ensures.value in
    let lt : c.loop-i.i < length (slots_items c.args.closed.slots) = search rules in
    is_some_there (slots_items c.args.closed.slots) c.loop-i.i c.take.result c.requires.full.1 lt here

pub loop-i-preserved : goal.loop-i-preserved
loop-i-preserved g c =
    let inv = c.loop-i.invariant in
    let others = c.take.ensures.others in
    let here = ap (λ l. get_elem? l c.loop-i.i) (sym inv.2) ∙ c.take.ensures.value in
    let lt : c.loop-i.i < length (slots_filled c.loop-i.closed.slots) = search rules in (
      search rules,
      search rules,
      others.0 ∙ inv.2,
      others.2 ∙ inv.3,
      subst (λ fs. (k : ℕ) → k < c.loop-i.i + 1 → slice_index_or fs k false ≡ false) (sym others.1) (cleared (slots_filled c.loop-i.closed.slots) c.loop-i.i lt inv.4),
      subst (λ fs. (k : ℕ) → c.loop-i.i + 1 ≤ k → k < c.slot_count-parts.result → slice_index_or fs k false ≡ true) (sym others.1) (still_full (slots_filled c.loop-i.closed.slots) c.loop-i.i c.slot_count-parts.result inv.5),
      search rules,
      drained_more c.loop-i.i (slots_items c.args.closed.slots) c.loop-i.values.items c.push_reserved.new.self.items c.take.result c.unwrap.result here c.unwrap.ensures c.push_reserved.ensures.items inv.7,
    )
