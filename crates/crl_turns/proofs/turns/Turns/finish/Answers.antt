use Rattle.std.proofs.Common.{ap, sym, subst, ◌∙◌, ◌≡◌, ◌<◌, ℕ, List, length}
use Rattle.std.specs.Slots.{slots_items, slots_counts}
use Rattle.crl_model.specs.declared.event.Event.{Event}
use Rattle.crl_turns.specs.declared.view.Place.TheVariants.{Full}
use Rattle.crl_turns.specs.Fronts.{Begins}
use Rattle.crl_turns.specs.Rule.{StandsFor, value_place}
use Rattle.crl_turns.specs.Plays.{only_view}
use Rattle.crl_turns.specs.Passes.{part_count}
use Rattle.crl_turns.specs.Closing.{IsDrained}
use Rattle.crl_turns.proofs.Draining.{all_there, closing}
use Rattle.crl_turns.proofs.turns.Turns.finish.Goals as goal

pub drained-requires-clause-full : goal.drained-requires-clause-full
drained-requires-clause-full g c =
    let key = c.args.self.table.shared.key in
    let closed = c.close_with-closed in
    let long : length (slots_items closed.result.slots) ≡ part_count c.args.self = sym (slots_counts closed.result.slots).0 ∙ closed.ensures.counts.1 in
    let all : (k : ℕ) → k < length (slots_items closed.result.slots) → value_place k c.into_seat.result.me.0.holds ≡ Full = λ k lt.
    ap (λ v. value_place k v.holds) (sym (ap only_view c.into_seat.ensures.2)) ∙ c.requires.all k (subst (λ n. k < n) long lt) in
    (closed.ensures.values.1, all_there (g.V.Turned.enabled key) (g.V.Turned.touches key) (StandsFor g.V.Turned.shape g.V.Turned.stands key) _ (slots_items closed.result.slots) _ _ closed.ensures.values.2 all)

pub returns : goal.returns
returns g c =
    let key = c.args.self.table.shared.key in
    let closed = c.close_with-closed in
    let slots = closed.result.slots in
    let long : length (slots_items slots) ≡ part_count c.args.self = sym (slots_counts slots).0 ∙ closed.ensures.counts.1 in
    let same = ap only_view c.into_seat.ensures.2 in
    let all : (k : ℕ) → k < length (slots_items slots) → value_place k c.into_seat.result.me.0.holds ≡ Full = λ k lt.
    ap (λ v. value_place k v.holds) (sym same) ∙ c.requires.all k (subst (λ n. k < n) long lt) in
    let t = closing (g.V.Turned.enabled key) (g.V.Turned.touches key) (StandsFor g.V.Turned.shape g.V.Turned.stands key) _ (slots_items slots) _ _ closed.ensures.values.2 all c.drained.result.items c.word-count.result c.word-count.ensures
    (subst (λ n. IsDrained n (slots_items slots) c.drained.result.items) (slots_counts slots).0 c.drained.ensures) in
    record {
      history = t.0;
      counts = t.1;
      limit = t.2;
      runs = t.3;
      begins = subst (λ (l : List Event). Begins l t.0) (ap (λ v. v.front) (sym same)) t.4;
      many = c.drained.ensures.many ∙ closed.ensures.counts.1;
      each = t.5;
    }
