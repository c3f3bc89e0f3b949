use Rattle.std.proofs.Common.{◌≡◌, ◌+◌, ◌++◌, ℕ, ◌∙◌, List, drop, length, replicate, None, Some, sym, ap, rules, arith, length-append}
use Rattle.std.proofs.lemmas.List.{length-replicate}
use Rattle.crl_commands.specs.Picks.{all_values, joined, item_of, within_limit}
use Rattle.crl_commands.proofs.Values.{texts_of, text_at, read_all, read_nothing, read_item, read_none, grown, too_many}
use Rattle.crl_commands.proofs.items.picks_of.Goals as goal
use Rattle.crl_commands.proofs.items.picks_of.Goals.{in_default-via-in-Some+else-times-len, in_default-via-in_default}

pub loop-item-init : goal.loop-item-init
loop-item-init c =
    let items = c.deref-item-items.result.now in
    let empty = c.new-values.ensures.items in (
      omega (arith, ap length empty),
      ap (λ (xs : List ℕ). within_limit (joined (Some xs) (all_values (texts_of items)))) empty
          ∙ (ap within_limit (read_nothing (all_values (texts_of items)))
          ∙ ap (λ (ts : List (List ℕ)). within_limit (all_values ts)) (ap texts_of c.deref-item-items.ensures.value ∙ c.in_ok-items.ensures)),
    )

pub loop-item-preserved : goal.loop-item-preserved
loop-item-preserved c =
    let items = c.deref-item-items.result.now in
    let i = c.loop-item.item-index in
    let old = c.loop-item.values.items in
    let times = c.in-Some.times in
    let more : c.resize.new.self.items ≡ old ++ replicate times c.in-Some.value =
    grown old c.resize.new.self.items c.len-in-Some.result c.loop-item.values.len times c.in-Some.value c.len-in-Some.ensures (search rules) c.in_ok-resize-in-Some.ensures.items in
    let is : item_of (text_at items i) ≡ Some (c.in-Some.value, times) = sym c.item_of.ensures ∙ c.in-Some.is in
    let step : joined (Some old) (all_values (texts_of (drop i items))) ≡ joined (Some (old ++ replicate times c.in-Some.value)) (all_values (texts_of (drop (i + 1) items))) =
    read_item items i old c.in-Some.value times c.loop-item-test.true is in (
      omega (arith, ap length more, length-append {A = ℕ}, length-replicate {A = ℕ}),
      ap (λ (xs : List ℕ). within_limit (joined (Some xs) (all_values (texts_of (drop (i + 1) items))))) more ∙ (ap within_limit (sym step) ∙ c.loop-item.invariant.1),
    )

pub returns-in_default : goal.returns-in_default
returns-in_default c =
    let items = c.deref-item-items.result.now in
    let i = c.loop-item.item-index in
    let old = c.loop-item.values.items in
    elim c.in_default.branch [
      | in_default-via-in-Some+else-times-len w ↦
          let is : item_of (text_at items i) ≡ Some (w.in-Some.value, w.in-Some.times) = sym c.item_of.ensures ∙ w.in-Some.is in
          let step : joined (Some old) (all_values (texts_of (drop i items))) ≡ joined (Some (old ++ replicate w.in-Some.times w.in-Some.value)) (all_values (texts_of (drop (i + 1) items))) =
          read_item items i old w.in-Some.value w.in-Some.times c.loop-item-test.true is in
          sym (sym c.loop-item.invariant.1 ∙ (ap within_limit step ∙ too_many (old ++ replicate w.in-Some.times w.in-Some.value) _ (omega (arith, length-append {A = ℕ}, length-replicate {A = ℕ}))))
      | in_default-via-in_default w ↦
          let is : item_of (text_at items i) ≡ None = sym c.item_of.ensures ∙ w.in_default.is in
          sym (sym c.loop-item.invariant.1 ∙ read_none items i old c.loop-item-test.true is)
    ]

pub returns : goal.returns
returns c = sym (read_all c.deref-item-items.result.now c.loop-item.item-index c.loop-item.values.items c.loop-item-test.false c.loop-item.invariant.0) ∙ c.loop-item.invariant.1
