-- What popping says of queues.
use Rattle.std.proofs.Common.{◌≡◌, ℕ, ◌+◌, ◌<◌, List, [], ◌∷◌, length, set, get_or, Option, Some, None, refl, sym, ap, ◌∙◌, subst}
use Rattle.std.specs.Option.{option_map}
use Rattle.std.proofs.lemmas.List.{get_or_default, get_or-set_same}
use Rattle.crl_model.specs.declared.journal.Recorded.{Recorded}
use Rattle.crl_journal.specs.declared.merging.Front.{Front}
use Rattle.crl_journal.specs.Merging.{merged_account, next_below, IsPopped}
use Rattle.crl_journal.proofs.Popping.{none_merged, next_inside, next_merged, fewer_left, left}

pub is_popped : (queues : List (List Recorded)) (i : ℕ) (old new : List Recorded) (x : Recorded) → i < length queues → old ≡ get_or queues i old → old ≡ x ∷ new → IsPopped i queues x (set queues i new)
is_popped queues i old new x within is first =
    let here : get_or queues i [] ≡ old = get_or_default queues i [] old within ∙ sym is in
    let there : get_or (set queues i new) i [] ≡ new = get_or-set_same queues i new [] within in
    record { head = here ∙ first ∙ ap (λ (xs : List Recorded). x ∷ xs) (sym there); rest = ap (set queues i) (sym there) }

-- the journal that was found
record Finds (i : ℕ) (xss : List (List Recorded)) : Type 0 where
  front : Front
  is : next_below (length xss) xss ≡ Some front
  number : front.journal ≡ i

module _ (queues : List (List Recorded)) where
  finds : (i : ℕ) → Some i ≡ option_map (λ (f : Front). f.journal) (next_below (length queues) queues) → Finds i queues
  finds i h = go (next_below (length queues) queues) refl h where
    go : (o : Option Front) → o ≡ next_below (length queues) queues → Some i ≡ option_map (λ (f : Front). f.journal) o → Finds i queues
    go (Some f) e h = let same : i ≡ f.journal = cc h in record { front = f; is = sym e; number = sym same }
    go None e h = cc h

  pub journal_inside : (i : ℕ) → Some i ≡ option_map (λ (f : Front). f.journal) (next_below (length queues) queues) → (i < length queues) × (0 < length (get_or queues i []))
  journal_inside i h = let f = finds i h in let inside = subst (λ (k : ℕ). (k < length queues) × (0 < length (get_or queues k []))) f.number (next_inside queues f.front f.is) in inside

  pub popped_merged : (i : ℕ) (x : Recorded) (yss : List (List Recorded)) → Some i ≡ option_map (λ (f : Front). f.journal) (next_below (length queues) queues) → IsPopped i queues x yss
      → merged_account queues ≡ x.entry ∷ merged_account yss
  popped_merged i x yss h popped = let f = finds i h in next_merged queues f.front x yss f.is (subst (λ (k : ℕ). IsPopped k queues x yss) (sym f.number) popped)

  pub popped_left : (i : ℕ) (x : Recorded) (yss : List (List Recorded)) → Some i ≡ option_map (λ (f : Front). f.journal) (next_below (length queues) queues) → IsPopped i queues x yss
      → left yss + 1 ≡ left queues
  popped_left i x yss h popped = fewer_left queues i x yss (journal_inside i h).0 popped

  pub none_left : None ≡ option_map (λ (f : Front). f.journal) (next_below (length queues) queues) → merged_account queues ≡ []
  none_left h = none_merged queues (go (next_below (length queues) queues) h) where
    go : (o : Option Front) → None ≡ option_map (λ (f : Front). f.journal) o → o ≡ None
    go None h = refl
    go (Some f) h = cc h
