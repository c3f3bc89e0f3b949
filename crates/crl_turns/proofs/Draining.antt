-- What closing takes apart.
use Rattle.std.proofs.Common.{◌≡◌, ℕ, zero, suc, ◌+◌, ◌^◌, ◌<◌, ◌≤◌, ◌⊎◌, inl, inr, ⊎_elim, Bool, true, false, List, [], ◌∷◌, ◌++◌, length, set, get_or, slice_get, slice_index, slice_index_or, take, drop, refl, ap, sym, ◌∙◌, subst, arith, Option, Some, None, IsSome, length-append, get_or-set_other, get_or-set_same}
use mathlib.Core.Option as maybe
use mathlib.Core.Option.{some-injective, some-ne-none}
use mathlib.Core.Logic.{dite}
use native.Mathlib.Decide.{ℕ_discrete}
use lib.ListN.{get_elem?}
use Rattle.atomic_table.specs.Table.{Final, Seen}
use Rattle.crl_model.specs.declared.event.Event.{Event}
use Rattle.crl_turns.specs.declared.view.Place.TheVariants.{Full}
use Rattle.crl_turns.specs.declared.view.View.{View}
use Rattle.crl_turns.specs.Fronts.{Begins, Runs}
use Rattle.crl_turns.specs.Rule.{IsAmong, value_place, TurnRule}
use Rattle.crl_turns.specs.Closing.{AllThere, IsDrained}
use Rattle.crl_turns.proofs.Holders.{full_held}
use Rattle.crl_turns.proofs.WordSteps.{held_by}
use Rattle.crl_turns.proofs.Parting.{in_both}

pub in_first : {A : Type 0} (xs ys : List A) (x : A) → IsAmong x xs → IsAmong x (xs ++ ys)
in_first [] ys x i = absurd i
in_first (y ∷ xs) ys x (inl e) = inl e
in_first (y ∷ xs) ys x (inr i) = inr (in_first xs ys x i)

pub in_last : {A : Type 0} (xs : List A) (x : A) → IsAmong x (xs ++ x ∷ [])
in_last [] x = inl refl
in_last (y ∷ xs) x = inr (in_last xs x)

some_same : {A : Type 0} (x y : A) → Some x ≡ Some y → x ≡ y
some_same x y e = cc e

some_none : {A : Type 0} (x : A) → None ≡ Some x → ⊥
some_none x e = cc e

-- the last of a list, or one before it
get_snoc : {A : Type 0} (xs : List A) (x y : A) (k : ℕ) → slice_get (xs ++ x ∷ []) k ≡ Some y → (slice_get xs k ≡ Some y) ⊎ ((k ≡ length xs) × (x ≡ y))
get_snoc [] x y zero e = inr (refl, some_same x y e)
get_snoc [] x y (suc k) e = absurd (some_none y e)
get_snoc (z ∷ xs) x y zero e = inl e
get_snoc (z ∷ xs) x y (suc k) e = ⊎_elim (λ a. inl a) (λ (b : (k ≡ length xs) × (x ≡ y)). inr (ap suc b.0, b.1)) (get_snoc xs x y k e)

module _ {V : Type 0} where
  pub is_there : (slots : List (Option V)) (k : ℕ) (r : Option V) → AllThere slots → k < length slots → get_elem? slots k ≡ maybe.some r → (x : V) × (r ≡ Some x)
  is_there slots k r all lt at = let t = all k lt in (t.0, some-injective r (Some t.0) (sym at ∙ t.1))

  pub is_some_there : (slots : List (Option V)) (k : ℕ) (r : Option V) → AllThere slots → k < length slots → get_elem? slots k ≡ maybe.some r → IsSome r
  is_some_there slots k r all lt at = let t = is_there slots k r all lt at in subst (λ o. IsSome o) (sym t.1) refl

  pub drained_more : (n : ℕ) (slots : List (Option V)) (values more : List V) (r : Option V) (x : V) → get_elem? slots n ≡ maybe.some r → r ≡ Some x → more ≡ values ++ x ∷ [] → IsDrained n slots values → IsDrained (n + 1) slots more
  drained_more n slots values more r x at is grown d = record {
    many = ap length grown ∙ length-append values (x ∷ []) ∙ ap (λ k. k + 1) d.many;
    each = λ k y there. ⊎_elim (λ old. d.each k y old)
        (λ (t : (k ≡ length values) × (x ≡ y)). ap (λ j. get_elem? slots j) (t.0 ∙ d.many) ∙ at ∙ ap maybe.some (is ∙ ap Some t.1))
        (get_snoc values x y k (ap (λ l. slice_get l k) (sym grown) ∙ there));
  }

  pub drained_none : (slots : List (Option V)) → IsDrained 0 slots []
  drained_none slots = record { many = refl; each = λ k x e. absurd (some_none x e) }

  module _ (enabled : List Event → Event → Type 0) (touches : List Event → Event → ℕ → Type 0) (stands : ℕ → List Event → V → Type 0) where
    module _ (words : List ℕ) (slots : List (Option V)) (id : ℕ) (v : View) (final : Final (Seen (TurnRule enabled touches stands) id v) words slots)
        (all : (k : ℕ) → k < length slots → value_place k v.holds ≡ Full) where
      value_at : (k : ℕ) → k < length slots → (x : V) × (get_elem? slots k ≡ maybe.some (Some x)) × stands k final.1.0.log x
      value_at k lt =
          let s = final.0 in
          let h = final.1.0 in
          let t = held_by enabled touches stands s h id v final.1.1 k Full (omega (arith, final.3, lt)) (all k lt) full_held in
          (t.2.0, final.4 k (Some t.2.0) t.2.1, t.2.2)

      pub all_there : AllThere slots
      all_there k lt = let t = value_at k lt in (t.0, t.1)

      pub closing : (values : List V) (count : ℕ) → get_elem? words 0 ≡ maybe.some count → IsDrained (length slots) slots values
          → (history : List Event) × (length history ≡ count) × (length history ≤ 2 ^ 62) × Runs enabled history × Begins v.front history × ((k : ℕ) (x : V) → slice_get values k ≡ Some x → stands k history x)
      closing values count at d =
          let h = final.1.0 in (
            h.log,
            h.count ∙ ap (λ ws. slice_index ws 0) final.2 ∙ first words count at,
            h.limit,
            h.runs,
            (h.knows id v final.1.1).front,
            λ k x there.
                let lt = below values k x there in
                let t = value_at k (omega (arith, lt, d.many)) in
                subst (λ y. stands k h.log y) (some_same t.0 x (some-injective (Some t.0) (Some x) (sym t.1 ∙ d.each k x there))) t.2,
          )
        where
          first : (ws : List ℕ) (n : ℕ) → get_elem? ws 0 ≡ maybe.some n → slice_index ws 0 ≡ n
          first [] n e = absurd (some-ne-none n (sym e))
          first (w ∷ ws) n e = some-injective w n e

          below : (xs : List V) (k : ℕ) (x : V) → slice_get xs k ≡ Some x → k < length xs
          below [] k x e = absurd (some_none x e)
          below (y ∷ xs) zero x e = omega arith
          below (y ∷ xs) (suc k) x e = let lt = below xs k x e in omega arith

pub cleared : (fs : List Bool) (i : ℕ) → i < length fs → ((k : ℕ) → k < i → slice_index_or fs k false ≡ false) → (k : ℕ) → k < i + 1 → slice_index_or (set fs i false) k false ≡ false
cleared fs i lt low k less = dite (ℕ_discrete k i)
    (λ e. ap (λ j. get_or (set fs i false) j false) e ∙ get_or-set_same fs i false false lt)
    (λ apart. get_or-set_other fs i k false false apart ∙ low k (omega arith))

pub still_full : (fs : List Bool) (i n : ℕ) → ((k : ℕ) → i ≤ k → k < n → slice_index_or fs k false ≡ true) → (k : ℕ) → i + 1 ≤ k → k < n → slice_index_or (set fs i false) k false ≡ true
still_full fs i n high k more less = get_or-set_other fs i k false false (λ e. absurd (omega arith)) ∙ high k (omega arith) less

pub in_none : {A : Type 0} (xs : List A) (x : A) → length xs ≡ 0 → IsAmong x xs → ⊥
in_none [] x e i = i
in_none (y ∷ xs) x e i = absurd (omega (arith, e))

-- what is left of a list when its last is taken
pub left_behind : {A : Type 0} {B : A → Type 0} (all xs ys : List A) (y : A) → xs ≡ ys ++ y ∷ [] → ((x : A) → IsAmong x all → IsAmong x xs ⊎ B x) → B y → (x : A) → IsAmong x all → IsAmong x ys ⊎ B x
left_behind {B = B} all xs ys y is old new x i = ⊎_elim
    (λ a. ⊎_elim (λ b. inl b) (λ b. ⊎_elim (λ (e : x ≡ y). inr (subst B (sym e) new)) (λ bad. absurd bad) b) (in_both ys (y ∷ []) x (subst (λ l. IsAmong x l) is a)))
    (λ b. inr b) (old x i)

-- the first of a list, which is replaced
pub first_split : {A : Type 0} (xs : List A) (x : A) → 0 < length xs → x ≡ get_or xs 0 x → (rest : List A) × (xs ≡ x ∷ rest) × ((q : A) → set xs 0 q ≡ q ∷ rest)
first_split [] x lt e = absurd (omega arith)
first_split (y ∷ rest) x lt e = (rest, (λ k. sym e k ∷ rest), λ q. refl)

-- the first, replaced and taken out
pub first_out : {A : Type 0} (xs ys : List A) (x q r : A) → 0 < length xs → x ≡ get_or xs 0 x → r ≡ get_or (set xs 0 q) 0 r → ys ≡ take 0 (set xs 0 q) ++ drop (0 + 1) (set xs 0 q) → (xs ≡ x ∷ ys) × (r ≡ q)
first_out [] ys x q r lt e f is = absurd (omega arith)
first_out (y ∷ rest) ys x q r lt e f is = ((λ k. sym e k ∷ sym is k), f)
