-- The rule holds when the turns are new.
use Rattle.std.proofs.Common.{◌≡◌, ℕ, zero, suc, ◌+◌, ◌<◌, inl, List, [], ◌∷◌, length, map, replicate, get_or, slice_get, refl, ap, sym, ◌∙◌, subst, arith, Option, Some}
use mathlib.Core.Option as maybe
use mathlib.Core.Option.{some-injective, some-ne-none}
use lib.ListN.{get_elem?}
use Rattle.atomic_table.specs.Table.{opening}
use Rattle.crl_model.specs.declared.event.Event.{Event}
use Rattle.crl_turns.specs.declared.view.View.{View}
use Rattle.crl_turns.specs.Rule.{value_place, Knows, TurnRule}
use Rattle.crl_turns.specs.Plays.{blank_view}
use Rattle.crl_turns.proofs.Logs.{begins_same, runs_nil}
use Rattle.crl_turns.proofs.Holders.{free_not}

home_at : {V : Type 0} (values : List V) (i : ℕ) → i < length values → (x : V) × (slice_get values i ≡ Some x) × (get_elem? (map maybe.some (map Some values)) i ≡ maybe.some (maybe.some (Some x)))
home_at [] i lt = absurd (omega arith)
home_at (x ∷ xs) zero lt = (x, refl, refl)
home_at (x ∷ xs) (suc i) lt = home_at xs i (omega arith)

homes_long : {V : Type 0} (values : List V) → length (map maybe.some (map Some values)) ≡ length values
homes_long [] = refl
homes_long (x ∷ xs) = ap suc (homes_long xs)

zeros_long : (n : ℕ) → length {A = ℕ} (replicate n 0) ≡ n
zeros_long zero = refl
zeros_long (suc n) = ap suc (zeros_long n)

all_zero : (n i : ℕ) → get_or {A = ℕ} (replicate n 0) i 0 ≡ 0
all_zero zero i = refl
all_zero (suc n) zero = refl
all_zero (suc n) (suc i) = all_zero n i

only : {A : Type 0} (x y : A) (j : ℕ) → get_elem? (x ∷ []) j ≡ maybe.some y → (x ≡ y) × (j ≡ 0)
only x y zero e = (some-injective x y e, refl)
only x y (suc j) e = absurd (some-ne-none y (sym e))

module _ {V : Type 0} (enabled : List Event → Event → Type 0) (touches : List Event → Event → ℕ → Type 0) (stands : ℕ → List Event → V → Type 0) where
  pub opens : (n : ℕ) (values : List V) (words : List ℕ) (slots : List (Option V)) → n ≡ length values → words ≡ replicate (n + 1) 0 → slots ≡ map Some values
      → ((i : ℕ) (x : V) → slice_get values i ≡ Some x → stands i [] x) → TurnRule enabled touches stands (opening words slots blank_view)
  opens n values words slots long words_are slots_are stand =
      subst (λ (p : List ℕ × List (Option V)). TurnRule enabled touches stands (opening p.0 p.1 blank_view)) (λ k. (sym words_are k, sym slots_are k)) (record {
        wide = zeros_long (n + 1) ∙ (omega (arith, long, homes_long values));
        log = [];
        longest = (0, blank_view, refl, refl);
        count = sym (all_zero (n + 1) 0);
        limit = omega arith;
        runs = runs_nil enabled;
        knows = λ j v at. subst (λ z. Knows touches [] z) (only blank_view v j at).0
            (record { front = begins_same []; known = begins_same []; met = begins_same []; spares = λ i holds. absurd (holds refl); fresh = λ i has. absurd (free_not has); own = λ k is_in. absurd is_in });
        own = λ j k m v w at_j at_k in_j in_k. (only blank_view v j at_j).1 ∙ sym (only blank_view w k at_k).1;
        turns = λ i lt. let t = home_at values i (omega (arith, lt, homes_long values)) in inl (record {
          word_is = all_zero (n + 1) (i + 1);
          nobody = λ j v at. ap (λ (z : View). value_place i z.holds) (sym (only blank_view v j at).0);
          stocks = (t.0, t.2, stand i t.0 t.1);
        });
      })

pub at_first : {A : Type 0} (xs : List A) (x : A) → 0 < length xs → x ≡ get_or xs 0 x → slice_get xs 0 ≡ Some x
at_first [] x lt e = absurd (omega arith)
at_first (y ∷ xs) x lt e = ap Some (sym e)
