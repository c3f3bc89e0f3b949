-- Lists that are joined, one after another.
use Rattle.std.proofs.Common.{◌≡◌, ℕ, zero, suc, ◌+◌, ◌*◌, ◌-◌, ◌<◌, ◌≤◌, List, [], ◌∷◌, ◌++◌, refl, ap, sym, ◌∙◌, arith, append_assoc, append-nil, subst, length, length-append}
use Rattle.std.specs.Prelude.{slice_index_or}
use Rattle.std.specs.List.{AllByRecursion}
use Rattle.crl_gen.specs.Making.{each_from}
use Rattle.crl_deeds.proofs.Laws.{all_append}

module _ {A : Type 0} (f : ℕ → List A) where
  each_next : (i n : ℕ) → i < n → each_from f i (n - i) ≡ f i ++ each_from f (i + 1) (n - (i + 1))
  each_next i n below = let more : n - i ≡ suc (n - (i + 1)) = omega arith in ap (each_from f i) more

  pub loop_step : (i n : ℕ) (done new whole : List A) → i < n → new ≡ done ++ f i → done ++ each_from f i (n - i) ≡ whole → new ++ each_from f (i + 1) (n - (i + 1)) ≡ whole
  loop_step i n done new whole below e h =
      ap (λ xs. xs ++ each_from f (i + 1) (n - (i + 1))) e ∙ append_assoc done (f i) (each_from f (i + 1) (n - (i + 1))) ∙ ap (λ xs. done ++ xs) (sym (each_next i n below)) ∙ h

  pub loop_begin : (n : ℕ) (done : List A) → done ++ each_from f 0 (n - 0) ≡ done ++ each_from f 0 n
  loop_begin n done = let all : n - 0 ≡ n = omega arith in ap (λ k. done ++ each_from f 0 k) all

  pub loop_end : (i n : ℕ) (done whole : List A) → n ≤ i → done ++ each_from f i (n - i) ≡ whole → done ≡ whole
  loop_end i n done whole over h =
      let none : 0 ≡ n - i = omega arith in sym (append-nil done) ∙ ap (λ k. done ++ each_from f i k) none ∙ h

  -- the same where the numbers begin at another one
  pub loop_step_from : (first i n : ℕ) (done new whole : List A) → i < n → new ≡ done ++ f (first + i) → done ++ each_from f (first + i) ((first + n) - (first + i)) ≡ whole
      → new ++ each_from f (first + (i + 1)) ((first + n) - (first + (i + 1))) ≡ whole
  loop_step_from first i n done new whole below e h =
      let next : (first + i) + 1 ≡ first + (i + 1) = omega arith in
      subst (λ (k : ℕ). new ++ each_from f k ((first + n) - k) ≡ whole) next (loop_step (first + i) (first + n) done new whole (omega arith) e h)

-- what holds of the parts, and how long they are together
pub all_below : {A : Type 0} (P : A → Type 0) (f : ℕ → List A) (i k : ℕ) → ((n : ℕ) → n < i + k → AllByRecursion P (f n)) → AllByRecursion P (each_from f i k)
all_below P f i zero h = tt
all_below P f i (suc k) h = all_append P (f i) (each_from f (i + 1) k) (h i (omega arith)) (all_below P f (i + 1) k (λ n below. h n (omega arith)))

pub all_each : {A : Type 0} (P : A → Type 0) (f : ℕ → List A) → ((n : ℕ) → AllByRecursion P (f n)) → (i k : ℕ) → AllByRecursion P (each_from f i k)
all_each P f h i k = all_below P f i k (λ n _. h n)

next_multiple : (k most : ℕ) → k * most + most ≡ suc k * most
next_multiple k most = grind arith

pub length_most : {A : Type 0} (most : ℕ) (f : ℕ → List A) → ((n : ℕ) → length (f n) ≤ most) → (i k : ℕ) → length (each_from f i k) ≤ k * most
length_most most f h i zero = omega arith
length_most most f h i (suc k) =
    let here = h i in let more = length_most most f h (i + 1) k in let l = length-append (f i) (each_from f (i + 1) k) in let e = next_multiple k most in omega arith

pub length_each : {A : Type 0} (f : ℕ → A) (i k : ℕ) → length (each_from (λ n. f n ∷ []) i k) ≡ k
length_each f i zero = refl
length_each f i (suc k) = ap suc (length_each f (i + 1) k)

pub get_each : {A : Type 0} (f : ℕ → A) (i k j n : ℕ) (other : A) → j < k → i + j ≡ n → slice_index_or (each_from (λ n. f n ∷ []) i k) j other ≡ f n
get_each f i zero j n other h e = absurd (omega arith)
get_each f i (suc k) zero n other h e = let same : i ≡ n = omega arith in ap f same
get_each f i (suc k) (suc j) n other h e = get_each f (i + 1) k j n other (omega arith) (omega arith)
