-- Elements of lists, by their places.
use Rattle.std.proofs.Common.{◌≡◌, ℕ, zero, suc, ◌+◌, ◌<◌, ◌%◌, List, [], ◌∷◌, ◌++◌, length, get_or, refl, ap, sym, ◌∙◌, subst, arith}
use Rattle.std.specs.List.{AllByRecursion}
use Rattle.std.proofs.lemmas.List.Elements.{All-from_recursion}
use Rattle.std.proofs.Math.Nat.{mod-eq_of_lt, mod-lt}

-- x stands at some place, whatever is read past the end
pub record At {A : Type 0} (x : A) (xs : List A) : Type 0 where
  pub place : ℕ
  pub within : place < length xs
  pub there : (d : A) → get_or xs place d ≡ x

pub at_head : {A : Type 0} (x : A) (xs : List A) → At x (x ∷ xs)
at_head x xs = record { place = 0; within = omega arith; there = λ d. refl }

pub at_tail : {A : Type 0} (x y : A) (xs : List A) → At x xs → At x (y ∷ xs)
at_tail x y xs h = record { place = suc h.place; within = let k = h.within in omega arith; there = h.there }

pub at_right : {A : Type 0} (x : A) (xs ys : List A) → At x ys → At x (xs ++ ys)
at_right x [] ys h = h
at_right x (y ∷ xs) ys h = at_tail x y (xs ++ ys) (at_right x xs ys h)

at_left_from : {A : Type 0} (x : A) (k : ℕ) (xs ys : List A) → k < length xs → ((d : A) → get_or xs k d ≡ x) → At x (xs ++ ys)
at_left_from x k [] ys h e = absurd (omega arith)
at_left_from x zero (y ∷ xs) ys h e = subst (λ z. At x (z ∷ (xs ++ ys))) (sym (e x)) (at_head x (xs ++ ys))
at_left_from x (suc k) (y ∷ xs) ys h e = at_tail x y (xs ++ ys) (at_left_from x k xs ys (omega arith) e)

pub at_left : {A : Type 0} (x : A) (xs ys : List A) → At x xs → At x (xs ++ ys)
at_left x xs ys h = at_left_from x h.place xs ys h.within h.there

pub all_append : {A : Type 0} (P : A → Type 0) (xs ys : List A) → AllByRecursion P xs → AllByRecursion P ys → AllByRecursion P (xs ++ ys)
all_append P [] ys h k = k
all_append P (x ∷ xs) ys h k = (h.0, all_append P xs ys h.1 k)

-- what a list for each of k numbers from i on makes
abbrev pub gather : {A : Type 0} → (ℕ → List A) → ℕ → ℕ → List A
gather f i zero = []
gather f i (suc k) = f i ++ gather f (i + 1) k

pub all_gathered : {A : Type 0} (P : A → Type 0) (f : ℕ → List A) (i k count : ℕ) → i + k ≡ count
    → ((j : ℕ) → j < count → AllByRecursion P (f j)) → AllByRecursion P (gather f i k)
all_gathered P f i zero count e h = tt
all_gathered P f i (suc k) count e h =
    all_append P (f i) (gather f (i + 1) k) (h i (omega arith)) (all_gathered P f (i + 1) k count (omega arith) h)

pub at_gathered : {A : Type 0} (x : A) (f : ℕ → List A) (i k m : ℕ) → m < k → At x (f (i + m)) → At x (gather f i k)
at_gathered x f i zero m h a = absurd (omega arith)
at_gathered x f i (suc k) zero h a = at_left x (f i) (gather f (i + 1) k) (subst (λ j. At x (f j)) (omega arith) a)
at_gathered x f i (suc k) (suc m) h a =
    at_right x (f i) (gather f (i + 1) k) (at_gathered x f (i + 1) k m (omega arith) (subst (λ j. At x (f j)) (omega arith) a))

-- what a word chooses is in the list
pub chosen_is : {A : Type 0} (P : A → Type 0) (word : ℕ) (x : A) (xs : List A) → AllByRecursion P (x ∷ xs) → P (get_or (x ∷ xs) (word % length (x ∷ xs)) x)
chosen_is P word x xs h =
    let some : 0 < length (x ∷ xs) = omega arith in All-from_recursion P (x ∷ xs) h (word % length (x ∷ xs)) x (mod-lt word some)

-- and each of its elements is chosen by a word, that of its place
pub chosen_at : {A : Type 0} (x y : A) (ys : List A) (h : At x (y ∷ ys)) → get_or (y ∷ ys) (h.place % length (y ∷ ys)) y ≡ x
chosen_at x y ys h = ap (λ k. get_or (y ∷ ys) k y) (mod-eq_of_lt h.within) ∙ h.there y
