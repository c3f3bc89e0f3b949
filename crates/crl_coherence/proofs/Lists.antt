-- Lemmas on tables from numbers, on what a selector finds, and on what is taken out of a list.
use Rattle.std.proofs.Common.{ℕ, zero, suc, List, [], ◌∷◌, ◌++◌, ◌≡◌, ◌≢◌, ◌⊎◌, refl, arith, sym, ap, subst, ◌∙◌, append-nil}
use Rattle.std.specs.declared.option.Option.{Option}
use Rattle.std.specs.declared.option.Option.TheVariants.{None, Some}
use Rattle.crl_protocol.specs.Places.{at, put, find_all, Took, here, there}

pub at-put_same : {A : Type 0} (n : ℕ) (v : Option A) (xs : List (Option A)) → at n (put n v xs) ≡ v
at-put_same zero v [] = refl
at-put_same (suc n) v [] = at-put_same n v []
at-put_same zero v (x ∷ xs) = refl
at-put_same (suc n) v (x ∷ xs) = at-put_same n v xs

pub at-put_other : {A : Type 0} (m n : ℕ) (v : Option A) (xs : List (Option A)) → m ≢ n → at m (put n v xs) ≡ at m xs
at-put_other zero zero v xs h = absurd (h refl)
at-put_other (suc m) zero v [] h = refl
at-put_other zero (suc n) v [] h = refl
at-put_other (suc m) (suc n) v [] h = at-put_other m n v [] (λ e. h (ap suc e))
at-put_other (suc m) zero v (x ∷ xs) h = refl
at-put_other zero (suc n) v (x ∷ xs) h = refl
at-put_other (suc m) (suc n) v (x ∷ xs) h = at-put_other m n v xs (λ e. h (ap suc e))

pub same_or : (m n : ℕ) → (m ≡ n) ⊎ (m ≢ n)
same_or m n = grind arith

-- what a selector finds in a list that begins so
pub picked_none : {B : Type 0} (o : Option B) (xs : List B) → o ≡ None → elim o [ None ↦ xs | Some y ↦ y ∷ xs ] ≡ xs
picked_none None xs e = refl
picked_none (Some y) xs e = cc

pub picked_some : {B : Type 0} (o : Option B) (x : B) (xs : List B) → o ≡ Some x → elim o [ None ↦ xs | Some y ↦ y ∷ xs ] ≡ x ∷ xs
picked_some None x xs e = cc
picked_some (Some y) x xs e = cc

seen-append : {B : Type 0} (o : Option B) (xs ys zs : List B) → zs ≡ xs ++ ys → elim o [ None ↦ zs | Some y ↦ y ∷ zs ] ≡ (elim o [ None ↦ xs | Some y ↦ y ∷ xs ]) ++ ys
seen-append None xs ys zs e = e
seen-append (Some y) xs ys zs e = ap (λ l. y ∷ l) e

pub picks-append : {A B : Type 0} (f : A → Option B) (xs ys : List A) → find_all f (xs ++ ys) ≡ find_all f xs ++ find_all f ys
picks-append f [] ys = refl
picks-append f (x ∷ xs) ys = seen-append (f x) (find_all f xs) (find_all f ys) (find_all f (xs ++ ys)) (picks-append f xs ys)

-- what is put behind a list, that the selector takes or doesn't
pub more_none : {A B : Type 0} (f : A → Option B) (xs : List A) (x : A) → f x ≡ None → find_all f (xs ++ x ∷ []) ≡ find_all f xs
more_none f xs x e = picks-append f xs (x ∷ []) ∙ (ap (λ l. find_all f xs ++ l) (picked_none (f x) [] e) ∙ append-nil (find_all f xs))

pub more_some : {A B : Type 0} (f : A → Option B) (xs : List A) (x : A) (y : B) → f x ≡ Some y → find_all f (xs ++ x ∷ []) ≡ find_all f xs ++ y ∷ []
more_some f xs x y e = picks-append f xs (x ∷ []) ∙ ap (λ l. find_all f xs ++ l) (picked_some (f x) y [] e)

-- what a selector finds when something is taken out
took_more : {B : Type 0} (o : Option B) {y : B} {xs ys : List B} → Took y xs ys → Took y (elim o [ None ↦ xs | Some z ↦ z ∷ xs ]) (elim o [ None ↦ ys | Some z ↦ z ∷ ys ])
took_more None t = t
took_more (Some z) t = there t

took_first : {B : Type 0} (o : Option B) (y : B) (xs : List B) → o ≡ Some y → Took y (elim o [ None ↦ xs | Some z ↦ z ∷ xs ]) xs
took_first o y xs e = subst (λ ys. Took y ys xs) (sym (picked_some o y xs e)) here

pub took_some : {A B : Type 0} (f : A → Option B) {x : A} {xs ys : List A} → Took x xs ys → (y : B) → f x ≡ Some y → Took y (find_all f xs) (find_all f ys)
took_some f (here {x = x} {xs = xs}) y e = took_first (f x) y (find_all f xs) e
took_some f (there {y = z} t) y e = took_more (f z) (took_some f t y e)

pub took_none : {A B : Type 0} (f : A → Option B) {x : A} {xs ys : List A} → Took x xs ys → f x ≡ None → find_all f xs ≡ find_all f ys
took_none f (here {x = x} {xs = xs}) e = picked_none (f x) (find_all f xs) e
took_none {B = B} f (there {y = z} t) e = ap (λ (l : List B). elim (f z) [ None ↦ l | Some w ↦ w ∷ l ]) (took_none f t e)

pub took_nothing : {A : Type 0} {x : A} {xs ys : List A} → Took x xs ys → xs ≡ [] → ⊥
took_nothing here e = cc
took_nothing (there t) e = cc

pub took_one : {A : Type 0} {x : A} {xs ys : List A} → Took x xs ys → (y : A) → xs ≡ y ∷ [] → (x ≡ y) × (ys ≡ [])
took_one here y e = (cc, cc)
took_one (there t) y e = absurd (took_nothing t (cc))

pub took_last : {A : Type 0} {x : A} {ys zs : List A} → Took x ys zs → zs ≡ [] → ys ≡ x ∷ []
took_last (here {x = x}) e = ap (λ l. x ∷ l) e
took_last (there t) e = cc

-- a list of one or no element
abbrev pub NoTwo : {A : Type 0} → List A → Type 0
NoTwo {A} xs = (y z : A) (ws : List A) → xs ≡ y ∷ z ∷ ws → ⊥

-- what is taken out of such a list is all of it
pub took_all : {A : Type 0} (x : A) (xs ys : List A) → Took x xs ys → NoTwo xs → (xs ≡ x ∷ []) × (ys ≡ [])
took_all x [] ys t n = absurd (took_nothing t refl)
took_all x (y ∷ []) ys t n = let u = took_one t y refl in (ap (λ z. z ∷ []) (sym u.0), u.1)
took_all x (y ∷ z ∷ xs) ys t n = absurd (n y z xs refl)

-- one element put in at another place
pub moved_one : {A : Type 0} (x : A) (xs ys zs : List A) → Took x xs zs → Took x ys zs → NoTwo xs → xs ≡ ys
moved_one x xs ys zs t u n = let a = took_all x xs zs t n in a.0 ∙ sym (took_last u a.1)

-- the second part of a list without two elements
pub right_one : {A : Type 0} (xs ys : List A) → NoTwo (xs ++ ys) → NoTwo ys
right_one [] ys n y z ws e = n y z ws e
right_one (x ∷ []) ys n y z ws e = n x y (z ∷ ws) (ap (λ l. x ∷ l) e)
right_one (x ∷ w ∷ xs) ys n y z ws e = n x w (xs ++ ys) refl

-- where something is in the second part, the first is empty
pub took_right : {A : Type 0} (x : A) (xs ys zs : List A) → Took x ys zs → NoTwo (xs ++ ys) → (xs ≡ []) × (ys ≡ x ∷ []) × (zs ≡ [])
took_right x [] ys zs t n = let a = took_all x ys zs t n in (refl, a.0, a.1)
took_right x (w ∷ v ∷ xs) ys zs t n = absurd (n w v (xs ++ ys) refl)
took_right x (w ∷ []) [] zs t n = absurd (took_nothing t refl)
took_right x (w ∷ []) (y ∷ ys) zs t n = absurd (n w y ys refl)
