-- The record that comes next is the first of the merge of all lists, and the merge of what is left is the rest.
use Rattle.std.proofs.Common.{◌≡◌, ℕ, zero, suc, ◌+◌, ◌<◌, ◌≤◌, Bool, true, false, cond, List, [], ◌∷◌, ◌++◌, length, set, get_or, Option, Some, None, refl, sym, ap, ◌∙◌, subst, arith}
use Rattle.std.specs.Prelude.{⊤, nat_lt, nat_le}
use Rattle.crl_model.specs.declared.journal.Recorded.{Recorded}
use Rattle.crl_journal.specs.declared.merging.Front.{Front}
use Rattle.crl_journal.specs.Merging.{first_before, rest_from, merge, merge_into, entries_of, merged_account, next_by, next_below, IsPopped}

-- the first record, if there is one, stands behind this position, or not before it
abbrev IsLate : ℕ → List Recorded → Type 0
IsLate p [] = ⊤
IsLate p (x ∷ xs) = p < x.position

abbrev IsDue : ℕ → List Recorded → Type 0
IsDue p [] = ⊤
IsDue p (x ∷ xs) = p ≤ x.position

-- there is a first record, at this position
abbrev StartsAt : ℕ → List Recorded → Type 0
StartsAt p [] = ⊥
StartsAt p (x ∷ xs) = x.position ≡ p

late_due : (p : ℕ) (xs : List Recorded) → IsLate p xs → IsDue p xs
late_due p [] l = tt
late_due p (x ∷ xs) l = omega (arith, l)

due_late : (p q : ℕ) (xs : List Recorded) → p < q → IsDue q xs → IsLate p xs
due_late p q [] l d = tt
due_late p q (x ∷ xs) l d = omega (arith, l, d)

-- ---- two lists

keep_left : (x : Recorded) (xs ys : List Recorded) → IsDue x.position ys → merge (x ∷ xs) ys ≡ x ∷ merge xs ys
keep_left x xs [] d = refl
keep_left x xs (y ∷ ys) d = let later : nat_lt y.position x.position ≡ false = grind arith in rw later refl

take_right : (x y : Recorded) (xs ys : List Recorded) → y.position < x.position → merge (x ∷ xs) (y ∷ ys) ≡ y ∷ merge (x ∷ xs) ys
take_right x y xs ys l = let sooner : nat_lt y.position x.position ≡ true = grind arith in rw sooner refl

merge_is_late : (p : ℕ) (xs ys : List Recorded) → IsLate p xs → IsLate p ys → IsLate p (merge xs ys)
merge_is_late p [] ys a b = b
merge_is_late p (x ∷ xs) [] a b = a
merge_is_late p (x ∷ xs) (y ∷ ys) a b = go (nat_lt y.position x.position) where
  go : (t : Bool) → IsLate p (cond t (y ∷ first_before x.position ys) [] ++ x ∷ merge xs (cond t (rest_from x.position ys) (y ∷ ys)))
  go true = b
  go false = a

-- ---- all lists

abbrev AllDue : ℕ → List (List Recorded) → Type 0
AllDue p [] = ⊤
AllDue p (xs ∷ xss) = IsDue p xs × AllDue p xss

-- The list of this number starts at the position. Those before it start later, and those behind it not sooner.
abbrev IsNextAt : ℕ → ℕ → List (List Recorded) → Type 0
IsNextAt p i [] = ⊥
IsNextAt p zero (xs ∷ xss) = AllDue p xss
IsNextAt p (suc i) (xs ∷ xss) = IsLate p xs × IsNextAt p i xss

first_left : (x : Recorded) (xs : List Recorded) (xss : List (List Recorded)) → AllDue x.position xss → merge_into (x ∷ xs) xss ≡ x ∷ merge_into xs xss
first_left x xs [] d = refl
first_left x xs (ys ∷ xss) d = ap (λ (zs : List Recorded). merge_into zs xss) (keep_left x xs ys d.0) ∙ first_left x (merge xs ys) xss d.1

first_right : (done : List Recorded) (x : Recorded) (xs : List Recorded) → IsLate x.position done → merge done (x ∷ xs) ≡ x ∷ merge done xs
first_right [] x xs l = refl
first_right (d ∷ done) x xs l = take_right d x done xs l

next_is_first : (done : List Recorded) (i : ℕ) (xss : List (List Recorded)) (x : Recorded) (xs : List Recorded) → IsLate x.position done → IsNextAt x.position i xss
    → get_or xss i [] ≡ x ∷ xs → merge_into done xss ≡ x ∷ merge_into done (set xss i xs)
next_is_first done i [] x xs l n e = absurd n
next_is_first done zero (ys ∷ xss) x xs l n e =
    ap (λ (zs : List Recorded). merge_into zs xss) (ap (merge done) e ∙ first_right done x xs l) ∙ first_left x (merge done xs) xss n
next_is_first done (suc i) (ys ∷ xss) x xs l n e = next_is_first (merge done ys) i xss x xs (merge_is_late x.position done ys l n.0) n.1 e

-- ---- the search

-- what is found in the first so many lists
abbrev IsFound : ℕ → List (List Recorded) → Option Front → Type 0
IsFound k xss None = (j : ℕ) → j < k → get_or xss j [] ≡ []
IsFound k xss (Some f) = (f.journal < k) × StartsAt f.position (get_or xss f.journal [])
    × ((j : ℕ) → j < f.journal → IsLate f.position (get_or xss j [])) × ((j : ℕ) → j < k → IsDue f.position (get_or xss j []))

-- one number more
one_more : (P : ℕ → Type 0) (k : ℕ) → ((j : ℕ) → j < k → P j) → P k → (j : ℕ) → j < suc k → P j
one_more P k before here j l = go (nat_lt j k) refl where
  go : (b : Bool) → nat_lt j k ≡ b → P j
  go true e = before j (grind arith)
  go false e = let same : k ≡ j = grind arith in subst P same here

found_more : (k : ℕ) (xss : List (List Recorded)) (next : Option Front) (r : List Recorded) → get_or xss k [] ≡ r → IsFound k xss next → IsFound (suc k) xss (next_by next k r)
found_more k xss None [] e h = one_more (λ j. get_or xss j [] ≡ []) k h e
found_more k xss (Some f) [] e h = (omega (arith, h.0), h.1, h.2, one_more (λ j. IsDue f.position (get_or xss j [])) k h.3 (rw e tt))
found_more k xss None (x ∷ r) e h = (
  omega arith,
  rw e refl,
  λ j l. rw (h j l) tt,
  one_more (λ j. IsDue x.position (get_or xss j [])) k (λ j l. rw (h j l) tt) (rw e (omega arith)),
)
found_more k xss (Some f) (x ∷ r) e h = go (nat_le f.position x.position) refl where
  go : (b : Bool) → nat_le f.position x.position ≡ b → IsFound (suc k) xss (cond b (Some f) (Some (record { journal = k; position = x.position })))
  go true t = let due : f.position ≤ x.position = grind arith in
      (omega (arith, h.0), h.1, h.2, one_more (λ j. IsDue f.position (get_or xss j [])) k h.3 (rw e due))
  go false t = let sooner : x.position < f.position = grind arith in (
    omega arith,
    rw e refl,
    λ j l. due_late x.position f.position (get_or xss j []) sooner (h.3 j l),
    one_more (λ j. IsDue x.position (get_or xss j [])) k (λ j l. late_due x.position (get_or xss j []) (due_late x.position f.position (get_or xss j []) sooner (h.3 j l))) (rw e (omega arith)),
  )

found : (k : ℕ) (xss : List (List Recorded)) → IsFound k xss (next_below k xss)
found zero xss = λ j l. absurd (omega (arith, l))
found (suc k) xss = found_more k xss (next_below k xss) (get_or xss k []) refl (found k xss)

all_due : (p : ℕ) (xss : List (List Recorded)) → ((j : ℕ) → j < length xss → IsDue p (get_or xss j [])) → AllDue p xss
all_due p [] h = tt
all_due p (xs ∷ xss) h = (h zero (omega arith), all_due p xss (λ j l. h (suc j) (omega (arith, l))))

found_at : (p i : ℕ) (xss : List (List Recorded)) → i < length xss → ((j : ℕ) → j < i → IsLate p (get_or xss j [])) → ((j : ℕ) → j < length xss → IsDue p (get_or xss j [])) → IsNextAt p i xss
found_at p i [] l before all = absurd (omega (arith, l))
found_at p zero (xs ∷ xss) l before all = all_due p xss (λ j k. all (suc j) (omega (arith, k)))
found_at p (suc i) (xs ∷ xss) l before all = (before zero (omega arith), found_at p i xss (omega (arith, l)) (λ j k. before (suc j) (omega (arith, k))) (λ j k. all (suc j) (omega (arith, k))))

-- ---- what the search is for

none_left : (xss : List (List Recorded)) → ((j : ℕ) → j < length xss → get_or xss j [] ≡ []) → merge_into [] xss ≡ []
none_left [] h = refl
none_left (xs ∷ xss) h = ap (λ (zs : List Recorded). merge_into zs xss) (h zero (omega arith)) ∙ none_left xss (λ j l. h (suc j) (omega (arith, l)))

pub none_merged : (xss : List (List Recorded)) → next_below (length xss) xss ≡ None → merged_account xss ≡ []
none_merged xss e = ap entries_of (none_left xss (subst (IsFound (length xss) xss) e (found (length xss) xss)))

pub next_inside : (xss : List (List Recorded)) (f : Front) → next_below (length xss) xss ≡ Some f → (f.journal < length xss) × (0 < length (get_or xss f.journal []))
next_inside xss f e = let is = subst (IsFound (length xss) xss) e (found (length xss) xss) in (is.0, some (get_or xss f.journal []) is.1) where
  some : (r : List Recorded) → StartsAt f.position r → 0 < length r
  some [] s = absurd s
  some (x ∷ r) s = omega arith

pub next_merged : (xss : List (List Recorded)) (f : Front) (x : Recorded) (yss : List (List Recorded)) → next_below (length xss) xss ≡ Some f → IsPopped f.journal xss x yss
    → merged_account xss ≡ x.entry ∷ merged_account yss
next_merged xss f x yss e popped =
    let is = subst (IsFound (length xss) xss) e (found (length xss) xss) in
    let at : x.position ≡ f.position = subst (StartsAt f.position) popped.head is.1 in
    let next : IsNextAt x.position f.journal xss = rw at (found_at f.position f.journal xss is.0 is.2 is.3) in
    ap entries_of (next_is_first [] f.journal xss x (get_or yss f.journal []) tt next popped.head)
    ∙ ap (λ (zss : List (List Recorded)). x.entry ∷ merged_account zss) (sym popped.rest)

-- the number of records that are left
abbrev pub left : List (List Recorded) → ℕ
left [] = 0
left (xs ∷ xss) = length xs + left xss

set_left : (xss : List (List Recorded)) (i : ℕ) (x : Recorded) (xs : List Recorded) → i < length xss → get_or xss i [] ≡ x ∷ xs → left (set xss i xs) + 1 ≡ left xss
set_left [] i x xs l e = absurd (omega (arith, l))
set_left (ys ∷ xss) zero x xs l e = let long : length ys ≡ suc (length xs) = ap length e in omega (arith, long)
set_left (ys ∷ xss) (suc i) x xs l e = let rest : left (set xss i xs) + 1 ≡ left xss = set_left xss i x xs (omega (arith, l)) e in omega (arith, rest)

pub fewer_left : (xss : List (List Recorded)) (i : ℕ) (x : Recorded) (yss : List (List Recorded)) → i < length xss → IsPopped i xss x yss → left yss + 1 ≡ left xss
fewer_left xss i x yss l popped = ap (λ (zss : List (List Recorded)). left zss + 1) popped.rest ∙ set_left xss i x (get_or yss i []) l popped.head
