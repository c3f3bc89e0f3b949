-- How an account grows at its end.
use Rattle.std.proofs.Common.{◌≡◌, ℕ, zero, suc, ◌<◌, ◌≤◌, List, [], ◌∷◌, ◌++◌, ◌∙◌, ap, refl, arith, length}
use Rattle.std.proofs.lemmas.List.{append_assoc, append-nil, map-append}
use Rattle.std.specs.Prelude.{⊤, Bool, true, false, nat_lt, if◌then◌else◌}
use Rattle.crl_model.specs.declared.journal.Recorded.{Recorded}
use Rattle.crl_journal.specs.Merging.{first_before, rest_from, merge, merge_into, entries_of, merged_account}

-- every record stands before the position; in every list; every record stands at it
abbrev pub IsBefore : ℕ → List Recorded → Type 0
IsBefore p [] = ⊤
IsBefore p (x ∷ xs) = (x.position < p) × IsBefore p xs

abbrev pub AreBefore : ℕ → List (List Recorded) → Type 0
AreBefore p [] = ⊤
AreBefore p (xs ∷ xss) = IsBefore p xs × AreBefore p xss

abbrev pub IsAt : ℕ → List Recorded → Type 0
IsAt p [] = ⊤
IsAt p (x ∷ xs) = (x.position ≡ p) × IsAt p xs

-- the lists after node i has recorded more
abbrev pub append_at : ℕ → List Recorded → List (List Recorded) → List (List Recorded)
append_at i new [] = []
append_at zero new (xs ∷ xss) = (xs ++ new) ∷ xss
append_at (suc i) new (xs ∷ xss) = xs ∷ append_at i new xss

-- every record stands at the position or behind it
abbrev pub IsFrom : ℕ → List Recorded → Type 0
IsFrom p [] = ⊤
IsFrom p (x ∷ xs) = (p ≤ x.position) × IsFrom p xs

pub later : (q p : ℕ) (zs : List Recorded) → q < p → IsAt p zs → IsFrom q zs
later q p [] l h = h
later q p (z ∷ zs) l h = (omega (arith, h.0), later q p zs l h.1)

pub first_before_append : (q : ℕ) (ys zs : List Recorded) → IsFrom q zs → first_before q (ys ++ zs) ≡ first_before q ys
first_before_append q [] [] h = refl
first_before_append q [] (z ∷ zs) h = let a = h.0 in grind arith
first_before_append q (y ∷ ys) zs h =
    let j = first_before_append q ys zs h in
    grind arith

pub rest_from_append : (q : ℕ) (ys zs : List Recorded) → IsFrom q zs → rest_from q (ys ++ zs) ≡ rest_from q ys ++ zs
rest_from_append q [] [] h = refl
rest_from_append q [] (z ∷ zs) h = let a = h.0 in grind arith
rest_from_append q (y ∷ ys) zs h =
    let j = rest_from_append q ys zs h in
    grind arith

pub merge_right : (p : ℕ) (xs ys new : List Recorded) → IsBefore p xs → IsAt p new → merge xs (ys ++ new) ≡ merge xs ys ++ new
merge_right p [] ys new b a = refl
merge_right p (x ∷ xs) ys new b a =
    let f = later x.position p new b.0 a in
    let g = first_before_append x.position ys new f in
    let h = rest_from_append x.position ys new f in
    let j = merge_right p xs (rest_from x.position ys) new b.1 a in
    rw (g, h, j, append_assoc (first_before x.position ys) (x ∷ merge xs (rest_from x.position ys)) new) refl

pub all_first : (p : ℕ) (ys : List Recorded) → IsBefore p ys → first_before p ys ≡ ys
all_first p [] b = refl
all_first p (y ∷ ys) b =
    let a = b.0 in
    let j = all_first p ys b.1 in
    grind arith

pub none_rest : (p : ℕ) (ys : List Recorded) → IsBefore p ys → rest_from p ys ≡ []
none_rest p [] b = refl
none_rest p (y ∷ ys) b =
    let a = b.0 in
    let j = none_rest p ys b.1 in
    grind arith

pub merge_none : (xs : List Recorded) → merge xs [] ≡ xs
merge_none [] = refl
merge_none (x ∷ xs) = rw (merge_none xs) refl

pick : (p : ℕ) (b : Bool) (xs ys : List Recorded) → IsBefore p xs → IsBefore p ys → IsBefore p (if b then xs else ys)
pick p true xs ys h k = h
pick p false xs ys h k = k

pub rest_before : (p q : ℕ) (ys : List Recorded) → IsBefore p ys → IsBefore p (rest_from q ys)
rest_before p q [] b = b
rest_before p q (y ∷ ys) b = pick p (nat_lt y.position q) (rest_from q ys) (y ∷ ys) (rest_before p q ys b.1) b

pub merge_left_none : (p : ℕ) (ys new : List Recorded) → IsBefore p ys → IsAt p new → merge new ys ≡ ys ++ new
merge_left_none p ys [] b a = rw (append-nil ys) refl
merge_left_none p ys (n ∷ ns) b a = rw (a.0, all_first p ys b, none_rest p ys b, merge_none ns) refl

pub merge_left : (p : ℕ) (xs ys new : List Recorded) → IsBefore p ys → IsAt p new → merge (xs ++ new) ys ≡ merge xs ys ++ new
merge_left p [] ys new b a = merge_left_none p ys new b a
merge_left p (x ∷ xs) ys new b a =
    let j = merge_left p xs (rest_from x.position ys) new (rest_before p x.position ys b) a in
    rw (j, append_assoc (first_before x.position ys) (x ∷ merge xs (rest_from x.position ys)) new) refl

pub before_append : (p : ℕ) (xs ys : List Recorded) → IsBefore p xs → IsBefore p ys → IsBefore p (xs ++ ys)
before_append p [] ys b c = c
before_append p (x ∷ xs) ys b c = (b.0, before_append p xs ys b.1 c)

pub first_is_before : (p q : ℕ) (ys : List Recorded) → IsBefore p ys → IsBefore p (first_before q ys)
first_is_before p q [] b = b
first_is_before p q (y ∷ ys) b = pick p (nat_lt y.position q) (y ∷ first_before q ys) [] (b.0, first_is_before p q ys b.1) tt

pub merge_before : (p : ℕ) (xs ys : List Recorded) → IsBefore p xs → IsBefore p ys → IsBefore p (merge xs ys)
merge_before p [] ys b c = c
merge_before p (x ∷ xs) ys b c = before_append p (first_before x.position ys) (x ∷ merge xs (rest_from x.position ys)) (first_is_before p x.position ys c) (b.0, merge_before p xs (rest_from x.position ys) b.1 (rest_before p x.position ys c))

pub into_append : (p : ℕ) (done new : List Recorded) (xss : List (List Recorded)) → AreBefore p xss → IsAt p new → merge_into (done ++ new) xss ≡ merge_into done xss ++ new
into_append p done new [] b a = refl
into_append p done new (xs ∷ xss) b a = rw (merge_left p done xs new b.0 a) (into_append p (merge done xs) new xss b.1 a)

pub grows : (p : ℕ) (done new : List Recorded) (xss : List (List Recorded)) (i : ℕ) → IsBefore p done → AreBefore p xss → IsAt p new → i < length xss → merge_into done (append_at i new xss) ≡ merge_into done xss ++ new
grows p done new [] i d b a l = grind arith
grows p done new (xs ∷ xss) zero d b a l = ap (λ m. merge_into m xss) (merge_right p done xs new d a) ∙ into_append p (merge done xs) new xss b.1 a
grows p done new (xs ∷ xss) (suc i) d b a l = grows p (merge done xs) new xss i (merge_before p done xs d b.0) b.1 a (omega (arith, l))

-- what one event records, later than all that stands in the lists, is the end of the account
pub appends : (xss : List (List Recorded)) (i p : ℕ) (new : List Recorded) → AreBefore p xss → IsAt p new → i < length xss → merged_account (append_at i new xss) ≡ merged_account xss ++ entries_of new
appends xss i p new b a l = rw (grows p [] new xss i tt b a l) (map-append (λ (x : Recorded). x.entry) (merge_into [] xss) new)
