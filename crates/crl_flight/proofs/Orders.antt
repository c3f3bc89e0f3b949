-- Lists in another order.
use Rattle.std.proofs.Common.{◌≡◌, List, [], ◌∷◌, ◌++◌, refl, ap, sym, subst}
use Rattle.crl_protocol.specs.Places.{Took, here, there}
use Rattle.crl_flight.specs.Flight.{Moves, still, moved}

pub moves_then : {A : Type 0} {xs ys zs : List A} → Moves xs ys → Moves ys zs → Moves xs zs
moves_then still n = n
moves_then (moved x rest a b m) n = moved x rest a b (moves_then m n)

pub moves_back : {A : Type 0} {xs ys : List A} → Moves xs ys → Moves ys xs
moves_back still = still
moves_back (moved x rest a b m) = moves_then (moves_back m) (moved x rest b a still)

pub moves_in : {A : Type 0} (y : A) {xs ys : List A} → Moves xs ys → Moves (y ∷ xs) (y ∷ ys)
moves_in y still = still
moves_in y (moved x rest a b m) = moved x (y ∷ rest) (there a) (there b) (moves_in y m)

pub moves_behind : {A : Type 0} (ys : List A) {xs zs : List A} → Moves xs zs → Moves (ys ++ xs) (ys ++ zs)
moves_behind [] m = m
moves_behind (y ∷ ys) m = moves_in y (moves_behind ys m)

pub took_left : {A : Type 0} {x : A} {xs ys : List A} (zs : List A) → Took x xs ys → Took x (xs ++ zs) (ys ++ zs)
took_left zs here = here
took_left zs (there t) = there (took_left zs t)

pub took_right : {A : Type 0} {x : A} (zs : List A) {xs ys : List A} → Took x xs ys → Took x (zs ++ xs) (zs ++ ys)
took_right [] t = t
took_right (z ∷ zs) t = there (took_right zs t)

pub moves_before : {A : Type 0} (zs : List A) {xs ys : List A} → Moves xs ys → Moves (xs ++ zs) (ys ++ zs)
moves_before zs still = still
moves_before zs (moved x rest a b m) = moved x (rest ++ zs) (took_left zs a) (took_left zs b) (moves_before zs m)

-- what is taken out stands first
pub first_then : {A : Type 0} {x : A} {xs ys : List A} → Took x xs ys → Moves xs (x ∷ ys)
first_then {x = x} {ys = ys} t = moved x ys t here still

-- two are taken out in either order
pub data TookBoth {A : Type 0} (x y : A) (xs ys : List A) : Type 0 where
  same : x ≡ y → xs ≡ ys → TookBoth x y xs ys
  both : (rest : List A) → Took y xs rest → Took x ys rest → TookBoth x y xs ys

pub took_both : {A : Type 0} {x y : A} {zs xs ys : List A} → Took x zs xs → Took y zs ys → TookBoth x y xs ys
took_both here here = same refl refl
took_both here (there {ys = bs} t) = both bs t here
took_both (there {ys = bs} t) here = both bs here t
took_both (there {y = z} t) (there u) = go z (took_both t u)
  where
    go : {A : Type 0} {x y : A} {xs ys : List A} (z : A) → TookBoth x y xs ys → TookBoth x y (z ∷ xs) (z ∷ ys)
    go z (same e f) = same e (ap (λ l. z ∷ l) f)
    go z (both rest t u) = both (z ∷ rest) (there t) (there u)

-- what is taken out of a list is taken out of it in another order
pub record Elsewhere {A : Type 0} (x : A) (xs rest : List A) : Type 0 where
  pub left : List A
  pub took : Took x xs left
  pub moves : Moves left rest

swap : {A : Type 0} {y x : A} {xs rest mid : List A} → Took y xs rest → Took x rest mid → (l : List A) × Took x xs l × Took y l mid
swap (here {xs = ys}) (v) = swap_here v
  where
    swap_here : {A : Type 0} {x y : A} {rest mid : List A} → Took x rest mid → (l : List A) × Took x (y ∷ rest) l × Took y l mid
    swap_here {y = y} {mid = mid} v = (y ∷ mid, there v, here)
swap (there {xs = ys} t) here = (ys, here, t)
swap (there {y = z} t) (there v) = let w = swap t v in (z ∷ w.0, there w.1, there w.2)

took_before : {A : Type 0} (y x : A) (xs rest ys zs : List A) → Took y xs rest → Took y ys rest → Took x ys zs → Elsewhere x xs zs
took_before {A} y x xs rest ys zs a b t = go (took_both t b)
  where
    go : TookBoth x y zs rest → Elsewhere x xs zs
    go (same e f) = record { left = rest; took = subst (λ v. Took v xs rest) (sym e) a; moves = subst (λ l. Moves rest l) (sym f) still }
    go (both mid u v) = let w = swap a v in record { left = w.0; took = w.1; moves = moved y mid w.2 u still }

pub took_moved : {A : Type 0} {xs ys : List A} → Moves xs ys → (x : A) (zs : List A) → Took x ys zs → Elsewhere x xs zs
took_moved still x zs t = record { left = zs; took = t; moves = still }
took_moved (moved {xs = xs} {ys = ys} y rest a b m) x zs t =
    let e = took_moved m x zs t in
    let f = took_before y x xs rest ys e.left a b e.took in
    record { left = f.left; took = f.took; moves = moves_then f.moves e.moves }

-- of two lists one after the other
pub data OfTwo {A : Type 0} (x : A) (xs ys rest : List A) : Type 0 where
  in_first : (left : List A) → Took x xs left → rest ≡ left ++ ys → OfTwo x xs ys rest
  in_second : (left : List A) → Took x ys left → rest ≡ xs ++ left → OfTwo x xs ys rest

pub of_two : {A : Type 0} {x : A} (xs ys rest : List A) → Took x (xs ++ ys) rest → OfTwo x xs ys rest
of_two [] ys rest t = in_second rest t refl
of_two (z ∷ xs) ys _ here = in_first xs here refl
of_two (z ∷ xs) ys _ (there {ys = rest} t) = go (of_two xs ys rest t)
  where
    go : {x : _} → OfTwo x xs ys rest → OfTwo x (z ∷ xs) ys (z ∷ rest)
    go (in_first left u e) = in_first (z ∷ left) (there u) (ap (λ l. z ∷ l) e)
    go (in_second left u e) = in_second left u (ap (λ l. z ∷ l) e)

pub moves_none : {A : Type 0} {xs ys : List A} → Moves xs ys → ys ≡ [] → xs ≡ []
moves_none still e = e
moves_none (moved {ys = ys} x rest a b m) e = absurd (took_none b (moves_none m e))
  where
    took_none : {A : Type 0} {x : A} {xs ys : List A} → Took x xs ys → xs ≡ [] → ⊥
    took_none here e = cc
    took_none (there t) e = cc

-- two parts of a list change places
pub moves_round : {A : Type 0} (xs ys zs : List A) → Moves (xs ++ (ys ++ zs)) (ys ++ (xs ++ zs))
moves_round [] ys zs = still
moves_round (x ∷ xs) ys zs = moves_then (moves_in x (moves_round xs ys zs)) (moved x (ys ++ (xs ++ zs)) here (took_right ys here) still)
