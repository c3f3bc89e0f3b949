-- The fold that is computed is the one on which the parts agree.
use Rattle.std.proofs.Common.{◌≡◌, ◌⊎◌, ℕ, zero, suc, ◌<◌, Bool, true, false, cond, List, [], ◌∷◌, length, map, get_or, refl, sym, ap, subst, ◌∙◌, arith, true≢false, inl, inr}
use Rattle.std.specs.Prelude.{slice_get, ℤ, pos, ◌+ℤ◌, ◌≤ℤ◌, fold}
use Rattle.std.specs.List.{All, Contains}
use Rattle.std.specs.Int.{int_min, int_max}
use Rattle.std.specs.Option.{option_map_or}
use Rattle.std.specs.declared.option.Option.{Option}
use Rattle.std.specs.declared.option.Option.TheVariants.{None, Some}
use Rattle.std.proofs.lemmas.Int.{ints, fold-int_min_reached, fold-int_min_bounds, fold-int_max_reached, fold-int_max_bounds}
use Rattle.crl_model.specs.declared.collective.Part.{Part}
use Rattle.crl_model.specs.declared.collective.Part.TheVariants as part
use Rattle.crl_model.specs.declared.collective.Fold.{Fold}
use Rattle.crl_model.specs.declared.collective.Fold.TheVariants.{Barrier, Broadcast, Sum, Min, Max, Mixed}
use Rattle.crl_model.specs.Folds.{total, Agrees}
use Rattle.crl_model.specs.FoldOf.{are_barriers, sum_from, least_from, greatest_from, sent_from, fold_of}

-- what holds of a head and of each of the rest
All_cons : {X : Type 0} (P : X → Type 0) (x : X) (xs : List X) → P x → All P xs → All P (x ∷ xs)
All_cons P x xs h a zero d i = h
All_cons P x xs h a (suc k) d i = a k d (omega (arith, i))

-- barriers
barriers_all : (ps : List Part) → are_barriers ps ≡ true → All (λ p. p ≡ part.Barrier) ps
barriers_all [] e = λ k d h. absurd (omega arith)
barriers_all (part.Barrier ∷ ps) e = All_cons (λ p. p ≡ part.Barrier) part.Barrier ps refl (barriers_all ps e)
barriers_all (_ ∷ ps) e = absurd (true≢false (sym e))

all_barriers : (ps : List Part) → All (λ p. p ≡ part.Barrier) ps → are_barriers ps ≡ true
all_barriers [] a = refl
all_barriers (p ∷ ps) a = rw (a 0 p (omega arith)) (all_barriers ps (λ k d h. a (suc k) d (omega (arith, h))))

-- sums
sum_shape : (acc w : ℤ) (ps : List Part) → sum_from acc ps ≡ Some w → (vs : List ℤ) × (ps ≡ map part.Sum vs) × (w ≡ acc +ℤ total vs)
sum_shape acc w [] e = let is : acc ≡ w = cc in ([], refl, omega (arith, ints, is))
sum_shape acc w (part.Sum v ∷ ps) e =
    let rest = sum_shape (acc +ℤ v) w ps e in
    (v ∷ rest.0, ap (λ qs. part.Sum v ∷ qs) rest.1, omega (arith, ints, rest.2))
sum_shape acc w (_ ∷ ps) e = absurd (let h : ◌≡◌ {A = Option ℤ} None (Some w) = e in cc)

sum_of_map : (acc : ℤ) (vs : List ℤ) → sum_from acc (map part.Sum vs) ≡ Some (acc +ℤ total vs)
sum_of_map acc [] = ap Some (omega (arith, ints))
sum_of_map acc (v ∷ vs) = sum_of_map (acc +ℤ v) vs ∙ ap Some (omega (arith, ints))

-- least and greatest numbers
least_shape : (m w : ℤ) (ps : List Part) → least_from m ps ≡ Some w → (vs : List ℤ) × (ps ≡ map part.Min vs) × (w ≡ fold int_min m vs)
least_shape m w [] e = ([], refl, cc)
least_shape m w (part.Min v ∷ ps) e =
    let rest = least_shape (int_min m v) w ps e in
    (v ∷ rest.0, ap (λ qs. part.Min v ∷ qs) rest.1, rest.2)
least_shape m w (_ ∷ ps) e = absurd (let h : ◌≡◌ {A = Option ℤ} None (Some w) = e in cc)

least_of_map : (m : ℤ) (vs : List ℤ) → least_from m (map part.Min vs) ≡ Some (fold int_min m vs)
least_of_map m [] = refl
least_of_map m (v ∷ vs) = least_of_map (int_min m v) vs

greatest_shape : (m w : ℤ) (ps : List Part) → greatest_from m ps ≡ Some w → (vs : List ℤ) × (ps ≡ map part.Max vs) × (w ≡ fold int_max m vs)
greatest_shape m w [] e = ([], refl, cc)
greatest_shape m w (part.Max v ∷ ps) e =
    let rest = greatest_shape (int_max m v) w ps e in
    (v ∷ rest.0, ap (λ qs. part.Max v ∷ qs) rest.1, rest.2)
greatest_shape m w (_ ∷ ps) e = absurd (let h : ◌≡◌ {A = Option ℤ} None (Some w) = e in cc)

greatest_of_map : (m : ℤ) (vs : List ℤ) → greatest_from m (map part.Max vs) ≡ Some (fold int_max m vs)
greatest_of_map m [] = refl
greatest_of_map m (v ∷ vs) = greatest_of_map (int_max m v) vs

Contains_cons : {X : Type 0} (x y : X) (xs : List X) → (y ≡ x) ⊎ Contains xs y → Contains (x ∷ xs) y
Contains_cons x y xs (inl e) = (0, omega arith, sym e)
Contains_cons x y xs (inr h) = (suc h.0, omega (arith, h.1), h.2)

All_at : {X : Type 0} (P : X → Type 0) (xs : List X) (x : X) → All P xs → Contains xs x → P x
All_at P xs x a h = subst P h.2 (a h.0 x h.1)

least_agrees : (v : ℤ) (vs : List ℤ) → Agrees (part.Min v ∷ map part.Min vs) (Min (fold int_min v vs))
least_agrees v vs =
    let bounds = fold-int_min_bounds v vs (fold int_min v vs) refl in
    (v ∷ vs, refl, Contains_cons v _ vs (fold-int_min_reached v vs _ refl), All_cons (λ x. fold int_min v vs ≤ℤ x) v vs bounds.0 bounds.1)

greatest_agrees : (v : ℤ) (vs : List ℤ) → Agrees (part.Max v ∷ map part.Max vs) (Max (fold int_max v vs))
greatest_agrees v vs =
    let bounds = fold-int_max_bounds v vs (fold int_max v vs) refl in
    (v ∷ vs, refl, Contains_cons v _ vs (fold-int_max_reached v vs _ refl), All_cons (λ x. x ≤ℤ fold int_max v vs) v vs bounds.0 bounds.1)

min_agrees : (v w : ℤ) (ps : List Part) (vs : List ℤ) → ps ≡ map part.Min vs → w ≡ fold int_min v vs → Agrees (part.Min v ∷ ps) (Min w)
min_agrees v w ps vs shape is = rw (shape, is) (least_agrees v vs)

max_agrees : (v w : ℤ) (ps : List Part) (vs : List ℤ) → ps ≡ map part.Max vs → w ≡ fold int_max v vs → Agrees (part.Max v ∷ ps) (Max w)
max_agrees v w ps vs shape is = rw (shape, is) (greatest_agrees v vs)

least_is : (vs : List ℤ) (v w : ℤ) → Contains vs v → All (λ x. v ≤ℤ x) vs → Contains vs w → All (λ x. w ≤ℤ x) vs → v ≡ w
least_is vs v w v_in v_low w_in w_low =
    let a : v ≤ℤ w = All_at (λ x. v ≤ℤ x) vs w v_low w_in in
    let b : w ≤ℤ v = All_at (λ x. w ≤ℤ x) vs v w_low v_in in
    omega (arith, ints, a, b)

greatest_is : (vs : List ℤ) (v w : ℤ) → Contains vs v → All (λ x. x ≤ℤ v) vs → Contains vs w → All (λ x. x ≤ℤ w) vs → v ≡ w
greatest_is vs v w v_in v_high w_in w_high =
    let a : w ≤ℤ v = All_at (λ x. x ≤ℤ v) vs w v_high w_in in
    let b : v ≤ℤ w = All_at (λ x. x ≤ℤ w) vs v w_high v_in in
    omega (arith, ints, a, b)

-- broadcasts
sent_before : (b c : List ℕ) (ps : List Part) → sent_from (Some b) ps ≡ Some c → (b ≡ c) × All (λ p. p ≡ part.Receive) ps
sent_before b c [] e = (cc, λ k d h. absurd (omega arith))
sent_before b c (part.Receive ∷ ps) e = let rest = sent_before b c ps e in (rest.0, All_cons (λ p. p ≡ part.Receive) part.Receive ps refl rest.1)
sent_before b c (_ ∷ ps) e = absurd (let h : ◌≡◌ {A = Option (List ℕ)} None (Some c) = e in cc)

receive_all : (b : List ℕ) (ps : List Part) → All (λ p. p ≡ part.Receive) ps → sent_from (Some b) ps ≡ Some b
receive_all b [] a = refl
receive_all b (p ∷ ps) a = rw (a 0 p (omega arith)) (receive_all b ps (λ k d h. a (suc k) d (omega (arith, h))))

-- one part sends these bytes, and all others receive
one_sends : (b : List ℕ) (ps : List Part) → All (λ p. p ≡ part.Receive) ps → Agrees (part.Send b ∷ ps) (Broadcast b)
one_sends b ps a = (0, refl, others)
  where
    at_place : (qs : List Part) (k : ℕ) → All (λ p. p ≡ part.Receive) qs → k < length qs → slice_get qs k ≡ Some part.Receive
    at_place [] k a h = absurd (omega (arith, h))
    at_place (q ∷ qs) zero a h = ap Some (a 0 q (omega arith))
    at_place (q ∷ qs) (suc k) a h = at_place qs k (λ j d i. a (suc j) d (omega (arith, i))) (omega (arith, h))

    others : (j : ℕ) → j < length (part.Send b ∷ ps) → (j ≡ 0 → ⊥) → slice_get (part.Send b ∷ ps) j ≡ Some part.Receive
    others zero h ne = absurd (ne refl)
    others (suc j) h ne = at_place ps j a (omega (arith, h))

later_sends : (b : List ℕ) (ps : List Part) → Agrees ps (Broadcast b) → Agrees (part.Receive ∷ ps) (Broadcast b)
later_sends b ps a = (suc a.0, a.1, others)
  where
    others : (j : ℕ) → j < length (part.Receive ∷ ps) → (j ≡ suc a.0 → ⊥) → slice_get (part.Receive ∷ ps) j ≡ Some part.Receive
    others zero h ne = refl
    others (suc j) h ne = a.2 j (omega (arith, h)) (λ e. ne (ap suc e))

sent_agrees : (b : List ℕ) (ps : List Part) → sent_from None ps ≡ Some b → Agrees ps (Broadcast b)
sent_agrees b [] e = absurd (let h : ◌≡◌ {A = Option (List ℕ)} None (Some b) = e in cc)
sent_agrees b (part.Send c ∷ ps) e =
    let rest = sent_before c b ps e in
    rw (← rest.0) (one_sends c ps rest.1)
sent_agrees b (part.Receive ∷ ps) e = later_sends b ps (sent_agrees b ps e)
sent_agrees b (_ ∷ ps) e = absurd (let h : ◌≡◌ {A = Option (List ℕ)} None (Some b) = e in cc)

is_part : {a b : Part} → ◌≡◌ {A = Option Part} (Some a) (Some b) → a ≡ b
is_part e = cc

agrees_sent : (b : List ℕ) (ps : List Part) (i : ℕ) → slice_get ps i ≡ Some (part.Send b)
    → ((j : ℕ) → j < length ps → (j ≡ i → ⊥) → slice_get ps j ≡ Some part.Receive) → sent_from None ps ≡ Some b
agrees_sent b [] i here others = absurd (let h : ◌≡◌ {A = Option Part} None (Some (part.Send b)) = here in cc)
agrees_sent b (p ∷ ps) zero here others =
    rw (is_part here) (receive_all b ps all)
  where
    all : All (λ p. p ≡ part.Receive) ps
    all k d h = read ps k d h (others (suc k) (omega (arith, h)) (λ e. absurd (omega arith)))
      where
        read : (qs : List Part) (k : ℕ) (d : Part) → k < length qs → slice_get qs k ≡ Some part.Receive → get_or qs k d ≡ part.Receive
        read [] k d h e = absurd (omega (arith, h))
        read (q ∷ qs) zero d h e = is_part e
        read (q ∷ qs) (suc k) d h e = read qs k d (omega (arith, h)) e
agrees_sent b (p ∷ ps) (suc i) here others =
    rw (is_part (others 0 (omega arith) (λ e. absurd (omega arith))))
    (agrees_sent b ps i here (λ j h ne. others (suc j) (omega (arith, h)) (λ e. ne (omega (arith, e)))))

-- the parts agree on the fold that is computed, if that isn't `Mixed`
pub agrees_of : (ps : List Part) → (fold_of ps ≡ Mixed → ⊥) → Agrees ps (fold_of ps)
agrees_of [] some = absurd (some refl)
agrees_of (part.Barrier ∷ ps) some = go (are_barriers ps) refl some
  where
    go : (b : Bool) → are_barriers ps ≡ b → (cond b Barrier Mixed ≡ Mixed → ⊥) → Agrees (part.Barrier ∷ ps) (cond b Barrier Mixed)
    go true e some = All_cons (λ p. p ≡ part.Barrier) part.Barrier ps refl (barriers_all ps e)
    go false e some = absurd (some refl)
agrees_of (part.Send b ∷ ps) some = go (sent_from (Some b) ps) refl some
  where
    go : (o : Option (List ℕ)) → sent_from (Some b) ps ≡ o → (option_map_or Broadcast o Mixed ≡ Mixed → ⊥) → Agrees (part.Send b ∷ ps) (option_map_or Broadcast o Mixed)
    go None e some = absurd (some refl)
    go (Some c) e some = sent_agrees c (part.Send b ∷ ps) e
agrees_of (part.Receive ∷ ps) some = go (sent_from None ps) refl some
  where
    go : (o : Option (List ℕ)) → sent_from None ps ≡ o → (option_map_or Broadcast o Mixed ≡ Mixed → ⊥) → Agrees (part.Receive ∷ ps) (option_map_or Broadcast o Mixed)
    go None e some = absurd (some refl)
    go (Some c) e some = sent_agrees c (part.Receive ∷ ps) e
agrees_of (part.Sum v ∷ ps) some = go (sum_from (pos 0 +ℤ v) ps) refl some
  where
    go : (o : Option ℤ) → sum_from (pos 0 +ℤ v) ps ≡ o → (option_map_or Sum o Mixed ≡ Mixed → ⊥) → Agrees (part.Sum v ∷ ps) (option_map_or Sum o Mixed)
    go None e some = absurd (some refl)
    go (Some w) e some = let all = sum_shape (pos 0) w (part.Sum v ∷ ps) e in (all.0, all.1, omega (arith, ints, all.2))
agrees_of (part.Min v ∷ ps) some = go (least_from v ps) refl some
  where
    go : (o : Option ℤ) → least_from v ps ≡ o → (option_map_or Min o Mixed ≡ Mixed → ⊥) → Agrees (part.Min v ∷ ps) (option_map_or Min o Mixed)
    go None e some = absurd (some refl)
    go (Some w) e some = let all = least_shape v w ps e in min_agrees v w ps all.0 all.1 all.2
agrees_of (part.Max v ∷ ps) some = go (greatest_from v ps) refl some
  where
    go : (o : Option ℤ) → greatest_from v ps ≡ o → (option_map_or Max o Mixed ≡ Mixed → ⊥) → Agrees (part.Max v ∷ ps) (option_map_or Max o Mixed)
    go None e some = absurd (some refl)
    go (Some w) e some = let all = greatest_shape v w ps e in max_agrees v w ps all.0 all.1 all.2

-- parts that agree on a fold give it
pub fold_agreed : (ps : List Part) (f : Fold) → 0 < length ps → Agrees ps f → fold_of ps ≡ f
fold_agreed [] f some a = absurd (omega (arith, some))
fold_agreed (p ∷ ps) Barrier some a = rw (a 0 p (omega arith), all_barriers ps (λ k d h. a (suc k) d (omega (arith, h)))) refl
fold_agreed (p ∷ ps) (Broadcast b) some (i, here, others) = go i here others
  where
    go : (i : ℕ) → slice_get (p ∷ ps) i ≡ Some (part.Send b) → ((j : ℕ) → j < length (p ∷ ps) → (j ≡ i → ⊥) → slice_get (p ∷ ps) j ≡ Some part.Receive) → fold_of (p ∷ ps) ≡ Broadcast b
    go zero here others =
        let is : p ≡ part.Send b = is_part here in
        let sent : sent_from None (part.Send b ∷ ps) ≡ Some b = rw is at (agrees_sent b (p ∷ ps) zero here others) in
        rw (is, sent) refl
    go (suc i) here others =
        let is : p ≡ part.Receive = is_part (others 0 (omega arith) (λ e. absurd (omega arith))) in
        let sent : sent_from None (part.Receive ∷ ps) ≡ Some b = rw is at (agrees_sent b (p ∷ ps) (suc i) here others) in
        rw (is, sent) refl
fold_agreed (p ∷ ps) (Sum w) some (vs, shape, is) = ap fold_of shape ∙ go vs is shape
  where
    go : (vs : List ℤ) → w ≡ total vs → p ∷ ps ≡ map part.Sum vs → fold_of (map part.Sum vs) ≡ Sum w
    go [] is shape = absurd (omega (arith, ap length shape))
    go (v ∷ vs) is shape = rw (sum_of_map (pos 0 +ℤ v) vs) (ap Sum (omega (arith, ints, is)))
fold_agreed (p ∷ ps) (Min w) some (vs, shape, here, low) = ap fold_of shape ∙ go vs here low shape
  where
    go : (vs : List ℤ) → Contains vs w → All (λ x. w ≤ℤ x) vs → p ∷ ps ≡ map part.Min vs → fold_of (map part.Min vs) ≡ Min w
    go [] here low shape = absurd (omega (arith, ap length shape))
    go (v ∷ vs) here low shape =
        let bounds = fold-int_min_bounds v vs (fold int_min v vs) refl in
        rw (least_of_map v vs) (ap Min (least_is (v ∷ vs) (fold int_min v vs) w (Contains_cons v _ vs (fold-int_min_reached v vs _ refl)) (All_cons (λ x. fold int_min v vs ≤ℤ x) v vs bounds.0 bounds.1) here low))
fold_agreed (p ∷ ps) (Max w) some (vs, shape, here, high) = ap fold_of shape ∙ go vs here high shape
  where
    go : (vs : List ℤ) → Contains vs w → All (λ x. x ≤ℤ w) vs → p ∷ ps ≡ map part.Max vs → fold_of (map part.Max vs) ≡ Max w
    go [] here high shape = absurd (omega (arith, ap length shape))
    go (v ∷ vs) here high shape =
        let bounds = fold-int_max_bounds v vs (fold int_max v vs) refl in
        rw (greatest_of_map v vs) (ap Max (greatest_is (v ∷ vs) (fold int_max v vs) w (Contains_cons v _ vs (fold-int_max_reached v vs _ refl)) (All_cons (λ x. x ≤ℤ fold int_max v vs) v vs bounds.0 bounds.1) here high))
fold_agreed (p ∷ ps) Mixed some a = absurd a
