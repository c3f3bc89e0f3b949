-- The places for the parts of a round.
use Rattle.std.proofs.Common.{◌≡◌, ◌≢◌, ℕ, zero, suc, ◌+◌, ◌<◌, ◌≤◌, Bool, true, false, ◌==◌, ◌&&◌, List, [], ◌∷◌, ◌++◌, refl, sym, ap, ◌∙◌, add-one, arith, length, take, drop, slice_index_or, slice_set, if◌then◌else◌}
use Rattle.std.specs.Prelude.{is_some}
use Rattle.std.specs.declared.option.Option.{Option}
use Rattle.std.specs.declared.option.Option.TheVariants.{None, Some}
use Rattle.std.proofs.lemmas.List.{drop-set-lt}
use Rattle.std.proofs.lemmas.Bool.{cond-true, cond-false, eqb-true, eqb-false}
use Rattle.crl_model.specs.declared.collective.Part.{Part}
use Rattle.crl_model.specs.Names.{at_node}
use Rattle.crl_model.specs.FoldOf.{fold_of}
use Rattle.crl_protocol.specs.Gathering.{Gathering, no_parts, with_part, all_parts, after_parts, gathers}
use Rattle.crl_protocol.specs.Places.{at, put}
use Rattle.crl_gathering.specs.Tallies.{tally_gives}
use Rattle.crl_gathering.specs.declared.tally.Tally.{Tally}
use Rattle.crl_gathering.specs.RoundState.{RoundState, next_round, round_step, completes_round, are_there, others_there, with_present, present}

pub slots_put : (n : ℕ) (v : Option Part) (xs : List (Option Part)) → n < length xs → put n v xs ≡ slice_set xs n v
slots_put n v [] h = grind arith
slots_put zero v (x ∷ xs) h = refl
slots_put (suc n) v (x ∷ xs) h = ap (λ r. x ∷ r) (slots_put n v xs (omega arith))

pub at_is_read : (n : ℕ) (xs : List (Option Part)) (d : Option Part) → n < length xs → at n xs ≡ slice_index_or xs n d
at_is_read n [] d h = grind arith
at_is_read zero (x ∷ xs) d h = refl
at_is_read (suc n) (x ∷ xs) d h = at_is_read n xs d (omega arith)

pub at_past : (n : ℕ) (xs : List (Option Part)) → length xs ≤ n → at n xs ≡ None
at_past n [] h = refl
at_past zero (x ∷ xs) h = grind arith
at_past (suc n) (x ∷ xs) h = at_past n xs (omega arith)

pub put_length : (n : ℕ) (v : Option Part) (xs : List (Option Part)) → n < length xs → length (put n v xs) ≡ length xs
put_length n v [] h = grind arith
put_length zero v (x ∷ xs) h = refl
put_length (suc n) v (x ∷ xs) h = ap suc (put_length n v xs (omega arith))

at_put : (n : ℕ) (v : Option Part) (xs : List (Option Part)) → at n (put n v xs) ≡ v
at_put zero v [] = refl
at_put (suc n) v [] = at_put n v []
at_put zero v (x ∷ xs) = refl
at_put (suc n) v (x ∷ xs) = at_put n v xs

beside_put : (n m : ℕ) (v : Option Part) (xs : List (Option Part)) → n ≢ m → at m (put n v xs) ≡ at m xs
beside_put zero zero v xs h = absurd (h refl)
beside_put zero (suc m) v [] h = refl
beside_put zero (suc m) v (x ∷ xs) h = refl
beside_put (suc n) zero v [] h = refl
beside_put (suc n) (suc m) v [] h = beside_put n m v [] (λ e. h (ap suc e))
beside_put (suc n) zero v (x ∷ xs) h = refl
beside_put (suc n) (suc m) v (x ∷ xs) h = beside_put n m v xs (λ e. h (ap suc e))

pub read_put : (n : ℕ) (v : Option Part) (xs : List (Option Part)) → (λ m. at m (put n v xs)) ≡ at_node (λ m. at m xs) n v
read_put n v xs = λ i m. each m (n == m) refl i
  where
    each : (m : ℕ) (same : Bool) → (n == m) ≡ same → at m (put n v xs) ≡ at_node (λ m. at m xs) n v m
    each m true e = ap (λ k. at k (put n v xs)) (sym (eqb-true n m e)) ∙ at_put n v xs ∙ sym (cond-true (n == m) v (at m xs) e)
    each m false e = beside_put n m v xs (eqb-false n m e) ∙ sym (cond-false (n == m) v (at m xs) e)

-- places without parts
pub nothing_there : (round : ℕ) (xs : List (Option Part)) → ((n : ℕ) → at n xs ≡ None) → ◌≡◌ {A = Gathering} (record { round = round; parts = λ n. at n xs }) (record { round = round; parts = no_parts })
nothing_there round xs h = λ i. record { round = round; parts = λ n. h n i }

pub none_more : (n : ℕ) (xs : List (Option Part)) → at n (xs ++ None ∷ []) ≡ at n xs
none_more zero [] = refl
none_more (suc n) [] = refl
none_more zero (x ∷ xs) = refl
none_more (suc n) (x ∷ xs) = none_more n xs

-- the parts from a place on
next_present : (n : ℕ) (xs : List (Option Part)) (d : Option Part) → n < length xs → present (drop n xs) ≡ with_present (slice_index_or xs n d) (present (drop (suc n) xs))
next_present n [] d h = grind arith
next_present zero (x ∷ xs) d h = refl
next_present (suc n) (x ∷ xs) d h = next_present n xs d (omega arith)

-- the part at a place is looked at, and another put there
pub fold_next : (n : ℕ) (xs : List (Option Part)) (d v : Option Part) (tally after : Tally) → n < length xs
    → ((ps : List Part) → tally_gives after ps ≡ tally_gives tally (with_present (slice_index_or xs n d) ps)) → tally_gives after (present (drop (n + 1) (slice_set xs n v))) ≡ tally_gives tally (present (drop n xs))
fold_next n xs d v tally after below gives =
    ap (λ ys. tally_gives after (present ys)) (drop-set-lt (n + 1) xs n v (omega arith))
    ∙ gives (present (drop (n + 1) xs))
    ∙ ap (tally_gives tally) (ap (λ j. with_present (slice_index_or xs n d) (present (drop j xs))) (add-one n) ∙ sym (next_present n xs d below))

pub nothing_next : (n : ℕ) (xs : List (Option Part)) (v : Option Part) → v ≡ None → n < length xs → ((k : ℕ) → k < n → at k xs ≡ None) → (k : ℕ) → k < n + 1 → at k (slice_set xs n v) ≡ None
nothing_next n xs v e within h k l = ap (λ ys. at k ys) (sym (slots_put n v xs within)) ∙ go (n == k) refl
  where
    go : (same : Bool) → (n == k) ≡ same → at k (put n v xs) ≡ None
    go true w = ap (λ j. at j (put n v xs)) (sym (eqb-true n k w)) ∙ at_put n v xs ∙ e
    go false w = let ne : n ≢ k = eqb-false n k w in beside_put n k v xs ne ∙ h k (omega arith)

pub all_nothing : (xs : List (Option Part)) → ((k : ℕ) → k < length xs → at k xs ≡ None) → (k : ℕ) → at k xs ≡ None
all_nothing [] h k = refl
all_nothing (x ∷ xs) h zero = h zero (omega arith)
all_nothing (x ∷ xs) h (suc k) = all_nothing xs (λ j l. h (suc j) (omega arith)) k

next_slots : (m k : ℕ) (x : Option Part) (xs : List (Option Part)) → all_parts (m + 1) k (λ n. at n (x ∷ xs)) ≡ all_parts m k (λ n. at n xs)
next_slots m zero x xs = refl
next_slots m (suc k) x xs =
    ap (λ j. with_part (at j (x ∷ xs)) (all_parts (m + 1 + 1) k (λ n. at n (x ∷ xs)))) (add-one m)
    ∙ ap (with_part (at m xs)) (next_slots (m + 1) k x xs)

abbrev whole : List (Option Part) → Option (List Part)
whole xs = if are_there xs then Some (present xs) else None

one_more : (b : Bool) (p : Part) (ps : List Part) → with_part (Some p) (if b then Some ps else None) ≡ (if b then Some (p ∷ ps) else None)
one_more true p ps = refl
one_more false p ps = refl

pub all_slots : (xs : List (Option Part)) → all_parts 0 (length xs) (λ n. at n xs) ≡ whole xs
all_slots [] = refl
all_slots (None ∷ xs) = refl
all_slots (Some p ∷ xs) = ap (with_part (Some p)) (next_slots 0 (length xs) (Some p) xs ∙ all_slots xs) ∙ one_more (are_there xs) p (present xs)

regroup : (a b c : Bool) → (a && (b && c)) ≡ ((a && b) && c)
regroup true b c = refl
regroup false b c = refl

there_after : (n : ℕ) (p : Part) (xs : List (Option Part)) → n < length xs → are_there (put n (Some p) xs) ≡ others_there n xs
there_after n p [] h = grind arith
there_after zero p (x ∷ xs) h = refl
there_after (suc n) p (x ∷ xs) h = ap (λ b. is_some x && b) (there_after n p xs (omega arith)) ∙ regroup (is_some x) (are_there (take n xs)) (are_there (drop (suc n) xs))

module _ (n : ℕ) (p : Part) (s : RoundState) (within : n < length s.parts) (places : length s.parts ≡ s.nodes) where
  gathered : all_parts 0 s.nodes (at_node (λ m. at m s.parts) n (Some p)) ≡ whole (put n (Some p) s.parts)
  gathered =
      ap (λ f. all_parts 0 s.nodes f) (sym (read_put n (Some p) s.parts))
      ∙ ap (λ k. all_parts 0 k (λ m. at m (put n (Some p) s.parts))) (sym places ∙ sym (put_length n (Some p) s.parts within))
      ∙ all_slots (put n (Some p) s.parts)

  is_there : (b : Bool) (ps : List Part) → is_some (if b then Some ps else None) ≡ b
  is_there true ps = refl
  is_there false ps = refl

  pub completed : others_there n s.parts ≡ completes_round n p s
  completed = sym (ap is_some gathered ∙ is_there (are_there (put n (Some p) s.parts)) (present (put n (Some p) s.parts)) ∙ there_after n p s.parts within)

  pub stepped : round_step n p s ≡ after_parts (whole (put n (Some p) s.parts)) (record { round = s.round; parts = λ m. at m (put n (Some p) s.parts) })
  unfolding gathers
  stepped =
      ap (λ w. after_parts w (record { round = s.round; parts = at_node (λ m. at m s.parts) n (Some p) })) gathered
      ∙ ap (λ f. after_parts (whole (put n (Some p) s.parts)) (record { round = s.round; parts = f })) (sym (read_put n (Some p) s.parts))

  pub last_came : are_there (put n (Some p) s.parts) ≡ true → round_step n p s ≡ record { gathering = next_round s; fold = Some (fold_of (present (put n (Some p) s.parts))) }
  last_came e = stepped ∙ ap (λ w. after_parts w (record { round = s.round; parts = λ m. at m (put n (Some p) s.parts) })) (cond-true (are_there (put n (Some p) s.parts)) (Some (present (put n (Some p) s.parts))) None e)

  pub one_came : are_there (put n (Some p) s.parts) ≡ false → round_step n p s ≡ record { gathering = record { round = s.round; parts = λ m. at m (put n (Some p) s.parts) }; fold = None }
  one_came e = stepped ∙ ap (λ w. after_parts w (record { round = s.round; parts = λ m. at m (put n (Some p) s.parts) })) (cond-false (are_there (put n (Some p) s.parts)) (Some (present (put n (Some p) s.parts))) None e)
