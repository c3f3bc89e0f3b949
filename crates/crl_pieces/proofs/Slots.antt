-- The slots of a gathering, as pieces come into it.
use Rattle.std.proofs.Common.{◌≡◌, ℕ, zero, suc, ◌+◌, ◌-◌, ◌*◌, ◌/◌, ◌<◌, ◌≤◌, Bool, true, false, None, Some, List, [], ◌∷◌, ◌++◌, length, take, drop, min, replicate, set, get_or, if◌then◌else◌, refl, sym, ap, ◌∙◌, append_assoc, arith, inl, inr}
use Rattle.std.specs.Prelude.{not}
use Rattle.std.specs.List.{list_all}
use Rattle.std.proofs.Math.Seq.{take-add}
use Rattle.std.proofs.Math.Nat.{div-mul-le_self}
use Rattle.std.proofs.lemmas.Bool.{cases_lt}
use Rattle.std.proofs.lemmas.List.{take-append-drop, take-append-le, drop-append-le, take_at, drop_at, take_all, drop_all, drop-drop, drop-take, append-nil, length-append, length-drop, length-take}
use Rattle.crl_model.specs.Patches.{put_at}
use Rattle.crl_pieces.specs.Pieces.{count, piece_size, nothing_came, is_missing, with_piece, is_complete, joined}
use Rattle.crl_pieces.specs.Gathering.{slots_of}

pub slots_new : (n : ℕ) (whole : List ℕ) → slots_of (replicate n false) whole ≡ nothing_came n
slots_new zero whole = refl
slots_new (suc n) whole = ap (λ ss. None ∷ ss) (slots_new n (drop 32768 whole))

pub slots_length : (came : List Bool) (whole : List ℕ) → length (slots_of came whole) ≡ length came
slots_length [] whole = refl
slots_length (c ∷ came) whole = ap suc (slots_length came (drop 32768 whole))

pub missing_is : (i : ℕ) (came : List Bool) (whole : List ℕ) (d : Bool) → i < length came → is_missing i (slots_of came whole) ≡ not (get_or came i d)
missing_is i [] whole d l = absurd (omega arith)
missing_is zero (true ∷ came) whole d l = refl
missing_is zero (false ∷ came) whole d l = refl
missing_is (suc i) (c ∷ came) whole d l = missing_is i came (drop 32768 whole) d (omega arith)

pub missing_past : (i : ℕ) (came : List Bool) (whole : List ℕ) → length came ≤ i → is_missing i (slots_of came whole) ≡ false
missing_past i [] whole l = refl
missing_past zero (c ∷ came) whole l = absurd (omega arith)
missing_past (suc i) (c ∷ came) whole l = missing_past i came (drop 32768 whole) (omega arith)

pub missing_below : (i : ℕ) (came : List Bool) (whole : List ℕ) → is_missing i (slots_of came whole) ≡ true → i < length came
missing_below i [] whole e = cc
missing_below zero (c ∷ came) whole e = omega arith
missing_below (suc i) (c ∷ came) whole e = let below = missing_below i came (drop 32768 whole) e in omega arith

no_bytes : (whole : List ℕ) → length whole ≤ 0 → [] ≡ whole
no_bytes [] l = refl
no_bytes (b ∷ whole) l = absurd (omega arith)

pub joined_is : (came : List Bool) (whole : List ℕ) → length whole ≤ length came * 32768 → is_complete (slots_of came whole) ≡ true → joined (slots_of came whole) ≡ whole
joined_is [] whole l e = no_bytes whole l
joined_is (true ∷ came) whole l e =
    let dropped = length-drop 32768 whole in
    ap (λ bs. take 32768 whole ++ bs) (joined_is came (drop 32768 whole) (omega arith) e) ∙ take-append-drop 32768 whole
joined_is (false ∷ came) whole l e = cc

pub complete_is : (came : List Bool) (whole : List ℕ) → list_all (λ c. c) came ≡ is_complete (slots_of came whole)
complete_is [] whole = refl
complete_is (true ∷ came) whole = complete_is came (drop 32768 whole)
complete_is (false ∷ came) whole = refl

-- ---- a piece comes

-- at the front: a whole piece, or all that there is
first_taken : (part whole : List ℕ) → length part ≡ min 32768 (length whole) → take 32768 (part ++ drop (length part) whole) ≡ part
first_taken part whole e =
    elim (cases_lt (length whole) 32768) [
      | inl lt ↦ ap (λ bs. take 32768 (part ++ bs)) (drop_all (length part) whole (omega arith)) ∙ ap (take 32768) (append-nil part) ∙ take_all 32768 part (omega arith)
      | inr le ↦ take_at part (drop (length part) whole) 32768 (omega arith)
    ]

first_dropped : (part whole : List ℕ) → length part ≡ min 32768 (length whole) → drop 32768 (part ++ drop (length part) whole) ≡ drop 32768 whole
first_dropped part whole e =
    elim (cases_lt (length whole) 32768) [
      | inl lt ↦ ap (λ bs. drop 32768 (part ++ bs)) (drop_all (length part) whole (omega arith)) ∙ ap (drop 32768) (append-nil part) ∙ drop_all 32768 part (omega arith) ∙ sym (drop_all 32768 whole (omega arith))
      | inr le ↦ (let full : length part ≡ 32768 = omega arith in drop_at part (drop (length part) whole) 32768 full ∙ ap (λ n. drop n whole) full)
    ]

-- these bytes in the place of as many from k on
abbrev over : ℕ → List ℕ → List ℕ → List ℕ
over k part whole = take k whole ++ (part ++ drop (k + length part) whole)

over_is : (k : ℕ) (part whole : List ℕ) → put_at k part whole ≡ over k part whole
over_is k part whole = append_assoc (take k whole) part (drop (k + length part) whole)

over_first : (part whole : List ℕ) → put_at (0 * 32768) part whole ≡ part ++ drop (length part) whole
over_first part whole =
    let none : 0 * 32768 ≡ 0 = omega arith in
    let len : 0 + length part ≡ length part = omega arith in
    ap (λ n. put_at n part whole) none ∙ over_is 0 part whole ∙ ap (λ n. part ++ drop n whole) len

-- further on: the first piece stays, and the rest has it
rest_taken : (k : ℕ) (part whole : List ℕ) → 32768 + k ≤ length whole → take 32768 (over (32768 + k) part whole) ≡ take 32768 whole
rest_taken k part whole l =
    let taken = length-take (32768 + k) whole in
    take-append-le 32768 (take (32768 + k) whole) (part ++ drop (32768 + k + length part) whole) (omega arith)
    ∙ ap (take 32768) (take-add 32768 k whole) ∙ take_at (take 32768 whole) (take k (drop 32768 whole)) 32768 (omega (arith, length-take 32768 whole))

rest_dropped : (k : ℕ) (part whole : List ℕ) → 32768 + k ≤ length whole → drop 32768 (over (32768 + k) part whole) ≡ over k part (drop 32768 whole)
rest_dropped k part whole l =
    let taken = length-take (32768 + k) whole in
    let place : 32768 + k + length part ≡ 32768 + (k + length part) = omega arith in
    let behind : drop (32768 + k + length part) whole ≡ drop (k + length part) (drop 32768 whole) =
    ap (λ n. drop n whole) place ∙ sym (drop-drop (k + length part) 32768 whole) in
    drop-append-le 32768 (take (32768 + k) whole) (part ++ drop (32768 + k + length part) whole) (omega arith)
    ∙ ap (λ bs. bs ++ (part ++ drop (32768 + k + length part) whole)) (drop-take 32768 k whole)
    ∙ ap (λ bs. take k (drop 32768 whole) ++ (part ++ bs)) behind

pub added : (i : ℕ) (came : List Bool) (part whole : List ℕ) → i < length came → i * 32768 ≤ length whole → length part ≡ piece_size (length whole) i
    → slots_of (set came i true) (put_at (i * 32768) part whole) ≡ with_piece i part (slots_of came whole)
added i [] part whole below fits e = absurd (omega arith)
added zero (c ∷ came) part whole below fits e =
    let size : length part ≡ min 32768 (length whole) = omega arith in
    ap (slots_of (true ∷ came)) (over_first part whole)
    ∙ (λ j. Some (first_taken part whole size j) ∷ slots_of came (first_dropped part whole size j))
added (suc i) (c ∷ came) part whole below fits e =
    let place : suc i * 32768 ≡ 32768 + i * 32768 = omega arith in
    let dropped = length-drop 32768 whole in
    let taken = rest_taken (i * 32768) part whole (omega arith) in
    let left = rest_dropped (i * 32768) part whole (omega arith) ∙ sym (over_is (i * 32768) part (drop 32768 whole)) in
    let later = added i came part (drop 32768 whole) (omega arith) (omega arith) (omega arith) in
    ap (λ n. slots_of (c ∷ set came i true) (put_at n part whole)) place ∙ ap (slots_of (c ∷ set came i true)) (over_is (32768 + i * 32768) part whole)
    ∙ (λ j. (if c then Some (taken j) else None) ∷ slots_of (set came i true) (left j))
    ∙ ap (λ ss. (if c then Some (take 32768 whole) else None) ∷ ss) later

-- the place of a piece is within the whole
pub place_fits : (size i : ℕ) → i < count size → i * 32768 ≤ size
place_fits size i l =
    let most : (size - 1) / 32768 * 32768 ≤ size - 1 = div-mul-le_self (size - 1) 32768 in
    omega arith

twice_not : (b : Bool) → b ≡ not (not b)
twice_not true = refl
twice_not false = refl

pub came_is : (i : ℕ) (came : List Bool) (whole : List ℕ) (d : Bool) → i < length came → get_or came i d ≡ not (is_missing i (slots_of came whole))
came_is i came whole d l = twice_not (get_or came i d) ∙ ap not (sym (missing_is i came whole d l))

pub put_length : (k : ℕ) (part whole : List ℕ) → k + length part ≤ length whole → length (put_at k part whole) ≡ length whole
put_length k part whole l =
    omega (arith, length-append (take k whole ++ part) (drop (k + length part) whole), length-append (take k whole) part, length-take k whole, length-drop (k + length part) whole)
