-- The pieces of bytes: joined they are the bytes; their number and their lengths.
use Rattle.std.proofs.Common.{◌≡◌, ℕ, zero, suc, ◌+◌, ◌-◌, ◌*◌, ◌/◌, ◌<◌, ◌≤◌, Some, List, [], ◌∷◌, ◌++◌, length, take, drop, min, refl, ap, sym, ◌∙◌, arith}
use Rattle.std.specs.Prelude.{slice_get}
use Rattle.std.proofs.lemmas.List.{take-append-drop, drop-drop, length-drop, length-take}
use Rattle.std.proofs.Math.Nat.{lt-mul-div-succ}
use Rattle.crl_pieces.specs.Pieces.{count, piece_size, cut_in, cut, join}

no_bytes : (bytes : List ℕ) → length bytes ≤ 0 → bytes ≡ []
no_bytes [] l = refl
no_bytes (b ∷ bytes) l = absurd (omega arith)

pub join_cut_in : (n : ℕ) (bytes : List ℕ) → length bytes ≤ n * 32768 → join (cut_in n bytes) ≡ bytes
join_cut_in zero bytes l = sym (no_bytes bytes (let e : zero * 32768 ≡ 0 = refl in omega arith))
join_cut_in (suc n) bytes l =
    let dropped = length-drop 32768 bytes in
    ap (λ b. take 32768 bytes ++ b) (join_cut_in n (drop 32768 bytes) (omega arith)) ∙ take-append-drop 32768 bytes

pub count_covers : (size : ℕ) → size ≤ count size * 32768
count_covers size =
    let few : size - 1 < 32768 * ((size - 1) / 32768 + 1) = lt-mul-div-succ (size - 1) (omega arith) in
    omega arith

pub join_cut : (bytes : List ℕ) → join (cut bytes) ≡ bytes
unfolding cut
join_cut bytes = join_cut_in (count (length bytes)) bytes (count_covers (length bytes))

length_cut_in : (n : ℕ) (bytes : List ℕ) → length (cut_in n bytes) ≡ n
length_cut_in zero bytes = refl
length_cut_in (suc n) bytes = let rest = length_cut_in n (drop 32768 bytes) in omega arith

pub length_cut : (bytes : List ℕ) → length (cut bytes) ≡ count (length bytes)
unfolding cut
length_cut bytes = length_cut_in (count (length bytes)) bytes

-- the parts have the lengths that the size gives
abbrev pub HaveSizes : ℕ → ℕ → List (List ℕ) → Type 0
HaveSizes size k [] = Unit {0}
HaveSizes size k (part ∷ parts) = (length part ≡ piece_size size k) × HaveSizes size (k + 1) parts

cut_in_sizes : (size k n : ℕ) (bytes : List ℕ) → length bytes ≡ size - k * 32768 → HaveSizes size k (cut_in n bytes)
cut_in_sizes size k zero bytes e = tt
cut_in_sizes size k (suc n) bytes e =
    let dropped = length-drop 32768 bytes in
    (length-take 32768 bytes ∙ ap (λ l. min 32768 l) e, cut_in_sizes size (k + 1) n (drop 32768 bytes) (omega arith))

pub cut_sizes : (bytes : List ℕ) → HaveSizes (length bytes) 0 (cut bytes)
unfolding cut
cut_sizes bytes = cut_in_sizes (length bytes) 0 (count (length bytes)) bytes (omega arith)

-- ---- a piece by its index

cut_in_at : (n i : ℕ) (bytes : List ℕ) → i < n → slice_get (cut_in n bytes) i ≡ Some (take 32768 (drop (i * 32768) bytes))
cut_in_at zero i bytes l = absurd (omega arith)
cut_in_at (suc n) zero bytes l = refl
cut_in_at (suc n) (suc i) bytes l =
    let place : 32768 + i * 32768 ≡ suc i * 32768 = omega arith in
    cut_in_at n i (drop 32768 bytes) (omega arith) ∙ ap (λ bs. Some (take 32768 bs)) (drop-drop (i * 32768) 32768 bytes ∙ ap (λ k. drop k bytes) place)

pub cut_at : (i : ℕ) (bytes : List ℕ) → i < count (length bytes) → slice_get (cut bytes) i ≡ Some (take 32768 (drop (i * 32768) bytes))
unfolding cut
cut_at i bytes l = cut_in_at (count (length bytes)) i bytes l
