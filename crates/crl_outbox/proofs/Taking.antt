-- What is taken out of a list.
use Rattle.std.proofs.Common.{◌≡◌, ℕ, zero, suc, ◌+◌, ◌-◌, ◌<◌, ◌≤◌, List, [], ◌∷◌, ◌++◌, Option, Some, refl, ap, ◌∙◌, arith, length, take, drop, min, slice_index_or}
use Rattle.std.proofs.lemmas.List.{take_min, drop_min}
use Rattle.std.proofs.lemmas.List.{length-append}
use Rattle.std.proofs.lemmas.List.Elements.{All-pop}
use Rattle.std.specs.Option.{option_to_list}
use Rattle.crl_pieces.specs.declared.TheConstants.{PIECE_LEN}
use Rattle.crl_protocol.specs.Places.{take_out}
use Rattle.crl_outbox.specs.Stacks.{IsStack}

pub took : {A : Type 0} (xs : List A) (i : ℕ) (x : A) → x ≡ slice_index_or xs i x → i < length xs → take_out i xs ≡ Some (record { taken = x; rest = take i xs ++ drop (suc i) xs })
took [] i x e h = grind arith
took (y ∷ ys) zero x e h = grind arith
took (y ∷ ys) (suc i) x e h =
    let j = took ys i x e (omega arith) in
    rw j refl

module _ (xs : List ℕ) (n k : ℕ) (at_most : k ≡ min (length xs) n) where
  turned : k ≡ min n (length xs)
  turned = omega (arith, at_most)

  pub take_at_most : take k xs ≡ take n xs
  take_at_most = ap (λ j. take j xs) turned ∙ take_min n xs

  pub drop_at_most : drop k xs ≡ drop n xs
  drop_at_most = ap (λ j. drop j xs) turned ∙ drop_min n xs

-- a sheet less
pub fewer_sheets : (size n i sheet : ℕ) (sheets rest : List ℕ) (r : Option ℕ) → i < n → sheets ≡ rest ++ option_to_list r → r ≡ Some sheet → IsStack size (n - i) sheets → IsStack size (n - (i + 1)) rest
fewer_sheets size n i sheet sheets rest r below split is h =
    let all : sheets ≡ rest ++ sheet ∷ [] = rw is at split in
    (omega (arith, h.0, ap length all, length-append rest (sheet ∷ [])), (All-pop (λ s. min size PIECE_LEN ≤ s) sheets rest r split h.1).0)
