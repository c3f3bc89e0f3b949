-- What a home owes.
use Rattle.std.proofs.Common.{◌≡◌, ℕ, zero, suc, ◌+◌, ◌*◌, ◌<◌, ◌≤◌, List, [], ◌∷◌, ◌++◌, sym, ◌∙◌, arith, ap, length, drop, slice_index_or, slice_set, add-one}
use Rattle.std.proofs.Math.Nat.{mul-suc}
use Rattle.std.specs.declared.option.Option.{Option}
use Rattle.crl_model.specs.declared.directory.Listing.{Listing}
use Rattle.crl_model.specs.declared.directory.Asked.{Asked}
use Rattle.crl_pieces.specs.Pieces.{count}
use Rattle.crl_protocol.specs.Places.{put}
use Rattle.crl_home.specs.Debts.{owed_to_copy, owed_to_copies, ask_debt, owed_to_asks}
use Rattle.crl_home.specs.declared.waiting.Waiting.{Waiting}
use Rattle.crl_home.specs.Fits.{asks_of}
use Rattle.crl_home.specs.Starts.{IsHead, behind_head}

pub asks_owe : (size each number : ℕ) (ws : List Waiting) → each ≡ ask_debt size → number ≡ length ws → each * number ≡ owed_to_asks size (asks_of ws)
asks_owe size each number ws d n = ap (λ k. k * number) d ∙ (ap (λ k. ask_debt size * k) n ∙ go ws)
  where
    go : (ws : List Waiting) → ask_debt size * length ws ≡ owed_to_asks size (asks_of ws)
    go [] = omega arith
    go (w ∷ ws) = let i = go ws in let m = mul-suc (ask_debt size) (length ws) in omega (arith, i, m)

pub joined_owes : (size : ℕ) (q : List Asked) (a : Asked) → owed_to_asks size (q ++ a ∷ []) ≡ owed_to_asks size q + ask_debt size
joined_owes size [] a = omega arith
joined_owes size (x ∷ q) a = let i = joined_owes size q a in omega (arith, i)

pub head_owes : (size : ℕ) (a : Asked) (q : List Asked) → IsHead a q → owed_to_asks size q ≡ owed_to_asks size (behind_head q) + count size + 2
unfolding ask_debt
head_owes size a [] i = elim i [ ]
head_owes size a (x ∷ q) i = omega arith

pub put_owes : (n : ℕ) (c : Option Listing) (l : List (Option Listing)) → owed_to_copies (put n c l) ≤ owed_to_copies l + owed_to_copy c
put_owes zero c [] = omega arith
put_owes (suc n) c [] = let i = put_owes n c [] in omega (arith, i)
put_owes zero c (d ∷ l) = omega arith
put_owes (suc n) c (d ∷ l) = let i = put_owes n c l in omega (arith, i)

pub owed_first : (l : List (Option Listing)) (i : ℕ) (c d : Option Listing) → i < length l → c ≡ slice_index_or l i d → owed_to_copies (drop i l) ≡ owed_to_copy c + owed_to_copies (drop (i + 1) l)
owed_first [] i c d h e = grind arith
owed_first (x ∷ l) zero c d h e = ap (λ k. owed_to_copy k + owed_to_copies l) (sym e)
owed_first (x ∷ l) (suc i) c d h e = let j = owed_first l i c d (omega arith) e in rw add-one (rw add-one at j)

pub set_owes : (l : List (Option Listing)) (i : ℕ) (c d r : Option Listing) → i < length l → c ≡ slice_index_or l i d → owed_to_copies (slice_set l i r) + owed_to_copy c ≡ owed_to_copies l + owed_to_copy r
set_owes [] i c d r h e = grind arith
set_owes (x ∷ l) zero c d r h e = let k = ap owed_to_copy e in omega (arith, k)
set_owes (x ∷ l) (suc i) c d r h e = let j = set_owes l i c d r (omega arith) e in omega (arith, j)
