-- Bytes that travel in pieces: cut, gathered in any order, joined.
use Rattle.std.specs.Prelude.{ℕ, zero, suc, ◌+◌, ◌-◌, ◌*◌, ◌/◌, Bool, true, false, if◌then◌else◌, List, [], ◌∷◌, ◌++◌, length, take, drop, replicate, min}
use Rattle.std.specs.declared.option.Option.{Option}
use Rattle.std.specs.declared.option.Option.TheVariants.{None, Some}
use Rattle.crl_pieces.specs.declared.TheConstants.{PIECE_LEN}

-- how many pieces so many bytes have, from 1, and how long each of them is
abbrev pub count : ℕ → ℕ
count size = (size - 1) / PIECE_LEN + 1

abbrev pub piece_size : ℕ → ℕ → ℕ
piece_size size index = min PIECE_LEN (size - index * PIECE_LEN)

-- bytes cut into so many pieces
abbrev pub cut_in : ℕ → List ℕ → List (List ℕ)
cut_in zero bytes = []
cut_in (suc n) bytes = take PIECE_LEN bytes ∷ cut_in n (drop PIECE_LEN bytes)

unfoldable pub cut : List ℕ → List (List ℕ)
cut bytes = cut_in (count (length bytes)) bytes

abbrev pub join : List (List ℕ) → List ℕ
join [] = []
join (part ∷ parts) = part ++ join parts

-- The pieces that came, by index.
abbrev pub nothing_came : ℕ → List (Option (List ℕ))
nothing_came n = replicate n None

-- the piece is one of these, and didn't come
abbrev pub is_missing : ℕ → List (Option (List ℕ)) → Bool
is_missing i [] = false
is_missing zero (None ∷ slots) = true
is_missing zero (Some part ∷ slots) = false
is_missing (suc i) (s ∷ slots) = is_missing i slots

abbrev pub with_piece : ℕ → List ℕ → List (Option (List ℕ)) → List (Option (List ℕ))
with_piece i part [] = []
with_piece zero part (s ∷ slots) = Some part ∷ slots
with_piece (suc i) part (s ∷ slots) = s ∷ with_piece i part slots

abbrev pub is_complete : List (Option (List ℕ)) → Bool
is_complete [] = true
is_complete (None ∷ slots) = false
is_complete (Some part ∷ slots) = is_complete slots

abbrev pub joined : List (Option (List ℕ)) → List ℕ
joined [] = []
joined (None ∷ slots) = joined slots
joined (Some part ∷ slots) = part ++ joined slots

-- Bytes on their way: each piece, and whether it came.
pub record Cell : Type 0 where
  pub part : List ℕ
  pub came : Bool

abbrev pub fresh : List (List ℕ) → List Cell
fresh [] = []
fresh (part ∷ parts) = record { part = part; came = false } ∷ fresh parts

abbrev pub parts_of : List Cell → List (List ℕ)
parts_of [] = []
parts_of (c ∷ cells) = c.part ∷ parts_of cells

abbrev pub slots : List Cell → List (Option (List ℕ))
slots [] = []
slots (c ∷ cells) = (if c.came then Some c.part else None) ∷ slots cells

-- those that didn't come yet, as f makes them of their index and bytes
abbrev pub left_from : {P : Type 0} → (ℕ → List ℕ → P) → ℕ → List Cell → List P
left_from f k [] = []
left_from f k (c ∷ cells) = if c.came then left_from f (k + 1) cells else f k c.part ∷ left_from f (k + 1) cells

abbrev pub has_come : List Cell → Bool
has_come [] = false
has_come (c ∷ cells) = if c.came then true else has_come cells

-- the piece at a place comes
abbrev pub comes_at : ℕ → List Cell → List Cell
comes_at i [] = []
comes_at zero (c ∷ cells) = record c { came = true } ∷ cells
comes_at (suc i) (c ∷ cells) = c ∷ comes_at i cells

-- pieces that come one after the other, each once
pub data Came : List Cell → List ℕ → List Cell → Type 0 where
  none_yet : {cells : List Cell} → Came cells [] cells
  one_more : {cells after : List Cell} {order : List ℕ} (i : ℕ) → Came (comes_at i cells) order after → Came cells (i ∷ order) after
