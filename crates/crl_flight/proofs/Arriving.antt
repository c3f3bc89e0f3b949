-- A piece of one message comes.
use Rattle.std.proofs.Common.{◌≡◌, ℕ, zero, suc, ◌+◌, Bool, true, false, List, [], ◌∷◌, length, if◌then◌else◌, refl, ap, ◌∙◌, arith}
use Rattle.crl_protocol.specs.Places.{Took, here, there}
use Rattle.crl_pieces.specs.Pieces.{piece_size, is_missing, Cell, parts_of, slots, left_from, comes_at}
use Rattle.crl_pieces.proofs.Laws.{HaveSizes}
use Rattle.crl_pieces.proofs.Laws.{part_at}

pub record Arrived {P : Type 0} (f : ℕ → List ℕ → P) (k : ℕ) (cells : List Cell) (p : P) (rest : List P) : Type 0 where
  pub place : ℕ
  pub is : p ≡ f (k + place) (part_at place (parts_of cells))
  pub left : rest ≡ left_from f k (comes_at place cells)
  pub missing : is_missing place (slots cells) ≡ true

abbrev if_came : Cell → Bool → Cell
if_came c b = record { part = c.part; came = b }

arrived_later : {P : Type 0} (f : ℕ → List ℕ → P) (k : ℕ) (c : Cell) (cells : List Cell) (p : P) (rest : List P) (b : Bool) → Arrived f (k + 1) cells p rest
    → Arrived f k (if_came c b ∷ cells) p (if b then rest else f k c.part ∷ rest)
arrived_later f k c cells p rest true a = record { place = suc a.place; is = a.is ∙ ap (λ j. f j (part_at a.place (parts_of cells))) (omega arith); left = a.left; missing = a.missing }
arrived_later f k c cells p rest false a = record { place = suc a.place; is = a.is ∙ ap (λ j. f j (part_at a.place (parts_of cells))) (omega arith); left = ap (λ l. f k c.part ∷ l) a.left; missing = a.missing }

pub arrived : {P : Type 0} (f : ℕ → List ℕ → P) (k : ℕ) (cells : List Cell) (p : P) (rest : List P) → Took p (left_from f k cells) rest → Arrived f k cells p rest
arrived f k [] p rest t = elim t [ ]
arrived f k (c ∷ cells) p rest t = go c.came p rest t (λ q r u. arrived f (k + 1) cells q r u)
  where
    go : (b : Bool) (q : _) (r : List _) → Took q (left_from f k (if_came c b ∷ cells)) r → ((x : _) (y : List _) → Took x (left_from f (k + 1) cells) y → Arrived f (k + 1) cells x y) → Arrived f k (if_came c b ∷ cells) q r
    go true q r u more = arrived_later f k c cells q r true (more q r u)
    go false _ _ here more = record { place = 0; is = ap (λ j. f j c.part) (omega arith); left = refl; missing = refl }
    go false q _ (there {ys = r} u) more = arrived_later f k c cells q r false (more q r u)

-- its length is that which the size gives
pub size_at : (size k place : ℕ) (cells : List Cell) → HaveSizes size k (parts_of cells) → is_missing place (slots cells) ≡ true → length (part_at place (parts_of cells)) ≡ piece_size size (k + place)
size_at size k place [] h e = go place e
  where
    go : (i : ℕ) → is_missing i [] ≡ true → length (part_at i []) ≡ piece_size size (k + i)
    go zero e = cc
    go (suc i) e = cc
size_at size k zero (c ∷ cells) h e = h.0 ∙ ap (λ j. piece_size size j) (omega arith)
size_at size k (suc place) (c ∷ cells) h e = size_at size (k + 1) place cells h.1 e ∙ ap (λ j. piece_size size j) (omega arith)

pub length_came : (i : ℕ) (cells : List Cell) → length (comes_at i cells) ≡ length cells
length_came i [] = refl
length_came zero (c ∷ cells) = refl
length_came (suc i) (c ∷ cells) = ap suc (length_came i cells)
