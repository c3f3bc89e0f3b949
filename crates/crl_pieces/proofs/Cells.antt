-- Pieces that come: what is left, and what the gathering has.
use Rattle.std.proofs.Common.{◌≡◌, ℕ, zero, suc, ◌+◌, Bool, true, false, None, Some, List, [], ◌∷◌, ◌++◌, length, get_or, if◌then◌else◌, refl, sym, ap, ◌∙◌}
use Rattle.crl_pieces.specs.Pieces.{cut, join, nothing_came, is_missing, with_piece, is_complete, joined, Cell, fresh, parts_of, slots, left_from, has_come, comes_at, Came, none_yet, one_more}
use Rattle.crl_pieces.specs.Gathering.{with_pieces, gathered}
use Rattle.crl_pieces.proofs.Cut.{join_cut, length_cut}

pub parts_fresh : (parts : List (List ℕ)) → parts_of (fresh parts) ≡ parts
parts_fresh [] = refl
parts_fresh (part ∷ parts) = ap (λ ps. part ∷ ps) (parts_fresh parts)

pub slots_fresh : (parts : List (List ℕ)) → slots (fresh parts) ≡ nothing_came (length parts)
slots_fresh [] = refl
slots_fresh (part ∷ parts) = ap (λ ss. None ∷ ss) (slots_fresh parts)

pub fresh_came : (parts : List (List ℕ)) → has_come (fresh parts) ≡ false
fresh_came [] = refl
fresh_came (part ∷ parts) = fresh_came parts

pub length_cells : (cells : List Cell) → length (parts_of cells) ≡ length cells
length_cells [] = refl
length_cells (c ∷ cells) = ap suc (length_cells cells)

-- where none came, the gathering is empty
pub slots_none : (cells : List Cell) → has_come cells ≡ false → slots cells ≡ nothing_came (length cells)
slots_none [] e = refl
slots_none (c ∷ cells) e = go c.came e (λ f. slots_none cells f)
  where
    go : (b : Bool) → (if b then true else has_come cells) ≡ false → (has_come cells ≡ false → slots cells ≡ nothing_came (length cells)) → (if b then Some c.part else None) ∷ slots cells ≡ nothing_came (length (c ∷ cells))
    go true f r = cc
    go false f r = ap (λ ss. None ∷ ss) (r f)

-- where none is missing, the joined pieces are the whole
pub complete_joins : (cells : List Cell) → is_complete (slots cells) ≡ true → joined (slots cells) ≡ join (parts_of cells)
complete_joins [] e = refl
complete_joins (c ∷ cells) e = go c.came e (λ f. complete_joins cells f)
  where
    go : (b : Bool) → is_complete ((if b then Some c.part else None) ∷ slots cells) ≡ true → (is_complete (slots cells) ≡ true → joined (slots cells) ≡ join (parts_of cells))
        → joined ((if b then Some c.part else None) ∷ slots cells) ≡ c.part ++ join (parts_of cells)
    go true f r = ap (λ bs. c.part ++ bs) (r f)
    go false f r = cc

-- where none is missing nothing is left, and the other way round
pub complete_left : {P : Type 0} (f : ℕ → List ℕ → P) (k : ℕ) (cells : List Cell) → is_complete (slots cells) ≡ true → left_from f k cells ≡ []
complete_left f k [] e = refl
complete_left {P} f k (c ∷ cells) e = go c.came e (λ w. complete_left f (k + 1) cells w)
  where
    go : (b : Bool) → is_complete ((if b then Some c.part else None) ∷ slots cells) ≡ true → (is_complete (slots cells) ≡ true → left_from f (k + 1) cells ≡ [])
        → ◌≡◌ {A = List P} (if b then left_from f (k + 1) cells else f k c.part ∷ left_from f (k + 1) cells) []
    go true w r = r w
    go false w r = cc

pub left_complete : {P : Type 0} (f : ℕ → List ℕ → P) (k : ℕ) (cells : List Cell) → left_from f k cells ≡ [] → is_complete (slots cells) ≡ true
left_complete f k [] e = refl
left_complete {P} f k (c ∷ cells) e = go c.came e (λ w. left_complete f (k + 1) cells w)
  where
    go : (b : Bool) → ◌≡◌ {A = List P} (if b then left_from f (k + 1) cells else f k c.part ∷ left_from f (k + 1) cells) [] → (left_from f (k + 1) cells ≡ [] → is_complete (slots cells) ≡ true)
        → is_complete ((if b then Some c.part else None) ∷ slots cells) ≡ true
    go true w r = r w
    go false w r = cc

-- A piece comes at a place where it is missing.
pub parts_came : (i : ℕ) (cells : List Cell) → parts_of (comes_at i cells) ≡ parts_of cells
parts_came i [] = refl
parts_came zero (c ∷ cells) = refl
parts_came (suc i) (c ∷ cells) = ap (λ ps. c.part ∷ ps) (parts_came i cells)

abbrev pub part_at : ℕ → List (List ℕ) → List ℕ
part_at i [] = []
part_at zero (part ∷ parts) = part
part_at (suc i) (part ∷ parts) = part_at i parts

pub slots_came : (i : ℕ) (cells : List Cell) → slots (comes_at i cells) ≡ with_piece i (part_at i (parts_of cells)) (slots cells)
slots_came i [] = refl
slots_came zero (c ∷ cells) = refl
slots_came (suc i) (c ∷ cells) = ap (λ ss. (if c.came then Some c.part else None) ∷ ss) (slots_came i cells)

pub came_one : (i : ℕ) (cells : List Cell) → is_missing i (slots cells) ≡ true → has_come (comes_at i cells) ≡ true
came_one i [] e = cc
came_one zero (c ∷ cells) e = refl
came_one (suc i) (c ∷ cells) e = go c.came (came_one i cells e)
  where
    go : (b : Bool) → has_come (comes_at i cells) ≡ true → (if b then true else has_come (comes_at i cells)) ≡ true
    go true r = refl
    go false r = r

-- In whatever order the pieces come: where none is missing any more, the joined pieces are the whole.
pub parts_in_order : {cells after : List Cell} {order : List ℕ} → Came cells order after → parts_of after ≡ parts_of cells
parts_in_order none_yet = refl
parts_in_order (one_more {cells = cells} i c) = parts_in_order c ∙ parts_came i cells

pub any_order : (bytes : List ℕ) (order : List ℕ) (after : List Cell) → Came (fresh (cut bytes)) order after → is_complete (slots after) ≡ true → joined (slots after) ≡ bytes
any_order bytes order after c e = complete_joins after e ∙ ap join (parts_in_order c ∙ parts_fresh (cut bytes)) ∙ join_cut bytes

part_at_is : (i : ℕ) (parts : List (List ℕ)) → part_at i parts ≡ get_or parts i []
part_at_is i [] = refl
part_at_is zero (part ∷ parts) = refl
part_at_is (suc i) (part ∷ parts) = part_at_is i parts

-- pieces put into slots, whatever their order
abbrev came_all : List ℕ → List Cell → List Cell
came_all [] cells = cells
came_all (i ∷ order) cells = came_all order (comes_at i cells)

all_come : (order : List ℕ) (cells : List Cell) → Came cells order (came_all order cells)
all_come [] cells = none_yet
all_come (i ∷ order) cells = one_more i (all_come order (comes_at i cells))

slots_came_all : (order : List ℕ) (cells : List Cell) → slots (came_all order cells) ≡ with_pieces (parts_of cells) order (slots cells)
slots_came_all [] cells = refl
slots_came_all (i ∷ order) cells =
    slots_came_all order (comes_at i cells) ∙ ap (λ parts. with_pieces parts order (slots (comes_at i cells))) (parts_came i cells)
    ∙ ap (with_pieces (parts_of cells) order) (slots_came i cells ∙ ap (λ part. with_piece i part (slots cells)) (part_at_is i (parts_of cells)))

pub gathered_is : (bytes : List ℕ) (order : List ℕ) → is_complete (gathered bytes order) ≡ true → joined (gathered bytes order) ≡ bytes
gathered_is bytes order e =
    let after = came_all order (fresh (cut bytes)) in
    let same : slots after ≡ gathered bytes order =
    slots_came_all order (fresh (cut bytes)) ∙ ap (λ parts. with_pieces parts order (slots (fresh (cut bytes)))) (parts_fresh (cut bytes))
    ∙ ap (with_pieces (cut bytes) order) (slots_fresh (cut bytes) ∙ ap nothing_came (length_cut bytes)) in
    sym (ap joined same) ∙ any_order bytes order after (all_come order (fresh (cut bytes))) (ap is_complete same ∙ e)
