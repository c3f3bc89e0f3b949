-- The parts of a text round a byte, and its lines, cut off one by one.
use Rattle.std.proofs.Common.{◌≡◌, ℕ, zero, suc, ◌+◌, ◌-◌, ◌<◌, Bool, true, false, cond, eqb, List, [], ◌∷◌, length, take, drop, get_or, None, refl, sym, ap, ◌∙◌, arith, add-one, eq-eqb}
use Rattle.std.specs.List.{onto_first, join_with_byte}
use Rattle.std.proofs.lemmas.Bool.{ne_eqb}
use Rattle.std.proofs.lemmas.List.{take_all, nil_from_length, length-take, length-drop}
use Rattle.std.proofs.lemmas.List.Splits.{join_with_byte-slice_split}
use Rattle.crl_account.specs.Parts.{parts}
use Rattle.crl_account.specs.Account.{without_empty_end, lines_of}
use Rattle.crl_account_reader.specs.Reading.{nothing, only}

-- a function that is the same at all lists with an element is so at the parts, of which there is one at least
at_parts : {B : Type 0} (f : List (List ℕ) → B) (y : B) (separator : ℕ) (text : List ℕ) → ((w : List ℕ) (ws : List (List ℕ)) → f (w ∷ ws) ≡ y) → f (parts separator text) ≡ y
at_parts f y separator [] h = h [] []
at_parts {B} f y separator (b ∷ bs) h = go (eqb b separator) (parts separator bs) where
  go : (test : Bool) (others : List (List ℕ)) → f (cond test ([] ∷ others) (onto_first b others)) ≡ y
  go true others = h [] others
  go false [] = h (b ∷ []) []
  go false (part ∷ others) = h (b ∷ part) others

pub nothing_of_parts : (separator : ℕ) (text : List ℕ) → nothing (parts separator text) ≡ None
nothing_of_parts separator text = at_parts nothing None separator text (λ w ws. refl)

pub only_of_parts : (first : List ℕ) (separator : ℕ) (text : List ℕ) → only (first ∷ parts separator text) ≡ None
only_of_parts first separator text = at_parts (λ ws. only (first ∷ ws)) None separator text (λ w ws. refl)

-- the first part ends where the byte is met first
pub parts_at : (separator : ℕ) (text : List ℕ) (i : ℕ) → i < length text → get_or text i 0 ≡ separator → ((k : ℕ) → k < i → get_or text k 0 ≡ separator → ⊥)
    → parts separator text ≡ take i text ∷ parts separator (drop (suc i) text)
parts_at separator [] i lt at before = absurd (omega arith)
parts_at separator (b ∷ bs) zero lt at before = let e : eqb b separator ≡ true = eq-eqb b separator at in rw e refl
parts_at separator (b ∷ bs) (suc i) lt at before =
    let e : eqb b separator ≡ false = ne_eqb b separator (before 0 (omega arith)) in
    let more : parts separator bs ≡ take i bs ∷ parts separator (drop (suc i) bs) = parts_at separator bs i (omega arith) at (λ k h. before (suc k) (omega arith)) in
    rw (e, more) refl

pub parts_none : (separator : ℕ) (text : List ℕ) → ((k : ℕ) → k < length text → get_or text k 0 ≡ separator → ⊥) → parts separator text ≡ text ∷ []
parts_none separator [] before = refl
parts_none separator (b ∷ bs) before =
    let e : eqb b separator ≡ false = ne_eqb b separator (before 0 (omega arith)) in
    let more : parts separator bs ≡ bs ∷ [] = parts_none separator bs (λ k h. before (suc k) (omega arith)) in
    rw (e, more) refl

-- the parts behind the byte, as a slice of what follows it
pub parts_behind : (separator : ℕ) (text : List ℕ) (i : ℕ) → parts separator (take (length text - (i + 1)) (drop (i + 1) text)) ≡ parts separator (drop (suc i) text)
parts_behind separator text i =
    let all : take (length text - (i + 1)) (drop (i + 1) text) ≡ drop (i + 1) text = take_all (length text - (i + 1)) (drop (i + 1) text) (omega (arith, length-drop (i + 1) text)) in
    rw (all, add-one) refl

-- ---- lines

-- with no line feed there is one line
pub lines_last : (text line : List ℕ) → 0 < length text → parts 10 text ≡ line ∷ [] → lines_of text ≡ line ∷ []
lines_last text line some e = go line e (sym (join_with_byte-slice_split 10 text) ∙ ap (join_with_byte 10) e) where
  go : (w : List ℕ) → parts 10 text ≡ w ∷ [] → text ≡ w → lines_of text ≡ w ∷ []
  go [] p same = let none : length text ≡ 0 = ap length same in absurd (omega arith)
  go (b ∷ bs) p same = ap without_empty_end p

pub nothing_left : (text : List ℕ) → take (length text - length text) (drop (length text) text) ≡ []
nothing_left text = nil_from_length (take (length text - length text) (drop (length text) text)) (omega (arith, length-take (length text - length text) (drop (length text) text)))
