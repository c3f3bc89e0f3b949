-- The values that were read, and those of the items to come.
use Rattle.std.proofs.Common.{◌≡◌, ◌≤◌, ◌<◌, ◌+◌, ◌-◌, ◌++◌, ◌∙◌, ℕ, List, [], ◌∷◌, length, replicate, get_or, nat_le, cond, true, false, Option, Some, None, refl, sym, ap, ap₂, arith, add-one, append_assoc, append-nil, length-append, Bor, map, take, drop}
use Rattle.std.specs.Prelude.{option_map}
use Rattle.std.proofs.Math.Seq.{drop-cons}
use Rattle.std.proofs.lemmas.List.{drop_all, take_all}
use Rattle.std.proofs.lemmas.Bool.Decides.{nat_tests}
use Rattle.crl_commands.specs.Picks.{joined, all_values, values_of, item_of, within_limit}

abbrev pub texts_of : List (Bor (List ℕ)) → List (List ℕ)
texts_of = map (λ x. x.now)

-- the text at i
abbrev blank : Bor (List ℕ)
blank = record { ref_ptr = (0, 0); now = [] }

abbrev pub text_at : List (Bor (List ℕ)) → ℕ → List ℕ
text_at items i = (get_or items i blank).now

-- nothing was read
pub read_nothing : (o : Option (List ℕ)) → joined (Some []) o ≡ o
read_nothing None = refl
read_nothing (Some values) = refl

read_more : (front : List ℕ) (o rest : Option (List ℕ)) (values : List ℕ) → o ≡ Some values → joined (Some front) (joined o rest) ≡ joined (Some (front ++ values)) rest
read_more front o rest values e = ap (λ x. joined (Some front) (joined x rest)) e ∙ go rest
  where
    go : (rest : Option (List ℕ)) → joined (Some front) (joined (Some values) rest) ≡ joined (Some (front ++ values)) rest
    go None = refl
    go (Some more) = ap (λ (x : List ℕ). Some x) (sym (append_assoc front values more))

-- the item at i, and those behind it
at_item : (items : List (Bor (List ℕ))) (i : ℕ) → i < length items → drop i items ≡ get_or items i blank ∷ drop (i + 1) items
at_item items i h = rw add-one (drop-cons items i blank h)

-- one more item was read
pub read_item : (items : List (Bor (List ℕ))) (i : ℕ) (front : List ℕ) (value times : ℕ) → i < length items → item_of (text_at items i) ≡ Some (value, times)
    → joined (Some front) (all_values (texts_of (drop i items))) ≡ joined (Some (front ++ replicate times value)) (all_values (texts_of (drop (i + 1) items)))
read_item items i front value times h is =
    ap (λ xs. joined (Some front) (all_values (texts_of xs))) (at_item items i h)
    ∙ read_more front (values_of (text_at items i)) (all_values (texts_of (drop (i + 1) items))) (replicate times value) (ap (option_map (λ (p : ℕ × ℕ). replicate p.1 p.0)) is)

-- an item that is none was read
pub read_none : (items : List (Bor (List ℕ))) (i : ℕ) (front : List ℕ) → i < length items → item_of (text_at items i) ≡ None
    → within_limit (joined (Some front) (all_values (texts_of (drop i items)))) ≡ None
read_none items i front h is =
    ap (λ xs. within_limit (joined (Some front) (all_values (texts_of xs)))) (at_item items i h)
    ∙ ap (λ o. within_limit (joined (Some front) (joined (option_map (λ (p : ℕ × ℕ). replicate p.1 p.0) o) (all_values (texts_of (drop (i + 1) items)))))) is

-- the list grew by values that are alike
pub grown : (old new : List ℕ) (n m times value : ℕ) → n ≡ m → m ≡ length old → new ≡ take (n + times) old ++ replicate ((n + times) - m) value → new ≡ old ++ replicate times value
grown old new n m times value e f h =
    let short : length old ≤ n + times = omega arith in
    let rest : (n + times) - m ≡ times = omega arith in
    h ∙ ap₂ (λ (front : List ℕ) k. front ++ replicate k value) (take_all (n + times) old short) rest

-- all items were read
pub read_all : (items : List (Bor (List ℕ))) (i : ℕ) (values : List ℕ) → length items ≤ i → length values ≤ 1000000 → within_limit (joined (Some values) (all_values (texts_of (drop i items)))) ≡ Some values
read_all items i values h few =
    ap (λ xs. within_limit (joined (Some values) (all_values (texts_of xs)))) (drop_all i items h)
    ∙ (ap (λ (xs : List ℕ). within_limit (Some xs)) (append-nil values) ∙ ap (λ b. cond b (Some values) None) (within values few))
  where
    within : (values : List ℕ) → length values ≤ 1000000 → nat_le (length values) 1000000 ≡ true
    within values few = grind (arith, nat_tests)

-- too many values
pub too_many : (values : List ℕ) (rest : Option (List ℕ)) → 1000000 < length values → within_limit (joined (Some values) rest) ≡ None
too_many values None h = refl
too_many values (Some more) h = ap (λ b. cond b (Some (values ++ more)) None) (beyond (length (values ++ more)) (omega (arith, length-append {A = ℕ})))
  where
    beyond : (n : ℕ) → 1000000 < n → nat_le n 1000000 ≡ false
    beyond n h = grind (arith, nat_tests)
