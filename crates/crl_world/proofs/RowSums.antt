-- Rows of choices: how many there are up to a node, and which stands at a place.
use Rattle.std.proofs.Common.{◌≡◌, ℕ, zero, suc, ◌+◌, ◌-◌, ◌*◌, ◌^◌, ◌<◌, ◌≤◌, Bool, List, [], ◌∷◌, ◌++◌, length, refl, ap, ap₂, sym, ◌∙◌, subst, arith, Some, length-append, append_assoc, append-nil, add-zero, zero-add}
use Rattle.std.specs.Prelude.{slice_get}
use Rattle.crl_model.specs.declared.choice.Choice.{Choice}
use Rattle.crl_model.specs.declared.choice.Choice.TheVariants as choice
use Rattle.crl_protocol.specs.Parcels.{Piece}
use Rattle.crl_protocol.specs.Chosen.{handles_of, carries_of}
use Rattle.crl_protocol.specs.World.{World}
use Rattle.crl_world.specs.Choosing.{choices_in, row_from, row_of, AreCounts}
use Rattle.crl_world.specs.declared.rows.Rows.TheVariants.{Nexts, Inboxes, Outboxes}

pub handles_long : (i p : ℕ) (ms : List Piece) → length (handles_of i p ms) ≡ length ms
handles_long i p [] = refl
handles_long i p (m ∷ ms) = ap suc (handles_long i (p + 1) ms)

pub carries_long : (i p : ℕ) (ms : List Piece) → length (carries_of i p ms) ≡ length ms
carries_long i p [] = refl
carries_long i p (m ∷ ms) = ap suc (carries_long i (p + 1) ms)

pub handle_at : (i p k : ℕ) (ms : List Piece) → k < length (handles_of i p ms) → slice_get (handles_of i p ms) k ≡ Some (choice.Handle i (p + k))
handle_at i p k [] lt = absurd (omega arith)
handle_at i p zero (m ∷ ms) lt = ap (λ q. Some (choice.Handle i q)) (sym (add-zero p))
handle_at i p (suc k) (m ∷ ms) lt = let same : (p + 1) + k ≡ p + suc k = omega arith in handle_at i (p + 1) k ms (omega arith) ∙ ap (λ q. Some (choice.Handle i q)) same

pub carry_at : (i p k : ℕ) (ms : List Piece) → k < length (carries_of i p ms) → slice_get (carries_of i p ms) k ≡ Some (choice.Carry i (p + k))
carry_at i p k [] lt = absurd (omega arith)
carry_at i p zero (m ∷ ms) lt = ap (λ q. Some (choice.Carry i q)) (sym (add-zero p))
carry_at i p (suc k) (m ∷ ms) lt = let same : (p + 1) + k ≡ p + suc k = omega arith in carry_at i (p + 1) k ms (omega arith) ∙ ap (λ q. Some (choice.Carry i q)) same

get_left : {A : Type 0} (xs ys : List A) (k : ℕ) → k < length xs → slice_get (xs ++ ys) k ≡ slice_get xs k
get_left [] ys k lt = absurd (omega arith)
get_left (x ∷ xs) ys zero lt = refl
get_left (x ∷ xs) ys (suc k) lt = get_left xs ys k (omega arith)

get_right : {A : Type 0} (xs ys : List A) (k j : ℕ) → j ≡ length xs + k → slice_get (xs ++ ys) j ≡ slice_get ys k
get_right [] ys k j e = let same : j ≡ k = omega arith in ap (slice_get ys) same
get_right (x ∷ xs) ys k zero e = absurd (omega arith)
get_right (x ∷ xs) ys k (suc j) e = get_right xs ys k j (omega arith)

some_left : {A : Type 0} (xs ys : List A) (k : ℕ) (x : A) → slice_get xs k ≡ Some x → slice_get (xs ++ ys) k ≡ Some x
some_left [] ys k x e = cc
some_left (y ∷ xs) ys zero x e = e
some_left (y ∷ xs) ys (suc k) x e = some_left xs ys k x e

-- one node more
row_more : (f : ℕ → List Choice) (p m : ℕ) → row_from f p (suc m) ≡ row_from f p m ++ f (p + m)
row_more f p zero = append-nil (f p) ∙ ap f (sym (add-zero p))
row_more f p (suc m) =
    let same : (p + 1) + m ≡ p + suc m = omega arith in
    ap (λ l. f p ++ l) (row_more f (p + 1) m ∙ ap (λ q. row_from f (p + 1) m ++ f q) same) ∙ sym (append_assoc (f p) (row_from f (p + 1) m) (f (p + suc m)))

pub sum_more : (f : ℕ → List Choice) (i sum here : ℕ) → sum ≡ length (row_from f 0 i) → here ≡ length (f i) → sum + here ≡ length (row_from f 0 (i + 1))
sum_more f i sum here is at =
    let next : suc i ≡ i + 1 = omega arith in
    ap₂ (λ a b. a + b) is (at ∙ ap (λ k. length (f k)) (sym (zero-add i))) ∙ sym (length-append (row_from f 0 i) (f (0 + i))) ∙ sym (ap length (row_more f 0 i)) ∙ ap (λ k. length (row_from f 0 k)) next

-- the choice at a place of one node stands in the row
row_at : (f : ℕ → List Choice) (p m n k : ℕ) → m < n → k < length (f (p + m)) → slice_get (row_from f p n) (length (row_from f p m) + k) ≡ slice_get (f (p + m)) k
row_at f p m zero k lt there = absurd (omega arith)
row_at f p zero (suc n) k lt there =
    let same : 0 + k ≡ k = zero-add k in
    ap (slice_get (f p ++ row_from f (p + 1) n)) same ∙ get_left (f p) (row_from f (p + 1) n) k (subst (λ q. k < length (f q)) (add-zero p) there) ∙ ap (λ q. slice_get (f q) k) (sym (add-zero p))
row_at f p (suc m) (suc n) k lt there =
    let same : (p + 1) + m ≡ p + suc m = omega arith in
    let below : m < n = omega arith in
    get_right (f p) (row_from f (p + 1) n) (length (row_from f (p + 1) m) + k) _
    (ap (λ q. q + k) (length-append (f p) (row_from f (p + 1) m)) ∙ sym (add_assoc_other (length (f p)) (length (row_from f (p + 1) m)) k))
    ∙ row_at f (p + 1) m n k below (subst (λ q. k < length (f q)) (sym same) there) ∙ ap (λ q. slice_get (f q) k) same
  where
    add_assoc_other : (a b c : ℕ) → a + (b + c) ≡ (a + b) + c
    add_assoc_other a b c = omega arith

pub row_found : (f : ℕ → List Choice) (i n k rest : ℕ) (x : Choice) → i < n → k ≡ length (row_from f 0 i) + rest → rest < length (f i) → slice_get (f i) rest ≡ Some x → slice_get (row_from f 0 n) k ≡ Some x
row_found f i n k rest x lt is there found =
    let same : i ≡ 0 + i = sym (zero-add i) in
    ap (slice_get (row_from f 0 n)) is ∙ row_at f 0 i n rest lt (subst (λ q. rest < length (f q)) same there) ∙ ap (λ q. slice_get (f q) rest) (zero-add i) ∙ found

pub rest_more : (f : ℕ → List Choice) (i k rest here : ℕ) → k ≡ length (row_from f 0 i) + rest → here ≡ length (f i) → here ≤ rest → k ≡ length (row_from f 0 (i + 1)) + (rest - here)
rest_more f i k rest here is at fits =
    let more = sum_more f i (length (row_from f 0 i)) here refl at in
    let value : k ≡ (length (row_from f 0 i) + here) + (rest - here) = omega arith in
    value ∙ ap (λ s. s + (rest - here)) more

-- three rows, one behind the other
pub found_first : (xs ys zs : List Choice) (k : ℕ) (x : Choice) → slice_get xs k ≡ Some x → slice_get (xs ++ (ys ++ zs)) k ≡ Some x
found_first xs ys zs k x e = some_left xs (ys ++ zs) k x e

pub found_second : (xs ys zs : List Choice) (k rest : ℕ) (x : Choice) → k ≡ length xs + rest → slice_get ys rest ≡ Some x → slice_get (xs ++ (ys ++ zs)) k ≡ Some x
found_second xs ys zs k rest x is e = get_right xs (ys ++ zs) rest k is ∙ some_left ys zs rest x e

pub found_third : (xs ys zs : List Choice) (k rest more : ℕ) (x : Choice) → k ≡ length xs + rest → rest ≡ length ys + more → slice_get zs more ≡ Some x → slice_get (xs ++ (ys ++ zs)) k ≡ Some x
found_third xs ys zs k rest more x is then e = get_right xs (ys ++ zs) rest k is ∙ get_right ys zs more rest then ∙ e

pub three_long : (xs ys zs : List Choice) → length (xs ++ (ys ++ zs)) ≡ (length xs + length ys) + length zs
three_long xs ys zs = length-append xs (ys ++ zs) ∙ ap (λ n. length xs + n) (length-append ys zs) ∙ assoc (length xs) (length ys) (length zs)
  where
    assoc : (a b c : ℕ) → a + (b + c) ≡ (a + b) + c
    assoc a b c = omega arith

-- the sums of the three rows, up to a node
pub record SumsTo (left : ℕ → Bool) (w : World) (i nexts inboxes outboxes : ℕ) : Type 0 where
  pub first : nexts ≡ length (row_from (choices_in Nexts left w) 0 i)
  pub second : inboxes ≡ length (row_from (choices_in Inboxes left w) 0 i)
  pub third : outboxes ≡ length (row_from (choices_in Outboxes left w) 0 i)
  pub few_first : nexts ≤ i * 2 ^ 64
  pub few_second : inboxes ≤ i * 2 ^ 64
  pub few_third : outboxes ≤ i * 2 ^ 64

pub no_sums : (left : ℕ → Bool) (w : World) → SumsTo left w 0 0 0 0
no_sums left w = record { first = refl; second = refl; third = refl; few_first = omega arith; few_second = omega arith; few_third = omega arith }

pub more_sums : (left : ℕ → Bool) (w : World) (i nexts inboxes outboxes a b c : ℕ) → SumsTo left w i nexts inboxes outboxes
    → a ≡ length (choices_in Nexts left w i) → b ≡ length (choices_in Inboxes left w i) → c ≡ length (choices_in Outboxes left w i)
    → a < 2 ^ 64 → b < 2 ^ 64 → c < 2 ^ 64 → SumsTo left w (i + 1) (nexts + a) (inboxes + b) (outboxes + c)
more_sums left w i nexts inboxes outboxes a b c s is_a is_b is_c few_a few_b few_c = record {
  first = sum_more (choices_in Nexts left w) i nexts a s.first is_a;
  second = sum_more (choices_in Inboxes left w) i inboxes b s.second is_b;
  third = sum_more (choices_in Outboxes left w) i outboxes c s.third is_c;
  few_first = omega (arith, s.few_first, few_a);
  few_second = omega (arith, s.few_second, few_b);
  few_third = omega (arith, s.few_third, few_c);
}

pub all_sums : (left : ℕ → Bool) (w : World) (i nexts inboxes outboxes : ℕ) → SumsTo left w i nexts inboxes outboxes → i ≡ w.count
    → AreCounts left w (record { nexts = nexts; with_inboxes = nexts + inboxes; all = (nexts + inboxes) + outboxes })
all_sums left w i nexts inboxes outboxes s e =
    let first = s.first ∙ ap (λ n. length (row_from (choices_in Nexts left w) 0 n)) e in
    let second = s.second ∙ ap (λ n. length (row_from (choices_in Inboxes left w) 0 n)) e in
    let third = s.third ∙ ap (λ n. length (row_from (choices_in Outboxes left w) 0 n)) e in
    record {
      nexts = first;
      inboxes = ap₂ (λ a b. a + b) first second;
      all = ap₂ (λ a b. a + b) (ap₂ (λ a b. a + b) first second) third ∙ sym (three_long (row_of Nexts left w) (row_of Inboxes left w) (row_of Outboxes left w));
    }
