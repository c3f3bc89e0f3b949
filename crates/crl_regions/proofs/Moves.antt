-- Messages of a list that stand at other places, and the messages of all nodes where one node's change.
use Rattle.std.proofs.Common.{◌≡◌, ℕ, zero, suc, ◌+◌, ◌<◌, List, [], ◌∷◌, ◌++◌, refl, ap, sym, ◌∙◌, subst, append_assoc, arith}
use Rattle.crl_protocol.specs.Parcels.{Piece}
use Rattle.crl_protocol.specs.Places.{Took, here, there}
use Rattle.crl_protocol.specs.Node.{Node}
use Rattle.crl_protocol.specs.World.{boxes_from}
use Rattle.crl_flight.specs.Flight.{Moves, still, moved}
use Rattle.crl_coherence.specs.Region.{Flying, Region, carry, Run, done, next}
use Rattle.crl_deeds.proofs.Laws.{append_nil}
use Rattle.crl_flight.proofs.Laws.{moves_in, moves_behind, took_left, took_right}

took_before : {A : Type 0} (x : A) (xs ys : List A) → Took x (xs ++ x ∷ ys) (xs ++ ys)
took_before x [] ys = here
took_before x (z ∷ xs) ys = there (took_before x xs ys)

-- the parts of a list change places
pub moves_past : {A : Type 0} (xs ys zs : List A) → Moves (xs ++ (ys ++ zs)) (xs ++ (zs ++ ys))
moves_past xs ys [] = subst (λ l. Moves (xs ++ l) (xs ++ ys)) (sym (append_nil ys)) still
moves_past xs ys (z ∷ zs) =
    moves_behind xs (moved z (ys ++ zs) (took_before z ys zs) here (moves_in z (moves_past [] ys zs)))

-- what a selector finds
-- a region's messages change places
pub run_moves : (me : ℕ) (g : Region) (after : List Flying) → Moves g.flight after → Run me g (record g { flight = after })
run_moves me g after m = go g.flight after m
  where
    go : (before after : List Flying) → Moves before after → Run me (record g { flight = before }) (record g { flight = after })
    go before after still = done
    go before after (moved {ys = between} x rest a b m) = next (carry x rest between a b) (go between after m)

-- The boxes of all nodes.
abbrev pub boxes : Node → List Piece
boxes n = n.inbox ++ n.outbox

boxes_same : (i k : ℕ) (f g : ℕ → Node) → ((j : ℕ) → i + j < i + k → boxes (f (i + j)) ≡ boxes (g (i + j))) → boxes_from i k f ≡ boxes_from i k g
boxes_same i zero f g h = refl
boxes_same i (suc k) f g h =
    let first : boxes (f i) ≡ boxes (g i) = subst (λ x. boxes (f x) ≡ boxes (g x)) (omega arith) (h 0 (omega arith)) in
    let others = boxes_same (i + 1) k f g (λ j l. subst (λ x. boxes (f x) ≡ boxes (g x)) (omega arith) (h (suc j) (omega arith))) in
    ap (λ b. b ++ boxes_from (i + 1) k f) first ∙ ap (λ b. boxes (g i) ++ b) others

-- what is said of the boxes of one node is said of all boxes, where the others stay
pub boxes_took : (m : Piece) (i k j : ℕ) (f g : ℕ → Node) → j < k → Took m (boxes (f (i + j))) (boxes (g (i + j))) → ((l : ℕ) → (l ≡ i + j → ⊥) → boxes (f l) ≡ boxes (g l))
    → Took m (boxes_from i k f) (boxes_from i k g)
boxes_took m i zero j f g l t h = absurd (omega arith)
boxes_took m i (suc k) zero f g l t h =
    let same = boxes_same (i + 1) k f g (λ x y. h (i + 1 + x) (λ e. omega arith)) in
    let first : Took m (boxes (f i)) (boxes (g i)) = subst (λ x. Took m (boxes (f x)) (boxes (g x))) (omega arith) t in
    subst (λ b. Took m (boxes (f i) ++ boxes_from (i + 1) k f) (boxes (g i) ++ b)) same (took_left (boxes_from (i + 1) k f) first)
boxes_took m i (suc k) (suc j) f g l t h =
    let same = h i (λ e. omega arith) in
    let step : i + suc j ≡ i + 1 + j = omega arith in
    let t2 : Took m (boxes (f (i + 1 + j))) (boxes (g (i + 1 + j))) = subst (λ x. Took m (boxes (f x)) (boxes (g x))) step t in
    let others = boxes_took m (i + 1) k j f g (omega arith) t2 (λ x n. h x (λ e. n (e ∙ step))) in
    subst (λ b. Took m (boxes (f i) ++ boxes_from (i + 1) k f) (b ++ boxes_from (i + 1) k g)) same (took_right (boxes (f i)) others)

-- more messages behind those of one node
pub boxes_more : (posts : List Piece) (i k j : ℕ) (f g : ℕ → Node) → j < k → boxes (g (i + j)) ≡ boxes (f (i + j)) ++ posts → ((l : ℕ) → (l ≡ i + j → ⊥) → boxes (f l) ≡ boxes (g l))
    → Moves (boxes_from i k f ++ posts) (boxes_from i k g)
boxes_more posts i zero j f g l t h = absurd (omega arith)
boxes_more posts i (suc k) zero f g l t h =
    let same = boxes_same (i + 1) k f g (λ x y. h (i + 1 + x) (λ e. omega arith)) in
    let first : boxes (g i) ≡ boxes (f i) ++ posts = subst (λ x. boxes (g x) ≡ boxes (f x) ++ posts) (omega arith) t in
    let whole : (boxes (f i) ++ posts) ++ boxes_from (i + 1) k f ≡ boxes_from i (suc k) g = ap (λ b. b ++ boxes_from (i + 1) k f) (sym first) ∙ ap (λ b. boxes (g i) ++ b) same in
    subst (λ b. Moves ((boxes (f i) ++ boxes_from (i + 1) k f) ++ posts) b) (sym (append_assoc (boxes (f i)) posts (boxes_from (i + 1) k f)) ∙ whole)
    (subst (λ b. Moves b (boxes (f i) ++ (posts ++ boxes_from (i + 1) k f))) (sym (append_assoc (boxes (f i)) (boxes_from (i + 1) k f) posts))
    (moves_past (boxes (f i)) (boxes_from (i + 1) k f) posts))
boxes_more posts i (suc k) (suc j) f g l t h =
    let same = h i (λ e. omega arith) in
    let step : i + suc j ≡ i + 1 + j = omega arith in
    let t2 : boxes (g (i + 1 + j)) ≡ boxes (f (i + 1 + j)) ++ posts = subst (λ x. boxes (g x) ≡ boxes (f x) ++ posts) step t in
    let others = boxes_more posts (i + 1) k j f g (omega arith) t2 (λ x n. h x (λ e. n (e ∙ step))) in
    subst (λ b. Moves (b ++ posts) (boxes_from i (suc k) g)) (ap (λ b. b ++ boxes_from (i + 1) k f) (sym same))
    (subst (λ b. Moves b (boxes_from i (suc k) g)) (sym (append_assoc (boxes (g i)) (boxes_from (i + 1) k f) posts)) (moves_behind (boxes (g i)) others))

-- the same, of all nodes from the first
pub flight_took : (m : Piece) (count i : ℕ) (f g : ℕ → Node) → i < count → Took m (boxes (f i)) (boxes (g i)) → ((l : ℕ) → (l ≡ i → ⊥) → boxes (f l) ≡ boxes (g l)) → Took m (boxes_from 0 count f) (boxes_from 0 count g)
flight_took m count i f g l t h =
    let same : i ≡ 0 + i = omega arith in
    boxes_took m 0 count i f g l (subst (λ k. Took m (boxes (f k)) (boxes (g k))) same t) (λ k n. h k (λ e. n (e ∙ same)))

pub flight_more : (posts : List Piece) (count i : ℕ) (f g : ℕ → Node) → i < count → boxes (g i) ≡ boxes (f i) ++ posts → ((l : ℕ) → (l ≡ i → ⊥) → boxes (f l) ≡ boxes (g l)) → Moves (boxes_from 0 count f ++ posts) (boxes_from 0 count g)
flight_more posts count i f g l t h =
    let same : i ≡ 0 + i = omega arith in
    boxes_more posts 0 count i f g l (subst (λ k. boxes (g k) ≡ boxes (f k) ++ posts) same t) (λ k n. h k (λ e. n (e ∙ same)))

pub flight_same : (count : ℕ) (f g : ℕ → Node) → ((l : ℕ) → l < count → boxes (f l) ≡ boxes (g l)) → boxes_from 0 count f ≡ boxes_from 0 count g
flight_same count f g h = boxes_same 0 count f g (λ j l. h (0 + j) (omega arith))

-- what is put behind a list is taken out of it again
pub took_put : {A : Type 0} (x : A) (xs : List A) → Took x (xs ++ x ∷ []) xs
took_put x [] = here
took_put x (y ∷ xs) = there (took_put x xs)
