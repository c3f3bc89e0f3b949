-- The nodes of a new world.
use Rattle.std.proofs.Common.{◌≡◌, ℕ, zero, suc, ◌+◌, List, [], ◌∷◌, ◌++◌, length, get_or, refl, ap, sym, ◌∙◌, subst, arith, map, add-zero}
use Rattle.std.proofs.lemmas.List.{map-append}
use Rattle.crl_protocol.specs.Node.{Node, new_node}
use Rattle.crl_protocol.specs.World.{new_world}
use Rattle.crl_world.specs.Seen.{world_of_nodes, first_nodes, IsKept}
use Rattle.crl_world.specs.Starting.{AreSomeNodes, IsStarted}
use Rattle.crl_world.proofs.Nodes.{same_world}

first_push : (count capacity p k : ℕ) → first_nodes count capacity p k ++ new_node count capacity (p + k) ∷ [] ≡ first_nodes count capacity p (suc k)
first_push count capacity p zero = ap (λ q. new_node count capacity q ∷ []) (add-zero p)
first_push count capacity p (suc k) =
    let same : p + suc k ≡ (p + 1) + k = omega arith in
    ap (λ l. new_node count capacity p ∷ l) (ap (λ q. first_nodes count capacity (p + 1) k ++ new_node count capacity q ∷ []) same ∙ first_push count capacity (p + 1) k)

pub first_more : {N : Type 0} (state : N → Node) (xs ys : List N) (x : N) (count capacity k : ℕ) → ys ≡ xs ++ x ∷ [] → map state xs ≡ first_nodes count capacity 0 k → state x ≡ new_node count capacity k → map state ys ≡ first_nodes count capacity 0 (k + 1)
first_more state xs ys x count capacity k is before one =
    let next : suc k ≡ k + 1 = omega arith in
    let here : k ≡ 0 + k = omega arith in
    ap (map state) is ∙ map-append state xs (x ∷ []) ∙ ap (λ l. l ++ state x ∷ []) before ∙ ap (λ n. first_nodes count capacity 0 k ++ n ∷ []) (one ∙ ap (new_node count capacity) here)
    ∙ first_push count capacity 0 k ∙ ap (first_nodes count capacity 0) next

first_long : (count capacity p k : ℕ) → length (first_nodes count capacity p k) ≡ k
first_long count capacity p zero = refl
first_long count capacity p (suc k) = ap suc (first_long count capacity (p + 1) k)

first_at : (count capacity p k i : ℕ) → get_or (first_nodes count capacity p k) i (new_node count capacity (p + i)) ≡ new_node count capacity (p + i)
first_at count capacity p zero i = refl
first_at count capacity p (suc k) zero = ap (new_node count capacity) (sym (add-zero p))
first_at count capacity p (suc k) (suc i) =
    let same : p + suc i ≡ (p + 1) + i = omega arith in
    subst (λ q. get_or (first_nodes count capacity (p + 1) k) i (new_node count capacity q) ≡ new_node count capacity q) (sym same) (first_at count capacity (p + 1) k i)

first_world : (count capacity : ℕ) → world_of_nodes (first_nodes count capacity 0 count) 0 capacity ≡ new_world count capacity
first_world count capacity =
    let long = first_long count capacity 0 count in
    same_world (length (first_nodes count capacity 0 count)) count _ (new_node count capacity) 0 long
    (λ i.
    let zero_in : 0 + i ≡ i = omega arith in
    ap (λ n. get_or (first_nodes count capacity 0 count) i (new_node n capacity i)) long
    ∙ subst (λ q. get_or (first_nodes count capacity 0 count) i (new_node count capacity q) ≡ new_node count capacity q) zero_in (first_at count capacity 0 count i))

pub is_started : (ns : List Node) (count capacity : ℕ) → AreSomeNodes count → ns ≡ first_nodes count capacity 0 count → IsStarted count capacity (world_of_nodes ns 0 capacity)
is_started ns count capacity some is = record { count = some; world = ap (λ l. world_of_nodes l 0 capacity) is ∙ first_world count capacity }

kept_start : (count capacity : ℕ) → AreSomeNodes count → IsKept (new_world count capacity)
kept_start count capacity some = record { some = some.some; few = some.few; events = omega arith; numbered = λ i. refl }

pub is_kept : (ns : List Node) (count capacity : ℕ) → AreSomeNodes count → ns ≡ first_nodes count capacity 0 count → IsKept (world_of_nodes ns 0 capacity)
is_kept ns count capacity some is = subst IsKept (sym (is_started ns count capacity some is).world) (kept_start count capacity some)
