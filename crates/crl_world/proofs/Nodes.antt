-- Nodes of a world where one changes.
use Rattle.std.proofs.Common.{◌≡◌, ℕ, ◌<◌, ◌==◌, if◌then◌else◌, true, false, Bool, List, length, get_or, set, refl, ap, sym, ◌∙◌, subst, eqb-true, map, get_or-set_same, get_or-set_other}
use Rattle.std.proofs.lemmas.Bool.{eqb-false}
use Rattle.std.proofs.lemmas.List.{get_or-map, length-map, length-set, map-set}
use Rattle.std.proofs.Math.Seq.{map-set_same}
use Rattle.crl_model.specs.Names.{at_node}
use Rattle.crl_protocol.specs.Node.{Node, new_node}
use Rattle.crl_protocol.specs.World.{World}
use Rattle.crl_world.specs.Seen.{node_in, world_of_nodes}

-- the node of a place of the values
pub node_of_value : {N : Type 0} (state : N → Node) (xs : List N) (capacity i : ℕ) (d : N) → i < length xs → state (get_or xs i d) ≡ node_in capacity (map state xs) i
node_of_value state xs capacity i d lt = sym (get_or-map state xs i d _ lt)

pub put_at_node : (capacity : ℕ) (ns : List Node) (i : ℕ) (n : Node) (m : ℕ) → i < length ns → node_in capacity (set ns i n) m ≡ at_node (node_in capacity ns) i n m
put_at_node capacity ns i n m lt = go (i == m) refl
  where
    go : (b : Bool) → (i == m) ≡ b → node_in capacity (set ns i n) m ≡ (if b then n else node_in capacity ns m)
    go true e = subst (λ k. node_in capacity (set ns i n) k ≡ n) (eqb-true i m e) (get_or-set_same ns i n _ lt)
    go false e = get_or-set_other ns i m n _ (λ same. eqb-false i m e (sym same)) ∙ ap (λ k. get_or ns m (new_node k capacity m)) (length-set ns i n)

abbrev world_with : ℕ → (ℕ → Node) → ℕ → World
world_with count nodes events = record { count = count; nodes = nodes; events = events }

pub same_world : (c d : ℕ) (f g : ℕ → Node) (events : ℕ) → c ≡ d → ((m : ℕ) → f m ≡ g m) → world_with c f events ≡ world_with d g events
same_world c d f g events counts nodes = λ k. world_with (counts k) (λ m. nodes m k) events

-- the world with another node in a place
pub world_put : {N : Type 0} (state : N → Node) (xs : List N) (more capacity i : ℕ) (x : N) → i < length xs
    → world_of_nodes (map state (set xs i x)) more capacity ≡ world_with (length (map state xs)) (at_node (node_in capacity (map state xs)) i (state x)) more
world_put state xs more capacity i x lt =
    let ns = map state xs in
    let n = state x in
    let below : i < length ns = subst (λ k. i < k) (sym (length-map xs state)) lt in
    ap (λ l. world_of_nodes l more capacity) (map-set state xs i x)
    ∙ same_world (length (set ns i n)) (length ns) (node_in capacity (set ns i n)) (at_node (node_in capacity ns) i n) more (length-set ns i n) (λ m. put_at_node capacity ns i n m below)

-- where the member changed and its node is the same
pub world_stays : {N : Type 0} (state : N → Node) (xs : List N) (events capacity i : ℕ) (x d : N) → state x ≡ state (get_or xs i d)
    → world_of_nodes (map state (set xs i x)) events capacity ≡ world_of_nodes (map state xs) events capacity
world_stays state xs events capacity i x d same = ap (λ l. world_of_nodes l events capacity) (map-set_same state xs i x d same)
