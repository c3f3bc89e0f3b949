-- Each name in a script that is made is that of one of its creates.
use Rattle.std.proofs.Common.{◌≡◌, ℕ, zero, suc, ◌+◌, ◌*◌, ◌/◌, ◌%◌, ◌<◌, ◌≤◌, ◌==◌, Bool, true, false, if◌then◌else◌, List, [], ◌∷◌, ◌++◌, refl, sym, ap, ◌∙◌, subst, arith}
use Rattle.std.specs.Prelude.{IfSome}
use Rattle.std.proofs.Math.Nat.{lt_of_mul-lt-mul_right}
use Rattle.std.proofs.lemmas.Nat.{mod-mul-add, div-add-mod'}
use Rattle.crl_model.specs.declared.call.Call.TheVariants as call
use Rattle.crl_model.specs.declared.statement.Statement.{Statement}
use Rattle.crl_script.specs.Again.{IsNamed, AllNamed, made_by, name_in}
use Rattle.crl_script.specs.Canonical.{made_after}
use Rattle.crl_script.proofs.Laws.{made_most}
use Rattle.crl_gen.specs.declared.TheConstants.{REGION_SIZE}
use Rattle.crl_gen.specs.Making.{each_from, region_name, calls, create_of, map_of, unmap_of, round_of, barrier, block_made}
use Rattle.crl_gen.proofs.Each.{get_each}
use Rattle.crl_gen.proofs.Statements.{blocks_hold}

made_join : (made : ℕ) (xs ys : List Statement) → made_by made (xs ++ ys) ≡ made_by (made_by made xs) ys
made_join made [] ys = refl
made_join made (x ∷ xs) ys = made_join (made_after made x) xs ys

made_front : (made : ℕ) (xs ys : List Statement) → made_by made xs ≤ made_by made (xs ++ ys)
made_front made xs ys = let e = made_join made xs ys in let most = made_most (made_by made xs) ys in omega arith

next_multiple : (made nodes : ℕ) → (made + 1) * nodes ≡ made * nodes + nodes
next_multiple made nodes = grind arith

apart : (n node : ℕ) → (n == node) ≡ false → n ≡ node → ⊥
apart n node e same = grind arith

module _ (nodes node : ℕ) (below : node < nodes) where
  -- Behind so many creates of a node, which stand for all its regions below n, those from n on are its next.
  created_from : (q k n made : ℕ) → n ≤ made * nodes + node → q * nodes + node < n + k → q + 1 ≤ made_by made (each_from (create_of nodes node) n k)
  created_from q zero n made reach h =
      let less : q * nodes < made * nodes = omega arith in
      let few : q < made = lt_of_mul-lt-mul_right nodes less in
      omega arith
  created_from q (suc k) n made reach h = go (n % nodes == node) refl (created_from q k (n + 1)) where
    go : (b : Bool) → (n % nodes == node) ≡ b
        → ((made : ℕ) → n + 1 ≤ made * nodes + node → q * nodes + node < (n + 1) + k → q + 1 ≤ made_by made (each_from (create_of nodes node) (n + 1) k))
        → q + 1 ≤ made_by made ((if b then calls (call.Create REGION_SIZE) else []) ++ each_from (create_of nodes node) (n + 1) k)
    go true e more = let next = next_multiple made nodes in more (made + 1) (omega arith) (omega arith)
    go false e more =
        let other : n ≡ made * nodes + node → ⊥ = λ same. apart (n % nodes) node e (ap (λ x. x % nodes) same ∙ mod-mul-add made nodes node below) in
        more made (omega arith) (omega arith)

module _ (words : ℕ → ℕ) (nodes regions rounds : ℕ) (some : 1 ≤ nodes) where
  -- a region is created by its home
  created : (r : ℕ) → r < regions → r / nodes + 1 ≤ made_by 0 (block_made words nodes regions rounds (r % nodes))
  created r below =
      let node = r % nodes in
      let creates = each_from (create_of nodes node) 0 regions in
      let maps = each_from (map_of nodes) 0 regions in
      let middle = each_from (round_of words nodes regions) (node * rounds) rounds in
      let unmaps = each_from (unmap_of nodes) 0 regions in
      let is = div-add-mod' r nodes in
      let first = created_from nodes (r % nodes) (omega arith) (r / nodes) regions 0 0 (omega arith) (omega arith) in
      let a = made_front 0 creates barrier in
      let b = made_front 0 (creates ++ barrier) maps in
      let c = made_front 0 (creates ++ barrier ++ maps) middle in
      let d = made_front 0 (creates ++ barrier ++ maps ++ middle) barrier in
      let e = made_front 0 (creates ++ barrier ++ maps ++ middle ++ barrier) unmaps in
      omega arith

  region_named : (r : ℕ) → r < regions → IsNamed (each_from (λ node. block_made words nodes regions rounds node ∷ []) 0 nodes) (region_name nodes r)
  region_named r below =
      let block = get_each (block_made words nodes regions rounds) 0 nodes (r % nodes) (r % nodes) [] (omega arith) (omega arith) in
      (omega arith, subst (λ (ss : List Statement). r / nodes + 1 ≤ made_by 0 ss) (sym block) (created r below))

  pub blocks_named : 1 ≤ regions → AllNamed (each_from (λ node. block_made words nodes regions rounds node ∷ []) 0 nodes)
  blocks_named any =
      let blocks = each_from (λ node. block_made words nodes regions rounds node ∷ []) 0 nodes in
      blocks_hold (λ s. IfSome (name_in s) (IsNamed blocks)) nodes regions any (record {
        create = tt;
        barrier = tt;
        region = λ r below. let h = region_named r below in record { map = h; unmap = h; read = h; endread = h; write = h; add = h; endwrite = h; flush = h };
      }) words rounds
