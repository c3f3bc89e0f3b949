-- What holds of each statement that is made.
use Rattle.std.proofs.Common.{ℕ, suc, ◌*◌, ◌%◌, ◌<◌, ◌≤◌, ◌==◌, Bool, true, false, if◌then◌else◌, List, [], ◌∷◌, ◌++◌, refl, lit<, arith}
use Rattle.std.specs.List.{AllByRecursion}
use Rattle.crl_model.specs.declared.name.Name.{Name}
use Rattle.crl_model.specs.declared.call.Call.TheVariants as call
use Rattle.crl_model.specs.declared.collective.Part.TheVariants.{Barrier}
use Rattle.crl_model.specs.declared.statement.Statement.{Statement}
use Rattle.crl_model.specs.declared.statement.Statement.TheVariants as statement
use Rattle.crl_script.specs.Again.{IsStatement, IsPlain, AllStatements, AllPlain}
use Rattle.crl_gen.specs.declared.TheConstants.{REGION_SIZE}
use Rattle.crl_gen.specs.Making.{each_from, region_name, calls, create_of, map_of, unmap_of, round_of_write, round_of, barrier, block_made}
use Rattle.crl_gen.proofs.Each.{all_each, all_below}
use Rattle.crl_deeds.proofs.Laws.{all_append}

-- it holds of the statements of a region
pub record HoldsOf (P : Statement → Type 0) (name : Name) : Type 0 where
  pub map : P (statement.Call (call.Map name))
  pub unmap : P (statement.Call (call.Unmap name))
  pub read : P (statement.Call (call.StartRead name))
  pub endread : P (statement.Call (call.EndRead name))
  pub write : P (statement.Call (call.StartWrite name))
  pub add : P (statement.Add name 0 1)
  pub endwrite : P (statement.Call (call.EndWrite name []))
  pub flush : P (statement.Call (call.Flush name))

-- it holds of a create, of a barrier, and of the statements of each region
pub record HoldsOfAll (P : Statement → Type 0) (nodes regions : ℕ) : Type 0 where
  pub create : P (statement.Call (call.Create REGION_SIZE))
  pub barrier : P (statement.Call (call.Come Barrier))
  pub region : (r : ℕ) → r < regions → HoldsOf P (region_name nodes r)

module _ (P : Statement → Type 0) (nodes regions : ℕ) (some : 1 ≤ regions) (h : HoldsOfAll P nodes regions) where
  create_holds : (b : Bool) → AllByRecursion P (if b then calls (call.Create REGION_SIZE) else [])
  create_holds true = (h.create, tt)
  create_holds false = tt

  kind_holds : (name : Name) (a b c : Bool) → HoldsOf P name
      → AllByRecursion P (if a then calls (call.StartRead name) ++ calls (call.EndRead name) else if b then round_of_write name else if c then calls (call.Flush name) else calls (call.Unmap name) ++ calls (call.Map name))
  kind_holds name true b c o = (o.read, (o.endread, tt))
  kind_holds name false true c o = (o.write, (o.add, (o.endwrite, tt)))
  kind_holds name false false true o = (o.flush, tt)
  kind_holds name false false false o = (o.unmap, (o.map, tt))

  round_holds : (words : ℕ → ℕ) (n : ℕ) → AllByRecursion P (round_of words nodes regions n)
  round_holds words n =
      let kind = words (suc (suc (2 * n))) % 4 in let r = words (suc (2 * n)) % regions in
      kind_holds (region_name nodes r) (kind == 0) (kind == 1) (kind == 2) (h.region r (omega arith))

  block_holds : (words : ℕ → ℕ) (rounds node : ℕ) → AllByRecursion P (block_made words nodes regions rounds node)
  block_holds words rounds node =
      let creates = each_from (create_of nodes node) 0 regions in
      let maps = each_from (map_of nodes) 0 regions in
      let middle = each_from (round_of words nodes regions) (node * rounds) rounds in
      let unmaps = each_from (unmap_of nodes) 0 regions in
      let creates_hold : AllByRecursion P creates = all_each P (create_of nodes node) (λ r. create_holds (r % nodes == node)) 0 regions in
      let maps_hold : AllByRecursion P maps = all_below P (map_of nodes) 0 regions (λ r below. ((h.region r (omega arith)).map, tt)) in
      let middle_holds : AllByRecursion P middle = all_each P (round_of words nodes regions) (round_holds words) (node * rounds) rounds in
      let unmaps_hold : AllByRecursion P unmaps = all_below P (unmap_of nodes) 0 regions (λ r below. ((h.region r (omega arith)).unmap, tt)) in
      all_append P (creates ++ barrier ++ maps ++ middle ++ barrier) unmaps
      (all_append P (creates ++ barrier ++ maps ++ middle) barrier
      (all_append P (creates ++ barrier ++ maps) middle
      (all_append P (creates ++ barrier) maps (all_append P creates barrier creates_hold (h.barrier, tt)) maps_hold) middle_holds) (h.barrier, tt)) unmaps_hold

  pub blocks_hold : (words : ℕ → ℕ) (rounds : ℕ) → AllByRecursion (λ block. AllByRecursion P block) (each_from (λ node. block_made words nodes regions rounds node ∷ []) 0 nodes)
  blocks_hold words rounds =
      all_each (λ (block : List Statement). AllByRecursion P block) (λ node. block_made words nodes regions rounds node ∷ []) (λ node. (block_holds words rounds node, tt)) 0 nodes

-- they are those of scripts, and bring no bytes
region_fits : (name : Name) → HoldsOf IsStatement name
region_fits name = record { map = tt; unmap = tt; read = tt; endread = tt; write = tt; add = (lit< tt, lit< tt); endwrite = refl; flush = tt }

pub blocks_fit : (words : ℕ → ℕ) (nodes regions rounds : ℕ) → 1 ≤ regions → AllStatements (each_from (λ node. block_made words nodes regions rounds node ∷ []) 0 nodes)
blocks_fit words nodes regions rounds some =
    blocks_hold IsStatement nodes regions some (record { create = lit< tt; barrier = tt; region = λ r below. region_fits (region_name nodes r) }) words rounds

region_plain : (name : Name) → HoldsOf IsPlain name
region_plain name = record { map = tt; unmap = tt; read = tt; endread = tt; write = tt; add = tt; endwrite = tt; flush = tt }

pub blocks_plain : (words : ℕ → ℕ) (nodes regions rounds : ℕ) → 1 ≤ regions → AllPlain (each_from (λ node. block_made words nodes regions rounds node ∷ []) 0 nodes)
blocks_plain words nodes regions rounds some =
    blocks_hold IsPlain nodes regions some (record { create = tt; barrier = tt; region = λ r below. region_plain (region_name nodes r) }) words rounds
