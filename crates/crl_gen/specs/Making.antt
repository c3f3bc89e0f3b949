-- The script that words make.
use Rattle.std.specs.Prelude.{ℕ, zero, suc, ◌+◌, ◌*◌, ◌/◌, ◌%◌, ◌==◌, if◌then◌else◌, List, [], ◌∷◌, ◌++◌}
use Rattle.crl_model.specs.declared.name.Name.{Name}
use Rattle.crl_model.specs.declared.call.Call.{Call}
use Rattle.crl_model.specs.declared.call.Call.TheVariants as call
use Rattle.crl_model.specs.declared.collective.Part.TheVariants.{Barrier}
use Rattle.crl_model.specs.declared.statement.Statement.{Statement}
use Rattle.crl_model.specs.declared.statement.Statement.TheVariants as statement
use Rattle.crl_script.specs.Program.{Program}
use Rattle.crl_gen.specs.declared.TheConstants.{REGION_SIZE, CACHE}

-- the lists at these numbers, from one on, so many, joined
abbrev pub each_from : {A : Type 0} → (ℕ → List A) → ℕ → ℕ → List A
each_from f n zero = []
each_from f n (suc k) = f n ++ each_from f (n + 1) k

-- Region r is created by node r mod nodes, by ascending r.
abbrev pub region_name : ℕ → ℕ → Name
region_name nodes r = record { home = r % nodes; serial = r / nodes + 1 }

abbrev pub calls : Call → List Statement
calls c = statement.Call c ∷ []

abbrev pub create_of : ℕ → ℕ → ℕ → List Statement
create_of nodes node r = if r % nodes == node then calls (call.Create REGION_SIZE) else []

abbrev pub map_of : ℕ → ℕ → List Statement
map_of nodes r = calls (call.Map (region_name nodes r))

abbrev pub unmap_of : ℕ → ℕ → List Statement
unmap_of nodes r = calls (call.Unmap (region_name nodes r))

abbrev pub round_of_write : Name → List Statement
round_of_write name = calls (call.StartWrite name) ++ statement.Add name 0 1 ∷ calls (call.EndWrite name [])

-- A round of a region is of one of four kinds: a read, a write that adds 1 to the first number, a flush, or an unmap and a
-- map.
abbrev pub round_of_kind : Name → ℕ → List Statement
round_of_kind name kind =
    if kind == 0 then calls (call.StartRead name) ++ calls (call.EndRead name)
    else if kind == 1 then round_of_write name
    else if kind == 2 then calls (call.Flush name)
    else calls (call.Unmap name) ++ calls (call.Map name)

-- The n-th round of all, from 0, takes the next two words, which are counted from 1: for its region, and for its kind.
abbrev pub round_of : (ℕ → ℕ) → ℕ → ℕ → ℕ → List Statement
round_of words nodes regions n = round_of_kind (region_name nodes (words (suc (2 * n)) % regions)) (words (suc (suc (2 * n))) % 4)

-- What a node does: its creates, a barrier, the maps of all regions, its rounds, a barrier, the unmaps of all regions.
abbrev pub barrier : List Statement
barrier = calls (call.Come Barrier)

abbrev pub block_made : (ℕ → ℕ) → ℕ → ℕ → ℕ → ℕ → List Statement
block_made words nodes regions rounds node =
    each_from (create_of nodes node) 0 regions ++ barrier ++ each_from (map_of nodes) 0 regions
    ++ each_from (round_of words nodes regions) (node * rounds) rounds ++ barrier ++ each_from (unmap_of nodes) 0 regions

-- the script, with the words in the order of the nodes
abbrev pub script_made : (ℕ → ℕ) → ℕ → ℕ → ℕ → Program
script_made words nodes regions rounds = record { nodes = nodes; cache = CACHE; blocks = each_from (λ node. block_made words nodes regions rounds node ∷ []) 0 nodes }
