-- The scripts that are made are printable.
use Rattle.std.proofs.Common.{◌≡◌, ℕ, suc, ◌+◌, ◌*◌, ◌%◌, ◌≤◌, ◌^◌, ◌==◌, Bool, true, false, if◌then◌else◌, List, [], ◌∷◌, ◌++◌, length, sym, ap, ◌∙◌, arith, lit<, length-append}
use Rattle.std.proofs.lemmas.List.Elements.{All-from_recursion}
use Rattle.std.proofs.lemmas.List.Sums.{sum_by-le, sum-map}
use Rattle.crl_model.specs.declared.name.Name.{Name}
use Rattle.crl_model.specs.declared.call.Call.TheVariants as call
use Rattle.crl_model.specs.declared.statement.Statement.{Statement}
use Rattle.crl_script.specs.Again.{IsScript, IsPrintable}
use Rattle.crl_script.proofs.Laws.{plain_is_printable}
use Rattle.crl_gen.specs.declared.TheConstants.{REGION_SIZE}
use Rattle.crl_gen.specs.Making.{each_from, region_name, calls, create_of, map_of, unmap_of, round_of_write, round_of, barrier, block_made, script_made}
use Rattle.crl_gen.proofs.Each.{all_each, length_each, length_most}
use Rattle.crl_gen.proofs.Named.{blocks_named}
use Rattle.crl_gen.proofs.Statements.{blocks_fit, blocks_plain}

create_length : (b : Bool) → length (if b then calls (call.Create REGION_SIZE) else []) ≤ 1
create_length true = omega arith
create_length false = omega arith

kind_length : (name : Name) (a b c : Bool)
    → length (if a then calls (call.StartRead name) ++ calls (call.EndRead name) else if b then round_of_write name else if c then calls (call.Flush name) else calls (call.Unmap name) ++ calls (call.Map name)) ≤ 3
kind_length name true b c = omega arith
kind_length name false true c = omega arith
kind_length name false false true = omega arith
kind_length name false false false = omega arith

round_length : (words : ℕ → ℕ) (nodes regions n : ℕ) → length (round_of words nodes regions n) ≤ 3
round_length words nodes regions n =
    let kind = words (suc (suc (2 * n))) % 4 in kind_length (region_name nodes (words (suc (2 * n)) % regions)) (kind == 0) (kind == 1) (kind == 2)

block_length : (words : ℕ → ℕ) (nodes regions rounds node : ℕ) → length (block_made words nodes regions rounds node) ≤ 3 * regions + 3 * rounds + 2
block_length words nodes regions rounds node =
    let creates = each_from (create_of nodes node) 0 regions in
    let maps = each_from (map_of nodes) 0 regions in
    let middle = each_from (round_of words nodes regions) (node * rounds) rounds in
    let unmaps = each_from (unmap_of nodes) 0 regions in
    let a = length_most 1 (create_of nodes node) (λ r. create_length (r % nodes == node)) 0 regions in
    let b = length_most 1 (map_of nodes) (λ r. omega arith) 0 regions in
    let c = length_most 3 (round_of words nodes regions) (round_length words nodes regions) (node * rounds) rounds in
    let d = length_most 1 (unmap_of nodes) (λ r. omega arith) 0 regions in
    let e = length-append creates barrier in
    let f = length-append (creates ++ barrier) maps in
    let g = length-append (creates ++ barrier ++ maps) middle in
    let h = length-append (creates ++ barrier ++ maps ++ middle) barrier in
    let i = length-append (creates ++ barrier ++ maps ++ middle ++ barrier) unmaps in
    omega arith

all_statements : (nodes regions rounds : ℕ) → nodes * (3 * regions + 3 * rounds + 2) ≡ 3 * (nodes * regions) + 3 * (nodes * rounds) + 2 * nodes
all_statements nodes regions rounds = grind arith

pub made_is_printable : (words : ℕ → ℕ) (nodes regions rounds : ℕ) → 1 ≤ nodes → nodes ≤ 64 → 1 ≤ regions → nodes * regions ≤ 2 ^ 22 → nodes * rounds ≤ 2 ^ 24
    → IsPrintable (script_made words nodes regions rounds)
made_is_printable words nodes regions rounds some limit any few short =
    let blocks = each_from (λ node. block_made words nodes regions rounds node ∷ []) 0 nodes in
    let count : length blocks ≡ nodes = length_each (block_made words nodes regions rounds) 0 nodes in
    let most = 3 * regions + 3 * rounds + 2 in
    let lengths = sum_by-le length most blocks (All-from_recursion (λ (block : List Statement). length block ≤ most) blocks
    (all_each (λ (block : List Statement). length block ≤ most) (λ node. block_made words nodes regions rounds node ∷ []) (λ node. (block_length words nodes regions rounds node, tt)) 0 nodes)) in
    let all : length blocks * most ≡ 3 * (nodes * regions) + 3 * (nodes * rounds) + 2 * nodes = ap (λ n. n * most) count ∙ all_statements nodes regions rounds in
    let same = sum-map length blocks in
    let is : IsScript (script_made words nodes regions rounds) = record { nodes = sym count; some = omega arith; limit = limit; cache = lit< tt; statements = blocks_fit words nodes regions rounds any } in
    plain_is_printable (script_made words nodes regions rounds) is (blocks_named words nodes regions rounds some any) (blocks_plain words nodes regions rounds any) (omega arith)
