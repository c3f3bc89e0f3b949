-- The scripts that are made are unnested, and each of their nodes comes to two rounds.
use Rattle.std.proofs.Common.{◌≡◌, ℕ, zero, suc, ◌+◌, ◌*◌, ◌%◌, ◌<◌, ◌==◌, Bool, true, false, if◌then◌else◌, List, [], ◌∷◌, ◌++◌, refl, ap, sym, ◌∙◌, arith}
use Rattle.std.specs.List.{All, AllByRecursion}
use Rattle.std.proofs.lemmas.List.Elements.{All-from_recursion}
use Rattle.crl_model.specs.declared.name.Name.{Name}
use Rattle.crl_model.specs.declared.call.Call.TheVariants as call
use Rattle.crl_model.specs.declared.statement.Statement.{Statement}
use Rattle.crl_protocol.specs.Chosen.{block_of}
use Rattle.crl_deeds.specs.Laws.{IsStatement, AreStatements}
use Rattle.crl_deeds.proofs.Laws.{name_self, all_append}
use Rattle.crl_finish.specs.Unnested.{Outside, Inside, is_unnested_from, IsUnnested, AreUnnested, rounds_in, AreAligned}
use Rattle.crl_finish.proofs.Laws.{unnested_join, rounds_join, finishes}
use Rattle.crl_gen.specs.declared.TheConstants.{REGION_SIZE}
use Rattle.crl_gen.specs.Finishing.{MadeFinishes}
use Rattle.crl_gen.specs.Making.{each_from, region_name, calls, create_of, map_of, unmap_of, round_of_write, round_of, barrier, block_made}
use Rattle.crl_gen.proofs.Each.{all_each}

-- Statements that are unnested, come to so many rounds, and are such as scripts have.
record Fit (total : ℕ) (ss : List Statement) : Type 0 where
  unnested : IsUnnested ss
  rounds : rounds_in ss ≡ total
  statements : AllByRecursion IsStatement ss

fit_join : (a b : ℕ) (xs ys : List Statement) → Fit a xs → Fit b ys → Fit (a + b) (xs ++ ys)
fit_join a b xs ys h k =
    let x = h.rounds in
    let y = k.rounds in
    let both = rounds_join xs ys in record {
      unnested = unnested_join Outside xs ys h.unnested k.unnested;
      rounds = omega arith;
      statements = all_append IsStatement xs ys h.statements k.statements;
    }

fit_each : (f : ℕ → List Statement) → ((n : ℕ) → Fit 0 (f n)) → (i k : ℕ) → Fit 0 (each_from f i k)
fit_each f h i zero = record { unnested = refl; rounds = refl; statements = tt }
fit_each f h i (suc k) = fit_join 0 0 (f i) (each_from f (i + 1) k) (h i) (fit_each f h (i + 1) k)

create_fits : (b : Bool) → Fit 0 (if b then calls (call.Create REGION_SIZE) else [])
create_fits true = record { unnested = refl; rounds = refl; statements = (tt, tt) }
create_fits false = record { unnested = refl; rounds = refl; statements = tt }

-- a section that ends where it started
ends_itself : (write : Bool) (name : Name) (b : Bool) → b ≡ true → is_unnested_from (if b then Outside else Inside write name) [] ≡ true
ends_itself write name true e = refl
ends_itself write name false e = cc

round_fits : (name : Name) (a b c : Bool) → Fit 0 (if a then calls (call.StartRead name) ++ calls (call.EndRead name) else if b then round_of_write name else if c then calls (call.Flush name) else calls (call.Unmap name) ++ calls (call.Map name))
round_fits name true b c = record { unnested = ends_itself false name _ (name_self name); rounds = refl; statements = (tt, (tt, tt)) }
round_fits name false true c = record { unnested = ends_itself true name _ (name_self name); rounds = refl; statements = (tt, (tt, (tt, tt))) }
round_fits name false false true = record { unnested = refl; rounds = refl; statements = (tt, tt) }
round_fits name false false false = record { unnested = refl; rounds = refl; statements = (tt, (tt, tt)) }

barrier_fits : Fit 1 barrier
barrier_fits = record { unnested = refl; rounds = refl; statements = (tt, tt) }

block_fits : (words : ℕ → ℕ) (nodes regions rounds node : ℕ) → Fit 2 (block_made words nodes regions rounds node)
block_fits words nodes regions rounds node =
    let creates = each_from (create_of nodes node) 0 regions in
    let maps = each_from (map_of nodes) 0 regions in
    let middle = each_from (round_of words nodes regions) (node * rounds) rounds in
    let unmaps = each_from (unmap_of nodes) 0 regions in
    let creates_fit : Fit 0 creates = fit_each (create_of nodes node) (λ r. create_fits (r % nodes == node)) 0 regions in
    let maps_fit : Fit 0 maps = fit_each (map_of nodes) (λ r. record { unnested = refl; rounds = refl; statements = (tt, tt) }) 0 regions in
    let middle_fit : Fit 0 middle =
    fit_each (round_of words nodes regions)
    (λ n. (let kind = words (suc (suc (2 * n))) % 4 in round_fits (region_name nodes (words (suc (2 * n)) % regions)) (kind == 0) (kind == 1) (kind == 2))) (node * rounds) rounds in
    let unmaps_fit : Fit 0 unmaps = fit_each (unmap_of nodes) (λ r. record { unnested = refl; rounds = refl; statements = (tt, tt) }) 0 regions in
    fit_join 2 0 (creates ++ barrier ++ maps ++ middle ++ barrier) unmaps
    (fit_join 1 1 (creates ++ barrier ++ maps ++ middle) barrier
    (fit_join 1 0 (creates ++ barrier ++ maps) middle (fit_join 1 0 (creates ++ barrier) maps (fit_join 0 1 creates barrier creates_fit barrier_fits) maps_fit) middle_fit) barrier_fits) unmaps_fit

-- the blocks of all nodes
block_at : (f : ℕ → List Statement) (m k i : ℕ) → i < k → block_of (each_from (λ n. f n ∷ []) m k) i ≡ f (m + i)
block_at f m zero i h = absurd (omega arith)
block_at f m (suc k) zero h = ap f (omega arith)
block_at f m (suc k) (suc i) h = block_at f (m + 1) k i (omega arith) ∙ ap f (omega arith)

module _ (words : ℕ → ℕ) (nodes regions rounds : ℕ) where
  abbrev block : ℕ → List Statement
  block node = block_made words nodes regions rounds node

  abbrev blocks : List (List Statement)
  blocks = each_from (λ node. block node ∷ []) 0 nodes

  unnested_blocks : AreUnnested blocks
  unnested_blocks = All-from_recursion IsUnnested blocks (all_each IsUnnested (λ node. block node ∷ []) (λ node. ((block_fits words nodes regions rounds node).unnested, tt)) 0 nodes)

  statement_blocks : AreStatements blocks
  statement_blocks =
      All-from_recursion (λ b. All IsStatement b) blocks
      (all_each (λ b. All IsStatement b) (λ node. block node ∷ []) (λ node. (All-from_recursion IsStatement (block node) (block_fits words nodes regions rounds node).statements, tt)) 0 nodes)

  two_rounds : (i : ℕ) → i < nodes → rounds_in (block_of blocks i) ≡ 2
  two_rounds i few = ap rounds_in (block_at block 0 nodes i few) ∙ (block_fits words nodes regions rounds (0 + i)).rounds

  aligned_blocks : AreAligned nodes blocks
  aligned_blocks i few = two_rounds i few ∙ sym (two_rounds 0 (omega arith))

  pub made_finishes : MadeFinishes words nodes regions rounds
  made_finishes = record {
    statements = statement_blocks;
    unnested = unnested_blocks;
    aligned = aligned_blocks;
    done = λ capacity order end h. finishes nodes capacity blocks order statement_blocks unnested_blocks aligned_blocks end h;
  }
