use Rattle.std.proofs.Common.{◌≡◌, ℕ, ◌+◌, ◌*◌, ◌-◌, ◌≤◌, ◌<◌, ◌^◌, ◌++◌, [], ◌∷◌, List, map, length, ap, sym, subst, ◌∙◌, arith, mul-le-mul}
use Rattle.std.proofs.lemmas.List.{map-append, length-map}
use Rattle.crl_model.specs.declared.statement.Statement.{Statement}
use Rattle.crl_script.specs.Again.{AllStatements, IsPrintable}
use Rattle.crl_script.specs.Program.{Program}
use Rattle.crl_order.specs.Words.{words_of_seed}
use Rattle.crl_gen.specs.declared.TheConstants.{CACHE}
use Rattle.crl_gen.specs.WordsGiven.{WordsGiven}
use Rattle.crl_gen.specs.Making.{each_from, block_made, script_made}
use Rattle.crl_gen.proofs.Each.{loop_step, loop_end, length_each}
use Rattle.crl_gen.proofs.Printable.{made_is_printable}
use Rattle.crl_gen.proofs.Statements.{blocks_fit}
use Rattle.crl_gen.proofs.making.make.Goals as goal

more_rounds : (node rounds : ℕ) → node * rounds + rounds ≡ (node + 1) * rounds
more_rounds node rounds = grind arith

block_more : {X : Type 0} (items : X → List Statement) (old new : List X) (b : X) (block other : List Statement) → new ≡ old ++ b ∷ [] → items b ≡ block → block ≡ other → map items new ≡ map items old ++ other ∷ []
block_more items old new b block other e is same = ap (map items) e ∙ map-append items old (b ∷ []) ∙ ap (λ x. map items old ++ x ∷ []) (is ∙ same)

pub loop-node-preserved : goal.loop-node-preserved
loop-node-preserved c =
    let at = c.loop-node in let h = at.invariant in let made = c.in_ok-block.ensures in
    record {
      blocks = loop_step (λ node. block_made (words_of_seed c.args.seed) c.args.nodes c.args.regions c.args.rounds node ∷ []) at.node c.args.nodes _ _ _ c.loop-node-test.true
          (block_more (λ b. b.items) at.blocks.items _ c.in_ok-block.field-0 _ _ c.in_ok-push.ensures.items made.ok
          (ap (λ (w : WordsGiven). block_made (words_of_seed w.seed) c.args.nodes c.args.regions c.args.rounds at.node) h.words)) h.blocks;
      words = made.words ∙ ap (λ (w : WordsGiven). record w { given = 2 * (at.node * c.args.rounds + c.args.rounds) }) h.words
          ∙ ap (λ k. record { seed = c.args.seed; given = 2 * k }) (more_rounds at.node c.args.rounds);
    }

-- the blocks, all made
module _ {X : Type 0} (items : X → List Statement) (blocks : List X) (words : ℕ → ℕ) (nodes regions rounds : ℕ) (any : 1 ≤ regions) (node : ℕ) (over : nodes ≤ node)
    (h : map items blocks ++ each_from (λ node. block_made words nodes regions rounds node ∷ []) node (nodes - node) ≡ each_from (λ node. block_made words nodes regions rounds node ∷ []) 0 nodes) where
  all_made : map items blocks ≡ each_from (λ node. block_made words nodes regions rounds node ∷ []) 0 nodes
  all_made = loop_end (λ node. block_made words nodes regions rounds node ∷ []) node nodes _ _ over h

  count_made : length blocks ≡ nodes
  count_made = sym (length-map blocks items) ∙ ap length all_made ∙ length_each (block_made words nodes regions rounds) 0 nodes

  statements_made : AllStatements (map items blocks)
  statements_made = subst (λ bs. AllStatements bs) (sym all_made) (blocks_fit words nodes regions rounds any)

  script_is : (p : Program) → p ≡ record { nodes = length blocks; cache = CACHE; blocks = map items blocks } → p ≡ script_made words nodes regions rounds
  script_is p e = e ∙ ap (λ n. record { nodes = n; cache = CACHE; blocks = map items blocks }) count_made ∙ ap (λ bs. record { nodes = nodes; cache = CACHE; blocks = bs }) all_made

pub new-requires-clause-some : goal.new-requires-clause-some
new-requires-clause-some c = let at = c.loop-node in
    omega (arith, count_made (λ b. b.items) at.blocks.items (words_of_seed c.args.seed) c.args.nodes c.args.regions c.args.rounds c.requires.regions at.node (omega (arith, c.loop-node-test.false)) at.invariant.blocks)

pub new-requires-clause-limit : goal.new-requires-clause-limit
new-requires-clause-limit c = let at = c.loop-node in
    omega (arith, count_made (λ b. b.items) at.blocks.items (words_of_seed c.args.seed) c.args.nodes c.args.regions c.args.rounds c.requires.regions at.node (omega (arith, c.loop-node-test.false)) at.invariant.blocks)

pub new-requires-clause-statements : goal.new-requires-clause-statements
new-requires-clause-statements c = let at = c.loop-node in
    statements_made (λ b. b.items) at.blocks.items (words_of_seed c.args.seed) c.args.nodes c.args.regions c.args.rounds c.requires.regions at.node (omega (arith, c.loop-node-test.false)) at.invariant.blocks

-- 64 nodes and a number of regions of 16 bits
few_regions : (nodes regions : ℕ) → nodes ≤ 64 → regions < 2 ^ 16 → nodes * regions ≤ 2 ^ 22
few_regions nodes regions h k = let small : regions ≤ 2 ^ 16 = omega arith in let most = mul-le-mul h small in omega arith

printable_made : (p : Program) (words : ℕ → ℕ) (nodes regions rounds : ℕ) → p ≡ script_made words nodes regions rounds → 1 ≤ nodes → nodes ≤ 64 → 1 ≤ regions → regions < 2 ^ 16
    → nodes * rounds ≤ 2 ^ 24 → IsPrintable p
printable_made p words nodes regions rounds e some limit any fits few =
    subst IsPrintable (sym e) (made_is_printable words nodes regions rounds some limit any (few_regions nodes regions limit fits) few)

pub returns : goal.returns
returns c = let at = c.loop-node in
    let is = script_is (λ b. b.items) at.blocks.items (words_of_seed c.args.seed) c.args.nodes c.args.regions c.args.rounds c.requires.regions at.node (omega (arith, c.loop-node-test.false)) at.invariant.blocks c.new.result c.new.ensures in
    record {
      made = is;
      printable = λ few. printable_made c.new.result (words_of_seed c.args.seed) c.args.nodes c.args.regions c.args.rounds is c.requires.nodes.0 c.requires.nodes.1 c.requires.regions (omega arith) few;
    }
