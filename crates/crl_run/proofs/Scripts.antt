-- What every script is: its statements are such as `run` takes, and they are counted by its blocks.
use Rattle.std.proofs.Common.{◌≡◌, ℕ, zero, suc, ◌+◌, List, [], ◌∷◌, length, map, drop, sym, ap, ◌∙◌, arith}
use Rattle.std.specs.Prelude.{sum}
use Rattle.std.specs.List.{All, AllByRecursion, sum_by}
use Rattle.std.proofs.lemmas.List.{drop_all}
use Rattle.std.proofs.lemmas.List.Sums.{sum_by-drop_more, sum-map}
use Rattle.std.proofs.lemmas.List.Elements.{All-from_recursion}
use Rattle.crl_model.specs.declared.call.Call.{Call}
use Rattle.crl_model.specs.declared.call.Call.TheVariants as call
use Rattle.crl_model.specs.declared.statement.Statement.{Statement}
use Rattle.crl_model.specs.declared.statement.Statement.TheVariants as statement
use Rattle.crl_protocol.specs.Chosen.{new_actor, block_of}
use Rattle.crl_deeds.specs.Laws.{IsStatement, AreStatements}
use Rattle.crl_script.specs.Again as script
use Rattle.crl_stuck.specs.Ends.{statements_from, statements_in}
use Rattle.crl_run.specs.Acting.{IsShort}
use Rattle.crl_run.specs.Playing.{AreShort}

-- a fact of each statement that a line makes holds of a script's
module _ (Q : Statement → Type 0) (q : (s : Statement) → script.IsStatement s → Q s) where
  of_block : (ss : List Statement) → AllByRecursion script.IsStatement ss → AllByRecursion Q ss
  of_block [] h = tt
  of_block (s ∷ ss) h = (q s h.0, of_block ss h.1)

  of_blocks : (blocks : List (List Statement)) → script.AllStatements blocks → AllByRecursion (λ block. All Q block) blocks
  of_blocks [] h = tt
  of_blocks (block ∷ blocks) h = (All-from_recursion Q block (of_block block h.0), of_blocks blocks h.1)

  of_script : (blocks : List (List Statement)) → script.AllStatements blocks → All (λ block. All Q block) blocks
  of_script blocks h = All-from_recursion (λ block. All Q block) blocks (of_blocks blocks h)

is_call : (c : Call) → script.IsCall c → IsStatement (statement.Call c)
is_call (call.Put name offset len) h = h
is_call (call.Add name offset) h = h
is_call _ h = tt

is_statement : (s : Statement) → script.IsStatement s → IsStatement s
is_statement (statement.Call c) h = is_call c h
is_statement (statement.Put name offset bytes) h = tt
is_statement (statement.Add name offset number) h = tt

is_short : (s : Statement) → script.IsStatement s → IsShort s
is_short (statement.Call c) h = tt
is_short (statement.Put name offset bytes) h = h.2
is_short (statement.Add name offset number) h = tt

pub are_statements : (blocks : List (List Statement)) → script.AllStatements blocks → AreStatements blocks
are_statements = of_script IsStatement is_statement

pub are_short : (blocks : List (List Statement)) → script.AllStatements blocks → AreShort blocks
are_short = of_script IsShort is_short

sum_from : (i k : ℕ) (blocks : List (List Statement)) → i + k ≡ length blocks
    → statements_from i k (λ j. new_actor (block_of blocks j)) ≡ sum_by length (drop i blocks)
sum_from i zero blocks e = sym (ap (sum_by length) (drop_all i blocks (omega arith)))
sum_from i (suc k) blocks e =
    ap (λ n. length (block_of blocks i) + n) (sum_from (i + 1) k blocks (omega arith)) ∙ sym (sum_by-drop_more length blocks i [] (omega arith))

pub statements_in_sum : (count : ℕ) (blocks : List (List Statement)) → length blocks ≡ count → statements_in count blocks ≡ sum (map length blocks)
statements_in_sum count blocks e = sum_from 0 count blocks (omega arith) ∙ sym (sum-map length blocks)
