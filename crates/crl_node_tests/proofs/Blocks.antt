-- Lists of statements that can be run.
use Rattle.std.proofs.Common.{◌∙◌, sym, ap, ℕ, zero, suc, ◌+◌, ◌*◌, ◌<◌, ◌≤◌, ◌^◌, List, [], ◌∷◌, ◌++◌, length, map, subst, arith}
use Rattle.std.specs.List.{All}
use Rattle.std.proofs.lemmas.List.{length-append, map-append}
use Rattle.std.proofs.lemmas.List.Elements.{All-push, All-weaker}
use Rattle.crl_model.specs.declared.statement.Statement.{Statement}
use Rattle.crl_protocol.specs.Chosen.{Actor, block_of, new_actor}
use Rattle.crl_deeds.specs.Laws.{IsStatement, AreStatements}
use Rattle.crl_stuck.specs.Ends.{statements_from, statements_in}
use Rattle.crl_run.specs.Acting.{IsShort}
use Rattle.crl_run.specs.Playing.{AreShort}
use Rattle.crl_node_tests.specs.Plain.{IsPlain, IsBlock, AreBlocks}

pub one_more_block : {V : Type 0} (f : V → List Statement) (n : ℕ) (vs : List V) (v : V) → AreBlocks n (map f vs) → IsBlock (f v) → AreBlocks (n + 1) (map f (vs ++ v ∷ []))
one_more_block f n vs v h b = rw (map-append f vs (v ∷ [])) (record {
  number = length-append (map f vs) (f v ∷ []) ∙ ap (λ k. k + 1) h.number;
  each = All-push IsBlock (map f vs) (f v) h.each b;
})

pub plain_statements : (blocks : List (List Statement)) → All IsBlock blocks → AreStatements blocks
plain_statements blocks all = All-weaker IsBlock (λ b. All IsStatement b) (λ b h. All-weaker IsPlain IsStatement (λ s p. p.statement) b h.plain) blocks all

pub plain_short : (blocks : List (List Statement)) → All IsBlock blocks → AreShort blocks
plain_short blocks all = All-weaker IsBlock (λ b. All IsShort b) (λ b h. All-weaker IsPlain IsShort (λ s p. p.short) b h.plain) blocks all

few_from : (i k n : ℕ) (actors : ℕ → Actor) → i + k ≤ n → ((j : ℕ) → j < n → length (actors j).left < 1048576) → statements_from i k actors ≤ k * 1048576
few_from i zero n actors within h = omega arith
few_from i (suc k) n actors within h =
    let here = h i (omega arith) in
    let rest = few_from (i + 1) k n actors (omega arith) h in
    omega arith

pub few_statements : (n : ℕ) (blocks : List (List Statement)) → AreBlocks n blocks → n ≤ 64 → statements_in n blocks ≤ 2 ^ 40
few_statements n blocks h few =
    let all = few_from 0 n n (λ i. new_actor (block_of blocks i)) (omega arith) (λ j below. (h.each j [] (subst (λ k. j < k) (sym h.number) below)).few) in
    omega arith
