use Rattle.std.proofs.Common.{◌≡◌, ◌≤◌, ◌++◌, drop}
use Rattle.crl_script.specs.Canonical.{block_text}
use Rattle.crl_script.proofs.printing.push_block.Given as goal

abbrev pub invariant-loop-statement : goal.invariant-loop-statement
invariant-loop-statement l = record {
  text : l.out.items ++ block_text l.node l.made (drop l.statement-index l.block) ≡ l.fn.out.items ++ block_text l.node 0 l.block;
  made : l.made ≤ l.statement-index;
}
