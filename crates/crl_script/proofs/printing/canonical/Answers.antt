use Rattle.std.proofs.Common.{◌∙◌}
use Rattle.crl_script.proofs.BlockLemmas.{blocks_step}
use Rattle.crl_script.proofs.printing.canonical.Goals as goal

pub loop-node-preserved : goal.loop-node-preserved
loop-node-preserved c =
    blocks_step c.loop-node.out.items c.push_node.new.out.items c.loop-node.node c.args.script.now.blocks c.statements.result.now c.statements.ensures c.in_ok-push_node.ensures
    ∙ c.loop-node.invariant
