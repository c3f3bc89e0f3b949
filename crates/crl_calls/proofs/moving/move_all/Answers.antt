use Rattle.crl_cluster.specs.Clusters.{view_of}
use Rattle.crl_calls.proofs.Telling.{moves_none, moves_then, moves_full}
use Rattle.crl_calls.proofs.moving.move_all.Goals as goal

pub loop-node-init : goal.loop-node-init
loop-node-init g c = (c.requires.here, moves_none (view_of c.args.pass.now))

pub returns-in-Err-clause-told : goal.returns-in-Err-clause-told
returns-in-Err-clause-told g c = moves_full _ _ _ c.loop-node.invariant.1 c.in-Err.ensures.told

pub loop-node-preserved : goal.loop-node-preserved
loop-node-preserved g c = (c.move_at.ensures.here, moves_then _ _ _ c.loop-node.invariant.1 c.in_default.ensures.told)
