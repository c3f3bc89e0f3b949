use Rattle.std.proofs.Common.{arith}
use Rattle.crl_stages.specs.StagesState.{lifetimes_of}
use Rattle.crl_naming.proofs.Purges.{told_step, told_last}
use Rattle.crl_naming.proofs.deleting.post_purges.Goals as goal

pub loop-to-preserved : goal.loop-to-preserved
loop-to-preserved c = record {
  room = omega arith;
  posts = told_step c.args.me c.args.name c.args.nodes (lifetimes_of c.args.stages.now c.args.name.serial).asked _ _ _ c.loop-to.to c.post_purge.ensures.posts c.loop-to.invariant.posts;
}

pub returns-clause-posts : goal.returns-clause-posts
returns-clause-posts c =
    told_last c.args.me c.args.name c.args.nodes c.loop-to.to (lifetimes_of c.args.stages.now c.args.name.serial).asked _ _ (omega arith) c.loop-to.invariant.posts
