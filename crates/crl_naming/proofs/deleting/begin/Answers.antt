use Rattle.crl_desk.specs.Desks.{state}
use Rattle.crl_naming.proofs.Deletes.{begun_here, live_is_mine}
use Rattle.crl_naming.proofs.deleting.begin.Goals as goal

pub returns-clause-lifetime : goal.returns-clause-lifetime
returns-clause-lifetime c =
    let n = state c.args.desk.now in
    begun_here n c.args.name c.args.deleter _ _ c.requires.room.parts.stage_nodes (live_is_mine n c.args.name c.requires.live) c.begin_delete.ensures.lifetimes
