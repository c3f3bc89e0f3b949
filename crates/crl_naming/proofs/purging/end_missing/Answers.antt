use Rattle.crl_desk.specs.Desks.{state}
use Rattle.crl_naming.proofs.Deletes.{ended_here, missing_is_mine}
use Rattle.crl_naming.proofs.purging.end_missing.Goals as goal

pub returns-clause-lifetime : goal.returns-clause-lifetime
returns-clause-lifetime c =
    let n = state c.args.desk.now in
    ended_here n c.args.name c.args.from _ _ c.requires.room.parts.stage_nodes (missing_is_mine n c.args.name c.args.from c.requires.missing) c.take_purged.ensures.lifetimes
