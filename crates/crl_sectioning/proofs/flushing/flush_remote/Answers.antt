use Rattle.crl_remote.specs.RemotesState.{row_at}
use Rattle.crl_desk.specs.Desks.{state}
use Rattle.crl_sectioning.proofs.Flushes.{remote_flushed, remote_flush_done}
use Rattle.crl_sectioning.proofs.flushing.flush_remote.Goals as goal

pub returns-clause-state : goal.returns-clause-state
returns-clause-state c =
    remote_flushed c.args.at c.args.name (state c.args.desk.now) _ (row_at c.args.name c.args.desk.now.remotes) _ _ _ c.requires.room.parts.remote c.requires.away c.requires.there
    c.flush.ensures.row.rows c.flush.ensures.posts c.record.ensures.state

pub returns-clause-answer : goal.returns-clause-answer
returns-clause-answer c = rw c.record.ensures.answer (remote_flush_done c.args.name (state c.args.desk.now) (row_at c.args.name c.args.desk.now.remotes) c.requires.away c.requires.there)
