use Rattle.std.proofs.Common.{refl, ap}
use Rattle.crl_model.specs.declared.entry.What.TheVariants as what
use Rattle.crl_protocol.specs.Home.{home_ends_read}
use Rattle.crl_protocol.specs.Remote.{remote_ends_read}
use Rattle.crl_protocol.specs.Sections.{bytes_at}
use Rattle.crl_remote.specs.RemotesState.{row_at, end_read_step}
use Rattle.crl_desk.specs.Desks.{state}
use Rattle.crl_sectioning.proofs.Closes.{remote_ends, remote_end_done}
use Rattle.crl_sectioning.proofs.reading.end_read_elsewhere.Goals as goal

pub returns-clause-state : goal.returns-clause-state
returns-clause-state c =
    remote_ends c.args.at c.args.name (what.Read c.args.name (bytes_at c.args.name (state c.args.desk.now).sections)) (what.Read c.args.name c.args.seen) (home_ends_read c.args.desk.now.me) remote_ends_read (state c.args.desk.now) _
    (row_at c.args.name c.args.desk.now.remotes) (end_read_step c.args.name c.args.desk.now.remotes) c.args.desk.now.remotes.me _ _ _
    c.requires.room.parts.remote c.requires.away c.requires.there refl
    (ap (λ bytes. what.Read c.args.name bytes) c.requires.seen) c.end_read.ensures.sections c.end_read-2.ensures.row.rows c.end_read-2.ensures.posts c.record.ensures.state

pub returns-clause-answer : goal.returns-clause-answer
returns-clause-answer c =
    rw c.record.ensures.answer (remote_end_done c.args.name (what.Read c.args.name c.args.seen) (home_ends_read c.args.desk.now.me) remote_ends_read (state c.args.desk.now) (row_at c.args.name c.args.desk.now.remotes) c.requires.away c.requires.there)
