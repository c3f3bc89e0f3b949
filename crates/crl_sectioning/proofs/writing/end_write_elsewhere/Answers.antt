use Rattle.std.proofs.Common.{refl}
use Rattle.crl_model.specs.declared.entry.What.TheVariants as what
use Rattle.crl_protocol.specs.Home.{home_ends_write}
use Rattle.crl_protocol.specs.Remote.{remote_ends_write}
use Rattle.crl_protocol.specs.Sections.{bytes_at}
use Rattle.crl_remote.specs.RemotesState.{row_at, end_write_step}
use Rattle.crl_desk.specs.Desks.{state}
use Rattle.crl_sectioning.proofs.Closes.{remote_ends, remote_end_done}
use Rattle.crl_sectioning.proofs.writing.end_write_elsewhere.Goals as goal

pub returns-clause-state : goal.returns-clause-state
returns-clause-state c =
    remote_ends c.args.at c.args.name (what.Write c.args.name (bytes_at c.args.name (state c.args.desk.now).sections) c.args.bytes) c.close-what.result (home_ends_write c.args.desk.now.me c.args.bytes) (remote_ends_write c.args.bytes) (state c.args.desk.now) _
    (row_at c.args.name c.args.desk.now.remotes) (end_write_step c.args.name c.args.bytes c.args.desk.now.remotes) c.args.desk.now.remotes.me _ _ _
    c.requires.room.parts.remote c.requires.away c.requires.there refl
    c.close-what.ensures.what c.close-what.ensures.sections c.end_write.ensures.row.rows c.end_write.ensures.posts c.record.ensures.state

pub returns-clause-answer : goal.returns-clause-answer
returns-clause-answer c =
    rw c.record.ensures.answer (remote_end_done c.args.name (what.Write c.args.name (bytes_at c.args.name (state c.args.desk.now).sections) c.args.bytes) (home_ends_write c.args.desk.now.me c.args.bytes) (remote_ends_write c.args.bytes) (state c.args.desk.now) (row_at c.args.name c.args.desk.now.remotes) c.requires.away c.requires.there)
