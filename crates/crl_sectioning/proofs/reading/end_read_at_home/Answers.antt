use Rattle.std.proofs.Common.{ap}
use Rattle.crl_model.specs.declared.entry.What.TheVariants as what
use Rattle.crl_protocol.specs.Home.{home_ends_read}
use Rattle.crl_protocol.specs.Remote.{remote_ends_read}
use Rattle.crl_protocol.specs.Sections.{bytes_at}
use Rattle.crl_home.specs.HomesState.{table_at, end_read_step}
use Rattle.crl_desk.specs.Desks.{state}
use Rattle.crl_sectioning.proofs.Closes.{home_ends, home_end_done}
use Rattle.crl_sectioning.proofs.reading.end_read_at_home.Goals as goal

pub returns-clause-state : goal.returns-clause-state
returns-clause-state c =
    home_ends c.args.at c.args.name (what.Read c.args.name (bytes_at c.args.name (state c.args.desk.now).sections)) (what.Read c.args.name c.args.seen) (home_ends_read c.args.desk.now.me) remote_ends_read (state c.args.desk.now) _
    (table_at c.args.name c.args.desk.now.homes.homes) (end_read_step c.args.name c.args.desk.now.homes) c.args.desk.now.homes.me _ _ _
    c.requires.room.parts.home c.requires.there (ap (λ me. home_ends_read me (table_at c.args.name c.args.desk.now.homes.homes)) c.requires.room.parts.home)
    (ap (λ bytes. what.Read c.args.name bytes) c.requires.seen) c.end_read.ensures.sections (ap (λ s. s.homes) c.end_read-2.ensures.homes) c.end_read-2.ensures.posts c.record.ensures.state

pub returns-clause-answer : goal.returns-clause-answer
returns-clause-answer c =
    rw c.record.ensures.answer (home_end_done c.args.name (what.Read c.args.name c.args.seen) (home_ends_read c.args.desk.now.me) remote_ends_read (state c.args.desk.now) (table_at c.args.name c.args.desk.now.homes.homes) c.requires.there)
