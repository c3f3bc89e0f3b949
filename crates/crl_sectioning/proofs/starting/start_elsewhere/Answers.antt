use Rattle.std.proofs.Common.{◌∙◌, sym, ap, subst}
use Rattle.crl_protocol.specs.Remote.{Remote}
use Rattle.crl_protocol.specs.Sectioning.{copy_bytes}
use Rattle.crl_table.specs.Tables.{table_of}
use Rattle.crl_remote.specs.RemotesState.{row_at}
use Rattle.crl_desk.specs.Desks.{state, size_at}
use Rattle.crl_sectioning.specs.Starts.{SectionMayOpen}
use Rattle.crl_sectioning.proofs.Begins.{papers_fit}
use Rattle.crl_sectioning.proofs.RemoteStarts.{away_size, row_after_start, start_keeps_size, start_has_copy, remote_opens, remote_answers}
use Rattle.crl_sectioning.proofs.starting.start_elsewhere.Goals as goal

pub open_elsewhere-requires-clause-copy : goal.open_elsewhere-requires-clause-copy
open_elsewhere-requires-clause-copy c = start_has_copy c.args.name c.args.write c.args.desk.now.remotes c.start.new.self c.start.ensures.row (sym c.start.ensures.opened ∙ c.if-start.true)

pub open_elsewhere-requires-clause-papers : goal.open_elsewhere-requires-clause-papers
open_elsewhere-requires-clause-papers c =
    papers_fit _ (size_at c.args.name c.args.desk.now) c.args.kit c.requires.ready.papers
    (start_keeps_size c.args.name c.args.write c.args.desk.now.remotes c.start.new.self c.start.ensures.row
    ∙ sym (away_size c.args.name (state c.args.desk.now) (row_at c.args.name c.args.desk.now.remotes) c.requires.away c.requires.there))

pub open_elsewhere-requires-clause-may : goal.open_elsewhere-requires-clause-may
open_elsewhere-requires-clause-may c =
    subst (λ size. SectionMayOpen c.args.write size (table_of c.args.desk.now.sections.rows c.args.name))
    (sym (start_keeps_size c.args.name c.args.write c.args.desk.now.remotes c.start.new.self c.start.ensures.row)) c.requires.lets.may

pub returns-then-start-clause-state : goal.returns-then-start-clause-state
returns-then-start-clause-state c =
    remote_opens c.args.at c.args.write c.args.name (state c.args.desk.now) _ (row_at c.args.name c.args.desk.now.remotes) c.args.desk.now.remotes.me _ _ _
    c.requires.ready.room.parts.remote c.requires.away c.requires.there c.start.ensures.row.rows c.start.ensures.posts
    (ap (λ (r : Remote). copy_bytes r.copy) (row_after_start c.args.name c.args.write c.args.desk.now.remotes c.start.new.self c.start.ensures.row))
    (sym c.start.ensures.opened ∙ c.if-start.true) c.open_elsewhere.ensures.state

pub returns-then-start-clause-answer : goal.returns-then-start-clause-answer
returns-then-start-clause-answer c =
    remote_answers c.args.write c.args.name (state c.args.desk.now) _ (row_at c.args.name c.args.desk.now.remotes) (table_of c.start.new.self.rows) c.start.new.out.list _
    c.requires.away c.requires.there
    (ap (λ (r : Remote). copy_bytes r.copy) (row_after_start c.args.name c.args.write c.args.desk.now.remotes c.start.new.self c.start.ensures.row))
    (sym c.start.ensures.opened ∙ c.if-start.true) c.open_elsewhere.ensures.answer
