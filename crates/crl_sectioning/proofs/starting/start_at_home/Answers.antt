use Rattle.std.proofs.Common.{◌∙◌, refl, sym, ap, subst}
use Rattle.std.specs.Prelude.{IsSome}
use Rattle.crl_table.specs.Tables.{table_of}
use Rattle.crl_home.specs.HomesState.{table_or, table_at}
use Rattle.crl_desk.specs.Desks.{state, size_at}
use Rattle.crl_sectioning.specs.Starts.{SectionMayOpen}
use Rattle.crl_sectioning.proofs.Begins.{papers_fit}
use Rattle.crl_sectioning.proofs.HomeStarts.{own_is_there, own_size, start_is_put, start_keeps_size, home_opens, home_answers}
use Rattle.crl_sectioning.proofs.starting.start_at_home.Goals as goal

pub open_at_home-requires-clause-there : goal.open_at_home-requires-clause-there
open_at_home-requires-clause-there c =
    subst (λ o. IsSome o) (sym (start_is_put c.args.name c.args.write c.args.desk.now.homes c.start.new.self (own_is_there c.args.name (state c.args.desk.now) _ c.requires.mine c.requires.there) c.start.ensures.homes)) refl

pub open_at_home-requires-clause-papers : goal.open_at_home-requires-clause-papers
open_at_home-requires-clause-papers c =
    papers_fit _ (size_at c.args.name c.args.desk.now) c.args.kit c.requires.ready.papers
    (start_keeps_size c.args.name c.args.write c.args.desk.now.homes c.start.new.self (own_is_there c.args.name (state c.args.desk.now) _ c.requires.mine c.requires.there) c.start.ensures.homes
    ∙ sym (own_size c.args.name (state c.args.desk.now) (table_at c.args.name c.args.desk.now.homes.homes) c.requires.mine c.requires.there))

pub open_at_home-requires-clause-may : goal.open_at_home-requires-clause-may
open_at_home-requires-clause-may c =
    subst (λ size. SectionMayOpen c.args.write size (table_of c.args.desk.now.sections.rows c.args.name))
    (sym (start_keeps_size c.args.name c.args.write c.args.desk.now.homes c.start.new.self (own_is_there c.args.name (state c.args.desk.now) _ c.requires.mine c.requires.there) c.start.ensures.homes)) c.requires.lets.may

pub returns-then-start-clause-state : goal.returns-then-start-clause-state
returns-then-start-clause-state c =
    home_opens c.args.at c.args.write c.args.name (state c.args.desk.now) _ (table_at c.args.name c.args.desk.now.homes.homes) c.args.desk.now.homes.me c.start.new.self.homes _ _
    c.requires.ready.room.parts.home c.requires.there (ap (λ s. s.homes) c.start.ensures.homes) c.start.ensures.posts
    (ap (λ o. (table_or o).bytes) (start_is_put c.args.name c.args.write c.args.desk.now.homes c.start.new.self (own_is_there c.args.name (state c.args.desk.now) _ c.requires.mine c.requires.there) c.start.ensures.homes))
    (sym c.start.ensures.opened ∙ c.if-start.true) c.open_at_home.ensures.state

pub returns-then-start-clause-answer : goal.returns-then-start-clause-answer
returns-then-start-clause-answer c =
    home_answers c.args.write c.args.name (state c.args.desk.now) _ (table_at c.args.name c.args.desk.now.homes.homes) c.args.desk.now.homes.me c.start.new.self.homes c.start.new.out.list _
    c.requires.ready.room.parts.home c.requires.there
    (ap (λ o. (table_or o).bytes) (start_is_put c.args.name c.args.write c.args.desk.now.homes c.start.new.self (own_is_there c.args.name (state c.args.desk.now) _ c.requires.mine c.requires.there) c.start.ensures.homes))
    (sym c.start.ensures.opened ∙ c.if-start.true) c.open_at_home.ensures.answer
