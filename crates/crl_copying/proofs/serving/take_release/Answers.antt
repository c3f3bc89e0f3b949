use Rattle.std.proofs.Common.{refl, sym, ◌∙◌, arith, ◌+◌}
use Rattle.crl_home.specs.HomesState.{table_at}
use Rattle.crl_home.proofs.Laws.{release_size}
use Rattle.crl_desk.specs.Desks.{state, size_at}
use Rattle.crl_pieces.specs.Pieces.{count}
use Rattle.crl_copying.proofs.Homes.{home_is_some, home_is_table, table_has_size, put_some, room_after, papers_after, closed_if_queued, versions_fit}
use Rattle.crl_copying.proofs.Queues.{release_opens}
use Rattle.crl_copying.proofs.Served.{release_law}
use Rattle.crl_copying.proofs.serving.take_release.Goals as goal

pub take_release-opened-requires-clause-versions : goal.take_release-opened-requires-clause-versions
take_release-opened-requires-clause-versions c = omega (arith, versions_fit (state c.args.desk.now) c.args.name c.requires.meets.0 c.requires.safe c.requires.meets.1)

pub open_if_served-requires-clause-room : goal.open_if_served-requires-clause-room
open_if_served-requires-clause-room c =
    room_after c.args.desk.now c.args.name _ _ _ (count (size_at c.args.name c.args.desk.now) + 2) c.requires.ready.room c.take_release-opened.ensures.homes c.take_release-opened.ensures.serials c.take_release-opened.ensures.places
    (omega (arith, c.take_release-opened.ensures.owes))

pub open_if_served-requires-clause-there : goal.open_if_served-requires-clause-there
open_if_served-requires-clause-there c = put_some c.args.name _ c.args.desk.now.homes _ (home_is_some (state c.args.desk.now) c.args.name c.requires.meets.0 c.requires.meets.1) c.take_release-opened.ensures.homes

pub open_if_served-requires-clause-papers : goal.open_if_served-requires-clause-papers
open_if_served-requires-clause-papers c =
    papers_after _ c.args.name _ c.args.desk.now.homes _ c.args.kit c.requires.ready.papers (home_is_some (state c.args.desk.now) c.args.name c.requires.meets.0 c.requires.meets.1) c.take_release-opened.ensures.homes
    (release_size _ _ _ _ (table_at c.args.name c.args.desk.now.homes.homes) ∙ table_has_size (state c.args.desk.now) c.args.name c.requires.meets.0 c.requires.meets.1)

pub open_if_served-requires-clause-closed : goal.open_if_served-requires-clause-closed
open_if_served-requires-clause-closed c = λ opened.
    closed_if_queued (state c.args.desk.now) c.args.name c.requires.meets.0 _ _ c.requires.safe c.requires.meets.1 c.requires.ready.room.parts.home (home_is_table (state c.args.desk.now) c.args.name c.requires.meets.0 c.requires.meets.1)
    (release_opens _ _ _ _ (table_at c.args.name c.args.desk.now.homes.homes) (sym c.take_release-opened.ensures.opened ∙ opened))

pub returns-clause-state : goal.returns-clause-state
returns-clause-state c =
    release_law _ _ _ _ _ (state c.args.desk.now) c.requires.meets.0 c.args.desk.now.homes _ _ _ _ c.requires.meets.1 c.requires.meets.2 refl c.requires.ready.room.parts.home
    c.take_release-opened.ensures.homes c.take_release-opened.ensures.posts c.take_release-opened.ensures.opened c.open_if_served.ensures.state
