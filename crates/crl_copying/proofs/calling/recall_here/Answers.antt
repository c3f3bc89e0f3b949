use Rattle.crl_remote.specs.RemotesState.{row_at}
use Rattle.crl_desk.specs.Desks.{state}
use Rattle.crl_copying.proofs.Recalls.{recall_law, row_is_there}
use Rattle.crl_copying.proofs.calling.recall_here.Goals as goal

pub returns-clause-state : goal.returns-clause-state
returns-clause-state c =
    recall_law _ _ _ _ (state c.args.desk.now) (row_at c.args.name c.args.desk.now.remotes) _ _ _ c.requires.room.parts.remote (row_is_there _ c.requires.there)
    c.take_recall.ensures.row.rows c.take_recall.ensures.posts
