use Rattle.crl_meeting.proofs.Rooms.{fits_papers}
use Rattle.crl_meeting.proofs.coming.gather.Goals as goal

pub returns-clause-papers : goal.returns-clause-papers
returns-clause-papers c =
    fits_papers c.args.node c.args.desk.now.nodes c.args.part c.args.desk.now.round c.contribute.result c.contribute.ensures.fold c.contribute.ensures.bytes
