use Rattle.crl_meeting.proofs.coming.come_first.Goals as goal

pub tell_all-requires-clause-folds : goal.tell_all-requires-clause-folds
tell_all-requires-clause-folds c = rw c.gather.ensures.nodes (c.in-Some.ensures.papers c.args.folds c.requires.folds)
