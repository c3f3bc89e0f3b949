use Rattle.crl_meeting.proofs.telling.take_part.Goals as goal

pub tell_others-requires-clause-papers : goal.tell_others-requires-clause-papers
tell_others-requires-clause-papers c = rw c.gather.ensures.nodes (c.in-Some.ensures.papers c.args.papers c.requires.ready.folds)
