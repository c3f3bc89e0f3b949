use Rattle.crl_gathering.proofs.tally.Tally.add.Goals as goal

pub returns-in-Start-default-clause-within : goal.returns-in-Start-default-clause-within
returns-in-Start-default-clause-within c = λ n h. c.first_tally.ensures.within n
