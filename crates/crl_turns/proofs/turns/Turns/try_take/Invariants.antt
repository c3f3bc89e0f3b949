use Rattle.crl_turns.proofs.turns.Turns.try_take.Given as goal

abbrev pub ghosts-try_take_as : goal.ghosts-try_take_as
ghosts-try_take_as g a = record { shape = a.self.now.table.shared.key }
