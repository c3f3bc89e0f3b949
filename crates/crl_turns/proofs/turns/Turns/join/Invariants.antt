use Rattle.crl_turns.proofs.turns.Turns.join.Given as goal

abbrev pub ghosts-join_as : goal.ghosts-join_as
ghosts-join_as g a = record { shape = a.self.now.table.shared.key }
