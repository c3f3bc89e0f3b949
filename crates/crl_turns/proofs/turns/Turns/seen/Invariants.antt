use Rattle.crl_turns.proofs.turns.Turns.seen.Given as goal

abbrev pub ghosts-look_as : goal.ghosts-look_as
ghosts-look_as g a = record { shape = a.self.now.table.shared.key }
