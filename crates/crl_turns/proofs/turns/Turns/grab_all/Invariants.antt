use Rattle.crl_turns.proofs.turns.Turns.grab_all.Given as goal

abbrev pub ghosts-grab_all_as : goal.ghosts-grab_all_as
ghosts-grab_all_as g a = record { shape = a.self.now.table.shared.key }
