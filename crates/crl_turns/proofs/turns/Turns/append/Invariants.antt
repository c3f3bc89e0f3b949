use Rattle.crl_turns.proofs.turns.Turns.append.Given as goal

abbrev pub ghosts-add_as-S-NamedShape : goal.ghosts-add_as-S-NamedShape
ghosts-add_as-S-NamedShape g a = record { shape = a.self.now.table.shared.key }

abbrev pub ghosts-add_as-J-NamedEvent : goal.ghosts-add_as-J-NamedEvent
ghosts-add_as-J-NamedEvent g a = record { event = g.E.Evented.event a.event.now }
