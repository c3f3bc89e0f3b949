use Rattle.std.proofs.Common.{map}
use Rattle.crl_crew.proofs.crew.work.Given as goal

abbrev pub ghosts-work_as : goal.ghosts-work_as
ghosts-work_as g a = record { blocks = map (λ b. b.items) a.blocks.now }
