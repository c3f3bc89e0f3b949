use Rattle.std.proofs.Common.{map}
use Rattle.std.specs.List.{All}
use Rattle.crl_crew.specs.Working.{IsIdle}
use Rattle.crl_crew.specs.Tasks.{IsReady}
use Rattle.crl_crew.proofs.crews.workers_for.Given as goal

abbrev pub invariant-loop-first : goal.invariant-loop-first
invariant-loop-first g l = IsIdle l.nodes l.pass × All (IsReady l.nodes (map (λ b. b.items) l.blocks)) l.crew.items
