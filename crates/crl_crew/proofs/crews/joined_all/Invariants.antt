use Rattle.std.proofs.Common.{vec_len}
use Rattle.std.specs.List.{All}
use Rattle.crl_crew.specs.Working.{IsIdle}
use Rattle.crl_crew.specs.Tasks.{IsIdleEnd}
use Rattle.crl_crew.proofs.crews.joined_all.Given as goal

abbrev pub invariant-loop-end : goal.invariant-loop-end
invariant-loop-end g l = IsIdle l.nodes l.pass × All (IsIdleEnd l.nodes) l.ends.items

abbrev pub decreases-loop-end : goal.decreases-loop-end
decreases-loop-end g l = vec_len l.ends
