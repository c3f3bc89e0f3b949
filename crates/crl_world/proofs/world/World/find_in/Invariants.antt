use Rattle.std.proofs.Common.{◌≡◌, ◌+◌, length}
use Rattle.crl_world.specs.Seen.{world_seen}
use Rattle.crl_world.specs.Choosing.{choices_in, row_from, left_in}
use Rattle.crl_world.proofs.world.World.find_in.Given as goal

abbrev pub invariant-loop-i : goal.invariant-loop-i
invariant-loop-i g l = l.k ≡ length (row_from (choices_in l.rows (left_in l.left) (world_seen g.N.Member.state l.self)) 0 l.i) + l.rest
