use Rattle.std.proofs.Common.{◌≡◌, map}
use Rattle.crl_world.specs.Seen.{first_nodes}
use Rattle.crl_world.proofs.starting.new_members.Given as goal

abbrev pub invariant-loop-me : goal.invariant-loop-me
invariant-loop-me g l = map g.N.Member.state l.members.items ≡ first_nodes l.nodes l.capacity 0 l.me
