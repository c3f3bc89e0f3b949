use Rattle.std.proofs.Common.{◌≡◌, ◌++◌, map, vec_len}
use Rattle.crl_protocol.specs.Node.{Node}
use Rattle.crl_journal.specs.Merging.{all_lists}
use Rattle.crl_world.proofs.world.World.into_records.Given as goal

abbrev pub invariant-loop-nodes : goal.invariant-loop-nodes
invariant-loop-nodes g l = all_lists l.lists.items ++ map (λ (n : Node). n.records) (map g.N.Member.state l.nodes.items) ≡ map (λ (n : Node). n.records) (map g.N.Member.state l.initial.nodes.items)

abbrev pub decreases-loop-nodes : goal.decreases-loop-nodes
decreases-loop-nodes g l = vec_len l.nodes
