use Rattle.std.proofs.Common.{◌≡◌, ◌+◌, ◌≤◌, ◌++◌, map, vec_capacity, vec_len}
use Rattle.crl_cluster.specs.declared.behind.Behind.{Behind}
use Rattle.crl_cluster.proofs.closing.taken_apart.Given as goal

abbrev pub invariant-loop-values : goal.invariant-loop-values
invariant-loop-values g l =
    (l.nodes.items ++ map (λ (b : Behind g.row.N.Denot g.row.T.Denot). b.node) l.values.items ≡ map (λ (b : Behind g.row.N.Denot g.row.T.Denot). b.node) l.initial.values.items)
    × (l.luggage.items ++ map (λ (b : Behind g.row.N.Denot g.row.T.Denot). b.luggage) l.values.items ≡ map (λ (b : Behind g.row.N.Denot g.row.T.Denot). b.luggage) l.initial.values.items)
    × (vec_len l.nodes + vec_len l.values ≤ vec_capacity l.nodes) × (vec_len l.luggage + vec_len l.values ≤ vec_capacity l.luggage)

abbrev pub decreases-loop-values : goal.decreases-loop-values
decreases-loop-values g l = vec_len l.values
