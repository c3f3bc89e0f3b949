use Rattle.std.proofs.Common.{◌≡◌, ◌-◌, ◌++◌}
use Rattle.crl_gen.specs.Making.{each_from, map_of}
use Rattle.crl_gen.proofs.rounds.push_maps.Given as goal

abbrev pub invariant-loop-region : goal.invariant-loop-region
invariant-loop-region l = l.block.items ++ each_from (map_of l.nodes) l.region (l.regions - l.region) ≡ l.fn.block.items ++ each_from (map_of l.nodes) 0 l.regions
