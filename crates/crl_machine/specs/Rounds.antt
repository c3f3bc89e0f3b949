-- The parts with which the nodes came to rounds.
use Rattle.std.specs.Prelude.{ℕ, List, map, slice_index_or}
use Rattle.crl_machine.specs.declared.node_row.NodeRow.{NodeRow}
use Rattle.crl_model.specs.declared.collective.Part.{Part}

-- the parts with which each node came to its rounds
abbrev pub cames : List NodeRow → List (List Part)
cames rows = map (λ (d : NodeRow). d.came.items) rows

-- of each node its part in the round with k before it; one that didn't come to it brings the last one
abbrev pub parts_in : Part → ℕ → List (List Part) → List Part
parts_in last k came = map (λ parts. slice_index_or parts k last) came
