-- The lifetime that one row keeps.
use Rattle.std.specs.Prelude.{ℕ, ◌<◌, ◌^◌}
use Rattle.crl_protocol.specs.Lifetimes.{Lifetime}
use Rattle.crl_stages.specs.declared.row.Row.{Row}
use Rattle.crl_stages.specs.NodeSets.{has_node}

abbrev pub row_lifetime : Row → Lifetime
row_lifetime row = record { stage = row.stage; asked = has_node row.asked; missing = has_node row.missing }

-- only nodes below the number of nodes are in the sets
abbrev pub RowFits : ℕ → Row → Type 0
RowFits nodes row = (row.asked < 2 ^ nodes) × (row.missing < 2 ^ nodes)
