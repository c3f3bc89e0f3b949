-- What the machine's tables keep, and what they stand for.
use Rattle.std.specs.Prelude.{ℕ, Bool, false, ◌==◌, nat_lt, List, [], slice_get, count_by}
use Rattle.std.specs.Option.{option_map_or}
use Rattle.std.specs.declared.option.Option.{Option}
use Rattle.std.specs.declared.option.Option.TheVariants.{None, Some}
use Rattle.crl_model.specs.declared.name.Name.{Name}
use Rattle.crl_model.specs.declared.collective.Part.{Part}
use Rattle.crl_machine.specs.declared.share.Share.{Share}
use Rattle.crl_machine.specs.declared.node_row.NodeRow.{NodeRow}

-- a node that never mapped the region
abbrev pub blank : Share
blank = record { maps = 0; reads = 0 }

abbrev pub is_reading : Share → Bool
is_reading s = nat_lt 0 s.reads

-- how many nodes have read sections open
abbrev pub readers_of : List Share → ℕ
readers_of shares = count_by is_reading shares

abbrev pub is_writer : Option ℕ → ℕ → Bool
is_writer None n = false
is_writer (Some m) n = m == n

-- what a node keeps of itself, by the list of the nodes' rows
abbrev pub used_at : List NodeRow → ℕ → ℕ
used_at rows n = option_map_or (λ (d : NodeRow). d.used) (slice_get rows n) 0

abbrev pub came_at : List NodeRow → ℕ → List Part
came_at rows n = option_map_or (λ (d : NodeRow). d.came.items) (slice_get rows n) []

abbrev pub told_at : List NodeRow → ℕ → ℕ
told_at rows n = option_map_or (λ (d : NodeRow). d.told) (slice_get rows n) 0

abbrev pub deletes_at : List NodeRow → ℕ → Option Name
deletes_at rows n = option_map_or (λ (d : NodeRow). d.deletes) (slice_get rows n) None
