-- The state of the single machine that the code's machine stands for.
use Rattle.std.specs.Prelude.{ℕ, List, [], false}
use Rattle.std.specs.Option.{option_map_or}
use Rattle.std.specs.declared.option.Option.{Option}
use Rattle.crl_model.specs.declared.name.Name.{Name}
use Rattle.crl_model.specs.declared.stage.Stage.TheVariants.{Unknown}
use Rattle.crl_machine.specs.declared.share.Share.{Share}
use Rattle.crl_machine.specs.declared.region.Region.{Region}
use Rattle.crl_machine.specs.declared.node_row.NodeRow.{NodeRow}
use Rattle.crl_machine.specs.declared.machine.Machine.{Machine}
use Rattle.crl_table.specs.Tables.{table_of}
use Rattle.crl_machine.specs.Contents.{bytes_of, share_at}
use Rattle.crl_machine.specs.Tables.{blank, is_writer, used_at, came_at, told_at}
use Rattle.crl_machine.specs.SingleMachine.{State}

-- what the node has of the region of the name
abbrev pub share_of : (Name → Option Region) → ℕ → Name → Share
share_of region n name = option_map_or (λ (r : Region). share_at r n) (region name) blank

-- the state that stands in a table of regions and a list of rows
abbrev pub state_of : ℕ → (Name → Option Region) → List NodeRow → State
state_of nodes region rows = record {
  nodes = nodes;
  stage = λ name. option_map_or (λ (r : Region). r.stage) (region name) Unknown;
  bytes = λ name. option_map_or bytes_of (region name) [];
  used = used_at rows;
  maps = λ n name. (share_of region n name).maps;
  reads = λ n name. (share_of region n name).reads;
  writes = λ n name. option_map_or (λ (r : Region). is_writer r.writer n) (region name) false;
  came = came_at rows;
  told = told_at rows;
}

unfoldable pub state : Machine → State
state m = state_of m.nodes (table_of m.regions) m.rows.items
