-- Worked runs: runs that end with nodes that wait.
use Rattle.std.specs.Prelude.{List, [], ◌∷◌}
use Rattle.crl_model.specs.declared.entry.What.TheVariants as what
use Rattle.crl_model.specs.declared.blocked.Blocked.TheVariants as blocked
use Rattle.crl_model.specs.declared.collective.Part.TheVariants as part
use Rattle.crl_model.specs.declared.collective.Fold.TheVariants as fold
use Rattle.crl_model.specs.declared.statement.Statement.{Statement}
use Rattle.crl_protocol.specs.Ends.{Reported}
use Rattle.crl_protocol.specs.Worked.Words.{r0_1, r0_2, create, map, read, write, endwrite, barrier, by}

-- A reader that never ends blocks a writer.
abbrev pub reader_blocks_script : List (List Statement)
reader_blocks_script =
    (create 1 ∷ map r0_1 ∷ read r0_1 ∷ [])
    ∷ (map r0_1 ∷ write r0_1 ∷ [])
    ∷ []

abbrev pub reader_blocks_report : Reported
reader_blocks_report = record {
  entries =
      by 0 (what.Create r0_1 1)
      ∷ by 0 (what.Map r0_1 1)
      ∷ by 0 (what.StartRead r0_1)
      ∷ by 1 (what.Map r0_1 1)
      ∷ [];
  regions = [];
  blocked = blocked.Region 1 r0_1 0 ∷ [];
  events = 12;
  messages = 3;
}

-- A node waits in a round to which another never comes.
abbrev pub absent_node_script : List (List Statement)
absent_node_script =
    (barrier ∷ [])
    ∷ ([])
    ∷ []

abbrev pub absent_node_report : Reported
absent_node_report = record {
  entries =
      by 0 (what.Come part.Barrier)
      ∷ [];
  regions = [];
  blocked = blocked.Round 0 1 1 ∷ [];
  events = 1;
  messages = 0;
}

-- Two nodes wait for each other.
abbrev pub each_other_script : List (List Statement)
each_other_script =
    (create 1 ∷ create 1 ∷ map r0_1 ∷ map r0_2 ∷ barrier ∷ write r0_1 ∷ barrier ∷ write r0_2 ∷ endwrite r0_2 ∷ endwrite r0_1 ∷ [])
    ∷ (barrier ∷ map r0_1 ∷ map r0_2 ∷ write r0_2 ∷ barrier ∷ write r0_1 ∷ endwrite r0_1 ∷ endwrite r0_2 ∷ [])
    ∷ []

abbrev pub each_other_report : Reported
each_other_report = record {
  entries =
      by 0 (what.Create r0_1 1)
      ∷ by 0 (what.Create r0_2 1)
      ∷ by 0 (what.Map r0_1 1)
      ∷ by 0 (what.Map r0_2 1)
      ∷ by 0 (what.Come part.Barrier)
      ∷ by 1 (what.Come part.Barrier)
      ∷ by 0 (what.Came 1 fold.Barrier)
      ∷ by 0 (what.StartWrite r0_1)
      ∷ by 0 (what.Come part.Barrier)
      ∷ by 1 (what.Came 1 fold.Barrier)
      ∷ by 1 (what.Map r0_1 1)
      ∷ by 1 (what.Map r0_2 1)
      ∷ by 1 (what.StartWrite r0_2)
      ∷ by 1 (what.Come part.Barrier)
      ∷ by 0 (what.Came 2 fold.Barrier)
      ∷ by 1 (what.Came 2 fold.Barrier)
      ∷ [];
  regions = [];
  blocked = blocked.Region 0 r0_2 1 ∷ blocked.Region 1 r0_1 0 ∷ [];
  events = 45;
  messages = 12;
}

-- Two readers block a writer: the least of them is named.
abbrev pub two_readers_block_script : List (List Statement)
two_readers_block_script =
    (create 1 ∷ map r0_1 ∷ read r0_1 ∷ [])
    ∷ (map r0_1 ∷ read r0_1 ∷ [])
    ∷ (map r0_1 ∷ write r0_1 ∷ [])
    ∷ []

abbrev pub two_readers_block_report : Reported
two_readers_block_report = record {
  entries =
      by 0 (what.Create r0_1 1)
      ∷ by 0 (what.Map r0_1 1)
      ∷ by 0 (what.StartRead r0_1)
      ∷ by 1 (what.Map r0_1 1)
      ∷ by 1 (what.StartRead r0_1)
      ∷ by 2 (what.Map r0_1 1)
      ∷ [];
  regions = [];
  blocked = blocked.Region 2 r0_1 0 ∷ [];
  events = 26;
  messages = 8;
}
