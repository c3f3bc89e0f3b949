-- Worked runs: copies that go back and forth, with messages that overtake each other.
use Rattle.std.specs.Prelude.{ℕ, List, [], ◌∷◌, ◌++◌, replicate}
use Rattle.crl_model.specs.declared.entry.What.TheVariants as what
use Rattle.crl_model.specs.declared.collective.Part.TheVariants as part
use Rattle.crl_model.specs.declared.collective.Fold.TheVariants as fold
use Rattle.crl_model.specs.declared.statement.Statement.{Statement}
use Rattle.crl_protocol.specs.Chosen.{pick_at}
use Rattle.crl_protocol.specs.Ends.{Reported}
use Rattle.crl_protocol.specs.Worked.Words.{r0_1, create, map, unmap, flush, read, endread, write, endwrite, change, barrier, by, holds}

-- A node writes a region of another home.
abbrev pub write_elsewhere_script : List (List Statement)
write_elsewhere_script =
    (create 1 ∷ [])
    ∷ (map r0_1 ∷ write r0_1 ∷ change r0_1 0 (5 ∷ []) ∷ endwrite r0_1 ∷ [])
    ∷ []

abbrev pub write_elsewhere_report : Reported
write_elsewhere_report = record {
  entries =
      by 0 (what.Create r0_1 1)
      ∷ by 1 (what.Map r0_1 1)
      ∷ by 1 (what.StartWrite r0_1)
      ∷ by 1 (what.Write r0_1 (0 ∷ []) (5 ∷ []))
      ∷ [];
  regions = holds r0_1 (5 ∷ []) ∷ [];
  blocked = [];
  events = 14;
  messages = 4;
}

-- A copy is recalled while it is read twice over: it goes back at the second end.
abbrev pub nested_reads_script : List (List Statement)
nested_reads_script =
    (create 1 ∷ map r0_1 ∷ barrier ∷ barrier ∷ write r0_1 ∷ change r0_1 0 (1 ∷ []) ∷ endwrite r0_1 ∷ [])
    ∷ (barrier ∷ map r0_1 ∷ read r0_1 ∷ read r0_1 ∷ barrier ∷ endread r0_1 ∷ endread r0_1 ∷ [])
    ∷ []

abbrev pub nested_reads_order : ℕ → ℕ
nested_reads_order = pick_at (replicate 29 0 ++ 1 ∷ [])

abbrev pub nested_reads_report : Reported
nested_reads_report = record {
  entries =
      by 0 (what.Create r0_1 1)
      ∷ by 0 (what.Map r0_1 1)
      ∷ by 0 (what.Come part.Barrier)
      ∷ by 1 (what.Come part.Barrier)
      ∷ by 0 (what.Came 1 fold.Barrier)
      ∷ by 0 (what.Come part.Barrier)
      ∷ by 1 (what.Came 1 fold.Barrier)
      ∷ by 1 (what.Map r0_1 1)
      ∷ by 1 (what.StartRead r0_1)
      ∷ by 1 (what.StartRead r0_1)
      ∷ by 1 (what.Come part.Barrier)
      ∷ by 0 (what.Came 2 fold.Barrier)
      ∷ by 1 (what.Came 2 fold.Barrier)
      ∷ by 1 (what.Read r0_1 (0 ∷ []))
      ∷ by 1 (what.Read r0_1 (0 ∷ []))
      ∷ by 0 (what.StartWrite r0_1)
      ∷ by 0 (what.Write r0_1 (0 ∷ []) (1 ∷ []))
      ∷ [];
  regions = holds r0_1 (1 ∷ []) ∷ [];
  blocked = [];
  events = 40;
  messages = 10;
}

-- A recall comes before the grant of its version, and is kept.
abbrev pub early_recall_script : List (List Statement)
early_recall_script =
    (create 1 ∷ map r0_1 ∷ barrier ∷ write r0_1 ∷ endwrite r0_1 ∷ [])
    ∷ (barrier ∷ map r0_1 ∷ read r0_1 ∷ endread r0_1 ∷ [])
    ∷ []

abbrev pub early_recall_order : ℕ → ℕ
early_recall_order = pick_at (replicate 7 0 ++ replicate 12 1 ++ 0 ∷ 1 ∷ [])

abbrev pub early_recall_report : Reported
early_recall_report = record {
  entries =
      by 0 (what.Create r0_1 1)
      ∷ by 0 (what.Map r0_1 1)
      ∷ by 0 (what.Come part.Barrier)
      ∷ by 1 (what.Come part.Barrier)
      ∷ by 0 (what.Came 1 fold.Barrier)
      ∷ by 1 (what.Came 1 fold.Barrier)
      ∷ by 1 (what.Map r0_1 1)
      ∷ by 1 (what.StartRead r0_1)
      ∷ by 1 (what.Read r0_1 (0 ∷ []))
      ∷ by 0 (what.StartWrite r0_1)
      ∷ by 0 (what.Write r0_1 (0 ∷ []) (0 ∷ []))
      ∷ [];
  regions = holds r0_1 (0 ∷ []) ∷ [];
  blocked = [];
  events = 30;
  messages = 8;
}

-- A recall of an old version comes during a new ask, and is dropped at the grant.
abbrev pub stale_recall_script : List (List Statement)
stale_recall_script =
    (create 1 ∷ map r0_1 ∷ barrier ∷ write r0_1 ∷ change r0_1 0 (7 ∷ []) ∷ endwrite r0_1 ∷ [])
    ∷ (barrier ∷ map r0_1 ∷ read r0_1 ∷ endread r0_1 ∷ unmap r0_1 ∷ map r0_1 ∷ read r0_1 ∷ endread r0_1 ∷ [])
    ∷ []

abbrev pub stale_recall_order : ℕ → ℕ
stale_recall_order = pick_at (replicate 7 0 ++ replicate 16 1 ++ 0 ∷ 0 ∷ 2 ∷ 1 ∷ replicate 4 0 ++ 1 ∷ 0 ∷ 1 ∷ [])

abbrev pub stale_recall_report : Reported
stale_recall_report = record {
  entries =
      by 0 (what.Create r0_1 1)
      ∷ by 0 (what.Map r0_1 1)
      ∷ by 0 (what.Come part.Barrier)
      ∷ by 1 (what.Come part.Barrier)
      ∷ by 0 (what.Came 1 fold.Barrier)
      ∷ by 1 (what.Came 1 fold.Barrier)
      ∷ by 1 (what.Map r0_1 1)
      ∷ by 1 (what.StartRead r0_1)
      ∷ by 1 (what.Read r0_1 (0 ∷ []))
      ∷ by 1 (what.Unmap r0_1)
      ∷ by 0 (what.StartWrite r0_1)
      ∷ by 0 (what.Write r0_1 (0 ∷ []) (7 ∷ []))
      ∷ by 1 (what.Map r0_1 1)
      ∷ by 1 (what.StartRead r0_1)
      ∷ by 1 (what.Read r0_1 (7 ∷ []))
      ∷ [];
  regions = holds r0_1 (7 ∷ []) ∷ [];
  blocked = [];
  events = 44;
  messages = 12;
}

-- The home writes while a reader has its grant under way.
abbrev pub recall_before_map_script : List (List Statement)
recall_before_map_script =
    (create 1 ∷ map r0_1 ∷ write r0_1 ∷ endwrite r0_1 ∷ [])
    ∷ (map r0_1 ∷ read r0_1 ∷ endread r0_1 ∷ [])
    ∷ []

abbrev pub recall_before_map_order : ℕ → ℕ
recall_before_map_order = pick_at (0 ∷ replicate 9 1 ++ 0 ∷ 0 ∷ 1 ∷ [])

abbrev pub recall_before_map_report : Reported
recall_before_map_report = record {
  entries =
      by 0 (what.Create r0_1 1)
      ∷ by 1 (what.Map r0_1 1)
      ∷ by 0 (what.Map r0_1 1)
      ∷ by 1 (what.StartRead r0_1)
      ∷ by 1 (what.Read r0_1 (0 ∷ []))
      ∷ by 0 (what.StartWrite r0_1)
      ∷ by 0 (what.Write r0_1 (0 ∷ []) (0 ∷ []))
      ∷ [];
  regions = holds r0_1 (0 ∷ []) ∷ [];
  blocked = [];
  events = 22;
  messages = 6;
}

-- A flushed copy comes back after the next ask.
abbrev pub ask_before_return_script : List (List Statement)
ask_before_return_script =
    (create 1 ∷ barrier ∷ [])
    ∷ (barrier ∷ map r0_1 ∷ write r0_1 ∷ change r0_1 0 (5 ∷ []) ∷ endwrite r0_1 ∷ flush r0_1 ∷ read r0_1 ∷ endread r0_1 ∷ [])
    ∷ []

abbrev pub ask_before_return_order : ℕ → ℕ
ask_before_return_order = pick_at (replicate 25 0 ++ 1 ∷ [])

abbrev pub ask_before_return_report : Reported
ask_before_return_report = record {
  entries =
      by 0 (what.Create r0_1 1)
      ∷ by 0 (what.Come part.Barrier)
      ∷ by 1 (what.Come part.Barrier)
      ∷ by 0 (what.Came 1 fold.Barrier)
      ∷ by 1 (what.Came 1 fold.Barrier)
      ∷ by 1 (what.Map r0_1 1)
      ∷ by 1 (what.StartWrite r0_1)
      ∷ by 1 (what.Write r0_1 (0 ∷ []) (5 ∷ []))
      ∷ by 1 (what.Flush r0_1)
      ∷ by 1 (what.StartRead r0_1)
      ∷ by 1 (what.Read r0_1 (5 ∷ []))
      ∷ [];
  regions = holds r0_1 (5 ∷ []) ∷ [];
  blocked = [];
  events = 32;
  messages = 9;
}

-- The same, without a barrier before.
abbrev pub flush_then_read_script : List (List Statement)
flush_then_read_script =
    (create 1 ∷ [])
    ∷ (map r0_1 ∷ write r0_1 ∷ change r0_1 0 (5 ∷ []) ∷ endwrite r0_1 ∷ flush r0_1 ∷ read r0_1 ∷ endread r0_1 ∷ [])
    ∷ []

abbrev pub flush_then_read_order : ℕ → ℕ
flush_then_read_order = pick_at (replicate 17 0 ++ 1 ∷ [])

abbrev pub flush_then_read_report : Reported
flush_then_read_report = record {
  entries =
      by 0 (what.Create r0_1 1)
      ∷ by 1 (what.Map r0_1 1)
      ∷ by 1 (what.StartWrite r0_1)
      ∷ by 1 (what.Write r0_1 (0 ∷ []) (5 ∷ []))
      ∷ by 1 (what.Flush r0_1)
      ∷ by 1 (what.StartRead r0_1)
      ∷ by 1 (what.Read r0_1 (5 ∷ []))
      ∷ [];
  regions = holds r0_1 (5 ∷ []) ∷ [];
  blocked = [];
  events = 24;
  messages = 7;
}
