-- Worked runs: deletes.
use Rattle.std.specs.Prelude.{ℕ, List, [], ◌∷◌, ◌++◌, replicate}
use Rattle.crl_model.specs.declared.entry.What.TheVariants as what
use Rattle.crl_model.specs.declared.entry.Place.TheVariants.{Region}
use Rattle.crl_model.specs.declared.call.CallKind.TheVariants as word
use Rattle.crl_model.specs.declared.call.Refusal.TheVariants as refusal
use Rattle.crl_model.specs.declared.collective.Part.TheVariants as part
use Rattle.crl_model.specs.declared.collective.Fold.TheVariants as fold
use Rattle.crl_model.specs.declared.statement.Statement.{Statement}
use Rattle.crl_protocol.specs.Chosen.{pick_at}
use Rattle.crl_protocol.specs.Ends.{Reported}
use Rattle.crl_protocol.specs.Worked.Words.{r0_1, create, delete, map, unmap, write, endwrite, change, barrier, by}

-- A region that is cached elsewhere is deleted.
abbrev pub delete_of_cached_script : List (List Statement)
delete_of_cached_script =
    (create 1 ∷ barrier ∷ barrier ∷ delete r0_1 ∷ barrier ∷ [])
    ∷ (barrier ∷ map r0_1 ∷ unmap r0_1 ∷ barrier ∷ barrier ∷ map r0_1 ∷ [])
    ∷ []

abbrev pub delete_of_cached_report : Reported
delete_of_cached_report = record {
  entries =
      by 0 (what.Create r0_1 1)
      ∷ by 0 (what.Come part.Barrier)
      ∷ by 1 (what.Come part.Barrier)
      ∷ by 0 (what.Came 1 fold.Barrier)
      ∷ by 0 (what.Come part.Barrier)
      ∷ by 1 (what.Came 1 fold.Barrier)
      ∷ by 1 (what.Map r0_1 1)
      ∷ by 1 (what.Unmap r0_1)
      ∷ by 1 (what.Come part.Barrier)
      ∷ by 0 (what.Came 2 fold.Barrier)
      ∷ by 0 (what.Deleting r0_1)
      ∷ by 1 (what.Came 2 fold.Barrier)
      ∷ by 1 (what.Come part.Barrier)
      ∷ by 0 (what.Deleted r0_1)
      ∷ by 0 (what.Come part.Barrier)
      ∷ by 0 (what.Came 3 fold.Barrier)
      ∷ by 1 (what.Came 3 fold.Barrier)
      ∷ by 1 (what.Refused word.Map (Region r0_1) refusal.Deleted)
      ∷ [];
  regions = [];
  blocked = [];
  events = 43;
  messages = 12;
}

-- One that is mapped elsewhere can be used until its last unmap.
abbrev pub delete_of_mapped_script : List (List Statement)
delete_of_mapped_script =
    (create 1 ∷ barrier ∷ barrier ∷ delete r0_1 ∷ barrier ∷ [])
    ∷ (barrier ∷ map r0_1 ∷ barrier ∷ barrier ∷ write r0_1 ∷ change r0_1 0 (9 ∷ []) ∷ endwrite r0_1 ∷ map r0_1 ∷ unmap r0_1 ∷ map r0_1 ∷ [])
    ∷ []

abbrev pub delete_of_mapped_report : Reported
delete_of_mapped_report = record {
  entries =
      by 0 (what.Create r0_1 1)
      ∷ by 0 (what.Come part.Barrier)
      ∷ by 1 (what.Come part.Barrier)
      ∷ by 0 (what.Came 1 fold.Barrier)
      ∷ by 0 (what.Come part.Barrier)
      ∷ by 1 (what.Came 1 fold.Barrier)
      ∷ by 1 (what.Map r0_1 1)
      ∷ by 1 (what.Come part.Barrier)
      ∷ by 0 (what.Came 2 fold.Barrier)
      ∷ by 0 (what.Deleting r0_1)
      ∷ by 1 (what.Came 2 fold.Barrier)
      ∷ by 1 (what.Come part.Barrier)
      ∷ by 0 (what.Deleted r0_1)
      ∷ by 0 (what.Come part.Barrier)
      ∷ by 0 (what.Came 3 fold.Barrier)
      ∷ by 1 (what.Came 3 fold.Barrier)
      ∷ by 1 (what.StartWrite r0_1)
      ∷ by 1 (what.Write r0_1 (0 ∷ []) (9 ∷ []))
      ∷ by 1 (what.Refused word.Map (Region r0_1) refusal.Deleted)
      ∷ by 1 (what.Unmap r0_1)
      ∷ by 1 (what.Refused word.Map (Region r0_1) refusal.Deleted)
      ∷ [];
  regions = [];
  blocked = [];
  events = 53;
  messages = 15;
}

-- A purge overtakes the answer to a map.
abbrev pub purge_before_answer_script : List (List Statement)
purge_before_answer_script =
    (create 1 ∷ barrier ∷ delete r0_1 ∷ [])
    ∷ (barrier ∷ map r0_1 ∷ unmap r0_1 ∷ map r0_1 ∷ [])
    ∷ []

abbrev pub purge_before_answer_order : ℕ → ℕ
purge_before_answer_order = pick_at (replicate 6 0 ++ replicate 6 1 ++ 0 ∷ 1 ∷ [])

abbrev pub purge_before_answer_report : Reported
purge_before_answer_report = record {
  entries =
      by 0 (what.Create r0_1 1)
      ∷ by 0 (what.Come part.Barrier)
      ∷ by 1 (what.Come part.Barrier)
      ∷ by 0 (what.Came 1 fold.Barrier)
      ∷ by 1 (what.Came 1 fold.Barrier)
      ∷ by 1 (what.Map r0_1 1)
      ∷ by 0 (what.Deleting r0_1)
      ∷ by 1 (what.Unmap r0_1)
      ∷ by 0 (what.Deleted r0_1)
      ∷ by 1 (what.Refused word.Map (Region r0_1) refusal.Deleted)
      ∷ [];
  regions = [];
  blocked = [];
  events = 28;
  messages = 8;
}

-- A map of a region that was deleted.
abbrev pub delete_before_map_script : List (List Statement)
delete_before_map_script =
    (create 1 ∷ delete r0_1 ∷ [])
    ∷ (map r0_1 ∷ [])
    ∷ []

abbrev pub delete_before_map_report : Reported
delete_before_map_report = record {
  entries =
      by 0 (what.Create r0_1 1)
      ∷ by 0 (what.Deleting r0_1)
      ∷ by 0 (what.Deleted r0_1)
      ∷ by 1 (what.Refused word.Map (Region r0_1) refusal.Deleted)
      ∷ [];
  regions = [];
  blocked = [];
  events = 8;
  messages = 2;
}

-- A node deletes a region of another home.
abbrev pub delete_by_another_script : List (List Statement)
delete_by_another_script =
    (create 1 ∷ [])
    ∷ (map r0_1 ∷ delete r0_1 ∷ unmap r0_1 ∷ map r0_1 ∷ [])
    ∷ []

abbrev pub delete_by_another_report : Reported
delete_by_another_report = record {
  entries =
      by 0 (what.Create r0_1 1)
      ∷ by 1 (what.Map r0_1 1)
      ∷ by 1 (what.Deleting r0_1)
      ∷ by 1 (what.Deleted r0_1)
      ∷ by 1 (what.Unmap r0_1)
      ∷ by 1 (what.Refused word.Map (Region r0_1) refusal.Deleted)
      ∷ [];
  regions = [];
  blocked = [];
  events = 24;
  messages = 8;
}

-- A region that two other nodes map is deleted: each of them is told, and the delete waits for both.
abbrev pub delete_among_three_script : List (List Statement)
delete_among_three_script =
    (create 1 ∷ barrier ∷ delete r0_1 ∷ [])
    ∷ (map r0_1 ∷ barrier ∷ [])
    ∷ (map r0_1 ∷ barrier ∷ [])
    ∷ []

abbrev pub delete_among_three_report : Reported
delete_among_three_report = record {
  entries =
      by 0 (what.Create r0_1 1)
      ∷ by 0 (what.Come part.Barrier)
      ∷ by 1 (what.Map r0_1 1)
      ∷ by 1 (what.Come part.Barrier)
      ∷ by 2 (what.Map r0_1 1)
      ∷ by 2 (what.Come part.Barrier)
      ∷ by 0 (what.Came 1 fold.Barrier)
      ∷ by 0 (what.Deleting r0_1)
      ∷ by 1 (what.Came 1 fold.Barrier)
      ∷ by 2 (what.Came 1 fold.Barrier)
      ∷ by 0 (what.Deleted r0_1)
      ∷ [];
  regions = [];
  blocked = [];
  events = 37;
  messages = 12;
}
