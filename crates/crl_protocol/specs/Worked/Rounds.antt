-- Worked runs: maps, rounds and changes.
use Rattle.std.specs.Prelude.{ℕ, List, [], ◌∷◌, pos}
use Rattle.crl_model.specs.declared.entry.What.TheVariants as what
use Rattle.crl_model.specs.declared.entry.Place.TheVariants.{Region, Round}
use Rattle.crl_model.specs.declared.call.CallKind.TheVariants as word
use Rattle.crl_model.specs.declared.call.Refusal.TheVariants as refusal
use Rattle.crl_model.specs.declared.collective.Part.TheVariants as part
use Rattle.crl_model.specs.declared.collective.Fold.TheVariants as fold
use Rattle.crl_model.specs.declared.statement.Statement.{Statement}
use Rattle.crl_protocol.specs.Chosen.{pick_at}
use Rattle.crl_protocol.specs.Ends.{Reported}
use Rattle.crl_protocol.specs.Worked.Words.{r0_1, create, map, unmap, read, endread, write, endwrite, add, barrier, send, receive, sum, by, holds}

-- A map comes before the create, and finds nothing.
abbrev pub map_before_create_script : List (List Statement)
map_before_create_script =
    (create 4 ∷ [])
    ∷ (map r0_1 ∷ [])
    ∷ []

abbrev pub map_before_create_order : ℕ → ℕ
map_before_create_order = pick_at (1 ∷ 1 ∷ 1 ∷ [])

abbrev pub map_before_create_report : Reported
map_before_create_report = record {
  entries =
      by 1 (what.Refused word.Map (Region r0_1) refusal.Unknown)
      ∷ by 0 (what.Create r0_1 4)
      ∷ [];
  regions = holds r0_1 (0 ∷ 0 ∷ 0 ∷ 0 ∷ []) ∷ [];
  blocked = [];
  events = 7;
  messages = 2;
}

-- A barrier between the create and the map.
abbrev pub barrier_then_read_script : List (List Statement)
barrier_then_read_script =
    (create 4 ∷ barrier ∷ [])
    ∷ (barrier ∷ map r0_1 ∷ read r0_1 ∷ endread r0_1 ∷ unmap r0_1 ∷ [])
    ∷ []

abbrev pub barrier_then_read_report : Reported
barrier_then_read_report = record {
  entries =
      by 0 (what.Create r0_1 4)
      ∷ by 0 (what.Come part.Barrier)
      ∷ by 1 (what.Come part.Barrier)
      ∷ by 0 (what.Came 1 fold.Barrier)
      ∷ by 1 (what.Came 1 fold.Barrier)
      ∷ by 1 (what.Map r0_1 4)
      ∷ by 1 (what.StartRead r0_1)
      ∷ by 1 (what.Read r0_1 (0 ∷ 0 ∷ 0 ∷ 0 ∷ []))
      ∷ by 1 (what.Unmap r0_1)
      ∷ [];
  regions = holds r0_1 (0 ∷ 0 ∷ 0 ∷ 0 ∷ []) ∷ [];
  blocked = [];
  events = 23;
  messages = 6;
}

-- A barrier meets a sum.
abbrev pub mixed_kinds_script : List (List Statement)
mixed_kinds_script =
    (barrier ∷ [])
    ∷ (sum 5 ∷ [])
    ∷ []

abbrev pub mixed_kinds_report : Reported
mixed_kinds_report = record {
  entries =
      by 0 (what.Come part.Barrier)
      ∷ by 1 (what.Come (part.Sum (pos 5)))
      ∷ by 0 (what.Refused word.Barrier (Round 1) refusal.Mixed)
      ∷ by 1 (what.Refused word.Sum (Round 1) refusal.Mixed)
      ∷ [];
  regions = [];
  blocked = [];
  events = 8;
  messages = 2;
}

-- A node sends bytes to another.
abbrev pub broadcast_script : List (List Statement)
broadcast_script =
    (receive ∷ [])
    ∷ (send (10 ∷ 255 ∷ []) ∷ [])
    ∷ []

abbrev pub broadcast_report : Reported
broadcast_report = record {
  entries =
      by 0 (what.Come part.Receive)
      ∷ by 1 (what.Come (part.Send (10 ∷ 255 ∷ [])))
      ∷ by 0 (what.Came 1 (fold.Broadcast (10 ∷ 255 ∷ [])))
      ∷ by 1 (what.Came 1 (fold.Broadcast (10 ∷ 255 ∷ [])))
      ∷ [];
  regions = [];
  blocked = [];
  events = 8;
  messages = 2;
}

-- Numbers are added to the bytes of a region, modulo 2^64.
abbrev pub additions_script : List (List Statement)
additions_script =
    (create 8 ∷ map r0_1 ∷ write r0_1 ∷ add r0_1 0 18446744073709551615 ∷ add r0_1 0 2 ∷ add r0_1 1 1 ∷ endwrite r0_1 ∷ unmap r0_1 ∷ [])
    ∷ []

abbrev pub additions_report : Reported
additions_report = record {
  entries =
      by 0 (what.Create r0_1 8)
      ∷ by 0 (what.Map r0_1 8)
      ∷ by 0 (what.StartWrite r0_1)
      ∷ by 0 (what.Refused word.Add (Region r0_1) refusal.OutOfRange)
      ∷ by 0 (what.Write r0_1 (0 ∷ 0 ∷ 0 ∷ 0 ∷ 0 ∷ 0 ∷ 0 ∷ 0 ∷ []) (0 ∷ 0 ∷ 0 ∷ 0 ∷ 0 ∷ 0 ∷ 0 ∷ 1 ∷ []))
      ∷ by 0 (what.Unmap r0_1)
      ∷ [];
  regions = holds r0_1 (0 ∷ 0 ∷ 0 ∷ 0 ∷ 0 ∷ 0 ∷ 0 ∷ 1 ∷ []) ∷ [];
  blocked = [];
  events = 6;
  messages = 0;
}
