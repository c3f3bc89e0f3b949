-- Worked runs: copies that change their kind.
use Rattle.std.specs.Prelude.{ℕ, List, [], ◌∷◌, ◌++◌, replicate}
use Rattle.crl_model.specs.declared.entry.What.TheVariants as what
use Rattle.crl_model.specs.declared.collective.Part.TheVariants as part
use Rattle.crl_model.specs.declared.collective.Fold.TheVariants as fold
use Rattle.crl_model.specs.declared.statement.Statement.{Statement}
use Rattle.crl_protocol.specs.Chosen.{pick_at}
use Rattle.crl_protocol.specs.Ends.{Reported}
use Rattle.crl_protocol.specs.Worked.Words.{r0_1, create, map, flush, read, endread, write, endwrite, change, barrier, by, holds}

-- Two readers write: one keeps its bytes, and the other is sent them.
abbrev pub two_upgrades_script : List (List Statement)
two_upgrades_script =
    (create 1 ∷ barrier ∷ barrier ∷ [])
    ∷ (barrier ∷ map r0_1 ∷ read r0_1 ∷ endread r0_1 ∷ barrier ∷ write r0_1 ∷ change r0_1 0 (1 ∷ []) ∷ endwrite r0_1 ∷ [])
    ∷ (barrier ∷ map r0_1 ∷ read r0_1 ∷ endread r0_1 ∷ barrier ∷ write r0_1 ∷ change r0_1 0 (2 ∷ []) ∷ endwrite r0_1 ∷ [])
    ∷ []

abbrev pub two_upgrades_report : Reported
two_upgrades_report = record {
  entries =
      by 0 (what.Create r0_1 1)
      ∷ by 0 (what.Come part.Barrier)
      ∷ by 1 (what.Come part.Barrier)
      ∷ by 2 (what.Come part.Barrier)
      ∷ by 0 (what.Came 1 fold.Barrier)
      ∷ by 0 (what.Come part.Barrier)
      ∷ by 1 (what.Came 1 fold.Barrier)
      ∷ by 2 (what.Came 1 fold.Barrier)
      ∷ by 1 (what.Map r0_1 1)
      ∷ by 1 (what.StartRead r0_1)
      ∷ by 1 (what.Read r0_1 (0 ∷ []))
      ∷ by 1 (what.Come part.Barrier)
      ∷ by 2 (what.Map r0_1 1)
      ∷ by 2 (what.StartRead r0_1)
      ∷ by 2 (what.Read r0_1 (0 ∷ []))
      ∷ by 2 (what.Come part.Barrier)
      ∷ by 0 (what.Came 2 fold.Barrier)
      ∷ by 1 (what.Came 2 fold.Barrier)
      ∷ by 2 (what.Came 2 fold.Barrier)
      ∷ by 1 (what.StartWrite r0_1)
      ∷ by 1 (what.Write r0_1 (0 ∷ []) (1 ∷ []))
      ∷ by 2 (what.StartWrite r0_1)
      ∷ by 2 (what.Write r0_1 (1 ∷ []) (2 ∷ []))
      ∷ [];
  regions = holds r0_1 (2 ∷ []) ∷ [];
  blocked = [];
  events = 77;
  messages = 24;
}

-- A writer keeps a shared copy while the home reads.
abbrev pub downgrade_script : List (List Statement)
downgrade_script =
    (create 1 ∷ map r0_1 ∷ barrier ∷ read r0_1 ∷ endread r0_1 ∷ barrier ∷ [])
    ∷ (map r0_1 ∷ write r0_1 ∷ change r0_1 0 (1 ∷ []) ∷ endwrite r0_1 ∷ barrier ∷ barrier ∷ read r0_1 ∷ endread r0_1 ∷ [])
    ∷ []

abbrev pub downgrade_report : Reported
downgrade_report = record {
  entries =
      by 0 (what.Create r0_1 1)
      ∷ by 0 (what.Map r0_1 1)
      ∷ by 0 (what.Come part.Barrier)
      ∷ by 1 (what.Map r0_1 1)
      ∷ by 1 (what.StartWrite r0_1)
      ∷ by 1 (what.Write r0_1 (0 ∷ []) (1 ∷ []))
      ∷ by 1 (what.Come part.Barrier)
      ∷ by 0 (what.Came 1 fold.Barrier)
      ∷ by 1 (what.Came 1 fold.Barrier)
      ∷ by 1 (what.Come part.Barrier)
      ∷ by 0 (what.StartRead r0_1)
      ∷ by 0 (what.Read r0_1 (1 ∷ []))
      ∷ by 0 (what.Come part.Barrier)
      ∷ by 0 (what.Came 2 fold.Barrier)
      ∷ by 1 (what.Came 2 fold.Barrier)
      ∷ by 1 (what.StartRead r0_1)
      ∷ by 1 (what.Read r0_1 (1 ∷ []))
      ∷ [];
  regions = holds r0_1 (1 ∷ []) ∷ [];
  blocked = [];
  events = 39;
  messages = 10;
}

-- A copy comes back before the message that it became a shared one.
abbrev pub return_before_release_script : List (List Statement)
return_before_release_script =
    (create 1 ∷ map r0_1 ∷ barrier ∷ read r0_1 ∷ endread r0_1 ∷ [])
    ∷ (map r0_1 ∷ write r0_1 ∷ change r0_1 0 (1 ∷ []) ∷ endwrite r0_1 ∷ barrier ∷ flush r0_1 ∷ [])
    ∷ []

abbrev pub return_before_release_order : ℕ → ℕ
return_before_release_order = pick_at (replicate 25 0 ++ 1 ∷ 1 ∷ 0 ∷ 1 ∷ [])

abbrev pub return_before_release_report : Reported
return_before_release_report = record {
  entries =
      by 0 (what.Create r0_1 1)
      ∷ by 0 (what.Map r0_1 1)
      ∷ by 0 (what.Come part.Barrier)
      ∷ by 1 (what.Map r0_1 1)
      ∷ by 1 (what.StartWrite r0_1)
      ∷ by 1 (what.Write r0_1 (0 ∷ []) (1 ∷ []))
      ∷ by 1 (what.Come part.Barrier)
      ∷ by 0 (what.Came 1 fold.Barrier)
      ∷ by 1 (what.Came 1 fold.Barrier)
      ∷ by 1 (what.Flush r0_1)
      ∷ by 0 (what.StartRead r0_1)
      ∷ by 0 (what.Read r0_1 (1 ∷ []))
      ∷ [];
  regions = holds r0_1 (1 ∷ []) ∷ [];
  blocked = [];
  events = 33;
  messages = 9;
}
