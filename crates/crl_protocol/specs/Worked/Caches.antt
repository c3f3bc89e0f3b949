-- Worked runs: regions that are unmapped, and the cache.
use Rattle.std.specs.Prelude.{List, [], ◌∷◌}
use Rattle.crl_model.specs.declared.entry.What.TheVariants as what
use Rattle.crl_model.specs.declared.collective.Part.TheVariants as part
use Rattle.crl_model.specs.declared.collective.Fold.TheVariants as fold
use Rattle.crl_model.specs.declared.statement.Statement.{Statement}
use Rattle.crl_protocol.specs.Ends.{Reported}
use Rattle.crl_protocol.specs.Worked.Words.{r0_1, r0_2, create, map, unmap, write, endwrite, change, barrier, by, holds}

-- A cache of one name gives up the older of two.
abbrev pub eviction_script : List (List Statement)
eviction_script =
    (create 1 ∷ create 1 ∷ barrier ∷ [])
    ∷ (barrier ∷ map r0_1 ∷ write r0_1 ∷ change r0_1 0 (10 ∷ []) ∷ endwrite r0_1 ∷ unmap r0_1 ∷ map r0_2 ∷ write r0_2 ∷ change r0_2 0 (11 ∷ []) ∷ endwrite r0_2 ∷ unmap r0_2 ∷ [])
    ∷ []

abbrev pub eviction_report : Reported
eviction_report = record {
  entries =
      by 0 (what.Create r0_1 1)
      ∷ by 0 (what.Create r0_2 1)
      ∷ by 0 (what.Come part.Barrier)
      ∷ by 1 (what.Come part.Barrier)
      ∷ by 0 (what.Came 1 fold.Barrier)
      ∷ by 1 (what.Came 1 fold.Barrier)
      ∷ by 1 (what.Map r0_1 1)
      ∷ by 1 (what.StartWrite r0_1)
      ∷ by 1 (what.Write r0_1 (0 ∷ []) (10 ∷ []))
      ∷ by 1 (what.Unmap r0_1)
      ∷ by 1 (what.Map r0_2 1)
      ∷ by 1 (what.StartWrite r0_2)
      ∷ by 1 (what.Write r0_2 (0 ∷ []) (11 ∷ []))
      ∷ by 1 (what.Unmap r0_2)
      ∷ [];
  regions = holds r0_1 (10 ∷ []) ∷ holds r0_2 (11 ∷ []) ∷ [];
  blocked = [];
  events = 40;
  messages = 11;
}

-- Without a cache each unmapped region is forgotten.
abbrev pub no_cache_script : List (List Statement)
no_cache_script =
    (create 1 ∷ create 1 ∷ barrier ∷ [])
    ∷ (barrier ∷ map r0_1 ∷ write r0_1 ∷ change r0_1 0 (10 ∷ []) ∷ endwrite r0_1 ∷ unmap r0_1 ∷ map r0_2 ∷ write r0_2 ∷ change r0_2 0 (11 ∷ []) ∷ endwrite r0_2 ∷ unmap r0_2 ∷ [])
    ∷ []

abbrev pub no_cache_report : Reported
no_cache_report = record {
  entries =
      by 0 (what.Create r0_1 1)
      ∷ by 0 (what.Create r0_2 1)
      ∷ by 0 (what.Come part.Barrier)
      ∷ by 1 (what.Come part.Barrier)
      ∷ by 0 (what.Came 1 fold.Barrier)
      ∷ by 1 (what.Came 1 fold.Barrier)
      ∷ by 1 (what.Map r0_1 1)
      ∷ by 1 (what.StartWrite r0_1)
      ∷ by 1 (what.Write r0_1 (0 ∷ []) (10 ∷ []))
      ∷ by 1 (what.Unmap r0_1)
      ∷ by 1 (what.Map r0_2 1)
      ∷ by 1 (what.StartWrite r0_2)
      ∷ by 1 (what.Write r0_2 (0 ∷ []) (11 ∷ []))
      ∷ by 1 (what.Unmap r0_2)
      ∷ [];
  regions = holds r0_1 (10 ∷ []) ∷ holds r0_2 (11 ∷ []) ∷ [];
  blocked = [];
  events = 42;
  messages = 12;
}

-- A cache with room keeps both.
abbrev pub roomy_cache_script : List (List Statement)
roomy_cache_script =
    (create 1 ∷ create 1 ∷ barrier ∷ [])
    ∷ (barrier ∷ map r0_1 ∷ write r0_1 ∷ change r0_1 0 (10 ∷ []) ∷ endwrite r0_1 ∷ unmap r0_1 ∷ map r0_2 ∷ write r0_2 ∷ change r0_2 0 (11 ∷ []) ∷ endwrite r0_2 ∷ unmap r0_2 ∷ [])
    ∷ []

abbrev pub roomy_cache_report : Reported
roomy_cache_report = record {
  entries =
      by 0 (what.Create r0_1 1)
      ∷ by 0 (what.Create r0_2 1)
      ∷ by 0 (what.Come part.Barrier)
      ∷ by 1 (what.Come part.Barrier)
      ∷ by 0 (what.Came 1 fold.Barrier)
      ∷ by 1 (what.Came 1 fold.Barrier)
      ∷ by 1 (what.Map r0_1 1)
      ∷ by 1 (what.StartWrite r0_1)
      ∷ by 1 (what.Write r0_1 (0 ∷ []) (10 ∷ []))
      ∷ by 1 (what.Unmap r0_1)
      ∷ by 1 (what.Map r0_2 1)
      ∷ by 1 (what.StartWrite r0_2)
      ∷ by 1 (what.Write r0_2 (0 ∷ []) (11 ∷ []))
      ∷ by 1 (what.Unmap r0_2)
      ∷ [];
  regions = holds r0_1 (10 ∷ []) ∷ holds r0_2 (11 ∷ []) ∷ [];
  blocked = [];
  events = 38;
  messages = 10;
}
