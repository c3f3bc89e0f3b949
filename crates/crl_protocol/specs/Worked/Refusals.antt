-- Worked runs: calls that are refused.
use Rattle.std.specs.Prelude.{List, [], ◌∷◌}
use Rattle.crl_model.specs.declared.entry.What.TheVariants as what
use Rattle.crl_model.specs.declared.entry.Place.TheVariants.{Region}
use Rattle.crl_model.specs.declared.call.CallKind.TheVariants as word
use Rattle.crl_model.specs.declared.call.Refusal.TheVariants as refusal
use Rattle.crl_model.specs.declared.statement.Statement.{Statement}
use Rattle.crl_protocol.specs.Ends.{Reported}
use Rattle.crl_protocol.specs.Worked.Words.{r0_0, r0_1, r0_2, r5_1, create, delete, map, unmap, endread, write, endwrite, change, by, holds}

-- Calls that are refused for the sections that are open, or are not.
abbrev pub section_rules_script : List (List Statement)
section_rules_script =
    (create 2 ∷ write r0_1 ∷ map r0_1 ∷ write r0_1 ∷ unmap r0_1 ∷ endread r0_1 ∷ write r0_1 ∷ change r0_1 1 (255 ∷ 255 ∷ []) ∷ change r0_1 0 (1 ∷ 2 ∷ []) ∷ endwrite r0_1 ∷ change r0_1 0 (0 ∷ []) ∷ endwrite r0_1 ∷ unmap r0_1 ∷ unmap r0_1 ∷ [])
    ∷ []

abbrev pub section_rules_report : Reported
section_rules_report = record {
  entries =
      by 0 (what.Create r0_1 2)
      ∷ by 0 (what.Refused word.Write (Region r0_1) refusal.NotMapped)
      ∷ by 0 (what.Map r0_1 2)
      ∷ by 0 (what.StartWrite r0_1)
      ∷ by 0 (what.Refused word.Unmap (Region r0_1) refusal.InSection)
      ∷ by 0 (what.Refused word.EndRead (Region r0_1) refusal.NotReading)
      ∷ by 0 (what.Refused word.Write (Region r0_1) refusal.SectionOpen)
      ∷ by 0 (what.Refused word.Put (Region r0_1) refusal.OutOfRange)
      ∷ by 0 (what.Write r0_1 (0 ∷ 0 ∷ []) (1 ∷ 2 ∷ []))
      ∷ by 0 (what.Refused word.Put (Region r0_1) refusal.NotWriting)
      ∷ by 0 (what.Refused word.EndWrite (Region r0_1) refusal.NotWriting)
      ∷ by 0 (what.Unmap r0_1)
      ∷ by 0 (what.Refused word.Unmap (Region r0_1) refusal.NotMapped)
      ∷ [];
  regions = holds r0_1 (1 ∷ 2 ∷ []) ∷ [];
  blocked = [];
  events = 13;
  messages = 0;
}

-- A refused create uses its name.
abbrev pub names_and_sizes_script : List (List Statement)
names_and_sizes_script =
    (create 0 ∷ map r0_1 ∷ create 1 ∷ map r0_2 ∷ unmap r0_2 ∷ [])
    ∷ []

abbrev pub names_and_sizes_report : Reported
names_and_sizes_report = record {
  entries =
      by 0 (what.Refused word.Create (Region r0_1) refusal.BadSize)
      ∷ by 0 (what.Refused word.Map (Region r0_1) refusal.Unknown)
      ∷ by 0 (what.Create r0_2 1)
      ∷ by 0 (what.Map r0_2 1)
      ∷ by 0 (what.Unmap r0_2)
      ∷ [];
  regions = holds r0_2 (0 ∷ []) ∷ [];
  blocked = [];
  events = 5;
  messages = 0;
}

-- Names that no create gives: of a home that is no node, and of serial 0. They are refused at once.
abbrev pub unreal_names_script : List (List Statement)
unreal_names_script =
    []
    ∷ (map r5_1 ∷ map r0_0 ∷ delete r5_1 ∷ delete r0_0 ∷ [])
    ∷ []

abbrev pub unreal_names_report : Reported
unreal_names_report = record {
  entries =
      by 1 (what.Refused word.Map (Region r5_1) refusal.Unknown)
      ∷ by 1 (what.Refused word.Map (Region r0_0) refusal.Unknown)
      ∷ by 1 (what.Refused word.Delete (Region r5_1) refusal.Unknown)
      ∷ by 1 (what.Refused word.Delete (Region r0_0) refusal.Unknown)
      ∷ [];
  regions = [];
  blocked = [];
  events = 4;
  messages = 0;
}
