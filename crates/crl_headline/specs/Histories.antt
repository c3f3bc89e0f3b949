-- What a report of a run says: one history of a single machine with one array of byte regions.
use Rattle.std.specs.Prelude.{◌≡◌, ℕ, ◌<◌, ◌≤◌, ◌^◌, Bool, false, if◌then◌else◌, List, [], ◌∷◌, ◌++◌, length}
use Rattle.crl_model.specs.declared.entry.Entry.{Entry}
use Rattle.crl_model.specs.declared.entry.What.TheVariants as what
use Rattle.crl_model.specs.declared.name.Name.{Name}
use Rattle.crl_model.specs.declared.statement.Statement.{Statement}
use Rattle.crl_model.specs.Reports.{Reported}
use Rattle.crl_machine.specs.SingleMachine.{start, after_all, IsHistory}
use Rattle.crl_machine.specs.FinalRegions.{final_regions}
use Rattle.crl_machine.specs.Laws.{last_left}
use Rattle.crl_protocol.specs.World.{new_world}
use Rattle.crl_protocol.specs.Chosen.{Running, IsChosen, block_of}
use Rattle.crl_protocol.specs.Ends.{report, is_stuck}
use Rattle.crl_protocol.specs.Talk.{talk, AreLinesOf, lines_of_node}
use Rattle.crl_deeds.specs.Laws.{AreStatements}
use Rattle.crl_talk.specs.Script.{CallsAreThose}
use Rattle.crl_stuck.specs.Ends.{statements_in}
use Rattle.crl_stuck.specs.Stuck.{ReportNamesStuck}
use Rattle.crl_run.specs.Reporting.{IsReportOf}

-- the single machine's array after these entries
abbrev pub array_after : ℕ → List Entry → Name → List ℕ
array_after count entries = (after_all (start count) entries).bytes

-- Each read section shows the bytes that the last write section before it left, or else the zeros of the create.
abbrev pub ReadsShowTheLastWrite : List Entry → Type 0
ReadsShowTheLastWrite entries = (m : ℕ) (q : Name) (seen : List ℕ) (front rest : List Entry) → entries ≡ front ++ record { node = m; what = what.Read q seen } ∷ rest → seen ≡ last_left q front []

-- The array has of each region the bytes that its last write section left, or else those zeros.
abbrev pub ArrayIsTheLastWrites : ℕ → List Entry → Type 0
ArrayIsTheLastWrites count entries = (q : Name) → array_after count entries q ≡ last_left q entries []

-- The report of a script of so many nodes, with room for so many names in each cache, a list of statements per node, and an
-- order with these words; its run is stuck, or isn't.
pub record IsOneHistory (count capacity : ℕ) (blocks : List (List Statement)) (words : ℕ → ℕ) (stuck : Bool) (printed : Reported) : Type 0 where
  -- It is of the run that the script and the order choose.
  pub end : Running
  pub chosen : IsChosen count capacity blocks words end
  pub reported : printed ≡ report end
  pub is_so : is_stuck end ≡ stuck
  -- Its entries are one history of the single machine.
  pub legal : IsHistory (start count) printed.entries
  pub reads : ReadsShowTheLastWrite printed.entries
  pub array : ArrayIsTheLastWrites count printed.entries
  -- Each node's entries are the lines of its calls with their answers, in order, each call once.
  pub lines : (n : ℕ) → n < count → AreLinesOf n (talk n (new_world count capacity) end.events) (lines_of_node n printed.entries)
  -- The calls are those of its statements, in order, up to those that it has left; if the run isn't stuck it has none left.
  pub calls : (n : ℕ) → CallsAreThose n (new_world count capacity) (block_of blocks n) (end.actors n).left end.events
  pub done : stuck ≡ false → (n : ℕ) → n < count → (end.actors n).left ≡ []
  -- The regions are the array's, and none of a run that is stuck. Then each unfinished node is blocked by what is named.
  pub regions : printed.regions ≡ (if stuck then [] else final_regions (after_all (start count) printed.entries))
  pub named : ReportNamesStuck end
  pub events : printed.events ≡ length end.events

-- It is so of every run, of scripts of at most 2^40 statements.
abbrev pub ReportsAreHistories : Type 0
ReportsAreHistories =
    (count capacity : ℕ) (blocks : List (List Statement)) (words : ℕ → ℕ) (stuck : Bool) (printed : Reported) → count ≤ 64 → AreStatements blocks → statements_in count blocks ≤ 2 ^ 40
    → IsReportOf count capacity blocks words stuck printed → IsOneHistory count capacity blocks words stuck printed
