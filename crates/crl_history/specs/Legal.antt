-- What the single machine says of a run: which nodes are engaged, that entries are legal, what guards show, and which
-- regions are there at the end.
use Rattle.std.specs.Prelude.{◌≡◌, ℕ, ◌<◌, Bool, true, false, if◌then◌else◌, List, []}
use Rattle.std.specs.declared.option.Option.{Option}
use Rattle.std.specs.declared.option.Option.TheVariants.{None, Some}
use Rattle.crl_model.specs.declared.name.Name.{Name}
use Rattle.crl_model.specs.declared.event.Event.{Event}
use Rattle.crl_model.specs.Stages.{is_there}
use Rattle.crl_machine.specs.SingleMachine.{State, IsFree, IsHistory, after_all}
use Rattle.crl_machine.specs.FinalRegions.{final_regions}
use Rattle.crl_protocol.specs.Node.{Activity, Waiting, ForDelete, ForRound, Answer, Reading, Writing}
use Rattle.crl_protocol.specs.World.{World, step, is_enabled, pieces_in_boxes}
use Rattle.crl_protocol.specs.Ends.{final_bytes, regions}
use Rattle.crl_deeds.specs.Entries.{entries_at}

-- the node waits for a round's result, or for a delete
abbrev pub is_engaged : Activity → Bool
is_engaged (Waiting (ForRound round word)) = true
is_engaged (Waiting (ForDelete name)) = true
is_engaged _ = false

-- A node that isn't engaged is free in the machine: it was told all rounds to which it came, and deletes nothing.
abbrev pub EngagedNodesWait : World → State → Type 0
EngagedNodesWait w s = (i : ℕ) → i < w.count → is_engaged (w.nodes i).activity ≡ false → IsFree s i

-- The entries of each event that may come are legal, each after those before it.
abbrev pub EntriesAreLegal : World → State → Type 0
EntriesAreLegal w s = (e : Event) → is_enabled e w ≡ true → IsHistory s (entries_at e w)

-- the bytes of a guard, where the answer gives one, are the array's
abbrev pub AnswerShows : State → Answer → Type 0
AnswerShows s (Reading guard) = guard.bytes ≡ s.bytes guard.name
AnswerShows s (Writing guard) = guard.bytes ≡ s.bytes guard.name
AnswerShows s _ = Unit {0}

-- So it is of each event that may come, after its entries.
abbrev pub AnswersShowTheArray : World → State → Type 0
AnswersShowTheArray w s = (e : Event) → is_enabled e w ≡ true → AnswerShows (after_all s (step e w).entries) (step e w).answer

-- the bytes of a name that is there in the machine
abbrev pub bytes_there : State → Name → Option (List ℕ)
bytes_there s name = if is_there (s.stage name) then Some (s.bytes name) else None

-- The regions at the end are the machine's: each name that is there has the array's bytes, and others have none.
pub record EndsLikeTheMachine (w : World) (s : State) : Type 0 where
  pub bytes : (name : Name) → final_bytes name w ≡ bytes_there s name
  pub regions_are : regions w ≡ final_regions s

abbrev pub QuietWorldsEnd : World → State → Type 0
QuietWorldsEnd w s = pieces_in_boxes w ≡ [] → EndsLikeTheMachine w s
