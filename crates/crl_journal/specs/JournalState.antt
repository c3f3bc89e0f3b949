-- What is seen of a journal.
use Rattle.std.specs.Prelude.{ℕ, List}
use Rattle.crl_model.specs.declared.journal.Recorded.{Recorded}
use Rattle.crl_model.specs.declared.journal.Note.{Note}

-- the records and the notes, the oldest first, and how many more of each there is room for
pub record JournalState : Type 0 where
  pub records : List Recorded
  pub record_room : ℕ
  pub notes : List Note
  pub note_room : ℕ
