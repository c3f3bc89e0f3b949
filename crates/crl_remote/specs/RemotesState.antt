-- A node's side of the regions of other homes, by name.
use Rattle.std.specs.Prelude.{ℕ, ◌≡◌, Bool, List}
use Rattle.std.specs.declared.option.Option.{Option}
use Rattle.std.specs.declared.option.Option.TheVariants.{None, Some}
use Rattle.crl_model.specs.declared.name.Name.{Name}
use Rattle.crl_model.specs.declared.message.Granted.{Granted}
use Rattle.crl_model.specs.Names.{at_name}
use Rattle.crl_table.specs.Tables.{table_of, has_place, weight}
use Rattle.crl_protocol.specs.Remote.{Remote, RemoteStep, new_remote, remote_starts, remote_takes_recall, remote_takes_yield, remote_takes_grant, remote_ends_read, remote_ends_write, remote_flushes}
use Rattle.crl_remote.specs.Debts.{owed}

-- the node, and the names that have a place, each with its row or none
pub record RemotesState : Type 0 where
  pub me : ℕ
  pub rows : List (Name × Option Remote)

-- how many pieces may have to be posted at the ends of all sections that are open
abbrev pub owed_in : List (Name × Option Remote) → ℕ
owed_in rows = weight owed rows

abbrev pub row_or : Option Remote → Remote
row_or None = new_remote 0
row_or (Some r) = r

-- the row of a name
abbrev pub row_at : Name → RemotesState → Remote
row_at name s = row_or (table_of s.rows name)

abbrev pub IsThere : Name → RemotesState → Type 0
IsThere name s = table_of s.rows name ≡ Some (row_at name s)

-- the row of the name is this one, or none, and all else is as it was
pub record HasRow (name : Name) (r : Option Remote) (old new : RemotesState) : Type 0 where
  pub me : new.me ≡ old.me
  pub rows : table_of new.rows ≡ at_name (table_of old.rows) name r
  pub places : has_place new.rows ≡ has_place old.rows

abbrev pub size_or_none : Option Remote → Option ℕ
size_or_none None = None
size_or_none (Some r) = Some r.size

-- the steps of the row of a name
abbrev pub start_step : Name → Bool → RemotesState → RemoteStep
start_step name write s = remote_starts write (row_at name s)

abbrev pub recall_step : Name → ℕ → RemotesState → RemoteStep
recall_step name version s = remote_takes_recall version (row_at name s)

abbrev pub yield_step : Name → ℕ → RemotesState → RemoteStep
yield_step name version s = remote_takes_yield version (row_at name s)

abbrev pub row_after_grant : Name → ℕ → Granted → RemotesState → Remote
row_after_grant name version granted s = remote_takes_grant version granted (row_at name s)

abbrev pub end_read_step : Name → RemotesState → RemoteStep
end_read_step name s = remote_ends_read (row_at name s)

abbrev pub end_write_step : Name → List ℕ → RemotesState → RemoteStep
end_write_step name bytes s = remote_ends_write bytes (row_at name s)

abbrev pub flush_step : Name → RemotesState → RemoteStep
flush_step name s = remote_flushes (row_at name s)
