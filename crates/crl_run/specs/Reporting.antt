-- What is printed of a run that is over.
use Rattle.std.specs.Prelude.{◌≡◌, ℕ, Bool, if◌then◌else◌, List, [], drop}
use Rattle.crl_model.specs.Reports.{Reported}
use Rattle.crl_model.specs.declared.statement.Statement.{Statement}
use Rattle.crl_protocol.specs.World.{World, messages_sent}
use Rattle.crl_protocol.specs.Chosen.{Running, block_of, IsChosen}
use Rattle.crl_protocol.specs.Ends.{report, is_stuck, regions, blocked_from}
use Rattle.crl_journal.specs.Told.{EventEntries, entries_told, AreRecordsOf}
use Rattle.crl_world.specs.Records.{records_by_node}
use Rattle.crl_run.specs.PlayerState.{PlayerState}
use Rattle.crl_run.specs.Playing.{player_of}

-- what is seen of a run: its world, and the statements that are left
abbrev pub running_seen : List (List Statement) → World → List PlayerState → Running
running_seen blocks w players = record {
  world = w;
  actors = λ i. record { left = drop (player_of players i).place (block_of blocks i); drafts = λ q. [] };
  events = [];
  entries = [];
}

-- What is printed is read of the world and the statements left; its entries are what a run told, if the nodes recorded that.
pub record PrintsWhatIs (blocks : List (List Statement)) (w : World) (players : List PlayerState) (printed : Reported) : Type 0 where
  pub entries : (run : List EventEntries) → AreRecordsOf run (records_by_node w) → printed.entries ≡ entries_told run
  pub regions : printed.regions ≡ (if is_stuck (running_seen blocks w players) then [] else regions w)
  pub blocked : printed.blocked ≡ (if is_stuck (running_seen blocks w players) then blocked_from 0 w.count (running_seen blocks w players) else [])
  pub events : printed.events ≡ w.events
  pub messages : printed.messages ≡ messages_sent w

-- The report is of the run that a script and an order choose, which is stuck or isn't.
pub record IsReportOf (count capacity : ℕ) (blocks : List (List Statement)) (words : ℕ → ℕ) (stuck : Bool) (printed : Reported) : Type 0 where
  pub end : Running
  pub chosen : IsChosen count capacity blocks words end
  pub reported : printed ≡ report end
  pub is_so : is_stuck end ≡ stuck
