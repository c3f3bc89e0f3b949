-- The node of the protocol that a desk stands for, and the room that a desk has.
use Rattle.std.specs.declared.option.Option.{Option}
use Rattle.std.specs.declared.option.Option.TheVariants.{None, Some}
use Rattle.crl_model.specs.declared.name.Name.{Name}
use Rattle.std.specs.Prelude.{if◌then◌else◌, ℕ, ◌+◌, ◌<◌, ◌≤◌, ◌≡◌, ◌++◌, length}
use Rattle.crl_protocol.specs.Node.{Node, Outcome, at_serial, is_mine}
use Rattle.crl_protocol.specs.Parcels.{pieces_in}
use Rattle.crl_protocol.specs.World.{records_of}
use Rattle.crl_table.specs.Tables.{table_of}
use Rattle.crl_sections.specs.SectionsState.{sections_of, guards}
use Rattle.crl_stages.specs.StagesState.{lifetimes_of}
use Rattle.crl_gathering.specs.RoundState.{gathering_of}
use Rattle.crl_parcels.specs.ParcelsState.{parcels_of}
use Rattle.crl_home.specs.HomesState as homes
use Rattle.crl_remote.specs.RemotesState as remotes
use Rattle.crl_desk.specs.declared.desk.Desk.{Desk}

abbrev pub state : Desk → Node
state d = record {
  me = d.me;
  nodes = d.nodes;
  capacity = d.cache.capacity;
  homes = d.homes.homes;
  lifetimes = lifetimes_of d.stages;
  remotes = table_of d.remotes.rows;
  maps = table_of d.maps;
  cache = d.cache.list;
  sections = sections_of d.sections;
  gathering = gathering_of d.round;
  rounds = d.rounds;
  activity = d.standing;
  inbox = d.inbox.list;
  outbox = d.outbox.list;
  parcels = parcels_of d.parcels;
  records = d.journal.records;
  notes = d.journal.notes;
  posted = d.posted;
}

-- How many pieces the desk may still have to post, whatever comes: as a home, and at the ends of open sections.
abbrev pub owed : Desk → ℕ
owed d = homes.owed_in d.homes.homes + remotes.owed_in d.remotes.rows

-- The parts are those of one node.
pub record IsOneNode (d : Desk) : Type 0 where
  pub few : d.nodes ≤ 64
  pub below : d.me < d.nodes
  pub home : d.homes.me ≡ d.me
  pub home_nodes : d.homes.nodes ≡ d.nodes
  pub remote : d.remotes.me ≡ d.me
  pub stage_nodes : d.stages.nodes ≡ d.nodes
  pub round_nodes : d.round.nodes ≡ d.nodes
  pub serials : length d.stages.rows ≡ length d.homes.homes

-- There are places for all that the desk owes and for so many pieces more; for an entry and a note of the end of each open
-- section, and for so many more.
pub record HasRoom (pieces records notes : ℕ) (d : Desk) : Type 0 where
  pub parts : IsOneNode d
  pub for_pieces : owed d + pieces ≤ d.outbox.room
  pub for_records : guards d.sections + records ≤ d.journal.record_room
  pub for_notes : guards d.sections + notes ≤ d.journal.note_room

-- The node after an act at this position of the run, but for the note of its event and the count of what was posted: the
-- messages are in the outbox and the entries in the records.
abbrev pub acted : ℕ → Outcome → Node
acted position o = record o.node {
  outbox = o.node.outbox ++ pieces_in o.posts;
  records = o.node.records ++ records_of position o.entries;
}

abbrev pub size_or : Option ℕ → ℕ
size_or None = 0
size_or (Some size) = size

-- the size of the region as the node has it, 0 if it has none
abbrev pub region_size : Name → Node → ℕ
region_size name n = if is_mine n name then size_or (homes.size_or_none (at_serial name.serial n.homes)) else size_or (remotes.size_or_none (n.remotes name))

abbrev pub size_at : Name → Desk → ℕ
size_at name d = region_size name (state d)
