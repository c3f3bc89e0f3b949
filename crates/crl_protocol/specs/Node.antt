-- A node: its state, and what a step leaves.
use Rattle.std.specs.Prelude.{ℕ, ◌+◌, ◌-◌, ◌^◌, ◌==◌, nat_lt, Bool, not, ◌&&◌, if◌then◌else◌, List, [], length, map}
use Rattle.std.specs.declared.option.Option.{Option}
use Rattle.std.specs.declared.option.Option.TheVariants.{None, Some}
use Rattle.crl_model.specs.declared.name.Name.{Name}
use Rattle.crl_model.specs.declared.activity.Answer.{Answer as AnswerOf}
pub use Rattle.crl_model.specs.declared.activity.Answer.TheVariants.{Made, Mapped, Reading, Writing, Done, Came, Refused, Wait}
pub use Rattle.crl_model.specs.declared.activity.Awaited.{Awaited}
pub use Rattle.crl_model.specs.declared.activity.Awaited.TheVariants.{ForSection, ForMap, ForDelete, ForRound}
use Rattle.crl_model.specs.declared.activity.Activity.{Activity as ActivityOf}
pub use Rattle.crl_model.specs.declared.activity.Activity.TheVariants.{Free, Waiting, Ready}
pub use Rattle.crl_model.specs.declared.journal.Recorded.{Recorded}
pub use Rattle.crl_model.specs.declared.journal.Note.{Note}
use Rattle.crl_model.specs.declared.message.Message.{Message}
use Rattle.crl_model.specs.declared.message.Kind.{Kind}
use Rattle.crl_model.specs.declared.entry.Entry.{Entry}
use Rattle.crl_model.specs.declared.entry.What.{What}
use Rattle.crl_model.specs.declared.entry.What.TheVariants as what
use Rattle.crl_model.specs.Names.{at_node, at_name}
use Rattle.crl_protocol.specs.Parcels.{Piece, PartsGathered}
use Rattle.crl_protocol.specs.Places.{at, put}
use Rattle.crl_protocol.specs.Mail.{Mail, Letter, kind_about}
use Rattle.crl_protocol.specs.Home.{Home}
use Rattle.crl_protocol.specs.Remote.{Remote}
use Rattle.crl_protocol.specs.Lifetimes.{Mapping, Cached, Lifetime, no_lifetime}
use Rattle.crl_protocol.specs.Sections.{Sections, SectionStart, Guard, no_sections, section_begins}
use Rattle.crl_protocol.specs.Gathering.{Gathering, first_round}

-- What a call gives its node, and what the node is at.
abbrev pub Answer : Type 0
Answer = AnswerOf Guard Guard

abbrev pub Activity : Type 0
Activity = ActivityOf Guard Guard

pub record Node : Type 0 where
  pub me : ℕ
  pub nodes : ℕ
  pub capacity : ℕ
  -- of its own regions, by serial from 1: the home's table, and who has the region
  pub homes : List (Option Home)
  pub lifetimes : ℕ → Lifetime
  -- of other nodes' regions that are mapped or cached here
  pub remotes : Name → Option Remote
  pub maps : Name → Option Mapping
  pub cache : List Cached
  pub sections : Sections
  -- the round that node 0 gathers, and the number of rounds to which this node came
  pub gathering : Gathering
  pub rounds : ℕ
  pub activity : Activity
  pub inbox : List Piece
  pub outbox : List Piece
  -- the pieces that came of messages of which some are missing
  pub parcels : PartsGathered
  -- what it has recorded, its events, a message carried out of its outbox among them, and the number of
  -- messages that it sent
  pub records : List Recorded
  pub notes : List Note
  pub posted : ℕ

abbrev pub new_node : ℕ → ℕ → ℕ → Node
new_node nodes capacity me = record {
  me = me;
  nodes = nodes;
  capacity = capacity;
  homes = [];
  lifetimes = λ serial. no_lifetime;
  remotes = λ name. None;
  maps = λ name. None;
  cache = [];
  sections = no_sections;
  gathering = first_round;
  rounds = 0;
  activity = Free;
  inbox = [];
  outbox = [];
  parcels = λ key. None;
  records = [];
  notes = [];
  posted = 0;
}

-- What a step leaves: the node, the answer, the entries that it records and the messages that it sends.
pub record Outcome : Type 0 where
  pub node : Node
  pub answer : Answer
  pub entries : List Entry
  pub posts : List Message

-- nothing recorded and nothing sent
abbrev pub only : Node → Answer → Outcome
only n answer = record { node = n; answer = answer; entries = []; posts = [] }

-- the largest serial, map count, and number of read sections
abbrev pub COUNT_LIMIT : ℕ
COUNT_LIMIT = 2 ^ 32 - 1

-- The serials that were used, and the name that the next create gives.
abbrev pub serials_used : Node → ℕ
serials_used n = length n.homes

abbrev pub next_name : Node → Name
next_name n = record { home = n.me; serial = serials_used n + 1 }

-- The home's table and the lifetime of a name, where its home is this node.
abbrev pub at_serial : {A : Type 0} → ℕ → List (Option A) → Option A
at_serial serial xs = if serial == 0 then None else at (serial - 1) xs

abbrev pub is_mine : Node → Name → Bool
is_mine n name = name.home == n.me

abbrev pub home_of : Node → Name → Option Home
home_of n name = if is_mine n name then at_serial name.serial n.homes else None

abbrev pub lifetime_of : Node → Name → Lifetime
lifetime_of n name = if is_mine n name then n.lifetimes name.serial else no_lifetime

abbrev pub with_home : Name → Home → Node → Node
with_home name h n = record n { homes = put (name.serial - 1) (Some h) n.homes }

abbrev pub with_lifetime : Name → Lifetime → Node → Node
with_lifetime name lifetime n = record n { lifetimes = at_node n.lifetimes name.serial lifetime }

abbrev pub with_remote : Name → Option Remote → Node → Node
with_remote name r n = record n { remotes = at_name n.remotes name r }

abbrev pub with_mapping : Name → Option Mapping → Node → Node
with_mapping name m n = record n { maps = at_name n.maps name m }

abbrev pub map_count : Option Mapping → ℕ
map_count None = 0
map_count (Some m) = m.count

-- the name's home is a node, and gave a region such a serial or may do so
abbrev pub is_real : Node → Name → Bool
is_real n name = nat_lt name.home n.nodes && not (name.serial == 0)

-- messages of the node
abbrev pub message_to : Node → ℕ → Kind → Message
message_to n to kind = record { sender = n.me; addressee = to; kind = kind }

abbrev pub letter_messages : Node → Name → List Letter → List Message
letter_messages n name posts = map (λ (l : Letter). message_to n l.to (kind_about name l.mail)) posts

abbrev pub mail_messages : Node → Name → List Mail → List Message
mail_messages n name posts = map (λ (m : Mail). message_to n name.home (kind_about name m)) posts

-- an entry of a node
abbrev pub entry_of : ℕ → What → Entry
entry_of node what = record { node = node; what = what }

-- A section opens, with these bytes.
pub record SectionOpening : Type 0 where
  pub node : Node
  pub answer : Answer
  pub entry : Entry

abbrev pub guard_answer : Bool → Guard → Answer
guard_answer write guard = if write then Writing guard else Reading guard

abbrev pub section_opening : Bool → Name → List ℕ → SectionStart → Node → SectionOpening
section_opening write name bytes begun n = record {
  node = record n { sections = begun.sections };
  answer = guard_answer write (record { node = n.me; name = name; number = begun.number; bytes = bytes });
  entry = entry_of n.me (if write then what.StartWrite name else what.StartRead name);
}

unfoldable pub section_opens : Bool → Name → List ℕ → Node → SectionOpening
section_opens write name bytes n = section_opening write name bytes (section_begins write name bytes n.sections) n
