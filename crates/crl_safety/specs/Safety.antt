-- What is true of each node of a run before each of its events, beside the event's being one that may come.
use Rattle.std.specs.Prelude.{◌≡◌, ◌≢◌, ℕ, ◌+◌, ◌<◌, ◌≤◌, ◌^◌, ◌==◌, Bool, true, false, List, length}
use Rattle.std.specs.declared.option.Option.{Option}
use Rattle.std.specs.declared.option.Option.TheVariants.{None, Some}
use Rattle.crl_model.specs.declared.name.Name.{Name}
use Rattle.crl_model.specs.declared.directory.Section.TheVariants.{Closed}
use Rattle.crl_model.specs.declared.message.Kind.{Kind}
use Rattle.crl_model.specs.declared.message.Kind.TheVariants as kind
use Rattle.crl_pieces.specs.Pieces.{is_complete, joined}
use Rattle.crl_protocol.specs.Home.{Home}
use Rattle.crl_protocol.specs.Remote.{Remote}
use Rattle.crl_protocol.specs.Gathering.{awaits}
use Rattle.crl_protocol.specs.Sections.{OpenSection, section_at}
use Rattle.crl_protocol.specs.Node.{Node, home_of, is_mine}
use Rattle.crl_protocol.specs.Handlers.{is_queued}
use Rattle.crl_protocol.specs.Parcels.{Piece, Key, key_of, with_load}
use Rattle.crl_protocol.specs.Receiving.{slots_with}
use Rattle.crl_protocol.specs.World.{is_free}
use Rattle.crl_safety.specs.Tests.{MeetsTest, PieceFits}

-- Of a region whose home the node is: its versions fit a word, an ask of a node that has none in the queue finds a place
-- there, the home's sections are those that the node notes, and its own ask waits only while it has no section open.
pub record HomeIsSafe (n : Node) (name : Name) (h : Home) : Type 0 where
  pub versions : h.last + length h.queue + 1 < 2 ^ 64
  pub room : (i : ℕ) → i < n.nodes → is_queued i h.queue ≡ false → length h.queue < n.nodes
  pub listed : length h.listed ≡ n.nodes
  pub sections : section_at name n.sections ≡ h.mine
  pub own_ask : is_queued n.me h.queue ≡ true → h.mine ≡ Closed
  pub free : is_free n.activity ≡ true → is_queued n.me h.queue ≡ false

-- Of another home's region: the sections here are those that the node notes, and who asks has none open.
pub record RemoteIsSafe (n : Node) (name : Name) (r : Remote) : Type 0 where
  pub sections : section_at name n.sections ≡ r.here
  pub closed : r.asking ≢ None → r.here ≡ Closed

-- The bytes with which open sections of a region began are as many as the region has.
pub record BytesAreSafe (n : Node) (name : Name) (s : OpenSection) : Type 0 where
  pub home : (h : Home) → home_of n name ≡ Some h → length s.bytes ≡ h.size
  pub remote : (r : Remote) → is_mine n name ≡ false → n.remotes name ≡ Some r → length s.bytes ≡ r.size

pub record IsSafe (n : Node) : Type 0 where
  pub home : (name : Name) (h : Home) → home_of n name ≡ Some h → HomeIsSafe n name h
  pub remote : (name : Name) (r : Remote) → is_mine n name ≡ false → n.remotes name ≡ Some r → RemoteIsSafe n name r
  -- of its own regions the node is the home, and nothing else
  pub own : (name : Name) → is_mine n name ≡ true → n.remotes name ≡ None
  pub bytes : (name : Name) (s : OpenSection) → n.sections.records name ≡ Some s → BytesAreSafe n name s
  pub section_numbers : n.sections.last + 1 < 2 ^ 64
  pub rounds : n.rounds + 1 < 2 ^ 64
  pub gathering : n.gathering.round + 1 < 2 ^ 64

-- A message that comes: it meets the test of its handler, a part of a round one that is awaited.
abbrev pub MessageIsSafe : Node → ℕ → Kind → Type 0
MessageIsSafe n from (kind.Come round part) = awaits from n.gathering ≡ true
MessageIsSafe n from k = MeetsTest n from k

-- A piece in the inbox: it is another node's, it is taken in, and with the last missing piece its message is safe.
pub record PieceIsSafe (n : Node) (p : Piece) : Type 0 where
  pub sender : p.message.sender < n.nodes
  pub other : p.message.sender ≢ n.me
  pub whole : key_of p.message ≡ None → MessageIsSafe n p.message.sender p.message.kind
  pub part : (key : Key) → key_of p.message ≡ Some key → PieceFits n p key
  pub last : (key : Key) → key_of p.message ≡ Some key → is_complete (slots_with p (n.parcels key)) ≡ true
      → MessageIsSafe n p.message.sender (with_load (joined (slots_with p (n.parcels key))) p.message.kind)
