-- What is known of each world that a run reaches.
use Rattle.std.specs.Prelude.{◌≡◌, ◌≢◌, ℕ, ◌<◌, Bool, true, List, []}
use Rattle.std.specs.List.{AllByRecursion}
use Rattle.std.specs.declared.option.Option.TheVariants.{None, Some}
use Rattle.crl_model.specs.declared.name.Name.{Name}
use Rattle.crl_model.specs.declared.event.Event.{Event}
use Rattle.crl_model.specs.declared.directory.Section.TheVariants.{Closed, Writing}
use Rattle.crl_model.specs.declared.message.Message.{Message}
use Rattle.crl_protocol.specs.Places.{Took}
use Rattle.crl_pieces.specs.Pieces.{is_complete, joined}
use Rattle.crl_protocol.specs.Parcels.{Piece, Key, key_of, with_load}
use Rattle.crl_protocol.specs.Receiving.{slots_with}
use Rattle.crl_protocol.specs.Remote.{Remote}
use Rattle.crl_protocol.specs.Lifetimes.{Mapping, cached_size}
use Rattle.crl_protocol.specs.Node.{Node, Waiting, ForSection}
use Rattle.crl_protocol.specs.Sections.{section_at}
use Rattle.crl_protocol.specs.Handlers.{is_queued}
use Rattle.crl_protocol.specs.World.{World, new_world, world_of, step, is_enabled, pieces_in_boxes, IsRunFrom}
use Rattle.crl_safety.specs.Tests.{MeetsTest, PieceFits}
use Rattle.crl_flight.specs.Flight.{Under, messages_of}
use Rattle.crl_coherence.specs.Coherent as region
use Rattle.crl_regions.specs.Addresses.{GoesToOther}
use Rattle.crl_regions.specs.MailFits.{HasSize}
use Rattle.crl_regions.specs.Steps.{RegionsHold, RegionsStep}
use Rattle.crl_regions.specs.View.{UnderWay, table_of, view, array_after}

-- it holds of the world after any run of any number of nodes
abbrev pub AfterRuns : (World → Type 0) → Type 0
AfterRuns Holds = (count capacity : ℕ) (run : List Event) → IsRunFrom (new_world count capacity) run → Holds (world_of count capacity run)

-- each piece in a box, and each message under way, goes from a node of the world to another one
abbrev pub PiecesGoToOthers : World → Type 0
PiecesGoToOthers w = AllByRecursion (λ (p : Piece). GoesToOther w.count p.message) (pieces_in_boxes w)

abbrev pub MessagesGoToOthers : World → Type 0
MessagesGoToOthers w = (us : List Under) → UnderWay w us → AllByRecursion (GoesToOther w.count) (messages_of us)

-- so does each piece in the box of a node, and one in an inbox is for that node
pub record BoxesGoToOthers (w : World) : Type 0 where
  pub inbox : (i : ℕ) (p : Piece) (rest : List Piece) → Took p (w.nodes i).inbox rest → GoesToOther w.count p.message × (p.message.addressee ≡ i)
  pub outbox : (i : ℕ) (p : Piece) (rest : List Piece) → Took p (w.nodes i).outbox rest → GoesToOther w.count p.message

-- where no piece is in a box, nothing is under way
abbrev pub EmptyBoxesAreQuiet : World → Type 0
EmptyBoxesAreQuiet w = (us : List Under) → UnderWay w us → pieces_in_boxes w ≡ [] → us ≡ []

-- whatever is under way, and holds of all regions, each event that may come keeps it
abbrev pub EventsKeepRegions : World → Type 0
EventsKeepRegions w = (e : Event) → is_enabled e w ≡ true → (us : List Under) (arrays : Name → List ℕ) → RegionsHold w us arrays
    → RegionsStep w (step e w).world us arrays (λ name. array_after name e w (arrays name))

-- the sections that a node notes are those that the region's tables say are open there
abbrev pub SectionsAreTheTables : World → Type 0
SectionsAreTheTables w = (i : ℕ) (name : Name) (array : List ℕ) (messages : List Message) → region.node_section name.home (view name array messages w) i ≡ section_at name (w.nodes i).sections

-- while a node's section of a region is open to write, no other node has a section of it open
abbrev pub WriteSectionsAreAlone : World → Type 0
WriteSectionsAreAlone w = (name : Name) (i j : ℕ) → i ≢ j → section_at name (w.nodes i).sections ≡ Writing → section_at name (w.nodes j).sections ≡ Closed

-- The size that a node has of a region is the region's: in its record of another node's region, where it maps it, and in
-- its cache.
pub record SizesAreKnown (w : World) : Type 0 where
  pub record_of : (i : ℕ) (name : Name) (r : Remote) → (w.nodes i).remotes name ≡ Some r → HasSize r.size (table_of name w)
  pub mapped : (i : ℕ) (name : Name) (m : Mapping) → (w.nodes i).maps name ≡ Some m → HasSize m.size (table_of name w)
  pub cached : (i : ℕ) (name : Name) (size : ℕ) → cached_size name (w.nodes i).cache ≡ Some size → HasSize size (table_of name w)

-- A node that asks for a section of a region waits for it: another node with its ask, and the home with its own in the
-- queue.
pub record AskersWait (w : World) : Type 0 where
  pub other : (i : ℕ) (name : Name) (array : List ℕ) (messages : List Message) → ((view name array messages w).remotes i).asking ≢ None → (w.nodes i).activity ≡ Waiting (ForSection name)
  pub home : (name : Name) (array : List ℕ) (messages : List Message) → is_queued name.home (view name array messages w).home.queue ≡ true → (w.nodes name.home).activity ≡ Waiting (ForSection name)

-- And a node that waits for one has asked for it.
pub record WaitersAsk (w : World) : Type 0 where
  pub other : (i : ℕ) (name : Name) (array : List ℕ) (messages : List Message) → i ≢ name.home → (w.nodes i).activity ≡ Waiting (ForSection name) → (write : Bool) × (((view name array messages w).remotes i).asking ≡ Some write)
  pub home : (name : Name) (array : List ℕ) (messages : List Message) → (w.nodes name.home).activity ≡ Waiting (ForSection name) → is_queued name.home (view name array messages w).home.queue ≡ true

-- each message about copies that is under way meets the test of its handler, and each piece of one is taken in
abbrev pub MessagesMeetTests : World → Type 0
MessagesMeetTests w = (us : List Under) (arrays : Name → List ℕ) → RegionsHold w us arrays → (m : Message) (rest : List Message) → Took m (messages_of us) rest → MeetsTest (w.nodes m.addressee) m.sender m.kind

abbrev pub PiecesAreTakenIn : World → Type 0
PiecesAreTakenIn w = (i : ℕ) (p : Piece) (rest : List Piece) (key : Key) → i < w.count → Took p (w.nodes i).inbox rest → key_of p.message ≡ Some key → PieceFits (w.nodes i) p key

-- A piece in an inbox, whose message is whole with it: that message meets the test of its handler.
pub record MakesFitting (n : Node) (p : Piece) : Type 0 where
  pub whole : key_of p.message ≡ None → MeetsTest n p.message.sender p.message.kind
  pub last : (key : Key) → key_of p.message ≡ Some key → is_complete (slots_with p (n.parcels key)) ≡ true
      → MeetsTest n p.message.sender (with_load (joined (slots_with p (n.parcels key))) p.message.kind)

abbrev pub WholeMessagesMeetTests : World → Type 0
WholeMessagesMeetTests w = (i : ℕ) (p : Piece) (rest : List Piece) → i < w.count → Took p (w.nodes i).inbox rest → MakesFitting (w.nodes i) p
