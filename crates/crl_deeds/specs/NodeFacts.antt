-- What holds of a node in every run: the bytes of its tables, copies and sections have the sizes of their regions,
-- and the node waits for what it has asked for.
use Rattle.std.specs.Prelude.{◌≡◌, ◌⊎◌, ℕ, ◌==◌, Bool, true, false, List, [], ◌∷◌, length}
use Rattle.std.specs.declared.option.Option.{Option}
use Rattle.std.specs.declared.option.Option.TheVariants.{None, Some}
use Rattle.std.specs.Bool.{MatchBool}
use Rattle.std.specs.List.{AllByRecursion}
use Rattle.crl_model.specs.declared.name.Name.{Name}
use Rattle.crl_model.specs.declared.stage.Stage.{Stage}
use Rattle.crl_model.specs.declared.stage.Stage.TheVariants as stage
use Rattle.crl_model.specs.declared.directory.Asked.{Asked}
use Rattle.crl_model.specs.declared.message.Message.{Message}
use Rattle.crl_model.specs.declared.message.Kind.{Kind}
use Rattle.crl_model.specs.declared.message.Kind.TheVariants as kind
use Rattle.crl_protocol.specs.Parcels.{Piece}
use Rattle.crl_protocol.specs.Home.{Home}
use Rattle.crl_protocol.specs.Remote.{Copy, Remote, is_closed}
use Rattle.crl_protocol.specs.Lifetimes.{Mapping, Cached}
use Rattle.crl_protocol.specs.Sections.{OpenSection}
use Rattle.crl_protocol.specs.Node.{Node, Activity, Free, Waiting, ForSection, ForMap, ForDelete, is_mine, home_of, lifetime_of}
use Rattle.crl_protocol.specs.World.{World}

-- what a node has of one name
pub record Seen : Type 0 where
  pub mine : Bool
  pub stage : Stage
  pub home : Option Home
  pub remote : Option Remote
  pub mapping : Option Mapping
  pub opened : Option OpenSection

abbrev pub seen : Node → Name → Seen
seen n q = record {
  mine = is_mine n q;
  stage = (lifetime_of n q).stage;
  home = home_of n q;
  remote = n.remotes q;
  mapping = n.maps q;
  opened = n.sections.records q;
}

-- Bytes of an open section have the mapping's size.
abbrev pub RecordFits : Option OpenSection → Option Mapping → Type 0
RecordFits None m = Unit {0}
RecordFits (Some r) None = ⊥
RecordFits (Some r) (Some m) = (length r.bytes ≡ m.size) × (is_closed r.section ≡ false)

-- At the home: a live region has its table, its bytes have its size, and it is mapped under its size.
abbrev pub LiveFits : Stage → Option Home → Type 0
LiveFits stage.Live None = ⊥
LiveFits stage.Live (Some h) = Unit {0}
LiveFits _ h = Unit {0}

abbrev pub HomeFits : Option Home → Type 0
HomeFits None = Unit {0}
HomeFits (Some h) = length h.bytes ≡ h.size

abbrev pub MappedHere : Option Mapping → Option Home → Type 0
MappedHere None h = Unit {0}
MappedHere (Some m) None = ⊥
MappedHere (Some m) (Some h) = m.size ≡ h.size

-- Elsewhere: the bytes of the copy have the region's size, and it is mapped under its size.
abbrev pub CopyFits : Option Copy → ℕ → Type 0
CopyFits None size = Unit {0}
CopyFits (Some copy) size = length copy.bytes ≡ size

abbrev pub RemoteFits : Option Remote → Type 0
RemoteFits None = Unit {0}
RemoteFits (Some r) = CopyFits r.copy r.size

abbrev pub MappedThere : Option Mapping → Option Remote → Type 0
MappedThere None r = Unit {0}
MappedThere (Some m) None = Unit {0}
MappedThere (Some m) (Some r) = m.size ≡ r.size

pub record OwnHere (v : Seen) : Type 0 where
  pub live : LiveFits v.stage v.home
  pub bytes : HomeFits v.home
  pub mapped : MappedHere v.mapping v.home
  pub nothing : v.remote ≡ None

pub record OwnThere (v : Seen) : Type 0 where
  pub bytes : RemoteFits v.remote
  pub mapped : MappedThere v.mapping v.remote
  pub nothing : v.home ≡ None
  pub unknown : v.stage ≡ stage.Unknown

abbrev pub OwnFits : Bool → Seen → Type 0
OwnFits true v = OwnHere v
OwnFits false v = OwnThere v

-- Of a queue none, and at most one, of the asks are the node's own.
abbrev pub NoOwn : ℕ → List Asked → Type 0
NoOwn me queue = AllByRecursion (λ ask. (ask.node == me) ≡ false) queue

abbrev pub OneOwn : ℕ → List Asked → Type 0
OneOwn me [] = Unit {0}
OneOwn me (ask ∷ queue) = MatchBool (ask.node == me) (NoOwn me queue) (OneOwn me queue)

abbrev pub QueueFits : ℕ → Name → Option Home → Activity → Type 0
QueueFits me q None a = Unit {0}
QueueFits me q (Some h) a = OneOwn me h.queue × (NoOwn me h.queue ⊎ (a ≡ Waiting (ForSection q)))

-- a node that asks for a copy waits for the section; one that deletes its own region waits for that
abbrev pub AskingFits : Name → Option Remote → Activity → Type 0
AskingFits q None a = Unit {0}
AskingFits q (Some r) a = (r.asking ≡ None) ⊎ (a ≡ Waiting (ForSection q))

abbrev pub GoingFits : ℕ → Name → Stage → Activity → Type 0
GoingFits me q (stage.Going deleter) a = ((deleter == me) ≡ false) ⊎ (a ≡ Waiting (ForDelete q))
GoingFits me q _ a = Unit {0}

-- a region whose section the node waits for is mapped; one that it maps isn't yet, and isn't its own
abbrev pub IsMapped : Option Mapping → Type 0
IsMapped None = ⊥
IsMapped (Some m) = Unit {0}

abbrev pub WaitFits : Name → Activity → Bool → Option Mapping → Type 0
WaitFits q (Waiting (ForSection p)) mine m = p ≡ q → IsMapped m
WaitFits q (Waiting (ForMap p purged)) mine m = p ≡ q → (m ≡ None) × (mine ≡ false)
WaitFits q _ mine m = Unit {0}

pub record Holds (me : ℕ) (q : Name) (a : Activity) (v : Seen) : Type 0 where
  pub sections : RecordFits v.opened v.mapping
  pub own : OwnFits v.mine v
  pub queue : QueueFits me q v.home a
  pub asking : AskingFits q v.remote a
  pub going : GoingFits me q v.stage a
  pub waiting : WaitFits q a v.mine v.mapping

-- regions in the cache have the sizes under which their copies are kept
abbrev pub IsCached : Name → ℕ → List Cached → Type 0
IsCached q size [] = ⊥
IsCached q size (kept ∷ cache) = ((kept.name ≡ q) × (kept.size ≡ size)) ⊎ IsCached q size cache

abbrev pub SizeIs : Option Remote → ℕ → Type 0
SizeIs None size = Unit {0}
SizeIs (Some r) size = r.size ≡ size

abbrev pub FreshFits : Activity → List Cached → Type 0
FreshFits (Waiting (ForMap p purged)) cache = (size : ℕ) → IsCached p size cache → ⊥
FreshFits _ cache = Unit {0}

-- a node asks none but other nodes, and hears of deletes of none but their regions
abbrev pub IsAway : ℕ → ℕ → Kind → Type 0
IsAway from to (kind.Ask name write have) = (from == to) ≡ false
IsAway from to (kind.DeleteAsk name) = ((from == to) ≡ false) × ((name.home == from) ≡ false)
IsAway from to (kind.DeleteIs name told) = (name.home == to) ≡ false
IsAway from to _ = Unit {0}

abbrev pub Leaves : Message → Type 0
Leaves m = IsAway m.sender m.addressee m.kind

abbrev pub Comes : ℕ → Message → Type 0
Comes me m = IsAway m.sender me m.kind

abbrev pub ComesIn : ℕ → Piece → Type 0
ComesIn me p = Comes me p.message

-- all of it, of node i
pub record Fits (i : ℕ) (n : Node) : Type 0 where
  pub me : n.me ≡ i
  pub each : (q : Name) → Holds n.me q n.activity (seen n q)
  pub cache : (q : Name) (size : ℕ) → IsCached q size n.cache → SizeIs (n.remotes q) size
  pub fresh : FreshFits n.activity n.cache
  pub inbox : AllByRecursion (ComesIn n.me) n.inbox
  pub outbox : AllByRecursion (λ (p : Piece). Leaves p.message) n.outbox

-- the node while it makes a call
abbrev pub free : Node → Node
free n = record n { activity = Free }

-- every node of a world
abbrev pub AllFit : World → Type 0
AllFit w = (i : ℕ) → Fits i (w.nodes i)
