-- What is known of a node and its messages by counting: each map count is at least 1 and fits, and what isn't about
-- copies goes to a node of the world.
use Rattle.std.specs.Prelude.{◌≡◌, ℕ, ◌+◌, ◌^◌, ◌≤◌, ◌<◌, ◌==◌, Bool, true, false}
use Rattle.std.specs.declared.option.Option.{Option}
use Rattle.std.specs.declared.option.Option.TheVariants.{None, Some}
use Rattle.crl_model.specs.declared.name.Name.{Name}
use Rattle.crl_model.specs.declared.stage.Stage.{Stage}
use Rattle.crl_model.specs.declared.stage.Stage.TheVariants as stage
use Rattle.crl_model.specs.declared.message.Message.{Message}
use Rattle.crl_model.specs.declared.message.Kind.{Kind}
use Rattle.crl_model.specs.declared.message.Kind.TheVariants as kind
use Rattle.crl_model.specs.declared.directory.Section.{Section}
use Rattle.crl_model.specs.declared.directory.Section.TheVariants as section
use Rattle.crl_protocol.specs.Sections.{Sections, section_at, count_of, is_writing}
use Rattle.crl_protocol.specs.Lifetimes.{Mapping}
use Rattle.crl_protocol.specs.Node.{Node, Activity, Waiting, ForSection, ForMap, is_mine, lifetime_of, serials_used}
use Rattle.crl_protocol.specs.World.{World}
use Rattle.crl_deeds.specs.NodeFacts.{AllFit}
use Rattle.crl_deeds.specs.Turns.{Held}

abbrev pub Counts : Bool → Option Mapping → Type 0
Counts mine None = Unit {0}
Counts mine (Some m) = (1 ≤ m.count) × (m.count < 2 ^ 32) × (mine ≡ true → m.doomed ≡ false)

abbrev pub WaitsAway : ℕ → Activity → Type 0
WaitsAway me (Waiting (ForMap q purged)) = (q.home == me) ≡ false
WaitsAway me _ = Unit {0}

-- a home isn't told of its own regions, nor asks for them; what isn't about copies goes to a node of the world
abbrev pub PlainKind : ℕ → ℕ → ℕ → Kind → Type 0
PlainKind count from to (kind.InfoAsk name) = ((name.home == from) ≡ false) × (to < count)
PlainKind count from to (kind.InfoIs name t) = to < count
PlainKind count from to (kind.DeleteAsk name) = to < count
PlainKind count from to (kind.DeleteIs name t) = to < count
PlainKind count from to (kind.Purge name) = ((name.home == to) ≡ false) × (to < count)
PlainKind count from to (kind.Purged name) = to < count
PlainKind count from to (kind.Come round part) = to < count
PlainKind count from to (kind.Result round fold) = to < count
PlainKind count from to _ = Unit {0}

abbrev pub Plain : ℕ → Message → Type 0
Plain count m = (m.sender < count) × PlainKind count m.sender m.addressee m.kind

abbrev pub GoingFew : ℕ → Stage → Type 0
GoingFew count (stage.Going deleter) = deleter < count
GoingFew count _ = Unit {0}

pub record Counted (count i : ℕ) (n : Node) : Type 0 where
  pub me : n.me ≡ i
  pub few : n.nodes ≡ count
  pub maps : (q : Name) → Counts (is_mine n q) (n.maps q)
  pub waits : WaitsAway n.me n.activity
  pub asked : (q : Name) → (lifetime_of n q).asked n.me ≡ false
  pub deleters : (q : Name) → GoingFew count (lifetime_of n q).stage

-- No lifetime stands past the serials that were used.
abbrev pub NoneYet : Node → Type 0
NoneYet n = (s : ℕ) → serials_used n < s → (n.lifetimes s).stage ≡ stage.Unknown

-- Read sections inside each other are counted. Where a node waits for a section, none is open to write, and one more fits.
abbrev pub FitsReads : Section → Type 0
FitsReads section.Closed = Unit {0}
FitsReads (section.Reading count) = (1 ≤ count) × (count < 2 ^ 32)
FitsReads section.Writing = Unit {0}

abbrev pub AwaitsSection : Activity → Sections → Type 0
AwaitsSection (Waiting (ForSection q)) s = (is_writing (section_at q s) ≡ false) × (count_of (section_at q s) + 1 < 2 ^ 32)
AwaitsSection _ s = Unit {0}

pub record SectionsFit (n : Node) : Type 0 where
  pub each : (q : Name) → FitsReads (section_at q n.sections)
  pub waiting : AwaitsSection n.activity n.sections

abbrev pub AllSectionsFit : World → Type 0
AllSectionsFit w = (i : ℕ) → SectionsFit (w.nodes i)

abbrev pub AllCounted : ℕ → World → Type 0
AllCounted count w = Held (Counted count) (Plain count) w

-- What is known of every world of a run.
pub record Known (w : World) : Type 0 where
  pub fits : AllFit w
  pub held : AllCounted w.count w
  pub none : Held (λ i n. NoneYet n) (λ m. Unit {0}) w
  pub sections : AllSectionsFit w
