-- What is known of a node that takes a step, and of the single machine before it, where its entries are judged.
use Rattle.std.specs.Prelude.{◌≡◌, ℕ, ◌<◌, Bool, true, false, Some, List, length}
use Rattle.crl_model.specs.declared.name.Name.{Name}
use Rattle.crl_model.specs.declared.stage.Stage.TheVariants as stage
use Rattle.crl_model.specs.declared.message.Kind.{Kind}
use Rattle.crl_model.specs.declared.message.Kind.TheVariants as kind
use Rattle.crl_model.specs.Stages.{is_there, is_deleted}
use Rattle.crl_machine.specs.SingleMachine.{State, IsFree, IsUnwritten, IsUnused}
use Rattle.crl_protocol.specs.Home.{Home}
use Rattle.crl_protocol.specs.Lifetimes.{Mapping, cached_size}
use Rattle.crl_protocol.specs.Sections.{OpenSection, section_at, section_begins}
use Rattle.crl_protocol.specs.Node.{Node, Outcome, is_mine, is_real, home_of, lifetime_of, map_count}
use Rattle.crl_protocol.specs.Verdict.{verdict}
use Rattle.crl_protocol.specs.World.{is_call}
use Rattle.crl_deeds.specs.Counts.{Counts, GoingFew}
use Rattle.crl_deeds.specs.Deeds.{Cause, Calls, Hears}
use Rattle.crl_lifetime.specs.Lifetime.{waits_for_map, has_sound, has_doomed}
use Rattle.crl_history.specs.Legal.{is_engaged}
use Rattle.crl_history.proofs.Openings.{SaysSections, OpensAs}
use Rattle.crl_history.proofs.Serials.{SaysUsed}

pub record Sees (s : State) (n : Node) : Type 0 where
  pub few : n.me < s.nodes
  pub free : is_engaged n.activity ≡ false → IsFree s n.me
  pub used : SaysUsed (s.used n.me) n
  pub came : length (s.came n.me) ≡ n.rounds
  -- regions: where each stands, and the sizes of those that the node has
  pub stages : (q : Name) → is_mine n q ≡ true → s.stage q ≡ (lifetime_of n q).stage
  pub unreal : (q : Name) → is_mine n q ≡ false → is_real n q ≡ false → s.stage q ≡ stage.Unknown
  pub sound : (q : Name) → is_mine n q ≡ false → has_sound q n ≡ true → is_there (s.stage q) ≡ true
  pub doomed : (q : Name) → is_mine n q ≡ false → has_doomed q n ≡ true → is_deleted (s.stage q) ≡ true
  pub table : (q : Name) (h : Home) → home_of n q ≡ Some h → h.size ≡ length (s.bytes q)
  pub mapped : (q : Name) (m : Mapping) → n.maps q ≡ Some m → m.size ≡ length (s.bytes q)
  pub cached : (q : Name) (size : ℕ) → is_mine n q ≡ false → cached_size q n.cache ≡ Some size → size ≡ length (s.bytes q)
  pub deleters : (q : Name) → GoingFew s.nodes (lifetime_of n q).stage
  -- maps and sections of the node
  pub maps : (q : Name) → waits_for_map q n.activity ≡ false → s.maps n.me q ≡ map_count (n.maps q)
  pub counts : (q : Name) → Counts (is_mine n q) (n.maps q)
  pub sections : SaysSections (s.reads n.me) (s.writes n.me) n.sections
  pub shown : (q : Name) (r : OpenSection) → n.sections.records q ≡ Some r → r.bytes ≡ s.bytes q

-- A node that asks a home for a map or a delete waits for it.
pub record Asks (s : State) (from me : ℕ) (name : Name) : Type 0 where
  pub few : from < s.nodes
  pub free : IsFree s from
  pub home : name.home ≡ me

abbrev pub HeardFits : State → ℕ → ℕ → Kind → Type 0
HeardFits s from me (kind.InfoAsk name) = Asks s from me name × (s.maps from name ≡ 0)
HeardFits s from me (kind.DeleteAsk name) = Asks s from me name
HeardFits s from me _ = Unit {0}

abbrev pub CauseFits : State → Node → Cause → Type 0
CauseFits s n (Calls c) = is_call n c (verdict n c) ≡ true
CauseFits s n (Hears from k) = HeardFits s from n.me k

-- No open section stands in the way of one that begins.
abbrev pub Lets : State → Bool → Name → Type 0
Lets s true name = IsUnused s name
Lets s false name = IsUnwritten s name

abbrev pub LetsBegin : State → Node → Outcome → Type 0
LetsBegin s n o = (write : Bool) (name : Name) (bytes : List ℕ) → OpensAs write (section_at name n.sections) → o.node.sections ≡ (section_begins write name bytes n.sections).sections → Lets s write name
