-- What is known of all regions of a world, and what an event of the world does to each of them.
use Rattle.std.specs.Prelude.{◌≡◌, ℕ, List}
use Rattle.std.specs.declared.option.Option.TheVariants.{None, Some}
use Rattle.crl_model.specs.declared.name.Name.{Name}
use Rattle.crl_protocol.specs.Home.{Home}
use Rattle.crl_protocol.specs.Sections.{OpenSection}
use Rattle.crl_protocol.specs.World.{World}
use Rattle.crl_flight.specs.Flight.{Moves, Under, messages_of}
use Rattle.crl_coherence.specs.Region.{Region, Happens}
use Rattle.crl_coherence.specs.Coherent.{IsCoherent, created}
use Rattle.crl_regions.specs.MailFits.{HasSize, AllMailFits}
use Rattle.crl_regions.specs.View.{UnderWay, table_of, tables_of, view}

-- These messages are under way in the world, each fits its region, and each region that is there is coherent, with
-- these bytes in the array. Each open section that a node notes has those bytes too.
pub record RegionsHold (w : World) (us : List Under) (arrays : Name → List ℕ) : Type 0 where
  pub under_way : UnderWay w us
  pub mail : AllMailFits (tables_of w) (messages_of us)
  pub coherent : (name : Name) (h : Home) → table_of name w ≡ Some h → IsCoherent name.home (view name (arrays name) (messages_of us) w)
  pub records : (i : ℕ) (name : Name) (r : OpenSection) → (w.nodes i).sections.records name ≡ Some r → r.bytes ≡ arrays name

-- the region's messages stand at other places, and nothing else of it differs
pub record IsCarried (c k : Region) : Type 0 where
  pub home : c.home ≡ k.home
  pub remotes : (n : ℕ) → c.remotes n ≡ k.remotes n
  pub flight : Moves c.flight k.flight
  pub array : c.array ≡ k.array

-- one event of the region, after which its messages may stand at other places
abbrev pub GoesOn : ℕ → Region → Region → Type 0
GoesOn me g k = (c : Region) × Happens me g c × IsCarried c k

-- From one world to the next, with what is under way and the arrays in both: each region that was there is there still,
-- with its size, and goes on by one event; and one that is new was just created.
pub record RegionsGoOn (w v : World) (us vs : List Under) (before after : Name → List ℕ) : Type 0 where
  pub there : (name : Name) (h : Home) → table_of name w ≡ Some h → HasSize h.size (table_of name v)
  pub goes_on : (name : Name) (h : Home) → table_of name w ≡ Some h → GoesOn name.home (view name (before name) (messages_of us) w) (view name (after name) (messages_of vs) v)
  pub made : (name : Name) (h : Home) → table_of name w ≡ None → table_of name v ≡ Some h → (size : ℕ) × (created w.count size (λ j. size) ≡ view name (after name) (messages_of vs) v)

-- a step of all regions: what is under way then, what is known of it, and how each region came to it
pub record RegionsStep (w v : World) (us : List Under) (before after : Name → List ℕ) : Type 0 where
  pub under : List Under
  pub hold : RegionsHold v under after
  pub go_on : RegionsGoOn w v us under before after
