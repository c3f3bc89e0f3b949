-- The single machine that a world stands for.
use Rattle.std.specs.Prelude.{◌≡◌, ℕ, ◌+◌, ◌<◌, ◌≤◌, List}
use Rattle.crl_model.specs.declared.name.Name.{Name}
use Rattle.crl_model.specs.declared.stage.Stage.TheVariants.{Unknown}
use Rattle.crl_machine.specs.SingleMachine.{State}
use Rattle.crl_protocol.specs.Sections.{section_at, count_of, is_writing}
use Rattle.crl_protocol.specs.Node.{serials_used, map_count}
use Rattle.crl_protocol.specs.World.{World}
use Rattle.crl_flight.specs.Flight.{Under}
use Rattle.crl_lifetime.specs.Lifetime.{home_stage, tells_live, any_size, under_way}
use Rattle.crl_regions.specs.Steps.{RegionsHold}
use Rattle.crl_rounds.specs.Standing.{RoundsStand}

-- What the machine has is what the nodes have.
pub record Mirrors (w : World) (s : State) : Type 0 where
  pub nodes : s.nodes ≡ w.count
  -- a region stands where its home has it; none has a home that is no node
  pub stage : (r : Name) → r.home < w.count → s.stage r ≡ home_stage r w
  pub elsewhere : (r : Name) → w.count ≤ r.home → s.stage r ≡ Unknown
  pub used : (n : ℕ) → n < w.count → s.used n ≡ serials_used (w.nodes n)
  -- a map that its home has granted counts already while the answer is under way
  pub maps : (n : ℕ) (r : Name) → n < w.count → s.maps n r ≡ map_count ((w.nodes n).maps r) + under_way (tells_live any_size n r) w
  pub reads : (n : ℕ) (r : Name) → n < w.count → s.reads n r ≡ count_of (section_at r (w.nodes n).sections)
  pub writes : (n : ℕ) (r : Name) → n < w.count → s.writes n r ≡ is_writing (section_at r (w.nodes n).sections)
  -- the copies of each region are coherent over the machine's bytes
  pub bytes : (us : List Under) × RegionsHold w us s.bytes
  pub rounds : RoundsStand w s
