-- How many events a world counts.
use Rattle.std.proofs.Common.{◌≡◌, ◌+◌, ℕ, List, length, arith}
use Rattle.crl_model.specs.declared.event.Event.{Event}
use Rattle.crl_protocol.specs.World.{new_world, world_of, IsRunFrom}
use Rattle.crl_deeds.proofs.Laws.{run_events}

pub events_counted : (count capacity : ℕ) (run : List Event) → IsRunFrom (new_world count capacity) run → (world_of count capacity run).events ≡ length run
events_counted count capacity run r =
    let more : (world_of count capacity run).events ≡ 0 + length run = run_events (new_world count capacity) run r in
    omega arith
