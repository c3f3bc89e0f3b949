-- A node past the world's nodes has no section open.
use Rattle.std.proofs.Common.{◌≡◌, ℕ, ◌≤◌, List, [], ◌∷◌, refl, arith}
use Rattle.std.specs.List.{AllByRecursion}
use Rattle.crl_model.specs.declared.name.Name.{Name}
use Rattle.crl_model.specs.declared.message.Message.{Message}
use Rattle.crl_model.specs.declared.event.Event.{Event}
use Rattle.crl_model.specs.declared.directory.Section.TheVariants.{Closed}
use Rattle.crl_protocol.specs.Sections.{section_at}
use Rattle.crl_protocol.specs.Node.{Node}
use Rattle.crl_protocol.specs.World.{new_world, world_of, IsRunFrom}
use Rattle.crl_deeds.specs.Turns.{Local}
use Rattle.crl_deeds.proofs.Laws.{held_run}

abbrev ClosedPast : ℕ → ℕ → Node → Type 0
ClosedPast count i n = count ≤ i → (name : Name) → section_at name n.sections ≡ Closed

abbrev Any : Message → Type 0
Any m = Unit {0}

anything : (ms : List Message) → AllByRecursion Any ms
anything [] = tt
anything (m ∷ ms) = (tt, anything ms)

past_local : (count : ℕ) → Local count (ClosedPast count) Any
past_local count = record {
  deed = λ i n cause o few d came h. (λ l. absurd (omega arith), anything o.posts);
  boxes = λ i n inbox outbox parcels records notes posted h. h;
  answered = λ i n answer e h. h;
  parts = λ m part h. tt;
}

pub closed_past : (count capacity : ℕ) (run : List Event) → IsRunFrom (new_world count capacity) run → (i : ℕ) → count ≤ i → (name : Name) → section_at name ((world_of count capacity run).nodes i).sections ≡ Closed
closed_past count capacity run r i past name =
    (held_run count (ClosedPast count) Any (past_local count) run (new_world count capacity) refl r (λ j. record { node = λ l q. refl; inbox = tt; outbox = tt }) i).node past name
