-- An event keeps what holds of every world that is seen.
use Rattle.std.proofs.Common.{◌≡◌, ℕ, ◌<◌, ◌≤◌, ◌^◌, true, sym, ◌∙◌, subst, arith}
use Rattle.crl_model.specs.declared.event.Event.{Event}
use Rattle.crl_protocol.specs.Node.{Node}
use Rattle.crl_protocol.specs.World.{World, WorldStep, step, is_enabled}
use Rattle.crl_deeds.specs.Turns.{Turn, calls, hears, gathers, answers, carriage}
use Rattle.crl_deeds.proofs.Laws.{turn_of, turn_count, deed_frame, each_at, turn_events}
use Rattle.crl_world.specs.Seen.{IsKept}

abbrev IsOf : ℕ → Node → Type 0
IsOf i n = n.me ≡ i

numbered : (w : World) (v : WorldStep) {e : Event} → Turn w e v → ((i : ℕ) → IsOf i (w.nodes i)) → (i : ℕ) → IsOf i (v.world.nodes i)
numbered w v (calls i c o few free may d) h = each_at IsOf w.nodes i _ h ((deed_frame _ _ _ d).me ∙ h i)
numbered w v (hears i place p rest parcels part o few took d) h = each_at IsOf w.nodes i _ h ((deed_frame _ _ _ d).me ∙ h i)
numbered w v (gathers i place p rest parcels key few took keyed) h = each_at IsOf w.nodes i _ h (h i)
numbered w v (answers i answer few ready) h = each_at IsOf w.nodes i _ h (h i)
numbered w v (carriage i place p rest few took) h =
    let sent = each_at IsOf w.nodes i _ h (h i) in each_at IsOf _ p.message.addressee _ sent (sent p.message.addressee)

pub kept_step : (w : World) (e : Event) → is_enabled e w ≡ true → w.events < 2 ^ 62 → IsKept w → IsKept (step e w).world
kept_step w e may room k =
    let t = turn_of w e may in
    let same : (step e w).world.count ≡ w.count = turn_count w (step e w) t in
    let more = turn_events w (step e w) t in
    record {
      some = subst (λ n. 0 < n) (sym same) k.some;
      few = subst (λ n. n ≤ 64) (sym same) k.few;
      events = omega arith;
      numbered = numbered w (step e w) t k.numbered;
    }
