-- What deeds keep of nodes that fit holds after each event, and in every run.
use Rattle.std.proofs.Common.{ℕ, List, [], ◌∷◌, subst}
use Rattle.crl_model.specs.declared.event.Event.{Event}
use Rattle.crl_protocol.specs.Parcels.{Piece, PartsGathered}
use Rattle.crl_protocol.specs.Places.{Took}
use Rattle.crl_protocol.specs.Node.{Node}
use Rattle.crl_model.specs.Names.{at_node}
use Rattle.crl_protocol.specs.World.{World, WorldStep, step, IsRunFrom, world_after}
use Rattle.crl_deeds.specs.Deeds.{Calls}
use Rattle.crl_deeds.specs.NodeFacts.{ComesIn, Fits, AllFit}
use Rattle.crl_deeds.specs.Turns.{Turn, calls, hears, gathers, answers, carriage, Kept}
use Rattle.crl_deeds.proofs.Cases.Turns.{turn_of, all_took, each_at}
use Rattle.crl_deeds.proofs.Fits.Worlds.{away_load, fits_event}

abbrev All : (Node → Type 0) → World → Type 0
All P w = (i : ℕ) → P (w.nodes i)

pub with_rest : (j : ℕ) (n : Node) (p : Piece) (rest : List Piece) (parcels : PartsGathered) → Took p n.inbox rest → Fits j n → Fits j (record n { inbox = rest; parcels = parcels })
with_rest j n p rest parcels took f = record { me = f.me; each = f.each; cache = f.cache; fresh = f.fresh; inbox = (all_took (ComesIn n.me) took f.inbox).1; outbox = f.outbox }

pub kept_turn : (P : Node → Type 0) → Kept P → (w : World) (v : WorldStep) {e : Event} → Turn w e v → AllFit w → ((i : ℕ) → P (w.nodes i)) → (i : ℕ) → P (v.world.nodes i)
kept_turn P k w v (calls i c o few free may d) f h =
    each_at (λ j n. P n) w.nodes i _ h (k.boxes o.node _ _ _ _ _ _ (k.deed i (w.nodes i) (Calls c) o d (f i) tt free (h i)))
kept_turn P k w v (hears i place p rest parcels part o few took d) f h =
    let n = w.nodes i in
    let away = subst (λ (y : Type 0). y) (away_load p.message.sender n.me part p.message.kind) (all_took (ComesIn n.me) took (f i).inbox).0 in
    each_at (λ j n. P n) w.nodes i _ h (k.boxes o.node _ _ _ _ _ _ (k.deed i (record n { inbox = rest; parcels = parcels }) _ o d (with_rest i n p rest parcels took (f i)) away tt (k.boxes n _ _ _ _ _ _ (h i))))
kept_turn P k w v (gathers i place p rest parcels key few took keyed) f h = each_at (λ j n. P n) w.nodes i _ h (k.boxes (w.nodes i) _ _ _ _ _ _ (h i))
kept_turn P k w v (answers i answer few ready) f h = each_at (λ j n. P n) w.nodes i _ h (k.boxes _ _ _ _ _ _ _ (k.answered (w.nodes i) answer ready (h i)))
kept_turn P k w v (carriage i place p rest few took) f h =
    let sent : All P (record w { nodes = at_node w.nodes i _ }) = each_at (λ j n. P n) w.nodes i _ h (k.boxes (w.nodes i) _ _ _ _ _ _ (h i)) in
    each_at (λ j n. P n) _ p.message.addressee _ sent (k.boxes _ _ _ _ _ _ _ (sent p.message.addressee))

pub kept_run : (P : Node → Type 0) → Kept P → (w : World) (es : List Event) → IsRunFrom w es → AllFit w → ((i : ℕ) → P (w.nodes i)) → (i : ℕ) → P ((world_after w es).nodes i)
kept_run P k w [] r f h = h
kept_run P k w (e ∷ es) r f h = kept_run P k (step e w).world es r.1 (fits_event w e r.0 f) (kept_turn P k w _ (turn_of w e r.0) f h)
