-- What an event does that is neither a call nor an answer taken: a piece comes, or is carried.
use Rattle.std.proofs.Common.{◌≡◌, ℕ, Bool, true, false, List}
use Rattle.crl_model.specs.declared.event.Event.{Event}
use Rattle.crl_model.specs.declared.event.Event.TheVariants as event
use Rattle.crl_model.specs.Names.{at_node}
use Rattle.crl_protocol.specs.Parcels.{Piece, with_load, PartsGathered}
use Rattle.crl_protocol.specs.Places.{Took}
use Rattle.crl_protocol.specs.Node.{Node, Recorded, Note, Outcome}
use Rattle.crl_protocol.specs.World.{World, WorldStep, note}
use Rattle.crl_deeds.specs.Deeds.{Hears, Deed}
use Rattle.crl_deeds.specs.Turns.{Turn, calls, hears, gathers, answers, carriage}
use Rattle.crl_deeds.proofs.Laws.{each_at}

abbrev pub is_move : Event → Bool
is_move (event.Call i c) = false
is_move (event.Collect i) = false
is_move _ = true

-- What holds of each node whatever its boxes and lists are, where it holds after each message that a node hears.
abbrev pub Blind : (ℕ → Node → Type 0) → Type 0
Blind R = (i : ℕ) (n : Node) (inbox outbox : List Piece) (parcels : PartsGathered) (records : List Recorded) (notes : List Note) (posted : ℕ) → R i n
    → R i (record n { inbox = inbox; outbox = outbox; parcels = parcels; records = records; notes = notes; posted = posted })

pub each_moved : (R : ℕ → Node → Type 0) → Blind R → (w : World) (v : WorldStep) {e : Event} → Turn w e v → is_move e ≡ true
    → ((i : ℕ) (p : Piece) (rest : List Piece) (parcels : PartsGathered) (part : List ℕ) (o : Outcome) → Took p (w.nodes i).inbox rest
    → Deed (record (w.nodes i) { inbox = rest; parcels = parcels }) (Hears p.message.sender (with_load part p.message.kind)) o → R i (record (w.nodes i) { inbox = rest; parcels = parcels }) → R i o.node)
    → ((j : ℕ) → R j (w.nodes j)) → (j : ℕ) → R j (v.world.nodes j)
each_moved R blind w v (hears i place p rest parcels part o few took d) moves after h = each_at R w.nodes i _ h (blind i o.node _ _ _ _ _ _ (after i p rest parcels part o took d (blind i (w.nodes i) _ _ _ _ _ _ (h i))))
each_moved R blind w v (gathers i place p rest parcels key few took keyed) moves after h = each_at R w.nodes i _ h (blind i (w.nodes i) _ _ _ _ _ _ (h i))
each_moved R blind w v (carriage i place p rest few took) moves after h =
    let sent : (j : ℕ) → R j (at_node w.nodes i (note w.events (event.Carry i place) (record (w.nodes i) { outbox = rest })) j) = each_at R w.nodes i _ h (blind i (w.nodes i) _ _ _ _ _ _ (h i)) in
    each_at R _ p.message.addressee _ sent (blind p.message.addressee _ _ _ _ _ _ _ (sent p.message.addressee))
each_moved R blind w v (calls i c o few free may d) moves after h = cc
each_moved R blind w v (answers i answer few ready) moves after h = cc
