-- A message that is carried from box to box.
use Rattle.std.proofs.Common.{◌≡◌, ℕ, ◌<◌, ◌==◌, Some, List, refl, ap, sym, subst}
use Rattle.std.proofs.lemmas.Bool.{cond_both, cond-true, cond-false, eqb-true, eq-eqb, ne_eqb}
use Rattle.crl_model.specs.declared.name.Name.{Name}
use Rattle.crl_model.specs.declared.event.Event.{Event}
use Rattle.crl_model.specs.declared.message.Message.{Message}
use Rattle.crl_protocol.specs.Parcels.{Piece}
use Rattle.crl_model.specs.Names.{at_node}
use Rattle.crl_protocol.specs.Places.{Took, Taken, take_out}
use Rattle.crl_protocol.specs.Home.{Home}
use Rattle.crl_protocol.specs.Node.{Node, home_of}
use Rattle.crl_protocol.specs.World.{World, pieces_in_boxes, boxes_from, note, put_in}
use Rattle.crl_coherence.specs.Region.{elsewhere}
use Rattle.crl_regions.specs.View.{side, sight}
use Rattle.crl_regions.specs.Steps.{GoesOn}
use Rattle.crl_flight.specs.Flight.{Moves, still, moved}
use Rattle.crl_regions.proofs.Moves.{boxes, flight_took, took_put}
use Rattle.crl_regions.proofs.Lift.{finish}
use Rattle.crl_deeds.proofs.Laws.{took_at}
use Rattle.crl_flight.proofs.Laws.{took_left, took_right}

-- what holds of each node where one of them has another value
pub of_node : {A : Type 0} (f : ℕ → A) (i : ℕ) (v : A) (P : ℕ → A → Type 0) → P i v → ((j : ℕ) → (j ≡ i → ⊥) → P j (f j)) → (j : ℕ) → P j (at_node f i v j)
of_node f i v P at_i others j =
    cond_both (i == j) v (f j) (P j) (λ e. subst (λ k. P k v) (eqb-true i j e) at_i) (λ e. others j (λ w. let t = eq-eqb i j (sym w) in cc))

pub node_here : {A : Type 0} (f : ℕ → A) (i : ℕ) (v : A) → at_node f i v i ≡ v
node_here f i v = cond-true (i == i) v (f i) (eq-eqb i i refl)

pub node_there : {A : Type 0} (f : ℕ → A) (i : ℕ) (v : A) (j : ℕ) → (j ≡ i → ⊥) → at_node f i v j ≡ f j
node_there f i v j n = cond-false (i == j) v (f j) (ne_eqb i j (λ e. n (sym e)))

-- the nodes while the message is in no box, and afterwards
abbrev pub sender : ℕ → Event → Taken Piece → World → Node
sender i e t w = note w.events e (record (w.nodes i) { outbox = t.rest })

abbrev pub between : ℕ → Event → Taken Piece → World → ℕ → Node
between i e t w = at_node w.nodes i (sender i e t w)

abbrev pub arrived : ℕ → Event → Taken Piece → World → ℕ → Node
arrived i e t w = at_node (between i e t w) t.taken.message.addressee (put_in t.taken (between i e t w t.taken.message.addressee))

pub leaves : (i place : ℕ) (e : Event) (t : Taken Piece) (w : World) → i < w.count → take_out place (w.nodes i).outbox ≡ Some t → Took t.taken (pieces_in_boxes w) (boxes_from 0 w.count (between i e t w))
leaves i place e t w few out =
    flight_took t.taken w.count i w.nodes (between i e t w) few
    (subst (λ (n : Node). Took t.taken (boxes (w.nodes i)) (boxes n)) (sym (node_here w.nodes i (sender i e t w))) (took_right (w.nodes i).inbox (took_at place (w.nodes i).outbox t out)))
    (λ l n. ap boxes (sym (node_there w.nodes i (sender i e t w) l n)))

pub arrives : (i : ℕ) (e : Event) (t : Taken Piece) (w : World) → t.taken.message.addressee < w.count → Took t.taken (boxes_from 0 w.count (arrived i e t w)) (boxes_from 0 w.count (between i e t w))
arrives i e t w few =
    let a = t.taken.message.addressee in let f = between i e t w in
    flight_took t.taken w.count a (arrived i e t w) f few
    (subst (λ (n : Node). Took t.taken (boxes n) (boxes (f a))) (sym (node_here f a (put_in t.taken (f a)))) (took_left (f a).outbox (took_put t.taken (f a).inbox)))
    (λ l n. ap boxes (node_there f a (put_in t.taken (f a)) l n))

-- What a node has of a region doesn't change.
pub table_carried : (q : Name) (i : ℕ) (e : Event) (t : Taken Piece) (w : World) (j : ℕ) → home_of (arrived i e t w j) q ≡ home_of (w.nodes j) q
table_carried q i e t w j =
    of_node (between i e t w) t.taken.message.addressee (put_in t.taken (between i e t w t.taken.message.addressee)) (λ k n. home_of n q ≡ home_of (w.nodes k) q) (before t.taken.message.addressee) (λ k ne. before k) j
  where
    before : (k : ℕ) → home_of (between i e t w k) q ≡ home_of (w.nodes k) q
    before = of_node w.nodes i (sender i e t w) (λ k n. home_of n q ≡ home_of (w.nodes k) q) refl (λ k ne. refl)

pub side_carried : (q : Name) (i : ℕ) (e : Event) (t : Taken Piece) (w : World) (j : ℕ) → (arrived i e t w j).remotes q ≡ (w.nodes j).remotes q
side_carried q i e t w j =
    of_node (between i e t w) t.taken.message.addressee (put_in t.taken (between i e t w t.taken.message.addressee)) (λ k n. n.remotes q ≡ (w.nodes k).remotes q) (before t.taken.message.addressee) (λ k ne. before k) j
  where
    before : (k : ℕ) → (between i e t w k).remotes q ≡ (w.nodes k).remotes q
    before = of_node w.nodes i (sender i e t w) (λ k n. n.remotes q ≡ (w.nodes k).remotes q) refl (λ k ne. refl)

-- The piece is at another place.
pub boxes_move : (i place : ℕ) (e : Event) (t : Taken Piece) (w : World) → i < w.count → take_out place (w.nodes i).outbox ≡ Some t → t.taken.message.addressee < w.count
    → Moves (pieces_in_boxes w) (boxes_from 0 w.count (arrived i e t w))
boxes_move i place e t w few out less = moved t.taken _ (leaves i place e t w few out) (arrives i e t w less) still

pub carried_run : (q : Name) (h : Home) (array : List ℕ) (messages : List Message) (i : ℕ) (e : Event) (t : Taken Piece) (w : World)
    → GoesOn q.home (sight q h w.nodes messages array) (sight q h (arrived i e t w) messages array)
carried_run q h array messages i e t w =
    let g = sight q h w.nodes messages array in
    finish q.home g g _ elsewhere refl (λ j. ap (λ o. side h.size o) (sym (side_carried q i e t w j))) refl still

-- what holds of each node holds still, where the boxes are no part of it, or it is kept as the message leaves and comes
pub arrived_all : (i : ℕ) (e : Event) (t : Taken Piece) (w : World) (P : ℕ → Node → Type 0) → ((j : ℕ) → P j (w.nodes j)) → (P i (w.nodes i) → P i (sender i e t w))
    → ((n : Node) → P t.taken.message.addressee n → P t.taken.message.addressee (put_in t.taken n)) → (j : ℕ) → P j (arrived i e t w j)
arrived_all i e t w P all sent put = of_node (between i e t w) t.taken.message.addressee (put_in t.taken (between i e t w t.taken.message.addressee)) P (put _ (before t.taken.message.addressee)) (λ j other. before j)
  where
    before : (j : ℕ) → P j (between i e t w j)
    before = of_node w.nodes i (sender i e t w) P (sent (all i)) (λ j other. all j)
