-- An event changes only the nodes that it touches.
use Rattle.std.proofs.Common.{◌≡◌, ℕ, ◌==◌, false, ◌||◌, None, Some, Option, refl, ◌∙◌}
use Rattle.std.proofs.lemmas.Bool.{cond-false, or_parts}
use Rattle.crl_model.specs.declared.event.Event.{Event}
use Rattle.crl_model.specs.declared.event.Event.TheVariants as event
use Rattle.crl_protocol.specs.Parcels.{Piece}
use Rattle.crl_model.specs.Names.{at_node}
use Rattle.crl_protocol.specs.Places.{Taken, take_out}
use Rattle.crl_protocol.specs.World.{World, handles_at, carries, step}
use Rattle.crl_deeds.specs.Laws.{goes_to, touches}

kept : {A : Type 0} (f : ℕ → A) (n m : ℕ) (v : A) → (n == m) ≡ false → at_node f n v m ≡ f m
kept f n m v h = cond-false (n == m) v (f m) h

kept_twice : {A : Type 0} (f : ℕ → A) (n k m : ℕ) (u v : A) → (n == m) ≡ false → (k == m) ≡ false → at_node (at_node f n u) k v m ≡ f m
kept_twice f n k m u v h j = kept (at_node f n u) k m v j ∙ kept f n m u h

handled_elsewhere : (i : ℕ) (e : Event) (t : Option (Taken Piece)) (w : World) (m : ℕ) → (i == m) ≡ false → (handles_at i e t w).world.nodes m ≡ w.nodes m
handled_elsewhere i e None w m h = refl
handled_elsewhere i e (Some t) w m h = kept w.nodes i m _ h

carried_elsewhere : (i : ℕ) (e : Event) (t : Option (Taken Piece)) (w : World) (m : ℕ) → ((i == m) || goes_to m t) ≡ false → (carries i e t w).world.nodes m ≡ w.nodes m
carried_elsewhere i e None w m h = refl
carried_elsewhere i e (Some t) w m h =
    let parts = or_parts (i == m) (t.taken.message.addressee == m) h in kept_twice w.nodes i t.taken.message.addressee m _ _ parts.0 parts.1

pub touched : (e : Event) (w : World) (m : ℕ) → touches e w m ≡ false → (step e w).world.nodes m ≡ w.nodes m
unfolding step
touched (event.Call i c) w m h = kept w.nodes i m _ h
touched (event.Collect i) w m h = kept w.nodes i m _ h
touched (event.Handle i place) w m h = handled_elsewhere i (event.Handle i place) (take_out place (w.nodes i).inbox) w m h
touched (event.Carry i place) w m h = carried_elsewhere i (event.Carry i place) (take_out place (w.nodes i).outbox) w m h
