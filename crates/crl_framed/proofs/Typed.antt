-- What a node waits for has a real serial, of which what holds of the serials in calls holds.
use Rattle.std.proofs.Common.{◌≡◌, ℕ, ◌≤◌, ◌==◌, Bool, true, false, not, None, Some, Option, List, [], ◌∷◌, refl, arith}
use Rattle.std.proofs.lemmas.Bool.{and_parts, eqb-false}
use Rattle.crl_model.specs.declared.name.Name.{Name}
use Rattle.crl_model.specs.declared.call.Call.{Call}
use Rattle.crl_model.specs.declared.call.Call.TheVariants as call
use Rattle.crl_model.specs.declared.entry.What.{What}
use Rattle.crl_model.specs.declared.event.Event.{Event}
use Rattle.crl_model.specs.declared.event.Event.TheVariants as event
use Rattle.crl_model.specs.Names.{at_node}
use Rattle.crl_protocol.specs.Parcels.{Piece, with_load}
use Rattle.crl_protocol.specs.Places.{Taken, take_out}
use Rattle.crl_protocol.specs.Receiving.{receives}
use Rattle.crl_protocol.specs.Handlers.{purges_waiting}
use Rattle.crl_protocol.specs.Node.{Node, Activity, Free, Waiting, Ready, ForMap, ForDelete, Outcome, is_real}
use Rattle.crl_protocol.specs.World.{World, new_world, world_of, world_after, step, handles_at, carries, collects}
use Rattle.crl_deeds.specs.Deeds.{Cause, Calls, Hears, Copies, Lives, Rounds, Notes, Deed}
use Rattle.crl_deeds.specs.Deeds as deed
use Rattle.crl_deeds.proofs.Laws.{call_deed, message_deed, received, each_at}

-- What the calls of a run say of serials.
abbrev pub CallHas : (ℕ → Type 0) → Call → Type 0
CallHas Said (call.Map name) = Said name.serial
CallHas Said (call.Delete name) = Said name.serial
CallHas Said _ = Unit {0}

abbrev pub CallsHave : (ℕ → Type 0) → List Event → Type 0
CallsHave Said [] = Unit {0}
CallsHave Said (event.Call i c ∷ es) = CallHas Said c × CallsHave Said es
CallsHave Said (_ ∷ es) = CallsHave Said es

-- of what a node waits for: a map, and a delete of another home's region
abbrev pub WaitsTyped : (ℕ → Type 0) → ℕ → Activity → Type 0
WaitsTyped Holds me (Waiting (ForMap q purged)) = Holds q.serial
WaitsTyped Holds me (Waiting (ForDelete q)) = (q.home == me) ≡ false → Holds q.serial
WaitsTyped Holds me _ = Unit {0}

abbrev NodeTyped : (ℕ → Type 0) → Node → Type 0
NodeTyped Holds n = WaitsTyped Holds n.me n.activity

abbrev CauseTyped : (ℕ → Type 0) → Cause → Type 0
CauseTyped Said (Calls c) = CallHas Said c
CauseTyped Said (Hears from k) = Unit {0}

abbrev pub AllTyped : (ℕ → Type 0) → World → Type 0
AllTyped Holds w = (i : ℕ) → WaitsTyped Holds (w.nodes i).me (w.nodes i).activity

abbrev EventTyped : (ℕ → Type 0) → Event → Type 0
EventTyped Said (event.Call i c) = CallHas Said c
EventTyped Said _ = Unit {0}

each_event : (Said : ℕ → Type 0) (e : Event) (es : List Event) → CallsHave Said (e ∷ es) → EventTyped Said e × CallsHave Said es
each_event Said (event.Call i c) es t = t
each_event Said (event.Collect i) es t = (tt, t)
each_event Said (event.Handle i place) es t = (tt, t)
each_event Said (event.Carry i place) es t = (tt, t)

real_serial : (n : Node) (name : Name) → is_real n name ≡ true → 1 ≤ name.serial
real_serial n name e = go (name.serial == 0) refl (and_parts _ _ e).1
  where
    go : (b : Bool) → (name.serial == 0) ≡ b → not b ≡ true → 1 ≤ name.serial
    go true w x = cc
    go false w x = let ne = eqb-false name.serial 0 w in grind arith

module _ (Said Holds : ℕ → Type 0) (made : (serial : ℕ) → 1 ≤ serial → Said serial → Holds serial) where
  warned_typed : (me : ℕ) (name : Name) (a : Activity) → WaitsTyped Holds me a → WaitsTyped Holds me (purges_waiting name a)
  warned_typed me name (Waiting (ForMap p purged)) h = h
  warned_typed me name _ h = h

  copies_typed : (n : Node) (cause : Cause) (o : Outcome) → Copies n cause o → NodeTyped Holds n → NodeTyped Holds o.node
  copies_typed n cause o (deed.home_waits c write name h is e v x) w = tt
  copies_typed n cause o (deed.side_waits c write name r is e f v x) w = tt
  copies_typed n cause o (deed.home_serves_own from k name h s is e x) w = tt
  copies_typed n cause o (deed.grant_comes from name version g r e t) w = tt
  copies_typed n cause o _ w = w

  lives_typed : (n : Node) (cause : Cause) (o : Outcome) → Lives n cause o → CauseTyped Said cause → NodeTyped Holds n → NodeTyped Holds o.node
  lives_typed n cause o (deed.map_asks name e other c real) t w = made name.serial (real_serial n name real) t
  lives_typed n cause o (deed.map_comes from name purged size e) t w = tt
  lives_typed n cause o (deed.map_denied from name purged s why y d u e) t w = tt
  lives_typed n cause o (deed.deletes_own name m ms mine live e) t w = λ away. absurd (cc)
  lives_typed n cause o (deed.delete_asks name other real) t w = λ away. made name.serial (real_serial n name real) t
  lives_typed n cause o (deed.delete_comes from name d e) t w = tt
  lives_typed n cause o (deed.ends_own from name mine going missing last) t w = tt
  lives_typed n cause o (deed.warns from name e c) t w = warned_typed n.me name n.activity w
  lives_typed n cause o _ t w = w

  rounds_typed : (n : Node) (cause : Cause) (o : Outcome) → Rounds n cause o → NodeTyped Holds n → NodeTyped Holds o.node
  rounds_typed n cause o (deed.comes_last part parts first fits all) w = w
  rounds_typed n cause o (deed.part_comes from round part a all) w = w
  rounds_typed n cause o (deed.part_last_idle from round part parts idle a all) w = w
  rounds_typed n cause o _ w = tt

  notes_typed : (n : Node) (c : Call) (x : What) (m : Node) → Notes n c x m → NodeTyped Holds n → NodeTyped Holds m
  notes_typed n c x m (deed.flushes_own name mine closed) w = w
  notes_typed n c x m _ w = w

  deed_typed : (n : Node) (cause : Cause) (o : Outcome) → Deed n cause o → CauseTyped Said cause → NodeTyped Holds n → NodeTyped Holds o.node
  deed_typed n cause o (deed.copies d) t w = copies_typed n cause o d w
  deed_typed n cause o (deed.lives d) t w = lives_typed n cause o d t w
  deed_typed n cause o (deed.rounds d) t w = rounds_typed n cause o d w
  deed_typed n cause o (deed.notes d) t w = notes_typed n _ _ _ d w
  deed_typed n cause o _ t w = w

  -- A piece that comes, an answer that is taken, a piece that is carried.
  received_typed : (p : Piece) (n : Node) → NodeTyped Holds n → NodeTyped Holds (receives p n).node
  received_typed p n h = received (λ o. NodeTyped Holds o.node) p n (λ parcels part. deed_typed (record n { parcels = parcels }) _ _ (message_deed (record n { parcels = parcels }) p.message.sender (with_load part p.message.kind)) tt h) (λ parcels key k. h)

  collected_typed : (a : Activity) (n : Node) → NodeTyped Holds n → NodeTyped Holds (collects a n).node
  collected_typed Free n h = h
  collected_typed (Waiting awaited) n h = h
  collected_typed (Ready answer) n h = tt

  one_typed : (w : World) (i : ℕ) (n : Node) → AllTyped Holds w → NodeTyped Holds n → (j : ℕ) → NodeTyped Holds (at_node w.nodes i n j)
  one_typed w i n h k = each_at (λ j m. NodeTyped Holds m) w.nodes i n h k

  step_typed : (w : World) (e : Event) → EventTyped Said e → AllTyped Holds w → AllTyped Holds (step e w).world
  unfolding step
  step_typed w (event.Call i c) t h = one_typed w i _ h (deed_typed (w.nodes i) _ _ (call_deed (w.nodes i) c) t (h i))
  step_typed w (event.Collect i) t h = one_typed w i _ h (collected_typed (w.nodes i).activity (w.nodes i) (h i))
  step_typed w (event.Handle i place) t h = go (take_out place (w.nodes i).inbox)
    where
      go : (o : Option (Taken Piece)) → AllTyped Holds (handles_at i (event.Handle i place) o w).world
      go None = h
      go (Some y) = one_typed w i _ h (received_typed y.taken (record (w.nodes i) { inbox = y.rest }) (h i))
  step_typed w (event.Carry i place) t h = go (take_out place (w.nodes i).outbox)
    where
      go : (o : Option (Taken Piece)) → AllTyped Holds (carries i (event.Carry i place) o w).world
      go None = h
      go (Some y) =
          let sent : AllTyped Holds (record w { nodes = at_node w.nodes i _ }) = one_typed w i _ h (h i) in
          one_typed (record w { nodes = at_node w.nodes i _ }) y.taken.message.addressee _ sent (sent y.taken.message.addressee)

  after_typed : (w : World) (es : List Event) → CallsHave Said es → AllTyped Holds w → AllTyped Holds (world_after w es)
  after_typed w [] t h = h
  after_typed w (e ∷ es) t h = let x = each_event Said e es t in after_typed (step e w).world es x.1 (step_typed w e x.0 h)

  pub waits_typed : (count capacity : ℕ) (run : List Event) → CallsHave Said run → AllTyped Holds (world_of count capacity run)
  waits_typed count capacity run t = after_typed (new_world count capacity) run t (λ i. tt)
