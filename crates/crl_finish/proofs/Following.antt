-- Every node of a run that follows an unnested script is at a place of it.
use Rattle.std.proofs.Common.{◌≡◌, ℕ, ◌==◌, Bool, true, false, if◌then◌else◌, List, ◌∷◌, refl, ap, sym, ◌∙◌, subst, arith}
use Rattle.std.proofs.lemmas.Bool.{and_parts, eqb-true}
use Rattle.crl_model.specs.declared.call.Call.{Call}
use Rattle.crl_model.specs.declared.event.Event.{Event}
use Rattle.crl_model.specs.declared.event.Event.TheVariants as event
use Rattle.crl_model.specs.declared.statement.Statement.{Statement}
use Rattle.crl_model.specs.Names.{at_node}
use Rattle.crl_protocol.specs.Node.{Node, Activity, Answer, Free, Waiting, Ready, Outcome, is_mine}
use Rattle.crl_protocol.specs.Calls.{node_calls}
use Rattle.crl_protocol.specs.Verdict.{verdict}
use Rattle.crl_protocol.specs.World.{World, WorldStep, step, is_enabled, is_ready, collects, commits, noted_call, IsRunFrom}
use Rattle.crl_protocol.specs.Chosen.{Actor, Running, running, block_of, call_of, after_change, takes_guard, goes_on, with_actor}
use Rattle.crl_deeds.specs.Counts.{Known}
use Rattle.crl_deeds.specs.Laws.{IsNext, past_statement, next_call, is_inside, is_call_event, Follows, ended, changes, calls, happens}
use Rattle.crl_deeds.specs.Turns.{Turn}
use Rattle.crl_deeds.proofs.Laws.{call_deed, turn_of, known_start, known_step, given_left, changed_left, with_rest}
use Rattle.crl_talk.proofs.Laws.{hears_as, is_away, is_move, each_moved}
use Rattle.crl_finish.specs.Unnested.{Outside, rounds_in, IsUnnested}
use Rattle.crl_finish.proofs.Effects.{call_effect, hear_effect}
use Rattle.crl_finish.proofs.Opened.{end_allowed}
use Rattle.crl_finish.proofs.Places.{IsAt, EndsOpen, made_unnested, made_rounds, call_at}
use Rattle.crl_finish.proofs.Moved.{boxes_at, answered_at, heard_at, changed_at}

-- Each node of the run is at a place of its script, and comes to so many rounds in all.
pub record AllAt (totals : ℕ → ℕ) (r : Running) : Type 0 where
  pub known : Known r.world
  pub places : (i : ℕ) → IsAt (r.world.nodes i) (r.actors i).left (totals i)

-- where an answer is given, no node has other statements left
left_given : (actors : ℕ → Actor) (i : ℕ) (answer : Answer) (j : ℕ) → (at_node actors i (takes_guard answer (actors i)) j).left ≡ (actors j).left
left_given actors i answer j = go (i == j) refl
  where
    go : (b : Bool) → (i == j) ≡ b → (if b then takes_guard answer (actors i) else actors j).left ≡ (actors j).left
    go true same = given_left answer (actors i) ∙ ap (λ k. (actors k).left) (eqb-true i j same)
    go false other = refl

-- A call.
open_ends : (w : World) (i : ℕ) (c : Call) → Known w → EndsOpen (w.nodes i) c
open_ends w i c known write name is e =
    end_allowed (w.nodes i) c write (is_mine (w.nodes i) name) name is ((known.fits i).each name).sections ((known.held i).node.maps name) e

own_call : (w : World) (i : ℕ) (a : Actor) (s : Statement) (left : List Statement) (total : ℕ) (position : ℕ) (e : Event) → Known w → (w.nodes i).activity ≡ Free → IsAt (w.nodes i) (s ∷ left) total
    → IsAt (commits position e (node_calls (call_of (w.nodes i) a s) (w.nodes i))) left total
own_call w i a s left total position e known free h =
    let n = w.nodes i in
    let c = call_of n a s in
    let o = node_calls c n in
    let same = made_rounds n a s in
    let k = h.rounds in
    boxes_at o.node _ _ _ _ _ _ left total
    (call_at n o.node c h.within left total (call_effect i n c o (call_deed n c) free (known.fits i)) (sym (made_unnested n a h.within s left) ∙ h.unnested) h.sections (open_ends w i c known) (omega arith))

call_all : (totals : ℕ → ℕ) (r : Running) (i : ℕ) (s : Statement) (left : List Statement) → IsNext r i s left → is_enabled (event.Call i (next_call r i s)) r.world ≡ true → AllAt totals r
    → AllAt totals (goes_on i (event.Call i (next_call r i s)) (past_statement r i left))
unfolding step
call_all totals r i s left next may h = record { known = known_step r.world (event.Call i (next_call r i s)) may h.known; places = places }
  where
    c : Call
    c = next_call r i s

    o : Outcome
    o = node_calls c (r.world.nodes i)

    after : Node
    after = commits r.world.events (event.Call i (noted_call (verdict (r.world.nodes i) c) c)) o

    past : ℕ → Actor
    past = (past_statement r i left).actors

    own : IsAt after left (totals i)
    own = own_call r.world i (r.actors i) s left (totals i) _ _ h.known next.1 (subst (λ ss. IsAt (r.world.nodes i) ss (totals i)) next.0 (h.places i))

    places : (j : ℕ) → IsAt (if i == j then after else r.world.nodes j) (at_node past i (takes_guard o.answer (past i)) j).left (totals j)
    places j = subst (λ ss. IsAt (if i == j then after else r.world.nodes j) ss (totals j)) (sym (left_given past i o.answer j)) (go (i == j) refl)
      where
        go : (b : Bool) → (i == j) ≡ b → IsAt (if b then after else r.world.nodes j) (if b then record (r.actors i) { left = left } else r.actors j).left (totals j)
        go true same = subst (λ k. IsAt after left (totals k)) (eqb-true i j same) own
        go false other = h.places j

-- An event that is no call.
given_all : (totals : ℕ → ℕ) (r : Running) (i : ℕ) (e : Event) → is_enabled e r.world ≡ true → Known r.world → ((j : ℕ) → IsAt ((step e r.world).world.nodes j) (r.actors j).left (totals j)) → AllAt totals (goes_on i e r)
given_all totals r i e may known h = record {
  known = known_step r.world e may known;
  places = λ j. subst (λ ss. IsAt ((step e r.world).world.nodes j) ss (totals j)) (sym (left_given r.actors i (step e r.world).answer j)) (h j);
}

moved_all : (totals : ℕ → ℕ) (r : Running) (s : WorldStep) {e : Event} → Turn r.world e s → is_move e ≡ true → AllAt totals r → (j : ℕ) → IsAt (s.world.nodes j) (r.actors j).left (totals j)
moved_all totals r s t moves h =
    each_moved (λ j n. IsAt n (r.actors j).left (totals j)) (λ i n inbox outbox parcels records notes posted k. boxes_at n inbox outbox parcels records notes posted (r.actors i).left (totals i) k) r.world s t moves
    (λ i p rest parcels part o took d k. (let n = r.world.nodes i in
    let there : Node = record n { inbox = rest; parcels = parcels } in
    let fits = with_rest i n p rest parcels took (h.known.fits i) in
    let away = is_away i n p rest part took (h.known.fits i) in
    heard_at there o.node (r.actors i).left (totals i) (hear_effect i there _ _ o d fits away) (λ write name waits a. hears_as i there _ _ o write name d fits away waits a) k))
    h.places

collected : (totals : ℕ → ℕ) (r : Running) (i : ℕ) → is_enabled (event.Collect i) r.world ≡ true → AllAt totals r → (j : ℕ) → IsAt ((step (event.Collect i) r.world).world.nodes j) (r.actors j).left (totals j)
unfolding step is_enabled
collected totals r i may h j = go (i == j) refl
  where
    n : Node
    n = r.world.nodes i

    over : (a : Activity) → n.activity ≡ a → is_ready a ≡ true → IsAt (commits r.world.events (event.Collect i) (collects a n)) (r.actors i).left (totals i)
    over Free e ready = cc
    over (Waiting awaited) e ready = cc
    over (Ready answer) e ready = boxes_at (record n { activity = Free }) _ _ _ _ _ _ (r.actors i).left (totals i) (answered_at n answer (r.actors i).left (totals i) e (h.places i))

    go : (b : Bool) → (i == j) ≡ b → IsAt (if b then commits r.world.events (event.Collect i) (collects n.activity n) else r.world.nodes j) (r.actors j).left (totals j)
    go true same = subst (λ k. IsAt (commits r.world.events (event.Collect i) (collects n.activity n)) (r.actors k).left (totals k)) (eqb-true i j same) (over n.activity refl (and_parts _ _ may).1)
    go false other = h.places j

happens_all : (totals : ℕ → ℕ) (r : Running) (i : ℕ) (e : Event) → is_call_event e ≡ false → is_enabled e r.world ≡ true → AllAt totals r → AllAt totals (goes_on i e r)
happens_all totals r i (event.Call k c) quiet may h = cc
happens_all totals r i (event.Collect k) quiet may h = given_all totals r i (event.Collect k) may h.known (collected totals r k may h)
happens_all totals r i (event.Handle k place) quiet may h = given_all totals r i (event.Handle k place) may h.known (moved_all totals r _ (turn_of r.world (event.Handle k place) may) refl h)
happens_all totals r i (event.Carry k place) quiet may h = given_all totals r i (event.Carry k place) may h.known (moved_all totals r _ (turn_of r.world (event.Carry k place) may) refl h)

-- A change inside a write section.
change_all : (totals : ℕ → ℕ) (r : Running) (i : ℕ) (s : Statement) (left : List Statement) → IsNext r i s left → is_inside r i s ≡ true → AllAt totals r
    → AllAt totals (with_actor i (after_change s (record (r.actors i) { left = left })) r)
change_all totals r i s left next inside h = record { known = h.known; places = λ j. go j (i == j) refl }
  where
    after : Actor
    after = after_change s (record (r.actors i) { left = left })

    own : IsAt (r.world.nodes i) after.left (totals i)
    own = subst (λ ss. IsAt (r.world.nodes i) ss (totals i)) (sym (changed_left s (record (r.actors i) { left = left })))
        (changed_at (r.world.nodes i) s left (totals i) (and_parts _ _ inside).0 (subst (λ ss. IsAt (r.world.nodes i) ss (totals i)) next.0 (h.places i)))

    go : (j : ℕ) (b : Bool) → (i == j) ≡ b → IsAt (r.world.nodes j) (if b then after else r.actors j).left (totals j)
    go j true same = subst (λ k. IsAt (r.world.nodes k) after.left (totals k)) (eqb-true i j same) own
    go j false other = h.places j

pub follow_all : (totals : ℕ → ℕ) {r end : Running} {es : List Event} → Follows r es end → IsRunFrom r.world es → AllAt totals r → AllAt totals end
follow_all totals (ended {r = r}) run h = h
follow_all totals {r = r} (changes i s left few next inside f) run h = follow_all totals f run (change_all totals r i s left next inside h)
follow_all totals {r = r} (calls i s left few next out f) run h = follow_all totals f run.1 (call_all totals r i s left next run.0 h)
follow_all totals {r = r} (happens i e own quiet may f) run h = follow_all totals f run.1 (happens_all totals r i e quiet may h)

-- The start.
pub start_all : (count capacity : ℕ) (blocks : List (List Statement)) → ((i : ℕ) → IsUnnested (block_of blocks i)) → AllAt (λ i. rounds_in (block_of blocks i)) (running count capacity blocks)
start_all count capacity blocks unnested = record {
  known = known_start count capacity;
  places = λ i. record { within = Outside; unnested = unnested i; sections = λ q. refl; asked = λ name e. cc; shut = tt; rounds = omega arith };
}
