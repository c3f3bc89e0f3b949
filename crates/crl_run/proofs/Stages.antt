-- Players stand for a run on its way after each event, and after each change inside a write section.
use Rattle.std.proofs.Common.{◌≡◌, ◌∙◌, sym, ap, refl, ◌==◌, ◌&&◌, Bool, true, false, if◌then◌else◌, Option, Some, None, ℕ, ◌<◌, List, [], ◌∷◌, ◌++◌, subst}
use Rattle.std.proofs.lemmas.Bool.{eqb-true, cond-true, cond-false, eq-eqb}
use Rattle.crl_model.specs.declared.call.Call as calls
use Rattle.crl_model.specs.declared.event.Event.{Event}
use Rattle.crl_model.specs.declared.event.Event.TheVariants as event
use Rattle.crl_model.specs.declared.message.Kind.{Kind}
use Rattle.crl_model.specs.declared.statement.Statement.{Statement}
use Rattle.crl_model.specs.Names.{at_node}
use Rattle.crl_pieces.specs.Pieces.{is_missing, is_complete, joined}
use Rattle.crl_protocol.specs.Parcels.{Piece, Key, key_of, with_load, at_key, slots_or, fits_size}
use Rattle.crl_protocol.specs.Places.{Taken, take_out}
use Rattle.crl_protocol.specs.Node.{Node, Answer, Reading, Writing, Done, Outcome, only}
use Rattle.crl_protocol.specs.Handlers.{ignores, node_handles}
use Rattle.crl_protocol.specs.Receiving.{receives, receives_as, receives_part, gathers_piece, size_for, slots_with}
use Rattle.crl_protocol.specs.Talk.{Heard, hears_of, hears}
use Rattle.crl_protocol.specs.World.{World, new_world, step, is_enabled, world_of, handles_at, carries}
use Rattle.crl_protocol.specs.Chosen.{Actor, Running, goes_on, with_actor, takes_guard, block_of}
use Rattle.crl_talk.specs.Guards.{Given}
use Rattle.crl_deeds.specs.Deeds.{Cause, Calls, Hears, Copies, Lives, Rounds, Deed}
use Rattle.crl_deeds.specs.Deeds as deed
use Rattle.crl_deeds.proofs.Laws.{message_deed, world_grows}
use Rattle.crl_history.proofs.Laws.{run_then}
use Rattle.crl_run.specs.PlayerState.{PlayerState}
use Rattle.crl_run.specs.Players.{guards_given}
use Rattle.crl_run.specs.Actors.{IsActor}
use Rattle.crl_run.specs.Hearing.{HoldsHeard, Spends}
use Rattle.crl_run.specs.Staging.{IsOnItsWay, PlayerStands, AllStand}
use Rattle.crl_run.proofs.ActorLemmas.{keeps}
use Rattle.crl_run.proofs.Heard.{hears_nothing, hears_answer, hears_call}

-- The node that handles a message is given no guard at once.
abbrev GivesNone : Answer → Type 0
GivesNone (Reading guard) = ⊥
GivesNone (Writing guard) = ⊥
GivesNone _ = Unit {0}

abbrev IsHeard : Cause → Type 0
IsHeard (Calls c) = ⊥
IsHeard (Hears from k) = Unit {0}

copies_none : (n : Node) (cause : Cause) (o : Outcome) → IsHeard cause → Copies n cause o → GivesNone o.answer
copies_none n cause o h (deed.home_opens c write q x is e can y) = absurd h
copies_none n cause o h (deed.side_opens c write q x is e g can y) = absurd h
copies_none n cause o h _ = tt

rounds_none : (n : Node) (cause : Cause) (o : Outcome) → IsHeard cause → Rounds n cause o → GivesNone o.answer
rounds_none n cause o h (deed.comes_last part parts first fits all) = absurd h
rounds_none n cause o h _ = tt

lives_none : (n : Node) (cause : Cause) (o : Outcome) → IsHeard cause → Lives n cause o → GivesNone o.answer
lives_none n cause o h (deed.made size e) = absurd h
lives_none n cause o h _ = tt

deed_none : (n : Node) (cause : Cause) (o : Outcome) → IsHeard cause → Deed n cause o → GivesNone o.answer
deed_none n cause o h (deed.copies d) = copies_none n cause o h d
deed_none n cause o h (deed.lives d) = lives_none n cause o h d
deed_none n cause o h (deed.rounds d) = rounds_none n cause o h d
deed_none n cause o h (deed.notes d) = tt
deed_none n cause o h (deed.refuses c why e) = absurd h
deed_none n cause o h (deed.idles d) = tt

handled_none : (n : Node) (from : ℕ) (k : Kind) → GivesNone (node_handles from k n).answer
handled_none n from k = deed_none n (Hears from k) (node_handles from k n) tt (message_deed n from k)

either_none : (b : Bool) (x y : Outcome) → GivesNone x.answer → GivesNone y.answer → GivesNone (if b then x else y).answer
either_none true x y h k = h
either_none false x y h k = k

gathered_none : (n : Node) (p : Piece) (key : Key) (slots : List (Option (List ℕ))) → GivesNone (gathers_piece key p slots n).answer
gathered_none n p key slots =
    either_none (is_complete slots) (node_handles p.message.sender (with_load (joined slots) p.message.kind) (record n { parcels = at_key n.parcels key None })) (only (record n { parcels = at_key n.parcels key (Some slots) }) Done)
    (handled_none (record n { parcels = at_key n.parcels key None }) p.message.sender (with_load (joined slots) p.message.kind)) tt

part_none : (n : Node) (p : Piece) (key : Key) (size : Option ℕ) → GivesNone (receives_part key p size n).answer
part_none n p key None = tt
part_none n p key (Some size) =
    either_none (fits_size size p && is_missing p.index (slots_or p.pieces (n.parcels key))) (gathers_piece key p (slots_with p (n.parcels key)) n) (ignores n) (gathered_none n p key (slots_with p (n.parcels key))) tt

received_none : (n : Node) (p : Piece) → GivesNone (receives p n).answer
received_none n p = go (key_of p.message)
  where
    go : (o : Option Key) → GivesNone (receives_as o p n).answer
    go None = handled_none n p.message.sender p.message.kind
    go (Some key) = part_none n p key (size_for key.load key.name n)

pub handle_none : (w : World) (i place : ℕ) → GivesNone (step (event.Handle i place) w).answer
unfolding step
handle_none w i place = go (take_out place (w.nodes i).inbox)
  where
    go : (o : Option (Taken Piece)) → GivesNone (handles_at i (event.Handle i place) o w).answer
    go None = tt
    go (Some t) = received_none _ t.taken

pub carry_none : (w : World) (i place : ℕ) → GivesNone (step (event.Carry i place) w).answer
unfolding step
carry_none w i place = go (take_out place (w.nodes i).outbox)
  where
    go : (o : Option (Taken Piece)) → GivesNone (carries i (event.Carry i place) o w).answer
    go None = tt
    go (Some t) = tt

nothing_given : (answer : Answer) → GivesNone answer → guards_given answer ≡ []
nothing_given (Reading guard) h = absurd h
nothing_given (Writing guard) h = absurd h
nothing_given _ h = refl

nothing_taken : (answer : Answer) (a : Actor) → GivesNone answer → takes_guard answer a ≡ a
nothing_taken (Writing guard) a h = absurd h
nothing_taken _ a h = refl

-- An event.
module _ (count capacity : ℕ) (blocks : List (List Statement)) (r : Running) (way : IsOnItsWay count capacity r) (i : ℕ) (e : Event) (may : is_enabled e r.world ≡ true) where
  may_there : is_enabled e (world_of count capacity r.events) ≡ true
  may_there = subst (λ (w : World). is_enabled e w ≡ true) way.world may

  abbrev pub answered : Answer
  answered = (step e r.world).answer

  same_answer : (step e (world_of count capacity r.events)).answer ≡ answered
  same_answer = ap (λ (w : World). (step e w).answer) (sym way.world)

  pub on_way_then : IsOnItsWay count capacity (goes_on i e r)
  on_way_then = record {
    run = run_then (new_world count capacity) r.events e way.run may_there;
    world = ap (λ (w : World). (step e w).world) way.world ∙ sym (world_grows (new_world count capacity) r.events e);
  }

  -- a node that hears nothing
  hears_on : (j : ℕ) (p : PlayerState) → (i == j) ≡ false → hears_of j e answered ≡ [] → PlayerStands count capacity blocks r j p → PlayerStands count capacity blocks (goes_on i e r) j p
  hears_on j p other none h = record {
    actor = subst (λ (a : Actor). IsActor (block_of blocks j) p.place p.guards a) (sym (cond-false (i == j) (takes_guard answered (r.actors i)) (r.actors j) other)) h.actor;
    heard = hears_nothing count capacity r.events way.run e may_there j (ap (hears_of j e) same_answer ∙ none) p.guards h.heard;
  }

  -- the node itself
  own_on : (p : PlayerState) (new : List Given) → IsActor (block_of blocks i) p.place new (r.actors i) → p.guards ≡ guards_given answered ++ new
      → HoldsHeard (hears i (new_world count capacity) (r.events ++ e ∷ [])) (guards_given (step e (world_of count capacity r.events)).answer ++ new) → PlayerStands count capacity blocks (goes_on i e r) i p
  own_on p new h is held = record {
    actor = subst (λ gs. IsActor (block_of blocks i) p.place gs (at_node r.actors i (takes_guard answered (r.actors i)) i)) (sym is)
        (subst (λ (a : Actor). IsActor (block_of blocks i) p.place (guards_given answered ++ new) a) (sym (cond-true (i == i) (takes_guard answered (r.actors i)) (r.actors i) (eq-eqb i i refl)))
        (keeps (block_of blocks i) p.place new answered (r.actors i) h));
    heard = subst (λ gs. HoldsHeard (hears i (new_world count capacity) (r.events ++ e ∷ [])) gs) (ap (λ a. guards_given a ++ new) same_answer ∙ sym is) held;
  }

  -- all nodes, where only this one may hear something
  all_on : (players : ℕ → PlayerState) (p : PlayerState) → ((j : ℕ) → (i == j) ≡ false → hears_of j e answered ≡ []) → ((j : ℕ) → j < count → (i == j) ≡ false → PlayerStands count capacity blocks r j (players j))
      → PlayerStands count capacity blocks (goes_on i e r) i p → AllStand count capacity blocks (goes_on i e r) (at_node players i p)
  all_on players p quiet others own j few = go (i == j) refl
    where
      go : (b : Bool) → (i == j) ≡ b → PlayerStands count capacity blocks (goes_on i e r) j (if b then p else players j)
      go true same = subst (λ k. PlayerStands count capacity blocks (goes_on i e r) k p) (eqb-true i j same) own
      go false other = hears_on j (players j) other (quiet j other) (others j few other)

not_heard : (i j : ℕ) (h : Heard) → (i == j) ≡ false → (if i == j then h ∷ [] else []) ≡ []
not_heard i j h other = cond-false (i == j) (h ∷ []) [] other

own_heard : (i : ℕ) (h : Heard) → (if i == i then h ∷ [] else []) ≡ h ∷ []
own_heard i h = cond-true (i == i) (h ∷ []) [] (eq-eqb i i refl)

module _ (count capacity : ℕ) (blocks : List (List Statement)) (r : Running) (way : IsOnItsWay count capacity r) (players : ℕ → PlayerState) (p : PlayerState) (i : ℕ) (few : i < count) where
  -- the answer for which the node waited
  pub collect_stands : is_enabled (event.Collect i) r.world ≡ true → AllStand count capacity blocks r players
      → p.place ≡ (players i).place → p.guards ≡ guards_given (step (event.Collect i) r.world).answer ++ (players i).guards → AllStand count capacity blocks (goes_on i (event.Collect i) r) (at_node players i p)
  collect_stands may all place guards =
      let own = all i few in
      let there = subst (λ (w : World). is_enabled (event.Collect i) w ≡ true) way.world may in
      all_on count capacity blocks r way i (event.Collect i) may players p (λ j other. not_heard i j _ other) (λ j few other. all j few)
      (own_on count capacity blocks r way i (event.Collect i) may p (players i).guards (subst (λ k. IsActor (block_of blocks i) k (players i).guards (r.actors i)) (sym place) own.actor) guards
      (hears_answer count capacity r.events way.run (event.Collect i) there i (own_heard i _) (players i).guards own.heard))

  -- a call, for which the newest guard of a region may have been spent
  pub call_stands : (c : calls.Call) (new : List Given) → is_enabled (event.Call i c) r.world ≡ true → ((j : ℕ) → j < count → (i == j) ≡ false → PlayerStands count capacity blocks r j (players j))
      → HoldsHeard (hears i (new_world count capacity) r.events) (players i).guards → IsActor (block_of blocks i) p.place new (r.actors i) → Spends c (step (event.Call i c) r.world).answer (players i).guards new
      → p.guards ≡ guards_given (step (event.Call i c) r.world).answer ++ new → AllStand count capacity blocks (goes_on i (event.Call i c) r) (at_node players i p)
  call_stands c new may others heard actor spends guards =
      let there = subst (λ (w : World). is_enabled (event.Call i c) w ≡ true) way.world may in
      all_on count capacity blocks r way i (event.Call i c) may players p (λ j other. not_heard i j _ other) others
      (own_on count capacity blocks r way i (event.Call i c) may p new actor guards
      (hears_call count capacity r.events way.run (event.Call i c) there i c (own_heard i _) (players i).guards new (subst (λ (w : World). Spends c (step (event.Call i c) w).answer (players i).guards new) way.world spends) heard))

  -- a change inside a write section, which is no event
  pub inside_stands : (a : Actor) → ((j : ℕ) → j < count → (i == j) ≡ false → PlayerStands count capacity blocks r j (players j))
      → HoldsHeard (hears i (new_world count capacity) r.events) p.guards → IsActor (block_of blocks i) p.place p.guards a → AllStand count capacity blocks (with_actor i a r) (at_node players i p)
  inside_stands a others heard actor j near = go (i == j) refl
    where
      own : PlayerStands count capacity blocks (with_actor i a r) i p
      own = record { actor = subst (λ (x : Actor). IsActor (block_of blocks i) p.place p.guards x) (sym (cond-true (i == i) a (r.actors i) (eq-eqb i i refl))) actor; heard = heard }

      go : (b : Bool) → (i == j) ≡ b → PlayerStands count capacity blocks (with_actor i a r) j (if b then p else players j)
      go true same = subst (λ k. PlayerStands count capacity blocks (with_actor i a r) k p) (eqb-true i j same) own
      go false other = let h = others j near other in record {
        actor = subst (λ (x : Actor). IsActor (block_of blocks j) (players j).place (players j).guards x) (sym (cond-false (i == j) a (r.actors j) other)) h.actor;
        heard = h.heard;
      }

-- A message is handled or carried: no player changes.
module _ (count capacity : ℕ) (blocks : List (List Statement)) (r : Running) (way : IsOnItsWay count capacity r) (players : ℕ → PlayerState) (i : ℕ) (e : Event) (may : is_enabled e r.world ≡ true) where
  message_stands : ((j : ℕ) → hears_of j e (step e r.world).answer ≡ []) → GivesNone (step e r.world).answer → AllStand count capacity blocks r players → AllStand count capacity blocks (goes_on i e r) players
  message_stands quiet none all j few = record {
    actor = subst (λ (a : Actor). IsActor (block_of blocks j) (players j).place (players j).guards a) (sym actor_stays) (all j few).actor;
    heard = hears_nothing count capacity r.events way.run e (subst (λ (w : World). is_enabled e w ≡ true) way.world may) j (ap (λ (w : World). hears_of j e (step e w).answer) (sym way.world) ∙ quiet j) (players j).guards (all j few).heard;
  }
    where
      actor_stays : at_node r.actors i (takes_guard (step e r.world).answer (r.actors i)) j ≡ r.actors j
      actor_stays = go (i == j) refl
        where
          go : (b : Bool) → (i == j) ≡ b → (if b then takes_guard (step e r.world).answer (r.actors i) else r.actors j) ≡ r.actors j
          go true same = nothing_taken _ (r.actors i) none ∙ ap r.actors (eqb-true i j same)
          go false other = refl

pub handle_stands : (count capacity : ℕ) (blocks : List (List Statement)) (r : Running) → IsOnItsWay count capacity r → (players : ℕ → PlayerState) (i place : ℕ) → is_enabled (event.Handle i place) r.world ≡ true
    → AllStand count capacity blocks r players → AllStand count capacity blocks (goes_on i (event.Handle i place) r) players
handle_stands count capacity blocks r way players i place may all = message_stands count capacity blocks r way players i (event.Handle i place) may (λ j. refl) (handle_none r.world i place) all

pub carry_stands : (count capacity : ℕ) (blocks : List (List Statement)) (r : Running) → IsOnItsWay count capacity r → (players : ℕ → PlayerState) (i place : ℕ) → is_enabled (event.Carry i place) r.world ≡ true
    → AllStand count capacity blocks r players → AllStand count capacity blocks (goes_on i (event.Carry i place) r) players
carry_stands count capacity blocks r way players i place may all = message_stands count capacity blocks r way players i (event.Carry i place) may (λ j. refl) (carry_none r.world i place) all
