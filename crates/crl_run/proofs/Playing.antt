-- What a choice of a turn needs of the world, and that the players stand for the run after it.
use Rattle.std.proofs.Common.{◌≡◌, ◌∙◌, sym, ap, refl, ◌==◌, ◌<◌, ◌≤◌, ◌^◌, Bool, true, false, if◌then◌else◌, Option, Some, None, ℕ, List, [], ◌++◌, length, set, get_or, subst, arith}
use Rattle.std.proofs.lemmas.Bool.{eqb-true, eqb-false}
use Rattle.std.proofs.lemmas.List.{length-set, get_or-set_same, get_or-set_other}
use Rattle.crl_model.specs.declared.call.Call.TheVariants as call
use Rattle.crl_model.specs.declared.choice.Choice.TheVariants as choice
use Rattle.crl_model.specs.declared.event.Event.TheVariants as event
use Rattle.crl_model.specs.declared.statement.Statement.{Statement}
use Rattle.crl_model.specs.Names.{at_node}
use Rattle.crl_protocol.specs.Parcels.{Piece}
use Rattle.crl_protocol.specs.Places.{Taken, take_out}
use Rattle.crl_protocol.specs.Sections.{Guard}
use Rattle.crl_protocol.specs.Node.{Answer, Done}
use Rattle.crl_protocol.specs.World.{World, step, is_enabled, world_of}
use Rattle.crl_protocol.specs.Chosen.{Running, takes_choice}
use Rattle.crl_safety.specs.Safety.{IsSafe, PieceIsSafe}
use Rattle.crl_regions.proofs.Laws.{count_in_run}
use Rattle.crl_sound.proofs.Laws.{nodes_safe, pieces_safe, pieces_leave}
use Rattle.crl_wire.specs.Frame.{IsInTable}
use Rattle.crl_frames.specs.Frames.{HoldsOf}
use Rattle.crl_frames.proofs.Laws.{all_to_carry}
use Rattle.crl_talk.specs.Guards.{Given}
use Rattle.crl_member.specs.Members.{TakenIsSafe, TakenIsInTable}
use Rattle.crl_world.specs.Seen.{NodesAreSafe}
use Rattle.crl_world.specs.Stepping.{GoesElsewhere}
use Rattle.crl_run.specs.declared.act.Act.{Act}
use Rattle.crl_run.specs.declared.act.Act.TheVariants as act
use Rattle.crl_run.specs.PlayerState.{PlayerState}
use Rattle.crl_run.specs.Players.{guards_given}
use Rattle.crl_run.specs.Actors.{call_made}
use Rattle.crl_run.specs.Fits.{GuardFits}
use Rattle.crl_run.specs.Staging.{IsOnItsWay, PlayerStands, AllStand}
use Rattle.crl_run.specs.Making.{IsKeptFrom, IsMade}
use Rattle.crl_run.specs.Playing.{player_of, StandsFor}
use Rattle.crl_run.proofs.Counting.{events_counted}
use Rattle.crl_run.proofs.Heard.{read_answer, write_answer}
use Rattle.crl_run.proofs.Stages.{collect_stands, handle_stands, carry_stands}
use Rattle.crl_run.proofs.Taken.{call_answer}
use Rattle.crl_deeds.proofs.Laws.{collect_node}

-- The end of a section by its guard is the node's call, whose answer gives no guard.
done_gives : (answer : Answer) (gs : List Given) → answer ≡ Done → gs ≡ guards_given answer ++ gs
done_gives answer gs e = subst (λ a. gs ≡ guards_given a ++ gs) (sym e) refl

pub read_made : (i : ℕ) (w v : World) (p : PlayerState) (a : Act) (g : Guard) → a ≡ act.EndRead g → GuardFits i (w.nodes i) a → v ≡ (step (event.Call g.node (call.EndRead g.name)) w).world → IsMade i (call_made a) w v p.place p.guards p
read_made i w v p a g is fits same = subst (λ x. IsMade i (call_made x) w v p.place p.guards p) (sym is)
    (let f : GuardFits i (w.nodes i) (act.EndRead g) = subst (λ x. GuardFits i (w.nodes i) x) is fits in record {
      world = same ∙ ap (λ j. (step (event.Call j (call.EndRead g.name)) w).world) f.0;
      place = refl;
      guards = done_gives _ p.guards (call_answer i (call.EndRead g.name) w ∙ read_answer (w.nodes i) g.name f.2);
    })

pub write_made : (i : ℕ) (w v : World) (p : PlayerState) (a : Act) (g : Guard) → a ≡ act.EndWrite g → GuardFits i (w.nodes i) a → v ≡ (step (event.Call g.node (call.EndWrite g.name g.bytes)) w).world → IsMade i (call_made a) w v p.place p.guards p
write_made i w v p a g is fits same = subst (λ x. IsMade i (call_made x) w v p.place p.guards p) (sym is)
    (let f : GuardFits i (w.nodes i) (act.EndWrite g) = subst (λ x. GuardFits i (w.nodes i) x) is fits in record {
      world = same ∙ ap (λ j. (step (event.Call j (call.EndWrite g.name g.bytes)) w).world) f.0;
      place = refl;
      guards = done_gives _ p.guards (call_answer i (call.EndWrite g.name g.bytes) w ∙ write_answer (w.nodes i) g.name g.bytes f.2);
    })

-- The players with another in a place.
player_put : (players : List PlayerState) (i : ℕ) (q : PlayerState) (j : ℕ) → i < length players → at_node (player_of players) i q j ≡ player_of (set players i q) j
player_put players i q j lt = go (i == j) refl
  where
    go : (b : Bool) → (i == j) ≡ b → (if b then q else player_of players j) ≡ player_of (set players i q) j
    go true e = sym (subst (λ k. get_or (set players i q) k (record { place = 0; guards = []; room = 0 }) ≡ q) (eqb-true i j e) (get_or-set_same players i q _ lt))
    go false e = sym (get_or-set_other players i j q _ (λ same. eqb-false i j e (sym same)))

pub all_put : (capacity : ℕ) (blocks : List (List Statement)) (r : Running) (players : List PlayerState) (i : ℕ) (q : PlayerState) → i < length players → AllStand (length players) capacity blocks r (at_node (player_of players) i q)
    → AllStand (length (set players i q)) capacity blocks r (player_of (set players i q))
all_put capacity blocks r players i q lt all = subst (λ n. AllStand n capacity blocks r (player_of (set players i q))) (sym (length-set players i q))
    (λ j few. subst (λ p. PlayerStands (length players) capacity blocks r j p) (player_put players i q j lt) (all j few))

module _ (capacity : ℕ) (blocks : List (List Statement)) (r : Running) (w : World) (players : List PlayerState) (stands : StandsFor capacity blocks r w players) (way : IsOnItsWay (length players) capacity r) where
  pub counted : w.count ≡ length players
  counted = ap (λ (x : World). x.count) (stands.world ∙ way.world) ∙ count_in_run (length players) capacity r.events way.run

  same : w ≡ world_of (length players) capacity r.events
  same = stands.world ∙ way.world

  pub as_many : w.events ≡ length r.events
  as_many = ap (λ (x : World). x.events) same ∙ events_counted (length players) capacity r.events way.run

  -- what the events need
  pub all_safe : w.events < 2 ^ 62 → NodesAreSafe w
  all_safe few =
      let many = as_many in
      let limit : length r.events ≤ 2 ^ 62 = omega arith in
      record { safe = λ i below. subst (λ (x : World). IsSafe (x.nodes i)) (sym same) (nodes_safe (length players) capacity r.events (record { enabled = way.run; limit = limit }) i (subst (λ n. i < n) counted below)) }

  pub piece_safe : (i place : ℕ) → i < w.count → TakenIsSafe (w.nodes i) (take_out place (w.nodes i).inbox)
  piece_safe i place below = go (take_out place (w.nodes i).inbox) refl
    where
      go : (o : Option (Taken Piece)) → take_out place (w.nodes i).inbox ≡ o → TakenIsSafe (w.nodes i) o
      go None e = tt
      go (Some t) e = subst (λ (x : World). PieceIsSafe (x.nodes i) t.taken) (sym same)
          (pieces_safe (length players) capacity r.events way.run i place t (subst (λ n. i < n) counted below) (subst (λ (x : World). take_out place (x.nodes i).inbox ≡ Some t) same e))

  pub piece_leaves : (i place : ℕ) → i < w.count → GoesElsewhere i w.count (take_out place (w.nodes i).outbox)
  piece_leaves i place below = go (take_out place (w.nodes i).outbox) refl
    where
      go : (o : Option (Taken Piece)) → take_out place (w.nodes i).outbox ≡ o → GoesElsewhere i w.count o
      go None e = tt
      go (Some t) e =
          let leaves = pieces_leave (length players) capacity r.events way.run i place t (subst (λ n. i < n) counted below) (subst (λ (x : World). take_out place (x.nodes i).outbox ≡ Some t) same e) in
          (subst (λ n. t.taken.message.addressee < n) (sym counted) leaves.addressee, leaves.other)

  pub piece_framed : w.events < 2 ^ 62 → (i place : ℕ) → i < w.count → w.count ≤ 64 → TakenIsInTable (take_out place (w.nodes i).outbox)
  piece_framed few i place below nodes =
      let many = as_many in
      let limit : length r.events ≤ 2 ^ 62 = omega arith in
      subst (λ (x : World). TakenIsInTable (take_out place (x.nodes i).outbox)) (sym same)
      (go _ (all_to_carry (length players) capacity r.events (subst (λ n. n ≤ 64) counted nodes) (record { enabled = way.run; limit = limit }) i place (subst (λ (x : World). i < x.count) same below)))
    where
      go : (o : Option (Taken Piece)) → HoldsOf IsInTable o → TakenIsInTable o
      go None h = tt
      go (Some t) h = h

  within : (i : ℕ) → i < w.count → i < length players
  within i below = subst (λ n. i < n) counted below

  -- an answer that is taken, and messages
  pub after_answer : (v : World) (i : ℕ) (q : PlayerState) → is_enabled (event.Collect i) w ≡ true → IsKeptFrom (event.Collect i) w v (player_of players i).place (player_of players i).guards q
      → StandsFor capacity blocks (takes_choice (choice.Collect i) r) v (set players i q)
  unfolding takes_choice
  after_answer v i q may k =
      let lt = within i (collect_node i w may) in
      let there : is_enabled (event.Collect i) r.world ≡ true = subst (λ (x : World). is_enabled (event.Collect i) x ≡ true) stands.world may in
      record {
        world = k.world ∙ ap (λ (x : World). (step (event.Collect i) x).world) stands.world;
        all = all_put capacity blocks _ players i q lt (collect_stands (length players) capacity blocks r way (player_of players) q i lt there stands.all k.place (k.guards ∙ ap (λ (x : World). guards_given (step (event.Collect i) x).answer ++ (player_of players i).guards) stands.world));
      }

  pub after_handle : (v : World) (i place : ℕ) → is_enabled (event.Handle i place) w ≡ true → v ≡ (step (event.Handle i place) w).world → StandsFor capacity blocks (takes_choice (choice.Handle i place) r) v players
  unfolding takes_choice
  after_handle v i place may is =
      let there : is_enabled (event.Handle i place) r.world ≡ true = subst (λ (x : World). is_enabled (event.Handle i place) x ≡ true) stands.world may in
      record {
        world = is ∙ ap (λ (x : World). (step (event.Handle i place) x).world) stands.world;
        all = handle_stands (length players) capacity blocks r way (player_of players) i place there stands.all;
      }

  pub after_carry : (v : World) (i place : ℕ) → is_enabled (event.Carry i place) w ≡ true → v ≡ (step (event.Carry i place) w).world → StandsFor capacity blocks (takes_choice (choice.Carry i place) r) v players
  unfolding takes_choice
  after_carry v i place may is =
      let there : is_enabled (event.Carry i place) r.world ≡ true = subst (λ (x : World). is_enabled (event.Carry i place) x ≡ true) stands.world may in
      record {
        world = is ∙ ap (λ (x : World). (step (event.Carry i place) x).world) stands.world;
        all = carry_stands (length players) capacity blocks r way (player_of players) i place there stands.all;
      }
