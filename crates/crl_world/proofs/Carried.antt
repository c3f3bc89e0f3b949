-- A piece that a member carried, as what the world did.
use Rattle.std.proofs.Common.{◌≡◌, ◌≢◌, ℕ, ◌+◌, ◌<◌, ◌≤◌, ◌^◌, ◌==◌, ◌++◌, take, drop, if◌then◌else◌, true, List, length, set, refl, ap, ap₂, sym, ◌∙◌, subst, map, Option, Some, None, ne_eqb}
use Rattle.std.proofs.lemmas.List.{length-map, length-set, get_or_default}
use Rattle.std.specs.List.{refill}
use Rattle.std.proofs.Math.Seq.{take-append_seam}
use Rattle.crl_model.specs.Names.{at_node}
use Rattle.crl_model.specs.declared.event.Event.TheVariants as event
use Rattle.crl_protocol.specs.Parcels.{Piece}
use Rattle.crl_protocol.specs.Places.{Taken, take_out}
use Rattle.crl_protocol.specs.Node.{Node}
use Rattle.crl_protocol.specs.World.{World, step, is_enabled, carries, note, put_in}
use Rattle.crl_member.specs.Members.{addressee_of, TakenIsInTable}
use Rattle.crl_world.specs.Members.{Members}
use Rattle.crl_world.specs.Seen.{node_in, node_at, world_of_nodes, world_seen, IsKept}
use Rattle.crl_world.specs.Stepping.{EventIsDone, GoesElsewhere, nodes_after_sent, nodes_after_carry}
use Rattle.crl_world.proofs.Doing.{Stands, old, seen, below, to_node}
use Rattle.crl_world.proofs.Keeping.{kept_step}
use Rattle.crl_world.proofs.Nodes.{put_at_node, same_world}
use Rattle.crl_deeds.proofs.Laws.{taken_there, may_carry}

pub at_is_in : (capacity k : ℕ) (ns : List Node) → k < length ns → node_at k ns ≡ node_in capacity ns k
at_is_in capacity k ns lt = get_or_default ns k _ _ lt

at_other : (f : ℕ → Node) (i j : ℕ) (n : Node) → i ≢ j → at_node f i n j ≡ f j
at_other f i j n apart = ap (λ b. if b then n else f j) (ne_eqb i j apart)

module _ (ns : List Node) (events capacity i place : ℕ) (lt : i < length ns) where
  abbrev pub before : World
  before = world_of_nodes ns events capacity

  two_put : (j : ℕ) (m n : Node) (k : ℕ) → j < length ns → node_in capacity (set (set ns i m) j n) k ≡ at_node (at_node before.nodes i m) j n k
  two_put j m n k below =
      put_at_node capacity (set ns i m) j n k (subst (λ x. j < x) (sym (length-set ns i m)) below)
      ∙ ap (λ x. if j == k then n else x) (put_at_node capacity ns i m k lt)

  carried_nodes : (o : Option (Taken Piece)) → (o ≡ None → ⊥) → GoesElsewhere i (length ns) o → (before.nodes i).me ≡ i
      → world_of_nodes (nodes_after_sent events i (addressee_of o) (event.Carry (before.nodes i).me place) o ns) (events + 1) capacity ≡ (carries i (event.Carry i place) o before).world
  carried_nodes None there away me = absurd (there refl)
  carried_nodes (Some t) there away me =
      let j = t.taken.message.addressee in
      let m = note events (event.Carry i place) (record (before.nodes i) { outbox = t.rest }) in
      let sent : node_at i ns ≡ before.nodes i = at_is_in capacity i ns lt in
      let taken : node_at j ns ≡ at_node before.nodes i m j = at_is_in capacity j ns away.0 ∙ sym (at_other before.nodes i j m (λ same. away.1 (sym same))) in
      ap₂ (λ (x y : Node). world_of_nodes (set (set ns i x) j y) (events + 1) capacity)
      (ap₂ (λ (x : Node) (k : ℕ). note events (event.Carry k place) (record x { outbox = t.rest })) sent me) (ap (put_in t.taken) taken)
      ∙ same_world (length (set (set ns i m) j (put_in t.taken (at_node before.nodes i m j)))) (length ns) (node_in capacity (set (set ns i m) j (put_in t.taken (at_node before.nodes i m j))))
      (at_node (at_node before.nodes i m) j (put_in t.taken (at_node before.nodes i m j))) (events + 1)
      (length-set (set ns i m) j _ ∙ length-set ns i m) (λ k. two_put j m _ k away.0)

  pub carry_world : (vs : List Node) (j : ℕ) → j ≡ addressee_of (take_out place (node_at i ns).outbox) → vs ≡ nodes_after_carry events i j place ns
      → place < length (before.nodes i).outbox → GoesElsewhere i (length ns) (take_out place (before.nodes i).outbox) → (before.nodes i).me ≡ i
      → world_of_nodes vs (events + 1) capacity ≡ (step (event.Carry i place) before).world
  unfolding step
  carry_world vs j to is there away me =
      let sent : node_at i ns ≡ before.nodes i = at_is_in capacity i ns lt in
      let o = take_out place (before.nodes i).outbox in
      let same : take_out place (node_at i ns).outbox ≡ o = ap (λ (n : Node). take_out place n.outbox) sent in
      ap (λ l. world_of_nodes l (events + 1) capacity) (is ∙ ap (λ k. nodes_after_carry events i k place ns) (to ∙ ap addressee_of same)
      ∙ ap₂ (λ (n : Node) (x : Option (Taken Piece)). nodes_after_sent events i (addressee_of o) (event.Carry n.me place) x ns) sent same)
      ∙ carried_nodes o (taken_there place (before.nodes i).outbox there) away me

refilled : {A : Type 0} (len : ℕ) (items vs : List A) → length vs ≡ len → refill len items vs ≡ vs
refilled len items vs long = ap (λ n. take n (vs ++ drop (length vs) items)) (sym long) ∙ take-append_seam vs (drop (length vs) items)

away_of : (i count : ℕ) (o : Option (Taken Piece)) → (o ≡ None → ⊥) → GoesElsewhere i count o → (addressee_of o < count) × (addressee_of o ≢ i)
away_of i count None there away = absurd (there refl)
away_of i count (Some t) there away = away

module _ {N : Type 0} {state : N → Node} {xs : List N} {events capacity i : ℕ} {n : N} {s : Members N} (b : Stands state xs events capacity i n s) (place j : ℕ) (may : is_enabled (event.Carry i place) (world_seen state s) ≡ true)
    (away : GoesElsewhere i (world_seen state s).count (take_out place ((world_seen state s).nodes i).outbox)) (to : j ≡ addressee_of (take_out place (state n).outbox)) where
  may_old : is_enabled (event.Carry i place) (old b) ≡ true
  may_old = ap (is_enabled (event.Carry i place)) (seen b) ∙ may

  away_old : GoesElsewhere i (length (map state xs)) (take_out place ((old b).nodes i).outbox)
  away_old = subst (λ (w : World). GoesElsewhere i w.count (take_out place (w.nodes i).outbox)) (sym (seen b)) away

  to_old : j ≡ addressee_of (take_out place ((old b).nodes i).outbox)
  to_old = to_node b (λ m. j ≡ addressee_of (take_out place m.outbox)) to

  there_old : place < length ((old b).nodes i).outbox
  there_old = (may_carry i place (old b) may_old).1

  below_old : i < length (map state xs)
  below_old = subst (λ k. i < k) (sym (length-map xs state)) (below b)

  sent : node_at i (map state xs) ≡ (old b).nodes i
  sent = at_is_in capacity i (map state xs) below_old

  pub carry_places : (ys : List N) → ys ≡ xs → (i < length ys) × (j < length ys) × (i ≢ j)
  carry_places ys is =
      let go = away_of i (length (map state xs)) (take_out place ((old b).nodes i).outbox) (taken_there place ((old b).nodes i).outbox there_old) away_old in
      let long : length (map state xs) ≡ length ys = length-map xs state ∙ ap length (sym is) in
      (subst (λ k. i < k) long below_old, subst (λ k. j < k) long (subst (λ k. k < length (map state xs)) (sym to_old) go.0), λ same. go.1 (sym to_old ∙ sym same))

  pub carry_piece : (ys : List N) → ys ≡ xs → place < length (node_at i (map state ys)).outbox
  carry_piece ys is = subst (λ (m : Node). place < length m.outbox) (sym (ap (λ l. node_at i (map state l)) is ∙ sent)) there_old

  -- in a world there are at most 64 nodes
  pub carry_framed : (ys : List N) → ys ≡ xs → ((world_seen state s).count ≤ 64 → TakenIsInTable (take_out place ((world_seen state s).nodes i).outbox))
      → TakenIsInTable (take_out place (node_at i (map state ys)).outbox)
  carry_framed ys is framed =
      let few = subst (λ (w : World). w.count ≤ 64) (seen b) b.kept.few in
      let here = subst (λ (w : World). TakenIsInTable (take_out place (w.nodes i).outbox)) (sym (seen b)) (framed few) in
      subst (λ (m : Node). TakenIsInTable (take_out place m.outbox)) (sym (ap (λ l. node_at i (map state l)) is ∙ sent)) here

  carry_step : (ys vs : List N) → ys ≡ xs → map state vs ≡ nodes_after_carry events i j place (map state ys) → world_of_nodes (map state vs) (events + 1) capacity ≡ (step (event.Carry i place) (old b)).world
  carry_step ys vs is did =
      carry_world (map state xs) events capacity i place below_old (map state vs) j (to_old ∙ ap (λ (m : Node). addressee_of (take_out place m.outbox)) (sym sent))
      (did ∙ ap (λ l. nodes_after_carry events i j place (map state l)) is) there_old away_old (b.kept.numbered i)

  pub carry_done : (ys vs : List N) → ys ≡ xs → map state vs ≡ nodes_after_carry events i j place (map state ys) → events < 2 ^ 62
      → EventIsDone (event.Carry i place) (world_seen state s) (world_of_nodes (map state vs) (events + 1) capacity)
  carry_done ys vs is did room = subst (λ w. EventIsDone (event.Carry i place) w (world_of_nodes (map state vs) (events + 1) capacity)) (seen b) (record { room = room; world = carry_step ys vs is did })

  pub carry_kept : (ys vs : List N) → ys ≡ xs → map state vs ≡ nodes_after_carry events i j place (map state ys) → events < 2 ^ 62 → IsKept (world_of_nodes (map state vs) (events + 1) capacity)
  carry_kept ys vs is did room = subst IsKept (sym (carry_step ys vs is did)) (kept_step (old b) (event.Carry i place) may_old room b.kept)

  -- the same, as the vector says it whose values were lent as a slice
  pub carry_done_refilled : (ys vs items : List N) (len : ℕ) → length vs ≡ len → ys ≡ xs → map state vs ≡ nodes_after_carry events i j place (map state ys) → events < 2 ^ 62
      → EventIsDone (event.Carry i place) (world_seen state s) (world_of_nodes (map state (refill len items vs)) (events + 1) capacity)
  carry_done_refilled ys vs items len long is did room =
      subst (λ l. EventIsDone (event.Carry i place) (world_seen state s) (world_of_nodes (map state l) (events + 1) capacity)) (sym (refilled len items vs long)) (carry_done ys vs is did room)

  pub carry_kept_refilled : (ys vs items : List N) (len : ℕ) → length vs ≡ len → ys ≡ xs → map state vs ≡ nodes_after_carry events i j place (map state ys) → events < 2 ^ 62
      → IsKept (world_of_nodes (map state (refill len items vs)) (events + 1) capacity)
  carry_kept_refilled ys vs items len long is did room =
      subst (λ l. IsKept (world_of_nodes (map state l) (events + 1) capacity)) (sym (refilled len items vs long)) (carry_kept ys vs is did room)
