-- The event of one member is the step of the world.
use Rattle.std.proofs.Common.{◌≡◌, ℕ, ◌+◌, ◌<◌, List, length, set, refl, ap, sym, ◌∙◌, map, Option, Some, None}
use Rattle.crl_model.specs.Names.{at_node}
use Rattle.crl_model.specs.declared.call.Call.{Call}
use Rattle.crl_model.specs.declared.event.Event.{Event}
use Rattle.crl_model.specs.declared.event.Event.TheVariants as event
use Rattle.crl_protocol.specs.Parcels.{Piece}
use Rattle.crl_protocol.specs.Places.{Taken, take_out}
use Rattle.crl_protocol.specs.Node.{Node, Outcome}
use Rattle.crl_protocol.specs.Verdict.{verdict}
use Rattle.crl_protocol.specs.Calls.{node_calls}
use Rattle.crl_protocol.specs.Receiving.{receives}
use Rattle.crl_protocol.specs.World.{World, commits, steps_node, step, noted_call, without_bytes, collects, handles_at}
use Rattle.crl_member.specs.Members.{node_after_call, node_after_handle, after_taken}
use Rattle.crl_world.specs.Seen.{node_in, world_of_nodes}
use Rattle.crl_world.proofs.Nodes.{world_put}
use Rattle.crl_deeds.proofs.Laws.{taken_there}

module _ {N : Type 0} (state : N → Node) (xs : List N) (events capacity i : ℕ) (x : N) (lt : i < length xs) (me : (node_in capacity (map state xs) i).me ≡ i) where
  abbrev pub old : World
  old = world_of_nodes (map state xs) events capacity

  abbrev pub node : Node
  node = old.nodes i

  abbrev pub new : World
  new = world_of_nodes (map state (set xs i x)) (events + 1) capacity

  node_commits : (E : ℕ → Event) (o : Outcome) → state x ≡ commits events (E node.me) o → new ≡ (steps_node i (E i) o old).world
  node_commits E o is =
      world_put state xs (events + 1) capacity i x lt
      ∙ ap (λ (n : Node). record old { nodes = at_node old.nodes i n; events = events + 1 }) (is ∙ ap (λ k. commits events (E k) o) me)

  pub call_world : (c : Call) → state x ≡ node_after_call events c node → new ≡ (step (event.Call i c) old).world
  unfolding step
  call_world c is = node_commits (λ k. event.Call k (noted_call (verdict node c) c)) (node_calls c node) is

  -- the end of a section, which is allowed
  pub end_world : (c : Call) → verdict node c ≡ None → state x ≡ commits events (event.Call node.me (without_bytes c)) (node_calls c node) → new ≡ (step (event.Call i c) old).world
  end_world c allowed is = call_world c (is ∙ ap (λ v. commits events (event.Call node.me (noted_call v c)) (node_calls c node)) (sym allowed))

  pub collect_world : state x ≡ commits events (event.Collect node.me) (collects node.activity node) → new ≡ (step (event.Collect i) old).world
  unfolding step
  collect_world is = node_commits (λ k. event.Collect k) (collects node.activity node) is

  handle_taken : (place : ℕ) (o : Option (Taken Piece)) → (o ≡ None → ⊥) → state x ≡ after_taken events (event.Handle node.me place) o node → new ≡ (handles_at i (event.Handle i place) o old).world
  handle_taken place None there is = absurd (there refl)
  handle_taken place (Some t) there is = node_commits (λ k. event.Handle k place) (receives t.taken (record node { inbox = t.rest })) is

  pub handle_world : (place : ℕ) → place < length node.inbox → state x ≡ node_after_handle events place node → new ≡ (step (event.Handle i place) old).world
  unfolding step
  handle_world place there is = handle_taken place (take_out place node.inbox) (taken_there place node.inbox there) is
