-- The end of a section by its guard, as what the world did.
use Rattle.std.proofs.Common.{◌≡◌, ℕ, ◌<◌, ◌^◌, ◌==◌, ◌&&◌, true, false, Bool, List, length, refl, ap, sym, ◌∙◌, subst, map, Option, Some, None, ltb-true}
use Rattle.std.proofs.lemmas.Bool.{lt-ltb, and_parts}
use Rattle.std.proofs.lemmas.List.{length-map}
use Rattle.crl_model.specs.declared.call.Call.{Call}
use Rattle.crl_model.specs.declared.event.Event.TheVariants as event
use Rattle.crl_protocol.specs.Sections.{Guard, OpenSection, section_bytes}
use Rattle.crl_protocol.specs.Node.{Node}
use Rattle.crl_protocol.specs.Verdict.{verdict}
use Rattle.crl_protocol.specs.World.{World, step, is_enabled, is_free, is_call}
use Rattle.crl_member.specs.Fitting.{fits_open_write}
use Rattle.crl_member.specs.Members.{node_after_read, node_after_write}
use Rattle.crl_world.specs.Members.{Members}
use Rattle.crl_world.specs.Seen.{world_seen, IsKept}
use Rattle.crl_world.specs.Stepping.{EndIsDone, MayEnd, reading_fits, writing_fits, end_of_reading, end_of_writing}
use Rattle.crl_world.proofs.Doing.{Stands, old, seen, below, to_node, new, kept_event}
use Rattle.crl_world.proofs.Events as of

both_of : (a b : Bool) → a ≡ true → b ≡ true → (a && b) ≡ true
both_of true b h k = k
both_of false b h k = cc

end_enabled : (i : ℕ) (c : Call) (w : World) → i < w.count → is_free (w.nodes i).activity ≡ true → verdict (w.nodes i) c ≡ None → is_call (w.nodes i) c None ≡ true → is_enabled (event.Call i c) w ≡ true
unfolding is_enabled
end_enabled i c w lt free allowed fits =
    both_of _ _ (lt-ltb i w.count lt) (both_of _ _ free (subst (λ v. is_call (w.nodes i) c v ≡ true) (sym allowed) fits))

-- the guard's node is one of the world
pub reading_below : {N : Type 0} (state : N → Node) (s : Members N) (g : Guard) (i : ℕ) → i ≡ g.node → reading_fits g (world_seen state s) ≡ true → i < length s.nodes
reading_below state s g i is fit = subst (λ k. i < k) (length-map s.nodes state) (subst (λ k. k < length (map state s.nodes)) (sym is) (ltb-true _ _ (and_parts _ _ fit).0))

pub writing_below : {N : Type 0} (state : N → Node) (s : Members N) (g : Guard) (i : ℕ) → i ≡ g.node → writing_fits g (world_seen state s) ≡ true → i < length s.nodes
writing_below state s g i is fit = subst (λ k. i < k) (length-map s.nodes state) (subst (λ k. k < length (map state s.nodes)) (sym is) (ltb-true _ _ (and_parts _ _ fit).0))

same_length : (g : Guard) (o : Option OpenSection) → fits_open_write g o ≡ true → (length g.bytes == length (section_bytes o)) ≡ true
same_length g None h = cc
same_length g (Some r) h = (and_parts _ _ (and_parts _ _ h).1).1

may_write : (g : Guard) (w : World) → writing_fits g w ≡ true → is_call (w.nodes g.node) (end_of_writing g) None ≡ true
may_write g w fit = same_length g ((w.nodes g.node).sections.records g.name) (and_parts _ _ (and_parts _ _ fit).1).1

module _ {N : Type 0} {state : N → Node} {xs : List N} {events capacity i : ℕ} {n : N} {s : Members N} (b : Stands state xs events capacity i n s) (x : N) (g : Guard) (is : i ≡ g.node) where
  at_guard : (P : ℕ → Type 0) → P g.node → P i
  at_guard P h = subst P (sym is) h

  allowed_old : (c : Call) → verdict ((world_seen state s).nodes g.node) c ≡ None → verdict ((old b).nodes i) c ≡ None
  allowed_old c h = subst (λ (w : World). verdict (w.nodes i) c ≡ None) (sym (seen b)) (at_guard (λ k. verdict ((world_seen state s).nodes k) c ≡ None) h)

  reading_step : MayEnd g (end_of_reading g) (world_seen state s) → state x ≡ node_after_read events g (state n) → new b x ≡ (step (event.Call i (end_of_reading g)) (old b)).world
  reading_step may did =
      of.end_world state xs events capacity i x (below b) (b.kept.numbered i) (end_of_reading g) (allowed_old (end_of_reading g) may.allowed) (to_node b (λ m. state x ≡ node_after_read events g m) did)

  writing_step : MayEnd g (end_of_writing g) (world_seen state s) → state x ≡ node_after_write events g (state n) → new b x ≡ (step (event.Call i (end_of_writing g)) (old b)).world
  writing_step may did =
      of.end_world state xs events capacity i x (below b) (b.kept.numbered i) (end_of_writing g) (allowed_old (end_of_writing g) may.allowed) (to_node b (λ m. state x ≡ node_after_write events g m) did)

  end_kept : (c : Call) → MayEnd g c (world_seen state s) → is_call ((world_seen state s).nodes g.node) c None ≡ true → events < 2 ^ 62 → new b x ≡ (step (event.Call i c) (old b)).world → IsKept (new b x)
  end_kept c may fits room did =
      let lt : i < length (map state s.nodes) = subst (λ k. i < k) (sym (length-map s.nodes state)) b.below in
      kept_event b x (event.Call i c)
      (end_enabled i c (world_seen state s) lt (at_guard (λ k. is_free ((world_seen state s).nodes k).activity ≡ true) may.free) (at_guard (λ k. verdict ((world_seen state s).nodes k) c ≡ None) may.allowed)
      (at_guard (λ k. is_call ((world_seen state s).nodes k) c None ≡ true) fits))
      room did

  end_done : (c : Call) (fits : Bool) → fits ≡ true → events < 2 ^ 62 → new b x ≡ (step (event.Call i c) (old b)).world → EndIsDone fits g c (world_seen state s) (new b x)
  end_done c fits fit room did =
      subst (λ w. EndIsDone fits g c w (new b x)) (seen b) (record { fit = fit; room = room; world = did ∙ ap (λ k. (step (event.Call k c) (old b)).world) is })

  pub reading_kept : MayEnd g (end_of_reading g) (world_seen state s) → events < 2 ^ 62 → state x ≡ node_after_read events g (state n) → IsKept (new b x)
  reading_kept may room did = end_kept (end_of_reading g) may refl room (reading_step may did)

  pub reading_done : reading_fits g (world_seen state s) ≡ true → MayEnd g (end_of_reading g) (world_seen state s) → events < 2 ^ 62 → state x ≡ node_after_read events g (state n)
      → EndIsDone (reading_fits g (world_seen state s)) g (end_of_reading g) (world_seen state s) (new b x)
  reading_done fit may room did = end_done (end_of_reading g) _ fit room (reading_step may did)

  pub writing_kept : writing_fits g (world_seen state s) ≡ true → MayEnd g (end_of_writing g) (world_seen state s) → events < 2 ^ 62 → state x ≡ node_after_write events g (state n) → IsKept (new b x)
  writing_kept fit may room did = end_kept (end_of_writing g) may (may_write g (world_seen state s) fit) room (writing_step may did)

  pub writing_done : writing_fits g (world_seen state s) ≡ true → MayEnd g (end_of_writing g) (world_seen state s) → events < 2 ^ 62 → state x ≡ node_after_write events g (state n)
      → EndIsDone (writing_fits g (world_seen state s)) g (end_of_writing g) (world_seen state s) (new b x)
  writing_done fit may room did = end_done (end_of_writing g) _ fit room (writing_step may did)
