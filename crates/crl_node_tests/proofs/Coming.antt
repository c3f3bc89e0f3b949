-- Calls that may come.
use Rattle.std.proofs.Common.{◌≡◌, ◌∙◌, refl, ap, subst, ◌==◌, ◌<◌, true, false, Option, Some, None, ℕ, List, length}
use Rattle.std.proofs.lemmas.Bool.{and_parts, and_from, lt-ltb}
use Rattle.crl_model.specs.declared.name.Name.{Name}
use Rattle.crl_model.specs.declared.call.Call.{Call}
use Rattle.crl_model.specs.declared.call.Call.TheVariants as call
use Rattle.crl_model.specs.declared.call.Refusal.{Refusal}
use Rattle.crl_model.specs.declared.event.Event.TheVariants as event
use Rattle.crl_protocol.specs.Sections.{Guard, OpenSection, section_bytes}
use Rattle.crl_protocol.specs.Node.{Node}
use Rattle.crl_protocol.specs.Verdict.{verdict}
use Rattle.crl_protocol.specs.World.{World, is_enabled, is_free, is_ready, is_call}
use Rattle.crl_member.specs.Fitting.{goes_by_guard, fits_open_write}
use Rattle.crl_world.specs.Stepping.{MayEnd, reading_fits, writing_fits, end_of_reading, end_of_writing}
use Rattle.crl_node_tests.specs.Reached.{IsAllowed, is_made}

made_call : (n : Node) (c : Call) (o : Option Refusal) → is_made c ≡ true → is_call n c o ≡ true
made_call n c (Some why) e = refl
made_call n (call.EndRead name) None e = refl
made_call n (call.EndWrite name after) None e = absurd (cc)
made_call n (call.Put name offset len) None e = absurd (cc)
made_call n (call.Add name offset) None e = absurd (cc)
made_call n (call.Create size) None e = refl
made_call n (call.Delete name) None e = refl
made_call n (call.Map name) None e = refl
made_call n (call.Unmap name) None e = refl
made_call n (call.StartRead name) None e = refl
made_call n (call.StartWrite name) None e = refl
made_call n (call.Flush name) None e = refl
made_call n (call.Come part) None e = refl

pub made_unguarded : (c : Call) (o : Option Refusal) → is_made c ≡ true → goes_by_guard c o ≡ false
made_unguarded c (Some why) e = refl
made_unguarded (call.EndRead name) None e = absurd (cc)
made_unguarded (call.EndWrite name after) None e = absurd (cc)
made_unguarded (call.Put name offset len) None e = refl
made_unguarded (call.Add name offset) None e = refl
made_unguarded (call.Create size) None e = refl
made_unguarded (call.Delete name) None e = refl
made_unguarded (call.Map name) None e = refl
made_unguarded (call.Unmap name) None e = refl
made_unguarded (call.StartRead name) None e = refl
made_unguarded (call.StartWrite name) None e = refl
made_unguarded (call.Flush name) None e = refl
made_unguarded (call.Come part) None e = refl

pub made_enabled : (i : ℕ) (c : Call) (w : World) → i < w.count → is_free (w.nodes i).activity ≡ true → is_made c ≡ true → is_enabled (event.Call i c) w ≡ true
unfolding is_enabled
made_enabled i c w below free made = and_from _ _ (lt-ltb i w.count below) (and_from _ _ free (made_call (w.nodes i) c (verdict (w.nodes i) c) made))

pub read_enabled : (g : Guard) (w : World) → reading_fits g w ≡ true → MayEnd g (end_of_reading g) w → is_enabled (event.Call g.node (end_of_reading g)) w ≡ true
unfolding is_enabled
read_enabled g w fits may =
    and_from _ _ (and_parts _ _ fits).0 (and_from _ _ may.free (ap (λ o. is_call (w.nodes g.node) (end_of_reading g) o) may.allowed))

sized : (g : Guard) (o : Option OpenSection) → fits_open_write g o ≡ true → (length g.bytes == length (section_bytes o)) ≡ true
sized g None e = absurd (cc)
sized g (Some s) e = (and_parts _ _ (and_parts _ _ e).1).1

pub write_enabled : (g : Guard) (w : World) → writing_fits g w ≡ true → MayEnd g (end_of_writing g) w → is_enabled (event.Call g.node (end_of_writing g)) w ≡ true
unfolding is_enabled
write_enabled g w fits may =
    let here = and_parts _ _ fits in
    and_from _ _ here.0 (and_from _ _ may.free (ap (λ o. is_call (w.nodes g.node) (end_of_writing g) o) may.allowed
    ∙ sized g ((w.nodes g.node).sections.records g.name) (and_parts _ _ here.1).1))

pub collect_enabled : (i : ℕ) (w : World) → i < w.count → is_ready (w.nodes i).activity ≡ true → is_enabled (event.Collect i) w ≡ true
unfolding is_enabled
collect_enabled i w below ready = and_from _ _ (lt-ltb i w.count below) ready

-- what the section leaves isn't looked at
same_verdict : (n : Node) (name : Name) (a b : List ℕ) → verdict n (call.EndWrite name a) ≡ verdict n (call.EndWrite name b)
unfolding verdict
same_verdict n name a b = refl

allowed_same : (g : Guard) (i : ℕ) (name : Name) (after : List ℕ) (w : World) → i ≡ g.node → name ≡ g.name → IsAllowed i (call.EndWrite name after) w → IsAllowed g.node (call.EndWrite g.name after) w
allowed_same g i name after w node named h =
    subst (λ (n : Name). IsAllowed g.node (call.EndWrite n after) w) named (subst (λ (j : ℕ). IsAllowed j (call.EndWrite name after) w) node h)

pub write_may : (g : Guard) (i : ℕ) (name : Name) (after : List ℕ) (w : World) → i ≡ g.node → name ≡ g.name → IsAllowed i (call.EndWrite name after) w → MayEnd g (end_of_writing g) w
write_may g i name after w node named h =
    let k = allowed_same g i name after w node named h in
    record { free = k.free; allowed = same_verdict (w.nodes g.node) g.name g.bytes after ∙ k.allowed }
