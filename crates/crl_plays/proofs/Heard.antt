-- What a node heard in a run that has one event more, and what is known of it by what it heard.
use Rattle.std.proofs.Common.{◌≡◌, ℕ, ◌<◌, true, false, if◌then◌else◌, Option, Some, None, List, [], ◌∷◌, ◌++◌, refl, ap, sym, ◌∙◌, subst, arith, length-append}
use Rattle.crl_model.specs.declared.name.Name.{Name}
use Rattle.crl_model.specs.declared.directory.Section.TheVariants as section
use Rattle.crl_model.specs.declared.event.Event.{Event}
use Rattle.crl_protocol.specs.Home.{one_section_more}
use Rattle.crl_protocol.specs.Sections.{OpenSection}
use Rattle.crl_protocol.specs.Node.{Node, Activity, Free}
use Rattle.crl_protocol.specs.Talk.{Heard, hears}
use Rattle.crl_protocol.specs.World.{World, new_world, step, is_enabled, is_free, IsRun, IsRunFrom, world_after, world_of}
use Rattle.crl_deeds.specs.Counts.{Known}
use Rattle.crl_deeds.proofs.Laws.{known_start, known_run, free_is}
use Rattle.crl_talk.specs.Guards.{Given, given_yet, guards_held, AreGuards, closed, writing, reading, nested}
use Rattle.crl_talk.proofs.Laws.{sections_are_guards}
use Rattle.crl_plays.specs.Plays.{HasHeard, is_free_after}
use Rattle.crl_plays.proofs.Free.{free_run}

-- A run with one event more.

run_before : (w : World) (run : List Event) (e : Event) → IsRunFrom w (run ++ e ∷ []) → IsRunFrom w run × (is_enabled e (world_after w run) ≡ true)
run_before w [] e r = (tt, r.0)
run_before w (x ∷ run) e r = let rest = run_before (step x w).world run e r.1 in ((r.0, rest.0), rest.1)

pub is_run_before : (count capacity : ℕ) (run : List Event) (e : Event) → IsRun count capacity (run ++ e ∷ []) → IsRun count capacity run × (is_enabled e (world_of count capacity run) ≡ true)
is_run_before count capacity run e r =
    let parts = run_before (new_world count capacity) run e r.enabled in
    let limit = r.limit in
    let longer = length-append run (e ∷ []) in
    (record { enabled = parts.0; limit = omega (arith, longer, limit) }, parts.1)

-- A node of a run has heard what it heard there.
pub has_heard : (count capacity : ℕ) (run : List Event) (i : ℕ) → IsRun count capacity run → i < count → HasHeard i (hears i (new_world count capacity) run) ((world_of count capacity run).nodes i)
has_heard count capacity run i r few = record { count = count; capacity = capacity; run = run; is_run = r; within = few; hears = refl; node = refl }

-- A node that heard this.
pub known_heard : (i : ℕ) (heard : List Heard) (n : Node) (h : HasHeard i heard n) → Known (world_of h.count h.capacity h.run)
known_heard i heard n h = known_run (new_world h.count h.capacity) h.run h.is_run.enabled (known_start h.count h.capacity)

pub free_as_heard : (i : ℕ) (heard : List Heard) (n : Node) → HasHeard i heard n → is_free n.activity ≡ is_free_after true heard
free_as_heard i heard n h =
    ap (λ (m : Node). is_free m.activity) h.node
    ∙ free_run i true h.run (new_world h.count h.capacity) h.is_run.enabled (known_start h.count h.capacity) refl
    ∙ ap (is_free_after true) h.hears

pub both_free : (i : ℕ) (heard : List Heard) (n m : Node) → HasHeard i heard n → HasHeard i heard m → n.activity ≡ Free → m.activity ≡ Free
both_free i heard n m h k free = free_is m.activity (free_as_heard i heard m k ∙ sym (free_as_heard i heard n h) ∙ ap is_free free)

-- The guards of a region's open sections tell which section it is.
over_reads : Given → Option OpenSection → Option OpenSection
over_reads g None = Some (record { section = section.Reading 1; number = g.guard.number; bytes = g.guard.bytes })
over_reads g (Some r) = Some (record { section = one_section_more r.section; number = r.number; bytes = r.bytes })

open_by : List Given → Option OpenSection
open_by [] = None
open_by (g ∷ gs) = if g.write then Some (record { section = section.Writing; number = g.guard.number; bytes = g.guard.bytes }) else over_reads g (open_by gs)

by_guards : (n : ℕ) (gs : List Given) (o : Option OpenSection) → AreGuards n gs o → o ≡ open_by gs
unfolding open_by over_reads
by_guards n gs o closed = refl
by_guards n gs o (writing g e) = refl
by_guards n gs o (reading g e) = refl
by_guards n gs o (nested g rest count number bytes e same some h) = ap (over_reads (record { write = false; guard = g })) (by_guards n rest _ h)

sections_by : (i : ℕ) (heard : List Heard) (n : Node) (q : Name) → HasHeard i heard n → n.activity ≡ Free → n.sections.records q ≡ open_by (guards_held q [] heard)
sections_by i heard n q h free = by_guards i _ _
    (subst (λ (a : Activity). AreGuards i (given_yet q a ++ guards_held q [] heard) (n.sections.records q)) free
    (subst (λ (m : Node). AreGuards i (given_yet q m.activity ++ guards_held q [] heard) (m.sections.records q)) (sym h.node)
    (subst (λ hs. AreGuards i (given_yet q (node.activity) ++ guards_held q [] hs) (node.sections.records q)) h.hears (sections_are_guards h.count h.capacity h.run h.is_run.enabled i q))))
  where
    node : Node
    node = (world_of h.count h.capacity h.run).nodes i

pub same_sections : (i : ℕ) (heard : List Heard) (n m : Node) (q : Name) → HasHeard i heard n → HasHeard i heard m → n.activity ≡ Free → n.sections.records q ≡ m.sections.records q
same_sections i heard n m q h k free = sections_by i heard n q h free ∙ sym (sections_by i heard m q k (both_free i heard n m h k free))
