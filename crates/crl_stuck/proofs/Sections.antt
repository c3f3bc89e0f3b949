-- With no piece in a box, a node that waits for a section is kept out by another that has one open.
use Rattle.std.proofs.Common.{◌≡◌, ◌≢◌, ℕ, ◌<◌, ◌≤◌, Bool, true, None, Some, Option, List, [], refl, ap, sym, ◌∙◌, subst}
use Rattle.std.proofs.Math.Logic.{◌⊎◌, inl, inr}
use Rattle.std.proofs.lemmas.Bool.{cases_eq, cases_lt}
use Rattle.crl_model.specs.declared.name.Name.{Name}
use Rattle.crl_model.specs.declared.event.Event.{Event}
use Rattle.crl_model.specs.declared.directory.Section.TheVariants.{Closed}
use Rattle.crl_protocol.specs.Places.{find_all}
use Rattle.crl_protocol.specs.Home.{Home}
use Rattle.crl_protocol.specs.Remote.{Remote}
use Rattle.crl_protocol.specs.Handlers.{is_queued}
use Rattle.crl_protocol.specs.Sections.{section_at}
use Rattle.crl_protocol.specs.Node.{Waiting, ForSection}
use Rattle.crl_protocol.specs.World.{World, new_world, world_of, pieces_in_boxes, IsRunFrom}
use Rattle.crl_flight.specs.Flight.{Under, messages_of}
use Rattle.crl_coherence.specs.Region.{Region}
use Rattle.crl_coherence.specs.Coherent.{node_section}
use Rattle.crl_coherence.specs.Facts.{WhoWaitsIsBlocked}
use Rattle.crl_coherence.proofs.Laws.{waiting_is_blocked}
use Rattle.crl_safety.specs.Tests.{HasTable}
use Rattle.crl_regions.specs.Steps.{RegionsHold}
use Rattle.crl_regions.specs.View.{flying, side, table_of, table_or_blank, view, array_of}
use Rattle.crl_regions.proofs.Laws.{regions_in_runs, quiet_boxes, sections_are_tables, sizes_known, waiters_ask, count_in_run}
use Rattle.crl_stuck.proofs.Elsewhere.{closed_past}

-- another node of the world has a section of the region open
pub record IsHeld (w : World) (i : ℕ) (name : Name) : Type 0 where
  pub holder : ℕ
  pub node : holder < w.count
  pub other : holder ≢ i
  pub has_open : section_at name (w.nodes holder).sections ≢ Closed

-- who asked has a record of the region, and where an ask is queued there is a table
asked_record : (size : ℕ) (o : Option Remote) (write : Bool) → (side size o).asking ≡ Some write → (r : Remote) × (o ≡ Some r)
asked_record size None write e = cc
asked_record size (Some r) write e = (r, refl)

queued_table : (i : ℕ) (o : Option Home) → is_queued i (table_or_blank o).queue ≡ true → HasTable o
queued_table i None e = cc
queued_table i (Some h) e = (h, refl)

pub held : (count capacity : ℕ) (run : List Event) → IsRunFrom (new_world count capacity) run → pieces_in_boxes (world_of count capacity run) ≡ []
    → (i : ℕ) (name : Name) → ((world_of count capacity run).nodes i).activity ≡ Waiting (ForSection name) → IsHeld (world_of count capacity run) i name
held count capacity run r quiet i name waits = go (cases_eq i name.home)
  where
    w : World
    w = world_of count capacity run

    regions : (us : List Under) × RegionsHold w us (λ q. array_of q count capacity run)
    regions = regions_in_runs count capacity run r

    none : regions.0 ≡ []
    none = quiet_boxes count capacity run r regions.0 regions.1.under_way quiet

    array : List ℕ
    array = array_of name count capacity run

    seen : Region
    seen = view name array (messages_of regions.0) w

    still : seen.flight ≡ []
    still = ap (λ us. find_all (flying name) (messages_of us)) none

    blocked : HasTable (table_of name w) → WhoWaitsIsBlocked name.home seen
    blocked (h, e) = waiting_is_blocked name.home seen (regions.1.coherent name h e)

    within : (m : ℕ) → section_at name (w.nodes m).sections ≢ Closed → m < w.count
    within m is_open = elim (cases_lt m w.count) [
      | inl l ↦ l
      | inr past ↦ absurd (is_open (closed_past count capacity run r m (subst (λ k. k ≤ m) (count_in_run count capacity run r) past) name))
    ]

    holds : (m : ℕ) → m ≢ i → node_section name.home seen m ≢ Closed → IsHeld w i name
    holds m other is_open =
        let noted : section_at name (w.nodes m).sections ≢ Closed = (λ c. is_open (sections_are_tables count capacity run r m name array (messages_of regions.0) ∙ c)) in
        record { holder = m; node = within m noted; other = other; has_open = noted }

    go : (i ≡ name.home) ⊎ (i ≡ name.home → ⊥) → IsHeld w i name
    go (inl same) =
        let queued = (waiters_ask count capacity run r).home name array (messages_of regions.0) (subst (λ j. (w.nodes j).activity ≡ Waiting (ForSection name)) same waits) in
        let by = (blocked (queued_table name.home (table_of name w) queued)).home still queued in
        holds by.0 (λ x. by.1 (x ∙ same)) by.2
    go (inr other) =
        let asked = (waiters_ask count capacity run r).other i name array (messages_of regions.0) other waits in
        let own = asked_record _ ((w.nodes i).remotes name) asked.0 asked.1 in
        let size = (sizes_known count capacity run r).record_of i name own.0 own.1 in
        let by = (blocked (size.0, size.1)).other i still other (λ x. let y = sym asked.1 ∙ x in cc) in
        holds by.0 by.1 by.2
