-- An unnested, aligned script finishes: at its end nobody waits.
use Rattle.std.proofs.Common.{◌≡◌, ℕ, zero, suc, ◌+◌, ◌<◌, Bool, true, false, not, List, [], ◌∷◌, refl, ap, sym, ◌∙◌, subst, arith}
use Rattle.std.specs.List.{AllByRecursion}
use Rattle.std.specs.declared.option.Option.TheVariants.{Some}
use Rattle.std.proofs.lemmas.Bool.{and_parts, and_from, cond-false}
use Rattle.std.proofs.lemmas.List.Elements.{recursion_from_All}
use Rattle.crl_model.specs.declared.name.Name.{Name}
use Rattle.crl_model.specs.declared.blocked.Blocked.{Blocked}
use Rattle.crl_model.specs.declared.blocked.Blocked.TheVariants as blocked
use Rattle.crl_model.specs.declared.statement.Statement.{Statement}
use Rattle.crl_machine.specs.SingleMachine.{State}
use Rattle.crl_protocol.specs.Home.{is_empty}
use Rattle.crl_protocol.specs.Node.{Node, Awaited, Waiting, ForSection, ForMap, ForDelete, ForRound}
use Rattle.crl_protocol.specs.World.{World, new_world, world_of, IsRunFrom}
use Rattle.crl_protocol.specs.Chosen.{Running, running, block_of, choices}
use Rattle.crl_protocol.specs.Ends.{is_finished, all_finished, is_stuck, blocked_from}
use Rattle.crl_deeds.specs.Laws.{AreStatements, chosen, Follows}
use Rattle.crl_deeds.proofs.Laws.{sound_start, follow_runs, follow_turns, follow_world}
use Rattle.crl_rounds.specs.Standing.{RoundCall, round_awaited, current_round, machine_of, StandsIn, RoundsStand}
use Rattle.crl_rounds.proofs.Laws.{rounds_in_runs}
use Rattle.crl_regions.proofs.Laws.{count_in_run}
use Rattle.crl_stuck.specs.Ends.{ForEachScript}
use Rattle.crl_stuck.specs.Stuck.{stuck_node, IsCause, EndsStuck}
use Rattle.crl_stuck.proofs.Laws.{stuck_chosen, run_ends}
use Rattle.crl_finish.specs.Unnested.{Within, Outside, Inside, is_unnested_from, rounds_in, IsUnnested, AreUnnested, AreAligned}
use Rattle.crl_finish.specs.Finish.{EndsFinished, Finishes, ComesToFinish}
use Rattle.crl_finish.proofs.Opened.{AreWithin}
use Rattle.crl_finish.proofs.Places.{Shut, IsAt}
use Rattle.crl_finish.proofs.Following.{AllAt, start_all, follow_all}

-- A node that has no statement left is outside of sections, and came to all its rounds.
ended_outside : (w : Within) → is_unnested_from w [] ≡ true → w ≡ Outside
ended_outside Outside e = refl
ended_outside (Inside write name) e = cc

none_left : (ss : List Statement) → is_empty ss ≡ true → ss ≡ []
none_left [] e = refl
none_left (s ∷ ss) e = cc

left_of : (i : ℕ) (r : Running) → is_finished i r ≡ true → (r.actors i).left ≡ []
left_of i r e = none_left (r.actors i).left (and_parts _ _ e).1

finished_closed : (n : Node) (left : List Statement) (total : ℕ) → left ≡ [] → IsAt n left total → AreWithin Outside n.sections
finished_closed n left total e h =
    subst (λ w. AreWithin w n.sections) (ended_outside h.within (ap (λ ss. is_unnested_from h.within ss) (sym e) ∙ h.unnested)) h.sections

finished_rounds : (n : Node) (left : List Statement) (total : ℕ) → left ≡ [] → IsAt n left total → n.rounds ≡ total
finished_rounds n left total e h = let none : rounds_in left ≡ 0 = ap rounds_in e in let k = h.rounds in omega arith

-- The end of a run where no choice is left, with what is known of it.
module _ (totals : ℕ → ℕ) (end : Running) (s : State) (stuck : EndsStuck end) (all : AllAt totals end) (rounds : RoundsStand end.world s) (same : (i : ℕ) → i < end.world.count → totals i ≡ totals 0) where
  -- nobody has a section open
  waits_closed : (i : ℕ) → i < end.world.count → (a : Awaited) → (end.world.nodes i).activity ≡ Waiting a → AreWithin Outside (end.world.nodes i).sections
  waits_closed i few (ForSection name) e = subst (λ x. Shut x (end.world.nodes i).sections) e (all.places i).shut
  waits_closed i few (ForRound round kind) e = subst (λ x. Shut x (end.world.nodes i).sections) e (all.places i).shut
  waits_closed i few (ForMap name purged) e = absurd (stuck.waiters.no_map i name purged few e)
  waits_closed i few (ForDelete name) e = absurd (stuck.waiters.no_delete i name few e)

  all_closed : (i : ℕ) → i < end.world.count → AreWithin Outside (end.world.nodes i).sections
  all_closed i few = go (is_finished i end) refl
    where
      go : (b : Bool) → is_finished i end ≡ b → AreWithin Outside (end.world.nodes i).sections
      go true e = finished_closed (end.world.nodes i) (end.actors i).left (totals i) (left_of i end e) (all.places i)
      go false e = let a = stuck.waits i few e in waits_closed i few a.0 a.1

  -- so who waits does so in a round
  not_kept_out : (i : ℕ) (name : Name) → (end.world.nodes i).activity ≡ Waiting (ForSection name) → (cause : Blocked) → stuck_node cause ≡ i → IsCause end.world cause → ⊥
  not_kept_out i name e (blocked.Region j q holder) own c = c.has_open (all_closed holder c.node q)
  not_kept_out i name e (blocked.Round j round absent) own c = let x = sym c.waits ∙ ap (λ k. (end.world.nodes k).activity) own ∙ e in cc

  in_round : (i : ℕ) → i < end.world.count → (a : Awaited) → (end.world.nodes i).activity ≡ Waiting a → (c : RoundCall) × (round_awaited (end.world.nodes i).activity ≡ Some c)
  in_round i few (ForSection name) e = let b = stuck.waiters.blocked i (ForSection name) few e in absurd (not_kept_out i name e b.cause b.own b.stands)
  in_round i few (ForRound round kind) e = (record { round = round; kind = kind }, ap round_awaited e)
  in_round i few (ForMap name purged) e = absurd (stuck.waiters.no_map i name purged few e)
  in_round i few (ForDelete name) e = absurd (stuck.waiters.no_delete i name few e)

  unfinished_in_round : (i : ℕ) → i < end.world.count → is_finished i end ≡ false → (c : RoundCall) × (round_awaited (end.world.nodes i).activity ≡ Some c)
  unfinished_in_round i few e = let a = stuck.waits i few e in in_round i few a.0 a.1

  own_round : (i : ℕ) (c : RoundCall) → i < end.world.count → round_awaited (end.world.nodes i).activity ≡ Some c → c.round ≡ (end.world.nodes i).rounds
  own_round i c few e = (subst (λ o. StandsIn (current_round end.world) s i (end.world.nodes i).rounds o) e (rounds.stands i few).call).own

  -- who hasn't come to the round is finished, and came to as many
  nobody_waits : (i : ℕ) → i < end.world.count → is_finished i end ≡ false → ⊥
  nobody_waits i few e = go (is_finished m end) refl
    where
      c : (c : RoundCall) × (round_awaited (end.world.nodes i).activity ≡ Some c)
      c = unfinished_in_round i few e

      m : ℕ
      m = (rounds.absent stuck.truly.0 i c.0 few c.1).1

      go : (b : Bool) → is_finished m end ≡ b → ⊥
      go true f =
          let found = rounds.absent stuck.truly.0 i c.0 few c.1 in
          let away = found.2 in
          let came = (rounds.stands m away.node).came in
          let last = away.came in
          let at = found.0 in
          let own = own_round i c.0 few c.1 in
          let done = finished_rounds (end.world.nodes m) (end.actors m).left (totals m) (left_of m end f) (all.places m) in
          let here = (all.places i).rounds in
          let one = same i few in
          let two = same m away.node in
          omega arith
      go false f = let away = (rounds.absent stuck.truly.0 i c.0 few c.1).2 in let x = unfinished_in_round m away.node f in let none = away.waits in let y = sym none ∙ x.1 in cc

  pub all_done : (i : ℕ) → i < end.world.count → is_finished i end ≡ true
  all_done i few = go (is_finished i end) refl
    where
      go : (b : Bool) → is_finished i end ≡ b → is_finished i end ≡ true
      go true e = e
      go false e = absurd (nobody_waits i few e)

-- the report
finished_from : (i k : ℕ) (r : Running) → ((j : ℕ) → j < i + k → is_finished j r ≡ true) → all_finished i k r ≡ true
finished_from i zero r h = refl
finished_from i (suc k) r h = and_from _ _ (h i (omega arith)) (finished_from (i + 1) k r (λ j few. h j (omega arith)))

done_of : (r : Running) → ((i : ℕ) → i < r.world.count → is_finished i r ≡ true) → EndsFinished r
done_of r h =
    let none : is_stuck r ≡ false = ap not (finished_from 0 r.world.count r (λ j few. h j (omega arith))) in
    record { nodes = h; not_stuck = none; none_blocked = cond-false (is_stuck r) (blocked_from 0 r.world.count r) [] none }

block_unnested : (blocks : List (List Statement)) (i : ℕ) → AllByRecursion IsUnnested blocks → IsUnnested (block_of blocks i)
block_unnested [] i h = refl
block_unnested (b ∷ blocks) zero h = h.0
block_unnested (b ∷ blocks) (suc i) h = block_unnested blocks i h.1

done_chosen : (count capacity : ℕ) (blocks : List (List Statement)) (words : ℕ → ℕ) (k : ℕ) → AreStatements blocks → AreUnnested blocks → AreAligned count blocks → choices (chosen count capacity blocks words k) ≡ []
    → EndsFinished (chosen count capacity blocks words k)
done_chosen count capacity blocks words k are unnested aligned none =
    done_of end
    (all_done totals end (machine_of count capacity end.events) (stuck_chosen count capacity blocks words are k none)
    (follow_all totals follows run (start_all count capacity blocks (λ i. block_unnested blocks i (recursion_from_All IsUnnested blocks unnested))))
    (subst (λ w. RoundsStand w (machine_of count capacity end.events)) (sym there) (rounds_in_runs count capacity end.events run))
    (λ i few. aligned i (subst (λ n. i < n) (ap (λ (w : World). w.count) there ∙ count_in_run count capacity end.events run) few)))
  where
    end : Running
    end = chosen count capacity blocks words k

    totals : ℕ → ℕ
    totals i = rounds_in (block_of blocks i)

    follows : Follows (running count capacity blocks) end.events end
    follows = follow_turns count capacity blocks words k

    run : IsRunFrom (new_world count capacity) end.events
    run = follow_runs follows (sound_start count capacity blocks are)

    there : end.world ≡ world_of count capacity end.events
    there = follow_world follows

pub finishes : ForEachScript Finishes
finishes count capacity blocks words are unnested aligned end h =
    subst EndsFinished (sym h.reached) (done_chosen count capacity blocks words h.turns are unnested aligned (subst (λ r. choices r ≡ []) h.reached h.finished))

pub comes_to_finish : ForEachScript ComesToFinish
comes_to_finish count capacity blocks words are unnested aligned =
    let r = run_ends count capacity blocks words are in record { end = r.end; chosen = r.chosen; few = r.few; done = finishes count capacity blocks words are unnested aligned r.end r.chosen }
