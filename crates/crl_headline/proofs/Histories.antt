-- The report of the run that a script and an order choose is one history.
use Rattle.std.proofs.Common.{◌≡◌, ◌∙◌, nat_lt, ◌++◌, ℕ, zero, suc, ◌+◌, ◌<◌, ◌≤◌, ◌^◌, Bool, true, false, not, if◌then◌else◌, List, [], ◌∷◌, length, refl, sym, ap, subst, arith, true≢false}
use Rattle.std.proofs.lemmas.Bool.{and_parts, ltb-true}
use Rattle.crl_model.specs.declared.entry.Entry.{Entry}
use Rattle.crl_model.specs.declared.entry.What.TheVariants as what
use Rattle.crl_model.specs.declared.name.Name.{Name}
use Rattle.crl_model.specs.declared.report.FinalRegion.{FinalRegion}
use Rattle.crl_model.specs.declared.statement.Statement.{Statement}
use Rattle.crl_model.specs.Reports.{Reported}
use Rattle.crl_machine.specs.SingleMachine.{start, after_all, IsHistory}
use Rattle.crl_machine.specs.FinalRegions.{final_regions}
use Rattle.crl_machine.specs.Laws.{last_left}
use Rattle.crl_protocol.specs.Home.{is_empty}
use Rattle.crl_protocol.specs.World.{World, new_world, world_of, account, pieces_in_boxes}
use Rattle.crl_protocol.specs.Chosen.{Running, running, choices}
use Rattle.crl_protocol.specs.Ends.{is_stuck, is_finished, all_finished, regions}
use Rattle.crl_protocol.specs.Talk.{talk, AreLinesOf, lines_of_node}
use Rattle.crl_deeds.specs.Laws.{AreStatements, chosen, Follows}
use Rattle.crl_deeds.proofs.Laws.{follow_turns, follow_account}
use Rattle.crl_regions.proofs.Laws.{count_in_run}
use Rattle.crl_stuck.specs.Stuck.{EndsStuck}
use Rattle.crl_stuck.specs.Ends.{statements_in}
use Rattle.crl_stuck.proofs.Laws.{stuck_chosen, run_ends, one_end, names_stuck}
use Rattle.crl_talk.proofs.Laws.{calls_follow, calls_stand}
use Rattle.crl_history.proofs.Laws.{accounts_legal, quiet_ends}
use Rattle.crl_run.specs.Reporting.{IsReportOf}
use Rattle.crl_run.specs.Staging.{IsOnItsWay}
use Rattle.crl_run.proofs.Laws.{chosen_on, chosen_few, turns_fit}
use Rattle.crl_headline.specs.Histories.{IsOneHistory, ReadsShowTheLastWrite, ArrayIsTheLastWrites}

-- where all nodes are finished, none has a statement left
none_left : {A : Type 0} (xs : List A) → is_empty xs ≡ true → xs ≡ []
none_left [] e = refl
none_left (x ∷ xs) e = absurd (true≢false (sym e))

at_or_behind : (end : Running) (i n : ℕ) → i ≤ n → is_finished i end ≡ true → (i < n → is_finished n end ≡ true) → is_finished n end ≡ true
at_or_behind end i n low here behind = go (nat_lt i n) refl
  where
    go : (b : Bool) → nat_lt i n ≡ b → is_finished n end ≡ true
    go true e = behind (ltb-true i n e)
    go false e = let same : i ≡ n = grind arith in subst (λ j. is_finished j end ≡ true) same here

finished_each : (end : Running) (i k n : ℕ) → all_finished i k end ≡ true → i ≤ n → n < i + k → is_finished n end ≡ true
finished_each end i zero n all low high = absurd (omega arith)
finished_each end i (suc k) n all low high =
    let parts = and_parts (is_finished i end) (all_finished (i + 1) k end) all in
    at_or_behind end i n low parts.0 (λ more. finished_each end (i + 1) k n parts.1 (omega arith) (omega arith))

all_left : (end : Running) → is_stuck end ≡ false → (n : ℕ) → n < end.world.count → (end.actors n).left ≡ []
all_left end e n few =
    let done : is_finished n end ≡ true = finished_each end 0 end.world.count n (go (all_finished 0 end.world.count end) e) (omega arith) (omega arith) in
    none_left (end.actors n).left (and_parts _ _ done).1
  where
    go : (b : Bool) → not b ≡ false → b ≡ true
    go true h = refl
    go false h = absurd (true≢false h)

module _ (count capacity : ℕ) (blocks : List (List Statement)) (words : ℕ → ℕ) (stuck : Bool) (printed : Reported) where
  module _ (few : count ≤ 64) (are : AreStatements blocks) (script : statements_in count blocks ≤ 2 ^ 40) (r : IsReportOf count capacity blocks words stuck printed) where
    abbrev end : Running
    end = r.end

    at_end : (P : Running → Type 0) → P (chosen count capacity blocks words r.chosen.turns) → P end
    at_end P p = subst P (sym r.chosen.reached) p

    way : IsOnItsWay count capacity end
    way = at_end (IsOnItsWay count capacity) (chosen_on count capacity blocks words r.chosen.turns are).way

    follows : Follows (running count capacity blocks) end.events end
    follows = at_end (λ x. Follows (running count capacity blocks) x.events x) (follow_turns count capacity blocks words r.chosen.turns)

    counted : end.world.count ≡ count
    counted = ap (λ (w : World). w.count) way.world ∙ count_in_run count capacity end.events way.run

    -- There are few events: the run has no other end than the one that comes after few turns.
    few_events : length end.events ≤ 2 ^ 62
    few_events =
        let first = run_ends count capacity blocks words are in
        let same : end ≡ first.end = one_end count capacity blocks words end first.end r.chosen first.chosen in
        let within : length first.end.events ≤ first.chosen.turns = subst (λ (x : Running). length x.events ≤ first.chosen.turns) (sym first.chosen.reached) (chosen_few count capacity blocks words first.chosen.turns) in
        let most = turns_fit count (statements_in count blocks) few script in
        let turns = first.few in
        let whole : length end.events ≤ first.chosen.turns = subst (λ (x : Running). length x.events ≤ first.chosen.turns) (sym same) within in
        omega arith

    -- The entries are the account of the events.
    entries_are : printed.entries ≡ account count capacity end.events
    entries_are = ap (λ (x : Reported). x.entries) r.reported ∙ follow_account follows

    stuck_there : EndsStuck end
    stuck_there =
        at_end EndsStuck
        (stuck_chosen count capacity blocks words are r.chosen.turns (subst (λ (x : Running). choices x ≡ []) r.chosen.reached r.chosen.finished))

    legal_there : IsHistory (start count) printed.entries
    legal_there = subst (IsHistory (start count)) (sym entries_are) (accounts_legal count capacity end.events way.run)

    lines_there : (n : ℕ) → n < count → AreLinesOf n (talk n (new_world count capacity) end.events) (lines_of_node n printed.entries)
    lines_there n within =
        subst (λ (es : List Entry). AreLinesOf n (talk n (new_world count capacity) end.events) (lines_of_node n es)) (sym entries_are)
        (calls_stand count capacity end.events (record { enabled = way.run; limit = few_events }) n within).lines

    -- With no piece in a box the regions are the array's.
    regions_at_end : regions end.world ≡ final_regions (after_all (start count) printed.entries)
    regions_at_end =
        let empty : pieces_in_boxes (world_of count capacity end.events) ≡ [] = subst (λ (w : World). pieces_in_boxes w ≡ []) way.world stuck_there.truly.0 in
        ap regions way.world ∙ (quiet_ends count capacity end.events way.run empty).regions_are
        ∙ ap (λ (es : List Entry). final_regions (after_all (start count) es)) (sym entries_are)

    pub one_history : ReadsShowTheLastWrite printed.entries → ArrayIsTheLastWrites count printed.entries → IsOneHistory count capacity blocks words stuck printed
    one_history reads array = record {
      end = end;
      chosen = r.chosen;
      reported = r.reported;
      is_so = r.is_so;
      legal = legal_there;
      reads = reads;
      array = array;
      lines = lines_there;
      calls = calls_follow count capacity blocks end.events end follows;
      done = λ e n within. all_left end (r.is_so ∙ e) n (subst (λ k. n < k) (sym counted) within);
      regions = ap (λ (x : Reported). x.regions) r.reported ∙ ap (λ b. if b then [] else regions end.world) r.is_so ∙ ap (λ (l : List FinalRegion). if stuck then [] else l) regions_at_end;
      named = names_stuck end stuck_there;
      events = ap (λ (x : Reported). x.events) r.reported;
    }

-- In a legal history reads show the last write, so in this.
pub reads_shown : (count : ℕ) (entries : List Entry) → IsHistory (start count) entries
    → ((n m : ℕ) (q : Name) (seen : List ℕ) (es fs : List Entry) → IsHistory (start n) (es ++ record { node = m; what = what.Read q seen } ∷ fs) → seen ≡ last_left q es []) → ReadsShowTheLastWrite entries
reads_shown count entries legal law m q seen front rest parts = law count m q seen front rest (subst (IsHistory (start count)) parts legal)

-- it is legal
pub legal_report : (count capacity : ℕ) (blocks : List (List Statement)) (words : ℕ → ℕ) (stuck : Bool) (printed : Reported) → count ≤ 64 → AreStatements blocks → statements_in count blocks ≤ 2 ^ 40
    → IsReportOf count capacity blocks words stuck printed → IsHistory (start count) printed.entries
legal_report = legal_there
