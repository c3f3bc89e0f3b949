-- A run that is over: its report.
use Rattle.std.proofs.Common.{◌≡◌, ◌∙◌, refl, sym, ap, ap₂, ◌*◌, ◌<◌, ◌≤◌, ◌^◌, if◌then◌else◌, ℕ, List, [], length, subst, arith}
use Rattle.std.proofs.Math.Nat.{mul-le-mul_right}
use Rattle.crl_model.specs.Reports.{Reported}
use Rattle.crl_model.specs.declared.statement.Statement.{Statement}
use Rattle.crl_protocol.specs.World.{World, new_world, world_of, messages_sent, account}
use Rattle.crl_protocol.specs.Chosen.{Running, running, always_first}
use Rattle.crl_protocol.specs.Ends.{report, is_stuck, regions}
use Rattle.crl_deeds.specs.Laws.{AreStatements, chosen}
use Rattle.crl_deeds.proofs.Laws.{follow_turns, follow_account}
use Rattle.crl_stuck.specs.Ends.{statements_in, most_messages, most_turns}
use Rattle.crl_stuck.proofs.Laws.{messages_most}
use Rattle.crl_journal.specs.Told.{AreRecordsOf}
use Rattle.crl_world.specs.Records.{records_by_node}
use Rattle.crl_run.specs.PlayerState.{PlayerState}
use Rattle.crl_run.specs.Staging.{IsOnItsWay}
use Rattle.crl_run.specs.Playing.{player_of}
use Rattle.crl_run.specs.Words.{words_then}
use Rattle.crl_run.specs.Turning.{IsAt, IsOver, RunIsOver}
use Rattle.crl_run.specs.Finishing.{IsAtTurn, IsAtSomeTurn, IsPrintedFrom}
use Rattle.crl_run.specs.declared.finishing.Printed.{Printed}
use Rattle.crl_run.specs.Reporting.{running_seen, PrintsWhatIs, IsReportOf}
use Rattle.crl_run.specs.Runs.{AreNewPlayers}
use Rattle.crl_run.proofs.Lasting.{chosen_on}
use Rattle.crl_run.proofs.AllTurns.{at_words}
use Rattle.crl_run.proofs.Taken.{players_begin}
use Rattle.crl_run.proofs.Playing.{counted, as_many}
use Rattle.crl_run.proofs.ReportSums.{stuck_same, blocked_same}
use Rattle.crl_run.proofs.Telling.{told_from, told_by_run, account_told}

same_reports : (a b : Reported) → a.entries ≡ b.entries → a.regions ≡ b.regions → a.blocked ≡ b.blocked → a.events ≡ b.events → a.messages ≡ b.messages → a ≡ b
same_reports a b e f g h k = λ i. record { entries = e i; regions = f i; blocked = g i; events = h i; messages = k i }

pub begins_there : (count capacity : ℕ) (blocks : List (List Statement)) (words : ℕ → ℕ) (w : World) (players : List PlayerState) → w ≡ new_world count capacity → AreNewPlayers count players → IsAt capacity blocks words 0 w players
begins_there count capacity blocks words w players e new = record {
  world = e ∙ ap (λ n. new_world n capacity) (sym new.many);
  all = players_begin (length players) capacity blocks (player_of players) (λ i lt. new.are i (subst (λ n. i < n) new.many lt));
}

pub at_start : (count capacity : ℕ) (blocks : List (List Statement)) (w : World) (players : List PlayerState) → w ≡ new_world count capacity → AreNewPlayers count players → IsAtTurn capacity blocks w players
at_start count capacity blocks w players e new = record {
  reached = running (length players) capacity blocks;
  chosen = (always_first, 0, refl);
  stands = begins_there count capacity blocks always_first w players e new;
}

module _ (capacity : ℕ) (blocks : List (List Statement)) (words : ℕ → ℕ) (v : World) (players : List PlayerState) (are : AreStatements blocks) (over : IsOver capacity blocks words v players) where
  at_end : (P : Running → Type 0) → P (chosen (length players) capacity blocks words over.chosen.turns) → P over.end
  at_end P h = subst P (sym over.chosen.reached) h

  end_way : IsOnItsWay (length players) capacity over.end
  end_way = at_end (λ r. IsOnItsWay (length players) capacity r) (chosen_on (length players) capacity blocks words over.chosen.turns are).way

  end_entries : over.end.entries ≡ account (length players) capacity over.end.events
  end_entries = at_end (λ r. r.entries ≡ account (length players) capacity r.events) (follow_account (follow_turns (length players) capacity blocks words over.chosen.turns))

  pub end_counted : v.count ≡ length players
  end_counted = counted capacity blocks over.end v players over.stands end_way

  pub end_messages : messages_sent v ≤ statements_in (length players) blocks * most_messages (length players)
  end_messages = subst (λ (x : World). messages_sent x ≤ statements_in (length players) blocks * most_messages (length players)) (sym over.stands.world)
      (at_end (λ r. messages_sent r.world ≤ statements_in (length players) blocks * most_messages (length players)) (messages_most (length players) capacity blocks words over.chosen.turns are))

  pub end_reported : (printed : Reported) → PrintsWhatIs blocks v players printed → IsReportOf (length players) capacity blocks words (is_stuck (running_seen blocks v players)) printed
  end_reported printed is =
      let stuck = stuck_same capacity blocks over.end v players over.stands end_counted in
      let same : world_of (length players) capacity over.end.events ≡ v = sym (over.stands.world ∙ end_way.world) in
      record {
        end = over.end;
        chosen = over.chosen;
        reported = same_reports printed (report over.end)
            (is.entries (told_from (new_world (length players) capacity) over.end.events) (subst (λ (x : World). AreRecordsOf (told_from (new_world (length players) capacity) over.end.events) (records_by_node x)) same (told_by_run (length players) capacity over.end.events end_way.run))
            ∙ account_told (length players) capacity over.end.events end_way.run ∙ sym end_entries)
            (is.regions ∙ ap₂ (λ b (x : World). if b then [] else regions x) stuck over.stands.world)
            (is.blocked ∙ ap₂ (λ b l. if b then l else []) stuck (blocked_same capacity blocks over.end v players over.stands end_counted))
            (is.events ∙ as_many capacity blocks over.end v players over.stands end_way)
            (is.messages ∙ ap messages_sent over.stands.world);
        is_so = sym stuck;
      }

-- Of what stood for a run on its way, when the rest is over.
module _ (blocks : List (List Statement)) (rest : ℕ → ℕ) (w : World) (players : List PlayerState) (v : World) (later : List PlayerState) (are : AreStatements blocks) (over : RunIsOver blocks rest w players v later) where
  some_over : IsAtSomeTurn blocks w players → (capacity : ℕ) × (words : ℕ → ℕ) × IsOver capacity blocks words v later
  some_over (capacity, t) = go (at_words capacity blocks w players t)
    where
      go : (words : ℕ → ℕ) × (k : ℕ) × IsAt capacity blocks words k w players → (capacity : ℕ) × (words : ℕ → ℕ) × IsOver capacity blocks words v later
      go (words, k, at) = (capacity, words_then k words rest, over.1 capacity words k at)

  pub rest_counted : IsAtSomeTurn blocks w players → v.count ≡ length later
  rest_counted some = let o = some_over some in end_counted o.0 blocks o.1 v later are o.2

  pub rest_messages : IsAtSomeTurn blocks w players → messages_sent v ≤ statements_in (length players) blocks * most_messages (length players)
  rest_messages some =
      let o = some_over some in
      subst (λ n. messages_sent v ≤ statements_in n blocks * most_messages n) over.0 (end_messages o.0 blocks o.1 v later are o.2)

  pub rest_printed : (printed : Printed) → printed.stuck ≡ is_stuck (running_seen blocks v later) → PrintsWhatIs blocks v later printed.report → IsPrintedFrom blocks rest w players printed
  rest_printed printed stuck is capacity words k at =
      subst (λ n. IsReportOf n capacity blocks (words_then k words rest) printed.stuck printed.report) over.0
      (subst (λ b. IsReportOf (length later) capacity blocks (words_then k words rest) b printed.report) (sym stuck)
      (end_reported capacity blocks (words_then k words rest) v later are (over.1 capacity words k at) printed.report is))

-- The numbers fit.
module _ (count statements : ℕ) (few : count ≤ 64) (script : statements ≤ 2 ^ 40) where
  most_few : most_messages count ≤ 2000
  most_few = omega arith

  product : statements * most_messages count ≤ 2 ^ 40 * 2000
  product =
      let a = mul-le-mul_right (most_messages count) script in
      let b = most_few in
      omega arith

  pub turns_fit : most_turns count statements ≤ 2 ^ 60
  turns_fit = let p = product in omega arith

  pub messages_fit : (sent : ℕ) → sent ≤ statements * most_messages count → sent < 2 ^ 64
  messages_fit sent h = let p = product in omega arith
