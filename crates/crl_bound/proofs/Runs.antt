-- Of every run: what is sent is at most what its calls pay.
use Rattle.std.proofs.Common.{◌≡◌, ℕ, zero, suc, ◌+◌, ◌-◌, ◌≤◌, ◌<◌, ◌==◌, Bool, true, false, None, Some, Option, List, [], ◌∷◌, ◌++◌, if◌then◌else◌, refl, ap, sym, ◌∙◌, subst, arith}
use Rattle.std.proofs.lemmas.Bool.{cond_both, eqb-true}
use Rattle.crl_model.specs.declared.name.Name.{Name}
use Rattle.crl_model.specs.declared.directory.Section.{Section}
use Rattle.crl_model.specs.declared.directory.Section.TheVariants as section
use Rattle.crl_model.specs.declared.entry.Entry.{Entry}
use Rattle.crl_model.specs.declared.event.Event.{Event}
use Rattle.crl_model.specs.declared.event.Event.TheVariants as event
use Rattle.crl_model.specs.Names.{at_node}
use Rattle.crl_pieces.specs.Pieces.{count}
use Rattle.crl_protocol.specs.Home.{Home}
use Rattle.crl_protocol.specs.Remote.{Copy}
use Rattle.crl_protocol.specs.Lifetimes.{Lifetime}
use Rattle.crl_protocol.specs.Sections.{is_writing}
use Rattle.crl_protocol.specs.Parcels.{Piece, with_load, PartsGathered}
use Rattle.crl_protocol.specs.Node.{Node, new_node, Done, Free, Outcome, only, is_mine, home_of, at_serial}
use Rattle.crl_protocol.specs.Talk.{created_size, pieces_or_one, created_pieces, bound_of, bound_at, bound_from}
use Rattle.crl_protocol.specs.World.{World, WorldStep, new_world, note, put_in, steps_node, carries, step, is_enabled, IsRunFrom, world_after, account_from, account, world_of, messages_sent_from}
use Rattle.crl_deeds.specs.Deeds.{Cause, Calls, Hears, Deed}
use Rattle.crl_coherence.specs.Pairs.{SectionFits}
use Rattle.crl_deeds.proofs.Laws.{away_load, deed_frame, all_took, each_at, weigh_took, sum_new, known_start, known_step, turn_of}
use Rattle.crl_deeds.specs.Counts.{Known}
use Rattle.crl_deeds.specs.NodeFacts.{Leaves, ComesIn, Fits}
use Rattle.crl_deeds.specs.Tokens.{on_piece, sum_from}
use Rattle.crl_bound.specs.Counters.{BoundsEachRun, MessagesFew}
use Rattle.crl_bound.proofs.Regions.{SidesFit, sides_in_runs}
use Rattle.crl_bound.proofs.Costs.{token, token_part, token_keyed, count_some}
use Rattle.crl_bound.proofs.Sides.{IsExclusive}
use Rattle.crl_bound.proofs.Credits.{name_credit, sum_names, still_moved}
use Rattle.crl_bound.proofs.Deeds.{Facts, Paid, paid_deed, parts_none}
use Rattle.crl_deeds.specs.Turns.{noted_as, Turn, calls, hears, gathers, answers, carriage, Came}
use Rattle.crl_bound.proofs.Budgets.{spends, Budget, budget_outcome, budget_carried}
use Rattle.crl_bound.proofs.Tables.{table_size, size_at, Tables, first_of, created_append, first_none, table_deed, keeps_tables, tables_outcome}

-- What is known of a world in a run whose regions have so many pieces.
pub record Open (P : Name → ℕ) (w : World) (es : List Entry) : Type 0 where
  pub known : Known w
  pub sides : SidesFit w
  pub tables : Tables w es
  pub link : (q : Name) (size : ℕ) → created_size q es ≡ Some size → P q ≡ count size
  pub some : (q : Name) → 1 ≤ P q

size_there : (P : Name → ℕ) (w : World) (es : List Entry) → Open P w es → (q : Name) (h : Home) → home_of (w.nodes q.home) q ≡ Some h → created_size q es ≡ Some h.size
size_there P w es x q h e = sym (x.tables q) ∙ ap table_size e

own_home : (w : World) (es : List Entry) (P : Name → ℕ) → Open P w es → (j : ℕ) (q : Name) (h : Home) → home_of (w.nodes j) q ≡ Some h → home_of (w.nodes q.home) q ≡ Some h
own_home w es P x j q h e = subst (λ k. home_of (w.nodes k) q ≡ Some h) (sym (x.known.fits j).me ∙ sym (mine (is_mine (w.nodes j) q) refl e)) e
  where
    mine : (b : Bool) → is_mine (w.nodes j) q ≡ b → (if b then at_serial q.serial (w.nodes j).homes else None) ≡ Some h → q.home ≡ (w.nodes j).me
    mine true y z = eqb-true q.home (w.nodes j).me y
    mine false y z = cc

exclusive_of : (here : Section) (o : Option Copy) (asking : Option Bool) → SectionFits here o asking → is_writing here ≡ true → IsExclusive o
exclusive_of section.Closed o asking f w = cc
exclusive_of (section.Reading k) o asking f w = cc
exclusive_of section.Writing None asking f w = tt
exclusive_of section.Writing (Some c) None f w = f
exclusive_of section.Writing (Some c) (Some write) f w = absurd f

facts : (P : Name → ℕ) (w : World) (es : List Entry) → Open P w es → (j : ℕ) → j < w.count → Facts P w.count es (w.nodes j)
facts P w es x j few = record {
  some = x.some;
  home = λ q h e. x.link q h.size (size_there P w es x q h (own_home w es P x j q h e));
  side = λ q r e. (let s = (x.sides j q r e).size in x.link q s.table.size (size_there P w es x q s.table s.there) ∙ ap count s.same);
  so_far = λ q r e. (let s = (x.sides j q r e).size in let z = size_there P w es x q s.table s.there in ap pieces_or_one z ∙ sym (x.link q s.table.size z));
  writes = λ q r e writing. (let s = x.sides j q r e in exclusive_of r.here r.copy r.asking s.copy (ap is_writing s.sections ∙ writing));
  small = subst (λ k. k < w.count) (sym (x.known.fits j).me) few;
  few = (x.known.held j).node.few;
  asked = (x.known.held j).node.asked;
  maps = (x.known.held j).node.maps;
}

abbrev hearer : World → ℕ → List Piece → PartsGathered → Node
hearer w j rest parcels = record (w.nodes j) { inbox = rest; parcels = parcels }

heard_facts : (P : Name → ℕ) (w : World) (es : List Entry) → Open P w es → (j : ℕ) (rest : List Piece) (parcels : PartsGathered) → j < w.count → Facts P w.count es (hearer w j rest parcels)
heard_facts P w es x j rest parcels few =
    let f = facts P w es x j few in record { some = f.some; home = f.home; side = f.side; so_far = f.so_far; writes = f.writes; small = f.small; few = f.few; asked = f.asked; maps = f.maps }

posted_same : (n : Node) (cause : Cause) (o : Outcome) → Deed n cause o → o.node.posted ≡ n.posted
posted_same n cause o d = Rattle.crl_bound.proofs.Posts.deed_posted n cause o d

names_me : (P : Name → ℕ) (w : World) → ((i : ℕ) → (w.nodes i).me ≡ i) → (j : ℕ) (names : ℕ → List Name) → sum_names (name_credit P (w.nodes j)) (names (w.nodes j).me) ≡ sum_names (name_credit P (w.nodes j)) (names j)
names_me P w mes j names = ap (λ k. sum_names (name_credit P (w.nodes j)) (names k)) (mes j)

-- An event.
pub record Pays (P : Name → ℕ) (v : WorldStep) (es : List Entry) (budget : ℕ) : Type 0 where
  pub budget_after : Budget P v.world budget
  pub tables_after : Tables v.world (es ++ v.entries)

tables_same : (w v : World) (es : List Entry) → ((q : Name) → size_at v q ≡ size_at w q) → Tables w es → Tables v (es ++ [])
tables_same w v es same h q = same q ∙ h q ∙ sym (first_none (created_size q es)) ∙ sym (created_append q es [])

pub pays : (P : Name → ℕ) (w : World) (es : List Entry) (budget : ℕ) (e : Event) (v : WorldStep) → Turn w e v → Open P w es → Budget P w budget → Pays P v es (budget + bound_at w.count es e)
pays P w es budget e v (calls i c o few free may d) x h =
    let f = facts P w es x i few in
    let mes : (k : ℕ) → (w.nodes k).me ≡ k = λ k. (x.known.fits k).me in
    record {
      budget_after = budget_outcome P w i (w.nodes i) (noted_as w i c) o 0 (bound_of w.count es c) budget few mes (deed_frame _ _ _ d) (mes i) (posted_same _ _ o d) (λ names. (let y = names_me P w mes i names in omega arith))
          (paid_deed P w.count es i (w.nodes i) (Calls c) o d (x.known.fits i) tt free may f) h;
      tables_after = tables_outcome w es i (w.nodes i) (noted_as w i c) o (λ q. refl) (mes i) (table_deed P w.count es i (w.nodes i) (Calls c) o d (x.known.fits i) may f) x.tables;
    }
pays P w es budget e v (hears i place p rest parcels part o few took d) x h =
    let n = hearer w i rest parcels in
    let f = heard_facts P w es x i rest parcels few in
    let t = x.known.fits i in
    let mine = all_took (ComesIn (w.nodes i).me) took t.inbox in
    let fits : Fits i n = record { me = t.me; each = t.each; cache = t.cache; fresh = t.fresh; inbox = mine.1; outbox = t.outbox } in
    let away : Came Leaves n.me (Hears p.message.sender (with_load part p.message.kind)) = subst (λ (y : Type 0). y) (away_load p.message.sender n.me part p.message.kind) mine.0 in
    let mes : (k : ℕ) → (w.nodes k).me ≡ k = λ k. (x.known.fits k).me in
    let took_out = weigh_took (on_piece (token P w.count)) took in
    let weight = token_part P w.count part p.message.kind in
    let bounded : Budget P (steps_node i (event.Handle i place) o w).world (budget + 0) =
    budget_outcome P w i n (event.Handle i place) o (token P w.count p.message) 0 budget few mes (deed_frame _ _ _ d) t.me (posted_same _ _ o d) (λ names. (let y = names_me P w mes i names in omega arith))
    (subst (λ z. Paid P w.count n o (z + 0)) weight (paid_deed P w.count es i n (Hears p.message.sender (with_load part p.message.kind)) o d fits away tt tt f)) h in
    record {
      budget_after = bounded;
      tables_after = tables_outcome w es i n (event.Handle i place) o (λ q. refl) t.me (table_deed P w.count es i n (Hears p.message.sender (with_load part p.message.kind)) o d fits tt f) x.tables;
    }
pays P w es budget e v (gathers i place p rest parcels key few took keyed) x h =
    let n = hearer w i rest parcels in
    let mes : (k : ℕ) → (w.nodes k).me ≡ k = λ k. (x.known.fits k).me in
    let took_out = weigh_took (on_piece (token P w.count)) took in
    let none = token_keyed P w.count p.message.sender p.message.kind key keyed in
    record {
      budget_after = budget_outcome P w i n (event.Handle i place) (only n Done) 0 0 budget few mes (record { me = refl; nodes = refl; capacity = refl; inbox = refl; outbox = refl; parcels = refl }) (mes i) refl (λ names. (let y = names_me P w mes i names in omega arith))
          (record { slack = 0; moved = still_moved (name_credit P n) 0 0 (omega arith); fixed = omega arith }) h;
      tables_after = tables_outcome w es i n (event.Handle i place) (only n Done) (λ q. refl) (mes i) (keeps_tables (λ q. refl) tt) x.tables;
    }
pays P w es budget e v (answers i answer few ready) x h =
    let n = w.nodes i in
    let o : Outcome = record { node = record n { activity = Free }; answer = answer; entries = []; posts = [] } in
    let mes : (k : ℕ) → (w.nodes k).me ≡ k = λ k. (x.known.fits k).me in
    record {
      budget_after = budget_outcome P w i n (event.Collect i) o 0 0 budget few mes (record { me = refl; nodes = refl; capacity = refl; inbox = refl; outbox = refl; parcels = refl }) (mes i) refl (λ names. (let y = names_me P w mes i names in omega arith))
          (record { slack = 0; moved = still_moved (name_credit P n) 0 0 (omega arith); fixed = omega arith }) h;
      tables_after = tables_outcome w es i n (event.Collect i) o (λ q. refl) (mes i) (keeps_tables (λ q. refl) tt) x.tables;
    }
pays P w es budget e v (carriage i place p rest few took) x h =
    let n : Node = note w.events (event.Carry i place) (record (w.nodes i) { outbox = rest }) in
    let sent : ℕ → Node = at_node w.nodes i n in
    let first : (k : ℕ) (q : Name) → home_of (sent k) q ≡ home_of (w.nodes k) q = each_at (λ k m. (q : Name) → home_of m q ≡ home_of (w.nodes k) q) w.nodes i n (λ k q. refl) (λ q. refl) in
    let same : (k : ℕ) (q : Name) → home_of (at_node sent p.message.addressee (put_in p (sent p.message.addressee)) k) q ≡ home_of (w.nodes k) q =
    each_at (λ k m. (q : Name) → home_of m q ≡ home_of (w.nodes k) q) sent p.message.addressee (put_in p (sent p.message.addressee)) first (first p.message.addressee) in
    let all : Budget P (carries i (event.Carry i place) (Some (record { taken = p; rest = rest })) w).world budget = budget_carried P w i (event.Carry i place) p rest budget few took h in
    record {
      budget_after = λ names distinct. (let b = all names distinct in omega arith);
      tables_after = tables_same w (carries i (event.Carry i place) (Some (record { taken = p; rest = rest })) w).world es (λ q. ap table_size (same q.home q)) x.tables;
    }

-- A run.
world_grows : (w : World) (front : List Event) (e : Event) → world_after w (front ++ e ∷ []) ≡ (step e (world_after w front)).world
world_grows w [] e = refl
world_grows w (x ∷ front) e = world_grows (step x w).world front e

run_snoc : (w : World) (front : List Event) (e : Event) → IsRunFrom w front → is_enabled e (world_after w front) ≡ true → IsRunFrom w (front ++ e ∷ [])
run_snoc w [] e r h = (h, tt)
run_snoc w (x ∷ front) e r h = (r.0, run_snoc (step x w).world front e r.1 h)

append_same : {A : Type 0} (xs ys zs : List A) → xs ++ (ys ++ zs) ≡ (xs ++ ys) ++ zs
append_same [] ys zs = refl
append_same (x ∷ xs) ys zs = ap (λ l. x ∷ l) (append_same xs ys zs)

one_piece_at_least : (o : Option ℕ) → 1 ≤ pieces_or_one o
one_piece_at_least None = omega arith
one_piece_at_least (Some size) = count_some size

-- what holds after the front of a run
pub record Front (count capacity : ℕ) (front : List Event) (w : World) (es : List Entry) : Type 0 where
  pub world : world_after (new_world count capacity) front ≡ w
  pub run : IsRunFrom (new_world count capacity) front
  pub known : Known w
  pub tables : Tables w es

open_at : (count capacity : ℕ) (front : List Event) (w : World) (es more : List Entry) → Front count capacity front w es → Open (λ q. created_pieces q (es ++ more)) w es
open_at count capacity front w es more f = record {
  known = f.known;
  sides = subst SidesFit f.world (sides_in_runs count capacity front f.run (subst Known (sym f.world) f.known));
  tables = f.tables;
  link = λ q size e. ap pieces_or_one (created_append q es more ∙ ap (λ o. first_of o (created_size q more)) e);
  some = λ q. one_piece_at_least (created_size q (es ++ more));
}

bound_run : (count capacity : ℕ) (rest front : List Event) (w : World) (es all : List Entry) (budget : ℕ) → Front count capacity front w es → es ++ account_from w rest ≡ all → IsRunFrom w rest → Budget (λ q. created_pieces q all) w budget
    → Budget (λ q. created_pieces q all) (world_after w rest) (budget + bound_from w es rest)
bound_run count capacity [] front w es all budget f same r h = λ names distinct. (let b = h names distinct in omega arith)
bound_run count capacity (e ∷ rest) front w es all budget f same r h =
    let start = new_world count capacity in
    let v = (step e w).world in
    let x : Open (λ q. created_pieces q all) w es = subst (λ a. Open (λ q. created_pieces q a) w es) same (open_at count capacity front w es (account_from w (e ∷ rest)) f) in
    let p = pays (λ q. created_pieces q all) w es budget e (step e w) (turn_of w e r.0) x h in
    let g : Front count capacity (front ++ e ∷ []) v (es ++ (step e w).entries) = record {
      world = world_grows start front e ∙ ap (λ u. (step e u).world) f.world;
      run = run_snoc start front e f.run (subst (λ u. is_enabled e u ≡ true) (sym f.world) r.0);
      known = known_step w e r.0 f.known;
      tables = p.tables_after;
    } in
    let rest_all = bound_run count capacity rest (front ++ e ∷ []) v (es ++ (step e w).entries) all (budget + bound_at w.count es e) g (sym (append_same es (step e w).entries (account_from v rest)) ∙ same) r.1 p.budget_after in
    λ names distinct. (let b = rest_all names distinct in omega arith)

-- the start
new_credit : (P : Name → ℕ) (count capacity i : ℕ) (q : Name) → name_credit P (new_node count capacity i) q ≡ 0
new_credit P count capacity i q = let a = table in let b = stage in omega arith
  where
    table : Rattle.crl_bound.proofs.Homes.table_credit (P q) i (home_of (new_node count capacity i) q) ≡ 0
    table = cond_both (q.home == i) _ _ (λ o. Rattle.crl_bound.proofs.Homes.table_credit (P q) i o ≡ 0) (λ w. cond_both (q.serial == 0) _ _ (λ o. Rattle.crl_bound.proofs.Homes.table_credit (P q) i o ≡ 0) (λ x. refl) (λ x. refl)) (λ w. refl)

    stage : Rattle.crl_bound.proofs.Credits.stage_credit i (Rattle.crl_protocol.specs.Node.lifetime_of (new_node count capacity i) q).stage ≡ 0
    stage = cond_both (q.home == i) _ _ (λ (l : Lifetime). Rattle.crl_bound.proofs.Credits.stage_credit i l.stage ≡ 0) (λ w. refl) (λ w. refl)

sum_zero : (c : Name → ℕ) (qs : List Name) → ((q : Name) → c q ≡ 0) → sum_names c qs ≡ 0
sum_zero c [] h = refl
sum_zero c (q ∷ qs) h = let a = h q in let b = sum_zero c qs h in omega arith

new_spends : (P : Name → ℕ) (count capacity : ℕ) (names : ℕ → List Name) (i : ℕ) → spends P count names (new_node count capacity i) ≡ 0
new_spends P count capacity names i = let a = sum_zero (name_credit P (new_node count capacity i)) (names i) (new_credit P count capacity i) in let b = parts_none 1 (count - 1) in omega arith

tables_start : (count capacity : ℕ) → Tables (new_world count capacity) []
tables_start count capacity q = cond_both (q.home == q.home) _ _ (λ o. table_size o ≡ None) (λ w. cond_both (q.serial == 0) _ _ (λ o. table_size o ≡ None) (λ x. refl) (λ x. refl)) (λ w. refl)

-- what was sent is a part of it
sent_part : (P : Name → ℕ) (nodes_count : ℕ) (names : ℕ → List Name) (i k : ℕ) (nodes : ℕ → Node) → messages_sent_from i k nodes ≤ sum_from (spends P nodes_count names) i k nodes
sent_part P nodes_count names i zero nodes = omega arith
sent_part P nodes_count names i (suc k) nodes = let h = sent_part P nodes_count names (i + 1) k nodes in omega arith

pub messages_bounded : BoundsEachRun MessagesFew
messages_bounded count capacity run r =
    let start = new_world count capacity in
    let all = account count capacity run in
    let P : Name → ℕ = λ q. created_pieces q all in
    let names : ℕ → List Name = λ i. [] in
    let first : Budget P start 0 = λ ns d. (let z = sum_new (spends P count ns) count capacity (new_spends P count capacity ns) in omega arith) in
    let f : Front count capacity [] start [] = record { world = refl; run = tt; known = known_start count capacity; tables = tables_start count capacity } in
    let b = bound_run count capacity run [] start [] all 0 f refl r first names (λ i. tt) in
    let w = world_of count capacity run in
    let part = sent_part P w.count names 0 w.count w.nodes in omega arith
