-- The bytes of each guard that a step answers are the array's.
use Rattle.std.proofs.Common.{◌≡◌, ◌≢◌, ℕ, ◌==◌, Bool, true, false, None, Some, Option, List, [], ◌∷◌, ◌++◌, if◌then◌else◌, refl, ap, sym, ◌∙◌, subst}
use Rattle.std.proofs.lemmas.Bool.{cond_both, cond-true, cond-false, eqb-false, eq-eqb, ne_eqb}
use Rattle.crl_model.specs.declared.name.Name.{Name}
use Rattle.crl_model.specs.declared.collective.Fold.{Fold}
use Rattle.crl_model.specs.declared.collective.Fold.TheVariants as fold
use Rattle.crl_model.specs.declared.directory.Section.TheVariants as section
use Rattle.crl_model.specs.declared.event.Event.{Event}
use Rattle.crl_model.specs.declared.event.Event.TheVariants as event
use Rattle.crl_model.specs.declared.message.DeleteTold.{DeleteTold}
use Rattle.crl_model.specs.declared.message.DeleteTold.TheVariants as delete_told
use Rattle.crl_model.specs.Names.{at_node, at_name}
use Rattle.crl_machine.specs.SingleMachine.{State, start}
use Rattle.crl_protocol.specs.Home.{Home}
use Rattle.crl_protocol.specs.Remote.{Remote, asks_to_write, remote_takes_grant}
use Rattle.crl_protocol.specs.Parcels.{Piece, with_load}
use Rattle.crl_protocol.specs.Places.{Took}
use Rattle.crl_protocol.specs.Sections.{Guard, OpenSection, Sections, section_of, section_at, is_writing, section_begins}
use Rattle.crl_protocol.specs.Sectioning.{copy_bytes}
use Rattle.crl_protocol.specs.Calls.{answer_of}
use Rattle.crl_protocol.specs.Handlers.{delete_answer, purges_waiting}
use Rattle.crl_protocol.specs.Node.{Node, Outcome, Answer, Activity, Free, Waiting, Ready, ForMap, ForSection, ForDelete, ForRound, Reading, Writing, is_mine, home_of, with_home, guard_answer}
use Rattle.crl_protocol.specs.World.{World, WorldStep, new_world, world_of, step, is_enabled, IsRunFrom, commits, put_in}
use Rattle.crl_deeds.specs.Deeds.{FreeIf, Cause, Calls, Hears, Copies, Lives, Rounds, Deed}
use Rattle.crl_deeds.specs.Deeds as deed
use Rattle.crl_deeds.specs.NodeFacts.{Leaves, ComesIn}
use Rattle.crl_deeds.specs.Turns.{noted_as, Turn, Came}
use Rattle.crl_deeds.specs.Turns as turn
use Rattle.crl_deeds.proofs.Laws.{turn_of, all_took, away_load, name_self, home_put, world_grows}
use Rattle.crl_regions.specs.View.{side, table_of, table_or_blank, view}
use Rattle.crl_regions.proofs.Laws.{sections_are_tables, sizes_known}
use Rattle.crl_flight.specs.Flight.{messages_of}
use Rattle.crl_coherence.proofs.Laws.{open_bytes}
use Rattle.crl_rounds.specs.Standing.{machine_of, InEveryRun}
use Rattle.crl_history.specs.Legal.{AnswerShows, AnswersShowTheArray}
use Rattle.crl_history.proofs.Events.{NodeKnown, node_known, boxed_known}
use Rattle.crl_history.proofs.Grounds.{Ground}
use Rattle.crl_history.proofs.Histories.{ground_in_runs, machine_then}
use Rattle.crl_history.proofs.Knows.{own_home, not_own}
use Rattle.crl_history.proofs.LegalEvents.{write_begun, read_opens}
use Rattle.crl_history.proofs.Openings.{OpensAs, start_may, grant_asked, closed_may}
use Rattle.crl_history.proofs.Runs.{run_then, runs_by_end}
use Rattle.crl_history.proofs.Sections.{own_may}

-- Bytes that the record of an open section has.
abbrev RecordHas : Option OpenSection → List ℕ → Type 0
RecordHas None bytes = ⊥
RecordHas (Some r) bytes = r.bytes ≡ bytes

-- The guard of an answer has the bytes of the section's record, and so has that of an answer for which a node waits.
abbrev AnswerHas : Sections → Answer → Type 0
AnswerHas x (Reading g) = RecordHas (x.records g.name) g.bytes
AnswerHas x (Writing g) = RecordHas (x.records g.name) g.bytes
AnswerHas x _ = Unit {0}

abbrev ReadyHas : Sections → Activity → Type 0
ReadyHas x (Ready answer) = AnswerHas x answer
ReadyHas x _ = Unit {0}

-- What a node has of a region while a section of it is open there: all of it the array's bytes.
record NodeShows (s : State) (n : Node) : Type 0 where
  home : (q : Name) (h : Home) → home_of n q ≡ Some h → section_at q n.sections ≢ section.Closed → h.bytes ≡ s.bytes q
  other : (q : Name) (r : Remote) → n.remotes q ≡ Some r → section_at q n.sections ≢ section.Closed → copy_bytes r.copy ≡ s.bytes q
  shown : (q : Name) (r : OpenSection) → n.sections.records q ≡ Some r → r.bytes ≡ s.bytes q

-- in every run
at_node_bytes : (count capacity : ℕ) (run : List Event) → IsRunFrom (new_world count capacity) run → (i : ℕ) (q : Name) (h : Home) → table_of q (world_of count capacity run) ≡ Some h → section_at q ((world_of count capacity run).nodes i).sections ≢ section.Closed
    → (if i == q.home then (table_or_blank (table_of q (world_of count capacity run))).bytes else copy_bytes (side (table_or_blank (table_of q (world_of count capacity run))).size (((world_of count capacity run).nodes i).remotes q)).copy) ≡ (machine_of count capacity run).bytes q
at_node_bytes count capacity run r i q h e opened =
    let w = world_of count capacity run in
    let m = (ground_in_runs count capacity run r).mirrors.bytes in
    let array = (machine_of count capacity run).bytes q in
    open_bytes q.home (view q array (messages_of m.0) w) i (m.1.coherent q h e) (λ closed. opened (sym (sections_are_tables count capacity run r i q array (messages_of m.0)) ∙ closed))

home_shows : (count capacity : ℕ) (run : List Event) → IsRunFrom (new_world count capacity) run → (i : ℕ) (q : Name) (h : Home) → home_of ((world_of count capacity run).nodes i) q ≡ Some h → section_at q ((world_of count capacity run).nodes i).sections ≢ section.Closed → h.bytes ≡ (machine_of count capacity run).bytes q
home_shows count capacity run r i q h e opened =
    let w = world_of count capacity run in
    let same = own_home i (w.nodes i) q h ((ground_in_runs count capacity run r).known.fits i).me e in
    let table : table_of q w ≡ Some h = ap (λ k. home_of (w.nodes k) q) same ∙ e in
    sym (cond-true (i == q.home) _ _ (eq-eqb i q.home (sym same)) ∙ ap (λ o. (table_or_blank o).bytes) table) ∙ at_node_bytes count capacity run r i q h table opened

other_shows : (count capacity : ℕ) (run : List Event) → IsRunFrom (new_world count capacity) run → (i : ℕ) (q : Name) (x : Remote) → ((world_of count capacity run).nodes i).remotes q ≡ Some x → section_at q ((world_of count capacity run).nodes i).sections ≢ section.Closed
    → copy_bytes x.copy ≡ (machine_of count capacity run).bytes q
other_shows count capacity run r i q x e opened =
    let w = world_of count capacity run in
    let fits = (ground_in_runs count capacity run r).known.fits i in
    let other = not_own (is_mine (w.nodes i) q) _ x (fits.each q).own e in
    let apart : (i == q.home) ≡ false = ne_eqb i q.home (λ same. eqb-false q.home (w.nodes i).me other (sym same ∙ sym fits.me)) in
    let t = (sizes_known count capacity run r).record_of i q x e in
    sym (cond-false (i == q.home) _ _ apart ∙ ap (λ o. copy_bytes (side (table_or_blank (table_of q w)).size o).copy) e) ∙ at_node_bytes count capacity run r i q t.0 t.1 opened

node_shows : (count capacity : ℕ) (run : List Event) → IsRunFrom (new_world count capacity) run → (i : ℕ) → NodeShows (machine_of count capacity run) ((world_of count capacity run).nodes i)
node_shows count capacity run r i = record {
  home = home_shows count capacity run r i;
  other = other_shows count capacity run r i;
  shown = (ground_in_runs count capacity run r).mirrors.bytes.1.records i;
}

-- A section that opens at a node shows the array afterwards.
begun_open : (write : Bool) (q : Name) (bytes : List ℕ) (x : Sections) → OpensAs write (section_at q x) → section_at q (section_begins write q bytes x).sections ≢ section.Closed
begun_open true q bytes x may closed = let a = sym (write_begun q bytes x) ∙ closed in cc
begun_open false q bytes x may closed = read_opens q bytes x may closed

home_now : (n : Node) (q : Name) (h g : Home) → home_of n q ≡ Some h → home_of (with_home q g n) q ≡ Some g
home_now n q h g e = home_put n q h g e q ∙ cond-true _ (Some g) (home_of n q) (name_self q)

remote_now : (f : Name → Option Remote) (q : Name) (r : Remote) → at_name f q (Some r) q ≡ Some r
remote_now f q r = cond-true _ (Some r) (f q) (name_self q)

record_now : (s : State) (n : Node) (q : Name) (o : Option OpenSection) (bytes : List ℕ) → n.sections.records q ≡ o → section_of o ≢ section.Closed → bytes ≡ s.bytes q → NodeShows s n → RecordHas o bytes
record_now s n q None bytes e opened same h = opened refl
record_now s n q (Some r) bytes e opened same h = h.shown q r e ∙ sym same

guard_has : (write : Bool) (x : Sections) (g : Guard) → RecordHas (x.records g.name) g.bytes → AnswerHas x (guard_answer write g)
guard_has true x g h = h
guard_has false x g h = h

guard_shows : (write : Bool) (s : State) (g : Guard) → g.bytes ≡ s.bytes g.name → AnswerShows s (guard_answer write g)
guard_shows true s g h = h
guard_shows false s g h = h

-- The answer of a call.
fold_shows : (s : State) (round : ℕ) (f : Fold) → AnswerShows s (answer_of round f)
fold_shows s round fold.Mixed = tt
fold_shows s round _ = tt

copies_answer : (s : State) (n : Node) (cause : Cause) (o : Outcome) → Copies n cause o → NodeShows s o.node → AnswerShows s o.answer
copies_answer s n cause o (deed.home_opens c write q h is e can y) shows =
    guard_shows write s _ (shows.home q _ (home_now n q h _ e) (begun_open write q _ n.sections (start_may n write q can)))
copies_answer s n cause o (deed.side_opens c write q r is e g can y) shows =
    guard_shows write s _ (shows.other q _ (remote_now n.remotes q _) (begun_open write q _ n.sections (start_may n write q can)))
copies_answer s n cause o _ shows = tt

rounds_answer : (s : State) (n : Node) (cause : Cause) (o : Outcome) → Rounds n cause o → AnswerShows s o.answer
rounds_answer s n cause o (deed.comes_last part parts first fits all) = fold_shows s _ _
rounds_answer s n cause o _ = tt

lives_answer : (s : State) (n : Node) (cause : Cause) (o : Outcome) → Lives n cause o → AnswerShows s o.answer
lives_answer s n cause o (deed.made size e) = tt
lives_answer s n cause o _ = tt

deed_answer : (s : State) (n : Node) (cause : Cause) (o : Outcome) → Deed n cause o → NodeShows s o.node → AnswerShows s o.answer
deed_answer s n cause o (deed.copies d) shows = copies_answer s n cause o d shows
deed_answer s n cause o (deed.lives d) shows = lives_answer s n cause o d
deed_answer s n cause o (deed.rounds d) shows = rounds_answer s n cause o d
deed_answer s n cause o (deed.notes d) shows = tt
deed_answer s n cause o (deed.refuses c why e) shows = tt
deed_answer s n cause o (deed.idles d) shows = tt

-- The answer for which a node waits.
free_has : (x : Sections) (a : Activity) → a ≡ Free → ReadyHas x a
free_has x a e = subst (λ y. ReadyHas x y) (sym e) tt

fold_has : (x : Sections) (round : ℕ) (f : Fold) → AnswerHas x (answer_of round f)
fold_has x round fold.Mixed = tt
fold_has x round _ = tt

told_has : (x : Sections) (d : DeleteTold) → AnswerHas x (delete_answer d)
told_has x delete_told.Done = tt
told_has x delete_told.Unknown = tt
told_has x delete_told.Deleted = tt

purged_has : (x : Sections) (q : Name) (a : Activity) → ReadyHas x a → ReadyHas x (purges_waiting q a)
purged_has x q (Waiting (ForMap p purged)) h = tt
purged_has x q (Waiting (ForSection p)) h = tt
purged_has x q (Waiting (ForDelete p)) h = tt
purged_has x q (Waiting (ForRound k c)) h = tt
purged_has x q Free h = tt
purged_has x q (Ready answer) h = h

copies_has : (s : State) (j : ℕ) (n : Node) (cause : Cause) (o : Outcome) → Copies n cause o → Came Leaves n.me cause → NodeKnown j n → FreeIf cause n → NodeShows s o.node → ReadyHas n.sections n.activity → ReadyHas o.node.sections o.node.activity
copies_has s j n cause o (deed.home_opens c write q h is e can y) away known free shows has = free_has o.node.sections n.activity free
copies_has s j n cause o (deed.home_waits c write q h is e can y) away known free shows has = tt
copies_has s j n cause o (deed.side_opens c write q r is e g can y) away known free shows has = free_has o.node.sections n.activity free
copies_has s j n cause o (deed.side_waits c write q r is e g can y) away known free shows has = tt
copies_has s j n cause o (deed.home_ends c q w ends lowers h is e) away known free shows has = free_has o.node.sections n.activity free
copies_has s j n cause o (deed.side_ends c q w ends lowers r is e g) away known free shows has = free_has o.node.sections n.activity free
copies_has s j n cause o (deed.home_serves_own from k q h y is e x) away known free shows has =
    let write = is_writing y.home.mine in
    let opened = begun_open write q y.home.bytes n.sections (own_may j n h from k q y is e x away known _ refl) in
    guard_has write o.node.sections _ (record_now s o.node q _ _ refl opened (shows.home q y.home (home_now n q h y.home e) opened) shows)
copies_has s j n cause o (deed.grant_comes from q version g r e y) away known free shows has =
    let asked = grant_asked g r y in
    let write = asks_to_write r.asking in
    let x = remote_takes_grant version g r in
    let opened = begun_open write q (copy_bytes x.copy) n.sections (closed_may write _ (known.agree.asking q r asked.0 e asked.1)) in
    guard_has write o.node.sections _ (record_now s o.node q _ _ refl opened (shows.other q x (remote_now n.remotes q x) opened) shows)
copies_has s j n cause o _ away known free shows has = has

lives_has : (n : Node) (cause : Cause) (o : Outcome) → Lives n cause o → ReadyHas n.sections n.activity → ReadyHas o.node.sections o.node.activity
lives_has n cause o (deed.map_asks q e apart c real) has = tt
lives_has n cause o (deed.map_comes from q purged size e) has = tt
lives_has n cause o (deed.map_denied from q purged x why t d unfit e) has = tt
lives_has n cause o (deed.deletes_own q m ms mine live e) has = tt
lives_has n cause o (deed.delete_asks q apart real) has = tt
lives_has n cause o (deed.delete_comes from q d e) has = told_has n.sections d
lives_has n cause o (deed.warns from q e c) has = purged_has n.sections q n.activity has
lives_has n cause o (deed.ends_own from q mine e missing last) has = tt
lives_has n cause o _ has = has

rounds_has : (n : Node) (cause : Cause) (o : Outcome) → Rounds n cause o → ReadyHas n.sections n.activity → ReadyHas o.node.sections o.node.activity
rounds_has n cause o (deed.comes_away part other fits) has = tt
rounds_has n cause o (deed.comes_home part first fits none) has = tt
rounds_has n cause o (deed.part_last from round part parts mine k e a all) has = fold_has n.sections _ _
rounds_has n cause o (deed.result_comes from round f k e) has = fold_has n.sections _ _
rounds_has n cause o _ has = has

deed_has : (s : State) (j : ℕ) (n : Node) (cause : Cause) (o : Outcome) → Deed n cause o → Came Leaves n.me cause → NodeKnown j n → FreeIf cause n → NodeShows s o.node → ReadyHas n.sections n.activity → ReadyHas o.node.sections o.node.activity
deed_has s j n cause o (deed.copies d) away known free shows has = copies_has s j n cause o d away known free shows has
deed_has s j n cause o (deed.lives d) away known free shows has = lives_has n cause o d has
deed_has s j n cause o (deed.rounds d) away known free shows has = rounds_has n cause o d has
deed_has s j n cause o (deed.notes (deed.ends_nowhere c q w ends lowers is e)) away known free shows has = free_has o.node.sections n.activity free
deed_has s j n cause o (deed.notes (deed.flushes_own q mine can)) away known free shows has = has
deed_has s j n cause o (deed.notes (deed.flushes_nowhere q mine e can)) away known free shows has = has
deed_has s j n cause o (deed.refuses c why e) away known free shows has = has
deed_has s j n cause o (deed.idles d) away known free shows has = has

-- Every node, with each event.
abbrev AllReady : World → Type 0
AllReady w = (i : ℕ) → ReadyHas (w.nodes i).sections (w.nodes i).activity

-- the node that acts, and what it has afterwards in the world
here_shows : (w : World) (i : ℕ) (n : Node) (s : State) → NodeShows s (at_node w.nodes i n i) → NodeShows s n
here_shows w i n s h = subst (λ (x : Node). NodeShows s x) (cond-true (i == i) n (w.nodes i) (eq-eqb i i refl)) h

unboxed : (s : State) (k : ℕ) (e : Event) (o : Outcome) → NodeShows s (commits k e o) → NodeShows s o.node
unboxed s k e o h = record { home = h.home; other = h.other; shown = h.shown }

one_ready : (w : World) (i : ℕ) (n : Node) → ReadyHas n.sections n.activity → AllReady w → (k : ℕ) → ReadyHas (at_node w.nodes i n k).sections (at_node w.nodes i n k).activity
one_ready w i n has all k = cond_both (i == k) n (w.nodes k) (λ (x : Node). ReadyHas x.sections x.activity) (λ same. has) (λ apart. all k)

away_piece : (w : World) (i : ℕ) (p : Piece) (rest : List Piece) (part : List ℕ) (s : State) → Ground w s → Took p (w.nodes i).inbox rest → Came Leaves (w.nodes i).me (Hears p.message.sender (with_load part p.message.kind))
away_piece w i p rest part s g took = subst (λ (x : Type 0). x) (away_load p.message.sender (w.nodes i).me part p.message.kind) (all_took (ComesIn (w.nodes i).me) took (g.known.fits i).inbox).0

turn_has : (w : World) (v : WorldStep) (s t : State) → {e : Event} → Turn w e v → Ground w s → ((i : ℕ) → NodeShows t (v.world.nodes i)) → AllReady w → AllReady v.world
turn_has w v s t (turn.calls i c o few free is d) g shows all =
    one_ready w i _ (deed_has t i (w.nodes i) (Calls c) o d tt (node_known w g.known g.agree i) free (unboxed t w.events (noted_as w i c) o (here_shows w i _ t (shows i))) (all i)) all
turn_has w v s t (turn.hears i place p rest parcels part o few took d) g shows all =
    one_ready w i _ (deed_has t i _ _ o d (away_piece w i p rest part s g took) (boxed_known i (w.nodes i) p rest parcels took (node_known w g.known g.agree i)) tt (unboxed t w.events (event.Handle i place) o (here_shows w i _ t (shows i))) (all i)) all
turn_has w v s t (turn.gathers i place p rest parcels key few took is) g shows all = one_ready w i _ (all i) all
turn_has w v s t (turn.answers i answer few ready) g shows all = one_ready w i _ tt all
turn_has w v s t (turn.carriage i place p rest few took) g shows all =
    let sent = at_node w.nodes i _ in
    let all_sent = one_ready w i _ (all i) all in
    one_ready (record w { nodes = sent }) p.message.addressee (put_in p (sent p.message.addressee)) (all_sent p.message.addressee) all_sent

record_shows : (s : State) (n : Node) (q : Name) (o : Option OpenSection) (bytes : List ℕ) → n.sections.records q ≡ o → RecordHas o bytes → NodeShows s n → bytes ≡ s.bytes q
record_shows s n q None bytes e has h = absurd has
record_shows s n q (Some r) bytes e has h = sym has ∙ h.shown q r e

ready_shows : (s : State) (n : Node) (answer : Answer) → AnswerHas n.sections answer → NodeShows s n → AnswerShows s answer
ready_shows s n (Reading g) has h = record_shows s n g.name _ g.bytes refl has h
ready_shows s n (Writing g) has h = record_shows s n g.name _ g.bytes refl has h
ready_shows s n _ has h = tt

turn_answer : (w : World) (v : WorldStep) (s t : State) → {e : Event} → Turn w e v → Ground w s → ((i : ℕ) → NodeShows t (v.world.nodes i)) → AllReady w → AnswerShows t v.answer
turn_answer w v s t (turn.calls i c o few free is d) g shows all = deed_answer t _ _ o d (unboxed t w.events (noted_as w i c) o (here_shows w i _ t (shows i)))
turn_answer w v s t (turn.hears i place p rest parcels part o few took d) g shows all = deed_answer t _ _ o d (unboxed t w.events (event.Handle i place) o (here_shows w i _ t (shows i)))
turn_answer w v s t (turn.answers i answer few ready) g shows all =
    let h = here_shows w i _ t (shows i) in
    ready_shows t (w.nodes i) answer (subst (λ a. ReadyHas (w.nodes i).sections a) ready (all i)) (record { home = h.home; other = h.other; shown = h.shown })
turn_answer w v s t _ g shows all = tt

-- what nodes show after one event more
shows_then : (count capacity : ℕ) (run : List Event) (e : Event) → IsRunFrom (new_world count capacity) run → is_enabled e (world_of count capacity run) ≡ true → (i : ℕ) → NodeShows (machine_of count capacity (run ++ e ∷ [])) ((step e (world_of count capacity run)).world.nodes i)
shows_then count capacity run e r may i =
    subst (λ (v : World). NodeShows (machine_of count capacity (run ++ e ∷ [])) (v.nodes i)) (world_grows (new_world count capacity) run e) (node_shows count capacity (run ++ e ∷ []) (run_then (new_world count capacity) run e r may) i)

ready_run : (count capacity : ℕ) (run : List Event) → IsRunFrom (new_world count capacity) run → AllReady (world_of count capacity run)
ready_run count capacity run r =
    runs_by_end (λ w s. AllReady w) count capacity (start count)
    (λ run e r may all. turn_has (world_of count capacity run) _ (machine_of count capacity run) (machine_of count capacity (run ++ e ∷ [])) (turn_of (world_of count capacity run) e may) (ground_in_runs count capacity run r) (shows_then count capacity run e r may) all) (λ i. tt) run r

pub answers_show : InEveryRun AnswersShowTheArray
answers_show count capacity run r e may =
    let w = world_of count capacity run in
    let shown = turn_answer w _ (machine_of count capacity run) (machine_of count capacity (run ++ e ∷ [])) (turn_of w e may) (ground_in_runs count capacity run r) (shows_then count capacity run e r may) (ready_run count capacity run r) in
    subst (λ t. AnswerShows t (step e w).answer) (machine_then count capacity run e) shown
