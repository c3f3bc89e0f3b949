-- The counters of a node have come no further than there were events.
use Rattle.std.proofs.Common.{◌≡◌, ℕ, zero, suc, ◌+◌, ◌-◌, ◌≤◌, ◌<◌, ◌==◌, Bool, true, false, ◌&&◌, not, None, Some, Option, List, [], ◌∷◌, ◌++◌, length, if◌then◌else◌, refl, ap, sym, ◌∙◌, subst, arith}
use Rattle.std.proofs.lemmas.Bool.{cond_both, cond-true, cond-false, eqb-true}
use Rattle.crl_model.specs.declared.name.Name.{Name}
use Rattle.crl_model.specs.declared.directory.Asked.{Asked}
use Rattle.crl_model.specs.declared.directory.Section.{Section}
use Rattle.crl_model.specs.declared.directory.Section.TheVariants.{Closed, Reading, Writing}
use Rattle.crl_model.specs.declared.call.Call.{Call}
use Rattle.crl_model.specs.declared.entry.What.{What}
use Rattle.crl_model.specs.declared.event.Event.{Event}
use Rattle.crl_model.specs.declared.event.Event.TheVariants as event
use Rattle.crl_model.specs.declared.message.Kind.{Kind}
use Rattle.crl_model.specs.Names.{name_eq, at_name, at_node}
use Rattle.crl_protocol.specs.Places.{at, put}
use Rattle.crl_protocol.specs.Home.{Home, HomeStep, new_home, is_servable, is_empty, is_reading, is_to_lower, own_ask, open_own, grant_next, grant_for, posts_first, opens_own_section, with_marks, recalls_and_yields, serve, home_takes_ask, home_takes_return, home_takes_release, bytes_after, shared_listing, home_starts, home_ends_read, home_ends_write, one_section_less, one_section_more}
use Rattle.crl_protocol.specs.Remote.{Remote, RemoteStep}
use Rattle.crl_protocol.specs.Gathering.{Gathering}
use Rattle.crl_protocol.specs.Sections.{Sections, OpenSection, SectionStart, begins_anew, begins_to_read, section_begins, ends_over, section_ends, bytes_at}
use Rattle.crl_protocol.specs.Node.{Node, new_node, Outcome, Done, Free, only, is_mine, home_of, at_serial, with_home, next_name}
use Rattle.crl_protocol.specs.Calls.{creates}
use Rattle.crl_protocol.specs.World.{World, WorldStep, new_world, note, put_in, commits, step, IsRunFrom, world_after, world_of, messages_sent_from}
use Rattle.crl_deeds.specs.Deeds.{Cause, EndsCall, a_read, a_write, Serves, ask_comes, copy_returns, copy_lowers, Copies, home_opens, home_waits, side_opens, home_ends, side_ends, home_serves, home_serves_own, grant_comes, Lives, made, used_up, Rounds, comes_away, Notes, ends_nowhere, Deed, copies, lives, rounds, notes}
use Rattle.crl_deeds.proofs.Laws.{home_put, home_end, home_none, turn_of, each_at, turn_events, length_end}
use Rattle.crl_deeds.specs.Turns.{noted_as, Turn, calls, hears, gathers, answers, carriage}
use Rattle.crl_bound.specs.Counters.{BoundsEachRun, CountersFew, CountersFit}
use Rattle.crl_bound.proofs.Runs.{messages_bounded}

-- Serve grants a copy for an ask that leaves the queue.
abbrev granted : Home → ℕ
granted h = h.last + length h.queue

serve_last : (me : ℕ) (h : Home) (queue : List Asked) → granted (serve me h queue).home ≤ h.last + length queue
serve_last me h [] = omega arith
serve_last me h (ask ∷ queue) = go (is_servable h ask) (ask.node == me) (serve_last me (open_own h ask) queue) (serve_last me (grant_next h ask) queue)
  where
    go : (servable own : Bool) → granted (serve me (open_own h ask) queue).home ≤ h.last + length queue → granted (serve me (grant_next h ask) queue).home ≤ (h.last + 1) + length queue
        → granted (if servable then (if own then opens_own_section (serve me (open_own h ask) queue) else posts_first (grant_for h ask) (serve me (grant_next h ask) queue))
        else record { home = record h { listed = with_marks 0 h.listed ask; queue = ask ∷ queue }; posts = recalls_and_yields 0 h.listed ask; opened = false }).home ≤ h.last + length (ask ∷ queue)
    go true true x y = omega arith
    go true false x y = omega arith
    go false own x y = omega arith

starts_last : (me : ℕ) (write : Bool) (h : Home) → granted (home_starts me write h).home ≤ granted h + 1
unfolding home_starts
starts_last me write h =
    let s = serve_last me h (h.queue ++ own_ask me write ∷ []) in
    let l = length_end h.queue (own_ask me write) in
    cond_both (not write && is_reading h.mine) _ _ (λ (x : HomeStep). granted x.home ≤ granted h + 1) (λ w. omega arith)
    (λ w. cond_both (is_empty h.queue && is_servable h (own_ask me write)) _ _ (λ (x : HomeStep). granted x.home ≤ granted h + 1) (λ w. omega arith) (λ w. omega arith))

takes_ask_last : (me : ℕ) (ask : Asked) (h : Home) → granted (home_takes_ask me ask h).home ≤ granted h + 1
unfolding home_takes_ask
takes_ask_last me ask h = let s = serve_last me h (h.queue ++ ask ∷ []) in let l = length_end h.queue ask in omega arith

takes_return_last : (me n : ℕ) (bytes : Option (List ℕ)) (h : Home) → granted (home_takes_return me n bytes h).home ≤ granted h + 1
unfolding home_takes_return
takes_return_last me n bytes h = let s = serve_last me (record h { bytes = bytes_after bytes h.bytes; listed = put n None h.listed }) h.queue in omega arith

takes_release_last : (me n version : ℕ) (bytes : List ℕ) (h : Home) → granted (home_takes_release me n version bytes h).home ≤ granted h + 1
unfolding home_takes_release
takes_release_last me n version bytes h =
    let s = serve_last me (record h { bytes = bytes; listed = put n (Some (shared_listing version)) h.listed }) h.queue in
    cond_both (is_to_lower version (at n h.listed)) _ _ (λ (x : HomeStep). granted x.home ≤ granted h + 1) (λ w. omega arith) (λ w. omega arith)

ends_read_last : (me : ℕ) (h : Home) → granted (home_ends_read me h).home ≤ granted h + 1
unfolding home_ends_read
ends_read_last me h = let s = serve_last me (record h { mine = one_section_less h.mine }) h.queue in omega arith

ends_write_last : (me : ℕ) (bytes : List ℕ) (h : Home) → granted (home_ends_write me bytes h).home ≤ granted h + 1
unfolding home_ends_write
ends_write_last me bytes h = let s = serve_last me (record h { bytes = bytes; mine = Closed }) h.queue in omega arith

serves_last : (n : Node) (h : Home) (from : ℕ) (k : Kind) (name : Name) (s : HomeStep) → Serves n h from k name s → granted s.home ≤ granted h + 1
serves_last n h from k name s (ask_comes f q write have free) = takes_ask_last n.me (record { node = from; write = write; have = have }) h
serves_last n h from k name s (copy_returns f q version bytes fits) = takes_return_last n.me from bytes h
serves_last n h from k name s (copy_lowers f q version bytes fits) = takes_release_last n.me from version bytes h

ends_last : (bytes : List ℕ) (n : Node) (c : Call) (name : Name) (w : What) (ends : Home → HomeStep) (lowers : Remote → RemoteStep) (h : Home) → EndsCall bytes n c name w ends lowers → granted (ends h).home ≤ granted h + 1
ends_last bytes n c name w ends lowers h (a_read q e) = ends_read_last n.me h
ends_last bytes n c name w ends lowers h (a_write q after e) = ends_write_last n.me after h

-- Sections.
record SectionsFit (events : ℕ) (s : Sections) : Type 0 where
  last : s.last ≤ events
  numbers : (q : Name) (r : OpenSection) → s.records q ≡ Some r → r.number ≤ events

abbrev NumberFits : ℕ → Option OpenSection → Type 0
NumberFits events None = Unit {0}
NumberFits events (Some r) = r.number ≤ events

number_of : (events : ℕ) (o : Option OpenSection) → ((r : OpenSection) → o ≡ Some r → r.number ≤ events) → NumberFits events o
number_of events None h = tt
number_of events (Some r) h = h r refl

fits_number : (events : ℕ) (o : Option OpenSection) → NumberFits events o → (r : OpenSection) → o ≡ Some r → r.number ≤ events
fits_number events None h r e = cc
fits_number events (Some s) h r e = let same : s ≡ r = cc in subst (λ (x : OpenSection). x.number ≤ events) same h

more_number : (events : ℕ) (o : Option OpenSection) → NumberFits events o → NumberFits (events + 1) o
more_number events None h = tt
more_number events (Some r) h = omega arith

put_number : (events : ℕ) (s : Sections) (name : Name) (o : Option OpenSection) → SectionsFit events s → NumberFits (events + 1) o → (q : Name) (r : OpenSection) → at_name s.records name o q ≡ Some r → r.number ≤ events + 1
put_number events s name o f h q =
    fits_number (events + 1) (at_name s.records name o q) (cond_both (name_eq name q) o (s.records q) (NumberFits (events + 1)) (λ w. h) (λ w. more_number events (s.records q) (number_of events (s.records q) (f.numbers q))))

begins_fit : (events : ℕ) (s : Sections) (write : Bool) (name : Name) (bytes : List ℕ) → SectionsFit events s → SectionsFit (events + 1) (section_begins write name bytes s).sections
unfolding section_begins
begins_fit events s write name bytes f =
    cond_both write _ _ (λ (x : SectionStart). SectionsFit (events + 1) x.sections) (λ w. anew Writing) (λ w. over (s.records name) refl)
  where
    anew : (section : Section) → SectionsFit (events + 1) (begins_anew name section bytes s).sections
    anew section = record { last = let l = f.last in omega arith; numbers = put_number events s name (Some (record { section = section; number = s.last + 1; bytes = bytes })) f (let l = f.last in omega arith) }

    over : (o : Option OpenSection) → s.records name ≡ o → SectionsFit (events + 1) (begins_to_read name o bytes s).sections
    over None e = anew (Reading 1)
    over (Some r) e = record { last = let l = f.last in omega arith; numbers = put_number events s name (Some (record r { section = one_section_more r.section })) f (let n = f.numbers name r e in omega arith) }

ends_fit : (events : ℕ) (s : Sections) (name : Name) → SectionsFit events s → SectionsFit (events + 1) (section_ends name s)
unfolding section_ends
ends_fit events s name f = over (s.records name) refl
  where
    over : (o : Option OpenSection) → s.records name ≡ o → SectionsFit (events + 1) (ends_over name o s)
    over None e = record { last = let l = f.last in omega arith; numbers = λ q r x. (let n = f.numbers q r x in omega arith) }
    over (Some r) e = record {
      last = let l = f.last in omega arith;
      numbers = put_number events s name (elim (one_section_less r.section) [ Closed ↦ None | Reading count ↦ Some (record r { section = Reading count }) | Writing ↦ None ]) f (by (one_section_less r.section));
    }
      where
        by : (x : Section) → NumberFits (events + 1) (elim x [ Closed ↦ None | Reading count ↦ Some (record r { section = Reading count }) | Writing ↦ None ])
        by Closed = tt
        by (Reading count) = let n = f.numbers name r e in omega arith
        by Writing = tt

-- Tables.
put_length : {A : Type 0} (k : ℕ) (v : Option A) (xs : List (Option A)) (x : A) → at k xs ≡ Some x → length (put k v xs) ≡ length xs
put_length k v [] x e = cc
put_length zero v (y ∷ xs) x e = refl
put_length (suc k) v (y ∷ xs) x e = let h = put_length k v xs x e in omega arith

at_place : (n : Node) (name : Name) (h : Home) → home_of n name ≡ Some h → at (name.serial - 1) n.homes ≡ Some h
at_place n name h e = go (is_mine n name) (name.serial == 0) e
  where
    go : (mine first : Bool) → (if mine then (if first then None else at (name.serial - 1) n.homes) else None) ≡ Some h → at (name.serial - 1) n.homes ≡ Some h
    go true true e = cc
    go true false e = e
    go false first e = cc

sections_of : (events : ℕ) (n : Node) → CountersFit events n → SectionsFit events n.sections
sections_of events n f = record { last = f.sections; numbers = f.numbers }

-- a step that leaves the tables, and one that changes a table
tables_more : (events : ℕ) (n : Node) → CountersFit events n → (q : Name) (h : Home) → home_of n q ≡ Some h → granted h ≤ events + 1
tables_more events n f q h e = let v = f.versions q h e in omega arith

tables_put : (events : ℕ) (n : Node) (name : Name) (h g : Home) → home_of n name ≡ Some h → granted g ≤ granted h + 1 → CountersFit events n → (q : Name) (k : Home) → home_of (with_home name g n) q ≡ Some k → granted k ≤ events + 1
tables_put events n name h g is few f q k e = go (name_eq name q) (sym (home_put n name h g is q) ∙ e)
  where
    go : (b : Bool) → (if b then Some g else home_of n q) ≡ Some k → granted k ≤ events + 1
    go true x = let same : g ≡ k = cc in let v = f.versions name h is in subst (λ (y : Home). granted y ≤ events + 1) same (omega arith)
    go false x = tables_more events n f q k x

serials_put : (events : ℕ) (n : Node) (name : Name) (h g : Home) → home_of n name ≡ Some h → CountersFit events n → length (put (name.serial - 1) (Some g) n.homes) ≤ events + 1
serials_put events n name h g is f = let l = put_length (name.serial - 1) (Some g) n.homes h (at_place n name h is) in let s = f.serials in omega arith

counters_copies : (events : ℕ) (n : Node) (cause : Cause) (o : Outcome) → Copies n cause o → CountersFit events n → CountersFit (events + 1) o.node
counters_copies events n cause o (home_opens c write name h is e v x) f =
    let s = begins_fit events n.sections write name (home_starts n.me write h).home.bytes (sections_of events n f) in
    record { serials = serials_put events n name h _ e f; rounds = let r = f.rounds in omega arith; gathering = let r = f.gathering in omega arith; sections = s.last; numbers = s.numbers; versions = tables_put events n name h _ e (starts_last n.me write h) f }
counters_copies events n cause o (home_waits c write name h is e v x) f =
    record { serials = serials_put events n name h _ e f; rounds = let r = f.rounds in omega arith; gathering = let r = f.gathering in omega arith; sections = let r = f.sections in omega arith; numbers = λ q r y. (let z = f.numbers q r y in omega arith); versions = tables_put events n name h _ e (starts_last n.me write h) f }
counters_copies events n cause o (home_ends c name y ends lowers h is e) f =
    let s = ends_fit events n.sections name (sections_of events n f) in
    record { serials = serials_put events n name h _ e f; rounds = let r = f.rounds in omega arith; gathering = let r = f.gathering in omega arith; sections = s.last; numbers = s.numbers; versions = tables_put events n name h _ e (ends_last _ n c name y ends lowers h is) f }
counters_copies events n cause o (home_serves from m name h s is e x) f =
    record { serials = serials_put events n name h _ e f; rounds = let r = f.rounds in omega arith; gathering = let r = f.gathering in omega arith; sections = let r = f.sections in omega arith; numbers = λ q r y. (let z = f.numbers q r y in omega arith); versions = tables_put events n name h _ e (serves_last n h from m name s is) f }
counters_copies events n cause o (home_serves_own from m name h s is e x) f =
    let t = begins_fit events n.sections (Rattle.crl_protocol.specs.Sections.is_writing s.home.mine) name s.home.bytes (sections_of events n f) in
    record { serials = serials_put events n name h _ e f; rounds = let r = f.rounds in omega arith; gathering = let r = f.gathering in omega arith; sections = t.last; numbers = t.numbers; versions = tables_put events n name h _ e (serves_last n h from m name s is) f }
counters_copies events n cause o (side_opens c write name r is e g v x) f =
    let s = begins_fit events n.sections write name _ (sections_of events n f) in
    record { serials = let r = f.serials in omega arith; rounds = let r = f.rounds in omega arith; gathering = let r = f.gathering in omega arith; sections = s.last; numbers = s.numbers; versions = tables_more events n f }
counters_copies events n cause o (side_ends c name y ends lowers r is e g) f =
    let s = ends_fit events n.sections name (sections_of events n f) in
    record { serials = let r = f.serials in omega arith; rounds = let r = f.rounds in omega arith; gathering = let r = f.gathering in omega arith; sections = s.last; numbers = s.numbers; versions = tables_more events n f }
counters_copies events n cause o (grant_comes from name version g r e y) f =
    let s = begins_fit events n.sections (Rattle.crl_protocol.specs.Remote.asks_to_write r.asking) name _ (sections_of events n f) in
    record { serials = let r = f.serials in omega arith; rounds = let r = f.rounds in omega arith; gathering = let r = f.gathering in omega arith; sections = s.last; numbers = s.numbers; versions = tables_more events n f }
counters_copies events n cause o _ f =
    record { serials = let r = f.serials in omega arith; rounds = let r = f.rounds in omega arith; gathering = let r = f.gathering in omega arith; sections = let r = f.sections in omega arith; numbers = λ q r y. (let z = f.numbers q r y in omega arith); versions = tables_more events n f }

made_tables : (events : ℕ) (n : Node) (size : ℕ) → CountersFit events n → (q : Name) (k : Home) → home_of (creates size n).node q ≡ Some k → granted k ≤ events + 1
made_tables events n size f q k e = go (name_eq (next_name n) q) (sym (home_end n (creates size n).node (new_home n.nodes size) refl refl q) ∙ e)
  where
    go : (b : Bool) → (if b then Some (new_home n.nodes size) else home_of n q) ≡ Some k → granted k ≤ events + 1
    go true x = let same : new_home n.nodes size ≡ k = cc in subst (λ (y : Home). granted y ≤ events + 1) same (omega arith)
    go false x = tables_more events n f q k x

counters_lives : (events : ℕ) (n : Node) (cause : Cause) (o : Outcome) → Lives n cause o → CountersFit events n → CountersFit (events + 1) o.node
counters_lives events n cause o (made size e) f =
    let l = length_end n.homes (Some (new_home n.nodes size)) in
    record { serials = let r = f.serials in omega arith; rounds = let r = f.rounds in omega arith; gathering = let r = f.gathering in omega arith; sections = let r = f.sections in omega arith; numbers = λ q r y. (let z = f.numbers q r y in omega arith); versions = made_tables events n size f }
counters_lives events n cause o (used_up size why e x) f =
    let none : Option Home = None in
    let l = length_end n.homes none in
    record { serials = let r = f.serials in omega arith; rounds = let r = f.rounds in omega arith; gathering = let r = f.gathering in omega arith; sections = let r = f.sections in omega arith; numbers = λ q r y. (let z = f.numbers q r y in omega arith); versions = λ q k y. tables_more events n f q k (sym (home_none n q) ∙ y) }
counters_lives events n cause o _ f =
    record { serials = let r = f.serials in omega arith; rounds = let r = f.rounds in omega arith; gathering = let r = f.gathering in omega arith; sections = let r = f.sections in omega arith; numbers = λ q r y. (let z = f.numbers q r y in omega arith); versions = tables_more events n f }

counters_rounds : (events : ℕ) (n : Node) (cause : Cause) (o : Outcome) → Rounds n cause o → CountersFit events n → CountersFit (events + 1) o.node
counters_rounds events n cause o (comes_away part other fits) f =
    record { serials = let r = f.serials in omega arith; rounds = let r = f.rounds in omega arith; gathering = let r = f.gathering in omega arith; sections = let r = f.sections in omega arith; numbers = λ q r y. (let z = f.numbers q r y in omega arith); versions = tables_more events n f }
counters_rounds events n cause o _ f =
    record { serials = let r = f.serials in omega arith; rounds = let r = f.rounds in omega arith; gathering = let r = f.gathering in omega arith; sections = let r = f.sections in omega arith; numbers = λ q r y. (let z = f.numbers q r y in omega arith); versions = tables_more events n f }

counters_notes : (events : ℕ) (n : Node) (c : Call) (w : What) (m : Node) → Notes n c w m → CountersFit events n → CountersFit (events + 1) m
counters_notes events n c w m (ends_nowhere x name y ends lowers is e) f =
    let s = ends_fit events n.sections name (sections_of events n f) in
    record { serials = let r = f.serials in omega arith; rounds = let r = f.rounds in omega arith; gathering = let r = f.gathering in omega arith; sections = s.last; numbers = s.numbers; versions = tables_more events n f }
counters_notes events n c w m _ f =
    record { serials = let r = f.serials in omega arith; rounds = let r = f.rounds in omega arith; gathering = let r = f.gathering in omega arith; sections = let r = f.sections in omega arith; numbers = λ q r y. (let z = f.numbers q r y in omega arith); versions = tables_more events n f }

counters_deed : (events : ℕ) (n : Node) (cause : Cause) (o : Outcome) → Deed n cause o → CountersFit events n → CountersFit (events + 1) o.node
counters_deed events n cause o (copies c) f = counters_copies events n cause o c f
counters_deed events n cause o (lives c) f = counters_lives events n cause o c f
counters_deed events n cause o (rounds c) f = counters_rounds events n cause o c f
counters_deed events n cause o (notes {m = m} c) f = counters_notes events n _ _ m c f
counters_deed events n cause o _ f =
    record { serials = let r = f.serials in omega arith; rounds = let r = f.rounds in omega arith; gathering = let r = f.gathering in omega arith; sections = let r = f.sections in omega arith; numbers = λ q r y. (let z = f.numbers q r y in omega arith); versions = tables_more events n f }

-- in the world
fits_as : (events : ℕ) (n m : Node) → m.homes ≡ n.homes → m.me ≡ n.me → CountersFit events n → m.rounds ≡ n.rounds → m.gathering ≡ n.gathering → m.sections ≡ n.sections → CountersFit (events + 1) m
fits_as events n m homes me f same_rounds same_gathering same_sections = record {
  serials = let a = ap (λ (xs : List (Option Home)). length xs) homes in let r = f.serials in omega arith;
  rounds = let r = f.rounds in omega arith;
  gathering = let a = ap (λ (g : Gathering). g.round) same_gathering in let r = f.gathering in omega arith;
  sections = let a = ap (λ (s : Sections). s.last) same_sections in let r = f.sections in omega arith;
  numbers = λ q r y. (let z = f.numbers q r (ap (λ (s : Sections). s.records q) (sym same_sections) ∙ y) in omega arith);
  versions = λ q h y. tables_more events n f q h (ap (λ xs. if q.home == n.me then at_serial q.serial xs else None) (sym homes) ∙ ap (λ k. if q.home == k then at_serial q.serial m.homes else None) (sym me) ∙ y);
}

abbrev AllFit : World → Type 0
AllFit w = (i : ℕ) → CountersFit w.events (w.nodes i)

abbrev Later : ℕ → ℕ → Node → Type 0
Later events i m = CountersFit (events + 1) m

counters_turn : (w : World) (v : WorldStep) {e : Event} → Turn w e v → AllFit w → AllFit v.world
counters_turn w v (calls i c o few free may d) h = let f = counters_deed w.events (w.nodes i) _ o d (h i) in each_at (Later w.events) w.nodes i (commits w.events (noted_as w i c) o) (λ j. fits_as w.events (w.nodes j) (w.nodes j) refl refl (h j) refl refl refl) (record { serials = f.serials; rounds = f.rounds; gathering = f.gathering; sections = f.sections; numbers = f.numbers; versions = f.versions })
counters_turn w v (hears i place p rest parcels part o few took d) h =
    let n : Node = record (w.nodes i) { inbox = rest; parcels = parcels } in
    let g = h i in
    let f = counters_deed w.events n _ o d (record { serials = g.serials; rounds = g.rounds; gathering = g.gathering; sections = g.sections; numbers = g.numbers; versions = g.versions }) in
    each_at (Later w.events) w.nodes i (commits w.events (event.Handle i place) o) (λ j. fits_as w.events (w.nodes j) (w.nodes j) refl refl (h j) refl refl refl) (record { serials = f.serials; rounds = f.rounds; gathering = f.gathering; sections = f.sections; numbers = f.numbers; versions = f.versions })
counters_turn w v (gathers i place p rest parcels key few took keyed) h =
    each_at (Later w.events) w.nodes i (commits w.events (event.Handle i place) (only (record (w.nodes i) { inbox = rest; parcels = parcels }) Done)) (λ j. fits_as w.events (w.nodes j) (w.nodes j) refl refl (h j) refl refl refl) (fits_as w.events (w.nodes i) _ refl refl (h i) refl refl refl)
counters_turn w v (answers i answer few ready) h =
    each_at (Later w.events) w.nodes i (commits w.events (event.Collect i) (record { node = record (w.nodes i) { activity = Free }; answer = answer; entries = []; posts = [] })) (λ j. fits_as w.events (w.nodes j) (w.nodes j) refl refl (h j) refl refl refl) (fits_as w.events (w.nodes i) _ refl refl (h i) refl refl refl)
counters_turn w v (carriage i place p rest few took) h =
    let n : Node = note w.events (event.Carry i place) (record (w.nodes i) { outbox = rest }) in
    let sent : (j : ℕ) → CountersFit w.events (at_node w.nodes i n j) = each_at (λ j m. CountersFit w.events m) w.nodes i n h (let g = h i in record { serials = g.serials; rounds = g.rounds; gathering = g.gathering; sections = g.sections; numbers = g.numbers; versions = g.versions }) in
    each_at (Later w.events) (at_node w.nodes i n) p.message.addressee (put_in p (at_node w.nodes i n p.message.addressee)) (λ j. fits_as w.events (at_node w.nodes i n j) (at_node w.nodes i n j) refl refl (sent j) refl refl refl)
    (fits_as w.events (at_node w.nodes i n p.message.addressee) _ refl refl (sent p.message.addressee) refl refl refl)

counters_run : (es : List Event) (w : World) → IsRunFrom w es → AllFit w → AllFit (world_after w es)
counters_run [] w r h = h
counters_run (e ∷ es) w r h = counters_run es (step e w).world r.1 (counters_turn w (step e w) (turn_of w e r.0) h)

events_run : (es : List Event) (w : World) → IsRunFrom w es → (world_after w es).events ≤ w.events + length es
events_run [] w r = omega arith
events_run (e ∷ es) w r = let h = events_run es (step e w).world r.1 in let t = turn_events w (step e w) (turn_of w e r.0) in omega arith

new_fits : (count capacity : ℕ) → AllFit (new_world count capacity)
new_fits count capacity i = record {
  serials = omega arith;
  rounds = omega arith;
  gathering = omega arith;
  sections = omega arith;
  numbers = λ q r e. cc;
  versions = λ q h e. absurd (none q h e);
}
  where
    none : (q : Name) (h : Home) → home_of (new_node count capacity i) q ≡ Some h → ⊥
    none q h e = go (q.home == i) (q.serial == 0) e
      where
        go : (mine first : Bool) → (if mine then (if first then None else None) else None) ≡ Some h → ⊥
        go true true e = cc
        go true false e = cc
        go false first e = cc

fits_more : (a b : ℕ) (n : Node) → a ≤ b → CountersFit a n → CountersFit b n
fits_more a b n l f = record {
  serials = let r = f.serials in omega arith;
  rounds = let r = f.rounds in omega arith;
  gathering = let r = f.gathering in omega arith;
  sections = let r = f.sections in omega arith;
  numbers = λ q r y. (let z = f.numbers q r y in omega arith);
  versions = λ q h y. (let z = f.versions q h y in omega arith);
}

posted_part : (i k j : ℕ) (nodes : ℕ → Node) → i ≤ j → j < i + k → (nodes j).posted ≤ messages_sent_from i k nodes
posted_part i zero j nodes l h = absurd (omega arith)
posted_part i (suc k) j nodes l h = go (j == i) refl (λ w. posted_part (i + 1) k j nodes w (omega arith))
  where
    go : (b : Bool) → (j == i) ≡ b → (i + 1 ≤ j → (nodes j).posted ≤ messages_sent_from (i + 1) k nodes) → (nodes j).posted ≤ messages_sent_from i (suc k) nodes
    go true e rest = let same : (nodes j).posted ≡ (nodes i).posted = ap (λ x. (nodes x).posted) (eqb-true j i e) in omega arith
    go false e rest = let ne = Rattle.std.proofs.lemmas.Bool.eqb-false j i e in let r = rest (grind arith) in omega arith

pub counters_fit : BoundsEachRun CountersFew
counters_fit count capacity run r i small =
    let start = new_world count capacity in
    let w = world_of count capacity run in
    let events = events_run run start r in
    let most = messages_bounded count capacity run r in
    let part = posted_part 0 w.count i w.nodes (omega arith) (omega arith) in
    (fits_more w.events (length run) (w.nodes i) (omega arith) (counters_run run start r (new_fits count capacity) i), omega arith)
