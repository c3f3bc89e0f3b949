-- A region has at most so many pieces, so a call leads to at most so many messages.
use Rattle.std.proofs.Common.{ℕ, ◌+◌, ◌*◌, ◌-◌, ◌≤◌, Bool, true, false, Some, List, [], ◌∷◌, ◌++◌, if◌then◌else◌, subst, arith}
use Rattle.std.specs.List.{AllByRecursion}
use Rattle.std.proofs.Math.Nat.{add-mul, div-mul-le_self}
use Rattle.std.proofs.lemmas.Bool.{cond_both}
use Rattle.crl_model.specs.declared.TheConstants.{REGION_LIMIT}
use Rattle.crl_model.specs.declared.name.Name.{Name}
use Rattle.crl_model.specs.declared.call.Call.{Call}
use Rattle.crl_model.specs.declared.call.Call.TheVariants as call
use Rattle.crl_model.specs.declared.call.CallKind.{CallKind}
use Rattle.crl_model.specs.declared.collective.Fold.{Fold}
use Rattle.crl_model.specs.declared.collective.Fold.TheVariants as fold
use Rattle.crl_model.specs.declared.entry.Entry.{Entry}
use Rattle.crl_model.specs.declared.entry.What.{What}
use Rattle.crl_model.specs.declared.entry.What.TheVariants as what
use Rattle.crl_model.specs.declared.event.Event.{Event}
use Rattle.crl_model.specs.declared.event.Event.TheVariants as event
use Rattle.crl_model.specs.Names.{name_eq}
use Rattle.crl_pieces.specs.declared.TheConstants.{PIECES_LIMIT}
use Rattle.crl_pieces.specs.Pieces.{count}
use Rattle.crl_protocol.specs.Home.{Home, HomeStep}
use Rattle.crl_protocol.specs.Remote.{Remote, RemoteStep}
use Rattle.crl_protocol.specs.Sections.{is_writing}
use Rattle.crl_protocol.specs.Calls.{result_of}
use Rattle.crl_protocol.specs.Node.{Node, Outcome}
use Rattle.crl_protocol.specs.Talk.{size_in, created_size, pieces_or_one, created_pieces, bound_of, bound_at, bound_from}
use Rattle.crl_protocol.specs.World.{World, WorldStep, step, IsRunFrom}
use Rattle.crl_deeds.specs.Deeds.{Cause, EndsCall, a_read, a_write, Copies, home_opens, home_waits, side_opens, side_waits, home_ends, side_ends, side_flushes, home_serves, home_serves_own, grant_comes, side_called, Lives, made, used_up, map_asks, map_comes, map_denied, deletes_alone, delete_asks, deletes_alone_for, delete_comes, dooms, drops, warns, counts_off, Rounds, comes_away, comes_home, comes_last, part_comes, part_last, part_last_idle, result_comes, Notes, ends_nowhere, Deed, copies, lives, rounds, notes, refuses, idles}
use Rattle.crl_deeds.specs.Turns.{Turn, calls, hears, gathers, answers, carriage}
use Rattle.crl_deeds.proofs.Laws.{all_append, create_fits, turn_of, turn_count}
use Rattle.crl_bound.specs.Counters.{count_calls}
use Rattle.crl_stuck.specs.Ends.{most_messages}

-- Each region that an entry creates is within the limit.
abbrev pub Small : What → Type 0
Small (what.Create name size) = size ≤ REGION_LIMIT
Small _ = Unit {0}

abbrev pub AllSmall : List Entry → Type 0
AllSmall es = AllByRecursion (λ (e : Entry). Small e.what) es

start_small : (write : Bool) (name : Name) → Small (if write then what.StartWrite name else what.StartRead name)
start_small true name = tt
start_small false name = tt

end_small : (bytes : List ℕ) (n : Node) (c : Call) (name : Name) (w : What) (ends : Home → HomeStep) (lowers : Remote → RemoteStep) → EndsCall bytes n c name w ends lowers → Small w
end_small bytes n c name w ends lowers (a_read q v) = tt
end_small bytes n c name w ends lowers (a_write q after v) = tt

result_small : (round : ℕ) (kind : CallKind) (f : Fold) → Small (result_of round kind f)
result_small round kind fold.Mixed = tt
result_small round kind _ = tt

small_copies : (n : Node) (cause : Cause) (o : Outcome) → Copies n cause o → AllSmall o.entries
small_copies n cause o (home_opens c write name h is e v x) = (start_small write name, tt)
small_copies n cause o (home_waits c write name h is e v x) = tt
small_copies n cause o (home_ends c name y ends lowers h is e) = (end_small _ n c name y ends lowers is, tt)
small_copies n cause o (home_serves from m name h s is e x) = tt
small_copies n cause o (home_serves_own from m name h s is e x) = (start_small (is_writing s.home.mine) name, tt)
small_copies n cause o (side_opens c write name r is e g v x) = (start_small write name, tt)
small_copies n cause o (side_waits c write name r is e g v x) = tt
small_copies n cause o (side_ends c name y ends lowers r is e g) = (end_small _ n c name y ends lowers is, tt)
small_copies n cause o (side_flushes name r other e closed) = (tt, tt)
small_copies n cause o (grant_comes from name version g r e y) = (start_small _ name, tt)
small_copies n cause o (side_called from m name r s is e) = tt

small_lives : (n : Node) (cause : Cause) (o : Outcome) → Lives n cause o → AllSmall o.entries
small_lives n cause o (made size e) = let fits = create_fits n size e in (fits.1, tt)
small_lives n cause o (used_up size why e y) = (tt, tt)
small_lives n cause o (map_asks name e other c real) = tt
small_lives n cause o (map_comes from name purged size e) = tt
small_lives n cause o (map_denied from name purged s why t d u e) = tt
small_lives n cause o (deletes_alone name mine live e) = (tt, (tt, tt))
small_lives n cause o (delete_asks name other real) = tt
small_lives n cause o (deletes_alone_for from name mine live e) = (tt, (tt, tt))
small_lives n cause o (delete_comes from name d e) = tt
small_lives n cause o (dooms from name m e) = tt
small_lives n cause o (drops from name size e c) = tt
small_lives n cause o (warns from name e c) = tt
small_lives n cause o (counts_off from name deleter m ms mine e missing left) = tt
small_lives n cause o _ = (tt, tt)

small_rounds : (n : Node) (cause : Cause) (o : Outcome) → Rounds n cause o → AllSmall o.entries
small_rounds n cause o (comes_away part other fits) = (tt, tt)
small_rounds n cause o (comes_home part first fits all) = (tt, tt)
small_rounds n cause o (comes_last part parts first fits all) = (tt, (result_small _ _ _, tt))
small_rounds n cause o (part_comes from round part a all) = tt
small_rounds n cause o (part_last from round part parts mine k e a all) = (result_small _ _ _, tt)
small_rounds n cause o (part_last_idle from round part parts idle a all) = tt
small_rounds n cause o (result_comes from round fold k e) = (result_small _ _ _, tt)

small_notes : (n : Node) (c : Call) (w : What) (m : Node) → Notes n c w m → Small w
small_notes n c w m (ends_nowhere x name y ends lowers is e) = end_small _ n c name y ends lowers is
small_notes n c w m _ = tt

small_deed : (n : Node) (cause : Cause) (o : Outcome) → Deed n cause o → AllSmall o.entries
small_deed n cause o (copies c) = small_copies n cause o c
small_deed n cause o (lives c) = small_lives n cause o c
small_deed n cause o (rounds c) = small_rounds n cause o c
small_deed n cause o (notes {m = m} c) = (small_notes n _ _ m c, tt)
small_deed n cause o (refuses c why v) = (tt, tt)
small_deed n cause o (idles h) = tt

small_turn : (w : World) (v : WorldStep) {e : Event} → Turn w e v → AllSmall v.entries
small_turn w v (calls i c o few free may d) = small_deed (w.nodes i) _ o d
small_turn w v (hears i place p rest parcels part o few took d) = small_deed _ _ o d
small_turn w v (gathers i place p rest parcels key few took keyed) = tt
small_turn w v (answers i answer few ready) = tt
small_turn w v (carriage i place p rest few took) = tt

-- so many bytes have at most so many pieces
count_few : (size : ℕ) → size ≤ REGION_LIMIT → count size ≤ PIECES_LIMIT
count_few size h = let q = div-mul-le_self (size - 1) 32768 in omega arith

pieces_few : (q : Name) (es : List Entry) → AllSmall es → created_pieces q es ≤ PIECES_LIMIT
pieces_few q [] h = omega arith
pieces_few q (e ∷ es) h = of_what e.what h.0 (pieces_few q es h.1)
  where
    of_what : (w : What) → Small w → created_pieces q es ≤ PIECES_LIMIT → pieces_or_one (size_in q w (created_size q es)) ≤ PIECES_LIMIT
    of_what (what.Create name size) s rest = cond_both (name_eq name q) (Some size) (created_size q es) (λ o. pieces_or_one o ≤ PIECES_LIMIT) (λ x. count_few size s) (λ x. rest)
    of_what _ s rest = rest

-- the messages of a call, and of all
call_few : (nodes : ℕ) (es : List Entry) (c : Call) → AllSmall es → bound_of nodes es c ≤ most_messages nodes
call_few nodes es (call.StartRead name) h = let p = pieces_few name es h in omega arith
call_few nodes es (call.StartWrite name) h = let p = pieces_few name es h in omega arith
call_few nodes es (call.Map name) h = omega arith
call_few nodes es (call.Delete name) h = omega arith
call_few nodes es (call.Come part) h = omega arith
call_few nodes es _ h = omega arith

pub bound_few : (w : World) (before : List Entry) (es : List Event) → IsRunFrom w es → AllSmall before → bound_from w before es ≤ count_calls es * most_messages w.count
bound_few w before [] r h = omega arith
bound_few w before (e ∷ es) r h =
    let turn = turn_of w e r.0 in
    let more = bound_few (step e w).world (before ++ (step e w).entries) es r.1 (all_append (λ (x : Entry). Small x.what) before (step e w).entries h (small_turn w (step e w) turn)) in
    let same = subst (λ n. bound_from (step e w).world (before ++ (step e w).entries) es ≤ count_calls es * most_messages n) (turn_count w (step e w) turn) more in
    of_event e (bound_from (step e w).world (before ++ (step e w).entries) es) same
  where
    of_event : (e : Event) (rest : ℕ) → rest ≤ count_calls es * most_messages w.count → bound_at w.count before e + rest ≤ count_calls (e ∷ es) * most_messages w.count
    of_event (event.Call i c) rest k = let one = call_few w.count before c h in let sum = add-mul 1 (count_calls es) (most_messages w.count) in omega arith
    of_event (event.Collect i) rest k = omega arith
    of_event (event.Handle i place) rest k = omega arith
    of_event (event.Carry i place) rest k = omega arith
