-- How many events there are: each carriage and each message handled is of a piece that was sent, and each answer taken is
-- of a call.
use Rattle.std.proofs.Common.{◌≡◌, ℕ, zero, suc, ◌+◌, ◌≤◌, ◌<◌, Some, List, [], ◌∷◌, ◌++◌, length, refl, ap, subst, arith}
use Rattle.std.proofs.Math.Logic.{◌⊎◌, inl, inr}
use Rattle.std.proofs.lemmas.Bool.{cases_lt}
use Rattle.crl_model.specs.declared.name.Name.{Name}
use Rattle.crl_model.specs.declared.event.Event.{Event}
use Rattle.crl_model.specs.declared.event.Event.TheVariants as event
use Rattle.crl_model.specs.Names.{at_node}
use Rattle.crl_protocol.specs.Parcels.{Piece, with_load, pieces_in}
use Rattle.crl_protocol.specs.Places.{Took, here, there}
use Rattle.crl_protocol.specs.Handlers.{purges_waiting}
use Rattle.crl_protocol.specs.Node.{Node, Activity, Free, Waiting, Ready, ForMap, Outcome, Done, only}
use Rattle.crl_protocol.specs.World.{World, WorldStep, new_world, note, put_in, commits, carries, step, IsRunFrom, world_after, world_of, messages_sent_from}
use Rattle.crl_deeds.specs.Deeds.{Cause, Calls, Hears, Copies, Lives, Rounds, Notes, Deed, copies, lives, rounds, notes, home_serves_own, grant_comes, home_waits, side_waits, map_asks, map_comes, map_denied, deletes_own, delete_asks, delete_comes, warns, ends_own, comes_away, comes_home, part_last, result_comes, flushes_own}
use Rattle.crl_deeds.proofs.Laws.{serves_goes, away_load, waits_own, waits_granted, home_bytes, queue_of, asking_of, going_own, deed_frame, all_took, sum_with, sum_new, known_start, known_step, turn_of}
use Rattle.crl_deeds.specs.Counts.{Known}
use Rattle.crl_deeds.specs.NodeFacts.{Leaves, ComesIn, Fits}
use Rattle.crl_deeds.specs.Tokens.{sum_from, sum}
use Rattle.crl_bound.specs.Counters.{BoundsEachRun, count_calls, count_collects, count_handles, count_carries, EventsFew}
use Rattle.crl_deeds.specs.Turns.{noted_as, Turn, calls, hears, gathers, answers, carriage, Came}
use Rattle.crl_bound.proofs.Budgets.{sum_past}
use Rattle.crl_bound.proofs.Posts.{deed_posted}
use Rattle.crl_bound.proofs.Runs.{messages_bounded}

-- a node that waits or is ready
abbrev pub busy : Activity → ℕ
busy Free = 0
busy (Waiting awaited) = 1
busy (Ready answer) = 1

at_most : (a : Activity) → busy a ≤ 1
at_most Free = omega arith
at_most (Waiting awaited) = omega arith
at_most (Ready answer) = omega arith

abbrev called : Cause → ℕ
called (Calls c) = 1
called (Hears from k) = 0

busy_from : (a b c : Activity) (x : ℕ) → a ≡ b → busy b ≡ 1 → busy c ≤ busy a + x
busy_from a b c x e h = let k = ap busy e in let m = at_most c in omega arith

busy_copies : (j : ℕ) (n : Node) (cause : Cause) (o : Outcome) → Copies n cause o → Fits j n → Came Leaves n.me cause → busy o.node.activity ≤ busy n.activity + called cause
busy_copies j n cause o (home_waits c write name h is e v x) f w = let m = at_most o.node.activity in omega arith
busy_copies j n cause o (side_waits c write name r is e k v x) f w = let m = at_most o.node.activity in omega arith
busy_copies j n cause o (home_serves_own from k name h y is e x) f w =
    busy_from n.activity _ o.node.activity 0 (waits_own n.me name h y n.activity x (serves_goes n h from k name y is w (home_bytes j n name h e f)) (queue_of j n name h e f)) refl
busy_copies j n cause o (grant_comes from name version g r e y) f w = busy_from n.activity _ o.node.activity 0 (waits_granted name g r n.activity y (asking_of j n name r e f)) refl
busy_copies j n cause o _ f w = omega arith

warned : (name : Name) (a : Activity) → busy (purges_waiting name a) ≡ busy a
warned name (Waiting (ForMap p purged)) = refl
warned name _ = refl

busy_lives : (j : ℕ) (n : Node) (cause : Cause) (o : Outcome) → Lives n cause o → Fits j n → busy o.node.activity ≤ busy n.activity + called cause
busy_lives j n cause o (map_asks name e other c real) f = omega arith
busy_lives j n cause o (map_comes from name purged size e) f = busy_from n.activity _ o.node.activity 0 e refl
busy_lives j n cause o (map_denied from name purged s why t q u e) f = busy_from n.activity _ o.node.activity 0 e refl
busy_lives j n cause o (deletes_own name m ms mine live e) f = omega arith
busy_lives j n cause o (delete_asks name other real) f = omega arith
busy_lives j n cause o (delete_comes from name t e) f = busy_from n.activity _ o.node.activity 0 e refl
busy_lives j n cause o (warns from name e c) f = let k = warned name n.activity in omega arith
busy_lives j n cause o (ends_own from name mine e missing last) f = busy_from n.activity _ o.node.activity 0 (going_own n.me name _ n.activity (f.each name).going e) refl
busy_lives j n cause o _ f = omega arith

busy_rounds : (n : Node) (cause : Cause) (o : Outcome) → Rounds n cause o → busy o.node.activity ≤ busy n.activity + called cause
busy_rounds n cause o (comes_away part other fits) = omega arith
busy_rounds n cause o (comes_home part first fits all) = omega arith
busy_rounds n cause o (part_last from round part parts mine k e a all) = busy_from n.activity _ o.node.activity 0 e refl
busy_rounds n cause o (result_comes from round fold k e) = busy_from n.activity _ o.node.activity 0 e refl
busy_rounds n cause o _ = omega arith

busy_notes : (n : Node) (c : Rattle.crl_model.specs.declared.call.Call.Call) (w : Rattle.crl_model.specs.declared.entry.What.What) (m : Node) → Notes n c w m → m.activity ≡ n.activity
busy_notes n c w m (flushes_own name mine closed) = refl
busy_notes n c w m _ = refl

busy_deed : (j : ℕ) (n : Node) (cause : Cause) (o : Outcome) → Deed n cause o → Fits j n → Came Leaves n.me cause → busy o.node.activity ≤ busy n.activity + called cause
busy_deed j n cause o (copies c) f w = busy_copies j n cause o c f w
busy_deed j n cause o (lives c) f w = busy_lives j n cause o c f
busy_deed j n cause o (rounds c) f w = busy_rounds n cause o c
busy_deed j n cause o (notes {m = m} c) f w = let same = ap busy (busy_notes n _ _ m c) in omega arith
busy_deed j n cause o _ f w = omega arith

-- What a world has of it: pieces sent and not yet carried, carried and not yet handled, and nodes that aren't free.
abbrev waits_out : Node → ℕ
waits_out n = length n.outbox

abbrev waits_in : Node → ℕ
waits_in n = length n.inbox

abbrev is_busy : Node → ℕ
is_busy n = busy n.activity

abbrev sent : Node → ℕ
sent n = n.posted

record Numbers (w : World) (called collected handled carried : ℕ) : Type 0 where
  out : sum waits_out w + carried ≡ sum sent w
  boxed : sum waits_in w + handled ≤ carried
  waits : sum is_busy w + collected ≤ called

length_append : {A : Type 0} (xs ys : List A) → length (xs ++ ys) ≡ length xs + length ys
length_append [] ys = omega arith
length_append (x ∷ xs) ys = let h = length_append xs ys in omega arith

length_took : {A : Type 0} {x : A} {xs rest : List A} → Took x xs rest → length xs ≡ 1 + length rest
length_took here = omega arith
length_took (there t) = let h = length_took t in omega arith

record Grown (n m : Node) (pieces : ℕ) : Type 0 where
  outbox : length m.outbox ≡ length n.outbox + pieces
  posted : m.posted ≡ n.posted + pieces
  inbox : length m.inbox ≡ length n.inbox

grown : (w : World) (n : Node) (cause : Cause) (e : Event) (o : Outcome) → Deed n cause o → Grown n (commits w.events e o) (length (pieces_in o.posts))
grown w n cause e o d =
    let frame = deed_frame n cause o d in
    let both = length_append o.node.outbox (pieces_in o.posts) in
    let same = ap (λ (xs : List Piece). length xs) frame.outbox in
    record { outbox = omega arith; posted = ap (λ x. x + length (pieces_in o.posts)) (deed_posted n cause o d); inbox = ap (λ (xs : List Piece). length xs) frame.inbox }

turn_counts : (w : World) (e : Event) (v : WorldStep) → Known w → Turn w e v → (a b c d : ℕ) → Numbers w a b c d
    → Numbers v.world (a + count_calls (e ∷ [])) (b + count_collects (e ∷ [])) (c + count_handles (e ∷ [])) (d + count_carries (e ∷ []))
turn_counts w e v x (calls i call o few free may deed) a b c d h =
    let after : Node = commits w.events (noted_as w i call) o in
    let g = grown w (w.nodes i) (Calls call) (noted_as w i call) o deed in
    let one = sum_with waits_out w.count i w.nodes after few in
    let two = sum_with sent w.count i w.nodes after few in
    let three = sum_with waits_in w.count i w.nodes after few in
    let four = sum_with is_busy w.count i w.nodes after few in
    let most = at_most after.activity in
    let g1 = g.outbox in let g2 = g.posted in let g3 = g.inbox in let h1 = h.out in let h2 = h.boxed in let h3 = h.waits in
    record { out = omega arith; boxed = omega arith; waits = omega arith }
turn_counts w e v x (hears i place p rest parcels part o few took deed) a b c d h =
    let n : Node = record (w.nodes i) { inbox = rest; parcels = parcels } in
    let t = x.fits i in
    let mine = all_took (ComesIn (w.nodes i).me) took t.inbox in
    let fits : Fits i n = record { me = t.me; each = t.each; cache = t.cache; fresh = t.fresh; inbox = mine.1; outbox = t.outbox } in
    let away : Came Leaves n.me (Hears p.message.sender (with_load part p.message.kind)) = subst (λ (y : Type 0). y) (away_load p.message.sender n.me part p.message.kind) mine.0 in
    let after : Node = commits w.events (event.Handle i place) o in
    let g = grown w n (Hears p.message.sender (with_load part p.message.kind)) (event.Handle i place) o deed in
    let less = length_took took in
    let still = busy_deed i n (Hears p.message.sender (with_load part p.message.kind)) o deed fits away in
    let one = sum_with waits_out w.count i w.nodes after few in
    let two = sum_with sent w.count i w.nodes after few in
    let three = sum_with waits_in w.count i w.nodes after few in
    let four = sum_with is_busy w.count i w.nodes after few in
    let g1 = g.outbox in let g2 = g.posted in let g3 = g.inbox in let h1 = h.out in let h2 = h.boxed in let h3 = h.waits in
    record { out = omega arith; boxed = omega arith; waits = omega arith }
turn_counts w e v x (gathers i place p rest parcels key few took keyed) a b c d h =
    let n : Node = record (w.nodes i) { inbox = rest; parcels = parcels } in
    let after : Node = commits w.events (event.Handle i place) (only n Done) in
    let less = length_took took in
    let same = length_append (w.nodes i).outbox [] in
    let one = sum_with waits_out w.count i w.nodes after few in
    let two = sum_with sent w.count i w.nodes after few in
    let three = sum_with waits_in w.count i w.nodes after few in
    let four = sum_with is_busy w.count i w.nodes after few in
    let h1 = h.out in let h2 = h.boxed in let h3 = h.waits in
    record { out = omega arith; boxed = omega arith; waits = omega arith }
turn_counts w e v x (answers i answer few ready) a b c d h =
    let n = w.nodes i in
    let o : Outcome = record { node = record n { activity = Free }; answer = answer; entries = []; posts = [] } in
    let after : Node = commits w.events (event.Collect i) o in
    let was : busy n.activity ≡ 1 = ap busy ready in
    let same = length_append n.outbox [] in
    let one = sum_with waits_out w.count i w.nodes after few in
    let two = sum_with sent w.count i w.nodes after few in
    let three = sum_with waits_in w.count i w.nodes after few in
    let four = sum_with is_busy w.count i w.nodes after few in
    let h1 = h.out in let h2 = h.boxed in let h3 = h.waits in
    record { out = omega arith; boxed = omega arith; waits = omega arith }
turn_counts w e v x (carriage i place p rest few took) a b c d h = go (cases_lt p.message.addressee w.count)
  where
    after : Node
    after = note w.events (event.Carry i place) (record (w.nodes i) { outbox = rest })

    left : ℕ → Node
    left = at_node w.nodes i after

    to : ℕ
    to = p.message.addressee

    go : (to < w.count) ⊎ (w.count ≤ to) → Numbers (carries i (event.Carry i place) (Some (record { taken = p; rest = rest })) w).world (a + 0) (b + 0) (c + 0) (d + (1 + 0))
    go (inl l) =
        let less = length_took took in
        let m : Node = put_in p (left to) in
        let more = length_append (left to).inbox (p ∷ []) in
        let o1 = sum_with waits_out w.count i w.nodes after few in
        let o2 = sum_with waits_out w.count to left m l in
        let s1 = sum_with sent w.count i w.nodes after few in
        let s2 = sum_with sent w.count to left m l in
        let i1 = sum_with waits_in w.count i w.nodes after few in
        let i2 = sum_with waits_in w.count to left m l in
        let b1 = sum_with is_busy w.count i w.nodes after few in
        let b2 = sum_with is_busy w.count to left m l in
        let h1 = h.out in let h2 = h.boxed in let h3 = h.waits in
        record { out = omega arith; boxed = omega arith; waits = omega arith }
    go (inr l) =
        let less = length_took took in
        let m : Node = put_in p (left to) in
        let o1 = sum_with waits_out w.count i w.nodes after few in
        let o2 = sum_past waits_out 0 w.count to left m (omega arith) in
        let s1 = sum_with sent w.count i w.nodes after few in
        let s2 = sum_past sent 0 w.count to left m (omega arith) in
        let i1 = sum_with waits_in w.count i w.nodes after few in
        let i2 = sum_past waits_in 0 w.count to left m (omega arith) in
        let b1 = sum_with is_busy w.count i w.nodes after few in
        let b2 = sum_past is_busy 0 w.count to left m (omega arith) in
        let h1 = h.out in let h2 = h.boxed in let h3 = h.waits in
        record { out = omega arith; boxed = omega arith; waits = omega arith }

-- a run
one_calls : (e : Event) (es : List Event) → count_calls (e ∷ es) ≡ count_calls (e ∷ []) + count_calls es
one_calls (event.Call i c) es = omega arith
one_calls (event.Collect i) es = omega arith
one_calls (event.Handle i place) es = omega arith
one_calls (event.Carry i place) es = omega arith

one_collects : (e : Event) (es : List Event) → count_collects (e ∷ es) ≡ count_collects (e ∷ []) + count_collects es
one_collects (event.Call i c) es = omega arith
one_collects (event.Collect i) es = omega arith
one_collects (event.Handle i place) es = omega arith
one_collects (event.Carry i place) es = omega arith

one_handles : (e : Event) (es : List Event) → count_handles (e ∷ es) ≡ count_handles (e ∷ []) + count_handles es
one_handles (event.Call i c) es = omega arith
one_handles (event.Collect i) es = omega arith
one_handles (event.Handle i place) es = omega arith
one_handles (event.Carry i place) es = omega arith

one_carries : (e : Event) (es : List Event) → count_carries (e ∷ es) ≡ count_carries (e ∷ []) + count_carries es
one_carries (event.Call i c) es = omega arith
one_carries (event.Collect i) es = omega arith
one_carries (event.Handle i place) es = omega arith
one_carries (event.Carry i place) es = omega arith

numbers_run : (es : List Event) (w : World) (a b c d : ℕ) → IsRunFrom w es → Known w → Numbers w a b c d → Numbers (world_after w es) (a + count_calls es) (b + count_collects es) (c + count_handles es) (d + count_carries es)
numbers_run [] w a b c d r x h = let h1 = h.out in let h2 = h.boxed in let h3 = h.waits in record { out = omega arith; boxed = omega arith; waits = omega arith }
numbers_run (e ∷ es) w a b c d r x h =
    let n = turn_counts w e (step e w) x (turn_of w e r.0) a b c d h in
    let m = numbers_run es (step e w).world _ _ _ _ r.1 (known_step w e r.0 x) n in
    let k1 = one_calls e es in let k2 = one_collects e es in let k3 = one_handles e es in let k4 = one_carries e es in
    let m1 = m.out in let m2 = m.boxed in let m3 = m.waits in
    record { out = omega arith; boxed = omega arith; waits = omega arith }

sent_all : (i k : ℕ) (nodes : ℕ → Node) → messages_sent_from i k nodes ≡ sum_from sent i k nodes
sent_all i zero nodes = refl
sent_all i (suc k) nodes = let h = sent_all (i + 1) k nodes in omega arith

event_kinds : (es : List Event) → length es ≡ count_calls es + count_collects es + count_handles es + count_carries es
event_kinds [] = refl
event_kinds (event.Call i c ∷ es) = let h = event_kinds es in omega arith
event_kinds (event.Collect i ∷ es) = let h = event_kinds es in omega arith
event_kinds (event.Handle i place ∷ es) = let h = event_kinds es in omega arith
event_kinds (event.Carry i place ∷ es) = let h = event_kinds es in omega arith

pub events_few : BoundsEachRun EventsFew
events_few count capacity run r =
    let start = new_world count capacity in
    let w = world_of count capacity run in
    let z1 = sum_new waits_out count capacity (λ j. refl) in
    let z2 = sum_new sent count capacity (λ j. refl) in
    let z3 = sum_new waits_in count capacity (λ j. refl) in
    let z4 = sum_new is_busy count capacity (λ j. refl) in
    let first : Numbers start 0 0 0 0 = record { out = omega arith; boxed = omega arith; waits = omega arith } in
    let n = numbers_run run start 0 0 0 0 r (known_start count capacity) first in
    let kinds = event_kinds run in
    let all = sent_all 0 w.count w.nodes in
    let most = messages_bounded count capacity run r in
    let n1 = n.out in let n2 = n.boxed in let n3 = n.waits in
    record { kinds = omega arith; collects = omega arith; all = omega arith }
