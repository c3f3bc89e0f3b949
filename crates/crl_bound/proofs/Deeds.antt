-- What each deed sends is paid: by the call, by what came, or by what the node had.
use Rattle.std.proofs.Common.{◌≡◌, ℕ, zero, suc, ◌+◌, ◌-◌, ◌*◌, ◌≤◌, ◌<◌, ◌==◌, Bool, true, false, not, None, Some, Option, List, [], ◌∷◌, map, length, if◌then◌else◌, refl, ap, sym, ◌∙◌, subst, arith}
use Rattle.std.proofs.lemmas.Bool.{cond_both, cond-true, cond-false, eqb-true, eqb-false, eq-eqb, ne_eqb}
use Rattle.crl_model.specs.declared.name.Name.{Name}
use Rattle.crl_model.specs.declared.stage.Stage.TheVariants as stage
use Rattle.crl_model.specs.declared.collective.Part.{Part}
use Rattle.crl_model.specs.declared.collective.Fold.{Fold}
use Rattle.crl_model.specs.declared.call.Call.{Call}
use Rattle.crl_model.specs.declared.call.Call.TheVariants as call
use Rattle.crl_model.specs.declared.entry.Entry.{Entry}
use Rattle.crl_model.specs.declared.entry.What.{What}
use Rattle.crl_model.specs.declared.message.Kind.{Kind}
use Rattle.crl_model.specs.declared.message.Kind.TheVariants as kind
use Rattle.crl_model.specs.Names.{at_node}
use Rattle.crl_model.specs.FoldOf.{fold_of}
use Rattle.crl_pieces.specs.Pieces.{count}
use Rattle.crl_protocol.specs.Home.{Home, HomeStep}
use Rattle.crl_protocol.specs.Remote.{Remote, RemoteStep}
use Rattle.crl_protocol.specs.Lifetimes.{Mapping, members, members_from}
use Rattle.crl_protocol.specs.Gathering.{with_part, all_parts, no_parts}
use Rattle.crl_protocol.specs.Sections.{OpenSection, section_at, section_of, section_bytes, bytes_at, is_writing}
use Rattle.crl_protocol.specs.Node.{Node, ForSection, Activity, Free, Waiting, Outcome, is_mine, home_of, lifetime_of, map_count, message_to, mail_messages, letter_messages}
use Rattle.crl_protocol.specs.Calls.{results_from, results}
use Rattle.crl_protocol.specs.Handlers.{purges_waiting}
use Rattle.crl_protocol.specs.Verdict.{verdict, refuse_if, of_unmapped, of_end}
use Rattle.crl_model.specs.declared.call.Refusal.TheVariants as refusal
use Rattle.crl_protocol.specs.World.{is_call}
use Rattle.crl_protocol.specs.Talk.{created_pieces, bound_of}
use Rattle.crl_deeds.specs.Deeds.{FreeIf, Cause, Calls, Hears, parting, StartsCall, to_read, to_write, EndsCall, a_read, a_write, Serves, ask_comes, copy_returns, copy_lowers, CallsBack, wholly, to_share, Copies, home_opens, home_waits, side_opens, side_waits, home_ends, side_ends, side_flushes, home_serves, home_serves_own, grant_comes, side_called, Lives, made, used_up, map_asks, map_told, map_refused, map_comes, map_denied, unmaps_doomed, unmaps_evicting, deletes_alone, deletes_own, delete_asks, deletes_alone_for, deletes_for, delete_refused, delete_comes, dooms, drops, warns, counts_off, ends_own, ends_for, Rounds, comes_away, comes_home, comes_last, part_comes, part_last, part_last_idle, result_comes, Notes, ends_nowhere, Deed, copies, lives, rounds, notes, refuses, idles}
use Rattle.crl_deeds.proofs.Laws.{waits_granted, not_mine, home_bytes, remote_bytes, asking_of, mapped_home, mapped_remote}
use Rattle.crl_deeds.specs.Counts.{Counts}
use Rattle.crl_deeds.specs.NodeFacts.{Leaves, RecordFits, CopyFits, Fits}
use Rattle.crl_deeds.specs.Turns.{Came}
use Rattle.crl_bound.proofs.Costs.{token_kind, cost, cost_append, cost_more, cost_one, one_piece}
use Rattle.crl_bound.proofs.Homes.{HomeCredit, asked_credits, returned_credits, released_credits, started_credits, read_credits, write_credits}
use Rattle.crl_bound.proofs.Sides.{SideCredit, IsExclusive, recall_credits, yield_credits, flush_credits, read_end_credits, write_end_credits, start_credits, open_credits, grant_credits}
use Rattle.crl_bound.proofs.Credits.{name_credit, wait_credit, there, parts_credit, fixed_credit, stage_credit, Moved, still_moved, home_moved, side_moved, forget_moved, stage_moved, made_moved, used_moved}

-- what is known of the node: the numbers of pieces are those of its tables and copies, and who writes has an exclusive copy
pub record Facts (P : Name → ℕ) (count_nodes : ℕ) (before : List Entry) (n : Node) : Type 0 where
  pub some : (q : Name) → 1 ≤ P q
  pub home : (q : Name) (h : Home) → home_of n q ≡ Some h → P q ≡ count h.size
  pub side : (q : Name) (r : Remote) → n.remotes q ≡ Some r → P q ≡ count r.size
  pub so_far : (q : Name) (r : Remote) → n.remotes q ≡ Some r → created_pieces q before ≡ P q
  pub writes : (q : Name) (r : Remote) → n.remotes q ≡ Some r → is_writing (section_at q n.sections) ≡ true → IsExclusive r.copy
  pub small : n.me < count_nodes
  pub few : n.nodes ≡ count_nodes
  pub asked : (q : Name) → (lifetime_of n q).asked n.me ≡ false
  pub maps : (q : Name) → Counts (is_mine n q) (n.maps q)

-- what came weighs, and what a call may send
abbrev pub came_token : (Name → ℕ) → ℕ → Cause → ℕ
came_token P nodes (Calls c) = 0
came_token P nodes (Hears from k) = token_kind P nodes k

abbrev pub call_bound : ℕ → List Entry → Cause → ℕ
call_bound nodes before (Calls c) = bound_of nodes before c
call_bound nodes before (Hears from k) = 0

abbrev pub MayCall : Cause → Node → Type 0
MayCall (Calls c) n = is_call n c (verdict n c) ≡ true
MayCall (Hears from k) n = Unit {0}

pub record Paid (P : Name → ℕ) (nodes : ℕ) (n : Node) (o : Outcome) (more : ℕ) : Type 0 where
  pub slack : ℕ
  pub moved : Moved (name_credit P n) (name_credit P o.node) (cost P nodes o.posts) slack
  pub fixed : fixed_credit P o.node + slack ≤ fixed_credit P n + more

abbrev PaidBy : (Name → ℕ) → ℕ → List Entry → Node → Cause → Outcome → Type 0
PaidBy P nodes before n cause o = Paid P nodes n o (came_token P nodes cause + call_bound nodes before cause)

-- The end of a write section leaves as many bytes as the region has.
pub record WrittenAs (n : Node) (name : Name) (after : List ℕ) : Type 0 where
  pub mapping : Mapping
  pub mapped : n.maps name ≡ Some mapping
  pub size : length after ≡ mapping.size

of_writing : (b : Bool) → refuse_if (not b) refusal.NotWriting ≡ None → b ≡ true
of_writing true e = refl
of_writing false e = cc

ends_writing : (n : Node) (name : Name) → of_end true (section_at name n.sections) ≡ None → is_writing (section_at name n.sections) ≡ true
ends_writing n name e = of_writing (is_writing (section_at name n.sections)) e

verdict_none : (n : Node) (name : Name) (after : List ℕ) (m : Mapping) → n.maps name ≡ Some m → 1 ≤ m.count → of_end true (section_at name n.sections) ≡ None → verdict n (call.EndWrite name after) ≡ None
unfolding verdict
verdict_none n name after m is some e =
    let none : (m.count == 0) ≡ false = ne_eqb m.count 0 (λ w. omega arith) in
    let mapped : of_unmapped n name ≡ None = ap (λ o. refuse_if (map_count o == 0) refusal.NotMapped) is ∙ ap (λ b. refuse_if b refusal.NotMapped) none in
    ap (λ o. Rattle.crl_protocol.specs.Verdict.else_if o (of_end true (section_at name n.sections))) mapped ∙ e

written_as : (j : ℕ) (n : Node) (name : Name) (after : List ℕ) → Fits j n → Counts (is_mine n name) (n.maps name) → of_end true (section_at name n.sections) ≡ None → is_call n (call.EndWrite name after) (verdict n (call.EndWrite name after)) ≡ true → WrittenAs n name after
written_as j n name after f counts e may = go (n.sections.records name) refl (n.maps name) refl (f.each name).sections counts
  where
    go : (r : Option OpenSection) → n.sections.records name ≡ r → (o : Option Mapping) → n.maps name ≡ o → RecordFits r o → Counts (is_mine n name) o → WrittenAs n name after
    go None is o mapped fits counts =
        let w = ends_writing n name e in let none : is_writing (section_at name n.sections) ≡ false = ap (λ r. is_writing (section_of r)) is in absurd (let both : true ≡ false = sym w ∙ none in cc)
    go (Some r) is None mapped fits counts = absurd fits
    go (Some r) is (Some m) mapped fits counts =
        let free = verdict_none n name after m mapped counts.0 e in
        let same = subst (λ o. is_call n (call.EndWrite name after) o ≡ true) free may in
        let bytes : length (bytes_at name n.sections) ≡ length r.bytes = ap (λ r. length (section_bytes r)) is in
        record { mapping = m; mapped = mapped; size = eqb-true (length after) (length (bytes_at name n.sections)) same ∙ bytes ∙ fits.0 }

-- Copies.
pub home_pieces : (P : Name → ℕ) (k : ℕ) (es : List Entry) (j : ℕ) (n : Node) (name : Name) (h : Home) → home_of n name ≡ Some h → Fits j n → Facts P k es n → count (length h.bytes) ≡ P name
home_pieces P k es j n name h is f x = ap count (home_bytes j n name h is f) ∙ sym (x.home name h is)

pub serves_credit : (P : Name → ℕ) (nodes k : ℕ) (es : List Entry) (j : ℕ) (n : Node) (h : Home) (from : ℕ) (m : Kind) (name : Name) (s : HomeStep) → Serves n h from m name s → home_of n name ≡ Some h → Fits j n → Facts P k es n → HomeCredit (P name) n.me h s (token_kind P nodes m)
serves_credit P nodes k es j n h from m name s (ask_comes y q write have free) is f x = asked_credits (P q) n.me (record { node = from; write = write; have = have }) h (home_pieces P k es j n q h is f x)
serves_credit P nodes k es j n h from m name s (copy_returns y q version bytes fits) is f x = returned_credits (P q) n.me from version bytes h (home_pieces P k es j n q h is f x) (x.home q h is) fits
serves_credit P nodes k es j n h from m name s (copy_lowers y q version bytes fits) is f x = released_credits (P q) n.me from version bytes h (x.home q h is) fits

pub home_end_credit : (P : Name → ℕ) (k : ℕ) (es : List Entry) (j : ℕ) (n : Node) (c : Call) (name : Name) (w : What) (ends : Home → HomeStep) (lowers : Remote → RemoteStep) (h : Home) → EndsCall (bytes_at name n.sections) n c name w ends lowers → is_call n c (verdict n c) ≡ true
    → home_of n name ≡ Some h → Fits j n → Facts P k es n → HomeCredit (P name) n.me h (ends h) 0
home_end_credit P k es j n c name w ends lowers h (a_read q e) may is f x = read_credits (P q) n.me h (home_pieces P k es j n q h is f x)
home_end_credit P k es j n c name w ends lowers h (a_write q after e) may is f x =
    let a = written_as j n q after f (x.maps q) e.section may in write_credits (P q) n.me after h (ap count (a.size ∙ mapped_home j n q h a.mapping is a.mapped f) ∙ sym (x.home q h is))

side_end_credit : (P : Name → ℕ) (k : ℕ) (es : List Entry) (j : ℕ) (n : Node) (c : Call) (name : Name) (w : What) (ends : Home → HomeStep) (lowers : Remote → RemoteStep) (r : Remote) → EndsCall (bytes_at name n.sections) n c name w ends lowers → is_call n c (verdict n c) ≡ true
    → n.remotes name ≡ Some r → Fits j n → Facts P k es n → SideCredit (P name) r (lowers r) 0
side_end_credit P k es j n c name w ends lowers r (a_read q e) may is f x = read_end_credits (P q) r (remote_bytes j n q r is f) (x.side q r is)
side_end_credit P k es j n c name w ends lowers r (a_write q after e) may is f x =
    let a = written_as j n q after f (x.maps q) e.section may in write_end_credits (P q) after r (a.size ∙ mapped_remote j n q r a.mapping is a.mapped f) (x.writes q r is (ends_writing n q e.section)) (x.side q r is)

called_credit : (P : Name → ℕ) (r : Remote) (m : Kind) (name : Name) (s : RemoteStep) → CallsBack r m name s → CopyFits r.copy r.size → P name ≡ count r.size → SideCredit (P name) r s 0
called_credit P r m name s (wholly q version) f e = recall_credits (P q) version r f e
called_credit P r m name s (to_share q version) f e = yield_credits (P q) version r f e

start_bound : (P : Name → ℕ) (nodes k : ℕ) (es : List Entry) (n : Node) (c : Call) (write : Bool) (name : Name) (r : Remote) → StartsCall c write name → n.remotes name ≡ Some r → Facts P k es n → bound_of nodes es c ≡ 3 + 3 * P name
start_bound P nodes k es n c write name r (to_read q) is x = ap (λ p. 3 + 3 * p) (x.so_far q r is)
start_bound P nodes k es n c write name r (to_write q) is x = ap (λ p. 3 + 3 * p) (x.so_far q r is)

wait_free : (P : Name → ℕ) (n : Node) → n.activity ≡ Free → wait_credit P n.me n.activity ≡ 0
wait_free P n e = ap (wait_credit P n.me) e

paid_copies : (P : Name → ℕ) (nodes : ℕ) (es : List Entry) (j : ℕ) (n : Node) (cause : Cause) (o : Outcome) → Copies n cause o → Fits j n → Came Leaves n.me cause → FreeIf cause n → MayCall cause n → Facts P nodes es n → PaidBy P nodes es n cause o
paid_copies P nodes es j n cause o (home_opens c write name h is e v x) f w free may k =
    record { slack = 0; moved = home_moved P nodes n name h _ 0 e (started_credits (P name) n.me write h (home_pieces P nodes es j n name h e f k)); fixed = omega arith }
paid_copies P nodes es j n cause o (home_waits c write name h is e v x) f w free may k =
    let mine : is_mine n name ≡ true = mine_of n name h e in
    let none : wait_credit P n.me (Waiting (ForSection name)) ≡ 0 = cond-true (name.home == n.me) _ _ mine in
    record { slack = 0; moved = home_moved P nodes n name h _ 0 e (started_credits (P name) n.me write h (home_pieces P nodes es j n name h e f k)); fixed = omega arith }
  where
    mine_of : (n : Node) (name : Name) (h : Home) → home_of n name ≡ Some h → is_mine n name ≡ true
    mine_of n name h e = go (is_mine n name) refl e
      where
        go : (b : Bool) → is_mine n name ≡ b → (if b then Rattle.crl_protocol.specs.Node.at_serial name.serial n.homes else None) ≡ Some h → is_mine n name ≡ true
        go true x y = x
        go false x y = cc
paid_copies P nodes es j n cause o (side_opens c write name r is e g v x) f w free may k =
    record { slack = 0; moved = side_moved P nodes n name r (Rattle.crl_protocol.specs.Remote.remote_starts write r) 0 g (open_credits (P name) write r x); fixed = omega arith }
paid_copies P nodes es j n cause o (side_waits c write name r is e g v x) f w free may k =
    let other = not_mine j n name r g f in
    let wait : wait_credit P n.me (Waiting (ForSection name)) ≡ 2 * P name = cond-false (name.home == n.me) _ _ other in
    let bound = start_bound P nodes nodes es n c write name r is g k in
    record { slack = 3 + P name; moved = side_moved P nodes n name r (Rattle.crl_protocol.specs.Remote.remote_starts write r) (3 + P name) g (start_credits (P name) write r); fixed = omega arith }
paid_copies P nodes es j n cause o (home_ends c name y ends lowers h is e) f w free may k =
    record { slack = 0; moved = home_moved P nodes n name h _ 0 e (home_end_credit P nodes es j n c name y ends lowers h is may e f k); fixed = omega arith }
paid_copies P nodes es j n cause o (side_ends c name y ends lowers r is e g) f w free may k =
    record { slack = 0; moved = side_moved P nodes n name r (lowers r) 0 g (side_end_credit P nodes es j n c name y ends lowers r is may g f k); fixed = omega arith }
paid_copies P nodes es j n cause o (side_flushes name r other e closed) f w free may k =
    record { slack = 0; moved = side_moved P nodes n name r (Rattle.crl_protocol.specs.Remote.remote_flushes r) 0 e (flush_credits (P name) r (remote_bytes j n name r e f) (k.side name r e)); fixed = omega arith }
paid_copies P nodes es j n cause o (home_serves from m name h s is e x) f w free may k =
    record { slack = token_kind P nodes m; moved = home_moved P nodes n name h s _ e (serves_credit P nodes nodes es j n h from m name s is e f k); fixed = omega arith }
paid_copies P nodes es j n cause o (home_serves_own from m name h s is e x) f w free may k =
    record { slack = token_kind P nodes m; moved = home_moved P nodes n name h s _ e (serves_credit P nodes nodes es j n h from m name s is e f k); fixed = omega arith }
paid_copies P nodes es j n cause o (grant_comes from name version g r e y) f w free may k =
    let waits = waits_granted name g r n.activity y (asking_of j n name r e f) in
    let other = not_mine j n name r e f in
    let had : wait_credit P n.me n.activity ≡ 2 * P name = ap (wait_credit P n.me) waits ∙ cond-false (name.home == n.me) _ _ other in
    let c = grant_credits (P name) version g r (k.some name) in
    record { slack = 2 * P name; moved = side_moved P nodes n name r (record { remote = Rattle.crl_protocol.specs.Remote.remote_takes_grant version g r; posts = []; opened = false }) (2 * P name) e (omega arith); fixed = omega arith }
paid_copies P nodes es j n cause o (side_called from m name r s is e) f w free may k =
    record { slack = 0; moved = side_moved P nodes n name r s 0 e (called_credit P r m name s is (remote_bytes j n name r e f) (k.side name r e)); fixed = omega arith }

-- Lifetimes.
purges_cost : (P : Name → ℕ) (nodes : ℕ) (n : Node) (name : Name) (ms : List ℕ) → cost P nodes (map (λ m. message_to n m (kind.Purge name)) ms) ≡ 2 * length ms
purges_cost P nodes n name [] = refl
purges_cost P nodes n name (m ∷ ms) =
    let rest = purges_cost P nodes n name ms in
    let one = cost_more P nodes (message_to n m (kind.Purge name)) (map (λ m. message_to n m (kind.Purge name)) ms) in
    let piece = one_piece (message_to n m (kind.Purge name)) refl in omega arith

members_most : (set : ℕ → Bool) (m k : ℕ) → length (members_from m k set) ≤ k
members_most set m zero = omega arith
members_most set m (suc k) = let h = members_most set (m + 1) k in cond_both (set m) _ _ (λ (xs : List ℕ). length xs ≤ suc k) (λ w. omega arith) (λ w. omega arith)

members_less : (set : ℕ → Bool) (me m k : ℕ) → set me ≡ false → m ≤ me → me < m + k → length (members_from m k set) + 1 ≤ k
members_less set me m zero e l h = absurd (omega arith)
members_less set me m (suc k) e l h = go (m == me) refl (λ x. members_less set me (m + 1) k e x (omega arith)) (members_most set (m + 1) k)
  where
    go : (b : Bool) → (m == me) ≡ b → (m + 1 ≤ me → length (members_from (m + 1) k set) + 1 ≤ k) → length (members_from (m + 1) k set) ≤ k → length (members_from m (suc k) set) + 1 ≤ suc k
    go true x rest most = let none : set m ≡ false = ap set (eqb-true m me x) ∙ e in let f : members_from m (suc k) set ≡ members_from (m + 1) k set = cond-false (set m) _ _ none in let g = ap length f in omega arith
    go false x rest most = let ne = eqb-false m me x in let r = rest (grind arith) in cond_both (set m) _ _ (λ (xs : List ℕ). length xs + 1 ≤ suc k) (λ w. omega arith) (λ w. omega arith)

purged_few : (P : Name → ℕ) (nodes : ℕ) (es : List Entry) (n : Node) (name : Name) → Facts P nodes es n → length (members n.nodes (lifetime_of n name).asked) + 1 ≤ nodes
purged_few P nodes es n name x = let f = x.few in let h = members_less (lifetime_of n name).asked n.me 0 n.nodes (x.asked name) (omega arith) (let s = x.small in omega arith) in omega arith

going_credit : (me deleter : ℕ) → stage_credit me (stage.Going deleter) ≤ 1
going_credit me deleter = cond_both (deleter == me) 0 1 (λ x. x ≤ 1) (λ w. omega arith) (λ w. omega arith)

forgets_fit : (P : Name → ℕ) (nodes : ℕ) (es : List Entry) (j : ℕ) (n : Node) (name : Name) → Fits j n → Facts P nodes es n → (r : Remote) → n.remotes name ≡ Some r → CopyFits r.copy r.size × (P name ≡ count r.size)
forgets_fit P nodes es j n name f x r e = (remote_bytes j n name r e f, x.side name r e)

warned : (P : Name → ℕ) (me : ℕ) (name : Name) (a : Activity) → wait_credit P me (purges_waiting name a) ≡ wait_credit P me a
warned P me name (Waiting (Rattle.crl_protocol.specs.Node.ForMap p purged)) = refl
warned P me name _ = refl

paid_lives : (P : Name → ℕ) (nodes : ℕ) (es : List Entry) (j : ℕ) (n : Node) (cause : Cause) (o : Outcome) → Lives n cause o → Fits j n → FreeIf cause n → Facts P nodes es n → PaidBy P nodes es n cause o
paid_lives P nodes es j n cause o (made size e) f free x = record { slack = 0; moved = made_moved P n size 0; fixed = omega arith }
paid_lives P nodes es j n cause o (used_up size why e y) f free x = record { slack = 0; moved = used_moved P n 0; fixed = omega arith }
paid_lives P nodes es j n cause o (map_asks name e other c real) f free x = record { slack = 2; moved = still_moved (name_credit P n) _ 2 (let k = cost_one P nodes (message_to n name.home (kind.InfoAsk name)) refl in omega arith); fixed = omega arith }
paid_lives P nodes es j n cause o (map_told from name mine live) f free x =
    record { slack = 1; moved = stage_moved P n name _ stage.Live stage.Live _ 1 mine live live (let k = cost_one P nodes (message_to n from (kind.InfoIs name (Rattle.crl_model.specs.declared.message.Told.TheVariants.Live (Rattle.crl_protocol.specs.Calls.size_of (home_of n name))))) refl in omega arith); fixed = omega arith }
paid_lives P nodes es j n cause o (map_refused from name why t y u) f free x = record { slack = 1; moved = still_moved (name_credit P n) _ 1 (let k = cost_one P nodes (message_to n from (kind.InfoIs name t)) refl in omega arith); fixed = omega arith }
paid_lives P nodes es j n cause o (map_comes from name purged size e) f free x = record { slack = 0; moved = comes_moved (n.remotes name); fixed = let z = ap (wait_credit P n.me) e in omega arith }
  where
    comes_moved : Option Remote → Moved (name_credit P n) (name_credit P o.node) (cost P nodes o.posts) 0
    comes_moved r = record {
      name = name;
      others = λ q y. (let z = Rattle.crl_bound.proofs.Credits.side_put P n name q (Some (Rattle.crl_protocol.specs.Remote.new_remote size)) y in omega arith);
      own = (let z = Rattle.crl_bound.proofs.Credits.side_there P n name (Some (Rattle.crl_protocol.specs.Remote.new_remote size)) in omega arith);
    }
paid_lives P nodes es j n cause o (map_denied from name purged s why t y u e) f free x = record { slack = 0; moved = still_moved (name_credit P n) _ 0 (omega arith); fixed = let z = ap (wait_credit P n.me) e in omega arith }
paid_lives P nodes es j n cause o (unmaps_doomed name m e one other doomed closed) f free x = record { slack = 0; moved = forget_moved P nodes n name (n.remotes name) refl (forgets_fit P nodes es j n name f x); fixed = omega arith }
paid_lives P nodes es j n cause o (unmaps_evicting name m old e one other sound closed kept) f free x = record { slack = 0; moved = forget_moved P nodes n old (n.remotes old) refl (forgets_fit P nodes es j n old f x); fixed = omega arith }
paid_lives P nodes es j n cause o (deletes_alone name mine live e) f free x = record { slack = 0; moved = stage_moved P n name _ stage.Live stage.Gone _ 0 mine live refl (omega arith); fixed = omega arith }
paid_lives P nodes es j n cause o (deletes_own name m ms mine live e) f free x =
    let sent = purges_cost P nodes n name (members n.nodes (lifetime_of n name).asked) in
    let few = purged_few P nodes es n name x in
    let none : stage_credit n.me (stage.Going n.me) ≡ 0 = cond-true (n.me == n.me) 0 1 (eq-eqb n.me n.me refl) in
    record { slack = 2 * nodes; moved = stage_moved P n name _ stage.Live (stage.Going n.me) _ (2 * nodes) mine live refl (omega arith); fixed = omega arith }
paid_lives P nodes es j n cause o (delete_asks name other real) f free x =
    record { slack = 2 * nodes; moved = still_moved (name_credit P n) _ (2 * nodes) (let k = cost_one P nodes (message_to n name.home (kind.DeleteAsk name)) refl in let s = x.small in omega arith); fixed = omega arith }
paid_lives P nodes es j n cause o (deletes_alone_for from name mine live e) f free x =
    let s = x.small in
    record { slack = 2 * nodes - 1; moved = stage_moved P n name _ stage.Live stage.Gone _ (2 * nodes - 1) mine live refl (let k = cost_one P nodes (message_to n from (kind.DeleteIs name Rattle.crl_model.specs.declared.message.DeleteTold.TheVariants.Done)) refl in omega arith); fixed = omega arith }
paid_lives P nodes es j n cause o (deletes_for from name m ms mine live e) f free x =
    let sent = purges_cost P nodes n name (members n.nodes (lifetime_of n name).asked) in
    let few = purged_few P nodes es n name x in
    let one = going_credit n.me from in
    record { slack = 2 * nodes - 1; moved = stage_moved P n name _ stage.Live (stage.Going from) _ (2 * nodes - 1) mine live refl (omega arith); fixed = omega arith }
paid_lives P nodes es j n cause o (delete_refused from name why t y u) f free x =
    let s = x.small in
    record { slack = 2 * nodes - 1; moved = still_moved (name_credit P n) _ (2 * nodes - 1) (let k = cost_one P nodes (message_to n from (kind.DeleteIs name y)) refl in omega arith); fixed = omega arith }
paid_lives P nodes es j n cause o (delete_comes from name t e) f free x = record { slack = 0; moved = still_moved (name_credit P n) _ 0 (omega arith); fixed = let z = ap (wait_credit P n.me) e in omega arith }
paid_lives P nodes es j n cause o (dooms from name m e) f free x = record { slack = 1; moved = still_moved (name_credit P n) _ 1 (let k = cost_one P nodes (message_to n from (kind.Purged name)) refl in omega arith); fixed = omega arith }
paid_lives P nodes es j n cause o (drops from name size e c) f free x =
    let both = cost_append P nodes (parting n name (n.remotes name)) (message_to n from (kind.Purged name) ∷ []) in
    let k = cost_one P nodes (message_to n from (kind.Purged name)) refl in
    let m = forget_moved P nodes n name (n.remotes name) refl (forgets_fit P nodes es j n name f x) in
    let own = m.own in
    record { slack = 1; moved = record { name = m.name; others = m.others; own = omega arith }; fixed = omega arith }
paid_lives P nodes es j n cause o (warns from name e c) f free x =
    let same = warned P n.me name n.activity in
    record { slack = 1; moved = still_moved (name_credit P n) _ 1 (let k = cost_one P nodes (message_to n from (kind.Purged name)) refl in omega arith); fixed = omega arith }
paid_lives P nodes es j n cause o (counts_off from name deleter m ms mine e missing left) f free x = record { slack = 0; moved = stage_moved P n name _ (stage.Going deleter) (stage.Going deleter) _ 0 mine e e (omega arith); fixed = omega arith }
paid_lives P nodes es j n cause o (ends_own from name mine e missing last) f free x = record { slack = 0; moved = stage_moved P n name _ (stage.Going n.me) stage.Gone _ 0 mine e refl (omega arith); fixed = omega arith }
paid_lives P nodes es j n cause o (ends_for from name deleter mine e other missing last) f free x =
    let one : stage_credit n.me (stage.Going deleter) ≡ 1 = cond-false (deleter == n.me) 0 1 other in
    record { slack = 0; moved = stage_moved P n name _ (stage.Going deleter) stage.Gone _ 0 mine e refl (let k = cost_one P nodes (message_to n deleter (kind.DeleteIs name Rattle.crl_model.specs.declared.message.DeleteTold.TheVariants.Done)) refl in omega arith); fixed = omega arith }
paid_lives P nodes es j n cause o _ f free x = record { slack = 0; moved = still_moved (name_credit P n) _ 0 (omega arith); fixed = omega arith }

-- Rounds.
parts_before : (m k from : ℕ) (parts : ℕ → Option Part) (p : Part) → from < m → parts_credit m k (at_node parts from (Some p)) ≡ parts_credit m k parts
parts_before m zero from parts p h = refl
parts_before m (suc k) from parts p h =
    let rest = parts_before (m + 1) k from parts p (omega arith) in
    let here : there (at_node parts from (Some p) m) ≡ there (parts m) = ap there (cond-false (from == m) (Some p) (parts m) (ne_eqb from m (λ w. omega arith))) in omega arith

parts_more : (m k from : ℕ) (parts : ℕ → Option Part) (p : Part) → parts_credit m k (at_node parts from (Some p)) ≤ parts_credit m k parts + 1
parts_more m zero from parts p = omega arith
parts_more m (suc k) from parts p = go (from == m) refl (parts_more (m + 1) k from parts p)
  where
    go : (b : Bool) → (from == m) ≡ b → parts_credit (m + 1) k (at_node parts from (Some p)) ≤ parts_credit (m + 1) k parts + 1 → parts_credit m (suc k) (at_node parts from (Some p)) ≤ parts_credit m (suc k) parts + 1
    go true x rest =
        let same = eqb-true from m x in
        let left = parts_before (m + 1) k from parts p (omega arith) in
        let here : there (at_node parts from (Some p) m) ≡ 1 = ap there (cond-true (from == m) (Some p) (parts m) x) in omega arith
    go false x rest = let here : there (at_node parts from (Some p) m) ≡ there (parts m) = ap there (cond-false (from == m) (Some p) (parts m) x) in omega arith

pub parts_none : (m k : ℕ) → parts_credit m k no_parts ≡ 0
parts_none m zero = refl
parts_none m (suc k) = let h = parts_none (m + 1) k in omega arith

both_there : (o : Option Part) (r : Option (List Part)) (ps : List Part) → with_part o r ≡ Some ps → (there o ≡ 1) × (qs : List Part) × (r ≡ Some qs)
both_there None r ps e = cc
both_there (Some p) None ps e = cc
both_there (Some p) (Some qs) ps e = (refl, qs, refl)

all_credit : (m k : ℕ) (parts : ℕ → Option Part) (ps : List Part) → all_parts m k parts ≡ Some ps → parts_credit m k parts ≡ k
all_credit m zero parts ps e = refl
all_credit m (suc k) parts ps e =
    let both = both_there (parts m) (all_parts (m + 1) k parts) ps e in let rest = all_credit (m + 1) k parts both.1 both.2 in let here = both.0 in omega arith

full_credit : (nodes : ℕ) (parts : ℕ → Option Part) (ps : List Part) → all_parts 0 nodes parts ≡ Some ps → parts_credit 1 (nodes - 1) parts ≡ nodes - 1
full_credit zero parts ps e = refl
full_credit (suc k) parts ps e =
    let both = both_there (parts 0) (all_parts (0 + 1) k parts) ps e in
    let less : suc k - 1 ≡ k = omega arith in
    subst (λ x. parts_credit 1 x parts ≡ x) (sym less) (all_credit 1 k parts both.1 both.2)

results_cost : (P : Name → ℕ) (nodes : ℕ) (n : Node) (m k round : ℕ) (f : Fold) → cost P nodes (results_from n m k round f) ≡ k
results_cost P nodes n m zero round f = refl
results_cost P nodes n m (suc k) round f =
    let rest = results_cost P nodes n (m + 1) k round f in
    let one = cost_more P nodes (message_to n m (kind.Result round f)) (results_from n (m + 1) k round f) in
    let piece = one_piece (message_to n m (kind.Result round f)) refl in omega arith

paid_rounds : (P : Name → ℕ) (nodes : ℕ) (es : List Entry) (n : Node) (cause : Cause) (o : Outcome) → Rounds n cause o → FreeIf cause n → PaidBy P nodes es n cause o
paid_rounds P nodes es n cause o (comes_away part other fits) free = record { slack = 2; moved = still_moved (name_credit P n) _ 2 (let k = cost_one P nodes (message_to n 0 (kind.Come (n.rounds + 1) part)) refl in omega arith); fixed = omega arith }
paid_rounds P nodes es n cause o (comes_home part first fits all) free = let z = parts_before 1 (n.nodes - 1) 0 n.gathering.parts part (omega arith) in record { slack = 0; moved = still_moved (name_credit P n) _ 0 (omega arith); fixed = omega arith }
paid_rounds P nodes es n cause o (comes_last part parts first fits all) free =
    let z = parts_before 1 (n.nodes - 1) 0 n.gathering.parts part (omega arith) in
    let full = full_credit n.nodes (at_node n.gathering.parts 0 (Some part)) parts all in
    let none = parts_none 1 (n.nodes - 1) in
    let sent = results_cost P nodes n 1 (n.nodes - 1) (n.rounds + 1) (fold_of parts) in
    record { slack = n.nodes - 1; moved = still_moved (name_credit P n) _ (n.nodes - 1) (omega arith); fixed = omega arith }
paid_rounds P nodes es n cause o (part_comes from round part a all) free = let z = parts_more 1 (n.nodes - 1) from n.gathering.parts part in record { slack = 0; moved = still_moved (name_credit P n) _ 0 (omega arith); fixed = omega arith }
paid_rounds P nodes es n cause o (part_last from round part parts mine k e a all) free =
    let z = parts_more 1 (n.nodes - 1) from n.gathering.parts part in
    let full = full_credit n.nodes (at_node n.gathering.parts from (Some part)) parts all in
    let none = parts_none 1 (n.nodes - 1) in
    let sent = results_cost P nodes n 1 (n.nodes - 1) n.gathering.round (fold_of parts) in
    record { slack = n.nodes - 1; moved = still_moved (name_credit P n) _ (n.nodes - 1) (omega arith); fixed = omega arith }
paid_rounds P nodes es n cause o (part_last_idle from round part parts idle a all) free =
    let z = parts_more 1 (n.nodes - 1) from n.gathering.parts part in
    let full = full_credit n.nodes (at_node n.gathering.parts from (Some part)) parts all in
    let none = parts_none 1 (n.nodes - 1) in
    let sent = results_cost P nodes n 1 (n.nodes - 1) n.gathering.round (fold_of parts) in
    record { slack = n.nodes - 1; moved = still_moved (name_credit P n) _ (n.nodes - 1) (omega arith); fixed = omega arith }
paid_rounds P nodes es n cause o (result_comes from round fold k e) free = record { slack = 0; moved = still_moved (name_credit P n) _ 0 (omega arith); fixed = omega arith }

paid_notes : (P : Name → ℕ) (nodes : ℕ) (n : Node) (c : Call) (w : What) (m : Node) → Notes n c w m → Moved (name_credit P n) (name_credit P m) 0 0 × (fixed_credit P m ≡ fixed_credit P n)
paid_notes P nodes n c w m (ends_nowhere x name y ends lowers is e) = (still_moved (name_credit P n) 0 0 (omega arith), refl)
paid_notes P nodes n c w m _ = (still_moved (name_credit P n) 0 0 (omega arith), refl)

pub paid_deed : (P : Name → ℕ) (nodes : ℕ) (es : List Entry) (j : ℕ) (n : Node) (cause : Cause) (o : Outcome) → Deed n cause o → Fits j n → Came Leaves n.me cause → FreeIf cause n → MayCall cause n → Facts P nodes es n → PaidBy P nodes es n cause o
paid_deed P nodes es j n cause o (copies c) f away free may x = paid_copies P nodes es j n cause o c f away free may x
paid_deed P nodes es j n cause o (lives c) f away free may x = paid_lives P nodes es j n cause o c f free x
paid_deed P nodes es j n cause o (rounds c) f away free may x = paid_rounds P nodes es n cause o c free
paid_deed P nodes es j n cause o (notes {m = m} c) f away free may x = let p = paid_notes P nodes n _ _ m c in record { slack = 0; moved = p.0; fixed = let same = p.1 in omega arith }
paid_deed P nodes es j n cause o (refuses c why v) f away free may x = record { slack = 0; moved = still_moved (name_credit P n) 0 0 (omega arith); fixed = omega arith }
paid_deed P nodes es j n cause o (idles h) f away free may x = record { slack = 0; moved = still_moved (name_credit P n) 0 0 (omega arith); fixed = omega arith }
