-- Every message goes from a node of the world to another.
use Rattle.std.proofs.Common.{◌≡◌, ℕ, zero, suc, ◌+◌, ◌-◌, ◌<◌, ◌≤◌, ◌==◌, Bool, true, false, None, Some, Option, List, [], ◌∷◌, map, if◌then◌else◌, refl, ap, sym, ◌∙◌, subst, arith}
use Rattle.std.specs.List.{AllByRecursion}
use Rattle.std.proofs.lemmas.Bool.{and_parts, eqb-true, eqb-false, ltb-true, ne_eqb}
use Rattle.crl_model.specs.declared.name.Name.{Name}
use Rattle.crl_model.specs.declared.collective.Fold.{Fold}
use Rattle.crl_model.specs.declared.call.Call.{Call}
use Rattle.crl_model.specs.declared.entry.What.{What}
use Rattle.crl_model.specs.declared.message.Message.{Message}
use Rattle.crl_model.specs.declared.message.Kind.{Kind}
use Rattle.crl_model.specs.declared.message.Kind.TheVariants as kind
use Rattle.crl_model.specs.Names.{at_name}
use Rattle.crl_protocol.specs.Mail.{Mail, Ask, Grant, Recall, Yield, Return, Release, Letter, kind_about}
use Rattle.crl_protocol.specs.Home.{Home, HomeStep, new_home}
use Rattle.crl_protocol.specs.Remote.{Remote, RemoteStep, remote_starts, remote_flushes}
use Rattle.crl_protocol.specs.Node.{Node, ForMap, Activity, Waiting, Outcome, home_of, with_home, letter_messages, mail_messages, message_to, next_name}
use Rattle.crl_protocol.specs.Calls.{creates, results_from}
use Rattle.crl_protocol.specs.Handlers.{purges_waiting}
use Rattle.crl_protocol.specs.Parcels.{with_load}
use Rattle.crl_protocol.specs.World.{World, new_world}
use Rattle.crl_deeds.specs.Deeds.{Cause, Calls, Hears, parting, EndsCall, a_read, a_write, Serves, ask_comes, copy_returns, copy_lowers, Copies, Lives, Rounds, Notes, Deed, copies, lives, rounds, notes, home_opens, home_waits, side_opens, side_waits, home_ends, side_ends, side_flushes, home_serves, home_serves_own, grant_comes, side_called, made, used_up, map_asks, map_told, map_refused, map_comes, map_denied, unmaps_doomed, unmaps_evicting, deletes_own, deletes_for, delete_asks, deletes_alone_for, delete_refused, delete_comes, dooms, drops, warns, ends_own, ends_for, comes_away, comes_last, part_comes, part_last, part_last_idle, flushes_own}
use Rattle.crl_regions.specs.Addresses.{GoesToOther}
use Rattle.crl_regions.proofs.NodesExist.{ToOther, NodesExist, NodesExistAfter, near_asked, near_returned, near_released, near_starts, near_read, near_write, near_new}
use Rattle.crl_deeds.proofs.Laws.{by_name, home_put, home_end, home_none, all_append, counted_local, counted_start, members_are}
use Rattle.crl_deeds.specs.Turns.{Came, Local, Held}
use Rattle.crl_deeds.specs.Counts.{Plain, Counted, GoingFew}

-- a part of a round goes to node 0
abbrev ToRoot : ℕ → Kind → Type 0
ToRoot to (kind.Come round part) = to ≡ 0
ToRoot to _ = Unit {0}

abbrev pub Sent : ℕ → Message → Type 0
Sent count m = GoesToOther count m × ToRoot m.addressee m.kind

-- what a node has of regions: of its own, only other nodes of the world are listed; of others, their homes are such
abbrev pub NodesExistIf : ℕ → ℕ → Option Home → Type 0
NodesExistIf me count None = Unit {0}
NodesExistIf me count (Some h) = NodesExist me count h

abbrev IsAway : ℕ → ℕ → Name → Type 0
IsAway me count q = (q.home < count) × ((q.home == me) ≡ false)

abbrev pub AwayIf : ℕ → ℕ → Name → Option Remote → Type 0
AwayIf me count q None = Unit {0}
AwayIf me count q (Some r) = IsAway me count q

abbrev MapsAway : ℕ → ℕ → Activity → Type 0
MapsAway me count (Waiting (ForMap q purged)) = IsAway me count q
MapsAway me count _ = Unit {0}

pub record Addresses (count : ℕ) (n : Node) : Type 0 where
  pub homes : (q : Name) → NodesExistIf n.me count (home_of n q)
  pub sides : (q : Name) → AwayIf n.me count q (n.remotes q)
  pub waits : MapsAway n.me count n.activity

-- What it sends.
to_other : (count to : ℕ) (n : Node) (k : Kind) → n.me < count → to < count → (to == n.me) ≡ false → ToRoot to k → Sent count (message_to n to k)
to_other count to n k few less other root = (record { sender = few; addressee = less; other = λ e. eqb-false to n.me other (sym e) }, root)

mail_sent : (count to : ℕ) (n : Node) (name : Name) (m : Mail) → n.me < count → to < count → (to == n.me) ≡ false → Sent count (message_to n to (kind_about name m))
mail_sent count to n name (Ask write have) few less other = to_other count to n _ few less other tt
mail_sent count to n name (Grant version granted) few less other = to_other count to n _ few less other tt
mail_sent count to n name (Recall version) few less other = to_other count to n _ few less other tt
mail_sent count to n name (Yield version) few less other = to_other count to n _ few less other tt
mail_sent count to n name (Return version bytes) few less other = to_other count to n _ few less other tt
mail_sent count to n name (Release version bytes) few less other = to_other count to n _ few less other tt

letters_sent : (count : ℕ) (n : Node) (name : Name) (posts : List Letter) → n.me < count → AllByRecursion (ToOther n.me count) posts → AllByRecursion (Sent count) (letter_messages n name posts)
letters_sent count n name [] few h = tt
letters_sent count n name (l ∷ posts) few h = (mail_sent count l.to n name l.mail few h.0.1.0 h.0.1.1, letters_sent count n name posts few h.1)

mails_sent : (count : ℕ) (n : Node) (name : Name) (posts : List Mail) → n.me < count → IsAway n.me count name → AllByRecursion (Sent count) (mail_messages n name posts)
mails_sent count n name [] few h = tt
mails_sent count n name (m ∷ posts) few h = (mail_sent count name.home n name m few h.0 h.1, mails_sent count n name posts few h)

parting_sent : (count : ℕ) (n : Node) (name : Name) (o : Option Remote) → n.me < count → AwayIf n.me count name o → AllByRecursion (Sent count) (parting n name o)
parting_sent count n name None few h = tt
parting_sent count n name (Some r) few h = mails_sent count n name (remote_flushes r).posts few h

-- Over copies.
near_at : (count : ℕ) (n : Node) (name : Name) (h : Home) → home_of n name ≡ Some h → ((q : Name) → NodesExistIf n.me count (home_of n q)) → NodesExist n.me count h
near_at count n name h e k = subst (NodesExistIf n.me count) e (k name)

away_at : (count : ℕ) (n : Node) (name : Name) (r : Remote) → n.remotes name ≡ Some r → ((q : Name) → AwayIf n.me count q (n.remotes q)) → IsAway n.me count name
away_at count n name r e k = subst (AwayIf n.me count name) e (k name)

homes_with : (count : ℕ) (n : Node) (name : Name) (h g : Home) → home_of n name ≡ Some h → ((q : Name) → NodesExistIf n.me count (home_of n q)) → NodesExist n.me count g → (q : Name) → NodesExistIf n.me count (home_of (with_home name g n) q)
homes_with count n name h g e k near q =
    subst (NodesExistIf n.me count) (sym (home_put n name h g e q)) (by_name name (λ b p. NodesExistIf n.me count (if b then Some g else home_of n p)) near (λ p other. k p) q)

sides_with : (count : ℕ) (n : Node) (name : Name) (o : Option Remote) → AwayIf n.me count name o → ((q : Name) → AwayIf n.me count q (n.remotes q)) → (q : Name) → AwayIf n.me count q (at_name n.remotes name o q)
sides_with count n name o h k q = by_name name (λ b p. AwayIf n.me count p (if b then o else n.remotes p)) h (λ p other. k p) q

ends_near : (n : Node) (count : ℕ) (bytes : List ℕ) (c : Call) (name : Name) (w : What) (ends : Home → HomeStep) (lowers : Remote → RemoteStep) (h : Home) → EndsCall bytes n c name w ends lowers → NodesExist n.me count h → NodesExistAfter n.me count (ends h)
ends_near n count bytes c name w ends lowers h (a_read q v) k = near_read n.me count h k
ends_near n count bytes c name w ends lowers h (a_write q after v) k = near_write n.me count after h k

serves_near : (count : ℕ) (n : Node) (h : Home) (from : ℕ) (k : Kind) (name : Name) (s : HomeStep) → Serves n h from k name s → from < count → NodesExist n.me count h → NodesExistAfter n.me count s
serves_near count n h from k name s (ask_comes f q write have e) few near = near_asked n.me count _ h few near
serves_near count n h from k name s (copy_returns f q version bytes e) few near = near_returned n.me count from bytes h near
serves_near count n h from k name s (copy_lowers f q version bytes e) few near = near_released n.me count from version bytes h near

abbrev Kept : ℕ → Node → Outcome → Type 0
Kept count n o = Addresses count o.node × AllByRecursion (Sent count) o.posts

at_home : (count : ℕ) (n m : Node) (name : Name) (h : Home) (s : HomeStep) → home_of n name ≡ Some h → n.me < count → NodesExistAfter n.me count s → Addresses count n
    → m.me ≡ n.me → ((q : Name) → home_of m q ≡ home_of (with_home name s.home n) q) → ((q : Name) → m.remotes q ≡ n.remotes q) → MapsAway n.me count m.activity
    → Addresses count m × AllByRecursion (Sent count) (letter_messages n name s.posts)
at_home count n m name h s e few near k me homes sides waits = (
  record {
    homes = λ q. subst (λ x. NodesExistIf x count (home_of m q)) (sym me) (subst (NodesExistIf n.me count) (sym (homes q)) (homes_with count n name h s.home e k.homes near.near q));
    sides = λ q. subst (λ x. AwayIf x count q (m.remotes q)) (sym me) (subst (AwayIf n.me count q) (sym (sides q)) (k.sides q));
    waits = subst (λ x. MapsAway x count m.activity) (sym me) waits;
  },
  letters_sent count n name s.posts few near.posts,
)

at_side : (count : ℕ) (n m : Node) (name : Name) (r : Remote) (s : RemoteStep) → n.remotes name ≡ Some r → n.me < count → Addresses count n
    → m.me ≡ n.me → ((q : Name) → home_of m q ≡ home_of n q) → ((q : Name) → m.remotes q ≡ at_name n.remotes name (Some s.remote) q) → MapsAway n.me count m.activity
    → Addresses count m × AllByRecursion (Sent count) (mail_messages n name s.posts)
at_side count n m name r s e few k me homes sides waits = let away = away_at count n name r e k.sides in (
  record {
    homes = λ q. subst (λ x. NodesExistIf x count (home_of m q)) (sym me) (subst (NodesExistIf n.me count) (sym (homes q)) (k.homes q));
    sides = λ q. subst (λ x. AwayIf x count q (m.remotes q)) (sym me) (subst (AwayIf n.me count q) (sym (sides q)) (sides_with count n name (Some s.remote) away k.sides q));
    waits = subst (λ x. MapsAway x count m.activity) (sym me) waits;
  },
  mails_sent count n name s.posts few away,
)

copies_kept : (count : ℕ) (n : Node) (cause : Cause) (o : Outcome) → Copies n cause o → n.me < count → Came (Sent count) n.me cause → Addresses count n → Kept count n o
copies_kept count n cause o (home_opens c write name h is e v x) few came k = at_home count n o.node name h _ e few (near_starts n.me count write h few (near_at count n name h e k.homes)) k refl (λ q. refl) (λ q. refl) k.waits
copies_kept count n cause o (home_waits c write name h is e v x) few came k = at_home count n o.node name h _ e few (near_starts n.me count write h few (near_at count n name h e k.homes)) k refl (λ q. refl) (λ q. refl) tt
copies_kept count n cause o (home_ends c name w ends lowers h is e) few came k = at_home count n o.node name h _ e few (ends_near n count _ c name w ends lowers h is (near_at count n name h e k.homes)) k refl (λ q. refl) (λ q. refl) k.waits
copies_kept count n cause o (home_serves from k0 name h s is e x) few came k = at_home count n o.node name h s e few (serves_near count n h from k0 name s is came.0.sender (near_at count n name h e k.homes)) k refl (λ q. refl) (λ q. refl) k.waits
copies_kept count n cause o (home_serves_own from k0 name h s is e x) few came k = at_home count n o.node name h s e few (serves_near count n h from k0 name s is came.0.sender (near_at count n name h e k.homes)) k refl (λ q. refl) (λ q. refl) tt
copies_kept count n cause o (side_opens c write name r is e f v x) few came k = at_side count n o.node name r (remote_starts write r) f few k refl (λ q. refl) (λ q. refl) k.waits
copies_kept count n cause o (side_waits c write name r is e f v x) few came k = at_side count n o.node name r (remote_starts write r) f few k refl (λ q. refl) (λ q. refl) tt
copies_kept count n cause o (side_ends c name w ends lowers r is e f) few came k = at_side count n o.node name r (lowers r) f few k refl (λ q. refl) (λ q. refl) k.waits
copies_kept count n cause o (side_flushes name r other e closed) few came k = at_side count n o.node name r (remote_flushes r) e few k refl (λ q. refl) (λ q. refl) k.waits
copies_kept count n cause o (side_called from k0 name r s is e) few came k = at_side count n o.node name r s e few k refl (λ q. refl) (λ q. refl) k.waits
copies_kept count n cause o (grant_comes from name version g r e t) few came k =
    (record { homes = k.homes; sides = sides_with count n name _ (away_at count n name r e k.sides) k.sides; waits = tt }, tt)

-- Over lifetimes.
homes_made : (count : ℕ) (n : Node) (size : ℕ) → ((q : Name) → NodesExistIf n.me count (home_of n q)) → (q : Name) → NodesExistIf n.me count (home_of (creates size n).node q)
homes_made count n size k q =
    subst (NodesExistIf n.me count) (sym (home_end n (creates size n).node _ refl refl q)) (by_name (next_name n) (λ b p. NodesExistIf n.me count (if b then Some (new_home n.nodes size) else home_of n p)) (near_new n.me count n.nodes size) (λ p other. k p) q)

waits_warned : (me count : ℕ) (name : Name) (a : Activity) → MapsAway me count a → MapsAway me count (purges_waiting name a)
waits_warned me count name (Waiting (ForMap p purged)) h = h
waits_warned me count name _ h = h

lives_kept : (count : ℕ) (n : Node) (cause : Cause) (o : Outcome) → Lives n cause o → n.nodes ≡ count → Addresses count n → Addresses count o.node
lives_kept count n cause o (made size e) all k = record { homes = homes_made count n size k.homes; sides = k.sides; waits = k.waits }
lives_kept count n cause o (used_up size why e x) all k = record { homes = λ q. subst (NodesExistIf n.me count) (sym (home_none n q)) (k.homes q); sides = k.sides; waits = k.waits }
lives_kept count n cause o (map_asks name e other c real) all k = record { homes = k.homes; sides = k.sides; waits = (subst (λ k. name.home < k) all (ltb-true _ _ (and_parts _ _ real).0), other) }
lives_kept count n cause o (map_comes from name purged size e) all k = record { homes = k.homes; sides = sides_with count n name _ (subst (MapsAway n.me count) e k.waits) k.sides; waits = tt }
lives_kept count n cause o (map_denied from name purged s why t d u e) all k = record { homes = k.homes; sides = k.sides; waits = tt }
lives_kept count n cause o (unmaps_doomed name m e one other doomed closed) all k = record { homes = k.homes; sides = sides_with count n name None tt k.sides; waits = k.waits }
lives_kept count n cause o (unmaps_evicting name m old e one other sound closed kept) all k = record { homes = k.homes; sides = sides_with count n old None tt k.sides; waits = k.waits }
lives_kept count n cause o (drops from name size e c) all k = record { homes = k.homes; sides = sides_with count n name None tt k.sides; waits = k.waits }
lives_kept count n cause o (deletes_own name m ms mine live e) all k = record { homes = k.homes; sides = k.sides; waits = tt }
lives_kept count n cause o (delete_asks name other real) all k = record { homes = k.homes; sides = k.sides; waits = tt }
lives_kept count n cause o (delete_comes from name d e) all k = record { homes = k.homes; sides = k.sides; waits = tt }
lives_kept count n cause o (warns from name e c) all k = record { homes = k.homes; sides = k.sides; waits = waits_warned n.me count name n.activity k.waits }
lives_kept count n cause o (ends_own from name mine e missing last) all k = record { homes = k.homes; sides = k.sides; waits = tt }
lives_kept count n cause o _ all k = record { homes = k.homes; sides = k.sides; waits = k.waits }

abbrev Member : (ℕ → Bool) → ℕ → ℕ → Type 0
Member set count j = (set j ≡ true) × (j < count)

purges_sent : (count : ℕ) (n : Node) (name : Name) (set : ℕ → Bool) (ms : List ℕ) → n.me < count → set n.me ≡ false → AllByRecursion (Member set count) ms
    → AllByRecursion (Sent count) (map (λ m. message_to n m (kind.Purge name)) ms)
purges_sent count n name set [] few h all = tt
purges_sent count n name set (m ∷ ms) few h all =
    (to_other count m n _ few all.0.1 (ne_eqb m n.me (λ w. let both : true ≡ false = sym all.0.0 ∙ ap set w ∙ h in cc)) tt, purges_sent count n name set ms few h all.1)

-- the answer to a message
reply_sent : (count : ℕ) (n : Node) (from : ℕ) (k m : Kind) → Sent count (record { sender = from; addressee = n.me; kind = m }) → n.me < count → ToRoot from k → Sent count (message_to n from k)
reply_sent count n from k m came few root = to_other count from n k few came.0.sender (ne_eqb from n.me came.0.other) root

lives_sent : (count i : ℕ) (n : Node) (cause : Cause) (o : Outcome) → Lives n cause o → n.me < count → Came (Sent count) n.me cause → Counted count i n → Addresses count n → AllByRecursion (Sent count) o.posts
lives_sent count i n cause o (map_asks name e other c real) few f c0 k = (to_other count name.home n _ few (subst (λ k. name.home < k) c0.few (ltb-true _ _ (and_parts _ _ real).0)) other tt, tt)
lives_sent count i n cause o (map_told from name mine live) few f c0 k = (reply_sent count n from _ _ f few tt, tt)
lives_sent count i n cause o (map_refused from name why t d u) few f c0 k = (reply_sent count n from _ _ f few tt, tt)
lives_sent count i n cause o (unmaps_doomed name m e one other doomed closed) few f c0 k = parting_sent count n name (n.remotes name) few (k.sides name)
lives_sent count i n cause o (unmaps_evicting name m old e one other sound closed kept) few f c0 k = parting_sent count n old (n.remotes old) few (k.sides old)
lives_sent count i n cause o (deletes_own name m ms mine live e) few f c0 k = purges_sent count n name _ _ few (c0.asked name) (members_are _ count 0 n.nodes (let all = c0.few in omega arith))
lives_sent count i n cause o (deletes_for from name m ms mine live e) few f c0 k = purges_sent count n name _ _ few (c0.asked name) (members_are _ count 0 n.nodes (let all = c0.few in omega arith))
lives_sent count i n cause o (delete_asks name other real) few f c0 k = (to_other count name.home n _ few (subst (λ k. name.home < k) c0.few (ltb-true _ _ (and_parts _ _ real).0)) other tt, tt)
lives_sent count i n cause o (deletes_alone_for from name mine live e) few f c0 k = (reply_sent count n from _ _ f few tt, tt)
lives_sent count i n cause o (delete_refused from name why t d u) few f c0 k = (reply_sent count n from _ _ f few tt, tt)
lives_sent count i n cause o (dooms from name m e) few f c0 k = (reply_sent count n from _ _ f few tt, tt)
lives_sent count i n cause o (drops from name size e c) few f c0 k = all_append (Sent count) (parting n name (n.remotes name)) _ (parting_sent count n name (n.remotes name) few (k.sides name)) (reply_sent count n from _ _ f few tt, tt)
lives_sent count i n cause o (warns from name e c) few f c0 k = (reply_sent count n from _ _ f few tt, tt)
lives_sent count i n cause o (ends_for from name deleter mine e other missing last) few f c0 k = (to_other count deleter n _ few (subst (GoingFew count) e (c0.deleters name)) other tt, tt)
lives_sent count i n cause o _ few f c0 k = tt

-- Over rounds.
rounds_kept : (count : ℕ) (n : Node) (cause : Cause) (o : Outcome) → Rounds n cause o → Addresses count n → Addresses count o.node
rounds_kept count n cause o (comes_last part parts first fits all) k = record { homes = k.homes; sides = k.sides; waits = k.waits }
rounds_kept count n cause o (part_comes from round part a all) k = record { homes = k.homes; sides = k.sides; waits = k.waits }
rounds_kept count n cause o (part_last_idle from round part parts idle a all) k = record { homes = k.homes; sides = k.sides; waits = k.waits }
rounds_kept count n cause o _ k = record { homes = k.homes; sides = k.sides; waits = tt }

results_sent : (count : ℕ) (n : Node) (m k round : ℕ) (fold : Fold) → n.me ≡ 0 → 1 ≤ m → m + k ≤ count → AllByRecursion (Sent count) (results_from n m k round fold)
results_sent count n m zero round fold first past all = tt
results_sent count n m (suc k) round fold first past all =
    (to_other count m n _ (omega arith) (omega arith) (ne_eqb m n.me (λ w. omega arith)) tt, results_sent count n (m + 1) k round fold first (omega arith) (omega arith))

all_results : (count : ℕ) (n : Node) (round : ℕ) (fold : Fold) → n.me < count → n.me ≡ 0 → n.nodes ≡ count → AllByRecursion (Sent count) (results_from n 1 (n.nodes - 1) round fold)
all_results count n round fold few first all = results_sent count n 1 (n.nodes - 1) round fold first (omega arith) (grind arith)

rounds_sent : (count : ℕ) (n : Node) (cause : Cause) (o : Outcome) → Rounds n cause o → n.me < count → n.nodes ≡ count → Came (Sent count) n.me cause → AllByRecursion (Sent count) o.posts
rounds_sent count n cause o (comes_away part other fits) few all f = (to_other count 0 n _ few (omega arith) (ne_eqb 0 n.me (λ w. eqb-false n.me 0 other (sym w))) refl, tt)
rounds_sent count n cause o (comes_last part parts first fits full) few all f = all_results count n _ _ few (eqb-true n.me 0 first) all
rounds_sent count n cause o (part_last from round part parts mine k e a full) few all f = all_results count n _ _ few f.1 all
rounds_sent count n cause o (part_last_idle from round part parts idle a full) few all f = all_results count n _ _ few f.1 all
rounds_sent count n cause o _ few all f = tt

notes_kept : (count : ℕ) (n : Node) (c : Call) (w : What) (m : Node) → Notes n c w m → Addresses count n → Addresses count m
notes_kept count n c w m (flushes_own name mine closed) k = record { homes = k.homes; sides = k.sides; waits = k.waits }
notes_kept count n c w m _ k = record { homes = k.homes; sides = k.sides; waits = k.waits }

kept_deed : (count i : ℕ) (n : Node) (cause : Cause) (o : Outcome) → Deed n cause o → n.me < count → Came (Sent count) n.me cause → Counted count i n → Addresses count n → Kept count n o
kept_deed count i n cause o (copies d) few f c k = copies_kept count n cause o d few f k
kept_deed count i n cause o (lives d) few f c k = (lives_kept count n cause o d c.few k, lives_sent count i n cause o d few f c k)
kept_deed count i n cause o (rounds d) few f c k = (rounds_kept count n cause o d k, rounds_sent count n cause o d few c.few f)
kept_deed count i n cause o (notes d) few f c k = (notes_kept count n _ _ _ d k, tt)
kept_deed count i n cause o _ few f c k = (k, tt)

-- All of it after a deed, and in every run.
abbrev pub AddressesAt : ℕ → ℕ → Node → Type 0
AddressesAt count i n = Counted count i n × Addresses count n

abbrev pub PlainSent : ℕ → Message → Type 0
PlainSent count m = Plain count m × Sent count m

abbrev pub Addressed : World → Type 0
Addressed w = Held (AddressesAt w.count) (PlainSent w.count) w

both_all : {A : Type 0} (P Q : A → Type 0) (xs : List A) → AllByRecursion P xs → AllByRecursion Q xs → AllByRecursion (λ x. P x × Q x) xs
both_all P Q [] p q = tt
both_all P Q (x ∷ xs) p q = ((p.0, q.0), both_all P Q xs p.1 q.1)

came_plain : (count i : ℕ) (cause : Cause) → Came (PlainSent count) i cause → Came (Plain count) i cause
came_plain count i (Calls c) f = tt
came_plain count i (Hears from k) f = f.0

came_sent : (count i : ℕ) (cause : Cause) → Came (PlainSent count) i cause → Came (Sent count) i cause
came_sent count i (Calls c) f = tt
came_sent count i (Hears from k) f = f.1

addressed_deed : (count i : ℕ) (n : Node) (cause : Cause) (o : Outcome) → i < count → Deed n cause o → Came (PlainSent count) i cause → AddressesAt count i n → AddressesAt count i o.node × AllByRecursion (PlainSent count) o.posts
addressed_deed count i n cause o few d f k =
    let counted = (counted_local count).deed i n cause o few d (came_plain count i cause f) k.0 in
    let me = sym k.0.me in
    let sent = kept_deed count i n cause o d (subst (λ x. x < count) me few) (subst (λ x. Came (Sent count) x cause) me (came_sent count i cause f)) k.0 k.1 in
    ((counted.0, sent.0), both_all (Plain count) (Sent count) o.posts counted.1 sent.1)

root_part : (to : ℕ) (part : List ℕ) (k : Kind) → ToRoot to k → ToRoot to (with_load part k)
root_part to part (kind.Grant name version granted) h = tt
root_part to part (kind.Return name version bytes) h = tt
root_part to part (kind.Release name version bytes) h = tt
root_part to part _ h = h

pub addressed_local : (count : ℕ) → Local count (AddressesAt count) (PlainSent count)
addressed_local count = record {
  deed = addressed_deed count;
  boxes = λ i n inbox outbox parcels records notes posted k. ((counted_local count).boxes i n inbox outbox parcels records notes posted k.0, record { homes = k.1.homes; sides = k.1.sides; waits = k.1.waits });
  answered = λ i n answer e k. ((counted_local count).answered i n answer e k.0, record { homes = k.1.homes; sides = k.1.sides; waits = tt });
  parts = λ m part h. ((counted_local count).parts m part h.0, (record { sender = h.1.0.sender; addressee = h.1.0.addressee; other = h.1.0.other }, root_part m.addressee part m.kind h.1.1));
}

no_homes : (me count : ℕ) (b c : Bool) → NodesExistIf me count (if b then if c then None else None else None)
no_homes me count true true = tt
no_homes me count true false = tt
no_homes me count false c = tt

pub addressed_start : (count capacity : ℕ) → Addressed (new_world count capacity)
addressed_start count capacity i = record {
  node = ((counted_start count capacity i).node, record { homes = λ q. no_homes i count (q.home == i) (q.serial == 0); sides = λ q. tt; waits = tt });
  inbox = tt;
  outbox = tt;
}
