-- Every map count is at least 1 and fits, and only other nodes' regions are doomed.
use Rattle.std.proofs.Common.{◌≡◌, ℕ, zero, suc, ◌+◌, ◌-◌, ◌^◌, ◌≤◌, ◌<◌, ◌==◌, Bool, true, false, None, Some, Option, List, [], ◌∷◌, map, if◌then◌else◌, refl, ap, sym, ◌∙◌, subst, arith}
use Rattle.std.specs.List.{AllByRecursion}
use Rattle.std.proofs.lemmas.Bool.{cond_both, cond-true, cond-false, and_parts, eqb-true, eqb-false, ltb-true, ne_eqb}
use Rattle.crl_model.specs.declared.name.Name.{Name}
use Rattle.crl_model.specs.declared.collective.Fold.{Fold}
use Rattle.crl_model.specs.declared.call.Call.{Call}
use Rattle.crl_model.specs.declared.event.Event.{Event}
use Rattle.crl_model.specs.declared.entry.What.{What}
use Rattle.crl_model.specs.declared.message.Kind.{Kind}
use Rattle.crl_model.specs.declared.message.Kind.TheVariants as kind
use Rattle.crl_model.specs.Names.{at_name}
use Rattle.crl_protocol.specs.Mail.{Mail, Ask, Letter, kind_about}
use Rattle.crl_protocol.specs.Remote.{Remote, remote_flushes}
use Rattle.crl_protocol.specs.Lifetimes.{Mapping, Lifetime, members_from}
use Rattle.crl_protocol.specs.Node.{Node, ForMap, Activity, Waiting, Outcome, is_mine, serials_used, lifetime_of, with_lifetime, letter_messages, mail_messages, message_to}
use Rattle.crl_protocol.specs.Calls.{creates, results_from}
use Rattle.crl_protocol.specs.Handlers.{purges_waiting}
use Rattle.crl_protocol.specs.Parcels.{with_load}
use Rattle.crl_protocol.specs.World.{new_world, world_of, IsRun}
use Rattle.crl_deeds.specs.Counts.{Counts, WaitsAway, PlainKind, Plain, GoingFew, Counted}
use Rattle.crl_deeds.specs.Deeds.{Cause, parting, Copies, Lives, Rounds, Notes, Deed}
use Rattle.crl_deeds.specs.Turns.{Came, Local, Held}
use Rattle.crl_deeds.proofs.Cases.Turns.{lives_frame, held_run}
use Rattle.crl_deeds.proofs.Chosen.Lists.{all_append}
use Rattle.crl_deeds.proofs.Fits.Names.{by_name}
use Rattle.crl_deeds.proofs.Fits.TableRows.{lifetime_put}
use Rattle.crl_deeds.specs.Deeds as deed

-- Maps.
counts_put : (n : Node) (name : Name) (o : Option Mapping) → ((q : Name) → Counts (is_mine n q) (n.maps q)) → Counts (is_mine n name) o → (q : Name) → Counts (is_mine n q) (at_name n.maps name o q)
counts_put n name o h k = by_name name (λ b q. Counts (is_mine n q) (if b then o else n.maps q)) k (λ q other. h q)

one_fits : (mine doomed : Bool) → (mine ≡ true → doomed ≡ false) → (1 ≤ 1) × (1 < 2 ^ 32) × (mine ≡ true → doomed ≡ false)
one_fits mine doomed h = (omega arith, omega arith, h)

more_fits : (c : ℕ) → c < 2 ^ 32 → (c == 2 ^ 32 - 1) ≡ false → c + 1 < 2 ^ 32
more_fits c few other = let ne = eqb-false c (2 ^ 32 - 1) other in grind arith

less_fits : (c : ℕ) → 1 ≤ c → (c == 1) ≡ false → 1 ≤ c - 1
less_fits c some other = let ne = eqb-false c 1 other in grind arith

there_is : (n : Node) (name : Name) (m : Mapping) → ((q : Name) → Counts (is_mine n q) (n.maps q)) → n.maps name ≡ Some m → Counts (is_mine n name) (Some m)
there_is n name m h e = subst (λ x. Counts (is_mine n name) x) e (h name)

away_quiet : (mine : Bool) (doomed : Bool) → mine ≡ false → mine ≡ true → doomed ≡ false
away_quiet mine doomed e f = cc

counts_lives : (count : ℕ) (n : Node) (cause : Cause) (o : Outcome) → Lives n cause o → Came (Plain count) n.me cause → WaitsAway n.me n.activity → ((q : Name) → Counts (is_mine n q) (n.maps q))
    → (q : Name) → Counts (is_mine o.node q) (o.node.maps q)
counts_lives count n cause o (deed.maps_more name m e few mine other) f w h =
    let k = there_is n name m h e in counts_put n name _ h (omega arith, more_fits m.count k.1 few, k.2)
counts_lives count n cause o (deed.maps_own name e mine live) f w h = counts_put n name _ h (one_fits _ _ (λ e. refl))
counts_lives count n cause o (deed.maps_cached name size e other c) f w h = counts_put n name _ h (one_fits _ _ (λ e. refl))
counts_lives count n cause o (deed.map_comes from name purged size e) f w h = counts_put n name _ h (one_fits _ _ (away_quiet _ _ (subst (λ a. WaitsAway n.me a) e w)))
counts_lives count n cause o (deed.unmaps_one name m e some more closed) f w h =
    let k = there_is n name m h e in counts_put n name _ h (less_fits m.count k.0 more, (let c = k.1 in omega arith), k.2)
counts_lives count n cause o (deed.unmaps_own name m e one mine closed) f w h = counts_put n name None h tt
counts_lives count n cause o (deed.unmaps_doomed name m e one other doomed closed) f w h = counts_put n name None h tt
counts_lives count n cause o (deed.unmaps_keeping name m e one other sound closed kept) f w h = counts_put n name None h tt
counts_lives count n cause o (deed.unmaps_evicting name m old e one other sound closed kept) f w h = counts_put n name None h tt
counts_lives count n cause o (deed.dooms from name m e) f w h = let k = there_is n name m h e in counts_put n name _ h (k.0, k.1, away_quiet _ _ f.1.0)
counts_lives count n cause o _ f w h = h

-- What it waits for.
waits_warned : (me : ℕ) (name : Name) (a : Activity) → WaitsAway me a → WaitsAway me (purges_waiting name a)
waits_warned me name (Waiting (ForMap p purged)) h = h
waits_warned me name _ h = h

waits_lives : (count : ℕ) (n : Node) (cause : Cause) (o : Outcome) → Lives n cause o → WaitsAway n.me n.activity → WaitsAway o.node.me o.node.activity
waits_lives count n cause o (deed.map_asks name e other c real) w = other
waits_lives count n cause o (deed.map_comes from name purged size e) w = tt
waits_lives count n cause o (deed.map_denied from name purged s why t d u e) w = tt
waits_lives count n cause o (deed.deletes_own name m ms mine live e) w = tt
waits_lives count n cause o (deed.delete_asks name other real) w = tt
waits_lives count n cause o (deed.delete_comes from name d e) w = tt
waits_lives count n cause o (deed.warns from name e c) w = waits_warned n.me name n.activity w
waits_lives count n cause o (deed.ends_own from name mine e missing last) w = tt
waits_lives count n cause o _ w = w

waits_copies : (n : Node) (cause : Cause) (o : Outcome) → Copies n cause o → WaitsAway n.me n.activity → WaitsAway o.node.me o.node.activity
waits_copies n cause o (deed.home_waits c write name h is e v x) w = tt
waits_copies n cause o (deed.side_waits c write name r is e f v x) w = tt
waits_copies n cause o (deed.home_serves_own from k name h s is e x) w = tt
waits_copies n cause o (deed.grant_comes from name version g r e t) w = tt
waits_copies n cause o _ w = w

waits_rounds : (n : Node) (cause : Cause) (o : Outcome) → Rounds n cause o → WaitsAway n.me n.activity → WaitsAway o.node.me o.node.activity
waits_rounds n cause o (deed.comes_last part parts first fits all) w = w
waits_rounds n cause o (deed.part_comes from round part a all) w = w
waits_rounds n cause o (deed.part_last_idle from round part parts idle a all) w = w
waits_rounds n cause o _ w = tt

-- Who asked.
abbrev NotAsked : Node → Type 0
NotAsked n = (q : Name) → (lifetime_of n q).asked n.me ≡ false

asked_put : (n : Node) (name : Name) (lifetime : Lifetime) → is_mine n name ≡ true → lifetime.asked n.me ≡ false → NotAsked n → NotAsked (with_lifetime name lifetime n)
asked_put n name lifetime mine k h q = subst (λ (l : Lifetime). l.asked n.me ≡ false) (sym (lifetime_put n name lifetime mine q)) (by_name name (λ b p. (if b then lifetime else lifetime_of n p).asked n.me ≡ false) k (λ p other. h p) q)

asked_made : (n : Node) (size : ℕ) → NotAsked n → NotAsked (creates size n).node
asked_made n size h q =
    cond_both (is_mine n q) _ _ (λ (l : Lifetime). l.asked n.me ≡ false)
    (λ mine. cond_both (serials_used n + 1 == q.serial) _ _ (λ (l : Lifetime). l.asked n.me ≡ false) (λ w. refl) (λ w. subst (λ (l : Lifetime). l.asked n.me ≡ false) (cond-true (is_mine n q) _ _ mine) (h q))) (λ w. refl)

other_of : (a b c : ℕ) → (a == b) ≡ false → (a == c) ≡ true → (b == c) ≡ false
other_of a b c e f = ne_eqb b c (λ w. eqb-false a b e (eqb-true a c f ∙ sym w))

asked_lives : (count : ℕ) (n : Node) (cause : Cause) (o : Outcome) → Lives n cause o → Came (Plain count) n.me cause → NotAsked n → NotAsked o.node
asked_lives count n cause o (deed.made size e) f h = asked_made n size h
asked_lives count n cause o (deed.map_told from name mine live) f h =
    asked_put n name _ mine (cond-false (from == n.me) _ _ (other_of name.home from n.me f.1.0 mine) ∙ h name) h
asked_lives count n cause o (deed.deletes_alone name mine live e) f h = asked_put n name _ mine (h name) h
asked_lives count n cause o (deed.deletes_own name m ms mine live e) f h = asked_put n name _ mine (h name) h
asked_lives count n cause o (deed.deletes_alone_for from name mine live e) f h = asked_put n name _ mine (h name) h
asked_lives count n cause o (deed.deletes_for from name m ms mine live e) f h = asked_put n name _ mine (h name) h
asked_lives count n cause o (deed.counts_off from name deleter m ms mine e missing left) f h = asked_put n name _ mine (h name) h
asked_lives count n cause o (deed.ends_own from name mine e missing last) f h = asked_put n name _ mine (h name) h
asked_lives count n cause o (deed.ends_for from name deleter mine e other missing last) f h = asked_put n name _ mine (h name) h
asked_lives count n cause o _ f h = h

-- Who deletes.
few_put : (count : ℕ) (n : Node) (name : Name) (lifetime : Lifetime) → is_mine n name ≡ true → GoingFew count lifetime.stage → ((q : Name) → GoingFew count (lifetime_of n q).stage) → (q : Name) → GoingFew count (lifetime_of (with_lifetime name lifetime n) q).stage
few_put count n name lifetime mine k h q = subst (λ (l : Lifetime). GoingFew count l.stage) (sym (lifetime_put n name lifetime mine q)) (by_name name (λ b p. GoingFew count (if b then lifetime else lifetime_of n p).stage) k (λ p other. h p) q)

few_made : (count : ℕ) (n : Node) (size : ℕ) → ((q : Name) → GoingFew count (lifetime_of n q).stage) → (q : Name) → GoingFew count (lifetime_of (creates size n).node q).stage
few_made count n size h q =
    cond_both (is_mine n q) _ _ (λ (l : Lifetime). GoingFew count l.stage)
    (λ mine. cond_both (serials_used n + 1 == q.serial) _ _ (λ (l : Lifetime). GoingFew count l.stage) (λ w. tt) (λ w. subst (λ (l : Lifetime). GoingFew count l.stage) (cond-true (is_mine n q) _ _ mine) (h q))) (λ w. tt)

few_lives : (count : ℕ) (n : Node) (cause : Cause) (o : Outcome) → Lives n cause o → n.me < count → Came (Plain count) n.me cause → ((q : Name) → GoingFew count (lifetime_of n q).stage) → (q : Name) → GoingFew count (lifetime_of o.node q).stage
few_lives count n cause o (deed.made size e) few f h = few_made count n size h
few_lives count n cause o (deed.map_told from name mine live) few f h = few_put count n name _ mine (h name) h
few_lives count n cause o (deed.deletes_alone name mine live e) few f h = few_put count n name _ mine tt h
few_lives count n cause o (deed.deletes_own name m ms mine live e) few f h = few_put count n name _ mine few h
few_lives count n cause o (deed.deletes_alone_for from name mine live e) few f h = few_put count n name _ mine tt h
few_lives count n cause o (deed.deletes_for from name m ms mine live e) few f h = few_put count n name _ mine f.0 h
few_lives count n cause o (deed.counts_off from name deleter m ms mine e missing left) few f h = few_put count n name _ mine (h name) h
few_lives count n cause o (deed.ends_own from name mine e missing last) few f h = few_put count n name _ mine tt h
few_lives count n cause o (deed.ends_for from name deleter mine e other missing last) few f h = few_put count n name _ mine tt h
few_lives count n cause o _ few f h = h

-- What it sends.
mail_plain : (count to : ℕ) (n : Node) (name : Name) (m : Mail) → n.me < count → Plain count (message_to n to (kind_about name m))
mail_plain count to n name (Ask write have) few = (few, tt)
mail_plain count to n name _ few = (few, tt)

mails_plain : (count : ℕ) (n : Node) (name : Name) (posts : List Mail) → n.me < count → AllByRecursion (Plain count) (mail_messages n name posts)
mails_plain count n name [] few = tt
mails_plain count n name (m ∷ posts) few = (mail_plain count name.home n name m few, mails_plain count n name posts few)

letters_plain : (count : ℕ) (n : Node) (name : Name) (posts : List Letter) → n.me < count → AllByRecursion (Plain count) (letter_messages n name posts)
letters_plain count n name [] few = tt
letters_plain count n name (l ∷ posts) few = (mail_plain count l.to n name l.mail few, letters_plain count n name posts few)

parting_plain : (count : ℕ) (n : Node) (name : Name) (o : Option Remote) → n.me < count → AllByRecursion (Plain count) (parting n name o)
parting_plain count n name None few = tt
parting_plain count n name (Some r) few = mails_plain count n name (remote_flushes r).posts few

results_plain : (count : ℕ) (n : Node) (m k round : ℕ) (fold : Fold) → n.me < count → m + k ≤ count → AllByRecursion (Plain count) (results_from n m k round fold)
results_plain count n m zero round fold few all = tt
results_plain count n m (suc k) round fold few all = ((few, omega arith), results_plain count n (m + 1) k round fold few (omega arith))

all_results : (count : ℕ) (n : Node) (round : ℕ) (fold : Fold) → n.me < count → n.nodes ≡ count → AllByRecursion (Plain count) (results_from n 1 (n.nodes - 1) round fold)
all_results count n round fold few all = results_plain count n 1 (n.nodes - 1) round fold few (grind arith)

abbrev Member : (ℕ → Bool) → ℕ → ℕ → Type 0
Member set count j = (set j ≡ true) × (j < count)

pub members_are : (set : ℕ → Bool) (count m k : ℕ) → m + k ≤ count → AllByRecursion (Member set count) (members_from m k set)
members_are set count m zero few = tt
members_are set count m (suc k) few =
    let h = members_are set count (m + 1) k (omega arith) in cond_both (set m) _ _ (AllByRecursion (Member set count)) (λ e. ((e, omega arith), h)) (λ e. h)

purges_plain : (count : ℕ) (n : Node) (name : Name) (set : ℕ → Bool) (ms : List ℕ) → n.me < count → is_mine n name ≡ true → set n.me ≡ false → AllByRecursion (Member set count) ms
    → AllByRecursion (Plain count) (map (λ m. message_to n m (kind.Purge name)) ms)
purges_plain count n name set [] few mine h all = tt
purges_plain count n name set (m ∷ ms) few mine h all =
    let away : (name.home == m) ≡ false = ne_eqb name.home m (λ w. let both : true ≡ false = sym all.0.0 ∙ ap set (sym w ∙ eqb-true name.home n.me mine) ∙ h in cc) in
    ((few, (away, all.0.1)), purges_plain count n name set ms few mine h all.1)

sends_copies : (count : ℕ) (n : Node) (cause : Cause) (o : Outcome) → Copies n cause o → n.me < count → AllByRecursion (Plain count) o.posts
sends_copies count n cause o (deed.home_opens c write name h is e v x) few = letters_plain count n name _ few
sends_copies count n cause o (deed.home_waits c write name h is e v x) few = letters_plain count n name _ few
sends_copies count n cause o (deed.home_ends c name w ends lowers h is e) few = letters_plain count n name _ few
sends_copies count n cause o (deed.home_serves from k name h s is e x) few = letters_plain count n name _ few
sends_copies count n cause o (deed.home_serves_own from k name h s is e x) few = letters_plain count n name _ few
sends_copies count n cause o (deed.grant_comes from name version g r e t) few = tt
sends_copies count n cause o (deed.side_opens c write name r is e f v x) few = mails_plain count n name _ few
sends_copies count n cause o (deed.side_waits c write name r is e f v x) few = mails_plain count n name _ few
sends_copies count n cause o (deed.side_ends c name w ends lowers r is e f) few = mails_plain count n name _ few
sends_copies count n cause o (deed.side_flushes name r other e closed) few = mails_plain count n name _ few
sends_copies count n cause o (deed.side_called from k name r s is e) few = mails_plain count n name _ few

sends_lives : (count : ℕ) (n : Node) (cause : Cause) (o : Outcome) → Lives n cause o → n.me < count → n.nodes ≡ count → Came (Plain count) n.me cause → NotAsked n → ((q : Name) → GoingFew count (lifetime_of n q).stage) → AllByRecursion (Plain count) o.posts
sends_lives count n cause o (deed.map_asks name e other c real) few all f h going = ((few, (other, subst (λ k. name.home < k) all (ltb-true _ _ (and_parts _ _ real).0))), tt)
sends_lives count n cause o (deed.map_told from name mine live) few all f h going = ((few, f.0), tt)
sends_lives count n cause o (deed.map_refused from name why t d u) few all f h going = ((few, f.0), tt)
sends_lives count n cause o (deed.unmaps_doomed name m e one other doomed closed) few all f h going = parting_plain count n name (n.remotes name) few
sends_lives count n cause o (deed.unmaps_evicting name m old e one other sound closed kept) few all f h going = parting_plain count n old (n.remotes old) few
sends_lives count n cause o (deed.deletes_own name m ms mine live e) few all f h going = purges_plain count n name _ _ few mine (h name) (members_are _ count 0 n.nodes (omega arith))
sends_lives count n cause o (deed.deletes_for from name m ms mine live e) few all f h going = purges_plain count n name _ _ few mine (h name) (members_are _ count 0 n.nodes (omega arith))
sends_lives count n cause o (deed.delete_asks name other real) few all f h going = ((few, subst (λ k. name.home < k) all (ltb-true _ _ (and_parts _ _ real).0)), tt)
sends_lives count n cause o (deed.deletes_alone_for from name mine live e) few all f h going = ((few, f.0), tt)
sends_lives count n cause o (deed.delete_refused from name why t d u) few all f h going = ((few, f.0), tt)
sends_lives count n cause o (deed.dooms from name m e) few all f h going = ((few, f.0), tt)
sends_lives count n cause o (deed.drops from name size e c) few all f h going = all_append (Plain count) (parting n name (n.remotes name)) _ (parting_plain count n name (n.remotes name) few) ((few, f.0), tt)
sends_lives count n cause o (deed.warns from name e c) few all f h going = ((few, f.0), tt)
sends_lives count n cause o (deed.ends_for from name deleter mine e other missing last) few all f h going = ((few, subst (GoingFew count) e (going name)), tt)
sends_lives count n cause o _ few all f h going = tt

sends_rounds : (count : ℕ) (n : Node) (cause : Cause) (o : Outcome) → Rounds n cause o → n.me < count → n.nodes ≡ count → AllByRecursion (Plain count) o.posts
sends_rounds count n cause o (deed.comes_away part other fits) few all = ((few, omega arith), tt)
sends_rounds count n cause o (deed.comes_last part parts first fits full) few all = all_results count n _ _ few all
sends_rounds count n cause o (deed.part_last from round part parts mine k e a full) few all = all_results count n _ _ few all
sends_rounds count n cause o (deed.part_last_idle from round part parts idle a full) few all = all_results count n _ _ few all
sends_rounds count n cause o _ few all = tt

-- All of it after a deed, and in every run.
still_copies : (count i : ℕ) (n : Node) (cause : Cause) (o : Outcome) → Copies n cause o → Counted count i n → WaitsAway o.node.me o.node.activity → Counted count i o.node
still_copies count i n cause o (deed.home_opens c write name h is e v x) k w = record { me = k.me; few = k.few; maps = k.maps; waits = w; asked = k.asked; deleters = k.deleters }
still_copies count i n cause o _ k w = record { me = k.me; few = k.few; maps = k.maps; waits = w; asked = k.asked; deleters = k.deleters }

still_rounds : (count i : ℕ) (n : Node) (cause : Cause) (o : Outcome) → Rounds n cause o → Counted count i n → WaitsAway o.node.me o.node.activity → Counted count i o.node
still_rounds count i n cause o (deed.comes_away part other fits) k w = record { me = k.me; few = k.few; maps = k.maps; waits = w; asked = k.asked; deleters = k.deleters }
still_rounds count i n cause o _ k w = record { me = k.me; few = k.few; maps = k.maps; waits = w; asked = k.asked; deleters = k.deleters }

still_notes : (count i : ℕ) (n : Node) (c : Call) (w : What) (m : Node) → Notes n c w m → Counted count i n → Counted count i m
still_notes count i n c w m (deed.flushes_own name mine closed) k = record { me = k.me; few = k.few; maps = k.maps; waits = k.waits; asked = k.asked; deleters = k.deleters }
still_notes count i n c w m _ k = record { me = k.me; few = k.few; maps = k.maps; waits = k.waits; asked = k.asked; deleters = k.deleters }

counted_at : (count i : ℕ) (n : Node) (cause : Cause) (o : Outcome) → Deed n cause o → n.me < count → Came (Plain count) n.me cause → Counted count i n → Counted count i o.node × AllByRecursion (Plain count) o.posts
counted_at count i n cause o (deed.copies c) few came k = (still_copies count i n cause o c k (waits_copies n cause o c k.waits), sends_copies count n cause o c few)
counted_at count i n cause o (deed.lives c) few came k =
    let same = lives_frame n cause o c in (
      record {
        me = same.me ∙ k.me;
        few = same.nodes ∙ k.few;
        maps = counts_lives count n cause o c came k.waits k.maps;
        waits = waits_lives count n cause o c k.waits;
        asked = asked_lives count n cause o c came k.asked;
        deleters = few_lives count n cause o c few came k.deleters;
      },
      sends_lives count n cause o c few k.few came k.asked k.deleters,
    )
counted_at count i n cause o (deed.rounds c) few came k = (still_rounds count i n cause o c k (waits_rounds n cause o c k.waits), sends_rounds count n cause o c few k.few)
counted_at count i n cause o (deed.notes c) few came k = (still_notes count i n _ _ _ c k, tt)
counted_at count i n cause o _ few came k = (k, tt)

counted_deed : (count i : ℕ) (n : Node) (cause : Cause) (o : Outcome) → i < count → Deed n cause o → Came (Plain count) i cause → Counted count i n → Counted count i o.node × AllByRecursion (Plain count) o.posts
counted_deed count i n cause o few d f k =
    counted_at count i n cause o d (subst (λ x. x < count) (sym k.me) few) (subst (λ x. Came (Plain count) x cause) (sym k.me) f) k

plain_part : (count from to : ℕ) (part : List ℕ) (k : Kind) → PlainKind count from to k → PlainKind count from to (with_load part k)
plain_part count from to part (kind.Grant name version granted) h = tt
plain_part count from to part (kind.Return name version bytes) h = tt
plain_part count from to part (kind.Release name version bytes) h = tt
plain_part count from to part _ h = h

pub counted_local : (count : ℕ) → Local count (Counted count) (Plain count)
counted_local count = record {
  deed = counted_deed count;
  boxes = λ i n inbox outbox parcels records notes posted k. record { me = k.me; few = k.few; maps = k.maps; waits = k.waits; asked = k.asked; deleters = k.deleters };
  answered = λ i n answer e k. record { me = k.me; few = k.few; maps = k.maps; waits = tt; asked = k.asked; deleters = k.deleters };
  parts = λ m part h. (h.0, plain_part count m.sender m.addressee part m.kind h.1);
}

pub counted_start : (count capacity : ℕ) → Held (Counted count) (Plain count) (new_world count capacity)
counted_start count capacity i = record {
  node = record { me = refl; few = refl; maps = λ q. tt; waits = tt; asked = λ q. cond_both (q.home == i) _ _ (λ (l : Lifetime). l.asked i ≡ false) (λ w. refl) (λ w. refl); deleters = λ q. cond_both (q.home == i) _ _ (λ (l : Lifetime). GoingFew count l.stage) (λ w. tt) (λ w. tt) };
  inbox = tt;
  outbox = tt;
}

pub mappings_are_counted : (count capacity : ℕ) (run : List Event) → IsRun count capacity run → Held (Counted count) (Plain count) (world_of count capacity run)
mappings_are_counted count capacity run r = held_run count (Counted count) (Plain count) (counted_local count) run (new_world count capacity) refl r.enabled (counted_start count capacity)
