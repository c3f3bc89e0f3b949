-- What a deed does to the lifetime of a region at its home, and to what the home tells a node of it.
use Rattle.std.proofs.Common.{◌≡◌, ℕ, zero, suc, ◌+◌, ◌≤◌, ◌<◌, ◌==◌, Bool, true, false, List, [], ◌∷◌, map, if◌then◌else◌, refl, ap, sym, subst, arith}
use Rattle.std.proofs.lemmas.Bool.{cond_both, cond-true, cond-false, eqb-true, eqb-false, ne_eqb}
use Rattle.crl_model.specs.declared.name.Name.{Name}
use Rattle.crl_model.specs.declared.stage.Stage.{Stage}
use Rattle.crl_model.specs.declared.stage.Stage.TheVariants as stage
use Rattle.crl_model.specs.declared.call.Call.{Call}
use Rattle.crl_model.specs.declared.entry.What.{What}
use Rattle.crl_model.specs.declared.message.Message.{Message}
use Rattle.crl_model.specs.declared.message.Kind.TheVariants as kind
use Rattle.crl_model.specs.declared.message.Told.{Told}
use Rattle.crl_model.specs.declared.message.DeleteTold.{DeleteTold}
use Rattle.crl_model.specs.declared.call.Refusal.{Refusal}
use Rattle.crl_model.specs.Names.{name_eq, at_node, at_name}
use Rattle.crl_protocol.specs.Lifetimes.{Lifetime, new_lifetime, no_lifetime, members, members_from}
use Rattle.crl_protocol.specs.Node.{Node, Outcome, is_mine, lifetime_of, with_lifetime, serials_used, message_to}
use Rattle.crl_protocol.specs.Calls.{creates, purges}
use Rattle.crl_deeds.specs.Deeds.{Cause, Calls, Hears, parting, Copies, Lives, Rounds, Notes, Idles, Deed, copies, lives, rounds, notes, refuses, idles, Unfit, never, going, gone, home_opens, made, map_told, map_refused, unmaps_doomed, unmaps_evicting, deletes_alone, deletes_own, deletes_alone_for, deletes_for, drops, counts_off, ends_own, ends_for, comes_away, flushes_own}
use Rattle.crl_deeds.specs.Counts.{NoneYet}
use Rattle.crl_deeds.specs.Tokens.{weigh, came}
use Rattle.crl_deeds.proofs.Laws.{by_name, lifetime_put, weigh_append, none_to}
use Rattle.crl_lifetime.specs.Lifetime.{one_if}
use Rattle.crl_lifetime.proofs.Weights.{if_named, live_weight, order_weight, answer_weight, live_talk, order_talk, answer_talk, parting_none, copies_silent, rounds_silent}
use Rattle.crl_lifetime.proofs.Storing.{one, made_of, going_of, deleted_of}
use Rattle.crl_lifetime.proofs.Cases.{by_node}
use Rattle.crl_lifetime.proofs.Asking.{LifeFits, none_left}
use Rattle.crl_lifetime.proofs.Rules.{AtHome, HomeRule, keeps, tells, begins, counts, loses, home_rule_as}

abbrev pub of_life : ℕ → Lifetime → AtHome
of_life m l = record { asked = one_if (l.asked m); missing = one_if (l.missing m); deleted = deleted_of l.stage }

abbrev pub at_home : Name → ℕ → Node → AtHome
at_home r m n = of_life m (lifetime_of n r)

rule_put : (r : Name) (m : ℕ) (n : Node) (name : Name) (lifetime : Lifetime) (l p q : ℕ) → is_mine n name ≡ true → HomeRule (at_home r m n) l p q (of_life m (at_name (lifetime_of n) name lifetime r)) → HomeRule (at_home r m n) l p q (at_home r m (with_lifetime name lifetime n))
rule_put r m n name lifetime l p q mine h = subst (λ x. HomeRule (at_home r m n) l p q (of_life m x)) (sym (lifetime_put n name lifetime mine r)) h

-- the same at other names
at_others : (m : ℕ) (l : Lifetime) (x p q : ℕ) → x ≡ 0 → p ≡ 0 → q ≡ 0 → HomeRule (of_life m l) x p q (of_life m l)
at_others m l x p q a b c = keeps refl refl refl a b c

-- a create: the serial had no lifetime
made_rule : (r : Name) (m : ℕ) (n : Node) (size count : ℕ) → NoneYet n → LifeFits count n.me (lifetime_of n r) → HomeRule (at_home r m n) 0 0 0 (at_home r m (creates size n).node)
made_rule r m n size count none fits = go (is_mine n r) refl
  where
    was : Lifetime
    was = n.lifetimes r.serial

    inner : (b : Bool) → (serials_used n + 1 == r.serial) ≡ b → LifeFits count n.me was → HomeRule (of_life m was) 0 0 0 (of_life m (if b then new_lifetime else was))
    inner true w l =
        let e : was.stage ≡ stage.Unknown = none r.serial (let same = eqb-true (serials_used n + 1) r.serial w in omega arith) in
        let a = l.fresh m in
        let b = l.going m in
        let c = ap made_of e in
        let d = ap going_of e in
        let f = ap deleted_of e in keeps (omega arith) (omega arith) (omega arith) refl refl refl
    inner false w l = keeps refl refl refl refl refl refl

    go : (b : Bool) → is_mine n r ≡ b → HomeRule (of_life m (if b then n.lifetimes r.serial else no_lifetime)) 0 0 0 (of_life m (if b then at_node n.lifetimes (serials_used n + 1) new_lifetime r.serial else no_lifetime))
    go true w = inner (serials_used n + 1 == r.serial) refl (subst (λ l. LifeFits count n.me l) (cond-true (is_mine n r) _ _ w) fits)
    go false w = keeps refl refl refl refl refl refl

-- Purges go to the nodes that asked.
purges_past : (m : ℕ) (r : Name) (n : Node) (name : Name) (set : ℕ → Bool) (i k : ℕ) → m < i → weigh (order_weight m r) (map (λ j. message_to n j (kind.Purge name)) (members_from i k set)) ≡ 0
purges_past m r n name set i zero h = refl
purges_past m r n name set i (suc k) h =
    let t = purges_past m r n name set (i + 1) k (omega arith) in
    let e : (if i == m then if_named name r 1 else 0) ≡ 0 = cond-false (i == m) (if_named name r 1) 0 (ne_eqb i m (λ w. omega arith)) in
    cond_both (set i) (i ∷ members_from (i + 1) k set) (members_from (i + 1) k set) (λ ms. weigh (order_weight m r) (map (λ j. message_to n j (kind.Purge name)) ms) ≡ 0) (λ w. omega arith) (λ w. t)

purges_go : (m : ℕ) (r : Name) (n : Node) (name : Name) (set : ℕ → Bool) (i k : ℕ) → i ≤ m → m < i + k → weigh (order_weight m r) (map (λ j. message_to n j (kind.Purge name)) (members_from i k set)) ≡ (if set m then if_named name r 1 else 0)
purges_go m r n name set i zero h l = absurd (omega arith)
purges_go m r n name set i (suc k) h l = go (i == m) refl (λ w. purges_go m r n name set (i + 1) k w (omega arith))
  where
    sent : List ℕ → ℕ
    sent ms = weigh (order_weight m r) (map (λ j. message_to n j (kind.Purge name)) ms)

    x : ℕ
    x = if_named name r 1

    go : (b : Bool) → (i == m) ≡ b → (i + 1 ≤ m → sent (members_from (i + 1) k set) ≡ (if set m then x else 0)) → sent (members_from i (suc k) set) ≡ (if set m then x else 0)
    go true w rest =
        let same : i ≡ m = eqb-true i m w in
        let t = purges_past m r n name set (i + 1) k (omega arith) in
        let e : (if i == m then x else 0) ≡ x = cond-true (i == m) x 0 w in
        subst (λ s. sent (members_from i (suc k) set) ≡ (if s then x else 0)) (ap set same)
        (at_it (set i) t e)
      where
        at_it : (c : Bool) → sent (members_from (i + 1) k set) ≡ 0 → (if i == m then x else 0) ≡ x → sent (if c then i ∷ members_from (i + 1) k set else members_from (i + 1) k set) ≡ (if c then x else 0)
        at_it true t e = omega arith
        at_it false t e = t
    go false w rest =
        let ne = eqb-false i m w in
        let t = rest (grind arith) in
        let e : (if i == m then x else 0) ≡ 0 = cond-false (i == m) x 0 w in
        cond_both (set i) (i ∷ members_from (i + 1) k set) (members_from (i + 1) k set) (λ ms. sent ms ≡ (if set m then x else 0)) (λ v. omega arith) (λ v. t)

pub purges_silent : (f : Message → ℕ) → ((from to : ℕ) (name : Name) → f (record { sender = from; addressee = to; kind = kind.Purge name }) ≡ 0) → (n : Node) (name : Name) (ms : List ℕ) → weigh f (map (λ m. message_to n m (kind.Purge name)) ms) ≡ 0
purges_silent f h n name [] = refl
purges_silent f h n name (m ∷ ms) = let t = purges_silent f h n name ms in let e = h n.me m name in omega arith

begins_rule : (r : Name) (m : ℕ) (n : Node) (name : Name) (deleter count : ℕ) → m < count → n.nodes ≡ count → is_mine n name ≡ true → (lifetime_of n name).stage ≡ stage.Live → LifeFits count n.me (lifetime_of n name)
    → HomeRule (at_home r m n) (weigh (live_weight one m r) (purges n name (lifetime_of n name))) (weigh (order_weight m r) (purges n name (lifetime_of n name))) 0 (at_home r m (with_lifetime name (record (lifetime_of n name) { stage = stage.Going deleter; missing = (lifetime_of n name).asked }) n))
begins_rule r m n name deleter count few all mine is fits =
    home_rule_as _ _ _ _ _ _ _ _ (purges_silent (live_weight one m r) (λ from to name. refl) n name _) (purges_go m r n name (lifetime_of n name).asked 0 n.nodes (omega arith) (omega arith)) refl
    (rule_put r m n name _ _ _ _ mine
    (by_name name (λ b q. HomeRule (of_life m (lifetime_of n q)) 0 (if (lifetime_of n name).asked m then (if b then 1 else 0) else 0) 0 (of_life m (if b then record (lifetime_of n name) { stage = stage.Going deleter; missing = (lifetime_of n name).asked } else lifetime_of n q)))
    (let a = ap deleted_of is in let b = fits.going m in let c = ap going_of is in begins (omega arith) (omega arith) refl refl refl refl refl refl)
    (λ q other. at_others m (lifetime_of n q) _ _ _ refl (none_to ((lifetime_of n name).asked m) 0) refl) r))

-- a delete of a region for which nobody asked
alone_rule : (r : Name) (m : ℕ) (n : Node) (name : Name) (count : ℕ) → m < count → n.nodes ≡ count → is_mine n name ≡ true → (lifetime_of n name).stage ≡ stage.Live → members n.nodes (lifetime_of n name).asked ≡ [] → LifeFits count n.me (lifetime_of n name)
    → HomeRule (at_home r m n) 0 0 0 (at_home r m (with_lifetime name (record (lifetime_of n name) { stage = stage.Gone }) n))
alone_rule r m n name count few all mine is nobody fits =
    rule_put r m n name _ _ _ _ mine
    (by_name name (λ b q. HomeRule (of_life m (lifetime_of n q)) 0 0 0 (of_life m (if b then record (lifetime_of n name) { stage = stage.Gone } else lifetime_of n q)))
    (let a = ap deleted_of is in let b = fits.going m in let c = ap going_of is in let d = ap one_if (none_left (lifetime_of n name).asked 0 n.nodes m nobody (omega arith) (omega arith)) in begins (omega arith) (omega arith) refl (omega arith) refl refl (omega arith) refl)
    (λ q other. at_others m (lifetime_of n q) _ _ _ refl refl refl) r)

-- an answer to a Purge
counts_rule : (r : Name) (m : ℕ) (n : Node) (name : Name) (from : ℕ) (deleter : ℕ) (s : Stage) → is_mine n name ≡ true → (lifetime_of n name).stage ≡ stage.Going deleter → (lifetime_of n name).missing from ≡ true → deleted_of s ≡ 1
    → HomeRule (at_home r m n) 0 0 (if from == m then if_named name r 1 else 0) (at_home r m (with_lifetime name (record (lifetime_of n name) { stage = s; missing = at_node (lifetime_of n name).missing from false }) n))
counts_rule r m n name from deleter s mine is missing still =
    let was = ap deleted_of is in
    rule_put r m n name _ _ _ _ mine
    (by_name name (λ b q. HomeRule (of_life m (lifetime_of n q)) 0 0 (if from == m then (if b then 1 else 0) else 0) (of_life m (if b then record (lifetime_of n name) { stage = s; missing = at_node (lifetime_of n name).missing from false } else lifetime_of n q)))
    (by_node from m (λ c. HomeRule (of_life m (lifetime_of n name)) 0 0 (if c then 1 else 0) (record { asked = one_if ((lifetime_of n name).asked m); missing = one_if (if c then false else (lifetime_of n name).missing m); deleted = deleted_of s }))
    (λ same. counts (ap one_if (subst (λ x. (lifetime_of n name).missing x ≡ true) same missing)) refl refl refl (omega arith) refl refl)
    (keeps refl refl (omega arith) refl refl refl))
    (λ q other. at_others m (lifetime_of n q) _ _ _ refl refl (none_to (from == m) 0)) r)

zeros : (c b : Bool) → (if c then (if b then 0 else 0) else 0) + 0 ≡ 0
zeros true true = refl
zeros true false = refl
zeros false b = refl

refused_none : (r : Name) (m : ℕ) (n : Node) (from : ℕ) (name : Name) (s : Stage) (why : Refusal) (t : Told) (d : DeleteTold) → Unfit s why t d → weigh (live_weight one m r) (message_to n from (kind.InfoIs name t) ∷ []) ≡ 0
refused_none r m n from name s why t d never = zeros (from == m) (name_eq name r)
refused_none r m n from name s why t d (going deleter) = zeros (from == m) (name_eq name r)
refused_none r m n from name s why t d gone = zeros (from == m) (name_eq name r)

home_lives : (r : Name) (m count : ℕ) (n : Node) (cause : Cause) (o : Outcome) → Lives n cause o → m < count → n.nodes ≡ count → NoneYet n → ((q : Name) → LifeFits count n.me (lifetime_of n q))
    → HomeRule (at_home r m n) (weigh (live_weight one m r) o.posts) (weigh (order_weight m r) o.posts) (came (answer_weight m r) n.me cause) (at_home r m o.node)
home_lives r m count n cause o (made size e) few all none fits = made_rule r m n size count none (fits r)
home_lives r m count n cause o (map_told from name mine is) few all none fits =
    rule_put r m n name _ _ _ _ mine
    (by_name name (λ b q. HomeRule (of_life m (lifetime_of n q)) ((if from == m then (if b then 1 else 0) else 0) + 0) 0 0 (of_life m (if b then record (lifetime_of n name) { asked = at_node (lifetime_of n name).asked from true } else lifetime_of n q)))
    (by_node from m (λ c. HomeRule (of_life m (lifetime_of n name)) ((if c then 1 else 0) + 0) 0 0 (record { asked = one_if (if c then true else (lifetime_of n name).asked m); missing = one_if ((lifetime_of n name).missing m); deleted = deleted_of (lifetime_of n name).stage }))
    (λ same. tells (ap deleted_of is) refl refl (ap deleted_of is) refl refl)
    (keeps refl refl refl refl refl refl))
    (λ q other. at_others m (lifetime_of n q) _ _ _ (let z = none_to (from == m) 0 in omega arith) refl refl) r)
home_lives r m count n cause o (map_refused from name why t d u) few all none fits = keeps refl refl refl (refused_none r m n from name _ why t d u) refl refl
home_lives r m count n cause o (unmaps_doomed name x e once other doomed closed) few all none fits = keeps refl refl refl (parting_none (live_weight one m r) (live_talk one m r).mail n name (n.remotes name)) (parting_none (order_weight m r) (order_talk m r).mail n name (n.remotes name)) refl
home_lives r m count n cause o (unmaps_evicting name x old e once other sound closed kept) few all none fits = keeps refl refl refl (parting_none (live_weight one m r) (live_talk one m r).mail n old (n.remotes old)) (parting_none (order_weight m r) (order_talk m r).mail n old (n.remotes old)) refl
home_lives r m count n cause o (deletes_alone name mine is e) few all none fits = alone_rule r m n name count few all mine is e (fits name)
home_lives r m count n cause o (deletes_own name x xs mine is e) few all none fits = begins_rule r m n name n.me count few all mine is (fits name)
home_lives r m count n cause o (deletes_alone_for from name mine is e) few all none fits = alone_rule r m n name count few all mine is e (fits name)
home_lives r m count n cause o (deletes_for from name x xs mine is e) few all none fits = begins_rule r m n name from count few all mine is (fits name)
home_lives r m count n cause o (drops from name size e c) few all none fits =
    let a = weigh_append (live_weight one m r) (parting n name (n.remotes name)) (message_to n from (kind.Purged name) ∷ []) in
    let b = weigh_append (order_weight m r) (parting n name (n.remotes name)) (message_to n from (kind.Purged name) ∷ []) in
    let x = parting_none (live_weight one m r) (live_talk one m r).mail n name (n.remotes name) in
    let y = parting_none (order_weight m r) (order_talk m r).mail n name (n.remotes name) in keeps refl refl refl (omega arith) (omega arith) refl
home_lives r m count n cause o (counts_off from name deleter x xs mine is missing left) few all none fits = counts_rule r m n name from deleter (lifetime_of n name).stage mine is missing (ap deleted_of is)
home_lives r m count n cause o (ends_own from name mine is missing last) few all none fits = counts_rule r m n name from n.me stage.Gone mine is missing refl
home_lives r m count n cause o (ends_for from name deleter mine is other missing last) few all none fits = counts_rule r m n name from deleter stage.Gone mine is missing refl
home_lives r m count n cause o _ few all none fits = keeps refl refl refl refl refl refl

home_copies : (r : Name) (m : ℕ) (n : Node) (cause : Cause) (o : Outcome) → Copies n cause o → at_home r m o.node ≡ at_home r m n
home_copies r m n cause o (home_opens c write name h is e v x) = refl
home_copies r m n cause o _ = refl

home_rounds : (r : Name) (m : ℕ) (n : Node) (cause : Cause) (o : Outcome) → Rounds n cause o → at_home r m o.node ≡ at_home r m n
home_rounds r m n cause o (comes_away part other fits) = refl
home_rounds r m n cause o _ = refl

home_notes : (r : Name) (m : ℕ) (n : Node) (c : Call) (w : What) (k : Node) → Notes n c w k → at_home r m k ≡ at_home r m n
home_notes r m n c w k (flushes_own name mine closed) = refl
home_notes r m n c w k _ = refl

same_home : (h k : AtHome) (l p q : ℕ) → k ≡ h → l ≡ 0 → p ≡ 0 → q ≡ 0 → HomeRule h l p q k
same_home h k l p q e a b c = keeps (ap (λ (x : AtHome). x.asked) e) (ap (λ (x : AtHome). x.missing) e) (ap (λ (x : AtHome). x.deleted) e) a b c

-- a Purged that isn't missing
home_idles : (r : Name) (m count : ℕ) (n : Node) (cause : Cause) → Idles cause n → ((q : Name) → LifeFits count n.me (lifetime_of n q)) → HomeRule (at_home r m n) 0 0 (came (answer_weight m r) n.me cause) (at_home r m n)
home_idles r m count n (Calls c) h fits = keeps refl refl refl refl refl refl
home_idles r m count n (Hears from (kind.Purged name)) h fits =
    by_name name (λ b q. HomeRule (of_life m (lifetime_of n q)) 0 0 (if from == m then (if b then 1 else 0) else 0) (of_life m (lifetime_of n q)))
    (by_node from m (λ c. HomeRule (of_life m (lifetime_of n name)) 0 0 (if c then 1 else 0) (of_life m (lifetime_of n name)))
    (λ same. loses (ap one_if (subst (λ x. (lifetime_of n name).missing x ≡ false) same (not_missing (lifetime_of n name).stage refl ((lifetime_of n name).missing from) refl))) refl) (keeps refl refl refl refl refl refl))
    (λ q other. at_others m (lifetime_of n q) _ _ _ refl refl (none_to (from == m) 0)) r
  where
    not_missing : (s : Stage) → (lifetime_of n name).stage ≡ s → (b : Bool) → (lifetime_of n name).missing from ≡ b → (lifetime_of n name).missing from ≡ false
    not_missing s e false w = w
    not_missing (stage.Going deleter) e true w = absurd (h deleter e w)
    not_missing stage.Unknown e true w = absurd (let a = (fits name).going from in let b = ap going_of e in let c = ap one_if w in omega arith)
    not_missing stage.Live e true w = absurd (let a = (fits name).going from in let b = ap going_of e in let c = ap one_if w in omega arith)
    not_missing stage.Gone e true w = absurd (let a = (fits name).going from in let b = ap going_of e in let c = ap one_if w in omega arith)
home_idles r m count n (Hears from _) h fits = keeps refl refl refl refl refl refl

pub home_deed : (r : Name) (m count : ℕ) (n : Node) (cause : Cause) (o : Outcome) → Deed n cause o → m < count → n.nodes ≡ count → NoneYet n → ((q : Name) → LifeFits count n.me (lifetime_of n q))
    → HomeRule (at_home r m n) (weigh (live_weight one m r) o.posts) (weigh (order_weight m r) o.posts) (came (answer_weight m r) n.me cause) (at_home r m o.node)
home_deed r m count n cause o (copies d) few all none fits =
    same_home _ _ _ _ _ (home_copies r m n cause o d) (copies_silent (live_weight one m r) (live_talk one m r).mail n cause o d).0 (copies_silent (order_weight m r) (order_talk m r).mail n cause o d).0 (copies_silent (answer_weight m r) (answer_talk m r).mail n cause o d).1
home_deed r m count n cause o (lives d) few all none fits = home_lives r m count n cause o d few all none fits
home_deed r m count n cause o (rounds d) few all none fits =
    same_home _ _ _ _ _ (home_rounds r m n cause o d) (rounds_silent (live_weight one m r) (live_talk one m r) n cause o d).0 (rounds_silent (order_weight m r) (order_talk m r) n cause o d).0 (rounds_silent (answer_weight m r) (answer_talk m r) n cause o d).1
home_deed r m count n cause o (notes d) few all none fits = same_home _ _ _ _ _ (home_notes r m n _ _ _ d) refl refl refl
home_deed r m count n cause o (refuses c why v) few all none fits = keeps refl refl refl refl refl refl
home_deed r m count n cause o (idles h) few all none fits = home_idles r m count n cause h fits
