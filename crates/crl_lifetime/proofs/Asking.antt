-- Who asked for a region of a home, and who is missing: what holds of it after each deed.
use Rattle.std.proofs.Common.{◌≡◌, ℕ, zero, suc, ◌+◌, ◌≤◌, ◌<◌, ◌==◌, Bool, true, false, List, [], ◌∷◌, length, if◌then◌else◌, refl, ap, sym, ◌∙◌, subst, arith}
use Rattle.std.proofs.lemmas.Bool.{cond_both, cond-true, eqb-true, eqb-false}
use Rattle.crl_model.specs.declared.name.Name.{Name}
use Rattle.crl_model.specs.declared.stage.Stage.TheVariants as stage
use Rattle.crl_model.specs.Names.{at_node}
use Rattle.crl_protocol.specs.Lifetimes.{Lifetime, new_lifetime, no_lifetime, members, members_from}
use Rattle.crl_protocol.specs.Node.{Node, Outcome, is_mine, lifetime_of, with_lifetime, serials_used}
use Rattle.crl_protocol.specs.Calls.{creates}
use Rattle.crl_deeds.specs.Deeds.{Cause, Lives, made, map_told, deletes_alone, deletes_own, deletes_alone_for, deletes_for, counts_off, ends_own, ends_for}
use Rattle.crl_deeds.specs.Counts.{Plain}
use Rattle.crl_deeds.specs.Turns.{Came}
use Rattle.crl_deeds.proofs.Laws.{by_name, lifetime_put}
use Rattle.crl_lifetime.specs.Lifetime.{one_if}
use Rattle.crl_lifetime.proofs.Storing.{made_of, going_of, flag_few}

-- Of one region at its home.
pub record LifeFits (count me : ℕ) (l : Lifetime) : Type 0 where
  pub fresh : (j : ℕ) → one_if (l.asked j) ≤ made_of l.stage
  pub going : (j : ℕ) → one_if (l.missing j) ≤ going_of l.stage
  pub askers : (j : ℕ) → l.asked j ≡ true → j < count
  pub missers : (j : ℕ) → l.missing j ≡ true → j < count
  pub some : going_of l.stage ≤ length (members count l.missing)
  pub home : l.missing me ≡ false

pub put_life : (P : Lifetime → Type 0) (n : Node) (name : Name) (lifetime : Lifetime) → is_mine n name ≡ true → P lifetime → ((q : Name) → P (lifetime_of n q)) → (q : Name) → P (lifetime_of (with_lifetime name lifetime n) q)
put_life P n name lifetime mine k h q = subst P (sym (lifetime_put n name lifetime mine q)) (by_name name (λ b p. P (if b then lifetime else lifetime_of n p)) k (λ p other. h p) q)

pub made_life : (P : Lifetime → Type 0) (n : Node) (size : ℕ) → P new_lifetime → P no_lifetime → ((q : Name) → P (lifetime_of n q)) → (q : Name) → P (lifetime_of (creates size n).node q)
made_life P n size new none h q =
    cond_both (is_mine n q) _ _ P
    (λ mine. cond_both (serials_used n + 1 == q.serial) _ _ P (λ w. new) (λ w. subst P (cond-true (is_mine n q) _ _ mine) (h q))) (λ w. none)

pub new_fits : (count me : ℕ) → LifeFits count me new_lifetime
new_fits count me = record { fresh = λ j. omega arith; going = λ j. omega arith; askers = λ j e. cc; missers = λ j e. cc; some = omega arith; home = refl }

pub no_fits : (count me : ℕ) → LifeFits count me no_lifetime
no_fits count me = record { fresh = λ j. omega arith; going = λ j. omega arith; askers = λ j e. cc; missers = λ j e. cc; some = omega arith; home = refl }

-- where no member is left, none is missing
pub none_left : (set : ℕ → Bool) (m k j : ℕ) → members_from m k set ≡ [] → m ≤ j → j < m + k → set j ≡ false
none_left set m zero j e h l = absurd (omega arith)
none_left set m (suc k) j e h l = go (set m) refl (λ w v. none_left set (m + 1) k j w v (omega arith)) e
  where
    go : (b : Bool) → set m ≡ b → (members_from (m + 1) k set ≡ [] → m + 1 ≤ j → set j ≡ false) → (if b then m ∷ members_from (m + 1) k set else members_from (m + 1) k set) ≡ [] → set j ≡ false
    go true w rest e = cc
    go false w rest e = at_it (m == j) refl
      where
        at_it : (c : Bool) → (m == j) ≡ c → set j ≡ false
        at_it true v = ap set (sym (eqb-true m j v)) ∙ w
        at_it false v = rest e (let ne = eqb-false m j v in grind arith)

asked_fits : (count me from : ℕ) (l : Lifetime) → l.stage ≡ stage.Live → from < count → LifeFits count me l → LifeFits count me (record l { asked = at_node l.asked from true })
asked_fits count me from l e few h = record {
  fresh = λ j. let a = flag_few (at_node l.asked from true j) in let b = ap made_of e in omega arith;
  going = h.going;
  askers = λ j. cond_both (from == j) _ _ (λ b. b ≡ true → j < count) (λ w v. subst (λ x. x < count) (eqb-true from j w) few) (λ w. h.askers j);
  missers = h.missers;
  some = h.some;
  home = h.home;
}

begun_fits : (count me deleter m : ℕ) (ms : List ℕ) (l : Lifetime) → members count l.asked ≡ m ∷ ms → l.asked me ≡ false → LifeFits count me l → LifeFits count me (record l { stage = stage.Going deleter; missing = l.asked })
begun_fits count me deleter m ms l e none h = record {
  fresh = λ j. flag_few (l.asked j);
  going = λ j. flag_few (l.asked j);
  askers = h.askers;
  missers = h.askers;
  some = let a = ap (λ (x : List ℕ). length x) e in omega arith;
  home = none;
}

alone_fits : (count me : ℕ) (l : Lifetime) → l.stage ≡ stage.Live → LifeFits count me l → LifeFits count me (record l { stage = stage.Gone })
alone_fits count me l e h = record {
  fresh = λ j. flag_few (l.asked j);
  going = λ j. subst (λ s. one_if (l.missing j) ≤ going_of s) e (h.going j);
  askers = h.askers;
  missers = h.missers;
  some = omega arith;
  home = h.home;
}

less : (l : ℕ → Bool) (from j : ℕ) → at_node l from false j ≡ true → l j ≡ true
less l from j = cond_both (from == j) _ _ (λ b. b ≡ true → l j ≡ true) (λ w v. cc) (λ w v. v)

counted_fits : (count me deleter from m : ℕ) (ms : List ℕ) (l : Lifetime) → l.stage ≡ stage.Going deleter → members count (at_node l.missing from false) ≡ m ∷ ms → LifeFits count me l
    → LifeFits count me (record l { missing = at_node l.missing from false })
counted_fits count me deleter from m ms l e left h = record {
  fresh = h.fresh;
  going = λ j. let a = flag_few (at_node l.missing from false j) in let b = ap going_of e in omega arith;
  askers = h.askers;
  missers = λ j w. h.missers j (less l.missing from j w);
  some = let a = ap (λ (x : List ℕ). length x) left in let b = ap going_of e in omega arith;
  home = cond_both (from == me) _ _ (λ b. b ≡ false) (λ w. refl) (λ w. h.home);
}

ended_fits : (count me deleter from : ℕ) (l : Lifetime) → l.stage ≡ stage.Going deleter → members count (at_node l.missing from false) ≡ [] → LifeFits count me l
    → LifeFits count me (record l { stage = stage.Gone; missing = at_node l.missing from false })
ended_fits count me deleter from l e last h = record {
  fresh = λ j. flag_few (l.asked j);
  going = λ j. go j (at_node l.missing from false j) refl;
  askers = h.askers;
  missers = λ j w. h.missers j (less l.missing from j w);
  some = omega arith;
  home = cond_both (from == me) _ _ (λ b. b ≡ false) (λ w. refl) (λ w. h.home);
}
  where
    go : (j : ℕ) (b : Bool) → at_node l.missing from false j ≡ b → one_if b ≤ 0
    go j true w = absurd (let few = h.missers j (less l.missing from j w) in let none = none_left (at_node l.missing from false) 0 count j last (omega arith) (omega arith) in cc)
    go j false w = omega arith

pub life_lives : (count : ℕ) (n : Node) (cause : Cause) (o : Outcome) → Lives n cause o → n.nodes ≡ count → ((q : Name) → (lifetime_of n q).asked n.me ≡ false) → Came (Plain count) n.me cause → ((q : Name) → LifeFits count n.me (lifetime_of n q)) → (q : Name) → LifeFits count n.me (lifetime_of o.node q)
life_lives count n cause o (made size e) all none f h = made_life (LifeFits count n.me) n size (new_fits count n.me) (no_fits count n.me) h
life_lives count n cause o (map_told from name mine live) all none f h = put_life (LifeFits count n.me) n name _ mine (asked_fits count n.me from _ live f.0 (h name)) h
life_lives count n cause o (deletes_alone name mine live e) all none f h = put_life (LifeFits count n.me) n name _ mine (alone_fits count n.me _ live (h name)) h
life_lives count n cause o (deletes_own name m ms mine live e) all none f h = put_life (LifeFits count n.me) n name _ mine (begun_fits count n.me n.me m ms _ (subst (λ k. members k (lifetime_of n name).asked ≡ m ∷ ms) all e) (none name) (h name)) h
life_lives count n cause o (deletes_alone_for from name mine live e) all none f h = put_life (LifeFits count n.me) n name _ mine (alone_fits count n.me _ live (h name)) h
life_lives count n cause o (deletes_for from name m ms mine live e) all none f h = put_life (LifeFits count n.me) n name _ mine (begun_fits count n.me from m ms _ (subst (λ k. members k (lifetime_of n name).asked ≡ m ∷ ms) all e) (none name) (h name)) h
life_lives count n cause o (counts_off from name deleter m ms mine e missing left) all none f h =
    put_life (LifeFits count n.me) n name _ mine (counted_fits count n.me deleter from m ms _ e (subst (λ k. members k (at_node (lifetime_of n name).missing from false) ≡ m ∷ ms) all left) (h name)) h
life_lives count n cause o (ends_own from name mine e missing last) all none f h =
    put_life (LifeFits count n.me) n name _ mine (ended_fits count n.me n.me from _ e (subst (λ k. members k (at_node (lifetime_of n name).missing from false) ≡ []) all last) (h name)) h
life_lives count n cause o (ends_for from name deleter mine e other missing last) all none f h =
    put_life (LifeFits count n.me) n name _ mine (ended_fits count n.me deleter from _ e (subst (λ k. members k (at_node (lifetime_of n name).missing from false) ≡ []) all last) (h name)) h
life_lives count n cause o _ all none f h = h
