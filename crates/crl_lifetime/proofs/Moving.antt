-- Where a region stands after a deed: a region that was made stays made.
use Rattle.std.proofs.Common.{◌≡◌, ℕ, ◌+◌, ◌≤◌, ◌==◌, Bool, true, false, None, Some, Option, if◌then◌else◌, refl, ap, sym, ◌∙◌, subst, arith}
use Rattle.std.proofs.lemmas.Bool.{cond_both, cond-true, eqb-true}
use Rattle.crl_model.specs.declared.name.Name.{Name}
use Rattle.crl_model.specs.declared.stage.Stage.{Stage}
use Rattle.crl_model.specs.declared.stage.Stage.TheVariants as stage
use Rattle.crl_model.specs.declared.call.Call.{Call}
use Rattle.crl_model.specs.declared.entry.What.{What}
use Rattle.crl_model.specs.Names.{at_node, at_name}
use Rattle.crl_protocol.specs.Lifetimes.{Mapping, Lifetime, new_lifetime, no_lifetime}
use Rattle.crl_protocol.specs.Node.{Node, Outcome, is_mine, lifetime_of, with_lifetime, serials_used}
use Rattle.crl_protocol.specs.Calls.{creates}
use Rattle.crl_deeds.specs.Deeds.{Cause, Copies, Lives, Rounds, Notes, Deed, copies, lives, rounds, notes, home_opens, made, maps_more, maps_own, maps_cached, map_told, map_comes, unmaps_one, unmaps_own, unmaps_doomed, unmaps_keeping, unmaps_evicting, deletes_alone, deletes_own, deletes_alone_for, deletes_for, dooms, counts_off, ends_own, ends_for, comes_away, flushes_own}
use Rattle.crl_deeds.specs.Counts.{WaitsAway, NoneYet}
use Rattle.crl_deeds.proofs.Laws.{by_name, lifetime_put, lives_frame}
use Rattle.crl_lifetime.specs.Lifetime.{StageMoves, stays, created, begins, deleted, ends}
use Rattle.crl_lifetime.proofs.Storing.{one, mapped_weight, made_of}
use Rattle.crl_lifetime.proofs.Having.{map_is}

moved_put : (n : Node) (name : Name) (lifetime : Lifetime) → is_mine n name ≡ true → StageMoves (lifetime_of n name).stage lifetime.stage → (q : Name) → StageMoves (lifetime_of n q).stage (lifetime_of (with_lifetime name lifetime n) q).stage
moved_put n name lifetime mine k q = subst (λ (l : Lifetime). StageMoves (lifetime_of n q).stage l.stage) (sym (lifetime_put n name lifetime mine q)) (by_name name (λ b p. StageMoves (lifetime_of n p).stage (if b then lifetime else lifetime_of n p).stage) k (λ p other. stays) q)

from_to : (s t u v : Stage) → s ≡ t → u ≡ v → StageMoves t v → StageMoves s u
from_to s t u v e f h = subst (λ x. StageMoves x u) (sym e) (subst (λ x. StageMoves t x) (sym f) h)

moved_made : (n : Node) (size : ℕ) → NoneYet n → (q : Name) → StageMoves (lifetime_of n q).stage (lifetime_of (creates size n).node q).stage
moved_made n size none q = go (is_mine n q) refl
  where
    inner : (b : Bool) → (serials_used n + 1 == q.serial) ≡ b → StageMoves (n.lifetimes q.serial).stage (if b then new_lifetime else n.lifetimes q.serial).stage
    inner true w = from_to _ stage.Unknown _ stage.Live (none q.serial (let same = eqb-true (serials_used n + 1) q.serial w in omega arith)) refl created
    inner false w = stays

    go : (b : Bool) → is_mine n q ≡ b → StageMoves (if b then n.lifetimes q.serial else no_lifetime).stage (if b then at_node n.lifetimes (serials_used n + 1) new_lifetime q.serial else no_lifetime).stage
    go true w = inner (serials_used n + 1 == q.serial) refl
    go false w = stays

pub moved_lives : (n : Node) (cause : Cause) (o : Outcome) → Lives n cause o → NoneYet n → (q : Name) → StageMoves (lifetime_of n q).stage (lifetime_of o.node q).stage
moved_lives n cause o (made size e) none q = moved_made n size none q
moved_lives n cause o (map_told from name mine live) none q = moved_put n name _ mine stays q
moved_lives n cause o (deletes_alone name mine live e) none q = moved_put n name _ mine (from_to _ stage.Live _ stage.Gone live refl deleted) q
moved_lives n cause o (deletes_own name m ms mine live e) none q = moved_put n name _ mine (from_to _ stage.Live _ (stage.Going n.me) live refl (begins n.me)) q
moved_lives n cause o (deletes_alone_for from name mine live e) none q = moved_put n name _ mine (from_to _ stage.Live _ stage.Gone live refl deleted) q
moved_lives n cause o (deletes_for from name m ms mine live e) none q = moved_put n name _ mine (from_to _ stage.Live _ (stage.Going from) live refl (begins from)) q
moved_lives n cause o (counts_off from name deleter m ms mine e missing left) none q = moved_put n name _ mine stays q
moved_lives n cause o (ends_own from name mine e missing last) none q = moved_put n name _ mine (from_to _ (stage.Going n.me) _ stage.Gone e refl (ends n.me)) q
moved_lives n cause o (ends_for from name deleter mine e other missing last) none q = moved_put n name _ mine (from_to _ (stage.Going deleter) _ stage.Gone e refl (ends deleter)) q
moved_lives n cause o _ none q = stays

moved_copies : (n : Node) (cause : Cause) (o : Outcome) → Copies n cause o → (q : Name) → StageMoves (lifetime_of n q).stage (lifetime_of o.node q).stage
moved_copies n cause o (home_opens c write name h is e v x) q = stays
moved_copies n cause o _ q = stays

moved_rounds : (n : Node) (cause : Cause) (o : Outcome) → Rounds n cause o → (q : Name) → StageMoves (lifetime_of n q).stage (lifetime_of o.node q).stage
moved_rounds n cause o (comes_away part other fits) q = stays
moved_rounds n cause o _ q = stays

moved_notes : (n : Node) (c : Call) (w : What) (m : Node) → Notes n c w m → (q : Name) → StageMoves (lifetime_of n q).stage (lifetime_of m q).stage
moved_notes n c w m (flushes_own name mine closed) q = stays
moved_notes n c w m _ q = stays

pub moved_deed : (n : Node) (cause : Cause) (o : Outcome) → Deed n cause o → NoneYet n → (q : Name) → StageMoves (lifetime_of n q).stage (lifetime_of o.node q).stage
moved_deed n cause o (copies d) none = moved_copies n cause o d
moved_deed n cause o (lives d) none = moved_lives n cause o d none
moved_deed n cause o (rounds d) none = moved_rounds n cause o d
moved_deed n cause o (notes d) none = moved_notes n _ _ _ d
moved_deed n cause o _ none = λ q. stays

pub stays_made : (s t : Stage) → StageMoves s t → made_of s ≤ made_of t
stays_made s t stays = omega arith
stays_made s t created = omega arith
stays_made s t (begins deleter) = omega arith
stays_made s t deleted = omega arith
stays_made s t (ends deleter) = omega arith

-- A region of its own that it has mapped was made.
abbrev pub OwnMade : Node → Type 0
OwnMade n = (q : Name) → is_mine n q ≡ true → mapped_weight one (n.maps q) ≤ made_of (lifetime_of n q).stage

abbrev OwnFew : Node → Node → Type 0
OwnFew n m = (q : Name) → is_mine n q ≡ true → mapped_weight one (m.maps q) ≤ made_of (lifetime_of n q).stage

few_put : (n : Node) (name : Name) (k : Option Mapping) → (is_mine n name ≡ true → mapped_weight one k ≤ made_of (lifetime_of n name).stage) → OwnMade n → (q : Name) → is_mine n q ≡ true → mapped_weight one (at_name n.maps name k q) ≤ made_of (lifetime_of n q).stage
few_put n name k here h = by_name name (λ b q. is_mine n q ≡ true → mapped_weight one (if b then k else n.maps q) ≤ made_of (lifetime_of n q).stage) here (λ q other. h q)

few_same : (n : Node) (name : Name) (m : Mapping) → n.maps name ≡ Some m → OwnMade n → is_mine n name ≡ true → 1 ≤ made_of (lifetime_of n name).stage
few_same n name m e h mine = let a = h name mine in let b = map_is n name _ e in omega arith

few_lives : (n : Node) (cause : Cause) (o : Outcome) → Lives n cause o → WaitsAway n.me n.activity → OwnMade n → OwnFew n o.node
few_lives n cause o (maps_more name m e few mine other) w h = few_put n name _ (few_same n name m e h) h
few_lives n cause o (maps_own name e mine live) w h = few_put n name _ (λ own. let a = ap made_of live in omega arith) h
few_lives n cause o (maps_cached name size e other c) w h = few_put n name _ (λ own. cc) h
few_lives n cause o (map_comes from name purged size e) w h = few_put n name _ (λ own. let a : (name.home == n.me) ≡ false = subst (λ x. WaitsAway n.me x) e w in cc) h
few_lives n cause o (unmaps_one name m e some more closed) w h = few_put n name _ (few_same n name m e h) h
few_lives n cause o (unmaps_own name m e once mine closed) w h = few_put n name None (λ own. omega arith) h
few_lives n cause o (unmaps_doomed name m e once other doomed closed) w h = few_put n name None (λ own. omega arith) h
few_lives n cause o (unmaps_keeping name m e once other sound closed kept) w h = few_put n name None (λ own. omega arith) h
few_lives n cause o (unmaps_evicting name m old e once other sound closed kept) w h = few_put n name None (λ own. omega arith) h
few_lives n cause o (dooms from name m e) w h = few_put n name _ (few_same n name m e h) h
few_lives n cause o _ w h = h

pub made_lives : (n : Node) (cause : Cause) (o : Outcome) → Lives n cause o → NoneYet n → WaitsAway n.me n.activity → OwnMade n → OwnMade o.node
made_lives n cause o d none w h q mine =
    let a = few_lives n cause o d w h q (subst (λ x. (q.home == x) ≡ true) (lives_frame n cause o d).me mine) in
    let b = stays_made _ _ (moved_lives n cause o d none q) in omega arith

-- No region has serial 0.
zero_put : (n : Node) (name : Name) (lifetime : Lifetime) (t : Stage) → is_mine n name ≡ true → (lifetime_of n name).stage ≡ t → (t ≡ stage.Unknown → ⊥) → (n.lifetimes 0).stage ≡ stage.Unknown → (at_node n.lifetimes name.serial lifetime 0).stage ≡ stage.Unknown
zero_put n name lifetime t mine e other h =
    cond_both (name.serial == 0) _ _ (λ (x : Lifetime). x.stage ≡ stage.Unknown)
    (λ w. absurd (other (sym e ∙ ap (λ (x : Lifetime). x.stage) (cond-true (is_mine n name) _ _ mine) ∙ ap (λ s. (n.lifetimes s).stage) (eqb-true name.serial 0 w) ∙ h))) (λ w. h)

pub zero_lives : (n : Node) (cause : Cause) (o : Outcome) → Lives n cause o → (n.lifetimes 0).stage ≡ stage.Unknown → (o.node.lifetimes 0).stage ≡ stage.Unknown
zero_lives n cause o (made size e) h = cond_both (serials_used n + 1 == 0) _ _ (λ (x : Lifetime). x.stage ≡ stage.Unknown) (λ w. let z = eqb-true (serials_used n + 1) 0 w in absurd (omega arith)) (λ w. h)
zero_lives n cause o (map_told from name mine live) h = zero_put n name _ stage.Live mine live (λ w. cc) h
zero_lives n cause o (deletes_alone name mine live e) h = zero_put n name _ stage.Live mine live (λ w. cc) h
zero_lives n cause o (deletes_own name m ms mine live e) h = zero_put n name _ stage.Live mine live (λ w. cc) h
zero_lives n cause o (deletes_alone_for from name mine live e) h = zero_put n name _ stage.Live mine live (λ w. cc) h
zero_lives n cause o (deletes_for from name m ms mine live e) h = zero_put n name _ stage.Live mine live (λ w. cc) h
zero_lives n cause o (counts_off from name deleter m ms mine e missing left) h = zero_put n name _ (stage.Going deleter) mine e (λ w. cc) h
zero_lives n cause o (ends_own from name mine e missing last) h = zero_put n name _ (stage.Going n.me) mine e (λ w. cc) h
zero_lives n cause o (ends_for from name deleter mine e other missing last) h = zero_put n name _ (stage.Going deleter) mine e (λ w. cc) h
zero_lives n cause o _ h = h
