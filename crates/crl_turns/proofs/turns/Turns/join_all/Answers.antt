use Rattle.std.proofs.Common.{rules, ap, sym, subst, ◌∙◌, ◌∷◌, [], inl, inr, ⊎_elim, ◌≡◌, length}
use Rattle.crl_turns.specs.declared.turns.Pass.{Pass}
use Rattle.crl_turns.specs.Fronts.{Begins}
use Rattle.crl_turns.specs.Rule.{IsAmong}
use Rattle.crl_turns.specs.Passes.{view_of}
use Rattle.crl_turns.proofs.Logs.{begins_trans}
use Rattle.crl_turns.proofs.Draining.{in_first, in_last, in_none, left_behind}
use Rattle.crl_turns.proofs.turns.Turns.join_all.Goals as goal

pub join-requires-clause-here : goal.join-requires-clause-here
join-requires-clause-here g c =
    let inv = c.loop-other.invariant in
    let other = c.in-Some.other in
    let there : IsAmong other c.loop-other.others.items = subst (λ l. IsAmong other l) (sym c.in-Some.ensures.items) (in_last c.pop.new.self.items other) in
    (inv.0 ∙ c.requires.here.0, (c.requires.here.1 other (inv.5 other there)).0)

pub join-requires-clause-idle : goal.join-requires-clause-idle
join-requires-clause-idle g c =
    let inv = c.loop-other.invariant in
    let other = c.in-Some.other in
    let there : IsAmong other c.loop-other.others.items = subst (λ l. IsAmong other l) (sym c.in-Some.ensures.items) (in_last c.pop.new.self.items other) in
    (c.requires.here.1 other (inv.5 other there)).1

pub loop-other-preserved : goal.loop-other-preserved
loop-other-preserved g c =
    let inv = c.loop-other.invariant in
    let told = c.join.ensures.told in
    let old = view_of c.loop-other.first in
    let new = view_of c.join.new.pass in (
      search rules,
      begins_trans (view_of c.args.first.now).front old.front new.front inv.1 told.grows.begins,
      ap (λ v. v.holds) told.view ∙ inv.2,
      ap (λ v. v.tried) told.view ∙ inv.3,
      ap (λ v. v.splits) told.view ∙ inv.4,
      (λ p i. inv.5 p (subst (λ l. IsAmong p l) (sym c.in-Some.ensures.items) (in_first c.pop.new.self.items (c.in-Some.other ∷ []) p i))),
      left_behind {B = λ (p : Pass). Begins (view_of p).front new.front} c.args.others.items c.loop-other.others.items c.pop.new.self.items c.in-Some.other c.in-Some.ensures.items
          (λ p i. ⊎_elim (λ a. inl a) (λ b. inr (begins_trans (view_of p).front old.front new.front b told.grows.begins)) (inv.6 p i)) told.begins,
    )

pub returns-clause-others : goal.returns-clause-others
returns-clause-others g c p i =
    let none : length c.loop-other.others.items ≡ 0 = search rules in
    ⊎_elim (λ a. absurd (in_none c.loop-other.others.items p none a)) (λ b. b) (c.loop-other.invariant.6 p i)
