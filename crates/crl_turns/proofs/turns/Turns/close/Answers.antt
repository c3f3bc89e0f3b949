use Rattle.std.proofs.Common.{rules, ap, sym, subst, ◌∙◌, ◌≡◌, ◌<◌, length, inl, inr, ⊎_elim, refl}
use Rattle.crl_turns.specs.declared.turns.Pass.{Pass}
use Rattle.crl_turns.specs.Fronts.{Begins}
use Rattle.crl_turns.specs.Rule.{IsAmong}
use Rattle.crl_turns.specs.Passes.{view_of}
use Rattle.crl_turns.proofs.Logs.{begins_trans}
use Rattle.crl_turns.proofs.Draining.{first_split, first_out}
use Rattle.crl_turns.proofs.turns.Turns.close.Goals as goal

pub grab_all-requires-clause-here : goal.grab_all-requires-clause-here
grab_all-requires-clause-here g c =
    let x = c.index_mut.result.now in
    let some : 0 < length c.args.passes.items = search rules in
    let t = first_split c.args.passes.items x some c.index_mut.ensures.value in
    (c.requires.here x (subst (λ l. IsAmong x l) (sym t.1) (inl refl))).0

pub grab_all-requires-clause-idle : goal.grab_all-requires-clause-idle
grab_all-requires-clause-idle g c =
    let x = c.index_mut.result.now in
    let some : 0 < length c.args.passes.items = search rules in
    let t = first_split c.args.passes.items x some c.index_mut.ensures.value in
    (c.requires.here x (subst (λ l. IsAmong x l) (sym t.1) (inl refl))).1

pub returns-in-Err : goal.returns-in-Err
returns-in-Err g c =
    let x = c.index_mut.result.now in
    let some : 0 < length c.args.passes.items = search rules in
    let t = first_split c.args.passes.items x some c.index_mut.ensures.value in (
      refl,
      record {
        before = x;
        after = c.grab_all.new.pass;
        others = t.0;
        were = t.1;
        are = t.2 c.grab_all.new.pass;
        same_turns = c.grab_all.ensures.here ∙ sym (c.requires.here x (subst (λ l. IsAmong x l) (sym t.1) (inl refl))).0;
        got_none = c.in-Err.ensures.told;
      },
    )

pub join_all-requires : goal.join_all-requires
join_all-requires g c =
    let x = c.index_mut.result.now in
    let some : 0 < length c.args.passes.items = search rules in
    let t = first_out c.args.passes.items c.remove-first.new.self.items x c.grab_all.new.pass c.remove-first.result some c.index_mut.ensures.value c.remove-first.ensures.value c.remove-first.ensures.by_index.2 in
    record {
      here = (
        ap (λ p. p.badge.table_id) t.1 ∙ c.grab_all.ensures.here,
        (λ p i. c.requires.here p (subst (λ l. IsAmong p l) (sym t.0) (inr i))),
      );
    }

pub returns : goal.returns
returns g c =
    let x = c.index_mut.result.now in
    let some : 0 < length c.args.passes.items = search rules in
    let t = first_out c.args.passes.items c.remove-first.new.self.items x c.grab_all.new.pass c.remove-first.result some c.index_mut.ensures.value c.remove-first.ensures.value c.remove-first.ensures.by_index.2 in
    let f = c.finish.ensures in
    let last = view_of c.join_all.new.first in
    let got = c.in_default-grab_all.ensures.told in
    let first : Begins (view_of x).front f.history =
    begins_trans (view_of x).front (view_of c.grab_all.new.pass).front f.history got.begins
    (begins_trans (view_of c.grab_all.new.pass).front last.front f.history (subst (λ (p : Pass). Begins (view_of p).front last.front) t.1 c.join_all.ensures.front) f.begins) in record {
      history = f.history;
      counts = f.counts;
      limit = f.limit;
      runs = f.runs;
      many = f.many;
      each = f.each;
      fronts = λ p i. ⊎_elim
          (λ (e : p ≡ x). subst (λ (q : Pass). Begins (view_of q).front f.history) (sym e) first)
          (λ later. begins_trans (view_of p).front last.front f.history (c.join_all.ensures.others p later) f.begins)
          (subst (λ l. IsAmong p l) t.0 i);
    }
