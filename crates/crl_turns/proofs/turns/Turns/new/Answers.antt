use Rattle.std.proofs.Common.{rules, sym, subst, ◌≡◌, Some, slice_get, []}
use Rattle.crl_turns.specs.Rule.{StandsFor}
use Rattle.crl_turns.proofs.Opens.{opens, at_first}
use Rattle.crl_turns.proofs.turns.Turns.new.Goals as goal

pub new-requires : goal.new-requires
new-requires g c = let key = c.shape-shape.result in
    let first : slice_get c.args.values.items 0 ≡ Some c.index.result.now = at_first c.args.values.items c.index.result.now (search rules) c.index.ensures in
    opens (g.V.Turned.enabled key) (g.V.Turned.touches key) (StandsFor g.V.Turned.shape g.V.Turned.stands key) c.len.result c.args.values.items c.as_slice.result.now c.in_ok-slots.slots.items
    (search rules) (search rules) (search rules)
    (λ i x at. subst (λ s. StandsFor g.V.Turned.shape g.V.Turned.stands s i [] x) (sym c.shape-shape.ensures) (c.requires.stand i x c.index.result.now at first))
