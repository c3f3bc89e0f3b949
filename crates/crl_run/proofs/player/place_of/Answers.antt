use Rattle.std.proofs.Common.{sym, ap, ◌∙◌, arith}
use Rattle.crl_model.specs.Names.{name_eq}
use Rattle.crl_run.proofs.Holding.{is_of, stands_here, stands_nowhere}
use Rattle.crl_run.proofs.player.place_of.Goals as goal

pub returns-then-eq : goal.returns-then-eq
returns-then-eq c =
    let long = c.args.guards.now.ok.0 in
    stands_here c.args.name c.args.guards.now.items c.loop-place.place c.index.result.now c.loop-place.invariant (omega (arith, c.loop-place-test.true))
    (ap (λ h. is_of c.args.name h) (sym c.index.ensures) ∙ ap (λ n. name_eq n c.args.name) (sym c.name.ensures) ∙ sym c.eq.ensures ∙ c.if-eq.true)

pub returns : goal.returns
returns c =
    let long = c.args.guards.now.ok.0 in
    stands_nowhere c.args.name c.args.guards.now.items (λ j d before within. c.loop-place.invariant j d (omega (arith, c.loop-place-test.false)) within)
