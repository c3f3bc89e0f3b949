use Rattle.std.proofs.Common.{sym, subst, map, arith}
use Rattle.std.specs.List.{All}
use Rattle.std.proofs.lemmas.List.Elements.{All-push}
use Rattle.crl_crew.specs.Tasks.{IsReady}
use Rattle.crl_crew.proofs.Quiet.{split_idle}
use Rattle.crl_crew.proofs.crews.workers_for.Goals as goal

pub ready_worker-requires : goal.ready_worker-requires
ready_worker-requires g c =
    let few = c.requires.few in
    let less = c.loop-first-test.true in
    ((split_idle c.args.nodes.now c.loop-first.pass c.split-own.new.pass c.split-own.result c.loop-first.invariant.0 c.split-own.ensures.here c.split-own.ensures.told).1, omega (arith, few, less))

pub loop-first-preserved : goal.loop-first-preserved
loop-first-preserved g c =
    let P = IsReady c.args.nodes.now (map (λ b. b.items) c.args.blocks.now) in (
      (split_idle c.args.nodes.now c.loop-first.pass c.split-own.new.pass c.split-own.result c.loop-first.invariant.0 c.split-own.ensures.here c.split-own.ensures.told).0,
      subst (λ xs. All P xs) (sym c.in_ok-push.ensures.items) (All-push P c.loop-first.crew.items c.ready_worker.result c.loop-first.invariant.1 c.ready_worker.ensures),
    )
