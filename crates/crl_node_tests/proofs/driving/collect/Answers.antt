use Rattle.std.proofs.Common.{◌<◌, subst, sym, arith}
use Rattle.std.proofs.lemmas.List.{length-map}
use Rattle.crl_world.specs.Seen.{world_seen}
use Rattle.crl_node_tests.proofs.Coming.{collect_enabled}
use Rattle.crl_node_tests.proofs.Reaching.{collect_reached}
use Rattle.crl_node_tests.proofs.driving.collect.Goals as goal

pub collect-requires-clause-enabled : goal.collect-requires-clause-enabled
collect-requires-clause-enabled g c =
    collect_enabled c.args.i (world_seen g.N.Member.state c.args.world.now) (subst (λ n. c.args.i < n) (sym (length-map c.args.world.now.nodes g.N.Member.state)) (grind arith)) (grind arith)

pub returns : goal.returns
returns g c =
    collect_reached c.args.i (world_seen g.N.Member.state c.args.world.now) _ c.collect.result c.requires
    (collect_enabled c.args.i (world_seen g.N.Member.state c.args.world.now) (subst (λ n. c.args.i < n) (sym (length-map c.args.world.now.nodes g.N.Member.state)) (grind arith)) (grind arith)) c.collect.ensures
