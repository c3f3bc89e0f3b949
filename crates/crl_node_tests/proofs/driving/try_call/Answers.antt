use Rattle.std.proofs.Common.{◌<◌, subst, sym, arith}
use Rattle.std.proofs.lemmas.List.{length-map}
use Rattle.crl_world.specs.Seen.{world_seen}
use Rattle.crl_node_tests.proofs.Coming.{made_enabled}
use Rattle.crl_node_tests.proofs.Reaching.{call_reached}
use Rattle.crl_node_tests.proofs.driving.try_call.Goals as goal

pub call-requires-clause-enabled : goal.call-requires-clause-enabled
call-requires-clause-enabled g c =
    made_enabled c.args.i c.args.call (world_seen g.N.Member.state c.args.world.now) (subst (λ n. c.args.i < n) (sym (length-map c.args.world.now.nodes g.N.Member.state)) (grind arith)) (grind arith) (grind arith)

pub returns-in-Ok : goal.returns-in-Ok
returns-in-Ok g c =
    call_reached c.args.i c.args.call (world_seen g.N.Member.state c.args.world.now) _ c.call.result c.requires
    (made_enabled c.args.i c.args.call (world_seen g.N.Member.state c.args.world.now) (subst (λ n. c.args.i < n) (sym (length-map c.args.world.now.nodes g.N.Member.state)) (grind arith)) (grind arith) (grind arith)) c.call.ensures
