use Rattle.std.proofs.Common.{◌<◌, subst}
use Rattle.std.proofs.lemmas.List.{length-map}
use Rattle.crl_model.specs.declared.event.Event.TheVariants as event
use Rattle.crl_world.specs.Seen.{world_seen}
use Rattle.crl_node_tests.proofs.Reaching.{piece_safe, passed_reached}
use Rattle.crl_node_tests.proofs.driving.handle.Goals as goal
use Rattle.crl_deeds.proofs.Laws.{handle_node}

pub handle-requires-clause-node : goal.handle-requires-clause-node
handle-requires-clause-node g c =
    subst (λ n. c.args.i < n) (length-map c.args.world.now.nodes g.N.Member.state) (handle_node c.args.i c.args.place (world_seen g.N.Member.state c.args.world.now) c.requires.may)

pub handle-requires-clause-piece : goal.handle-requires-clause-piece
handle-requires-clause-piece g c =
    let w = world_seen g.N.Member.state c.args.world.now in
    piece_safe w c.requires.reached c.args.i c.args.place (handle_node c.args.i c.args.place w c.requires.may)

pub returns : goal.returns
returns g c =
    passed_reached (event.Handle c.args.i c.args.place) (world_seen g.N.Member.state c.args.world.now) _ c.handle.result c.requires.reached c.requires.may c.handle.ensures
