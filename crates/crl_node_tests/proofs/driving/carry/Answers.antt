use Rattle.std.proofs.Common.{◌<◌, subst}
use Rattle.std.proofs.lemmas.List.{length-map}
use Rattle.crl_model.specs.declared.event.Event.TheVariants as event
use Rattle.crl_world.specs.Seen.{world_seen}
use Rattle.crl_node_tests.proofs.Reaching.{piece_leaves, piece_framed, passed_reached}
use Rattle.crl_node_tests.proofs.driving.carry.Goals as goal
use Rattle.crl_deeds.proofs.Laws.{carry_node}

pub carry-requires-clause-node : goal.carry-requires-clause-node
carry-requires-clause-node g c =
    subst (λ n. c.args.i < n) (length-map c.args.world.now.nodes g.N.Member.state) (carry_node c.args.i c.args.place (world_seen g.N.Member.state c.args.world.now) c.requires.may)

pub carry-requires-clause-elsewhere : goal.carry-requires-clause-elsewhere
carry-requires-clause-elsewhere g c =
    let w = world_seen g.N.Member.state c.args.world.now in
    piece_leaves w c.requires.reached c.args.i c.args.place (carry_node c.args.i c.args.place w c.requires.may)

pub carry-requires-clause-in_table : goal.carry-requires-clause-in_table
carry-requires-clause-in_table g c =
    let w = world_seen g.N.Member.state c.args.world.now in
    piece_framed w c.requires.reached c.requires.few c.args.i c.args.place (carry_node c.args.i c.args.place w c.requires.may)

pub returns : goal.returns
returns g c =
    passed_reached (event.Carry c.args.i c.args.place) (world_seen g.N.Member.state c.args.world.now) _ c.carry.result c.requires.reached c.requires.may c.carry.ensures
