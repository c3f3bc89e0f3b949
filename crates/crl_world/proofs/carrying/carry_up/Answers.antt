use Rattle.crl_world.proofs.Halves.{up_done, up_same}
use Rattle.crl_world.proofs.carrying.carry_up.Goals as goal

pub returns-clause-ok : goal.returns-clause-ok
returns-clause-ok g c =
    up_done g.N.Member.state c.args.at c.args.i c.args.j c.args.place c.args.nodes.now c.carry.new.self c.carry.new.to
    c.split_at_mut-front.result.0.now c.split_at_mut-front.result.1.now c.index-front-i.result c.index-back-0.result c.requires.places.0 c.requires.places.1 c.split_at_mut-front.ensures.front c.split_at_mut-front.ensures.back c.carry.result c.carry.ensures.ok

pub returns-clause-err : goal.returns-clause-err
returns-clause-err g c =
    up_same g.N.Member.state c.args.at c.args.i c.args.j c.args.place c.args.nodes.now c.carry.new.self c.carry.new.to
    c.split_at_mut-front.result.0.now c.split_at_mut-front.result.1.now c.index-front-i.result c.index-back-0.result c.requires.places.0 c.requires.places.1 c.split_at_mut-front.ensures.front c.split_at_mut-front.ensures.back c.carry.result c.carry.ensures.err
