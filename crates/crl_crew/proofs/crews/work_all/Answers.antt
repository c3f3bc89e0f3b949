use Rattle.std.proofs.Common.{map}
use Rattle.crl_crew.proofs.Teams.{all_idle}
use Rattle.crl_crew.proofs.crews.work_all.Goals as goal

pub joined_all-requires-clause-ends : goal.joined_all-requires-clause-ends
joined_all-requires-clause-ends g c =
    all_idle c.args.nodes.now (map (λ b. b.items) c.args.blocks.now) c.in_ok-crew.crew.items c.in_ok-ends.ends.items c.in_ok-ends.ensures.many c.in_ok-crew.ensures.crew c.in_ok-ends.ensures.ends
