use Rattle.crl_stages.proofs.Bits.{members_put, below_put}
use Rattle.crl_stages.proofs.node_set.NodeSet.put.Goals as goal

pub returns-clause-members : goal.returns-clause-members
returns-clause-members c = rw (← c.self.view_is) (members_put c.self.inside.bits c.args.node c.requires)

pub returns-clause-below : goal.returns-clause-below
returns-clause-below c = rw (← c.self.view_is) (below_put c.self.inside.bits c.args.node c.requires)
