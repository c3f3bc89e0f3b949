use Rattle.crl_stages.proofs.Bits.{members_removed, below_removed}
use Rattle.crl_stages.proofs.node_set.NodeSet.remove.Goals as goal

pub returns-clause-members : goal.returns-clause-members
returns-clause-members c = rw (← c.self.view_is) (members_removed c.self.inside.bits c.args.node c.requires.node (rw (← c.self.view_is) at c.requires.there))

pub returns-clause-below : goal.returns-clause-below
returns-clause-below c = rw (← c.self.view_is) (below_removed c.self.inside.bits c.args.node c.requires.node)
