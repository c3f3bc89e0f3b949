use Rattle.crl_table.specs.Tables.{table_of}
use Rattle.crl_machine.specs.Seen.{state}
use Rattle.crl_machine.proofs.Rounds.{parts_are}
use Rattle.crl_machine.proofs.machine.Machine.gives.Goals as goal

pub returns : goal.returns
unfolding state
returns c = rw (parts_are c.args.self.now.nodes (table_of c.args.self.now.regions) c.args.self.now.rows.items c.args.round c.args.self.now.rows_fit) (rw c.deref.ensures.value at c.gives.ensures)
