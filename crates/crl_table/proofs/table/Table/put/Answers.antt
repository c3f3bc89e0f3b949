use Rattle.crl_table.proofs.Rows.{put_from}
use Rattle.crl_table.proofs.table.Table.put.Goals as goal

pub returns : goal.returns
returns g c = put_from c.args.name.now c.args.row c.args.self.now _ c.requires.place c.swap.ensures.places c.swap.ensures.update
