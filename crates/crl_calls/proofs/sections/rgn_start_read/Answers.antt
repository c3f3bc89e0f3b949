use Rattle.crl_model.specs.declared.call.Call.TheVariants as call
use Rattle.crl_cluster.specs.Clusters.{shape_of}
use Rattle.crl_calls.proofs.Shows.{shown_read}
use Rattle.crl_calls.proofs.sections.rgn_start_read.Goals as goal

pub returns-clause-shows : goal.returns-clause-shows
returns-clause-shows g c = shown_read (shape_of c.args.cluster.now) (call.StartRead c.args.name) c.args.who.now c.ask.new.who c.args.name c.ask.result c.ask.ensures.told
