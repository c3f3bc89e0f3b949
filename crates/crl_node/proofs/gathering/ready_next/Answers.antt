use Rattle.crl_parcels.specs.ParcelKeys.{key_of_parcel}
use Rattle.crl_parcels.specs.ParcelsState.{gathering_in}
use Rattle.crl_node.proofs.Gathers.{next_ready}
use Rattle.crl_node.proofs.gathering.ready_next.Goals as goal

pub returns-clause-blank : goal.returns-clause-blank
returns-clause-blank c = next_ready c.args.size c.args.known (gathering_in (key_of_parcel c.args.key) c.args.parcels.now.list) _ _ c.requires.known
