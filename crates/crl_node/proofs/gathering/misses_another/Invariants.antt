use Rattle.crl_protocol.specs.Parcels.{slots_or}
use Rattle.crl_parcels.specs.ParcelKeys.{key_of_parcel}
use Rattle.crl_parcels.specs.ParcelsState.{parcels_of}
use Rattle.crl_node.specs.Handling.{MissesNoOther}
use Rattle.crl_node.proofs.gathering.misses_another.Given as goal

abbrev pub invariant-loop-other : goal.invariant-loop-other
invariant-loop-other l = MissesNoOther l.index l.other (slots_or l.number (parcels_of l.parcels (key_of_parcel l.key)))
