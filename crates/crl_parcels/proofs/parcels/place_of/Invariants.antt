use Rattle.std.proofs.Common.{◌≡◌, None, take}
use Rattle.crl_parcels.specs.ParcelKeys.{key_of_parcel}
use Rattle.crl_parcels.specs.ParcelsState.{gathering_in}
use Rattle.crl_parcels.proofs.parcels.place_of.Given as goal

abbrev pub invariant-loop-place : goal.invariant-loop-place
invariant-loop-place l = gathering_in (key_of_parcel l.key) (take l.place l.list) ≡ None
