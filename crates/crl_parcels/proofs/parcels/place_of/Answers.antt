use Rattle.std.proofs.Common.{sym, ◌∙◌}
use Rattle.crl_parcels.specs.ParcelKeys.{key_of_parcel}
use Rattle.crl_parcels.proofs.Finding.{found, one_further}
use Rattle.crl_parcels.proofs.parcels.place_of.Goals as goal

pub returns-then-is_key : goal.returns-then-is_key
returns-then-is_key c =
    found (key_of_parcel c.args.key) c.args.list.now c.loop-place.place _ c.loop-place.invariant c.loop-place-test.true (sym c.is_key.ensures ∙ c.if-is_key.true)

pub loop-place-preserved : goal.loop-place-preserved
loop-place-preserved c =
    one_further (key_of_parcel c.args.key) c.args.list.now c.loop-place.place _ c.loop-place.invariant c.loop-place-test.true (sym c.is_key.ensures ∙ c.if-is_key.false)
