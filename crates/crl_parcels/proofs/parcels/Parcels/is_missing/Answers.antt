use Rattle.std.proofs.Common.{◌≡◌, None, ap, sym, ◌∙◌}
use Rattle.crl_pieces.specs.Pieces.{is_missing}
use Rattle.crl_protocol.specs.Parcels.{slots_or}
use Rattle.crl_parcels.specs.ParcelKeys.{key_of_parcel}
use Rattle.crl_parcels.specs.ParcelsState.{gathering_in, slots_gathered}
use Rattle.crl_parcels.proofs.Adding.{fresh_missing}
use Rattle.crl_parcels.proofs.parcels.Parcels.is_missing.Goals as goal

pub returns-in-None : goal.returns-in-None
returns-in-None c =
    let key = key_of_parcel c.args.key in
    let none : gathering_in key c.args.self.now.list ≡ None =
    ap (λ s. gathering_in key s.list) (sym c.self.view_is) ∙ ap (gathering_in key) (sym c.as_slice.ensures.value) ∙ c.in-None.ensures in
    fresh_missing c.args.index c.args.number ∙ ap (λ o. is_missing c.args.index (slots_or c.args.number (slots_gathered o))) (sym none)
