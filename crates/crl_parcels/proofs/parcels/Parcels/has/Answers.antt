use Rattle.std.proofs.Common.{ap, ◌∙◌}
use Rattle.std.specs.Option.{is_some}
use Rattle.crl_parcels.specs.ParcelKeys.{key_of_parcel}
use Rattle.crl_parcels.specs.ParcelsState.{gathering_in, slots_gathered}
use Rattle.crl_parcels.proofs.Adding.{place_says}
use Rattle.crl_parcels.proofs.parcels.Parcels.has.Goals as goal

pub returns : goal.returns
returns c =
    let key = key_of_parcel c.args.key in
    c.is_some.ensures ∙ place_says key c.as_slice.result.now c.place_of.result c.place_of.ensures
    ∙ ap (λ list. is_some (slots_gathered (gathering_in key list))) c.as_slice.ensures.value ∙ ap (λ s. is_some (slots_gathered (gathering_in key s.list))) c.self.view_is
