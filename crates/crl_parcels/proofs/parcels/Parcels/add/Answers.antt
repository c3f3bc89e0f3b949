use Rattle.std.proofs.Common.{◌≡◌, Option, List, ℕ, Some, if◌then◌else◌, ap, sym, ◌∙◌}
use Rattle.std.specs.Option.{option_or}
use Rattle.crl_pieces.specs.Gathering.{Gathering}
use Rattle.crl_pieces.specs.Pieces.{with_piece}
use Rattle.crl_protocol.specs.Parcels.{Key, key_eq, at_key}
use Rattle.crl_parcels.specs.ParcelKeys.{key_of_parcel}
use Rattle.crl_parcels.specs.ParcelsState.{parcels_of, sizes_of, gathering_in}
use Rattle.crl_parcels.specs.PieceComes.{kept_of, size_kept}
use Rattle.crl_parcels.proofs.Adding.{chosen, slots_changed, size_changed}
use Rattle.crl_parcels.proofs.parcels.Parcels.add.Goals as goal

pub returns-clause-parcels : goal.returns-clause-parcels
returns-clause-parcels c = λ i k.
    let key : Key = key_of_parcel c.args.key in
    let old = c.args.self.now in
    let g : Gathering = c.unwrap-gather.result in
    let is : option_or (gathering_in key old.list) c.args.blank ≡ Some g = ap (λ o. option_or o c.args.blank) (sym c.take.ensures.gather) ∙ sym c.or.ensures ∙ c.unwrap-gather.ensures in
    let picked = chosen (gathering_in key old.list) c.args.blank g c.args.size old.room c.requires.ready c.requires.size is in
    let slots : List (Option (List ℕ)) = with_piece c.args.index c.args.part.now g.slots in
    (slots_changed key g.size slots old.list c.take.new.self.list c.put.new.self.list c.take.ensures.list c.put.ensures.list k
    ∙ ap (λ s. at_key (parcels_of old) key (kept_of (with_piece c.args.index c.args.part.now s)) k) picked.0) i

pub returns-clause-sizes : goal.returns-clause-sizes
returns-clause-sizes c = λ i k.
    let key : Key = key_of_parcel c.args.key in
    let old = c.args.self.now in
    let g : Gathering = c.unwrap-gather.result in
    let is : option_or (gathering_in key old.list) c.args.blank ≡ Some g = ap (λ o. option_or o c.args.blank) (sym c.take.ensures.gather) ∙ sym c.or.ensures ∙ c.unwrap-gather.ensures in
    let picked = chosen (gathering_in key old.list) c.args.blank g c.args.size old.room c.requires.ready c.requires.size is in
    let slots : List (Option (List ℕ)) = with_piece c.args.index c.args.part.now g.slots in
    (size_changed key g.size slots old.list c.take.new.self.list c.put.new.self.list c.take.ensures.list c.put.ensures.list k
    ∙ (λ j. if key_eq k key then size_kept (picked.1 j) (with_piece c.args.index c.args.part.now (picked.0 j)) else sizes_of old k)) i
