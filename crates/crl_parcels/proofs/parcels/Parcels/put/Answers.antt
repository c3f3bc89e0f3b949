use Rattle.std.proofs.Common.{◌≡◌, if◌then◌else◌, None, Some, false, subst, sym, ap, ◌∙◌}
use Rattle.crl_pieces.specs.Pieces.{with_piece, is_complete}
use Rattle.crl_pieces.specs.Gathering.{Gathering}
use Rattle.crl_protocol.specs.Parcels.{Key, key_eq}
use Rattle.crl_parcels.specs.declared.parcel.Parcel.{Parcel}
use Rattle.crl_parcels.specs.ParcelKeys.{key_of_parcel}
use Rattle.crl_parcels.specs.ParcelsState.{gathering_in, AreApart}
use Rattle.crl_parcels.specs.PieceComes.{gathering_kept}
use Rattle.crl_parcels.proofs.Adding.{kept_some}
use Rattle.crl_parcels.proofs.Finding.{put_behind, apart_behind}
use Rattle.crl_parcels.proofs.parcels.Parcels.put.Goals as goal

pub invariant_of-self : goal.invariant_of-self
invariant_of-self c =
    let p : Parcel = record { key = c.args.key; gather = c.add.new.self } in
    let new : gathering_in (key_of_parcel c.args.key) c.self.inside.list.items ≡ None = ap (λ s. gathering_in (key_of_parcel c.args.key) s.list) c.self.view_is ∙ c.requires.apart in
    subst AreApart (sym c.push_reserved.ensures.items) (apart_behind p c.self.inside.list.items new c.self.invariant)

pub returns-clause-list : goal.returns-clause-list
returns-clause-list c = λ k.
    let key : Key = key_of_parcel c.args.key in
    let p : Parcel = record { key = c.args.key; gather = c.add.new.self } in
    let slots = with_piece c.args.index c.args.part.now c.args.gather.slots in
    let new : gathering_in key c.self.inside.list.items ≡ None = ap (λ s. gathering_in key s.list) c.self.view_is ∙ c.requires.apart in
    let some_missing : is_complete slots ≡ false = sym (ap (λ (g : Gathering). is_complete g.slots) c.add.ensures.added) ∙ sym c.add.ensures.last ∙ c.if-add.false in
    let kept : Some c.add.new.self ≡ gathering_kept c.args.gather.size slots = ap (λ (g : Gathering). Some g) c.add.ensures.added ∙ kept_some c.args.gather.size slots some_missing in
    let others : gathering_in k c.self.inside.list.items ≡ gathering_in k c.args.self.now.list = ap (λ s. gathering_in k s.list) c.self.view_is in
    ap (gathering_in k) c.push_reserved.ensures.items ∙ put_behind p c.self.inside.list.items new k ∙ (λ i. if key_eq k key then kept i else others i)
