use Rattle.std.proofs.Common.{◌∙◌, sym, ap, refl, length}
use Rattle.crl_parcels.specs.ParcelKeys.{key_of_parcel}
use Rattle.crl_parcels.specs.ParcelsState.{parcels_of}
use Rattle.crl_desk.specs.Desks.{state}
use Rattle.crl_node.proofs.Frames.{room_frame, safe_frame}
use Rattle.crl_node.proofs.Gathers.{part_fits, missing_there, part_has_note, whole_is_safe, whole_law, kept_law, none_whole}
use Rattle.crl_node.proofs.gathering.hear_piece.Goals as goal

pub add-requires-clause-missing : goal.add-requires-clause-missing
add-requires-clause-missing c =
    missing_there (state c.args.desk.now) c.args.piece (key_of_parcel c.args.part.key) c.args.part.size
    (part_fits (state c.args.desk.now) c.args.piece (key_of_parcel c.args.part.key) c.args.part.size c.requires.piece c.requires.joins.0 c.requires.joins.1.known)

pub add-requires-clause-fits : goal.add-requires-clause-fits
add-requires-clause-fits c =
    ap length c.bytes_of.ensures
    ∙ (part_fits (state c.args.desk.now) c.args.piece (key_of_parcel c.args.part.key) c.args.part.size c.requires.piece c.requires.joins.0 c.requires.joins.1.known).len

pub hear-requires-clause-safe : goal.hear-requires-clause-safe
hear-requires-clause-safe c = safe_frame (state c.args.desk.now) _ _ c.requires.safe

pub hear-requires-clause-message : goal.hear-requires-clause-message
hear-requires-clause-message c =
    rw c.with_load.ensures (whole_is_safe (state c.args.desk.now) c.args.piece (key_of_parcel c.args.part.key) c.args.part.size c.bytes_of.result.now c.in-Some.bytes c.requires.joins.0
    (part_fits (state c.args.desk.now) c.args.piece (key_of_parcel c.args.part.key) c.args.part.size c.requires.piece c.requires.joins.0 c.requires.joins.1.known)
    c.bytes_of.ensures (sym c.add.ensures.whole ∙ c.in-Some.is) c.args.desk.now.inbox.list (parcels_of c.add.new.self) c.requires.piece)

pub returns-in-Some-clause-state : goal.returns-in-Some-clause-state
returns-in-Some-clause-state c =
    whole_law (state c.args.desk.now) c.args.piece (key_of_parcel c.args.part.key) c.args.part.size c.bytes_of.result.now c.in-Some.bytes c.requires.joins.0
    (part_fits (state c.args.desk.now) c.args.piece (key_of_parcel c.args.part.key) c.args.part.size c.requires.piece c.requires.joins.0 c.requires.joins.1.known)
    c.bytes_of.ensures (sym c.add.ensures.whole ∙ c.in-Some.is) c.args.at (parcels_of c.add.new.self) (state c.hear.new.desk) c.requires.joins.1.known c.add.ensures.parcels
    (rw c.with_load.ensures at c.hear.ensures.state)

pub returns-in-None-clause-state : goal.returns-in-None-clause-state
returns-in-None-clause-state c =
    let f = part_fits (state c.args.desk.now) c.args.piece (key_of_parcel c.args.part.key) c.args.part.size c.requires.piece c.requires.joins.0 c.requires.joins.1.known in
    kept_law (state c.args.desk.now) c.args.piece (key_of_parcel c.args.part.key) c.args.part.size c.bytes_of.result.now c.args.at (parcels_of c.add.new.self) _ c.requires.joins.0 f c.bytes_of.ensures
    (none_whole (state c.args.desk.now) c.args.piece (key_of_parcel c.args.part.key) c.args.part.size c.bytes_of.result.now f c.bytes_of.ensures (sym c.add.ensures.whole ∙ c.in-None.is))
    c.requires.joins.1.known c.add.ensures.parcels refl

pub returns-in-None-clause-room : goal.returns-in-None-clause-room
returns-in-None-clause-room c =
    room_frame c.args.desk.now c.args.desk.now.inbox c.add.new.self 0 0 1
    (part_has_note c.args.piece.message.sender c.args.piece.message.kind (key_of_parcel c.args.part.key) c.args.kit c.args.desk.now c.requires.joins.0 c.requires.ready)
