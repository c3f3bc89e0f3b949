use Rattle.std.proofs.Common.{◌∙◌, ap, refl, length}
use Rattle.crl_parcels.specs.ParcelKeys.{key_of_parcel}
use Rattle.crl_parcels.specs.ParcelsState.{parcels_of}
use Rattle.crl_desk.specs.Desks.{state}
use Rattle.crl_node.proofs.Frames.{room_frame}
use Rattle.crl_node.proofs.Gathers.{part_fits, missing_there, kept_law}
use Rattle.crl_node.proofs.gathering.keep_piece.Goals as goal

pub add-requires-clause-missing : goal.add-requires-clause-missing
add-requires-clause-missing c =
    missing_there (state c.args.desk.now) c.args.piece (key_of_parcel c.args.part.key) c.args.part.size
    (part_fits (state c.args.desk.now) c.args.piece (key_of_parcel c.args.part.key) c.args.part.size c.requires.piece c.requires.joins.0 c.requires.joins.1.known)

pub add-requires-clause-fits : goal.add-requires-clause-fits
add-requires-clause-fits c =
    ap length c.bytes_of.ensures
    ∙ (part_fits (state c.args.desk.now) c.args.piece (key_of_parcel c.args.part.key) c.args.part.size c.requires.piece c.requires.joins.0 c.requires.joins.1.known).len

pub returns-clause-state : goal.returns-clause-state
returns-clause-state c = λ at.
    kept_law (state c.args.desk.now) c.args.piece (key_of_parcel c.args.part.key) c.args.part.size c.bytes_of.result.now at (parcels_of c.add.new.self) _ c.requires.joins.0
    (part_fits (state c.args.desk.now) c.args.piece (key_of_parcel c.args.part.key) c.args.part.size c.requires.piece c.requires.joins.0 c.requires.joins.1.known)
    c.bytes_of.ensures c.requires.open c.requires.joins.1.known c.add.ensures.parcels refl

pub returns-clause-room : goal.returns-clause-room
returns-clause-room c = room_frame c.args.desk.now c.args.desk.now.inbox c.add.new.self 0 0 1 c.requires.room
