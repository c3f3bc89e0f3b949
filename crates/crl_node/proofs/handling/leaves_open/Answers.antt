use Rattle.crl_protocol.specs.Places.{take_out}
use Rattle.crl_parcels.specs.ParcelKeys.{key_of_parcel}
use Rattle.crl_desk.specs.Desks.{state}
use Rattle.crl_node.specs.Handling.{piece_taken}
use Rattle.crl_node.proofs.Gathers.{leaves_open_if}
use Rattle.crl_node.proofs.handling.leaves_open.Goals as goal

pub returns : goal.returns
returns c =
    leaves_open_if c.misses_another.result (state c.args.desk.now) (key_of_parcel c.args.key) c.piece_at-piece.result.now (piece_taken (take_out c.args.place c.args.desk.now.inbox.list))
    c.piece_at-piece.ensures c.misses_another.ensures
