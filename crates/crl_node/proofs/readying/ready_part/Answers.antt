use Rattle.std.proofs.Common.{◌∙◌, sym, arith}
use Rattle.crl_protocol.specs.Places.{take_out}
use Rattle.crl_parcels.specs.ParcelKeys.{key_of_parcel}
use Rattle.crl_parcels.specs.ParcelsState.{parcels_of}
use Rattle.crl_desk.specs.Desks.{state}
use Rattle.crl_node.proofs.Singles.{whole_of_one, none_came}
use Rattle.crl_node.proofs.readying.ready_part.Goals as goal

pub ready_whole-requires-clause-whole : goal.ready_whole-requires-clause-whole
ready_whole-requires-clause-whole c =
    whole_of_one (state c.args.desk.now) (take_out c.args.place c.args.desk.now.inbox.list) (key_of_parcel c.args.key) c.in-Some.size c.requires.piece c.requires.key
    (sym c.known_size.ensures ∙ c.in-Some.is) (grind arith) (none_came (parcels_of c.args.desk.now.parcels (key_of_parcel c.args.key)) (grind arith))
