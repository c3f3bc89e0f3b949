use Rattle.std.proofs.Common.{ap, arith, length}
use Rattle.std.proofs.lemmas.List.{length-take}
use Rattle.crl_pieces.specs.declared.TheConstants.{PIECE_LEN}
use Rattle.crl_outbox.proofs.mailbox.Mailbox.post_piece.Goals as goal

pub write-requires : goal.write-requires
write-requires c = omega (arith, c.requires.sheet, ap length c.first_piece.ensures.0, length-take PIECE_LEN c.args.bytes.now)
