use Rattle.std.proofs.Common.{◌∙◌}
use Rattle.crl_outbox.proofs.Taking.{take_at_most, drop_at_most}
use Rattle.crl_pieces.specs.declared.TheConstants.{PIECE_LEN}
use Rattle.crl_outbox.proofs.mailbox.first_piece.Goals as goal

pub returns : goal.returns
returns c =
    let bytes = c.args.bytes.now in
    (c.split_at.ensures.front ∙ take_at_most bytes PIECE_LEN c.min.result c.min.ensures, c.split_at.ensures.back ∙ drop_at_most bytes PIECE_LEN c.min.result c.min.ensures)
