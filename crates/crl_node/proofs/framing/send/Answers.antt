use Rattle.std.proofs.Common.{◌∙◌, ap, ℕ, Vec, Global}
use Rattle.std.specs.declared.option.Option.TheVariants.{Some}
use Rattle.crl_protocol.specs.Places.{take_out}
use Rattle.crl_node.proofs.Sending.{framed_piece, sent_ok}
use Rattle.crl_node.proofs.Taking.{taken_at}
use Rattle.crl_node.proofs.framing.send.Goals as goal

pub encode-requires : goal.encode-requires
encode-requires c =
    let list = c.args.outbox.now.list in
    framed_piece (take_out c.args.place list) c.piece.result.now (ap Some c.piece.ensures ∙ taken_at c.args.place list c.piece.result.now c.requires.there) c.requires.in_table

pub returns : goal.returns
returns c =
    let list = c.args.outbox.now.list in
    sent_ok (λ (v : Vec ℕ Global). v.items) (take_out c.args.place list) c.piece.result.now c.encode.result (ap Some c.piece.ensures ∙ taken_at c.args.place list c.piece.result.now c.requires.there)
    c.encode.ensures.frame c.encode.ensures.again
