use Rattle.std.proofs.Common.{◌<◌, ◌^◌, ap, arith, rules}
use Rattle.std.proofs.lemmas.List.{length-append}
use Rattle.crl_wire.specs.declared.header.Header.{Header}
use Rattle.crl_wire.specs.Frame.{frame, layout, header_of, body_of}
use Rattle.crl_wire.proofs.HeaderLemmas.{layout_len}
use Rattle.crl_wire.proofs.FrameLemmas.{in_bounds, frame_again}
use Rattle.crl_wire.proofs.writing.encode_into.Goals as goal

pub put_header-requires : goal.put_header-requires
unfolding frame
put_header-requires c =
    omega (arith, c.requires.room, length-append (layout (header_of c.args.piece.now)) (body_of c.args.piece.now.message.kind), layout_len (header_of c.args.piece.now))

pub returns-clause-again : goal.returns-clause-again
returns-clause-again c =
    let serial : c.header_of.result.serial < 2 ^ 32 = search rules in
    let number : c.header_of.result.number < 2 ^ 64 = search rules in
    frame_again c.args.piece.now (record {
      in_table = c.requires.in_table;
      serial = omega (arith, serial, ap (λ (h : Header). h.serial) c.header_of.ensures);
      number = omega (arith, number, ap (λ (h : Header). h.number) c.header_of.ensures);
      values = c.put_body.ensures.fits;
    })

pub header_of-requires-clause-pieces : goal.header_of-requires-clause-pieces
header_of-requires-clause-pieces c =
    let bounds = in_bounds c.args.piece.now c.requires.in_table in
    (bounds.0, bounds.1)

pub header_of-requires-clause-body : goal.header_of-requires-clause-body
header_of-requires-clause-body c = omega (arith, in_bounds c.args.piece.now c.requires.in_table)
