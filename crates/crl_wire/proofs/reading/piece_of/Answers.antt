use Rattle.std.proofs.Common.{◌-◌, ◌∙◌, length, take, drop, ap, subst, arith}
use Rattle.std.proofs.lemmas.List.{take_rest}
use Rattle.crl_wire.specs.declared.header.Header.{Header}
use Rattle.crl_wire.specs.Decoding.{header_at, with_header, Gives}
use Rattle.crl_wire.proofs.ReadingLemmas.{gives_of}
use Rattle.crl_wire.proofs.reading.piece_of.Goals as goal

pub returns : goal.returns
returns c =
    let bytes = c.args.bytes.now in
    let same = ap (λ (h : Header). with_header h (take (length bytes - 32) (drop 32 bytes))) c.read_header-header.ensures ∙ ap (with_header (header_at bytes)) (take_rest bytes 32) in
    gives_of bytes c.with_header.result (omega arith) (subst (Gives c.with_header.result) same c.with_header.ensures)
