use Rattle.std.proofs.Common.{ap, subst, ◌∙◌, arith}
use Rattle.crl_wire.specs.Decoding.{decoded, Gives}
use Rattle.crl_wire.proofs.FrameLemmas.{frame_again}
use Rattle.crl_wire.proofs.ReadingLemmas.{found_of, only_of, short_of, long_of, bad_kind_of, bad_field_of}
use Rattle.crl_wire.proofs.reading.decode.Goals as goal

pub returns-clause-found : goal.returns-clause-found
returns-clause-found c = found_of c.args.bytes.now c.piece_of.result (λ i. omega (arith, c.type_inv.bytes i)) c.piece_of.ensures

pub returns-clause-only : goal.returns-clause-only
returns-clause-only c = λ p fits e. only_of p c.piece_of.result (decoded c.args.bytes.now) (ap decoded e ∙ frame_again p fits) c.piece_of.ensures

pub returns-clause-short : goal.returns-clause-short
returns-clause-short c = λ e. short_of c.args.bytes.now (λ i. omega (arith, c.type_inv.bytes i)) (subst (λ r. Gives r (decoded c.args.bytes.now)) e c.piece_of.ensures)

pub returns-clause-long : goal.returns-clause-long
returns-clause-long c = λ e. long_of c.args.bytes.now (λ i. omega (arith, c.type_inv.bytes i)) (subst (λ r. Gives r (decoded c.args.bytes.now)) e c.piece_of.ensures)

pub returns-clause-bad_kind : goal.returns-clause-bad_kind
returns-clause-bad_kind c = λ e. bad_kind_of c.args.bytes.now (subst (λ r. Gives r (decoded c.args.bytes.now)) e c.piece_of.ensures)

pub returns-clause-bad_field : goal.returns-clause-bad_field
returns-clause-bad_field c = λ e. bad_field_of c.args.bytes.now (subst (λ r. Gives r (decoded c.args.bytes.now)) e c.piece_of.ensures)
