use Rattle.std.proofs.Common.{sym, ◌∙◌}
use Rattle.crl_wire.proofs.ReadingLemmas.{form_in_is}
use Rattle.crl_wire.proofs.reading.with_header.Goals as goal

pub with_body-requires : goal.with_body-requires
with_body-requires c = (form_in_is c.args.header.now c.in-Some.form (sym c.form_in.ensures ∙ c.in-Some.is)).1
