use Rattle.std.proofs.Common.{sym, subst}
use Rattle.crl_script.specs.Reads.{Reads}
use Rattle.crl_script.specs.Seen.{seen}
use Rattle.crl_script.proofs.SoFarLemmas.{read_so_far}
use Rattle.crl_script.proofs.reading.read_script.Goals as goal

pub returns-in-Ok : goal.returns-in-Ok
returns-in-Ok c = subst (Reads c.script.result) (sym (read_so_far c.args.text.now (seen c.in-Ok.reading) c.in-Ok.ensures.read)) c.script.ensures
