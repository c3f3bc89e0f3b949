use Rattle.crl_printed.proofs.Laws.{regions_filled}
use Rattle.crl_printed.proofs.final_regions_are_printable.Goals as goal

pub returns : goal.returns
returns c = regions_filled
