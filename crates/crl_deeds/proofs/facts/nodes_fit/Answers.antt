use Rattle.crl_deeds.proofs.Fits.Worlds.{fits_in_runs}
use Rattle.crl_deeds.proofs.facts.nodes_fit.Goals as goal

pub returns : goal.returns
returns c = fits_in_runs
