use Rattle.crl_lifetime.proofs.Laws.{homes_in_runs, own_in_runs, nodes_in_runs}
use Rattle.crl_lifetime.proofs.homes_and_nodes_agree.Goals as goal

pub returns : goal.returns
returns c = record { home = homes_in_runs; own = own_in_runs; node = nodes_in_runs }
