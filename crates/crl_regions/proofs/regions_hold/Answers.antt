use Rattle.crl_regions.proofs.regions_hold.Goals as goal
use Rattle.crl_regions.proofs.Runs.{regions_start, regions_step, regions_in_runs}

pub returns : goal.returns
returns c = record { start = regions_start; goes_on = regions_step; runs = regions_in_runs }
