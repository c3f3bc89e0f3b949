use Rattle.crl_world.proofs.Turning.{choices_of_run}
use Rattle.crl_world.proofs.theorems.choices_are_those_of_the_run.Goals as goal

pub returns : goal.returns
returns c r left says = choices_of_run r left says
