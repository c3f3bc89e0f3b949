use Rattle.crl_run.proofs.ActorLemmas.{begins, takes, keeps}
use Rattle.crl_run.proofs.actors.players_are_actors.Goals as goal

pub returns-clause-begins : goal.returns-clause-begins
returns-clause-begins c = begins

pub returns-clause-takes : goal.returns-clause-takes
returns-clause-takes c = takes

pub returns-clause-keeps : goal.returns-clause-keeps
returns-clause-keeps c = keeps
