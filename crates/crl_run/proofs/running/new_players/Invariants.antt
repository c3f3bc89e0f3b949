use Rattle.crl_run.specs.Runs.{AreNewPlayers}
use Rattle.crl_run.proofs.running.new_players.Given as goal

abbrev pub invariant-loop : goal.invariant-loop
invariant-loop l = AreNewPlayers l.counter l.players.items
