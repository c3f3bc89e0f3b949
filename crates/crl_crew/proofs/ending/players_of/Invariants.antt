use Rattle.std.proofs.Common.{◌≡◌, ◌++◌, map, vec_len}
use Rattle.crl_crew.specs.declared.place.Place.{Place}
use Rattle.crl_crew.proofs.ending.players_of.Given as goal

abbrev pub invariant-loop-players : goal.invariant-loop-players
invariant-loop-players g l =
    l.players.items ++ map (λ (place : Place g.row.S.Denot). place.player) l.luggage.items ≡ map (λ (place : Place g.row.S.Denot). place.player) l.initial.luggage.items

abbrev pub decreases-loop-players : goal.decreases-loop-players
decreases-loop-players g l = vec_len l.luggage
