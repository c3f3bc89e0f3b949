use Rattle.std.proofs.Common.{subst, false, map}
use Rattle.std.specs.Prelude.{MatchResult}
use Rattle.crl_world.specs.Seen.{world_seen}
use Rattle.crl_run.specs.Finishing.{IsReportOfSome, IsFaultOfSome}
use Rattle.crl_crew.specs.declared.place.Place.{Place}
use Rattle.crl_crew.proofs.Runs.{reached, as_many}
use Rattle.crl_crew.proofs.crew.report_of.Goals as goal

pub finish-requires-clause-begun : goal.finish-requires-clause-begun
finish-requires-clause-begun g c = (
  c.args.capacity,
  reached (λ (place : Place g.row.S.Denot). place.player) c.args.nodes c.args.capacity g.S.Scripted.blocks (map (λ b. b.items) c.args.blocks.now) (world_seen g.N.Member.state c.args.closed.world)
      c.args.closed.luggage.items c.in-Ok.players.items c.requires.script c.in-Ok.ensures c.requires.end c.plays_are_runs.ensures,
)

pub returns-in-Ok : goal.returns-in-Ok
returns-in-Ok g c =
    let f = λ (place : Place g.row.S.Denot). place.player in
    let all = map (λ b. b.items) c.args.blocks.now in
    let w = world_seen g.N.Member.state c.args.closed.world in
    subst (λ n. MatchResult c.finish.result (IsReportOfSome n c.args.capacity all false) (IsFaultOfSome n c.args.capacity all))
    (as_many f c.args.nodes c.args.capacity g.S.Scripted.blocks all w c.args.closed.luggage.items c.in-Ok.players.items c.requires.script c.in-Ok.ensures c.requires.end)
    (c.finish.ensures c.args.capacity (reached f c.args.nodes c.args.capacity g.S.Scripted.blocks all w c.args.closed.luggage.items c.in-Ok.players.items c.requires.script c.in-Ok.ensures c.requires.end c.plays_are_runs.ensures))
