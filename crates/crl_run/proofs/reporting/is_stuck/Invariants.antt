use Rattle.std.proofs.Common.{◌≡◌, ◌-◌, map}
use Rattle.crl_protocol.specs.Ends.{all_finished}
use Rattle.crl_world.specs.Seen.{world_seen}
use Rattle.crl_run.specs.Reporting.{running_seen}
use Rattle.crl_run.proofs.reporting.is_stuck.Given as goal

abbrev pub invariant-loop-i : goal.invariant-loop-i
invariant-loop-i g l =
    let r = running_seen (map (λ b. b.items) l.blocks) (world_seen g.N.Member.state l.world) l.players in
    all_finished 0 r.world.count r ≡ all_finished l.i (r.world.count - l.i) r
