use Rattle.std.proofs.Common.{◌≤◌, ◌^◌, subst, map, arith}
use Rattle.crl_world.specs.Seen.{world_seen}
use Rattle.crl_run.specs.Turning.{TurnIsTaken}
use Rattle.crl_run.proofs.AllTurns.{turns_begin, some_turn, events_within, turns_more, turns_over, turns_last}
use Rattle.crl_run.proofs.turning.take_turns.Goals as goal

pub loop-init : goal.loop-init
loop-init g c = (turns_begin (map (λ b. b.items) c.args.blocks.now) c.args.order.now (world_seen g.N.Member.state c.args.world.now) c.args.players.now c.requires.statements, c.in_ok-left.ensures)

pub take_turn-requires-clause-few : goal.take_turn-requires-clause-few
take_turn-requires-clause-few g c =
    events_within (map (λ b. b.items) c.args.blocks.now) c.args.order.now (world_seen g.N.Member.state c.args.world.now) c.args.players.now c.requires.statements
    c.loop.counter (world_seen g.N.Member.state c.loop.world) c.loop.players c.loop.order c.loop.invariant.0 c.requires.begun c.requires.limit

pub take_turn-requires-clause-some : goal.take_turn-requires-clause-some
take_turn-requires-clause-some g c =
    some_turn (map (λ b. b.items) c.args.blocks.now) c.args.order.now (world_seen g.N.Member.state c.args.world.now) c.args.players.now c.requires.statements
    c.loop.counter (world_seen g.N.Member.state c.loop.world) c.loop.players c.loop.order c.loop.invariant.0 c.requires.begun

pub returns-then-not-branch : goal.returns-then-not-branch
returns-then-not-branch g c =
    let v = world_seen g.N.Member.state c.take_turn.new.world in
    turns_over (map (λ b. b.items) c.args.blocks.now) c.args.order.now (world_seen g.N.Member.state c.args.world.now) c.args.players.now c.requires.statements
    c.loop.counter (world_seen g.N.Member.state c.loop.world) c.loop.players c.loop.order c.loop.invariant.0 v c.take_turn.new.players c.take_turn.new.order c.requires.begun
    (subst (λ b. TurnIsTaken (map (λ b. b.items) c.args.blocks.now) (world_seen g.N.Member.state c.loop.world) c.loop.players c.loop.order b v c.take_turn.new.players c.take_turn.new.order) c.if-not-branch.true c.in_ok-take_turn.ensures.turn)

pub loop-preserved : goal.loop-preserved
loop-preserved g c =
    let v = world_seen g.N.Member.state c.take_turn.new.world in (
      turns_more (map (λ b. b.items) c.args.blocks.now) c.args.order.now (world_seen g.N.Member.state c.args.world.now) c.args.players.now c.requires.statements
          c.loop.counter (world_seen g.N.Member.state c.loop.world) c.loop.players c.loop.order c.loop.invariant.0 v c.take_turn.new.players c.take_turn.new.order c.requires.begun
          (subst (λ b. TurnIsTaken (map (λ b. b.items) c.args.blocks.now) (world_seen g.N.Member.state c.loop.world) c.loop.players c.loop.order b v c.take_turn.new.players c.take_turn.new.order) c.if-not-branch.false c.in_ok-take_turn.ensures.turn),
      c.in_ok-take_turn.ensures.left,
    )

pub returns : goal.returns
returns g c =
    let reached : 2 ^ 60 ≤ c.loop.counter = omega (arith, c.loop-test.false) in
    turns_last (map (λ b. b.items) c.args.blocks.now) c.args.order.now (world_seen g.N.Member.state c.args.world.now) c.args.players.now c.requires.statements
    c.loop.counter (world_seen g.N.Member.state c.loop.world) c.loop.players c.loop.order c.loop.invariant.0 (omega (arith, c.requires.limit))
