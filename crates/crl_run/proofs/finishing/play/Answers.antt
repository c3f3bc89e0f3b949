use Rattle.std.proofs.Common.{◌∙◌, sym, length, map}
use Rattle.std.proofs.lemmas.List.{length-map}
use Rattle.crl_order.specs.Words.{words_to_come}
use Rattle.crl_protocol.specs.World.{messages_sent}
use Rattle.crl_stuck.specs.Ends.{statements_in}
use Rattle.crl_world.specs.Seen.{world_seen}
use Rattle.crl_run.proofs.Ending.{rest_counted, rest_messages, rest_printed, turns_fit, messages_fit}
use Rattle.crl_run.proofs.finishing.play.Goals as goal

pub take_turns-requires-clause-limit : goal.take_turns-requires-clause-limit
take_turns-requires-clause-limit g c =
    turns_fit (length c.args.players.now) (statements_in (length c.args.players.now) (map (λ b. b.items) c.args.blocks.now)) c.requires.nodes.0 c.requires.few

pub is_stuck-stuck-requires : goal.is_stuck-stuck-requires
is_stuck-stuck-requires g c =
    let ended = c.in_ok-take_turns.ensures in
    record {
      nodes = (
        c.requires.nodes.1 ∙ sym ended.0,
        sym (length-map c.take_turns.new.world.nodes g.N.Member.state)
            ∙ rest_counted (map (λ b. b.items) c.args.blocks.now) (words_to_come c.args.order.now) (world_seen g.N.Member.state c.args.world) c.args.players.now (world_seen g.N.Member.state c.take_turns.new.world) c.take_turns.new.players c.requires.statements ended c.requires.begun,
      );
    }

pub report_of-requires-clause-nodes : goal.report_of-requires-clause-nodes
report_of-requires-clause-nodes g c =
    let ended = c.in_ok-take_turns.ensures in (
      c.requires.nodes.1 ∙ sym ended.0,
      sym (length-map c.take_turns.new.world.nodes g.N.Member.state)
          ∙ rest_counted (map (λ b. b.items) c.args.blocks.now) (words_to_come c.args.order.now) (world_seen g.N.Member.state c.args.world) c.args.players.now (world_seen g.N.Member.state c.take_turns.new.world) c.take_turns.new.players c.requires.statements ended c.requires.begun,
    )

pub report_of-requires-clause-messages : goal.report_of-requires-clause-messages
report_of-requires-clause-messages g c =
    let blocks = map (λ b. b.items) c.args.blocks.now in
    let v = world_seen g.N.Member.state c.take_turns.new.world in
    messages_fit (length c.args.players.now) (statements_in (length c.args.players.now) blocks) c.requires.nodes.0 c.requires.few (messages_sent v)
    (rest_messages blocks (words_to_come c.args.order.now) (world_seen g.N.Member.state c.args.world) c.args.players.now v c.take_turns.new.players c.requires.statements c.in_ok-take_turns.ensures c.requires.begun)

pub returns : goal.returns
returns g c =
    rest_printed (map (λ b. b.items) c.args.blocks.now) (words_to_come c.args.order.now) (world_seen g.N.Member.state c.args.world) c.args.players.now (world_seen g.N.Member.state c.take_turns.new.world) c.take_turns.new.players
    c.requires.statements c.in_ok-take_turns.ensures (record { stuck = c.is_stuck-stuck.result; report = c.in_ok-report.report }) c.is_stuck-stuck.ensures c.in_ok-report.ensures
