use Rattle.crl_protocol.specs.Places.{take_out}
use Rattle.crl_desk.specs.Desks.{state}
use Rattle.crl_node.proofs.Frames.{room_frame}
use Rattle.crl_node.proofs.Receives.{few_same}
use Rattle.crl_node.proofs.Taking.{taken_safe, ready_law, back_again}
use Rattle.crl_node.proofs.handling.ready_at.Goals as goal

pub ready_to_hear-kit-requires-clause-room : goal.ready_to_hear-kit-requires-clause-room
ready_to_hear-kit-requires-clause-room c = room_frame c.args.desk.now _ c.args.desk.now.parcels 0 0 0 c.requires.node.room

pub ready_to_hear-kit-requires-clause-from : goal.ready_to_hear-kit-requires-clause-from
ready_to_hear-kit-requires-clause-from c =
    (taken_safe (state c.args.desk.now) (take_out c.args.place c.replace-inbox.result.list) c.piece_at.result.now c.piece_at.ensures (rw c.replace-inbox.ensures.value c.requires.piece)).sender

pub returns-clause-state : goal.returns-clause-state
returns-clause-state c =
    back_again c.args.desk.now c.ready_to_hear-kit.new.desk _ c.replace-inbox.result c.replace-inbox.ensures.value c.ready_to_hear-kit.ensures.state

pub returns-clause-kit : goal.returns-clause-kit
returns-clause-kit c = ready_law _ c.piece_at.result.now c.ready_to_hear-kit.new.desk c.replace-inbox.result _ c.piece_at.ensures c.ready_to_hear-kit.ensures.kit

pub returns-clause-node : goal.returns-clause-node
returns-clause-node c = record {
  room = room_frame c.ready_to_hear-kit.new.desk c.replace-inbox.result c.ready_to_hear-kit.new.desk.parcels 0 0 0 c.ready_to_hear-kit.ensures.room;
  few = few_same (state c.args.desk.now) _
      (back_again c.args.desk.now c.ready_to_hear-kit.new.desk _ c.replace-inbox.result c.replace-inbox.ensures.value c.ready_to_hear-kit.ensures.state)
      c.requires.node.few;
}
