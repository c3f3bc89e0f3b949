use Rattle.std.proofs.Common.{sym, ap, subst}
use Rattle.std.specs.declared.option.Option.{Option}
use Rattle.crl_protocol.specs.Parcels.{Piece}
use Rattle.crl_desk.specs.Desks.{state}
use Rattle.crl_node.specs.Handling.{piece_taken, IsPieceReady}
use Rattle.crl_node.proofs.Frames.{safe_frame, piece_frame, ready_frame}
use Rattle.crl_node.proofs.Receives.{few_after, before_after, handled_law}
use Rattle.crl_node.proofs.Taking.{taken_safe}
use Rattle.crl_node.proofs.readying.make_handle.Goals as goal

pub receive-requires-clause-safe : goal.receive-requires-clause-safe
receive-requires-clause-safe c = safe_frame (state c.args.desk.now) _ _ c.requires.safe

pub receive-requires-clause-piece : goal.receive-requires-clause-piece
receive-requires-clause-piece c =
    piece_frame (state c.args.desk.now) _ c.take-piece.result (taken_safe (state c.args.desk.now) _ c.take-piece.result (sym (ap piece_taken c.take-piece.ensures.taken)) c.requires.piece)

pub receive-requires-clause-ready : goal.receive-requires-clause-ready
receive-requires-clause-ready c =
    ready_frame c.take-piece.result c.args.kit c.args.desk.now c.take-piece.new.self
    (subst (λ (o : Option Piece). IsPieceReady o c.args.kit c.args.desk.now) (ap piece_taken c.take-piece.ensures.taken) c.requires.ready)

pub conclude-requires-clause-before : goal.conclude-requires-clause-before
conclude-requires-clause-before c =
    rw c.len-before.ensures (before_after c.args.at c.take-piece.result (record (state c.args.desk.now) { inbox = c.take-piece.new.self.list }) (state c.receive.new.desk) c.receive.ensures.state)

pub conclude-requires-clause-few : goal.conclude-requires-clause-few
conclude-requires-clause-few c = few_after c.args.at c.take-piece.result (record (state c.args.desk.now) { inbox = c.take-piece.new.self.list }) (state c.receive.new.desk) c.receive.ensures.state c.requires.node.few

pub returns-clause-state : goal.returns-clause-state
returns-clause-state c =
    handled_law c.args.at c.args.place (state c.args.desk.now) c.take-piece.result c.take-piece.new.self.list (state c.receive.new.desk) _ c.take-piece.ensures.taken c.receive.ensures.state (rw c.len-before.ensures at c.conclude.ensures.state)
