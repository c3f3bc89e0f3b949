-- What a call and a message leave alone of the node's boxes, notes and counts.
use Rattle.std.proofs.Common.{◌≡◌, ℕ, refl}
use Rattle.crl_model.specs.declared.call.Call.{Call}
use Rattle.crl_model.specs.declared.entry.What.{What}
use Rattle.crl_model.specs.declared.message.Kind.{Kind}
use Rattle.crl_protocol.specs.Node.{Node, Outcome}
use Rattle.crl_protocol.specs.Calls.{node_calls}
use Rattle.crl_protocol.specs.Handlers.{node_handles}
use Rattle.crl_deeds.specs.Deeds.{Cause, Calls, Hears, Deed, Copies, Lives, Rounds, Notes}
use Rattle.crl_deeds.specs.Deeds as deed
use Rattle.crl_deeds.proofs.Laws.{call_deed, message_deed, deed_frame}
use Rattle.crl_node.specs.Nodes.{KeepsCounts}

copies_keep : (n : Node) (cause : Cause) (o : Outcome) → Copies n cause o → KeepsCounts n o.node
copies_keep n cause o (deed.home_opens c write name h is e v w) = record { posted = refl; notes = refl }
copies_keep n cause o _ = record { posted = refl; notes = refl }

lives_keep : (n : Node) (cause : Cause) (o : Outcome) → Lives n cause o → KeepsCounts n o.node
lives_keep n cause o (deed.made size e) = record { posted = refl; notes = refl }
lives_keep n cause o _ = record { posted = refl; notes = refl }

rounds_keep : (n : Node) (cause : Cause) (o : Outcome) → Rounds n cause o → KeepsCounts n o.node
rounds_keep n cause o (deed.comes_away part other fits) = record { posted = refl; notes = refl }
rounds_keep n cause o _ = record { posted = refl; notes = refl }

notes_keep : (n : Node) (c : Call) (w : What) (m : Node) → Notes n c w m → KeepsCounts n m
notes_keep n c w m (deed.flushes_own name mine closed) = record { posted = refl; notes = refl }
notes_keep n c w m _ = record { posted = refl; notes = refl }

deed_keeps : (n : Node) (cause : Cause) (o : Outcome) → Deed n cause o → KeepsCounts n o.node
deed_keeps n cause o (deed.copies d) = copies_keep n cause o d
deed_keeps n cause o (deed.lives d) = lives_keep n cause o d
deed_keeps n cause o (deed.rounds d) = rounds_keep n cause o d
deed_keeps n cause o (deed.notes d) = notes_keep n _ _ _ d
deed_keeps n cause o _ = record { posted = refl; notes = refl }

pub call_keeps : (n : Node) (c : Call) → KeepsCounts n (node_calls c n).node
call_keeps n c = deed_keeps n (Calls c) (node_calls c n) (call_deed n c)

pub message_keeps : (n : Node) (from : ℕ) (k : Kind) → KeepsCounts n (node_handles from k n).node
message_keeps n from k = deed_keeps n (Hears from k) (node_handles from k n) (message_deed n from k)

pub call_keeps_outbox : (n : Node) (c : Call) → (node_calls c n).node.outbox ≡ n.outbox
call_keeps_outbox n c = (deed_frame n (Calls c) (node_calls c n) (call_deed n c)).outbox

pub message_keeps_outbox : (n : Node) (from : ℕ) (k : Kind) → (node_handles from k n).node.outbox ≡ n.outbox
message_keeps_outbox n from k = (deed_frame n (Hears from k) (node_handles from k n) (message_deed n from k)).outbox
