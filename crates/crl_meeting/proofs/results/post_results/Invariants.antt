use Rattle.std.proofs.Common.{◌≡◌, ◌+◌, ◌-◌, ◌++◌, length}
use Rattle.crl_protocol.specs.Parcels.{pieces_in}
use Rattle.crl_gathering.specs.Lengths.{fold_bytes}
use Rattle.crl_meeting.specs.PapersState.{HasFoldPapers}
use Rattle.crl_meeting.specs.Meetings.{result_messages}
use Rattle.crl_meeting.proofs.results.post_results.Given as goal

abbrev pub invariant-loop-node : goal.invariant-loop-node
invariant-loop-node l = record {
  papers : HasFoldPapers (fold_bytes l.fold) (1 + l.nodes - l.node) l.papers;
  posts : l.outbox.list ++ pieces_in (result_messages l.me l.node (l.nodes - l.node) l.round l.fold) ≡ l.fn.outbox.list ++ pieces_in (result_messages l.me 1 (l.nodes - 1) l.round l.fold);
  room : l.outbox.room + l.node ≡ l.fn.outbox.room + 1;
  places : length l.outbox.list + l.outbox.room ≡ length l.fn.outbox.list + l.fn.outbox.room;
}
