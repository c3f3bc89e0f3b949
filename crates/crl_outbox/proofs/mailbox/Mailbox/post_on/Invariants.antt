use Rattle.std.proofs.Common.{◌≡◌, ◌+◌, ◌-◌, ◌≤◌, ◌++◌, length}
use Rattle.crl_outbox.specs.Stacks.{IsStack}
use Rattle.crl_outbox.proofs.Posting.{pieces_from}
use Rattle.crl_outbox.proofs.mailbox.Mailbox.post_on.Given as goal

abbrev pub invariant-loop-index : goal.invariant-loop-index
invariant-loop-index l = record {
  sheets : IsStack l.size ((l.number - 1) - l.index) l.others.items;
  rest : length l.rest ≤ l.size;
  posts : l.self.list ++ pieces_from l.cover l.bytes l.number l.index (l.number - l.index) l.rest ≡ l.fn.self.list ++ pieces_from l.cover l.bytes l.number 0 l.number l.bytes;
  room : l.self.room + l.index ≡ l.fn.self.room;
  places : length l.self.list + l.self.room ≡ length l.fn.self.list + l.fn.self.room;
}
