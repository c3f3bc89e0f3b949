use Rattle.std.proofs.Common.{◌≡◌, ◌+◌, ◌≤◌, ◌++◌, length, take, drop}
use Rattle.crl_protocol.specs.Home.{with_marks, recalls_and_yields}
use Rattle.crl_home.specs.Debts.{owed_to_copies}
use Rattle.crl_home.specs.Posts.{letter_pieces}
use Rattle.crl_home.proofs.copies.call_copies.Given as goal

abbrev pub invariant-loop-i : goal.invariant-loop-i
invariant-loop-i l = record {
  listed : take l.i l.listed ++ with_marks l.i (drop l.i l.listed) l.ask ≡ with_marks 0 l.fn.listed l.ask;
  posts : l.out.list ++ letter_pieces l.me l.name (recalls_and_yields l.i (drop l.i l.listed) l.ask) ≡ l.fn.out.list ++ letter_pieces l.me l.name (recalls_and_yields 0 l.fn.listed l.ask);
  room : owed_to_copies (drop l.i l.listed) ≤ l.out.room;
  places : length l.out.list + l.out.room ≡ length l.fn.out.list + l.fn.out.room;
  owes : owed_to_copies l.listed + length l.out.list ≤ owed_to_copies l.fn.listed + length l.fn.out.list;
  nodes : length l.listed ≡ length l.fn.listed;
}
