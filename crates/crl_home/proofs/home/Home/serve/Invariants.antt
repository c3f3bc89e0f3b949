use Rattle.std.proofs.Common.{◌≡◌, ◌+◌, ◌<◌, ◌≤◌, ◌++◌, ◌^◌, length, ◌||◌}
use Rattle.crl_protocol.specs.Home.{serve}
use Rattle.crl_home.specs.Debts.{owed}
use Rattle.crl_home.specs.Posts.{letter_pieces}
use Rattle.crl_home.proofs.home.Home.serve.Given as goal

abbrev pub invariant-loop-ask : goal.invariant-loop-ask
invariant-loop-ask l = record {
  home : (serve l.me l.self l.self.queue).home ≡ (serve l.me l.fn.self l.fn.self.queue).home;
  posts : l.out.list ++ letter_pieces l.me l.name (serve l.me l.self l.self.queue).posts ≡ l.fn.out.list ++ letter_pieces l.me l.name (serve l.me l.fn.self l.fn.self.queue).posts;
  opened : (l.opened || (serve l.me l.self l.self.queue).opened) ≡ (serve l.me l.fn.self l.fn.self.queue).opened;
  places : length l.out.list + l.out.room ≡ length l.fn.out.list + l.fn.out.room;
  owes : owed l.self + length l.out.list ≤ owed l.fn.self + length l.fn.out.list;
  room : owed l.self ≤ l.out.room;
  versions : l.self.last + length l.self.queue < 2 ^ 64;
  nodes : length l.self.listed ≡ length l.fn.self.listed;
}

abbrev pub decreases-loop-ask : goal.decreases-loop-ask
decreases-loop-ask l = length l.self.queue
