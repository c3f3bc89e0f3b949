use Rattle.std.proofs.Common.{◌≡◌, length}
use Rattle.crl_meeting.specs.PapersState.{AreOfSize}
use Rattle.crl_meeting.proofs.papers.Papers.new.Given as goal

abbrev pub invariant-loop : goal.invariant-loop
invariant-loop l = (length l.papers.items ≡ l.counter) × AreOfSize l.size l.papers.items
