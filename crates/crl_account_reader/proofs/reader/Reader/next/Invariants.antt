use Rattle.std.proofs.Common.{◌≤◌, List, ℕ, length}
use Rattle.crl_model.specs.declared.entry.Entry.{Entry}
use Rattle.crl_account_reader.specs.Reader.{HasGiven}
use Rattle.crl_account_reader.proofs.reader.Reader.next.Given as goal

-- no entry was given since the call began
abbrev pub invariant-loop-self : goal.invariant-loop-self
invariant-loop-self l = record {
  given : (text : List ℕ) (given : List Entry) → HasGiven text given l.initial.self → HasGiven text given l.self;
  fewer : length l.self.bytes ≤ length l.initial.self.bytes;
}

abbrev pub decreases-loop-self : goal.decreases-loop-self
decreases-loop-self l = length l.self.bytes
