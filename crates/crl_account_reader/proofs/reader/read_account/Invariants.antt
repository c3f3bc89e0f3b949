use Rattle.std.proofs.Common.{length}
use Rattle.crl_account_reader.specs.Reader.{HasGiven}
use Rattle.crl_account_reader.proofs.reader.read_account.Given as goal

abbrev pub invariant-loop-reader : goal.invariant-loop-reader
invariant-loop-reader l = HasGiven l.text l.entries.items l.reader

abbrev pub decreases-loop-reader : goal.decreases-loop-reader
decreases-loop-reader l = length l.reader.bytes
