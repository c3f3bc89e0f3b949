use Rattle.std.proofs.Common.{◌≡◌, ◌<◌, ◌^◌, drop}
use Rattle.crl_script.specs.Words.{digits_from}
use Rattle.crl_script.proofs.word.digits.Given as goal

abbrev pub invariant-loop-b : goal.invariant-loop-b
invariant-loop-b l = record {
  rest : digits_from l.number (drop l.b-index l.word) ≡ digits_from 0 l.word;
  bound : l.number < 10 ^ l.b-index;
}
