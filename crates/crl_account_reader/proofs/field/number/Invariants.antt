use Rattle.std.proofs.Common.{◌≡◌, ◌<◌, drop}
use Rattle.crl_account_reader.specs.Reading.{digits_from}
use Rattle.crl_account_reader.proofs.field.number.Given as goal

-- the digits that are left give the number of all
abbrev pub invariant-loop-byte : goal.invariant-loop-byte
invariant-loop-byte l = record {
  left : digits_from l.limit l.value (drop l.byte-index l.word) ≡ digits_from l.limit 0 l.word;
  below : l.value < l.limit;
}
