use Rattle.std.proofs.Common.{◌≡◌, ◌<◌, ◌≤◌, ◌+◌, ◌^◌, length, vec_len}
use Rattle.crl_script.specs.Labels.{names_at}
use Rattle.crl_script.specs.Progress.{start}
use Rattle.crl_script.specs.Seen.{seen}
use Rattle.crl_script.specs.Sentence.{lines_by}
use Rattle.crl_script.specs.Text.{lines_of}
use Rattle.crl_script.proofs.reading.read_with.Given as goal

abbrev pub invariant-loop-rest : goal.invariant-loop-rest
invariant-loop-rest l = record {
  read : lines_by (names_at l.known) (seen l.reading) l.number (lines_of l.rest) ≡ lines_by (names_at l.known) start 1 (lines_of l.text);
  made : l.reading.made + length l.rest < 2 ^ 32;
  number : l.number + length l.rest ≤ 2 ^ 32;
  blocks : vec_len l.reading.blocks ≤ 64;
}

abbrev pub decreases-loop-rest : goal.decreases-loop-rest
decreases-loop-rest l = length l.rest
