use Rattle.std.proofs.Common.{◌+◌, ◌≤◌, length, arith}
use Rattle.crl_protocol.specs.Chosen.{running, turns_from}
use Rattle.crl_deeds.proofs.Chosen.Allowed.{follow_runs}
use Rattle.crl_deeds.proofs.Chosen.Bound.{turns_bounded}
use Rattle.crl_deeds.proofs.Chosen.Drafts.{sound_start}
use Rattle.crl_deeds.proofs.Chosen.Followed.{follow_turns, follow_world, follow_account}
use Rattle.crl_deeds.proofs.theorems.choices_make_runs.Goals as goal

pub returns : goal.returns
returns c = record {
  events = λ count capacity blocks words k. record { world = follow_world (follow_turns count capacity blocks words k); entries = follow_account (follow_turns count capacity blocks words k) };
  run = λ count capacity blocks words k are limit. record {
    enabled = follow_runs (follow_turns count capacity blocks words k) (sound_start count capacity blocks are);
    limit = let b : length (turns_from words 1 k (running count capacity blocks)).events ≤ 0 + k = turns_bounded words 1 k (running count capacity blocks) in omega (arith, b, limit);
  };
}
