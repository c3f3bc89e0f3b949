-- Worked runs are computed: runs that end with nodes that wait.
use Rattle.std.proofs.Common.{refl}
use Rattle.crl_protocol.specs.Compute.{everything}
use Rattle.crl_protocol.specs.Chosen.{running, turns_from, always_first}
use Rattle.crl_protocol.specs.Worked.Words.{Gives}
use Rattle.crl_protocol.specs.Worked.Blocked.{reader_blocks_script, reader_blocks_report, absent_node_script, absent_node_report, each_other_script, each_other_report, two_readers_block_script, two_readers_block_report}

pub reader_blocks : Gives 2 16 reader_blocks_script always_first reader_blocks_report
unfolding everything
reader_blocks = record {
  end = turns_from always_first 1 12 (running 2 16 reader_blocks_script);
  chosen = record { turns = 12; reached = refl; finished = refl };
  reported = refl;
}

pub absent_node : Gives 2 16 absent_node_script always_first absent_node_report
unfolding everything
absent_node = record {
  end = turns_from always_first 1 1 (running 2 16 absent_node_script);
  chosen = record { turns = 1; reached = refl; finished = refl };
  reported = refl;
}

pub each_other : Gives 2 16 each_other_script always_first each_other_report
unfolding everything
each_other = record {
  end = turns_from always_first 1 45 (running 2 16 each_other_script);
  chosen = record { turns = 45; reached = refl; finished = refl };
  reported = refl;
}

pub two_readers_block : Gives 3 16 two_readers_block_script always_first two_readers_block_report
unfolding everything
two_readers_block = record {
  end = turns_from always_first 1 26 (running 3 16 two_readers_block_script);
  chosen = record { turns = 26; reached = refl; finished = refl };
  reported = refl;
}
