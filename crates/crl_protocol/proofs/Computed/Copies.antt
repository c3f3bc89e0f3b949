-- Worked runs are computed: copies that go back and forth, with messages that overtake each other.
use Rattle.std.proofs.Common.{refl}
use Rattle.crl_protocol.specs.Compute.{everything}
use Rattle.crl_protocol.specs.Chosen.{running, turns_from, always_first}
use Rattle.crl_protocol.specs.Worked.Words.{Gives}
use Rattle.crl_protocol.specs.Worked.Copies.{write_elsewhere_script, write_elsewhere_report, nested_reads_script, nested_reads_report, nested_reads_order, early_recall_script, early_recall_report, early_recall_order, stale_recall_script, stale_recall_report, stale_recall_order, recall_before_map_script, recall_before_map_report, recall_before_map_order, ask_before_return_script, ask_before_return_report, ask_before_return_order, flush_then_read_script, flush_then_read_report, flush_then_read_order}

pub write_elsewhere : Gives 2 16 write_elsewhere_script always_first write_elsewhere_report
unfolding everything
write_elsewhere = record {
  end = turns_from always_first 1 15 (running 2 16 write_elsewhere_script);
  chosen = record { turns = 15; reached = refl; finished = refl };
  reported = refl;
}

pub nested_reads : Gives 2 16 nested_reads_script nested_reads_order nested_reads_report
unfolding everything
nested_reads = record {
  end = turns_from nested_reads_order 1 41 (running 2 16 nested_reads_script);
  chosen = record { turns = 41; reached = refl; finished = refl };
  reported = refl;
}

pub early_recall : Gives 2 16 early_recall_script early_recall_order early_recall_report
unfolding everything
early_recall = record {
  end = turns_from early_recall_order 1 30 (running 2 16 early_recall_script);
  chosen = record { turns = 30; reached = refl; finished = refl };
  reported = refl;
}

pub stale_recall : Gives 2 0 stale_recall_script stale_recall_order stale_recall_report
unfolding everything
stale_recall = record {
  end = turns_from stale_recall_order 1 45 (running 2 0 stale_recall_script);
  chosen = record { turns = 45; reached = refl; finished = refl };
  reported = refl;
}

pub recall_before_map : Gives 2 16 recall_before_map_script recall_before_map_order recall_before_map_report
unfolding everything
recall_before_map = record {
  end = turns_from recall_before_map_order 1 22 (running 2 16 recall_before_map_script);
  chosen = record { turns = 22; reached = refl; finished = refl };
  reported = refl;
}

pub ask_before_return : Gives 2 16 ask_before_return_script ask_before_return_order ask_before_return_report
unfolding everything
ask_before_return = record {
  end = turns_from ask_before_return_order 1 33 (running 2 16 ask_before_return_script);
  chosen = record { turns = 33; reached = refl; finished = refl };
  reported = refl;
}

pub flush_then_read : Gives 2 16 flush_then_read_script flush_then_read_order flush_then_read_report
unfolding everything
flush_then_read = record {
  end = turns_from flush_then_read_order 1 25 (running 2 16 flush_then_read_script);
  chosen = record { turns = 25; reached = refl; finished = refl };
  reported = refl;
}
