use Rattle.crl_protocol.proofs.worked.copies.Goals as goal
use Rattle.crl_protocol.proofs.Computed.Copies.{write_elsewhere, nested_reads, early_recall, stale_recall, recall_before_map, ask_before_return, flush_then_read}

pub returns : goal.returns
returns c = record {
  write_elsewhere = write_elsewhere;
  nested_reads = nested_reads;
  early_recall = early_recall;
  stale_recall = stale_recall;
  recall_before_map = recall_before_map;
  ask_before_return = ask_before_return;
  flush_then_read = flush_then_read;
}
