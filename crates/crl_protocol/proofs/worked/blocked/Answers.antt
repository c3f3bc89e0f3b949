use Rattle.crl_protocol.proofs.worked.blocked.Goals as goal
use Rattle.crl_protocol.proofs.Computed.Blocked.{reader_blocks, absent_node, each_other, two_readers_block}

pub returns : goal.returns
returns c = record {
  reader_blocks = reader_blocks;
  absent_node = absent_node;
  each_other = each_other;
  two_readers_block = two_readers_block;
}
