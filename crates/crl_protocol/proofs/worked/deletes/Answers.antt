use Rattle.crl_protocol.proofs.worked.deletes.Goals as goal
use Rattle.crl_protocol.proofs.Computed.Deletes.{delete_of_cached, delete_of_mapped, purge_before_answer, delete_before_map, delete_by_another, delete_among_three}

pub returns : goal.returns
returns c = record {
  delete_of_cached = delete_of_cached;
  delete_of_mapped = delete_of_mapped;
  purge_before_answer = purge_before_answer;
  delete_before_map = delete_before_map;
  delete_by_another = delete_by_another;
  delete_among_three = delete_among_three;
}
