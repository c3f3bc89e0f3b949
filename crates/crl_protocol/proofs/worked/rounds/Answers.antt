use Rattle.crl_protocol.proofs.worked.rounds.Goals as goal
use Rattle.crl_protocol.proofs.Computed.Rounds.{map_before_create, barrier_then_read, mixed_kinds, broadcast, additions}

pub returns : goal.returns
returns c = record {
  map_before_create = map_before_create;
  barrier_then_read = barrier_then_read;
  mixed_kinds = mixed_kinds;
  broadcast = broadcast;
  additions = additions;
}
