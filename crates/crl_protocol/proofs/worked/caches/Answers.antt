use Rattle.crl_protocol.proofs.worked.caches.Goals as goal
use Rattle.crl_protocol.proofs.Computed.Caches.{eviction, no_cache, roomy_cache}

pub returns : goal.returns
returns c = record {
  eviction = eviction;
  no_cache = no_cache;
  roomy_cache = roomy_cache;
}
