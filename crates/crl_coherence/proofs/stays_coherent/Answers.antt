use Rattle.crl_coherence.proofs.stays_coherent.Goals as goal
use Rattle.crl_coherence.proofs.Events.{created_kept, happens_kept, runs_kept}

pub returns : goal.returns
returns c = record {
  created = created_kept;
  stays = happens_kept;
  runs = runs_kept;
}
