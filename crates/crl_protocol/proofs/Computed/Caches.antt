-- Worked runs are computed: regions that are unmapped, and the cache.
use Rattle.std.proofs.Common.{refl}
use Rattle.crl_protocol.specs.Compute.{everything}
use Rattle.crl_protocol.specs.Chosen.{running, turns_from, always_first}
use Rattle.crl_protocol.specs.Worked.Words.{Gives}
use Rattle.crl_protocol.specs.Worked.Caches.{eviction_script, eviction_report, no_cache_script, no_cache_report, roomy_cache_script, roomy_cache_report}

pub eviction : Gives 2 1 eviction_script always_first eviction_report
unfolding everything
eviction = record {
  end = turns_from always_first 1 42 (running 2 1 eviction_script);
  chosen = record { turns = 42; reached = refl; finished = refl };
  reported = refl;
}

pub no_cache : Gives 2 0 no_cache_script always_first no_cache_report
unfolding everything
no_cache = record {
  end = turns_from always_first 1 44 (running 2 0 no_cache_script);
  chosen = record { turns = 44; reached = refl; finished = refl };
  reported = refl;
}

pub roomy_cache : Gives 2 16 roomy_cache_script always_first roomy_cache_report
unfolding everything
roomy_cache = record {
  end = turns_from always_first 1 40 (running 2 16 roomy_cache_script);
  chosen = record { turns = 40; reached = refl; finished = refl };
  reported = refl;
}
