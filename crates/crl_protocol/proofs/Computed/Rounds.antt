-- Worked runs are computed: maps, rounds and changes.
use Rattle.std.proofs.Common.{refl}
use Rattle.crl_protocol.specs.Compute.{everything}
use Rattle.crl_protocol.specs.Chosen.{running, turns_from, always_first}
use Rattle.crl_protocol.specs.Worked.Words.{Gives}
use Rattle.crl_protocol.specs.Worked.Rounds.{map_before_create_script, map_before_create_report, map_before_create_order, barrier_then_read_script, barrier_then_read_report, mixed_kinds_script, mixed_kinds_report, broadcast_script, broadcast_report, additions_script, additions_report}

pub map_before_create : Gives 2 16 map_before_create_script map_before_create_order map_before_create_report
unfolding everything
map_before_create = record {
  end = turns_from map_before_create_order 1 7 (running 2 16 map_before_create_script);
  chosen = record { turns = 7; reached = refl; finished = refl };
  reported = refl;
}

pub barrier_then_read : Gives 2 16 barrier_then_read_script always_first barrier_then_read_report
unfolding everything
barrier_then_read = record {
  end = turns_from always_first 1 23 (running 2 16 barrier_then_read_script);
  chosen = record { turns = 23; reached = refl; finished = refl };
  reported = refl;
}

pub mixed_kinds : Gives 2 16 mixed_kinds_script always_first mixed_kinds_report
unfolding everything
mixed_kinds = record {
  end = turns_from always_first 1 8 (running 2 16 mixed_kinds_script);
  chosen = record { turns = 8; reached = refl; finished = refl };
  reported = refl;
}

pub broadcast : Gives 2 16 broadcast_script always_first broadcast_report
unfolding everything
broadcast = record {
  end = turns_from always_first 1 8 (running 2 16 broadcast_script);
  chosen = record { turns = 8; reached = refl; finished = refl };
  reported = refl;
}

pub additions : Gives 1 16 additions_script always_first additions_report
unfolding everything
additions = record {
  end = turns_from always_first 1 9 (running 1 16 additions_script);
  chosen = record { turns = 9; reached = refl; finished = refl };
  reported = refl;
}
