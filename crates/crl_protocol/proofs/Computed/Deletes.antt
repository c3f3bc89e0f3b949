-- Worked runs are computed: deletes.
use Rattle.std.proofs.Common.{refl}
use Rattle.crl_protocol.specs.Compute.{everything}
use Rattle.crl_protocol.specs.Chosen.{running, turns_from, always_first}
use Rattle.crl_protocol.specs.Worked.Words.{Gives}
use Rattle.crl_protocol.specs.Worked.Deletes.{delete_of_cached_script, delete_of_cached_report, delete_of_mapped_script, delete_of_mapped_report, purge_before_answer_script, purge_before_answer_report, purge_before_answer_order, delete_before_map_script, delete_before_map_report, delete_by_another_script, delete_by_another_report, delete_among_three_script, delete_among_three_report}

pub delete_of_cached : Gives 2 16 delete_of_cached_script always_first delete_of_cached_report
unfolding everything
delete_of_cached = record {
  end = turns_from always_first 1 43 (running 2 16 delete_of_cached_script);
  chosen = record { turns = 43; reached = refl; finished = refl };
  reported = refl;
}

pub delete_of_mapped : Gives 2 16 delete_of_mapped_script always_first delete_of_mapped_report
unfolding everything
delete_of_mapped = record {
  end = turns_from always_first 1 54 (running 2 16 delete_of_mapped_script);
  chosen = record { turns = 54; reached = refl; finished = refl };
  reported = refl;
}

pub purge_before_answer : Gives 2 16 purge_before_answer_script purge_before_answer_order purge_before_answer_report
unfolding everything
purge_before_answer = record {
  end = turns_from purge_before_answer_order 1 28 (running 2 16 purge_before_answer_script);
  chosen = record { turns = 28; reached = refl; finished = refl };
  reported = refl;
}

pub delete_before_map : Gives 2 16 delete_before_map_script always_first delete_before_map_report
unfolding everything
delete_before_map = record {
  end = turns_from always_first 1 8 (running 2 16 delete_before_map_script);
  chosen = record { turns = 8; reached = refl; finished = refl };
  reported = refl;
}

pub delete_by_another : Gives 2 16 delete_by_another_script always_first delete_by_another_report
unfolding everything
delete_by_another = record {
  end = turns_from always_first 1 24 (running 2 16 delete_by_another_script);
  chosen = record { turns = 24; reached = refl; finished = refl };
  reported = refl;
}

pub delete_among_three : Gives 3 16 delete_among_three_script always_first delete_among_three_report
unfolding everything
delete_among_three = record {
  end = turns_from always_first 1 37 (running 3 16 delete_among_three_script);
  chosen = record { turns = 37; reached = refl; finished = refl };
  reported = refl;
}
