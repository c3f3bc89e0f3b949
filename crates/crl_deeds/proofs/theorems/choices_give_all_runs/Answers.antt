use Rattle.crl_deeds.proofs.Chosen.Followed.{follow_turns}
use Rattle.crl_deeds.proofs.Chosen.Words.{all_worded}
use Rattle.crl_deeds.proofs.theorems.choices_give_all_runs.Goals as goal

pub returns : goal.returns
returns c = record {
  follow = follow_turns;
  all = λ count capacity blocks es end f. all_worded f;
}
