use Rattle.std.proofs.Common.{subst}
use Rattle.crl_flight.proofs.flight_has_its_facts.Goals as goal
use Rattle.crl_flight.specs.Flight.{IsFlight}
use Rattle.crl_flight.proofs.Flying as flying
use Rattle.crl_flight.proofs.Coming as coming

pub returns : goal.returns
returns c = record {
  goes_on = λ us boxes gathered f. record {
    posts = λ after ms moves. flying.posts_fly us boxes after gathered ms f moves;
    carries = λ after moves. flying.carried_fly us boxes after gathered f moves;
    comes = λ rest p alone took. coming.comes us boxes rest gathered p f alone took;
    none = λ empty. flying.none_boxed us gathered (subst (λ b. IsFlight us b gathered) empty f);
  };
  adds = flying.messages_posted;
}
