use Rattle.crl_deeds.proofs.Tokens.Deletes.{who_deletes_has_one}
use Rattle.crl_deeds.proofs.facts.who_deletes_has_one.Goals as goal

pub returns : goal.returns
returns c = who_deletes_has_one
