use Rattle.crl_deeds.proofs.Tokens.Maps.{who_maps_has_one}
use Rattle.crl_deeds.proofs.facts.who_maps_has_one.Goals as goal

pub returns : goal.returns
returns c = who_maps_has_one
