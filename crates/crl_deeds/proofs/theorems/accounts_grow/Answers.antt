use Rattle.std.proofs.Common.{◌∙◌, ap, ◌++◌}
use Rattle.crl_protocol.specs.World.{new_world, world_of, account}
use Rattle.crl_deeds.proofs.Cases.Entries.{decided}
use Rattle.crl_deeds.proofs.Runs.Grown.{world_grows, account_grows}
use Rattle.crl_deeds.proofs.theorems.accounts_grow.Goals as goal

pub returns : goal.returns
returns c = record {
  account = λ count capacity run e. account_grows (new_world count capacity) run e ∙ ap (λ es. account count capacity run ++ es) (decided e (world_of count capacity run));
  world = λ count capacity run e. world_grows (new_world count capacity) run e;
}
