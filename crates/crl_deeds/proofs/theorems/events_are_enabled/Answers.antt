use Rattle.crl_protocol.specs.World.{new_world}
use Rattle.crl_deeds.proofs.Runs.Enabled.{no_handle, no_carry, enabled_behind}
use Rattle.crl_deeds.proofs.theorems.events_are_enabled.Goals as goal

pub returns : goal.returns
returns c = record {
  handle = no_handle;
  carry = no_carry;
  run = λ count capacity before e behind h. enabled_behind (new_world count capacity) before e behind h.enabled;
}
