-- Where messages go.
use Rattle.std.specs.Prelude.{◌≢◌, ℕ, ◌<◌}
use Rattle.crl_model.specs.declared.message.Message.{Message}

-- the message goes from a node of the world to another one
pub record GoesToOther (count : ℕ) (m : Message) : Type 0 where
  pub sender : m.sender < count
  pub addressee : m.addressee < count
  pub other : m.sender ≢ m.addressee
