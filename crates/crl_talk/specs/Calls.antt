-- What stands of a node's calls in a run's account.
use Rattle.std.specs.Prelude.{ℕ, List}
use Rattle.crl_model.specs.declared.event.Event.{Event}
use Rattle.crl_protocol.specs.Talk.{talk, AreLinesOf, lines_of_node}
use Rattle.crl_protocol.specs.World.{new_world, account}

-- The entries of node n in the account, in order, are the lines of its calls with their answers, and of a last call that
-- has no answer yet a part of its lines.
pub record CallsStandOnce (n count capacity : ℕ) (run : List Event) : Type 0 where
  pub lines : AreLinesOf n (talk n (new_world count capacity) run) (lines_of_node n (account count capacity run))
