-- The rounds of collective calls, as node 0 gathers them.
use Rattle.std.specs.Prelude.{ℕ, zero, suc, ◌+◌, Bool, true, false, List, [], ◌∷◌}
use Rattle.std.specs.declared.option.Option.{Option}
use Rattle.std.specs.declared.option.Option.TheVariants.{None, Some}
use Rattle.crl_model.specs.declared.collective.Part.{Part}
use Rattle.crl_model.specs.declared.collective.Fold.{Fold}
use Rattle.crl_model.specs.Names.{at_node}
use Rattle.crl_model.specs.FoldOf.{fold_of}

-- the round that is being gathered, from 1, and the parts with which nodes came to it
pub record Gathering : Type 0 where
  pub round : ℕ
  pub parts : ℕ → Option Part

abbrev pub no_parts : ℕ → Option Part
no_parts n = None

abbrev pub first_round : Gathering
first_round = record { round = 1; parts = no_parts }

abbrev pub with_part : Option Part → Option (List Part) → Option (List Part)
with_part None ps = None
with_part (Some p) None = None
with_part (Some p) (Some ps) = Some (p ∷ ps)

-- the parts of k nodes from node m on, where all of them came
abbrev pub all_parts : ℕ → ℕ → (ℕ → Option Part) → Option (List Part)
all_parts m zero parts = Some []
all_parts m (suc k) parts = with_part (parts m) (all_parts (m + 1) k parts)

-- A node comes to the round. With the last of all nodes the round gives its fold, and the next one begins.
pub record RoundStep : Type 0 where
  pub gathering : Gathering
  pub fold : Option Fold

abbrev pub after_parts : Option (List Part) → Gathering → RoundStep
after_parts None g = record { gathering = g; fold = None }
after_parts (Some parts) g = record { gathering = record { round = g.round + 1; parts = no_parts }; fold = Some (fold_of parts) }

unfoldable pub gathers : ℕ → ℕ → Part → Gathering → RoundStep
gathers nodes n part g =
    let parts = at_node g.parts n (Some part) in
    after_parts (all_parts 0 nodes parts) (record g { parts = parts })

-- the node hasn't come to the round
abbrev pub awaits : ℕ → Gathering → Bool
awaits n g = elim (g.parts n) [ None ↦ true | Some part ↦ false ]
