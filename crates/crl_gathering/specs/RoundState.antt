-- The round that is gathered.
use Rattle.std.specs.Prelude.{ℕ, suc, ◌+◌, ◌≤◌, ◌≡◌, Bool, is_some, ◌&&◌, List, [], ◌∷◌, length, take, drop}
use Rattle.std.specs.List.{list_all}
use Rattle.std.specs.declared.option.Option.{Option}
use Rattle.std.specs.declared.option.Option.TheVariants.{None, Some}
use Rattle.crl_model.specs.declared.collective.Part.{Part}
use Rattle.crl_model.specs.Names.{at_node}
use Rattle.crl_protocol.specs.Gathering.{Gathering, RoundStep, gathers, all_parts, no_parts}
use Rattle.crl_protocol.specs.Places.{at}

-- the round's number, the number of nodes, and a place for the part of each
pub record RoundState : Type 0 where
  pub round : ℕ
  pub nodes : ℕ
  pub parts : List (Option Part)

abbrev pub gathering_of : RoundState → Gathering
gathering_of s = record { round = s.round; parts = λ n. at n s.parts }

-- the round behind it, to which none has come
abbrev pub next_round : RoundState → Gathering
next_round s = record { round = s.round + 1; parts = no_parts }

-- what is left when the part of a node comes
abbrev pub round_step : ℕ → Part → RoundState → RoundStep
round_step n part s = gathers s.nodes n part (gathering_of s)

-- with this part of the node all parts are there
abbrev pub completes_round : ℕ → Part → RoundState → Bool
completes_round n part s = is_some (all_parts 0 s.nodes (at_node (gathering_of s).parts n (Some part)))

-- what is true of the parts that are kept
pub record AreParts (nodes : ℕ) (parts : List (Option Part)) : Type 0 where
  pub few : nodes ≤ 64
  pub places : length parts ≡ nodes

-- all parts came
abbrev pub are_there : List (Option Part) → Bool
are_there parts = list_all is_some parts

-- all parts came but perhaps one
abbrev pub others_there : ℕ → List (Option Part) → Bool
others_there n parts = are_there (take n parts) && are_there (drop (suc n) parts)

-- the parts that came, in the order of the nodes
abbrev pub with_present : Option Part → List Part → List Part
with_present None parts = parts
with_present (Some part) parts = part ∷ parts

abbrev pub present : List (Option Part) → List Part
present [] = []
present (slot ∷ slots) = with_present slot (present slots)
