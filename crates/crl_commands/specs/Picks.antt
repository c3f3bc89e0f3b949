-- The list of `order picks`: values joined by commas, each of which may say how often it stands.
use Rattle.std.specs.Prelude.{ℕ, ◌==◌, ◌&&◌, ◌++◌, nat_le, if◌then◌else◌, Bool, List, [], ◌∷◌, length, replicate, Option, Some, None, is_some, option_map, option_and_then}
use Rattle.std.specs.List.{position, before_first, after_first, slice_split}
use Rattle.crl_script.specs.Words.{natural_of}

-- a star, which stands before the number of times
abbrev pub is_star : ℕ → Bool
is_star byte = byte == 42

-- a value below 2^32, and a number of times from 1 on
abbrev pub value_times : Option ℕ → Option ℕ → Option (ℕ × ℕ)
value_times None times = None
value_times (Some value) None = None
value_times (Some value) (Some times) = if nat_le value 4294967295 && nat_le 1 times then Some (value, times) else None

-- `V`, which stands once, or `V*K`, which stands K times
abbrev pub item_of : List ℕ → Option (ℕ × ℕ)
item_of item =
    if is_some (position is_star item) then value_times (natural_of (before_first is_star item)) (natural_of (after_first is_star item))
    else value_times (natural_of item) (Some 1)

-- the values of an item
abbrev pub values_of : List ℕ → Option (List ℕ)
values_of item = option_map (λ i. replicate i.1 i.0) (item_of item)

-- one list behind the other, where both are
abbrev pub joined : Option (List ℕ) → Option (List ℕ) → Option (List ℕ)
joined front rest = option_and_then (λ values. option_map (λ more. values ++ more) rest) front

-- the values of the items, one item after the other
abbrev pub all_values : List (List ℕ) → Option (List ℕ)
all_values [] = Some []
all_values (item ∷ rest) = joined (values_of item) (all_values rest)

-- no more than a million of them
abbrev pub within_limit : Option (List ℕ) → Option (List ℕ)
within_limit None = None
within_limit (Some values) = if nat_le (length values) 1000000 then Some values else None

-- the values that a list stands for; its items stand between commas
abbrev pub picks_of : List ℕ → Option (List ℕ)
picks_of list = within_limit (all_values (slice_split (λ byte. byte == 44) list))
