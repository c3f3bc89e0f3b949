-- The commands, as their words say.
use Rattle.std.specs.Prelude.{ℕ, ◌*◌, ◌^◌, ◌<◌, ◌≤◌, ◌==◌, ◌&&◌, nat_le, if◌then◌else◌, Bool, false, List, [], ◌∷◌, codes, Option, Some, None, option_map}
use Rattle.std.specs.List.{list_any}
use Rattle.std.specs.Str.{bytes_eq}
use Rattle.crl_order.specs.Words.{generator_of_seed}
use Rattle.crl_order.specs.declared.order.Order.TheVariants.{First, Picks, Seed}
use Rattle.crl_script.specs.Words.{natural_of}
use Rattle.crl_commands.specs.declared.command.Command.{Command}
use Rattle.crl_commands.specs.declared.command.Command.TheVariants.{Order, Check, Gen, Summary, Threads}
use Rattle.crl_commands.specs.declared.command.Recipe.{Recipe}
use Rattle.crl_commands.specs.Picks.{picks_of}

-- the word begins with a hyphen
abbrev pub is_hyphenated : List ℕ → Bool
is_hyphenated [] = false
is_hyphenated (byte ∷ rest) = byte == 45

abbrev pub any_hyphenated : List (List ℕ) → Bool
any_hyphenated = list_any is_hyphenated

-- a number from low to high
abbrev pub between : ℕ → ℕ → Option ℕ → Option ℕ
between low high None = None
between low high (Some n) = if nat_le low n && nat_le n high then Some n else None

-- the number from low to high that a word of 1 to 20 digits is
abbrev pub number_of : ℕ → ℕ → List ℕ → Option ℕ
number_of low high word = between low high (natural_of word)

-- `first`
abbrev pub first_of : List ℕ → Option Command
first_of word = if bytes_eq word (codes "first") then Some (Order First) else None

-- `picks LIST`, and `seed N`
abbrev pub order_by : List ℕ → List ℕ → Option Command
order_by word value =
    if bytes_eq word (codes "picks") then option_map (λ values. Order (Picks values)) (picks_of value)
    else if bytes_eq word (codes "seed") then option_map (λ seed. Order (Seed (generator_of_seed seed))) (number_of 0 18446744073709551615 value)
    else None

abbrev pub order_of : List (List ℕ) → Option Command
order_of (word ∷ []) = first_of word
order_of (word ∷ value ∷ []) = order_by word value
order_of words = None

-- `NODES`
abbrev pub check_of : List (List ℕ) → Option Command
check_of (nodes ∷ []) = option_map Check (number_of 1 64 nodes)
check_of words = None

-- `WORKERS`
abbrev pub threads_of : List (List ℕ) → Option Command
threads_of (workers ∷ []) = option_map Threads (number_of 1 16 workers)
threads_of words = None

-- a script of at most so many statements and regions
abbrev pub recipe_within : ℕ → ℕ → ℕ → ℕ → Option Recipe
recipe_within seed nodes regions rounds =
    if nat_le (nodes * rounds) 200000 && nat_le (nodes * regions) 64000
    then Some (record { seed = seed; nodes = nodes; regions = regions; rounds = rounds }) else None

abbrev pub recipe_with : Option ℕ → Option ℕ → Option ℕ → Option ℕ → Option Recipe
recipe_with None nodes regions rounds = None
recipe_with (Some seed) None regions rounds = None
recipe_with (Some seed) (Some nodes) None rounds = None
recipe_with (Some seed) (Some nodes) (Some regions) None = None
recipe_with (Some seed) (Some nodes) (Some regions) (Some rounds) = recipe_within seed nodes regions rounds

-- `SEED NODES REGIONS ROUNDS`
abbrev pub recipe_of : List (List ℕ) → Option Recipe
recipe_of (seed ∷ nodes ∷ regions ∷ rounds ∷ []) =
    recipe_with (number_of 0 18446744073709551615 seed) (number_of 1 64 nodes) (number_of 1 1000 regions) (number_of 0 10000 rounds)
recipe_of words = None

-- a name, and the words behind it
abbrev pub command_named : List ℕ → List (List ℕ) → Option Command
command_named name words =
    if bytes_eq name (codes "order") then order_of words
    else if bytes_eq name (codes "check") then check_of words
    else if bytes_eq name (codes "gen") then option_map Gen (recipe_of words)
    else if bytes_eq name (codes "summary") then option_map Summary (recipe_of words)
    else if bytes_eq name (codes "threads") then threads_of words
    else None

-- the words with the name before them
abbrev pub command_by : List (List ℕ) → Option Command
command_by [] = None
command_by (name ∷ words) = command_named name words

-- the command that the words are; none of them begins with a hyphen
abbrev pub command_of : List (List ℕ) → Option Command
command_of words = if any_hyphenated words then None else command_by words

-- what a script may be made from
pub record IsRecipe (r : Recipe) : Type 0 where
  pub seed : r.seed < 2 ^ 64
  pub some_node : 1 ≤ r.nodes
  pub nodes : r.nodes ≤ 64
  pub some_region : 1 ≤ r.regions
  pub regions : r.regions ≤ 1000
  pub rounds : r.rounds ≤ 10000
  pub statements : r.nodes * r.rounds ≤ 200000
  pub all_regions : r.nodes * r.regions ≤ 64000

-- the numbers of a command are ones that there may be
abbrev pub IsSound : Command → Type 0
IsSound (Order order) = Unit {0}
IsSound (Check nodes) = (1 ≤ nodes) × (nodes ≤ 64)
IsSound (Gen recipe) = IsRecipe recipe
IsSound (Summary recipe) = IsRecipe recipe
IsSound (Threads workers) = (1 ≤ workers) × (workers ≤ 16)
