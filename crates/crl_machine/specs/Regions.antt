-- What a table of regions says of a name, and what is true of the machine's tables at all times.
use Rattle.std.specs.Prelude.{◌≡◌, ℕ, ◌<◌, ◌≤◌, Bool, true, false, List, length}
use Rattle.std.specs.Option.{option_map_or}
use Rattle.std.specs.declared.option.Option.{Option}
use Rattle.std.specs.declared.option.Option.TheVariants.{None, Some}
use Rattle.crl_model.specs.declared.name.Name.{Name}
use Rattle.crl_machine.specs.declared.node_row.NodeRow.{NodeRow}
use Rattle.crl_machine.specs.declared.region.Region.{Region}
use Rattle.crl_model.specs.declared.stage.Stage.{Stage}
use Rattle.crl_model.specs.declared.stage.Stage.TheVariants.{Unknown, Going}
use Rattle.crl_machine.specs.Tables.{used_at, deletes_at}

abbrev pub stage_in : (Name → Option Region) → Name → Stage
stage_in region name = option_map_or (λ (r : Region). r.stage) (region name) Unknown

abbrev pub is_in : (Name → Option Region) → Name → Bool
is_in region name = option_map_or (λ (r : Region). true) (region name) false

-- The tables agree: by which names have a region, where they stand, how many serials a node has used, and
-- which region it deletes.
pub record Agree (there : Name → Bool) (stage : Name → Stage) (used : ℕ → ℕ) (deletes : ℕ → Option Name) : Type 0 where
  -- a region has a serial that its home has used
  pub fresh : (q : Name) → there q ≡ true → q.serial ≤ used q.home
  -- a region is being deleted by the node that notes so
  pub going : (q : Name) (n : ℕ) → stage q ≡ Going n → deletes n ≡ Some q
  pub noted : (q : Name) (n : ℕ) → deletes n ≡ Some q → stage q ≡ Going n

abbrev pub TablesAgree : (Name → Option Region) → List NodeRow → Type 0
TablesAgree region rows = Agree (is_in region) (stage_in region) (used_at rows) (deletes_at rows)

-- a region has shares of nodes alone, who writes it is one, and it has no more bytes than there are zeros
pub record RegionFits (nodes zeros : ℕ) (r : Region) : Type 0 where
  pub shares : length r.shares.items ≤ nodes
  pub writer : (n : ℕ) → r.writer ≡ Some n → n < nodes
  pub size : r.size ≤ zeros

abbrev pub RegionsFit : ℕ → ℕ → (Name → Option Region) → Type 0
RegionsFit nodes zeros region = (q : Name) (r : Region) → region q ≡ Some r → RegionFits nodes zeros r

-- there is room for the node's share of the region
abbrev pub HasShare : ℕ → Option Region → Type 0
HasShare n None = ⊥
HasShare n (Some r) = n < length r.shares.items
