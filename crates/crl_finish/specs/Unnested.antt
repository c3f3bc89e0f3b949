-- Scripts that always finish, by how their statements stand: no section is inside another, no round is inside a section,
-- and the nodes come to equally many rounds.
use Rattle.std.specs.Prelude.{◌≡◌, ℕ, ◌+◌, ◌<◌, Bool, true, false, not, ◌&&◌, if◌then◌else◌, List, [], ◌∷◌}
use Rattle.std.specs.List.{All}
use Rattle.crl_model.specs.declared.name.Name.{Name}
use Rattle.crl_model.specs.declared.call.Call.TheVariants as call
use Rattle.crl_model.specs.declared.statement.Statement.{Statement}
use Rattle.crl_model.specs.declared.statement.Statement.TheVariants as statement
use Rattle.crl_model.specs.Names.{name_eq}
use Rattle.crl_protocol.specs.Verdict.{of_part}
use Rattle.crl_protocol.specs.Chosen.{is_allowed, block_of}

-- Where a node is between two of its statements: outside of sections, or inside one of a region, to write or to read. A
-- section whose start was refused counts, up to its end.
pub data Within : Type 0 where
  Outside : Within
  Inside : (write : Bool) (name : Name) → Within

-- the section that a statement starts
abbrev pub within_start : Statement → Within
within_start (statement.Call (call.StartRead name)) = Inside false name
within_start (statement.Call (call.StartWrite name)) = Inside true name
within_start _ = Outside

-- The statement ends the section.
abbrev pub is_end_of : Bool → Name → Statement → Bool
is_end_of write name (statement.Call (call.EndRead q)) = not write && name_eq q name
is_end_of write name (statement.Call (call.EndWrite q after)) = write && name_eq q name
is_end_of write name _ = false

-- What may not stand inside a section: the start of one, and a collective call. All else may: changes, creates, deletes,
-- maps, unmaps, flushes, and ends, which are refused there where they are of another section.
abbrev pub is_outer : Statement → Bool
is_outer (statement.Call (call.StartRead name)) = true
is_outer (statement.Call (call.StartWrite name)) = true
is_outer (statement.Call (call.Come part)) = true
is_outer _ = false

-- Each section that is started is ended, before another is started or a collective call is made.
abbrev pub is_unnested_from : Within → List Statement → Bool
is_unnested_from Outside [] = true
is_unnested_from (Inside write name) [] = false
is_unnested_from Outside (s ∷ left) = is_unnested_from (within_start s) left
is_unnested_from (Inside write name) (s ∷ left) =
    not (is_outer s) && is_unnested_from (if is_end_of write name s then Outside else Inside write name) left

abbrev pub is_unnested : List Statement → Bool
is_unnested block = is_unnested_from Outside block

abbrev pub IsUnnested : List Statement → Type 0
IsUnnested block = is_unnested block ≡ true

abbrev pub AreUnnested : List (List Statement) → Type 0
AreUnnested blocks = All IsUnnested blocks

-- The rounds to which statements come: one for each collective call. A send of no bytes, or of too many, is refused and
-- comes to none.
abbrev pub rounds_of : Statement → ℕ
rounds_of (statement.Call (call.Come part)) = if is_allowed (of_part part) then 1 else 0
rounds_of _ = 0

abbrev pub rounds_in : List Statement → ℕ
rounds_in [] = 0
rounds_in (s ∷ left) = rounds_of s + rounds_in left

-- Each node comes to as many rounds as node 0.
abbrev pub AreAligned : ℕ → List (List Statement) → Type 0
AreAligned count blocks = (i : ℕ) → i < count → rounds_in (block_of blocks i) ≡ rounds_in (block_of blocks 0)
