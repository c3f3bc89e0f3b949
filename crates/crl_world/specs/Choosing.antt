-- The choices of a turn, by which nodes have a statement left.
use Rattle.std.specs.Prelude.{◌≡◌, ℕ, zero, suc, ◌+◌, Bool, true, false, List, [], ◌∷◌, ◌++◌, length, slice_index_or}
use Rattle.crl_model.specs.declared.choice.Choice.{Choice}
use Rattle.crl_model.specs.declared.choice.Choice.TheVariants as choice
use Rattle.crl_model.specs.declared.statement.Statement.{Statement}
use Rattle.crl_protocol.specs.Node.{Activity, Free, Waiting, Ready}
use Rattle.crl_protocol.specs.World.{World}
use Rattle.crl_protocol.specs.Chosen.{handles_of, carries_of}
use Rattle.crl_world.specs.declared.counts.Counts.{Counts}
use Rattle.crl_world.specs.declared.rows.Rows.{Rows}
use Rattle.crl_world.specs.declared.rows.Rows.TheVariants.{Nexts, Inboxes, Outboxes}

-- the next statement of a node that is free and has one left, or the answer of one that is ready
abbrev pub next_if : ℕ → Bool → Activity → List Choice
next_if i left (Waiting awaited) = []
next_if i left (Ready answer) = choice.Collect i ∷ []
next_if i true Free = choice.Statement i ∷ []
next_if i false Free = []

-- The choices of one node in each of the three rows in which a turn counts them, and a row of all nodes.
abbrev pub choices_in : Rows → (ℕ → Bool) → World → ℕ → List Choice
choices_in Nexts left w i = next_if i (left i) (w.nodes i).activity
choices_in Inboxes left w i = handles_of i 0 (w.nodes i).inbox
choices_in Outboxes left w i = carries_of i 0 (w.nodes i).outbox

abbrev pub row_from : (ℕ → List Choice) → ℕ → ℕ → List Choice
row_from f i zero = []
row_from f i (suc k) = f i ++ row_from f (i + 1) k

abbrev pub row_of : Rows → (ℕ → Bool) → World → List Choice
row_of rows left w = row_from (choices_in rows left w) 0 w.count

abbrev pub choices_by : (ℕ → Bool) → World → List Choice
choices_by left w = row_of Nexts left w ++ (row_of Inboxes left w ++ row_of Outboxes left w)

-- whether a node has a statement left, as a list says it
abbrev pub left_in : List Bool → ℕ → Bool
left_in left i = slice_index_or left i false

-- as a script on its way says it
abbrev pub has_some : List Statement → Bool
has_some [] = false
has_some (s ∷ left) = true

-- how many choices there are up to the end of each row
pub record AreCounts (left : ℕ → Bool) (w : World) (c : Counts) : Type 0 where
  pub nexts : c.nexts ≡ length (row_of Nexts left w)
  pub inboxes : c.with_inboxes ≡ length (row_of Nexts left w) + length (row_of Inboxes left w)
  pub all : c.all ≡ length (choices_by left w)
