-- That each script and order choose a run that ends, and how many turns it takes at most.
use Rattle.std.specs.Prelude.{◌≡◌, ℕ, zero, suc, ◌+◌, ◌*◌, ◌≤◌, List, length, []}
use Rattle.crl_model.specs.declared.statement.Statement.{Statement}
use Rattle.crl_pieces.specs.declared.TheConstants.{PIECES_LIMIT}
use Rattle.crl_protocol.specs.Chosen.{Actor, Running, block_of, new_actor, IsChosen, choices}
use Rattle.crl_deeds.specs.Laws.{AreStatements, chosen}
use Rattle.crl_stuck.specs.Stuck.{EndsStuck}

-- the statements that the nodes from i on have left, and all that a script has for so many nodes
abbrev pub statements_from : ℕ → ℕ → (ℕ → Actor) → ℕ
statements_from i zero actors = 0
statements_from i (suc k) actors = length (actors i).left + statements_from (i + 1) k actors

abbrev pub statements_in : ℕ → List (List Statement) → ℕ
statements_in count blocks = statements_from 0 count (λ i. new_actor (block_of blocks i))

-- The most messages that one call leads to, each piece counted, and the most turns of a script with so many statements:
-- each statement takes one and its answer another, and each message is carried and handled.
abbrev pub most_messages : ℕ → ℕ
most_messages count = 3 + 3 * PIECES_LIMIT + 2 * count

abbrev pub most_turns : ℕ → ℕ → ℕ
most_turns count statements = 2 * statements + 2 * (statements * most_messages count)

-- The run that a script and an order choose has an end, after at most so many turns, and is truly stuck there.
pub record RunEnds (count capacity : ℕ) (blocks : List (List Statement)) (words : ℕ → ℕ) : Type 0 where
  pub end : Running
  pub chosen : IsChosen count capacity blocks words end
  pub few : chosen.turns ≤ most_turns count (statements_in count blocks)
  pub stuck : EndsStuck end

abbrev pub HasOneEnd : ℕ → ℕ → List (List Statement) → (ℕ → ℕ) → Type 0
HasOneEnd count capacity blocks words = (a b : Running) → IsChosen count capacity blocks words a → IsChosen count capacity blocks words b → a ≡ b

-- where no choice is left after some turns, the world is truly stuck
abbrev pub LastIsStuck : ℕ → ℕ → List (List Statement) → (ℕ → ℕ) → Type 0
LastIsStuck count capacity blocks words =
    (k : ℕ) → choices (chosen count capacity blocks words k) ≡ [] → EndsStuck (chosen count capacity blocks words k)

-- it holds for any number of nodes, capacity of caches, script of statements, and order
abbrev pub ForEachScript : (ℕ → ℕ → List (List Statement) → (ℕ → ℕ) → Type 0) → Type 0
ForEachScript Holds =
    (count capacity : ℕ) (blocks : List (List Statement)) (words : ℕ → ℕ) → AreStatements blocks → Holds count capacity blocks words
