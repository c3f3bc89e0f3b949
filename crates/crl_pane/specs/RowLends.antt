-- What a row ends as, once the slice of its values has ended.
use Rattle.std.specs.Prelude.{List, length}
use Rattle.std.specs.Borrow.{Fml, RattleType, MutBor, Array, Lends}
use Rattle.std.specs.List.{refill}
use Rattle.crl_pane.specs.declared.block.Row.{Row}
use Rattle.crl_pane.specs.contracts.block.Row.{the_row}

module _ {X : Type 0} where
  abbrev pub with_items : Row X → List X → Row X
  with_items row xs = record { mark = row.mark; at = row.at; items = xs; left = row.left }

  -- the values are the last ones written, as many as before
  abbrev pub after_writes : Row X → List X → Row X
  after_writes row ws = with_items row (refill (length row.items) row.items ws)

abbrev pub LendsRow : (R : RattleType) → MutBor (Row R.Denot) → MutBor (List R.Denot) → Fml
LendsRow R row r = Lends (the_row R) (Array R 0) row r (λ ws. after_writes row.now ws)
