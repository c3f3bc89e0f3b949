-- What the parts of a block own and lend, at values of the row R.
use Rattle.std.specs.Prelude.{ℕ, ◌+◌, ◌*◌, ◌^◌, List, length}
use Rattle.std.specs.Mem.{type_size}
use base.Fml.{Lft, Fml, ffalse, fsep, flt, froom}
use mir.Syntax.{Ty, ty_array}
use mir.Raw.{raw}
use types.SemTy.{cells}
use denote.RattleType.{RattleType}
use denote.Memory.{lone, mem}
use denote.Sharing.{said, beside}
use denote.Slice.{elements_shared}
use denote.RawPtr.{Ptr, block_ptr, null_ptr}

module _ (R : RattleType) where
  -- the values and the places behind them take fewer than 2 ^ 63 bytes
  abbrev pub fit : List R.Denot → ℕ → Fml
  fit xs left = flt ((length xs + left) * type_size R) (2 ^ 63)

  -- the values side by side from the pointer on, and room for so many more behind them
  abbrev pub row_owns : Ptr → List R.Denot → ℕ → Fml
  row_owns (block_ptr b o) xs left = fsep (fit xs left) (fsep (cells (mem R) xs b o) (froom (raw (ty_array (lone R.mir) left)) b (length xs * type_size R + o)))
  row_owns null_ptr xs left = ffalse

  -- what a `&` to them holds: the bound, and a `&` to each value
  abbrev pub row_lends : Ptr → List R.Denot → ℕ → Lft → Fml
  row_lends (block_ptr b o) xs left = beside (said (fit xs left)) (elements_shared R xs b o)
  row_lends null_ptr xs left = said ffalse

  -- the allocator's token for a block of so many places
  abbrev pub right_owns : (Ty → Ptr → Fml) → Ptr → ℕ → Fml
  right_owns token p len = token (raw (ty_array (lone R.mir) len)) p
