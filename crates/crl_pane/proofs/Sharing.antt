-- A `&` to a row is made where one to a value is. Assumes `Logic`.
use Rattle.std.specs.Prelude.{ℕ, ◌+◌, ◌*◌, List, [], ◌∷◌, length}
use Rattle.std.specs.Mem.{type_size}
use seplogic.Ra.Ura.{Ura}
use base.Fraction.{full_share}
use base.Fml.{Lft, Incl, ftrue, ffalse, fsep, froom}
use mir.Syntax.{ty_array}
use mir.Raw.{raw}
use types.Logic.{Logic}
use types.SemTy.{cells}
use denote.RattleType.{RattleType, RowLaws}
use denote.Memory.{lone, mem, part_at, shared_of}
use denote.Param.Laws.{Laws}
use denote.RawPtr.{Ptr, block_ptr, null_ptr}
use denote.Sharing.{ShrLaws, said}
use denote.SharingLaws.{beside_shr_laws, said_shr_laws}
use denote.Slice.{elements_shared, elements_shr_laws}
use denote.Shares.{Shares-less}
use denote.Struct.Lending.{Lends, Lends-both, Lends-first, Lends-nothing, Lends-said, Lends-false}
use Rattle.crl_pane.specs.Blocks.{fit, row_owns, row_lends}

pub row_lends_laws : (R : RattleType) → RowLaws R → (p : Ptr) (xs : List R.Denot) (left : ℕ) → ShrLaws (row_lends R p xs left)
row_lends_laws R L (block_ptr b o) xs left = beside_shr_laws _ _ (said_shr_laws (fit R xs left) tt) (elements_shr_laws R L xs b o)
row_lends_laws R L null_ptr xs left = said_shr_laws ffalse tt

module _ {M : Type 1} {𝓤 : Ura M} (𝓛 : Logic 𝓤) (l : Lft) (R : RattleType) (L : Laws R) (inc : Incl l R.lives) where
  Lends-values : (xs : List R.Denot) (b o : ℕ) → Lends 𝓛 (cells (mem R) xs b o) (elements_shared R xs b o) l
  Lends-values [] b o = Lends-nothing 𝓛 ftrue l
  Lends-values (x ∷ xs) b o =
      Lends-both 𝓛 (part_at R full_share x b o) (cells (mem R) xs b (o + type_size R)) (shared_of R x b o) (elements_shared R xs b (o + type_size R)) l
      (λ κ ts. Shares-less 𝓛 R R.lives l inc (L.shares 𝓛) x κ ts b o) (Lends-values xs b (o + type_size R))

  pub Lends-row : (p : Ptr) (xs : List R.Denot) (left : ℕ) → Lends 𝓛 (row_owns R p xs left) (row_lends R p xs left) l
  Lends-row (block_ptr b o) xs left =
      let space = froom (raw (ty_array (lone R.mir) left)) b (length xs * type_size R + o) in
      Lends-both 𝓛 (fit R xs left) (fsep (cells (mem R) xs b o) space) (said (fit R xs left)) (elements_shared R xs b o) l (Lends-said 𝓛 (fit R xs left) tt l)
      (Lends-first 𝓛 (cells (mem R) xs b o) space (elements_shared R xs b o) l (Lends-values xs b o))
  Lends-row null_ptr xs left = Lends-false 𝓛 (said ffalse) l
