-- The parts of a block may cross threads as its values and its allocator may.
use Rattle.std.specs.Prelude.{ℕ, ◌+◌, List, [], ◌∷◌}
use Rattle.std.specs.Mem.{type_size}
use base.Fraction.{full_share}
use base.Shift.{Keyless}
use types.SemTy.{cells}
use denote.RattleType.{RattleType}
use denote.Memory.{mem}
use denote.RawPtr.{Ptr, block_ptr, null_ptr}
use denote.Slice.{elements_shared}
use denote.Struct.Struct.{exits_of}
use denote.Struct.Owning.{shape, fields, to}
use denote.Param.Send.{IsSend, IsSync, Common, AllSend, part_keyless, owning_send, struct_send, struct_sync, sendable}
use Rattle.core.specs.declared.alloc.Allocator.{Ghosts}
use Rattle.std_alloc.proofs.SendSync.{FreesAnywhere, quiet}
use Rattle.crl_pane.specs.Blocks.{row_owns, row_lends}
use Rattle.crl_pane.specs.contracts.block.Row as Row
use Rattle.crl_pane.specs.contracts.block.Right as Right

module _ (R : RattleType) where
  values-Keyless : IsSend R → (xs : List R.Denot) (b o : ℕ) → Keyless (cells (mem R) xs b o)
  values-Keyless s [] b o = tt
  values-Keyless s (x ∷ xs) b o = (part_keyless R s full_share x b o, values-Keyless s xs b (o + type_size R))

  row-Keyless : IsSend R → (p : Ptr) (xs : List R.Denot) (left : ℕ) → Keyless (row_owns R p xs left)
  row-Keyless s (block_ptr b o) xs left = (tt, (values-Keyless s xs b o, tt))
  row-Keyless s null_ptr xs left = tt

  values-Common : IsSync R → (xs : List R.Denot) (b o : ℕ) → Common (elements_shared R xs b o)
  values-Common y [] b o κ = tt
  values-Common y (x ∷ xs) b o κ = (y.shared x b o κ, values-Common y xs b (o + type_size R) κ)

  row-Common : IsSync R → (p : Ptr) (xs : List R.Denot) (left : ℕ) → Common (row_lends R p xs left)
  row-Common y (block_ptr b o) xs left κ = (tt, values-Common y xs b o κ)
  row-Common y null_ptr xs left κ = tt

  pub Row-send : IsSend R → IsSend (Row.the_row R)
  Row-send s =
      let O = Row.the_type R in let all : AllSend (fields O) = (search sendable, tt) in
      owning_send O all (λ d. row-Keyless s d.at d.items d.left) (λ k. quiet (to O) (exits_of k (fields O)) ((struct_send (shape O) all).leaving k))

  pub Row-sync : IsSync R → IsSync (Row.the_row R)
  Row-sync y = let O = Row.the_type R in record { shared = λ d b o κ. ((struct_sync (shape O) (search sendable, tt)).shared (to O d) b o κ, row-Common y d.at d.items d.left κ) }

  module _ (A : RattleType) (g : Ghosts A.Denot) where
    pub Right-send : FreesAnywhere A.Denot g → IsSend (Right.the_row R A g)
    Right-send f =
        let O = Right.the_type R A g in let all : AllSend (fields O) = (search sendable, tt) in
        owning_send O all (λ d. f.frees d.alloc _ d.at) (λ k. quiet (to O) (exits_of k (fields O)) ((struct_send (shape O) all).leaving k))

    pub Right-sync : IsSync (Right.the_row R A g)
    Right-sync = let O = Right.the_type R A g in record { shared = λ d b o κ. ((struct_sync (shape O) (search sendable, tt)).shared (to O d) b o κ, tt) }
