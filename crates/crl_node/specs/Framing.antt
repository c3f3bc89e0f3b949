-- What is sent of a piece.
use Rattle.std.specs.Prelude.{ℕ, ◌≡◌, List}
use Rattle.std.specs.declared.option.Option.{Option}
use Rattle.std.specs.declared.option.Option.TheVariants.{None, Some}
use Rattle.std.specs.declared.result.Result.TheVariants.{Ok}
use Rattle.crl_protocol.specs.Places.{Taken}
use Rattle.crl_protocol.specs.Parcels.{Piece}
use Rattle.crl_wire.specs.Frame.{frame}
use Rattle.crl_wire.specs.Decoding.{decoded}

-- the bytes are the frame of the piece, and are read as that piece
pub record IsFrameOf (p : Piece) (sent : List ℕ) : Type 0 where
  pub is : sent ≡ frame p
  pub again : decoded sent ≡ Ok p

-- of the piece that is taken out
abbrev pub IsSent : List ℕ → Option (Taken Piece) → Type 0
IsSent sent None = ⊥
IsSent sent (Some t) = IsFrameOf t.taken sent

-- some piece is read of the bytes
pub record HasPiece (sent : List ℕ) : Type 0 where
  pub piece : Piece
  pub again : decoded sent ≡ Ok piece
