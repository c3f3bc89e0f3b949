-- What is seen of a mailbox.
use Rattle.std.specs.Prelude.{ℕ, List}
use Rattle.crl_model.specs.declared.piece.Piece.{Piece}

-- the pieces, the oldest first, and how many more there is place for
pub record MailboxState : Type 0 where
  pub list : List Piece
  pub room : ℕ
