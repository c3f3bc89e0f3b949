-- One message.
use Rattle.std.proofs.Common.{◌≡◌, ℕ, [], ◌∷◌, append-nil}
use Rattle.crl_model.specs.declared.name.Name.{Name}
use Rattle.crl_protocol.specs.Mail.{Mail}
use Rattle.crl_protocol.specs.Parcels.{pieces_of}
use Rattle.crl_remote.specs.Posts.{mail_message, mail_pieces}

pub one_mail : (me : ℕ) (name : Name) (m : Mail) → mail_pieces me name (m ∷ []) ≡ pieces_of (mail_message me name m)
one_mail me name m = append-nil (pieces_of (mail_message me name m))
