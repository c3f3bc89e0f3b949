-- What a node posts to the home of a region: its mail as messages, in pieces.
use Rattle.std.specs.Prelude.{ℕ, List, map}
use Rattle.crl_model.specs.declared.name.Name.{Name}
use Rattle.crl_model.specs.declared.message.Message.{Message}
use Rattle.crl_model.specs.declared.piece.Piece.{Piece}
use Rattle.crl_protocol.specs.Mail.{Mail, kind_about}
use Rattle.crl_protocol.specs.Parcels.{pieces_in}

abbrev pub mail_message : ℕ → Name → Mail → Message
mail_message me name mail = record { sender = me; addressee = name.home; kind = kind_about name mail }

abbrev pub mail_pieces : ℕ → Name → List Mail → List Piece
mail_pieces me name mails = pieces_in (map (mail_message me name) mails)
