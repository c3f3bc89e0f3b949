-- What a home posts: its letters as messages, in pieces; and the call for one copy.
use Rattle.std.specs.Prelude.{ℕ, if◌then◌else◌, List, [], ◌∷◌, map}
use Rattle.std.specs.declared.option.Option.{Option}
use Rattle.std.specs.declared.option.Option.TheVariants.{None, Some}
use Rattle.crl_model.specs.declared.directory.Listing.{Listing}
use Rattle.crl_model.specs.declared.directory.Asked.{Asked}
use Rattle.crl_model.specs.declared.name.Name.{Name}
use Rattle.crl_model.specs.declared.message.Message.{Message}
use Rattle.crl_model.specs.declared.piece.Piece.{Piece}
use Rattle.crl_protocol.specs.Mail.{Letter, kind_about}
use Rattle.crl_protocol.specs.Home.{is_to_mark, mark_for, recall_or_yield}
use Rattle.crl_protocol.specs.Parcels.{pieces_in}

abbrev pub letter_message : ℕ → Name → Letter → Message
letter_message me name letter = record { sender = me; addressee = letter.to; kind = kind_about name letter.mail }

abbrev pub letter_pieces : ℕ → Name → List Letter → List Piece
letter_pieces me name letters = pieces_in (map (letter_message me name) letters)

-- the copy of node m, with its mark if it is now called for the ask; and the call
abbrev pub mark_at : ℕ → Option Listing → Asked → Option Listing
mark_at m None ask = None
mark_at m (Some copy) ask = Some (if is_to_mark m copy ask then record copy { mark = mark_for ask } else copy)

abbrev pub call_at : ℕ → Option Listing → Asked → List Letter
call_at m None ask = []
call_at m (Some copy) ask = if is_to_mark m copy ask then recall_or_yield ask copy.version m ∷ [] else []
