-- What bytes are read as: the tests in their order, and the first that holds is the answer.
use Rattle.std.specs.Prelude.{◌≡◌, ℕ, ◌+◌, ◌==◌, nat_lt, true, false, ◌&&◌, if◌then◌else◌, ◌<◌, List, ◌++◌, length, drop, slice_index, Option, Some, None, option_and_then, find, Result, Ok, Err, ℤ}
use Rattle.std.specs.List.{slice_range}
use Rattle.std.specs.Int.{Width, byte_len, w16, w32, w64, w128, from_be_bytes, cast_signed}
use Rattle.crl_model.specs.declared.name.Name.{Name}
use Rattle.crl_model.specs.declared.collective.Part.{Part}
use Rattle.crl_model.specs.declared.collective.Part.TheVariants as parts
use Rattle.crl_model.specs.declared.collective.Fold.{Fold}
use Rattle.crl_model.specs.declared.collective.Fold.TheVariants as folds
use Rattle.crl_model.specs.declared.message.Told.{Told}
use Rattle.crl_model.specs.declared.message.Told.TheVariants as tolds
use Rattle.crl_model.specs.declared.message.Granted.{Granted}
use Rattle.crl_model.specs.declared.message.Granted.TheVariants as granteds
use Rattle.crl_model.specs.declared.message.Kind.{Kind}
use Rattle.crl_model.specs.declared.message.Kind.TheVariants as kinds
use Rattle.crl_model.specs.declared.message.Message.{Message}
use Rattle.crl_model.specs.declared.piece.Piece.{Piece}
use Rattle.crl_wire.specs.declared.form.Form.{Form}
use Rattle.crl_wire.specs.declared.form.Form.TheVariants.{InfoAsk, InfoIs, AskRead, AskWrite, Grant, Recall, ReturnPlain, ReturnBytes, DeleteAsk, DeleteIs, Purge, Purged, Come, Yield, Release}
use Rattle.crl_wire.specs.declared.form.Form.TheVariants as forms
use Rattle.crl_wire.specs.declared.form.ToldForm.{ToldForm}
use Rattle.crl_wire.specs.declared.form.ToldForm.TheVariants as told_forms
use Rattle.crl_wire.specs.declared.form.GrantedForm.{GrantedForm}
use Rattle.crl_wire.specs.declared.form.GrantedForm.TheVariants as granted_forms
use Rattle.crl_wire.specs.declared.form.PartForm.{PartForm}
use Rattle.crl_wire.specs.declared.form.PartForm.TheVariants as part_forms
use Rattle.crl_wire.specs.declared.form.FoldForm.{FoldForm}
use Rattle.crl_wire.specs.declared.form.FoldForm.TheVariants as fold_forms
use Rattle.crl_wire.specs.declared.header.Header.{Header}
use Rattle.crl_wire.specs.declared.fault.WireFault.{WireFault}
use Rattle.crl_wire.specs.declared.fault.WireFault.TheVariants.{Short, Long, BadKind, BadField, OutOfMemory}
use Rattle.crl_wire.specs.Table.{shape_of, all_forms, is_kind, is_shaped}
use Rattle.crl_wire.specs.Frame.{frame, Fits}

-- ---- the fields by their places

abbrev pub number_at : Width → ℕ → List ℕ → ℕ
number_at w at bytes = from_be_bytes w (slice_range bytes at (at + byte_len w))

unfoldable pub header_at : List ℕ → Header
header_at bytes = record {
  kind = slice_index bytes 0;
  flag = slice_index bytes 1;
  sender = number_at w16 2 bytes;
  addressee = number_at w16 4 bytes;
  last_index = number_at w16 6 bytes;
  home = number_at w32 8 bytes;
  serial = number_at w32 12 bytes;
  number = number_at w64 16 bytes;
  body_len = number_at w32 24 bytes;
  index = number_at w32 28 bytes;
}

-- ---- the piece of a form with this name, number, place and body

abbrev pub value_from : List ℕ → ℤ
value_from body = cast_signed w64 (from_be_bytes w64 body)

abbrev pub total_from : List ℕ → ℤ
total_from body = cast_signed w128 (from_be_bytes w128 body)

abbrev pub told_from : ToldForm → ℕ → Told
told_from told_forms.Live number = tolds.Live number
told_from told_forms.Unknown number = tolds.Unknown
told_from told_forms.Deleted number = tolds.Deleted

abbrev pub granted_from : GrantedForm → List ℕ → Granted
granted_from granted_forms.Shared body = granteds.Shared body
granted_from granted_forms.Exclusive body = granteds.Exclusive body
granted_from granted_forms.Upgrade body = granteds.Upgrade

abbrev pub part_from : PartForm → List ℕ → Part
part_from part_forms.Barrier body = parts.Barrier
part_from part_forms.Send body = parts.Send body
part_from part_forms.Receive body = parts.Receive
part_from part_forms.Sum body = parts.Sum (value_from body)
part_from part_forms.Min body = parts.Min (value_from body)
part_from part_forms.Max body = parts.Max (value_from body)

abbrev pub fold_from : FoldForm → List ℕ → Fold
fold_from fold_forms.Barrier body = folds.Barrier
fold_from fold_forms.Broadcast body = folds.Broadcast body
fold_from fold_forms.Sum body = folds.Sum (total_from body)
fold_from fold_forms.Min body = folds.Min (value_from body)
fold_from fold_forms.Max body = folds.Max (value_from body)
fold_from fold_forms.Mixed body = folds.Mixed

abbrev pub kind_from : Form → Name → ℕ → List ℕ → Kind
kind_from InfoAsk name number body = kinds.InfoAsk name
kind_from (InfoIs told) name number body = kinds.InfoIs name (told_from told number)
kind_from AskRead name number body = kinds.Ask name false 0
kind_from AskWrite name number body = kinds.Ask name true number
kind_from (Grant granted) name number body = kinds.Grant name number (granted_from granted body)
kind_from Recall name number body = kinds.Recall name number
kind_from ReturnPlain name number body = kinds.Return name number None
kind_from ReturnBytes name number body = kinds.Return name number (Some body)
kind_from DeleteAsk name number body = kinds.DeleteAsk name
kind_from (DeleteIs told) name number body = kinds.DeleteIs name told
kind_from Purge name number body = kinds.Purge name
kind_from Purged name number body = kinds.Purged name
kind_from (Come part) name number body = kinds.Come number (part_from part body)
kind_from (forms.Result fold) name number body = kinds.Result number (fold_from fold body)
kind_from Yield name number body = kinds.Yield name number
kind_from Release name number body = kinds.Release name number body

abbrev pub name_in : Header → Name
name_in h = record { home = h.home; serial = h.serial }

abbrev pub message_from : Header → Form → List ℕ → Message
message_from h form body = record { sender = h.sender; addressee = h.addressee; kind = kind_from form (name_in h) h.number body }

abbrev pub piece_from : Header → Form → List ℕ → Piece
piece_from h form body = record { message = message_from h form body; pieces = h.last_index + 1; index = h.index }

-- ---- the tests

-- the form with this kind and flag
unfoldable pub form_at : ℕ → ℕ → Option Form
form_at kind flag = find (λ form. ((shape_of form).kind == kind) && ((shape_of form).flag == flag)) all_forms

-- the form whose header this is
unfoldable pub form_in : Header → Option Form
form_in h = option_and_then (λ form. if is_shaped (shape_of form) h then Some form else None) (form_at h.kind h.flag)

-- the body has the length that the header says
unfoldable pub with_body : Header → Form → List ℕ → Result Piece WireFault
with_body h form body =
    if nat_lt (length body) h.body_len then Err Short
    else (if nat_lt h.body_len (length body) then Err Long
    else Ok (piece_from h form body))

-- the header is one of the table's
unfoldable pub with_form : Header → Option Form → List ℕ → Result Piece WireFault
with_form h None body = Err BadField
with_form h (Some form) body = with_body h form body

unfoldable pub with_header : Header → List ℕ → Result Piece WireFault
with_header h body = if is_kind h.kind then with_form h (form_in h) body else Err BadKind

unfoldable pub decoded : List ℕ → Result Piece WireFault
decoded bytes = if nat_lt (length bytes) 32 then Err Short else with_header (header_at bytes) (drop 32 bytes)

-- What decoding returned is what it is, unless memory ran out.
abbrev pub Gives : Result Piece WireFault → Result Piece WireFault → Type 0
Gives (Err OutOfMemory) read = Unit {0}
Gives result read = read ≡ result

-- ---- the faults, in words of frames

-- the first bytes of a frame, and not all of them
pub record BeginsFrame (bytes : List ℕ) : Type 0 where
  pub piece : Piece
  pub rest : List ℕ
  pub fits : Fits piece
  pub more : 0 < length rest
  pub spelled : frame piece ≡ bytes ++ rest

-- a frame, and more bytes
pub record ExceedsFrame (bytes : List ℕ) : Type 0 where
  pub piece : Piece
  pub rest : List ℕ
  pub fits : Fits piece
  pub more : 0 < length rest
  pub spelled : bytes ≡ frame piece ++ rest
