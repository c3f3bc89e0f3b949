-- The one frame of each piece of a message: its header, then its body.
use Rattle.std.specs.Prelude.{◌≡◌, ℕ, ◌-◌, ◌<◌, ◌≤◌, ◌^◌, true, false, List, [], ◌∷◌, ◌++◌, length, Some, None, ℤ, FitsSigned}
use Rattle.std.specs.Int.{w16, w32, w64, w128, to_be_bytes, cast_unsigned}
use Rattle.crl_model.specs.declared.name.Name.{Name}
use Rattle.crl_model.specs.declared.collective.Part.{Part}
use Rattle.crl_model.specs.declared.collective.Part.TheVariants as parts
use Rattle.crl_model.specs.declared.collective.Fold.{Fold}
use Rattle.crl_model.specs.declared.collective.Fold.TheVariants as folds
use Rattle.crl_model.specs.declared.message.Told.{Told}
use Rattle.crl_model.specs.declared.message.Told.TheVariants as tolds
use Rattle.crl_model.specs.declared.message.Granted.{Granted}
use Rattle.crl_model.specs.declared.message.Granted.TheVariants as granteds
use Rattle.crl_model.specs.declared.message.Kind.{Kind}
use Rattle.crl_model.specs.declared.message.Kind.TheVariants.{InfoAsk, InfoIs, Ask, Grant, Recall, Return, DeleteAsk, DeleteIs, Purge, Purged, Come, Result, Yield, Release}
use Rattle.crl_model.specs.declared.piece.Piece.{Piece}
use Rattle.crl_wire.specs.declared.form.Form.{Form}
use Rattle.crl_wire.specs.declared.form.Form.TheVariants as forms
use Rattle.crl_wire.specs.declared.form.ToldForm.{ToldForm}
use Rattle.crl_wire.specs.declared.form.ToldForm.TheVariants as told_forms
use Rattle.crl_wire.specs.declared.form.GrantedForm.{GrantedForm}
use Rattle.crl_wire.specs.declared.form.GrantedForm.TheVariants as granted_forms
use Rattle.crl_wire.specs.declared.form.PartForm.{PartForm}
use Rattle.crl_wire.specs.declared.form.PartForm.TheVariants as part_forms
use Rattle.crl_wire.specs.declared.form.FoldForm.{FoldForm}
use Rattle.crl_wire.specs.declared.form.FoldForm.TheVariants as fold_forms
use Rattle.crl_wire.specs.declared.header.Header.{Header}
use Rattle.crl_wire.specs.Table.{shape_of, is_shaped}

-- ---- the form of a message

abbrev pub told_form : Told → ToldForm
told_form (tolds.Live size) = told_forms.Live
told_form tolds.Unknown = told_forms.Unknown
told_form tolds.Deleted = told_forms.Deleted

abbrev pub granted_form : Granted → GrantedForm
granted_form (granteds.Shared bytes) = granted_forms.Shared
granted_form (granteds.Exclusive bytes) = granted_forms.Exclusive
granted_form granteds.Upgrade = granted_forms.Upgrade

abbrev pub part_form : Part → PartForm
part_form parts.Barrier = part_forms.Barrier
part_form (parts.Send bytes) = part_forms.Send
part_form parts.Receive = part_forms.Receive
part_form (parts.Sum value) = part_forms.Sum
part_form (parts.Min value) = part_forms.Min
part_form (parts.Max value) = part_forms.Max

abbrev pub fold_form : Fold → FoldForm
fold_form folds.Barrier = fold_forms.Barrier
fold_form (folds.Broadcast bytes) = fold_forms.Broadcast
fold_form (folds.Sum value) = fold_forms.Sum
fold_form (folds.Min value) = fold_forms.Min
fold_form (folds.Max value) = fold_forms.Max
fold_form folds.Mixed = fold_forms.Mixed

abbrev pub form_of : Kind → Form
form_of (InfoAsk name) = forms.InfoAsk
form_of (InfoIs name told) = forms.InfoIs (told_form told)
form_of (Ask name false have) = forms.AskRead
form_of (Ask name true have) = forms.AskWrite
form_of (Grant name version granted) = forms.Grant (granted_form granted)
form_of (Recall name version) = forms.Recall
form_of (Return name version None) = forms.ReturnPlain
form_of (Return name version (Some bytes)) = forms.ReturnBytes
form_of (DeleteAsk name) = forms.DeleteAsk
form_of (DeleteIs name told) = forms.DeleteIs told
form_of (Purge name) = forms.Purge
form_of (Purged name) = forms.Purged
form_of (Come round part) = forms.Come (part_form part)
form_of (Result round fold) = forms.Result (fold_form fold)
form_of (Yield name version) = forms.Yield
form_of (Release name version bytes) = forms.Release

-- ---- what it says: a name, a number and a body

abbrev pub no_name : Name
no_name = record { home = 0; serial = 0 }

abbrev pub name_of : Kind → Name
name_of (InfoAsk name) = name
name_of (InfoIs name told) = name
name_of (Ask name write have) = name
name_of (Grant name version granted) = name
name_of (Recall name version) = name
name_of (Return name version bytes) = name
name_of (DeleteAsk name) = name
name_of (DeleteIs name told) = name
name_of (Purge name) = name
name_of (Purged name) = name
name_of (Come round part) = no_name
name_of (Result round fold) = no_name
name_of (Yield name version) = name
name_of (Release name version bytes) = name

abbrev pub size_in : Told → ℕ
size_in (tolds.Live size) = size
size_in tolds.Unknown = 0
size_in tolds.Deleted = 0

abbrev pub number_of : Kind → ℕ
number_of (InfoAsk name) = 0
number_of (InfoIs name told) = size_in told
number_of (Ask name write have) = have
number_of (Grant name version granted) = version
number_of (Recall name version) = version
number_of (Return name version bytes) = version
number_of (DeleteAsk name) = 0
number_of (DeleteIs name told) = 0
number_of (Purge name) = 0
number_of (Purged name) = 0
number_of (Come round part) = round
number_of (Result round fold) = round
number_of (Yield name version) = version
number_of (Release name version bytes) = version

-- two's complement
abbrev pub value_bytes : ℤ → List ℕ
value_bytes value = to_be_bytes w64 (cast_unsigned w64 value)

abbrev pub total_bytes : ℤ → List ℕ
total_bytes value = to_be_bytes w128 (cast_unsigned w128 value)

abbrev pub granted_body : Granted → List ℕ
granted_body (granteds.Shared bytes) = bytes
granted_body (granteds.Exclusive bytes) = bytes
granted_body granteds.Upgrade = []

abbrev pub part_body : Part → List ℕ
part_body parts.Barrier = []
part_body (parts.Send bytes) = bytes
part_body parts.Receive = []
part_body (parts.Sum value) = value_bytes value
part_body (parts.Min value) = value_bytes value
part_body (parts.Max value) = value_bytes value

abbrev pub fold_body : Fold → List ℕ
fold_body folds.Barrier = []
fold_body (folds.Broadcast bytes) = bytes
fold_body (folds.Sum value) = total_bytes value
fold_body (folds.Min value) = value_bytes value
fold_body (folds.Max value) = value_bytes value
fold_body folds.Mixed = []

abbrev pub body_of : Kind → List ℕ
body_of (InfoAsk name) = []
body_of (InfoIs name told) = []
body_of (Ask name write have) = []
body_of (Grant name version granted) = granted_body granted
body_of (Recall name version) = []
body_of (Return name version None) = []
body_of (Return name version (Some bytes)) = bytes
body_of (DeleteAsk name) = []
body_of (DeleteIs name told) = []
body_of (Purge name) = []
body_of (Purged name) = []
body_of (Come round part) = part_body part
body_of (Result round fold) = fold_body fold
body_of (Yield name version) = []
body_of (Release name version bytes) = bytes

-- ---- the frame

abbrev pub header_of : Piece → Header
header_of p = record {
  kind = (shape_of (form_of p.message.kind)).kind;
  flag = (shape_of (form_of p.message.kind)).flag;
  sender = p.message.sender;
  addressee = p.message.addressee;
  last_index = p.pieces - 1;
  home = (name_of p.message.kind).home;
  serial = (name_of p.message.kind).serial;
  number = number_of p.message.kind;
  body_len = length (body_of p.message.kind);
  index = p.index;
}

-- at 0, 1, 2, 4, 6, 8, 12, 16, 24 and 28: 32 bytes
unfoldable pub layout : Header → List ℕ
layout h =
    h.kind ∷ h.flag ∷ to_be_bytes w16 h.sender ++ to_be_bytes w16 h.addressee ++ to_be_bytes w16 h.last_index
    ++ to_be_bytes w32 h.home ++ to_be_bytes w32 h.serial ++ to_be_bytes w64 h.number
    ++ to_be_bytes w32 h.body_len ++ to_be_bytes w32 h.index

unfoldable pub frame : Piece → List ℕ
frame p = layout (header_of p) ++ body_of p.message.kind

-- ---- which pieces have one

-- there is a piece, and the header is as the table says
abbrev pub IsInTable : Piece → Type 0
IsInTable p = (1 ≤ p.pieces) × (is_shaped (shape_of (form_of p.message.kind)) (header_of p) ≡ true)

-- the numbers are within the types of their fields
abbrev pub FitsPart : Part → Type 0
FitsPart parts.Barrier = Unit {0}
FitsPart (parts.Send bytes) = Unit {0}
FitsPart parts.Receive = Unit {0}
FitsPart (parts.Sum value) = FitsSigned w64 value
FitsPart (parts.Min value) = FitsSigned w64 value
FitsPart (parts.Max value) = FitsSigned w64 value

abbrev pub FitsFold : Fold → Type 0
FitsFold folds.Barrier = Unit {0}
FitsFold (folds.Broadcast bytes) = Unit {0}
FitsFold (folds.Sum value) = FitsSigned w128 value
FitsFold (folds.Min value) = FitsSigned w64 value
FitsFold (folds.Max value) = FitsSigned w64 value
FitsFold folds.Mixed = Unit {0}

abbrev pub FitsValues : Kind → Type 0
FitsValues (Come round part) = FitsPart part
FitsValues (Result round fold) = FitsFold fold
FitsValues _ = Unit {0}

pub record Fits (p : Piece) : Type 0 where
  pub in_table : IsInTable p
  pub serial : (name_of p.message.kind).serial < 2 ^ 32
  pub number : number_of p.message.kind < 2 ^ 64
  pub values : FitsValues p.message.kind
