-- What the header of each form of message is: the table, and what its words mean.
use Rattle.std.specs.Prelude.{ℕ, ◌==◌, nat_lt, nat_le, Bool, true, not, ◌&&◌, ◌||◌, List, [], ◌∷◌}
use Rattle.crl_model.specs.declared.TheConstants.{NODE_LIMIT, REGION_LIMIT, BROADCAST_LIMIT}
use Rattle.crl_model.specs.declared.message.DeleteTold.TheVariants as told
use Rattle.crl_pieces.specs.declared.TheConstants.{PIECE_LEN, PIECES_LIMIT}
use Rattle.crl_wire.specs.declared.form.Form.{Form}
use Rattle.crl_wire.specs.declared.form.Form.TheVariants.{InfoAsk, InfoIs, AskRead, AskWrite, Grant, Recall, ReturnPlain, ReturnBytes, DeleteAsk, DeleteIs, Purge, Purged, Come, Result, Yield, Release}
use Rattle.crl_wire.specs.declared.form.ToldForm.TheVariants as tolds
use Rattle.crl_wire.specs.declared.form.GrantedForm.TheVariants as granteds
use Rattle.crl_wire.specs.declared.form.PartForm.TheVariants as parts
use Rattle.crl_wire.specs.declared.form.FoldForm.TheVariants as folds
use Rattle.crl_wire.specs.declared.form.Home.{Home}
use Rattle.crl_wire.specs.declared.form.Home.TheVariants.{Sender, Addressee, ToZero, FromZero}
use Rattle.crl_wire.specs.declared.form.Number.{Number}
use Rattle.crl_wire.specs.declared.form.Number.TheVariants.{Zero, Any, FromOne, Size}
use Rattle.crl_wire.specs.declared.form.Body.{Body}
use Rattle.crl_wire.specs.declared.form.Body.TheVariants.{Empty, Region, Broadcast, Value, Total}
use Rattle.crl_wire.specs.declared.form.Shape.{Shape}
use Rattle.crl_wire.specs.declared.header.Header.{Header}

-- ---- the table

abbrev pub cells : ℕ → ℕ → Home → Number → Body → Shape
cells kind flag home number body = record { kind = kind; flag = flag; home = home; number = number; body = body }

-- kind, flag, whose the name is, the number, the body
abbrev pub shape_of : Form → Shape
shape_of InfoAsk = cells 1 0 Addressee Zero Empty
shape_of (InfoIs tolds.Live) = cells 2 0 Sender Size Empty
shape_of (InfoIs tolds.Unknown) = cells 2 1 Sender Zero Empty
shape_of (InfoIs tolds.Deleted) = cells 2 2 Sender Zero Empty
shape_of AskRead = cells 3 0 Addressee Zero Empty
shape_of AskWrite = cells 3 1 Addressee Any Empty
shape_of (Grant granteds.Shared) = cells 4 0 Sender FromOne Region
shape_of (Grant granteds.Exclusive) = cells 4 1 Sender FromOne Region
shape_of (Grant granteds.Upgrade) = cells 4 2 Sender FromOne Empty
shape_of Recall = cells 5 0 Sender FromOne Empty
shape_of ReturnPlain = cells 6 0 Addressee FromOne Empty
shape_of ReturnBytes = cells 6 1 Addressee FromOne Region
shape_of DeleteAsk = cells 7 0 Addressee Zero Empty
shape_of (DeleteIs told.Done) = cells 8 0 Sender Zero Empty
shape_of (DeleteIs told.Unknown) = cells 8 1 Sender Zero Empty
shape_of (DeleteIs told.Deleted) = cells 8 2 Sender Zero Empty
shape_of Purge = cells 9 0 Sender Zero Empty
shape_of Purged = cells 10 0 Addressee Zero Empty
shape_of (Come parts.Barrier) = cells 11 0 ToZero FromOne Empty
shape_of (Come parts.Send) = cells 11 1 ToZero FromOne Broadcast
shape_of (Come parts.Receive) = cells 11 2 ToZero FromOne Empty
shape_of (Come parts.Sum) = cells 11 3 ToZero FromOne Value
shape_of (Come parts.Min) = cells 11 4 ToZero FromOne Value
shape_of (Come parts.Max) = cells 11 5 ToZero FromOne Value
shape_of (Result folds.Barrier) = cells 12 0 FromZero FromOne Empty
shape_of (Result folds.Broadcast) = cells 12 1 FromZero FromOne Broadcast
shape_of (Result folds.Sum) = cells 12 3 FromZero FromOne Total
shape_of (Result folds.Min) = cells 12 4 FromZero FromOne Value
shape_of (Result folds.Max) = cells 12 5 FromZero FromOne Value
shape_of (Result folds.Mixed) = cells 12 6 FromZero FromOne Empty
shape_of Yield = cells 13 0 Sender FromOne Empty
shape_of Release = cells 14 0 Addressee FromOne Region

abbrev pub all_forms : List Form
all_forms = InfoAsk ∷ InfoIs tolds.Live ∷ InfoIs tolds.Unknown ∷ InfoIs tolds.Deleted ∷ AskRead ∷ AskWrite
    ∷ Grant granteds.Shared ∷ Grant granteds.Exclusive ∷ Grant granteds.Upgrade ∷ Recall ∷ ReturnPlain ∷ ReturnBytes
    ∷ DeleteAsk ∷ DeleteIs told.Done ∷ DeleteIs told.Unknown ∷ DeleteIs told.Deleted ∷ Purge ∷ Purged
    ∷ Come parts.Barrier ∷ Come parts.Send ∷ Come parts.Receive ∷ Come parts.Sum ∷ Come parts.Min ∷ Come parts.Max
    ∷ Result folds.Barrier ∷ Result folds.Broadcast ∷ Result folds.Sum ∷ Result folds.Min ∷ Result folds.Max ∷ Result folds.Mixed
    ∷ Yield ∷ Release ∷ []

-- a kind is 1 to 14
abbrev pub is_kind : ℕ → Bool
is_kind kind = nat_le 1 kind && nat_le kind 14

-- ---- what the words of the table mean

abbrev pub within : ℕ → ℕ → Bool
within limit n = nat_le 1 n && nat_le n limit

abbrev pub is_number : Number → ℕ → Bool
is_number Zero n = n == 0
is_number Any n = true
is_number FromOne n = nat_le 1 n
is_number Size n = within REGION_LIMIT n

abbrev pub is_len : Body → ℕ → Bool
is_len Empty len = len == 0
is_len Region len = within PIECE_LEN len
is_len Broadcast len = within BROADCAST_LIMIT len
is_len Value len = len == 8
is_len Total len = len == 16

-- a name has a serial from 1; where there is none its bytes are 0
abbrev pub is_home : Home → Header → Bool
is_home Sender h = (h.home == h.sender) && nat_le 1 h.serial
is_home Addressee h = (h.home == h.addressee) && nat_le 1 h.serial
is_home ToZero h = (h.home == 0) && (h.serial == 0) && (h.addressee == 0)
is_home FromZero h = (h.home == 0) && (h.serial == 0) && (h.sender == 0)

-- two nodes that differ
abbrev pub are_ends : ℕ → ℕ → Bool
are_ends sender addressee = nat_lt sender NODE_LIMIT && nat_lt addressee NODE_LIMIT && not (sender == addressee)

-- The bytes of a region come in pieces, and only the last may have fewer bytes than a whole one. All else is one piece.
abbrev pub is_place : Body → Header → Bool
is_place Region h = nat_lt h.last_index PIECES_LIMIT && nat_le h.index h.last_index && ((h.index == h.last_index) || (h.body_len == PIECE_LEN))
is_place _ h = (h.last_index == 0) && (h.index == 0)

-- the header is as the table says, but for kind and flag
abbrev pub is_shaped : Shape → Header → Bool
is_shaped shape h = are_ends h.sender h.addressee && is_home shape.home h && is_number shape.number h.number && is_len shape.body h.body_len && is_place shape.body h
