-- The frame of a piece whose fields fit, and which has bytes, is bytes.
use Rattle.std.proofs.Common.{ℕ, zero, suc, true, false, None, Some, List, ◌++◌, arith}
use Rattle.std.specs.Int.{Width, byte_len, w16, w32, w64, w128, to_be_bytes, byte_at, bytes_high_first, cast_unsigned}
use Rattle.crl_model.specs.declared.collective.Part.TheVariants as part
use Rattle.crl_model.specs.declared.collective.Fold.TheVariants as fold
use Rattle.crl_model.specs.declared.message.Told.TheVariants as told
use Rattle.crl_model.specs.declared.message.DeleteTold.TheVariants as delete_told
use Rattle.crl_model.specs.declared.message.Granted.TheVariants.{Shared, Exclusive, Upgrade}
use Rattle.crl_model.specs.declared.message.Kind.{Kind}
use Rattle.crl_model.specs.declared.message.Kind.TheVariants as kind
use Rattle.crl_protocol.specs.Parcels.{Piece, load_of}
use Rattle.crl_deeds.proofs.Laws.{all_append}
use Rattle.crl_wire.specs.Table.{shape_of}
use Rattle.crl_wire.specs.Frame.{form_of, body_of, layout, frame, header_of}
use Rattle.crl_frames.specs.Frames.{AreBytes, IsByte, HasByteFrame}
use Rattle.crl_frames.proofs.Loads.{LoadBytes}
use Rattle.crl_frames.proofs.Values.{ValueFits}

-- The bytes of a number.
byte_below : (k n : ℕ) → IsByte (byte_at k n)
byte_below zero n = omega arith
byte_below (suc k) n = omega arith

spelled_in : (k n : ℕ) → AreBytes (bytes_high_first k n)
spelled_in zero n = tt
spelled_in (suc k) n = (byte_below k n, spelled_in k n)

pub number_bytes : (w : Width) (n : ℕ) → AreBytes (to_be_bytes w n)
number_bytes w n = spelled_in (byte_len w) n

body_bytes : (k : Kind) → AreBytes (load_of k) → ValueFits k → AreBytes (body_of k)
body_bytes (kind.Grant name version (Shared bytes)) b v = b
body_bytes (kind.Grant name version (Exclusive bytes)) b v = b
body_bytes (kind.Grant name version Upgrade) b v = tt
body_bytes (kind.Return name version None) b v = tt
body_bytes (kind.Return name version (Some bytes)) b v = b
body_bytes (kind.Release name version bytes) b v = b
body_bytes (kind.Come round (part.Send bytes)) b v = v.1
body_bytes (kind.Come round (part.Sum x)) b v = number_bytes w64 (cast_unsigned w64 x)
body_bytes (kind.Come round (part.Min x)) b v = number_bytes w64 (cast_unsigned w64 x)
body_bytes (kind.Come round (part.Max x)) b v = number_bytes w64 (cast_unsigned w64 x)
body_bytes (kind.Come round part.Barrier) b v = tt
body_bytes (kind.Come round part.Receive) b v = tt
body_bytes (kind.Result round (fold.Broadcast bytes)) b v = v.1
body_bytes (kind.Result round (fold.Sum x)) b v = number_bytes w128 (cast_unsigned w128 x)
body_bytes (kind.Result round (fold.Min x)) b v = number_bytes w64 (cast_unsigned w64 x)
body_bytes (kind.Result round (fold.Max x)) b v = number_bytes w64 (cast_unsigned w64 x)
body_bytes (kind.Result round fold.Barrier) b v = tt
body_bytes (kind.Result round fold.Mixed) b v = tt
body_bytes _ b v = tt

-- Kind and flag.
abbrev Codes : Kind → Type 0
Codes k = IsByte (shape_of (form_of k)).kind × IsByte (shape_of (form_of k)).flag

codes : (k : Kind) → Codes k
codes (kind.InfoAsk name) = (omega arith, omega arith)
codes (kind.InfoIs name (told.Live size)) = (omega arith, omega arith)
codes (kind.InfoIs name told.Unknown) = (omega arith, omega arith)
codes (kind.InfoIs name told.Deleted) = (omega arith, omega arith)
codes (kind.Ask name true have) = (omega arith, omega arith)
codes (kind.Ask name false have) = (omega arith, omega arith)
codes (kind.Grant name version (Shared bytes)) = (omega arith, omega arith)
codes (kind.Grant name version (Exclusive bytes)) = (omega arith, omega arith)
codes (kind.Grant name version Upgrade) = (omega arith, omega arith)
codes (kind.Recall name version) = (omega arith, omega arith)
codes (kind.Yield name version) = (omega arith, omega arith)
codes (kind.Return name version None) = (omega arith, omega arith)
codes (kind.Return name version (Some bytes)) = (omega arith, omega arith)
codes (kind.Release name version bytes) = (omega arith, omega arith)
codes (kind.DeleteAsk name) = (omega arith, omega arith)
codes (kind.DeleteIs name delete_told.Done) = (omega arith, omega arith)
codes (kind.DeleteIs name delete_told.Unknown) = (omega arith, omega arith)
codes (kind.DeleteIs name delete_told.Deleted) = (omega arith, omega arith)
codes (kind.Purge name) = (omega arith, omega arith)
codes (kind.Purged name) = (omega arith, omega arith)
codes (kind.Come round part.Barrier) = (omega arith, omega arith)
codes (kind.Come round (part.Send bytes)) = (omega arith, omega arith)
codes (kind.Come round part.Receive) = (omega arith, omega arith)
codes (kind.Come round (part.Sum x)) = (omega arith, omega arith)
codes (kind.Come round (part.Min x)) = (omega arith, omega arith)
codes (kind.Come round (part.Max x)) = (omega arith, omega arith)
codes (kind.Result round fold.Barrier) = (omega arith, omega arith)
codes (kind.Result round (fold.Broadcast bytes)) = (omega arith, omega arith)
codes (kind.Result round (fold.Sum x)) = (omega arith, omega arith)
codes (kind.Result round (fold.Min x)) = (omega arith, omega arith)
codes (kind.Result round (fold.Max x)) = (omega arith, omega arith)
codes (kind.Result round fold.Mixed) = (omega arith, omega arith)

in_a_row : (a b c d e f g h : List ℕ) → AreBytes a → AreBytes b → AreBytes c → AreBytes d → AreBytes e → AreBytes f → AreBytes g → AreBytes h → AreBytes (a ++ b ++ c ++ d ++ e ++ f ++ g ++ h)
in_a_row a b c d e f g h r s t u v w x y =
    all_append IsByte (a ++ b ++ c ++ d ++ e ++ f ++ g) h (all_append IsByte (a ++ b ++ c ++ d ++ e ++ f) g (all_append IsByte (a ++ b ++ c ++ d ++ e) f (all_append IsByte (a ++ b ++ c ++ d) e (all_append IsByte (a ++ b ++ c) d (all_append IsByte (a ++ b) c (all_append IsByte a b r s) t) u) v) w) x) y

layout_bytes : (p : Piece) → AreBytes (layout (header_of p))
unfolding layout
layout_bytes p =
    let c = codes p.message.kind in
    let h = header_of p in
    let row = in_a_row (to_be_bytes w16 h.sender) (to_be_bytes w16 h.addressee) (to_be_bytes w16 h.last_index) (to_be_bytes w32 h.home) (to_be_bytes w32 h.serial) (to_be_bytes w64 h.number) (to_be_bytes w32 h.body_len)
    (to_be_bytes w32 h.index) (number_bytes w16 h.sender) (number_bytes w16 h.addressee) (number_bytes w16 h.last_index) (number_bytes w32 h.home) (number_bytes w32 h.serial) (number_bytes w64 h.number)
    (number_bytes w32 h.body_len) (number_bytes w32 h.index) in (c.0, (c.1, row))

pub frame_bytes : (p : Piece) → LoadBytes p → ValueFits p.message.kind → HasByteFrame p
unfolding frame
frame_bytes p b v = all_append IsByte (layout (header_of p)) (body_of p.message.kind) (layout_bytes p) (body_bytes p.message.kind b v)
