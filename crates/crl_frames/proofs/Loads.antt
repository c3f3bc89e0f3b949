-- In every run whose calls bring bytes each piece in a box has bytes.
use Rattle.std.proofs.Common.{◌≡◌, ℕ, ◌+◌, None, Some, List, [], ◌∷◌, length, ap, sym, ◌∙◌, subst}
use Rattle.std.specs.List.{AllByRecursion}
use Rattle.std.proofs.lemmas.Bool.{cond_both}
use Rattle.crl_model.specs.declared.name.Name.{Name}
use Rattle.crl_model.specs.declared.message.Granted.TheVariants.{Shared, Exclusive, Upgrade}
use Rattle.crl_model.specs.declared.message.Message.{Message}
use Rattle.crl_model.specs.declared.message.Kind.{Kind}
use Rattle.crl_model.specs.declared.message.Kind.TheVariants as kind
use Rattle.crl_pieces.specs.Pieces.{join, Cell, parts_of, left_from}
use Rattle.crl_pieces.proofs.Laws.{join_cut}
use Rattle.crl_protocol.specs.Home.{Home}
use Rattle.crl_protocol.specs.Mail.{Mail, Grant, Return, Release}
use Rattle.crl_protocol.specs.Parcels.{Piece, load_of, with_load, piece_of}
use Rattle.crl_protocol.specs.Places.{Took}
use Rattle.crl_protocol.specs.World.{World, world_of}
use Rattle.crl_deeds.proofs.Laws.{all_append, all_took}
use Rattle.crl_flight.specs.Flight.{Under, IsUnder, left_of, lefts, messages_of}
use Rattle.crl_regions.specs.MailFits.{Tables, FitsTables, MailFits}
use Rattle.crl_regions.specs.View.{tables_of, mail_in, other_end, flown}
use Rattle.crl_framed.proofs.Laws.{all_moved, found, about_self}
use Rattle.crl_frames.specs.Frames.{IsByte, AreBytes, OfEachPiece}
use Rattle.crl_frames.proofs.Copies.{MailBytes}
use Rattle.crl_frames.proofs.Regions.{FlyingBytes}
use Rattle.crl_frames.proofs.Runs.{Written, written}
use Rattle.crl_regions.proofs.Laws.{all_by_took, all_parts}

-- A message about a region that is there.
abbrev MailHas : Tables → Kind → Type 0
MailHas tables k = (q : Name) (h : Home) (mail : Mail) → tables q ≡ Some h → mail_in q k ≡ Some mail → MailBytes mail

load_bytes : (tables : Tables) (from to : ℕ) (k : Kind) → FitsTables tables from to k → MailHas tables k → AreBytes (load_of k)
load_bytes tables from to (kind.Grant name version (Shared bytes)) t b = b name t.2.0 (Grant version (Shared bytes)) t.2.1 (about_self name _)
load_bytes tables from to (kind.Grant name version (Exclusive bytes)) t b = b name t.2.0 (Grant version (Exclusive bytes)) t.2.1 (about_self name _)
load_bytes tables from to (kind.Grant name version Upgrade) t b = tt
load_bytes tables from to (kind.Return name version None) t b = tt
load_bytes tables from to (kind.Return name version (Some bytes)) t b = b name t.2.0 (Return version (Some bytes)) t.2.1 (about_self name _)
load_bytes tables from to (kind.Release name version bytes) t b = b name t.2.0 (Release version bytes) t.2.1 (about_self name _)
load_bytes tables from to _ t b = tt

mail_has : (w : World) (x : Written w) (m : Message) (rest : List Message) → Took m (messages_of x.under) rest → MailHas (tables_of w) m.kind
mail_has w x m rest took q h mail there e =
    found FlyingBytes q (record { node = other_end q m; mail = mail }) took (ap (λ o. flown (other_end q m) o) e) (x.region q h there).flight

messages_bytes : (w : World) (x : Written w) → AllByRecursion (λ (m : Message). AreBytes (load_of m.kind)) (messages_of x.under)
messages_bytes w x = all_by_took (λ (m : Message). AreBytes (load_of m.kind)) (messages_of x.under)
    (λ m rest took. load_bytes (tables_of w) m.sender m.addressee m.kind (all_took (MailFits (tables_of w)) took x.hold.mail).0 (mail_has w x m rest took))

-- Its pieces.

join_bytes : (parts : List (List ℕ)) → AreBytes (join parts) → AllByRecursion AreBytes parts
join_bytes [] h = tt
join_bytes (p ∷ parts) h = let k = all_parts IsByte p (join parts) h in (k.0, join_bytes parts k.1)

part_bytes : (k : Kind) (part : List ℕ) → AreBytes part → AreBytes (load_of (with_load part k))
part_bytes (kind.Grant name version (Shared bytes)) part h = h
part_bytes (kind.Grant name version (Exclusive bytes)) part h = h
part_bytes (kind.Grant name version Upgrade) part h = tt
part_bytes (kind.Return name version None) part h = tt
part_bytes (kind.Return name version (Some bytes)) part h = h
part_bytes (kind.Release name version bytes) part h = h
part_bytes _ part h = tt

abbrev pub LoadBytes : Piece → Type 0
LoadBytes p = AreBytes (load_of p.message.kind)

cells_bytes : (m : Message) (n k : ℕ) (cells : List Cell) → AllByRecursion AreBytes (parts_of cells) → AllByRecursion LoadBytes (left_from (piece_of m n) k cells)
cells_bytes m n k [] h = tt
cells_bytes m n k (c ∷ cells) h =
    let rest = cells_bytes m n (k + 1) cells h.1 in cond_both c.came _ _ (AllByRecursion LoadBytes) (λ w. rest) (λ w. (part_bytes m.kind c.part h.0, rest))

under_bytes : (u : Under) → AreBytes (load_of u.message.kind) → IsUnder u → AllByRecursion LoadBytes (left_of u)
under_bytes u b k =
    let whole = ap join k.0 ∙ join_cut (load_of u.message.kind) in cells_bytes u.message (length u.cells) 0 u.cells (join_bytes (parts_of u.cells) (subst AreBytes (sym whole) b))

all_bytes : (us : List Under) → AllByRecursion (λ (m : Message). AreBytes (load_of m.kind)) (messages_of us) → AllByRecursion IsUnder us → AllByRecursion LoadBytes (lefts us)
all_bytes [] b h = tt
all_bytes (u ∷ us) b h = all_append LoadBytes (left_of u) (lefts us) (under_bytes u b.0 h.0) (all_bytes us b.1 h.1)

pub loads_are_bytes : OfEachPiece LoadBytes
loads_are_bytes count capacity run r =
    let x = written count capacity run r.is_run.enabled r.brought in
    all_moved LoadBytes x.hold.under_way.boxed (all_bytes x.under (messages_bytes (world_of count capacity run) x) x.hold.under_way.each)
