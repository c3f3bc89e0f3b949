-- A piece in a box is one of those that its message is cut into.
use Rattle.std.proofs.Common.{◌≡◌, ℕ, ◌+◌, None, Some, Option, List, [], ◌∷◌, length, refl, ap, sym, ◌∙◌, subst, arith}
use Rattle.std.specs.List.{AllByRecursion}
use Rattle.std.proofs.lemmas.Bool.{cond_both, and_parts, eqb-true}
use Rattle.crl_model.specs.declared.name.Name.{Name}
use Rattle.crl_model.specs.declared.event.Event.{Event}
use Rattle.crl_model.specs.declared.message.Told.TheVariants as told
use Rattle.crl_model.specs.declared.message.Granted.TheVariants.{Shared, Exclusive, Upgrade}
use Rattle.crl_model.specs.declared.message.Message.{Message}
use Rattle.crl_model.specs.declared.message.Kind.{Kind}
use Rattle.crl_model.specs.declared.message.Kind.TheVariants as kind
use Rattle.crl_pieces.specs.Pieces.{count, piece_size, Cell, parts_of, left_from}
use Rattle.crl_pieces.proofs.Laws.{HaveSizes, cut_sizes, length_cut, length_cells}
use Rattle.crl_protocol.specs.Parcels.{Key, load_of, with_load, piece_of, key_in}
use Rattle.crl_protocol.specs.Home.{Home}
use Rattle.crl_protocol.specs.Remote.{Remote}
use Rattle.crl_protocol.specs.Node.{Node, home_of}
use Rattle.crl_protocol.specs.World.{new_world, world_of, IsRunFrom}
use Rattle.crl_deeds.proofs.Laws.{all_append}
use Rattle.crl_flight.specs.Flight.{Under, IsUnder, left_of, lefts, messages_of}
use Rattle.crl_safety.specs.Tests.{MeetsTest}
use Rattle.crl_regions.specs.MailFits.{Tables, HasSize, FitsTables, MailFits}
use Rattle.crl_regions.specs.View.{table_of, tables_of}
use Rattle.crl_regions.proofs.Laws.{messages_meet, sizes_known, all_by_took}
use Rattle.crl_framed.specs.Framed.{InEachBox, IsRegionSize, FitsSize, SizeFits, PieceIsPlaced, PiecesInEachBox}
use Rattle.crl_framed.proofs.Ends.{all_boxed}
use Rattle.crl_framed.proofs.Homes.{ranges_in_runs}
use Rattle.crl_framed.proofs.Regions.{all_moved}
use Rattle.crl_framed.proofs.Runs.{Reached, reached}
use Rattle.crl_rounds.proofs.Laws.{all_map}

nothing_cut : (size index : ℕ) → size ≡ 0 → 0 ≡ piece_size size index
nothing_cut size index e = omega arith

-- A piece has the bytes that it was cut to.
part_length : (k : Kind) (part : List ℕ) (size index : ℕ) → size ≡ length (load_of k) → length part ≡ piece_size size index → length (load_of (with_load part k)) ≡ piece_size size index
part_length (kind.Grant name version (Shared bytes)) part size index e l = l
part_length (kind.Grant name version (Exclusive bytes)) part size index e l = l
part_length (kind.Grant name version Upgrade) part size index e l = nothing_cut size index e
part_length (kind.Return name version None) part size index e l = nothing_cut size index e
part_length (kind.Return name version (Some bytes)) part size index e l = l
part_length (kind.Release name version bytes) part size index e l = l
part_length _ part size index e l = nothing_cut size index e

no_load : (from : ℕ) (k : Kind) (part : List ℕ) → key_in from (with_load part k) ≡ None → length (load_of k) ≡ 0
no_load from (kind.Grant name version (Shared bytes)) part e = cc
no_load from (kind.Grant name version (Exclusive bytes)) part e = cc
no_load from (kind.Grant name version Upgrade) part e = refl
no_load from (kind.Return name version None) part e = refl
no_load from (kind.Return name version (Some bytes)) part e = cc
no_load from (kind.Release name version bytes) part e = cc
no_load from _ part e = refl

-- of a message with bytes that travel in pieces
abbrev pub LoadFits : Kind → Type 0
LoadFits (kind.Grant name version (Shared bytes)) = IsRegionSize (length bytes)
LoadFits (kind.Grant name version (Exclusive bytes)) = IsRegionSize (length bytes)
LoadFits (kind.Return name version (Some bytes)) = IsRegionSize (length bytes)
LoadFits (kind.Release name version bytes) = IsRegionSize (length bytes)
LoadFits _ = Unit {0}

load_range : (from : ℕ) (k : Kind) (part : List ℕ) (key : Key) → key_in from (with_load part k) ≡ Some key → LoadFits k → IsRegionSize (length (load_of k))
load_range from (kind.Grant name version (Shared bytes)) part key e l = l
load_range from (kind.Grant name version (Exclusive bytes)) part key e l = l
load_range from (kind.Grant name version Upgrade) part key e l = absurd (cc)
load_range from (kind.Return name version None) part key e l = absurd (cc)
load_range from (kind.Return name version (Some bytes)) part key e l = l
load_range from (kind.Release name version bytes) part key e l = l
load_range from _ part key e l = absurd (cc)

cells_placed : (m : Message) (size n k : ℕ) (cells : List Cell) → LoadFits m.kind → size ≡ length (load_of m.kind) → n ≡ count size → k + length cells ≡ n → HaveSizes size k (parts_of cells) → AllByRecursion PieceIsPlaced (left_from (piece_of m n) k cells)
cells_placed m size n k [] f e c l h = tt
cells_placed m size n k (x ∷ cells) f e c l h =
    let rest = cells_placed m size n (k + 1) cells f e c (omega arith) h.1 in
    cond_both x.came _ _ (AllByRecursion PieceIsPlaced) (λ w. rest)
    (λ w. (
      record {
        size = size;
        is = record { pieces = c; index = omega arith; bytes = part_length m.kind x.part size k e h.0 };
        none = λ y. e ∙ no_load m.sender m.kind x.part y;
        some = λ key y. subst IsRegionSize (sym e) (load_range m.sender m.kind x.part key y f);
      },
      rest,
    ))

under_placed : (u : Under) → LoadFits u.message.kind → IsUnder u → AllByRecursion PieceIsPlaced (left_of u)
under_placed u f k =
    let load = load_of u.message.kind in
    let cells : length u.cells ≡ count (length load) = sym (length_cells u.cells) ∙ ap (λ (ps : List (List ℕ)). length ps) k.0 ∙ length_cut load in
    cells_placed u.message (length load) (length u.cells) 0 u.cells f refl cells (omega arith) (subst (HaveSizes (length load) 0) (sym k.0) (cut_sizes load))

all_placed : (us : List Under) → AllByRecursion (λ (m : Message). LoadFits m.kind) (messages_of us) → AllByRecursion IsUnder us → AllByRecursion PieceIsPlaced (lefts us)
all_placed [] f h = tt
all_placed (u ∷ us) f h = all_append PieceIsPlaced (left_of u) (lefts us) (under_placed u f.0 h.0) (all_placed us f.1 h.1)

-- The bytes of a message under way are as many as its region has.
table_range : (count capacity : ℕ) (run : List Event) → IsRunFrom (new_world count capacity) run → (q : Name) (h : Home) → table_of q (world_of count capacity run) ≡ Some h → IsRegionSize h.size
table_range count capacity run r q h e = let t = (ranges_in_runs count capacity run r q.home).0 q h e in (t.least, t.most)

home_range : (count capacity : ℕ) (run : List Event) → IsRunFrom (new_world count capacity) run → (i : ℕ) (q : Name) (h : Home) → home_of ((world_of count capacity run).nodes i) q ≡ Some h → IsRegionSize h.size
home_range count capacity run r i q h e = let t = (ranges_in_runs count capacity run r i).0 q h e in (t.least, t.most)

pub told_range : (size : ℕ) (o : Option Home) → HasSize size o → ((h : Home) → o ≡ Some h → IsRegionSize h.size) → IsRegionSize size
told_range size o t range = subst IsRegionSize t.2 (range t.0 t.1)

load_fits : (n : Node) (from : ℕ) (k : Kind) → MeetsTest n from k → ((q : Name) (x : Remote) → n.remotes q ≡ Some x → IsRegionSize x.size) → ((q : Name) (h : Home) → home_of n q ≡ Some h → IsRegionSize h.size) → LoadFits k
load_fits n from (kind.Grant name version (Shared bytes)) t sides homes = subst IsRegionSize (sym (eqb-true _ _ (and_parts _ _ t.2).1)) (sides name t.0 t.1)
load_fits n from (kind.Grant name version (Exclusive bytes)) t sides homes = subst IsRegionSize (sym (eqb-true _ _ (and_parts _ _ t.2).1)) (sides name t.0 t.1)
load_fits n from (kind.Grant name version Upgrade) t sides homes = tt
load_fits n from (kind.Return name version None) t sides homes = tt
load_fits n from (kind.Return name version (Some bytes)) t sides homes = subst IsRegionSize (sym (eqb-true _ _ (and_parts _ _ t.2).1)) (homes name t.0 t.1)
load_fits n from (kind.Release name version bytes) t sides homes = subst IsRegionSize (sym (eqb-true _ _ t.2)) (homes name t.0 t.1)
load_fits n from _ t sides homes = tt

loads_fit : (count capacity : ℕ) (run : List Event) → IsRunFrom (new_world count capacity) run → (x : Reached (world_of count capacity run)) → AllByRecursion (λ (m : Message). LoadFits m.kind) (messages_of x.under)
loads_fit count capacity run r x = all_by_took (λ (m : Message). LoadFits m.kind) (messages_of x.under)
    (λ m rest took. load_fits ((world_of count capacity run).nodes m.addressee) m.sender m.kind (messages_meet count capacity run r x.under x.arrays x.hold m rest took)
    (λ q y e. told_range y.size _ ((sizes_known count capacity run r).record_of m.addressee q y e) (table_range count capacity run r q)) (home_range count capacity run r m.addressee))

pub pieces_placed : PiecesInEachBox PieceIsPlaced
pieces_placed count capacity run r =
    let x = reached count capacity run r.enabled in all_moved PieceIsPlaced x.hold.under_way.boxed (all_placed x.under (loads_fit count capacity run r.enabled x) x.hold.under_way.each)

-- A size that is told.
size_of_kind : (tables : Tables) (from to : ℕ) (k : Kind) → ((q : Name) (h : Home) → tables q ≡ Some h → IsRegionSize h.size) → FitsTables tables from to k → FitsSize k
size_of_kind tables from to (kind.InfoIs name (told.Live size)) range t = told_range size (tables name) t (range name)
size_of_kind tables from to (kind.InfoIs name told.Unknown) range t = tt
size_of_kind tables from to (kind.InfoIs name told.Deleted) range t = tt
size_of_kind tables from to _ range t = tt

size_part : (k : Kind) (part : List ℕ) → FitsSize k → FitsSize (with_load part k)
size_part (kind.Grant name version granted) part h = h
size_part (kind.Return name version bytes) part h = h
size_part (kind.Release name version bytes) part h = h
size_part k part h = h

pub sizes_fit : InEachBox SizeFits
sizes_fit count capacity run r =
    let w = world_of count capacity run in
    let x = reached count capacity run r.enabled in
    all_boxed SizeFits (λ m part h. size_part m.kind part h) w x
    (all_map (MailFits (tables_of w)) SizeFits (λ m t. size_of_kind (tables_of w) m.sender m.addressee m.kind (table_range count capacity run r.enabled) t) (messages_of x.under) x.hold.mail)
