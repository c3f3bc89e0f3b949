-- Where only messages without bytes have a weight, what is under way weighs what the pieces in the boxes do.
use Rattle.std.proofs.Common.{◌≡◌, ◌≢◌, ℕ, Bool, true, false, List, [], ◌∷◌, length, refl, ap, sym, ◌∙◌, arith}
use Rattle.std.specs.List.{AllByRecursion}
use Rattle.crl_model.specs.declared.message.Message.{Message}
use Rattle.crl_model.specs.declared.message.Kind.{Kind}
use Rattle.crl_model.specs.declared.message.Kind.TheVariants as kind
use Rattle.crl_pieces.specs.Pieces.{cut, Cell, parts_of, left_from}
use Rattle.crl_protocol.specs.Parcels.{Piece, grant_with, return_with, load_of, piece_of, PartsGathered}
use Rattle.crl_protocol.specs.Mail.{Grant, Return, Release}
use Rattle.crl_deeds.specs.Tokens.{weigh, on_piece, weighs, NoMail}
use Rattle.crl_deeds.proofs.Laws.{weigh_append, weigh_took, parts_none, part_same}
use Rattle.crl_flight.specs.Flight.{Moves, still, moved, Under, left_of, lefts, IsUnder, IsFlight, messages_of}

weigh_moved : {A : Type 0} (f : A → ℕ) {xs ys : List A} → Moves xs ys → weigh f xs ≡ weigh f ys
weigh_moved f still = refl
weigh_moved f (moved x rest a b m) =
    let h = weigh_moved f m in
    let before = weigh_took f a in
    let after = weigh_took f b in omega arith

-- a message of one piece, which is in a box
one_left : (f : Message → ℕ) → NoMail f → (m : Message) (n : ℕ) (cells : List Cell) → length (parts_of cells) ≡ 1 → left_from (piece_of m n) 0 cells ≢ [] → weighs f (left_from (piece_of m n) 0 cells) ≡ f m
one_left f h m n [] e some = cc
one_left f h m n (c ∷ []) e some = go c.part c.came some
  where
    go : (part : List ℕ) (came : Bool) → left_from (piece_of m n) 0 (record { part = part; came = came } ∷ []) ≢ [] → weighs f (left_from (piece_of m n) 0 (record { part = part; came = came } ∷ [])) ≡ f m
    go part true some = absurd (some refl)
    go part false some = let same = part_same f h m.sender m.addressee part m.kind in omega arith
one_left f h m n (c ∷ d ∷ cells) e some = absurd (omega arith)

left_weighs : (f : Message → ℕ) → NoMail f → (from to : ℕ) (k : Kind) (n : ℕ) (cells : List Cell) → parts_of cells ≡ cut (load_of k) → left_from (piece_of (record { sender = from; addressee = to; kind = k }) n) 0 cells ≢ []
    → weighs f (left_from (piece_of (record { sender = from; addressee = to; kind = k }) n) 0 cells) ≡ f (record { sender = from; addressee = to; kind = k })
unfolding cut
left_weighs f h from to (kind.Grant name version x) n cells e some =
    parts_none f (record { sender = from; addressee = to; kind = kind.Grant name version x }) (λ part. h from to name (Grant version (grant_with part x))) n 0 cells ∙ sym (h from to name (Grant version x))
left_weighs f h from to (kind.Return name version x) n cells e some =
    parts_none f (record { sender = from; addressee = to; kind = kind.Return name version x }) (λ part. h from to name (Return version (return_with part x))) n 0 cells ∙ sym (h from to name (Return version x))
left_weighs f h from to (kind.Release name version x) n cells e some =
    parts_none f (record { sender = from; addressee = to; kind = kind.Release name version x }) (λ part. h from to name (Release version part)) n 0 cells ∙ sym (h from to name (Release version x))
left_weighs f h from to _ n cells e some = one_left f h _ n cells (ap length e) some

lefts_weigh : (f : Message → ℕ) → NoMail f → (us : List Under) → AllByRecursion IsUnder us → weighs f (lefts us) ≡ weigh f (messages_of us)
lefts_weigh f h [] all = refl
lefts_weigh f h (u ∷ us) all =
    let one : weighs f (left_of u) ≡ f u.message = left_weighs f h u.message.sender u.message.addressee u.message.kind (length u.cells) u.cells all.0.0 all.0.1 in
    let rest = lefts_weigh f h us all.1 in
    let both = weigh_append (on_piece f) (left_of u) (lefts us) in omega arith

pub flight_weighs : (f : Message → ℕ) → NoMail f → (us : List Under) (boxes : List Piece) (gathered : ℕ → PartsGathered) → IsFlight us boxes gathered → weigh f (messages_of us) ≡ weighs f boxes
flight_weighs f h us boxes gathered x = sym (lefts_weigh f h us x.each) ∙ weigh_moved (on_piece f) x.boxed
