-- In every run each message under way, and each piece in a box, goes from a node of the world to another.
use Rattle.std.proofs.Common.{◌≢◌, ℕ, zero, suc, ◌+◌, Bool, true, false, List, [], ◌∷◌, ◌++◌, length, if◌then◌else◌, refl, subst}
use Rattle.std.specs.List.{AllByRecursion}
use Rattle.crl_model.specs.declared.message.Message.{Message}
use Rattle.crl_pieces.specs.Pieces.{Cell, left_from}
use Rattle.crl_protocol.specs.Parcels.{Piece, piece_of}
use Rattle.crl_protocol.specs.World.{World, world_of, boxes_from}
use Rattle.crl_flight.specs.Flight.{Moves, still, moved, Under, left_of, lefts, IsUnder, IsFlight, messages_of}
use Rattle.crl_flight.proofs.Laws.{none_boxed, all_put}
use Rattle.crl_regions.specs.Addresses.{GoesToOther}
use Rattle.crl_regions.specs.Reached.{AfterRuns, PiecesGoToOthers, MessagesGoToOthers, BoxesGoToOthers, EmptyBoxesAreQuiet}
use Rattle.crl_regions.proofs.Addressed.{PlainSent, Addressed}
use Rattle.crl_regions.proofs.Runs.{nodes_hold}
use Rattle.crl_deeds.proofs.Laws.{all_append, all_took}
use Rattle.crl_deeds.specs.Turns.{HeldIn, HeldOut}

abbrev ToOther : ℕ → Piece → Type 0
ToOther count p = GoesToOther count p.message

all_of : {A : Type 0} (P Q : A → Type 0) (xs : List A) → ((x : A) → P x → Q x) → AllByRecursion P xs → AllByRecursion Q xs
all_of P Q [] f h = tt
all_of P Q (x ∷ xs) f h = (f x h.0, all_of P Q xs f h.1)

boxes_all : (w : World) → Addressed w → (i k : ℕ) → AllByRecursion (ToOther w.count) (boxes_from i k w.nodes)
boxes_all w h i zero = tt
boxes_all w h i (suc k) =
    let n = w.nodes i in
    all_append (ToOther w.count) (n.inbox ++ n.outbox) (boxes_from (i + 1) k w.nodes)
    (all_append (ToOther w.count) n.inbox n.outbox (all_of (HeldIn (PlainSent w.count) i) (ToOther w.count) n.inbox (λ p x. x.0.1.0) (h i).inbox)
    (all_of (HeldOut (PlainSent w.count)) (ToOther w.count) n.outbox (λ p x. x.1.0) (h i).outbox))
    (boxes_all w h (i + 1) k)

all_moved : {A : Type 0} (P : A → Type 0) {xs ys : List A} → Moves xs ys → AllByRecursion P ys → AllByRecursion P xs
all_moved P still h = h
all_moved P (moved x rest a b m) h = let k = all_took P b (all_moved P m h) in all_put P a k.0 k.1

pub all_parts : {A : Type 0} (P : A → Type 0) (xs ys : List A) → AllByRecursion P (xs ++ ys) → AllByRecursion P xs × AllByRecursion P ys
all_parts P [] ys h = (tt, h)
all_parts P (x ∷ xs) ys h = let k = all_parts P xs ys h.1 in ((h.0, k.0), k.1)

goes_as : (count : ℕ) (m : Message) (n k : ℕ) (cells : List Cell) → AllByRecursion (ToOther count) (left_from (piece_of m n) k cells) → left_from (piece_of m n) k cells ≢ [] → GoesToOther count m
goes_as count m n k [] h some = absurd (some refl)
goes_as count m n k (c ∷ cells) h some = go c.came h some (λ x y. goes_as count m n (k + 1) cells x y)
  where
    go : (b : Bool) → AllByRecursion (ToOther count) (if b then left_from (piece_of m n) (k + 1) cells else piece_of m n k c.part ∷ left_from (piece_of m n) (k + 1) cells)
        → ◌≢◌ {A = List Piece} (if b then left_from (piece_of m n) (k + 1) cells else piece_of m n k c.part ∷ left_from (piece_of m n) (k + 1) cells) []
        → (AllByRecursion (ToOther count) (left_from (piece_of m n) (k + 1) cells) → left_from (piece_of m n) (k + 1) cells ≢ [] → GoesToOther count m) → GoesToOther count m
    go true x y r = r x y
    go false x y r = record { sender = x.0.sender; addressee = x.0.addressee; other = x.0.other }

under_all : (count : ℕ) (us : List Under) → AllByRecursion IsUnder us → AllByRecursion (ToOther count) (lefts us) → AllByRecursion (GoesToOther count) (messages_of us)
under_all count [] h p = tt
under_all count (u ∷ us) h p =
    let k = all_parts (ToOther count) (left_of u) (lefts us) p in (goes_as count u.message (length u.cells) 0 u.cells k.0 h.0.1, under_all count us h.1 k.1)

pub pieces_to_others : AfterRuns PiecesGoToOthers
pieces_to_others count capacity run r = let w = world_of count capacity run in boxes_all w (nodes_hold count capacity run r).whole.addressed 0 w.count

pub boxes_to_others : AfterRuns BoxesGoToOthers
boxes_to_others count capacity run r = let w = world_of count capacity run in let a = (nodes_hold count capacity run r).whole.addressed in record {
  inbox = λ i p rest took. (let x = (all_took (HeldIn (PlainSent w.count) i) took (a i).inbox).0 in (x.0.1.0, x.1));
  outbox = λ i p rest took. (all_took (HeldOut (PlainSent w.count)) took (a i).outbox).0.1.0;
}

pub messages_to_others : AfterRuns MessagesGoToOthers
messages_to_others count capacity run r us flies =
    let w = world_of count capacity run in under_all w.count us flies.each (all_moved (ToOther w.count) flies.boxed (pieces_to_others count capacity run r))

pub quiet_boxes : AfterRuns EmptyBoxesAreQuiet
quiet_boxes count capacity run r us flies none = none_boxed us (λ i. ((world_of count capacity run).nodes i).parcels) (subst (λ b. IsFlight us b (λ i. ((world_of count capacity run).nodes i).parcels)) none flies)
