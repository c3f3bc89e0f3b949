-- What is known of each piece in a box, in one place.
use Rattle.std.specs.List.{AllByRecursion}
use Rattle.std.proofs.Common.{◌≡◌, ℕ, zero, suc, ◌+◌, ◌<◌, ◌≤◌, ◌⊎◌, inl, inr, List, ◌++◌, Option, None, Some, refl, subst, arith}
use Rattle.std.proofs.lemmas.Bool.{cases_lt}
use Rattle.crl_protocol.specs.Parcels.{Piece}
use Rattle.crl_protocol.specs.Node.{Node}
use Rattle.crl_protocol.specs.Places.{Taken, take_out}
use Rattle.crl_protocol.specs.World.{world_of, boxes_from, pieces_in_boxes}
use Rattle.crl_deeds.proofs.Laws.{all_took, took_at}
use Rattle.crl_framed.specs.Framed.{FitsEnds, HomeIsAnEnd, NumberFits, SizeFits, SerialFits, SerialIsReal, PieceIsPlaced}
use Rattle.crl_framed.proofs.Laws.{ends_fit, homes_fit, numbers_fit, sizes_fit, serials_fit, serials_real, pieces_placed, both}
use Rattle.crl_wire.specs.Frame.{IsInTable, Fits}
use Rattle.crl_frames.specs.Frames.{OfEachPiece, OfEachPieceOfFew, HoldsOf, OfEachToCarry, HasByteFrame}
use Rattle.crl_frames.proofs.Loads.{LoadBytes, loads_are_bytes}
use Rattle.crl_frames.proofs.Spelled.{frame_bytes}
use Rattle.crl_frames.proofs.Table.{Known, known_in_table, known_fits}
use Rattle.crl_frames.proofs.Values.{ValueFits, ValueSendable, values_fit, values_sendable}
use Rattle.crl_rounds.proofs.Laws.{all_map}
use Rattle.crl_regions.proofs.Laws.{all_parts}

-- two facts of each element as one
pair : {A : Type 0} (P Q : A → Type 0) (xs : List A) → AllByRecursion P xs → AllByRecursion Q xs → AllByRecursion (λ x. P x × Q x) xs
pair P Q xs p q = both P Q (λ x. P x × Q x) (λ x a b. (a, b)) xs p q

abbrev Ends : Piece → Type 0
Ends p = FitsEnds p.message × HomeIsAnEnd p.message

abbrev Numbers : Piece → Type 0
Numbers p = NumberFits p.message × SizeFits p.message

abbrev Rest : Piece → Type 0
Rest p = SerialIsReal p.message × ValueSendable p.message.kind

all_known : OfEachPieceOfFew Known
all_known count capacity run few r =
    let ps = pieces_in_boxes (world_of count capacity run) in
    let ends = pair (λ (p : Piece). FitsEnds p.message) (λ (p : Piece). HomeIsAnEnd p.message) ps (ends_fit count capacity run few r) (homes_fit count capacity run r) in
    let numbers = pair (λ (p : Piece). NumberFits p.message) (λ (p : Piece). SizeFits p.message) ps (numbers_fit count capacity run r) (sizes_fit count capacity run r) in
    let rest = pair (λ (p : Piece). SerialIsReal p.message) (λ (p : Piece). ValueSendable p.message.kind) ps (serials_real count capacity run r) (values_sendable count capacity run few r) in
    both (λ (p : Piece). Ends p × Numbers p) (λ (p : Piece). Rest p × PieceIsPlaced p) Known
    (λ p a b. record { ends = a.0.0; home = a.0.1; number = a.1.0; size = a.1.1; serial = b.0.0; value = b.0.1; placed = b.1 }) ps
    (pair Ends Numbers ps ends numbers) (pair Rest PieceIsPlaced ps rest (pieces_placed count capacity run r))

pub all_in_table : OfEachPieceOfFew IsInTable
all_in_table count capacity run few r = all_map Known IsInTable known_in_table (pieces_in_boxes (world_of count capacity run)) (all_known count capacity run few r)

abbrev Typed : Piece → Type 0
Typed p = SerialFits p.message × ValueFits p.message.kind

pub all_fit : OfEachPiece Fits
all_fit count capacity run r =
    let ps = pieces_in_boxes (world_of count capacity run) in
    both Known Typed Fits (λ p k t. known_fits p k t.0 t.1) ps (all_known count capacity run r.nodes r.is_run)
    (pair (λ (p : Piece). SerialFits p.message) (λ (p : Piece). ValueFits p.message.kind) ps (serials_fit count capacity run r.is_run r.names) (values_fit count capacity run r))

pub all_byte_frames : OfEachPiece HasByteFrame
all_byte_frames count capacity run r =
    both LoadBytes (λ (p : Piece). ValueFits p.message.kind) HasByteFrame (λ p b v. frame_bytes p b v) (pieces_in_boxes (world_of count capacity run)) (loads_are_bytes count capacity run r) (values_fit count capacity run r)

-- The piece at a place of an outbox is in a box.
at_boxes : (P : Piece → Type 0) (nodes : ℕ → Node) (a k i : ℕ) → a ≤ i → i < a + k → AllByRecursion P (boxes_from a k nodes) → AllByRecursion P (nodes i).outbox
at_boxes P nodes a zero i low high h = absurd (omega arith)
at_boxes P nodes a (suc k) i low high h =
    let parts = all_parts P ((nodes a).inbox ++ (nodes a).outbox) (boxes_from (a + 1) k nodes) h in go (cases_lt a i) parts.0 (λ less. at_boxes P nodes (a + 1) k i (omega arith) (omega arith) parts.1)
  where
    go : (a < i) ⊎ (i ≤ a) → AllByRecursion P ((nodes a).inbox ++ (nodes a).outbox) → (a < i → AllByRecursion P (nodes i).outbox) → AllByRecursion P (nodes i).outbox
    go (inl less) here there = there less
    go (inr more) here there = let same : a ≡ i = omega arith in subst (λ j. AllByRecursion P (nodes j).outbox) same (all_parts P (nodes a).inbox (nodes a).outbox here).1

of_taken : (P : Piece → Type 0) (ps : List Piece) (place : ℕ) → AllByRecursion P ps → HoldsOf P (take_out place ps)
of_taken P ps place h = go (take_out place ps) refl
  where
    go : (o : Option (Taken Piece)) → take_out place ps ≡ o → HoldsOf P o
    go None e = tt
    go (Some t) e = (all_took P (took_at place ps t e) h).0

pub all_to_carry : OfEachToCarry IsInTable
all_to_carry count capacity run few r i place below =
    let w = world_of count capacity run in of_taken IsInTable (w.nodes i).outbox place (at_boxes IsInTable w.nodes 0 w.count i (omega arith) (omega arith) (all_in_table count capacity run few r))
