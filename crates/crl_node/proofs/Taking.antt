-- The piece at a place of a box.
use Rattle.std.proofs.Common.{◌≡◌, ◌∙◌, ℕ, zero, suc, ◌<◌, List, [], ◌∷◌, refl, sym, ap, subst, arith, length, slice_index_or}
use Rattle.std.specs.declared.option.Option.{Option}
use Rattle.std.specs.declared.option.Option.TheVariants.{None, Some}
use Rattle.std.specs.Prelude.{IfOk}
use Rattle.std.specs.declared.result.Result.{Result}
use Rattle.std.specs.declared.result.Result.TheVariants.{Ok, Err}
use Rattle.crl_outbox.specs.MailboxState.{MailboxState}
use Rattle.crl_protocol.specs.Places.{Taken, take_out, behind}
use Rattle.crl_protocol.specs.Parcels.{Piece}
use Rattle.crl_protocol.specs.Node.{Node}
use Rattle.crl_safety.specs.Safety.{PieceIsSafe}
use Rattle.crl_member.specs.Members.{TakenIsSafe}
use Rattle.crl_desk.specs.declared.desk.Desk.{Desk}
use Rattle.crl_desk.specs.Desks.{state}
use Rattle.crl_node.specs.declared.kits.HandleKit.{HandleKit}
use Rattle.crl_node.specs.Handling.{piece_taken, IsReadyToTake, IsReadyToHear}
use Rattle.crl_node.proofs.Frames.{hear_frame}

-- f at what is taken, or d
abbrev pub seen : {A B : Type 0} → (A → B) → B → Option (Taken A) → B
seen f d None = d
seen f d (Some t) = f t.taken

seen_behind : {A B : Type 0} (f : A → B) (d : B) (x : A) (o : Option (Taken A)) → seen f d (behind x o) ≡ seen f d o
seen_behind f d x None = refl
seen_behind f d x (Some t) = refl

pub seen_at : {A B : Type 0} (f : A → B) (d : B) (n : ℕ) (xs : List A) (y : A) → n < length xs → seen f d (take_out n xs) ≡ f (slice_index_or xs n y)
seen_at f d n [] y h = grind arith
seen_at f d zero (x ∷ xs) y h = refl
seen_at f d (suc n) (x ∷ xs) y h = seen_behind f d x (take_out n xs) ∙ seen_at f d n xs y (omega arith)

-- the piece that is read is the one that is taken out
seen_taken : (o : Option (Taken Piece)) → seen Some None o ≡ piece_taken o
seen_taken None = refl
seen_taken (Some t) = refl

pub taken_at : (n : ℕ) (xs : List Piece) (y : Piece) → n < length xs → Some (slice_index_or xs n y) ≡ piece_taken (take_out n xs)
taken_at n xs y h = sym (seen_at Some None n xs y h) ∙ seen_taken (take_out n xs)

pub taken_safe : (n : Node) (o : Option (Taken Piece)) (p : Piece) → Some p ≡ piece_taken o → TakenIsSafe n o → PieceIsSafe n p
taken_safe n None p e h = absurd (cc)
taken_safe n (Some t) p e h = let same : t.taken ≡ p = cc in subst (PieceIsSafe n) same h

-- the inbox was off the desk while the message was readied
pub ready_law : {E : Type 0} (o : Option Piece) (p : Piece) (d : Desk) (inbox : MailboxState) (result : Result HandleKit E) → Some p ≡ o
    → IfOk result (λ kit. IsReadyToHear p.message.sender p.message.kind kit d) → IfOk result (λ kit. IsReadyToTake o kit (record d { inbox = inbox }))
ready_law o p d inbox (Ok kit) e h = subst (λ (o : Option Piece). IsReadyToTake o kit (record d { inbox = inbox })) e (hear_frame d inbox d.parcels p.message.sender p.message.kind kit h)
ready_law o p d inbox (Err why) e h = tt

-- the node as it was, once the inbox is back
pub back_again : (d new : Desk) (empty : List Piece) (inbox : MailboxState) → inbox ≡ d.inbox → state new ≡ record (state d) { inbox = empty } → state (record new { inbox = inbox }) ≡ state d
back_again d new empty inbox inbox_is same =
    ap (λ (i : MailboxState). record (state new) { inbox = i.list }) inbox_is ∙ ap (λ (n : Node). record n { inbox = d.inbox.list }) same
