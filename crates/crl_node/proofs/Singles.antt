-- A piece that is a whole message: without bytes of a region, or with so few of them that they are one piece.
use Rattle.std.proofs.Common.{◌≡◌, ◌∙◌, ℕ, zero, suc, true, false, List, [], ◌∷◌, append-nil, refl, ap, subst}
use Rattle.std.specs.declared.option.Option.{Option}
use Rattle.std.specs.Option.{is_some}
use Rattle.std.specs.declared.option.Option.TheVariants.{None, Some}
use Rattle.crl_model.specs.declared.message.Granted.{Granted}
use Rattle.crl_model.specs.declared.message.Granted.TheVariants.{Shared, Exclusive, Upgrade}
use Rattle.crl_model.specs.declared.message.Kind.{Kind}
use Rattle.crl_model.specs.declared.message.Kind.TheVariants as kind
use Rattle.crl_pieces.specs.Pieces.{count, nothing_came, is_missing, is_complete, joined}
use Rattle.crl_protocol.specs.Places.{Taken}
use Rattle.crl_protocol.specs.Parcels.{Piece, Key, key_of, load_of, load_of_grant, load_of_return, grant_with, return_with, with_load, slots_or}
use Rattle.crl_protocol.specs.Receiving.{gathers_piece, slots_with, size_for}
use Rattle.crl_protocol.specs.Node.{Node}
use Rattle.crl_protocol.specs.Handlers.{node_handles}
use Rattle.crl_parcels.proofs.Laws.{none_at_key}
use Rattle.crl_safety.specs.Safety.{MessageIsSafe, PieceIsSafe}
use Rattle.crl_member.specs.Members.{TakenIsSafe}
use Rattle.crl_node.specs.Handling.{IsWhole, IsWholeTaken, piece_taken, key_taken}
use Rattle.crl_node.proofs.Frames.{piece_frame, size_frame}
use Rattle.crl_node.proofs.Gathers.{part_fits, gathers_if}

-- ---- without bytes

bare_whole : (n : Node) (p : Piece) → PieceIsSafe n p → key_of p.message ≡ None → IsWhole n p
bare_whole n p s e = record { heard = λ inbox. rw e refl; safe = s.whole e }

pub whole_without_key : (n : Node) (o : Option (Taken Piece)) (p : Piece) → Some p ≡ piece_taken o → TakenIsSafe n o → key_of p.message ≡ None → IsWholeTaken n (piece_taken o)
whole_without_key n None p is s e = absurd (cc)
whole_without_key n (Some t) p is s e = let same : t.taken ≡ p = cc in bare_whole n t.taken s (ap (λ (p : Piece). key_of p.message) same ∙ e)

-- ---- of one piece

own_grant : (g : Granted) → grant_with (load_of_grant g) g ≡ g
own_grant (Shared bytes) = refl
own_grant (Exclusive bytes) = refl
own_grant Upgrade = refl

own_return : (o : Option (List ℕ)) → return_with (load_of_return o) o ≡ o
own_return None = refl
own_return (Some bytes) = refl

with_own : (k : Kind) → with_load (load_of k) k ≡ k
with_own (kind.InfoAsk name) = refl
with_own (kind.InfoIs name told) = refl
with_own (kind.Ask name write have) = refl
with_own (kind.Grant name version granted) = ap (kind.Grant name version) (own_grant granted)
with_own (kind.Recall name version) = refl
with_own (kind.Return name version bytes) = ap (kind.Return name version) (own_return bytes)
with_own (kind.DeleteAsk name) = refl
with_own (kind.DeleteIs name told) = refl
with_own (kind.Purge name) = refl
with_own (kind.Purged name) = refl
with_own (kind.Come round part) = refl
with_own (kind.Result round fold) = refl
with_own (kind.Yield name version) = refl
with_own (kind.Release name version bytes) = refl

index_zero : (i : ℕ) → is_missing i (nothing_came 1) ≡ true → i ≡ 0
index_zero zero e = refl
index_zero (suc i) e = absurd (cc)

module _ (n : Node) (p : Piece) (key : Key) (one : p.pieces ≡ 1) (none : n.parcels key ≡ None)
    (missing : is_missing p.index (slots_or p.pieces (n.parcels key)) ≡ true) where
  first : p.index ≡ 0
  first = index_zero p.index (subst (λ (k : ℕ). is_missing p.index (nothing_came k) ≡ true) one
      (subst (λ (o : Option (List (Option (List ℕ)))). is_missing p.index (slots_or p.pieces o) ≡ true) none missing))

  single_slots : slots_with p (n.parcels key) ≡ Some (load_of p.message.kind) ∷ []
  single_slots = rw none (rw one (rw first refl))

  single_joined : joined (slots_with p (n.parcels key)) ≡ load_of p.message.kind
  single_joined = ap joined single_slots ∙ append-nil (load_of p.message.kind)

  single_heard : gathers_piece key p (slots_with p (n.parcels key)) n ≡ node_handles p.message.sender p.message.kind n
  single_heard =
      rw single_slots (rw (append-nil (load_of p.message.kind)) (rw (with_own p.message.kind) (rw (none_at_key n.parcels key none) refl)))

  single_safe : PieceIsSafe n p → key_of p.message ≡ Some key → MessageIsSafe n p.message.sender p.message.kind
  single_safe s e =
      subst (λ (k : Kind). MessageIsSafe n p.message.sender k) (ap (λ (b : List ℕ). with_load b p.message.kind) single_joined ∙ with_own p.message.kind)
      (s.last key e (ap is_complete single_slots))

single_whole : (n : Node) (p : Piece) (key : Key) (size : ℕ) → PieceIsSafe n p → key_of p.message ≡ Some key → size_for key.load key.name n ≡ Some size
    → count size ≡ 1 → n.parcels key ≡ None → IsWhole n p
single_whole n p key size s e known one none =
    let f = part_fits n p key size s e known in
    record {
      heard = λ inbox. let known_there = size_frame n inbox n.parcels key.load key.name ∙ known in
          gathers_if (record n { inbox = inbox }) p key size e known_there (part_fits (record n { inbox = inbox }) p key size (piece_frame n inbox p s) e known_there)
          ∙ single_heard (record n { inbox = inbox }) p key (f.pieces ∙ one) none f.missing;
      safe = single_safe n p key (f.pieces ∙ one) none f.missing s e;
    }

pub whole_of_one : (n : Node) (o : Option (Taken Piece)) (key : Key) (size : ℕ) → TakenIsSafe n o → key_taken (piece_taken o) ≡ Some key
    → size_for key.load key.name n ≡ Some size → count size ≡ 1 → n.parcels key ≡ None → IsWholeTaken n (piece_taken o)
whole_of_one n None key size s e known one none = absurd (cc)
whole_of_one n (Some t) key size s e known one none = single_whole n t.taken key size s e known one none

pub none_came : {A : Type 0} (o : Option A) → is_some o ≡ false → o ≡ None
none_came None e = refl
none_came (Some x) e = absurd (cc)
