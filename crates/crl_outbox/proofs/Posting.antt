-- A message, as the pieces that are posted.
use Rattle.std.proofs.Common.{◌≡◌, ℕ, suc, ◌+◌, ◌-◌, ◌<◌, List, [], ◌∷◌, Some, None, refl, sym, arith, ap, subst, ◌∙◌, length, take, drop}
use Rattle.crl_model.specs.declared.name.Name.{Name}
use Rattle.crl_model.specs.declared.message.Message.{Message}
use Rattle.crl_model.specs.declared.message.Kind.{Kind}
use Rattle.crl_model.specs.declared.message.Kind.TheVariants as kind
use Rattle.crl_model.specs.declared.message.Granted.TheVariants.{Shared, Exclusive, Upgrade}
use Rattle.crl_model.specs.declared.piece.Piece.{Piece}
use Rattle.crl_pieces.specs.Pieces.{count, cut, cut_in, fresh, left_from}
use Rattle.crl_pieces.specs.declared.TheConstants.{PIECE_LEN}
use Rattle.crl_protocol.specs.Parcels.{load_of, with_load, piece_of, pieces_of}
use Rattle.crl_outbox.specs.Covers.{kind_with, message_with}
use Rattle.crl_outbox.specs.declared.cover.Cover.{Cover}
use Rattle.crl_outbox.specs.declared.cover.CoverKind.{CoverKind}
use Rattle.crl_outbox.specs.declared.cover.CoverKind.TheVariants.{SharedGrant, ExclusiveGrant, Return, Release}

bare_load : (k : Kind) → load_of k ≡ [] → with_load [] k ≡ k
bare_load (kind.InfoAsk name) e = refl
bare_load (kind.InfoIs name told) e = refl
bare_load (kind.Ask name write have) e = refl
bare_load (kind.Grant name version (Shared bytes)) e = ap (λ b. kind.Grant name version (Shared b)) (sym e)
bare_load (kind.Grant name version (Exclusive bytes)) e = ap (λ b. kind.Grant name version (Exclusive b)) (sym e)
bare_load (kind.Grant name version Upgrade) e = refl
bare_load (kind.Recall name version) e = refl
bare_load (kind.Return name version None) e = refl
bare_load (kind.Return name version (Some bytes)) e = ap (λ b. kind.Return name version (Some b)) (sym e)
bare_load (kind.DeleteAsk name) e = refl
bare_load (kind.DeleteIs name told) e = refl
bare_load (kind.Purge name) e = refl
bare_load (kind.Purged name) e = refl
bare_load (kind.Come round part) e = refl
bare_load (kind.Result round fold) e = refl
bare_load (kind.Yield name version) e = refl
bare_load (kind.Release name version bytes) e = ap (λ b. kind.Release name version b) (sym e)

-- a message without bytes is one piece
pub bare_piece : (m : Message) → load_of m.kind ≡ [] → pieces_of m ≡ record { message = m; pieces = 1; index = 0 } ∷ []
unfolding cut
bare_piece m e =
    subst (λ (load : List ℕ). left_from (piece_of m (count (length load))) 0 (fresh (cut load)) ≡ record { message = m; pieces = 1; index = 0 } ∷ []) (sym e)
    (ap (λ k. record { message = record { sender = m.sender; addressee = m.addressee; kind = k }; pieces = 1; index = 0 } ∷ []) (bare_load m.kind e))

load_under : (k : CoverKind) (name : Name) (version : ℕ) (bytes : List ℕ) → load_of (kind_with k name version bytes) ≡ bytes
load_under SharedGrant name version bytes = refl
load_under ExclusiveGrant name version bytes = refl
load_under Return name version bytes = refl
load_under Release name version bytes = refl

part_under : (k : CoverKind) (name : Name) (version : ℕ) (bytes part : List ℕ) → with_load part (kind_with k name version bytes) ≡ kind_with k name version part
part_under SharedGrant name version bytes part = refl
part_under ExclusiveGrant name version bytes part = refl
part_under Return name version bytes part = refl
part_under Release name version bytes part = refl

module _ (cover : Cover) (bytes : List ℕ) (n : ℕ) where
  -- the pieces from this index on, so many of them, of the bytes that are left
  abbrev pub pieces_from : ℕ → ℕ → List ℕ → List Piece
  pieces_from index left rest = left_from (piece_of (message_with cover bytes) n) index (fresh (cut_in left rest))

  pub next_piece : (index : ℕ) (rest : List ℕ) → index < n
      → pieces_from index (n - index) rest ≡ record { message = message_with cover (take PIECE_LEN rest); pieces = n; index = index } ∷ pieces_from (index + 1) (n - (index + 1)) (drop PIECE_LEN rest)
  next_piece index rest below =
      let left : ℕ = n - (index + 1) in let more : n - index ≡ suc left = omega arith in
      ap (λ k. pieces_from index k rest) more
      ∙ ap (λ k. record { message = record { sender = cover.sender; addressee = cover.addressee; kind = k }; pieces = n; index = index } ∷ pieces_from (index + 1) left (drop PIECE_LEN rest))
      (part_under cover.kind cover.name cover.version bytes (take PIECE_LEN rest))

pub all_pieces : (cover : Cover) (bytes : List ℕ) (n : ℕ) → n ≡ count (length bytes) → pieces_from cover bytes n 0 n bytes ≡ pieces_of (message_with cover bytes)
unfolding cut
all_pieces cover bytes n e =
    ap (λ k. pieces_from cover bytes k 0 k bytes) e
    ∙ ap (λ (load : List ℕ). left_from (piece_of (message_with cover bytes) (count (length load))) 0 (fresh (cut load))) (sym (load_under cover.kind cover.name cover.version bytes))
