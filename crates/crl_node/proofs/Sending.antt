-- A piece that is sent in its frame is the one at its place, and comes as that.
use Rattle.std.proofs.Common.{◌≡◌, ◌∙◌, ℕ, List, [], ◌∷◌, ◌++◌, sym, ap, subst}
use Rattle.std.specs.declared.option.Option.{Option}
use Rattle.std.specs.declared.option.Option.TheVariants.{None, Some}
use Rattle.std.specs.Prelude.{IfOk, MatchResult}
use Rattle.std.specs.declared.result.Result.{Result}
use Rattle.std.specs.declared.result.Result.TheVariants.{Ok, Err}
use Rattle.crl_protocol.specs.Places.{Taken}
use Rattle.crl_protocol.specs.Parcels.{Piece}
use Rattle.crl_protocol.specs.Node.{Node}
use Rattle.crl_member.specs.Members.{TakenIsInTable, HasCome, after_put}
use Rattle.crl_wire.specs.declared.fault.WireFault.{WireFault}
use Rattle.crl_wire.specs.declared.fault.WireFault.TheVariants.{OutOfMemory}
use Rattle.crl_wire.specs.Frame.{frame, IsInTable}
use Rattle.crl_wire.specs.Decoding.{decoded}
use Rattle.crl_node.specs.Handling.{piece_taken}
use Rattle.crl_node.specs.Framing.{IsFrameOf, IsSent, HasPiece}

pub framed_piece : (o : Option (Taken Piece)) (p : Piece) → Some p ≡ piece_taken o → TakenIsInTable o → IsInTable p
framed_piece None p e h = absurd (cc)
framed_piece (Some t) p e h = let same : t.taken ≡ p = cc in subst (λ (q : Piece). IsInTable q) same h

pub sent_taken : (o : Option (Taken Piece)) (p : Piece) (sent : List ℕ) → Some p ≡ piece_taken o → IsFrameOf p sent → IsSent sent o
sent_taken None p sent e h = absurd (cc)
sent_taken (Some t) p sent e h = let same : p ≡ t.taken = cc in subst (λ (q : Piece). IsFrameOf q sent) same h

pub sent_ok : {V E : Type 0} (items : V → List ℕ) (o : Option (Taken Piece)) (p : Piece) (r : Result V E) → Some p ≡ piece_taken o → IfOk r (λ v. items v ≡ frame p) → IfOk r (λ v. decoded (items v) ≡ Ok p)
    → IfOk r (λ v. IsSent (items v) o)
sent_ok items o p (Ok v) e is again = sent_taken o p (items v) e (record { is = is; again = again })
sent_ok items o p (Err why) e is again = tt

-- What is read of bytes that a piece was sent as: it, or memory is wanting.
abbrev pub ReadsOnly : List ℕ → Result Piece WireFault → Type 0
ReadsOnly sent r = (p : Piece) → decoded sent ≡ Ok p → MatchResult r (λ came. came ≡ p) (λ fault. fault ≡ OutOfMemory)

memory_of : (Good : Piece → Type 0) (r : Result Piece WireFault) (f : WireFault) → r ≡ Err f → MatchResult r Good (λ fault. fault ≡ OutOfMemory) → f ≡ OutOfMemory
memory_of Good (Ok came) f e h = absurd (cc)
memory_of Good (Err g) f e h = let same : g ≡ f = cc in sym same ∙ h

pub only_memory : (sent : List ℕ) (r : Result Piece WireFault) (f : WireFault) → HasPiece sent → ReadsOnly sent r → r ≡ Err f → f ≡ OutOfMemory
only_memory sent r f some only e = memory_of (λ came. came ≡ some.piece) r f e (only some.piece some.again)

read_of : (Bad : WireFault → Type 0) (p : Piece) (r : Result Piece WireFault) (came : Piece) → r ≡ Ok came → MatchResult r (λ x. x ≡ p) Bad → came ≡ p
read_of Bad p (Ok x) came e h = let same : x ≡ came = cc in sym same ∙ h
read_of Bad p (Err f) came e h = absurd (cc)

pub reads_it : (sent : List ℕ) (r : Result Piece WireFault) (came : Piece) → ReadsOnly sent r → r ≡ Ok came → (p : Piece) → decoded sent ≡ Ok p → came ≡ p
reads_it sent r came only e p is = read_of (λ fault. fault ≡ OutOfMemory) p r came e (only p is)

pub has_piece : (o : Option (Taken Piece)) (sent : List ℕ) → IsSent sent o → HasPiece sent
has_piece None sent h = absurd h
has_piece (Some t) sent h = record { piece = t.taken; again = h.again }

pub has_come : (o : Option (Taken Piece)) (sent : List ℕ) (came : Piece) → IsSent sent o → ((p : Piece) → decoded sent ≡ Ok p → came ≡ p) → HasCome came o
has_come None sent came h read = absurd h
has_come (Some t) sent came h read = read t.taken h.again

-- what came stands behind the others
pub put_behind : (o : Option (Taken Piece)) (came : Piece) (n : Node) → HasCome came o → record n { inbox = n.inbox ++ came ∷ [] } ≡ after_put o n
put_behind None came n h = absurd h
put_behind (Some t) came n h = ap (λ (p : Piece). record n { inbox = n.inbox ++ p ∷ [] }) h
