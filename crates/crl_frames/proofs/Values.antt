-- In every run a part on its way to node 0 may be sent, and so may a result on its way from there. Where the run's calls are
-- typed, they fit.
use Rattle.std.proofs.Common.{ℕ, ◌≤◌, List, [], ◌∷◌, sym, ◌∙◌, subst}
use Rattle.std.proofs.lemmas.List.Elements.{recursion_from_All}
use Rattle.std.specs.List.{AllByRecursion}
use Rattle.crl_model.specs.declared.collective.Part.{Part}
use Rattle.crl_model.specs.declared.call.Call.{Call}
use Rattle.crl_model.specs.declared.call.Call.TheVariants as call
use Rattle.crl_model.specs.declared.event.Event.{Event}
use Rattle.crl_model.specs.declared.event.Event.TheVariants as event
use Rattle.crl_model.specs.declared.message.Kind.{Kind}
use Rattle.crl_model.specs.declared.message.Kind.TheVariants as kind
use Rattle.crl_machine.specs.SingleMachine.{IsSendable, start, parts_of}
use Rattle.crl_protocol.specs.Parcels.{Piece}
use Rattle.crl_protocol.specs.World.{world_of, account, pieces_in_boxes, IsRun}
use Rattle.crl_rounds.specs.Standing.{RoundMailFits, IsRoundMail, machine_of}
use Rattle.crl_rounds.proofs.Laws.{mail_in_runs, all_map}
use Rattle.crl_frames.specs.Frames.{OfEachPiece, OfEachPieceOfFew, IsTypedPart, BringsTyped, BringTyped}
use Rattle.crl_frames.proofs.Entries.{CallBrings, CallsBring, part_fits, parts_fit, parts_length}
use Rattle.crl_frames.proofs.Folds.{PartFits, FoldFits, FoldSendable, fold_fits, fold_sendable}
use Rattle.crl_history.proofs.Laws.{all_nodes}

abbrev pub ValueFits : Kind → Type 0
ValueFits (kind.Come round part) = PartFits part
ValueFits (kind.Result round fold) = FoldFits fold
ValueFits _ = Unit {0}

abbrev pub ValueSendable : Kind → Type 0
ValueSendable (kind.Come round part) = IsSendable part
ValueSendable (kind.Result round fold) = FoldSendable fold
ValueSendable _ = Unit {0}

-- Typed calls bring typed parts, and all calls bring some.
brings_typed : (c : Call) → BringsTyped c → CallBrings IsTypedPart c
brings_typed (call.Come part) t = t
brings_typed _ t = tt

bring_typed : (run : List Event) → BringTyped run → CallsBring IsTypedPart run
bring_typed [] t = tt
bring_typed (event.Call i c ∷ es) t = (brings_typed c t.0, bring_typed es t.1)
bring_typed (event.Collect i ∷ es) t = bring_typed es t
bring_typed (event.Handle i place ∷ es) t = bring_typed es t
bring_typed (event.Carry i place ∷ es) t = bring_typed es t

abbrev IsAny : Part → Type 0
IsAny p = Unit {0}

brings_any : (c : Call) → CallBrings IsAny c
brings_any (call.Come part) = tt
brings_any _ = tt

bring_any : (run : List Event) → CallsBring IsAny run
bring_any [] = tt
bring_any (event.Call i c ∷ es) = (brings_any c, bring_any es)
bring_any (event.Collect i ∷ es) = bring_any es
bring_any (event.Handle i place ∷ es) = bring_any es
bring_any (event.Carry i place ∷ es) = bring_any es

abbrev Sent : ℕ → ℕ → List Event → ℕ → ℕ → Kind → Type 0
Sent count capacity run from to k = IsRoundMail (world_of count capacity run) (machine_of count capacity run) from to k

value_fits : (count capacity : ℕ) (run : List Event) → count ≤ 64 → CallsBring IsTypedPart run → (from to : ℕ) (k : Kind) → Sent count capacity run from to k → ValueFits k
value_fits count capacity run few t from to (kind.Come round part) m = subst PartFits (sym m.brought) (part_fits IsTypedPart PartFits (λ p s t. (s, t)) (tt, tt) count capacity run t from round)
value_fits count capacity run few t from to (kind.Result round fold) m =
    let s = machine_of count capacity run in
    let nodes = parts_length s round 0 s.nodes ∙ all_nodes (start count) (account count capacity run) in
    let parts = parts_fit IsTypedPart PartFits (λ p s t. (s, t)) (tt, tt) count capacity run t round 0 s.nodes in
    subst FoldFits (sym m.gives) (fold_fits (parts_of s round) (subst (λ k. k ≤ 64) (sym nodes) few) parts)
value_fits count capacity run few t from to _ m = tt

value_sendable : (count capacity : ℕ) (run : List Event) (from to : ℕ) (k : Kind) → Sent count capacity run from to k → ValueSendable k
value_sendable count capacity run from to (kind.Come round part) m = subst IsSendable (sym m.brought) (part_fits IsAny IsSendable (λ p s t. s) tt count capacity run (bring_any run) from round)
value_sendable count capacity run from to (kind.Result round fold) m =
    let s = machine_of count capacity run in
    subst FoldSendable (sym m.gives) (fold_sendable (parts_of s round) (parts_fit IsAny IsSendable (λ p s t. s) tt count capacity run (bring_any run) round 0 s.nodes))
value_sendable count capacity run from to _ m = tt

sent_boxed : (count capacity : ℕ) (run : List Event) → IsRun count capacity run → AllByRecursion (RoundMailFits (world_of count capacity run) (machine_of count capacity run)) (pieces_in_boxes (world_of count capacity run))
sent_boxed count capacity run r =
    let w = world_of count capacity run in recursion_from_All (RoundMailFits w (machine_of count capacity run)) (pieces_in_boxes w) (mail_in_runs count capacity run r.enabled)

pub values_fit : OfEachPiece (λ (p : Piece). ValueFits p.message.kind)
values_fit count capacity run r =
    let w = world_of count capacity run in
    all_map (RoundMailFits w (machine_of count capacity run)) (λ (p : Piece). ValueFits p.message.kind)
    (λ p m. value_fits count capacity run r.nodes (bring_typed run r.brought) p.message.sender p.message.addressee p.message.kind m) (pieces_in_boxes w) (sent_boxed count capacity run r.is_run)

pub values_sendable : OfEachPieceOfFew (λ (p : Piece). ValueSendable p.message.kind)
values_sendable count capacity run few r =
    let w = world_of count capacity run in
    all_map (RoundMailFits w (machine_of count capacity run)) (λ (p : Piece). ValueSendable p.message.kind)
    (λ p m. value_sendable count capacity run p.message.sender p.message.addressee p.message.kind m) (pieces_in_boxes w) (sent_boxed count capacity run r)
