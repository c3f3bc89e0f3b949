-- The pieces in every run's boxes: those that come are safe, and those that go are for others.
use Rattle.std.proofs.Common.{◌≡◌, ℕ, ◌<◌, true, false, None, Some, Option, List, ap, sym, ◌∙◌, subst}
use Rattle.std.proofs.lemmas.List.Elements.{recursion_from_All}
use Rattle.crl_model.specs.declared.collective.Part.{Part}
use Rattle.crl_model.specs.declared.event.Event.{Event}
use Rattle.crl_model.specs.declared.message.Kind.{Kind}
use Rattle.crl_model.specs.declared.message.Kind.TheVariants as kind
use Rattle.crl_pieces.specs.Pieces.{joined}
use Rattle.crl_protocol.specs.Gathering.{Gathering, awaits}
use Rattle.crl_protocol.specs.Node.{Node}
use Rattle.crl_protocol.specs.Parcels.{Piece, Key, key_in, with_load}
use Rattle.crl_protocol.specs.Places.{Took}
use Rattle.crl_protocol.specs.Receiving.{slots_with}
use Rattle.crl_protocol.specs.World.{World, new_world, world_of, pieces_in_boxes, IsRunFrom}
use Rattle.crl_machine.specs.SingleMachine.{State}
use Rattle.crl_deeds.specs.Counts.{Counted}
use Rattle.crl_deeds.proofs.Laws.{took_at, all_took}
use Rattle.crl_regions.specs.Addresses.{GoesToOther}
use Rattle.crl_regions.specs.Reached.{MakesFitting}
use Rattle.crl_regions.proofs.Laws.{boxes_to_others, box_took, whole_meet, pieces_meet, count_in_run}
use Rattle.crl_rounds.specs.Standing.{RoundMailFits, IsRoundMail, machine_of}
use Rattle.crl_rounds.proofs.Laws.{mail_in_runs}
use Rattle.crl_safety.specs.Safety.{PieceIsSafe, MessageIsSafe}
use Rattle.crl_safety.specs.Tests.{MeetsTest}
use Rattle.crl_sound.specs.Sound.{AfterAnyRun, PiecesAreSafe, PiecesLeaveForOthers}
use Rattle.crl_sound.proofs.Senders.{IsBy, senders_in_runs}
use Rattle.crl_sound.proofs.Tables.{counted_in_runs}

-- A part that is under way is awaited where it comes.
awaited : (from : ℕ) (g : Gathering) → g.parts from ≡ None → awaits from g ≡ true
awaited from g e = ap (λ (o : Option Part). elim o [ None ↦ true | Some part ↦ false ]) e

-- A message without bytes.
plain_safe : (w : World) (s : State) (i from : ℕ) (k : Kind) → IsRoundMail w s from i k → MeetsTest (w.nodes i) from k → MessageIsSafe (w.nodes i) from k
plain_safe w s i from (kind.Come round part) m t = subst (λ j. awaits from (w.nodes j).gathering ≡ true) (sym m.to_first) (awaited from (w.nodes 0).gathering m.awaited)
plain_safe w s i from (kind.Ask name write have) m t = t
plain_safe w s i from (kind.Grant name version granted) m t = t
plain_safe w s i from (kind.Return name version bytes) m t = t
plain_safe w s i from (kind.Release name version bytes) m t = t
plain_safe w s i from (kind.InfoIs name told) m t = t
plain_safe w s i from (kind.InfoAsk name) m t = t
plain_safe w s i from (kind.Recall name version) m t = t
plain_safe w s i from (kind.Yield name version) m t = t
plain_safe w s i from (kind.DeleteAsk name) m t = t
plain_safe w s i from (kind.DeleteIs name told) m t = t
plain_safe w s i from (kind.Purge name) m t = t
plain_safe w s i from (kind.Purged name) m t = t
plain_safe w s i from (kind.Result round fold) m t = t

-- One with bytes is no part of a round.
loaded_safe : (n : Node) (from : ℕ) (bytes : List ℕ) (k : Kind) (key : Key) → key_in from k ≡ Some key → MeetsTest n from (with_load bytes k) → MessageIsSafe n from (with_load bytes k)
loaded_safe n from bytes (kind.Grant name version granted) key e t = t
loaded_safe n from bytes (kind.Return name version back) key e t = t
loaded_safe n from bytes (kind.Release name version old) key e t = t
loaded_safe n from bytes (kind.Come round part) key e t = absurd (cc)
loaded_safe n from bytes (kind.Ask name write have) key e t = t
loaded_safe n from bytes (kind.InfoIs name told) key e t = t
loaded_safe n from bytes (kind.InfoAsk name) key e t = t
loaded_safe n from bytes (kind.Recall name version) key e t = t
loaded_safe n from bytes (kind.Yield name version) key e t = t
loaded_safe n from bytes (kind.DeleteAsk name) key e t = t
loaded_safe n from bytes (kind.DeleteIs name told) key e t = t
loaded_safe n from bytes (kind.Purge name) key e t = t
loaded_safe n from bytes (kind.Purged name) key e t = t
loaded_safe n from bytes (kind.Result round fold) key e t = t

-- A piece in an inbox.
came_safe : (count capacity : ℕ) (run : List Event) → IsRunFrom (new_world count capacity) run → (i : ℕ) (p : Piece) (rest : List Piece) → i < count → Took p ((world_of count capacity run).nodes i).inbox rest → PieceIsSafe ((world_of count capacity run).nodes i) p
came_safe count capacity run r i p rest small took = record {
  sender = subst (λ k. p.message.sender < k) (count_in_run count capacity run r ∙ sym counted.few) sent.0.sender;
  other = λ same. sent.0.other (same ∙ counted.me ∙ sym sent.1);
  whole = λ e. plain_safe w (machine_of count capacity run) i p.message.sender p.message.kind mail (makes.whole e);
  part = λ key e. pieces_meet count capacity run r i p rest key few took e;
  last = λ key e full. loaded_safe n p.message.sender (joined (slots_with p (n.parcels key))) p.message.kind key e (makes.last key e full);
}
  where
    w : World
    w = world_of count capacity run

    n : Node
    n = w.nodes i

    few : i < w.count
    few = subst (λ k. i < k) (sym (count_in_run count capacity run r)) small

    counted : Counted count i n
    counted = counted_in_runs count capacity run r i

    sent : GoesToOther w.count p.message × (p.message.addressee ≡ i)
    sent = (boxes_to_others count capacity run r).inbox i p rest took

    makes : MakesFitting n p
    makes = whole_meet count capacity run r i p rest few took

    mail : IsRoundMail w (machine_of count capacity run) p.message.sender i p.message.kind
    mail = subst (λ j. IsRoundMail w (machine_of count capacity run) p.message.sender j p.message.kind) sent.1
        (all_took (RoundMailFits w (machine_of count capacity run)) (box_took w i p rest few took) (recursion_from_All (RoundMailFits w (machine_of count capacity run)) (pieces_in_boxes w) (mail_in_runs count capacity run r))).0

pub pieces_safe : AfterAnyRun PiecesAreSafe
pieces_safe count capacity run r i place t few e = came_safe count capacity run r i t.taken t.rest few (took_at place ((world_of count capacity run).nodes i).inbox t e)

-- A piece in an outbox.
pub pieces_leave : AfterAnyRun PiecesLeaveForOthers
pieces_leave count capacity run r i place t few e =
    let w = world_of count capacity run in
    let took = took_at place (w.nodes i).outbox t e in
    let sent = (boxes_to_others count capacity run r).outbox i t.taken t.rest took in
    let from : t.taken.message.sender ≡ i = (all_took (IsBy i) took (senders_in_runs count capacity run r i)).0 in record {
      sender = from;
      addressee = subst (λ k. t.taken.message.addressee < k) (count_in_run count capacity run r) sent.addressee;
      other = λ same. sent.other (from ∙ sym same);
    }
