-- A message has no answer for the node that handles it, nor for the one that sends it.
use Rattle.std.proofs.Common.{◌≡◌, ℕ, ◌&&◌, Bool, true, false, if◌then◌else◌, Option, Some, None, List, refl}
use Rattle.crl_model.specs.declared.event.Event.TheVariants as event
use Rattle.crl_model.specs.declared.message.Kind.{Kind}
use Rattle.crl_pieces.specs.Pieces.{is_missing, is_complete, joined}
use Rattle.crl_protocol.specs.Parcels.{Piece, with_load, Key, key_of, slots_or, at_key, fits_size}
use Rattle.crl_protocol.specs.Places.{Taken, take_out}
use Rattle.crl_protocol.specs.Node.{Node, Done, Outcome, only}
use Rattle.crl_protocol.specs.Handlers.{ignores, node_handles}
use Rattle.crl_protocol.specs.Receiving.{receives, receives_as, receives_part, gathers_piece, size_for, slots_with}
use Rattle.crl_protocol.specs.World.{World, step, handles_at, carries}
use Rattle.crl_deeds.specs.Deeds.{Hears, Copies, Lives, Rounds, Deed}
use Rattle.crl_deeds.specs.Deeds as deed
use Rattle.crl_deeds.proofs.Laws.{message_deed}

done_copies : (n : Node) (from : ℕ) (k : Kind) (o : Outcome) → Copies n (Hears from k) o → o.answer ≡ Done
done_copies n from k o (deed.home_serves x y name h s is e z) = refl
done_copies n from k o _ = refl

done_lives : (n : Node) (from : ℕ) (k : Kind) (o : Outcome) → Lives n (Hears from k) o → o.answer ≡ Done
done_lives n from k o (deed.map_comes x name purged size e) = refl
done_lives n from k o _ = refl

done_rounds : (n : Node) (from : ℕ) (k : Kind) (o : Outcome) → Rounds n (Hears from k) o → o.answer ≡ Done
done_rounds n from k o (deed.result_comes x round f c e) = refl
done_rounds n from k o _ = refl

done_hears : (n : Node) (from : ℕ) (k : Kind) (o : Outcome) → Deed n (Hears from k) o → o.answer ≡ Done
done_hears n from k o (deed.copies d) = done_copies n from k o d
done_hears n from k o (deed.lives d) = done_lives n from k o d
done_hears n from k o (deed.rounds d) = done_rounds n from k o d
done_hears n from k o (deed.idles h) = refl

done_handled : (n : Node) (from : ℕ) (k : Kind) → (node_handles from k n).answer ≡ Done
done_handled n from k = done_hears n from k (node_handles from k n) (message_deed n from k)

done_either : (b : Bool) (x y : Outcome) → x.answer ≡ Done → y.answer ≡ Done → (if b then x else y).answer ≡ Done
done_either true x y h k = h
done_either false x y h k = k

done_gathered : (n : Node) (p : Piece) (key : Key) (slots : List (Option (List ℕ))) → (gathers_piece key p slots n).answer ≡ Done
done_gathered n p key slots =
    done_either (is_complete slots) (node_handles p.message.sender (with_load (joined slots) p.message.kind) (record n { parcels = at_key n.parcels key None })) (only (record n { parcels = at_key n.parcels key (Some slots) }) Done)
    (done_handled (record n { parcels = at_key n.parcels key None }) p.message.sender (with_load (joined slots) p.message.kind)) refl

done_part : (n : Node) (p : Piece) (key : Key) (size : Option ℕ) → (receives_part key p size n).answer ≡ Done
done_part n p key None = refl
done_part n p key (Some size) =
    done_either (fits_size size p && is_missing p.index (slots_or p.pieces (n.parcels key))) (gathers_piece key p (slots_with p (n.parcels key)) n) (ignores n) (done_gathered n p key (slots_with p (n.parcels key))) refl

done_received : (n : Node) (p : Piece) → (receives p n).answer ≡ Done
done_received n p = go (key_of p.message)
  where
    go : (o : Option Key) → (receives_as o p n).answer ≡ Done
    go None = done_handled n p.message.sender p.message.kind
    go (Some key) = done_part n p key (size_for key.load key.name n)

pub handle_done : (w : World) (i place : ℕ) → (step (event.Handle i place) w).answer ≡ Done
unfolding step
handle_done w i place = go (take_out place (w.nodes i).inbox)
  where
    go : (o : Option (Taken Piece)) → (handles_at i (event.Handle i place) o w).answer ≡ Done
    go None = refl
    go (Some t) = done_received _ t.taken

pub carry_done : (w : World) (i place : ℕ) → (step (event.Carry i place) w).answer ≡ Done
unfolding step
carry_done w i place = go (take_out place (w.nodes i).outbox)
  where
    go : (o : Option (Taken Piece)) → (carries i (event.Carry i place) o w).answer ≡ Done
    go None = refl
    go (Some t) = refl
