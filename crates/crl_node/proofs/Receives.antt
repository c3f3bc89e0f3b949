-- A piece that is taken out of the inbox: what its node keeps of the outbox, the notes and the count, and the event that it makes.
use Rattle.std.proofs.Common.{◌≡◌, ◌∙◌, ℕ, ◌*◌, ◌^◌, ◌≤◌, Bool, true, false, ◌&&◌, if◌then◌else◌, List, refl, sym, ap, subst, arith, length}
use Rattle.std.specs.declared.option.Option.{Option}
use Rattle.std.specs.declared.option.Option.TheVariants.{None, Some}
use Rattle.std.proofs.lemmas.List.{length-append}
use Rattle.crl_model.specs.declared.event.Event.TheVariants as event
use Rattle.crl_pieces.specs.Pieces.{is_missing, is_complete, joined}
use Rattle.crl_protocol.specs.Places.{take_out}
use Rattle.crl_protocol.specs.Parcels.{Piece, Key, key_of, with_load, slots_or, at_key, fits_size, pieces_in}
use Rattle.crl_protocol.specs.Receiving.{receives, receives_as, receives_part, gathers_piece, slots_with, size_for}
use Rattle.crl_protocol.specs.Node.{Node, Done, only}
use Rattle.crl_protocol.specs.Handlers.{ignores, node_handles}
use Rattle.crl_member.specs.Members.{node_after_handle, after_taken}
use Rattle.crl_desk.specs.Desks.{acted}
use Rattle.crl_node.specs.Nodes.{KeepsCounts, concluded}
use Rattle.crl_node.proofs.Keeping.{message_keeps, message_keeps_outbox}
use Rattle.crl_node.proofs.Concludes.{concluded_is}

abbrev Keeps : Node → Node → Type 0
Keeps n m = KeepsCounts n m × (m.outbox ≡ n.outbox)

keeps_self : (n : Node) → Keeps n n
keeps_self n = (record { posted = refl; notes = refl }, refl)

gathered_keeps : (last : Bool) (key : Key) (p : Piece) (slots : List (Option (List ℕ))) (n : Node)
    → Keeps n (if last
    then node_handles p.message.sender (with_load (joined slots) p.message.kind) (record n { parcels = at_key n.parcels key None })
    else only (record n { parcels = at_key n.parcels key (Some slots) }) Done).node
gathered_keeps true key p slots n =
    let counts = message_keeps (record n { parcels = at_key n.parcels key None }) p.message.sender (with_load (joined slots) p.message.kind) in
    (record { posted = counts.posted; notes = counts.notes }, message_keeps_outbox (record n { parcels = at_key n.parcels key None }) p.message.sender (with_load (joined slots) p.message.kind))
gathered_keeps false key p slots n = (record { posted = refl; notes = refl }, refl)

taken_in_keeps : (fits : Bool) (key : Key) (p : Piece) (slots : List (Option (List ℕ))) (n : Node)
    → Keeps n (if fits then gathers_piece key p slots n else ignores n).node
taken_in_keeps true key p slots n = gathered_keeps (is_complete slots) key p slots n
taken_in_keeps false key p slots n = keeps_self n

part_keeps : (key : Key) (p : Piece) (size : Option ℕ) (n : Node) → Keeps n (receives_part key p size n).node
part_keeps key p None n = keeps_self n
part_keeps key p (Some size) n =
    taken_in_keeps (fits_size size p && is_missing p.index (slots_or p.pieces (n.parcels key))) key p (slots_with p (n.parcels key)) n

as_keeps : (key : Option Key) (p : Piece) (n : Node) → Keeps n (receives_as key p n).node
as_keeps None p n = (message_keeps n p.message.sender p.message.kind, message_keeps_outbox n p.message.sender p.message.kind)
as_keeps (Some key) p n = part_keeps key p (size_for key.load key.name n) n

receives_keeps : (p : Piece) (n : Node) → Keeps n (receives p n).node
receives_keeps p n = as_keeps (key_of p.message) p n

-- what the end of the event asks
pub few_after : (at : ℕ) (p : Piece) (n m : Node) → m ≡ acted at (receives p n) → n.posted ≤ length n.notes * 2 ^ 64 → m.posted ≤ length m.notes * 2 ^ 64
few_after at p n m acts few =
    let counts = (receives_keeps p n).0 in
    rw acts (rw counts.posted (rw counts.notes few))

pub before_after : (at : ℕ) (p : Piece) (n m : Node) → m ≡ acted at (receives p n) → length n.outbox ≤ length m.outbox
before_after at p n m acts =
    rw acts (rw (receives_keeps p n).1 (rw (length-append n.outbox (pieces_in (receives p n).posts)) (omega arith)))

-- the event
pub handled_law : (at place : ℕ) (n : Node) (p : Piece) (rest : List Piece) (m last : Node)
    → take_out place n.inbox ≡ Some (record { taken = p; rest = rest })
    → m ≡ acted at (receives p (record n { inbox = rest }))
    → last ≡ concluded at (event.Handle n.me place) (length n.outbox) m
    → last ≡ node_after_handle at place n
handled_law at place n p rest m last taken acts ends =
    ends ∙ (concluded_is at (event.Handle n.me place) (receives p (record n { inbox = rest })) m n.outbox acts (receives_keeps p (record n { inbox = rest })).1
    ∙ sym (ap (λ o. after_taken at (event.Handle n.me place) o n) taken))

pub few_same : (n m : Node) → m ≡ n → n.posted ≤ length n.notes * 2 ^ 64 → m.posted ≤ length m.notes * 2 ^ 64
few_same n m same few = subst (λ (x : Node). x.posted ≤ length x.notes * 2 ^ 64) (sym same) few
