-- An act and the end of its event make the event of the protocol.
use Rattle.std.proofs.Common.{◌≡◌, ℕ, ◌-◌, List, ◌++◌, refl, arith, length}
use Rattle.std.proofs.lemmas.List.{length-append}
use Rattle.crl_model.specs.declared.event.Event.{Event}
use Rattle.crl_model.specs.declared.piece.Piece.{Piece}
use Rattle.crl_protocol.specs.Node.{Node, Outcome}
use Rattle.crl_protocol.specs.Parcels.{pieces_in}
use Rattle.crl_protocol.specs.World.{commits}
use Rattle.crl_desk.specs.Desks.{acted}
use Rattle.crl_node.specs.Nodes.{concluded}

more : (xs ys : List Piece) → length (xs ++ ys) - length xs ≡ length ys
more xs ys = rw (length-append xs ys) (omega arith)

pub concluded_is : (at : ℕ) (e : Event) (o : Outcome) (m : Node) (before : List Piece) → m ≡ acted at o → o.node.outbox ≡ before
    → concluded at e (length before) m ≡ commits at e o
concluded_is at e o m before acts same = rw acts (rw (← same) (rw (more o.node.outbox (pieces_in o.posts)) refl))
