-- The nodes but node 0 are told what a round gives.
use Rattle.std.proofs.Common.{◌≡◌, ap, ℕ, suc, ◌+◌, ◌-◌, ◌<◌, ◌++◌, arith}
use Rattle.crl_model.specs.declared.collective.Fold.{Fold}
use Rattle.crl_protocol.specs.Parcels.{pieces_of, pieces_in}
use Rattle.crl_meeting.specs.Meetings.{result_message, result_messages}

pub told_next : (sender node nodes round : ℕ) (fold : Fold) → node < nodes
    → pieces_in (result_messages sender node (nodes - node) round fold) ≡ pieces_of (result_message sender node round fold) ++ pieces_in (result_messages sender (node + 1) (nodes - (node + 1)) round fold)
told_next sender node nodes round fold below =
    let e : nodes - node ≡ suc (nodes - (node + 1)) = omega arith in
    ap (λ k. pieces_in (result_messages sender node k round fold)) e
