-- What is read off the node for which a desk stands, and papers for what a round gives.
use Rattle.std.proofs.Common.{◌≡◌, refl, sym, ap, ℕ, true, List, arith}
use Rattle.std.specs.Prelude.{IfSome, is_some}
use Rattle.std.specs.declared.option.Option.{Option}
use Rattle.std.specs.declared.option.Option.TheVariants.{None, Some}
use Rattle.crl_model.specs.declared.collective.Part.{Part}
use Rattle.crl_model.specs.declared.collective.Fold.{Fold}
use Rattle.crl_protocol.specs.Gathering.{Gathering, after_parts, gathers}
use Rattle.crl_protocol.specs.Node.{Node}
use Rattle.crl_gathering.specs.Lengths.{FoldFits}
use Rattle.crl_gathering.specs.RoundState.{RoundState, round_step, completes_round}
use Rattle.crl_desk.specs.declared.desk.Desk.{Desk}
use Rattle.crl_desk.specs.Desks.{state}
use Rattle.crl_meeting.specs.Meetings.{FitsPapers}

pub same_nodes : (old new : Desk) → state new ≡ state old → new.nodes ≡ old.nodes
same_nodes old new same = ap (λ (n : Node). n.nodes) same

whole : (o : Option (List Part)) (g : Gathering) (fold : Fold) → (after_parts o g).fold ≡ Some fold → is_some o ≡ true
whole None g fold e = absurd (cc)
whole (Some parts) g fold e = refl

-- who gives a fold completes the round
pub completes : (node : ℕ) (part : Part) (r : RoundState) (fold : Fold) → (round_step node part r).fold ≡ Some fold → completes_round node part r ≡ true
unfolding gathers
completes node part r fold e = whole _ _ fold e

pub fits_papers : (node nodes : ℕ) (part : Part) (r : RoundState) (o : Option Fold) → o ≡ (round_step node part r).fold → IfSome o (FoldFits part r.parts) → IfSome o (FitsPapers node nodes part r)
fits_papers node nodes part r None e fits = tt
fits_papers node nodes part r (Some fold) e fits = λ papers have.
    let h = have (completes node part r fold (sym e)) in
    record { fit = omega (arith, fits, h.fit); enough = h.enough }
