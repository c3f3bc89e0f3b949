use Rattle.std.proofs.Common.{◌≡◌, ◌<◌, true, false, Some, ◌∙◌, sym, ap, subst, arith, length}
use Rattle.crl_model.specs.FoldOf.{fold_of}
use Rattle.crl_protocol.specs.Gathering.{RoundStep}
use Rattle.crl_protocol.specs.Places.{put}
use Rattle.crl_gathering.specs.Lengths.{FoldFits}
use Rattle.crl_gathering.specs.RoundState.{RoundState, gathering_of, next_round, are_there, present}
use Rattle.crl_gathering.proofs.Bytes.{fold_fits}
use Rattle.crl_gathering.proofs.Filling.{last_came, one_came}
use Rattle.crl_gathering.proofs.round.Round.contribute.Goals as goal

pub returns-then-is_whole-clause-gathering : goal.returns-then-is_whole-clause-gathering
returns-then-is_whole-clause-gathering c =
    let s = c.args.self.now in let made = c.put.ensures.state in
    let within : c.args.node < length s.parts = omega arith in
    let all : are_there (put c.args.node (Some c.args.part) s.parts) ≡ true = ap (λ (r : RoundState). are_there r.parts) (sym made) ∙ sym c.is_whole.ensures ∙ c.if-is_whole.true in
    c.close.ensures.gathering ∙ ap next_round made ∙ sym (ap (λ (r : RoundStep). r.gathering) (last_came c.args.node c.args.part s within c.put.ensures.places all))

pub returns-then-is_whole-clause-fold : goal.returns-then-is_whole-clause-fold
returns-then-is_whole-clause-fold c =
    let s = c.args.self.now in let made = c.put.ensures.state in
    let within : c.args.node < length s.parts = omega arith in
    let all : are_there (put c.args.node (Some c.args.part) s.parts) ≡ true = ap (λ (r : RoundState). are_there r.parts) (sym made) ∙ sym c.is_whole.ensures ∙ c.if-is_whole.true in
    ap Some (c.close.ensures.fold ∙ ap (λ (r : RoundState). fold_of (present r.parts)) made) ∙ sym (ap (λ (r : RoundStep). r.fold) (last_came c.args.node c.args.part s within c.put.ensures.places all))

pub returns-then-is_whole-clause-bytes : goal.returns-then-is_whole-clause-bytes
returns-then-is_whole-clause-bytes c =
    let s = c.args.self.now in
    subst (FoldFits c.args.part s.parts) (sym (c.close.ensures.fold ∙ ap (λ (r : RoundState). fold_of (present r.parts)) c.put.ensures.state)) (fold_fits c.args.node c.args.part s.parts)

pub returns-else-is_whole-clause-gathering : goal.returns-else-is_whole-clause-gathering
returns-else-is_whole-clause-gathering c =
    let s = c.args.self.now in let made = c.put.ensures.state in
    let within : c.args.node < length s.parts = omega arith in
    let some : are_there (put c.args.node (Some c.args.part) s.parts) ≡ false = ap (λ (r : RoundState). are_there r.parts) (sym made) ∙ sym c.is_whole.ensures ∙ c.if-is_whole.false in
    ap gathering_of made ∙ sym (ap (λ (r : RoundStep). r.gathering) (one_came c.args.node c.args.part s within c.put.ensures.places some))

pub returns-else-is_whole-clause-fold : goal.returns-else-is_whole-clause-fold
returns-else-is_whole-clause-fold c =
    let s = c.args.self.now in let made = c.put.ensures.state in
    let within : c.args.node < length s.parts = omega arith in
    let some : are_there (put c.args.node (Some c.args.part) s.parts) ≡ false = ap (λ (r : RoundState). are_there r.parts) (sym made) ∙ sym c.is_whole.ensures ∙ c.if-is_whole.false in
    sym (ap (λ (r : RoundStep). r.fold) (one_came c.args.node c.args.part s within c.put.ensures.places some))
