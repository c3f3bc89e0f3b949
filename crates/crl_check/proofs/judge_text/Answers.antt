use Rattle.std.proofs.Common.{◌≡◌, ◌≤◌, ◌+◌, ◌++◌, ◌∷◌, [], length, arith, rules, length-append}
use Rattle.std.proofs.lemmas.Result.{err_from_is_err_and}
use Rattle.crl_machine.specs.Seen.{state}
use Rattle.crl_machine.specs.SingleMachine.{start}
use Rattle.crl_account_reader.proofs.Laws.{given_fits}
use Rattle.crl_check.proofs.Prefixes.{found_within}
use Rattle.crl_check.proofs.Texts.{says_fault, says_whole}
use Rattle.crl_check.proofs.judge_text.Goals as goal

pub returns-in_err-entry : goal.returns-in_err-entry
returns-in_err-entry c =
    let p = err_from_is_err_and c.from_residual-in_err-entry.result c.from_residual-in_err-entry.ensures.1 in
    let far = c.loop-reader.invariant in
    rw (p.1, p.2) (says_fault (start c.args.nodes) c.args.text.now far.given c.in_err-entry.field-0.0 c.next.new.self (c.in_err-entry.ensures.gave c.args.text.now far.given far.read))

pub take-requires : goal.take-requires
take-requires c =
    let far = c.loop-reader.invariant in
    let fits : length (far.given ++ c.in-Some.entry ∷ []) ≤ length c.args.text.now =
    given_fits c.args.text.now (far.given ++ c.in-Some.entry ∷ []) c.next.new.self (rw c.in-Some.is at (c.in_ok-entry.ensures.gave c.args.text.now far.given far.read)) in
    let longer : length (far.given ++ c.in-Some.entry ∷ []) ≡ length far.given + 1 = length-append far.given (c.in-Some.entry ∷ []) in
    let legal = found_within (start c.args.nodes) far.given c.loop-reader.judge.broken c.loop-reader.judge.legal (state c.loop-reader.judge.machine) far.judged in
    let below : c.loop-reader.judge.legal + 1 ≤ length c.args.text.now = omega (arith, fits, longer, legal) in
    record { room = search rules }

pub returns : goal.returns
returns c =
    let far = c.loop-reader.invariant in
    says_whole (start c.args.nodes) c.args.text.now far.given c.verdict.result (rw c.in_default.is at (c.in_ok-entry.ensures.gave c.args.text.now far.given far.read)).1
    (given_fits c.args.text.now far.given c.loop-reader.reader far.read) (c.verdict.ensures (start c.args.nodes) far.given far.judged)
