use Rattle.std.proofs.Common.{◌∙◌, sym, ap, arith, ◌∷◌, take, List, ℕ}
use Rattle.crl_account_reader.proofs.Parts.{parts_at, parts_none, parts_behind}
use Rattle.crl_account_reader.proofs.field.cut.Goals as goal

pub returns-then-byte-separator-clause-first : goal.returns-then-byte-separator-clause-first
returns-then-byte-separator-clause-first c =
    parts_at c.args.separator c.args.text.now c.loop-i.i (omega arith) c.if-byte-separator.true c.loop-i.invariant
    ∙ ap (λ (ps : List (List ℕ)). take c.loop-i.i c.args.text.now ∷ ps) (sym (parts_behind c.args.separator c.args.text.now c.loop-i.i))

pub returns-clause-first : goal.returns-clause-first
returns-clause-first c = parts_none c.args.separator c.args.text.now (λ k h. c.loop-i.invariant k (omega arith))
