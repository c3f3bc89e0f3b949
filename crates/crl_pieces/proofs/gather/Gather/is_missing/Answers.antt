use Rattle.std.proofs.Common.{◌<◌, ◌≤◌, length, ◌∙◌, ap, sym, arith}
use Rattle.std.specs.Prelude.{not}
use Rattle.std.proofs.lemmas.Bool.{le-ltb}
use Rattle.crl_pieces.specs.Pieces.{is_missing}
use Rattle.crl_pieces.proofs.Slots.{missing_is, missing_past}
use Rattle.crl_pieces.proofs.gather.Gather.is_missing.Goals as goal

pub returns-then-index-len : goal.returns-then-index-len
returns-then-index-len c =
    let came = c.self.inside.came.items in
    let whole = c.self.inside.whole in
    let below : c.args.index < length came = omega (arith, c.if-index-len.true, c.len.ensures) in
    ap not c.index.ensures ∙ sym (missing_is c.args.index came whole c.index.result.now below) ∙ ap (λ g. is_missing c.args.index g.slots) c.self.view_is

pub returns-else-index-len : goal.returns-else-index-len
returns-else-index-len c =
    let came = c.self.inside.came.items in
    let whole = c.self.inside.whole in
    let past : length came ≤ c.args.index = omega (arith, c.if-index-len.false, c.len.ensures) in
    le-ltb c.args.index c.len.result c.if-index-len.false ∙ sym (missing_past c.args.index came whole past) ∙ ap (λ g. is_missing c.args.index g.slots) c.self.view_is
