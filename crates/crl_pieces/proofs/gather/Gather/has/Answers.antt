use Rattle.std.proofs.Common.{◌<◌, length, ap, ◌∙◌, arith}
use Rattle.std.specs.Prelude.{not}
use Rattle.crl_pieces.specs.Pieces.{is_missing}
use Rattle.crl_pieces.proofs.Slots.{slots_length, came_is}
use Rattle.crl_pieces.proofs.gather.Gather.has.Goals as goal

pub index-requires : goal.index-requires
index-requires c = omega (arith, c.requires, slots_length c.self.inside.came.items c.self.inside.whole, ap (λ g. length g.slots) c.self.view_is)

pub returns : goal.returns
returns c =
    let came = c.self.inside.came.items in
    let whole = c.self.inside.whole in
    let below : c.args.index < length came = omega (arith, c.requires, slots_length came whole, ap (λ g. length g.slots) c.self.view_is) in
    c.index.ensures ∙ came_is c.args.index came whole c.index.result.now below ∙ ap (λ g. not (is_missing c.args.index g.slots)) c.self.view_is
