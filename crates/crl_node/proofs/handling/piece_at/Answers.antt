use Rattle.std.proofs.Common.{◌∙◌, ap}
use Rattle.std.specs.declared.option.Option.TheVariants.{Some}
use Rattle.crl_node.proofs.Taking.{taken_at}
use Rattle.crl_node.proofs.handling.piece_at.Goals as goal

pub returns : goal.returns
returns c = ap Some c.piece.ensures ∙ taken_at c.args.place c.args.inbox.now.list c.piece.result.now c.requires
