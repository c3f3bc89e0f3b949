use Rattle.std.proofs.Common.{◌∙◌, ap}
use Rattle.std.specs.List.{list_all}
use Rattle.crl_pieces.specs.Pieces.{is_complete}
use Rattle.crl_pieces.proofs.Slots.{complete_is}
use Rattle.crl_pieces.proofs.gather.Gather.is_complete.Goals as goal

pub returns : goal.returns
returns c =
    c.all_came.ensures ∙ ap (list_all (λ came. came)) c.as_slice.ensures.value
    ∙ complete_is c.self.inside.came.items c.self.inside.whole ∙ ap (λ g. is_complete g.slots) c.self.view_is
