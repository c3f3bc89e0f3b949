use Rattle.std.proofs.Common.{◌≡◌, ◌≤◌, ◌*◌, true, length, ◌∙◌, ap, sym, arith}
use Rattle.crl_pieces.specs.Pieces.{is_complete, joined}
use Rattle.crl_pieces.specs.Gathering.{slots_of}
use Rattle.crl_pieces.proofs.Slots.{joined_is}
use Rattle.crl_pieces.proofs.Cut.{count_covers}
use Rattle.crl_pieces.proofs.gather.Gather.into_whole.Goals as goal

pub returns : goal.returns
returns c =
    let came = c.self.inside.came.items in
    let whole = c.self.inside.whole in
    let complete : is_complete (slots_of came whole) ≡ true = ap (λ g. is_complete g.slots) c.self.view_is ∙ c.requires in
    let covers : length whole ≤ length came * 32768 = omega (arith, count_covers (length whole), c.self.inside.number) in
    sym (joined_is came whole covers complete) ∙ ap (λ g. joined g.slots) c.self.view_is
