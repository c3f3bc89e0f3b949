use Rattle.std.proofs.Common.{◌≡◌, ◌∷◌, ◌∙◌}
use Rattle.crl_journal.proofs.Queues.{is_popped}
use Rattle.crl_journal.proofs.merging.pop.Goals as goal

pub returns : goal.returns
returns c =
    let first : c.index-journals-i.result ≡ c.in-Some.record ∷ c.pop.new.self = c.index-journals-i.is ∙ c.in-Some.ensures in
    is_popped c.args.journals.now c.args.i c.index-journals-i.result c.pop.new.self c.in-Some.record c.requires.0 c.index-journals-i.is first
