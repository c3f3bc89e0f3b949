use Rattle.std.proofs.Common.{◌++◌, ap, sym, ◌∙◌}
use Rattle.crl_outbox.proofs.Posting.{bare_piece}
use Rattle.crl_outbox.proofs.mailbox.Mailbox.post.Goals as goal

pub returns-clause-list : goal.returns-clause-list
returns-clause-list c = c.put.ensures.list ∙ ap (λ ps. c.args.self.now.list ++ ps) (sym (bare_piece c.args.message c.requires.bare))
