use Rattle.std.proofs.Common.{◌∙◌, ap, sym, length}
use Rattle.crl_protocol.specs.Node.{Node}
use Rattle.crl_world.specs.Choosing.{choices_in, left_in}
use Rattle.crl_world.specs.Seen.{world_seen}
use Rattle.crl_world.proofs.RowSums.{handles_long, carries_long}
use Rattle.crl_world.proofs.world.World.count_at.Goals as goal

pub returns-in-Inboxes : goal.returns-in-Inboxes
returns-in-Inboxes g c =
    c.inbox_len.ensures ∙ ap (λ (n : Node). length n.inbox) c.node.ensures ∙ sym (handles_long c.args.i 0 _)
    ∙ ap (λ rows. length (choices_in rows (left_in c.args.left.now) (world_seen g.N.Member.state c.args.self.now) c.args.i)) (sym c.in-Inboxes.is)

pub returns-in-Outboxes : goal.returns-in-Outboxes
returns-in-Outboxes g c =
    c.outbox_len.ensures ∙ ap (λ (n : Node). length n.outbox) c.node-in-Outboxes.ensures ∙ sym (carries_long c.args.i 0 _)
    ∙ ap (λ rows. length (choices_in rows (left_in c.args.left.now) (world_seen g.N.Member.state c.args.self.now) c.args.i)) (sym c.in-Outboxes.is)
