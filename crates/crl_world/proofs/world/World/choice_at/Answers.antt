use Rattle.std.proofs.Common.{◌∙◌, ◌<◌, ap, subst, length, zero-add, Some}
use Rattle.std.specs.Prelude.{slice_get}
use Rattle.crl_model.specs.declared.choice.Choice.TheVariants as choice
use Rattle.crl_world.specs.Choosing.{choices_in, left_in}
use Rattle.crl_world.specs.Seen.{world_seen}
use Rattle.crl_world.proofs.RowSums.{handle_at, carry_at}
use Rattle.crl_world.proofs.world.World.choice_at.Goals as goal

pub returns-in-Inboxes : goal.returns-in-Inboxes
returns-in-Inboxes g c =
    let w = world_seen g.N.Member.state c.args.self.now in
    ap (λ rows. slice_get (choices_in rows (left_in c.args.left.now) w c.args.i) c.args.place) c.in-Inboxes.is
    ∙ handle_at c.args.i 0 c.args.place (w.nodes c.args.i).inbox (subst (λ rows. c.args.place < length (choices_in rows (left_in c.args.left.now) w c.args.i)) c.in-Inboxes.is c.requires.there)
    ∙ ap (λ q. Some (choice.Handle c.args.i q)) (zero-add c.args.place)

pub returns-in-Outboxes : goal.returns-in-Outboxes
returns-in-Outboxes g c =
    let w = world_seen g.N.Member.state c.args.self.now in
    ap (λ rows. slice_get (choices_in rows (left_in c.args.left.now) w c.args.i) c.args.place) c.in-Outboxes.is
    ∙ carry_at c.args.i 0 c.args.place (w.nodes c.args.i).outbox (subst (λ rows. c.args.place < length (choices_in rows (left_in c.args.left.now) w c.args.i)) c.in-Outboxes.is c.requires.there)
    ∙ ap (λ q. Some (choice.Carry c.args.i q)) (zero-add c.args.place)
