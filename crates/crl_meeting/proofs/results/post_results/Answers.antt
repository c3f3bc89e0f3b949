use Rattle.std.proofs.Common.{◌≡◌, ◌<◌, ◌-◌, ◌++◌, arith, sym, ap, ◌∙◌, append_assoc, append-nil}
use Rattle.crl_protocol.specs.Parcels.{pieces_in}
use Rattle.crl_meeting.specs.Meetings.{result_messages}
use Rattle.crl_meeting.proofs.Messages.{told_next}
use Rattle.crl_meeting.proofs.results.post_results.Goals as goal

pub loop-node-preserved : goal.loop-node-preserved
loop-node-preserved c =
    let at = c.loop-node in let h = at.invariant in let posted = c.post.ensures in let took = c.take-paper.ensures in
    let below : at.node < c.args.nodes = omega arith in
    record {
      papers = record { fit = omega (arith, h.papers.fit, took.size); enough = omega (arith, h.papers.enough, took.count) };
      posts = rw (posted.list, append_assoc, c.copy_fold-fold.ensures)
          (ap (λ ps. at.outbox.list ++ ps) (sym (told_next c.args.me at.node c.args.nodes c.args.round c.args.fold.now below)) ∙ h.posts);
      room = omega (arith, h.room, posted.room);
      places = posted.places ∙ h.places;
    }

pub returns-clause-list : goal.returns-clause-list
returns-clause-list c =
    let at = c.loop-node in let h = at.invariant in
    let none : 0 ≡ c.args.nodes - at.node = omega (arith, c.loop-node-test.false) in
    sym (append-nil at.outbox.list) ∙ ap (λ k. at.outbox.list ++ pieces_in (result_messages c.args.me at.node k c.args.round c.args.fold.now)) none ∙ h.posts
