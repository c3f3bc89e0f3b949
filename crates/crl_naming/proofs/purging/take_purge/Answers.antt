use Rattle.crl_model.specs.declared.message.Kind.TheVariants as kind
use Rattle.crl_protocol.specs.Node.{message_to}
use Rattle.crl_protocol.specs.Handlers.{purge_over}
use Rattle.crl_desk.specs.Desks.{state}
use Rattle.crl_naming.proofs.Unmaps.{purge_quiet, answer_law}
use Rattle.crl_naming.proofs.purging.take_purge.Goals as goal

pub returns-clause-state : goal.returns-clause-state
returns-clause-state c =
    let n = state c.args.desk.now in
    let name = c.args.name in
    answer_law c.args.at (message_to n c.args.from (kind.Purged name)) (state c.purge.new.desk) (purge_over name (n.maps name) n) _ (purge_quiet name (n.maps name) n)
    c.purge.ensures.state c.post.ensures.list
