use Rattle.std.proofs.Common.{◌+◌, ◌∙◌, ap, length}
use Rattle.crl_model.specs.Names.{at_node}
use Rattle.crl_stages.specs.StagesState.{lifetimes_of}
use Rattle.crl_stages.proofs.Places.{past_rows}
use Rattle.crl_stages.proofs.stages.Stages.skip.Goals as goal

pub returns-clause-lifetimes : goal.returns-clause-lifetimes
returns-clause-lifetimes c =
    let old = c.args.self.now in
    c.push.ensures.lifetimes ∙ ap (at_node (lifetimes_of old) (length old.rows + 1)) c.unknown.ensures.lifetime ∙ past_rows old.rows
