use Rattle.std.proofs.Common.{ap, sym, ◌∙◌}
use Rattle.crl_protocol.specs.World.{account}
use Rattle.crl_protocol.specs.Chosen.{Running}
use Rattle.crl_deeds.proofs.Laws.{follow_world, follow_events}
use Rattle.crl_plays.proofs.Runs.{plays_follow}
use Rattle.crl_plays.proofs.plays_are_runs.Goals as goal

pub returns : goal.returns
returns c count capacity blocks history left drafts run all =
    let r = plays_follow count capacity blocks history left drafts run all in
    let by = c.choices_give_all_runs.ensures.all count capacity blocks history r.end r.follows in
    let its = c.choices_make_runs.ensures.events count capacity blocks by.0 by.1 in
    record {
      reached = r.end;
      chosen = by;
      events = follow_events r.follows;
      world = follow_world r.follows;
      entries = ap (λ (x : Running). x.entries) by.2 ∙ its.entries ∙ ap (account count capacity) (sym (ap (λ (x : Running). x.events) by.2) ∙ follow_events r.follows);
      left_is = r.left_is;
      drafts_are = r.drafts_are;
    }
