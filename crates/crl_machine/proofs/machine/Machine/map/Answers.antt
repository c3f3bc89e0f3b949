use Rattle.std.proofs.Common.{rules, ap, sym, ◌∙◌, ◌+◌}
use Rattle.crl_machine.specs.declared.share.Share.{Share}
use Rattle.crl_machine.specs.Judging.{with_share}
use Rattle.crl_machine.specs.SingleMachine.{State}
use Rattle.crl_table.specs.Tables.{table_of}
use Rattle.crl_machine.specs.Seen.{state}
use Rattle.crl_machine.proofs.States.{put_maps, share_is}
use Rattle.crl_machine.proofs.machine.Machine.map.Goals as goal

pub returns-clause-judged : goal.returns-clause-judged
unfolding state
returns-clause-judged c =
    let is = c.share-share.ensures ∙ share_is c.args.self.now.nodes (table_of c.args.self.now.regions) c.args.self.now.rows.items c.args.node c.args.name.now c.in-Some.region.now (sym c.in-Some.ensures) in
    record {
      legal = search rules;
      made = c.put_share.ensures ∙ ap (λ (s : State). with_share s c.args.node c.args.name.now (record c.share-share.result { maps = c.share-share.result.maps + 1 })) c.ready_share.ensures.state ∙ put_maps _ _ _ _ _ _ is (ap (λ (t : Share). t.maps + 1) is);
    }
