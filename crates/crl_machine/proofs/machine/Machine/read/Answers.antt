use Rattle.std.proofs.Common.{rules, ap, sym, ◌∙◌, ◌-◌}
use Rattle.crl_machine.specs.declared.share.Share.{Share}
use Rattle.crl_table.specs.Tables.{table_of}
use Rattle.crl_machine.specs.Seen.{state}
use Rattle.crl_machine.proofs.States.{put_reads, share_is}
use Rattle.crl_machine.proofs.machine.Machine.read.Goals as goal

pub returns : goal.returns
unfolding state
returns c =
    let is = c.share-share.ensures ∙ share_is c.args.self.now.nodes (table_of c.args.self.now.regions) c.args.self.now.rows.items c.args.node c.args.name.now c.in-Some.region.now (sym c.in-Some.ensures) in
    record {
      legal = search rules;
      made = c.put_share.ensures ∙ put_reads _ _ _ _ _ _ is (ap (λ (t : Share). t.reads - 1) is);
    }
