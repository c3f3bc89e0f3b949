use Rattle.std.proofs.Common.{rules, ap, ◌∙◌, ◌+◌}
use Rattle.crl_machine.specs.declared.share.Share.{Share}
use Rattle.crl_machine.specs.Seen.{state}
use Rattle.crl_machine.proofs.States.{put_reads}
use Rattle.crl_machine.proofs.machine.Machine.start_read.Goals as goal

pub returns : goal.returns
unfolding state
returns c = record {
  legal = search rules;
  made = c.put_share.ensures ∙ put_reads _ _ _ _ _ _ c.share-share.ensures (ap (λ (t : Share). t.reads + 1) c.share-share.ensures);
}
