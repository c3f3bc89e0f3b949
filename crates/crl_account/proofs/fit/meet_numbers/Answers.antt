use Rattle.std.proofs.Common.{subst}
use Rattle.std.specs.List.{All}
use Rattle.crl_account.specs.Account.{FitsEntry}
use Rattle.crl_account.specs.Reports.{FitsRegion, FitsBlocked}
use Rattle.crl_account.proofs.fit.meet_numbers.Goals as goal

pub returns : goal.returns
returns c = rw (← c.report.view_is) (record {
  entries = subst (All FitsEntry) c.deref.ensures.value c.meet_entries.ensures;
  regions = subst (All FitsRegion) c.deref-2.ensures.value c.meet_regions.ensures;
  blocked = subst (All FitsBlocked) c.deref-3.ensures.value c.meet_causes.ensures;
  counts = c.meet_counts.ensures;
})
