-- Which refusals a call may meet.
use Rattle.std.specs.Prelude.{Bool, true, false}
use Rattle.crl_model.specs.declared.call.CallKind.{CallKind}
use Rattle.crl_model.specs.declared.call.CallKind.TheVariants as kind
use Rattle.crl_model.specs.declared.call.Refusal.{Refusal}
use Rattle.crl_model.specs.declared.call.Refusal.TheVariants.{BadSize, NamesSpent, Unknown, Deleted, NotMapped, SectionOpen, InSection, WrongSize, TooMany, Mixed}

-- the home doesn't have the region
abbrev pub is_absent : Refusal → Bool
is_absent Unknown = true
is_absent Deleted = true
is_absent _ = false

-- the parts of a round don't agree
abbrev pub is_mixed : Refusal → Bool
is_mixed Mixed = true
is_mixed _ = false

-- A call of this word may be refused so when it is made.
abbrev pub may_meet : CallKind → Refusal → Bool
may_meet kind.Create BadSize = true
may_meet kind.Create NamesSpent = true
may_meet kind.Delete why = is_absent why
may_meet kind.Map TooMany = true
may_meet kind.Map why = is_absent why
may_meet kind.Unmap NotMapped = true
may_meet kind.Unmap InSection = true
may_meet kind.Flush NotMapped = true
may_meet kind.Flush InSection = true
may_meet kind.Read NotMapped = true
may_meet kind.Read SectionOpen = true
may_meet kind.Read TooMany = true
may_meet kind.Write NotMapped = true
may_meet kind.Write SectionOpen = true
may_meet kind.Send WrongSize = true
may_meet kind.Send why = is_mixed why
may_meet kind.Barrier why = is_mixed why
may_meet kind.Receive why = is_mixed why
may_meet kind.Sum why = is_mixed why
may_meet kind.Min why = is_mixed why
may_meet kind.Max why = is_mixed why
may_meet _ _ = false

-- It may be refused so when its answer is collected.
abbrev pub may_collect : CallKind → Refusal → Bool
may_collect kind.Delete why = is_absent why
may_collect kind.Map why = is_absent why
may_collect kind.Barrier why = is_mixed why
may_collect kind.Send why = is_mixed why
may_collect kind.Receive why = is_mixed why
may_collect kind.Sum why = is_mixed why
may_collect kind.Min why = is_mixed why
may_collect kind.Max why = is_mixed why
may_collect _ _ = false

-- the refusals of a call of this word, by whether the answer was collected
abbrev pub may_refuse : CallKind → Bool → Refusal → Bool
may_refuse word false why = may_meet word why
may_refuse word true why = may_collect word why
