-- The lines of calls in a worked run are computed.
use Rattle.std.proofs.Common.{[], ◌∷◌, refl}
use Rattle.crl_model.specs.declared.call.Call.TheVariants as call
use Rattle.crl_model.specs.declared.call.CallKind.TheVariants as word
use Rattle.crl_model.specs.declared.call.Refusal.TheVariants as refusal
use Rattle.crl_model.specs.declared.entry.Place.TheVariants.{Region}
use Rattle.crl_model.specs.declared.entry.What.TheVariants as what
use Rattle.crl_protocol.specs.Compute.{everything}
use Rattle.crl_protocol.specs.Node.{Made, Mapped, Done, Refused}
use Rattle.crl_protocol.specs.Chosen.{always_first}
use Rattle.crl_protocol.specs.Talk.{nothing, answered}
use Rattle.crl_protocol.specs.Worked.Words.{r0_1, TwoAreTold}
use Rattle.crl_protocol.specs.Worked.Deletes.{delete_by_another_script}

pub delete_by_another_lines : TwoAreTold delete_by_another_script always_first 24
unfolding everything
delete_by_another_lines = record {
  first = answered (call.Create 1) (Made r0_1) (what.Create r0_1 1 ∷ []) refl nothing;
  second =
      answered (call.Map r0_1) (Mapped r0_1 1) (what.Map r0_1 1 ∷ []) (refl, refl)
      (answered (call.Delete r0_1) Done (what.Deleting r0_1 ∷ what.Deleted r0_1 ∷ []) refl
      (answered (call.Unmap r0_1) Done (what.Unmap r0_1 ∷ []) refl
      (answered (call.Map r0_1) (Refused refusal.Deleted) (what.Refused word.Map (Region r0_1) refusal.Deleted ∷ []) (Region r0_1, refl, refl) nothing)));
}
