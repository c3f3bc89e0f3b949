-- What holds of a node that is free holds after each call that it may make.
use Rattle.std.proofs.Common.{◌≡◌, ℕ, Bool, true, false, None, Some, Option, if◌then◌else◌, refl, sym, subst}
use Rattle.std.proofs.lemmas.Bool.{eqb-true, not-false}
use Rattle.crl_model.specs.declared.call.Call.{Call}
use Rattle.crl_model.specs.declared.call.Call.TheVariants as call
use Rattle.crl_model.specs.declared.call.Refusal.{Refusal}
use Rattle.crl_protocol.specs.Node.{Node, Free, is_mine, lifetime_of}
use Rattle.crl_protocol.specs.Verdict.{refuse_if, verdict}
use Rattle.crl_protocol.specs.Calls.{takes_call, call_or_refuse, node_calls}
use Rattle.crl_deeds.specs.NodeFacts.{Fits, free}
use Rattle.crl_deeds.proofs.Fits.LifetimeCalls.{none_of, live_by, mapped_by, good_refused, good_delete, good_map, good_unmap}
use Rattle.crl_deeds.proofs.Fits.Parts.{Good, good_only, good_recording}
use Rattle.crl_deeds.proofs.Fits.SectionCalls.{good_start, good_end_read, good_end_write, good_flush, good_come}
use Rattle.crl_deeds.proofs.Fits.Sections.{fits_made}
use Rattle.crl_protocol.specs.World.{is_call}

pub allowed_by : (b : Bool) (why : Refusal) → refuse_if b why ≡ None → b ≡ false
allowed_by true why e = cc
allowed_by false why e = refl

of_true : (b : Bool) (x y : Option Refusal) → (if b then x else y) ≡ None → b ≡ true → x ≡ None
of_true true x y e w = e
of_true false x y e w = cc

good_taken : (i : ℕ) (n : Node) (c : Call) → verdict (free n) c ≡ None → is_call (free n) c None ≡ true → Fits i (free n) → Good i (takes_call c (free n))
unfolding verdict takes_call
good_taken i n (call.Create size) v e f = record { node = fits_made i size (free n) f; posts = tt }
good_taken i n (call.Delete name) v e f = good_delete i n name f
good_taken i n (call.Map name) v e f =
    good_map i n name (n.maps name) refl (λ mine. live_by (lifetime_of n name).stage (none_of _ _ (of_true (is_mine n name) _ _ v mine)).0) f
good_taken i n (call.Unmap name) v e f =
    good_recording i _ _ (good_unmap i n name (n.maps name) refl (not-false _ (allowed_by _ _ (none_of _ _ v).1)) f)
good_taken i n (call.StartRead name) v e f = let m = mapped_by (n.maps name) (none_of _ _ v).0 in good_start i n false name m.0 m.1 f
good_taken i n (call.EndRead name) v e f = good_end_read i n name f
good_taken i n (call.StartWrite name) v e f = let m = mapped_by (n.maps name) (none_of _ _ v).0 in good_start i n true name m.0 m.1 f
good_taken i n (call.EndWrite name after) v e f = good_end_write i n name after (not-false _ (allowed_by _ _ (none_of _ _ v).1)) (eqb-true _ _ e) f
good_taken i n (call.Put name offset len) v e f = good_only i (free n) f
good_taken i n (call.Add name offset) v e f = good_only i (free n) f
good_taken i n (call.Flush name) v e f = good_flush i (free n) name f
good_taken i n (call.Come part) v e f = good_come i n part f

good_as : (i : ℕ) (n : Node) (c : Call) (o : Option Refusal) → verdict (free n) c ≡ o → is_call (free n) c o ≡ true
    → Fits i (free n) → Good i (call_or_refuse o c (free n))
good_as i n c None v e f = good_taken i n c v e f
good_as i n c (Some why) v e f = good_refused i (free n) why c f

pub good_call : (i : ℕ) (n : Node) (c : Call) → n.activity ≡ Free → is_call n c (verdict n c) ≡ true → Fits i n → Good i (node_calls c n)
good_call i n c e =
    subst (λ a. is_call (record n { activity = a }) c (verdict (record n { activity = a }) c) ≡ true → Fits i (record n { activity = a }) → Good i
    (node_calls c (record n { activity = a }))) (sym e)
    (λ w f. good_as i n c (verdict (free n) c) refl w f)
