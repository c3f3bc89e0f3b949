-- A kind is that of its form, name, number and body; and a kind that is made of them has them.
use Rattle.std.proofs.Common.{◌≡◌, ℕ, Bool, true, false, ◌&&◌, eqb, List, [], length, Some, None, refl, sym, ap}
use Rattle.std.proofs.lemmas.Bool.{and_parts, eqb-true}
use Rattle.std.proofs.lemmas.List.{nil_from_length}
use Rattle.crl_model.specs.declared.name.Name.{Name}
use Rattle.crl_model.specs.declared.collective.Part.{Part}
use Rattle.crl_model.specs.declared.collective.Part.TheVariants as model_parts
use Rattle.crl_model.specs.declared.collective.Fold.{Fold}
use Rattle.crl_model.specs.declared.collective.Fold.TheVariants as model_folds
use Rattle.crl_model.specs.declared.message.Told.{Told}
use Rattle.crl_model.specs.declared.message.Told.TheVariants as model_tolds
use Rattle.crl_model.specs.declared.message.Granted.{Granted}
use Rattle.crl_model.specs.declared.message.Granted.TheVariants as model_granteds
use Rattle.crl_model.specs.declared.message.Kind.{Kind}
use Rattle.crl_model.specs.declared.message.Kind.TheVariants as kinds
use Rattle.crl_model.specs.declared.message.DeleteTold.TheVariants as told
use Rattle.crl_wire.specs.declared.form.Form.{Form}
use Rattle.crl_wire.specs.declared.form.Form.TheVariants.{InfoAsk, InfoIs, AskRead, AskWrite, Grant, Recall, ReturnPlain, ReturnBytes, DeleteAsk, DeleteIs, Purge, Purged, Come, Result, Yield, Release}
use Rattle.crl_wire.specs.declared.form.ToldForm.TheVariants as tolds
use Rattle.crl_wire.specs.declared.form.GrantedForm.TheVariants as granteds
use Rattle.crl_wire.specs.declared.form.PartForm.TheVariants as parts
use Rattle.crl_wire.specs.declared.form.FoldForm.TheVariants as folds
use Rattle.crl_wire.specs.declared.header.Header.{Header}
use Rattle.crl_wire.specs.Table.{shape_of, is_home, is_number, is_len}
use Rattle.crl_wire.specs.Frame.{form_of, told_form, granted_form, part_form, fold_form, name_of, no_name, number_of, body_of, size_in, part_body, fold_body, granted_body, FitsPart, FitsFold, FitsValues}
use Rattle.crl_wire.specs.Decoding.{kind_from, told_from, granted_from, part_from, fold_from, name_in}
use Rattle.crl_wire.proofs.ValueLemmas.{IsBytes, value_again, value_back, value_fits, total_again, total_back, total_fits}

-- ---- a kind is made again of what it says

told_again : (told : Told) → told_from (told_form told) (size_in told) ≡ told
told_again (model_tolds.Live size) = refl
told_again model_tolds.Unknown = refl
told_again model_tolds.Deleted = refl

granted_again : (granted : Granted) → granted_from (granted_form granted) (granted_body granted) ≡ granted
granted_again (model_granteds.Shared bytes) = refl
granted_again (model_granteds.Exclusive bytes) = refl
granted_again model_granteds.Upgrade = refl

part_again : (part : Part) → FitsPart part → part_from (part_form part) (part_body part) ≡ part
part_again model_parts.Barrier fits = refl
part_again (model_parts.Send bytes) fits = refl
part_again model_parts.Receive fits = refl
part_again (model_parts.Sum value) fits = ap model_parts.Sum (value_again value fits)
part_again (model_parts.Min value) fits = ap model_parts.Min (value_again value fits)
part_again (model_parts.Max value) fits = ap model_parts.Max (value_again value fits)

fold_again : (f : Fold) → FitsFold f → fold_from (fold_form f) (fold_body f) ≡ f
fold_again model_folds.Barrier fits = refl
fold_again (model_folds.Broadcast bytes) fits = refl
fold_again (model_folds.Sum value) fits = ap model_folds.Sum (total_again value fits)
fold_again (model_folds.Min value) fits = ap model_folds.Min (value_again value fits)
fold_again (model_folds.Max value) fits = ap model_folds.Max (value_again value fits)
fold_again model_folds.Mixed fits = refl

pub kind_again : (k : Kind) → is_number (shape_of (form_of k)).number (number_of k) ≡ true → FitsValues k → kind_from (form_of k) (name_of k) (number_of k) (body_of k) ≡ k
kind_again (kinds.InfoAsk name) n fits = refl
kind_again (kinds.InfoIs name told) n fits = ap (kinds.InfoIs name) (told_again told)
kind_again (kinds.Ask name false have) n fits = ap (kinds.Ask name false) (sym (eqb-true have 0 n))
kind_again (kinds.Ask name true have) n fits = refl
kind_again (kinds.Grant name version granted) n fits = ap (kinds.Grant name version) (granted_again granted)
kind_again (kinds.Recall name version) n fits = refl
kind_again (kinds.Return name version None) n fits = refl
kind_again (kinds.Return name version (Some bytes)) n fits = refl
kind_again (kinds.DeleteAsk name) n fits = refl
kind_again (kinds.DeleteIs name told) n fits = refl
kind_again (kinds.Purge name) n fits = refl
kind_again (kinds.Purged name) n fits = refl
kind_again (kinds.Come round part) n fits = ap (kinds.Come round) (part_again part fits)
kind_again (kinds.Result round f) n fits = ap (kinds.Result round) (fold_again f fits)
kind_again (kinds.Yield name version) n fits = refl
kind_again (kinds.Release name version bytes) n fits = refl

-- ---- what a kind that was made says

pub form_back : (f : Form) (name : Name) (number : ℕ) (body : List ℕ) → form_of (kind_from f name number body) ≡ f
form_back InfoAsk name number body = refl
form_back (InfoIs tolds.Live) name number body = refl
form_back (InfoIs tolds.Unknown) name number body = refl
form_back (InfoIs tolds.Deleted) name number body = refl
form_back AskRead name number body = refl
form_back AskWrite name number body = refl
form_back (Grant granteds.Shared) name number body = refl
form_back (Grant granteds.Exclusive) name number body = refl
form_back (Grant granteds.Upgrade) name number body = refl
form_back Recall name number body = refl
form_back ReturnPlain name number body = refl
form_back ReturnBytes name number body = refl
form_back DeleteAsk name number body = refl
form_back (DeleteIs told.Done) name number body = refl
form_back (DeleteIs told.Unknown) name number body = refl
form_back (DeleteIs told.Deleted) name number body = refl
form_back Purge name number body = refl
form_back Purged name number body = refl
form_back (Come parts.Barrier) name number body = refl
form_back (Come parts.Send) name number body = refl
form_back (Come parts.Receive) name number body = refl
form_back (Come parts.Sum) name number body = refl
form_back (Come parts.Min) name number body = refl
form_back (Come parts.Max) name number body = refl
form_back (Result folds.Barrier) name number body = refl
form_back (Result folds.Broadcast) name number body = refl
form_back (Result folds.Sum) name number body = refl
form_back (Result folds.Min) name number body = refl
form_back (Result folds.Max) name number body = refl
form_back (Result folds.Mixed) name number body = refl
form_back Yield name number body = refl
form_back Release name number body = refl

no_name_in : (h : Header) (rest : Bool) → (eqb h.home 0 && eqb h.serial 0 && rest) ≡ true → no_name ≡ name_in h
no_name_in h rest e =
    let p = and_parts (eqb h.home 0 && eqb h.serial 0) rest e in
    let q = and_parts (eqb h.home 0) (eqb h.serial 0) p.0 in
    let home : 0 ≡ h.home = sym (eqb-true h.home 0 q.0) in
    let serial : 0 ≡ h.serial = sym (eqb-true h.serial 0 q.1) in
    λ i. record { home = home i; serial = serial i }

pub name_back : (f : Form) (h : Header) (number : ℕ) (body : List ℕ) → is_home (shape_of f).home h ≡ true → name_of (kind_from f (name_in h) number body) ≡ name_in h
name_back InfoAsk h number body e = refl
name_back (InfoIs form) h number body e = refl
name_back AskRead h number body e = refl
name_back AskWrite h number body e = refl
name_back (Grant form) h number body e = refl
name_back Recall h number body e = refl
name_back ReturnPlain h number body e = refl
name_back ReturnBytes h number body e = refl
name_back DeleteAsk h number body e = refl
name_back (DeleteIs form) h number body e = refl
name_back Purge h number body e = refl
name_back Purged h number body e = refl
name_back (Come parts.Barrier) h number body e = no_name_in h (eqb h.addressee 0) e
name_back (Come parts.Send) h number body e = no_name_in h (eqb h.addressee 0) e
name_back (Come parts.Receive) h number body e = no_name_in h (eqb h.addressee 0) e
name_back (Come parts.Sum) h number body e = no_name_in h (eqb h.addressee 0) e
name_back (Come parts.Min) h number body e = no_name_in h (eqb h.addressee 0) e
name_back (Come parts.Max) h number body e = no_name_in h (eqb h.addressee 0) e
name_back (Result folds.Barrier) h number body e = no_name_in h (eqb h.sender 0) e
name_back (Result folds.Broadcast) h number body e = no_name_in h (eqb h.sender 0) e
name_back (Result folds.Sum) h number body e = no_name_in h (eqb h.sender 0) e
name_back (Result folds.Min) h number body e = no_name_in h (eqb h.sender 0) e
name_back (Result folds.Max) h number body e = no_name_in h (eqb h.sender 0) e
name_back (Result folds.Mixed) h number body e = no_name_in h (eqb h.sender 0) e
name_back Yield h number body e = refl
name_back Release h number body e = refl

pub number_back : (f : Form) (name : Name) (number : ℕ) (body : List ℕ) → is_number (shape_of f).number number ≡ true → number_of (kind_from f name number body) ≡ number
number_back InfoAsk name number body e = sym (eqb-true number 0 e)
number_back (InfoIs tolds.Live) name number body e = refl
number_back (InfoIs tolds.Unknown) name number body e = sym (eqb-true number 0 e)
number_back (InfoIs tolds.Deleted) name number body e = sym (eqb-true number 0 e)
number_back AskRead name number body e = sym (eqb-true number 0 e)
number_back AskWrite name number body e = refl
number_back (Grant form) name number body e = refl
number_back Recall name number body e = refl
number_back ReturnPlain name number body e = refl
number_back ReturnBytes name number body e = refl
number_back DeleteAsk name number body e = sym (eqb-true number 0 e)
number_back (DeleteIs told.Done) name number body e = sym (eqb-true number 0 e)
number_back (DeleteIs told.Unknown) name number body e = sym (eqb-true number 0 e)
number_back (DeleteIs told.Deleted) name number body e = sym (eqb-true number 0 e)
number_back Purge name number body e = sym (eqb-true number 0 e)
number_back Purged name number body e = sym (eqb-true number 0 e)
number_back (Come form) name number body e = refl
number_back (Result form) name number body e = refl
number_back Yield name number body e = refl
number_back Release name number body e = refl

none : (body : List ℕ) → eqb (length body) 0 ≡ true → [] ≡ body
none body e = sym (nil_from_length body (eqb-true (length body) 0 e))

pub body_back : (f : Form) (name : Name) (number : ℕ) (body : List ℕ) → is_len (shape_of f).body (length body) ≡ true → IsBytes body → body_of (kind_from f name number body) ≡ body
body_back InfoAsk name number body e fits = none body e
body_back (InfoIs tolds.Live) name number body e fits = none body e
body_back (InfoIs tolds.Unknown) name number body e fits = none body e
body_back (InfoIs tolds.Deleted) name number body e fits = none body e
body_back AskRead name number body e fits = none body e
body_back AskWrite name number body e fits = none body e
body_back (Grant granteds.Shared) name number body e fits = refl
body_back (Grant granteds.Exclusive) name number body e fits = refl
body_back (Grant granteds.Upgrade) name number body e fits = none body e
body_back Recall name number body e fits = none body e
body_back ReturnPlain name number body e fits = none body e
body_back ReturnBytes name number body e fits = refl
body_back DeleteAsk name number body e fits = none body e
body_back (DeleteIs told.Done) name number body e fits = none body e
body_back (DeleteIs told.Unknown) name number body e fits = none body e
body_back (DeleteIs told.Deleted) name number body e fits = none body e
body_back Purge name number body e fits = none body e
body_back Purged name number body e fits = none body e
body_back (Come parts.Barrier) name number body e fits = none body e
body_back (Come parts.Send) name number body e fits = refl
body_back (Come parts.Receive) name number body e fits = none body e
body_back (Come parts.Sum) name number body e fits = value_back body (eqb-true (length body) 8 e) fits
body_back (Come parts.Min) name number body e fits = value_back body (eqb-true (length body) 8 e) fits
body_back (Come parts.Max) name number body e fits = value_back body (eqb-true (length body) 8 e) fits
body_back (Result folds.Barrier) name number body e fits = none body e
body_back (Result folds.Broadcast) name number body e fits = refl
body_back (Result folds.Sum) name number body e fits = total_back body (eqb-true (length body) 16 e) fits
body_back (Result folds.Min) name number body e fits = value_back body (eqb-true (length body) 8 e) fits
body_back (Result folds.Max) name number body e fits = value_back body (eqb-true (length body) 8 e) fits
body_back (Result folds.Mixed) name number body e fits = none body e
body_back Yield name number body e fits = none body e
body_back Release name number body e fits = refl

pub values_fit : (f : Form) (name : Name) (number : ℕ) (body : List ℕ) → IsBytes body → FitsValues (kind_from f name number body)
values_fit InfoAsk name number body fits = tt
values_fit (InfoIs form) name number body fits = tt
values_fit AskRead name number body fits = tt
values_fit AskWrite name number body fits = tt
values_fit (Grant form) name number body fits = tt
values_fit Recall name number body fits = tt
values_fit ReturnPlain name number body fits = tt
values_fit ReturnBytes name number body fits = tt
values_fit DeleteAsk name number body fits = tt
values_fit (DeleteIs form) name number body fits = tt
values_fit Purge name number body fits = tt
values_fit Purged name number body fits = tt
values_fit (Come parts.Barrier) name number body fits = tt
values_fit (Come parts.Send) name number body fits = tt
values_fit (Come parts.Receive) name number body fits = tt
values_fit (Come parts.Sum) name number body fits = value_fits body fits
values_fit (Come parts.Min) name number body fits = value_fits body fits
values_fit (Come parts.Max) name number body fits = value_fits body fits
values_fit (Result folds.Barrier) name number body fits = tt
values_fit (Result folds.Broadcast) name number body fits = tt
values_fit (Result folds.Sum) name number body fits = total_fits body fits
values_fit (Result folds.Min) name number body fits = value_fits body fits
values_fit (Result folds.Max) name number body fits = value_fits body fits
values_fit (Result folds.Mixed) name number body fits = tt
values_fit Yield name number body fits = tt
values_fit Release name number body fits = tt
