-- The table: each form stands in it once, and what a header of it is.
use Rattle.std.proofs.Common.{◌≡◌, ℕ, ◌<◌, ◌≤◌, Bool, true, false, ◌&&◌, ◌||◌, not, cond, eqb, ltb, leb, List, [], ◌∷◌, Some, refl, subst, arith}
use Rattle.std.specs.Prelude.{find}
use Rattle.std.proofs.lemmas.Bool.{and_parts, eqb-true, ltb-true, leb-true}
use Rattle.crl_model.specs.declared.message.DeleteTold.TheVariants as told
use Rattle.crl_wire.specs.declared.form.Form.{Form}
use Rattle.crl_wire.specs.declared.form.Form.TheVariants.{InfoAsk, InfoIs, AskRead, AskWrite, Grant, Recall, ReturnPlain, ReturnBytes, DeleteAsk, DeleteIs, Purge, Purged, Come, Result, Yield, Release}
use Rattle.crl_wire.specs.declared.form.ToldForm.TheVariants as tolds
use Rattle.crl_wire.specs.declared.form.GrantedForm.TheVariants as granteds
use Rattle.crl_wire.specs.declared.form.PartForm.TheVariants as parts
use Rattle.crl_wire.specs.declared.form.FoldForm.TheVariants as folds
use Rattle.crl_wire.specs.declared.form.Home.{Home}
use Rattle.crl_wire.specs.declared.form.Home.TheVariants.{Sender, Addressee, ToZero, FromZero}
use Rattle.crl_wire.specs.declared.form.Body.{Body}
use Rattle.crl_wire.specs.declared.form.Body.TheVariants.{Empty, Region, Broadcast, Value, Total}
use Rattle.crl_wire.specs.declared.form.Shape.{Shape}
use Rattle.crl_wire.specs.declared.header.Header.{Header}
use Rattle.crl_wire.specs.Table.{shape_of, all_forms, is_kind, are_ends, is_home, is_number, is_len, is_place, is_shaped}
use Rattle.crl_wire.specs.Decoding.{form_at}

-- the form is found by its kind and flag
abbrev pub IsFound : Form → Type 0
IsFound f = (form_at (shape_of f).kind (shape_of f).flag ≡ Some f) × (is_kind (shape_of f).kind ≡ true)

pub is_found : (f : Form) → IsFound f
unfolding form_at
is_found InfoAsk = (refl, refl)
is_found (InfoIs tolds.Live) = (refl, refl)
is_found (InfoIs tolds.Unknown) = (refl, refl)
is_found (InfoIs tolds.Deleted) = (refl, refl)
is_found AskRead = (refl, refl)
is_found AskWrite = (refl, refl)
is_found (Grant granteds.Shared) = (refl, refl)
is_found (Grant granteds.Exclusive) = (refl, refl)
is_found (Grant granteds.Upgrade) = (refl, refl)
is_found Recall = (refl, refl)
is_found ReturnPlain = (refl, refl)
is_found ReturnBytes = (refl, refl)
is_found DeleteAsk = (refl, refl)
is_found (DeleteIs told.Done) = (refl, refl)
is_found (DeleteIs told.Unknown) = (refl, refl)
is_found (DeleteIs told.Deleted) = (refl, refl)
is_found Purge = (refl, refl)
is_found Purged = (refl, refl)
is_found (Come parts.Barrier) = (refl, refl)
is_found (Come parts.Send) = (refl, refl)
is_found (Come parts.Receive) = (refl, refl)
is_found (Come parts.Sum) = (refl, refl)
is_found (Come parts.Min) = (refl, refl)
is_found (Come parts.Max) = (refl, refl)
is_found (Result folds.Barrier) = (refl, refl)
is_found (Result folds.Broadcast) = (refl, refl)
is_found (Result folds.Sum) = (refl, refl)
is_found (Result folds.Min) = (refl, refl)
is_found (Result folds.Max) = (refl, refl)
is_found (Result folds.Mixed) = (refl, refl)
is_found Yield = (refl, refl)
is_found Release = (refl, refl)

find_passes : {X : Type 0} (p : X → Bool) (xs : List X) (x : X) → find p xs ≡ Some x → p x ≡ true
find_passes {X} p [] x e = absurd cc
find_passes {X} p (y ∷ ys) x e = at_first (p y) refl e (λ (later : find p ys ≡ Some x). find_passes p ys x later)
  where
    at_first : (b : Bool) → p y ≡ b → cond b (Some y) (find p ys) ≡ Some x → (find p ys ≡ Some x → p x ≡ true) → p x ≡ true
    at_first true test e later = let same : y ≡ x = cc in subst (λ (z : X). p z ≡ true) same test
    at_first false test e later = later e

pub found_is : (kind flag : ℕ) (f : Form) → form_at kind flag ≡ Some f → ((shape_of f).kind ≡ kind) × ((shape_of f).flag ≡ flag)
unfolding form_at
found_is kind flag f e =
    let p = and_parts (eqb (shape_of f).kind kind) (eqb (shape_of f).flag flag) (find_passes (λ (g : Form). eqb (shape_of g).kind kind && eqb (shape_of g).flag flag) all_forms f e) in
    (eqb-true (shape_of f).kind kind p.0, eqb-true (shape_of f).flag flag p.1)

-- ---- the parts of the test of a header

pub record Parts (s : Shape) (h : Header) : Type 0 where
  pub ends : are_ends h.sender h.addressee ≡ true
  pub home : is_home s.home h ≡ true
  pub number : is_number s.number h.number ≡ true
  pub len : is_len s.body h.body_len ≡ true
  pub place : is_place s.body h ≡ true

pub parts_of : (s : Shape) (h : Header) → is_shaped s h ≡ true → Parts s h
parts_of s h e =
    let a = and_parts (are_ends h.sender h.addressee && is_home s.home h && is_number s.number h.number && is_len s.body h.body_len) (is_place s.body h) e in
    let b = and_parts (are_ends h.sender h.addressee && is_home s.home h && is_number s.number h.number) (is_len s.body h.body_len) a.0 in
    let c = and_parts (are_ends h.sender h.addressee && is_home s.home h) (is_number s.number h.number) b.0 in
    let d = and_parts (are_ends h.sender h.addressee) (is_home s.home h) c.0 in
    record { ends = d.0; home = d.1; number = c.1; len = b.1; place = a.1 }

pub ends_below : (sender addressee : ℕ) → are_ends sender addressee ≡ true → (sender < 64) × (addressee < 64)
ends_below sender addressee e =
    let a = and_parts (ltb sender 64 && ltb addressee 64) (not (eqb sender addressee)) e in
    let b = and_parts (ltb sender 64) (ltb addressee 64) a.0 in
    (ltb-true sender 64 b.0, ltb-true addressee 64 b.1)

pub home_below : (rule : Home) (h : Header) → are_ends h.sender h.addressee ≡ true → is_home rule h ≡ true → h.home < 64
home_below Sender h ends e = let p = and_parts (eqb h.home h.sender) (leb 1 h.serial) e in let b = ends_below h.sender h.addressee ends in omega (arith, eqb-true h.home h.sender p.0, b.0)
home_below Addressee h ends e = let p = and_parts (eqb h.home h.addressee) (leb 1 h.serial) e in let b = ends_below h.sender h.addressee ends in omega (arith, eqb-true h.home h.addressee p.0, b.1)
home_below ToZero h ends e = let p = and_parts (eqb h.home 0 && eqb h.serial 0) (eqb h.addressee 0) e in let q = and_parts (eqb h.home 0) (eqb h.serial 0) p.0 in omega (arith, eqb-true h.home 0 q.0)
home_below FromZero h ends e = let p = and_parts (eqb h.home 0 && eqb h.serial 0) (eqb h.sender 0) e in let q = and_parts (eqb h.home 0) (eqb h.serial 0) p.0 in omega (arith, eqb-true h.home 0 q.0)

pub len_below : (rule : Body) (n : ℕ) → is_len rule n ≡ true → n ≤ 65536
len_below Empty n e = omega (arith, eqb-true n 0 e)
len_below Region n e = omega (arith, leb-true n 32768 (and_parts (leb 1 n) (leb n 32768) e).1)
len_below Broadcast n e = leb-true n 65536 (and_parts (leb 1 n) (leb n 65536) e).1
len_below Value n e = omega (arith, eqb-true n 8 e)
len_below Total n e = omega (arith, eqb-true n 16 e)

only_place : (h : Header) → (eqb h.last_index 0 && eqb h.index 0) ≡ true → (h.last_index < 512) × (h.index < 512)
only_place h e =
    let a = and_parts (eqb h.last_index 0) (eqb h.index 0) e in
    (omega (arith, eqb-true h.last_index 0 a.0), omega (arith, eqb-true h.index 0 a.1))

pub place_below : (rule : Body) (h : Header) → is_place rule h ≡ true → (h.last_index < 512) × (h.index < 512)
place_below Region h e =
    let a = and_parts (ltb h.last_index 512 && leb h.index h.last_index) (eqb h.index h.last_index || eqb h.body_len 32768) e in
    let b = and_parts (ltb h.last_index 512) (leb h.index h.last_index) a.0 in
    let last = ltb-true h.last_index 512 b.0 in
    (last, omega (arith, last, leb-true h.index h.last_index b.1))
place_below Empty h e = only_place h e
place_below Broadcast h e = only_place h e
place_below Value h e = only_place h e
place_below Total h e = only_place h e
