-- A key is looked for, place by place; a message is taken out, or put behind the others.
use Rattle.std.proofs.Common.{◌≡◌, ℕ, zero, suc, ◌+◌, ◌<◌, Bool, true, false, Option, None, Some, List, [], ◌∷◌, ◌++◌, length, take, slice_index_or, if◌then◌else◌, refl, sym, ap, ◌∙◌, arith}
use Rattle.std.specs.Prelude.{remove}
use Rattle.crl_pieces.specs.Gathering.{Gathering}
use Rattle.crl_protocol.specs.Parcels.{Key, key_eq}
use Rattle.crl_parcels.specs.declared.parcel.Parcel.{Parcel}
use Rattle.crl_parcels.specs.ParcelKeys.{key_of_parcel}
use Rattle.crl_parcels.specs.ParcelsState.{gathering_in, AreApart}
use Rattle.crl_parcels.specs.PieceComes.{IsChangedAt, IsFoundAt}
use Rattle.crl_parcels.proofs.Keys.{key_same, key_self, not_both}

-- nothing is found where neither the first nor a later one is it
module _ {X : Type 0} (x : X) (o : Option X) where
  not_first : (b : Bool) → (if b then Some x else o) ≡ None → b ≡ false
  not_first true e = cc
  not_first false e = refl

  not_later : (b : Bool) → (if b then Some x else o) ≡ None → o ≡ None
  not_later true e = cc
  not_later false e = e

  neither : (b : Bool) → b ≡ false → o ≡ None → (if b then Some x else o) ≡ None
  neither true e f = cc
  neither false e f = f

  first_gone : (b : Bool) → (b ≡ true → o ≡ None) → o ≡ (if b then None else (if b then Some x else o))
  first_gone true h = h refl
  first_gone false h = refl

-- of two tests of which one at most is met, either may come first
either_first : {X : Type 0} (x y z : X) (a b : Bool) → (a ≡ true → b ≡ true → ⊥) → (if a then x else (if b then y else z)) ≡ (if b then y else (if a then x else z))
either_first x y z true true h = absurd (h refl refl)
either_first x y z true false h = refl
either_first x y z false b h = refl

-- the key stands here, and not before
value_at : (key : Key) (list : List Parcel) (place : ℕ) (any : Parcel) → gathering_in key (take place list) ≡ None → place < length list
    → key_eq key (key_of_parcel (slice_index_or list place any).key) ≡ true → (d : Parcel) → gathering_in key list ≡ Some (slice_index_or list place d).gather
value_at key [] place any before within same d = absurd (omega arith)
value_at key (p ∷ ps) zero any before within same d = rw same refl
value_at key (p ∷ ps) (suc i) any before within same d =
    let here : Bool = key_eq key (key_of_parcel p.key) in
    rw (not_first p.gather (gathering_in key (take i ps)) here before)
    (value_at key ps i any (not_later p.gather (gathering_in key (take i ps)) here before) (omega arith) same d)

rest_at : (key : Key) (list : List Parcel) (place : ℕ) (any : Parcel) → gathering_in key (take place list) ≡ None → place < length list
    → key_eq key (key_of_parcel (slice_index_or list place any).key) ≡ true → AreApart list → IsChangedAt key None list (remove list place)
rest_at key [] place any before within same apart k = absurd (omega arith)
rest_at key (p ∷ ps) zero any before within same apart k =
    let q : Key = key_of_parcel p.key in
    first_gone p.gather (gathering_in k ps) (key_eq k q) (λ e. ap (λ x. gathering_in x ps) (key_same k q e) ∙ apart.0)
    ∙ ap (λ x. if key_eq k x then None else (if key_eq k q then Some p.gather else gathering_in k ps)) (sym (key_same key q same))
rest_at key (p ∷ ps) (suc i) any before within same apart k =
    let q : Key = key_of_parcel p.key in
    let o : Option Gathering = gathering_in key (take i ps) in
    ap (λ x. if key_eq k q then Some p.gather else x) (rest_at key ps i any (not_later p.gather o (key_eq key q) before) (omega arith) same apart.1 k)
    ∙ either_first (Some p.gather) None (gathering_in k ps) (key_eq k q) (key_eq k key) (not_both k key q (not_first p.gather o (key_eq key q) before))

pub found : (key : Key) (list : List Parcel) (place : ℕ) (any : Parcel) → gathering_in key (take place list) ≡ None → place < length list
    → key_eq key (key_of_parcel (slice_index_or list place any).key) ≡ true → IsFoundAt key list place
found key list place any before within same =
    record { within = within; value = value_at key list place any before within same; rest = rest_at key list place any before within same }

-- the key doesn't stand here either
past : (key : Key) (list : List Parcel) (place : ℕ) (any : Parcel) → gathering_in key (take place list) ≡ None → place < length list
    → key_eq key (key_of_parcel (slice_index_or list place any).key) ≡ false → gathering_in key (take (suc place) list) ≡ None
past key [] place any before within differ = refl
past key (p ∷ ps) zero any before within differ = neither p.gather None (key_eq key (key_of_parcel p.key)) differ refl
past key (p ∷ ps) (suc i) any before within differ =
    let here : Bool = key_eq key (key_of_parcel p.key) in
    let o : Option Gathering = gathering_in key (take i ps) in
    neither p.gather (gathering_in key (take (suc i) ps)) here (not_first p.gather o here before)
    (past key ps i any (not_later p.gather o here before) (omega arith) differ)

pub one_further : (key : Key) (list : List Parcel) (place : ℕ) (any : Parcel) → gathering_in key (take place list) ≡ None → place < length list
    → key_eq key (key_of_parcel (slice_index_or list place any).key) ≡ false → gathering_in key (take (place + 1) list) ≡ None
one_further key list place any before within differ =
    let next : place + 1 ≡ suc place = omega arith in
    ap (λ n. gathering_in key (take n list)) next ∙ past key list place any before within differ

-- ---- taken out

none_left : (key : Key) (list : List Parcel) (place : ℕ) → gathering_in key list ≡ None → gathering_in key (remove list place) ≡ None
none_left key [] zero e = refl
none_left key [] (suc i) e = refl
none_left key (p ∷ ps) zero e = not_later p.gather (gathering_in key ps) (key_eq key (key_of_parcel p.key)) e
none_left key (p ∷ ps) (suc i) e =
    let here : Bool = key_eq key (key_of_parcel p.key) in
    neither p.gather (gathering_in key (remove ps i)) here (not_first p.gather (gathering_in key ps) here e)
    (none_left key ps i (not_later p.gather (gathering_in key ps) here e))

pub apart_left : (list : List Parcel) (place : ℕ) → AreApart list → AreApart (remove list place)
apart_left [] zero apart = apart
apart_left [] (suc i) apart = apart
apart_left (p ∷ ps) zero apart = apart.1
apart_left (p ∷ ps) (suc i) apart = (none_left (key_of_parcel p.key) ps i apart.0, apart_left ps i apart.1)

-- ---- put behind the others

pub put_behind : (p : Parcel) (list : List Parcel) → gathering_in (key_of_parcel p.key) list ≡ None → IsChangedAt (key_of_parcel p.key) (Some p.gather) list (list ++ p ∷ [])
put_behind p [] e k = refl
put_behind p (x ∷ xs) e k =
    let q : Key = key_of_parcel p.key in
    let r : Key = key_of_parcel x.key in
    let o : Option Gathering = gathering_in q xs in
    ap (λ y. if key_eq k r then Some x.gather else y) (put_behind p xs (not_later x.gather o (key_eq q r) e) k)
    ∙ either_first (Some x.gather) (Some p.gather) (gathering_in k xs) (key_eq k r) (key_eq k q) (not_both k q r (not_first x.gather o (key_eq q r) e))

differ_back : (a b : Key) (c : Bool) → key_eq a b ≡ false → key_eq b a ≡ c → c ≡ false
differ_back a b true differ e = absurd (not_both b a b differ (key_self b) e)
differ_back a b false differ e = refl

pub apart_behind : (p : Parcel) (list : List Parcel) → gathering_in (key_of_parcel p.key) list ≡ None → AreApart list → AreApart (list ++ p ∷ [])
apart_behind p [] e apart = (refl, apart)
apart_behind p (x ∷ xs) e apart =
    let q : Key = key_of_parcel p.key in
    let r : Key = key_of_parcel x.key in
    let o : Option Gathering = gathering_in q xs in
    let later : gathering_in q xs ≡ None = not_later x.gather o (key_eq q r) e in (
      put_behind p xs later r ∙ neither p.gather (gathering_in r xs) (key_eq r q) (differ_back q r (key_eq r q) (not_first x.gather o (key_eq q r) e) refl) apart.0,
      apart_behind p xs later apart.1,
    )
