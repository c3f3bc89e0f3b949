-- The tables and lifetimes of a home by name, where one of them was changed or added.
use Rattle.std.proofs.Common.{◌≡◌, ℕ, zero, suc, ◌+◌, ◌-◌, ◌==◌, Bool, true, false, None, Some, Option, List, [], ◌∷◌, ◌++◌, length, if◌then◌else◌, refl, ap, sym, ◌∙◌, arith}
use Rattle.std.proofs.lemmas.Bool.{cond-true, cond-false, eq-eqb, ne_eqb, eqb-true, eqb-false, and_from}
use Rattle.crl_model.specs.declared.name.Name.{Name}
use Rattle.crl_model.specs.Names.{name_eq, at_node, at_name}
use Rattle.crl_protocol.specs.Places.{at, put}
use Rattle.crl_protocol.specs.Home.{Home}
use Rattle.crl_protocol.specs.Lifetimes.{Lifetime, no_lifetime}
use Rattle.crl_protocol.specs.Node.{Node, at_serial, is_mine, home_of, lifetime_of, with_home, with_lifetime, next_name}
use Rattle.crl_deeds.proofs.Fits.Names.{same_name}

at_put_same : {A : Type 0} (n : ℕ) (v : Option A) (xs : List (Option A)) → at n (put n v xs) ≡ v
at_put_same zero v [] = refl
at_put_same (suc n) v [] = at_put_same n v []
at_put_same zero v (x ∷ xs) = refl
at_put_same (suc n) v (x ∷ xs) = at_put_same n v xs

at_put_other : {A : Type 0} (m n : ℕ) (v : Option A) (xs : List (Option A)) → (n ≡ m → ⊥) → at m (put n v xs) ≡ at m xs
at_put_other zero zero v xs h = absurd (h refl)
at_put_other zero (suc n) v [] h = refl
at_put_other zero (suc n) v (x ∷ xs) h = refl
at_put_other (suc m) zero v [] h = refl
at_put_other (suc m) zero v (x ∷ xs) h = refl
at_put_other (suc m) (suc n) v [] h = at_put_other m n v [] (λ e. h (ap (λ k. suc k) e))
at_put_other (suc m) (suc n) v (x ∷ xs) h = at_put_other m n v xs (λ e. h (ap (λ k. suc k) e))

at_end_same : {A : Type 0} (v : Option A) (xs : List (Option A)) → at (length xs) (xs ++ v ∷ []) ≡ v
at_end_same v [] = refl
at_end_same v (x ∷ xs) = at_end_same v xs

at_end_other : {A : Type 0} (m : ℕ) (v : Option A) (xs : List (Option A)) → (m ≡ length xs → ⊥) → at m (xs ++ v ∷ []) ≡ at m xs
at_end_other zero v [] h = absurd (h refl)
at_end_other (suc m) v [] h = refl
at_end_other zero v (x ∷ xs) h = refl
at_end_other (suc m) v (x ∷ xs) h = at_end_other m v xs (λ e. h (omega arith))

at_past : {A : Type 0} (m : ℕ) (xs : List (Option A)) → length xs ≡ m → at m xs ≡ None
at_past m [] h = refl
at_past zero (x ∷ xs) h = absurd (omega arith)
at_past (suc m) (x ∷ xs) h = at_past m xs (omega arith)

-- None at the end changes nothing
at_end_none : {A : Type 0} (m : ℕ) (xs : List (Option A)) → at m (xs ++ None ∷ []) ≡ at m xs
at_end_none zero [] = refl
at_end_none (suc m) [] = refl
at_end_none zero (x ∷ xs) = refl
at_end_none (suc m) (x ∷ xs) = at_end_none m xs

-- the parts of a name
other_serial : (name q : Name) → name_eq name q ≡ false → q.home ≡ name.home → name.serial ≡ q.serial → ⊥
other_serial name q e h s = let w = and_from (name.home == q.home) (name.serial == q.serial) (eq-eqb _ _ (sym h)) (eq-eqb _ _ s) in cc

-- what a table by home and serial has at a name
abbrev found : {A : Type 0} → ℕ → A → (ℕ → A) → Name → A
found me none f q = if q.home == me then f q.serial else none

found_at : {A : Type 0} (me : ℕ) (none : A) (f g : ℕ → A) (name : Name) (v : A) → (name.home == me) ≡ true → g name.serial ≡ v
    → ((s : ℕ) → (name.serial ≡ s → ⊥) → g s ≡ f s)
    → (q : Name) → found me none g q ≡ at_name (found me none f) name v q
found_at me none f g name v mine same other q = go (name_eq name q) (q.home == me) refl refl
  where
    go : (b c : Bool) → name_eq name q ≡ b → (q.home == me) ≡ c → (if c then g q.serial else none) ≡ (if b then v else if c then f q.serial else none)
    go true true e h = ap (λ (x : Name). g x.serial) (sym (same_name name q e)) ∙ same
    go true false e h = let w = ap (λ (x : Name). x.home == me) (same_name name q e) in cc
    go false true e h = other q.serial (λ s. other_serial name q e (eqb-true _ _ h ∙ sym (eqb-true _ _ mine)) s)
    go false false e h = refl

is_found : (n : Node) (name : Name) (h : Home) → home_of n name ≡ Some h → (is_mine n name ≡ true) × ((name.serial == 0) ≡ false)
is_found n name h e = go (is_mine n name) (name.serial == 0) refl refl e
  where
    go : (b c : Bool) → is_mine n name ≡ b → (name.serial == 0) ≡ c → (if b then if c then None else at (name.serial - 1) n.homes else None) ≡ Some h
        → (is_mine n name ≡ true) × ((name.serial == 0) ≡ false)
    go true true e1 e2 w = cc
    go true false e1 e2 w = (e1, e2)
    go false c e1 e2 w = cc

at_suc : {A : Type 0} (s : ℕ) (xs : List (Option A)) → at_serial (suc s) xs ≡ at s xs
at_suc s xs =
    let e : suc s - 1 ≡ s = omega arith in cond-false (suc s == 0) None (at (suc s - 1) xs) (ne_eqb (suc s) 0 (λ w. omega arith)) ∙ ap (λ m. at m xs) e

serial_put : {A : Type 0} (name : Name) (v : Option A) (xs : List (Option A)) (s : ℕ) → (name.serial == 0) ≡ false → (name.serial ≡ s → ⊥)
    → at_serial s (put (name.serial - 1) v xs) ≡ at_serial s xs
serial_put name v xs zero e h = refl
serial_put name v xs (suc s) e h =
    at_suc s _ ∙ at_put_other s (name.serial - 1) v xs (λ w. h (let k = eqb-false name.serial 0 e in omega arith)) ∙ sym (at_suc s xs)

pub home_put : (n : Node) (name : Name) (h g : Home) → home_of n name ≡ Some h → (q : Name) → home_of (with_home name g n) q ≡ at_name (home_of n) name (Some g) q
home_put n name h g e =
    let f = is_found n name h e in
    found_at n.me None (λ s. at_serial s n.homes) (λ s. at_serial s (put (name.serial - 1) (Some g) n.homes)) name (Some g) f.0
    (cond-false (name.serial == 0) _ _ f.1 ∙ at_put_same (name.serial - 1) (Some g) n.homes) (λ s d. serial_put name (Some g) n.homes s f.1 d)

pub lifetime_put : (n : Node) (name : Name) (lifetime : Lifetime) → is_mine n name ≡ true → (q : Name) → lifetime_of (with_lifetime name lifetime n) q ≡ at_name (lifetime_of n) name lifetime q
lifetime_put n name lifetime mine =
    found_at n.me no_lifetime n.lifetimes (at_node n.lifetimes name.serial lifetime) name lifetime mine (cond-true (name.serial == name.serial) _ _ (eq-eqb _ _ refl))
    (λ s d. cond-false (name.serial == s) _ _ (ne_eqb name.serial s d))

serial_end : {A : Type 0} (v : Option A) (xs : List (Option A)) (s : ℕ) → (length xs + 1 ≡ s → ⊥) → at_serial s (xs ++ v ∷ []) ≡ at_serial s xs
serial_end v xs zero h = refl
serial_end v xs (suc s) h = at_suc s _ ∙ at_end_other s v xs (λ e. h (omega arith)) ∙ sym (at_suc s xs)

serial_last : {A : Type 0} (v : Option A) (xs ys : List (Option A)) (k s : ℕ) → k ≡ length xs → s ≡ k + 1 → at k ys ≡ v → at_serial s ys ≡ v
serial_last v xs ys k zero h e w = absurd (omega arith)
serial_last v xs ys k (suc s) h e w = let same : s ≡ k = omega arith in at_suc s ys ∙ ap (λ m. at m ys) same ∙ w

-- a new table at the end
pub home_end : (n : Node) (m : Node) (h : Home) → m.me ≡ n.me → m.homes ≡ n.homes ++ Some h ∷ [] → (q : Name) → home_of m q ≡ at_name (home_of n) (next_name n) (Some h) q
home_end n m h e w q =
    ap (λ me. found me None (λ s. at_serial s m.homes) q) e
    ∙ ap (λ xs. found n.me None (λ s. at_serial s xs) q) w
    ∙ found_at n.me None (λ s. at_serial s n.homes) (λ s. at_serial s (n.homes ++ Some h ∷ [])) (next_name n) (Some h) (eq-eqb n.me n.me refl)
    (serial_last (Some h) n.homes (n.homes ++ Some h ∷ []) (length n.homes) (length n.homes + 1) refl refl (at_end_same (Some h) n.homes))
    (λ s d. serial_end (Some h) n.homes s d) q

-- and none there before
pub home_next : (n : Node) → home_of n (next_name n) ≡ None
home_next n = cond-true (n.me == n.me) _ _ (eq-eqb n.me n.me refl) ∙ serial_last None n.homes n.homes (length n.homes) (length n.homes + 1) refl refl (at_past (length n.homes) n.homes refl)

serial_none : {A : Type 0} (xs : List (Option A)) (s : ℕ) → at_serial s (xs ++ None ∷ []) ≡ at_serial s xs
serial_none xs zero = refl
serial_none xs (suc s) = at_suc s _ ∙ at_end_none s xs ∙ sym (at_suc s xs)

-- a serial that was used up
pub home_none : (n : Node) (q : Name) → home_of (record n { homes = n.homes ++ None ∷ [] }) q ≡ home_of n q
home_none n q = ap (λ x. if q.home == n.me then x else None) (serial_none n.homes q.serial)
