-- The newest guard of a region is looked for, place by place.
use Rattle.std.proofs.Common.{◌≡◌, ◌∙◌, sym, ap, refl, Bool, true, false, slice_index_or, slice_set, ℕ, zero, suc, ◌<◌, List, [], ◌∷◌, length, drop, map, arith, leb}
use Rattle.crl_model.specs.declared.name.Name.{Name}
use Rattle.crl_model.specs.Names.{name_eq}
use Rattle.crl_protocol.specs.Home.{is_empty}
use Rattle.crl_run.specs.declared.held.Held.{Held}
use Rattle.crl_run.specs.Holding.{given, guard_in, with_bytes_in}
use Rattle.crl_run.specs.Players.{guards_with}
use Rattle.crl_run.specs.Holders.{GuardStandsAt, GuardStandsNowhere}

pub is_over : {X : Type 0} (xs : List X) (place : ℕ) → leb (length xs) place ≡ is_empty (drop place xs)
is_over [] zero = refl
is_over [] (suc place) = grind arith
is_over (x ∷ xs) zero = grind arith
is_over (x ∷ xs) (suc place) =
    let h : leb (length xs) place ≡ is_empty (drop place xs) = is_over xs place in
    grind (arith, h)

-- the guard is of the region
abbrev pub is_of : Name → Held → Bool
is_of name h = name_eq (guard_in h).name name

-- none of the first so many guards is of the region
abbrev pub NoneBefore : Name → List Held → ℕ → Type 0
NoneBefore name guards n = (j : ℕ) (d : Held) → j < n → j < length guards → is_of name (slice_index_or guards j d) ≡ false

shifted : (name : Name) (x : Held) (xs : List Held) (n : ℕ) → NoneBefore name (x ∷ xs) (suc n) → NoneBefore name xs n
shifted name x xs n none = λ j d before within. none (suc j) d (omega arith) (omega arith)

pub stands_here : (name : Name) (guards : List Held) (place : ℕ) (any : Held) → NoneBefore name guards place → place < length guards → is_of name (slice_index_or guards place any) ≡ true → GuardStandsAt name guards place
stands_here name [] place any none within same = absurd (omega arith)
stands_here name (x ∷ xs) zero any none within same = record {
  within = within;
  it = λ d. rw same refl;
  rest = rw same refl;
  change = λ f d h e. rw same (ap (λ g. g ∷ map given xs) (sym e));
}
stands_here name (x ∷ xs) (suc place) any none within same =
    let other : is_of name x ≡ false = none 0 x (omega arith) (omega arith) in
    let h = stands_here name xs place any (shifted name x xs place none) (omega arith) same in
    record {
      within = within;
      it = λ d. rw other (h.it d);
      rest = rw other (ap (λ gs. given x ∷ gs) h.rest);
      change = λ f d new e. rw other (ap (λ gs. given x ∷ gs) (h.change f d new e));
    }

pub stands_nowhere : (name : Name) (guards : List Held) → NoneBefore name guards (length guards) → GuardStandsNowhere name guards
stands_nowhere name [] none = record { it = refl; rest = refl }
stands_nowhere name (x ∷ xs) none =
    let other : is_of name x ≡ false = none 0 x (omega arith) (omega arith) in
    let h = stands_nowhere name xs (shifted name x xs (length xs) none) in
    record { it = rw other h.it; rest = rw other (ap (λ gs. given x ∷ gs) h.rest) }

-- other bytes are written where the newest guard stands
pub written : (name : Name) (guards : List Held) (place : ℕ) (f : List ℕ → List ℕ) (old new : Held) → GuardStandsAt name guards place → old ≡ slice_index_or guards place old
    → given new ≡ with_bytes_in (given old) (f (guard_in old).bytes) → map given (slice_set guards place new) ≡ guards_with name f (map given guards)
written name guards place f old new stands there e = sym (stands.change f old new (e ∙ ap (λ o. with_bytes_in (given o) (f (guard_in o).bytes)) there))
