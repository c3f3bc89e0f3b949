-- Cases by whether two nodes are one.
use Rattle.std.proofs.Common.{◌≡◌, ℕ, ◌==◌, Bool, true, false, refl, sym, subst}
use Rattle.std.proofs.lemmas.Bool.{eqb-true}

pub by_node : (x y : ℕ) (P : Bool → Type 0) → (x ≡ y → P true) → P false → P (x == y)
by_node x y P here there = go (x == y) refl
  where
    go : (b : Bool) → (x == y) ≡ b → P b
    go true e = here (eqb-true x y e)
    go false e = there

pub at_true : (b : Bool) (P : Bool → Type 0) → b ≡ true → P true → P b
at_true b P e h = subst P (sym e) h
