-- The guards that a node holds, the newest first.
use Rattle.std.specs.Prelude.{◌≡◌, ℕ, ◌≤◌, Bool, true, false, if◌then◌else◌, List, [], ◌∷◌, length}
use Rattle.std.specs.declared.option.Option.{Option}
use Rattle.std.specs.declared.option.Option.TheVariants.{None, Some}
use Rattle.crl_model.specs.declared.name.Name.{Name}
use Rattle.crl_model.specs.Names.{name_eq}
use Rattle.crl_protocol.specs.Node.{Answer, Reading, Writing}
use Rattle.crl_talk.specs.Guards.{Given}
use Rattle.crl_run.specs.Holding.{with_bytes_in}

-- the guard that an answer gives
abbrev pub guards_given : Answer → List Given
guards_given (Reading guard) = record { write = false; guard = guard } ∷ []
guards_given (Writing guard) = record { write = true; guard = guard } ∷ []
guards_given _ = []

-- the newest guard of the region
abbrev pub newest : Name → List Given → Option Given
newest q [] = None
newest q (g ∷ gs) = if name_eq g.guard.name q then Some g else newest q gs

-- the guards without it
abbrev pub guards_without : Name → List Given → List Given
guards_without q [] = []
guards_without q (g ∷ gs) = if name_eq g.guard.name q then gs else g ∷ guards_without q gs

-- the guards with other bytes in it
abbrev pub guards_with : Name → (List ℕ → List ℕ) → List Given → List Given
guards_with q f [] = []
guards_with q f (g ∷ gs) = if name_eq g.guard.name q then with_bytes_in g (f g.guard.bytes) ∷ gs else g ∷ guards_with q f gs

-- there is such a guard, of a write section or of a read section
abbrev pub IsOfKind : Bool → Option Given → Type 0
IsOfKind write None = ⊥
IsOfKind write (Some g) = g.write ≡ write

-- there is such a guard, of a write section with at least so many bytes
abbrev pub CanChange : ℕ → Option Given → Type 0
CanChange end None = ⊥
CanChange end (Some g) = (g.write ≡ true) × (end ≤ length g.guard.bytes)
