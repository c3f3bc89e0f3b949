-- Positions and entries, side by side.
use Rattle.std.proofs.Common.{◌≡◌, ℕ, suc, List, [], ◌∷◌, ◌++◌, length, refl, ap, arith}
use Rattle.crl_model.specs.declared.entry.Entry.{Entry}
use Rattle.crl_model.specs.declared.journal.Recorded.{Recorded}
use Rattle.crl_journal.specs.Merging.{entries_of}
use Rattle.crl_journal.specs.RecordsState.{with_positions}

pub recorded_more : (ps : List ℕ) (es : List Entry) (p : ℕ) (e : Entry) → length ps ≡ length es → with_positions (ps ++ p ∷ []) (es ++ e ∷ []) ≡ with_positions ps es ++ record { position = p; entry = e } ∷ []
recorded_more [] [] p e same = refl
recorded_more [] (f ∷ es) p e same = absurd (omega arith)
recorded_more (q ∷ ps) [] p e same = absurd (omega arith)
recorded_more (q ∷ ps) (f ∷ es) p e same = ap (λ (xs : List Recorded). record { position = q; entry = f } ∷ xs) (recorded_more ps es p e (omega arith))

pub recorded_entries : (ps : List ℕ) (es : List Entry) → length ps ≡ length es → entries_of (with_positions ps es) ≡ es
recorded_entries [] [] same = refl
recorded_entries [] (e ∷ es) same = absurd (omega arith)
recorded_entries (p ∷ ps) [] same = absurd (omega arith)
recorded_entries (p ∷ ps) (e ∷ es) same = ap (λ (xs : List Entry). e ∷ xs) (recorded_entries ps es (omega arith))

pub recorded_many : (ps : List ℕ) (es : List Entry) → length ps ≡ length es → length (with_positions ps es) ≡ length es
recorded_many [] [] same = refl
recorded_many [] (e ∷ es) same = absurd (omega arith)
recorded_many (p ∷ ps) [] same = absurd (omega arith)
recorded_many (p ∷ ps) (e ∷ es) same = ap suc (recorded_many ps es (omega arith))
