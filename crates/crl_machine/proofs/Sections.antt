-- Which sections of a region are open, by its writer and the count of its readers.
use Rattle.std.proofs.Common.{◌≡◌, ℕ, zero, suc, ◌+◌, ◌<◌, ◌≤◌, Bool, true, false, cond, List, [], ◌∷◌, length, get_or, refl, sym, ◌∙◌, arith, true≢false}
use Rattle.std.specs.Prelude.{is_some, nat_eq, not}
use Rattle.std.specs.Bool.{MatchBool}
use Rattle.std.specs.declared.option.Option.{Option}
use Rattle.std.specs.declared.option.Option.TheVariants.{None, Some}
use Rattle.std.proofs.lemmas.Grind.{common_steps}
use Rattle.std.proofs.lemmas.List.Sums.{sum_by-cons}
use Rattle.crl_model.specs.declared.name.Name.{Name}
use Rattle.crl_machine.specs.declared.node_row.NodeRow.{NodeRow}
use Rattle.crl_machine.specs.declared.region.Region.{Region}
use Rattle.crl_machine.specs.declared.share.Share.{Share}
use Rattle.crl_machine.specs.Seen.{state_of}
use Rattle.crl_machine.specs.SingleMachine.{IsUnwritten, IsUnused}
use Rattle.crl_machine.specs.Tables.{blank, is_reading, is_writer, readers_of}

none_read : (shares : List Share) (m : ℕ) → readers_of shares ≡ 0 → (get_or shares m blank).reads ≡ 0
none_read [] m e = refl
none_read (s ∷ shares) zero e = quiet s (readers_of shares) (sym (sum_by-cons (λ x. cond (is_reading x) 1 0) s shares) ∙ e)
  where
    quiet : (s : Share) (k : ℕ) → cond (is_reading s) 1 0 + k ≡ 0 → s.reads ≡ 0
    quiet s k h = grind (arith, common_steps)
none_read (s ∷ shares) (suc m) e =
    let more : cond (is_reading s) 1 0 + readers_of shares ≡ 0 = sym (sum_by-cons (λ x. cond (is_reading x) 1 0) s shares) ∙ e in
    none_read shares m (omega (arith, more))

some_read : (shares : List Share) → 0 < readers_of shares → (m : ℕ) × (m < length shares) × (1 ≤ (get_or shares m blank).reads)
some_read [] e = absurd (omega arith)
some_read (s ∷ shares) e = elim (is_reading s) as (λ b. is_reading s ≡ b → 0 < cond b 1 0 + readers_of shares → (m : ℕ) × (m < length (s ∷ shares)) × (1 ≤ (get_or (s ∷ shares) m blank).reads)) [
  | true ↦ λ is _. (0, omega arith, grind (arith, common_steps))
  | false ↦ λ quiet h. let found = some_read shares (omega (arith, h)) in (suc found.0, omega (arith, found.1), found.2)
] refl (rw (← sum_by-cons (λ x. cond (is_reading x) 1 0) s shares) e)

no_writer : (o : Option ℕ) → is_some o ≡ false → o ≡ None
no_writer None e = refl
no_writer (Some n) e = absurd (true≢false e)

a_writer : (o : Option ℕ) → is_some o ≡ true → (n : ℕ) × (o ≡ Some n)
a_writer None e = absurd (true≢false (sym e))
a_writer (Some n) e = (n, refl)

self_writer : (n : ℕ) → is_writer (Some n) n ≡ true
self_writer n = grind arith

pub unwritten : (nodes : ℕ) (G : Name → Option Region) (ds : List NodeRow) (name : Name) (r : Region) → G name ≡ Some r → is_some r.writer ≡ false → IsUnwritten (state_of nodes G ds) name
unwritten nodes G ds name r found none = λ m inside. rw (found, no_writer r.writer none) refl

writes_at : (nodes : ℕ) (G : Name → Option Region) (ds : List NodeRow) (name : Name) (r : Region) (n : ℕ) → G name ≡ Some r → r.writer ≡ Some n → (state_of nodes G ds).writes n name ≡ true
writes_at nodes G ds name r n found is = rw (found, is) (self_writer n)

pub written : (nodes : ℕ) (G : Name → Option Region) (ds : List NodeRow) (name : Name) (r : Region) → ((m : ℕ) → r.writer ≡ Some m → m < nodes) → G name ≡ Some r → is_some r.writer ≡ true → IsUnwritten (state_of nodes G ds) name → ⊥
written nodes G ds name r fit found some none =
    let w = a_writer r.writer some in
    true≢false (sym (writes_at nodes G ds name r w.0 found w.1) ∙ none w.0 (fit w.0 w.1))

-- a region that nobody writes has no writer
pub no_writer_there : (nodes : ℕ) (G : Name → Option Region) (ds : List NodeRow) (name : Name) (r : Region) → ((m : ℕ) → r.writer ≡ Some m → m < nodes) → G name ≡ Some r → IsUnwritten (state_of nodes G ds) name → r.writer ≡ None
no_writer_there nodes G ds name r fit found none = go r.writer refl
  where
    go : (o : Option ℕ) → r.writer ≡ o → r.writer ≡ None
    go None e = e
    go (Some w) e = absurd (written nodes G ds name r fit found (rw e refl) none)

pub unused : (nodes : ℕ) (G : Name → Option Region) (ds : List NodeRow) (name : Name) (r : Region) → G name ≡ Some r → is_some r.writer ≡ false → readers_of r.shares.items ≡ 0 → IsUnused (state_of nodes G ds) name
unused nodes G ds name r found none quiet = λ m inside. (rw found (none_read r.shares.items m quiet), rw (found, no_writer r.writer none) refl)

pub used_by_readers : (nodes : ℕ) (G : Name → Option Region) (ds : List NodeRow) (name : Name) (r : Region) → G name ≡ Some r → length r.shares.items ≤ nodes → 0 < readers_of r.shares.items → IsUnused (state_of nodes G ds) name → ⊥
used_by_readers nodes G ds name r found fit some none =
    let reader = some_read r.shares.items some in
    let quiet : (get_or r.shares.items reader.0 blank).reads ≡ 0 = rw found at ((none reader.0 (omega (arith, reader.1, fit))).0) in
    omega (arith, reader.2, quiet)

pub used_by_writer : (nodes : ℕ) (G : Name → Option Region) (ds : List NodeRow) (name : Name) (r : Region) → ((m : ℕ) → r.writer ≡ Some m → m < nodes) → G name ≡ Some r → is_some r.writer ≡ true → IsUnused (state_of nodes G ds) name → ⊥
used_by_writer nodes G ds name r fit found some none = written nodes G ds name r fit found some (λ m inside. (none m inside).1)

-- the tests, by their answers
pub unwritten_or_not : (nodes : ℕ) (G : Name → Option Region) (ds : List NodeRow) (name : Name) (r : Region) (b : Bool) → ((m : ℕ) → r.writer ≡ Some m → m < nodes) → G name ≡ Some r → is_some r.writer ≡ not b
    → MatchBool b (IsUnwritten (state_of nodes G ds) name) (IsUnwritten (state_of nodes G ds) name → ⊥)
unwritten_or_not nodes G ds name r true fit found e = unwritten nodes G ds name r found e
unwritten_or_not nodes G ds name r false fit found e = written nodes G ds name r fit found e

pub unused_or_not : (nodes : ℕ) (G : Name → Option Region) (ds : List NodeRow) (name : Name) (r : Region) (k : ℕ) → G name ≡ Some r → length r.shares.items ≤ nodes → is_some r.writer ≡ false → k ≡ readers_of r.shares.items
    → MatchBool (nat_eq k 0) (IsUnused (state_of nodes G ds) name) (IsUnused (state_of nodes G ds) name → ⊥)
unused_or_not nodes G ds name r zero found fit none e = unused nodes G ds name r found none (sym e)
unused_or_not nodes G ds name r (suc k) found fit none e =
    let some : nat_eq (suc k) 0 ≡ false = grind arith in
    rw some (used_by_readers nodes G ds name r found fit (omega (arith, e)))
