-- The purges of a delete, posted one after the other.
use Rattle.std.proofs.Common.{◌≡◌, ℕ, suc, ◌+◌, Bool, true, false, refl, sym, ap, ◌∙◌, List, ◌∷◌, ◌++◌, append-nil, append_assoc, map, arith, if◌then◌else◌}
use Rattle.crl_model.specs.declared.name.Name.{Name}
use Rattle.crl_model.specs.declared.piece.Piece.{Piece}
use Rattle.crl_protocol.specs.Parcels.{pieces_of, pieces_in}
use Rattle.crl_protocol.specs.Lifetimes.{members_from}
use Rattle.crl_naming.specs.Lives.{purge_to, purge_if, purges_for}

-- the purges from node m on, of k nodes
abbrev pub purges_from : ℕ → Name → ℕ → ℕ → (ℕ → Bool) → List Piece
purges_from me name m k asked = pieces_in (map (purge_to me name) (members_from m k asked))

-- those of the nodes below m are posted
abbrev pub is_told : ℕ → Name → ℕ → (ℕ → Bool) → List Piece → ℕ → List Piece → Type 0
is_told me name nodes asked out m now = (k : ℕ) → m + k ≡ nodes → now ++ purges_from me name m k asked ≡ out ++ purges_from me name 0 nodes asked

step_if : (b : Bool) (me : ℕ) (name : Name) (m k : ℕ) (asked : ℕ → Bool)
    → pieces_in (map (purge_to me name) (if b then m ∷ members_from (m + 1) k asked else members_from (m + 1) k asked))
    ≡ pieces_in (purge_if me name m b) ++ purges_from me name (m + 1) k asked
step_if true me name m k asked = rw (append-nil (pieces_of (purge_to me name m))) refl
step_if false me name m k asked = refl

pub told_step : (me : ℕ) (name : Name) (nodes : ℕ) (asked : ℕ → Bool) (out now after : List Piece) (m : ℕ)
    → after ≡ now ++ pieces_in (purge_if me name m (asked m)) → is_told me name nodes asked out m now → is_told me name nodes asked out (m + 1) after
told_step me name nodes asked out now after m e h = λ k s.
    let t : m + suc k ≡ nodes = omega arith in
    rw e (append_assoc now _ _ ∙ ap (λ x. now ++ x) (sym (step_if (asked m) me name m k asked)) ∙ h (suc k) t)

pub told_first : (me : ℕ) (name : Name) (nodes : ℕ) (asked : ℕ → Bool) (out : List Piece) → is_told me name nodes asked out 0 out
told_first me name nodes asked out = λ k s. let t : k ≡ nodes = omega arith in rw t refl

pub told_last : (me : ℕ) (name : Name) (nodes m : ℕ) (asked : ℕ → Bool) (out now : List Piece) → m ≡ nodes → is_told me name nodes asked out m now
    → now ≡ out ++ pieces_in (purges_for me name nodes asked)
told_last me name nodes m asked out now e h = sym (append-nil now) ∙ h 0 (omega arith)
