-- Histories that are judged entry by entry.
use Rattle.std.proofs.Common.{◌≡◌, ℕ, ◌+◌, ◌<◌, ◌≤◌, suc, Bool, true, false, List, [], ◌∷◌, ◌++◌, length, take, get_or, sym, ap, ◌∙◌, arith, append_assoc, length-append}
use Rattle.std.proofs.lemmas.List.{take_more}
use Rattle.crl_model.specs.declared.entry.Entry.{Entry}
use Rattle.crl_machine.specs.SingleMachine.{State, IsLegal, after}
use Rattle.crl_machine.proofs.Laws.{history_push, after_push}
use Rattle.crl_check.specs.Histories.{IsFirstIllegal}
use Rattle.crl_check.specs.Judging.{Found}

-- a legal step more
pub found_legal : (s : State) (given : List Entry) (broken : Bool) (legal : ℕ) (t u : State) (e : Entry) → broken ≡ false → Found s given broken legal t → IsLegal t e → u ≡ after t e
    → Found s (given ++ e ∷ []) broken (legal + 1) u
found_legal s given true legal t u e b f step made = absurd cc
found_legal s given false legal t u e b f step made = (
  history_push s given e f.0 (rw f.2 at step),
  ap (λ n. n + 1) f.1 ∙ sym (length-append given (e ∷ [])),
  made ∙ ap (λ x. after x e) f.2 ∙ sym (after_push s given e),
)

-- an entry behind the first that is no legal step
pub found_still : (s : State) (given : List Entry) (broken : Bool) (legal : ℕ) (t : State) (e : Entry) → broken ≡ true → Found s given broken legal t → Found s (given ++ e ∷ []) broken legal t
found_still s given false legal t e b f = absurd cc
found_still s given true legal t e b f = record {
  before = f.before;
  entry = f.entry;
  behind = f.behind ++ e ∷ [];
  whole = ap (λ es. es ++ e ∷ []) f.whole ∙ append_assoc f.before (f.entry ∷ f.behind) (e ∷ []);
  place = f.place;
  legal = f.legal;
  illegal = f.illegal;
}

-- the first entry that is no legal step is one of the entries
pub illegal_inside : (s : State) (es : List Entry) (i : ℕ) → IsFirstIllegal s es i → i < length es
illegal_inside s es i f =
    let whole : length es ≡ length f.before + suc (length f.behind) = ap length f.whole ∙ length-append f.before (f.entry ∷ f.behind) in
    omega (arith, whole, f.place)

-- no more are legal than there are
pub found_within : (s : State) (given : List Entry) (broken : Bool) (legal : ℕ) (t : State) → Found s given broken legal t → legal ≤ length given
found_within s given false legal t f = omega (arith, f.1)
found_within s given true legal t f = omega (arith, illegal_inside s given legal f)

-- the first i entries, and one more
pub one_more : (es : List Entry) (i : ℕ) (e : Entry) → i < length es → e ≡ get_or es i e → take i es ++ e ∷ [] ≡ take (i + 1) es
one_more es i e inside is = sym (take_more es i e inside ∙ ap (λ x. take i es ++ x ∷ []) (sym is))
