-- A text that is held against what was written.
use Rattle.std.proofs.Common.{◌≡◌, ℕ, Bool, List, [], ◌∷◌, ◌++◌, sym, ap, ◌∙◌, IsTrue}
use Rattle.std.specs.Str.{bytes_eq}
use Rattle.std.proofs.lemmas.Slice.Eq.{bytes_eq-Decides}
use Rattle.std.proofs.lemmas.List.{append_cancel_right}

-- what was written ends in a byte, and the text before it is compared
pub ended : (text written front : List ℕ) (last : ℕ) (test : Bool) → written ≡ front ++ last ∷ [] → last ≡ 10 → test ≡ bytes_eq front text
    → (IsTrue test → text ++ 10 ∷ [] ≡ written) × (text ++ 10 ∷ [] ≡ written → IsTrue test)
ended text written front last test whole feed is =
    let decides = bytes_eq-Decides front text in
    let all : written ≡ front ++ 10 ∷ [] = whole ∙ ap (λ (b : ℕ). front ++ b ∷ []) feed in (
      λ yes. ap (λ (xs : List ℕ). xs ++ 10 ∷ []) (sym (decides.0 (sym is ∙ yes))) ∙ sym all,
      λ same. is ∙ decides.1 (sym (append_cancel_right text front (10 ∷ []) (same ∙ all))),
    )
