-- What a list of events keeps when one comes behind it.
use Rattle.std.proofs.Common.{◌≡◌, ℕ, suc, ◌<◌, ◌≤◌, ◌⊎◌, inl, inr, ⊎_elim, List, [], ◌∷◌, ◌++◌, length, refl, ap, sym, ◌∙◌, subst, arith, append_assoc, append-nil, length-append, le_refl, le_trans, lt_of_not-le}
use mathlib.Core.Logic.{dite}
use native.Mathlib.Decide.{dec_le}
use Rattle.crl_turns.specs.Fronts.{Begins, Runs, Spares}

module _ {E : Type 0} where
  abbrev head_or : E → List E → E
  head_or d [] = d
  head_or d (x ∷ xs) = x

  abbrev tail : List E → List E
  tail [] = []
  tail (x ∷ xs) = xs

  pub begins_length : (xs ys : List E) → Begins xs ys → length xs ≤ length ys
  begins_length xs ys b = omega (arith, length-append xs b.0, ap length b.1)

  pub begins_nil : (xs : List E) → Begins [] xs
  begins_nil xs = (xs, refl)

  pub begins_same : (xs : List E) → Begins xs xs
  begins_same xs = ([], append-nil xs)

  pub begins_trans : (xs ys zs : List E) → Begins xs ys → Begins ys zs → Begins xs zs
  begins_trans xs ys zs a b = (a.0 ++ b.0, sym (append_assoc xs a.0 b.0) ∙ ap (λ l. l ++ b.0) a.1 ∙ b.1)

  pub begins_more : (xs ys zs : List E) → Begins xs ys → Begins xs (ys ++ zs)
  begins_more xs ys zs a = begins_trans xs ys (ys ++ zs) a (zs, refl)

  -- one that is no shorter is the whole
  pub begins_whole : (xs ys : List E) → Begins xs ys → length ys ≤ length xs → xs ≡ ys
  begins_whole xs ys b le = go b.0 b.1
    where
      go : (rest : List E) → xs ++ rest ≡ ys → xs ≡ ys
      go [] e = sym (append-nil xs) ∙ e
      go (x ∷ rest) e = absurd (omega (arith, length-append xs (x ∷ rest), ap length e, le))

  -- of two beginnings of one list the shorter begins the longer
  pub begins_two : (xs ys log : List E) → Begins xs log → Begins ys log → length xs ≤ length ys → Begins xs ys
  begins_two [] ys log a b le = (ys, refl)
  begins_two (x ∷ xs) [] log a b le = absurd (omega arith)
  begins_two (x ∷ xs) (y ∷ ys) log a b le =
      let e : (x ∷ xs) ++ a.0 ≡ (y ∷ ys) ++ b.0 = a.1 ∙ sym b.1 in
      let same : x ≡ y = ap (head_or x) e in
      let r = begins_two xs ys (ys ++ b.0) (a.0, ap tail e) (b.0, refl) (omega arith) in
      (r.0, λ k. same k ∷ r.1 k)

  -- where an event stands in a list with one more behind it
  pub stood : (before after log : List E) (e x : E) → before ++ e ∷ after ≡ log ++ x ∷ [] → ((before ≡ log) × (e ≡ x)) ⊎ ((rest : List E) × (before ++ e ∷ rest ≡ log))
  stood [] [] [] e x is = inl (refl, ap (head_or e) is)
  stood [] (a ∷ after) [] e x is = absurd (omega (arith, ap length is))
  stood [] after (l ∷ log) e x is = inr (log, λ k. ap (head_or e) is k ∷ log)
  stood (b ∷ before) after [] e x is = absurd (omega (arith, ap length is, length-append before (e ∷ after)))
  stood (b ∷ before) after (l ∷ log) e x is =
      let same : b ≡ l = ap (head_or b) is in
      ⊎_elim (λ t. inl (λ k. same k ∷ t.0 k, t.1)) (λ t. inr (t.0, λ k. same k ∷ t.1 k)) (stood before after log e x (ap tail is))

  -- an event that stands early in a list stands in its beginning
  stands_in : (before after xs rest : List E) (e : E) → before ++ e ∷ after ≡ xs ++ rest → length before < length xs → (behind : List E) × (before ++ e ∷ behind ≡ xs)
  stands_in before after [] rest e is lt = absurd (omega arith)
  stands_in [] after (x ∷ xs) rest e is lt = (xs, λ k. ap (head_or e) is k ∷ xs)
  stands_in (b ∷ before) after (x ∷ xs) rest e is lt =
      let r = stands_in before after xs rest e (ap tail is) (omega arith) in
      (r.0, λ k. ap (head_or b) is k ∷ r.1 k)

  module _ (enabled : List E → E → Type 0) where
    pub runs_nil : Runs enabled []
    runs_nil before e after is = absurd (omega (arith, ap length is, length-append before (e ∷ after)))

    pub runs_more : (log : List E) (x : E) → Runs enabled log → enabled log x → Runs enabled (log ++ x ∷ [])
    runs_more log x runs may before e after is =
        ⊎_elim (λ (t : (before ≡ log) × (e ≡ x)). subst (λ (p : List E × E). enabled p.0 p.1) (λ k. (sym t.0 k, sym t.1 k)) may)
        (λ (t : (rest : List E) × (before ++ e ∷ rest ≡ log)). runs before e t.0 t.1) (stood before after log e x is)

  module _ (touches : List E → E → Type 0) where
    pub spares_more : (n : ℕ) (log : List E) (x : E) → Spares touches n log → (touches log x → ⊥) → Spares touches n (log ++ x ∷ [])
    spares_more n log x spares past before e after is le hit =
        ⊎_elim (λ (t : (before ≡ log) × (e ≡ x)). past (subst (λ (p : List E × E). touches p.0 p.1) (λ k. (t.0 k, t.1 k)) hit))
        (λ (t : (rest : List E) × (before ++ e ∷ rest ≡ log)). spares before e t.0 t.1 le hit) (stood before after log e x is)

    -- what came since the first n, up to a longer list and from there on
    pub spares_both : (n : ℕ) (xs log : List E) → Begins xs log → Spares touches n xs → Spares touches (length xs) log → Spares touches n log
    spares_both n xs log b low high before e after is le hit = dite (dec_le (length xs) (length before))
        (λ late. high before e after is late hit)
        (λ early. let t = stands_in before after xs b.0 e (is ∙ sym b.1) (lt_of_not-le early) in low before e t.0 t.1 le hit)

    -- what came since the whole list
    pub spares_none : (log : List E) → Spares touches (length log) log
    spares_none log before e after is le hit = absurd (omega (arith, ap length is, length-append before (e ∷ after), le))

    pub spares_later : (n m : ℕ) (log : List E) → n ≤ m → Spares touches n log → Spares touches m log
    spares_later n m log le spares before e after is more hit = spares before e after is (le_trans le more) hit

    pub spares_shorter : (n : ℕ) (xs log : List E) → Begins xs log → Spares touches n log → Spares touches n xs
    spares_shorter n xs log b spares before e after is le hit =
        spares before e (after ++ b.0) (sym (append_assoc before (e ∷ after) b.0) ∙ ap (λ l. l ++ b.0) is ∙ b.1) le hit

  -- what an event that spares the part leaves, all of them leave
  module _ {V : Type 0} (enabled touches : List E → E → Type 0) (stands : List E → V → Type 0)
      (stays : (front : List E) (e : E) (x : V) → stands front x → enabled front e → (touches front e → ⊥) → stands (front ++ e ∷ []) x) where
    still_from : (rest front log : List E) (x : V) → front ++ rest ≡ log → Runs enabled log → Spares touches (length front) log → stands front x → stands log x
    still_from [] front log x is runs spares s = subst (λ l. stands l x) (sym (append-nil front) ∙ is) s
    still_from (e ∷ es) front log x is runs spares s =
        let longer : (front ++ e ∷ []) ++ es ≡ log = append_assoc front (e ∷ []) es ∙ is in
        let more : length (front ++ e ∷ []) ≡ suc (length front) = omega (arith, length-append front (e ∷ [])) in
        still_from es (front ++ e ∷ []) log x longer runs (spares_later touches (length front) _ log (omega (arith, more)) spares)
        (stays front e x s (runs front e es is) (spares front e es is (le_refl (length front))))

    pub still : (front log : List E) (x : V) → Begins front log → Runs enabled log → Spares touches (length front) log → stands front x → stands log x
    still front log x b = still_from b.0 front log x b.1
