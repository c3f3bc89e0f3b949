-- Bytes that are taken from a source and put into a sink, step by step.
use Rattle.std.proofs.Common.{ℕ, ◌≡◌, ◌≤◌, ◌+◌, ◌-◌, ◌++◌, List, take, drop, length, arith, sym, ap, ◌∙◌, append_assoc, Some, None, length-drop, length-take-le, take-append-drop, drop-drop, take_all}
use Rattle.std.proofs.lemmas.List.{take-append-le}
use Rattle.std.specs.declared.option.Option.{Option}
use Rattle.std.specs.Io.KnownBytes.{Consumes, Appends}

-- one part is taken, and then another
pub consumes_more : (a b c : Option (List ℕ)) (xs ys : List ℕ) → Consumes a b xs → Consumes b c ys → Consumes a c (xs ++ ys)
consumes_more None b c xs ys p q = tt
consumes_more (Some s) None c xs ys p q = absurd p
consumes_more (Some s) (Some t) None xs ys p q = absurd q
consumes_more (Some s) (Some t) (Some u) xs ys p q =
    p ∙ ap (λ v. xs ++ v) q ∙ sym (append_assoc xs ys u)

-- one part is put, and then another
pub appends_more : (a b c : Option (List ℕ)) (xs ys : List ℕ) → Appends a b xs → Appends b c ys → Appends a c (xs ++ ys)
appends_more None b c xs ys p q = tt
appends_more (Some s) None c xs ys p q = absurd p
appends_more (Some s) (Some t) None xs ys p q = absurd q
appends_more (Some s) (Some t) (Some u) xs ys p q = q ∙ ap (λ v. v ++ ys) p ∙ append_assoc s xs ys

-- a pull of n bytes into a buffer that has `more` behind them
pub pulled : (bytes more : List ℕ) (at n : ℕ) → at + n ≤ length bytes → drop at bytes ≡ take n (take n (drop at bytes) ++ more) ++ drop (at + n) bytes
pulled bytes more at n h =
    let left = drop at bytes in
    let long : n ≤ length left = rw (length-drop at bytes) (omega arith) in
    let front : take n (take n left ++ more) ≡ take n left = take-append-le n (take n left) more (omega (arith, length-take-le n left long)) ∙ take_all n (take n left) (omega (arith, length-take-le n left long)) in
    let back : drop (at + n) bytes ≡ drop n left = sym (drop-drop _ _ bytes) in
    rw (front, back) (sym (take-append-drop n left))

-- a push of n bytes of those that the front left over
pub pushed : (bytes front rest : List ℕ) (n : ℕ) → bytes ≡ front ++ rest → n ≤ length rest → bytes ≡ (front ++ take n rest) ++ take (length rest - n) (drop n rest)
pushed bytes front rest n e h =
    let back : take (length rest - n) (drop n rest) ≡ drop n rest = take_all _ (drop n rest) (rw (length-drop n rest) (omega arith)) in
    rw (back, append_assoc, take-append-drop n rest) e
