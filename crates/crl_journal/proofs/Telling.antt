-- The account of the journals of a run is what the run entries_told.
use Rattle.std.proofs.Common.{◌≡◌, ℕ, zero, suc, ◌+◌, ◌<◌, ◌≤◌, ◌==◌, List, [], ◌∷◌, ◌++◌, ◌∙◌, sym, refl, arith, length, get_or, replicate}
use Rattle.std.specs.Prelude.{if◌then◌else◌}
use Rattle.std.proofs.lemmas.List.{append_assoc, append-nil, same_lists, length-replicate, get_or-replicate, get_or_default}
use Rattle.crl_model.specs.declared.journal.Recorded.{Recorded}
use Rattle.crl_model.specs.declared.entry.Entry.{Entry}
use Rattle.crl_journal.specs.Merging.{merge_into, entries_of, merged_account}
use Rattle.crl_protocol.specs.World.{records_of}
use Rattle.crl_journal.specs.Told.{EventEntries, entries_told, records_at, Ascends, AreRecordsOf}
use Rattle.crl_journal.proofs.Growth.{IsBefore, AreBefore, IsAt, append_at, appends, before_append}

entries_are : (p : ℕ) (es : List Entry) → entries_of (records_of p es) ≡ es
entries_are p [] = refl
entries_are p (e ∷ es) = rw (entries_are p es) refl

stand_at : (p : ℕ) (es : List Entry) → IsAt p (records_of p es)
stand_at p [] = tt
stand_at p (e ∷ es) = (refl, stand_at p es)

is_sooner : (p q : ℕ) (xs : List Recorded) → p ≤ q → IsBefore p xs → IsBefore q xs
is_sooner p q [] l b = b
is_sooner p q (x ∷ xs) l b = (omega (arith, l, b.0), is_sooner p q xs l b.1)

are_sooner : (p q : ℕ) (xss : List (List Recorded)) → p ≤ q → AreBefore p xss → AreBefore q xss
are_sooner p q [] l b = b
are_sooner p q (xs ∷ xss) l b = (is_sooner p q xs l b.0, are_sooner p q xss l b.1)

at_before : (p : ℕ) (xs : List Recorded) → IsAt p xs → IsBefore (p + 1) xs
at_before p [] a = a
at_before p (x ∷ xs) a = (omega (arith, a.0), at_before p xs a.1)

put_before : (p : ℕ) (i : ℕ) (new : List Recorded) (xss : List (List Recorded)) → IsBefore p new → AreBefore p xss → AreBefore p (append_at i new xss)
put_before p i new [] n b = b
put_before p zero new (xs ∷ xss) n b = (before_append p xs new b.0 n, b.1)
put_before p (suc i) new (xs ∷ xss) n b = (b.0, put_before p i new xss n b.1)

put_length : (i : ℕ) (new : List Recorded) (xss : List (List Recorded)) → length (append_at i new xss) ≡ length xss
put_length i new [] = refl
put_length zero new (xs ∷ xss) = refl
put_length (suc i) new (xs ∷ xss) = rw (put_length i new xss) refl

put_read : (n i : ℕ) (new : List Recorded) (xss : List (List Recorded)) → i < length xss → get_or (append_at n new xss) i [] ≡ get_or xss i [] ++ (if n == i then new else [])
put_read n i new [] l = grind arith
put_read zero zero new (xs ∷ xss) l = refl
put_read zero (suc i) new (xs ∷ xss) l = let e = append-nil (get_or xss i []) in grind arith
put_read (suc n) zero new (xs ∷ xss) l = let e = append-nil xs in grind arith
put_read (suc n) (suc i) new (xs ∷ xss) l =
    let j = put_read n i new xss (omega (arith, l)) in
    grind arith

-- the journals yss have what xss has and what the rest of the run recorded
tells : (ts : List EventEntries) (p : ℕ) (xss yss : List (List Recorded)) → length yss ≡ length xss → AreBefore p xss → Ascends (length yss) p ts → ((i : ℕ) → i < length yss → get_or yss i [] ≡ get_or xss i [] ++ records_at i ts) → merged_account yss ≡ merged_account xss ++ entries_told ts
tells [] p xss yss e b a h =
    let same : yss ≡ xss = same_lists yss xss e (λ i d l. get_or_default yss i d [] l ∙ h i l ∙ append-nil (get_or xss i []) ∙ get_or_default xss i [] d (rw e at l)) in
    rw (same, append-nil (merged_account xss)) refl
tells (t ∷ ts) p xss yss e b a h =
    let new : List Recorded = records_of t.position t.entries in
    let sooner : AreBefore t.position xss = are_sooner p t.position xss a.1 b in
    let at : IsAt t.position new = stand_at t.position t.entries in
    let next : List (List Recorded) = append_at t.node new xss in
    let grown : merged_account next ≡ merged_account xss ++ entries_of new = appends xss t.node t.position new sooner at (rw e at a.0) in
    let before : AreBefore (t.position + 1) next = put_before (t.position + 1) t.node new xss (at_before t.position new at) (are_sooner t.position (t.position + 1) xss (omega arith) sooner) in
    let rest : merged_account yss ≡ merged_account next ++ entries_told ts = tells ts (t.position + 1) next yss (e ∙ sym (put_length t.node new xss)) before a.2 (λ i l. h i l ∙ sym (rw (put_read t.node i new xss (rw e at l)) (append_assoc (get_or xss i []) (if t.node == i then new else []) (records_at i ts)))) in
    rest ∙ rw (grown, entries_are t.position t.entries) (append_assoc (merged_account xss) t.entries (entries_told ts))

none_before : (n : ℕ) → AreBefore 0 (replicate n [])
none_before zero = tt
none_before (suc n) = (tt, none_before n)

none_merged : (n : ℕ) → merge_into [] (replicate n []) ≡ []
none_merged zero = refl
none_merged (suc n) = none_merged n

pub tells_run : (run : List EventEntries) (journals : List (List Recorded)) → AreRecordsOf run journals → merged_account journals ≡ entries_told run
tells_run run journals r =
    let n : ℕ = length journals in
    let all : merged_account journals ≡ merged_account (replicate n []) ++ entries_told run = tells run 0 (replicate n []) journals (sym (length-replicate n [])) (none_before n) r.ascends (λ i l. rw (get_or-replicate {A = List Recorded} n i [] [] l) (r.recorded i l)) in
    all ∙ rw (none_merged n) refl
