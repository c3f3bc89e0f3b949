-- Callers in a list.
use Rattle.std.proofs.Common.{◌≡◌, ℕ, ◌<◌, List, [], ◌∷◌, ◌++◌, length, slice_index_or, Option, Some, None, sym, ap, subst, arith, length-append}
use Rattle.std.specs.Prelude.{All, IfSome, option_to_list}
use Rattle.std.proofs.lemmas.List.{get_or_append_left}
use Rattle.std.proofs.lemmas.Option.{slice_get-get_or}
use Rattle.std.proofs.Math.Seq.{get_or-append_seam}
use Rattle.crl_cluster.specs.declared.cluster.Cluster.{Cluster}
use Rattle.crl_calls.specs.declared.caller.Caller.{Caller}
use Rattle.crl_calls.specs.Callers.{AreNewCallers}
use Rattle.crl_calls_tests.specs.Callers.{AreCallersOf}

pub all_callers : {N T A B : Type 0} (cluster : Cluster N T A B) (many : ℕ) (list : List Caller) → AreNewCallers cluster many list → AreCallersOf cluster list
all_callers cluster many list are k d inside = (are.each k (slice_index_or list k d) (slice_get-get_or list k d inside)).caller

pub all_front : {X : Type 0} (P : X → Type 0) (whole xs ys : List X) → whole ≡ xs ++ ys → All P whole → All P xs
all_front P whole xs ys is all k d inside =
    subst P (get_or_append_left xs ys d k inside)
    (subst (λ l. P (slice_index_or l k d)) is (all k d (subst (λ l. k < length l) (sym is) (omega (arith, length-append xs ys)))))

pub all_last : {X : Type 0} (P : X → Type 0) (whole xs : List X) (r : Option X) → whole ≡ xs ++ option_to_list r → All P whole → IfSome r P
all_last P whole xs None is all = tt
all_last P whole xs (Some x) is all =
    subst P (get_or-append_seam xs x [] x)
    (subst (λ l. P (slice_index_or l (length xs) x)) is (all (length xs) x (subst (λ l. length xs < length l) (sym is) (omega (arith, length-append xs (x ∷ []))))))
