-- The callers of a new cluster.
use Rattle.std.proofs.Common.{◌≡◌, ℕ, zero, suc, ◌+◌, ◌<◌, ◌⊎◌, inl, inr, ⊎_elim, false, List, [], ◌∷◌, ◌++◌, length, slice_get, refl, sym, ap, ◌∙◌, subst, length-append, Some}
use Rattle.crl_turns.specs.declared.view.View.{View}
use Rattle.crl_turns.specs.Plays.{split_view}
use Rattle.crl_turns.specs.Rule.{value_place}
use Rattle.crl_cluster.specs.declared.cluster.Cluster.{Cluster}
use Rattle.crl_cluster.specs.Clusters.{node_count, IsOf}
use Rattle.crl_calls.specs.declared.caller.Caller.{Caller}
use Rattle.crl_calls.specs.Callers.{knows, IsNewCaller, AreNewCallers}

get_snoc : {A : Type 0} (xs : List A) (x y : A) (k : ℕ) → slice_get (xs ++ x ∷ []) k ≡ Some y → (slice_get xs k ≡ Some y) ⊎ ((k ≡ length xs) × (x ≡ y))
get_snoc [] x y zero e = inr (refl, cc)
get_snoc [] x y (suc k) e = inl e
get_snoc (a ∷ xs) x y zero e = inl e
get_snoc (a ∷ xs) x y (suc k) e = ⊎_elim (λ h. inl h) (λ (h : (k ≡ length xs) × (x ≡ y)). inr (ap suc h.0, h.1)) (get_snoc xs x y k e)

module _ {N T A B : Type 0} (cluster : Cluster N T A B) where
  pub new_none : AreNewCallers cluster 0 []
  new_none = record { count = refl; each = λ i who there. cc }

  pub new_caller : (who : Caller) (old : View) → IsOf cluster who.pass → who.node < node_count cluster → who.spent ≡ false → knows who ≡ split_view old → old.front ≡ [] → IsNewCaller cluster who.node who
  new_caller who old here inside lasts is empty = record {
    number = refl;
    caller = record { here = here; inside = inside; idle = λ part. ap (λ (v : View). value_place part v.holds) is; full = λ spent. cc };
    front = ap (λ (v : View). v.front) is ∙ empty;
    own = ap (λ (v : View). v.own) is;
    tried = ap (λ (v : View). v.tried) is;
    lasts = lasts;
  }

  pub new_more : (many : ℕ) (callers grown : List Caller) (who : Caller) → AreNewCallers cluster many callers → IsNewCaller cluster many who → grown ≡ callers ++ who ∷ [] → AreNewCallers cluster (many + 1) grown
  new_more many callers grown who are new is = record {
    count = ap length is ∙ length-append callers (who ∷ []) ∙ ap (λ k. k + 1) are.count;
    each = λ i other there. ⊎_elim (λ old. are.each i other old)
        (λ (last : (i ≡ length callers) × (who ≡ other)). subst (λ w. IsNewCaller cluster i w) last.1 (subst (λ k. IsNewCaller cluster k who) (sym (last.0 ∙ are.count)) new))
        (get_snoc callers who other i (ap (λ l. slice_get l i) (sym is) ∙ there));
  }
