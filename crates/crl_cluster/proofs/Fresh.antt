-- The nodes of a new cluster.
use Rattle.std.proofs.Common.{◌≡◌, ℕ, zero, suc, ◌+◌, ◌<◌, ◌⊎◌, inl, inr, ⊎_elim, List, [], ◌∷◌, ◌++◌, length, slice_get, refl, sym, ap, ◌∙◌, subst, arith, length-append, Some}
use Rattle.crl_protocol.specs.Node.{Node}
use Rattle.crl_protocol.specs.Talk.{Heard}
use Rattle.crl_turns.specs.Rule.{StandsFor}
use Rattle.crl_turns.specs.declared.turned.Shape.{Shape}
use Rattle.crl_cluster.specs.declared.behind.Behind.{Behind}
use Rattle.crl_cluster.specs.Standing.{StandsAt}
use Rattle.crl_cluster.specs.Starting.{IsNew, AreNew, shape_with}

get_snoc : {A : Type 0} (xs : List A) (x y : A) (k : ℕ) → slice_get (xs ++ x ∷ []) k ≡ Some y → (slice_get xs k ≡ Some y) ⊎ ((k ≡ length xs) × (x ≡ y))
get_snoc [] x y zero e = inr (refl, cc)
get_snoc [] x y (suc k) e = inl e
get_snoc (a ∷ xs) x y zero e = inl e
get_snoc (a ∷ xs) x y (suc k) e = ⊎_elim (λ h. inl h) (λ (h : (k ≡ length xs) × (x ≡ y)). inr (ap suc h.0, h.1)) (get_snoc xs x y k e)

module _ {N T : Type 0} (state : N → Node) (stands : ℕ → List Heard → T → Type 0) (nodes capacity : ℕ) where
  pub new_none : AreNew state stands nodes capacity 0 []
  new_none = record { count = refl; each = λ i behind there. cc }

  pub new_more : (many : ℕ) (values grown : List (Behind N T)) (x : Behind N T) → AreNew state stands nodes capacity many values → IsNew state stands nodes capacity many x → grown ≡ values ++ x ∷ []
      → AreNew state stands nodes capacity (many + 1) grown
  new_more many values grown x are new is = record {
    count = ap length is ∙ length-append values (x ∷ []) ∙ ap (λ k. k + 1) are.count;
    each = λ i behind there. ⊎_elim (λ old. are.each i behind old)
        (λ (last : (i ≡ length values) × (x ≡ behind)). subst (λ b. IsNew state stands nodes capacity i b) last.1 (subst (λ k. IsNew state stands nodes capacity k x) (sym (last.0 ∙ are.count)) new))
        (get_snoc values x behind i (ap (λ l. slice_get l i) (sym is) ∙ there));
  }

  pub new_stand : (values : List (Behind N T)) → AreNew state stands nodes capacity nodes values → (i : ℕ) (behind first : Behind N T) → slice_get values i ≡ Some behind → slice_get values 0 ≡ Some first
      → StandsFor (λ (b : Behind N T). b.shape) (λ s i front b. StandsAt state stands s i front b.node b.luggage) first.shape i [] behind
  new_stand values are i behind first there zeroth =
      let one = are.each i behind there in
      let same : first.shape ≡ shape_with nodes capacity = (are.each 0 first zeroth).shape in
      (one.shape ∙ sym same, subst (λ s. StandsAt state stands s i [] behind.node behind.luggage) (sym same) (record { node_is = one.node; luggage_stands = one.luggage }))

  first_of : {A : Type 0} (values : List A) → 0 < length values → (first : A) × (slice_get values 0 ≡ Some first)
  first_of [] some = absurd (omega (arith, some))
  first_of (x ∷ values) some = (x, refl)

  pub shape_is : (values : List (Behind N T)) (common : Shape) → AreNew state stands nodes capacity nodes values → 0 < nodes
      → ((first : Behind N T) → slice_get values 0 ≡ Some first → common ≡ first.shape) → common ≡ shape_with nodes capacity
  shape_is values common are some is =
      let first = first_of values (subst (λ k. 0 < k) (sym are.count) some) in
      is first.0 first.1 ∙ (are.each 0 first.0 first.1).shape
