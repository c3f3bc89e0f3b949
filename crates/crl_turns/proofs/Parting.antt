-- A split and a join keep the rule.
use Rattle.std.proofs.Common.{◌≡◌, ◌≢◌, ℕ, zero, suc, ◌+◌, ◌<◌, ◌≤◌, nat_lt, ◌⊎◌, inl, inr, ⊎_elim, Bool, true, false, List, [], ◌∷◌, ◌++◌, length, refl, ap, sym, ◌∙◌, subst, arith, set, Option, slice_index, le_refl, lt_of_lt_of_le, ltb-true, ltb-false}
use mathlib.Core.Option as maybe
use mathlib.Core.Logic.{dite}
use native.Mathlib.Decide.{ℕ_discrete}
use mathlib.Core.Option.{some-injective, some-ne-none}
use lib.ListN.{get_elem?}
use Rattle.atomic_table.specs.Table.{State, Splits, Joins}
use Rattle.atomic_table.proofs.Lists.{at_set, at_snoc, at_longer, set_else}
use Rattle.crl_model.specs.declared.event.Event.{Event}
use Rattle.crl_turns.specs.declared.view.Place.TheVariants.{Free, Empty}
use Rattle.crl_turns.specs.declared.view.View.{View}
use Rattle.crl_turns.specs.Fronts.{Begins, Spares, longer_by}
use Rattle.crl_turns.specs.Rule.{value_place, IsAmong, TurnIsIn, TurnIsOut, Knows, TurnRule}
use Rattle.crl_turns.specs.Plays.{blank_view, after_split, split_view, after_join, longer}
use Rattle.crl_turns.proofs.Logs.{begins_nil, begins_length, spares_later}
use Rattle.crl_turns.proofs.Holders.{turn_same, free_not, set_at}
use Rattle.crl_turns.proofs.Keeps.{kept_set, had, Reached, reached_still}

set_swap : {A : Type 0} (l : List A) (i j : ℕ) (a b : A) → i ≢ j → set (set l i a) j b ≡ set (set l j b) i a
set_swap [] i j a b apart = refl
set_swap (x ∷ xs) zero zero a b apart = absurd (apart refl)
set_swap (x ∷ xs) zero (suc j) a b apart = refl
set_swap (x ∷ xs) (suc i) zero a b apart = refl
set_swap (x ∷ xs) (suc i) (suc j) a b apart = ap (λ l. x ∷ l) (set_swap xs i j a b (λ e. apart (ap suc e)))

set_set : {A : Type 0} (l : List A) (i : ℕ) (a b : A) → set (set l i a) i b ≡ set l i b
set_set [] i a b = refl
set_set (x ∷ xs) zero a b = refl
set_set (x ∷ xs) (suc i) a b = ap (λ l. x ∷ l) (set_set xs i a b)

pub in_both : {A : Type 0} (xs ys : List A) (x : A) → IsAmong x (xs ++ ys) → IsAmong x xs ⊎ IsAmong x ys
in_both [] ys x i = inr i
in_both (y ∷ xs) ys x (inl e) = inl (inl e)
in_both (y ∷ xs) ys x (inr i) = ⊎_elim (λ a. inl (inr a)) (λ b. inr b) (in_both xs ys x i)

pub longer_is : (P : List Event → Type 0) (xs ys : List Event) → P xs → P ys → P (longer xs ys)
longer_is P xs ys p q = go (nat_lt (length xs) (length ys))
  where
    go : (b : Bool) → P (longer_by b xs ys)
    go true = q
    go false = p

pub longer_than : (xs ys : List Event) → (length xs ≤ length (longer xs ys)) × (length ys ≤ length (longer xs ys))
longer_than xs ys = go (nat_lt (length xs) (length ys)) refl
  where
    go : (b : Bool) → nat_lt (length xs) (length ys) ≡ b → (length xs ≤ length (longer_by b xs ys)) × (length ys ≤ length (longer_by b xs ys))
    go true e = let lt : length xs < length ys = ltb-true (length xs) (length ys) e in (omega arith, le_refl (length ys))
    go false e = (le_refl (length xs), ltb-false (length xs) (length ys) e)

module _ {V : Type 0} (enabled : List Event → Event → Type 0) (touches : List Event → Event → ℕ → Type 0) (stands : ℕ → List Event → V → Type 0) where
  -- a pass that has done nothing comes
  module _ (s : State (Option V) View) (h : TurnRule enabled touches stands s) (w : View) (idle : w.holds ≡ []) (new : w.own ≡ []) where
    free_born : (i j : ℕ) (u : View) → get_elem? (s.views ++ w ∷ []) j ≡ maybe.some u → (get_elem? s.views j ≡ maybe.some u → value_place i u.holds ≡ Free) → value_place i u.holds ≡ Free
    free_born i j u at old = ⊎_elim old (λ (is : w ≡ u). ap (λ (z : View). value_place i z.holds) (sym is) ∙ ap (value_place i) idle) (at_snoc s.views w u j at)

    kept_born : Knows touches h.log w → TurnRule enabled touches stands (record { words = s.words; homes = s.homes; views = s.views ++ w ∷ [] })
    kept_born knows = record {
      wide = h.wide;
      log = h.log;
      longest = (h.longest.0, h.longest.1, at_longer s.views (w ∷ []) h.longest.0 h.longest.1 h.longest.2, h.longest.3);
      count = h.count;
      limit = h.limit;
      runs = h.runs;
      knows = λ j u at. ⊎_elim (λ old. h.knows j u old) (λ is. subst (λ z. Knows touches h.log z) is knows) (at_snoc s.views w u j at);
      own = λ j k n u z at_j at_k in_j in_k. ⊎_elim
          (λ old. ⊎_elim (λ old'. h.own j k n u z old old' in_j in_k) (λ (is : w ≡ z). absurd (subst (λ l. IsAmong n l) (ap (λ (a : View). a.own) (sym is) ∙ new) in_k)) (at_snoc s.views w z k at_k))
          (λ (is : w ≡ u). absurd (subst (λ l. IsAmong n l) (ap (λ (a : View). a.own) (sym is) ∙ new) in_j))
          (at_snoc s.views w u j at_j);
      turns = λ i lt. ⊎_elim
          (λ (t : TurnIsIn stands h.log s.views (slice_index s.words (i + 1)) (get_elem? s.homes i) i). inl (record {
            word_is = t.word_is;
            nobody = λ j u at. free_born i j u at (t.nobody j u);
            stocks = t.stocks;
          }))
          (λ (t : TurnIsOut stands h.log s.views (slice_index s.words (i + 1)) (get_elem? s.homes i) i). inr (record {
            word_is = t.word_is;
            id = t.id;
            view = t.view;
            at = at_longer s.views (w ∷ []) t.id t.view t.at;
            holds = t.holds;
            alone = λ j u at apart. free_born i j u at (λ old. t.alone j u old apart);
            stocks = t.stocks;
          }))
          (h.turns i lt);
    }

  -- the one that is spent doesn't have the longest front alone
  reached_past : (views : List View) (id other n : ℕ) (v w : View) → get_elem? views id ≡ maybe.some v → get_elem? views other ≡ maybe.some w → id ≢ other → length w.front ≤ length v.front → length v.front ≤ n
      → Reached enabled touches stands views n → Reached enabled touches stands (set views other blank_view) n
  reached_past views id other n v w at there apart more less r = dite (ℕ_discrete r.0 other)
      (λ (e : r.0 ≡ other).
      let is : r.1 ≡ w = some-injective r.1 w (sym r.2 ∙ ap (λ k. get_elem? views k) e ∙ there) in
      let long = ap (λ (z : View). length z.front) is in
      let reach = r.3 in
      (id, v, set_else views other id blank_view apart ∙ at, omega (arith, long, reach, more, less)))
      (λ (away : r.0 ≢ other). (r.0, r.1, set_else views other r.0 blank_view away ∙ r.2, r.3))

  -- a pass says the same of its turns
  kept_same : (s : State (Option V) View) (h : TurnRule enabled touches stands s) (id : ℕ) (v w : View) (at : get_elem? s.views id ≡ maybe.some v) → ((i : ℕ) → value_place i w.holds ≡ value_place i v.holds) → Knows touches h.log w → Reached enabled touches stands (set s.views id w) (length h.log)
      → ((n j : ℕ) (u : View) → IsAmong n w.own → get_elem? s.views j ≡ maybe.some u → j ≢ id → IsAmong n u.own → ⊥)
      → TurnRule enabled touches stands (record { words = s.words; homes = s.homes; views = set s.views id w })
  kept_same s h id v w at same knows longest grown = kept_set enabled touches stands s h id v w at h.log s.words s.homes h.wide h.count h.limit h.runs (λ j u there apart. h.knows j u there) knows longest grown
      (λ j lt. turn_same stands h.log s.views (slice_index s.words (j + 1)) (get_elem? s.homes j) j id v w at (same j) (h.turns j lt))

  pub parts : (id : ℕ) (v : View) → Splits (TurnRule enabled touches stands) id v (after_split v) (split_view v)
  unfolding kept_same kept_set
  parts id v s h at =
      let k = h.knows id v at in
      let first = kept_same s h id v (after_split v) at (λ i. refl) (record { front = k.front; known = k.known; met = k.met; spares = k.spares; fresh = k.fresh; own = k.own }) (reached_still enabled touches stands s.views id (length h.log) v (after_split v) at (le_refl (length v.front)) (begins_length v.front h.log k.front) h.longest) (had enabled touches stands s h id v at) in
      kept_born (record { words = s.words; homes = s.homes; views = set s.views id (after_split v) }) first (split_view v) refl refl
      (record { front = k.front; known = k.front; met = begins_nil h.log; spares = λ i holds. absurd (holds refl); fresh = λ i has. absurd (free_not has); own = λ n is_in. absurd is_in })

  pub joins : (id : ℕ) (v : View) (other : ℕ) (w : View) → ((i : ℕ) → value_place i w.holds ≡ Free) → Joins (TurnRule enabled touches stands) id v other w (after_join v w) blank_view
  unfolding kept_same kept_set
  joins id v other w idle s h at apart at' =
      let k = h.knows id v at in
      let there : get_elem? s.views other ≡ maybe.some w = sym (set_else s.views id other (after_join v w) apart) ∙ at' in
      let l = h.knows other w there in
      let far = longer v.front w.front in
      let far_begins : Begins far h.log = longer_is (λ x. Begins x h.log) v.front w.front k.front l.front in
      let far_fresh : (i : ℕ) → value_place i v.holds ≡ Empty → Spares (λ before x. touches before x i) (length far) h.log = λ i has. spares_later (λ before x. touches before x i) (length v.front) (length far) h.log (longer_than v.front w.front).0 (k.fresh i has) in
      -- first the front
      let mid = record v { front = far } in
      let first = kept_same s h id v mid at (λ i. refl)
      (record { front = far_begins; known = k.known; met = k.met; spares = k.spares; fresh = far_fresh; own = λ n a. lt_of_lt_of_le (k.own n a) (longer_than v.front w.front).0 })
      (reached_still enabled touches stands s.views id (length h.log) v mid at (longer_than v.front w.front).0 (begins_length far h.log far_begins) h.longest) (had enabled touches stands s h id v at) in
      let t : State (Option V) View = record { words = s.words; homes = s.homes; views = set s.views id mid } in
      let there_t : get_elem? t.views other ≡ maybe.some w = set_else s.views id other mid apart ∙ there in
      let here_t : get_elem? t.views id ≡ maybe.some mid = set_at s.views id v mid at in
      -- then the other is spent
      let second = kept_same t first other w blank_view there_t (λ i. sym (idle i))
      (record { front = begins_nil h.log; known = begins_nil h.log; met = begins_nil h.log; spares = λ i holds. absurd (holds refl); fresh = λ i has. absurd (free_not has); own = λ n is_in. absurd is_in })
      (reached_past t.views id other (length h.log) mid w here_t there_t (λ e. apart (sym e)) (longer_than v.front w.front).1 (begins_length far h.log far_begins) first.longest)
      (λ n j u is_in at_j away his. is_in) in
      let r : State (Option V) View = record { words = s.words; homes = s.homes; views = set t.views other blank_view } in
      let here_r : get_elem? r.views id ≡ maybe.some mid = set_else t.views other id blank_view (λ e. apart (sym e)) ∙ here_t in
      -- then the kept one has the positions of both
      let third = kept_same r second id mid (after_join v w) here_r (λ i. refl)
      (record {
        front = far_begins;
        known = k.known;
        met = l.front;
        spares = k.spares;
        fresh = far_fresh;
        own = λ n is_in. ⊎_elim (λ a. lt_of_lt_of_le (k.own n a) (longer_than v.front w.front).0) (λ b. lt_of_lt_of_le (l.own n b) (longer_than v.front w.front).1) (in_both v.own w.own n is_in);
      })
      (reached_still enabled touches stands r.views id (length h.log) mid (after_join v w) here_r (le_refl (length far)) (begins_length far h.log far_begins) second.longest)
      (λ n j u is_in at_j away his. ⊎_elim
      (λ (q : (j ≡ other) × (blank_view ≡ u)). subst (λ (z : View). IsAmong n z.own) (sym q.1) his)
      (λ (q : (j ≢ other) × (get_elem? t.views j ≡ maybe.some u)).
      let at_s : get_elem? s.views j ≡ maybe.some u = sym (set_else s.views id j mid away) ∙ q.1 in ⊎_elim
      (λ a. away (h.own j id n u v at_s at his a))
      (λ b. q.0 (h.own j other n u w at_s there his b)) (in_both v.own w.own n is_in))
      (at_set t.views other j blank_view u at_j)) in
      subst (λ vs. TurnRule enabled touches stands (record { words = s.words; homes = s.homes; views = vs })) (set_swap (set s.views id mid) other id blank_view (after_join v w) apart ∙ ap (λ l. set l other blank_view) (set_set s.views id mid (after_join v w))) third
