-- A step of one pass keeps the rule, where what it changes is so.
use Rattle.std.proofs.Common.{◌≡◌, ◌≢◌, ℕ, suc, ◌+◌, ◌^◌, ◌<◌, ◌≤◌, ◌⊎◌, inl, inr, ⊎_elim, List, [], ◌∷◌, ◌++◌, length, ap, sym, ◌∙◌, subst, arith, set, Option, slice_index}
use mathlib.Core.Option as maybe
use mathlib.Core.Logic.{dite}
use native.Mathlib.Decide.{ℕ_discrete}
use mathlib.Core.Option.{some-injective, some-ne-none}
use lib.ListN.{get_elem?}
use Rattle.atomic_table.specs.Table.{State}
use Rattle.atomic_table.proofs.Lists.{at_set, set_else}
use Rattle.crl_model.specs.declared.event.Event.{Event}
use Rattle.crl_turns.specs.declared.view.View.{View}
use Rattle.crl_turns.specs.Fronts.{Runs}
use Rattle.crl_turns.specs.Rule.{HoldsTurn, IsAmong, Knows, TurnRule}
use Rattle.crl_turns.proofs.Logs.{begins_length, begins_more, spares_more}
use Rattle.crl_turns.proofs.Holders.{Turn, empty_held, set_at}

pub at_end : {A : Type 0} (xs : List A) (x y : A) → IsAmong y (xs ++ x ∷ []) → (IsAmong y xs) ⊎ (y ≡ x)
at_end [] x y (inl e) = inr e
at_end [] x y (inr e) = absurd e
at_end (z ∷ xs) x y (inl e) = inl (inl e)
at_end (z ∷ xs) x y (inr i) = ⊎_elim (λ a. inl (inr a)) (λ b. inr b) (at_end xs x y i)

module _ {V : Type 0} (enabled : List Event → Event → Type 0) (touches : List Event → Event → ℕ → Type 0) (stands : ℕ → List Event → V → Type 0) where
  pub knows_more : (log : List Event) (e : Event) (v : View) → ((i : ℕ) → HoldsTurn i v → touches log e i → ⊥) → Knows touches log v → Knows touches (log ++ e ∷ []) v
  knows_more log e v past k = record {
    fresh = λ i has. spares_more (λ before x. touches before x i) (length v.front) log e (k.fresh i has) (past i (λ free. empty_held (sym has ∙ free)));
    front = begins_more v.front log (e ∷ []) k.front;
    known = begins_more v.known log (e ∷ []) k.known;
    met = begins_more v.met log (e ∷ []) k.met;
    spares = λ i holds. spares_more (λ before x. touches before x i) (length v.known) log e (k.spares i holds) (past i holds);
    own = k.own;
  }

  -- no other pass has what the pass had, nor what is yet to come
  pub had : (s : State (Option V) View) (h : TurnRule enabled touches stands s) (id : ℕ) (v : View) → get_elem? s.views id ≡ maybe.some v
      → (n j : ℕ) (u : View) → IsAmong n v.own → get_elem? s.views j ≡ maybe.some u → j ≢ id → IsAmong n u.own → ⊥
  had s h id v at n j u mine there_is apart his = apart (h.own j id n u v there_is at his mine)

  pub late : (s : State (Option V) View) (h : TurnRule enabled touches stands s) (n j : ℕ) (u : View) → length h.log ≤ n → get_elem? s.views j ≡ maybe.some u → IsAmong n u.own → ⊥
  late s h n j u past there_is his = let below = (h.knows j u there_is).own n his in let short = begins_length u.front h.log (h.knows j u there_is).front in absurd (omega arith)

  -- one of the views has a front of this length
  abbrev pub Reached : List View → ℕ → Type 0
  Reached views n = (j : ℕ) × (u : View) × (get_elem? views j ≡ maybe.some u) × (length u.front ≡ n)

  pub reached_here : (views : List View) (id n : ℕ) (v w : View) → get_elem? views id ≡ maybe.some v → length w.front ≡ n → Reached (set views id w) n
  reached_here views id n v w at is = (id, w, set_at views id v w at, is)

  pub reached_still : (views : List View) (id n : ℕ) (v w : View) → get_elem? views id ≡ maybe.some v → length v.front ≤ length w.front → length w.front ≤ n → Reached views n → Reached (set views id w) n
  reached_still views id n v w at more less r = dite (ℕ_discrete r.0 id)
      (λ (e : r.0 ≡ id).
      let is : r.1 ≡ v = some-injective r.1 v (sym r.2 ∙ ap (λ k. get_elem? views k) e ∙ at) in
      let long = ap (λ (z : View). length z.front) is in
      let reach = r.3 in
      reached_here views id n v w at (omega (arith, long, reach, more, less)))
      (λ (apart : r.0 ≢ id). (r.0, r.1, set_else views id r.0 w apart ∙ r.2, r.3))

  -- the seat id has w for v, and the history is the log
  module _ (s : State (Option V) View) (h : TurnRule enabled touches stands s) (id : ℕ) (v w : View) (at : get_elem? s.views id ≡ maybe.some v) (log : List Event) (words : List ℕ) (homes : List (maybe.Option (Option V))) where
    abbrev pub next : State (Option V) View
    next = record { words = words; homes = homes; views = set s.views id w }

    unfoldable pub kept_set : length words ≡ suc (length homes) → length log ≡ slice_index words 0 → length log ≤ 2 ^ 62 → Runs enabled log
        → ((j : ℕ) (u : View) → get_elem? s.views j ≡ maybe.some u → j ≢ id → Knows touches log u) → Knows touches log w
        → Reached (set s.views id w) (length log)
        → ((n j : ℕ) (u : View) → IsAmong n w.own → get_elem? s.views j ≡ maybe.some u → j ≢ id → IsAmong n u.own → ⊥)
        → ((i : ℕ) → i < length homes → Turn stands log (set s.views id w) (slice_index words (i + 1)) (get_elem? homes i) i)
        → TurnRule enabled touches stands next
    kept_set wide count limit runs others mine longest grown turns = record {
      wide = wide;
      log = log;
      longest = longest;
      count = count;
      limit = limit;
      runs = runs;
      knows = λ j u there_is. ⊎_elim
          (λ (t : (j ≡ id) × (w ≡ u)). subst (λ z. Knows touches log z) t.1 mine)
          (λ (t : (j ≢ id) × (get_elem? s.views j ≡ maybe.some u)). others j u t.1 t.0) (at_set s.views id j w u there_is);
      own = λ j k n u z at_j at_k in_j in_k. ⊎_elim
          (λ (t : (j ≡ id) × (w ≡ u)). ⊎_elim
          (λ (p : (k ≡ id) × (w ≡ z)). t.0 ∙ sym p.0)
          (λ (p : (k ≢ id) × (get_elem? s.views k ≡ maybe.some z)). absurd (grown n k z (subst (λ (a : View). IsAmong n a.own) (sym t.1) in_j) p.1 p.0 in_k)) (at_set s.views id k w z at_k))
          (λ (t : (j ≢ id) × (get_elem? s.views j ≡ maybe.some u)). ⊎_elim
          (λ (p : (k ≡ id) × (w ≡ z)). absurd (grown n j u (subst (λ (a : View). IsAmong n a.own) (sym p.1) in_k) t.1 t.0 in_j))
          (λ (p : (k ≢ id) × (get_elem? s.views k ≡ maybe.some z)). h.own j k n u z t.1 p.1 in_j in_k) (at_set s.views id k w z at_k))
          (at_set s.views id j w u at_j);
      turns = turns;
    }
