-- What the steps of a call come to.
use Rattle.std.proofs.Common.{◌≡◌, ◌≢◌, ℕ, false, ◌+◌, ◌<◌, ⊎_elim, List, [], ◌∷◌, ◌++◌, length, ap, sym, ◌∙◌, subst, arith, Option, Some, None, add-sub_cancel}
use mathlib.Core.Option as maybe
use mathlib.Core.Logic.{dite}
use native.Mathlib.Decide.{ℕ_discrete}
use Rattle.atomic_table.specs.Table.{Me, step, rest}
use Rattle.crl_model.specs.declared.event.Event.{Event}
use Rattle.crl_turns.specs.declared.turned.Shape.{Shape}
use Rattle.crl_turns.specs.declared.view.Place.TheVariants.{Drawn}
use Rattle.crl_turns.specs.declared.view.View.{View}
use Rattle.crl_turns.specs.Fronts.{Begins, Runs, Spares}
use Rattle.crl_turns.specs.Rule.{value_place, HoldsTurn, StandsFor}
use Rattle.crl_turns.specs.Plays.{after_load, after_try, after_grab, after_append, part_of_word, Learns, OnLoad, OnLeave, OnTake, OnAppend, OnCatchUp, after_join, longer}
use Rattle.crl_turns.specs.Calls.{after_take, Grows, Takes, Looks, FindsMore, JoinsFronts}
use Rattle.crl_turns.proofs.Logs.{still, begins_length, spares_both}
use Rattle.crl_turns.proofs.Holders.{placed_here, placed_else, drawn_held}

part_is : (i : ℕ) → part_of_word (i + 1) ≡ i
part_is i = add-sub_cancel i 1

abbrev value_or : {S : Type 0} → S → List (ℕ × S) → S
value_or d [] = d
value_or d (p ∷ ps) = p.1

-- the slot that the seat took last, told apart
pub slot_is : {S : Type 0} (c : List (ℕ × S)) (i : ℕ) (x y : S) → c ≡ (i, x) ∷ [] → c ≡ (i, y) ∷ rest c → y ≡ x
slot_is {S = S} c i x y e f = ap (λ (l : List (ℕ × S)). value_or x l) (sym f ∙ e)

module _ {V : Type 0} (shape : V → Shape) (enabled : Shape → List Event → Event → Type 0) (touches : Shape → List Event → Event → ℕ → Type 0) (stands : Shape → ℕ → List Event → V → Type 0)
    (stays : (s : Shape) (i : ℕ) (front : List Event) (e : Event) (x : V) → stands s i front x → enabled s front e → (touches s front e i → ⊥) → stands s i (front ++ e ∷ []) x) (s : Shape) where
  -- what stood when the pass last learnt still stands
  learnt : (v : View) (log : List Event) (i : ℕ) (x : V) → Learns (enabled s) (touches s) v log → HoldsTurn i v → StandsFor shape stands s i v.known x → StandsFor shape stands s i log x
  learnt v log i x l holds is = (is.0, still (enabled s) (λ before e. touches s before e i) (λ front y. stands s i front y) (λ front e y. stays s i front e y) v.known log x l.known l.runs (l.spares i holds) is.1)

  pub learns_grows : (v : View) (log : List Event) → v.known ≡ v.front → Learns (enabled s) (touches s) v log → Grows shape enabled touches stands s v log
  learns_grows v log level l = record {
    begins = l.front;
    runs = l.runs;
    limit = l.limit;
    spares = λ i holds. subst (λ (front : List Event). Spares (λ before e. touches s before e i) (length front) log) level (l.spares i holds);
    still = λ i x holds is. learnt v log i x l holds (subst (λ front. StandsFor shape stands s i front x) (sym level) is);
  }

  -- the turn was got, and the value with it
  pub got : (slots i r : ℕ) (m n : Me (Option V) View) → m.1 ≡ [] → r ≡ 0 → OnTake (enabled s) (touches s) (StandsFor shape stands s) (step slots (i + 1) 0 1 maybe.none) m r n
      → (log : List Event) × (x : V) × Learns (enabled s) (touches s) m.0 log × StandsFor shape stands s i log x × (n ≡ (after_grab i Drawn log m.0, (i, Some x) ∷ []))
  got slots i r m n bare nought told = ⊎_elim
      (λ (t : (r ≡ 0) × ((log : List Event) × (x : V) × Learns (enabled s) (touches s) m.0 log × StandsFor shape stands s (part_of_word (i + 1)) log x × (n ≡ (after_grab (part_of_word (i + 1)) Drawn log m.0, (part_of_word (i + 1), Some x) ∷ m.1)))).
      let u = t.1 in
      (u.0, u.1, u.2, subst (λ k. StandsFor shape stands s k u.0 u.1) (part_is i) u.3, u.4 ∙ λ j. (after_grab (part_is i j) Drawn u.0 m.0, (part_is i j, Some u.1) ∷ bare j)))
      (λ (t : (r ≡ 1) × (n ≡ (after_try (part_of_word (i + 1)) false m.0, m.1))). absurd (omega (arith, t.0, nought)))
      told

  pub missed : (slots i r : ℕ) (m n : Me (Option V) View) → (r ≡ 0 → ⊥) → OnTake (enabled s) (touches s) (StandsFor shape stands s) (step slots (i + 1) 0 1 maybe.none) m r n → n ≡ (after_try i false m.0, m.1)
  missed slots i r m n out told = ⊎_elim
      (λ (t : (r ≡ 0) × ((log : List Event) × (x : V) × Learns (enabled s) (touches s) m.0 log × StandsFor shape stands s (part_of_word (i + 1)) log x × (n ≡ (after_grab (part_of_word (i + 1)) Drawn log m.0, (part_of_word (i + 1), Some x) ∷ m.1)))).
      absurd (out t.0))
      (λ (t : (r ≡ 1) × (n ≡ (after_try (part_of_word (i + 1)) false m.0, m.1))). t.1 ∙ ap (λ k. (after_try k false m.0, m.1)) (part_is i))
      told

  abbrev Grown : View → List Event → Type 0
  Grown = Grows shape enabled touches stands s

  pub looks : (slots r : ℕ) (m n : Me (Option V) View) → m.0.known ≡ m.0.front → OnLoad (enabled s) (touches s) (step slots 0 0 0 maybe.none) m r n
      → Looks shape enabled touches stands s m.0 r n.0
  looks slots r m n level told =
      let all : (r ≡ length told.0) × Grown m.0 told.0 × (n.0 ≡ after_load told.0 m.0) = (sym told.1, learns_grows m.0 told.0 level told.2, ap (λ z. z.0) told.3) in
      let back = subst (λ log. (r ≡ length log) × Grown m.0 log × (n.0 ≡ after_load log m.0)) (ap (λ z. z.0.front) (sym told.3)) all in
      record { counts = back.0; grows = back.1; view = back.2 }

  -- the event was not appended
  pub refused : (slots saw r : ℕ) (e : Event) (m n : Me (Option V) View) → m.0.known ≡ m.0.front → saw ≡ length m.0.front → (r ≡ saw → ⊥) → OnAppend (enabled s) (touches s) e (step slots 0 saw (saw + 1) maybe.none) m r n
      → FindsMore shape enabled touches stands s saw m.0 r n.0
  refused slots saw r e m n level is_saw out told = ⊎_elim
      (λ (t : (r ≡ saw) × (Runs (enabled s) (m.0.front ++ e ∷ []) × (n ≡ (after_append m.0.front e m.0, m.1)))). absurd (out t.0))
      (λ (t : (r ≢ saw) × ((log : List Event) × (length log ≡ r) × Learns (enabled s) (touches s) m.0 log × (n ≡ (after_load log m.0, m.1)))).
      let u = t.1 in
      let l = begins_length m.0.front u.0 u.2.front in
      let apart : r ≢ saw = t.0 in
      let more : saw < r = omega (arith, u.1, l, is_saw, apart) in
      let v = looks slots r m n level u in
      record { more = more; counts = v.counts; grows = v.grows; view = v.view })
      told

  pub joins_told : (slots r : ℕ) (v w : View) (c : List (ℕ × Option V)) (m n : Me (Option V) View) → v.known ≡ v.front → m ≡ (after_join v w, c) → OnCatchUp (enabled s) (touches s) (step slots 0 0 0 maybe.none) m r n
      → JoinsFronts shape enabled touches stands s v w n.0
  joins_told slots r v w c m n level is told =
      let t = subst (λ z. OnCatchUp (enabled s) (touches s) (step slots 0 0 0 maybe.none) z r n) is told in
      let l = t.0 in
      let far = longer v.front w.front in
      let front_is : n.0.front ≡ far = ap (λ z. z.0.front) t.2 in
      let here : Learns (enabled s) (touches s) v far = record { runs = l.runs; limit = l.limit; front = subst (λ x. Begins x far) level l.known; known = l.known; spares = l.spares } in
      let all : Grown v far × Begins w.front far × (n.0 ≡ after_load far (after_join v w)) = (learns_grows v far level here, t.1, ap (λ z. z.0) t.2) in
      let back = subst (λ log. Grown v log × Begins w.front log × (n.0 ≡ after_load log (after_join v w))) (sym front_is) all in
      record { grows = back.0; begins = back.1; view = back.2; front = front_is }

  module _ (slots i : ℕ) (m n o : Me (Option V) View) (r : ℕ) (old : Option V) (bare : m.1 ≡ []) (level : m.0.known ≡ m.0.front) (nought : r ≡ 0)
      (told : OnTake (enabled s) (touches s) (StandsFor shape stands s) (step slots (i + 1) 0 1 maybe.none) m r n) (was : n.1 ≡ (i, old) ∷ rest n.1) (is_o : o ≡ (n.0, (i, None) ∷ rest n.1)) where
    pub slot_after : (o.1 ≡ (i, None) ∷ []) × (value_place i o.0.holds ≡ Drawn)
    slot_after = let t = got slots i r m n bare nought told in
        (ap (λ z. z.1) is_o ∙ ap (λ z. (i, None) ∷ rest z.1) t.4, ap (λ z. value_place i z.0.holds) is_o ∙ ap (λ z. value_place i z.0.holds) t.4 ∙ placed_here i Drawn m.0.holds)

    pub taking : (p : Me (Option V) View) (q : ℕ) (x : V) → old ≡ Some x → OnLeave (enabled s) (touches s) (step slots 0 0 0 maybe.none) o q p
        → (p.1 ≡ []) × Takes shape enabled touches stands s i m.0 x p.0
    taking p q x is_x after =
        let t = got slots i r m n bare nought told in
        let w = after_grab i Drawn t.0 m.0 in
        let o_is : o ≡ (w, (i, None) ∷ []) = is_o ∙ λ j. ((t.4 j).0, (i, None) ∷ rest (t.4 j).1) in
        let x_is : x ≡ t.1 = some_is x t.1 (sym is_x ∙ slot_is n.1 i (Some t.1) old (ap (λ z. z.1) t.4) was) in
        let u = subst (λ z. OnLeave (enabled s) (touches s) (step slots 0 0 0 maybe.none) z q p) o_is after in
        let front_is : u.0 ≡ p.0.front = ap (λ z. z.0.front) (sym u.3) in
        let held : (j : ℕ) → HoldsTurn j m.0 → HoldsTurn j w = λ j holds. dite (ℕ_discrete j i)
        (λ e. subst (λ k. HoldsTurn k w) (sym e) (λ free. drawn_held (sym (placed_here i Drawn m.0.holds) ∙ free)))
        (λ apart. (λ free. holds (sym (placed_else i j Drawn m.0.holds apart) ∙ free))) in
        let all : StandsFor shape stands s i u.0 x × Grows shape enabled touches stands s m.0 u.0 × (p.0 ≡ after_take i u.0 m.0) = (
          learnt w u.0 i x u.2 (λ free. drawn_held (sym (placed_here i Drawn m.0.holds) ∙ free)) (subst (λ y. StandsFor shape stands s i t.0 y) (sym x_is) t.3),
          record {
            begins = u.2.front;
            runs = u.2.runs;
            limit = u.2.limit;
            spares = λ j holds. spares_both (λ before e. touches s before e j) (length m.0.front) t.0 u.0 u.2.known
                (subst (λ (front : List Event). Spares (λ before e. touches s before e j) (length front) t.0) level (t.2.spares j holds)) (u.2.spares j (held j holds));
            still = λ j y holds is. learnt w u.0 j y u.2 (held j holds) (learnt m.0 t.0 j y t.2 holds (subst (λ front. StandsFor shape stands s j front y) (sym level) is));
          },
          ap (λ z. z.0) u.3,
        ) in
        let back = subst (λ log. StandsFor shape stands s i log x × Grows shape enabled touches stands s m.0 log × (p.0 ≡ after_take i log m.0)) front_is all in
        (ap (λ z. z.1) u.3, record { stands_for = back.0; grows = back.1; view = back.2 })
      where
        some_is : (a b : V) → Some a ≡ Some b → a ≡ b
        some_is a b e = cc e
