-- What stays of a part where a pass's view changes.
use Rattle.std.proofs.Common.{◌≡◌, ◌≢◌, ℕ, zero, suc, ◌+◌, ◌<◌, ◌≤◌, ◌==◌, ◌⊎◌, inl, inr, ⊎_elim, Bool, true, false, List, [], ◌∷◌, ◌++◌, length, refl, ap, sym, ◌∙◌, subst, arith, set, Option, Some, None, slice_index, eqb, eq-eqb, ne_eqb}
use mathlib.Core.Option as maybe
use mathlib.Core.Logic.{dite}
use native.Mathlib.Decide.{ℕ_discrete}
use mathlib.Core.Option.{some-injective, some-ne-none}
use lib.ListN.{get_elem?}
use Rattle.atomic_table.proofs.Lists.{at_set, set_else}
use Rattle.crl_model.specs.declared.event.Event.{Event}
use Rattle.crl_turns.specs.declared.view.Place.{Place}
use Rattle.crl_turns.specs.declared.view.Place.TheVariants.{Free, Full, Drawn, Empty}
use Rattle.crl_turns.specs.declared.view.Holding.{Holding}
use Rattle.crl_turns.specs.declared.view.View.{View}
use Rattle.crl_turns.specs.Rule.{place_if, value_place, HoldsTurn, Stocks, HoldsAlone, TurnIsIn, TurnIsOut}
use Rattle.crl_turns.specs.Plays.{with_holding}

pub placed_here : (i : ℕ) (p : Place) (hs : List Holding) → value_place i (with_holding i p hs) ≡ p
placed_here i p hs = ap (λ b. place_if b p (value_place i hs)) (eq-eqb i i refl)

pub placed_else : (i j : ℕ) (p : Place) (hs : List Holding) → j ≢ i → value_place j (with_holding i p hs) ≡ value_place j hs
placed_else i j p hs apart = ap (λ b. place_if b p (value_place j hs)) (ne_eqb j i apart)

abbrev is_free : Place → Bool
is_free Free = true
is_free Full = false
is_free Drawn = false
is_free Empty = false

pub full_held : Full ≢ Free
full_held e = absurd (Rattle.std.proofs.Common.true≢false (sym (ap is_free e)))

pub drawn_held : Drawn ≢ Free
drawn_held e = absurd (Rattle.std.proofs.Common.true≢false (sym (ap is_free e)))

pub empty_held : Empty ≢ Free
empty_held e = absurd (Rattle.std.proofs.Common.true≢false (sym (ap is_free e)))

abbrev is_empty : Place → Bool
is_empty Free = false
is_empty Full = false
is_empty Drawn = false
is_empty Empty = true

pub free_not : Free ≢ Empty
free_not e = absurd (Rattle.std.proofs.Common.true≢false (sym (ap is_empty e)))

pub full_not : Full ≢ Empty
full_not e = absurd (Rattle.std.proofs.Common.true≢false (sym (ap is_empty e)))

pub drawn_not : Drawn ≢ Empty
drawn_not e = absurd (Rattle.std.proofs.Common.true≢false (sym (ap is_empty e)))

pub set_at : {A : Type 0} (l : List A) (i : ℕ) (a b : A) → get_elem? l i ≡ maybe.some a → get_elem? (set l i b) i ≡ maybe.some b
set_at [] i a b e = absurd (some-ne-none a (sym e))
set_at (x ∷ xs) zero a b e = refl
set_at (x ∷ xs) (suc i) a b e = set_at xs i a b e

-- the others hold no turn that they didn't hold
pub alone_set : (views : List View) (i id by : ℕ) (v w : View) → get_elem? views id ≡ maybe.some v → value_place i w.holds ≡ value_place i v.holds → HoldsAlone views i by → HoldsAlone (set views id w) i by
alone_set views i id by v w here same alone j u at apart = ⊎_elim
    (λ (t : (j ≡ id) × (w ≡ u)). ap (λ (z : View). value_place i z.holds) (sym t.1) ∙ same ∙ alone id v here (λ e. apart (t.0 ∙ e)))
    (λ (t : (j ≢ id) × (get_elem? views j ≡ maybe.some u)). alone j u t.1 apart) (at_set views id j w u at)

-- the one that is alone may say what it likes
pub alone_own : (views : List View) (i id : ℕ) (w : View) → HoldsAlone views i id → HoldsAlone (set views id w) i id
alone_own views i id w alone j u at apart = ⊎_elim
    (λ (t : (j ≡ id) × (w ≡ u)). absurd (apart t.0))
    (λ (t : (j ≢ id) × (get_elem? views j ≡ maybe.some u)). alone j u t.1 apart) (at_set views id j w u at)

module _ {V : Type 0} (stands : ℕ → List Event → V → Type 0) where
  abbrev pub Turn : List Event → List View → ℕ → maybe.Option (maybe.Option (Option V)) → ℕ → Type 0
  Turn log views word home i = TurnIsIn stands log views word home i ⊎ TurnIsOut stands log views word home i

  -- the value in the slot still stands
  stocks_more : (log more : List Event) (i : ℕ) (home : maybe.Option (maybe.Option (Option V))) (p : Place) → ((x : V) → home ≡ maybe.some (maybe.some (Some x)) → stands i log x → stands i more x)
      → Stocks stands log i home p → Stocks stands more i home p
  stocks_more log more i home Free up s = (s.0, s.1, up s.0 s.1 s.2)
  stocks_more log more i home Full up s = (s.0, s.1, up s.0 s.1 s.2)
  stocks_more log more i home Drawn up s = s
  stocks_more log more i home Empty up s = s

  pub turn_more : (log more : List Event) (views : List View) (word : ℕ) (home : maybe.Option (maybe.Option (Option V))) (i : ℕ)
      → ((x : V) → home ≡ maybe.some (maybe.some (Some x)) → stands i log x → stands i more x) → Turn log views word home i → Turn more views word home i
  turn_more log more views word home i up = ⊎_elim
      (λ (t : TurnIsIn stands log views word home i). inl (record { word_is = t.word_is; nobody = t.nobody; stocks = stocks_more log more i home Free up t.stocks }))
      (λ (t : TurnIsOut stands log views word home i). inr (record { word_is = t.word_is; id = t.id; view = t.view; at = t.at; holds = t.holds; alone = t.alone; stocks = stocks_more log more i home (value_place i t.view.holds) up t.stocks }))

  module _ (log : List Event) (views : List View) (word : ℕ) (home : maybe.Option (maybe.Option (Option V))) (i id : ℕ) (v w : View) (here : get_elem? views id ≡ maybe.some v) where
    out_same : value_place i w.holds ≡ value_place i v.holds → TurnIsOut stands log views word home i → TurnIsOut stands log (set views id w) word home i
    out_same same t = dite (ℕ_discrete t.id id)
        (λ (e : t.id ≡ id).
        let is : t.view ≡ v = some-injective t.view v (sym t.at ∙ ap (λ k. get_elem? views k) e ∙ here) in
        let place : value_place i t.view.holds ≡ value_place i w.holds = ap (λ (z : View). value_place i z.holds) is ∙ sym same in record {
          word_is = t.word_is;
          id = id;
          view = w;
          at = set_at views id v w here;
          holds = λ free. t.holds (place ∙ free);
          alone = alone_own views i id w (subst (λ k. HoldsAlone views i k) e t.alone);
          stocks = subst (λ p. Stocks stands log i home p) place t.stocks;
        })
        (λ (apart : t.id ≢ id). record {
          word_is = t.word_is;
          id = t.id;
          view = t.view;
          at = set_else views id t.id w apart ∙ t.at;
          holds = t.holds;
          alone = alone_set views i id t.id v w here same t.alone;
          stocks = t.stocks;
        })

    -- a view that says the same of the part changes nothing for it
    pub turn_same : value_place i w.holds ≡ value_place i v.holds → Turn log views word home i → Turn log (set views id w) word home i
    turn_same same = ⊎_elim
        (λ (t : TurnIsIn stands log views word home i). inl (record {
          word_is = t.word_is;
          nobody = λ j u at. ⊎_elim (λ (e : (j ≡ id) × (w ≡ u)). ap (λ (z : View). value_place i z.holds) (sym e.1) ∙ same ∙ t.nobody id v here)
              (λ (e : (j ≢ id) × (get_elem? views j ≡ maybe.some u)). t.nobody j u e.1) (at_set views id j w u at);
          stocks = t.stocks;
        }))
        (λ (t : TurnIsOut stands log views word home i). inr (out_same same t))

    -- the holder of a turn
    pub holder : HoldsTurn i v → Turn log views word home i → (word ≡ 1) × HoldsAlone views i id × Stocks stands log i home (value_place i v.holds)
    holder holds = ⊎_elim
        (λ (t : TurnIsIn stands log views word home i). absurd (holds (t.nobody id v here)))
        (λ (t : TurnIsOut stands log views word home i). dite (ℕ_discrete id t.id)
        (λ (e : id ≡ t.id).
        let is : t.view ≡ v = some-injective t.view v (sym t.at ∙ ap (λ k. get_elem? views k) (sym e) ∙ here) in
        (t.word_is, subst (λ k. HoldsAlone views i k) (sym e) t.alone, subst (λ (z : View). Stocks stands log i home (value_place i z.holds)) is t.stocks))
        (λ (apart : id ≢ t.id). absurd (holds (t.alone id v here apart))))

    -- it holds the turn afterwards
    pub turn_out : (word' : ℕ) (home' : maybe.Option (maybe.Option (Option V))) → word' ≡ 1 → HoldsTurn i w → HoldsAlone views i id → Stocks stands log i home' (value_place i w.holds) → Turn log (set views id w) word' home' i
    turn_out word' home' one holds alone stocks = inr (record { word_is = one; id = id; view = w; at = set_at views id v w here; holds = holds; alone = alone_own views i id w alone; stocks = stocks })

    -- nobody holds the turn afterwards
    pub turn_in : (word' : ℕ) (home' : maybe.Option (maybe.Option (Option V))) → word' ≡ 0 → value_place i w.holds ≡ Free → HoldsAlone views i id → Stocks stands log i home' Free → Turn log (set views id w) word' home' i
    turn_in word' home' nought free alone stocks = inl (record {
      word_is = nought;
      nobody = λ j u at. ⊎_elim (λ (e : (j ≡ id) × (w ≡ u)). ap (λ (z : View). value_place i z.holds) (sym e.1) ∙ free)
          (λ (e : (j ≢ id) × (get_elem? views j ≡ maybe.some u)). alone j u e.1 e.0) (at_set views id j w u at);
      stocks = stocks;
    })
