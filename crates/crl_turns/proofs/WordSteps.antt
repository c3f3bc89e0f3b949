-- Each step on a word keeps the rule.
use Rattle.std.proofs.Common.{◌≡◌, ◌≢◌, ℕ, suc, ◌+◌, ◌^◌, ◌<◌, ◌≤◌, ◌==◌, inl, inr, ⊎_elim, false, List, [], ◌∷◌, ◌++◌, length, refl, ap, sym, ◌∙◌, subst, arith, set, Option, Some, None, slice_index, length-set, length-append, get_or-set_same, get_or-set_other, le_refl, le_trans, add-sub_cancel, append_assoc, eq-eqb, ne_eqb}
use Rattle.std.proofs.lemmas.List.{set-get_or}
use mathlib.Core.Option as maybe
use mathlib.Core.Logic.{dite}
use native.Mathlib.Decide.{ℕ_discrete}
use mathlib.Core.Option.{some-injective, some-ne-none}
use lib.ListN.{get_elem?}
use prog.Atomic.{either}
use Rattle.atomic_table.specs.Table.{State, step, keeps, takes, gives, Allows}
use Rattle.atomic_table.proofs.Lists.{set_else, set_here}
use Rattle.crl_model.specs.declared.event.Event.{Event}
use Rattle.crl_turns.specs.declared.view.Place.{Place}
use Rattle.crl_turns.specs.declared.view.Place.TheVariants.{Free, Full, Drawn, Empty}
use Rattle.crl_turns.specs.declared.view.View.{View}
use Rattle.crl_turns.specs.Fronts.{Begins, Runs, Spares}
use Rattle.crl_turns.specs.Rule.{value_place, HoldsTurn, IsAmong, Stocks, HoldsAlone, TurnIsIn, TurnIsOut, Knows, TurnRule}
use Rattle.crl_turns.specs.Plays.{with_holding, after_load, with_place, after_try, after_grab, after_append, part_of_word, after_catch_up, Learns, OnLoad, OnLeave, OnDraw, OnFree, OnTake, OnGrab, OnAppend, OnCatchUp}
use Rattle.crl_turns.proofs.Logs.{begins_length, begins_more, begins_same, begins_whole, spares_none, spares_later, spares_shorter, begins_two, still, runs_more}
use Rattle.crl_turns.proofs.Holders.{Turn, turn_same, turn_more, turn_out, turn_in, holder, placed_here, placed_else, full_held, drawn_held, empty_held, drawn_not, free_not, full_not}
use Rattle.crl_turns.proofs.Keeps.{at_end, knows_more, kept_set, had, late, reached_here, reached_still}

part_is : (i : ℕ) → part_of_word (i + 1) ≡ i
part_is i = add-sub_cancel i 1

module _ {V : Type 0} (enabled : List Event → Event → Type 0) (touches : List Event → Event → ℕ → Type 0) (stands : ℕ → List Event → V → Type 0) where
  module _ (s : State (Option V) View) (h : TurnRule enabled touches stands s) (id : ℕ) (v : View) (at : get_elem? s.views id ≡ maybe.some v) where
    learns : Learns enabled touches v h.log
    learns = let k = h.knows id v at in record { runs = h.runs; limit = h.limit; front = k.front; known = k.known; spares = k.spares }

    -- the pass has loaded the count, and says what it likes of its turns
    knows_now : (w : View) → w.front ≡ h.log → w.known ≡ h.log → w.met ≡ v.met → w.own ≡ v.own → Knows touches h.log w
    knows_now w front known met own = record {
      fresh = λ i has. subst (λ l. Spares (λ before e. touches before e i) (length l) h.log) (sym front) (spares_none (λ before e. touches before e i) h.log);
      met = subst (λ l. Begins l h.log) (sym met) (h.knows id v at).met;
      front = subst (λ l. Begins l h.log) (sym front) (begins_same h.log);
      known = subst (λ l. Begins l h.log) (sym known) (begins_same h.log);
      spares = λ i holds. subst (λ l. Spares (λ before e. touches before e i) (length l) h.log) (sym known) (spares_none (λ before e. touches before e i) h.log);
      own = λ n is_in. let k = h.knows id v at in let below = k.own n (subst (λ l. IsAmong n l) own is_in) in let more = begins_length v.front h.log k.front in let same = ap length front in omega arith;
    }

    -- a part of which nothing changes
    turn_moved : (w : View) (words : List ℕ) (homes : List (maybe.Option (Option V))) (j : ℕ) → j < length s.homes → slice_index words (j + 1) ≡ slice_index s.words (j + 1)
        → get_elem? homes j ≡ get_elem? s.homes j → value_place j w.holds ≡ value_place j v.holds → Turn stands h.log (set s.views id w) (slice_index words (j + 1)) (get_elem? homes j) j
    turn_moved w words homes j lt word home place =
        subst (λ (p : ℕ × maybe.Option (maybe.Option (Option V))). Turn stands h.log (set s.views id w) p.0 p.1 j) (λ k. (sym word k, sym home k))
        (turn_same stands h.log s.views (slice_index s.words (j + 1)) (get_elem? s.homes j) j id v w at place (h.turns j lt))

    -- a step on a word that leaves it as it was
    same_word : (k : ℕ) (homes : List (maybe.Option (Option V))) (w : View) → TurnRule enabled touches stands (record { words = s.words; homes = homes; views = set s.views id w })
        → TurnRule enabled touches stands (record { words = set s.words k (slice_index s.words k); homes = homes; views = set s.views id w })
    same_word k homes w = subst (λ ws. TurnRule enabled touches stands (record { words = ws; homes = homes; views = set s.views id w })) (sym (set-get_or s.words k 0))

    kept_seen : TurnRule enabled touches stands (record { words = s.words; homes = s.homes; views = set s.views id (after_load h.log v) })
    kept_seen = let w = after_load h.log v in kept_set enabled touches stands s h id v w at h.log s.words s.homes h.wide h.count h.limit h.runs (λ j u there apart. h.knows j u there)
        (knows_now w refl refl refl refl) (reached_here enabled touches stands s.views id (length h.log) v w at refl) (had enabled touches stands s h id v at) (λ j lt. turn_moved w s.words s.homes j lt refl refl refl)

    -- the pass says something else of one part, whose word and slot may change
    kept_turn : (i : ℕ) (p : Place) (w : View) (words : List ℕ) (homes : List (maybe.Option (Option V))) → length words ≡ length s.words → length homes ≡ length s.homes
        → slice_index words 0 ≡ slice_index s.words 0
        → ((j : ℕ) → j ≢ i → slice_index words (j + 1) ≡ slice_index s.words (j + 1)) → ((j : ℕ) → j ≢ i → get_elem? homes j ≡ get_elem? s.homes j)
        → w.holds ≡ with_holding i p v.holds → length v.front ≤ length w.front → Knows touches h.log w → w.own ≡ v.own → Turn stands h.log (set s.views id w) (slice_index words (i + 1)) (get_elem? homes i) i
        → TurnRule enabled touches stands (record { words = words; homes = homes; views = set s.views id w })
    kept_turn i p w words homes many long first other elsewhere holds more mine own turn =
        kept_set enabled touches stands s h id v w at h.log words homes (many ∙ h.wide ∙ ap suc (sym long)) (h.count ∙ sym first) h.limit h.runs (λ j u there apart. h.knows j u there)
        mine (reached_still enabled touches stands s.views id (length h.log) v w at more (begins_length w.front h.log mine.front) h.longest) (λ n k u is_in. had enabled touches stands s h id v at n k u (subst (λ l. IsAmong n l) own is_in))
        (λ j lt. dite (ℕ_discrete j i)
        (λ e. subst (λ k. Turn stands h.log (set s.views id w) (slice_index words (k + 1)) (get_elem? homes k) k) (sym e) turn)
        (λ apart. turn_moved w words homes j (omega (arith, long, lt)) (other j apart) (elsewhere j apart) (ap (value_place j) holds ∙ placed_else i j p v.holds apart)))

    -- the words stay
    kept_part : (i : ℕ) (p : Place) (w : View) (homes : List (maybe.Option (Option V))) → length homes ≡ length s.homes → ((j : ℕ) → j ≢ i → get_elem? homes j ≡ get_elem? s.homes j)
        → w.holds ≡ with_holding i p v.holds → length v.front ≤ length w.front → Knows touches h.log w → w.own ≡ v.own → Turn stands h.log (set s.views id w) (slice_index s.words (i + 1)) (get_elem? homes i) i
        → TurnRule enabled touches stands (record { words = s.words; homes = homes; views = set s.views id w })
    kept_part i p w homes long elsewhere = kept_turn i p w s.words homes refl long refl (λ j apart. refl) elsewhere

    -- the turn word of the part becomes n
    kept_word : (i n : ℕ) (p : Place) (w : View) (homes : List (maybe.Option (Option V))) → i < length s.homes → length homes ≡ length s.homes → ((j : ℕ) → j ≢ i → get_elem? homes j ≡ get_elem? s.homes j)
        → w.holds ≡ with_holding i p v.holds → length v.front ≤ length w.front → Knows touches h.log w → w.own ≡ v.own → Turn stands h.log (set s.views id w) n (get_elem? homes i) i
        → TurnRule enabled touches stands (record { words = set s.words (i + 1) n; homes = homes; views = set s.views id w })
    kept_word i n p w homes lt long elsewhere holds more mine own turn = kept_turn i p w (set s.words (i + 1) n) homes (length-set s.words (i + 1) n) long
        (get_or-set_other s.words (i + 1) 0 n 0 (λ e. absurd (omega arith)))
        (λ j apart. get_or-set_other s.words (i + 1) (j + 1) n 0 (λ e. apart (omega arith))) elsewhere holds more mine own
        (subst (λ k. Turn stands h.log (set s.views id w) k (get_elem? homes i) i) (sym (get_or-set_same s.words (i + 1) n 0 (omega (arith, h.wide, lt)))) turn)

    -- the pass says something else of a turn that it holds, or gives it back
    -- a place that is not Empty hides none that is
    has_before : (i j : ℕ) (p : Place) → p ≢ Empty → value_place j (with_holding i p v.holds) ≡ Empty → value_place j v.holds ≡ Empty
    has_before i j p other has = dite (ℕ_discrete j i)
        (λ e. absurd (other (sym (placed_here i p v.holds) ∙ ap (λ k. value_place k (with_holding i p v.holds)) (sym e) ∙ has)))
        (λ apart. sym (placed_else i j p v.holds apart) ∙ has)

    knows_puts : (i : ℕ) (p : Place) → p ≢ Empty → HoldsTurn i v → Knows touches h.log (with_place i p v)
    knows_puts i p other holds = let k = h.knows id v at in record {
      fresh = λ j has. k.fresh j (has_before i j p other has);
      front = k.front;
      known = k.known;
      met = k.met;
      spares = λ j held. dite (ℕ_discrete j i)
          (λ e. subst (λ n. Spares (λ before x. touches before x n) (length v.known) h.log) (sym e) (k.spares i holds))
          (λ apart. k.spares j (subst (λ q. q ≢ Free) (placed_else i j p v.holds apart) held));
      own = k.own;
    }

    knows_gets : (i : ℕ) (p : Place) → p ≢ Empty → Knows touches h.log (after_grab i p h.log v)
    knows_gets i p other = let k = h.knows id v at in record {
      fresh = λ j has. k.fresh j (has_before i j p other has);
      front = k.front;
      known = begins_same h.log;
      met = k.met;
      spares = λ j held. spares_none (λ before x. touches before x j) h.log;
      own = k.own;
    }

    kept_tries : (i : ℕ) → TurnRule enabled touches stands (record { words = s.words; homes = s.homes; views = set s.views id (after_try i false v) })
    kept_tries i = let k = h.knows id v at in let w = after_try i false v in
        kept_set enabled touches stands s h id v w at h.log s.words s.homes h.wide h.count h.limit h.runs (λ j u there apart. h.knows j u there)
        (record { front = k.front; known = k.known; met = k.met; spares = k.spares; fresh = k.fresh; own = k.own }) (reached_still enabled touches stands s.views id (length h.log) v w at (le_refl (length v.front)) (begins_length v.front h.log k.front) h.longest) (had enabled touches stands s h id v at) (λ j lt. turn_moved w s.words s.homes j lt refl refl refl)

    pub held_by : (i : ℕ) (p : Place) → i < length s.homes → value_place i v.holds ≡ p → p ≢ Free
        → (slice_index s.words (i + 1) ≡ 1) × HoldsAlone s.views i id × Stocks stands h.log i (get_elem? s.homes i) p
    held_by i p lt place is_held =
        let t = holder stands h.log s.views (slice_index s.words (i + 1)) (get_elem? s.homes i) i id v v at (λ free. is_held (sym place ∙ free)) (h.turns i lt) in
        (t.0, t.1, subst (λ q. Stocks stands h.log i (get_elem? s.homes i) q) place t.2)

    -- the pass holds the turn of i afterwards
    out_after : (i n : ℕ) (p : Place) (w : View) (home : maybe.Option (maybe.Option (Option V))) → n ≡ 1 → p ≢ Free → w.holds ≡ with_holding i p v.holds → HoldsAlone s.views i id → Stocks stands h.log i home p
        → Turn stands h.log (set s.views id w) n home i
    out_after i n p w home one is_held holds alone stocks =
        let place : value_place i w.holds ≡ p = ap (value_place i) holds ∙ placed_here i p v.holds in
        turn_out stands h.log s.views (slice_index s.words (i + 1)) (get_elem? s.homes i) i id v w at n home one (λ free. is_held (sym place ∙ free)) alone
        (subst (λ q. Stocks stands h.log i home q) (sym place) stocks)

    -- nobody holds it afterwards
    in_after : (i : ℕ) (w : View) (home : maybe.Option (maybe.Option (Option V))) → w.holds ≡ with_holding i Free v.holds → HoldsAlone s.views i id → Stocks stands h.log i home Free
        → Turn stands h.log (set s.views id w) 0 home i
    in_after i w home holds alone stocks =
        turn_in stands h.log s.views (slice_index s.words (i + 1)) (get_elem? s.homes i) i id v w at 0 home refl (ap (value_place i) holds ∙ placed_here i Free v.holds) alone stocks

  pub sees : (slots id : ℕ) (v : View) (c : List (ℕ × Option V)) → Allows (TurnRule enabled touches stands) slots id (v, c) 0 (λ n. n) (OnLoad enabled touches (step slots 0 0 0 maybe.none) (v, c))
  sees slots id v c s h wide at _ = (after_load h.log v, keeps, tt, same_word s h id v at 0 s.homes (after_load h.log v) (kept_seen s h id v at), (h.log, h.count, learns s h id v at, refl))

  pub leaves : (slots id : ℕ) (v : View) (i : ℕ) → i < slots → value_place i v.holds ≡ Drawn
      → Allows (TurnRule enabled touches stands) slots id (v, (i, None) ∷ []) 0 (λ n. n) (OnLeave enabled touches (step slots 0 0 0 maybe.none) (v, (i, None) ∷ []))
  leaves slots id v i below place s h wide at _ =
      let w = with_place i Empty (after_load h.log v) in
      let lt : i < length s.homes = omega (arith, wide, below) in
      let t = held_by s h id v at i Drawn lt place drawn_held in
      let homes = set s.homes i (maybe.some None) in (
        w,
        gives,
        tt,
        same_word s h id v at 0 homes w (kept_part s h id v at i Empty w homes (length-set s.homes i (maybe.some None)) (λ j apart. set_else s.homes i j (maybe.some None) apart) refl (begins_length v.front h.log (h.knows id v at).front)
            (knows_now s h id v at w refl refl refl refl) refl (out_after s h id v at i (slice_index s.words (i + 1)) Empty w (get_elem? homes i) t.0 empty_held refl t.1 (set_here s.homes i (maybe.some None) lt))),
        (h.log, h.count, learns s h id v at, refl),
      )

  pub draws : (slots id : ℕ) (v : View) (i : ℕ) → i < slots → value_place i v.holds ≡ Empty
      → Allows (TurnRule enabled touches stands) slots id (v, []) (i + 1) (λ n. n) (OnDraw (step slots (i + 1) 0 0 maybe.none) (v, []))
  draws slots id v i below place s h wide at _ =
      let w = with_place i Drawn v in
      let lt : i < length s.homes = omega (arith, wide, below) in
      let t = held_by s h id v at i Empty lt place empty_held in
      let homes = set s.homes i maybe.none in (
        w,
        takes i None,
        t.2,
        same_word s h id v at (i + 1) homes w (kept_part s h id v at i Drawn w homes (length-set s.homes i maybe.none) (λ j apart. set_else s.homes i j maybe.none apart) refl (le_refl (length v.front))
            (knows_puts s h id v at i Drawn drawn_not (λ free. empty_held (sym place ∙ free))) refl (out_after s h id v at i (slice_index s.words (i + 1)) Drawn w (get_elem? homes i) t.0 drawn_held refl t.1 (set_here s.homes i maybe.none lt))),
        ap (λ k. (with_place k Drawn v, (k, None) ∷ [])) (sym (part_is i)),
      )

  pub releases : (slots id : ℕ) (v : View) (i : ℕ) → i < slots → value_place i v.holds ≡ Full
      → Allows (TurnRule enabled touches stands) slots id (v, []) (i + 1) (λ n. 0) (λ n. OnFree (step slots (i + 1) 0 0 maybe.none) (v, []) 0)
  releases slots id v i below place s h wide at _ =
      let w = with_place i Free v in
      let lt : i < length s.homes = omega (arith, wide, below) in
      let t = held_by s h id v at i Full lt place full_held in (
        w,
        keeps,
        tt,
        kept_word s h id v at i 0 Free w s.homes lt refl (λ j apart. refl) refl (le_refl (length v.front))
            (knows_puts s h id v at i Free free_not (λ free. full_held (sym place ∙ free))) refl (in_after s h id v at i w (get_elem? s.homes i) refl t.1 t.2),
        ap (λ k. (with_place k Free v, [])) (sym (part_is i)),
      )

  pub grabs : (slots id : ℕ) (v : View) (c : List (ℕ × Option V)) (i : ℕ) → i < slots
      → Allows (TurnRule enabled touches stands) slots id (v, c) (i + 1) (λ n. either (n == 0) 1 n) (OnGrab enabled touches (step slots (i + 1) 0 1 maybe.none) (v, c))
  grabs slots id v c i below s h wide at _ =
      let lt : i < length s.homes = omega (arith, wide, below) in
      ⊎_elim
      (λ (t : TurnIsIn stands h.log s.views (slice_index s.words (i + 1)) (get_elem? s.homes i) i).
      let w = after_grab i Full h.log v in (
        w,
        keeps,
        tt,
        subst (λ n. TurnRule enabled touches stands (record { words = set s.words (i + 1) n; homes = s.homes; views = set s.views id w })) (sym (ap (λ n. either (n == 0) 1 n) t.word_is))
            (kept_word s h id v at i 1 Full w s.homes lt refl (λ j apart. refl) refl (le_refl (length v.front)) (knows_gets s h id v at i Full full_not) refl
            (out_after s h id v at i 1 Full w (get_elem? s.homes i) refl full_held refl (λ j u there apart. t.nobody j u there) t.stocks)),
        inl (t.word_is, (h.log, learns s h id v at, ap (λ k. (after_grab k Full h.log v, c)) (sym (part_is i)))),
      ))
      (λ (t : TurnIsOut stands h.log s.views (slice_index s.words (i + 1)) (get_elem? s.homes i) i).
      let w = after_try i false v in (
        w,
        keeps,
        tt,
        subst (λ n. TurnRule enabled touches stands (record { words = set s.words (i + 1) n; homes = s.homes; views = set s.views id w }))
            (t.word_is ∙ sym (ap (λ n. either (n == 0) 1 n) t.word_is))
            (same_word s h id v at (i + 1) s.homes w (kept_tries s h id v at i)),
        inr (t.word_is, ap (λ k. (after_try k false v, c)) (sym (part_is i))),
      ))
      (h.turns i lt)

  pub takes_turn : (slots id : ℕ) (v : View) (i : ℕ) → i < slots
      → Allows (TurnRule enabled touches stands) slots id (v, []) (i + 1) (λ n. either (n == 0) 1 n) (OnTake enabled touches stands (step slots (i + 1) 0 1 maybe.none) (v, []))
  takes_turn slots id v i below s h wide at _ =
      let lt : i < length s.homes = omega (arith, wide, below) in
      ⊎_elim
      (λ (t : TurnIsIn stands h.log s.views (slice_index s.words (i + 1)) (get_elem? s.homes i) i).
      let w = after_grab i Drawn h.log v in
      let x = t.stocks.0 in
      let homes = set s.homes i maybe.none in (
        w,
        takes i (Some x),
        t.stocks.1,
        subst (λ n. TurnRule enabled touches stands (record { words = set s.words (i + 1) n; homes = homes; views = set s.views id w })) (sym (ap (λ n. either (n == 0) 1 n) t.word_is))
            (kept_word s h id v at i 1 Drawn w homes lt (length-set s.homes i maybe.none) (λ j apart. set_else s.homes i j maybe.none apart) refl (le_refl (length v.front)) (knows_gets s h id v at i Drawn drawn_not) refl
            (out_after s h id v at i 1 Drawn w (get_elem? homes i) refl drawn_held refl (λ j u there apart. t.nobody j u there) (set_here s.homes i maybe.none lt))),
        inl (t.word_is, (h.log, x, learns s h id v at, subst (λ k. stands k h.log x) (sym (part_is i)) t.stocks.2, ap (λ k. (after_grab k Drawn h.log v, (k, Some x) ∷ [])) (sym (part_is i)))),
      ))
      (λ (t : TurnIsOut stands h.log s.views (slice_index s.words (i + 1)) (get_elem? s.homes i) i).
      let w = after_try i false v in (
        w,
        keeps,
        tt,
        subst (λ n. TurnRule enabled touches stands (record { words = set s.words (i + 1) n; homes = s.homes; views = set s.views id w }))
            (t.word_is ∙ sym (ap (λ n. either (n == 0) 1 n) t.word_is))
            (same_word s h id v at (i + 1) s.homes w (kept_tries s h id v at i)),
        inr (t.word_is, ap (λ k. (after_try k false v, [])) (sym (part_is i))),
      ))
      (h.turns i lt)

  pub catches : (slots id : ℕ) (v : View) (c : List (ℕ × Option V)) → length v.known ≤ length v.front → length v.met ≤ length v.front
      → Allows (TurnRule enabled touches stands) slots id (v, c) 0 (λ n. n) (OnCatchUp enabled touches (step slots 0 0 0 maybe.none) (v, c))
  catches slots id v c le met_le s h wide at _ =
      let w = after_catch_up v in
      let k = h.knows id v at in (
        w,
        keeps,
        tt,
        same_word s h id v at 0 s.homes w (kept_set enabled touches stands s h id v w at h.log s.words s.homes h.wide h.count h.limit h.runs (λ j u there apart. h.knows j u there)
            (record { front = k.front; known = k.front; met = k.met; fresh = k.fresh; spares = λ i holds. spares_later (λ before x. touches before x i) (length v.known) (length v.front) h.log le (k.spares i holds); own = k.own })
            (reached_still enabled touches stands s.views id (length h.log) v w at (le_refl (length v.front)) (begins_length v.front h.log k.front) h.longest)
            (had enabled touches stands s h id v at) (λ j lt. turn_moved s h id v at w s.words s.homes j lt refl refl refl)),
        (
          record {
            runs = λ before e after is. h.runs before e (after ++ k.front.0) (sym (append_assoc before (e ∷ after) k.front.0) ∙ ap (λ l. l ++ k.front.0) is ∙ k.front.1);
            limit = le_trans (begins_length v.front h.log k.front) h.limit;
            front = begins_same v.front;
            known = begins_two v.known v.front h.log k.known k.front le;
            spares = λ i holds. spares_shorter (λ before x. touches before x i) (length v.known) v.front h.log k.front (k.spares i holds);
          },
          begins_two v.met v.front h.log k.met k.front met_le,
          refl,
        ),
      )

  module _ (stays : (i : ℕ) (front : List Event) (e : Event) (x : V) → stands i front x → enabled front e → (touches front e i → ⊥) → stands i (front ++ e ∷ []) x) where
    pub frees : (slots id : ℕ) (v : View) (i : ℕ) (x : V) → i < slots → value_place i v.holds ≡ Drawn → v.known ≡ v.front → stands i v.front x
        → Allows (TurnRule enabled touches stands) slots id (v, (i, Some x) ∷ []) (i + 1) (λ n. 0) (λ n. OnFree (step slots (i + 1) 0 0 maybe.none) (v, (i, Some x) ∷ []) 0)
    frees slots id v i x below place fresh is s h wide at _ =
        let w = with_place i Free v in
        let lt : i < length s.homes = omega (arith, wide, below) in
        let holds : HoldsTurn i v = λ free. drawn_held (sym place ∙ free) in
        let k = h.knows id v at in
        let t = held_by s h id v at i Drawn lt place drawn_held in
        let homes = set s.homes i (maybe.some (Some x)) in
        let spares = subst (λ l. Spares (λ before e. touches before e i) (length l) h.log) fresh (k.spares i holds) in
        let now = still enabled (λ before e. touches before e i) (stands i) (stays i) v.front h.log x k.front h.runs spares is in (
          w,
          gives,
          tt,
          kept_word s h id v at i 0 Free w homes lt (length-set s.homes i (maybe.some (Some x))) (λ j apart. set_else s.homes i j (maybe.some (Some x)) apart) refl (le_refl (length v.front))
              (knows_puts s h id v at i Free free_not holds) refl (in_after s h id v at i w (get_elem? homes i) refl t.1 (x, set_here s.homes i (maybe.some (Some x)) lt, now)),
          ap (λ k. (with_place k Free v, [])) (sym (part_is i)),
        )

    module _ (slots id : ℕ) (v : View) (c : List (ℕ × Option V)) (saw : ℕ) (e : Event) (is_saw : saw ≡ length v.front) (may : enabled v.front e)
        (mine : (i : ℕ) → touches v.front e i → (i < slots) × (value_place i v.holds ≡ Empty)) (room : saw < 2 ^ 62)
        (s : State (Option V) View) (h : TurnRule enabled touches stands s) (wide : length s.homes ≡ slots) (at : get_elem? s.views id ≡ maybe.some v) where
      log : List Event
      log = h.log

      touched : (i : ℕ) → v.front ≡ h.log → touches h.log e i → HoldsAlone s.views i id × (get_elem? s.homes i ≡ maybe.some (maybe.some None))
      touched i same hit =
          let m = mine i (subst (λ l. touches l e i) (sym same) hit) in
          let t = held_by s h id v at i Empty (omega (arith, wide, m.0)) m.1 empty_held in (t.1, t.2)

      kept_adds : v.front ≡ h.log → slice_index s.words 0 ≡ saw → TurnRule enabled touches stands (record { words = set s.words 0 (saw + 1); homes = s.homes; views = set s.views id (after_append v.front e v) })
      kept_adds same found =
          let w = after_append h.log e v in
          let more : length (h.log ++ e ∷ []) ≡ saw + 1 = omega (arith, length-append h.log (e ∷ []), h.count, found) in
          subst (λ l. TurnRule enabled touches stands (record { words = set s.words 0 (saw + 1); homes = s.homes; views = set s.views id (after_append l e v) })) (sym same)
          (kept_set enabled touches stands s h id v w at (h.log ++ e ∷ []) (set s.words 0 (saw + 1)) s.homes (length-set s.words 0 (saw + 1) ∙ h.wide)
          (more ∙ sym (get_or-set_same s.words 0 (saw + 1) 0 (omega (arith, h.wide)))) (omega (arith, more, room)) (runs_more enabled h.log e h.runs (subst (λ l. enabled l e) same may))
          (λ j u there apart. knows_more enabled touches stands h.log e u (λ i holds hit. holds ((touched i same hit).0 j u there apart)) (h.knows j u there))
          (record {
            front = begins_same (h.log ++ e ∷ []);
            known = begins_same (h.log ++ e ∷ []);
            fresh = λ i has. spares_none (λ before x. touches before x i) (h.log ++ e ∷ []);
            met = begins_more v.met h.log (e ∷ []) (h.knows id v at).met;
            spares = λ i holds. spares_none (λ before x. touches before x i) (h.log ++ e ∷ []);
            own = λ n is_in. ⊎_elim
                (λ was. let below = (h.knows id v at).own n was in let long = begins_length v.front h.log (h.knows id v at).front in omega (arith, more, h.count, found))
                (λ new. omega (arith, more, h.count, found, new)) (at_end v.own (length h.log) n is_in);
          })
          (reached_here enabled touches stands s.views id (length (h.log ++ e ∷ [])) v w at refl)
          (λ n k u is_in there apart. ⊎_elim (λ was. had enabled touches stands s h id v at n k u was there apart) (λ new. late enabled touches stands s h n k u (omega (arith, new)) there) (at_end v.own (length h.log) n is_in))
          (λ j lt. subst (λ n. Turn stands (h.log ++ e ∷ []) (set s.views id w) n (get_elem? s.homes j) j) (sym (get_or-set_other s.words 0 (j + 1) (saw + 1) 0 (λ bad. absurd (omega arith))))
          (turn_same stands (h.log ++ e ∷ []) s.views (slice_index s.words (j + 1)) (get_elem? s.homes j) j id v w at refl
          (turn_more stands h.log (h.log ++ e ∷ []) s.views (slice_index s.words (j + 1)) (get_elem? s.homes j) j
          (λ x full stood. stays j h.log e x stood (subst (λ l. enabled l e) same may) (λ hit. some_is_not x (full_empty x full (touched j same hit).1))) (h.turns j lt)))))
        where
          full_empty : (x : V) {home : maybe.Option (maybe.Option (Option V))} → home ≡ maybe.some (maybe.some (Some x)) → home ≡ maybe.some (maybe.some None) → Some x ≡ None
          full_empty x a b = some-injective (Some x) None (some-injective (maybe.some (Some x)) (maybe.some None) (sym a ∙ b))

          some_is_not : (x : V) → Some x ≡ None → ⊥
          some_is_not x e = cc e

    pub appends : (slots id : ℕ) (v : View) (c : List (ℕ × Option V)) (saw : ℕ) (e : Event) → saw ≡ length v.front → enabled v.front e
        → ((i : ℕ) → touches v.front e i → (i < slots) × (value_place i v.holds ≡ Empty)) → saw < 2 ^ 62
        → Allows (TurnRule enabled touches stands) slots id (v, c) 0 (λ n. either (n == saw) (saw + 1) n) (OnAppend enabled touches e (step slots 0 saw (saw + 1) maybe.none) (v, c))
    appends slots id v c saw e is_saw may mine room s h wide at _ = dite (ℕ_discrete (slice_index s.words 0) saw)
        (λ (found : slice_index s.words 0 ≡ saw).
        let same : v.front ≡ h.log = begins_whole v.front h.log (h.knows id v at).front (omega (arith, h.count, found, is_saw)) in (
          after_append v.front e v,
          keeps,
          tt,
          subst (λ n. TurnRule enabled touches stands (record { words = set s.words 0 n; homes = s.homes; views = set s.views id (after_append v.front e v) }))
              (ap (λ b. either b (saw + 1) (slice_index s.words 0)) (sym (eq-eqb (slice_index s.words 0) saw found)))
              (kept_adds slots id v c saw e is_saw may mine room s h wide at same found),
          inl (found, (subst (λ l. Runs enabled (l ++ e ∷ [])) (sym same) (runs_more enabled h.log e h.runs (subst (λ l. enabled l e) same may)), refl)),
        ))
        (λ (apart : slice_index s.words 0 ≢ saw). (
          after_load h.log v,
          keeps,
          tt,
          subst (λ n. TurnRule enabled touches stands (record { words = set s.words 0 n; homes = s.homes; views = set s.views id (after_load h.log v) }))
              (ap (λ b. either b (saw + 1) (slice_index s.words 0)) (sym (ne_eqb (slice_index s.words 0) saw apart)))
              (same_word s h id v at 0 s.homes (after_load h.log v) (kept_seen s h id v at)),
          inr (apart, (h.log, h.count, learns s h id v at, refl)),
        ))
