-- What the guards of a region's open sections show, in every run.
use Rattle.std.proofs.Common.{◌≡◌, ◌∙◌, sym, ap, refl, Bool, true, false, if◌then◌else◌, Option, Some, None, ℕ, List, [], ◌∷◌, ◌++◌, subst}
use Rattle.crl_model.specs.declared.name.Name.{Name}
use Rattle.crl_model.specs.declared.event.Event.{Event}
use Rattle.crl_model.specs.Names.{name_eq}
use Rattle.crl_model.proofs.Laws.{same_name}
use Rattle.crl_machine.specs.SingleMachine.{State}
use Rattle.crl_protocol.specs.Sections.{OpenSection, section_bytes}
use Rattle.crl_protocol.specs.Node.{Answer, Reading, Writing}
use Rattle.crl_protocol.specs.Talk.{Heard, hears_of, hears}
use Rattle.crl_protocol.specs.World.{new_world, step, is_enabled, world_of, IsRunFrom}
use Rattle.crl_talk.specs.Guards.{Given, given_of, given_yet, without_newest, held_after, guards_held, AreGuards, closed, writing, reading, nested, bytes_held}
use Rattle.crl_talk.proofs.Laws.{sections_are_guards, bytes_of}
use Rattle.crl_rounds.specs.Standing.{machine_of}
use Rattle.crl_history.specs.Legal.{AnswerShows}
use Rattle.crl_history.proofs.Laws.{mirrors_in_runs, answers_show, run_then, machine_then}
use Rattle.crl_deeds.proofs.Laws.{hears_grow}
use Rattle.crl_run.specs.Hearing.{AreShown}

-- The bytes with which a section began are those of the oldest guard.
none_open : {A : Type 0} (n : ℕ) (s : OpenSection) → AreGuards n [] (Some s) → A
none_open n s h = go [] _ h refl refl
  where
    go : {A : Type 0} (gs : List Given) (o : Option OpenSection) → AreGuards n gs o → gs ≡ [] → o ≡ Some s → A
    go gs o closed e k = cc
    go gs o (writing g x) e k = cc
    go gs o (reading g x) e k = cc
    go gs o (nested g rest c num bs x same some h) e k = cc

oldest_behind : (xs : List Given) (g : Given) (gs : List Given) → bytes_held (xs ++ g ∷ gs) ≡ bytes_held (g ∷ gs)
oldest_behind [] g gs = refl
oldest_behind (x ∷ []) g gs = refl
oldest_behind (x ∷ (y ∷ xs)) g gs = oldest_behind (y ∷ xs) g gs

-- there is a section where there is a guard
open_with : (n : ℕ) (xs gs : List Given) (g : Given) (o : Option OpenSection) → AreGuards n (xs ++ g ∷ gs) o → (s : OpenSection) × (o ≡ Some s)
open_with n xs gs g (Some s) h = (s, refl)
open_with n xs gs g None h = go (xs ++ g ∷ gs) None h refl xs refl
  where
    some_first : {A : Type 0} (xs : List Given) → xs ++ g ∷ gs ≡ [] → A
    some_first [] e = cc
    some_first (x ∷ xs) e = cc

    go : {A : Type 0} (ys : List Given) (o : Option OpenSection) → AreGuards n ys o → o ≡ None → (xs : List Given) → ys ≡ xs ++ g ∷ gs → A
    go ys o closed e xs w = some_first xs (sym w)
    go ys o (writing g x) e xs w = cc
    go ys o (reading g x) e xs w = cc
    go ys o (nested g rest c num bs x same some h) e xs w = cc

-- A guard more, with the bytes that the region has.
shown_add : (n : ℕ) (yet gs : List Given) (g : Given) (o : Option OpenSection) (bytes : List ℕ) → AreGuards n (yet ++ g ∷ gs) o → ((s : OpenSection) → o ≡ Some s → s.bytes ≡ bytes) → g.guard.bytes ≡ bytes → AreShown gs → AreShown (g ∷ gs)
shown_add n yet [] g o bytes h has e k = (λ w. refl, tt)
shown_add n yet (x ∷ xs) g o bytes h has e k =
    let there = open_with n yet (x ∷ xs) g o h in
    let began : section_bytes o ≡ bytes_held (x ∷ xs) = bytes_of n _ o h ∙ oldest_behind yet g (x ∷ xs) in
    let same : bytes_held (x ∷ xs) ≡ there.0.bytes = sym began ∙ ap section_bytes there.1 in
    (λ w. e ∙ sym (has there.0 there.1) ∙ sym same, k)

pub shown_rest : (gs : List Given) → AreShown gs → AreShown (without_newest gs)
shown_rest [] h = tt
shown_rest (g ∷ []) h = tt
shown_rest (g ∷ (x ∷ gs)) h = h.1

-- what an answer gives of the region
shown_answer : (n : ℕ) (q : Name) (yet gs : List Given) (answer : Answer) (o : Option OpenSection) (s : State) → AreGuards n (yet ++ (given_of q answer ++ gs)) o → ((x : OpenSection) → o ≡ Some x → x.bytes ≡ s.bytes q) → AnswerShows s answer → AreShown gs
    → AreShown (given_of q answer ++ gs)
shown_answer n q yet gs (Reading g) o s h has e k = go (name_eq g.name q) refl h
  where
    go : (b : Bool) → name_eq g.name q ≡ b → AreGuards n (yet ++ ((if b then record { write = false; guard = g } ∷ [] else []) ++ gs)) o → AreShown ((if b then record { write = false; guard = g } ∷ [] else []) ++ gs)
    go true w h = shown_add n yet gs _ o (s.bytes q) h has (e ∙ ap s.bytes (same_name g.name q w)) k
    go false w h = k
shown_answer n q yet gs (Writing g) o s h has e k = go (name_eq g.name q) refl h
  where
    go : (b : Bool) → name_eq g.name q ≡ b → AreGuards n (yet ++ ((if b then record { write = true; guard = g } ∷ [] else []) ++ gs)) o → AreShown ((if b then record { write = true; guard = g } ∷ [] else []) ++ gs)
    go true w h = shown_add n yet gs _ o (s.bytes q) h has (e ∙ ap s.bytes (same_name g.name q w)) k
    go false w h = k
shown_answer n q yet gs _ o s h has e k = k

-- One event more.

module _ (count capacity : ℕ) (run : List Event) (r : IsRunFrom (new_world count capacity) run) (e : Event) (may : is_enabled e (world_of count capacity run) ≡ true) (n : ℕ) (q : Name) where
  abbrev held : List Given
  held = guards_held q [] (hears n (new_world count capacity) run)

  abbrev answer : Answer
  answer = (step e (world_of count capacity run)).answer

  next : List Event
  next = run ++ e ∷ []

  rest_shown : Bool → AreShown held → (b : Bool) → AreShown (if b then without_newest held else held)
  rest_shown x h true = shown_rest held h
  rest_shown x h false = h

  -- where the node hears this
  pub shown_then : (heard : List Heard) (left : List Given) → hears_of n e answer ≡ heard → guards_held q held heard ≡ given_of q answer ++ left → AreShown left → AreShown (guards_held q [] (hears n (new_world count capacity) (run ++ e ∷ [])))
  shown_then heard left same after h =
      let w = new_world count capacity in
      let more = run_then w run e r may in
      let all : guards_held q [] (hears n w (run ++ e ∷ [])) ≡ given_of q answer ++ left = ap (guards_held q []) (hears_grow n w run e) ∙ held_join q [] (hears n w run) (hears_of n e answer) ∙ ap (guards_held q held) same ∙ after in
      let guards = sections_are_guards count capacity (run ++ e ∷ []) more n q in
      let v = world_of count capacity (run ++ e ∷ []) in
      subst (λ gs. AreShown gs) (sym all)
      (shown_answer n q (given_yet q (v.nodes n).activity) left answer ((v.nodes n).sections.records q) (machine_of count capacity (run ++ e ∷ []))
      (subst (λ gs. AreGuards n (given_yet q (v.nodes n).activity ++ gs) ((v.nodes n).sections.records q)) all guards)
      (λ s there. (mirrors_in_runs count capacity (run ++ e ∷ []) more).bytes.1.records n q s there)
      (subst (λ t. AnswerShows t answer) (sym (machine_then count capacity run e)) (answers_show count capacity run r e may)) h)
    where
      held_join : (q : Name) (gs : List Given) (xs ys : List Heard) → guards_held q gs (xs ++ ys) ≡ guards_held q (guards_held q gs xs) ys
      held_join q gs [] ys = refl
      held_join q gs (x ∷ xs) ys = held_join q (held_after q x gs) xs ys
