-- A queue of asks of different nodes of the world has room for one more node.
use Rattle.std.proofs.Common.{◌≡◌, ◌≢◌, ℕ, zero, suc, ◌+◌, ◌<◌, ◌≤◌, ◌==◌, Bool, true, false, ◌||◌, None, Some, Option, List, [], ◌∷◌, ◌++◌, length, if◌then◌else◌, refl, ap, sym, ◌∙◌, subst, arith}
use Rattle.std.specs.List.{AllByRecursion}
use Rattle.std.proofs.lemmas.Bool.{cond-false, eqb-true, eqb-false, ne_eqb}
use Rattle.crl_model.specs.declared.directory.Asked.{Asked}
use Rattle.crl_protocol.specs.Handlers.{is_queued}
use Rattle.crl_protocol.specs.Places.{find_all}
use Rattle.crl_coherence.specs.Coherent.{IsCoherent}
use Rattle.crl_coherence.specs.Directory.{between, AskStands, waits_to_be_served, was_granted}
use Rattle.crl_coherence.specs.Pairs.{HomeAndNode, queued_of, of_node, asked_in}
use Rattle.crl_coherence.specs.Region.{Region}
use Rattle.crl_coherence.proofs.Laws.{asks_once}
use Rattle.crl_sound.proofs.Tables.{IsNear}

abbrev one_if : Bool → ℕ
one_if b = if b then 1 else 0

-- how many asks of a node stand in the queue, and the others
abbrev pub times : ℕ → List Asked → ℕ
times n [] = 0
times n (a ∷ queue) = one_if (a.node == n) + times n queue

abbrev without : ℕ → List Asked → List Asked
without n [] = []
without n (a ∷ queue) = if a.node == n then without n queue else a ∷ without n queue

parts : (n : ℕ) (queue : List Asked) → length queue ≡ times n queue + length (without n queue)
parts n [] = refl
parts n (a ∷ queue) = go (a.node == n) (parts n queue)
  where
    go : (b : Bool) → length queue ≡ times n queue + length (without n queue) → length (a ∷ queue) ≡ (one_if b + times n queue) + length (if b then without n queue else a ∷ without n queue)
    go true h = omega arith
    go false h = omega arith

others : (n m : ℕ) (queue : List Asked) → m ≢ n → times m (without n queue) ≡ times m queue
others n m [] ne = refl
others n m (a ∷ queue) ne = go (a.node == n) refl (others n m queue ne)
  where
    go : (b : Bool) → (a.node == n) ≡ b → times m (without n queue) ≡ times m queue → times m (if b then without n queue else a ∷ without n queue) ≡ one_if (a.node == m) + times m queue
    go true e h =
        let none : one_if (a.node == m) ≡ 0 = cond-false (a.node == m) 1 0 (ne_eqb a.node m (λ same. ne (sym same ∙ eqb-true a.node n e))) in omega arith
    go false e h = omega arith

fewer : (k : ℕ) (queue : List Asked) → AllByRecursion (IsNear (suc k)) queue → AllByRecursion (IsNear k) (without k queue)
fewer k [] h = tt
fewer k (a ∷ queue) h = go (a.node == k) refl (fewer k queue h.1)
  where
    go : (b : Bool) → (a.node == k) ≡ b → AllByRecursion (IsNear k) (without k queue) → AllByRecursion (IsNear k) (if b then without k queue else a ∷ without k queue)
    go true e r = r
    go false e r = ((let ne = eqb-false a.node k e in let l = h.0 in grind arith), r)

-- each node at most once
abbrev pub EachOnce : List Asked → Type 0
EachOnce queue = (n : ℕ) → times n queue ≤ 1

left_none : (k : ℕ) (queue : List Asked) → times k (without k queue) ≡ 0
left_none k [] = refl
left_none k (a ∷ queue) = go (a.node == k) refl (left_none k queue)
  where
    go : (b : Bool) → (a.node == k) ≡ b → times k (without k queue) ≡ 0 → times k (if b then without k queue else a ∷ without k queue) ≡ 0
    go true e h = h
    go false e h = let none : one_if (a.node == k) ≡ 0 = cond-false (a.node == k) 1 0 e in omega arith

left_once : (k : ℕ) (queue : List Asked) → EachOnce queue → EachOnce (without k queue)
left_once k queue once n = go (n == k) refl
  where
    go : (b : Bool) → (n == k) ≡ b → times n (without k queue) ≤ 1
    go true e = let none = left_none k queue in let same : times n (without k queue) ≡ times k (without k queue) = ap (λ x. times x (without k queue)) (eqb-true n k e) in omega arith
    go false e = let same = others k n queue (eqb-false n k e) in let o = once n in omega arith

at_most : (k : ℕ) (queue : List Asked) → AllByRecursion (IsNear k) queue → EachOnce queue → length queue ≤ k
at_most zero [] near once = omega arith
at_most zero (a ∷ queue) near once = absurd (let l = near.0 in omega arith)
at_most (suc k) queue near once =
    let h = at_most k (without k queue) (fewer k queue near) (left_once k queue once) in
    let p = parts k queue in
    let o = once k in omega arith

pub has_room : (k i : ℕ) (queue : List Asked) → AllByRecursion (IsNear k) queue → EachOnce queue → i < k → times i queue ≡ 0 → length queue < k
has_room zero i queue near once few none = absurd (omega arith)
has_room (suc k) i queue near once few none = go (i == k) refl (λ less same. has_room k i (without k queue) (fewer k queue near) (left_once k queue once) less same)
  where
    go : (b : Bool) → (i == k) ≡ b → (i < k → times i (without k queue) ≡ 0 → length (without k queue) < k) → length queue < suc k
    go true e room =
        let h = at_most k (without k queue) (fewer k queue near) (left_once k queue once) in
        let p = parts k queue in
        let same : times i queue ≡ times k queue = ap (λ x. times x queue) (eqb-true i k e) in omega arith
    go false e room =
        let ne = eqb-false i k e in
        let h = room (grind arith) (others k i queue ne ∙ none) in
        let p = parts k queue in
        let o = once k in omega arith

-- A node whose ask isn't queued.
pub not_queued : (i : ℕ) (queue : List Asked) → is_queued i queue ≡ false → times i queue ≡ 0
not_queued i [] e = refl
not_queued i (a ∷ queue) e = go (a.node == i) e (λ w. not_queued i queue w)
  where
    go : (b : Bool) → (b || is_queued i queue) ≡ false → (is_queued i queue ≡ false → times i queue ≡ 0) → one_if b + times i queue ≡ 0
    go true e h = cc
    go false e h = let r = h e in omega arith

found_times : (n : ℕ) (queue : List Asked) → length (find_all (queued_of n) queue) ≡ times n queue
found_times n [] = refl
found_times n (a ∷ queue) = go (a.node == n) (found_times n queue)
  where
    go : (b : Bool) → length (find_all (queued_of n) queue) ≡ times n queue → length {A = Asked} (elim (if b then Some a else None) [ None ↦ find_all (queued_of n) queue | Some y ↦ y ∷ find_all (queued_of n) queue ]) ≡ one_if b + times n queue
    go true h = omega arith
    go false h = omega arith

first_part : {A : Type 0} (xs ys : List A) → length xs ≤ length (xs ++ ys)
first_part [] ys = omega arith
first_part (x ∷ xs) ys = let h = first_part xs ys in omega arith

-- In a coherent region no node has two asks in the queue.
stands_few : (write : Bool) (p : HomeAndNode) → AskStands write p → length p.pending ≤ 1
stands_few write p (waits_to_be_served ask e f g) = let l = ap (λ xs. length xs) e in omega arith
stands_few write p (was_granted grant e f g) = let l = ap (λ xs. length xs) g in omega arith

pub asks_differ : (me : ℕ) (g : Region) → IsCoherent me g → EachOnce g.home.queue
asks_differ me g k n = by (n == me) refl
  where
    pending_few : n ≢ me → (o : Option Bool) → (g.remotes n).asking ≡ o → length (between g n).pending ≤ 1
    pending_few other None e = let l = ap (λ xs. length xs) ((asks_once me g k).rests n other e).0 in omega arith
    pending_few other (Some write) e = stands_few write (between g n) ((asks_once me g k).waits n write other e)

    own_few : (b : Bool) → is_queued me g.home.queue ≡ b → times me g.home.queue ≤ 1
    own_few true e = let l = ap (λ xs. length xs) ((asks_once me g k).home e).1.1 in let f = found_times me g.home.queue in omega arith
    own_few false e = let none = not_queued me g.home.queue e in omega arith

    by : (b : Bool) → (n == me) ≡ b → times n g.home.queue ≤ 1
    by true e = subst (λ j. times j g.home.queue ≤ 1) (sym (eqb-true n me e)) (own_few (is_queued me g.home.queue) refl)
    by false e =
        let few = pending_few (eqb-false n me e) (g.remotes n).asking refl in
        let part = first_part (find_all (queued_of n) g.home.queue) (find_all (of_node n (asked_in n)) g.flight) in
        let f = found_times n g.home.queue in omega (arith, few, part)
