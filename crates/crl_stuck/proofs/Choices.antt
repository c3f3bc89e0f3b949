-- Where no choice is left no piece is in a box, and each node is finished or waits; and the other way round.
use Rattle.std.proofs.Common.{◌≡◌, ℕ, zero, suc, ◌+◌, ◌<◌, ◌≤◌, Bool, true, false, ◌&&◌, List, [], ◌∷◌, ◌++◌, refl, ap, ◌∙◌, subst, arith}
use Rattle.std.proofs.Math.Logic.{◌⊎◌, inl, inr}
use Rattle.std.proofs.lemmas.Bool.{cases_eq, lt-ltb}
use Rattle.std.specs.declared.option.Option.TheVariants.{Some}
use Rattle.crl_model.specs.declared.blocked.Blocked.{Blocked}
use Rattle.crl_model.specs.declared.choice.Choice.{Choice}
use Rattle.crl_model.specs.declared.statement.Statement.{Statement}
use Rattle.crl_protocol.specs.Parcels.{Piece}
use Rattle.crl_protocol.specs.Home.{is_empty}
use Rattle.crl_protocol.specs.Node.{Activity, Awaited, Free, Waiting, Ready}
use Rattle.crl_protocol.specs.World.{World, boxes_from, pieces_in_boxes, is_free}
use Rattle.crl_protocol.specs.Chosen.{Running, next_of, nexts_from, handles_of, handles_from, carries_of, carries_from, choices}
use Rattle.crl_protocol.specs.Ends.{blocked_while, is_finished, IsTrulyStuck}
use Rattle.crl_regions.proofs.Laws.{left_none}

join_empty : {A : Type 0} (xs ys : List A) → xs ≡ [] → ys ≡ [] → xs ++ ys ≡ []
join_empty xs ys e f = ap (λ l. l ++ ys) e ∙ f

-- the choices of a node's boxes
handles_none : (i place : ℕ) (ms : List Piece) → handles_of i place ms ≡ [] → ms ≡ []
handles_none i place [] e = refl
handles_none i place (m ∷ ms) e = cc

carries_none : (i place : ℕ) (ms : List Piece) → carries_of i place ms ≡ [] → ms ≡ []
carries_none i place [] e = refl
carries_none i place (m ∷ ms) e = cc

boxes_none : (r : Running) (i k : ℕ) → handles_from i k r ≡ [] → carries_from i k r ≡ [] → boxes_from i k r.world.nodes ≡ []
boxes_none r i zero e f = refl
boxes_none r i (suc k) e f =
    let a = left_none (handles_of i 0 (r.world.nodes i).inbox) (handles_from (i + 1) k r) e in
    let b = left_none (carries_of i 0 (r.world.nodes i).outbox) (carries_from (i + 1) k r) f in
    join_empty _ _ (join_empty _ _ (handles_none i 0 _ a.0) (carries_none i 0 _ b.0)) (boxes_none r (i + 1) k a.1 b.1)

handles_back : (r : Running) (i k : ℕ) → boxes_from i k r.world.nodes ≡ [] → (handles_from i k r ≡ []) × (carries_from i k r ≡ [])
handles_back r i zero e = (refl, refl)
handles_back r i (suc k) e =
    let a = left_none ((r.world.nodes i).inbox ++ (r.world.nodes i).outbox) (boxes_from (i + 1) k r.world.nodes) e in
    let b = left_none (r.world.nodes i).inbox (r.world.nodes i).outbox a.0 in
    let rest = handles_back r (i + 1) k a.1 in
    (join_empty _ _ (ap (λ ms. handles_of i 0 ms) b.0) rest.0, join_empty _ _ (ap (λ ms. carries_of i 0 ms) b.1) rest.1)

-- the choice of a node's next
abbrev pub Next : Running → ℕ → List Choice
Next r i = next_of i (r.actors i).left (r.world.nodes i).activity

nexts_none : (r : Running) (i k j : ℕ) → i ≤ j → j < i + k → nexts_from i k r ≡ [] → Next r j ≡ []
nexts_none r i zero j l h e = absurd (omega arith)
nexts_none r i (suc k) j l h e = let a = left_none (Next r i) (nexts_from (i + 1) k r) e in go (cases_eq i j) a.0 (λ lower. nexts_none r (i + 1) k j lower (omega arith) a.1)
  where
    go : (i ≡ j) ⊎ (i ≡ j → ⊥) → Next r i ≡ [] → (i + 1 ≤ j → Next r j ≡ []) → Next r j ≡ []
    go (inl same) x y = subst (λ m. Next r m ≡ []) same x
    go (inr other) x y = y (omega arith)

nexts_back : (r : Running) (i k count : ℕ) → i + k ≡ count → ((j : ℕ) → j < count → Next r j ≡ []) → nexts_from i k r ≡ []
nexts_back r i zero count e h = refl
nexts_back r i (suc k) count e h = join_empty _ _ (h i (omega arith)) (nexts_back r (i + 1) k count (omega arith) h)

-- no choice: no piece is in a box, and no node has a next
pub record NoChoice (r : Running) : Type 0 where
  pub boxes : pieces_in_boxes r.world ≡ []
  pub nexts : (j : ℕ) → j < r.world.count → Next r j ≡ []

pub no_choice : (r : Running) → choices r ≡ [] → NoChoice r
no_choice r e =
    let a = left_none (nexts_from 0 r.world.count r) (handles_from 0 r.world.count r ++ carries_from 0 r.world.count r) e in
    let b = left_none (handles_from 0 r.world.count r) (carries_from 0 r.world.count r) a.1 in
    record { boxes = boxes_none r 0 r.world.count b.0 b.1; nexts = λ j h. nexts_none r 0 r.world.count j (omega arith) (omega arith) a.0 }

-- a node that has no next and isn't finished waits
waits_if : (i : ℕ) (left : List Statement) (a : Activity) → next_of i left a ≡ [] → (is_free a && is_empty left) ≡ false → (w : Awaited) × (a ≡ Waiting w)
waits_if i [] Free e f = cc
waits_if i (s ∷ left) Free e f = cc
waits_if i left (Waiting w) e f = (w, refl)
waits_if i left (Ready answer) e f = cc

pub waits_unfinished : (r : Running) → NoChoice r → (i : ℕ) → i < r.world.count → is_finished i r ≡ false → (w : Awaited) × ((r.world.nodes i).activity ≡ Waiting w)
waits_unfinished r h i l f = waits_if i (r.actors i).left (r.world.nodes i).activity (h.nexts i l) f

-- a node that is finished or blocked has no next
next_finished : (i : ℕ) (left : List Statement) (a : Activity) → (is_free a && is_empty left) ≡ true → next_of i left a ≡ []
next_finished i [] Free e = refl
next_finished i (s ∷ left) Free e = cc
next_finished i left (Waiting w) e = refl
next_finished i left (Ready answer) e = cc

next_blocked : (i : ℕ) (left : List Statement) (a : Activity) (w : World) (b : Blocked) → blocked_while i a w ≡ Some b → next_of i left a ≡ []
next_blocked i left Free w b e = cc
next_blocked i left (Waiting awaited) w b e = refl
next_blocked i left (Ready answer) w b e = cc

pub stuck_has_none : (r : Running) → IsTrulyStuck r → choices r ≡ []
stuck_has_none r h =
    let boxes = handles_back r 0 r.world.count h.0 in
    join_empty _ _ (nexts_back r 0 r.world.count r.world.count (omega arith) (λ j l. go j l (is_finished j r) refl)) (join_empty _ _ boxes.0 boxes.1)
  where
    go : (j : ℕ) → j < r.world.count → (b : Bool) → is_finished j r ≡ b → Next r j ≡ []
    go j l true e = next_finished j (r.actors j).left (r.world.nodes j).activity e
    go j l false e = let b = h.1 j e (lt-ltb j r.world.count l) in next_blocked j (r.actors j).left (r.world.nodes j).activity r.world b.0 b.1
