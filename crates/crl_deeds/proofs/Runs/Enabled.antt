-- What isn't there can't happen, and each event of a run may come after those before it.
use Rattle.std.proofs.Common.{◌≡◌, ℕ, zero, suc, ◌<◌, nat_lt, ◌&&◌, Bool, true, false, None, Some, Option, List, [], ◌∷◌, ◌++◌, length, refl, ap, sym, ◌∙◌, arith}
use Rattle.std.proofs.lemmas.Bool.{and_parts, and_right, le-ltb, ltb-true, ltb-false, eq-eqb, or_left}
use Rattle.crl_model.specs.declared.call.Call.{Call}
use Rattle.crl_model.specs.declared.event.Event.{Event}
use Rattle.crl_model.specs.declared.event.Event.TheVariants as event
use Rattle.crl_protocol.specs.Places.{Taken, behind, take_out}
use Rattle.crl_protocol.specs.Node.{Node, Activity, Free, Waiting, Ready}
use Rattle.crl_protocol.specs.Verdict.{verdict}
use Rattle.crl_protocol.specs.World.{World, step, is_free, is_ready, is_call, is_enabled, IsRunFrom, world_after}
use Rattle.crl_deeds.specs.Laws.{touches, node_of}

none_behind : {A : Type 0} (x : A) (t : Option (Taken A)) → behind x t ≡ None → t ≡ None
none_behind x None h = refl
none_behind x (Some t) h = cc

-- nothing is taken out only past the end
pub past_end : {A : Type 0} (place : ℕ) (xs : List A) → take_out place xs ≡ None → nat_lt place (length xs) ≡ false
past_end place [] h = le-ltb place 0 (omega arith)
past_end zero (x ∷ xs) h = cc
past_end (suc place) (x ∷ xs) h =
    let e = ltb-false place (length xs) (past_end place xs (none_behind x (take_out place xs) h)) in le-ltb (suc place) (length (x ∷ xs)) (omega arith)

-- what is at a place below the length can be taken out
pub taken_there : {A : Type 0} (place : ℕ) (xs : List A) → place < length xs → take_out place xs ≡ None → ⊥
taken_there place xs lt e = let past = ltb-false place (length xs) (past_end place xs e) in absurd (omega arith)

-- What an event finds at its node.
pub free_is : (a : Activity) → is_free a ≡ true → a ≡ Free
free_is Free e = refl
free_is (Waiting awaited) e = cc
free_is (Ready answer) e = cc

pub may_call : (i : ℕ) (c : Call) (w : World) → is_enabled (event.Call i c) w ≡ true → (i < w.count) × ((w.nodes i).activity ≡ Free) × (is_call (w.nodes i) c (verdict (w.nodes i) c) ≡ true)
unfolding is_enabled
may_call i c w may = let parts = and_parts _ _ may in let own = and_parts _ _ parts.1 in (ltb-true _ _ parts.0, free_is (w.nodes i).activity own.0, own.1)

pub may_collect : (i : ℕ) (w : World) → is_enabled (event.Collect i) w ≡ true → (i < w.count) × (is_ready (w.nodes i).activity ≡ true)
unfolding is_enabled
may_collect i w may = let parts = and_parts _ _ may in (ltb-true _ _ parts.0, parts.1)

pub may_handle : (i place : ℕ) (w : World) → is_enabled (event.Handle i place) w ≡ true → (i < w.count) × (place < length (w.nodes i).inbox)
unfolding is_enabled
may_handle i place w may = let parts = and_parts (nat_lt i w.count) (nat_lt place (length (w.nodes i).inbox)) may in (ltb-true _ _ parts.0, ltb-true _ _ parts.1)

pub may_carry : (i place : ℕ) (w : World) → is_enabled (event.Carry i place) w ≡ true → (i < w.count) × (place < length (w.nodes i).outbox)
unfolding is_enabled
may_carry i place w may = let parts = and_parts (nat_lt i w.count) (nat_lt place (length (w.nodes i).outbox)) may in (ltb-true _ _ parts.0, ltb-true _ _ parts.1)

-- It is of a node of the world.
pub collect_node : (i : ℕ) (w : World) → is_enabled (event.Collect i) w ≡ true → i < w.count
collect_node i w may = (may_collect i w may).0

pub handle_node : (i place : ℕ) (w : World) → is_enabled (event.Handle i place) w ≡ true → i < w.count
handle_node i place w may = (may_handle i place w may).0

pub carry_node : (i place : ℕ) (w : World) → is_enabled (event.Carry i place) w ≡ true → i < w.count
carry_node i place w may = (may_carry i place w may).0

pub no_handle : (i place : ℕ) (w : World) → take_out place (w.nodes i).inbox ≡ None → is_enabled (event.Handle i place) w ≡ false
unfolding is_enabled
no_handle i place w h = and_right (nat_lt i w.count) (nat_lt place (length (w.nodes i).inbox)) (past_end place (w.nodes i).inbox h)

pub no_carry : (i place : ℕ) (w : World) → take_out place (w.nodes i).outbox ≡ None → is_enabled (event.Carry i place) w ≡ false
unfolding is_enabled
no_carry i place w h = and_right (nat_lt i w.count) (nat_lt place (length (w.nodes i).outbox)) (past_end place (w.nodes i).outbox h)

pub enabled_behind : (w : World) (before : List Event) (e : Event) (behind : List Event) → IsRunFrom w (before ++ e ∷ behind) → is_enabled e (world_after w before) ≡ true
enabled_behind w [] e behind h = h.0
enabled_behind w (x ∷ before) e behind h = enabled_behind (step x w).world before e behind h.1

-- Whether an event may come is seen at the nodes that it touches.
abbrev is_enabled_at : Event → ℕ → Node → Bool
is_enabled_at (event.Call i c) count n = nat_lt i count && (is_free n.activity && is_call n c (verdict n c))
is_enabled_at (event.Collect i) count n = nat_lt i count && is_ready n.activity
is_enabled_at (event.Handle i place) count n = nat_lt i count && nat_lt place (length n.inbox)
is_enabled_at (event.Carry i place) count n = nat_lt i count && nat_lt place (length n.outbox)

at_its_node : (e : Event) (w : World) → is_enabled e w ≡ is_enabled_at e w.count (w.nodes (node_of e))
unfolding is_enabled
at_its_node (event.Call i c) w = refl
at_its_node (event.Collect i) w = refl
at_its_node (event.Handle i place) w = refl
at_its_node (event.Carry i place) w = refl

pub touches_own : (e : Event) (w : World) → touches e w (node_of e) ≡ true
touches_own (event.Call i c) w = eq-eqb i i refl
touches_own (event.Collect i) w = eq-eqb i i refl
touches_own (event.Handle i place) w = eq-eqb i i refl
touches_own (event.Carry i place) w = or_left _ _ (eq-eqb i i refl)

pub enabled_by_few : (e : Event) (v w : World) → v.count ≡ w.count → ((m : ℕ) → touches e w m ≡ true → v.nodes m ≡ w.nodes m) → is_enabled e v ≡ is_enabled e w
enabled_by_few e v w count same =
    at_its_node e v ∙ ap (λ k. is_enabled_at e k (v.nodes (node_of e))) count ∙ ap (is_enabled_at e w.count) (same (node_of e) (touches_own e w)) ∙ sym (at_its_node e w)
