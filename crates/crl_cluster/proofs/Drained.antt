-- The values of a cluster that is taken apart are the world after its history.
use Rattle.std.proofs.Common.{◌≡◌, ℕ, ◌<◌, ◌≤◌, ◌^◌, inl, inr, ⊎_elim, List, [], ◌∷◌, ◌++◌, length, slice_get, map, refl, sym, ap, ◌∙◌, subst, arith, Option, Some, None, zero, suc}
use Rattle.std.proofs.lemmas.Bool.{cases_lt}
use Rattle.std.proofs.lemmas.List.{length-map, get_or_past}
use Rattle.std.proofs.lemmas.Option.{slice_get-map, get_or_from_slice_get}
use Rattle.std.specs.Option.{option_map}
use Rattle.crl_model.specs.declared.event.Event.{Event}
use Rattle.crl_protocol.specs.Node.{Node, new_node}
use Rattle.crl_protocol.specs.Talk.{Heard}
use Rattle.crl_protocol.specs.World as protocol
use Rattle.crl_turns.specs.declared.turned.Shape.{Shape}
use Rattle.crl_turns.specs.Fronts.{Begins, Runs}
use Rattle.crl_turns.specs.declared.view.View.{View}
use Rattle.crl_turns.specs.Rule.{StandsFor, IsAmong}
use Rattle.crl_world.specs.Seen.{world_of_nodes, node_in, IsKept}
use Rattle.crl_cluster.specs.declared.behind.Behind.{Behind}
use Rattle.crl_cluster.specs.Standing.{world_at, heard_at, MayCome, StandsAt}
use Rattle.crl_cluster.specs.Closing.{IsClosed}
use Rattle.crl_cluster.proofs.Outside.{past_nodes}
use Rattle.crl_cluster.proofs.Worlds.{run_of, count_at, events_at, me_at}

none_some : {A : Type 0} (x : A) → None ≡ Some x → ⊥
none_some x e = cc e

abbrev world_with : ℕ → (ℕ → Node) → ℕ → protocol.World
world_with count nodes events = record { count = count; nodes = nodes; events = events }

same_world : (c d : ℕ) (f g : ℕ → Node) (x y : ℕ) → c ≡ d → ((m : ℕ) → f m ≡ g m) → x ≡ y → world_with c f x ≡ world_with d g y
same_world c d f g x y counts nodes events = λ k. world_with (counts k) (λ m. nodes m k) (events k)

module _ {N T : Type 0} (state : N → Node) (stands : ℕ → List Heard → T → Type 0) (s : Shape) (history : List Event) (runs : Runs (MayCome s) history) (values : List (Behind N T))
    (many : length values ≡ s.parts)
    (each : (i : ℕ) (behind : Behind N T) → slice_get values i ≡ Some behind → StandsFor (λ (b : Behind N T). b.shape) (λ t k front b. StandsAt state stands t k front b.node b.luggage) s i history behind) where
  abbrev pub nodes : List Node
  nodes = map state (map (λ (b : Behind N T). b.node) values)

  long : length nodes ≡ s.parts
  long = length-map (map (λ (b : Behind N T). b.node) values) state ∙ length-map values (λ (b : Behind N T). b.node) ∙ many

  at_some : (i : ℕ) (b : Behind N T) → slice_get values i ≡ Some b → slice_get nodes i ≡ Some (state b.node)
  at_some i b e =
      slice_get-map state (map (λ (x : Behind N T). x.node) values) i ∙ ap (option_map state) (slice_get-map (λ (x : Behind N T). x.node) values i ∙ ap (option_map (λ (x : Behind N T). x.node)) e)

  inside_by : (i : ℕ) (o : Option (Behind N T)) → slice_get values i ≡ o → (o ≡ None → ⊥) → node_in s.extra nodes i ≡ (world_at s history).nodes i
  inside_by i None e there = absurd (there refl)
  inside_by i (Some b) e there = get_or_from_slice_get nodes i (state b.node) _ (at_some i b e) ∙ (each i b e).1.node_is

  some_there : (i : ℕ) → i < s.parts → slice_get values i ≡ None → ⊥
  some_there i lt none = within values i (subst (λ k. i < k) (sym many) lt) none
    where
      within : (xs : List (Behind N T)) (k : ℕ) → k < length xs → slice_get xs k ≡ None → ⊥
      within [] k lt e = absurd (omega (arith, lt))
      within (x ∷ xs) zero lt e = cc
      within (x ∷ xs) (suc k) lt e = within xs k (omega (arith, lt)) e

  outside : (i : ℕ) → s.parts ≤ i → node_in s.extra nodes i ≡ (world_at s history).nodes i
  outside i past = get_or_past nodes i _ (subst (λ k. k ≤ i) (sym long) past) ∙ ap (λ k. new_node k s.extra i) long ∙ sym (past_nodes s history runs i past)

  pub drained_world : (events : ℕ) → length history ≡ events → world_of_nodes nodes events s.extra ≡ world_at s history
  drained_world events counts =
      same_world (length nodes) (world_at s history).count (node_in s.extra nodes) (world_at s history).nodes events (world_at s history).events (long ∙ sym (count_at s history (run_of s history runs)))
      (λ i. ⊎_elim (λ lt. inside_by i (slice_get values i) refl (some_there i lt)) (λ past. outside i past) (cases_lt i s.parts)) (sym counts ∙ sym (events_at s history (run_of s history runs)))

  pub drained_kept : (events : ℕ) → length history ≡ events → length history ≤ 2 ^ 62 → (0 < s.parts) × (s.parts ≤ 64) → IsKept (world_of_nodes nodes events s.extra)
  drained_kept events counts limit some = record {
    some = subst (λ k. 0 < k) (sym long) some.0;
    few = subst (λ k. k ≤ 64) (sym long) some.1;
    events = subst (λ k. k ≤ 2 ^ 62) counts limit;
    numbered = λ i. ap (λ (w : protocol.World). (w.nodes i).me) (drained_world events counts) ∙ me_at s history (run_of s history runs) i;
  }

  abbrev pub luggages : List T
  luggages = map (λ (b : Behind N T). b.luggage) values

  pub drained_luggage : (i : ℕ) (own : T) → slice_get luggages i ≡ Some own → stands i (heard_at s i history) own
  drained_luggage i own e = go (slice_get values i) refl (sym (slice_get-map (λ (b : Behind N T). b.luggage) values i) ∙ e)
    where
      go : (o : Option (Behind N T)) → slice_get values i ≡ o → option_map (λ (b : Behind N T). b.luggage) o ≡ Some own → stands i (heard_at s i history) own
      go None is there = absurd (none_some own there)
      go (Some b) is there = let same : b.luggage ≡ own = cc in subst (λ x. stands i (heard_at s i history) x) same (each i b is).1.luggage_stands

  pub drained : (events : ℕ) → length history ≡ events → length history ≤ 2 ^ 62 → (view : View) → Begins view.front history → (capacity : ℕ) → capacity ≡ s.extra → (world : protocol.World) → world ≡ world_of_nodes nodes events capacity
      → (luggage : List T) → luggage ≡ luggages → IsClosed stands s view world luggage
  drained events counts limit view begins capacity same world is luggage own = record {
    history = history;
    run = record { enabled = run_of s history runs; limit = limit };
    begins = begins;
    world_is = is ∙ ap (world_of_nodes nodes events) same ∙ drained_world events counts;
    many = ap length own ∙ length-map values (λ (b : Behind N T). b.luggage) ∙ many;
    each = λ i x there. drained_luggage i x (ap (λ l. slice_get l i) (sym own) ∙ there);
  }

pub among_last : {A : Type 0} (xs ys : List A) (x : A) → ys ≡ xs ++ x ∷ [] → IsAmong x ys
among_last {A = A} xs ys x is = subst (λ l. IsAmong x l) (sym is) (go xs)
  where
    go : (l : List A) → IsAmong x (l ++ x ∷ [])
    go [] = inl refl
    go (z ∷ l) = inr (go l)
