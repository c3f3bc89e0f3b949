-- With no piece in a box each node that waits is blocked.
use Rattle.std.proofs.Common.{◌≡◌, ◌≢◌, ℕ, ◌<◌, Bool, true, false, not, List, [], refl, ap, sym, ◌∙◌, subst, arith}
use Rattle.std.proofs.lemmas.Bool.{and_from, ne_eqb, lt-ltb, ltb-true, ltb-false}
use Rattle.crl_model.specs.declared.name.Name.{Name}
use Rattle.crl_model.specs.declared.event.Event.{Event}
use Rattle.crl_model.specs.declared.call.CallKind.{CallKind}
use Rattle.crl_model.specs.declared.directory.Section.{Section}
use Rattle.crl_model.specs.declared.directory.Section.TheVariants.{Closed, Reading, Writing}
use Rattle.crl_model.specs.declared.blocked.Blocked.TheVariants as blocked
use Rattle.crl_protocol.specs.Remote.{is_closed}
use Rattle.crl_protocol.specs.Sections.{section_at}
use Rattle.crl_protocol.specs.Node.{Node, Awaited, Waiting, ForSection, ForMap, ForDelete, ForRound}
use Rattle.crl_protocol.specs.World.{World, new_world, world_of, pieces_in_boxes, IsRunFrom}
use Rattle.crl_protocol.specs.Ends.{holds_open, is_absent, by_holder, by_absent, blocked_while}
use Rattle.crl_deeds.proofs.Laws.{name_self}
use Rattle.crl_lifetime.specs.Lifetime.{waits_for_map, waits_for_delete}
use Rattle.crl_lifetime.proofs.Laws.{quiet_in_runs}
use Rattle.crl_regions.specs.Reached.{AfterRuns}
use Rattle.crl_regions.proofs.Laws.{count_in_run}
use Rattle.crl_rounds.specs.Standing.{RoundCall, round_awaited}
use Rattle.crl_rounds.proofs.Laws.{rounds_in_runs}
use Rattle.crl_stuck.specs.Stuck.{IsBlocked, WaitersAreBlocked, StopsStuck}
use Rattle.crl_stuck.proofs.Choices.{NoChoice, no_choice, waits_unfinished}
use Rattle.crl_stuck.proofs.Least.{least_is}
use Rattle.crl_stuck.proofs.Sections.{IsHeld, held}

-- the test of holders
closed_is : (s : Section) → is_closed s ≡ true → s ≡ Closed
closed_is Closed e = refl
closed_is (Reading count) e = cc
closed_is Writing e = cc

open_is : (s : Section) → s ≢ Closed → is_closed s ≡ false
open_is Closed h = absurd (h refl)
open_is (Reading count) h = refl
open_is Writing h = refl

tests : (i m : ℕ) (name : Name) (n : Node) → m ≢ i → section_at name n.sections ≢ Closed → holds_open i name m n ≡ true
tests i m name n other is_open = and_from _ _ (ap not (ne_eqb m i other)) (ap not (open_is (section_at name n.sections) is_open))

record Tested (i m : ℕ) (name : Name) (n : Node) : Type 0 where
  other : m ≢ i
  has_open : section_at name n.sections ≢ Closed

tested : (i m : ℕ) (name : Name) (n : Node) → holds_open i name m n ≡ true → Tested i m name n
tested i m name n e = record { other = λ same. grind arith; has_open = λ c. grind arith }

untested : (i m : ℕ) (name : Name) (n : Node) → holds_open i name m n ≡ false → m ≢ i → section_at name n.sections ≡ Closed
untested i m name n e other = go (section_at name n.sections) refl
  where
    go : (s : Section) → section_at name n.sections ≡ s → section_at name n.sections ≡ Closed
    go Closed x = x
    go (Reading count) x = let t = tests i m name n other (λ c. let y = sym x ∙ c in cc) in let u = sym t ∙ e in cc
    go Writing x = let t = tests i m name n other (λ c. let y = sym x ∙ c in cc) in let u = sym t ∙ e in cc

kept_out : (w : World) (i : ℕ) (name : Name) → (w.nodes i).activity ≡ Waiting (ForSection name) → IsHeld w i name → IsBlocked w i
kept_out w i name waits h =
    let least = least_is (holds_open i name) w h.holder h.node (tests i h.holder name (w.nodes h.holder) h.other h.has_open) in
    let it = tested i least.node name (w.nodes least.node) least.holds in
    let below = least.below in
    record {
      cause = blocked.Region i name least.node;
      named = ap (λ a. blocked_while i a w) waits ∙ ap (λ o. by_holder i name o) least.found;
      own = refl;
      stands = record {
        waits = waits;
        node = omega arith;
        other = it.other;
        has_open = it.has_open;
        least = λ m l other. untested i m name (w.nodes m) (least.lesser m (omega arith) l) other;
      };
    }

awaiting : (w : World) (i round : ℕ) (kind : CallKind) (m : ℕ) → (w.nodes i).activity ≡ Waiting (ForRound round kind) → m < w.count → (w.nodes m).rounds < round → IsBlocked w i
awaiting w i round kind m waits few late =
    let least = least_is (is_absent round) w m few (lt-ltb (w.nodes m).rounds round late) in
    let below = least.below in
    record {
      cause = blocked.Round i round least.node;
      named = ap (λ a. blocked_while i a w) waits ∙ ap (λ o. by_absent i round o) least.found;
      own = refl;
      stands = record {
        kind = kind;
        waits = waits;
        node = omega arith;
        not_come = ltb-true _ _ least.holds;
        least = λ n l. ltb-false _ _ (least.lesser n (omega arith) l);
      };
    }

absent_node : (count capacity : ℕ) (run : List Event) → IsRunFrom (new_world count capacity) run → pieces_in_boxes (world_of count capacity run) ≡ []
    → (i round : ℕ) (kind : CallKind) → i < (world_of count capacity run).count → ((world_of count capacity run).nodes i).activity ≡ Waiting (ForRound round kind) → IsBlocked (world_of count capacity run) i
absent_node count capacity run r quiet i round kind few waits =
    let w = world_of count capacity run in
    let all = rounds_in_runs count capacity run r in
    let call : RoundCall = record { round = round; kind = kind } in
    let found = all.absent quiet i call few (ap round_awaited waits) in
    let m = found.1 in
    let away = found.2 in
    let came = (all.stands m away.node).came in
    let behind = away.came in
    let same = found.0 in
    awaiting w i round kind m waits away.node (omega arith)

pub waiters : (count capacity : ℕ) (run : List Event) → IsRunFrom (new_world count capacity) run → pieces_in_boxes (world_of count capacity run) ≡ [] → WaitersAreBlocked (world_of count capacity run)
waiters count capacity run r quiet = record { blocked = λ i a few e. go i a few e; no_map = map_none; no_delete = delete_none }
  where
    w : World
    w = world_of count capacity run

    small : (i : ℕ) → i < w.count → i < count
    small i l = subst (λ k. i < k) (count_in_run count capacity run r) l

    map_none : (i : ℕ) (name : Name) (purged : Bool) → i < w.count → (w.nodes i).activity ≢ Waiting (ForMap name purged)
    map_none i name purged l e = let x = (quiet_in_runs count capacity run i name r (small i l) quiet).0 in let y = sym (name_self name) ∙ (sym (ap (waits_for_map name) e) ∙ x) in cc

    delete_none : (i : ℕ) (name : Name) → i < w.count → (w.nodes i).activity ≢ Waiting (ForDelete name)
    delete_none i name l e = let x = (quiet_in_runs count capacity run i name r (small i l) quiet).1 in let y = sym (name_self name) ∙ (sym (ap (waits_for_delete name) e) ∙ x) in cc

    go : (i : ℕ) (a : Awaited) → i < w.count → (w.nodes i).activity ≡ Waiting a → IsBlocked w i
    go i (ForSection name) l e = kept_out w i name e (held count capacity run r quiet i name e)
    go i (ForMap name purged) l e = absurd (map_none i name purged l e)
    go i (ForDelete name) l e = absurd (delete_none i name l e)
    go i (ForRound round kind) l e = absent_node count capacity run r quiet i round kind l e

pub ends_stuck : AfterRuns StopsStuck
ends_stuck count capacity run r end same none = record {
  truly = (left.boxes, λ i f few. let l = ltb-true i end.world.count few in let a = waits_unfinished end left i l f in let b = all.blocked i a.0 l a.1 in (b.cause, b.named));
  waits = waits_unfinished end left;
  waiters = all;
}
  where
    left : NoChoice end
    left = no_choice end none

    all : WaitersAreBlocked end.world
    all = subst WaitersAreBlocked (sym same) (waiters count capacity run r (subst (λ w. pieces_in_boxes w ≡ []) same left.boxes))
