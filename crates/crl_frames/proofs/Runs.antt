-- In every run whose calls bring bytes all that has bytes of a region has bytes.
use Rattle.std.proofs.Common.{◌≡◌, ℕ, Bool, true, false, None, Some, Option, List, [], ◌∷◌, ◌++◌, replicate, refl, sym, subst}
use Rattle.crl_model.specs.declared.name.Name.{Name}
use Rattle.crl_model.specs.declared.call.Call.{Call}
use Rattle.crl_model.specs.declared.call.Call.TheVariants as call
use Rattle.crl_model.specs.declared.call.Refusal.{Refusal}
use Rattle.crl_model.specs.declared.event.Event.{Event}
use Rattle.crl_model.specs.declared.event.Event.TheVariants as event
use Rattle.crl_model.specs.Names.{name_eq}
use Rattle.crl_protocol.specs.Home.{Home}
use Rattle.crl_protocol.specs.Node.{Node, next_name}
use Rattle.crl_protocol.specs.Verdict.{verdict}
use Rattle.crl_protocol.specs.World.{World, new_world, world_of, world_after, IsRunFrom}
use Rattle.crl_flight.specs.Flight.{Under, messages_of}
use Rattle.crl_regions.specs.Steps.{RegionsHold, RegionsStep}
use Rattle.crl_regions.specs.View.{table_of, view, left_if, left_in, left_by}
use Rattle.crl_regions.proofs.Laws.{regions_start, regions_step}
use Rattle.crl_framed.proofs.Laws.{last_world, last_run, no_table}
use Rattle.crl_frames.specs.Frames.{AreBytes, BringsTyped, BringTyped}
use Rattle.crl_frames.proofs.Copies.{news}
use Rattle.crl_frames.proofs.Folds.{Given}
use Rattle.crl_frames.proofs.Regions.{RegionBytes, goes_on_bytes, zeros, created_bytes}

-- What an event of a typed run brings.
abbrev pub EventTyped : Event → Type 0
EventTyped (event.Call i c) = BringsTyped c
EventTyped _ = Unit {0}

pub each_event : (e : Event) (es : List Event) → BringTyped (e ∷ es) → EventTyped e × BringTyped es
each_event (event.Call i c) es t = t
each_event (event.Collect i) es t = (tt, t)
each_event (event.Handle i place) es t = (tt, t)
each_event (event.Carry i place) es t = (tt, t)

-- What an event leaves in the array.
left_bytes : (b : Bool) (o : Option Refusal) (bytes : List ℕ) → AreBytes bytes → Given AreBytes (left_if b o bytes)
left_bytes true None bytes h = h
left_bytes true (Some why) bytes h = tt
left_bytes false o bytes h = tt

call_leaves : (q : Name) (n : Node) (o : Option Refusal) (c : Call) → BringsTyped c → Given AreBytes (left_in q n o c)
call_leaves q n o (call.Create size) t = left_bytes (name_eq (next_name n) q) o (replicate size 0) (zeros size)
call_leaves q n o (call.EndWrite name bytes) t = left_bytes (name_eq name q) o bytes t
call_leaves q n o _ t = tt

pub event_leaves : (q : Name) (e : Event) (w : World) → EventTyped e → Given AreBytes (left_by q e w)
event_leaves q (event.Call i c) w t = call_leaves q (w.nodes i) (verdict (w.nodes i) c) c t
event_leaves q _ w t = tt

-- what is known of a world
pub record Written (w : World) : Type 0 where
  pub arrays : Name → List ℕ
  pub under : List Under
  pub hold : RegionsHold w under arrays
  pub array : (q : Name) → AreBytes (arrays q)
  pub region : (q : Name) (h : Home) → table_of q w ≡ Some h → RegionBytes (view q (arrays q) (messages_of under) w)

stepped : (w v : World) (x : Written w) (after : Name → List ℕ) → ((q : Name) → AreBytes (after q)) → RegionsStep w v x.under x.arrays after → Written v
stepped w v x after array s = record {
  arrays = after;
  under = s.under;
  hold = s.hold;
  array = array;
  region = λ q h there. go q h there (table_of q w) refl;
}
  where
    go : (q : Name) (h : Home) → table_of q v ≡ Some h → (o : Option Home) → table_of q w ≡ o → RegionBytes (view q (after q) (messages_of s.under) v)
    go q h there None e = let made = s.go_on.made q h e there in subst RegionBytes made.1 (created_bytes w.count made.0 (λ j. made.0))
    go q h there (Some g) e = goes_on_bytes q.home _ _ (s.go_on.goes_on q g e) (array q) (x.region q g e)

written_from : (count capacity : ℕ) (before after : List Event) → IsRunFrom (new_world count capacity) before → IsRunFrom (world_of count capacity before) after → BringTyped after → Written (world_of count capacity before)
    → Written (world_after (world_of count capacity before) after)
written_from count capacity before [] r s t x = x
written_from count capacity before (e ∷ after) r s t x =
    let w = world_of count capacity before in
    let typed = each_event e after t in
    let same = last_world (new_world count capacity) before e in
    subst (λ v. Written (world_after v after)) same
    (written_from count capacity (before ++ e ∷ []) after (last_run (new_world count capacity) before e r s.0) (subst (λ v. IsRunFrom v after) (sym same) s.1) typed.1
    (subst Written (sym same) (stepped w _ x _ (λ q. news (left_by q e w) (x.arrays q) (event_leaves q e w typed.0) (x.array q)) (regions_step count capacity before r e s.0 x.under x.arrays x.hold))))

nothing_yet : (count capacity : ℕ) → Written (new_world count capacity)
nothing_yet count capacity =
    record { arrays = λ q. []; under = []; hold = regions_start count capacity; array = λ q. tt; region = λ q h there. absurd (no_table count capacity q h there) }

pub written : (count capacity : ℕ) (run : List Event) → IsRunFrom (new_world count capacity) run → BringTyped run → Written (world_of count capacity run)
written count capacity run r t = written_from count capacity [] run tt r t (nothing_yet count capacity)
