-- The numbers of each region after a run.
use Rattle.std.proofs.Common.{◌≡◌, ℕ, ◌==◌, Bool, true, false, if◌then◌else◌, None, Some, Option, List, [], ◌∷◌, ◌++◌, refl, sym, subst}
use Rattle.crl_model.specs.declared.name.Name.{Name}
use Rattle.crl_model.specs.declared.event.Event.{Event}
use Rattle.crl_protocol.specs.Home.{Home}
use Rattle.crl_protocol.specs.World.{World, new_world, world_of, world_after, step, is_enabled, IsRunFrom}
use Rattle.crl_flight.specs.Flight.{Under, messages_of}
use Rattle.crl_regions.specs.Steps.{RegionsHold, RegionsStep}
use Rattle.crl_regions.specs.View.{table_of, view}
use Rattle.crl_regions.proofs.Laws.{regions_start, regions_step}
use Rattle.crl_framed.proofs.Regions.{RegionNumbered, goes_on_numbered, created_numbered}

pub record Reached (w : World) : Type 0 where
  pub arrays : Name → List ℕ
  pub under : List Under
  pub hold : RegionsHold w under arrays
  pub numbered : (q : Name) (h : Home) → table_of q w ≡ Some h → RegionNumbered (view q (arrays q) (messages_of under) w)

stepped : (w v : World) (x : Reached w) (after : Name → List ℕ) → RegionsStep w v x.under x.arrays after → Reached v
stepped w v x after s = record {
  arrays = after;
  under = s.under;
  hold = s.hold;
  numbered = λ q h there. go q h there (table_of q w) refl;
}
  where
    go : (q : Name) (h : Home) → table_of q v ≡ Some h → (o : Option Home) → table_of q w ≡ o → RegionNumbered (view q (after q) (messages_of s.under) v)
    go q h there None e = let made = s.go_on.made q h e there in subst RegionNumbered made.1 (created_numbered w.count made.0 (λ j. made.0))
    go q h there (Some g) e = goes_on_numbered q.home _ _ (s.go_on.goes_on q g e) (x.numbered q g e)

-- A run by its events so far.
pub last_world : (w : World) (es : List Event) (e : Event) → world_after w (es ++ e ∷ []) ≡ (step e (world_after w es)).world
last_world w [] e = refl
last_world w (x ∷ es) e = last_world (step x w).world es e

pub last_run : (w : World) (es : List Event) (e : Event) → IsRunFrom w es → is_enabled e (world_after w es) ≡ true → IsRunFrom w (es ++ e ∷ [])
last_run w [] e r may = (may, tt)
last_run w (x ∷ es) e r may = (r.0, last_run (step x w).world es e r.1 may)

reached_from : (count capacity : ℕ) (before after : List Event) → IsRunFrom (new_world count capacity) before → IsRunFrom (world_of count capacity before) after → Reached (world_of count capacity before)
    → Reached (world_after (world_of count capacity before) after)
reached_from count capacity before [] r s x = x
reached_from count capacity before (e ∷ after) r s x =
    let same = last_world (new_world count capacity) before e in
    subst (λ v. Reached (world_after v after)) same
    (reached_from count capacity (before ++ e ∷ []) after (last_run (new_world count capacity) before e r s.0) (subst (λ v. IsRunFrom v after) (sym same) s.1)
    (subst Reached (sym same) (stepped (world_of count capacity before) _ x _ (regions_step count capacity before r e s.0 x.under x.arrays x.hold))))

pub no_table : (count capacity : ℕ) (q : Name) (h : Home) → table_of q (new_world count capacity) ≡ Some h → ⊥
no_table count capacity q h e = go (q.home == q.home) (q.serial == 0) e
  where
    go : (mine first : Bool) → (if mine then (if first then None else None) else None) ≡ Some h → ⊥
    go true true e = cc
    go true false e = cc
    go false first e = cc

nothing_yet : (count capacity : ℕ) → Reached (new_world count capacity)
nothing_yet count capacity = record { arrays = λ q. []; under = []; hold = regions_start count capacity; numbered = λ q h there. absurd (no_table count capacity q h there) }

pub reached : (count capacity : ℕ) (run : List Event) → IsRunFrom (new_world count capacity) run → Reached (world_of count capacity run)
reached count capacity run r = reached_from count capacity [] run tt r (nothing_yet count capacity)
