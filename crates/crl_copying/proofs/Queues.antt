-- The home's own section opens by a service only if its ask is queued.
use Rattle.std.proofs.Common.{◌≡◌, ◌≢◌, refl, ℕ, zero, suc, ◌-◌, ◌==◌, ◌||◌, Bool, true, false, List, [], ◌∷◌, ◌++◌, arith, if◌then◌else◌}
use Rattle.std.specs.declared.option.Option.{Option}
use Rattle.std.specs.declared.option.Option.TheVariants.{Some, None}
use Rattle.crl_model.specs.declared.directory.Asked.{Asked}
use Rattle.crl_protocol.specs.Places.{at, put}
use Rattle.crl_protocol.specs.Home.{Home, HomeStep, serve, is_servable, with_marks, recalls_and_yields, open_own, grant_next, grant_for, posts_first, opens_own_section, home_takes_ask, home_takes_return, home_takes_release, bytes_after, is_to_lower, shared_listing}
use Rattle.crl_protocol.specs.Handlers.{is_queued, is_queued_in}
use Rattle.crl_protocol.specs.Node.{at_serial}
use Rattle.std.proofs.lemmas.Bool.{ne_eqb}

abbrev waits_on : Home → Asked → List Asked → HomeStep
waits_on h a q = record { home = record h { listed = with_marks 0 h.listed a; queue = a ∷ q }; posts = recalls_and_yields 0 h.listed a; opened = false }

by_service : (h : Home) (a : Asked) (q : List Asked) (mine queued s : Bool) (first rest : HomeStep) → (rest.opened ≡ true → queued ≡ true)
    → (if s then (if mine then opens_own_section first else posts_first (grant_for h a) rest) else waits_on h a q).opened ≡ true → (mine || queued) ≡ true
by_service h a q true queued s first rest ih e = refl
by_service h a q false queued true first rest ih e = ih e
by_service h a q false queued false first rest ih e = cc

pub opens_if_queued : (me : ℕ) (h : Home) (q : List Asked) → (serve me h q).opened ≡ true → is_queued me q ≡ true
opens_if_queued me h [] e = cc
opens_if_queued me h (a ∷ q) e =
    by_service h a q (a.node == me) (is_queued me q) (is_servable h a) (serve me (open_own h a) q) (serve me (grant_next h a) q) (opens_if_queued me (grant_next h a) q) e

by_newcomer : (me from : ℕ) (q : List Asked) (ask : Asked) → ask.node ≡ from → from ≢ me → is_queued me (q ++ ask ∷ []) ≡ true → is_queued me q ≡ true
by_newcomer me from [] ask is other e = rw (ne_eqb ask.node me (λ k. other (cc))) at e
by_newcomer me from (a ∷ q) ask is other e = or_behind (a.node == me) (is_queued me (q ++ ask ∷ [])) (is_queued me q) (by_newcomer me from q ask is other) e
  where
    or_behind : (b x y : Bool) → (x ≡ true → y ≡ true) → (b || x) ≡ true → (b || y) ≡ true
    or_behind true x y f h = refl
    or_behind false x y f h = f h

-- what each step asks
pub ask_opens : (me : ℕ) (ask : Asked) (h : Home) → ask.node ≢ me → (home_takes_ask me ask h).opened ≡ true → is_queued me h.queue ≡ true
unfolding home_takes_ask
ask_opens me ask h other e = by_newcomer me ask.node h.queue ask refl other (opens_if_queued me h (h.queue ++ ask ∷ []) e)

pub return_opens : (me from : ℕ) (bytes : Option (List ℕ)) (h : Home) → (home_takes_return me from bytes h).opened ≡ true → is_queued me h.queue ≡ true
unfolding home_takes_return
return_opens me from bytes h e = opens_if_queued me (record h { bytes = bytes_after bytes h.bytes; listed = put from None h.listed }) h.queue e

either_opens : (b : Bool) (queued : Bool) (x y : HomeStep) → (x.opened ≡ true → queued ≡ true) → y.opened ≡ false → (if b then x else y).opened ≡ true → queued ≡ true
either_opens true queued x y f g e = f e
either_opens false queued x y f g e = cc

pub release_opens : (me from version : ℕ) (bytes : List ℕ) (h : Home) → (home_takes_release me from version bytes h).opened ≡ true → is_queued me h.queue ≡ true
unfolding home_takes_release
release_opens me from version bytes h e =
    let lower : Home = record h { bytes = bytes; listed = put from (Some (shared_listing version)) h.listed } in
    either_opens (is_to_lower version (at from h.listed)) (is_queued me h.queue) (serve me lower h.queue) (record { home = h; posts = []; opened = false })
    (opens_if_queued me lower h.queue) refl e

-- an ask that waits at none of the homes waits not at this one
not_at : (from place : ℕ) (homes : List (Option Home)) (h : Home) → at place homes ≡ Some h → is_queued_in from homes ≡ false → is_queued from h.queue ≡ false
not_at from place [] h there none = cc
not_at from zero (None ∷ homes) h there none = cc
not_at from zero (Some g ∷ homes) h there none = grind arith
not_at from (suc place) (None ∷ homes) h there none = not_at from place homes h there none
not_at from (suc place) (Some g ∷ homes) h there none = not_at from place homes h there (or_rest (is_queued from g.queue) (is_queued_in from homes) none)
  where
    or_rest : (a b : Bool) → (a || b) ≡ false → b ≡ false
    or_rest true b e = cc
    or_rest false b e = e

of_serial : (b : Bool) (o : Option Home) (h : Home) → (if b then None else o) ≡ Some h → o ≡ Some h
of_serial true o h e = cc
of_serial false o h e = e

pub not_queued : (from serial : ℕ) (homes : List (Option Home)) (h : Home) → at_serial serial homes ≡ Some h → is_queued_in from homes ≡ false → is_queued from h.queue ≡ false
not_queued from serial homes h there none = not_at from (serial - 1) homes h (of_serial (serial == 0) (at (serial - 1) homes) h there) none
