-- The entries of creates, maps, unmaps and deletes are legal.
use Rattle.std.proofs.Common.{◌≡◌, ℕ, ◌+◌, ◌^◌, ◌<◌, ◌≤◌, ◌==◌, ◌||◌, Bool, true, false, None, Some, Option, [], ◌∷◌, length, if◌then◌else◌, refl, ap, sym, ◌∙◌, subst, arith, IsTrue}
use Rattle.std.proofs.Math.Logic.{inl}
use Rattle.std.proofs.lemmas.Bool.{cond-true, eqb-true, eqb-false, eq-eqb}
use Rattle.crl_model.specs.declared.name.Name.{Name}
use Rattle.crl_model.specs.declared.stage.Stage.{Stage}
use Rattle.crl_model.specs.declared.stage.Stage.TheVariants as stage
use Rattle.crl_model.specs.declared.call.CallKind.{CallKind}
use Rattle.crl_model.specs.declared.call.CallKind.TheVariants as word
use Rattle.crl_model.specs.declared.call.Refusal.{Refusal}
use Rattle.crl_model.specs.declared.call.Refusal.TheVariants as refusal
use Rattle.crl_model.specs.declared.entry.Place.TheVariants.{Region}
use Rattle.crl_model.specs.declared.entry.What.TheVariants as what
use Rattle.crl_model.specs.declared.message.Told.{Told}
use Rattle.crl_model.specs.declared.message.DeleteTold.{DeleteTold}
use Rattle.crl_model.specs.Calls.{asks_the_home}
use Rattle.crl_model.specs.Names.{name_eq, at_name}
use Rattle.crl_model.specs.Stages.{is_there, is_deleted}
use Rattle.crl_machine.specs.SingleMachine.{State, IsFree, IsRefusedAt, IsLegal, IsHistory}
use Rattle.crl_protocol.specs.Home.{Home}
use Rattle.crl_protocol.specs.Remote.{is_closed}
use Rattle.crl_protocol.specs.Lifetimes.{Mapping, cached_size}
use Rattle.crl_protocol.specs.Sections.{section_at}
use Rattle.crl_protocol.specs.Node.{Node, Outcome, Free, COUNT_LIMIT, serials_used, next_name, is_mine, home_of, lifetime_of, map_count, entry_of}
use Rattle.crl_protocol.specs.Calls.{size_of}
use Rattle.crl_protocol.specs.Verdict.{of_create, else_if, refuse_if}
use Rattle.crl_deeds.specs.Counts.{Counts, GoingFew}
use Rattle.crl_deeds.specs.Deeds.{FreeIf, Cause, Unfit, Lives}
use Rattle.crl_deeds.specs.Deeds as deed
use Rattle.crl_deeds.specs.NodeFacts.{LiveFits}
use Rattle.crl_deeds.proofs.Laws.{create_fits, here_if, name_self}
use Rattle.crl_lifetime.specs.Lifetime.{is_sound, is_some_size}
use Rattle.crl_history.proofs.Events.{NodeKnown}
use Rattle.crl_history.proofs.Serials.{SaysUsed}
use Rattle.crl_history.proofs.SectionEntries.{free_now, maps_now, closed_now}
use Rattle.crl_history.proofs.Seen.{Sees, Asks, CauseFits}

-- A create.
pub one_more : (u : ℕ) (n : Node) → SaysUsed u n → (serials_used n == COUNT_LIMIT) ≡ false → u + 1 < 2 ^ 32
one_more u n h e = let ne = eqb-false (serials_used n) COUNT_LIMIT e in let a = h.is in let b = h.most in grind arith

bad_size : (why : Refusal) (b c : Bool) → c ≡ false → else_if (refuse_if b refusal.BadSize) (refuse_if c refusal.NamesSpent) ≡ Some why → refusal.BadSize ≡ why
bad_size why true c few e = cc
bad_size why false true few e = cc
bad_size why false false few e = cc

made_legal : (s : State) (n : Node) (size : ℕ) → of_create n size ≡ None → Sees s n → n.activity ≡ Free → IsLegal s (entry_of n.me (what.Create (next_name n) size))
made_legal s n size e h free = let fits = create_fits n size e in (h.few, (free_now s n h free, refl, ap (λ x. x + 1) (sym h.used.is), one_more _ n h.used fits.2, fits.0, fits.1))

used_up_legal : (s : State) (n : Node) (size : ℕ) (why : Refusal) → of_create n size ≡ Some why → (serials_used n == COUNT_LIMIT) ≡ false → Sees s n → n.activity ≡ Free → IsLegal s (entry_of n.me (what.Refused word.Create (Region (next_name n)) why))
used_up_legal s n size why e few h free =
    subst (λ x. IsLegal s (entry_of n.me (what.Refused word.Create (Region (next_name n)) x))) (bad_size why _ _ few e)
    (h.few, (free_now s n h free, (refl, refl, inl (one_more _ n h.used few, ap (λ x. x + 1) (sym h.used.is)))))

-- A map at the call.
map_legal : (s : State) (me : ℕ) (name : Name) (size : ℕ) → me < s.nodes → IsFree s me → is_there (s.stage name) ≡ true → size ≡ length (s.bytes name) → s.maps me name + 1 < 2 ^ 32 → IsLegal s (entry_of me (what.Map name size))
map_legal s me name size few free there e below = (few, (free, there, e, below))

map_room : (m : Mapping) (u : ℕ) → u ≡ m.count → m.count < 2 ^ 32 → (m.count == COUNT_LIMIT) ≡ false → u + 1 < 2 ^ 32
map_room m u e few f = let ne = eqb-false m.count COUNT_LIMIT f in grind arith

count_few : (mine : Bool) (o : Option Mapping) (m : Mapping) → o ≡ Some m → Counts mine o → m.count < 2 ^ 32
count_few mine None m e h = cc
count_few mine (Some k) m e h = (subst (λ (o : Option Mapping). Counts mine o) e h).1

live_there : (s : State) (name : Name) → s.stage name ≡ stage.Live → is_there (s.stage name) ≡ true
live_there s name e = ap is_there e

more_there : (s : State) (n : Node) (name : Name) (m : Mapping) → Sees s n → n.maps name ≡ Some m → (is_mine n name ≡ true → (lifetime_of n name).stage ≡ stage.Live) → (is_mine n name ≡ false → m.doomed ≡ false) → is_there (s.stage name) ≡ true
more_there s n name m h e mine other = go (is_mine n name) refl
  where
    go : (b : Bool) → is_mine n name ≡ b → is_there (s.stage name) ≡ true
    go true w = live_there s name (h.stages name w ∙ mine w)
    go false w = h.sound name w (ap (λ o. is_sound o || is_some_size (cached_size name n.cache)) e ∙ ap (λ b. (if b then false else true) || is_some_size (cached_size name n.cache)) (other w))

own_size : (s : State) (n : Node) (name : Name) (o : Option Home) → home_of n name ≡ o → LiveFits stage.Live o → Sees s n → size_of o ≡ length (s.bytes name)
own_size s n name None e live h = absurd live
own_size s n name (Some x) e live h = h.table name x e

live_size : (s : State) (j : ℕ) (n : Node) (name : Name) → is_mine n name ≡ true → (lifetime_of n name).stage ≡ stage.Live → NodeKnown j n → Sees s n → size_of (home_of n name) ≡ length (s.bytes name)
live_size s j n name mine live known h = own_size s n name _ refl (subst (λ x. LiveFits x (home_of n name)) live (here_if j n name mine known.fits).live) h

or_true : (b c : Bool) → c ≡ true → (b || c) ≡ true
or_true true c e = refl
or_true false c e = e

-- An unmap.
unmap_legal : (s : State) (n : Node) (name : Name) (m : Mapping) → n.maps name ≡ Some m → 1 ≤ m.count → is_closed (section_at name n.sections) ≡ true → Sees s n → n.activity ≡ Free → IsLegal s (entry_of n.me (what.Unmap name))
unmap_legal s n name m e some closed h free =
    (h.few, (free_now s n h free, subst (λ x. 1 ≤ x) (sym (maps_now s n name h free ∙ ap map_count e)) some, closed_now s n name h closed))

one_is : (count : ℕ) → (count == 1) ≡ true → 1 ≤ count
one_is count e = let x = eqb-true count 1 e in omega arith

some_is : (count : ℕ) → (count == 0) ≡ false → 1 ≤ count
some_is count e = let x = eqb-false count 0 e in grind arith

-- A delete.
going_here : (s : State) (from : ℕ) (name : Name) → at_name s.stage name (stage.Going from) name ≡ stage.Going from
going_here s from name = cond-true (name_eq name name) (stage.Going from) (s.stage name) (name_self name)

deletes_at_once : (s : State) (from : ℕ) (name : Name) → from < s.nodes → IsFree s from → s.stage name ≡ stage.Live → IsHistory s (entry_of from (what.Deleting name) ∷ entry_of from (what.Deleted name) ∷ [])
deletes_at_once s from name few free live = ((few, (free, live)), ((few, going_here s from name), tt))

-- A map and a delete that the home refuses.
pub unfit_legal : (s : State) (from : ℕ) (kind : CallKind) (name : Name) (x : Stage) (why : Refusal) (t : Told) (d : DeleteTold) → Unfit x why t d → s.stage name ≡ x → IsTrue (asks_the_home kind) → IsRefusedAt s from why kind name
unfit_legal s from kind name x why t d deed.never e asks = (asks, e)
unfit_legal s from kind name x why t d (deed.going deleter) e asks = (asks, ap is_deleted e)
unfit_legal s from kind name x why t d deed.gone e asks = (asks, ap is_deleted e)

pub mine_by : (n : Node) (name : Name) → name.home ≡ n.me → is_mine n name ≡ true
mine_by n name e = eq-eqb name.home n.me e

refused_legal : (s : State) (n : Node) (from : ℕ) (kind : CallKind) (name : Name) (why : Refusal) (t : Told) (d : DeleteTold) → Unfit (lifetime_of n name).stage why t d → IsTrue (asks_the_home kind) → Asks s from n.me name → Sees s n → IsLegal s (entry_of from (what.Refused kind (Region name) why))
refused_legal s n from kind name why t d unfit asks from_fits h = (from_fits.few, (from_fits.free, unfit_legal s from kind name _ why t d unfit (h.stages name (mine_by n name from_fits.home)) asks))

going_few : (count : ℕ) (x : Stage) (deleter : ℕ) → x ≡ stage.Going deleter → GoingFew count x → deleter < count
going_few count x deleter e h = subst (λ y. GoingFew count y) e h

pub lives_legal : (s : State) (j : ℕ) (n : Node) (cause : Cause) (o : Outcome) → Lives n cause o → NodeKnown j n → FreeIf cause n → CauseFits s n cause → Sees s n → IsHistory s o.entries
lives_legal s j n cause o (deed.made size e) known free fits h = (made_legal s n size e h free, tt)
lives_legal s j n cause o (deed.used_up size why e few) known free fits h = (used_up_legal s n size why e few h free, tt)
lives_legal s j n cause o (deed.maps_more name m e few mine other) known free fits h = (
  map_legal s n.me name m.size h.few (free_now s n h free) (more_there s n name m h e mine other) (h.mapped name m e)
      (map_room m _ (maps_now s n name h free ∙ ap map_count e) (count_few _ _ m e (h.counts name)) few),
  tt,
)
lives_legal s j n cause o (deed.maps_own name e mine live) known free fits h =
    let none = maps_now s n name h free ∙ ap map_count e in
    (map_legal s n.me name _ h.few (free_now s n h free) (live_there s name (h.stages name mine ∙ live)) (live_size s j n name mine live known h) (omega arith), tt)
lives_legal s j n cause o (deed.maps_cached name size e apart c) known free fits h =
    let none = maps_now s n name h free ∙ ap map_count e in
    (map_legal s n.me name size h.few (free_now s n h free) (h.sound name apart (or_true _ _ (ap is_some_size c))) (h.cached name size apart c) (omega arith), tt)
lives_legal s j n cause o (deed.map_told from name mine live) known free fits h =
    let asks = fits.0 in let none = fits.1 in
    (map_legal s from name _ asks.few asks.free (live_there s name (h.stages name mine ∙ live)) (live_size s j n name mine live known h) (omega arith), tt)
lives_legal s j n cause o (deed.map_refused from name why t d unfit) known free fits h = (refused_legal s n from word.Map name why t d unfit refl fits.0 h, tt)
lives_legal s j n cause o (deed.unmaps_one name m e some more closed) known free fits h = (unmap_legal s n name m e (some_is _ some) closed h free, tt)
lives_legal s j n cause o (deed.unmaps_own name m e one mine closed) known free fits h = (unmap_legal s n name m e (one_is _ one) closed h free, tt)
lives_legal s j n cause o (deed.unmaps_doomed name m e one mine doomed closed) known free fits h = (unmap_legal s n name m e (one_is _ one) closed h free, tt)
lives_legal s j n cause o (deed.unmaps_keeping name m e one mine doomed closed c) known free fits h = (unmap_legal s n name m e (one_is _ one) closed h free, tt)
lives_legal s j n cause o (deed.unmaps_evicting name m old e one mine doomed closed c) known free fits h = (unmap_legal s n name m e (one_is _ one) closed h free, tt)
lives_legal s j n cause o (deed.deletes_alone name mine live e) known free fits h = deletes_at_once s n.me name h.few (free_now s n h free) (h.stages name mine ∙ live)
lives_legal s j n cause o (deed.deletes_own name m ms mine live e) known free fits h = ((h.few, (free_now s n h free, h.stages name mine ∙ live)), tt)
lives_legal s j n cause o (deed.deletes_alone_for from name mine live e) known free fits h = deletes_at_once s from name fits.few fits.free (h.stages name mine ∙ live)
lives_legal s j n cause o (deed.deletes_for from name m ms mine live e) known free fits h = ((fits.few, (fits.free, h.stages name mine ∙ live)), tt)
lives_legal s j n cause o (deed.delete_refused from name why t d unfit) known free fits h = (refused_legal s n from word.Delete name why t d unfit refl fits h, tt)
lives_legal s j n cause o (deed.ends_own from name mine e missing last) known free fits h = ((h.few, h.stages name mine ∙ e), tt)
lives_legal s j n cause o (deed.ends_for from name deleter mine e other missing last) known free fits h = ((going_few s.nodes _ deleter e (h.deleters name), h.stages name mine ∙ e), tt)
lives_legal s j n cause o _ known free fits h = tt
