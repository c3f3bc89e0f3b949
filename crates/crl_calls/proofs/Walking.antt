-- What a pass appended itself, over several steps; and what one event at a node that is held for it adds.
use Rattle.std.proofs.Common.{◌≡◌, ℕ, zero, suc, ◌==◌, ◌≤◌, ◌^◌, ◌⊎◌, inl, inr, ⊎_elim, Bool, true, false, arith, List, [], ◌∷◌, ◌++◌, length, slice_get, Some, refl, sym, ap, ◌∙◌, subst, append_assoc, append-nil, le_refl, le_trans}
use Rattle.crl_model.specs.declared.event.Event.{Event}
use Rattle.crl_model.specs.declared.event.Event.TheVariants as event
use Rattle.crl_protocol.specs.Node.{Answer}
use Rattle.crl_protocol.specs.World.{World}
use Rattle.crl_turns.specs.declared.turned.Shape.{Shape}
use Rattle.crl_turns.specs.declared.view.Place.{Place}
use Rattle.crl_turns.specs.declared.view.Place.TheVariants.{Free, Drawn, Empty}
use Rattle.crl_turns.specs.declared.view.View.{View}
use Rattle.crl_turns.specs.Calls.{after_take, after_give_back}
use Rattle.crl_turns.specs.Plays.{after_load, after_try}
use Rattle.crl_turns.specs.Fronts.{Begins}
use Rattle.crl_turns.specs.Rule.{value_place, place_if}
use Rattle.crl_turns.proofs.Laws.{begins_same, begins_trans, begins_length}
use Rattle.crl_cluster.specs.declared.faults.StepFault.{StepFault}
use Rattle.crl_cluster.specs.declared.faults.StepFault.TheVariants as fault
use Rattle.crl_cluster.specs.declared.faults.TryFault.{TryFault}
use Rattle.crl_cluster.specs.declared.faults.TryFault.TheVariants.{Busy, Nothing, Step}
use Rattle.crl_cluster.specs.Acting.{Comes, IsDone, IsUndone}
use Rattle.crl_cluster.specs.Trying.{Alone, IsNotTried, IsCarried, IsUncarried, IsNotCarried}
use Rattle.crl_calls.specs.Trails.{AreAt, Walks, OwnsLast, Ends}

get_more : {A : Type 0} (xs ys : List A) (k : ℕ) (x : A) → slice_get xs k ≡ Some x → slice_get (xs ++ ys) k ≡ Some x
get_more [] ys k x e = cc
get_more (y ∷ xs) ys zero x e = e
get_more (y ∷ xs) ys (suc k) x e = get_more xs ys k x e

get_last : {A : Type 0} (xs : List A) (x : A) → slice_get (xs ++ x ∷ []) (length xs) ≡ Some x
get_last [] x = refl
get_last (y ∷ xs) x = get_last xs x

-- events stand where they stood when the front has grown
at_more : (front whole : List Event) (low first : ℕ) (ps : List ℕ) (es : List Event) → Begins front whole → low ≤ first → AreAt front first ps es → AreAt whole low ps es
at_more front whole low first [] [] b le is = tt
at_more front whole low first [] (e ∷ es) b le is = absurd is
at_more front whole low first (p ∷ ps) [] b le is = absurd is
at_more front whole low first (p ∷ ps) (e ∷ es) b le is =
    (le_trans le is.0, subst (λ l. slice_get l p ≡ Some e) b.1 (get_more front b.0 p e is.1), at_more front whole (suc p) (suc p) ps es b (le_refl (suc p)) is.2)

-- a position of an event is inside
get_inside : {A : Type 0} (xs : List A) (k : ℕ) (x : A) → slice_get xs k ≡ Some x → suc k ≤ length xs
get_inside [] k x e = cc
get_inside (y ∷ xs) zero x e = omega (arith)
get_inside (y ∷ xs) (suc k) x e = omega (arith, get_inside xs k x e)

-- events of a front, and then others behind it
at_both : (front whole : List Event) (first : ℕ) (ps qs : List ℕ) (es fs : List Event) → Begins front whole → first ≤ length front → AreAt front first ps es → AreAt whole (length front) qs fs
    → AreAt whole first (ps ++ qs) (es ++ fs)
at_both front whole first [] qs [] fs b le is then = at_more whole whole first (length front) qs fs (begins_same whole) le then
at_both front whole first [] qs (e ∷ es) fs b le is then = absurd is
at_both front whole first (p ∷ ps) qs [] fs b le is then = absurd is
at_both front whole first (p ∷ ps) qs (e ∷ es) fs b le is then =
    let more = subst (λ l. slice_get l p ≡ Some e) b.1 (get_more front b.0 p e is.1) in
    (is.0, more, at_both front whole (suc p) ps qs es fs b (get_inside front p e is.1) is.2 then)

pub walk_none : (v : View) → Walks v [] v
walk_none v = record { begins = begins_same v.front; gained = []; own = sym (append-nil v.own); each = tt; splits = refl; holds = λ part. inr refl }

pub walk_then : (a b c : View) (es fs : List Event) → Walks a es b → Walks b fs c → Walks a (es ++ fs) c
walk_then a b c es fs first second = record {
  begins = begins_trans a.front b.front c.front first.begins second.begins;
  gained = first.gained ++ second.gained;
  own = second.own ∙ ap (λ l. l ++ second.gained) first.own ∙ append_assoc a.own first.gained second.gained;
  each = at_both b.front c.front (length a.front) first.gained second.gained es fs second.begins (begins_length a.front b.front first.begins) first.each second.each;
  splits = second.splits ∙ first.splits;
  holds = λ part. ⊎_elim (λ free. inl free) (λ same. ⊎_elim (λ free. inl (same ∙ free)) (λ was. inr (same ∙ was)) (first.holds part)) (second.holds part);
}

-- A pass that has learnt of others' events, or tried a turn, has appended none itself.
pub walk_load : (old new : View) → Begins old.front new.front → new ≡ after_load new.front old → Walks old [] new
walk_load old new begins is = record {
  begins = begins;
  gained = [];
  own = ap (λ (v : View). v.own) is ∙ sym (append-nil old.own);
  each = tt;
  splits = ap (λ (v : View). v.splits) is;
  holds = λ part. inr (ap (λ (v : View). value_place part v.holds) is);
}

pub walk_same : (old new : View) → new ≡ old → Walks old [] new
walk_same old new is = subst (λ v. Walks old [] v) (sym is) (walk_none old)

pub walk_try : (part : ℕ) (old new : View) → new ≡ after_try part false old → Walks old [] new
walk_try part old new is = subst (λ v. Walks old [] v) (sym is)
    (record { begins = begins_same old.front; gained = []; own = sym (append-nil old.own); each = tt; splits = refl; holds = λ p. inr refl })

pub walk_event : (s : Shape) (e : Event) (old new : View) → Comes s e old new → Walks old (e ∷ []) new
walk_event s e old new came = record {
  begins = subst (λ l. Begins old.front l) (sym came.front) (begins_trans old.front came.before (came.before ++ e ∷ []) came.grows.begins (e ∷ [], refl));
  gained = length came.before ∷ [];
  own = ap (λ (v : View). v.own) came.view;
  each = (begins_length old.front came.before came.grows.begins, subst (λ l. slice_get l (length came.before) ≡ Some e) (sym came.front) (get_last came.before e), tt);
  splits = ap (λ (v : View). v.splits) came.view;
  holds = λ part. inr (ap (λ (v : View). value_place part v.holds) came.view);
}

pub last_event : (s : Shape) (e : Event) (old new : View) → Comes s e old new → OwnsLast new
last_event s e old new came = record { before = came.before; last = e; front_is = came.front; earlier = old.own; own_is = ap (λ (v : View). v.own) came.view }

-- giving a node back changes neither
pub last_around : (node : ℕ) (done new : View) → new ≡ after_give_back node done → OwnsLast done → OwnsLast new
last_around node done new gives last = record {
  before = last.before;
  last = last.last;
  front_is = ap (λ (v : View). v.front) gives ∙ last.front_is;
  earlier = last.earlier;
  own_is = ap (λ (v : View). v.own) gives ∙ last.own_is;
}

pub walk_undone : (s : Shape) (old new : View) (why : StepFault) → IsUndone s old why new → Walks old [] new
walk_undone s old new fault.OutOfMemory is = walk_same old new is
walk_undone s old new (fault.Moved saw found) is = walk_load old new is.grows.begins is.view
walk_undone s old new fault.Spent is = walk_load old new is.grows.begins is.view

-- A node is taken before and given back after: the pass holds no more than it did.
given : (b : Bool) (was is : Place) → (is ≡ Free) ⊎ (is ≡ place_if b Empty (place_if b Drawn was)) → (place_if b Free (place_if b Drawn is) ≡ Free) ⊎ (place_if b Free (place_if b Drawn is) ≡ was)
given true was is either = inl refl
given false was is either = either

pub walk_around : (s : Shape) (node : ℕ) (old held done new : View) (es : List Event) → Begins old.front held.front → held ≡ after_take node held.front old → Walks held es done
    → new ≡ after_give_back node done → Walks old es new
walk_around s node old held done new es begins takes walks gives = record {
  begins = subst (λ l. Begins old.front l) (sym (ap (λ (v : View). v.front) gives)) (begins_trans old.front held.front done.front begins walks.begins);
  gained = walks.gained;
  own = ap (λ (v : View). v.own) gives ∙ walks.own ∙ ap (λ (v : View). v.own ++ walks.gained) takes;
  each = at_more done.front new.front (length old.front) (length held.front) walks.gained es (subst (λ l. Begins done.front l) (sym (ap (λ (v : View). v.front) gives)) (begins_same done.front))
      (begins_length old.front held.front begins) walks.each;
  splits = ap (λ (v : View). v.splits) gives ∙ walks.splits ∙ ap (λ (v : View). v.splits) takes;
  holds = λ part.
      let is = ap (λ (v : View). value_place part v.holds) gives in
      let was : (value_place part done.holds ≡ Free) ⊎ (value_place part done.holds ≡ place_if (part == node) Empty (place_if (part == node) Drawn (value_place part old.holds)))
      = ⊎_elim (λ free. inl free) (λ same. inr (same ∙ ap (λ (v : View). value_place part v.holds) takes)) (walks.holds part) in
      ⊎_elim (λ free. inl (is ∙ free)) (λ same. inr (is ∙ same)) (given (part == node) (value_place part old.holds) (value_place part done.holds) was);
}

pub walk_alone : (s : Shape) (node : ℕ) (old new : View) (es : List Event) (Happens : View → View → Type 0) → ((held done : View) → Happens held done → Walks held es done)
    → Alone s node old new Happens → Walks old es new
walk_alone s node old new es Happens walks alone =
    walk_around s node old alone.held alone.done new es alone.grows.begins alone.takes (walks alone.held alone.done alone.happens) alone.gives

pub walk_untried : (s : Shape) (node : ℕ) (HasNothing : World → Type 0) (old new : View) (why : TryFault) → IsNotTried s node HasNothing old why new → Walks old [] new
walk_untried s node HasNothing old new (Busy out) is = walk_try node old new is.1
walk_untried s node HasNothing old new Nothing is = walk_alone s node old new [] _ (λ held done happens. walk_same held done happens.0) is
walk_untried s node HasNothing old new (Step why) is = walk_alone s node old new [] _ (λ held done happens. walk_undone s held done why happens) is

pub walk_handled : (s : Shape) (node place : ℕ) (old new : View) → Alone s node old new (Comes s (event.Handle node place)) → Walks old (event.Handle node place ∷ []) new
walk_handled s node place old new is = walk_alone s node old new _ _ (walk_event s (event.Handle node place)) is

pub walk_carried : (s : Shape) (node place : ℕ) (old new : View) → Alone s node old new (IsCarried s node place) → Walks old (event.Carry node place ∷ []) new
walk_carried s node place old new is =
    walk_alone s node old new _ _ (λ held done carried. walk_alone s _ held done _ _ (walk_event s (event.Carry node place)) carried) is

uncarried : (s : Shape) (i place : ℕ) (old new : View) (why : TryFault) → IsUncarried s i place old why new → Walks old [] new
uncarried s i place old new (Busy out) is = walk_try out old new is.1
uncarried s i place old new Nothing is = walk_same old new is.0
uncarried s i place old new (Step why) is = walk_alone s _ old new [] _ (λ held done happens. walk_undone s held done why happens) is

pub walk_uncarried : (s : Shape) (i place : ℕ) (old new : View) (why : TryFault) → IsNotCarried s i place old why new → Walks old [] new
walk_uncarried s i place old new (Busy out) is =
    ⊎_elim (λ (missed : (out ≡ i) × (new ≡ after_try i false old)). walk_try i old new missed.1) (λ alone. walk_alone s i old new [] _ (λ held done why. uncarried s i place held done (Busy out) why) alone) is
walk_uncarried s i place old new Nothing is = walk_alone s i old new [] _ (λ held done why. uncarried s i place held done Nothing why) is
walk_uncarried s i place old new (Step why) is = walk_alone s i old new [] _ (λ held done happens. uncarried s i place held done (Step why) happens) is

-- where no event fits any more, the front is full
pub full_alone : (s : Shape) (node : ℕ) (old new : View) (Happens : View → View → Type 0) → ((held done : View) → Happens held done → length done.front ≡ 2 ^ 62) → Alone s node old new Happens → length new.front ≡ 2 ^ 62
full_alone s node old new Happens full alone = ap (λ (v : View). length v.front) alone.gives ∙ full alone.held alone.done alone.happens

pub full_untried : (s : Shape) (node : ℕ) (HasNothing : World → Type 0) (old new : View) → IsNotTried s node HasNothing old (Step fault.Spent) new → length new.front ≡ 2 ^ 62
full_untried s node HasNothing old new is = full_alone s node old new _ (λ held done spent. spent.full) is

pub full_uncarried : (s : Shape) (i place : ℕ) (old new : View) → IsNotCarried s i place old (Step fault.Spent) new → length new.front ≡ 2 ^ 62
full_uncarried s i place old new is = full_alone s i old new _ (λ held done spent. full_alone s _ held done _ (λ one two is. is.full) spent) is

-- the front ends with the event of a node that was held for it
pub ends_alone : (s : Shape) (node : ℕ) (e : Event) (answer : Answer) (old new : View) → Alone s node old new (λ held done. IsDone s e held answer done) → Ends s e answer new.front
ends_alone s node e answer old new alone =
    let came = alone.happens.comes in
    record { before = came.before; front_is = ap (λ (v : View). v.front) alone.gives ∙ came.front; run = came.run; enabled = came.enabled; answer_is = alone.happens.answer_is }

pub last_alone : (s : Shape) (node : ℕ) (e : Event) (answer : Answer) (old new : View) → Alone s node old new (λ held done. IsDone s e held answer done) → OwnsLast new
last_alone s node e answer old new alone = last_around node alone.done new alone.gives (last_event s e alone.held alone.done alone.happens.comes)

pub walk_done : (s : Shape) (node : ℕ) (e : Event) (answer : Answer) (old new : View) → Alone s node old new (λ held done. IsDone s e held answer done) → Walks old (e ∷ []) new
walk_done s node e answer old new alone = walk_alone s node old new _ _ (λ held done is. walk_event s e held done is.comes) alone
