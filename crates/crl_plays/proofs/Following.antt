-- A run that follows the script so far, with the statements that each node has left and its drafts; and with one step more.
use Rattle.std.proofs.Common.{◌≡◌, ℕ, ◌<◌, ◌&&◌, ◌==◌, Bool, true, false, if◌then◌else◌, Option, Some, None, List, [], ◌∷◌, ◌++◌, refl, ap, sym, ◌∙◌, subst}
use Rattle.std.proofs.lemmas.Bool.{cond-true, eqb-true, eq-eqb}
use Rattle.crl_model.specs.declared.name.Name.{Name}
use Rattle.crl_model.specs.declared.call.Call.{Call}
use Rattle.crl_model.specs.declared.call.Call.TheVariants as call
use Rattle.crl_model.specs.declared.call.Refusal.{Refusal}
use Rattle.crl_model.specs.declared.event.Event.{Event}
use Rattle.crl_model.specs.declared.event.Event.TheVariants as event
use Rattle.crl_model.specs.declared.statement.Statement.{Statement}
use Rattle.crl_model.specs.Names.{at_node, at_name}
use Rattle.crl_model.specs.Patches.{put_at}
use Rattle.crl_protocol.specs.Node.{Node, Answer, Free}
use Rattle.crl_protocol.specs.Verdict.{verdict}
use Rattle.crl_protocol.specs.World.{World, step, is_enabled, world_of}
use Rattle.crl_protocol.specs.Chosen.{Actor, Running, running, call_of, call_with, draft_of, after_change, is_change, is_allowed, takes_guard, goes_on, with_actor, with_sum}
use Rattle.crl_deeds.specs.Laws.{IsNext, past_statement, next_call, node_of, is_call_event, Follows, ended, changes, calls, happens}
use Rattle.crl_deeds.proofs.Laws.{append_nil, follow_world, given_left}
use Rattle.crl_talk.specs.Script.{Drafts, drafts_given, Changes, puts, adds, IsPlain, CallsFor, plain, leaves, cant_leave, cant_change}
use Rattle.crl_plays.specs.Plays.{IsInWriting}
use Rattle.crl_talk.proofs.Laws.{drafts_same}

-- One step after another.
follow_more : {r mid end : Running} {es fs : List Event} → Follows r es mid → Follows mid fs end → Follows r (es ++ fs) end
follow_more ended g = g
follow_more (changes i s left h n inside f) g = changes i s left h n inside (follow_more f g)
follow_more (calls i s left h n out f) g = calls i s left h n out (follow_more f g)
follow_more (happens i e own quiet may f) g = happens i e own quiet may (follow_more f g)

-- A run of these events that follows the script, with what each node has left.
pub record Reached (count capacity : ℕ) (blocks : List (List Statement)) (history : List Event) (left : ℕ → List Statement) (drafts : ℕ → Drafts) : Type 0 where
  pub end : Running
  pub follows : Follows (running count capacity blocks) history end
  pub left_is : (j : ℕ) → j < count → (end.actors j).left ≡ left j
  pub drafts_are : (j : ℕ) → j < count → (end.actors j).drafts ≡ drafts j

-- the same with other words for it
pub reached_as : (count capacity : ℕ) (blocks : List (List Statement)) (history : List Event) (left other : ℕ → List Statement) (drafts others : ℕ → Drafts)
    → ((j : ℕ) → left j ≡ other j) → ((j : ℕ) → drafts j ≡ others j) → Reached count capacity blocks history left drafts → Reached count capacity blocks history other others
reached_as count capacity blocks history left other drafts others same alike r = record { end = r.end; follows = r.follows; left_is = λ j few. r.left_is j few ∙ same j; drafts_are = λ j few. r.drafts_are j few ∙ alike j }

-- A function with one value changed: at the place, once more there, and where the value is what it was.
pub here : {A : Type 0} (f : ℕ → A) (i : ℕ) (x : A) → at_node f i x i ≡ x
here f i x = cond-true (i == i) x (f i) (eq-eqb i i refl)

-- a field of actors, one of which is another
each_is : {A : Type 0} (g : Actor → A) (f : ℕ → Actor) (k : ℕ → A) (i : ℕ) (a : Actor) (x : A) (j : ℕ) → g a ≡ x → g (f j) ≡ k j → g (at_node f i a j) ≡ at_node k i x j
each_is g f k i a x j e h = go (i == j)
  where
    go : (b : Bool) → g (if b then a else f j) ≡ (if b then x else k j)
    go true = e
    go false = h

pub twice : {A : Type 0} (f : ℕ → A) (i : ℕ) (x y : A) (j : ℕ) → at_node (at_node f i x) i y j ≡ at_node f i y j
twice f i x y j = go (i == j)
  where
    go : (b : Bool) → (if b then y else if b then x else f j) ≡ (if b then y else f j)
    go true = refl
    go false = refl

pub itself : {A : Type 0} (f : ℕ → A) (i j : ℕ) → at_node f i (f i) j ≡ f j
itself f i j = go (i == j) refl
  where
    go : (b : Bool) → (i == j) ≡ b → (if b then f i else f j) ≡ f j
    go true e = ap f (eqb-true i j e)
    go false e = refl

-- The verdicts of two nodes on what a write section allows.
abbrev pub Agree : Node → Node → Type 0
Agree n m = (c : Call) → IsInWriting c → verdict n c ≡ None → verdict m c ≡ None

ended_so : (n m : Node) (a : Actor) (d : Drafts) (name : Name) (after : List ℕ) → Agree n m → a.drafts ≡ d → verdict n (call.EndWrite name after) ≡ None → call_with m a (call.EndWrite name after) ≡ call.EndWrite name (d name)
ended_so n m a d name after agree same e =
    ap (λ o. call.EndWrite name (draft_of o name a)) (agree (call.EndWrite name after) tt e) ∙ ap (λ (x : Drafts). call.EndWrite name (x name)) same

refused_so : (n m : Node) (a : Actor) (name : Name) (after : List ℕ) (why : Refusal) → Agree m n → verdict n (call.EndWrite name after) ≡ Some why → call_with m a (call.EndWrite name after) ≡ call.EndWrite name []
refused_so n m a name after why agree e = go (verdict m (call.EndWrite name after)) refl
  where
    go : (o : Option Refusal) → verdict m (call.EndWrite name after) ≡ o → call.EndWrite name (draft_of o name a) ≡ call.EndWrite name []
    go None k = (let there = agree (call.EndWrite name after) tt k in cc)
    go (Some x) k = refl

not_allowed : (n m : Node) (c : Call) (why : Refusal) → Agree m n → IsInWriting c → verdict n c ≡ Some why → is_allowed (verdict m c) ≡ false
not_allowed n m c why agree is e = go (verdict m c) refl
  where
    go : (o : Option Refusal) → verdict m c ≡ o → is_allowed o ≡ false
    go None k = (let there = agree c is k in cc)
    go (Some x) k = refl

plain_so : (m : Node) (a : Actor) (c : Call) → IsPlain c → call_with m a c ≡ c
plain_so m a (call.EndWrite name after) p = absurd p
plain_so m a (call.Create size) p = refl
plain_so m a (call.Delete name) p = refl
plain_so m a (call.Map name) p = refl
plain_so m a (call.Unmap name) p = refl
plain_so m a (call.StartRead name) p = refl
plain_so m a (call.EndRead name) p = refl
plain_so m a (call.StartWrite name) p = refl
plain_so m a (call.Put name offset len) p = refl
plain_so m a (call.Add name offset) p = refl
plain_so m a (call.Flush name) p = refl
plain_so m a (call.Come part) p = refl

-- The call of a statement, and a change: at a node that allows the same.
pub call_is : (n m : Node) (a : Actor) (d : Drafts) (s : Statement) (c : Call) → Agree n m → Agree m n → a.drafts ≡ d → CallsFor n d s c → (call_of m a s ≡ c) × ((is_change s && is_allowed (verdict m (call_of m a s))) ≡ false)
call_is n m a d s c agree back same (plain x p) = (plain_so m a x p, refl)
call_is n m a d s c agree back same (leaves name after e) = (ended_so n m a d name after agree same e, refl)
call_is n m a d s c agree back same (cant_leave name after why e) = (refused_so n m a name after why back e, refl)
call_is n m a d s c agree back same (cant_change why (puts name offset bytes) e) = (refl, not_allowed n m c why back tt e)
call_is n m a d s c agree back same (cant_change why (adds name offset number) e) = (refl, not_allowed n m c why back tt e)

pub change_is : (n m : Node) (a : Actor) (d after : Drafts) (s : Statement) (c : Call) → Agree n m → a.drafts ≡ d → Changes d s c after → verdict n c ≡ None
    → ((is_change s && is_allowed (verdict m (call_of m a s))) ≡ true) × ((after_change s a).drafts ≡ after) × ((after_change s a).left ≡ a.left)
change_is n m a d after s c agree same (puts name offset bytes) e = (ap is_allowed (agree c tt e), ap (λ (x : Drafts). at_name x name (put_at offset bytes (x name))) same, refl)
change_is n m a d after s c agree same (adds name offset number) e = (ap is_allowed (agree c tt e), ap (λ (x : Drafts). at_name x name (with_sum offset number (x name))) same, refl)

-- One step more.
module _ (count capacity : ℕ) (blocks : List (List Statement)) (history : List Event) (left : ℕ → List Statement) (drafts : ℕ → Drafts) (r : Reached count capacity blocks history left drafts) where
  abbrev world : World
  world = world_of count capacity history

  -- the world, which is that of the events
  there : r.end.world ≡ world
  there = follow_world r.follows

  node_there : (i : ℕ) → r.end.world.nodes i ≡ world.nodes i
  node_there i = ap (λ (w : World). w.nodes i) there

  counted : (i : ℕ) → world.count ≡ count → i < count → i < r.end.world.count
  counted i same few = subst (λ k. i < k) (sym (ap (λ (w : World). w.count) there ∙ same)) few

  next_is : (i : ℕ) (s : Statement) (rest : List Statement) → i < count → left i ≡ s ∷ rest → (world.nodes i).activity ≡ Free → IsNext r.end i s rest
  next_is i s rest few e free = (r.left_is i few ∙ e, ap (λ (n : Node). n.activity) (node_there i) ∙ free)

  pub changed : (i : ℕ) (n : Node) (s : Statement) (rest : List Statement) (c : Call) (after : Drafts) → world.count ≡ count → i < count → left i ≡ s ∷ rest → (world.nodes i).activity ≡ Free → Agree n (world.nodes i) → Changes (drafts i) s c after
      → verdict n c ≡ None → Reached count capacity blocks history (at_node left i rest) (at_node drafts i after)
  changed i n s rest c after same few e free agree change allowed =
      let a : Actor = record (r.end.actors i) { left = rest } in
      let k = change_is n (r.end.world.nodes i) (r.end.actors i) (drafts i) after s c (subst (λ m. Agree n m) (sym (node_there i)) agree) (r.drafts_are i few) change allowed in
      let b = change_is n (r.end.world.nodes i) a (drafts i) after s c (subst (λ m. Agree n m) (sym (node_there i)) agree) (r.drafts_are i few) change allowed in
      record {
        end = with_actor i (after_change s a) r.end;
        follows = subst (λ es. Follows (running count capacity blocks) es (with_actor i (after_change s a) r.end)) (append_nil history)
            (follow_more r.follows (changes i s rest (counted i same few) (next_is i s rest few e free) k.0 ended));
        left_is = λ j more. each_is (λ (x : Actor). x.left) r.end.actors left i (after_change s a) rest j b.2 (r.left_is j more);
        drafts_are = λ j more. each_is (λ (x : Actor). x.drafts) r.end.actors drafts i (after_change s a) after j b.1 (r.drafts_are j more);
      }

  pub called : (i : ℕ) (n : Node) (s : Statement) (rest : List Statement) (c : Call) → world.count ≡ count → i < count → left i ≡ s ∷ rest → (world.nodes i).activity ≡ Free → Agree n (world.nodes i) → Agree (world.nodes i) n → CallsFor n (drafts i) s c
      → Reached count capacity blocks (history ++ event.Call i c ∷ []) (at_node left i rest) (at_node drafts i (drafts_given (step (event.Call i c) world).answer (drafts i)))
  called i n s rest c same few e free agree back makes =
      let k = call_is n (r.end.world.nodes i) (r.end.actors i) (drafts i) s c (subst (λ m. Agree n m) (sym (node_there i)) agree) (subst (λ m. Agree m n) (sym (node_there i)) back) (r.drafts_are i few) makes in
      let a : Actor = record (r.end.actors i) { left = rest } in
      let x : Event = event.Call i (next_call r.end i s) in
      let p : ℕ → Actor = at_node r.end.actors i a in
      let answer : Answer = (step x r.end.world).answer in
      let is : x ≡ event.Call i c = ap (event.Call i) k.0 in
      let gives : answer ≡ (step (event.Call i c) world).answer = ap (λ y. (step y r.end.world).answer) is ∙ ap (λ w. (step (event.Call i c) w).answer) there in
      let mine : takes_guard answer (p i) ≡ takes_guard answer a = ap (takes_guard answer) (here r.end.actors i a) in
      record {
        end = goes_on i x (past_statement r.end i rest);
        follows = subst (λ y. Follows (running count capacity blocks) (history ++ y ∷ []) (goes_on i x (past_statement r.end i rest))) is
            (follow_more r.follows (calls i s rest (counted i same few) (next_is i s rest few e free) k.1 ended));
        left_is = λ j more. ap (λ (y : Actor). y.left) (twice r.end.actors i a (takes_guard answer (p i)) j)
            ∙ each_is (λ (y : Actor). y.left) r.end.actors left i (takes_guard answer (p i)) rest j (ap (λ (y : Actor). y.left) mine ∙ given_left answer a) (r.left_is j more);
        drafts_are = λ j more. ap (λ (y : Actor). y.drafts) (twice r.end.actors i a (takes_guard answer (p i)) j)
            ∙ each_is (λ (y : Actor). y.drafts) r.end.actors drafts i (takes_guard answer (p i)) _ j
            (ap (λ (y : Actor). y.drafts) mine ∙ drafts_same answer a ∙ ap (λ y. drafts_given y (r.end.actors i).drafts) gives ∙ ap (drafts_given (step (event.Call i c) world).answer) (r.drafts_are i few)) (r.drafts_are j more);
      }

  pub happened : (i : ℕ) (e : Event) → node_of e ≡ i → is_call_event e ≡ false → is_enabled e world ≡ true → i < count
      → Reached count capacity blocks (history ++ e ∷ []) left (at_node drafts i (drafts_given (step e world).answer (drafts i)))
  happened i e own quiet may few =
      let answer : Answer = (step e r.end.world).answer in
      let gives : answer ≡ (step e world).answer = ap (λ w. (step e w).answer) there in
      record {
        end = goes_on i e r.end;
        follows = follow_more r.follows (happens i e own quiet (subst (λ w. is_enabled e w ≡ true) (sym there) may) ended);
        left_is = λ j more. each_is (λ (y : Actor). y.left) r.end.actors left i (takes_guard answer (r.end.actors i)) (left i) j (given_left answer (r.end.actors i) ∙ r.left_is i few) (r.left_is j more)
            ∙ itself left i j;
        drafts_are = λ j more. each_is (λ (y : Actor). y.drafts) r.end.actors drafts i (takes_guard answer (r.end.actors i)) _ j
            (drafts_same answer (r.end.actors i) ∙ ap (λ y. drafts_given y (r.end.actors i).drafts) gives ∙ ap (drafts_given (step e world).answer) (r.drafts_are i few)) (r.drafts_are j more);
      }
