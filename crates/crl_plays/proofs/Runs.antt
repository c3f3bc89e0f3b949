-- A run whose nodes are all somewhere in their statements follows the script: by its events, from the start. Changes that a
-- node makes are put right behind the event before them of the node.
use Rattle.std.proofs.Common.{◌≡◌, ℕ, ◌<◌, ◌==◌, Bool, true, false, if◌then◌else◌, None, List, [], ◌∷◌, ◌++◌, refl, ap, sym, ◌∙◌, subst, arith}
use Rattle.std.proofs.Common.{append_assoc}
use Rattle.std.proofs.lemmas.Bool.{cond-true, cond-false, eqb-true, eq-eqb}
use Rattle.crl_model.specs.declared.call.Call.{Call}
use Rattle.crl_model.specs.declared.event.Event.{Event}
use Rattle.crl_model.specs.declared.event.Event.TheVariants as event
use Rattle.crl_model.specs.declared.statement.Statement.{Statement}
use Rattle.crl_model.specs.Names.{at_node}
use Rattle.crl_protocol.specs.Node.{Node, Answer, Done, Free}
use Rattle.crl_protocol.specs.Talk.{Heard, Called, Collected, hears_of, hears}
use Rattle.crl_protocol.specs.Verdict.{verdict}
use Rattle.crl_protocol.specs.World.{World, new_world, step, is_enabled, IsRun, world_of}
use Rattle.crl_protocol.specs.Chosen.{running, block_of}
use Rattle.crl_deeds.specs.Laws.{node_of, is_call_event, ended}
use Rattle.crl_deeds.proofs.Laws.{append_nil, run_count, collect_node, handle_node, carry_node, may_call, hears_grow}
use Rattle.crl_talk.specs.Script.{Drafts, no_drafts, drafts_given, Changes, puts, adds, CallsFor}
use Rattle.crl_plays.specs.Plays.{HasHeard, IsInWriting, Plays, begins, inside, calls, collects, AllPlay}
use Rattle.crl_plays.proofs.Allowed.{allowed_as_heard}
use Rattle.crl_plays.proofs.Following.{Agree, Reached, reached_as, here, itself, twice, changed, called, happened}
use Rattle.crl_plays.proofs.Heard.{has_heard, is_run_before, both_free}
use Rattle.crl_plays.proofs.Quiet.{handle_done, carry_done}

-- Changes that the node makes one after another, having heard this.
data Insides (i : ℕ) (heard : List Heard) (first : List Statement) (before : Drafts) : List Statement → Drafts → Type 0 where
  none : Insides i heard first before first before
  more : {left : List Statement} {d after : Drafts} (s : Statement) (c : Call) (n : Node) → HasHeard i heard n → n.activity ≡ Free → Changes d s c after → verdict n c ≡ None
      → Insides i heard first before (s ∷ left) d → Insides i heard first before left after

-- Where a node is in its statements, looked at from what it heard last.
record ByCall (i : ℕ) (block : List Statement) (front : List Heard) (c : Call) (answer : Answer) (left : List Statement) (d : Drafts) : Type 0 where
  first : List Statement
  before : Drafts
  statement : Statement
  node : Node
  has : HasHeard i front node
  makes : CallsFor node before statement c
  plays : Plays i block front (statement ∷ first) before
  behind : Insides i (front ++ Called c answer ∷ []) first (drafts_given answer before) left d

record ByAnswer (i : ℕ) (block : List Statement) (front : List Heard) (answer : Answer) (left : List Statement) (d : Drafts) : Type 0 where
  first : List Statement
  before : Drafts
  plays : Plays i block front first before
  behind : Insides i (front ++ Collected answer ∷ []) first (drafts_given answer before) left d

abbrev Last : ℕ → List Statement → List Heard → Heard → List Statement → Drafts → Type 0
Last i block front (Called c answer) left d = ByCall i block front c answer left d
Last i block front (Collected answer) left d = ByAnswer i block front answer left d

some_end : {A B : Type 0} (xs : List A) (x : A) → xs ++ x ∷ [] ≡ [] → B
some_end [] x e = cc
some_end (y ∷ xs) x e = cc

heads_same : {A : Type 0} (x y : A) (xs ys : List A) → x ∷ xs ≡ y ∷ ys → (x ≡ y) × (xs ≡ ys)
heads_same x y xs ys e = (cc, cc)

ends_same : {A : Type 0} (xs ys : List A) (x y : A) → xs ++ x ∷ [] ≡ ys ++ y ∷ [] → (xs ≡ ys) × (x ≡ y)
ends_same [] [] x y e = (refl, (heads_same x y [] [] e).0)
ends_same [] (b ∷ ys) x y e = some_end ys y (sym (heads_same x b [] _ e).1)
ends_same (a ∷ xs) [] x y e = some_end xs x (heads_same a y _ [] e).1
ends_same (a ∷ xs) (b ∷ ys) x y e =
    let parts = heads_same a b _ _ e in
    let rest = ends_same xs ys x y parts.1 in
    (ap (λ z. z ∷ xs) parts.0 ∙ ap (λ zs. b ∷ zs) rest.0, rest.1)

one_more : (i : ℕ) (block : List Statement) (front : List Heard) (h : Heard) (left : List Statement) (d after : Drafts) (s : Statement) (c : Call) (n : Node) → HasHeard i (front ++ h ∷ []) n → n.activity ≡ Free → Changes d s c after → verdict n c ≡ None
    → Last i block front h (s ∷ left) d → Last i block front h left after
one_more i block front (Called x answer) left d after s c n has free change allowed k =
    record { first = k.first; before = k.before; statement = k.statement; node = k.node; has = k.has; makes = k.makes; plays = k.plays; behind = more s c n has free change allowed k.behind }
one_more i block front (Collected answer) left d after s c n has free change allowed k = record { first = k.first; before = k.before; plays = k.plays; behind = more s c n has free change allowed k.behind }

last_of : (i : ℕ) (block : List Statement) {heard : List Heard} {left : List Statement} {d : Drafts} → Plays i block heard left d → (front : List Heard) (h : Heard) → heard ≡ front ++ h ∷ [] → Last i block front h left d
last_of i block begins front h e = some_end front h (sym e)
last_of i block (inside {left = left} {d = d} {after = after} s c n has free change allowed p) front h e =
    one_more i block front h left d after s c n (subst (λ hs. HasHeard i hs n) e has) free change allowed (last_of i block p front h e)
last_of i block (calls {heard = heard} {left = left} {d = d} s c answer n has makes p) front h e =
    let same = ends_same heard front (Called c answer) h e in
    subst (λ x. Last i block front x left (drafts_given answer d)) same.1
    (record { first = left; before = d; statement = s; node = n; has = subst (λ hs. HasHeard i hs n) same.0 has; makes = makes; plays = subst (λ hs. Plays i block hs (s ∷ left) d) same.0 p; behind = none })
last_of i block (collects {heard = heard} {left = left} {d = d} answer p) front h e =
    let same = ends_same heard front (Collected answer) h e in
    subst (λ x. Last i block front x left (drafts_given answer d)) same.1 (record { first = left; before = d; plays = subst (λ hs. Plays i block hs left d) same.0 p; behind = none })

-- A node that has heard nothing allows no change: it is at its first statement.
new_refuses : {A : Type 0} (count capacity i : ℕ) (d after : Drafts) (s : Statement) (c : Call) → Changes d s c after → verdict ((new_world count capacity).nodes i) c ≡ None → A
unfolding verdict
new_refuses count capacity i d after s c (puts name offset bytes) e = cc
new_refuses count capacity i d after s c (adds name offset number) e = cc

is_change_call : (d after : Drafts) (s : Statement) (c : Call) → Changes d s c after → IsInWriting c
is_change_call d after s c (puts name offset bytes) = tt
is_change_call d after s c (adds name offset number) = tt

first_of : (i : ℕ) (block : List Statement) {heard : List Heard} {left : List Statement} {d : Drafts} → Plays i block heard left d → heard ≡ [] → (block ≡ left) × (no_drafts ≡ d)
first_of i block begins e = (refl, refl)
first_of i block (inside {d = d} {after = after} s c n has free change allowed p) e =
    let h = subst (λ hs. HasHeard i hs n) e has in
    new_refuses h.count h.capacity i d after s c change (allowed_as_heard i [] n ((new_world h.count h.capacity).nodes i) c h (has_heard h.count h.capacity [] i (record { enabled = tt; limit = omega arith }) h.within) free (is_change_call d after s c change) allowed)
first_of i block (calls {heard = heard} s c answer n has makes p) e = some_end heard (Called c answer) e
first_of i block (collects {heard = heard} answer p) e = some_end heard (Collected answer) e

-- A node of the run, and one that heard the same.
module _ (count capacity : ℕ) (blocks : List (List Statement)) (history : List Event) (r : IsRun count capacity history) where
  abbrev world : World
  world = world_of count capacity history

  abbrev told : ℕ → List Heard
  told i = hears i (new_world count capacity) history

  counted : world.count ≡ count
  counted = run_count (new_world count capacity) history r.enabled

  agrees : (i : ℕ) (n : Node) → i < count → HasHeard i (told i) n → n.activity ≡ Free → Agree n (world.nodes i)
  agrees i n few h free c is e = allowed_as_heard i (told i) n (world.nodes i) c h (has_heard count capacity history i r few) free is e

  agrees_back : (i : ℕ) (n : Node) → i < count → HasHeard i (told i) n → (world.nodes i).activity ≡ Free → Agree (world.nodes i) n
  agrees_back i n few h free c is e = allowed_as_heard i (told i) (world.nodes i) n c (has_heard count capacity history i r few) h free is e

  node_free : (i : ℕ) (n : Node) → i < count → HasHeard i (told i) n → n.activity ≡ Free → (world.nodes i).activity ≡ Free
  node_free i n few h free = both_free i (told i) n (world.nodes i) h (has_heard count capacity history i r few) free

  -- changes of node i
  all_changed : (i : ℕ) (left : ℕ → List Statement) (drafts : ℕ → Drafts) (first : List Statement) (before : Drafts) → i < count → Reached count capacity blocks history (at_node left i first) (at_node drafts i before)
      → {ss : List Statement} {d : Drafts} → Insides i (told i) first before ss d → Reached count capacity blocks history (at_node left i ss) (at_node drafts i d)
  all_changed i left drafts first before few reached none = reached
  all_changed i left drafts first before few reached (more {left = ss} {d = d} {after = after} s c n h free change allowed rest) =
      reached_as count capacity blocks history _ (at_node left i ss) _ (at_node drafts i after) (λ j. twice left i (s ∷ ss) ss j) (λ j. twice drafts i d after j)
      (changed count capacity blocks history (at_node left i (s ∷ ss)) (at_node drafts i d) (all_changed i left drafts first before few reached rest) i n s ss c after counted few (here left i (s ∷ ss))
      (node_free i n few h free) (agrees i n few h free) (subst (λ (x : Drafts). Changes x s c after) (sym (here drafts i d)) change) allowed)

-- One event more.

abbrev Follow : ℕ → ℕ → List (List Statement) → List Event → Type 0
Follow count capacity blocks history = IsRun count capacity history → (left : ℕ → List Statement) (drafts : ℕ → Drafts) → AllPlay count capacity blocks history left drafts → Reached count capacity blocks history left drafts

module _ (count capacity : ℕ) (blocks : List (List Statement)) (history : List Event) (e : Event) (before : Follow count capacity blocks history) (r : IsRun count capacity (history ++ e ∷ []))
    (left : ℕ → List Statement) (drafts : ℕ → Drafts) (all : AllPlay count capacity blocks (history ++ e ∷ []) left drafts) where
  abbrev start : World
  start = new_world count capacity

  abbrev now : World
  now = world_of count capacity history

  abbrev answer : Answer
  answer = (step e now).answer

  was : IsRun count capacity history
  was = (is_run_before count capacity history e r).0

  may : is_enabled e now ≡ true
  may = (is_run_before count capacity history e r).1

  within : (i : ℕ) → i < now.count → i < count
  within i few = subst (λ k. i < k) (counted count capacity blocks history was) few

  told_then : (j : ℕ) → hears j start (history ++ e ∷ []) ≡ hears j start history ++ hears_of j e answer
  told_then j = hears_grow j start history e

  -- a node that hears nothing is where it was
  stays : (j : ℕ) → j < count → hears_of j e answer ≡ [] → Plays j (block_of blocks j) (hears j start history) (left j) (drafts j)
  stays j few quiet = subst (λ hs. Plays j (block_of blocks j) hs (left j) (drafts j)) (told_then j ∙ ap (λ hs. hears j start history ++ hs) quiet ∙ append_nil (hears j start history)) (all j few)

  last : (i : ℕ) (h : Heard) → i < count → hears_of i e answer ≡ h ∷ [] → Last i (block_of blocks i) (hears i start history) h (left i) (drafts i)
  last i h few is = last_of i (block_of blocks i) (subst (λ hs. Plays i (block_of blocks i) hs (left i) (drafts i)) (told_then i ∙ ap (λ hs. hears i start history ++ hs) is) (all i few)) (hears i start history) h refl

  -- all nodes before the event of node i
  all_before : (i : ℕ) (ss : List Statement) (d : Drafts) → ((j : ℕ) → (i == j) ≡ false → hears_of j e answer ≡ []) → Plays i (block_of blocks i) (hears i start history) ss d
      → AllPlay count capacity blocks history (at_node left i ss) (at_node drafts i d)
  all_before i ss d quiet p j few = go (i == j) refl
    where
      go : (b : Bool) → (i == j) ≡ b → Plays j (block_of blocks j) (hears j start history) (if b then ss else left j) (if b then d else drafts j)
      go true same = subst (λ k. Plays k (block_of blocks k) (hears k start history) ss d) (eqb-true i j same) p
      go false other = stays j few (quiet j other)

  -- and after it, with the changes behind it
  all_after : (i : ℕ) (h : Heard) (first : List Statement) (d : Drafts) → i < count → hears_of i e answer ≡ h ∷ [] → Insides i (hears i start history ++ h ∷ []) first d (left i) (drafts i)
      → Reached count capacity blocks (history ++ e ∷ []) (at_node left i first) (at_node drafts i d) → Reached count capacity blocks (history ++ e ∷ []) left drafts
  all_after i h first d few is q reached =
      reached_as count capacity blocks (history ++ e ∷ []) (at_node left i (left i)) left (at_node drafts i (drafts i)) drafts (itself left i) (itself drafts i)
      (all_changed count capacity blocks (history ++ e ∷ []) r i left drafts first d few reached
      (subst (λ hs. Insides i hs first d (left i) (drafts i)) (sym (told_then i ∙ ap (λ hs. hears i start history ++ hs) is)) q))

  -- a call
  after_call : (i : ℕ) (c : Call) → e ≡ event.Call i c → ((j : ℕ) → (i == j) ≡ false → hears_of j e answer ≡ []) → hears_of i e answer ≡ Called c answer ∷ [] → i < count → (now.nodes i).activity ≡ Free
      → ByCall i (block_of blocks i) (hears i start history) c answer (left i) (drafts i) → Reached count capacity blocks (history ++ e ∷ []) left drafts
  after_call i c is quiet heard few free k =
      let first = k.first in
      let d = k.before in
      let s = k.statement in
      let n = k.node in
      let n_free = both_free i (hears i start history) (now.nodes i) n (has_heard count capacity history i was few) k.has free in
      let reached = before was (at_node left i (s ∷ first)) (at_node drafts i d) (all_before i (s ∷ first) d quiet k.plays) in
      let so = called count capacity blocks history (at_node left i (s ∷ first)) (at_node drafts i d) reached i n s first c (counted count capacity blocks history was) few (here left i (s ∷ first)) free
      (agrees count capacity blocks history was i n few k.has n_free) (agrees_back count capacity blocks history was i n few k.has free) (subst (λ (x : Drafts). CallsFor n x s c) (sym (here drafts i d)) k.makes) in
      let given : Drafts = drafts_given (step (event.Call i c) now).answer (at_node drafts i d i) in
      let gives : given ≡ drafts_given answer d = ap (λ x. drafts_given (step x now).answer (at_node drafts i d i)) (sym is) ∙ ap (drafts_given answer) (here drafts i d) in
      all_after i (Called c answer) first (drafts_given answer d) few heard k.behind
      (reached_as count capacity blocks (history ++ e ∷ []) _ (at_node left i first) _ (at_node drafts i (drafts_given answer d)) (λ j. twice left i (s ∷ first) first j)
      (λ j. twice drafts i d _ j ∙ ap (λ x. at_node drafts i x j) gives) (subst (λ x. Reached count capacity blocks (history ++ x ∷ []) (at_node (at_node left i (s ∷ first)) i first) (at_node (at_node drafts i d) i given)) (sym is) so))

  -- an answer that is taken
  after_answer : (i : ℕ) → node_of e ≡ i → is_call_event e ≡ false → ((j : ℕ) → (i == j) ≡ false → hears_of j e answer ≡ []) → hears_of i e answer ≡ Collected answer ∷ [] → i < count
      → ByAnswer i (block_of blocks i) (hears i start history) answer (left i) (drafts i) → Reached count capacity blocks (history ++ e ∷ []) left drafts
  after_answer i own calm quiet heard few k =
      let first = k.first in
      let d = k.before in
      let reached = before was (at_node left i first) (at_node drafts i d) (all_before i first d quiet k.plays) in
      let so = happened count capacity blocks history (at_node left i first) (at_node drafts i d) reached i e own calm may few in
      all_after i (Collected answer) first (drafts_given answer d) few heard k.behind
      (reached_as count capacity blocks (history ++ e ∷ []) _ (at_node left i first) _ (at_node drafts i (drafts_given answer d)) (λ j. refl)
      (λ j. twice drafts i d _ j ∙ ap (λ x. at_node drafts i (drafts_given answer x) j) (here drafts i d)) so)

  -- a message
  after_message : (i : ℕ) → node_of e ≡ i → is_call_event e ≡ false → ((j : ℕ) → hears_of j e answer ≡ []) → answer ≡ Done → i < count → Reached count capacity blocks (history ++ e ∷ []) left drafts
  after_message i own calm quiet done few =
      reached_as count capacity blocks (history ++ e ∷ []) left left _ drafts (λ j. refl) (λ j. ap (λ x. at_node drafts i (drafts_given x (drafts i)) j) done ∙ itself drafts i j)
      (happened count capacity blocks history left drafts (before was left drafts (λ j less. stays j less (quiet j))) i e own calm may few)

one_event : (count capacity : ℕ) (blocks : List (List Statement)) (history : List Event) (e : Event) → Follow count capacity blocks history → Follow count capacity blocks (history ++ e ∷ [])
one_event count capacity blocks history (event.Call i c) before r left drafts all =
    let e = event.Call i c in
    let can = may_call i c (world_of count capacity history) (may count capacity blocks history e before r left drafts all) in
    let few = within count capacity blocks history e before r left drafts all i can.0 in
    let heard = cond-true (i == i) _ _ (eq-eqb i i refl) in
    after_call count capacity blocks history e before r left drafts all i c refl (λ j other. cond-false (i == j) _ _ other) heard few can.1 (last count capacity blocks history e before r left drafts all i _ few heard)
one_event count capacity blocks history (event.Collect i) before r left drafts all =
    let e = event.Collect i in
    let few = within count capacity blocks history e before r left drafts all i (collect_node i _ (may count capacity blocks history e before r left drafts all)) in
    let heard = cond-true (i == i) _ _ (eq-eqb i i refl) in
    after_answer count capacity blocks history e before r left drafts all i refl refl (λ j other. cond-false (i == j) _ _ other) heard few (last count capacity blocks history e before r left drafts all i _ few heard)
one_event count capacity blocks history (event.Handle i place) before r left drafts all =
    let e = event.Handle i place in
    let few = within count capacity blocks history e before r left drafts all i (handle_node i place _ (may count capacity blocks history e before r left drafts all)) in
    after_message count capacity blocks history e before r left drafts all i refl refl (λ j. refl) (handle_done _ i place) few
one_event count capacity blocks history (event.Carry i place) before r left drafts all =
    let e = event.Carry i place in
    let few = within count capacity blocks history e before r left drafts all i (carry_node i place _ (may count capacity blocks history e before r left drafts all)) in
    after_message count capacity blocks history e before r left drafts all i refl refl (λ j. refl) (carry_done _ i place) few

no_event : (count capacity : ℕ) (blocks : List (List Statement)) → Follow count capacity blocks []
no_event count capacity blocks r left drafts all = record {
  end = running count capacity blocks;
  follows = ended;
  left_is = λ j few. (first_of j (block_of blocks j) (all j few) refl).0;
  drafts_are = λ j few. (first_of j (block_of blocks j) (all j few) refl).1;
}

from_here : (P : List Event → Type 0) → ((xs : List Event) (x : Event) → P xs → P (xs ++ x ∷ [])) → (front xs : List Event) → P front → P (front ++ xs)
from_here P next front [] h = subst P (sym (append_nil front)) h
from_here P next front (x ∷ xs) h = subst P (append_assoc front (x ∷ []) xs) (from_here P next (front ++ x ∷ []) xs (next front x h))

pub plays_follow : (count capacity : ℕ) (blocks : List (List Statement)) (history : List Event) (left : ℕ → List Statement) (drafts : ℕ → Drafts) → IsRun count capacity history → AllPlay count capacity blocks history left drafts
    → Reached count capacity blocks history left drafts
plays_follow count capacity blocks history left drafts r all =
    from_here (Follow count capacity blocks) (one_event count capacity blocks) [] history (no_event count capacity blocks) r left drafts all
