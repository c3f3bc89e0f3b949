-- What a deed that is no call of node n does for its talk: which lines of n it records, whom it tells, and how long n waits.
use Rattle.std.proofs.Common.{◌≡◌, ℕ, ◌+◌, ◌==◌, Bool, true, false, List, [], ◌∷◌, if◌then◌else◌, refl, ap, sym, ◌∙◌, arith}
use Rattle.std.proofs.lemmas.Bool.{cond-true, cond-false, eqb-true, eq-eqb}
use Rattle.crl_model.specs.declared.name.Name.{Name}
use Rattle.crl_model.specs.declared.stage.Stage.{Stage}
use Rattle.crl_model.specs.declared.stage.Stage.TheVariants as stage
use Rattle.crl_model.specs.declared.call.Call.{Call}
use Rattle.crl_model.specs.declared.call.CallKind.{CallKind}
use Rattle.crl_model.specs.declared.call.CallKind.TheVariants as word
use Rattle.crl_model.specs.declared.call.Refusal.{Refusal}
use Rattle.crl_model.specs.declared.call.Refusal.TheVariants as refusal
use Rattle.crl_model.specs.declared.collective.Fold.{Fold}
use Rattle.crl_model.specs.declared.entry.Place.TheVariants.{Region}
use Rattle.crl_model.specs.declared.entry.What.{What}
use Rattle.crl_model.specs.declared.entry.What.TheVariants as what
use Rattle.crl_model.specs.declared.message.Told.{Told}
use Rattle.crl_model.specs.declared.message.Told.TheVariants as told
use Rattle.crl_model.specs.declared.message.DeleteTold.{DeleteTold}
use Rattle.crl_model.specs.declared.message.DeleteTold.TheVariants as delete_told
use Rattle.crl_model.specs.declared.message.Kind.{Kind}
use Rattle.crl_model.specs.declared.message.Kind.TheVariants as kind
use Rattle.crl_model.specs.FoldOf.{fold_of}
use Rattle.crl_model.specs.Names.{name_eq, at_node}
use Rattle.crl_protocol.specs.Home.{Home, HomeStep}
use Rattle.crl_protocol.specs.Remote.{Remote, RemoteStep, asks_to_write}
use Rattle.crl_protocol.specs.Lifetimes.{Lifetime, new_lifetime, no_lifetime}
use Rattle.crl_protocol.specs.Sections.{Guard, is_writing}
use Rattle.crl_protocol.specs.Node.{Node, Answer, Mapped, Done, Refused, Activity, Free, Waiting, Ready, ForSection, ForMap, ForDelete, ForRound, Outcome, guard_answer, is_mine, home_of, lifetime_of, with_lifetime, serials_used, message_to, entry_of}
use Rattle.crl_protocol.specs.Calls.{size_of, answer_of, result_of, creates}
use Rattle.crl_protocol.specs.Handlers.{delete_answer, purges_waiting}
use Rattle.crl_protocol.specs.Talk.{lines_of_node}
use Rattle.crl_deeds.specs.Counts.{NoneYet}
use Rattle.crl_deeds.specs.Deeds.{Cause, Calls, Hears, Unfit, Serves, CallsBack, Copies, Lives, Rounds, Notes, Idles, Deed}
use Rattle.crl_deeds.specs.NodeFacts.{IsAway, Fits}
use Rattle.crl_deeds.proofs.Laws.{same_name, name_self, lifetime_put, going_own, own_waits, grant_waits}
use Rattle.crl_deeds.specs.Deeds as deed
use Rattle.crl_talk.proofs.Asking.{AskedAs, granted_as, served_own_as}

-- The lines that an answer of the home stands for, and the answer that a node takes from it.
abbrev pub map_lines : Name → Told → List What
map_lines name (told.Live size) = what.Map name size ∷ []
map_lines name told.Unknown = what.Refused word.Map (Region name) refusal.Unknown ∷ []
map_lines name told.Deleted = what.Refused word.Map (Region name) refusal.Deleted ∷ []

abbrev pub map_answer : Name → Told → Answer
map_answer name (told.Live size) = Mapped name size
map_answer name told.Unknown = Refused refusal.Unknown
map_answer name told.Deleted = Refused refusal.Deleted

abbrev pub delete_lines : Name → DeleteTold → List What
delete_lines name delete_told.Done = what.Deleting name ∷ what.Deleted name ∷ []
delete_lines name delete_told.Unknown = what.Refused word.Delete (Region name) refusal.Unknown ∷ []
delete_lines name delete_told.Deleted = what.Refused word.Delete (Region name) refusal.Deleted ∷ []

abbrev pub start_line : Bool → Name → What
start_line write name = if write then what.StartWrite name else what.StartRead name

-- a delete of node n goes on as it did
abbrev pub KeepsGoing : ℕ → Node → Node → Type 0
KeepsGoing n m k = (q : Name) → (lifetime_of m q).stage ≡ stage.Going n → (lifetime_of k q).stage ≡ stage.Going n

-- an activity that lasts; a wait for a map may take note of a purge
pub data Lasts : Activity → Activity → Type 0 where
  same : {a : Activity} → Lasts a a
  marked : {q : Name} {x y : Bool} → Lasts (Waiting (ForMap q x)) (Waiting (ForMap q y))

-- a message that isn't the ask of node n, nor the answer for which it waits
abbrev pub QuietFor : ℕ → Node → Cause → Type 0
QuietFor n m (Hears from (kind.InfoAsk name)) = from ≡ n → ⊥
QuietFor n m (Hears from (kind.DeleteAsk name)) = from ≡ n → ⊥
QuietFor n m (Hears from (kind.InfoIs name t)) = m.me ≡ n → (purged : Bool) → m.activity ≡ Waiting (ForMap name purged) → ⊥
QuietFor n m (Hears from (kind.DeleteIs name d)) = m.me ≡ n → m.activity ≡ Waiting (ForDelete name) → ⊥
QuietFor n m _ = Unit {0}

abbrev LinesAre : ℕ → Outcome → List What → Type 0
LinesAre n o lines = lines_of_node n o.entries ≡ lines

abbrev Stays : ℕ → Node → Outcome → Type 0
Stays n m o = m.me ≡ n → Lasts m.activity o.node.activity

pub data Effect (n : ℕ) (m : Node) : Cause → Outcome → Type 0 where
  quiet : {cause : Cause} {o : Outcome} → LinesAre n o [] → KeepsGoing n m o.node → Stays n m o → QuietFor n m cause → Effect n m cause o
  -- the home tells node n
  tells_map : {o : Outcome} (from : ℕ) (name : Name) (t : Told) → from ≡ n → LinesAre n o (map_lines name t) → o.posts ≡ message_to m n (kind.InfoIs name t) ∷ [] → Stays n m o → Effect n m (Hears from (kind.InfoAsk name)) o
  tells_delete : {o : Outcome} (from : ℕ) (name : Name) (d : DeleteTold) → from ≡ n → LinesAre n o (delete_lines name d) → o.posts ≡ message_to m n (kind.DeleteIs name d) ∷ [] → Stays n m o → Effect n m (Hears from (kind.DeleteAsk name)) o
  begins : {o : Outcome} (from : ℕ) (name : Name) → from ≡ n → LinesAre n o (what.Deleting name ∷ []) → is_mine m name ≡ true → (lifetime_of o.node name).stage ≡ stage.Going n → Stays n m o → Effect n m (Hears from (kind.DeleteAsk name)) o
  ends : {o : Outcome} (from : ℕ) (name : Name) → LinesAre n o (what.Deleted name ∷ []) → is_mine m name ≡ true → (lifetime_of m name).stage ≡ stage.Going n → o.posts ≡ message_to m n (kind.DeleteIs name delete_told.Done) ∷ [] → Stays n m o
      → Effect n m (Hears from (kind.Purged name)) o
  -- node n itself becomes ready
  opens : {cause : Cause} {o : Outcome} (write : Bool) (name : Name) (guard : Guard) → m.me ≡ n → m.activity ≡ Waiting (ForSection name) → ((flag : Bool) → AskedAs flag name m → write ≡ flag) → guard.name ≡ name
      → o.node.activity ≡ Ready (guard_answer write guard) → LinesAre n o (start_line write name ∷ []) → Effect n m cause o
  gets_map : {o : Outcome} (from : ℕ) (name : Name) (t : Told) (purged : Bool) → m.me ≡ n → m.activity ≡ Waiting (ForMap name purged) → LinesAre n o [] → o.node.activity ≡ Ready (map_answer name t) → Effect n m (Hears from (kind.InfoIs name t)) o
  gets_delete : {o : Outcome} (from : ℕ) (name : Name) (d : DeleteTold) → m.me ≡ n → m.activity ≡ Waiting (ForDelete name) → LinesAre n o [] → o.node.activity ≡ Ready (delete_answer d) → Effect n m (Hears from (kind.DeleteIs name d)) o
  ends_own : {o : Outcome} (from : ℕ) (name : Name) → m.me ≡ n → is_mine m name ≡ true → (lifetime_of m name).stage ≡ stage.Going n → m.activity ≡ Waiting (ForDelete name) → LinesAre n o (what.Deleted name ∷ []) → o.node.activity ≡ Ready Done
      → Effect n m (Hears from (kind.Purged name)) o
  gets_round : {cause : Cause} {o : Outcome} (round : ℕ) (k : CallKind) (fold : Fold) → m.me ≡ n → m.activity ≡ Waiting (ForRound round k) → LinesAre n o (result_of round k fold ∷ []) → o.node.activity ≡ Ready (answer_of round fold) → Effect n m cause o

-- Lines, and stages.
other_line : (n from : ℕ) (w : What) → (from == n) ≡ false → lines_of_node n (entry_of from w ∷ []) ≡ []
other_line n from w e = cond-false (from == n) _ _ e

pub own_line : (n from : ℕ) (w : What) → (from == n) ≡ true → lines_of_node n (entry_of from w ∷ []) ≡ w ∷ []
own_line n from w e = cond-true (from == n) _ _ e

other_two : (n from : ℕ) (w x : What) → (from == n) ≡ false → lines_of_node n (entry_of from w ∷ entry_of from x ∷ []) ≡ []
other_two n from w x e = cond-false (from == n) _ _ e ∙ cond-false (from == n) _ _ e

pub own_two : (n from : ℕ) (w x : What) → (from == n) ≡ true → lines_of_node n (entry_of from w ∷ entry_of from x ∷ []) ≡ w ∷ x ∷ []
own_two n from w x e = cond-true (from == n) _ _ e ∙ ap (λ ls. w ∷ ls) (cond-true (from == n) _ _ e)

not_it : {A : Type 0} (a b : ℕ) → (a == b) ≡ false → a ≡ b → A
not_it {A = A} a b e s = let w = eq-eqb a b s in cc

stage_put : (n : ℕ) (m : Node) (name : Name) (l : Lifetime) → is_mine m name ≡ true → ((lifetime_of m name).stage ≡ stage.Going n → l.stage ≡ stage.Going n) → KeepsGoing n m (with_lifetime name l m)
stage_put n m name l mine h q e = ap (λ (x : Lifetime). x.stage) (lifetime_put m name l mine q) ∙ go (name_eq name q) refl
  where
    go : (b : Bool) → name_eq name q ≡ b → (if b then l else lifetime_of m q).stage ≡ stage.Going n
    go true w = h (ap (λ p. (lifetime_of m p).stage) (same_name name q w) ∙ e)
    go false w = e

pub stage_here : (n : ℕ) (m : Node) (name : Name) (l : Lifetime) → is_mine m name ≡ true → l.stage ≡ stage.Going n → (lifetime_of (with_lifetime name l m) name).stage ≡ stage.Going n
stage_here n m name l mine e = ap (λ (x : Lifetime). x.stage) (lifetime_put m name l mine name) ∙ ap (λ (x : Lifetime). x.stage) (cond-true (name_eq name name) l (lifetime_of m name) (name_self name)) ∙ e

stage_made : (n : ℕ) (m : Node) (size : ℕ) → NoneYet m → KeepsGoing n m (creates size m).node
stage_made n m size none q = go (is_mine m q)
  where
    inner : (b : Bool) → (serials_used m + 1 == q.serial) ≡ b → (m.lifetimes q.serial).stage ≡ stage.Going n → (if b then new_lifetime else m.lifetimes q.serial).stage ≡ stage.Going n
    inner true w e = let k = none q.serial (let s = eqb-true (serials_used m + 1) q.serial w in omega arith) in cc
    inner false w e = e

    go : (b : Bool) → (if b then m.lifetimes q.serial else no_lifetime).stage ≡ stage.Going n → (if b then at_node m.lifetimes (serials_used m + 1) new_lifetime q.serial else no_lifetime).stage ≡ stage.Going n
    go true e = inner (serials_used m + 1 == q.serial) refl e
    go false e = e

going_same : (a b : ℕ) → stage.Going a ≡ stage.Going b → a ≡ b
going_same a b e = cc

-- A call of another node.
copies_calls : (n : ℕ) (m : Node) (c : Call) (o : Outcome) → Copies m (Calls c) o → (m.me == n) ≡ false → (lines_of_node n o.entries ≡ []) × KeepsGoing n m o.node
copies_calls n m c o (deed.home_opens x write name h is e can y) w = (other_line n m.me _ w, λ q g. g)
copies_calls n m c o (deed.side_opens x write name r is e g can y) w = (other_line n m.me _ w, λ q g. g)
copies_calls n m c o (deed.home_waits x write name h is e can y) w = (refl, λ q g. g)
copies_calls n m c o (deed.side_waits x write name r is e g can y) w = (refl, λ q g. g)
copies_calls n m c o (deed.home_ends x name y finish lowers h is e) w = (other_line n m.me _ w, λ q g. g)
copies_calls n m c o (deed.side_ends x name y finish lowers r is e g) w = (other_line n m.me _ w, λ q g. g)
copies_calls n m c o (deed.side_flushes name r other e can) w = (other_line n m.me _ w, λ q g. g)

lives_calls : (n : ℕ) (m : Node) (c : Call) (o : Outcome) → Lives m (Calls c) o → NoneYet m → (m.me == n) ≡ false → (lines_of_node n o.entries ≡ []) × KeepsGoing n m o.node
lives_calls n m c o (deed.made size e) none w = (other_line n m.me _ w, stage_made n m size none)
lives_calls n m c o (deed.map_asks name e other x real) none w = (refl, λ q g. g)
lives_calls n m c o (deed.delete_asks name other real) none w = (refl, λ q g. g)
lives_calls n m c o (deed.deletes_alone name mine live e) none w = (other_two n m.me _ _ w, stage_put n m name _ mine (λ g. cc))
lives_calls n m c o (deed.deletes_own name x xs mine live e) none w = (other_line n m.me _ w, stage_put n m name _ mine (λ g. cc))
lives_calls n m c o _ none w = (other_line n m.me _ w, λ q g. g)

rounds_calls : (n : ℕ) (m : Node) (c : Call) (o : Outcome) → Rounds m (Calls c) o → (m.me == n) ≡ false → (lines_of_node n o.entries ≡ []) × KeepsGoing n m o.node
rounds_calls n m c o (deed.comes_last part parts first fits all) w = (other_two n m.me _ _ w, λ q g. g)
rounds_calls n m c o _ w = (other_line n m.me _ w, λ q g. g)

notes_calls : (n : ℕ) (m : Node) (c : Call) (x : What) (k : Node) → Notes m c x k → KeepsGoing n m k
notes_calls n m c x k (deed.flushes_own name mine can) = λ q g. g
notes_calls n m c x k _ = λ q g. g

pub other_calls : (n : ℕ) (m : Node) (c : Call) (o : Outcome) → Deed m (Calls c) o → NoneYet m → (m.me == n) ≡ false → (lines_of_node n o.entries ≡ []) × KeepsGoing n m o.node
other_calls n m c o (deed.copies d) none w = copies_calls n m c o d w
other_calls n m c o (deed.lives d) none w = lives_calls n m c o d none w
other_calls n m c o (deed.rounds d) none w = rounds_calls n m c o d w
other_calls n m c o (deed.notes d) none w = (other_line n m.me _ w, notes_calls n m c _ _ d)
other_calls n m c o (deed.refuses x why v) none w = (other_line n m.me _ w, λ q g. g)
other_calls n m c o (deed.idles h) none w = (refl, λ q g. g)

-- A message: of copies.
serves_quiet : (n : ℕ) (m : Node) (h : Home) (from : ℕ) (k : Kind) (name : Name) (s : HomeStep) → Serves m h from k name s → QuietFor n m (Hears from k)
serves_quiet n m h from k name s (deed.ask_comes f q write have free) = tt
serves_quiet n m h from k name s (deed.copy_returns f q version bytes fits) = tt
serves_quiet n m h from k name s (deed.copy_lowers f q version bytes fits) = tt

called_quiet : (n : ℕ) (m : Node) (r : Remote) (from : ℕ) (k : Kind) (name : Name) (s : RemoteStep) → CallsBack r k name s → QuietFor n m (Hears from k)
called_quiet n m r from k name s (deed.wholly q version) = tt
called_quiet n m r from k name s (deed.to_share q version) = tt

copies_effect : (n j : ℕ) (m : Node) (from : ℕ) (k : Kind) (o : Outcome) → Copies m (Hears from k) o → Fits j m → IsAway from m.me k → (b : Bool) → (m.me == n) ≡ b → Effect n m (Hears from k) o
copies_effect n j m from k o (deed.home_serves f x name h s is e y) fits away b w = quiet refl (λ q g. g) (λ e. same) (serves_quiet n m h from k name s is)
copies_effect n j m from k o (deed.side_called f x name r s is e) fits away b w = quiet refl (λ q g. g) (λ e. same) (called_quiet n m r from k name s is)
copies_effect n j m from k o (deed.home_serves_own f x name h s is e y) fits away true w =
    opens (is_writing s.home.mine) name _ (eqb-true m.me n w) (own_waits j m h from k name s is e y away fits) (λ flag a. served_own_as m h from k name s flag is e y away a) refl refl (own_line n m.me _ w)
copies_effect n j m from k o (deed.home_serves_own f x name h s is e y) fits away false w = quiet (other_line n m.me _ w) (λ q g. g) (λ e. not_it m.me n w e) (serves_quiet n m h from k name s is)
copies_effect n j m from k o (deed.grant_comes f name version granted r e t) fits away true w =
    opens (asks_to_write r.asking) name _ (eqb-true m.me n w) (grant_waits j m name granted r e t fits) (λ flag a. granted_as m name granted r flag e t a) refl refl (own_line n m.me _ w)
copies_effect n j m from k o (deed.grant_comes f name version granted r e t) fits away false w = quiet (other_line n m.me _ w) (λ q g. g) (λ e. not_it m.me n w e) tt

-- Of maps.
unfit_map : (name : Name) (s : Stage) (why : Refusal) (t : Told) (d : DeleteTold) → Unfit s why t d → (map_lines name t ≡ what.Refused word.Map (Region name) why ∷ []) × (map_answer name t ≡ Refused why)
unfit_map name s why t d deed.never = (refl, refl)
unfit_map name s why t d (deed.going x) = (refl, refl)
unfit_map name s why t d deed.gone = (refl, refl)

unfit_delete : (name : Name) (s : Stage) (why : Refusal) (t : Told) (d : DeleteTold) → Unfit s why t d → delete_lines name d ≡ what.Refused word.Delete (Region name) why ∷ []
unfit_delete name s why t d deed.never = refl
unfit_delete name s why t d (deed.going x) = refl
unfit_delete name s why t d deed.gone = refl

warned : (name : Name) (a : Activity) → Lasts a (purges_waiting name a)
warned name (Waiting (ForMap p purged)) = marked
warned name (Waiting (ForSection p)) = same
warned name (Waiting (ForDelete p)) = same
warned name (Waiting (ForRound r c)) = same
warned name Free = same
warned name (Ready answer) = same

lives_effect : (n j : ℕ) (m : Node) (from : ℕ) (k : Kind) (o : Outcome) → Lives m (Hears from k) o → Fits j m → Effect n m (Hears from k) o
lives_effect n j m from k o (deed.map_told f name mine live) fits = go (from == n) refl
  where
    go : (b : Bool) → (from == n) ≡ b → Effect n m (Hears from (kind.InfoAsk name)) o
    go true w = tells_map from name (told.Live (size_of (home_of m name))) (eqb-true from n w) (own_line n from _ w) (ap (λ x. message_to m x (kind.InfoIs name (told.Live (size_of (home_of m name)))) ∷ []) (eqb-true from n w)) (λ e. same)
    go false w = quiet (other_line n from _ w) (stage_put n m name _ mine (λ g. g)) (λ e. same) (λ e. not_it from n w e)
lives_effect n j m from k o (deed.map_refused f name why t d u) fits = go (from == n) refl
  where
    go : (b : Bool) → (from == n) ≡ b → Effect n m (Hears from (kind.InfoAsk name)) o
    go true w = tells_map from name t (eqb-true from n w) (own_line n from _ w ∙ sym (unfit_map name _ why t d u).0) (ap (λ x. message_to m x (kind.InfoIs name t) ∷ []) (eqb-true from n w)) (λ e. same)
    go false w = quiet (other_line n from _ w) (λ q g. g) (λ e. same) (λ e. not_it from n w e)
lives_effect n j m from k o (deed.map_comes f name purged size e) fits = go (m.me == n) refl
  where
    go : (b : Bool) → (m.me == n) ≡ b → Effect n m (Hears from (kind.InfoIs name (told.Live size))) o
    go true w = gets_map from name (told.Live size) purged (eqb-true m.me n w) e refl refl
    go false w = quiet refl (λ q g. g) (λ e. not_it m.me n w e) (λ e. not_it m.me n w e)
lives_effect n j m from k o (deed.map_denied f name purged s why t d u e) fits = go (m.me == n) refl
  where
    go : (b : Bool) → (m.me == n) ≡ b → Effect n m (Hears from (kind.InfoIs name t)) o
    go true w = gets_map from name t purged (eqb-true m.me n w) e refl (ap (λ (x : Answer). Ready x) (sym (unfit_map name s why t d u).1))
    go false w = quiet refl (λ q g. g) (λ e. not_it m.me n w e) (λ e. not_it m.me n w e)
lives_effect n j m from k o (deed.deletes_alone_for f name mine live e) fits = go (from == n) refl
  where
    go : (b : Bool) → (from == n) ≡ b → Effect n m (Hears from (kind.DeleteAsk name)) o
    go true w = tells_delete from name delete_told.Done (eqb-true from n w) (own_two n from _ _ w) (ap (λ x. message_to m x (kind.DeleteIs name delete_told.Done) ∷ []) (eqb-true from n w)) (λ e. same)
    go false w = quiet (other_two n from _ _ w) (stage_put n m name _ mine (λ g. cc)) (λ e. same) (λ e. not_it from n w e)
lives_effect n j m from k o (deed.deletes_for f name x xs mine live e) fits = go (from == n) refl
  where
    go : (b : Bool) → (from == n) ≡ b → Effect n m (Hears from (kind.DeleteAsk name)) o
    go true w = begins from name (eqb-true from n w) (own_line n from _ w) mine (stage_here n m name _ mine (ap stage.Going (eqb-true from n w))) (λ e. same)
    go false w = quiet (other_line n from _ w) (stage_put n m name _ mine (λ g. cc)) (λ e. same) (λ e. not_it from n w e)
lives_effect n j m from k o (deed.delete_refused f name why t d u) fits = go (from == n) refl
  where
    go : (b : Bool) → (from == n) ≡ b → Effect n m (Hears from (kind.DeleteAsk name)) o
    go true w = tells_delete from name d (eqb-true from n w) (own_line n from _ w ∙ sym (unfit_delete name _ why t d u)) (ap (λ x. message_to m x (kind.DeleteIs name d) ∷ []) (eqb-true from n w)) (λ e. same)
    go false w = quiet (other_line n from _ w) (λ q g. g) (λ e. same) (λ e. not_it from n w e)
lives_effect n j m from k o (deed.delete_comes f name d e) fits = go (m.me == n) refl
  where
    go : (b : Bool) → (m.me == n) ≡ b → Effect n m (Hears from (kind.DeleteIs name d)) o
    go true w = gets_delete from name d (eqb-true m.me n w) e refl refl
    go false w = quiet refl (λ q g. g) (λ e. not_it m.me n w e) (λ e. not_it m.me n w e)
lives_effect n j m from k o (deed.dooms f name x e) fits = quiet refl (λ q g. g) (λ e. same) tt
lives_effect n j m from k o (deed.drops f name size e c) fits = quiet refl (λ q g. g) (λ e. same) tt
lives_effect n j m from k o (deed.warns f name e c) fits = quiet refl (λ q g. g) (λ e. warned name m.activity) tt
lives_effect n j m from k o (deed.counts_off f name deleter x xs mine e missing left) fits = quiet refl (stage_put n m name _ mine (λ g. g)) (λ e. same) tt
lives_effect n j m from k o (deed.ends_own f name mine e missing last) fits = go (m.me == n) refl
  where
    go : (b : Bool) → (m.me == n) ≡ b → Effect n m (Hears from (kind.Purged name)) o
    go true w = ends_own from name (eqb-true m.me n w) mine (e ∙ ap stage.Going (eqb-true m.me n w)) (going_own m.me name _ m.activity (fits.each name).going e) (own_line n m.me _ w) refl
    go false w = quiet (other_line n m.me _ w) (stage_put n m name _ mine (λ g. not_it m.me n w (going_same _ _ (sym e ∙ g)))) (λ e. not_it m.me n w e) tt
lives_effect n j m from k o (deed.ends_for f name deleter mine e other missing last) fits = go (deleter == n) refl
  where
    go : (b : Bool) → (deleter == n) ≡ b → Effect n m (Hears from (kind.Purged name)) o
    go true w = ends from name (own_line n deleter _ w) mine (e ∙ ap stage.Going (eqb-true deleter n w)) (ap (λ x. message_to m x (kind.DeleteIs name delete_told.Done) ∷ []) (eqb-true deleter n w)) (λ e. same)
    go false w = quiet (other_line n deleter _ w) (stage_put n m name _ mine (λ g. not_it deleter n w (going_same _ _ (sym e ∙ g)))) (λ e. same) tt

-- Of rounds.
rounds_effect : (n : ℕ) (m : Node) (from : ℕ) (k : Kind) (o : Outcome) → Rounds m (Hears from k) o → (b : Bool) → (m.me == n) ≡ b → Effect n m (Hears from k) o
rounds_effect n m from k o (deed.part_comes f round part a all) b w = quiet refl (λ q g. g) (λ e. same) tt
rounds_effect n m from k o (deed.part_last f round part parts mine c e a all) true w = gets_round mine c (fold_of parts) (eqb-true m.me n w) e (own_line n m.me _ w) refl
rounds_effect n m from k o (deed.part_last f round part parts mine c e a all) false w = quiet (other_line n m.me _ w) (λ q g. g) (λ e. not_it m.me n w e) tt
rounds_effect n m from k o (deed.part_last_idle f round part parts idle a all) b w = quiet refl (λ q g. g) (λ e. same) tt
rounds_effect n m from k o (deed.result_comes f round fold c e) true w = gets_round round c fold (eqb-true m.me n w) e (own_line n m.me _ w) refl
rounds_effect n m from k o (deed.result_comes f round fold c e) false w = quiet (other_line n m.me _ w) (λ q g. g) (λ e. not_it m.me n w e) tt

idle_quiet : (n : ℕ) (m : Node) (from : ℕ) (k : Kind) → Idles (Hears from k) m → QuietFor n m (Hears from k)
idle_quiet n m from (kind.InfoAsk name) h = absurd h
idle_quiet n m from (kind.DeleteAsk name) h = absurd h
idle_quiet n m from (kind.InfoIs name t) h = λ e. h
idle_quiet n m from (kind.DeleteIs name d) h = λ e. h
idle_quiet n m from _ h = tt

pub effect : (n j : ℕ) (m : Node) (from : ℕ) (k : Kind) (o : Outcome) → Deed m (Hears from k) o → Fits j m → IsAway from m.me k → Effect n m (Hears from k) o
effect n j m from k o (deed.copies d) fits away = copies_effect n j m from k o d fits away (m.me == n) refl
effect n j m from k o (deed.lives d) fits away = lives_effect n j m from k o d fits
effect n j m from k o (deed.rounds d) fits away = rounds_effect n m from k o d (m.me == n) refl
effect n j m from k o (deed.idles h) fits away = quiet refl (λ q g. g) (λ e. same) (idle_quiet n m from k h)
