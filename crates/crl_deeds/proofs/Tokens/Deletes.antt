-- A node waits for the delete of a region exactly where one DeleteAsk or DeleteIs of it is under way, or its home
-- is deleting it for that node.
use Rattle.std.proofs.Common.{◌≡◌, ℕ, ◌+◌, ◌≤◌, ◌<◌, ◌==◌, Bool, true, false, List, [], ◌∷◌, if◌then◌else◌, refl, ap, sym, ◌∙◌, subst, arith}
use Rattle.std.proofs.lemmas.Bool.{cond_both, cond-false, eqb-true}
use Rattle.std.proofs.Math.Logic.{◌⊎◌, inl, inr}
use Rattle.crl_model.specs.declared.name.Name.{Name}
use Rattle.crl_model.specs.declared.stage.Stage.{Stage}
use Rattle.crl_model.specs.declared.stage.Stage.TheVariants as stage
use Rattle.crl_model.specs.declared.event.Event.{Event}
use Rattle.crl_model.specs.declared.message.Kind.{Kind}
use Rattle.crl_model.specs.declared.message.Kind.TheVariants as kind
use Rattle.crl_model.specs.Names.{name_eq, at_node}
use Rattle.crl_protocol.specs.Mail.{Mail, Ask, kind_about}
use Rattle.crl_protocol.specs.Lifetimes.{Lifetime, new_lifetime, no_lifetime, members}
use Rattle.crl_protocol.specs.Node.{Node, ForMap, ForDelete, Activity, Free, Waiting, Outcome, is_mine, lifetime_of, with_lifetime, serials_used, message_to}
use Rattle.crl_protocol.specs.Calls.{creates}
use Rattle.crl_protocol.specs.Handlers.{purges_waiting}
use Rattle.crl_protocol.specs.World.{new_world, IsRun, world_of}
use Rattle.crl_deeds.specs.Counts.{PlainKind, NoneYet}
use Rattle.crl_deeds.specs.Deeds.{FreeIf, Cause, parting, Lives, Idles, Calls, Hears}
use Rattle.crl_deeds.specs.NodeFacts.{Fits}
use Rattle.crl_deeds.specs.Tokens.{delete_token_kind, delete_token, waits_delete, deletes_for_node, deleting, sum, load, waited, Balance, Span, came, Life, of_name}
use Rattle.crl_deeds.proofs.Fits.Names.{same_name}
use Rattle.crl_deeds.proofs.Fits.TableRows.{lifetime_put}
use Rattle.crl_deeds.proofs.Runs.Known.{known_start, life_run}
use Rattle.crl_deeds.proofs.Tokens.Maps.{going_own}
use Rattle.crl_deeds.proofs.Tokens.Spans.{whole_of, no_wait, no_wait_as, even, parting_none, purges_none}
use Rattle.crl_deeds.proofs.Tokens.Sums.{weigh_append, sum_new, none_to}
use Rattle.crl_deeds.specs.Deeds as deed

mail_none : (i : ℕ) (r : Name) (from to : ℕ) (name : Name) (m : Mail) → delete_token_kind i r from to (kind_about name m) ≡ 0
mail_none i r from to name (Ask write have) = refl
mail_none i r from to name _ = refl

span : (i : ℕ) (r : Name) → Span (delete_token i r) (deleting i r) (waits_delete r)
span i r = record {
  mail = mail_none i r;
  comes = λ from to round part. refl;
  results = λ from to round fold. refl;
  purges = λ from to name. refl;
  kept = λ n m e f. ap (λ me. deletes_for_node i (if r.home == me then m.lifetimes r.serial else no_lifetime).stage) e ∙ ap (λ (x : ℕ → Lifetime). deletes_for_node i (if r.home == n.me then x r.serial else no_lifetime).stage) f;
  section = λ name. refl;
  round = λ k c. refl;
  free = refl;
  ready = λ answer. refl;
}

warned : (r name : Name) (a : Activity) → waits_delete r (purges_waiting name a) ≡ waits_delete r a
warned r name (Waiting (ForMap p purged)) = refl
warned r name _ = refl

-- A lifetime that changes its stage.
abbrev part : Name → Name → ℕ → ℕ
part name r x = if name_eq name r then x else 0

exchange : (i : ℕ) (r : Name) (n : Node) (name : Name) (lifetime : Lifetime) (s t : Stage) → is_mine n name ≡ true → (lifetime_of n name).stage ≡ s → lifetime.stage ≡ t
    → deleting i r (with_lifetime name lifetime n) + part name r (deletes_for_node i s) ≡ deleting i r n + part name r (deletes_for_node i t)
exchange i r n name lifetime s t mine was now = ap (λ x. x + part name r (deletes_for_node i s)) (ap (λ (l : Lifetime). deletes_for_node i l.stage) (lifetime_put n name lifetime mine r)) ∙ go (name_eq name r) refl
  where
    go : (b : Bool) → name_eq name r ≡ b → deletes_for_node i (if b then lifetime else lifetime_of n r).stage + (if b then deletes_for_node i s else 0) ≡ deleting i r n + (if b then deletes_for_node i t else 0)
    go true w =
        let a = ap (deletes_for_node i) now in
        let b : deleting i r n ≡ deletes_for_node i s = ap (λ q. deletes_for_node i (lifetime_of n q).stage) (sym (same_name name r w)) ∙ ap (deletes_for_node i) was in omega arith
    go false w = refl

swap : (b c : Bool) (x : ℕ) → (if b then (if c then x else 0) else 0) ≡ (if c then (if b then x else 0) else 0)
swap true true x = refl
swap true false x = refl
swap false true x = refl
swap false false x = refl

-- a serial that is given had no lifetime
made_same : (i : ℕ) (r : Name) (n : Node) (size : ℕ) → NoneYet n → deleting i r (creates size n).node ≡ deleting i r n
made_same i r n size none = go (is_mine n r) refl
  where
    inner : (b : Bool) → (serials_used n + 1 == r.serial) ≡ b → deletes_for_node i (if b then new_lifetime else n.lifetimes r.serial).stage ≡ deletes_for_node i (n.lifetimes r.serial).stage
    inner true w = sym (ap (deletes_for_node i) (none r.serial (let same = eqb-true (serials_used n + 1) r.serial w in omega arith)))
    inner false w = refl

    go : (b : Bool) → is_mine n r ≡ b → deletes_for_node i (if b then at_node n.lifetimes (serials_used n + 1) new_lifetime r.serial else no_lifetime).stage ≡ deletes_for_node i (if b then n.lifetimes r.serial else no_lifetime).stage
    go true w = inner (serials_used n + 1 == r.serial) refl
    go false w = refl

delete_lives : (i : ℕ) (r : Name) (j : ℕ) (n : Node) (cause : Cause) (o : Outcome) → Lives n cause o → Fits j n → NoneYet n → FreeIf cause n → Balance (delete_token i r) (deleting i r) (waits_delete r) i n (came (delete_token i r) n.me cause) o
delete_lives i r j n cause o (deed.made size e) f none free = let same = made_same i r n size none in omega arith
delete_lives i r j n cause o (deed.map_asks name e other c real) f none free =
    let was = no_wait_as (waits_delete r) i n Free free refl in let now = no_wait (waits_delete r) i o.node refl in omega arith
delete_lives i r j n cause o (deed.map_told from name mine live) f none free = let x = exchange i r n name (record (lifetime_of n name) { asked = at_node (lifetime_of n name).asked from true }) stage.Live stage.Live mine live live in omega arith
delete_lives i r j n cause o (deed.map_comes from name purged size e) f none free =
    let was = no_wait_as (waits_delete r) i n _ e refl in let now = no_wait (waits_delete r) i o.node refl in omega arith
delete_lives i r j n cause o (deed.map_denied from name purged s why t q u e) f none free =
    let was = no_wait_as (waits_delete r) i n _ e refl in let now = no_wait (waits_delete r) i o.node refl in omega arith
delete_lives i r j n cause o (deed.unmaps_doomed name m e one other doomed closed) f none free = even _ _ _ _ (parting_none _ _ _ (span i r) n name (n.remotes name)) refl
delete_lives i r j n cause o (deed.unmaps_evicting name m old e one other sound closed kept) f none free = even _ _ _ _ (parting_none _ _ _ (span i r) n old (n.remotes old)) refl
delete_lives i r j n cause o (deed.deletes_alone name mine live e) f none free = let x = exchange i r n name (record (lifetime_of n name) { stage = stage.Gone }) stage.Live stage.Gone mine live refl in omega arith
delete_lives i r j n cause o (deed.deletes_own name m ms mine live e) f none free =
    let x = exchange i r n name (record (lifetime_of n name) { stage = stage.Going n.me; missing = (lifetime_of n name).asked }) stage.Live (stage.Going n.me) mine live refl in
    let was = no_wait_as (waits_delete r) i n Free free refl in
    let sent = purges_none _ _ _ (span i r) n name (members n.nodes (lifetime_of n name).asked) in
    let z = none_to (name_eq name r) 0 in
    let y = swap (name_eq name r) (n.me == i) 1 in omega arith
delete_lives i r j n cause o (deed.delete_asks name other real) f none free = let was = no_wait_as (waits_delete r) i n Free free refl in omega arith
delete_lives i r j n cause o (deed.deletes_alone_for from name mine live e) f none free = let x = exchange i r n name (record (lifetime_of n name) { stage = stage.Gone }) stage.Live stage.Gone mine live refl in omega arith
delete_lives i r j n cause o (deed.deletes_for from name m ms mine live e) f none free =
    let x = exchange i r n name (record (lifetime_of n name) { stage = stage.Going from; missing = (lifetime_of n name).asked }) stage.Live (stage.Going from) mine live refl in
    let sent = purges_none _ _ _ (span i r) n name (members n.nodes (lifetime_of n name).asked) in
    let z = none_to (name_eq name r) 0 in
    let y = swap (name_eq name r) (from == i) 1 in omega arith
delete_lives i r j n cause o (deed.delete_comes from name t e) f none free =
    let was : waited (waits_delete r) i n ≡ (if n.me == i then of_name name r else 0) = ap (λ x. if n.me == i then waits_delete r x else 0) e in let now = none_to (n.me == i) 0 in omega arith
delete_lives i r j n cause o (deed.drops from name size e c) f none free =
    let a = weigh_append (delete_token i r) (parting n name (n.remotes name)) (message_to n from (kind.Purged name) ∷ []) in let b = parting_none _ _ _ (span i r) n name (n.remotes name) in omega arith
delete_lives i r j n cause o (deed.warns from name e c) f none free = let same = ap (λ x. if n.me == i then x else 0) (warned r name n.activity) in omega arith
delete_lives i r j n cause o (deed.counts_off from name deleter m ms mine e missing left) f none free = let x = exchange i r n name (record (lifetime_of n name) { missing = at_node (lifetime_of n name).missing from false }) (stage.Going deleter) (stage.Going deleter) mine e e in omega arith
delete_lives i r j n cause o (deed.ends_own from name mine e missing last) f none free =
    let x = exchange i r n name (record (lifetime_of n name) { stage = stage.Gone; missing = at_node (lifetime_of n name).missing from false }) (stage.Going n.me) stage.Gone mine e refl in
    let was : waited (waits_delete r) i n ≡ (if n.me == i then of_name name r else 0) = ap (λ a. if n.me == i then waits_delete r a else 0) (going_own n.me name _ n.activity (f.each name).going e) in
    let now = none_to (n.me == i) 0 in
    let z = none_to (name_eq name r) 0 in
    let y = swap (name_eq name r) (n.me == i) 1 in omega arith
delete_lives i r j n cause o (deed.ends_for from name deleter mine e other missing last) f none free =
    let x = exchange i r n name (record (lifetime_of n name) { stage = stage.Gone; missing = at_node (lifetime_of n name).missing from false }) (stage.Going deleter) stage.Gone mine e refl in
    let z = none_to (name_eq name r) 0 in
    let y = swap (name_eq name r) (deleter == i) 1 in omega arith
delete_lives i r j n cause o _ f none free = omega arith

-- a DeleteIs that nobody waits for doesn't come
waits_it : (i : ℕ) (r name : Name) (n : Node) (a : Activity) (x : Activity) → (x ≡ Waiting (ForDelete name) → ⊥) → (n.me ≡ i → a ≡ x) → (b : Bool) → (n.me == i) ≡ b
    → (if b then of_name name r else 0) ≤ waits_delete r a → (if b then of_name name r else 0) ≡ 0
waits_it i r name n a x h same false w few = refl
waits_it i r name n a x h same true w few = go x h (subst (λ y. of_name name r ≤ waits_delete r y) (same (eqb-true n.me i w)) few) (name_eq name r) refl
  where
    go : (y : Activity) → (y ≡ Waiting (ForDelete name) → ⊥) → of_name name r ≤ waits_delete r y → (b : Bool) → name_eq name r ≡ b → of_name name r ≡ 0
    go y h few false k = cond-false (name_eq name r) 1 0 k
    go (Waiting (ForDelete p)) h few true k = at_name (name_eq p r) refl
      where
        at_name : (c : Bool) → name_eq p r ≡ c → of_name name r ≡ 0
        at_name true l = absurd (h (ap (λ z. Waiting (ForDelete z)) (same_name p r l ∙ sym (same_name name r k))))
        at_name false l = let z : of_name p r ≡ 0 = cond-false (name_eq p r) 1 0 l in omega arith
    go _ h few true k = omega arith

delete_idle : (i : ℕ) (r : Name) (n : Node) (cause : Cause) (a : Activity) → Idles cause n → (n.me ≡ i → a ≡ n.activity) → came (delete_token i r) n.me cause ≤ waits_delete r a → came (delete_token i r) n.me cause ≡ 0
delete_idle i r n (Calls c) a h same few = refl
delete_idle i r n (Hears from (kind.DeleteAsk name)) a h same few = absurd h
delete_idle i r n (Hears from (kind.DeleteIs name t)) a h same few = waits_it i r name n a n.activity h same (n.me == i) refl few
delete_idle i r n (Hears from _) a h same few = refl

near_if : (to i x count : ℕ) → i < count → (b : Bool) → (to == i) ≡ b → ((if b then x else 0) ≡ 0) ⊎ (to < count)
near_if to i x count small true e = inr (let same = eqb-true to i e in omega arith)
near_if to i x count small false e = inl refl

delete_near : (i : ℕ) (r : Name) (count from to : ℕ) (k : Kind) → i < count → PlainKind count from to k → (delete_token_kind i r from to k ≡ 0) ⊎ (to < count)
delete_near i r count from to (kind.DeleteAsk name) small h = inr h
delete_near i r count from to (kind.DeleteIs name t) small h = near_if to i (of_name name r) count small (to == i) refl
delete_near i r count from to _ small h = inl refl

pub delete_life : (i : ℕ) (r : Name) → Life i (delete_token i r) (deleting i r) (waits_delete r)
delete_life i r = record {
  tokens = record { whole = λ m. whole_of (delete_token i r) (span i r).mail m.sender m.addressee m.kind; blind = λ n inbox outbox parcels records notes posted. refl; answered = λ n. refl; free = refl; ready = λ answer. refl };
  span = span i r;
  lives = λ j n cause o c f k free. delete_lives i r j n cause o c f k free;
  idle = delete_idle i r;
  near = delete_near i r;
}

pub who_deletes_has_one : (count capacity : ℕ) (run : List Event) → IsRun count capacity run → (i : ℕ) (r : Name) → i < count
    → sum (load (delete_token i r) (deleting i r)) (world_of count capacity run) ≡ waits_delete r ((world_of count capacity run).nodes i).activity
who_deletes_has_one count capacity run h i r small =
    life_run i (delete_token i r) (deleting i r) (waits_delete r) (delete_life i r) run (new_world count capacity) small h.enabled (known_start count capacity)
    (sum_new (load (delete_token i r) (deleting i r)) count capacity (λ j. cond_both (r.home == j) _ _ (λ (l : Lifetime). 0 + 0 + deletes_for_node i l.stage ≡ 0) (λ w. refl) (λ w. refl)))
