-- A node waits for a map of a region exactly where one InfoAsk or InfoIs of it is under way, and it is in a box.
use Rattle.std.proofs.Common.{◌≡◌, ℕ, ◌≤◌, ◌<◌, ◌==◌, Bool, true, false, List, [], ◌∷◌, if◌then◌else◌, refl, ap, sym, ◌∙◌, subst, arith}
use Rattle.std.proofs.lemmas.Bool.{cond-false, eqb-true, eq-eqb}
use Rattle.std.proofs.Math.Logic.{◌⊎◌, inl, inr}
use Rattle.crl_model.specs.declared.name.Name.{Name}
use Rattle.crl_model.specs.declared.stage.Stage.{Stage}
use Rattle.crl_model.specs.declared.stage.Stage.TheVariants as stage
use Rattle.crl_model.specs.declared.event.Event.{Event}
use Rattle.crl_model.specs.declared.message.Kind.{Kind}
use Rattle.crl_model.specs.declared.message.Kind.TheVariants as kind
use Rattle.crl_model.specs.Names.{name_eq}
use Rattle.crl_protocol.specs.Mail.{Mail, Ask, kind_about}
use Rattle.crl_protocol.specs.Node.{Node, ForMap, ForDelete, Activity, Free, Waiting, Outcome, message_to}
use Rattle.crl_protocol.specs.Handlers.{purges_waiting}
use Rattle.crl_protocol.specs.World.{new_world, IsRun, world_of, pieces_in_boxes}
use Rattle.crl_deeds.specs.Counts.{PlainKind}
use Rattle.crl_deeds.specs.Deeds.{FreeIf, Cause, parting, Lives, Idles, Calls, Hears}
use Rattle.crl_deeds.specs.NodeFacts.{GoingFits, Fits}
use Rattle.crl_deeds.specs.Tokens.{of_name, map_token_kind, map_token, waits_map, weighs, load, waited, Balance, Span, came, Life}
use Rattle.crl_deeds.proofs.Fits.Names.{same_name}
use Rattle.crl_deeds.proofs.Runs.Known.{known_start, life_run}
use Rattle.crl_deeds.proofs.Tokens.Spans.{whole_of, no_wait, no_wait_as, even, shut, parting_none, purges_none}
use Rattle.crl_deeds.proofs.Tokens.Sums.{weigh_append, sum_new, none_to, boxed_sum}
use Rattle.crl_deeds.specs.Deeds as deed

abbrev pub none : Node → ℕ
none n = 0

mail_none : (i : ℕ) (r : Name) (from to : ℕ) (name : Name) (m : Mail) → map_token_kind i r from to (kind_about name m) ≡ 0
mail_none i r from to name (Ask write have) = refl
mail_none i r from to name _ = refl

span : (i : ℕ) (r : Name) → Span (map_token i r) none (waits_map r)
span i r = record {
  mail = mail_none i r;
  comes = λ from to round part. refl;
  results = λ from to round fold. refl;
  purges = λ from to name. refl;
  kept = λ n m e f. refl;
  section = λ name. refl;
  round = λ k c. refl;
  free = refl;
  ready = λ answer. refl;
}

pub warned : (r name : Name) (a : Activity) → waits_map r (purges_waiting name a) ≡ waits_map r a
warned r name (Waiting (ForMap p purged)) = refl
warned r name _ = refl

pub going_own : (me : ℕ) (q : Name) (s : Stage) (a : Activity) → GoingFits me q s a → s ≡ stage.Going me → a ≡ Waiting (ForDelete q)
going_own me q s a f e = go (subst (λ x. GoingFits me q x a) e f)
  where
    go : ((me == me) ≡ false) ⊎ (a ≡ Waiting (ForDelete q)) → a ≡ Waiting (ForDelete q)
    go (inl w) = let k = eq-eqb me me refl in cc
    go (inr w) = w

map_lives : (i : ℕ) (r : Name) (j : ℕ) (n : Node) (cause : Cause) (o : Outcome) → Lives n cause o → Fits j n → FreeIf cause n → Balance (map_token i r) none (waits_map r) i n (came (map_token i r) n.me cause) o
map_lives i r j n cause o (deed.map_asks name e other c real) f free = let was = no_wait_as (waits_map r) i n Free free refl in omega arith
map_lives i r j n cause o (deed.map_comes from name purged size e) f free =
    let was : waited (waits_map r) i n ≡ (if n.me == i then of_name name r else 0) = ap (λ x. if n.me == i then waits_map r x else 0) e in let now = none_to (n.me == i) 0 in omega arith
map_lives i r j n cause o (deed.map_denied from name purged s why t q u e) f free =
    let was : waited (waits_map r) i n ≡ (if n.me == i then of_name name r else 0) = ap (λ x. if n.me == i then waits_map r x else 0) e in let now = none_to (n.me == i) 0 in omega arith
map_lives i r j n cause o (deed.unmaps_doomed name m e one other doomed closed) f free = even _ _ _ _ (parting_none _ _ _ (span i r) n name (n.remotes name)) refl
map_lives i r j n cause o (deed.unmaps_evicting name m old e one other sound closed kept) f free = even _ _ _ _ (parting_none _ _ _ (span i r) n old (n.remotes old)) refl
map_lives i r j n cause o (deed.deletes_own name m ms mine live e) f free =
    shut _ _ _ _ _ _ (purges_none _ _ _ (span i r) n name _) refl refl (no_wait_as (waits_map r) i n Free free refl) (no_wait (waits_map r) i o.node refl)
map_lives i r j n cause o (deed.delete_asks name other real) f free = let was = no_wait_as (waits_map r) i n Free free refl in let now = no_wait (waits_map r) i o.node refl in omega arith
map_lives i r j n cause o (deed.deletes_for from name m ms mine live e) f free = even _ _ _ _ (purges_none _ _ _ (span i r) n name _) refl
map_lives i r j n cause o (deed.delete_comes from name t e) f free = let was = no_wait_as (waits_map r) i n _ e refl in let now = no_wait (waits_map r) i o.node refl in omega arith
map_lives i r j n cause o (deed.drops from name size e c) f free =
    let a = weigh_append (map_token i r) (parting n name (n.remotes name)) (message_to n from (kind.Purged name) ∷ []) in let b = parting_none _ _ _ (span i r) n name (n.remotes name) in omega arith
map_lives i r j n cause o (deed.warns from name e c) f free = let same = ap (λ x. if n.me == i then x else 0) (warned r name n.activity) in omega arith
map_lives i r j n cause o (deed.ends_own from name mine e missing last) f free =
    let was = no_wait_as (waits_map r) i n _ (going_own n.me name _ n.activity (f.each name).going e) refl in let now = no_wait (waits_map r) i o.node refl in omega arith
map_lives i r j n cause o _ f free = omega arith

-- an InfoIs that nobody waits for doesn't come
waits_it : (i : ℕ) (r name : Name) (n : Node) (a : Activity) (x : Activity) → n.activity ≡ x → ((purged : Bool) → x ≡ Waiting (ForMap name purged) → ⊥) → (n.me ≡ i → a ≡ x) → (b : Bool) → (n.me == i) ≡ b
    → (if b then of_name name r else 0) ≤ waits_map r a → (if b then of_name name r else 0) ≡ 0
waits_it i r name n a x e h same false w few = refl
waits_it i r name n a x e h same true w few = go x h (subst (λ y. of_name name r ≤ waits_map r y) (same (eqb-true n.me i w)) few) (name_eq name r) refl
  where
    go : (y : Activity) → ((purged : Bool) → y ≡ Waiting (ForMap name purged) → ⊥) → of_name name r ≤ waits_map r y → (b : Bool) → name_eq name r ≡ b → of_name name r ≡ 0
    go y h few false k = cond-false (name_eq name r) 1 0 k
    go (Waiting (ForMap p purged)) h few true k = at_name (name_eq p r) refl
      where
        at_name : (c : Bool) → name_eq p r ≡ c → of_name name r ≡ 0
        at_name true l = absurd (h purged (ap (λ z. Waiting (ForMap z purged)) (same_name p r l ∙ sym (same_name name r k))))
        at_name false l = let z : of_name p r ≡ 0 = cond-false (name_eq p r) 1 0 l in omega arith
    go _ h few true k = omega arith

map_idle : (i : ℕ) (r : Name) (n : Node) (cause : Cause) (a : Activity) → Idles cause n → (n.me ≡ i → a ≡ n.activity) → came (map_token i r) n.me cause ≤ waits_map r a → came (map_token i r) n.me cause ≡ 0
map_idle i r n (Calls c) a h same few = refl
map_idle i r n (Hears from (kind.InfoAsk name)) a h same few = absurd h
map_idle i r n (Hears from (kind.InfoIs name t)) a h same few = waits_it i r name n a n.activity refl h same (n.me == i) refl few
map_idle i r n (Hears from _) a h same few = refl

map_near : (i : ℕ) (r : Name) (count from to : ℕ) (k : Kind) → i < count → PlainKind count from to k → (map_token_kind i r from to k ≡ 0) ⊎ (to < count)
map_near i r count from to (kind.InfoAsk name) small h = inr h.1
map_near i r count from to (kind.InfoIs name t) small h = inr h
map_near i r count from to _ small h = inl refl

pub map_life : (i : ℕ) (r : Name) → Life i (map_token i r) none (waits_map r)
map_life i r = record {
  tokens = record { whole = λ m. whole_of (map_token i r) (span i r).mail m.sender m.addressee m.kind; blind = λ n inbox outbox parcels records notes posted. refl; answered = λ n. refl; free = refl; ready = λ answer. refl };
  span = span i r;
  lives = λ j n cause o c f k free. map_lives i r j n cause o c f free;
  idle = map_idle i r;
  near = map_near i r;
}

pub who_maps_has_one : (count capacity : ℕ) (run : List Event) → IsRun count capacity run → (i : ℕ) (r : Name) → i < count
    → weighs (map_token i r) (pieces_in_boxes (world_of count capacity run)) ≡ waits_map r ((world_of count capacity run).nodes i).activity
who_maps_has_one count capacity run h i r small =
    boxed_sum (map_token i r) (world_of count capacity run)
    ∙ life_run i (map_token i r) none (waits_map r) (map_life i r) run (new_world count capacity) small h.enabled (known_start count capacity) (sum_new (load (map_token i r) none) count capacity (λ j. refl))
