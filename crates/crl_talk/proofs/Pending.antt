-- The call for which a node waits: which of its lines stand already, by what is under way.
use Rattle.std.proofs.Common.{◌≡◌, ℕ, ◌+◌, ◌≤◌, ◌<◌, ◌==◌, Bool, true, false, List, [], ◌∷◌, ◌++◌, if◌then◌else◌, refl, ap, sym, ◌∙◌, subst, arith}
use Rattle.std.proofs.lemmas.Bool.{cond-true, cond-false, eqb-true, eq-eqb}
use Rattle.crl_model.specs.declared.name.Name.{Name}
use Rattle.crl_model.specs.declared.stage.Stage.{Stage}
use Rattle.crl_model.specs.declared.stage.Stage.TheVariants as stage
use Rattle.crl_model.specs.declared.call.Call.{Call}
use Rattle.crl_model.specs.declared.call.Call.TheVariants as call
use Rattle.crl_model.specs.declared.call.CallKind.{CallKind}
use Rattle.crl_model.specs.declared.collective.Part.{Part}
use Rattle.crl_model.specs.declared.entry.What.{What}
use Rattle.crl_model.specs.declared.entry.What.TheVariants as what
use Rattle.crl_model.specs.declared.message.Told.{Told}
use Rattle.crl_model.specs.declared.message.DeleteTold.{DeleteTold}
use Rattle.crl_model.specs.declared.message.Message.{Message}
use Rattle.crl_model.specs.declared.message.Kind.{Kind}
use Rattle.crl_model.specs.declared.message.Kind.TheVariants as kind
use Rattle.crl_model.specs.Calls.{kind_of}
use Rattle.crl_model.specs.Names.{name_eq}
use Rattle.crl_protocol.specs.Mail.{Ask}
use Rattle.crl_protocol.specs.Node.{Node, Answer, Activity, Waiting, Ready, ForSection, ForMap, ForDelete, ForRound, Outcome, lifetime_of}
use Rattle.crl_protocol.specs.Talk.{AreLines}
use Rattle.crl_protocol.specs.World.{World}
use Rattle.crl_deeds.specs.Deeds.{Hears, StartsCall}
use Rattle.crl_deeds.specs.Tokens.{sum, weigh, Whole, load, NoMail, of_name, map_token, map_token_kind, waits_map, delete_token, delete_token_kind, waits_delete, deletes_for_node, deleting}
use Rattle.crl_deeds.proofs.Laws.{same_name, name_self, append_nil}
use Rattle.crl_talk.proofs.Asking.{AskedAs}
use Rattle.crl_talk.proofs.Effects.{map_lines, delete_lines, Lasts, same, marked, QuietFor}
use Rattle.crl_talk.proofs.Weights.{sum_gap, table_le, nothing, BlindLoad, Token, MapAsk, MapIs, DeleteAsk, DeleteIs, same_told, same_delete, token_of, token, token_mail, ask_le_map, is_le_map, ask_le_delete, is_le_delete}

-- Of a map and of a delete: the message under way, and the lines that stand with it.
pub data MapFront (q : Name) : Token → List What → Type 0 where
  map_asked : MapFront q MapAsk []
  map_answered : (t : Told) → MapFront q (MapIs t) (map_lines q t)

pub data DeleteFront (q : Name) : Token → List What → Type 0 where
  delete_asked : DeleteFront q DeleteAsk []
  delete_answered : (d : DeleteTold) → DeleteFront q (DeleteIs d) (delete_lines q d)

-- so many such messages are under way
abbrev pub under_way : Token → ℕ → Name → World → ℕ
under_way k n q w = sum (load (token k n q) nothing) w

-- Node n waits with this call, of which these lines stand.
pub data Pending (n : ℕ) (w : World) : Call → List What → Type 0 where
  for_section : (c : Call) (write : Bool) (q : Name) → StartsCall c write q → (w.nodes n).activity ≡ Waiting (ForSection q) → AskedAs write q (w.nodes n) → Pending n w c []
  for_map : (q : Name) (purged : Bool) (k : Token) (front : List What) → MapFront q k front → (w.nodes n).activity ≡ Waiting (ForMap q purged) → 1 ≤ under_way k n q w → Pending n w (call.Map q) front
  for_delete : (q : Name) (k : Token) (front : List What) → DeleteFront q k front → (w.nodes n).activity ≡ Waiting (ForDelete q) → 1 ≤ under_way k n q w → Pending n w (call.Delete q) front
  going : (q : Name) → (w.nodes n).activity ≡ Waiting (ForDelete q) → q.home < w.count → (lifetime_of (w.nodes q.home) q).stage ≡ stage.Going n → Pending n w (call.Delete q) (what.Deleting q ∷ [])
  for_round : (part : Part) (round : ℕ) → (w.nodes n).activity ≡ Waiting (ForRound round (kind_of part)) → Pending n w (call.Come part) (what.Come part ∷ [])

-- An event leaves it waiting, or ready with an answer whose lines all stand.
pub data Goes (n : ℕ) (c : Call) (front : List What) (v : World) (new : List What) : Type 0 where
  waits : Pending n v c (front ++ new) → Goes n c front v new
  ready : (answer : Answer) → (v.nodes n).activity ≡ Ready answer → AreLines n c answer (front ++ new) → Goes n c front v new

-- What is known of a node's waits.
pub record Waits (n : ℕ) (w : World) : Type 0 where
  pub map : (r : Name) → sum (load (map_token n r) nothing) w ≡ waits_map r (w.nodes n).activity
  pub delete : (r : Name) → sum (load (delete_token n r) (deleting n r)) w ≡ waits_delete r (w.nodes n).activity

-- the message that is awaited
abbrev pub Wants : Token → Name → Activity → Type 0
Wants MapAsk q a = (purged : Bool) × (a ≡ Waiting (ForMap q purged))
Wants (MapIs t) q a = (purged : Bool) × (a ≡ Waiting (ForMap q purged))
Wants DeleteAsk q a = a ≡ Waiting (ForDelete q)
Wants (DeleteIs d) q a = a ≡ Waiting (ForDelete q)

-- A step that leaves node n's wait as it is.
pub record Calm (n : ℕ) (w v : World) : Type 0 where
  pub count : v.count ≡ w.count
  pub act : Lasts (w.nodes n).activity (v.nodes n).activity
  pub asked : (write : Bool) (q : Name) → (w.nodes n).activity ≡ Waiting (ForSection q) → AskedAs write q (w.nodes n) → AskedAs write q (v.nodes n)
  pub going : (q : Name) → (lifetime_of (w.nodes q.home) q).stage ≡ stage.Going n → (lifetime_of (v.nodes q.home) q).stage ≡ stage.Going n
  pub kept : (k : Token) (q : Name) → Wants k q (w.nodes n).activity → 1 ≤ under_way k n q w → 1 ≤ under_way k n q v

lasts_section : {a b : Activity} (q : Name) → Lasts a b → a ≡ Waiting (ForSection q) → b ≡ Waiting (ForSection q)
lasts_section q same e = e
lasts_section q marked e = cc

pub lasts_delete : {a b : Activity} (q : Name) → Lasts a b → a ≡ Waiting (ForDelete q) → b ≡ Waiting (ForDelete q)
lasts_delete q same e = e
lasts_delete q marked e = cc

lasts_round : {a b : Activity} (r : ℕ) (k : CallKind) → Lasts a b → a ≡ Waiting (ForRound r k) → b ≡ Waiting (ForRound r k)
lasts_round r k same e = e
lasts_round r k marked e = cc

pub map_same : (p q : Name) (x y : Bool) → ◌≡◌ {A = Activity} (Waiting (ForMap p x)) (Waiting (ForMap q y)) → p ≡ q
map_same p q x y e = cc

pub lasts_map : {a b : Activity} (q : Name) (x : Bool) → Lasts a b → a ≡ Waiting (ForMap q x) → (y : Bool) × (b ≡ Waiting (ForMap q y))
lasts_map q x same e = (x, e)
lasts_map q x (marked {q = p} {x = z} {y = y}) e = (y, ap (λ r. Waiting (ForMap r y)) (map_same p q z x e))

map_wanted : (q : Name) (k : Token) (front : List What) (a : Activity) (purged : Bool) → MapFront q k front → a ≡ Waiting (ForMap q purged) → Wants k q a
map_wanted q k front a purged map_asked e = (purged, e)
map_wanted q k front a purged (map_answered t) e = (purged, e)

delete_wanted : (q : Name) (k : Token) (front : List What) (a : Activity) → DeleteFront q k front → a ≡ Waiting (ForDelete q) → Wants k q a
delete_wanted q k front a delete_asked e = e
delete_wanted q k front a (delete_answered d) e = e

pub pending_calm : (n : ℕ) (w v : World) (c : Call) (front : List What) → Calm n w v → Pending n w c front → Pending n v c front
pending_calm n w v c front x (for_section y write q is e a) = for_section y write q is (lasts_section q x.act e) (x.asked write q e a)
pending_calm n w v c front x (for_map q purged k lines f e some) = let y = lasts_map q purged x.act e in for_map q y.0 k lines f y.1 (x.kept k q (map_wanted q k lines _ purged f e) some)
pending_calm n w v c front x (for_delete q k lines f e some) = for_delete q k lines f (lasts_delete q x.act e) (x.kept k q (delete_wanted q k lines _ f e) some)
pending_calm n w v c front x (going q e few g) = going q (lasts_delete q x.act e) (subst (λ z. q.home < z) (sym x.count) few) (x.going q g)
pending_calm n w v c front x (for_round part round e) = for_round part round (lasts_round round (kind_of part) x.act e)

pub goes_calm : (n : ℕ) (w v : World) (c : Call) (front new : List What) → new ≡ [] → Calm n w v → Pending n w c front → Goes n c front v new
goes_calm n w v c front new e x p = waits (subst (Pending n v c) (sym (ap (λ ls. front ++ ls) e ∙ append_nil front)) (pending_calm n w v c front x p))

-- Node j hears a message of kind k from a node.
pub record Hearing (n : ℕ) (w v : World) (j from : ℕ) (k : Kind) (o : Outcome) : Type 0 where
  pub few : j < w.count
  pub me : (i : ℕ) → (w.nodes i).me ≡ i
  pub count : v.count ≡ w.count
  pub tokens : Waits n w
  pub came : (h : Message → ℕ) (g : Node → ℕ) → NoMail h → BlindLoad g → h (record { sender = from; addressee = j; kind = k }) ≤ sum (load h g) w
  pub two : (f h : Message → ℕ) (g : Node → ℕ) → NoMail f → NoMail h → BlindLoad g → ((m : Message) → f m ≤ h m)
      → sum (load f nothing) w + h (record { sender = from; addressee = j; kind = k }) ≤ sum (load h g) w + f (record { sender = from; addressee = j; kind = k })
  pub table : (h : Message → ℕ) (g : Node → ℕ) → NoMail h → BlindLoad g → (i : ℕ) → i < w.count → g (w.nodes i) + h (record { sender = from; addressee = j; kind = k }) ≤ sum (load h g) w
  pub step : (f : Message → ℕ) → NoMail f → Whole f → f (record { sender = from; addressee = j; kind = k }) + sum (load f nothing) v ≡ sum (load f nothing) w + weigh f o.posts
  pub act : (j ≡ n → Lasts (w.nodes j).activity o.node.activity) → Lasts (w.nodes n).activity (v.nodes n).activity
  pub ready : (a : Activity) → j ≡ n → o.node.activity ≡ a → (v.nodes n).activity ≡ a
  pub stays : (q : Name) → ((lifetime_of (w.nodes j) q).stage ≡ stage.Going n → (lifetime_of o.node q).stage ≡ stage.Going n) → (lifetime_of (w.nodes q.home) q).stage ≡ stage.Going n → (lifetime_of (v.nodes q.home) q).stage ≡ stage.Going n
  pub begins_at : (q : Name) → q.home ≡ j → (lifetime_of o.node q).stage ≡ stage.Going n → (lifetime_of (v.nodes q.home) q).stage ≡ stage.Going n
  pub asked : (write : Bool) (q : Name) → (w.nodes n).activity ≡ Waiting (ForSection q) → AskedAs write q (w.nodes n) → AskedAs write q (v.nodes n)

map_mail : (n : ℕ) (r : Name) → NoMail (map_token n r)
map_mail n r from to name (Ask write have) = refl
map_mail n r from to name _ = refl

delete_mail : (n : ℕ) (r : Name) → NoMail (delete_token n r)
delete_mail n r from to name (Ask write have) = refl
delete_mail n r from to name _ = refl

-- who waits
wants_map : (r : Name) (a : Activity) → 1 ≤ waits_map r a → (purged : Bool) × (a ≡ Waiting (ForMap r purged))
wants_map r (Waiting (ForMap p purged)) h = go (name_eq p r) refl
  where
    go : (b : Bool) → name_eq p r ≡ b → (x : Bool) × (◌≡◌ {A = Activity} (Waiting (ForMap p purged)) (Waiting (ForMap r x)))
    go true e = (purged, ap (λ x. Waiting (ForMap x purged)) (same_name p r e))
    go false e = let z : of_name p r ≡ 0 = cond-false (name_eq p r) 1 0 e in absurd (omega arith)
wants_map r _ h = absurd (omega arith)

wants_delete : (r : Name) (a : Activity) → 1 ≤ waits_delete r a → a ≡ Waiting (ForDelete r)
wants_delete r (Waiting (ForDelete p)) h = go (name_eq p r) refl
  where
    go : (b : Bool) → name_eq p r ≡ b → ◌≡◌ {A = Activity} (Waiting (ForDelete p)) (Waiting (ForDelete r))
    go true e = ap (λ x. Waiting (ForDelete x)) (same_name p r e)
    go false e = let z : of_name p r ≡ 0 = cond-false (name_eq p r) 1 0 e in absurd (omega arith)
wants_delete r _ h = absurd (omega arith)

pub one_name : (q : Name) → of_name q q ≡ 1
one_name q = cond-true (name_eq q q) 1 0 (name_self q)

one_map : (q : Name) (purged : Bool) (a : Activity) → a ≡ Waiting (ForMap q purged) → waits_map q a ≡ 1
one_map q purged a e = ap (waits_map q) e ∙ one_name q

one_delete : (q : Name) (a : Activity) → a ≡ Waiting (ForDelete q) → waits_delete q a ≡ 1
one_delete q a e = ap (waits_delete q) e ∙ one_name q

-- What is under way for node n is one: another message of its wait doesn't come beside it.
one_le : (q : Name) (k : Token) (front : List What) (n : ℕ) → MapFront q k front → (m : Message) → token k n q m ≤ map_token n q m
one_le q k front n map_asked m = ask_le_map n q m
one_le q k front n (map_answered t) m = is_le_map t n q m

one_le_delete : (q : Name) (k : Token) (front : List What) (n : ℕ) → DeleteFront q k front → (m : Message) → token k n q m ≤ delete_token n q m
one_le_delete q k front n delete_asked m = ask_le_delete n q m
one_le_delete q k front n (delete_answered d) m = is_le_delete d n q m

pub map_alone : {n j from : ℕ} {w v : World} {x : Kind} {o : Outcome} {A : Type 0} (h : Hearing n w v j from x o) (q : Name) (purged : Bool) (k : Token) (front : List What) → MapFront q k front → (w.nodes n).activity ≡ Waiting (ForMap q purged)
    → 1 ≤ under_way k n q w → 1 ≤ map_token_kind n q from j x → token_of k n q from j x ≡ 0 → A
map_alone {n = n} {w = w} h q purged k front f e some came none =
    let two = h.two (token k n q) (map_token n q) nothing (token_mail k n q) (map_mail n q) (λ m i u p r t s. refl) (one_le q k front n f) in
    let all = h.tokens.map q in
    let one = one_map q purged _ e in absurd (omega arith)

pub delete_alone : {n j from : ℕ} {w v : World} {x : Kind} {o : Outcome} {A : Type 0} (h : Hearing n w v j from x o) (q : Name) (k : Token) (front : List What) → DeleteFront q k front → (w.nodes n).activity ≡ Waiting (ForDelete q)
    → 1 ≤ under_way k n q w → 1 ≤ delete_token_kind n q from j x → token_of k n q from j x ≡ 0 → A
delete_alone {n = n} {w = w} h q k front f e some came none =
    let two = h.two (token k n q) (delete_token n q) (deleting n q) (token_mail k n q) (delete_mail n q) (λ m i u p r t s. refl) (one_le_delete q k front n f) in
    let all = h.tokens.delete q in
    let one = one_delete q _ e in absurd (omega arith)

going_one : (n : ℕ) (s : Stage) → s ≡ stage.Going n → deletes_for_node n s ≡ 1
going_one n s e = ap (deletes_for_node n) e ∙ cond-true (n == n) 1 0 (eq-eqb n n refl)

-- nor where the home goes on with the delete
pub going_alone : {n j from : ℕ} {w v : World} {x : Kind} {o : Outcome} {A : Type 0} (h : Hearing n w v j from x o) (q : Name) → (w.nodes n).activity ≡ Waiting (ForDelete q) → (i : ℕ) → i < w.count → (lifetime_of (w.nodes i) q).stage ≡ stage.Going n
    → 1 ≤ delete_token_kind n q from j x → A
going_alone {n = n} {w = w} h q e i few g came =
    let t = h.table (delete_token n q) (deleting n q) (delete_mail n q) (λ m i u p r t s. refl) i few in
    let stands : deleting n q (w.nodes i) ≡ 1 = going_one n _ g in
    let all = h.tokens.delete q in
    let one = one_delete q _ e in absurd (omega arith)

pub going_beside : (n : ℕ) (w : World) {A : Type 0} → Waits n w → (q : Name) (k : Token) (front : List What) → DeleteFront q k front → (w.nodes n).activity ≡ Waiting (ForDelete q) → 1 ≤ under_way k n q w
    → (i : ℕ) → i < w.count → (lifetime_of (w.nodes i) q).stage ≡ stage.Going n → A
going_beside n w tokens q k front f e some i few g =
    let t = sum_gap (token k n q) (delete_token n q) (deleting n q) (one_le_delete q k front n f) w i few in
    let stands : deleting n q (w.nodes i) ≡ 1 = going_one n _ g in
    let all = tokens.delete q in
    let one = one_delete q _ e in absurd (omega arith)

-- who is told, or deletes, waits
pub asker_maps : {n j from : ℕ} {w v : World} {x : Kind} {o : Outcome} (h : Hearing n w v j from x o) (r : Name) → 1 ≤ map_token_kind n r from j x → (purged : Bool) × ((w.nodes n).activity ≡ Waiting (ForMap r purged))
asker_maps {n = n} h r came = let c = h.came (map_token n r) nothing (map_mail n r) (λ m i u p r t s. refl) in let all = h.tokens.map r in wants_map r _ (omega arith)

pub asker_deletes : {n j from : ℕ} {w v : World} {x : Kind} {o : Outcome} (h : Hearing n w v j from x o) (r : Name) → 1 ≤ delete_token_kind n r from j x → (w.nodes n).activity ≡ Waiting (ForDelete r)
asker_deletes {n = n} h r came = let c = h.came (delete_token n r) (deleting n r) (delete_mail n r) (λ m i u p r t s. refl) in let all = h.tokens.delete r in wants_delete r _ (omega arith)

pub deleter_waits : (n : ℕ) (w : World) → Waits n w → (r : Name) (i : ℕ) → i < w.count → (lifetime_of (w.nodes i) r).stage ≡ stage.Going n → (w.nodes n).activity ≡ Waiting (ForDelete r)
deleter_waits n w tokens r i few g =
    let t = table_le (delete_token n r) (deleting n r) w i few in
    let stands : deleting n r (w.nodes i) ≡ 1 = going_one n _ g in
    let all = tokens.delete r in wants_delete r _ (omega arith)

-- A quiet message is none that is awaited.
quiet_one : (b : Bool) (x : ℕ) → (b ≡ true → x ≡ 0) → (if b then x else 0) ≡ 0
quiet_one true x h = h refl
quiet_one false x h = refl

named_none : (p q : Name) → (p ≡ q → ⊥) → of_name p q ≡ 0
named_none p q h = quiet_one (name_eq p q) 1 (λ e. absurd (h (same_name p q e)))

pub quiet_token : (n j : ℕ) (m : Node) (from : ℕ) (x : Kind) (k : Token) (q : Name) → m.me ≡ j → QuietFor n m (Hears from x) → (m.me ≡ n → Wants k q m.activity) → token_of k n q from j x ≡ 0
quiet_token n j m from (kind.InfoAsk name) MapAsk q me h want = quiet_one (from == n) _ (λ e. absurd (h (eqb-true from n e)))
quiet_token n j m from (kind.DeleteAsk name) DeleteAsk q me h want = quiet_one (from == n) _ (λ e. absurd (h (eqb-true from n e)))
quiet_token n j m from (kind.InfoIs name t) (MapIs u) q me h want =
    quiet_one (same_told u t) _ (λ s. quiet_one (j == n) _ (λ e. named_none name q (λ p. (let own = me ∙ eqb-true j n e in let w = want own in h own w.0 (w.1 ∙ ap (λ r. Waiting (ForMap r w.0)) (sym p))))))
quiet_token n j m from (kind.DeleteIs name d) (DeleteIs u) q me h want =
    quiet_one (same_delete u d) _ (λ s. quiet_one (j == n) _ (λ e. named_none name q (λ p. (let own = me ∙ eqb-true j n e in h own (want own ∙ ap (λ r. Waiting (ForDelete r)) (sym p))))))
quiet_token n j m from (kind.InfoIs name t) MapAsk q me h want = refl
quiet_token n j m from (kind.InfoIs name t) DeleteAsk q me h want = refl
quiet_token n j m from (kind.InfoIs name t) (DeleteIs d) q me h want = refl
quiet_token n j m from (kind.DeleteIs name t) MapAsk q me h want = refl
quiet_token n j m from (kind.DeleteIs name t) (MapIs u) q me h want = refl
quiet_token n j m from (kind.DeleteIs name t) DeleteAsk q me h want = refl
quiet_token n j m from (kind.InfoAsk name) (MapIs u) q me h want = refl
quiet_token n j m from (kind.InfoAsk name) DeleteAsk q me h want = refl
quiet_token n j m from (kind.InfoAsk name) (DeleteIs d) q me h want = refl
quiet_token n j m from (kind.DeleteAsk name) MapAsk q me h want = refl
quiet_token n j m from (kind.DeleteAsk name) (MapIs u) q me h want = refl
quiet_token n j m from (kind.DeleteAsk name) (DeleteIs d) q me h want = refl
quiet_token n j m from _ MapAsk q me h want = refl
quiet_token n j m from _ (MapIs u) q me h want = refl
quiet_token n j m from _ DeleteAsk q me h want = refl
quiet_token n j m from _ (DeleteIs d) q me h want = refl
