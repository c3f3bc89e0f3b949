-- What an event of another node, and a message that a node hears, leaves of a world for node n.
use Rattle.std.proofs.Common.{◌≡◌, ℕ, ◌<◌, ◌==◌, Bool, Some, List, refl, ap, sym, ◌∙◌, subst, arith}
use Rattle.std.proofs.lemmas.Bool.{cond_both, cond-true, eqb-true, eq-eqb}
use Rattle.crl_model.specs.declared.name.Name.{Name}
use Rattle.crl_model.specs.declared.stage.Stage.TheVariants as stage
use Rattle.crl_model.specs.declared.event.Event.{Event}
use Rattle.crl_model.specs.declared.message.Message.{Message}
use Rattle.crl_model.specs.Names.{at_node}
use Rattle.crl_protocol.specs.Parcels.{Piece, with_load, Key, key_of, PartsGathered}
use Rattle.crl_protocol.specs.Places.{Took}
use Rattle.crl_protocol.specs.Node.{Node, Done, Activity, Outcome, only, lifetime_of}
use Rattle.crl_protocol.specs.World.{World, note, put_in, commits, steps_node, carries}
use Rattle.crl_deeds.specs.Counts.{Plain}
use Rattle.crl_deeds.specs.Deeds.{Hears, Deed}
use Rattle.crl_deeds.specs.Tokens.{on_piece, NoMail}
use Rattle.crl_deeds.specs.Turns.{Frame, HeldIn, HeldOut}
use Rattle.crl_deeds.proofs.Laws.{deed_frame, all_took, each_at, weigh_took, keyed_none, part_same, with_rest}
use Rattle.crl_talk.proofs.Asking.{AskedAs, hears_as}
use Rattle.crl_talk.proofs.Effects.{KeepsGoing, Lasts, same}
use Rattle.crl_talk.proofs.Heard.{Ground, is_away}
use Rattle.crl_talk.proofs.Pending.{Waits, Calm, Hearing}
use Rattle.crl_talk.proofs.Weights.{nothing, removed, sum_rest, sum_le, table_le, sum_stepped, sum_carried, token, token_mail, token_whole, token_near}

-- a node that takes another value
at_other : (R : Node → Type 0) (nodes : ℕ → Node) (j i : ℕ) (x : Node) → (j ≡ i → R x) → R (nodes i) → R (at_node nodes j x i)
at_other R nodes j i x here there = cond_both (j == i) _ _ R (λ e. here (eqb-true j i e)) (λ e. there)

-- A step of node j.
act_after : (n : ℕ) (w : World) (j : ℕ) (e : Event) (o : Outcome) → (j ≡ n → Lasts (w.nodes j).activity o.node.activity) → Lasts (w.nodes n).activity ((steps_node j e o w).world.nodes n).activity
act_after n w j e o h = at_other (λ x. Lasts (w.nodes n).activity x.activity) w.nodes j n (commits w.events e o) (λ s. subst (λ i. Lasts (w.nodes i).activity o.node.activity) s (h s)) same

stays_after : (n : ℕ) (w : World) (j : ℕ) (e : Event) (o : Outcome) (q : Name) → ((lifetime_of (w.nodes j) q).stage ≡ stage.Going n → (lifetime_of o.node q).stage ≡ stage.Going n)
    → (lifetime_of (w.nodes q.home) q).stage ≡ stage.Going n → (lifetime_of ((steps_node j e o w).world.nodes q.home) q).stage ≡ stage.Going n
stays_after n w j e o q h g = at_other (λ x. (lifetime_of x q).stage ≡ stage.Going n) w.nodes j q.home (commits w.events e o) (λ s. h (subst (λ i. (lifetime_of (w.nodes i) q).stage ≡ stage.Going n) (sym s) g)) g

asked_after : (n : ℕ) (w : World) (j : ℕ) (e : Event) (o : Outcome) (write : Bool) (q : Name) → (j ≡ n → AskedAs write q (w.nodes j) → AskedAs write q o.node) → AskedAs write q (w.nodes n) → AskedAs write q ((steps_node j e o w).world.nodes n)
asked_after n w j e o write q h a =
    at_other (λ x. AskedAs write q x) w.nodes j n (commits w.events e o) (λ s. (let b = h s (subst (λ i. AskedAs write q (w.nodes i)) (sym s) a) in record { home = b.home; side = b.side })) a

-- A step of another node that takes no message.
pub other_calm : (n : ℕ) (w : World) (j : ℕ) (e : Event) (o : Outcome) → j < w.count → Frame (w.nodes j) o.node → (j ≡ n → ⊥) → KeepsGoing n (w.nodes j) o.node → Calm n w (steps_node j e o w).world
other_calm n w j e o few frame apart keeps = record {
  count = refl;
  act = act_after n w j e o (λ s. absurd (apart s));
  asked = λ write q waits a. asked_after n w j e o write q (λ s. absurd (apart s)) a;
  going = λ q x. stays_after n w j e o q (keeps q) x;
  kept = λ k q want some. (let s = sum_stepped (token k n q) (token_whole k n q) w j (w.nodes j) e 0 o few frame refl (omega arith) in omega arith);
}

-- A piece that is only kept.
pub gather_calm : (n : ℕ) (w : World) (j : ℕ) (e : Event) (p : Piece) (rest : List Piece) (parcels : PartsGathered) (key : Key) → j < w.count → Took p (w.nodes j).inbox rest → key_of p.message ≡ Some key
    → Calm n w (steps_node j e (only (record (w.nodes j) { inbox = rest; parcels = parcels }) Done) w).world
gather_calm n w j e p rest parcels key few took keyed = record {
  count = refl;
  act = act_after n w j e o (λ s. same);
  asked = λ write q waits a. asked_after n w j e o write q (λ s b. record { home = b.home; side = b.side }) a;
  going = λ q x. stays_after n w j e o q (λ y. y) x;
  kept = λ k q want some.
      (let none = keyed_none (token k n q) (token_mail k n q) p.message.sender p.message.addressee p.message.kind key keyed in
      let out = weigh_took (on_piece (token k n q)) took in
      let s = sum_stepped (token k n q) (token_whole k n q) w j m e (token k n q p.message) o few (record { me = refl; nodes = refl; capacity = refl; inbox = refl; outbox = refl; parcels = refl }) refl (sym out) in omega arith);
}
  where
    m : Node
    m = record (w.nodes j) { inbox = rest; parcels = parcels }

    o : Outcome
    o = only (record (w.nodes j) { inbox = rest; parcels = parcels }) Done

-- A piece that is carried.
record SameBut (n m : Node) : Type 0 where
  act : m.activity ≡ n.activity
  asked : (write : Bool) (q : Name) → AskedAs write q n → AskedAs write q m
  lifetime : (q : Name) → (lifetime_of m q).stage ≡ (lifetime_of n q).stage

pub carried_calm : (n : ℕ) (w : World) (j : ℕ) (e : Event) (p : Piece) (rest : List Piece) → j < w.count → Took p (w.nodes j).outbox rest → Ground w → Calm n w (carries j e (Some (record { taken = p; rest = rest })) w).world
carried_calm n w j e p rest few took g = record {
  count = refl;
  act = subst (λ a. Lasts (w.nodes n).activity a) (sym (both n).act) same;
  asked = λ write q waits a. (both n).asked write q a;
  going = λ q x. (both q.home).lifetime q ∙ x;
  kept = λ k q want some.
      (let near = token_near k n q w.count p.message.sender p.message.addressee p.message.kind (all_took (HeldOut (Plain w.count)) took (g.known.held j).outbox).0.1 in
      let s = sum_carried (token k n q) w j e p rest few took near in omega arith);
}
  where
    R : ℕ → Node → Type 0
    R i x = SameBut (w.nodes i) x

    sent : ℕ → Node
    sent = at_node w.nodes j (note w.events e (record (w.nodes j) { outbox = rest }))

    one : (i : ℕ) → R i (sent i)
    one = each_at R w.nodes j _ (λ i. record { act = refl; asked = λ write q a. a; lifetime = λ q. refl }) (record { act = refl; asked = λ write q a. record { home = a.home; side = a.side }; lifetime = λ q. refl })

    both : (i : ℕ) → R i (at_node sent p.message.addressee (put_in p (sent p.message.addressee)) i)
    both = each_at R sent p.message.addressee _ one (let b = one p.message.addressee in record { act = b.act; asked = λ write q a. (let c = b.asked write q a in record { home = c.home; side = c.side }); lifetime = b.lifetime })

-- A message that node j hears.
pub hearing : (n : ℕ) (w : World) (j : ℕ) (e : Event) (p : Piece) (rest : List Piece) (parcels : PartsGathered) (part : List ℕ) (o : Outcome) → j < w.count → Took p (w.nodes j).inbox rest
    → Deed (record (w.nodes j) { inbox = rest; parcels = parcels }) (Hears p.message.sender (with_load part p.message.kind)) o → Ground w → Waits n w → Hearing n w (steps_node j e o w).world j p.message.sender (with_load part p.message.kind) o
hearing n w j e p rest parcels part o few took d g tokens = record {
  few = few;
  me = λ i. (g.known.fits i).me;
  count = refl;
  tokens = tokens;
  came = λ h t mail blind. (let x = sum_rest h t blind w j p rest parcels few took in let y = weight h mail in omega arith);
  two = λ f h t fm hm blind le.
      (let a = sum_rest f nothing (λ m i u p r t s. refl) w j p rest parcels few took in
      let b = sum_rest h t blind w j p rest parcels few took in
      let c = sum_le f h t le (removed w j rest parcels) in
      let y = weight f fm in
      let z = weight h hm in omega arith);
  table = λ h t mail blind i small.
      (let b = sum_rest h t blind w j p rest parcels few took in
      let c = table_le h t (removed w j rest parcels) i small in
      let z = weight h mail in
      let there : t ((removed w j rest parcels).nodes i) ≡ t (w.nodes i) = at_other (λ x. t x ≡ t (w.nodes i)) w.nodes j i m (λ s. blind (w.nodes j) _ _ _ _ _ _ ∙ ap (λ k. t (w.nodes k)) s) refl in omega arith);
  step = λ f mail whole.
      (let out = weigh_took (on_piece f) took in
      let s = sum_stepped f whole w j m e (f p.message) o few (deed_frame _ _ _ d) refl (sym out) in
      let z = weight f mail in omega arith);
  act = act_after n w j e o;
  ready = λ a s now. at_other_ready a s now;
  stays = λ q h x. stays_after n w j e o q h x;
  begins_at = λ q s x. ap (λ (y : Node). (lifetime_of y q).stage) (cond-true (j == q.home) _ _ (eq-eqb j q.home (sym s))) ∙ x;
  asked = λ write q waits a. asked_after n w j e o write q
      (λ s b. hears_as j m _ _ o write q d (with_rest j (w.nodes j) p rest parcels took (g.known.fits j)) (is_away j (w.nodes j) p rest part took (g.known.fits j)) (ap (λ i. (w.nodes i).activity) s ∙ waits) (record { home = b.home; side = b.side })) a;
}
  where
    m : Node
    m = record (w.nodes j) { inbox = rest; parcels = parcels }

    weight : (f : Message → ℕ) → NoMail f → f p.message ≡ f (record { sender = p.message.sender; addressee = j; kind = with_load part p.message.kind })
    weight f mail = sym (part_same f mail p.message.sender p.message.addressee part p.message.kind) ∙ ap (λ a. f (record { sender = p.message.sender; addressee = a; kind = with_load part p.message.kind })) (all_took (HeldIn (Plain w.count) j) took (g.known.held j).inbox).0.1

    at_other_ready : (a : Activity) → j ≡ n → o.node.activity ≡ a → ((steps_node j e o w).world.nodes n).activity ≡ a
    at_other_ready a s now = ap (λ (x : Node). x.activity) (cond-true (j == n) _ _ (eq-eqb j n s)) ∙ now
