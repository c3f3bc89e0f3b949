-- What holds of a node by itself, as to who has a region.
use Rattle.std.proofs.Common.{◌≡◌, ℕ, ◌≤◌, ◌<◌, ◌==◌, List, [], ◌∷◌, refl, sym, subst, arith}
use Rattle.std.specs.List.{AllByRecursion}
use Rattle.std.proofs.lemmas.Bool.{cond_both}
use Rattle.crl_model.specs.declared.name.Name.{Name}
use Rattle.crl_model.specs.declared.stage.Stage.TheVariants as stage
use Rattle.crl_model.specs.declared.call.Call.{Call}
use Rattle.crl_model.specs.declared.entry.What.{What}
use Rattle.crl_model.specs.declared.message.Message.{Message}
use Rattle.crl_protocol.specs.Lifetimes.{Lifetime}
use Rattle.crl_protocol.specs.Node.{Node, Outcome, lifetime_of}
use Rattle.crl_protocol.specs.World.{new_world}
use Rattle.crl_deeds.specs.Deeds.{Cause, Calls, Hears, Copies, Rounds, Notes, Deed, copies, lives, rounds, notes, home_opens, comes_away, flushes_own}
use Rattle.crl_deeds.specs.Counts.{Counted, Plain, NoneYet}
use Rattle.crl_deeds.specs.Turns.{Came, Local, Held}
use Rattle.crl_deeds.proofs.Laws.{counted_local, counted_start, lives_frame, none_local}
use Rattle.crl_lifetime.proofs.Sending.{Sent, sent_part, sent_deed}
use Rattle.crl_lifetime.proofs.Asking.{LifeFits, no_fits, life_lives}
use Rattle.crl_lifetime.proofs.Having.{OneEach, NoneOwn, own_lives, each_lives, each_copies, each_rounds}
use Rattle.crl_lifetime.proofs.Moving.{OwnMade, made_lives, zero_lives}

-- All of it, after a deed.
pub record Lived (count i : ℕ) (n : Node) : Type 0 where
  pub counted : Counted count i n
  pub life : (q : Name) → LifeFits count n.me (lifetime_of n q)
  pub each : OneEach n
  pub own : NoneOwn n
  pub made : OwnMade n
  pub none : NoneYet n
  pub zero : (n.lifetimes 0).stage ≡ stage.Unknown
  pub past : count ≤ i → (s : ℕ) → (n.lifetimes s).stage ≡ stage.Unknown

abbrev pub Spoken : ℕ → Message → Type 0
Spoken count m = Plain count m × Sent m

lived_copies : (count i : ℕ) (n : Node) (cause : Cause) (o : Outcome) → Copies n cause o → Counted count i o.node → NoneYet o.node → OneEach o.node → Lived count i n → Lived count i o.node
lived_copies count i n cause o (home_opens c write name h is e v x) k none each l = record { counted = k; life = l.life; each = each; own = l.own; made = l.made; none = none; zero = l.zero; past = l.past }
lived_copies count i n cause o _ k none each l = record { counted = k; life = l.life; each = each; own = l.own; made = l.made; none = none; zero = l.zero; past = l.past }

lived_rounds : (count i : ℕ) (n : Node) (cause : Cause) (o : Outcome) → Rounds n cause o → Counted count i o.node → NoneYet o.node → OneEach o.node → Lived count i n → Lived count i o.node
lived_rounds count i n cause o (comes_away part other fits) k none each l = record { counted = k; life = l.life; each = each; own = l.own; made = l.made; none = none; zero = l.zero; past = l.past }
lived_rounds count i n cause o _ k none each l = record { counted = k; life = l.life; each = each; own = l.own; made = l.made; none = none; zero = l.zero; past = l.past }

lived_notes : (count i : ℕ) (n : Node) (c : Call) (w : What) (m : Node) → Notes n c w m → Counted count i m → Lived count i n → Lived count i m
lived_notes count i n c w m (flushes_own name mine closed) k l = record { counted = k; life = l.life; each = l.each; own = l.own; made = l.made; none = l.none; zero = l.zero; past = l.past }
lived_notes count i n c w m _ k l = record { counted = k; life = l.life; each = l.each; own = l.own; made = l.made; none = l.none; zero = l.zero; past = l.past }

plain_came : (count me : ℕ) (cause : Cause) → Came (Spoken count) me cause → Came (Plain count) me cause
plain_came count me (Calls c) f = tt
plain_came count me (Hears from k) f = f.0

both_all : {A : Type 0} (P Q : A → Type 0) (xs : List A) → AllByRecursion P xs → AllByRecursion Q xs → AllByRecursion (λ x. P x × Q x) xs
both_all P Q [] h k = tt
both_all P Q (x ∷ xs) h k = ((h.0, k.0), both_all P Q xs h.1 k.1)

lived_at : (count i : ℕ) (n : Node) (cause : Cause) (o : Outcome) → i < count → Deed n cause o → Counted count i o.node → NoneYet o.node → Came (Plain count) n.me cause → Lived count i n → Lived count i o.node
lived_at count i n cause o few (copies d) k none f l = lived_copies count i n cause o d k none (each_copies n cause o d l.each) l
lived_at count i n cause o few (rounds d) k none f l = lived_rounds count i n cause o d k none (each_rounds n cause o d l.each) l
lived_at count i n cause o few (notes d) k none f l = lived_notes count i n _ _ _ d k l
lived_at count i n cause o few (lives d) k none f l = record {
  counted = k;
  life = λ q. subst (λ me. LifeFits count me (lifetime_of o.node q)) (sym (lives_frame n cause o d).me) (life_lives count n cause o d l.counted.few l.counted.asked f l.life q);
  each = each_lives n cause o d l.counted.waits l.own l.each;
  own = λ q mine. own_lives n cause o d l.own q mine;
  made = made_lives n cause o d l.none l.counted.waits l.made;
  none = none;
  zero = zero_lives n cause o d l.zero;
  past = λ far. absurd (omega arith);
}
lived_at count i n cause o few _ k none f l = l

lived_deed : (count i : ℕ) (n : Node) (cause : Cause) (o : Outcome) → i < count → Deed n cause o → Came (Spoken count) i cause → Lived count i n → Lived count i o.node × AllByRecursion (Spoken count) o.posts
lived_deed count i n cause o few d f l =
    let c = (counted_local count).deed i n cause o few d (plain_came count i cause f) l.counted in
    let g = subst (λ me. Came (Spoken count) me cause) (sym l.counted.me) f in (
      lived_at count i n cause o few d c.0 ((none_local count).deed i n cause o few d (any_came i cause) l.none).0 (plain_came count n.me cause g) l,
      both_all (Plain count) Sent o.posts c.1 (sent_deed count n cause o d g),
    )
  where
    any_came : (i : ℕ) (cause : Cause) → Came (λ m. Unit {0}) i cause
    any_came i (Calls c) = tt
    any_came i (Hears from k) = tt

pub lived_local : (count : ℕ) → Local count (Lived count) (Spoken count)
lived_local count = record {
  deed = lived_deed count;
  boxes = λ i n inbox outbox parcels records notes posted l. record { counted = (counted_local count).boxes i n inbox outbox parcels records notes posted l.counted; life = l.life; each = l.each; own = l.own; made = l.made; none = l.none; zero = l.zero; past = l.past };
  answered = λ i n answer e l. record { counted = (counted_local count).answered i n answer e l.counted; life = l.life; each = λ q. let a = l.each q in omega arith; own = l.own; made = l.made; none = l.none; zero = l.zero; past = l.past };
  parts = λ m part h. ((counted_local count).parts m part h.0, sent_part m.sender m.addressee part m.kind h.1);
}

pub lived_start : (count capacity : ℕ) → Held (Lived count) (Spoken count) (new_world count capacity)
lived_start count capacity i = record {
  node = record {
    counted = (counted_start count capacity i).node;
    life = λ q. cond_both (q.home == i) _ _ (λ (l : Lifetime). LifeFits count i l) (λ w. no_fits count i) (λ w. no_fits count i);
    each = λ q. omega arith;
    own = λ q mine. refl;
    made = λ q mine. omega arith;
    none = λ s l. refl;
    zero = refl;
    past = λ far s. refl;
  };
  inbox = tt;
  outbox = tt;
}
