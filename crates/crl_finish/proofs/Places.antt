-- A node at a place of its script: which sections it has open there, what it waits for, and to how many rounds it came. What
-- a call, a message and an answer make of it.
use Rattle.std.proofs.Common.{◌≡◌, ℕ, ◌+◌, Bool, true, false, not, if◌then◌else◌, None, Some, Option, List, ◌∷◌, refl, ap, sym, ◌∙◌, subst, arith}
use Rattle.std.proofs.Math.Logic.{inl, inr}
use Rattle.std.proofs.lemmas.Bool.{and_parts}
use Rattle.crl_model.specs.declared.name.Name.{Name}
use Rattle.crl_model.specs.declared.call.Call.{Call}
use Rattle.crl_model.specs.declared.call.Call.TheVariants as call
use Rattle.crl_model.specs.declared.call.Refusal.{Refusal}
use Rattle.crl_model.specs.declared.collective.Part.{Part}
use Rattle.crl_model.specs.declared.directory.Section.{Section}
use Rattle.crl_model.specs.declared.directory.Section.TheVariants.{Closed}
use Rattle.crl_model.specs.declared.statement.Statement.{Statement}
use Rattle.crl_model.specs.declared.statement.Statement.TheVariants as statement
use Rattle.crl_protocol.specs.Sections.{Sections, section_at, count_of}
use Rattle.crl_protocol.specs.Node.{Node, Activity, Waiting, ForSection, ForRound}
use Rattle.crl_protocol.specs.Verdict.{verdict, of_part}
use Rattle.crl_protocol.specs.Chosen.{Actor, call_of, is_allowed}
use Rattle.crl_deeds.specs.Deeds.{StartsCall, CanEnd}
use Rattle.crl_deeds.specs.Deeds as deed
use Rattle.crl_deeds.proofs.Laws.{same_name, read_ends_open, write_ends_open}
use Rattle.crl_talk.proofs.Laws.{AskedAs}
use Rattle.crl_finish.specs.Unnested.{Within, Outside, Inside, within_start, is_end_of, is_outer, is_unnested_from, rounds_of, rounds_in}
use Rattle.crl_finish.proofs.Effects.{IsCalm, EndsAs, ends_read, ends_write, IsPlain, CallEffect, opens, begins, ends, comes, refused, keeps}
use Rattle.crl_finish.proofs.Opened.{section_to, MayBe, AreWithin, closed_within, opened_within, others_closed, ended_within}

-- who waits for a section, or in a round, has none open
abbrev pub Shut : Activity → Sections → Type 0
Shut (Waiting (ForSection name)) s = AreWithin Outside s
Shut (Waiting (ForRound round kind)) s = AreWithin Outside s
Shut _ s = Unit {0}

closed_shut : (a : Activity) (s : Sections) → AreWithin Outside s → Shut a s
closed_shut (Waiting (ForSection name)) s h = h
closed_shut (Waiting (ForRound round kind)) s h = h
closed_shut _ s h = tt

pub calm_shut : (a : Activity) (s : Sections) → IsCalm a → Shut a s
calm_shut (Waiting (ForSection name)) s h = absurd h
calm_shut (Waiting (ForRound round kind)) s h = absurd h
calm_shut _ s h = tt

pub calm_waits : (a : Activity) (name : Name) → IsCalm a → a ≡ Waiting (ForSection name) → ⊥
calm_waits a name h e = subst IsCalm e h

-- The node has these statements left, and comes to so many rounds in all.
pub record IsAt (n : Node) (left : List Statement) (total : ℕ) : Type 0 where
  pub within : Within
  pub unnested : is_unnested_from within left ≡ true
  pub sections : AreWithin within n.sections
  pub asked : (name : Name) → n.activity ≡ Waiting (ForSection name) → (write : Bool) × AskedAs write name n × (within ≡ Inside write name)
  pub shut : Shut n.activity n.sections
  pub rounds : n.rounds + rounds_in left ≡ total

-- A statement stands for the call that is made for it.
pub made_unnested : (n : Node) (a : Actor) (w : Within) (s : Statement) (left : List Statement) → is_unnested_from w (s ∷ left) ≡ is_unnested_from w (statement.Call (call_of n a s) ∷ left)
made_unnested n a Outside (statement.Call (call.EndWrite name after)) left = refl
made_unnested n a Outside (statement.Call _) left = refl
made_unnested n a Outside (statement.Put name offset bytes) left = refl
made_unnested n a Outside (statement.Add name offset number) left = refl
made_unnested n a (Inside write q) (statement.Call (call.EndWrite name after)) left = refl
made_unnested n a (Inside write q) (statement.Call _) left = refl
made_unnested n a (Inside write q) (statement.Put name offset bytes) left = refl
made_unnested n a (Inside write q) (statement.Add name offset number) left = refl

pub made_rounds : (n : Node) (a : Actor) (s : Statement) → rounds_of s ≡ rounds_of (statement.Call (call_of n a s))
made_rounds n a (statement.Call (call.EndWrite name after)) = refl
made_rounds n a (statement.Call _) = refl
made_rounds n a (statement.Put name offset bytes) = refl
made_rounds n a (statement.Add name offset number) = refl

-- what kind of statement a call is
starts_within : (c : Call) (write : Bool) (name : Name) → StartsCall c write name → within_start (statement.Call c) ≡ Inside write name
starts_within c write name (deed.to_read q) = refl
starts_within c write name (deed.to_write q) = refl

starts_outer : (c : Call) (write : Bool) (name : Name) → StartsCall c write name → is_outer (statement.Call c) ≡ true
starts_outer c write name (deed.to_read q) = refl
starts_outer c write name (deed.to_write q) = refl

starts_none : (c : Call) (write : Bool) (name : Name) → StartsCall c write name → rounds_of (statement.Call c) ≡ 0
starts_none c write name (deed.to_read q) = refl
starts_none c write name (deed.to_write q) = refl

ends_none : (c : Call) (write : Bool) (name : Name) → EndsAs c write name → rounds_of (statement.Call c) ≡ 0
ends_none c write name (ends_read q) = refl
ends_none c write name (ends_write q after) = refl

end_so : (c : Call) (write : Bool) (name : Name) → is_end_of write name (statement.Call c) ≡ true → EndsAs c write name
end_so (call.EndRead q) false name e = subst (λ p. EndsAs (call.EndRead q) false p) (same_name q name e) (ends_read q)
end_so (call.EndRead q) true name e = cc
end_so (call.EndWrite q after) true name e = subst (λ p. EndsAs (call.EndWrite q after) true p) (same_name q name e) (ends_write q after)
end_so (call.EndWrite q after) false name e = cc
end_so _ write name e = cc

plain_end : (c : Call) (write : Bool) (name : Name) → IsPlain c → is_end_of write name (statement.Call c) ≡ false
plain_end (call.EndRead q) write name h = absurd h
plain_end (call.EndWrite q after) write name h = absurd h
plain_end _ write name h = refl

plain_none : (c : Call) → IsPlain c → rounds_of (statement.Call c) ≡ 0
plain_none (call.Come part) h = absurd h
plain_none _ h = refl

some_refused : (o : Option Refusal) (why : Refusal) → o ≡ Some why → ◌≡◌ {A = ℕ} (if is_allowed o then 1 else 0) 0
some_refused None why e = cc
some_refused (Some x) why e = refl

refused_none : (n : Node) (c : Call) (why : Refusal) → verdict n c ≡ Some why → rounds_of (statement.Call c) ≡ 0
unfolding verdict
refused_none n (call.Come part) why e = some_refused (of_part part) why e
refused_none n _ why e = refl

comes_one : (c : Call) (part : Part) → c ≡ call.Come part → of_part part ≡ None → rounds_of (statement.Call c) ≡ 1
comes_one c part e f = ap (λ x. rounds_of (statement.Call x)) e ∙ ap (λ o. if is_allowed o then 1 else 0) f

open_end : (n : Node) (write : Bool) (name : Name) → CanEnd n write name → section_at name n.sections ≡ Closed → ⊥
open_end n true name can e = let w = sym (write_ends_open n name can) ∙ e in cc
open_end n false name can e = let some = read_ends_open n name can in let none = ap (λ s. count_of s) e in omega arith

-- A node after a step that leaves all its sections closed.
closed_at : (m : Node) (w : Within) (left : List Statement) (total : ℕ) → is_unnested_from w left ≡ true → AreWithin Outside m.sections → ((name : Name) → m.activity ≡ Waiting (ForSection name) → ⊥) → m.rounds + rounds_in left ≡ total → IsAt m left total
closed_at m w left total e closed waits rounds = record {
  within = w;
  unnested = e;
  sections = closed_within w m.sections closed;
  asked = λ name a. absurd (waits name a);
  shut = closed_shut m.activity m.sections closed;
  rounds = rounds;
}

-- and after one that leaves them as they are, waiting for none
same_at : (n m : Node) (w : Within) (left : List Statement) (total : ℕ) → is_unnested_from w left ≡ true → AreWithin w n.sections → m.sections ≡ n.sections → IsCalm m.activity → m.rounds + rounds_in left ≡ total → IsAt m left total
same_at n m w left total e h s calm rounds = record {
  within = w;
  unnested = e;
  sections = subst (AreWithin w) (sym s) h;
  asked = λ name a. absurd (calm_waits m.activity name calm a);
  shut = calm_shut m.activity m.sections calm;
  rounds = rounds;
}

section_same : (p q : Name) → ◌≡◌ {A = Activity} (Waiting (ForSection p)) (Waiting (ForSection q)) → p ≡ q
section_same p q e = cc

-- A call, made outside of sections, and inside of one.
abbrev pub EndsOpen : Node → Call → Type 0
EndsOpen n c = (write : Bool) (name : Name) → EndsAs c write name → section_at name n.sections ≡ section_to write → verdict n c ≡ None

call_outside : (n m : Node) (c : Call) (left : List Statement) (total : ℕ) → CallEffect n c m → is_unnested_from (within_start (statement.Call c)) left ≡ true → AreWithin Outside n.sections
    → n.rounds + (rounds_of (statement.Call c) + rounds_in left) ≡ total → IsAt m left total
call_outside n m c left total (opens write name bytes is can s calm r) e h k =
    let none = starts_none c write name is in record {
      within = Inside write name;
      unnested = ap (λ w. is_unnested_from w left) (sym (starts_within c write name is)) ∙ e;
      sections = subst (AreWithin (Inside write name)) (sym s) (opened_within write name bytes n.sections h);
      asked = λ q a. absurd (calm_waits m.activity q calm a);
      shut = calm_shut m.activity m.sections calm;
      rounds = omega arith;
    }
call_outside n m c left total (begins write name is asks waits s r) e h k =
    let none = starts_none c write name is in
    let closed = subst (AreWithin Outside) (sym s) h in record {
      within = Inside write name;
      unnested = ap (λ w. is_unnested_from w left) (sym (starts_within c write name is)) ∙ e;
      sections = closed_within (Inside write name) m.sections closed;
      asked = λ q a. subst (λ p. (x : Bool) × AskedAs x p m × (Inside write name ≡ Inside x p)) (section_same name q (sym waits ∙ a)) (write, asks, refl);
      shut = closed_shut m.activity m.sections closed;
      rounds = omega arith;
    }
call_outside n m c left total (ends write name is can s calm r) e h k =
    let none = ends_none c write name is in
    closed_at m (within_start (statement.Call c)) left total e (subst (AreWithin Outside) (sym s) (ended_within write name n.sections (closed_within (Inside write name) n.sections h)))
    (λ q a. calm_waits m.activity q calm a) (omega arith)
call_outside n m c left total (comes part is fits s waits r) e h k =
    let one = comes_one c part is fits in closed_at m (within_start (statement.Call c)) left total e (subst (AreWithin Outside) (sym s) h) waits (omega arith)
call_outside n m c left total (refused why v s calm r) e h k =
    let none = refused_none n c why v in closed_at m (within_start (statement.Call c)) left total e (subst (AreWithin Outside) (sym s) h) (λ q a. calm_waits m.activity q calm a) (omega arith)
call_outside n m c left total (keeps plain s calm r) e h k =
    let none = plain_none c plain in closed_at m (within_start (statement.Call c)) left total e (subst (AreWithin Outside) (sym s) h) (λ q a. calm_waits m.activity q calm a) (omega arith)

ended_here : (write : Bool) (name q : Name) (x : Section) → MayBe (Inside write name) q x → (x ≡ Closed → ⊥) → q ≡ name
ended_here write name q x (inl e) h = absurd (h e)
ended_here write name q x (inr e) h = e.0

refused_end : (n : Node) (c : Call) (write : Bool) (name : Name) (why : Refusal) → verdict n c ≡ Some why → EndsAs c write name → EndsOpen n c → (x : Section) → section_at name n.sections ≡ x → MayBe (Inside write name) name x → x ≡ Closed
refused_end n c write name why v is may x same (inl e) = e
refused_end n c write name why v is may x same (inr e) = let none = may write name is (same ∙ e.1) in let both = sym none ∙ v in cc

call_inside : (n m : Node) (c : Call) (write : Bool) (name : Name) (left : List Statement) (total : ℕ) → CallEffect n c m → is_outer (statement.Call c) ≡ false
    → is_unnested_from (if is_end_of write name (statement.Call c) then Outside else Inside write name) left ≡ true → AreWithin (Inside write name) n.sections → EndsOpen n c
    → n.rounds + (rounds_of (statement.Call c) + rounds_in left) ≡ total → IsAt m left total
call_inside n m c write name left total (opens x q bytes is can s calm r) out e h may k = let outer = starts_outer c x q is in let both = sym outer ∙ out in cc
call_inside n m c write name left total (begins x q is asks waits s r) out e h may k = let outer = starts_outer c x q is in let both = sym outer ∙ out in cc
call_inside n m c write name left total (comes part is fits s waits r) out e h may k = let outer = ap (λ y. is_outer (statement.Call y)) is in let both = sym outer ∙ out in cc
call_inside n m c write name left total (ends x q is can s calm r) out e h may k =
    let none = ends_none c x q is in
    let here = ended_here write name q (section_at q n.sections) (h q) (open_end n x q can) in
    closed_at m (if is_end_of write name (statement.Call c) then Outside else Inside write name) left total e
    (subst (AreWithin Outside) (sym s) (ended_within write q n.sections (subst (λ p. AreWithin (Inside write p) n.sections) (sym here) h)))
    (λ p a. calm_waits m.activity p calm a) (omega arith)
call_inside n m c write name left total (refused why v s calm r) out e h may k = go (is_end_of write name (statement.Call c)) refl e
  where
    none : rounds_of (statement.Call c) ≡ 0
    none = refused_none n c why v

    go : (b : Bool) → is_end_of write name (statement.Call c) ≡ b → is_unnested_from (if b then Outside else Inside write name) left ≡ true → IsAt m left total
    go true is e =
        let closed = refused_end n c write name why v (end_so c write name is) may (section_at name n.sections) refl (h name) in
        same_at n m Outside left total e (λ q. others_closed write name q (section_at q n.sections) (λ same. ap (λ p. section_at p n.sections) same ∙ closed) (h q)) s calm (let z = none in omega arith)
    go false is e = same_at n m (Inside write name) left total e h s calm (let z = none in omega arith)
call_inside n m c write name left total (keeps plain s calm r) out e h may k =
    let none = plain_none c plain in
    let on = plain_end c write name plain in
    same_at n m (Inside write name) left total (ap (λ b. is_unnested_from (if b then Outside else Inside write name) left) (sym on) ∙ e) h s calm (omega arith)

pub call_at : (n m : Node) (c : Call) (w : Within) (left : List Statement) (total : ℕ) → CallEffect n c m → is_unnested_from w (statement.Call c ∷ left) ≡ true → AreWithin w n.sections → EndsOpen n c
    → n.rounds + (rounds_of (statement.Call c) + rounds_in left) ≡ total → IsAt m left total
call_at n m c Outside left total effect e h may k = call_outside n m c left total effect e h k
call_at n m c (Inside write name) left total effect e h may k =
    let parts = and_parts (not (is_outer (statement.Call c))) _ e in call_inside n m c write name left total effect (inner (is_outer (statement.Call c)) parts.0) parts.1 h may k
  where
    inner : (b : Bool) → not b ≡ true → b ≡ false
    inner true x = cc
    inner false x = refl
