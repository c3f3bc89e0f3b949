-- The guards of a free node fit its open sections, and are there where a verdict needs them.
use Rattle.std.proofs.Common.{◌≡◌, ◌∙◌, sym, ap, refl, ◌&&◌, ◌==◌, nat_eq, nat_lt, not, Bool, true, false, Option, Some, None, ℕ, ◌+◌, ◌≤◌, List, [], ◌∷◌, ◌++◌, length, subst, arith}
use Rattle.std.specs.Cmp.Lexicographic.{pointwise}
use Rattle.std.proofs.lemmas.Bool.{eq-eqb, eqb-false, ltb-false}
use Rattle.crl_model.specs.declared.name.Name.{Name}
use Rattle.crl_model.specs.declared.call.Call.TheVariants as call
use Rattle.crl_model.specs.declared.call.Refusal.{Refusal}
use Rattle.crl_model.specs.declared.call.Refusal.TheVariants as refusal
use Rattle.crl_model.specs.declared.statement.Statement.{Statement}
use Rattle.crl_model.specs.declared.statement.Statement.TheVariants as statement
use Rattle.crl_model.specs.declared.event.Event.{Event}
use Rattle.crl_protocol.specs.Sections.{Guard, OpenSection, section_of, section_at, section_bytes, count_of, is_writing}
use Rattle.crl_protocol.specs.Node.{Node, Free}
use Rattle.crl_protocol.specs.Verdict.{verdict, of_change, mapped_size}
use Rattle.crl_protocol.specs.Talk.{hears}
use Rattle.crl_protocol.specs.World.{new_world, world_of, IsRunFrom}
use Rattle.crl_talk.specs.Guards.{Given, given_yet, without_newest, guards_held, AreGuards, closed, writing, reading, nested, bytes_held}
use Rattle.crl_talk.proofs.Laws.{sections_are_guards, bytes_of}
use Rattle.crl_deeds.proofs.Laws.{known_start, known_run, open_size, not_refused, none_of}
use Rattle.crl_member.specs.Fitting.{fits_open_read, fits_open_write, fits_reading, fits_writing}
use Rattle.crl_run.specs.Players.{newest, IsOfKind, CanChange}
use Rattle.crl_model.specs.declared.call.Call as calls
use Rattle.crl_run.specs.declared.act.Act.{Act}
use Rattle.crl_run.specs.declared.act.Act.TheVariants as act
use Rattle.crl_run.specs.Acting.{CanAct, Acts, guard_spent}
use Rattle.crl_run.specs.Actors.{guards_of, AreReads, IsExclusive, asked_call}
use Rattle.crl_run.specs.Hearing.{AreLike, AreShown, HoldsHeard}
use Rattle.crl_run.proofs.Likeness.{newest_first, first_of}
use Rattle.crl_run.specs.Fits.{GuardFits}
use Rattle.crl_run.proofs.ActorLemmas.{newest_named}

-- Behind the newest guard there are only those of read sections.
all_read : (n : ℕ) (gs : List Given) (o : Option OpenSection) → AreGuards n gs o → is_writing (section_of o) ≡ false → AreReads gs
all_read n gs o closed e = tt
all_read n gs o (writing g x) e = cc
all_read n gs o (reading g x) e = (refl, tt)
all_read n gs o (nested g rest count number bytes x same some h) e = (refl, all_read n rest _ h refl)

behind_read : (n : ℕ) (gs : List Given) (o : Option OpenSection) → AreGuards n gs o → AreReads (without_newest gs)
behind_read n gs o closed = tt
behind_read n gs o (writing g x) = tt
behind_read n gs o (reading g x) = tt
behind_read n gs o (nested g rest count number bytes x same some h) = all_read n rest _ h refl

like_reads : (gs hs : List Given) → AreLike gs hs → AreReads hs → AreReads gs
like_reads [] [] h k = tt
like_reads (g ∷ gs) (x ∷ hs) h k = (h.0.write ∙ k.0, like_reads gs hs h.1 k.1)
like_reads [] (x ∷ hs) h k = absurd h
like_reads (g ∷ gs) [] h k = absurd h

like_behind : (gs hs : List Given) → AreLike gs hs → AreReads (without_newest hs) → AreReads (without_newest gs)
like_behind [] [] h k = tt
like_behind (g ∷ gs) (x ∷ hs) h k = like_reads gs hs h.1 k
like_behind [] (x ∷ hs) h k = absurd h
like_behind (g ∷ gs) [] h k = absurd h

-- The newest guard of an open read section, and of an open write section.
pub record ReadFits (n : ℕ) (o : Option OpenSection) (g : Given) : Type 0 where
  pub kind : g.write ≡ false
  pub node : g.guard.node ≡ n
  pub fits : fits_open_read g.guard o ≡ true

pub record WriteFits (n : ℕ) (o : Option OpenSection) (g : Given) : Type 0 where
  pub kind : g.write ≡ true
  pub node : g.guard.node ≡ n
  pub size : length g.guard.bytes ≡ length (section_bytes o)
  pub fits : fits_open_write g.guard o ≡ true

abbrev pub IsFirst : (Given → Type 0) → List Given → Type 0
IsFirst P [] = ⊥
IsFirst P (g ∷ gs) = P g

itself : (bs : List ℕ) → pointwise nat_eq bs bs ≡ true
itself [] = refl
itself (b ∷ bs) = (let one : nat_eq b b ≡ true = eq-eqb b b refl in let rest = itself bs in grind (arith, one, rest))

both_true : (a b c : Bool) → a ≡ true → b ≡ true → c ≡ true → (a && (b && c)) ≡ true
both_true a b c e f g = rw (e, f, g) refl

read_first : (n : ℕ) (gs hs : List Given) (o : Option OpenSection) → AreGuards n hs o → AreLike gs hs → AreShown hs → 1 ≤ count_of (section_of o) → IsFirst (ReadFits n o) gs
read_first n gs hs o closed like shown some = absurd (omega arith)
read_first n gs hs o (writing g x) like shown some = absurd (omega arith)
read_first n (g ∷ gs) hs o (reading h x) like shown some = record {
  kind = like.0.write;
  node = like.0.node ∙ x;
  fits = both_true _ _ _ refl (eq-eqb _ _ (sym like.0.number)) (ap (λ bs. pointwise nat_eq h.bytes bs) (like.0.read like.0.write) ∙ itself h.bytes);
}
read_first n [] hs o (reading h x) like shown some = absurd like
read_first n (g ∷ gs) hs o (nested h rest count number bytes x same one more) like shown some = record {
  kind = like.0.write;
  node = like.0.node ∙ x;
  fits = both_true _ _ _ refl (eq-eqb _ _ (sym (like.0.number ∙ same)))
      (let began : bytes ≡ bytes_held (record { write = false; guard = h } ∷ rest) = bytes_of n _ _ (nested h rest count number bytes x same one more) in
      let shows : g.guard.bytes ≡ bytes = like.0.read like.0.write ∙ shown.0 refl ∙ sym began in
      ap (λ bs. pointwise nat_eq bytes bs) shows ∙ itself bytes);
}
read_first n [] hs o (nested h rest count number bytes x same one more) like shown some = absurd like

write_first : (n : ℕ) (gs hs : List Given) (o : Option OpenSection) → AreGuards n hs o → AreLike gs hs → is_writing (section_of o) ≡ true → IsFirst (WriteFits n o) gs
write_first n gs hs o closed like e = cc
write_first n (g ∷ gs) hs o (writing h x) like e = record {
  kind = like.0.write;
  node = like.0.node ∙ x;
  size = like.0.size;
  fits = both_true _ _ _ refl (eq-eqb _ _ (sym like.0.number)) (eq-eqb _ _ like.0.size);
}
write_first n [] hs o (writing h x) like e = absurd like
write_first n gs hs o (reading h x) like e = cc
write_first n gs hs o (nested h rest count number bytes x same one more) like e = cc

both_are : (a b : Bool) → a ≡ true → b ≡ true → (a && b) ≡ true
both_are a b e f = rw (e, f) refl

same_end_verdict : (n : Node) (name : Name) (after other : List ℕ) → verdict n (call.EndWrite name after) ≡ verdict n (call.EndWrite name other)
unfolding verdict
same_end_verdict n name after other = refl

-- What a verdict says that refuses nothing.

not_not : (b : Bool) → not b ≡ false → b ≡ true
not_not true e = refl
not_not false e = cc

not_zero : (k : ℕ) → (k == 0) ≡ false → 1 ≤ k
not_zero k e = let ne = eqb-false k 0 e in grind arith

pub may_read : (n : Node) (name : Name) → verdict n (call.EndRead name) ≡ None → 1 ≤ count_of (section_at name n.sections)
unfolding verdict
may_read n name e = not_zero _ (not_refused _ refusal.NotReading (none_of _ _ e).1)

pub may_write : (n : Node) (name : Name) (after : List ℕ) → verdict n (call.EndWrite name after) ≡ None → is_writing (section_at name n.sections) ≡ true
unfolding verdict
may_write n name after e = not_not _ (not_refused _ refusal.NotWriting (none_of _ _ e).1)

may_change : (n : Node) (name : Name) (offset len : ℕ) → of_change n name offset len ≡ None → (is_writing (section_at name n.sections) ≡ true) × (nat_lt (mapped_size (n.maps name)) (offset + len) ≡ false)
may_change n name offset len e =
    let parts = none_of _ _ e in (not_not _ (not_refused _ refusal.NotWriting parts.0), not_refused _ refusal.OutOfRange parts.1)

pub may_put : (n : Node) (name : Name) (offset len : ℕ) → verdict n (call.Put name offset len) ≡ None → (is_writing (section_at name n.sections) ≡ true) × (nat_lt (mapped_size (n.maps name)) (offset + len) ≡ false)
unfolding verdict
may_put n name offset len e = may_change n name offset len (none_of _ _ e).1

pub may_add : (n : Node) (name : Name) (offset : ℕ) → verdict n (call.Add name offset) ≡ None → (is_writing (section_at name n.sections) ≡ true) × (nat_lt (mapped_size (n.maps name)) (offset + 8) ≡ false)
unfolding verdict
may_add n name offset e = may_change n name offset 8 (none_of _ _ e).1

-- A free node of a run, which holds what it was given.
module _ (count capacity : ℕ) (run : List Event) (r : IsRunFrom (new_world count capacity) run) (i : ℕ) (gs : List Given)
    (free : ((world_of count capacity run).nodes i).activity ≡ Free) (h : HoldsHeard (hears i (new_world count capacity) run) gs) where
  abbrev node : Node
  node = (world_of count capacity run).nodes i

  guards_here : (q : Name) → AreGuards i (guards_held q [] (hears i (new_world count capacity) run)) (node.sections.records q)
  guards_here q = subst (λ (a : _). AreGuards i (given_yet q a ++ guards_held q [] (hears i (new_world count capacity) run)) (node.sections.records q)) free (sections_are_guards count capacity run r i q)

  pub exclusive : IsExclusive gs
  exclusive q = like_behind (guards_of q gs) _ (h.like q) (behind_read i _ _ (guards_here q))

  pub read_there : (q : Name) → verdict node (call.EndRead q) ≡ None → IsFirst (ReadFits i (node.sections.records q)) (guards_of q gs)
  read_there q e = read_first i (guards_of q gs) _ _ (guards_here q) (h.like q) (h.shown q) (may_read node q e)

  pub write_there : (q : Name) → is_writing (section_at q node.sections) ≡ true → IsFirst (WriteFits i (node.sections.records q)) (guards_of q gs)
  write_there q e = write_first i (guards_of q gs) _ _ (guards_here q) (h.like q) e

  -- the size that is mapped is that of the section's bytes
  sized : (q : Name) (end : ℕ) → is_writing (section_at q node.sections) ≡ true → nat_lt (mapped_size (node.maps q)) end ≡ false → end ≤ length (section_bytes (node.sections.records q))
  sized q end w e =
      let known = known_run (new_world count capacity) run r (known_start count capacity) in
      let size = open_size (node.sections.records q) (node.maps q) w ((known.fits i).each q).sections in
      let is : mapped_size (node.maps q) ≡ size.0.size = ap mapped_size size.1 in
      let below = ltb-false _ _ e in
      omega (arith, is, size.2, below)

  of_kind : (write : Bool) (q : Name) (P : Given → Type 0) → ((g : Given) → P g → g.write ≡ write) → IsFirst P (guards_of q gs) → IsOfKind write (newest q gs)
  of_kind write q P so first = subst (λ o. IsOfKind write o) (sym (newest_first q gs)) (go (guards_of q gs) first)
    where
      go : (xs : List Given) → IsFirst P xs → IsOfKind write (first_of xs)
      go [] k = absurd k
      go (x ∷ xs) k = so x k

  can_change : (q : Name) (end : ℕ) → (is_writing (section_at q node.sections) ≡ true) × (nat_lt (mapped_size (node.maps q)) end ≡ false) → CanChange end (newest q gs)
  can_change q end may = subst (λ o. CanChange end o) (sym (newest_first q gs)) (go (guards_of q gs) (write_there q may.0))
    where
      go : (xs : List Given) → IsFirst (WriteFits i (node.sections.records q)) xs → CanChange end (first_of xs)
      go [] k = absurd k
      go (x ∷ xs) k = (k.kind, let most = sized q end may.0 may.1 in let same = k.size in omega (arith, most, same))

  pub can_act : (s : Statement) → CanAct (verdict node (asked_call s)) s gs
  can_act s = go (verdict node (asked_call s)) refl
    where
      allowed : (s : Statement) → verdict node (asked_call s) ≡ None → CanAct None s gs
      allowed (statement.Call (call.EndRead q)) e = of_kind false q _ (λ g k. k.kind) (read_there q e)
      allowed (statement.Call (call.EndWrite q after)) e = of_kind true q _ (λ g k. k.kind) (write_there q (may_write node q after e))
      allowed (statement.Put q offset bytes) e = can_change q (offset + length bytes) (may_put node q offset (length bytes) e)
      allowed (statement.Add q offset number) e = can_change q (offset + 8) (may_add node q offset e)
      allowed (statement.Call (call.Create size)) e = tt
      allowed (statement.Call (call.Delete name)) e = tt
      allowed (statement.Call (call.Map name)) e = tt
      allowed (statement.Call (call.Unmap name)) e = tt
      allowed (statement.Call (call.StartRead name)) e = tt
      allowed (statement.Call (call.StartWrite name)) e = tt
      allowed (statement.Call (call.Put name offset len)) e = tt
      allowed (statement.Call (call.Add name offset)) e = tt
      allowed (statement.Call (call.Flush name)) e = tt
      allowed (statement.Call (call.Come part)) e = tt

      go : (o : Option Refusal) → verdict node (asked_call s) ≡ o → CanAct o s gs
      go None e = allowed s e
      go (Some why) e = tt

  -- The guard that is handed out fits: it is the newest of its region.
  newest_there : (q : Name) (P : Given → Type 0) (g : Given) → Some g ≡ newest q gs → IsFirst P (guards_of q gs) → P g
  newest_there q P g e first = go (guards_of q gs) first (e ∙ newest_first q gs)
    where
      go : (xs : List Given) → IsFirst P xs → Some g ≡ first_of xs → P g
      go [] k w = absurd k
      go (x ∷ xs) k w = (let it : x ≡ g = cc in subst P it k)

  own_number : node.me ≡ i
  own_number = let known = known_run (new_world count capacity) run r (known_start count capacity) in (known.fits i).me

  at_number : (k : ℕ) → k ≡ i → (k == node.me) ≡ true
  at_number k e = eq-eqb k node.me (e ∙ sym own_number)

  pub read_fits : (q : Name) (g : Guard) → verdict node (call.EndRead q) ≡ None → Some (record { write = false; guard = g }) ≡ newest q gs → (g.node ≡ i) × (g.name ≡ q) × (fits_reading node g ≡ true)
  read_fits q g e is =
      let k = newest_there q (ReadFits i (node.sections.records q)) (record { write = false; guard = g }) is (read_there q e) in
      let named : g.name ≡ q = newest_named q gs (record { write = false; guard = g }) (sym is) in
      (k.node, named, both_are _ _ (at_number g.node k.node) (ap (λ p. fits_open_read g (node.sections.records p)) named ∙ k.fits))

  pub write_fits : (q : Name) (after : List ℕ) (g : Guard) → verdict node (call.EndWrite q after) ≡ None → Some (record { write = true; guard = g }) ≡ newest q gs → (g.node ≡ i) × (g.name ≡ q) × (fits_writing node g ≡ true)
  write_fits q after g e is =
      let k = newest_there q (WriteFits i (node.sections.records q)) (record { write = true; guard = g }) is (write_there q (may_write node q after e)) in
      let named : g.name ≡ q = newest_named q gs (record { write = true; guard = g }) (sym is) in
      (k.node, named, both_are _ _ (at_number g.node k.node) (ap (λ p. fits_open_write g (node.sections.records p)) named ∙ k.fits))

  pub act_fits : (s : Statement) (does : Act) (new : List Given) → Acts (verdict node (asked_call s)) s gs does new → GuardFits i node does
  act_fits s does new acts = go (verdict node (asked_call s)) refl acts
    where
      plain : (c : calls.Call) → does ≡ act.Call c → GuardFits i node does
      plain c is = subst (λ x. GuardFits i node x) (sym is) tt

      read : (q : Name) (x : Act) → verdict node (call.EndRead q) ≡ None → guard_spent x ≡ newest q gs → GuardFits i node x
      read q (act.Call c) e is = tt
      read q (act.EndRead g) e is = (let k = read_fits q g e is in (k.0, k.2, subst (λ p. verdict node (call.EndRead p) ≡ None) (sym k.1) e))
      read q (act.EndWrite g) e is = absurd (let k = of_kind false q _ (λ x k. k.kind) (read_there q e) in let no : true ≡ false = subst (λ o. IsOfKind false o) (sym is) k in cc)
      read q act.Inside e is = tt

      write : (q : Name) (after : List ℕ) (x : Act) → verdict node (call.EndWrite q after) ≡ None → guard_spent x ≡ newest q gs → GuardFits i node x
      write q after (act.Call c) e is = tt
      write q after (act.EndRead g) e is = absurd (let k = of_kind true q _ (λ x k. k.kind) (write_there q (may_write node q after e)) in let no : false ≡ true = subst (λ o. IsOfKind true o) (sym is) k in cc)
      write q after (act.EndWrite g) e is =
          (let k = write_fits q after g e is in (k.0, k.2, subst (λ p. verdict node (call.EndWrite p g.bytes) ≡ None) (sym k.1) (same_end_verdict node q g.bytes after ∙ e)))
      write q after act.Inside e is = tt

      inside : does ≡ act.Inside → GuardFits i node does
      inside is = subst (λ x. GuardFits i node x) (sym is) tt

      allowed : (s : Statement) → verdict node (asked_call s) ≡ None → Acts None s gs does new → GuardFits i node does
      allowed (statement.Call (call.EndRead q)) e acts = read q does e acts.0
      allowed (statement.Call (call.EndWrite q after)) e acts = write q after does e acts.0
      allowed (statement.Put q offset bytes) e acts = inside acts.0
      allowed (statement.Add q offset number) e acts = inside acts.0
      allowed (statement.Call (call.Create size)) e acts = plain _ acts.0
      allowed (statement.Call (call.Delete name)) e acts = plain _ acts.0
      allowed (statement.Call (call.Map name)) e acts = plain _ acts.0
      allowed (statement.Call (call.Unmap name)) e acts = plain _ acts.0
      allowed (statement.Call (call.StartRead name)) e acts = plain _ acts.0
      allowed (statement.Call (call.StartWrite name)) e acts = plain _ acts.0
      allowed (statement.Call (call.Put name offset len)) e acts = plain _ acts.0
      allowed (statement.Call (call.Add name offset)) e acts = plain _ acts.0
      allowed (statement.Call (call.Flush name)) e acts = plain _ acts.0
      allowed (statement.Call (call.Come part)) e acts = plain _ acts.0

      go : (o : Option Refusal) → verdict node (asked_call s) ≡ o → Acts o s gs does new → GuardFits i node does
      go None e acts = allowed s e acts
      go (Some why) e acts = plain _ acts.0
