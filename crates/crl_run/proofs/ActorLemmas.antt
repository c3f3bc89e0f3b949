-- The guards of a node and the drafts of its actor.
use Rattle.std.proofs.Common.{◌≡◌, ◌∙◌, sym, ap, refl, Bool, true, false, if◌then◌else◌, Option, Some, None, ℕ, suc, List, [], ◌∷◌, drop, subst}
use Rattle.crl_model.specs.declared.name.Name.{Name}
use Rattle.crl_model.specs.declared.call.Call as calls
use Rattle.crl_model.specs.declared.call.Call.TheVariants as call
use Rattle.crl_model.specs.declared.call.Refusal.{Refusal}
use Rattle.crl_model.specs.declared.statement.Statement.{Statement}
use Rattle.crl_model.specs.declared.statement.Statement.TheVariants as statement
use Rattle.crl_model.specs.Names.{name_eq, at_name}
use Rattle.crl_model.specs.Patches.{put_at}
use Rattle.crl_model.proofs.Laws.{same_name}
use Rattle.crl_deeds.proofs.Laws.{by_name}
use Rattle.crl_protocol.specs.Node.{Node, Answer, Reading, Writing}
use Rattle.crl_protocol.specs.Verdict.{verdict}
use Rattle.crl_protocol.specs.Sections.{Guard}
use Rattle.crl_protocol.specs.Chosen.{Actor, new_actor, call_with, draft_of, is_allowed, after_change, with_sum}
use Rattle.crl_talk.specs.Guards.{Given, without_newest}
use Rattle.crl_run.specs.declared.act.Act.{Act}
use Rattle.crl_run.specs.declared.act.Act.TheVariants as act
use Rattle.crl_run.specs.Holding.{with_bytes_in}
use Rattle.crl_run.specs.Players.{newest, guards_without, guards_with, IsOfKind}
use Rattle.crl_run.specs.Acting.{plain_call, CanAct, Acts, guard_spent}
use Rattle.crl_run.specs.Actors.{IsDraftOf, IsActor, guards_of, AreReads, IsExclusive, asked_call, call_made, IsTakenBy, Takes, Keeps}

pub begins : (statements : List Statement) → IsActor statements 0 [] (new_actor statements)
begins statements = record { left = refl; drafts = λ q. tt }

-- An answer.
given_draft : (drafts : Name → List ℕ) (guards : List Given) (g : Guard) → ((q : Name) → IsDraftOf (drafts q) (newest q guards)) → (q : Name)
    → IsDraftOf (at_name drafts g.name g.bytes q) (newest q (record { write = true; guard = g } ∷ guards))
given_draft drafts guards g h q =
    by_name g.name (λ b p. IsDraftOf (if b then g.bytes else drafts p) (if b then Some (record { write = true; guard = g }) else newest p guards)) (λ w. refl) (λ p other. h p) q

read_draft : (drafts : Name → List ℕ) (guards : List Given) (g : Guard) → ((q : Name) → IsDraftOf (drafts q) (newest q guards)) → (q : Name)
    → IsDraftOf (drafts q) (newest q (record { write = false; guard = g } ∷ guards))
read_draft drafts guards g h q =
    by_name g.name (λ b p. IsDraftOf (drafts p) (if b then Some (record { write = false; guard = g }) else newest p guards)) (λ w. cc) (λ p other. h p) q

pub keeps : (statements : List Statement) (place : ℕ) (guards : List Given) (answer : Answer) (a : Actor) → Keeps statements place guards answer a
keeps statements place guards (Reading g) a h = record { left = h.left; drafts = read_draft a.drafts guards g h.drafts }
keeps statements place guards (Writing g) a h = record { left = h.left; drafts = given_draft a.drafts guards g h.drafts }
keeps statements place guards _ a h = record { left = h.left; drafts = h.drafts }

-- The guards without the newest of a region, and with other bytes in it.
module _ (name : Name) where
  pub other_without : (gs : List Given) (q : Name) → name_eq name q ≡ false → newest q (guards_without name gs) ≡ newest q gs
  other_without [] q other = refl
  other_without (g ∷ gs) q other = go (name_eq g.guard.name name) refl (other_without gs q other)
    where
      go : (b : Bool) → name_eq g.guard.name name ≡ b → newest q (guards_without name gs) ≡ newest q gs → newest q (if b then gs else g ∷ guards_without name gs) ≡ newest q (g ∷ gs)
      go true e more = (let skip : name_eq g.guard.name q ≡ false = subst (λ x. name_eq x q ≡ false) (sym (same_name g.guard.name name e)) other in rw skip refl)
      go false e more = ap (λ o. if name_eq g.guard.name q then Some g else o) more

  pub other_with : (f : List ℕ → List ℕ) (gs : List Given) (q : Name) → name_eq name q ≡ false → newest q (guards_with name f gs) ≡ newest q gs
  other_with f [] q other = refl
  other_with f (g ∷ gs) q other = go (name_eq g.guard.name name) refl (other_with f gs q other)
    where
      go : (b : Bool) → name_eq g.guard.name name ≡ b → newest q (guards_with name f gs) ≡ newest q gs → newest q (if b then with_bytes_in g (f g.guard.bytes) ∷ gs else g ∷ guards_with name f gs) ≡ newest q (g ∷ gs)
      go true e more = (let skip : name_eq g.guard.name q ≡ false = subst (λ x. name_eq x q ≡ false) (sym (same_name g.guard.name name e)) other in rw skip refl)
      go false e more = ap (λ o. if name_eq g.guard.name q then Some g else o) more

  -- what is seen of the newest once its bytes are changed
  abbrev changed : (List ℕ → List ℕ) → Option Given → Option Given
  changed f None = None
  changed f (Some g) = Some (with_bytes_in g (f g.guard.bytes))

  pub newest_with : (f : List ℕ → List ℕ) (gs : List Given) → newest name (guards_with name f gs) ≡ changed f (newest name gs)
  newest_with f [] = refl
  newest_with f (g ∷ gs) = go (name_eq g.guard.name name) refl (newest_with f gs)
    where
      go : (b : Bool) → name_eq g.guard.name name ≡ b → newest name (guards_with name f gs) ≡ changed f (newest name gs) → newest name (if b then with_bytes_in g (f g.guard.bytes) ∷ gs else g ∷ guards_with name f gs) ≡ changed f (if b then Some g else newest name gs)
      go true e more = rw e refl
      go false e more = rw e more

  -- what is left is of read sections
  first_reads : (gs : List Given) (d : List ℕ) → AreReads (guards_of name gs) → IsDraftOf d (newest name gs)
  first_reads [] d h = tt
  first_reads (g ∷ gs) d h = go (name_eq g.guard.name name) h (first_reads gs d)
    where
      go : (b : Bool) → AreReads (if b then g ∷ guards_of name gs else guards_of name gs) → (AreReads (guards_of name gs) → IsDraftOf d (newest name gs)) → IsDraftOf d (if b then Some g else newest name gs)
      go true h more = λ w. (let read : g.write ≡ false = h.0 in cc)
      go false h more = more h

  pub rest_reads : (gs : List Given) (d : List ℕ) → AreReads (without_newest (guards_of name gs)) → IsDraftOf d (newest name (guards_without name gs))
  rest_reads [] d h = tt
  rest_reads (g ∷ gs) d h = go (name_eq g.guard.name name) refl h (rest_reads gs d)
    where
      go : (b : Bool) → name_eq g.guard.name name ≡ b → AreReads (without_newest (if b then g ∷ guards_of name gs else guards_of name gs))
          → (AreReads (without_newest (guards_of name gs)) → IsDraftOf d (newest name (guards_without name gs))) → IsDraftOf d (newest name (if b then gs else g ∷ guards_without name gs))
      go true e h more = first_reads gs d h
      go false e h more = rw e (more h)

pub newest_named : (name : Name) (gs : List Given) (g : Given) → newest name gs ≡ Some g → g.guard.name ≡ name
newest_named name [] g e = cc
newest_named name (x ∷ xs) g e = go (name_eq x.guard.name name) refl e (newest_named name xs g)
  where
    go : (b : Bool) → name_eq x.guard.name name ≡ b → (if b then Some x else newest name xs) ≡ Some g → (newest name xs ≡ Some g → g.guard.name ≡ name) → g.guard.name ≡ name
    go true same w more = (let it : x ≡ g = cc in subst (λ (y : Given). y.guard.name ≡ name) it (same_name x.guard.name name same))
    go false other w more = more w

-- A section ends, and a change is made.
without_drafts : (drafts : Name → List ℕ) (name : Name) (gs : List Given) → IsExclusive gs → ((q : Name) → IsDraftOf (drafts q) (newest q gs)) → (q : Name) → IsDraftOf (drafts q) (newest q (guards_without name gs))
without_drafts drafts name gs exclusive h q = go (name_eq name q) refl
  where
    go : (b : Bool) → name_eq name q ≡ b → IsDraftOf (drafts q) (newest q (guards_without name gs))
    go true e = subst (λ (p : Name). IsDraftOf (drafts q) (newest q (guards_without p gs))) (sym (same_name name q e)) (rest_reads q gs (drafts q) (exclusive q))
    go false e = subst (λ (o : Option Given). IsDraftOf (drafts q) o) (sym (other_without name gs q e)) (h q)

changed_draft : (d : List ℕ) (f : List ℕ → List ℕ) (name : Name) (o : Option Given) → IsDraftOf d o → IsDraftOf (f d) (changed name f o)
changed_draft d f name None h = tt
changed_draft d f name (Some g) h = λ w. ap f (h w)

with_drafts : (drafts : Name → List ℕ) (name : Name) (f : List ℕ → List ℕ) (gs : List Given) → ((q : Name) → IsDraftOf (drafts q) (newest q gs)) → (q : Name) → IsDraftOf (at_name drafts name (f (drafts name)) q) (newest q (guards_with name f gs))
with_drafts drafts name f gs h q =
    by_name name (λ b p. IsDraftOf (if b then f (drafts name) else drafts p) (newest p (guards_with name f gs)))
    (subst (λ (o : Option Given). IsDraftOf (f (drafts name)) o) (sym (newest_with name f gs)) (changed_draft (drafts name) f name (newest name gs) (h name)))
    (λ p other. subst (λ (o : Option Given). IsDraftOf (drafts p) o) (sym (other_with name f gs p other)) (h p)) q

-- The call of a statement that is refused.
bare_when_refused : (n : Node) (a : Actor) (c : calls.Call) (why : Refusal) → verdict n c ≡ Some why → plain_call (statement.Call c) ≡ call_with n a c
bare_when_refused n a (call.EndWrite name after) why e = ap (λ o. call.EndWrite name (draft_of o name a)) (sym e)
bare_when_refused n a (call.Create size) why e = refl
bare_when_refused n a (call.Delete name) why e = refl
bare_when_refused n a (call.Map name) why e = refl
bare_when_refused n a (call.Unmap name) why e = refl
bare_when_refused n a (call.StartRead name) why e = refl
bare_when_refused n a (call.EndRead name) why e = refl
bare_when_refused n a (call.StartWrite name) why e = refl
bare_when_refused n a (call.Put name offset len) why e = refl
bare_when_refused n a (call.Add name offset) why e = refl
bare_when_refused n a (call.Flush name) why e = refl
bare_when_refused n a (call.Come part) why e = refl

module _ (statements : List Statement) (place : ℕ) (old new : List Given) (n : Node) (a : Actor) (h : IsActor statements place old a) where
  with_guards : new ≡ old → IsActor statements place new a
  with_guards e = subst (λ gs. IsActor statements place gs a) (sym e) h

  refused_taken : (s : Statement) (act : Act) (why : Refusal) → verdict n (asked_call s) ≡ Some why → Acts (Some why) s old act new → IsTakenBy statements place new n s a (call_made act)
  refused_taken (statement.Call c) act why e (is, same) = subst (λ x. IsTakenBy statements place new n (statement.Call c) a (call_made x)) (sym is) (refl, bare_when_refused n a c why e, with_guards same)
  refused_taken (statement.Put name offset bytes) act why e (is, same) =
      subst (λ x. IsTakenBy statements place new n (statement.Put name offset bytes) a (call_made x)) (sym is) (ap is_allowed e, refl, with_guards same)
  refused_taken (statement.Add name offset number) act why e (is, same) =
      subst (λ x. IsTakenBy statements place new n (statement.Add name offset number) a (call_made x)) (sym is) (ap is_allowed e, refl, with_guards same)

  called_taken : (c : calls.Call) (does : Act) → call_with n a c ≡ c → does ≡ act.Call c → new ≡ old → IsTakenBy statements place new n (statement.Call c) a (call_made does)
  called_taken c does whole is same = subst (λ x. IsTakenBy statements place new n (statement.Call c) a (call_made x)) (sym is) (refl, sym whole, with_guards same)

  ended : (name : Name) → IsExclusive old → new ≡ guards_without name old → IsActor statements place new a
  ended name exclusive e = subst (λ gs. IsActor statements place gs a) (sym e) (record { left = h.left; drafts = without_drafts a.drafts name old exclusive h.drafts })

  -- of a guard that is there
  none_there : (write : Bool) (o : Option Given) → None ≡ o → IsOfKind write o → ⊥
  none_there write o e k = subst (λ x. IsOfKind write x) (sym e) k

  kind_there : (write : Bool) (g : Given) (o : Option Given) → Some g ≡ o → IsOfKind write o → g.write ≡ write
  kind_there write g o e k = subst (λ x. IsOfKind write x) (sym e) k

  read_taken : (name : Name) (act : Act) → IsExclusive old → IsOfKind false (newest name old) → guard_spent act ≡ newest name old → new ≡ guards_without name old
      → IsTakenBy statements place new n (statement.Call (call.EndRead name)) a (call_made act)
  read_taken name (act.Call c) exclusive kind is same = absurd (none_there false (newest name old) is kind)
  read_taken name (act.EndRead g) exclusive kind is same = (refl, ap call.EndRead (newest_named name old (record { write = false; guard = g }) (sym is)), ended name exclusive same)
  read_taken name (act.EndWrite g) exclusive kind is same = absurd (let k = kind_there false (record { write = true; guard = g }) (newest name old) is kind in cc)
  read_taken name act.Inside exclusive kind is same = absurd (none_there false (newest name old) is kind)

  draft_there : (name : Name) (g : Guard) → Some (record { write = true; guard = g }) ≡ newest name old → a.drafts name ≡ g.bytes
  draft_there name g is = subst (λ o. IsDraftOf (a.drafts name) o) (sym is) (h.drafts name) refl

  write_taken : (name : Name) (after : List ℕ) (act : Act) → verdict n (call.EndWrite name after) ≡ None → IsExclusive old → IsOfKind true (newest name old) → guard_spent act ≡ newest name old → new ≡ guards_without name old
      → IsTakenBy statements place new n (statement.Call (call.EndWrite name after)) a (call_made act)
  write_taken name after (act.Call c) e exclusive kind is same = absurd (none_there true (newest name old) is kind)
  write_taken name after (act.EndRead g) e exclusive kind is same = absurd (let k = kind_there true (record { write = false; guard = g }) (newest name old) is kind in cc)
  write_taken name after (act.EndWrite g) e exclusive kind is same =
      let named : g.name ≡ name = newest_named name old (record { write = true; guard = g }) (sym is) in
      let bytes : a.drafts name ≡ g.bytes = draft_there name g is in
      (refl, ap (λ q. call.EndWrite q g.bytes) named ∙ ap (λ b. call.EndWrite name b) (sym bytes) ∙ ap (λ o. call.EndWrite name (draft_of o name a)) (sym e), ended name exclusive same)
  write_taken name after act.Inside e exclusive kind is same = absurd (none_there true (newest name old) is kind)

  allowed_taken : (s : Statement) (act : Act) → verdict n (asked_call s) ≡ None → IsExclusive old → CanAct None s old → Acts None s old act new → IsTakenBy statements place new n s a (call_made act)
  allowed_taken (statement.Call (call.EndRead name)) act e exclusive can (is, same) = read_taken name act exclusive can is same
  allowed_taken (statement.Call (call.EndWrite name after)) act e exclusive can (is, same) = write_taken name after act e exclusive can is same
  allowed_taken (statement.Call (call.Create size)) act e exclusive can (is, same) = called_taken (call.Create size) act refl is same
  allowed_taken (statement.Call (call.Delete name)) act e exclusive can (is, same) = called_taken (call.Delete name) act refl is same
  allowed_taken (statement.Call (call.Map name)) act e exclusive can (is, same) = called_taken (call.Map name) act refl is same
  allowed_taken (statement.Call (call.Unmap name)) act e exclusive can (is, same) = called_taken (call.Unmap name) act refl is same
  allowed_taken (statement.Call (call.StartRead name)) act e exclusive can (is, same) = called_taken (call.StartRead name) act refl is same
  allowed_taken (statement.Call (call.StartWrite name)) act e exclusive can (is, same) = called_taken (call.StartWrite name) act refl is same
  allowed_taken (statement.Call (call.Put name offset len)) act e exclusive can (is, same) = called_taken (call.Put name offset len) act refl is same
  allowed_taken (statement.Call (call.Add name offset)) act e exclusive can (is, same) = called_taken (call.Add name offset) act refl is same
  allowed_taken (statement.Call (call.Flush name)) act e exclusive can (is, same) = called_taken (call.Flush name) act refl is same
  allowed_taken (statement.Call (call.Come part)) act e exclusive can (is, same) = called_taken (call.Come part) act refl is same
  allowed_taken (statement.Put name offset bytes) act e exclusive can (is, same) =
      subst (λ x. IsTakenBy statements place new n (statement.Put name offset bytes) a (call_made x)) (sym is)
      (ap is_allowed e, subst (λ gs. IsActor statements place gs (after_change (statement.Put name offset bytes) a)) (sym same) (record { left = h.left; drafts = with_drafts a.drafts name (put_at offset bytes) old h.drafts }))
  allowed_taken (statement.Add name offset number) act e exclusive can (is, same) =
      subst (λ x. IsTakenBy statements place new n (statement.Add name offset number) a (call_made x)) (sym is)
      (ap is_allowed e, subst (λ gs. IsActor statements place gs (after_change (statement.Add name offset number) a)) (sym same) (record { left = h.left; drafts = with_drafts a.drafts name (with_sum offset number) old h.drafts }))

pub takes : (statements : List Statement) (place : ℕ) (old new : List Given) (n : Node) (s : Statement) (a : Act) (actor : Actor) → Takes statements place old new n s a actor
takes statements place old new n s a actor next h exclusive can acts = go (verdict n (asked_call s)) refl can acts
  where
    left_actor : Actor
    left_actor = record actor { left = drop (suc place) statements }

    later : IsActor statements (suc place) old left_actor
    later = record { left = refl; drafts = h.drafts }

    go : (o : Option Refusal) → verdict n (asked_call s) ≡ o → CanAct o s old → Acts o s old a new → IsTakenBy statements (suc place) new n s left_actor (call_made a)
    go None e can acts = allowed_taken statements (suc place) old new n left_actor later s a e exclusive can acts
    go (Some why) e can acts = refused_taken statements (suc place) old new n left_actor later s a why e acts
