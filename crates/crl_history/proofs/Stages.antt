-- The stage of a region at its home is that which the single machine has.
use Rattle.std.proofs.Common.{◌≡◌, ℕ, ◌+◌, ◌==◌, ◌&&◌, Bool, true, false, List, [], ◌∷◌, if◌then◌else◌, refl, ap, sym, ◌∙◌}
use Rattle.std.proofs.lemmas.Bool.{cond-true, cond-false, eqb-true, eqb-false, eq-eqb, ne_eqb, and_from}
use Rattle.crl_model.specs.declared.name.Name.{Name}
use Rattle.crl_model.specs.declared.stage.Stage.{Stage}
use Rattle.crl_model.specs.declared.stage.Stage.TheVariants as stage
use Rattle.crl_model.specs.declared.call.Call.{Call}
use Rattle.crl_model.specs.declared.call.CallKind.{CallKind}
use Rattle.crl_model.specs.declared.collective.Fold.{Fold}
use Rattle.crl_model.specs.declared.collective.Fold.TheVariants as fold
use Rattle.crl_model.specs.declared.entry.What.{What}
use Rattle.crl_model.specs.declared.entry.What.TheVariants as what
use Rattle.crl_model.specs.Calls.{kind_of}
use Rattle.crl_model.specs.FoldOf.{fold_of}
use Rattle.crl_model.specs.Names.{name_eq, at_name}
use Rattle.crl_machine.specs.SingleMachine.{State, change, after_all}
use Rattle.crl_protocol.specs.Home.{Home, HomeStep}
use Rattle.crl_protocol.specs.Remote.{Remote, RemoteStep}
use Rattle.crl_protocol.specs.Lifetimes.{Lifetime, new_lifetime, no_lifetime}
use Rattle.crl_protocol.specs.Node.{Node, Done, Outcome, serials_used, next_name, is_mine, lifetime_of, with_lifetime, entry_of}
use Rattle.crl_protocol.specs.Calls.{creates, result_of}
use Rattle.crl_deeds.specs.Deeds.{Cause, EndsCall, Copies, Lives, Rounds, Notes, Deed}
use Rattle.crl_deeds.specs.Deeds as deed
use Rattle.crl_deeds.proofs.Laws.{same_name, lifetime_put}
use Rattle.crl_history.proofs.Events.{Mirrored}

-- What the machine has of the region, as it is asked of node k: nothing where that isn't its home.
abbrev pub stage_by : Name → State → ℕ → Stage
stage_by r s k = if r.home == k then s.stage r else stage.Unknown

abbrev pub SaysStage : Name → Stage → Node → Type 0
SaysStage r x n = x ≡ (lifetime_of n r).stage

-- what a deed of node n does to the stages of its own regions and of others
record StageGoes (n : Node) (o : Outcome) : Type 0 where
  own : (s : State) (r : Name) → is_mine n r ≡ true → s.stage r ≡ (lifetime_of n r).stage → (after_all s o.entries).stage r ≡ (lifetime_of o.node r).stage
  other : (s : State) (r : Name) → is_mine n r ≡ false → (after_all s o.entries).stage r ≡ s.stage r
  me : o.node.me ≡ n.me

stays_stage : (n : Node) (o : Outcome) → ((s : State) (r : Name) → (after_all s o.entries).stage r ≡ s.stage r) → ((r : Name) → (lifetime_of n r).stage ≡ (lifetime_of o.node r).stage) → o.node.me ≡ n.me → StageGoes n o
stays_stage n o same life me = record { own = λ s r mine h. same s r ∙ h ∙ life r; other = λ s r apart. same s r; me = me }

-- entries that change no stage
start_same : (s : State) (me : ℕ) (write : Bool) (name r : Name) → (change s me (if write then what.StartWrite name else what.StartRead name)).stage r ≡ s.stage r
start_same s me true name r = refl
start_same s me false name r = refl

end_same : (s : State) (n : Node) (bytes : List ℕ) (me : ℕ) (c : Call) (name : Name) (w : What) (ends : Home → HomeStep) (lowers : Remote → RemoteStep) → EndsCall bytes n c name w ends lowers → (r : Name) → (change s me w).stage r ≡ s.stage r
end_same s n bytes me c name w ends lowers (deed.a_read q can) r = refl
end_same s n bytes me c name w ends lowers (deed.a_write q after can) r = refl

result_same : (s : State) (me round : ℕ) (kind : CallKind) (f : Fold) (r : Name) → (change s me (result_of round kind f)).stage r ≡ s.stage r
result_same s me round kind fold.Mixed r = refl
result_same s me round kind _ r = refl

stage_copies : (n : Node) (cause : Cause) (o : Outcome) → Copies n cause o → StageGoes n o
stage_copies n cause o (deed.home_opens c write name h is e v x) = stays_stage n o (λ s r. start_same s n.me write name r) (λ r. refl) refl
stage_copies n cause o (deed.side_opens c write name x is e g v y) = stays_stage n o (λ s r. start_same s n.me write name r) (λ r. refl) refl
stage_copies n cause o (deed.home_ends c name w ends lowers h is e) = stays_stage n o (λ s r. end_same s n _ n.me c name w ends lowers is r) (λ r. refl) refl
stage_copies n cause o (deed.side_ends c name w ends lowers x is e g) = stays_stage n o (λ s r. end_same s n _ n.me c name w ends lowers is r) (λ r. refl) refl
stage_copies n cause o (deed.home_serves_own from k name h y is e x) = stays_stage n o (λ s r. start_same s n.me _ name r) (λ r. refl) refl
stage_copies n cause o (deed.grant_comes from name version g x e y) = stays_stage n o (λ s r. start_same s n.me _ name r) (λ r. refl) refl
stage_copies n cause o _ = stays_stage n o (λ s r. refl) (λ r. refl) refl

stage_rounds : (n : Node) (cause : Cause) (o : Outcome) → Rounds n cause o → StageGoes n o
stage_rounds n cause o (deed.comes_last part parts first fits all) = stays_stage n o (λ s r. result_same (change s n.me (what.Come part)) n.me (n.rounds + 1) (kind_of part) (fold_of parts) r) (λ r. refl) refl
stage_rounds n cause o (deed.part_last from round part parts mine k e a all) = stays_stage n o (λ s r. result_same s n.me mine k (fold_of parts) r) (λ r. refl) refl
stage_rounds n cause o (deed.result_comes from round f k e) = stays_stage n o (λ s r. result_same s n.me round k f r) (λ r. refl) refl
stage_rounds n cause o _ = stays_stage n o (λ s r. refl) (λ r. refl) refl

stage_notes : (n : Node) (c : Call) (w : What) (m : Node) → Notes n c w m → StageGoes n (record { node = m; answer = Done; entries = entry_of n.me w ∷ []; posts = [] })
stage_notes n c w m (deed.ends_nowhere x name y ends lowers is e) = stays_stage n _ (λ s r. end_same s n _ n.me x name y ends lowers is r) (λ r. refl) refl
stage_notes n c w m _ = stays_stage n _ (λ s r. refl) (λ r. refl) refl

-- A lifetime of the node's own region goes to another stage, and so does the machine's.
other_stage : (n : Node) (f : Name → Stage) (name r : Name) (x : Stage) → is_mine n name ≡ true → is_mine n r ≡ false → at_name f name x r ≡ f r
other_stage n f name r x mine apart = go (name_eq name r) refl
  where
    go : (b : Bool) → name_eq name r ≡ b → (if b then x else f r) ≡ f r
    go true e = let w = ap (λ q. is_mine n q) (same_name name r e) in cc
    go false e = refl

put_own : (n m : Node) (f g : Name → Stage) (name : Name) (lifetime : Lifetime) (x : Stage) → is_mine n name ≡ true → lifetime.stage ≡ x → ((r : Name) → lifetime_of m r ≡ at_name (lifetime_of n) name lifetime r) → ((r : Name) → g r ≡ at_name f name x r)
    → (r : Name) → f r ≡ (lifetime_of n r).stage → g r ≡ (lifetime_of m r).stage
put_own n m f g name lifetime x mine e put goes r h = goes r ∙ go (name_eq name r) ∙ sym (ap (λ (l : Lifetime). l.stage) (put r))
  where
    go : (b : Bool) → (if b then x else f r) ≡ (if b then lifetime else lifetime_of n r).stage
    go true = sym e
    go false = h

put_stage : (n : Node) (o : Outcome) (name : Name) (lifetime : Lifetime) (x : Stage) → is_mine n name ≡ true → lifetime.stage ≡ x → ((r : Name) → lifetime_of o.node r ≡ at_name (lifetime_of n) name lifetime r) → ((s : State) (r : Name) → (after_all s o.entries).stage r ≡ at_name s.stage name x r) → o.node.me ≡ n.me → StageGoes n o
put_stage n o name lifetime x mine e put goes me = record {
  own = λ s r own h. put_own n o.node s.stage (after_all s o.entries).stage name lifetime x mine e put (goes s) r h;
  other = λ s r apart. goes s r ∙ other_stage n s.stage name r x mine apart;
  me = me;
}

-- of both entries of a delete that is done at once, the second counts
twice : (f : Name → Stage) (name r : Name) (x y : Stage) → at_name (at_name f name x) name y r ≡ at_name f name y r
twice f name r x y = go (name_eq name r)
  where
    go : (b : Bool) → (if b then y else if b then x else f r) ≡ (if b then y else f r)
    go true = refl
    go false = refl

-- where the stage stays, though the lifetime doesn't
same_stage : (n : Node) (name : Name) (lifetime : Lifetime) → is_mine n name ≡ true → lifetime.stage ≡ (lifetime_of n name).stage → (r : Name) → (lifetime_of n r).stage ≡ (lifetime_of (with_lifetime name lifetime n) r).stage
same_stage n name lifetime mine e r = go (name_eq name r) refl ∙ sym (ap (λ (l : Lifetime). l.stage) (lifetime_put n name lifetime mine r))
  where
    go : (b : Bool) → name_eq name r ≡ b → (lifetime_of n r).stage ≡ (if b then lifetime else lifetime_of n r).stage
    go true w = ap (λ q. (lifetime_of n q).stage) (sym (same_name name r w)) ∙ sym e
    go false w = refl

-- a new region
and_false : (b : Bool) → (b && false) ≡ false
and_false true = refl
and_false false = refl

turned : (i j : ℕ) → (i == j) ≡ false → (j == i) ≡ false
turned i j e = ne_eqb j i (λ w. eqb-false i j e (sym w))

new_put : (n : Node) (size : ℕ) (r : Name) → lifetime_of (creates size n).node r ≡ at_name (lifetime_of n) (next_name n) new_lifetime r
new_put n size r = go (r.home == n.me) (serials_used n + 1 == r.serial) refl refl
  where
    go : (b c : Bool) → (r.home == n.me) ≡ b → (serials_used n + 1 == r.serial) ≡ c → (if b then if c then new_lifetime else n.lifetimes r.serial else no_lifetime) ≡ at_name (lifetime_of n) (next_name n) new_lifetime r
    go true true e w = sym (cond-true _ _ _ (and_from (n.me == r.home) (serials_used n + 1 == r.serial) (eq-eqb _ _ (sym (eqb-true _ _ e))) w))
    go true false e w = sym (cond-false _ _ _ (ap (λ b. (n.me == r.home) && b) w ∙ and_false (n.me == r.home)) ∙ cond-true (r.home == n.me) _ _ e)
    go false c e w = sym (cond-false _ _ _ (ap (λ b. b && (serials_used n + 1 == r.serial)) (turned r.home n.me e)) ∙ cond-false (r.home == n.me) _ _ e)

stage_lives : (n : Node) (cause : Cause) (o : Outcome) → Lives n cause o → StageGoes n o
stage_lives n cause o (deed.made size e) = put_stage n o (next_name n) new_lifetime stage.Live (eq-eqb n.me n.me refl) refl (new_put n size) (λ s r. refl) refl
stage_lives n cause o (deed.map_told from name mine live) = stays_stage n o (λ s r. refl) (same_stage n name _ mine refl) refl
stage_lives n cause o (deed.deletes_alone name mine live e) = put_stage n o name _ stage.Gone mine refl (lifetime_put n name _ mine) (λ s r. twice s.stage name r _ stage.Gone) refl
stage_lives n cause o (deed.deletes_own name m ms mine live e) = put_stage n o name _ (stage.Going n.me) mine refl (lifetime_put n name _ mine) (λ s r. refl) refl
stage_lives n cause o (deed.deletes_alone_for from name mine live e) = put_stage n o name _ stage.Gone mine refl (lifetime_put n name _ mine) (λ s r. twice s.stage name r _ stage.Gone) refl
stage_lives n cause o (deed.deletes_for from name m ms mine live e) = put_stage n o name _ (stage.Going from) mine refl (lifetime_put n name _ mine) (λ s r. refl) refl
stage_lives n cause o (deed.counts_off from name deleter m ms mine e missing left) = stays_stage n o (λ s r. refl) (same_stage n name _ mine refl) refl
stage_lives n cause o (deed.ends_own from name mine e missing last) = put_stage n o name _ stage.Gone mine refl (lifetime_put n name _ mine) (λ s r. refl) refl
stage_lives n cause o (deed.ends_for from name deleter mine e other missing last) = put_stage n o name _ stage.Gone mine refl (lifetime_put n name _ mine) (λ s r. refl) refl
stage_lives n cause o _ = stays_stage n o (λ s r. refl) (λ r. refl) refl

stage_deed : (n : Node) (cause : Cause) (o : Outcome) → Deed n cause o → StageGoes n o
stage_deed n cause o (deed.copies d) = stage_copies n cause o d
stage_deed n cause o (deed.lives d) = stage_lives n cause o d
stage_deed n cause o (deed.rounds d) = stage_rounds n cause o d
stage_deed n cause o (deed.notes d) = stage_notes n _ _ _ d
stage_deed n cause o _ = stays_stage n o (λ s r. refl) (λ r. refl) refl

-- Says, of the node k that is asked, what it has of the region.
stage_own : (r : Name) (n : Node) (o : Outcome) → StageGoes n o → (s : State) → stage_by r s n.me ≡ (lifetime_of n r).stage → stage_by r (after_all s o.entries) n.me ≡ (lifetime_of o.node r).stage
stage_own r n o g s h = go (r.home == n.me) refl
  where
    at_me : (b : Bool) → (r.home == n.me) ≡ b → (r.home == o.node.me) ≡ b
    at_me b w = ap (λ k. r.home == k) g.me ∙ w

    go : (b : Bool) → (r.home == n.me) ≡ b → stage_by r (after_all s o.entries) n.me ≡ (lifetime_of o.node r).stage
    go true w = cond-true (r.home == n.me) _ _ w ∙ g.own s r w (sym (cond-true (r.home == n.me) _ _ w) ∙ h)
    go false w = cond-false (r.home == n.me) _ _ w ∙ sym (ap (λ (l : Lifetime). l.stage) (cond-false (r.home == o.node.me) _ _ (at_me false w)))

stage_other : (r : Name) (n : Node) (o : Outcome) → StageGoes n o → (s : State) (k : ℕ) → (n.me == k) ≡ false → stage_by r (after_all s o.entries) k ≡ stage_by r s k
stage_other r n o g s k apart = go (r.home == k) refl
  where
    go : (b : Bool) → (r.home == k) ≡ b → stage_by r (after_all s o.entries) k ≡ stage_by r s k
    go true w = ap (λ x. if r.home == k then x else stage.Unknown) (g.other s r (ne_eqb r.home n.me (λ e. eqb-false n.me k apart (sym e ∙ eqb-true r.home k w))))
    go false w = cond-false (r.home == k) _ _ w ∙ sym (cond-false (r.home == k) _ _ w)

pub stage_mirrored : (r : Name) → Mirrored Stage (stage_by r) (SaysStage r)
stage_mirrored r = record {
  own = λ j n cause o a s h. stage_own r n o (stage_deed n cause o a.deed) s h;
  other = λ j n cause o a s k apart. stage_other r n o (stage_deed n cause o a.deed) s k apart;
  boxes = λ x n inbox outbox parcels records notes posted h. h;
  answered = λ x n h. h;
}

-- A region whose home is no node: no deed of a node changes its stage.
pub stage_elsewhere : (n : Node) (cause : Cause) (o : Outcome) → Deed n cause o → (s : State) (r : Name) → is_mine n r ≡ false → (after_all s o.entries).stage r ≡ s.stage r
stage_elsewhere n cause o d s r apart = (stage_deed n cause o d).other s r apart
