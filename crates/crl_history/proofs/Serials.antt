-- The serials that a node has used are those that the single machine has for it.
use Rattle.std.proofs.Common.{◌≡◌, ℕ, zero, suc, ◌+◌, ◌-◌, ◌≤◌, ◌==◌, Bool, true, false, None, Some, Option, List, [], ◌∷◌, ◌++◌, length, if◌then◌else◌, refl, ap, sym, ◌∙◌, subst, arith}
use Rattle.std.proofs.lemmas.Bool.{cond_both, cond-true, cond-false, eqb-true, eqb-false, eq-eqb}
use Rattle.std.proofs.Math.Nat.{min-eq_left, min-eq_right}
use Rattle.crl_model.specs.declared.name.Name.{Name}
use Rattle.crl_model.specs.declared.call.Call.{Call}
use Rattle.crl_model.specs.declared.call.Call.TheVariants as call
use Rattle.crl_model.specs.declared.call.CallKind.{CallKind}
use Rattle.crl_model.specs.declared.call.CallKind.TheVariants as word
use Rattle.crl_model.specs.declared.call.Refusal.{Refusal}
use Rattle.crl_model.specs.declared.call.Refusal.TheVariants as refusal
use Rattle.crl_model.specs.declared.collective.Fold.{Fold}
use Rattle.crl_model.specs.declared.collective.Fold.TheVariants as fold
use Rattle.crl_model.specs.declared.stage.Stage.{Stage}
use Rattle.crl_model.specs.declared.message.Told.{Told}
use Rattle.crl_model.specs.declared.message.DeleteTold.{DeleteTold}
use Rattle.crl_model.specs.declared.entry.Place.{Place}
use Rattle.crl_model.specs.declared.entry.Place.TheVariants.{Region}
use Rattle.crl_model.specs.declared.entry.What.{What}
use Rattle.crl_model.specs.declared.entry.What.TheVariants as what
use Rattle.crl_model.specs.Names.{at_node}
use Rattle.crl_machine.specs.SingleMachine.{State, change, after_all, used_after}
use Rattle.crl_protocol.specs.Places.{at, put}
use Rattle.crl_protocol.specs.Home.{Home, HomeStep}
use Rattle.crl_protocol.specs.Remote.{Remote, RemoteStep}
use Rattle.crl_protocol.specs.Node.{Node, Done, Outcome, COUNT_LIMIT, serials_used, is_mine, home_of, with_home, entry_of}
use Rattle.crl_protocol.specs.Calls.{result_of, node_calls, call_or_refuse}
use Rattle.crl_protocol.specs.Verdict.{verdict, else_if, refuse_if, refuses_call, uses_serial}
use Rattle.crl_deeds.specs.Deeds.{Cause, Calls, Hears, EndsCall, Copies, Unfit, Lives, Rounds, Notes, Deed}
use Rattle.crl_deeds.specs.Deeds as deed
use Rattle.crl_deeds.specs.Refusals.{Refuses}
use Rattle.crl_deeds.specs.Refusals as found
use Rattle.crl_deeds.proofs.Laws.{refused_for, create_fits, length_end}
use Rattle.crl_history.proofs.Events.{IsOutcome, Mirrored}

-- What the machine has of a node's serials says how many the node has used, and there are at most so many.
pub record SaysUsed (used : ℕ) (n : Node) : Type 0 where
  pub is : used ≡ serials_used n
  pub most : used ≤ COUNT_LIMIT

abbrev pub used_by : State → ℕ → ℕ
used_by s k = s.used k

-- A table that is there is changed in its place.
length_put : {A : Type 0} (k : ℕ) (v : Option A) (xs : List (Option A)) (x : A) → at k xs ≡ Some x → length (put k v xs) ≡ length xs
length_put k v [] x e = cc
length_put zero v (y ∷ xs) x e = refl
length_put (suc k) v (y ∷ xs) x e = let h = length_put k v xs x e in omega arith

table_there : (n : Node) (name : Name) (h : Home) → home_of n name ≡ Some h → at (name.serial - 1) n.homes ≡ Some h
table_there n name h e = go (is_mine n name) (name.serial == 0) e
  where
    go : (b c : Bool) → (if b then if c then None else at (name.serial - 1) n.homes else None) ≡ Some h → at (name.serial - 1) n.homes ≡ Some h
    go true true w = cc
    go true false w = w
    go false c w = cc

used_home : (n : Node) (name : Name) (h g : Home) → home_of n name ≡ Some h → serials_used n ≡ serials_used (with_home name g n)
used_home n name h g e = sym (length_put (name.serial - 1) (Some g) n.homes h (table_there n name h e))

-- Entries that use no serial.
abbrev pub SameUsed : State → State → Type 0
SameUsed s t = (k : ℕ) → t.used k ≡ s.used k

at_same : (f : ℕ → ℕ) (n v k : ℕ) → v ≡ f n → at_node f n v k ≡ f k
at_same f n v k e = cond_both (n == k) v (f k) (λ x. x ≡ f k) (λ w. e ∙ ap f (eqb-true n k w)) (λ w. refl)

start_same : (s : State) (me : ℕ) (write : Bool) (name : Name) → SameUsed s (change s me (if write then what.StartWrite name else what.StartRead name))
start_same s me true name k = refl
start_same s me false name k = refl

end_same : (s : State) (n : Node) (bytes : List ℕ) (me : ℕ) (c : Call) (name : Name) (w : What) (ends : Home → HomeStep) (lowers : Remote → RemoteStep) → EndsCall bytes n c name w ends lowers → SameUsed s (change s me w)
end_same s n bytes me c name w ends lowers (deed.a_read q can) k = refl
end_same s n bytes me c name w ends lowers (deed.a_write q after can) k = refl

result_same : (s : State) (me round : ℕ) (kind : CallKind) (f : Fold) → SameUsed s (change s me (result_of round kind f))
result_same s me round kind fold.Mixed k = at_same s.used me (s.used me) k refl
result_same s me round kind _ k = refl

-- What a deed does to them.
record UsedGoes (n : Node) (o : Outcome) : Type 0 where
  own : (s : State) → SaysUsed (s.used n.me) n → SaysUsed ((after_all s o.entries).used n.me) o.node
  other : (s : State) (k : ℕ) → (n.me == k) ≡ false → (after_all s o.entries).used k ≡ s.used k

stays_used : (n : Node) (o : Outcome) → ((s : State) → SameUsed s (after_all s o.entries)) → serials_used n ≡ serials_used o.node → UsedGoes n o
stays_used n o same homes = record {
  own = λ s h. record { is = same s n.me ∙ h.is ∙ homes; most = subst (λ x. x ≤ COUNT_LIMIT) (sym (same s n.me)) h.most };
  other = λ s k apart. same s k;
}

used_copies : (n : Node) (cause : Cause) (o : Outcome) → Copies n cause o → UsedGoes n o
used_copies n cause o (deed.home_opens c write name h is e v x) = stays_used n o (λ s. start_same s n.me write name) (used_home n name h _ e)
used_copies n cause o (deed.home_waits c write name h is e v x) = stays_used n o (λ s k. refl) (used_home n name h _ e)
used_copies n cause o (deed.side_opens c write name r is e g v x) = stays_used n o (λ s. start_same s n.me write name) refl
used_copies n cause o (deed.home_ends c name w ends lowers h is e) = stays_used n o (λ s. end_same s n _ n.me c name w ends lowers is) (used_home n name h _ e)
used_copies n cause o (deed.side_ends c name w ends lowers r is e g) = stays_used n o (λ s. end_same s n _ n.me c name w ends lowers is) refl
used_copies n cause o (deed.home_serves from k name h s is e x) = stays_used n o (λ s k. refl) (used_home n name h _ e)
used_copies n cause o (deed.home_serves_own from k name h y is e x) = stays_used n o (λ s. start_same s n.me _ name) (used_home n name h _ e)
used_copies n cause o (deed.grant_comes from name version g r e x) = stays_used n o (λ s. start_same s n.me _ name) refl
used_copies n cause o _ = stays_used n o (λ s k. refl) refl

used_rounds : (n : Node) (cause : Cause) (o : Outcome) → Rounds n cause o → UsedGoes n o
used_rounds n cause o (deed.comes_last part parts first fits all) = stays_used n o (λ s. result_same _ n.me (n.rounds + 1) _ _) refl
used_rounds n cause o (deed.part_last from round part parts mine k e a all) = stays_used n o (λ s. result_same s n.me mine k _) refl
used_rounds n cause o (deed.result_comes from round f k e) = stays_used n o (λ s. result_same s n.me round k f) refl
used_rounds n cause o _ = stays_used n o (λ s k. refl) refl

used_notes : (n : Node) (c : Call) (w : What) (m : Node) → Notes n c w m → UsedGoes n (record { node = m; answer = Done; entries = entry_of n.me w ∷ []; posts = [] })
used_notes n c w m (deed.ends_nowhere x name y ends lowers is e) = stays_used n _ (λ s. end_same s n _ n.me x name y ends lowers is) refl
used_notes n c w m _ = stays_used n _ (λ s k. refl) refl

-- refusals that use no serial
unfit_keeps : (x : Stage) (why : Refusal) (t : Told) (d : DeleteTold) (u : ℕ) → Unfit x why t d → used_after why u ≡ u
unfit_keeps x why t d u deed.never = refl
unfit_keeps x why t d u _ = refl

abbrev NotCreate : Call → Type 0
NotCreate (call.Create size) = ⊥
NotCreate _ = Unit {0}

other_keeps : (n : Node) (c : Call) (why : Refusal) (u : ℕ) → Refuses n c why → NotCreate c → used_after why u ≡ u
other_keeps n c why u (found.bad_size size x) h = absurd h
other_keeps n c why u (found.own_map q y t d mine unfit) h = unfit_keeps _ why t d u unfit
other_keeps n c why u (found.own_delete q y t d mine unfit) h = unfit_keeps _ why t d u unfit
other_keeps n c why u _ h = refl

refused_used : (s : State) (node : ℕ) (kind : CallKind) (place : Place) (why : Refusal) → ((u : ℕ) → used_after why u ≡ u) → SameUsed s (change s node (what.Refused kind place why))
refused_used s node kind place why same k = at_same s.used node (used_after why (s.used node)) k (same (s.used node))

bad_size_is : (why : Refusal) (b c : Bool) → c ≡ false → else_if (refuse_if b refusal.BadSize) (refuse_if c refusal.NamesSpent) ≡ Some why → refusal.BadSize ≡ why
bad_size_is why true c few e = cc
bad_size_is why false true few e = cc
bad_size_is why false false few e = cc

spent : (n : Node) → (serials_used n == COUNT_LIMIT) ≡ false → serials_used n ≤ COUNT_LIMIT → serials_used n + 1 ≤ COUNT_LIMIT
spent n e h = let ne = eqb-false (serials_used n) COUNT_LIMIT e in grind arith

at_own : (f : ℕ → ℕ) (n v : ℕ) → at_node f n v n ≡ v
at_own f n v = cond-true (n == n) v (f n) (eq-eqb n n refl)

-- one serial more
one_used : (n m : Node) (u v : ℕ) → v ≡ u + 1 → serials_used m ≡ serials_used n + 1 → (serials_used n == COUNT_LIMIT) ≡ false → SaysUsed u n → SaysUsed v m
one_used n m u v e f few h = let a = h.is in let b = spent n few (subst (λ x. x ≤ COUNT_LIMIT) h.is h.most) in record { is = omega arith; most = omega arith }

used_lives : (n : Node) (cause : Cause) (o : Outcome) → Lives n cause o → UsedGoes n o
used_lives n cause o (deed.made size e) = record {
  own = λ s h. one_used n o.node (s.used n.me) _ (at_own s.used n.me (s.used n.me + 1)) (length_end n.homes _) (create_fits n size e).2 h;
  other = λ s k apart. cond-false (n.me == k) _ _ apart;
}
used_lives n cause o (deed.used_up size why e few) = record {
  own = λ s h.
      (let bad = bad_size_is why _ _ few e in
      let b = spent n few (subst (λ x. x ≤ COUNT_LIMIT) h.is h.most) in
      let a = h.is in
      one_used n o.node (s.used n.me) _ (at_own s.used n.me _ ∙ ap (λ x. used_after x (s.used n.me)) (sym bad) ∙ min-eq_left (omega arith)) (length_end n.homes _) few h);
  other = λ s k apart. cond-false (n.me == k) _ _ apart;
}
used_lives n cause o (deed.map_refused from name why t d unfit) = stays_used n o (λ s. refused_used s from word.Map (Region name) why (λ u. unfit_keeps _ why t d u unfit)) refl
used_lives n cause o (deed.delete_refused from name why t d unfit) = stays_used n o (λ s. refused_used s from word.Delete (Region name) why (λ u. unfit_keeps _ why t d u unfit)) refl
used_lives n cause o _ = stays_used n o (λ s k. refl) refl

-- A call that is refused and uses no serial: all serials are used, or it isn't a create.
spent_keeps : (why : Refusal) (u : ℕ) → u ≡ COUNT_LIMIT → used_after why u ≡ u
spent_keeps refusal.BadSize u e = min-eq_right (omega arith) ∙ sym e
spent_keeps _ u e = refl

all_spent : (n : Node) → length n.homes ≡ serials_used (uses_serial n) → serials_used n ≡ COUNT_LIMIT
all_spent n e = go (serials_used n == COUNT_LIMIT) refl e
  where
    go : (b : Bool) → (serials_used n == COUNT_LIMIT) ≡ b → length n.homes ≡ serials_used (if b then n else record n { homes = n.homes ++ None ∷ [] }) → serials_used n ≡ COUNT_LIMIT
    go true w x = eqb-true _ _ w
    go false w x = let a = length_end n.homes None in absurd (omega arith)

create_keeps : (n : Node) (size : ℕ) (why : Refusal) (o : Outcome) → verdict n (call.Create size) ≡ Some why → o.node ≡ n → o ≡ node_calls (call.Create size) n → serials_used n ≡ COUNT_LIMIT
unfolding refuses_call
create_keeps n size why o v same is =
    all_spent n (ap serials_used (sym same) ∙ ap (λ (x : Outcome). serials_used x.node) is ∙ ap (λ r. serials_used (call_or_refuse r (call.Create size) n).node) v)

refused_keeps : (n : Node) (c : Call) (why : Refusal) (o : Outcome) (u : ℕ) → verdict n c ≡ Some why → o.node ≡ n → o ≡ node_calls c n → u ≡ serials_used n → used_after why u ≡ u
refused_keeps n (call.Create size) why o u v same is e = spent_keeps why u (e ∙ create_keeps n size why o v same is)
refused_keeps n c why o u v same is e = other_keeps n c why u (refused_for n c why v) tt

used_deed : (n : Node) (cause : Cause) (o : Outcome) → Deed n cause o → IsOutcome cause n o → UsedGoes n o
used_deed n cause o (deed.copies d) is = used_copies n cause o d
used_deed n cause o (deed.lives d) is = used_lives n cause o d
used_deed n cause o (deed.rounds d) is = used_rounds n cause o d
used_deed n cause o (deed.notes d) is = used_notes n _ _ _ d
used_deed n cause o (deed.refuses c why v) is = record {
  own = λ s h. (let same = at_own s.used n.me _ ∙ refused_keeps n c why o (s.used n.me) v refl is h.is in record { is = same ∙ h.is; most = subst (λ x. x ≤ COUNT_LIMIT) (sym same) h.most });
  other = λ s k apart. cond-false (n.me == k) _ _ apart;
}
used_deed n cause o (deed.idles h) is = stays_used n o (λ s k. refl) refl

pub used_mirrored : Mirrored ℕ used_by SaysUsed
used_mirrored = record {
  own = λ j n cause o a s h. (used_deed n cause o a.deed a.is).own s h;
  other = λ j n cause o a s k apart. (used_deed n cause o a.deed a.is).other s k apart;
  boxes = λ a n inbox outbox parcels records notes posted h. record { is = h.is; most = h.most };
  answered = λ a n h. record { is = h.is; most = h.most };
}
