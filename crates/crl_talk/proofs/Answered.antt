-- A call of a node: it is answered with its lines, or the node waits with those that stand at once.
use Rattle.std.proofs.Common.{◌≡◌, ℕ, ◌+◌, ◌==◌, Bool, true, false, None, Some, Option, List, [], ◌∷◌, refl, ap, sym, ◌∙◌, subst}
use Rattle.std.proofs.lemmas.Bool.{cond_both, eq-eqb}
use Rattle.crl_model.specs.declared.name.Name.{Name}
use Rattle.crl_model.specs.declared.stage.Stage.TheVariants as stage
use Rattle.crl_model.specs.declared.call.Call.{Call}
use Rattle.crl_model.specs.declared.call.Call.TheVariants as call
use Rattle.crl_model.specs.declared.call.Refusal.{Refusal}
use Rattle.crl_model.specs.declared.call.Refusal.TheVariants as refusal
use Rattle.crl_model.specs.declared.collective.Part.{Part}
use Rattle.crl_model.specs.declared.collective.Part.TheVariants as part
use Rattle.crl_model.specs.declared.collective.Fold.{Fold}
use Rattle.crl_model.specs.declared.collective.Fold.TheVariants.{Mixed}
use Rattle.crl_model.specs.declared.entry.Place.TheVariants.{Region, Round}
use Rattle.crl_model.specs.declared.entry.What.{What}
use Rattle.crl_model.specs.declared.entry.What.TheVariants as what
use Rattle.crl_model.specs.declared.message.Kind.TheVariants as kind
use Rattle.crl_model.specs.Calls.{kind_of}
use Rattle.crl_model.specs.FoldOf.{fold_of}
use Rattle.crl_protocol.specs.Home.{Home, HomeStep}
use Rattle.crl_protocol.specs.Remote.{Remote, RemoteStep}
use Rattle.crl_protocol.specs.Lifetimes.{Mapping}
use Rattle.crl_protocol.specs.Sections.{Guard}
use Rattle.crl_protocol.specs.Node.{Node, Done, Refused, Wait, Free, Waiting, ForSection, ForMap, ForDelete, ForRound, Outcome, guard_answer, is_mine, home_of, lifetime_of, map_count, message_to}
use Rattle.crl_protocol.specs.Calls.{answer_of, node_calls, call_or_refuse}
use Rattle.crl_protocol.specs.Talk.{lines_of_node, AreRound, AreLines}
use Rattle.crl_protocol.specs.Verdict.{refuse_if, of_part, word_of, place_of, verdict, after_refusal, refuses_call}
use Rattle.crl_protocol.specs.World.{is_call}
use Rattle.crl_deeds.specs.Deeds.{Calls, StartsCall, EndsCall, IsNowhere, Idles, Copies, Lives, Rounds, Notes, Deed}
use Rattle.crl_deeds.specs.NodeFacts.{OwnFits, seen, MappedHere, Fits}
use Rattle.crl_deeds.proofs.Laws.{call_deed}
use Rattle.crl_deeds.specs.Deeds as deed
use Rattle.crl_talk.proofs.Asking.{AskedAs, home_waits_as, side_waits_as}
use Rattle.crl_talk.proofs.Effects.{own_line, own_two, stage_here}
use Rattle.crl_talk.proofs.Going.{section_are, round_are}
use Rattle.crl_talk.proofs.Sides.{Sided}

pub data Answered (n : ℕ) (m : Node) (o : Outcome) : Call → Type 0 where
  done : (c : Call) → (o.answer ≡ Wait → ⊥) → o.node.activity ≡ Free → AreLines n c o.answer (lines_of_node n o.entries) → Answered n m o c
  waits_section : (c : Call) (write : Bool) (q : Name) → StartsCall c write q → o.answer ≡ Wait → o.node.activity ≡ Waiting (ForSection q) → AskedAs write q o.node → lines_of_node n o.entries ≡ [] → Answered n m o c
  waits_map : (q : Name) → o.answer ≡ Wait → o.node.activity ≡ Waiting (ForMap q false) → o.posts ≡ message_to m q.home (kind.InfoAsk q) ∷ [] → lines_of_node n o.entries ≡ [] → Answered n m o (call.Map q)
  waits_delete : (q : Name) → o.answer ≡ Wait → o.node.activity ≡ Waiting (ForDelete q) → o.posts ≡ message_to m q.home (kind.DeleteAsk q) ∷ [] → lines_of_node n o.entries ≡ [] → Answered n m o (call.Delete q)
  deletes : (q : Name) → is_mine m q ≡ true → o.answer ≡ Wait → o.node.activity ≡ Waiting (ForDelete q) → (lifetime_of o.node q).stage ≡ stage.Going n → lines_of_node n o.entries ≡ what.Deleting q ∷ [] → Answered n m o (call.Delete q)
  comes : (part : Part) (round : ℕ) → o.answer ≡ Wait → o.node.activity ≡ Waiting (ForRound round (kind_of part)) → lines_of_node n o.entries ≡ what.Come part ∷ [] → Answered n m o (call.Come part)

-- a node's own line
own : (n : ℕ) (m : Node) (w : What) → m.me ≡ n → lines_of_node n (record { node = m.me; what = w } ∷ []) ≡ w ∷ []
own n m w e = own_line n m.me w (eq-eqb m.me n e)

own_both : (n : ℕ) (m : Node) (w x : What) → m.me ≡ n → lines_of_node n (record { node = m.me; what = w } ∷ record { node = m.me; what = x } ∷ []) ≡ w ∷ x ∷ []
own_both n m w x e = own_two n m.me w x (eq-eqb m.me n e)

guard_comes : (b : Bool) (g : Guard) → guard_answer b g ≡ Wait → ⊥
guard_comes true g e = cc
guard_comes false g e = cc

result_given : (round : ℕ) (fold : Fold) → answer_of round fold ≡ Wait → ⊥
result_given round Mixed e = cc
result_given round _ e = cc

ends_are : (n : ℕ) (m : Node) (bytes : List ℕ) (c : Call) (name : Name) (w : What) (ends : Home → HomeStep) (lowers : Remote → RemoteStep) → EndsCall bytes m c name w ends lowers → AreLines n c Done (w ∷ [])
ends_are n m bytes c name w ends lowers (deed.a_read p can) = (bytes, refl)
ends_are n m bytes c name w ends lowers (deed.a_write p after can) = (bytes, refl)

copies_answered : (n j : ℕ) (m : Node) (c : Call) (o : Outcome) → Copies m (Calls c) o → m.me ≡ n → m.activity ≡ Free → Fits j m → Answered n m o c
copies_answered n j m c o (deed.home_opens x write name h is e can y) me free fits =
    done c (guard_comes write _) free (subst (AreLines n c o.answer) (sym (own n m _ me)) (section_are n c write name _ is refl))
copies_answered n j m c o (deed.side_opens x write name r is e g can y) me free fits =
    done c (guard_comes write _) free (subst (AreLines n c o.answer) (sym (own n m _ me)) (section_are n c write name _ is refl))
copies_answered n j m c o (deed.home_waits x write name h is e can opened) me free fits =
    let a = home_waits_as j m write name h e opened free fits in waits_section c write name is refl refl (record { home = a.home; side = a.side }) refl
copies_answered n j m c o (deed.side_waits x write name r is e g can opened) me free fits =
    let a = side_waits_as j m write name r e g opened in waits_section c write name is refl refl (record { home = a.home; side = a.side }) refl
copies_answered n j m c o (deed.home_ends x name w ends lowers h is e) me free fits = done c (λ y. cc) free (subst (AreLines n c Done) (sym (own n m w me)) (ends_are n m _ c name w ends lowers is))
copies_answered n j m c o (deed.side_ends x name w ends lowers r is e g) me free fits = done c (λ y. cc) free (subst (AreLines n c Done) (sym (own n m w me)) (ends_are n m _ c name w ends lowers is))
copies_answered n j m c o (deed.side_flushes name r other e can) me free fits = done c (λ y. cc) free (own n m _ me)

lives_answered : (n : ℕ) (m : Node) (c : Call) (o : Outcome) → Lives m (Calls c) o → m.me ≡ n → m.activity ≡ Free → verdict m c ≡ None → Answered n m o c
unfolding verdict
lives_answered n m c o (deed.made size e) me free v = done c (λ y. cc) free (own n m _ me)
lives_answered n m c o (deed.used_up size why e x) me free v = cc
lives_answered n m c o (deed.maps_more name k e few mine other) me free v = done c (λ y. cc) free (refl, own n m _ me)
lives_answered n m c o (deed.maps_own name e mine live) me free v = done c (λ y. cc) free (refl, own n m _ me)
lives_answered n m c o (deed.maps_cached name size e other x) me free v = done c (λ y. cc) free (refl, own n m _ me)
lives_answered n m c o (deed.map_asks name e other x real) me free v = waits_map name refl refl refl refl
lives_answered n m c o (deed.deletes_alone name mine live e) me free v = done c (λ y. cc) free (own_both n m _ _ me)
lives_answered n m c o (deed.deletes_own name x xs mine live e) me free v =
    deletes name mine refl refl (stage_here n m name _ mine (ap stage.Going me)) (own n m _ me)
lives_answered n m c o (deed.delete_asks name other real) me free v = waits_delete name refl refl refl refl
lives_answered n m c o (deed.unmaps_one name k e some more closed) me free v = done c (λ y. cc) free (own n m _ me)
lives_answered n m c o (deed.unmaps_own name k e one mine closed) me free v = done c (λ y. cc) free (own n m _ me)
lives_answered n m c o (deed.unmaps_doomed name k e one other doomed closed) me free v = done c (λ y. cc) free (own n m _ me)
lives_answered n m c o (deed.unmaps_keeping name k e one other sound closed kept) me free v = done c (λ y. cc) free (own n m _ me)
lives_answered n m c o (deed.unmaps_evicting name k old e one other sound closed kept) me free v = done c (λ y. cc) free (own n m _ me)

rounds_answered : (n : ℕ) (m : Node) (c : Call) (o : Outcome) → Rounds m (Calls c) o → m.me ≡ n → m.activity ≡ Free → Answered n m o c
rounds_answered n m c o (deed.comes_away part other fits) me free = comes part _ refl refl (own n m _ me)
rounds_answered n m c o (deed.comes_home part first fits all) me free = comes part _ refl refl (own n m _ me)
rounds_answered n m c o (deed.comes_last part parts first fits all) me free =
    done c (result_given _ (fold_of parts)) free (subst (AreLines n c (answer_of (m.rounds + 1) (fold_of parts))) (sym (own_both n m _ _ me)) (round_are n part (m.rounds + 1) (fold_of parts)))

notes_answered : (n : ℕ) (m : Node) (c : Call) (w : What) (k : Node) → Notes m c w k → m.me ≡ n → m.activity ≡ Free → Answered n m (record { node = k; answer = Done; entries = record { node = m.me; what = w } ∷ []; posts = [] }) c
notes_answered n m c w k (deed.ends_nowhere x name y ends lowers is e) me free = done c (λ z. cc) free (subst (AreLines n c Done) (sym (own n m w me)) (ends_are n m _ c name w ends lowers is))
notes_answered n m c w k (deed.flushes_own name mine can) me free = done c (λ z. cc) free (own n m w me)
notes_answered n m c w k (deed.flushes_nowhere name mine e can) me free = done c (λ z. cc) free (own n m w me)

-- What is mapped has a table or a side.
mapped_some : (o : Option Mapping) → (map_count o == 0) ≡ false → (x : Mapping) × (o ≡ Some x)
mapped_some None e = cc
mapped_some (Some x) e = (x, refl)

somewhere : (j : ℕ) (m : Node) (name : Name) {A : Type 0} (x : Mapping) → m.maps name ≡ Some x → IsNowhere m name → Fits j m → Sided m → A
somewhere j m name {A = A} x e none fits sided = go (is_mine m name) refl
  where
    go : (b : Bool) → is_mine m name ≡ b → A
    go true w = absurd (subst (λ h. MappedHere (Some x) h) none.0 (subst (λ y. MappedHere y (home_of m name)) e (subst (λ b. OwnFits b (seen m name)) w (fits.each name).own).mapped))
    go false w = let s = sided.mapped name x w e in let z = none.1 in cc

idle_answered : (n j : ℕ) (m : Node) (c : Call) (o : Outcome) → Idles (Calls c) m → is_call m c None ≡ true → Fits j m → Sided m → Answered n m o c
idle_answered n j m (call.Put name offset len) o h may fits sided = cc
idle_answered n j m (call.Add name offset) o h may fits sided = cc
idle_answered n j m (call.StartRead name) o h may fits sided = let x = mapped_some (m.maps name) h.0.mapped in somewhere j m name x.0 x.1 h.1 fits sided
idle_answered n j m (call.StartWrite name) o h may fits sided = let x = mapped_some (m.maps name) h.0.mapped in somewhere j m name x.0 x.1 h.1 fits sided
idle_answered n j m _ o h may fits sided = absurd h

allowed_answered : (n j : ℕ) (m : Node) (c : Call) (o : Outcome) → Deed m (Calls c) o → m.me ≡ n → m.activity ≡ Free → verdict m c ≡ None → is_call m c None ≡ true → Fits j m → Sided m → Answered n m o c
allowed_answered n j m c o (deed.copies d) me free v may fits sided = copies_answered n j m c o d me free fits
allowed_answered n j m c o (deed.lives d) me free v may fits sided = lives_answered n m c o d me free v
allowed_answered n j m c o (deed.rounds d) me free v may fits sided = rounds_answered n m c o d me free
allowed_answered n j m c o (deed.notes d) me free v may fits sided = notes_answered n m c _ _ d me free
allowed_answered n j m c o (deed.refuses x why w) me free v may fits sided = cc
allowed_answered n j m c o (deed.idles h) me free v may fits sided = idle_answered n j m c o h may fits sided

-- A call that its node refuses.
part_refused : (n : ℕ) (p : Part) (round : ℕ) (why : Refusal) → (why ≡ refusal.Mixed → ⊥) → AreRound n p (Refused why) (what.Refused (word_of (call.Come p)) (Round round) why ∷ [])
part_refused n p round refusal.Mixed other = absurd (other refl)
part_refused n p round _ other = (Round round, tt, refl)

refuse_other : (b : Bool) (why : Refusal) → refuse_if b refusal.WrongSize ≡ Some why → why ≡ refusal.Mixed → ⊥
refuse_other true why e s = cc
refuse_other false why e s = cc

part_never_mixed : (p : Part) (why : Refusal) → of_part p ≡ Some why → why ≡ refusal.Mixed → ⊥
part_never_mixed (part.Send bytes) why e s = refuse_other _ why e s
part_never_mixed part.Barrier why e s = cc
part_never_mixed part.Receive why e s = cc
part_never_mixed (part.Sum x) why e s = cc
part_never_mixed (part.Min x) why e s = cc
part_never_mixed (part.Max x) why e s = cc

refused_are : (n : ℕ) (m : Node) (c : Call) (why : Refusal) → m.me ≡ n → verdict m c ≡ Some why → AreLines n c (Refused why) (what.Refused (word_of c) (place_of m c) why ∷ [])
unfolding verdict
refused_are n m (call.Come p) why me v = part_refused n p (m.rounds + 1) why (part_never_mixed p why v)
refused_are n m (call.Create size) why me v = (place_of m (call.Create size), me, refl)
refused_are n m (call.Delete q) why me v = (Region q, refl, refl)
refused_are n m (call.Map q) why me v = (Region q, refl, refl)
refused_are n m (call.Unmap q) why me v = (Region q, refl, refl)
refused_are n m (call.StartRead q) why me v = (Region q, refl, refl)
refused_are n m (call.EndRead q) why me v = (Region q, refl, refl)
refused_are n m (call.StartWrite q) why me v = (Region q, refl, refl)
refused_are n m (call.EndWrite q after) why me v = (Region q, refl, refl)
refused_are n m (call.Put q offset len) why me v = (Region q, refl, refl)
refused_are n m (call.Add q offset) why me v = (Region q, refl, refl)
refused_are n m (call.Flush q) why me v = (Region q, refl, refl)

refused_activity : (m : Node) (c : Call) → (after_refusal c m).activity ≡ m.activity
refused_activity m (call.Create size) = cond_both _ _ _ (λ (x : Node). x.activity ≡ m.activity) (λ w. refl) (λ w. refl)
refused_activity m _ = refl

refused_answered : (n : ℕ) (m : Node) (c : Call) (why : Refusal) → m.me ≡ n → m.activity ≡ Free → verdict m c ≡ Some why → Answered n m (refuses_call why c m) c
unfolding refuses_call
refused_answered n m c why me free v = done c (λ y. cc) (refused_activity m c ∙ free) (subst (AreLines n c (Refused why)) (sym (own n m _ me)) (refused_are n m c why me v))

-- What a node does with a call.
pub answered : (n j : ℕ) (m : Node) (c : Call) → m.me ≡ n → m.activity ≡ Free → is_call m c (verdict m c) ≡ true → Fits j m → Sided m → Answered n m (node_calls c m) c
answered n j m c me free may fits sided = go (verdict m c) refl
  where
    go : (o : Option Refusal) → verdict m c ≡ o → Answered n m (call_or_refuse o c m) c
    go None v = allowed_answered n j m c _ (subst (λ o. Deed m (Calls c) (call_or_refuse o c m)) v (call_deed m c)) me free v (ap (is_call m c) (sym v) ∙ may) fits sided
    go (Some why) v = refused_answered n m c why me free v
