-- Whether a node is free is known by what it heard.
use Rattle.std.proofs.Common.{◌≡◌, ℕ, ◌==◌, Bool, true, false, if◌then◌else◌, List, [], ◌∷◌, ◌++◌, refl, ap, sym, ◌∙◌, subst}
use Rattle.std.proofs.lemmas.Bool.{and_parts}
use Rattle.crl_model.specs.declared.name.Name.{Name}
use Rattle.crl_model.specs.declared.collective.Fold.{Fold}
use Rattle.crl_model.specs.declared.collective.Fold.TheVariants as fold
use Rattle.crl_model.specs.declared.call.Call.{Call}
use Rattle.crl_model.specs.declared.entry.What.{What}
use Rattle.crl_model.specs.declared.event.Event.{Event}
use Rattle.crl_model.specs.declared.event.Event.TheVariants as event
use Rattle.crl_model.specs.declared.message.Kind.{Kind}
use Rattle.crl_protocol.specs.Sections.{Guard}
use Rattle.crl_protocol.specs.Node.{Node, Activity, Free, Waiting, Ready, ForMap, Outcome, guard_answer}
use Rattle.crl_protocol.specs.Calls.{node_calls, answer_of}
use Rattle.crl_protocol.specs.Handlers.{purges_waiting}
use Rattle.crl_protocol.specs.Talk.{Heard, Called, Collected, hears_of, hears}
use Rattle.crl_protocol.specs.Verdict.{verdict}
use Rattle.crl_protocol.specs.World.{World, WorldStep, step, is_enabled, is_free, is_ready, collects, noted_call, commits, IsRunFrom, world_after}
use Rattle.crl_deeds.specs.Counts.{Known}
use Rattle.crl_deeds.specs.Deeds.{Calls, Hears, Copies, Lives, Rounds, Notes, Deed}
use Rattle.crl_deeds.specs.Deeds as deed
use Rattle.crl_deeds.specs.NodeFacts.{IsAway, Fits}
use Rattle.crl_deeds.specs.Turns.{Turn}
use Rattle.crl_deeds.proofs.Laws.{call_deed, own_waits, grant_waits, going_own, known_step, turn_of, with_rest, may_call}
use Rattle.crl_talk.proofs.Laws.{is_away, is_move, each_moved}
use Rattle.crl_plays.specs.Plays.{is_free_by, is_free_after}

-- A call leaves the node free just where it has an answer.
guard_frees : (c : Call) (write : Bool) (g : Guard) → is_free_by (Called c (guard_answer write g)) ≡ true
guard_frees c true g = refl
guard_frees c false g = refl

round_frees : (c : Call) (round : ℕ) (f : Fold) → is_free_by (Called c (answer_of round f)) ≡ true
round_frees c round fold.Mixed = refl
round_frees c round _ = refl

copies_call : (n : Node) (c : Call) (o : Outcome) → Copies n (Calls c) o → is_free n.activity ≡ true → is_free o.node.activity ≡ is_free_by (Called c o.answer)
copies_call n c o (deed.home_opens x write name h is e can opened) free = free ∙ sym (guard_frees c write _)
copies_call n c o (deed.side_opens x write name r is e g can opened) free = free ∙ sym (guard_frees c write _)
copies_call n c o (deed.home_waits x write name h is e can opened) free = refl
copies_call n c o (deed.side_waits x write name r is e g can opened) free = refl
copies_call n c o _ free = free

lives_call : (n : Node) (c : Call) (o : Outcome) → Lives n (Calls c) o → is_free n.activity ≡ true → is_free o.node.activity ≡ is_free_by (Called c o.answer)
lives_call n c o (deed.map_asks name none mine cached real) free = refl
lives_call n c o (deed.deletes_own name m ms mine live e) free = refl
lives_call n c o (deed.delete_asks name mine real) free = refl
lives_call n c o (deed.made size e) free = free
lives_call n c o _ free = free

rounds_call : (n : Node) (c : Call) (o : Outcome) → Rounds n (Calls c) o → is_free n.activity ≡ true → is_free o.node.activity ≡ is_free_by (Called c o.answer)
rounds_call n c o (deed.comes_away part other fits) free = refl
rounds_call n c o (deed.comes_home part mine fits none) free = refl
rounds_call n c o (deed.comes_last part parts mine fits all) free = free ∙ sym (round_frees c _ _)

notes_call : (n : Node) (c : Call) (w : What) (m : Node) → Notes n c w m → is_free n.activity ≡ true → is_free m.activity ≡ true
notes_call n c w m (deed.ends_nowhere x name y ends lowers is none) free = free
notes_call n c w m (deed.flushes_own name mine can) free = free
notes_call n c w m (deed.flushes_nowhere name mine none can) free = free

call_leaves : (n : Node) (c : Call) (o : Outcome) → Deed n (Calls c) o → is_free n.activity ≡ true → is_free o.node.activity ≡ is_free_by (Called c o.answer)
call_leaves n c o (deed.copies d) free = copies_call n c o d free
call_leaves n c o (deed.lives d) free = lives_call n c o d free
call_leaves n c o (deed.rounds d) free = rounds_call n c o d free
call_leaves n c o (deed.notes d) free = notes_call n c _ _ d free
call_leaves n c o (deed.refuses x why v) free = free
call_leaves n c o (deed.idles h) free = free

-- A message leaves it as it is.
purge_leaves : (name : Name) (a : Activity) → is_free (purges_waiting name a) ≡ is_free a
purge_leaves name (Waiting (ForMap q purged)) = refl
purge_leaves name (Waiting awaited) = refl
purge_leaves name Free = refl
purge_leaves name (Ready answer) = refl

copies_hear : (j : ℕ) (n : Node) (from : ℕ) (k : Kind) (o : Outcome) → Copies n (Hears from k) o → Fits j n → IsAway from n.me k → is_free o.node.activity ≡ is_free n.activity
copies_hear j n from k o (deed.home_serves_own x y name h s is e z) fits away = sym (ap is_free (own_waits j n h from y name s is e z away fits))
copies_hear j n from k o (deed.grant_comes x name version granted r e t) fits away = sym (ap is_free (grant_waits j n name granted r e t fits))
copies_hear j n from k o _ fits away = refl

lives_hear : (j : ℕ) (n : Node) (from : ℕ) (k : Kind) (o : Outcome) → Lives n (Hears from k) o → Fits j n → is_free o.node.activity ≡ is_free n.activity
lives_hear j n from k o (deed.map_comes x name purged size e) fits = sym (ap is_free e)
lives_hear j n from k o (deed.map_denied x name purged s why t d u e) fits = sym (ap is_free e)
lives_hear j n from k o (deed.delete_comes x name d e) fits = sym (ap is_free e)
lives_hear j n from k o (deed.warns x name e c) fits = purge_leaves name n.activity
lives_hear j n from k o (deed.ends_own x name mine e missing last) fits = sym (ap is_free (going_own n.me name _ n.activity (fits.each name).going e))
lives_hear j n from k o _ fits = refl

rounds_hear : (n : Node) (from : ℕ) (k : Kind) (o : Outcome) → Rounds n (Hears from k) o → is_free o.node.activity ≡ is_free n.activity
rounds_hear n from k o (deed.part_last x round part parts mine c e a all) = sym (ap is_free e)
rounds_hear n from k o (deed.result_comes x round f c e) = sym (ap is_free e)
rounds_hear n from k o _ = refl

message_leaves : (j : ℕ) (n : Node) (from : ℕ) (k : Kind) (o : Outcome) → Deed n (Hears from k) o → Fits j n → IsAway from n.me k → is_free o.node.activity ≡ is_free n.activity
message_leaves j n from k o (deed.copies d) fits away = copies_hear j n from k o d fits away
message_leaves j n from k o (deed.lives d) fits away = lives_hear j n from k o d fits
message_leaves j n from k o (deed.rounds d) fits away = rounds_hear n from k o d
message_leaves j n from k o (deed.idles h) fits away = refl

moved_free : (n : ℕ) (was : Bool) (w : World) (v : WorldStep) {e : Event} → Turn w e v → is_move e ≡ true → Known w → is_free (w.nodes n).activity ≡ was → is_free (v.world.nodes n).activity ≡ was
moved_free n was w v t moves known h =
    each_moved (λ j x. j ≡ n → is_free x.activity ≡ was) (λ i x inbox outbox parcels records notes posted k. k) w v t moves
    (λ i p rest parcels part o took d k e.
    (message_leaves i (record (w.nodes i) { inbox = rest; parcels = parcels }) _ _ o d (with_rest i (w.nodes i) p rest parcels took (known.fits i)) (is_away i (w.nodes i) p rest part took (known.fits i)) ∙ k e))
    (λ j e. subst (λ i. is_free (w.nodes i).activity ≡ was) (sym e) h) n refl

-- An event.

free_event : (n : ℕ) (was : Bool) (w : World) (e : Event) → is_enabled e w ≡ true → Known w → is_free (w.nodes n).activity ≡ was
    → is_free ((step e w).world.nodes n).activity ≡ is_free_after was (hears_of n e (step e w).answer)
unfolding is_enabled step
free_event n was w (event.Call i c) may known h = go (i == n) refl
  where
    o : Outcome
    o = node_calls c (w.nodes i)

    go : (b : Bool) → (i == n) ≡ b → is_free (if b then commits w.events (event.Call i (noted_call (verdict (w.nodes i) c) c)) o else w.nodes n).activity ≡ is_free_after was (if b then Called c o.answer ∷ [] else [])
    go true e = call_leaves (w.nodes i) c o (call_deed (w.nodes i) c) (ap is_free (may_call i c w may).1)
    go false e = h
free_event n was w (event.Collect i) may known h = over (w.nodes i).activity (and_parts _ _ may).1
  where
    over : (a : Activity) → is_ready a ≡ true
        → is_free (if i == n then commits w.events (event.Collect i) (collects a (w.nodes i)) else w.nodes n).activity ≡ is_free_after was (if i == n then Collected (collects a (w.nodes i)).answer ∷ [] else [])
    over Free r = cc
    over (Waiting awaited) r = cc
    over (Ready answer) r = go (i == n)
      where
        go : (b : Bool) → is_free (if b then commits w.events (event.Collect i) (collects (Ready answer) (w.nodes i)) else w.nodes n).activity ≡ is_free_after was (if b then Collected answer ∷ [] else [])
        go true = refl
        go false = h
free_event n was w (event.Handle i place) may known h = moved_free n was w _ (turn_of w (event.Handle i place) may) refl known h
free_event n was w (event.Carry i place) may known h = moved_free n was w _ (turn_of w (event.Carry i place) may) refl known h

-- A run.
free_append : (was : Bool) (xs ys : List Heard) → is_free_after was (xs ++ ys) ≡ is_free_after (is_free_after was xs) ys
free_append was [] ys = refl
free_append was (x ∷ xs) ys = free_append (is_free_by x) xs ys

pub free_run : (n : ℕ) (was : Bool) (es : List Event) (w : World) → IsRunFrom w es → Known w → is_free (w.nodes n).activity ≡ was → is_free ((world_after w es).nodes n).activity ≡ is_free_after was (hears n w es)
free_run n was [] w r known h = h
free_run n was (e ∷ es) w r known h =
    free_run n (is_free_after was (hears_of n e (step e w).answer)) es (step e w).world r.1 (known_step w e r.0 known) (free_event n was w e r.0 known h)
    ∙ sym (free_append was (hears_of n e (step e w).answer) (hears n (step e w).world es))
