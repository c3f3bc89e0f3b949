-- The sections that are open at a node are those of its guards: after every deed.
use Rattle.std.proofs.Common.{◌≡◌, ℕ, ◌+◌, ◌-◌, ◌==◌, ◌&&◌, Bool, true, false, None, Some, Option, List, [], ◌∷◌, ◌++◌, if◌then◌else◌, refl, ap, sym, ◌∙◌, subst, arith}
use Rattle.std.proofs.lemmas.Bool.{cond_both, eqb-true}
use Rattle.crl_model.specs.declared.name.Name.{Name}
use Rattle.crl_model.specs.declared.call.Call.{Call}
use Rattle.crl_model.specs.declared.call.Call.TheVariants as call
use Rattle.crl_model.specs.declared.collective.Fold.{Fold}
use Rattle.crl_model.specs.declared.collective.Fold.TheVariants.{Mixed}
use Rattle.crl_model.specs.declared.directory.Section.{Section}
use Rattle.crl_model.specs.declared.directory.Section.TheVariants as section
use Rattle.crl_model.specs.declared.entry.What.{What}
use Rattle.crl_model.specs.declared.message.DeleteTold.{DeleteTold}
use Rattle.crl_model.specs.declared.message.DeleteTold.TheVariants as delete_told
use Rattle.crl_model.specs.declared.message.Kind.{Kind}
use Rattle.crl_model.specs.FoldOf.{fold_of}
use Rattle.crl_model.specs.Names.{name_eq}
use Rattle.crl_model.specs.declared.collective.Part.{Part}
use Rattle.crl_protocol.specs.Home.{Home, HomeStep, one_section_more, one_section_less}
use Rattle.crl_protocol.specs.Remote.{Remote, RemoteStep, asks_to_write}
use Rattle.crl_protocol.specs.Sections.{Guard, OpenSection, Sections, section_of, section_at, is_writing, section_begins, begins_to_read, section_ends, ends_over}
use Rattle.crl_protocol.specs.Node.{Node, Answer, Activity, Done, Wait, Free, Waiting, Ready, ForSection, ForMap, ForDelete, ForRound, Outcome}
use Rattle.crl_protocol.specs.Sectioning.{closes}
use Rattle.crl_protocol.specs.Calls.{answer_of}
use Rattle.crl_protocol.specs.Handlers.{delete_answer, purges_waiting}
use Rattle.crl_protocol.specs.Talk.{Called}
use Rattle.crl_deeds.specs.Deeds.{Cause, Calls, Hears, FreeIf, opened_at, StartsCall, EndsCall, CanStart, CanEnd, Copies, Lives, Rounds, Notes, Idles, Deed}
use Rattle.crl_deeds.specs.NodeFacts.{IsAway, Fits}
use Rattle.crl_deeds.specs.Counts.{AwaitsSection, SectionsFit}
use Rattle.crl_deeds.proofs.Laws.{same_name, by_name, going_own, own_waits, grant_waits, write_starts_closed, read_starts_below}
use Rattle.crl_deeds.specs.Deeds as deed
use Rattle.crl_talk.specs.Guards.{Given, given_of, given_yet, is_done, without_newest, held_after, AreGuards, closed, writing, reading, nested}
use Rattle.crl_talk.proofs.Asking.{AskedAs, home_waits_as, side_waits_as, granted_as, served_own_as}

-- A section that ends is that of the newest guard.
abbrev after_end : Option OpenSection → Option OpenSection
after_end None = None
after_end (Some r) = elim (one_section_less r.section) [ section.Closed ↦ None | section.Reading count ↦ Some (record r { section = section.Reading count }) | section.Writing ↦ None ]

newest_ends : (n : ℕ) (gs : List Given) (o : Option OpenSection) → AreGuards n gs o → AreGuards n (without_newest gs) (after_end o)
newest_ends n gs o closed = closed
newest_ends n gs o (writing g e) = closed
newest_ends n gs o (reading g e) = closed
newest_ends n gs o (nested g rest k number bytes e same some h) =
    cond_both (k + 1 == 1) _ _ (λ (s : Section). AreGuards n rest (elim s [ section.Closed ↦ None | section.Reading count ↦ Some (record { section = section.Reading count; number = number; bytes = bytes }) | section.Writing ↦ None ]))
    (λ w. let one = eqb-true (k + 1) 1 w in absurd (omega arith)) (λ w. let back : k ≡ k + 1 - 1 = omega arith in subst (λ m. AreGuards n rest (Some (record { section = section.Reading m; number = number; bytes = bytes }))) back h)

records_end : (name : Name) (s : Sections) (q : Name) → (section_ends name s).records q ≡ (if name_eq name q then after_end (s.records name) else s.records q)
unfolding section_ends
records_end name s q = over (s.records name) refl
  where
    over : (o : Option OpenSection) → s.records name ≡ o → (ends_over name o s).records q ≡ (if name_eq name q then after_end o else s.records q)
    over None e = go (name_eq name q) refl
      where
        go : (b : Bool) → name_eq name q ≡ b → s.records q ≡ (if b then None else s.records q)
        go true w = ap s.records (sym (same_name name q w)) ∙ e
        go false w = refl
    over (Some r) e = refl

abbrev pub Holds : Node → (Name → List Given) → Type 0
Holds n f = (q : Name) → AreGuards n.me (f q) (n.sections.records q)

closes_held : (n : Node) (f : Name → List Given) (name : Name) → Holds n f → (q : Name) → AreGuards n.me (if name_eq name q then without_newest (f q) else f q) ((closes name n).sections.records q)
closes_held n f name h q =
    subst (λ (o : Option OpenSection). AreGuards n.me (if name_eq name q then without_newest (f q) else f q) o) (sym (records_end name n.sections q))
    (by_name name (λ b p. AreGuards n.me (if b then without_newest (f p) else f p) (if b then after_end (n.sections.records name) else n.sections.records p))
    (newest_ends n.me (f name) (n.sections.records name) (h name)) (λ p w. h p) q)

-- A section that opens is that of the guard with it.
none_held : (n : ℕ) (gs : List Given) (o : Option OpenSection) → AreGuards n gs o → section_of o ≡ section.Closed → gs ≡ []
none_held n gs o closed e = refl
none_held n gs o (writing g x) e = cc
none_held n gs o (reading g x) e = cc
none_held n gs o (nested g rest k number bytes x same some h) e = cc

more_held : (n : ℕ) (g : Guard) (gs : List Given) (r : OpenSection) → g.node ≡ n → g.number ≡ r.number → is_writing r.section ≡ false → AreGuards n gs (Some r)
    → AreGuards n (record { write = false; guard = g } ∷ gs) (Some (record r { section = one_section_more r.section }))
more_held n g gs r own same w (writing x e) = cc
more_held n g gs r own same w (reading x e) = nested g gs 1 x.number x.bytes own same (omega arith) (reading x e)
more_held n g gs r own same w (nested x rest k number bytes e y some h) = nested g gs (k + 1) number bytes own same (omega arith) (nested x rest k number bytes e y some h)

opened_held : (n : Node) (f : Name → List Given) (write : Bool) (name : Name) (bytes : List ℕ) → (write ≡ true → section_at name n.sections ≡ section.Closed) → is_writing (section_at name n.sections) ≡ false → Holds n f
    → (q : Name) → AreGuards n.me (given_of q (opened_at write name bytes n).answer ++ f q) ((opened_at write name bytes n).node.sections.records q)
unfolding section_begins
opened_held n f true name bytes shut calm h =
    let g : Guard = record { node = n.me; name = name; number = n.sections.last + 1; bytes = bytes } in
    by_name name (λ b q. AreGuards n.me ((if b then record { write = true; guard = g } ∷ [] else []) ++ f q) (if b then Some (record { section = section.Writing; number = n.sections.last + 1; bytes = bytes }) else n.sections.records q))
    (subst (λ gs. AreGuards n.me (record { write = true; guard = g } ∷ gs) (Some (record { section = section.Writing; number = n.sections.last + 1; bytes = bytes }))) (sym (none_held n.me (f name) (n.sections.records name) (h name) (shut refl))) (writing g refl))
    (λ q w. h q)
opened_held n f false name bytes shut calm h = go (n.sections.records name) refl (h name) calm
  where
    go : (o : Option OpenSection) → n.sections.records name ≡ o → AreGuards n.me (f name) (n.sections.records name) → is_writing (section_of (n.sections.records name)) ≡ false → (q : Name)
        → AreGuards n.me ((if name_eq name q then record { write = false; guard = record { node = n.me; name = name; number = (begins_to_read name o bytes n.sections).number; bytes = bytes } } ∷ [] else []) ++ f q) ((begins_to_read name o bytes n.sections).sections.records q)
    go None e a w =
        let g : Guard = record { node = n.me; name = name; number = n.sections.last + 1; bytes = bytes } in
        by_name name (λ b q. AreGuards n.me ((if b then record { write = false; guard = g } ∷ [] else []) ++ f q) (if b then Some (record { section = section.Reading 1; number = n.sections.last + 1; bytes = bytes }) else n.sections.records q))
        (subst (λ gs. AreGuards n.me (record { write = false; guard = g } ∷ gs) (Some (record { section = section.Reading 1; number = n.sections.last + 1; bytes = bytes }))) (sym (none_held n.me (f name) (n.sections.records name) a (ap section_of e))) (reading g refl))
        (λ q w. h q)
    go (Some r) e a w =
        let g : Guard = record { node = n.me; name = name; number = r.number; bytes = bytes } in
        by_name name (λ b q. AreGuards n.me ((if b then record { write = false; guard = g } ∷ [] else []) ++ f q) (if b then Some (record r { section = one_section_more r.section }) else n.sections.records q))
        (more_held n.me g (f name) r refl refl (ap (λ o. is_writing (section_of o)) (sym e) ∙ w) (subst (AreGuards n.me (f name)) e a))
        (λ q w. h q)

-- A call.
kept_if : (b : Bool) (x y : List Given) → (if b && false then x else y) ≡ y
kept_if true x y = refl
kept_if false x y = refl

starts_held : (c : Call) (write : Bool) (name : Name) (q : Name) (answer : Answer) (gs : List Given) → StartsCall c write name → held_after q (Called c answer) gs ≡ given_of q answer ++ gs
starts_held c write name q answer gs (deed.to_read p) = ap (λ xs. given_of q answer ++ xs) (kept_if (is_done answer) _ gs)
starts_held c write name q answer gs (deed.to_write p) = ap (λ xs. given_of q answer ++ xs) (kept_if (is_done answer) _ gs)

ends_held : (n : Node) (f : Name → List Given) (c : Call) (name : Name) (w : What) (ends : Home → HomeStep) (lowers : Remote → RemoteStep) (bytes : List ℕ) → EndsCall bytes n c name w ends lowers → Holds n f
    → (q : Name) → AreGuards n.me (held_after q (Called c Done) (f q)) ((closes name n).sections.records q)
ends_held n f c name w ends lowers bytes (deed.a_read p can) h = closes_held n f p h
ends_held n f c name w ends lowers bytes (deed.a_write p after can) h = closes_held n f p h

came_gives : (q : Name) (round : ℕ) (fold : Fold) → given_of q (answer_of round fold) ≡ []
came_gives q round Mixed = refl
came_gives q round _ = refl

came_held : (q : Name) (part : Part) (round : ℕ) (fold : Fold) (gs : List Given) → held_after q (Called (call.Come part) (answer_of round fold)) gs ≡ gs
came_held q part round fold gs = ap (λ xs. xs ++ (if is_done (answer_of round fold) && false then without_newest gs else gs)) (came_gives q round fold) ∙ kept_if (is_done (answer_of round fold)) _ gs

pub can_open : (n : Node) (c : Call) (write : Bool) (name : Name) → StartsCall c write name → CanStart n write name → (write ≡ true → section_at name n.sections ≡ section.Closed) × (is_writing (section_at name n.sections) ≡ false)
can_open n c write name (deed.to_read p) can = ((λ w. cc), (read_starts_below n p can).0)
can_open n c write name (deed.to_write p) can = let e = write_starts_closed n p can in ((λ w. e), ap is_writing e)

starts_open : (n : Node) (f : Name → List Given) (c : Call) (write : Bool) (name : Name) (bytes : List ℕ) → StartsCall c write name → CanStart n write name → Holds n f
    → (q : Name) → AreGuards n.me (held_after q (Called c (opened_at write name bytes n).answer) (f q)) ((opened_at write name bytes n).node.sections.records q)
starts_open n f c write name bytes is can h q =
    let ok = can_open n c write name is can in
    subst (λ gs. AreGuards n.me gs ((opened_at write name bytes n).node.sections.records q)) (sym (starts_held c write name q (opened_at write name bytes n).answer (f q) is)) (opened_held n f write name bytes ok.0 ok.1 h q)

waits_held : (n : Node) (f : Name → List Given) (c : Call) (write : Bool) (name : Name) → StartsCall c write name → Holds n f → (q : Name) → AreGuards n.me (held_after q (Called c Wait) (f q)) (n.sections.records q)
waits_held n f c write name (deed.to_read p) h q = h q
waits_held n f c write name (deed.to_write p) h q = h q

copies_call : (n : Node) (f : Name → List Given) (c : Call) (o : Outcome) → Copies n (Calls c) o → Holds n f → (q : Name) → AreGuards n.me (held_after q (Called c o.answer) (f q)) (o.node.sections.records q)
copies_call n f c o (deed.home_opens x write name h is e can y) k q = starts_open n f c write name _ is can k q
copies_call n f c o (deed.side_opens x write name r is e g can y) k q = starts_open n f c write name _ is can k q
copies_call n f c o (deed.home_waits x write name h is e can y) k q = waits_held n f c write name is k q
copies_call n f c o (deed.side_waits x write name r is e g can y) k q = waits_held n f c write name is k q
copies_call n f c o (deed.home_ends x name w ends lowers h is e) k q = ends_held n f c name w ends lowers _ is k q
copies_call n f c o (deed.side_ends x name w ends lowers r is e g) k q = ends_held n f c name w ends lowers _ is k q
copies_call n f c o (deed.side_flushes name r other e can) k q = k q

lives_call : (n : Node) (f : Name → List Given) (c : Call) (o : Outcome) → Lives n (Calls c) o → Holds n f → (q : Name) → AreGuards n.me (held_after q (Called c o.answer) (f q)) (o.node.sections.records q)
lives_call n f c o (deed.made size e) k q = k q
lives_call n f c o _ k q = k q

rounds_call : (n : Node) (f : Name → List Given) (c : Call) (o : Outcome) → Rounds n (Calls c) o → Holds n f → (q : Name) → AreGuards n.me (held_after q (Called c o.answer) (f q)) (o.node.sections.records q)
rounds_call n f c o (deed.comes_last part parts first fits all) k q = subst (λ gs. AreGuards n.me gs (n.sections.records q)) (sym (came_held q part _ _ (f q))) (k q)
rounds_call n f c o _ k q = k q

notes_call : (n : Node) (f : Name → List Given) (c : Call) (w : What) (m : Node) → Notes n c w m → Holds n f → (q : Name) → AreGuards n.me (held_after q (Called c Done) (f q)) (m.sections.records q)
notes_call n f c w m (deed.ends_nowhere x name y ends lowers is e) k q = ends_held n f c name w ends lowers _ is k q
notes_call n f c w m _ k q = k q

idle_call : (n : Node) (f : Name → List Given) (c : Call) → Idles (Calls c) n → Holds n f → (q : Name) → AreGuards n.me (held_after q (Called c Done) (f q)) (n.sections.records q)
idle_call n f (call.EndRead name) h k q = absurd h
idle_call n f (call.EndWrite name after) h k q = absurd h
idle_call n f _ h k q = k q

pub call_held : (n : Node) (f : Name → List Given) (c : Call) (o : Outcome) → Deed n (Calls c) o → Holds n f → (q : Name) → AreGuards n.me (held_after q (Called c o.answer) (f q)) (o.node.sections.records q)
call_held n f c o (deed.copies d) k q = copies_call n f c o d k q
call_held n f c o (deed.lives d) k q = lives_call n f c o d k q
call_held n f c o (deed.rounds d) k q = rounds_call n f c o d k q
call_held n f c o (deed.notes d) k q = notes_call n f c _ _ d k q
call_held n f c o (deed.refuses x why v) k q = k q
call_held n f c o (deed.idles h) k q = idle_call n f c h k q

-- A message.
warned_gives : (q name : Name) (a : Activity) → given_yet q (purges_waiting name a) ≡ given_yet q a
warned_gives q name (Waiting (ForMap p purged)) = refl
warned_gives q name _ = refl

delete_gives : (q : Name) (d : DeleteTold) → given_yet q (Ready (delete_answer d)) ≡ []
delete_gives q delete_told.Done = refl
delete_gives q delete_told.Unknown = refl
delete_gives q delete_told.Deleted = refl

-- A node that waits has no guard to be given, and one that becomes ready without a guard has none.
abbrev pub Yet : (Name → List Given) → Node → Type 0
Yet f n = (q : Name) → AreGuards n.me (given_yet q n.activity ++ f q) (n.sections.records q)

was_waiting : (f : Name → List Given) (n : Node) (a : Activity) → n.activity ≡ a → ((q : Name) → given_yet q a ≡ []) → Yet f n → Holds n f
was_waiting f n a e none h q = subst (λ gs. AreGuards n.me (gs ++ f q) (n.sections.records q)) (ap (given_yet q) e ∙ none q) (h q)

now_none : (f : Name → List Given) (n : Node) (a : Activity) → ((q : Name) → given_yet q a ≡ []) → Holds n f → (q : Name) → AreGuards n.me (given_yet q a ++ f q) (n.sections.records q)
now_none f n a none h q = subst (λ gs. AreGuards n.me (gs ++ f q) (n.sections.records q)) (sym (none q)) (h q)

-- Where the node waits for a section, what it asked for; and where that is to write, its section is closed.
abbrev pub Asks : Node → Type 0
Asks n = (q : Name) → n.activity ≡ Waiting (ForSection q) → (write : Bool) × AskedAs write q n × (write ≡ true → section_at q n.sections ≡ section.Closed)

flag_shut : (b write : Bool) (n : Node) (name : Name) → b ≡ write → (write ≡ true → section_at name n.sections ≡ section.Closed) → b ≡ true → section_at name n.sections ≡ section.Closed
flag_shut b write n name e h w = h (sym e ∙ w)

copies_hear : (j : ℕ) (n : Node) (f : Name → List Given) (from : ℕ) (k : Kind) (o : Outcome) → Copies n (Hears from k) o → Fits j n → IsAway from n.me k → SectionsFit n → Asks n → Yet f n → Yet f o.node
copies_hear j n f from k o (deed.home_serves x y name h s is e z) fits away sections asks g = g
copies_hear j n f from k o (deed.side_called x y name r s is e) fits away sections asks g = g
copies_hear j n f from k o (deed.home_serves_own x y name h s is e z) fits away sections asks g =
    let waits = own_waits j n h from y name s is e z away fits in
    let a = asks name waits in
    opened_held n f (is_writing s.home.mine) name s.home.bytes (flag_shut _ a.0 n name (served_own_as n h from y name s a.0 is e z away a.1) a.2)
    (subst (λ (x : Activity). AwaitsSection x n.sections) waits sections.waiting).0 (was_waiting f n _ waits (λ q. refl) g)
copies_hear j n f from k o (deed.grant_comes x name version granted r e t) fits away sections asks g =
    let waits = grant_waits j n name granted r e t fits in
    let a = asks name waits in
    opened_held n f (asks_to_write r.asking) name _ (flag_shut _ a.0 n name (granted_as n name granted r a.0 e t a.1) a.2)
    (subst (λ (x : Activity). AwaitsSection x n.sections) waits sections.waiting).0 (was_waiting f n _ waits (λ q. refl) g)

lives_hear : (j : ℕ) (n : Node) (f : Name → List Given) (from : ℕ) (k : Kind) (o : Outcome) → Lives n (Hears from k) o → Fits j n → Yet f n → Yet f o.node
lives_hear j n f from k o (deed.map_comes x name purged size e) fits g = was_waiting f n _ e (λ q. refl) g
lives_hear j n f from k o (deed.map_denied x name purged s why t d u e) fits g = was_waiting f n _ e (λ q. refl) g
lives_hear j n f from k o (deed.delete_comes x name d e) fits g = now_none f n (Ready (delete_answer d)) (λ q. delete_gives q d) (was_waiting f n _ e (λ q. refl) g)
lives_hear j n f from k o (deed.warns x name e c) fits g = λ q. subst (λ gs. AreGuards n.me (gs ++ f q) (n.sections.records q)) (sym (warned_gives q name n.activity)) (g q)
lives_hear j n f from k o (deed.ends_own x name mine e missing last) fits g = was_waiting f n _ (going_own n.me name _ n.activity (fits.each name).going e) (λ q. refl) g
lives_hear j n f from k o _ fits g = g

rounds_hear : (n : Node) (f : Name → List Given) (from : ℕ) (k : Kind) (o : Outcome) → Rounds n (Hears from k) o → Yet f n → Yet f o.node
rounds_hear n f from k o (deed.part_last x round part parts mine c e a all) g = now_none f n (Ready (answer_of mine (fold_of parts))) (λ q. came_gives q mine (fold_of parts)) (was_waiting f n _ e (λ q. refl) g)
rounds_hear n f from k o (deed.result_comes x round fold c e) g = now_none f n (Ready (answer_of round fold)) (λ q. came_gives q round fold) (was_waiting f n _ e (λ q. refl) g)
rounds_hear n f from k o _ g = g

pub hear_held : (j : ℕ) (n : Node) (f : Name → List Given) (from : ℕ) (k : Kind) (o : Outcome) → Deed n (Hears from k) o → Fits j n → IsAway from n.me k → SectionsFit n → Asks n → Yet f n → Yet f o.node
hear_held j n f from k o (deed.copies d) fits away sections asks g = copies_hear j n f from k o d fits away sections asks g
hear_held j n f from k o (deed.lives d) fits away sections asks g = lives_hear j n f from k o d fits g
hear_held j n f from k o (deed.rounds d) fits away sections asks g = rounds_hear n f from k o d g
hear_held j n f from k o (deed.idles h) fits away sections asks g = g

-- What a node that waits has asked for, after every deed.
warned_section : (name q : Name) (a : Activity) → purges_waiting name a ≡ Waiting (ForSection q) → a ≡ Waiting (ForSection q)
warned_section name q (Waiting (ForMap p purged)) e = cc
warned_section name q (Waiting (ForSection p)) e = e
warned_section name q (Waiting (ForDelete p)) e = e
warned_section name q (Waiting (ForRound r c)) e = e
warned_section name q Free e = e
warned_section name q (Ready answer) e = e

abbrev pub Back : Node → Node → Name → Type 0
Back n m q = (n.activity ≡ Waiting (ForSection q)) × (m.sections ≡ n.sections)

copies_back : (n : Node) (from : ℕ) (k : Kind) (o : Outcome) (q : Name) → Copies n (Hears from k) o → o.node.activity ≡ Waiting (ForSection q) → Back n o.node q
copies_back n from k o q (deed.home_serves x y name h s is e z) w = (w, refl)
copies_back n from k o q (deed.side_called x y name r s is e) w = (w, refl)
copies_back n from k o q (deed.home_serves_own x y name h s is e z) w = cc
copies_back n from k o q (deed.grant_comes x name version granted r e t) w = cc

lives_back : (n : Node) (from : ℕ) (k : Kind) (o : Outcome) (q : Name) → Lives n (Hears from k) o → o.node.activity ≡ Waiting (ForSection q) → Back n o.node q
lives_back n from k o q (deed.map_comes x name purged size e) w = cc
lives_back n from k o q (deed.map_denied x name purged s why t d u e) w = cc
lives_back n from k o q (deed.delete_comes x name d e) w = cc
lives_back n from k o q (deed.warns x name e c) w = (warned_section name q n.activity w, refl)
lives_back n from k o q (deed.ends_own x name mine e missing last) w = cc
lives_back n from k o q _ w = (w, refl)

rounds_back : (n : Node) (from : ℕ) (k : Kind) (o : Outcome) (q : Name) → Rounds n (Hears from k) o → o.node.activity ≡ Waiting (ForSection q) → Back n o.node q
rounds_back n from k o q (deed.part_last x round part parts mine c e a all) w = cc
rounds_back n from k o q (deed.result_comes x round fold c e) w = cc
rounds_back n from k o q _ w = (w, refl)

pub hear_back : (n : Node) (from : ℕ) (k : Kind) (o : Outcome) (q : Name) → Deed n (Hears from k) o → o.node.activity ≡ Waiting (ForSection q) → Back n o.node q
hear_back n from k o q (deed.copies d) w = copies_back n from k o q d w
hear_back n from k o q (deed.lives d) w = lives_back n from k o q d w
hear_back n from k o q (deed.rounds d) w = rounds_back n from k o q d w
hear_back n from k o q (deed.idles h) w = (w, refl)

-- a call by which it begins to wait
abbrev pub Begins : ℕ → Node → Call → Node → Name → Type 0
Begins j n c m q = (write : Bool) × StartsCall c write q × AskedAs write q m × CanStart n write q × (m.sections ≡ n.sections)

section_same : (p q : Name) → ◌≡◌ {A = Activity} (Waiting (ForSection p)) (Waiting (ForSection q)) → p ≡ q
section_same p q e = cc

copies_begin : (j : ℕ) (n : Node) (c : Call) (o : Outcome) (q : Name) → Copies n (Calls c) o → n.activity ≡ Free → Fits j n → o.node.activity ≡ Waiting (ForSection q) → Begins j n c o.node q
copies_begin j n c o q (deed.home_waits x write name h is e can opened) free fits w =
    let a = home_waits_as j n write name h e opened free fits in
    subst (Begins j n c o.node) (section_same _ _ w) (write, is, record { home = a.home; side = a.side }, can, refl)
copies_begin j n c o q (deed.side_waits x write name r is e g can opened) free fits w =
    let a = side_waits_as j n write name r e g opened in
    subst (Begins j n c o.node) (section_same _ _ w) (write, is, record { home = a.home; side = a.side }, can, refl)
copies_begin j n c o q _ free fits w = cc

lives_begin : (j : ℕ) (n : Node) (c : Call) (o : Outcome) (q : Name) → Lives n (Calls c) o → n.activity ≡ Free → o.node.activity ≡ Waiting (ForSection q) → Begins j n c o.node q
lives_begin j n c o q (deed.made size e) free w = cc
lives_begin j n c o q _ free w = cc

rounds_begin : (j : ℕ) (n : Node) (c : Call) (o : Outcome) (q : Name) → Rounds n (Calls c) o → n.activity ≡ Free → o.node.activity ≡ Waiting (ForSection q) → Begins j n c o.node q
rounds_begin j n c o q (deed.comes_away part other fits) free w = cc
rounds_begin j n c o q _ free w = cc

notes_begin : (j : ℕ) (n : Node) (c : Call) (x : What) (m : Node) (q : Name) → Notes n c x m → n.activity ≡ Free → m.activity ≡ Waiting (ForSection q) → Begins j n c m q
notes_begin j n c x m q (deed.flushes_own name mine can) free w = cc
notes_begin j n c x m q _ free w = cc

pub call_begins : (j : ℕ) (n : Node) (c : Call) (o : Outcome) (q : Name) → Deed n (Calls c) o → n.activity ≡ Free → Fits j n → o.node.activity ≡ Waiting (ForSection q) → Begins j n c o.node q
call_begins j n c o q (deed.copies d) free fits w = copies_begin j n c o q d free fits w
call_begins j n c o q (deed.lives d) free fits w = lives_begin j n c o q d free w
call_begins j n c o q (deed.rounds d) free fits w = rounds_begin j n c o q d free w
call_begins j n c o q (deed.notes d) free fits w = notes_begin j n c _ _ q d free w
call_begins j n c o q (deed.refuses x why v) free fits w = cc
call_begins j n c o q (deed.idles h) free fits w = cc

-- After a call no guard is to be given.
copies_yet : (n : Node) (c : Call) (o : Outcome) (q : Name) → Copies n (Calls c) o → n.activity ≡ Free → given_yet q o.node.activity ≡ []
copies_yet n c o q (deed.home_waits x write name h is e can opened) free = refl
copies_yet n c o q (deed.side_waits x write name r is e g can opened) free = refl
copies_yet n c o q _ free = ap (given_yet q) free

lives_yet : (n : Node) (c : Call) (o : Outcome) (q : Name) → Lives n (Calls c) o → n.activity ≡ Free → given_yet q o.node.activity ≡ []
lives_yet n c o q (deed.map_asks name e other x real) free = refl
lives_yet n c o q (deed.deletes_own name m ms mine live e) free = refl
lives_yet n c o q (deed.delete_asks name other real) free = refl
lives_yet n c o q _ free = ap (given_yet q) free

rounds_yet : (n : Node) (c : Call) (o : Outcome) (q : Name) → Rounds n (Calls c) o → n.activity ≡ Free → given_yet q o.node.activity ≡ []
rounds_yet n c o q (deed.comes_last part parts first fits all) free = ap (given_yet q) free
rounds_yet n c o q _ free = refl

notes_yet : (n : Node) (c : Call) (x : What) (m : Node) (q : Name) → Notes n c x m → n.activity ≡ Free → given_yet q m.activity ≡ []
notes_yet n c x m q (deed.flushes_own name mine can) free = ap (given_yet q) free
notes_yet n c x m q _ free = ap (given_yet q) free

pub call_yet : (n : Node) (c : Call) (o : Outcome) (q : Name) → Deed n (Calls c) o → n.activity ≡ Free → given_yet q o.node.activity ≡ []
call_yet n c o q (deed.copies d) free = copies_yet n c o q d free
call_yet n c o q (deed.lives d) free = lives_yet n c o q d free
call_yet n c o q (deed.rounds d) free = rounds_yet n c o q d free
call_yet n c o q (deed.notes d) free = notes_yet n c _ _ q d free
call_yet n c o q (deed.refuses x why v) free = ap (given_yet q) free
call_yet n c o q (deed.idles h) free = ap (given_yet q) free
