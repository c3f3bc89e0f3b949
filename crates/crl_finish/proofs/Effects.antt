-- What a node's deeds do to its sections, to the number of its rounds, and to what it waits for.
use Rattle.std.proofs.Common.{◌≡◌, ℕ, ◌+◌, Bool, true, false, List, refl, sym, subst}
use Rattle.std.proofs.Math.Logic.{◌⊎◌, inl, inr}
use Rattle.crl_model.specs.declared.name.Name.{Name}
use Rattle.crl_model.specs.declared.call.Call.{Call}
use Rattle.crl_model.specs.declared.call.Call.TheVariants as call
use Rattle.crl_model.specs.declared.call.Refusal.{Refusal}
use Rattle.crl_model.specs.declared.collective.Part.{Part}
use Rattle.crl_model.specs.declared.entry.What.{What}
use Rattle.crl_model.specs.declared.message.Kind.{Kind}
use Rattle.std.specs.declared.option.Option.TheVariants.{None, Some}
use Rattle.crl_protocol.specs.Home.{Home, HomeStep}
use Rattle.crl_protocol.specs.Remote.{Remote, RemoteStep, asks_to_write, remote_takes_grant}
use Rattle.crl_protocol.specs.Sections.{is_writing, section_begins, section_ends}
use Rattle.crl_protocol.specs.Node.{Node, Activity, Free, Waiting, ForSection, ForMap, ForRound, Outcome}
use Rattle.crl_protocol.specs.Sectioning.{copy_bytes}
use Rattle.crl_protocol.specs.Handlers.{purges_waiting}
use Rattle.crl_protocol.specs.Verdict.{verdict, of_part}
use Rattle.crl_deeds.specs.Deeds.{Cause, Calls, Hears, StartsCall, EndsCall, CanStart, CanEnd, Copies, Lives, Rounds, Notes, Idles, Deed}
use Rattle.crl_deeds.specs.NodeFacts.{IsAway, Fits}
use Rattle.crl_deeds.proofs.Laws.{own_waits, grant_waits}
use Rattle.crl_deeds.specs.Deeds as deed
use Rattle.crl_talk.proofs.Laws.{AskedAs, granted_as, served_own_as, call_begins}

-- the node waits neither for a section nor in a round
abbrev pub IsCalm : Activity → Type 0
IsCalm (Waiting (ForSection name)) = ⊥
IsCalm (Waiting (ForRound round kind)) = ⊥
IsCalm _ = Unit {0}

free_calm : (a : Activity) → a ≡ Free → IsCalm a
free_calm a e = subst IsCalm (sym e) tt

-- The call ends a section; and a call that ends none, and comes to no round.
pub data EndsAs : Call → Bool → Name → Type 0 where
  ends_read : (name : Name) → EndsAs (call.EndRead name) false name
  ends_write : (name : Name) (after : List ℕ) → EndsAs (call.EndWrite name after) true name

abbrev pub IsPlain : Call → Type 0
IsPlain (call.EndRead name) = ⊥
IsPlain (call.EndWrite name after) = ⊥
IsPlain (call.Come part) = ⊥
IsPlain c = Unit {0}

-- A call of a free node, and the node after it.
pub data CallEffect (n : Node) (c : Call) (m : Node) : Type 0 where
  opens : (write : Bool) (name : Name) (bytes : List ℕ) → StartsCall c write name → CanStart n write name → m.sections ≡ (section_begins write name bytes n.sections).sections → IsCalm m.activity → m.rounds ≡ n.rounds → CallEffect n c m
  begins : (write : Bool) (name : Name) → StartsCall c write name → AskedAs write name m → m.activity ≡ Waiting (ForSection name) → m.sections ≡ n.sections → m.rounds ≡ n.rounds → CallEffect n c m
  ends : (write : Bool) (name : Name) → EndsAs c write name → CanEnd n write name → m.sections ≡ section_ends name n.sections → IsCalm m.activity → m.rounds ≡ n.rounds → CallEffect n c m
  comes : (part : Part) → c ≡ call.Come part → of_part part ≡ None → m.sections ≡ n.sections → ((name : Name) → m.activity ≡ Waiting (ForSection name) → ⊥) → m.rounds ≡ n.rounds + 1 → CallEffect n c m
  refused : (why : Refusal) → verdict n c ≡ Some why → m.sections ≡ n.sections → IsCalm m.activity → m.rounds ≡ n.rounds → CallEffect n c m
  keeps : IsPlain c → m.sections ≡ n.sections → IsCalm m.activity → m.rounds ≡ n.rounds → CallEffect n c m

begun : (j : ℕ) (n : Node) (c : Call) (o : Outcome) (name : Name) → Deed n (Calls c) o → n.activity ≡ Free → Fits j n → o.node.activity ≡ Waiting (ForSection name) → o.node.rounds ≡ n.rounds → CallEffect n c o.node
begun j n c o name d free fits waits rounds = let b = call_begins j n c o name d free fits waits in begins b.0 name b.1 b.2 waits b.4 rounds

ended : (n m : Node) (c : Call) (name : Name) (w : What) (finish : Home → HomeStep) (lowers : Remote → RemoteStep) (bytes : List ℕ) → EndsCall bytes n c name w finish lowers → m.sections ≡ section_ends name n.sections → IsCalm m.activity → m.rounds ≡ n.rounds → CallEffect n c m
ended n m c name w finish lowers bytes (deed.a_read q can) s a r = ends false q (ends_read q) can s a r
ended n m c name w finish lowers bytes (deed.a_write q after can) s a r = ends true q (ends_write q after) can s a r

copies_call : (j : ℕ) (n : Node) (c : Call) (o : Outcome) → Copies n (Calls c) o → n.activity ≡ Free → Fits j n → CallEffect n c o.node
copies_call j n c o (deed.home_opens x write name h is e can y) free fits = opens write name _ is can refl (free_calm n.activity free) refl
copies_call j n c o (deed.side_opens x write name r is e g can y) free fits = opens write name _ is can refl (free_calm n.activity free) refl
copies_call j n c o (deed.home_waits x write name h is e can y) free fits = begun j n c _ name (deed.copies (deed.home_waits x write name h is e can y)) free fits refl refl
copies_call j n c o (deed.side_waits x write name r is e g can y) free fits = begun j n c _ name (deed.copies (deed.side_waits x write name r is e g can y)) free fits refl refl
copies_call j n c o (deed.home_ends x name w finish lowers h is e) free fits = ended n _ c name w finish lowers _ is refl (free_calm n.activity free) refl
copies_call j n c o (deed.side_ends x name w finish lowers r is e g) free fits = ended n _ c name w finish lowers _ is refl (free_calm n.activity free) refl
copies_call j n c o (deed.side_flushes name r other e can) free fits = keeps tt refl (free_calm n.activity free) refl

lives_call : (n : Node) (c : Call) (o : Outcome) → Lives n (Calls c) o → n.activity ≡ Free → CallEffect n c o.node
lives_call n c o (deed.map_asks name e other x real) free = keeps tt refl tt refl
lives_call n c o (deed.deletes_own name m ms mine live e) free = keeps tt refl tt refl
lives_call n c o (deed.delete_asks name other real) free = keeps tt refl tt refl
lives_call n c o _ free = keeps tt refl (free_calm n.activity free) refl

rounds_call : (n : Node) (c : Call) (o : Outcome) → Rounds n (Calls c) o → n.activity ≡ Free → CallEffect n c o.node
rounds_call n c o (deed.comes_away part other fits) free = comes part refl fits refl (λ name w. cc) refl
rounds_call n c o (deed.comes_home part first fits all) free = comes part refl fits refl (λ name w. cc) refl
rounds_call n c o (deed.comes_last part parts first fits all) free = comes part refl fits refl (λ name w. cc) refl

notes_call : (n : Node) (c : Call) (w : What) (m : Node) → Notes n c w m → n.activity ≡ Free → CallEffect n c m
notes_call n c w m (deed.ends_nowhere x name y finish lowers is e) free = ended n _ c name w finish lowers _ is refl (free_calm n.activity free) refl
notes_call n c w m _ free = keeps tt refl (free_calm n.activity free) refl

idle_plain : (n : Node) (c : Call) → Idles (Calls c) n → IsPlain c
idle_plain n (call.EndRead name) h = h
idle_plain n (call.EndWrite name after) h = h
idle_plain n (call.Come part) h = h
idle_plain n _ h = tt

pub call_effect : (j : ℕ) (n : Node) (c : Call) (o : Outcome) → Deed n (Calls c) o → n.activity ≡ Free → Fits j n → CallEffect n c o.node
call_effect j n c o (deed.copies d) free fits = copies_call j n c o d free fits
call_effect j n c o (deed.lives d) free fits = lives_call n c o d free
call_effect j n c o (deed.rounds d) free fits = rounds_call n c o d free
call_effect j n c o (deed.notes d) free fits = notes_call n c _ _ d free
call_effect j n c o (deed.refuses x why v) free fits = refused why v refl (free_calm n.activity free) refl
call_effect j n c o (deed.idles h) free fits = keeps (idle_plain n c h) refl (free_calm n.activity free) refl

-- A message, and the node after it: the section opens for which it waited, or its sections stay as they are.
pub data HearEffect (n m : Node) : Type 0 where
  opened : (write : Bool) (name : Name) (bytes : List ℕ) → n.activity ≡ Waiting (ForSection name) → ((asked : Bool) → AskedAs asked name n → write ≡ asked)
      → m.sections ≡ (section_begins write name bytes n.sections).sections → IsCalm m.activity → m.rounds ≡ n.rounds → HearEffect n m
  stays : m.sections ≡ n.sections → (m.activity ≡ n.activity) ⊎ IsCalm m.activity → m.rounds ≡ n.rounds → HearEffect n m

warned : (name : Name) (a : Activity) → (purges_waiting name a ≡ a) ⊎ IsCalm (purges_waiting name a)
warned name (Waiting (ForMap p purged)) = inr tt
warned name _ = inl refl

copies_hear : (j : ℕ) (n : Node) (from : ℕ) (k : Kind) (o : Outcome) → Copies n (Hears from k) o → Fits j n → IsAway from n.me k → HearEffect n o.node
copies_hear j n from k o (deed.home_serves x y name h s is e z) fits away = stays refl (inl refl) refl
copies_hear j n from k o (deed.side_called x y name r s is e) fits away = stays refl (inl refl) refl
copies_hear j n from k o (deed.home_serves_own x y name h s is e z) fits away =
    opened (is_writing s.home.mine) name s.home.bytes (own_waits j n h from y name s is e z away fits) (λ asked a. served_own_as n h from y name s asked is e z away a) refl tt refl
copies_hear j n from k o (deed.grant_comes x name version granted r e t) fits away =
    opened (asks_to_write r.asking) name (copy_bytes (remote_takes_grant version granted r).copy) (grant_waits j n name granted r e t fits) (λ asked a. granted_as n name granted r asked e t a) refl tt refl

lives_hear : (n : Node) (from : ℕ) (k : Kind) (o : Outcome) → Lives n (Hears from k) o → HearEffect n o.node
lives_hear n from k o (deed.map_comes x name purged size e) = stays refl (inr tt) refl
lives_hear n from k o (deed.map_denied x name purged s why t d u e) = stays refl (inr tt) refl
lives_hear n from k o (deed.delete_comes x name d e) = stays refl (inr tt) refl
lives_hear n from k o (deed.warns x name e c) = stays refl (warned name n.activity) refl
lives_hear n from k o (deed.ends_own x name mine e missing last) = stays refl (inr tt) refl
lives_hear n from k o _ = stays refl (inl refl) refl

rounds_hear : (n : Node) (from : ℕ) (k : Kind) (o : Outcome) → Rounds n (Hears from k) o → HearEffect n o.node
rounds_hear n from k o (deed.part_last x round part parts mine c e a all) = stays refl (inr tt) refl
rounds_hear n from k o (deed.result_comes x round fold c e) = stays refl (inr tt) refl
rounds_hear n from k o _ = stays refl (inl refl) refl

pub hear_effect : (j : ℕ) (n : Node) (from : ℕ) (k : Kind) (o : Outcome) → Deed n (Hears from k) o → Fits j n → IsAway from n.me k → HearEffect n o.node
hear_effect j n from k o (deed.copies d) fits away = copies_hear j n from k o d fits away
hear_effect j n from k o (deed.lives d) fits away = lives_hear n from k o d
hear_effect j n from k o (deed.rounds d) fits away = rounds_hear n from k o d
hear_effect j n from k o (deed.idles h) fits away = stays refl (inl refl) refl
