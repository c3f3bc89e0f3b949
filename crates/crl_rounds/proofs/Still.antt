-- What a deed leaves alone that has nothing to do with rounds.
use Rattle.std.proofs.Common.{◌≡◌, ℕ, ◌==◌, ◌||◌, Bool, true, false, not, if◌then◌else◌, None, Some, Option, List, [], ◌∷◌, map, refl, ap, sym, ◌∙◌, subst}
use Rattle.std.specs.Prelude.{nat_lt}
use Rattle.std.specs.List.{AllByRecursion}
use Rattle.crl_model.specs.declared.TheConstants.{REGION_LIMIT}
use Rattle.std.proofs.lemmas.Bool.{cond_both}
use Rattle.crl_model.specs.declared.name.Name.{Name}
use Rattle.crl_model.specs.declared.call.Call.{Call}
use Rattle.crl_model.specs.declared.call.Call.TheVariants as call
use Rattle.crl_model.specs.declared.call.Refusal.{Refusal}
use Rattle.crl_model.specs.declared.call.Refusal.TheVariants as refusal
use Rattle.crl_model.specs.declared.stage.Stage.{Stage}
use Rattle.crl_model.specs.declared.stage.Stage.TheVariants as stage
use Rattle.crl_model.specs.declared.entry.What.{What}
use Rattle.crl_model.specs.declared.entry.What.TheVariants as what
use Rattle.crl_model.specs.declared.collective.Part.{Part}
use Rattle.crl_model.specs.declared.collective.Part.TheVariants as part
use Rattle.crl_model.specs.declared.message.Message.{Message}
use Rattle.crl_model.specs.declared.message.Kind.{Kind}
use Rattle.crl_model.specs.declared.message.Kind.TheVariants as kind
use Rattle.crl_model.specs.declared.message.Told.{Told}
use Rattle.crl_model.specs.declared.message.DeleteTold.{DeleteTold}
use Rattle.crl_protocol.specs.Mail.{Mail, Ask, Letter, kind_about}
use Rattle.crl_protocol.specs.Home.{Home, HomeStep}
use Rattle.crl_protocol.specs.Lifetimes.{Mapping, cached_size}
use Rattle.crl_protocol.specs.Remote.{Remote, RemoteStep, remote_flushes, is_closed}
use Rattle.crl_protocol.specs.Sections.{section_at, count_of, is_writing}
use Rattle.crl_protocol.specs.Node.{Node, ForSection, ForMap, Activity, Free, Waiting, Outcome, letter_messages, mail_messages, message_to, is_mine, is_real, serials_used, lifetime_of, map_count, COUNT_LIMIT}
use Rattle.crl_protocol.specs.Handlers.{purges_waiting}
use Rattle.crl_protocol.specs.Verdict.{verdict, else_if, refuse_if, of_create, of_map, of_mapped, of_cached, of_delete, of_more, of_unmapped, of_open, of_start, of_end, of_change, of_part, by_stage}
use Rattle.crl_deeds.specs.Deeds.{FreeIf, Cause, Calls, Hears, parting, EndsCall, a_read, a_write, Serves, ask_comes, CallsBack, wholly, Copies, home_opens, home_waits, side_opens, side_waits, home_ends, side_ends, side_flushes, home_serves, home_serves_own, grant_comes, side_called, Unfit, never, Lives, made, used_up, map_asks, map_told, map_refused, map_comes, map_denied, unmaps_doomed, unmaps_evicting, deletes_own, delete_asks, deletes_alone_for, deletes_for, deletes_alone, delete_refused, delete_comes, dooms, drops, warns, counts_off, ends_own, ends_for, Notes, ends_nowhere}
use Rattle.crl_machine.specs.SingleMachine.{State, after_all}
use Rattle.crl_deeds.proofs.Laws.{serves_goes, all_append, waits_own, waits_granted, home_bytes, queue_of, asking_of, going_own}
use Rattle.crl_deeds.specs.NodeFacts.{Leaves, Fits}
use Rattle.crl_deeds.specs.Turns.{Came}
use Rattle.crl_rounds.specs.Standing.{FitAll, round_awaited, Stands}
use Rattle.crl_rounds.proofs.States.{NotMixed, IsOtherWhat, IsOtherEntry, SameRounds, all_same, all_fit}

-- messages, causes and entries that are of no round
abbrev pub IsOtherKind : Kind → Type 0
IsOtherKind (kind.Come round part) = ⊥
IsOtherKind (kind.Result round fold) = ⊥
IsOtherKind _ = Unit {0}

abbrev pub IsOther : Message → Type 0
IsOther m = IsOtherKind m.kind

abbrev pub IsOtherCause : Cause → Type 0
IsOtherCause (Calls c) = Unit {0}
IsOtherCause (Hears from k) = IsOtherKind k

pub record Still (n : Node) (o : Outcome) : Type 0 where
  pub rounds : o.node.rounds ≡ n.rounds
  pub gathering : o.node.gathering ≡ n.gathering
  pub awaited : round_awaited o.node.activity ≡ round_awaited n.activity
  pub same : (s : State) → SameRounds s (after_all s o.entries)
  pub fit : (current : ℕ) (s : State) → Stands current s n.me n → FitAll s o.entries
  pub posts : AllByRecursion IsOther o.posts

-- What is sent.
other_mail : (to : ℕ) (n : Node) (name : Name) (m : Mail) → IsOther (message_to n to (kind_about name m))
other_mail to n name (Ask write have) = tt
other_mail to n name _ = tt

mails_other : (n : Node) (name : Name) (posts : List Mail) → AllByRecursion IsOther (mail_messages n name posts)
mails_other n name [] = tt
mails_other n name (m ∷ posts) = (other_mail name.home n name m, mails_other n name posts)

letters_other : (n : Node) (name : Name) (posts : List Letter) → AllByRecursion IsOther (letter_messages n name posts)
letters_other n name [] = tt
letters_other n name (l ∷ posts) = (other_mail l.to n name l.mail, letters_other n name posts)

parting_other : (n : Node) (name : Name) (o : Option Remote) → AllByRecursion IsOther (parting n name o)
parting_other n name None = tt
parting_other n name (Some r) = mails_other n name (remote_flushes r).posts

purges_other : (n : Node) (name : Name) (ms : List ℕ) → AllByRecursion IsOther (map (λ m. message_to n m (kind.Purge name)) ms)
purges_other n name [] = tt
purges_other n name (m ∷ ms) = (tt, purges_other n name ms)

posts_copies : (n : Node) (cause : Cause) (o : Outcome) → Copies n cause o → AllByRecursion IsOther o.posts
posts_copies n cause o (home_opens c write name h is e v x) = letters_other n name _
posts_copies n cause o (home_waits c write name h is e v x) = letters_other n name _
posts_copies n cause o (home_ends c name w ends lowers h is e) = letters_other n name _
posts_copies n cause o (home_serves from k name h s is e x) = letters_other n name _
posts_copies n cause o (home_serves_own from k name h s is e x) = letters_other n name _
posts_copies n cause o (grant_comes from name version g r e t) = tt
posts_copies n cause o (side_opens c write name r is e f v x) = mails_other n name _
posts_copies n cause o (side_waits c write name r is e f v x) = mails_other n name _
posts_copies n cause o (side_ends c name w ends lowers r is e f) = mails_other n name _
posts_copies n cause o (side_flushes name r other e closed) = mails_other n name _
posts_copies n cause o (side_called from k name r s is e) = mails_other n name _

posts_lives : (n : Node) (cause : Cause) (o : Outcome) → Lives n cause o → AllByRecursion IsOther o.posts
posts_lives n cause o (map_asks name e other c real) = (tt, tt)
posts_lives n cause o (map_told from name mine live) = (tt, tt)
posts_lives n cause o (map_refused from name why t d u) = (tt, tt)
posts_lives n cause o (unmaps_doomed name m e one other doomed closed) = parting_other n name (n.remotes name)
posts_lives n cause o (unmaps_evicting name m old e one other sound closed kept) = parting_other n old (n.remotes old)
posts_lives n cause o (deletes_own name m ms mine live e) = purges_other n name _
posts_lives n cause o (deletes_for from name m ms mine live e) = purges_other n name _
posts_lives n cause o (delete_asks name other real) = (tt, tt)
posts_lives n cause o (deletes_alone_for from name mine live e) = (tt, tt)
posts_lives n cause o (delete_refused from name why t d u) = (tt, tt)
posts_lives n cause o (dooms from name m e) = (tt, tt)
posts_lives n cause o (drops from name size e c) = all_append IsOther (parting n name (n.remotes name)) _ (parting_other n name (n.remotes name)) (tt, tt)
posts_lives n cause o (warns from name e c) = (tt, tt)
posts_lives n cause o (ends_for from name deleter mine e other missing last) = (tt, tt)
posts_lives n cause o _ = tt

-- What is recorded.
abbrev Sound : Option Refusal → Type 0
Sound None = Unit {0}
Sound (Some why) = NotMixed why

sound_if : (b : Bool) (why : Refusal) → NotMixed why → Sound (refuse_if b why)
sound_if true why h = h
sound_if false why h = tt

sound_or : (a b : Option Refusal) → Sound a → Sound b → Sound (else_if a b)
sound_or None b h k = k
sound_or (Some why) b h k = h

sound_stage : (s : Stage) → Sound (by_stage s)
sound_stage stage.Live = tt
sound_stage _ = tt

sound_cached : (n : Node) (name : Name) (o : Option ℕ) → Sound (of_cached n name o)
sound_cached n name (Some size) = tt
sound_cached n name None = sound_if (not (is_real n name)) refusal.Unknown tt

sound_mapped : (n : Node) (name : Name) (o : Option Mapping) → Sound (of_mapped n name o)
sound_mapped n name (Some m) = sound_or (refuse_if m.doomed refusal.Deleted) (of_more m.count) (sound_if m.doomed _ tt) (sound_if (m.count == COUNT_LIMIT) _ tt)
sound_mapped n name None = sound_cached n name (cached_size name n.cache)

sound_more : (count : ℕ) → Sound (of_more count)
sound_more count = sound_if (count == COUNT_LIMIT) refusal.TooMany tt

sound_map : (n : Node) (name : Name) → Sound (of_map n name)
sound_map n name =
    cond_both (is_mine n name) _ _ Sound (λ w. sound_or (by_stage (lifetime_of n name).stage) _ (sound_stage _) (sound_more (map_count (n.maps name)))) (λ w. sound_mapped n name (n.maps name))

sound_delete : (n : Node) (name : Name) → Sound (of_delete n name)
sound_delete n name = cond_both (is_mine n name) _ _ Sound (λ w. sound_stage _) (λ w. sound_if (not (is_real n name)) refusal.Unknown tt)

sound_unmapped : (n : Node) (name : Name) → Sound (of_unmapped n name)
sound_unmapped n name = sound_if (map_count (n.maps name) == 0) refusal.NotMapped tt

sound_start : (write : Bool) (n : Node) (name : Name) → Sound (of_start write (section_at name n.sections))
sound_start true n name = sound_if (not (is_closed (section_at name n.sections))) refusal.SectionOpen tt
sound_start false n name = sound_or (refuse_if (is_writing (section_at name n.sections)) refusal.SectionOpen) _ (sound_if (is_writing (section_at name n.sections)) refusal.SectionOpen tt) (sound_more (count_of (section_at name n.sections)))

sound_end : (write : Bool) (n : Node) (name : Name) → Sound (of_end write (section_at name n.sections))
sound_end true n name = sound_if (not (is_writing (section_at name n.sections))) refusal.NotWriting tt
sound_end false n name = sound_if (count_of (section_at name n.sections) == 0) refusal.NotReading tt

sound_open : (n : Node) (name : Name) → Sound (of_open (section_at name n.sections))
sound_open n name = sound_if (not (is_closed (section_at name n.sections))) refusal.InSection tt

sound_change : (n : Node) (name : Name) (offset len : ℕ) → Sound (of_change n name offset len)
sound_change n name offset len = sound_or (of_end true (section_at name n.sections)) _ (sound_end true n name) (sound_if _ refusal.OutOfRange tt)

sound_part : (p : Part) → Sound (of_part p)
sound_part (part.Send bytes) = sound_if _ refusal.WrongSize tt
sound_part _ = tt

sound_create : (n : Node) (size : ℕ) → Sound (of_create n size)
sound_create n size = sound_or (refuse_if ((size == 0) || nat_lt REGION_LIMIT size) refusal.BadSize) (refuse_if (serials_used n == COUNT_LIMIT) refusal.NamesSpent) (sound_if ((size == 0) || nat_lt REGION_LIMIT size) _ tt) (sound_if (serials_used n == COUNT_LIMIT) _ tt)

sound_verdict : (n : Node) (c : Call) → Sound (verdict n c)
unfolding verdict
sound_verdict n (call.Create size) = sound_create n size
sound_verdict n (call.Delete name) = sound_delete n name
sound_verdict n (call.Map name) = sound_map n name
sound_verdict n (call.Unmap name) = sound_or (of_unmapped n name) _ (sound_unmapped n name) (sound_open n name)
sound_verdict n (call.StartRead name) = sound_or (of_unmapped n name) _ (sound_unmapped n name) (sound_start false n name)
sound_verdict n (call.EndRead name) = sound_or (of_unmapped n name) _ (sound_unmapped n name) (sound_end false n name)
sound_verdict n (call.StartWrite name) = sound_or (of_unmapped n name) _ (sound_unmapped n name) (sound_start true n name)
sound_verdict n (call.EndWrite name after) = sound_or (of_unmapped n name) _ (sound_unmapped n name) (sound_end true n name)
sound_verdict n (call.Put name offset len) = sound_or (of_unmapped n name) _ (sound_unmapped n name) (sound_change n name offset len)
sound_verdict n (call.Add name offset) = sound_or (of_unmapped n name) _ (sound_unmapped n name) (sound_change n name offset 8)
sound_verdict n (call.Flush name) = sound_or (of_unmapped n name) _ (sound_unmapped n name) (sound_open n name)
sound_verdict n (call.Come part) = sound_part part

pub refused_apart : (n : Node) (c : Call) (why : Refusal) → verdict n c ≡ Some why → NotMixed why
refused_apart n c why e = subst Sound e (sound_verdict n c)

unfit_apart : (s : Stage) (why : Refusal) (t : Told) (d : DeleteTold) → Unfit s why t d → NotMixed why
unfit_apart s why t d never = tt
unfit_apart s why t d _ = tt

start_other : (me : ℕ) (write : Bool) (name : Name) → IsOtherWhat (if write then what.StartWrite name else what.StartRead name)
start_other me true name = tt
start_other me false name = tt

end_other : (bytes : List ℕ) (n : Node) (c : Call) (name : Name) (w : What) (ends : Home → HomeStep) (lowers : Remote → RemoteStep) → EndsCall bytes n c name w ends lowers → IsOtherWhat w
end_other bytes n c name w ends lowers (a_read q v) = tt
end_other bytes n c name w ends lowers (a_write q after v) = tt

entries_copies : (n : Node) (cause : Cause) (o : Outcome) → Copies n cause o → AllByRecursion IsOtherEntry o.entries
entries_copies n cause o (home_opens c write name h is e v x) = (start_other n.me write name, tt)
entries_copies n cause o (side_opens c write name r is e f v x) = (start_other n.me write name, tt)
entries_copies n cause o (home_ends c name w ends lowers h is e) = (end_other _ n c name w ends lowers is, tt)
entries_copies n cause o (side_ends c name w ends lowers r is e f) = (end_other _ n c name w ends lowers is, tt)
entries_copies n cause o (side_flushes name r other e closed) = (tt, tt)
entries_copies n cause o (home_serves_own from k name h s is e x) = (start_other n.me (is_writing s.home.mine) name, tt)
entries_copies n cause o (grant_comes from name version g r e t) = (start_other n.me _ name, tt)
entries_copies n cause o _ = tt

entries_lives : (n : Node) (cause : Cause) (o : Outcome) → Lives n cause o → AllByRecursion IsOtherEntry o.entries
entries_lives n cause o (used_up size why e other) = (subst Sound e (sound_create n size), tt)
entries_lives n cause o (map_asks name e other c real) = tt
entries_lives n cause o (map_refused from name why t d u) = (unfit_apart _ why t d u, tt)
entries_lives n cause o (map_comes from name purged size e) = tt
entries_lives n cause o (map_denied from name purged s why t d u e) = tt
entries_lives n cause o (deletes_alone name mine live e) = (tt, (tt, tt))
entries_lives n cause o (delete_asks name other real) = tt
entries_lives n cause o (deletes_alone_for from name mine live e) = (tt, (tt, tt))
entries_lives n cause o (delete_refused from name why t d u) = (unfit_apart _ why t d u, tt)
entries_lives n cause o (delete_comes from name d e) = tt
entries_lives n cause o (dooms from name m e) = tt
entries_lives n cause o (drops from name size e c) = tt
entries_lives n cause o (warns from name e c) = tt
entries_lives n cause o (counts_off from name deleter m ms mine e missing left) = tt
entries_lives n cause o _ = (tt, tt)

-- What it waits for.
abbrev AwaitsAs : Activity → Activity → Type 0
AwaitsAs a b = round_awaited a ≡ round_awaited b

none_awaited : (a b c : Activity) → a ≡ b → round_awaited b ≡ None → round_awaited c ≡ None → AwaitsAs c a
none_awaited a b c e h k = k ∙ sym h ∙ sym (ap round_awaited e)

awaited_copies : (j : ℕ) (n : Node) (cause : Cause) (o : Outcome) → Copies n cause o → Fits j n → Came Leaves n.me cause → FreeIf cause n → AwaitsAs o.node.activity n.activity
awaited_copies j n cause o (home_waits c write name h is e v x) f w free = none_awaited n.activity Free (Waiting (ForSection name)) free refl refl
awaited_copies j n cause o (side_waits c write name r is e k v x) f w free = none_awaited n.activity Free (Waiting (ForSection name)) free refl refl
awaited_copies j n cause o (home_serves_own from k name h y is e x) f w free =
    none_awaited n.activity (Waiting (ForSection name)) o.node.activity (waits_own n.me name h y n.activity x (serves_goes n h from k name y is w (home_bytes j n name h e f)) (queue_of j n name h e f)) refl refl
awaited_copies j n cause o (grant_comes from name version g r e y) f w free = none_awaited n.activity (Waiting (ForSection name)) o.node.activity (waits_granted name g r n.activity y (asking_of j n name r e f)) refl refl
awaited_copies j n cause o _ f w free = refl

warned : (name : Name) (a : Activity) → AwaitsAs (purges_waiting name a) a
warned name (Waiting (ForMap p purged)) = refl
warned name _ = refl

awaited_lives : (j : ℕ) (n : Node) (cause : Cause) (o : Outcome) → Lives n cause o → Fits j n → FreeIf cause n → AwaitsAs o.node.activity n.activity
awaited_lives j n cause o (map_asks name e other c real) f free = none_awaited n.activity Free o.node.activity free refl refl
awaited_lives j n cause o (map_comes from name purged size e) f free = none_awaited n.activity _ o.node.activity e refl refl
awaited_lives j n cause o (map_denied from name purged s why t q u e) f free = none_awaited n.activity _ o.node.activity e refl refl
awaited_lives j n cause o (deletes_own name m ms mine live e) f free = none_awaited n.activity Free o.node.activity free refl refl
awaited_lives j n cause o (delete_asks name other real) f free = none_awaited n.activity Free o.node.activity free refl refl
awaited_lives j n cause o (delete_comes from name t e) f free = none_awaited n.activity _ o.node.activity e refl refl
awaited_lives j n cause o (warns from name e c) f free = warned name n.activity
awaited_lives j n cause o (ends_own from name mine e missing last) f free = none_awaited n.activity _ o.node.activity (going_own n.me name _ n.activity (f.each name).going e) refl refl
awaited_lives j n cause o _ f free = refl

-- What caused it.
pub cause_copies : (n : Node) (cause : Cause) (o : Outcome) → Copies n cause o → IsOtherCause cause
cause_copies n cause o (home_serves from k name h s is e x) = served n h from k name s is
  where
    served : (n : Node) (h : Home) (from : ℕ) (k : Kind) (name : Name) (s : HomeStep) → Serves n h from k name s → IsOtherKind k
    served n h from k name s (ask_comes f q write have free) = tt
    served n h from k name s _ = tt
cause_copies n cause o (home_serves_own from k name h s is e x) = served n h from k name s is
  where
    served : (n : Node) (h : Home) (from : ℕ) (k : Kind) (name : Name) (s : HomeStep) → Serves n h from k name s → IsOtherKind k
    served n h from k name s (ask_comes f q write have free) = tt
    served n h from k name s _ = tt
cause_copies n cause o (side_called from k name r s is e) = back r k name s is
  where
    back : (r : Remote) (k : Kind) (name : Name) (s : RemoteStep) → CallsBack r k name s → IsOtherKind k
    back r k name s (wholly q version) = tt
    back r k name s _ = tt
cause_copies n cause o _ = tt

pub cause_lives : (n : Node) (cause : Cause) (o : Outcome) → Lives n cause o → IsOtherCause cause
cause_lives n cause o (made size e) = tt
cause_lives n cause o _ = tt

rounds_copies : (n : Node) (cause : Cause) (o : Outcome) → Copies n cause o → (o.node.rounds ≡ n.rounds) × (o.node.gathering ≡ n.gathering)
rounds_copies n cause o (home_opens c write name h is e v x) = (refl, refl)
rounds_copies n cause o _ = (refl, refl)

rounds_lives : (n : Node) (cause : Cause) (o : Outcome) → Lives n cause o → (o.node.rounds ≡ n.rounds) × (o.node.gathering ≡ n.gathering)
rounds_lives n cause o (made size e) = (refl, refl)
rounds_lives n cause o _ = (refl, refl)

pub still_copies : (j : ℕ) (n : Node) (cause : Cause) (o : Outcome) → Copies n cause o → Fits j n → Came Leaves n.me cause → FreeIf cause n → Still n o
still_copies j n cause o c f w free = let same = rounds_copies n cause o c in record { rounds = same.0; gathering = same.1; awaited = awaited_copies j n cause o c f w free; same = λ s. all_same s o.entries (entries_copies n cause o c); fit = λ k s h. all_fit s o.entries (entries_copies n cause o c); posts = posts_copies n cause o c }

pub still_lives : (j : ℕ) (n : Node) (cause : Cause) (o : Outcome) → Lives n cause o → Fits j n → FreeIf cause n → Still n o
still_lives j n cause o c f free = let same = rounds_lives n cause o c in record { rounds = same.0; gathering = same.1; awaited = awaited_lives j n cause o c f free; same = λ s. all_same s o.entries (entries_lives n cause o c); fit = λ k s h. all_fit s o.entries (entries_lives n cause o c); posts = posts_lives n cause o c }

pub still_notes : (n : Node) (c : Call) (w : What) (m : Node) → Notes n c w m → IsOtherWhat w × (m.rounds ≡ n.rounds) × (m.gathering ≡ n.gathering) × (m.activity ≡ n.activity)
still_notes n c w m (ends_nowhere x name y ends lowers is e) = (end_other _ n c name y ends lowers is, refl, refl, refl)
still_notes n c w m _ = (tt, refl, refl, refl)
