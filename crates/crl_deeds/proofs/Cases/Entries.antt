-- Where entries are decided: the entries of each deed are those of the table.
use Rattle.std.proofs.Common.{◌≡◌, ℕ, ◌+◌, ◌==◌, ◌&&◌, Bool, true, false, None, Some, Option, List, [], ◌∷◌, if◌then◌else◌, refl, ap, sym, ◌∙◌}
use Rattle.std.proofs.lemmas.Bool.{cond_both, cond-true, cond-false, eq-eqb, eqb-true}
use Rattle.crl_model.specs.declared.name.Name.{Name}
use Rattle.crl_model.specs.declared.stage.Stage.{Stage}
use Rattle.crl_model.specs.declared.stage.Stage.TheVariants as stage
use Rattle.crl_model.specs.declared.collective.Part.{Part}
use Rattle.crl_model.specs.declared.collective.Fold.{Fold}
use Rattle.crl_model.specs.declared.call.Call.{Call}
use Rattle.crl_model.specs.declared.call.Call.TheVariants as call
use Rattle.crl_model.specs.declared.call.CallKind.{CallKind}
use Rattle.crl_model.specs.declared.call.CallKind.TheVariants as word
use Rattle.crl_model.specs.declared.call.Refusal.{Refusal}
use Rattle.crl_model.specs.declared.entry.Entry.{Entry}
use Rattle.crl_model.specs.declared.entry.What.{What}
use Rattle.crl_model.specs.declared.entry.What.TheVariants as what
use Rattle.crl_model.specs.declared.event.Event.{Event}
use Rattle.crl_model.specs.declared.event.Event.TheVariants as event
use Rattle.crl_model.specs.declared.message.Told.{Told}
use Rattle.crl_model.specs.declared.message.DeleteTold.{DeleteTold}
use Rattle.crl_model.specs.declared.message.Granted.{Granted}
use Rattle.crl_model.specs.declared.message.Kind.{Kind}
use Rattle.crl_model.specs.declared.message.Kind.TheVariants as kind
use Rattle.crl_model.specs.Calls.{kind_of}
use Rattle.crl_pieces.specs.Pieces.{is_missing, is_complete, joined}
use Rattle.crl_protocol.specs.Parcels.{Piece, Key, key_of, with_load, slots_or, at_key, fits_size}
use Rattle.crl_protocol.specs.Receiving.{size_for, slots_with, gathers_piece, receives_part, receives_as}
use Rattle.crl_protocol.specs.Places.{Taken, take_out}
use Rattle.crl_protocol.specs.Home.{Home, HomeStep}
use Rattle.crl_protocol.specs.Remote.{Remote, RemoteStep, grant_fits}
use Rattle.crl_protocol.specs.Gathering.{awaits}
use Rattle.crl_protocol.specs.Remote.{asks_to_write}
use Rattle.crl_protocol.specs.Sections.{bytes_at, is_writing}
use Rattle.crl_protocol.specs.Lifetimes.{members}
use Rattle.crl_protocol.specs.Node.{Node, Activity, Free, Ready, Waiting, ForSection, ForMap, ForDelete, ForRound, Outcome, entry_of, home_of, is_mine, lifetime_of}
use Rattle.crl_protocol.specs.Verdict.{verdict, refuses_call}
use Rattle.crl_protocol.specs.Calls.{node_calls, call_or_refuse, result_of}
use Rattle.crl_protocol.specs.Handlers.{node_handles, is_queued_in}
use Rattle.crl_protocol.specs.World.{World, handles_at, carries, collects, step}
use Rattle.crl_deeds.specs.Deeds.{Cause, StartsCall, EndsCall, Serves, CallsBack, Copies, Lives, Rounds, Notes, Idles, Deed, Unfit, Calls, Hears}
use Rattle.crl_deeds.specs.Entries.{entries_of_start, opens_at_once, entries_of_serve, entries_of_ask, entries_of_return, entries_of_release, entries_of_grant, refused_at, entries_of_map, entries_of_delete, entries_of_purged, entries_of_mapping, entries_of_cached, entries_of_round, entries_of_part, entries_of_result, entries_of_call, entries_of_message, entries_of, made_whole_of_size, made_whole_as, entries_of_heard, entries_of_taken, entries_at}
use Rattle.crl_deeds.proofs.Cases.Called.{call_deed}
use Rattle.crl_deeds.proofs.Cases.Heard.{message_deed}
use Rattle.crl_deeds.specs.Deeds as deed

-- what the table says of a cause, where the node doesn't refuse a call
abbrev Table : Node → Cause → List Entry
Table n (Calls c) = entries_of_call n c None
Table n (Hears from k) = entries_of_message n from k

abbrev NotRefused : Node → Cause → Type 0
NotRefused n (Calls c) = verdict n c ≡ None
NotRefused n (Hears from k) = Unit {0}

-- Starts of sections.
starts_at : (opened : Bool) (me : ℕ) (write : Bool) (q : Name) (at_once : Bool) → at_once ≡ opened → entries_of_start opened me write q ≡ entries_of_start at_once me write q
starts_at opened me write q at_once e = ap (λ b. entries_of_start b me write q) (sym e)

over_home : (me : ℕ) (write : Bool) (o : Option Home) (r : Option Remote) (h : Home) (b : Bool) → o ≡ Some h → opens_at_once me write (Some h) r ≡ b → opens_at_once me write o r ≡ b
over_home me write o r h b e f = ap (λ x. opens_at_once me write x r) e ∙ f

over_side : (me : ℕ) (write : Bool) (o : Option Home) (p : Option Remote) (r : Remote) (b : Bool) → o ≡ None → p ≡ Some r → opens_at_once me write None (Some r) ≡ b → opens_at_once me write o p ≡ b
over_side me write o p r b e f g = ap (λ x. opens_at_once me write x p) e ∙ ap (λ x. opens_at_once me write None x) f ∙ g

started : (n : Node) (c : Call) (write : Bool) (q : Name) (opened : Bool) → StartsCall c write q → opens_at_once n.me write (home_of n q) (n.remotes q) ≡ opened → entries_of_start opened n.me write q ≡ entries_of_call n c None
started n c write q opened (deed.to_read p) e = starts_at opened n.me false p _ e
started n c write q opened (deed.to_write p) e = starts_at opened n.me true p _ e

ended : (n : Node) (bytes : List ℕ) (c : Call) (q : Name) (w : What) (ends : Home → HomeStep) (lowers : Remote → RemoteStep) → EndsCall bytes n c q w ends lowers → bytes ≡ bytes_at q n.sections → entry_of n.me w ∷ [] ≡ entries_of_call n c None
ended n bytes c q w ends lowers (deed.a_read p v) e = ap (λ x. entry_of n.me (what.Read p x) ∷ []) e
ended n bytes c q w ends lowers (deed.a_write p after v) e = ap (λ x. entry_of n.me (what.Write p x after) ∷ []) e

-- a section at the home that opens with a message, or doesn't
served : (n : Node) (h : Home) (from : ℕ) (k : Kind) (q : Name) (s : HomeStep) → Serves n h from k q s → home_of n q ≡ Some h → entries_of_serve n.me q s ≡ entries_of_message n from k
served n h from k q s (deed.ask_comes f p write have w) e =
    sym (ap (λ x. entries_of_ask n.me (is_queued_in from n.homes) p write have from x) e ∙ cond-false (is_queued_in from n.homes) [] (entries_of_serve n.me p s) w)
served n h from k q s (deed.copy_returns f p version bytes w) e = sym (ap (λ x. entries_of_return n.me p version bytes from x) e ∙ cond-true _ (entries_of_serve n.me p s) [] w)
served n h from k q s (deed.copy_lowers f p version bytes w) e = sym (ap (λ x. entries_of_release n.me p version bytes from x) e ∙ cond-true _ (entries_of_serve n.me p s) [] w)

called_back : (n : Node) (r : Remote) (from : ℕ) (k : Kind) (q : Name) (s : RemoteStep) → CallsBack r k q s → [] ≡ entries_of_message n from k
called_back n r from k q s (deed.wholly p version) = refl
called_back n r from k q s (deed.to_share p version) = refl

of_copies : (n : Node) (cause : Cause) (o : Outcome) → Copies n cause o → o.entries ≡ Table n cause
of_copies n cause o (deed.home_opens c write q h is e v x) = started n c write q true is (over_home n.me write _ _ h true e x)
of_copies n cause o (deed.home_waits c write q h is e v x) = started n c write q false is (over_home n.me write _ _ h false e x)
of_copies n cause o (deed.side_opens c write q r is e f v x) = started n c write q true is (over_side n.me write _ _ r true e f x)
of_copies n cause o (deed.side_waits c write q r is e f v x) = started n c write q false is (over_side n.me write _ _ r false e f x)
of_copies n cause o (deed.home_ends c q w ends lowers h is e) = ended n _ c q w ends lowers is refl
of_copies n cause o (deed.side_ends c q w ends lowers r is e f) = ended n _ c q w ends lowers is refl
of_copies n cause o (deed.side_flushes q r other e can) = refl
of_copies n cause o (deed.home_serves from k q h s is e x) = sym (ap (λ b. entries_of_start b n.me (is_writing s.home.mine) q) x) ∙ served n h from k q s is e
of_copies n cause o (deed.home_serves_own from k q h s is e x) = sym (ap (λ b. entries_of_start b n.me (is_writing s.home.mine) q) x) ∙ served n h from k q s is e
of_copies n cause o (deed.grant_comes from q version g r e t) = sym (ap (entries_of_grant n.me q g) e ∙ ap (λ b. entries_of_start b n.me (asks_to_write r.asking) q) t)
of_copies n cause o (deed.side_called from k q r s is e) = called_back n r from k q s is

-- Who has a region.
unfit_map : (node : ℕ) (q : Name) (size : ℕ) (s : Stage) (why : Refusal) (t : Told) (d : DeleteTold) → Unfit s why t d → refused_at node word.Map q why ≡ entries_of_map node q size s
unfit_map node q size s why t d deed.never = refl
unfit_map node q size s why t d (deed.going deleter) = refl
unfit_map node q size s why t d deed.gone = refl

unfit_delete : (node : ℕ) (q : Name) (asked : List ℕ) (s : Stage) (why : Refusal) (t : Told) (d : DeleteTold) → Unfit s why t d → refused_at node word.Delete q why ≡ entries_of_delete node q asked s
unfit_delete node q asked s why t d deed.never = refl
unfit_delete node q asked s why t d (deed.going deleter) = refl
unfit_delete node q asked s why t d deed.gone = refl

deletes_as : (node : ℕ) (q : Name) (a b : List ℕ) (s : Stage) → b ≡ a → s ≡ stage.Live → entries_of_delete node q a stage.Live ≡ entries_of_delete node q b s
deletes_as node q a b s e f = sym (ap (λ x. entries_of_delete node q x s) e ∙ ap (entries_of_delete node q a) f)

own_delete : (n : Node) (q : Name) (a : List ℕ) → is_mine n q ≡ true → (lifetime_of n q).stage ≡ stage.Live → members n.nodes (lifetime_of n q).asked ≡ a → entries_of_delete n.me q a stage.Live ≡ entries_of_call n (call.Delete q) None
own_delete n q a mine live e = deletes_as n.me q a _ _ e live ∙ sym (cond-true (is_mine n q) _ [] mine)

purged_as : (q : Name) (missing : Bool) (a left : List ℕ) (s t : Stage) → missing ≡ true → left ≡ a → t ≡ s → entries_of_purged q true a s ≡ entries_of_purged q missing left t
purged_as q missing a left s t e f g = sym (ap (λ x. entries_of_purged q x left t) e ∙ ap (λ x. entries_of_purged q true x t) f ∙ ap (entries_of_purged q true a) g)

of_lives : (n : Node) (cause : Cause) (o : Outcome) → Lives n cause o → NotRefused n cause → o.entries ≡ Table n cause
unfolding verdict
of_lives n cause o (deed.made size e) ok = refl
of_lives n cause o (deed.used_up size why e x) ok = let both : Some why ≡ None = sym e ∙ ok in cc
of_lives n cause o (deed.maps_more q m e few mine other) ok = sym (ap (entries_of_mapping n q) e)
of_lives n cause o (deed.maps_own q e mine live) ok = sym (ap (entries_of_mapping n q) e ∙ cond-true (is_mine n q) _ _ mine)
of_lives n cause o (deed.maps_cached q size e other c) ok = sym (ap (entries_of_mapping n q) e ∙ cond-false (is_mine n q) _ _ other ∙ ap (entries_of_cached n.me q) c)
of_lives n cause o (deed.map_asks q e other c real) ok = sym (ap (entries_of_mapping n q) e ∙ cond-false (is_mine n q) _ _ other ∙ ap (entries_of_cached n.me q) c)
of_lives n cause o (deed.map_told from q mine live) ok = sym (ap (entries_of_map from q _) live)
of_lives n cause o (deed.map_refused from q why t d u) ok = unfit_map from q _ _ why t d u
of_lives n cause o (deed.delete_asks q other real) ok = sym (cond-false (is_mine n q) _ [] other)
of_lives n cause o (deed.deletes_alone q mine live e) ok = own_delete n q [] mine live e
of_lives n cause o (deed.deletes_own q m ms mine live e) ok = own_delete n q (m ∷ ms) mine live e
of_lives n cause o (deed.deletes_alone_for from q mine live e) ok = deletes_as from q [] _ _ e live
of_lives n cause o (deed.deletes_for from q m ms mine live e) ok = deletes_as from q (m ∷ ms) _ _ e live
of_lives n cause o (deed.delete_refused from q why t d u) ok = unfit_delete from q _ _ why t d u
of_lives n cause o (deed.counts_off from q deleter m ms mine e missing left) ok = purged_as q _ (m ∷ ms) _ (stage.Going deleter) _ missing left e
of_lives n cause o (deed.ends_own from q mine e missing last) ok = purged_as q _ [] _ (stage.Going n.me) _ missing last e
of_lives n cause o (deed.ends_for from q deleter mine e other missing last) ok = purged_as q _ [] _ (stage.Going deleter) _ missing last e
of_lives n cause o _ ok = refl

-- Rounds.
part_as : (n : Node) (from : ℕ) (a b : Option (List Part)) (x y : Activity) → awaits from n.gathering ≡ true → b ≡ a → y ≡ x → entries_of_part n.me a x ≡ (if awaits from n.gathering then entries_of_part n.me b y else [])
part_as n from a b x y w e f = sym (cond-true (awaits from n.gathering) _ [] w ∙ ap (λ z. entries_of_part n.me z y) e ∙ ap (entries_of_part n.me a) f)

no_part : (me : ℕ) (x : Activity) → entries_of_part me None x ≡ []
no_part me (Waiting (ForRound round word)) = refl
no_part me _ = refl

idle_part : (me : ℕ) (parts : List Part) (x : Activity) → ((round : ℕ) (k : CallKind) → x ≡ Waiting (ForRound round k) → ⊥) → entries_of_part me (Some parts) x ≡ []
idle_part me parts (Waiting (ForRound round word)) h = absurd (h round word refl)
idle_part me parts _ h = refl

result_as : (me round : ℕ) (f : Fold) (k : CallKind) (a : Activity) → a ≡ Waiting (ForRound round k) → entry_of me (result_of round k f) ∷ [] ≡ entries_of_result me round f a
result_as me round f k a e = sym (ap (entries_of_result me round f) e ∙ cond-true (round == round) _ [] (eq-eqb round round refl))

of_rounds : (n : Node) (cause : Cause) (o : Outcome) → Rounds n cause o → o.entries ≡ Table n cause
of_rounds n cause o (deed.comes_away part other fits) = ap (λ es. entry_of n.me (what.Come part) ∷ es) (sym (cond-false (n.me == 0) _ [] other))
of_rounds n cause o (deed.comes_home part first fits all) = ap (λ es. entry_of n.me (what.Come part) ∷ es) (sym (cond-true (n.me == 0) _ [] first ∙ ap (entries_of_round n.me (n.rounds + 1) (kind_of part)) all))
of_rounds n cause o (deed.comes_last part parts first fits all) = ap (λ es. entry_of n.me (what.Come part) ∷ es) (sym (cond-true (n.me == 0) _ [] first ∙ ap (entries_of_round n.me (n.rounds + 1) (kind_of part)) all))
of_rounds n cause o (deed.part_comes from round part w all) = sym (no_part n.me n.activity) ∙ part_as n from None _ n.activity n.activity w all refl
of_rounds n cause o (deed.part_last from round part parts mine k e w all) = part_as n from (Some parts) _ (Waiting (ForRound mine k)) n.activity w all e
of_rounds n cause o (deed.part_last_idle from round part parts idle w all) = sym (idle_part n.me parts n.activity idle) ∙ part_as n from (Some parts) _ n.activity n.activity w all refl
of_rounds n cause o (deed.result_comes from round f k e) = result_as n.me round f k n.activity e

-- Calls about nothing here, and what is ignored.
of_notes : (n : Node) (c : Call) (w : What) (m : Node) → Notes n c w m → entry_of n.me w ∷ [] ≡ entries_of_call n c None
of_notes n c w m (deed.ends_nowhere x q y ends lowers is e) = ended n _ x q y ends lowers is refl
of_notes n c w m (deed.flushes_own q mine can) = refl
of_notes n c w m (deed.flushes_nowhere q other e can) = refl

idle_ask : (n : Node) (from : ℕ) (q : Name) (write : Bool) (have : ℕ) (o : Option Home) → home_of n q ≡ o → Idles (Hears from (kind.Ask q write have)) n → [] ≡ entries_of_ask n.me (is_queued_in from n.homes) q write have from o
idle_ask n from q write have None e h = refl
idle_ask n from q write have (Some g) e h = sym (cond-true (is_queued_in from n.homes) [] _ (h g e))

idle_return : (n : Node) (from : ℕ) (q : Name) (version : ℕ) (bytes : Option (List ℕ)) (o : Option Home) → home_of n q ≡ o → Idles (Hears from (kind.Return q version bytes)) n → [] ≡ entries_of_return n.me q version bytes from o
idle_return n from q version bytes None e h = refl
idle_return n from q version bytes (Some g) e h = sym (cond-false _ _ [] (h g e))

idle_release : (n : Node) (from : ℕ) (q : Name) (version : ℕ) (bytes : List ℕ) (o : Option Home) → home_of n q ≡ o → Idles (Hears from (kind.Release q version bytes)) n → [] ≡ entries_of_release n.me q version bytes from o
idle_release n from q version bytes None e h = refl
idle_release n from q version bytes (Some g) e h = sym (cond-false _ _ [] (h g e))

idle_grant : (n : Node) (q : Name) (g : Granted) (o : Option Remote) → n.remotes q ≡ o → ((r : Remote) → n.remotes q ≡ Some r → grant_fits g r ≡ false) → [] ≡ entries_of_grant n.me q g o
idle_grant n q g None e h = refl
idle_grant n q g (Some r) e h = sym (cond-false (grant_fits g r) _ [] (h r e))

idle_purged : (q : Name) (missing : Bool) (left : List ℕ) (s : Stage) → ((deleter : ℕ) → s ≡ stage.Going deleter → missing ≡ true → ⊥) → [] ≡ entries_of_purged q missing left s
idle_purged q true [] (stage.Going deleter) h = absurd (h deleter refl refl)
idle_purged q true [] stage.Unknown h = refl
idle_purged q true [] stage.Live h = refl
idle_purged q true [] stage.Gone h = refl
idle_purged q true (m ∷ ms) s h = refl
idle_purged q false left s h = refl

idle_result : (me round : ℕ) (f : Fold) (a : Activity) → ((k : CallKind) → a ≡ Waiting (ForRound round k) → ⊥) → [] ≡ entries_of_result me round f a
idle_result me round f Free h = refl
idle_result me round f (Ready answer) h = refl
idle_result me round f (Waiting (ForSection p)) h = refl
idle_result me round f (Waiting (ForMap p purged)) h = refl
idle_result me round f (Waiting (ForDelete p)) h = refl
idle_result me round f (Waiting (ForRound waited k)) h =
    sym (cond_both (waited == round) _ _ (λ es. es ≡ []) (λ w. absurd (h k (ap (λ x. Waiting (ForRound x k)) (eqb-true waited round w)))) (λ w. refl))

nowhere : (me : ℕ) (write : Bool) (q : Name) (h : Option Home) (r : Option Remote) → h ≡ None → r ≡ None → [] ≡ entries_of_start (opens_at_once me write h r) me write q
nowhere me write q h r e f = sym (ap (λ x. entries_of_start (opens_at_once me write x r) me write q) e ∙ ap (λ x. entries_of_start (opens_at_once me write None x) me write q) f)

of_idles : (n : Node) (cause : Cause) → Idles cause n → [] ≡ Table n cause
of_idles n (Calls (call.Put q offset len)) h = refl
of_idles n (Calls (call.Add q offset)) h = refl
of_idles n (Calls (call.StartRead q)) h = nowhere n.me false q _ _ h.1.0 h.1.1
of_idles n (Calls (call.StartWrite q)) h = nowhere n.me true q _ _ h.1.0 h.1.1
of_idles n (Calls _) h = absurd h
of_idles n (Hears from (kind.InfoAsk q)) h = absurd h
of_idles n (Hears from (kind.DeleteAsk q)) h = absurd h
of_idles n (Hears from (kind.Ask q write have)) h = idle_ask n from q write have (home_of n q) refl h
of_idles n (Hears from (kind.Return q version bytes)) h = idle_return n from q version bytes (home_of n q) refl h
of_idles n (Hears from (kind.Release q version bytes)) h = idle_release n from q version bytes (home_of n q) refl h
of_idles n (Hears from (kind.Grant q version g)) h = idle_grant n q g (n.remotes q) refl h
of_idles n (Hears from (kind.Purged q)) h = idle_purged q _ _ _ h
of_idles n (Hears from (kind.Come round part)) h = sym (cond-false (awaits from n.gathering) _ [] h)
of_idles n (Hears from (kind.Result round f)) h = idle_result n.me round f n.activity h
of_idles n (Hears from _) h = refl

of_deed : (n : Node) (cause : Cause) (o : Outcome) → Deed n cause o → NotRefused n cause → o.entries ≡ Table n cause
of_deed n cause o (deed.copies d) ok = of_copies n cause o d
of_deed n cause o (deed.lives d) ok = of_lives n cause o d ok
of_deed n cause o (deed.rounds d) ok = of_rounds n cause o d
of_deed n cause o (deed.notes d) ok = of_notes n _ _ _ d
of_deed n cause o (deed.refuses c why v) ok = let both : Some why ≡ None = sym v ∙ ok in cc
of_deed n cause o (deed.idles {cause = x} h) ok = of_idles n x h

-- Any call and message, and any event.
pub decided_by_call : (n : Node) (c : Call) → (node_calls c n).entries ≡ entries_of n (Calls c)
unfolding refuses_call
decided_by_call n c = go (verdict n c) refl (call_deed n c)
  where
    go : (v : Option Refusal) → verdict n c ≡ v → Deed n (Calls c) (call_or_refuse (verdict n c) c n) → (call_or_refuse v c n).entries ≡ entries_of_call n c v
    go None e d = ap (λ x. (call_or_refuse x c n).entries) (sym e) ∙ of_deed n _ _ d e
    go (Some why) e d = refl

pub decided_by_message : (n : Node) (from : ℕ) (k : Kind) → (node_handles from k n).entries ≡ entries_of n (Hears from k)
decided_by_message n from k = of_deed n _ _ (message_deed n from k) tt

by_piece : (n : Node) (o : Option Key) (p : Piece) → (receives_as o p n).entries ≡ entries_of_heard n p.message.sender (made_whole_as o p n)
by_piece n None p = decided_by_message n p.message.sender p.message.kind
by_piece n (Some key) p = go (size_for key.load key.name n)
  where
    gathered : (b : Bool) (slots : List (Option (List ℕ))) → is_complete slots ≡ b → (gathers_piece key p slots n).entries ≡ entries_of_heard n p.message.sender (if b then Some (with_load (joined slots) p.message.kind) else None)
    gathered true slots e = ap (λ (o : Outcome). o.entries) (cond-true (is_complete slots) _ _ e) ∙ decided_by_message (record n { parcels = at_key n.parcels key None }) p.message.sender (with_load (joined slots) p.message.kind)
    gathered false slots e = ap (λ (o : Outcome). o.entries) (cond-false (is_complete slots) _ _ e)

    fits : (b : Bool) (size : ℕ) → (fits_size size p && is_missing p.index (slots_or p.pieces (n.parcels key))) ≡ b → (receives_part key p (Some size) n).entries ≡ entries_of_heard n p.message.sender (if b then (if is_complete (slots_with p (n.parcels key)) then Some (with_load (joined (slots_with p (n.parcels key))) p.message.kind) else None) else None)
    fits true size e = ap (λ (o : Outcome). o.entries) (cond-true (fits_size size p && is_missing p.index (slots_or p.pieces (n.parcels key))) _ _ e) ∙ gathered (is_complete (slots_with p (n.parcels key))) (slots_with p (n.parcels key)) refl
    fits false size e = ap (λ (o : Outcome). o.entries) (cond-false (fits_size size p && is_missing p.index (slots_or p.pieces (n.parcels key))) _ _ e)

    go : (size : Option ℕ) → (receives_part key p size n).entries ≡ entries_of_heard n p.message.sender (made_whole_of_size key p size n)
    go None = refl
    go (Some size) = fits (fits_size size p && is_missing p.index (slots_or p.pieces (n.parcels key))) size refl

by_taken : (i : ℕ) (e : Event) (o : Option (Taken Piece)) (w : World) → (handles_at i e o w).entries ≡ entries_of_taken (w.nodes i) o
by_taken i e None w = refl
by_taken i e (Some t) w = by_piece (record (w.nodes i) { inbox = t.rest }) (key_of t.taken.message) t.taken

carried_quietly : (i : ℕ) (e : Event) (t : Option (Taken Piece)) (w : World) → (carries i e t w).entries ≡ []
carried_quietly i e None w = refl
carried_quietly i e (Some t) w = refl

collected_quietly : (a : Activity) (n : Node) → (collects a n).entries ≡ []
collected_quietly Free n = refl
collected_quietly (Waiting awaited) n = refl
collected_quietly (Ready answer) n = refl

pub decided : (e : Event) (w : World) → (step e w).entries ≡ entries_at e w
unfolding step
decided (event.Call i c) w = decided_by_call (w.nodes i) c
decided (event.Collect i) w = collected_quietly (w.nodes i).activity (w.nodes i)
decided (event.Handle i place) w = by_taken i (event.Handle i place) (take_out place (w.nodes i).inbox) w
decided (event.Carry i place) w = carried_quietly i (event.Carry i place) (take_out place (w.nodes i).outbox) w
