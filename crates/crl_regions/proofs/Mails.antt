-- What a deed sends: mail about copies goes between a region's home and another node, and a size that is told is the
-- region's.
use Rattle.std.proofs.Common.{◌≡◌, ℕ, zero, suc, ◌+◌, ◌-◌, ◌<◌, ◌==◌, Bool, true, false, ◌&&◌, None, Some, Option, List, [], ◌∷◌, map, refl, ap, sym, ◌∙◌, subst}
use Rattle.std.specs.List.{AllByRecursion}
use Rattle.std.proofs.lemmas.Bool.{cond_both, eqb-true}
use Rattle.crl_model.specs.declared.name.Name.{Name}
use Rattle.crl_model.specs.declared.stage.Stage.{Stage}
use Rattle.crl_model.specs.declared.stage.Stage.TheVariants as stage
use Rattle.crl_model.specs.declared.call.Call.{Call}
use Rattle.crl_model.specs.declared.call.Refusal.{Refusal}
use Rattle.crl_model.specs.declared.collective.Fold.{Fold}
use Rattle.crl_model.specs.declared.directory.Section.{Section}
use Rattle.crl_model.specs.declared.directory.Section.TheVariants as section
use Rattle.crl_model.specs.declared.message.Told.{Told}
use Rattle.crl_model.specs.declared.message.DeleteTold.{DeleteTold}
use Rattle.crl_model.specs.declared.message.Kind.{Kind}
use Rattle.crl_model.specs.declared.message.Kind.TheVariants as kind
use Rattle.crl_protocol.specs.Mail.{Mail, Ask, Grant, Recall, Yield, Return, Release, Letter, kind_about}
use Rattle.crl_protocol.specs.Home.{Home, HomeStep, one_section_less}
use Rattle.crl_protocol.specs.Remote.{Copy, Remote, RemoteStep, starts_over, remote_starts, overtakes, recall_in, recall_over, remote_takes_recall, yield_in, yield_over, remote_takes_yield, leaves_over, lowers_over, is_closed, remote_ends_read, remote_ends_write, flushes_over, remote_flushes}
use Rattle.crl_protocol.specs.Node.{Node, Outcome, home_of, lifetime_of, message_to, letter_messages, mail_messages}
use Rattle.crl_protocol.specs.Calls.{size_of, results_from}
use Rattle.crl_protocol.specs.Handlers.{told_by_stage, takes_grant}
use Rattle.crl_regions.proofs.NodesExist.{OfHome, ToOther, NodesExist, NodesExistAfter, near_asked, near_returned, near_released, near_starts, near_read, near_write}
use Rattle.crl_regions.proofs.Acts.{home_is}
use Rattle.crl_model.specs.declared.entry.What.{What}
use Rattle.crl_deeds.specs.Deeds.{Cause, Calls, Hears, parting, EndsCall, a_read, a_write, Serves, ask_comes, copy_returns, copy_lowers, CallsBack, wholly, to_share, Copies, Lives, Rounds, Deed, copies, lives, rounds, Unfit, never, home_opens, home_waits, side_opens, side_waits, home_ends, side_ends, side_flushes, home_serves, home_serves_own, grant_comes, side_called, map_asks, map_told, map_refused, unmaps_doomed, unmaps_evicting, deletes_own, delete_asks, deletes_alone_for, deletes_for, delete_refused, dooms, drops, warns, ends_for, comes_away, comes_last, part_last, part_last_idle}
use Rattle.crl_safety.specs.Tests.{HasTable}
use Rattle.crl_regions.specs.MailFits.{Tables, ToldFits, FitsTables, MailFits, AllMailFits}
use Rattle.crl_deeds.specs.NodeFacts.{LiveFits}
use Rattle.crl_deeds.proofs.Laws.{all_append}

-- the node that sends, where the tables are those after its step
pub record Sends (i count : ℕ) (n : Node) (tables : Tables) : Type 0 where
  pub me : n.me ≡ i
  pub few : i < count
  pub near : (name : Name) (h : Home) → home_of n name ≡ Some h → NodesExist n.me count h
  pub home_there : (name : Name) (h : Home) → home_of n name ≡ Some h → (k : Home) × (tables name ≡ Some k) × (k.size ≡ h.size)
  pub side_there : (name : Name) (r : Remote) → n.remotes name ≡ Some r → HasTable (tables name) × ((i == name.home) ≡ false)
  pub live : (name : Name) → LiveFits (lifetime_of n name).stage (home_of n name)

-- The mail of a home.
letter_fits : (tables : Tables) (me to : ℕ) (name : Name) (m : Mail) → me ≡ name.home → HasTable (tables name) → OfHome m → (to == me) ≡ false
    → FitsTables tables me to (kind_about name m)
letter_fits tables me to name (Grant version takes_grant) e t o other = (e, ap (λ k. to == k) (sym e) ∙ other, t)
letter_fits tables me to name (Recall version) e t o other = (e, ap (λ k. to == k) (sym e) ∙ other, t)
letter_fits tables me to name (Yield version) e t o other = (e, ap (λ k. to == k) (sym e) ∙ other, t)
letter_fits tables me to name (Ask write have) e t o other = absurd o
letter_fits tables me to name (Return version bytes) e t o other = absurd o
letter_fits tables me to name (Release version bytes) e t o other = absurd o

letters_fit : (count : ℕ) (tables : Tables) (n : Node) (name : Name) (posts : List Letter) → n.me ≡ name.home → HasTable (tables name) → AllByRecursion (ToOther n.me count) posts
    → AllMailFits tables (letter_messages n name posts)
letters_fit count tables n name [] e t h = tt
letters_fit count tables n name (l ∷ posts) e t h = (letter_fits tables n.me l.to name l.mail e t h.0.0 h.0.1.1, letters_fit count tables n name posts e t h.1)

pub home_mail_fits : (i count : ℕ) (tables : Tables) (n : Node) (name : Name) (h : Home) (s : HomeStep) → home_of n name ≡ Some h → Sends i count n tables → NodesExistAfter n.me count s
    → AllMailFits tables (letter_messages n name s.posts)
home_mail_fits i count tables n name h s e f near =
    let t = f.home_there name h e in letters_fit count tables n name s.posts (eqb-true n.me name.home (home_is n name h e)) (t.0, t.1) near.posts

-- The mail of another node.
abbrev OfSide : Mail → Type 0
OfSide (Ask write have) = Unit {0}
OfSide (Return version bytes) = Unit {0}
OfSide (Release version bytes) = Unit {0}
OfSide _ = ⊥

abbrev AllSide : List Mail → Type 0
AllSide posts = AllByRecursion OfSide posts

abbrev pub Posts : RemoteStep → Type 0
Posts s = AllSide s.posts

mail_fits : (tables : Tables) (me : ℕ) (name : Name) (m : Mail) → (me == name.home) ≡ false → HasTable (tables name) → OfSide m
    → FitsTables tables me name.home (kind_about name m)
mail_fits tables me name (Ask write have) e t o = (refl, e, t)
mail_fits tables me name (Return version bytes) e t o = (refl, e, t)
mail_fits tables me name (Release version bytes) e t o = (refl, e, t)
mail_fits tables me name (Grant version takes_grant) e t o = absurd o
mail_fits tables me name (Recall version) e t o = absurd o
mail_fits tables me name (Yield version) e t o = absurd o

mails_fit : (tables : Tables) (n : Node) (name : Name) (posts : List Mail) → (n.me == name.home) ≡ false → HasTable (tables name) → AllSide posts
    → AllMailFits tables (mail_messages n name posts)
mails_fit tables n name [] e t h = tt
mails_fit tables n name (m ∷ posts) e t h = (mail_fits tables n.me name m e t h.0, mails_fit tables n name posts e t h.1)

pub side_mail_fits : (i count : ℕ) (tables : Tables) (n : Node) (name : Name) (r : Remote) (s : RemoteStep) → n.remotes name ≡ Some r → Sends i count n tables → Posts s → AllMailFits tables (mail_messages n name s.posts)
side_mail_fits i count tables n name r s e f p =
    let t = f.side_there name r e in mails_fit tables n name s.posts (ap (λ k. k == name.home) f.me ∙ t.1) t.0 p

pub start_posts : (write : Bool) (copy : Option Copy) (r : Remote) → Posts (starts_over write copy r)
start_posts write None r = (tt, tt)
start_posts false (Some copy) r = tt
start_posts true (Some copy) r = cond_both copy.exclusive _ _ Posts (λ w. tt) (λ w. (tt, tt))

overtaken_posts : (version old : ℕ) (yields : Bool) (r : Remote) → Posts (overtakes version old yields r)
overtaken_posts version old yields r = tt

recall_in_posts : (here : Section) (copy : Copy) (r : Remote) → Posts (recall_in here copy r)
recall_in_posts section.Closed copy r = (tt, tt)
recall_in_posts (section.Reading count) copy r = tt
recall_in_posts section.Writing copy r = tt

pub recall_posts : (version : ℕ) (copy : Option Copy) (r : Remote) → Posts (recall_over version copy r)
recall_posts version None r = tt
recall_posts version (Some copy) r = cond_both (version == copy.version) _ _ Posts (λ w. recall_in_posts r.here copy r) (λ w. tt)

yield_in_posts : (here : Section) (copy : Copy) (r : Remote) → Posts (yield_in here copy r)
yield_in_posts section.Closed copy r = (tt, tt)
yield_in_posts (section.Reading count) copy r = (tt, tt)
yield_in_posts section.Writing copy r = tt

pub yield_posts : (version : ℕ) (copy : Option Copy) (r : Remote) → Posts (yield_over version copy r)
yield_posts version None r = tt
yield_posts version (Some copy) r = cond_both ((version == copy.version) && copy.exclusive) _ _ Posts (λ w. yield_in_posts r.here copy r) (λ w. tt)

leave_posts : (copy : Option Copy) (r : Remote) → Posts (leaves_over copy r)
leave_posts None r = tt
leave_posts (Some copy) r = (tt, tt)

lower_posts : (copy : Option Copy) (r : Remote) → Posts (lowers_over copy r)
lower_posts None r = tt
lower_posts (Some copy) r = (tt, tt)

pub read_posts : (r : Remote) → Posts (remote_ends_read r)
unfolding remote_ends_read
read_posts r =
    let after : Remote = record r { here = one_section_less r.here } in cond_both (is_closed after.here && after.leaving) _ _ Posts (λ w. leave_posts after.copy after) (λ w. tt)

pub write_posts : (bytes : List ℕ) (r : Remote) → Posts (remote_ends_write bytes r)
unfolding remote_ends_write
write_posts bytes r = cond_both r.leaving _ _ Posts (λ w. leave_posts _ _) (λ w. cond_both r.lowering _ _ Posts (λ v. lower_posts _ _) (λ v. tt))

flush_over : (copy : Option Copy) (r : Remote) → Posts (flushes_over copy r)
flush_over None r = tt
flush_over (Some copy) r = (tt, tt)

pub flush_posts : (r : Remote) → Posts (remote_flushes r)
unfolding remote_flushes
flush_posts r = flush_over r.copy r

-- Outcomes.
abbrev pub Sent : Tables → Outcome → Type 0
Sent tables o = AllMailFits tables o.posts

pub purges_fit : (count : ℕ) (tables : Tables) (n : Node) (name : Name) (ms : List ℕ) → AllMailFits tables (map (λ m. message_to n m (kind.Purge name)) ms)
purges_fit count tables n name [] = tt
purges_fit count tables n name (m ∷ ms) = (tt, purges_fit count tables n name ms)

pub results_fit : (count : ℕ) (tables : Tables) (n : Node) (m k round : ℕ) (fold : Fold) → AllMailFits tables (results_from n m k round fold)
results_fit count tables n m zero round fold = tt
results_fit count tables n m (suc k) round fold = (tt, results_fit count tables n (m + 1) k round fold)

pub told_sized : (s : Stage) (o : Option Home) (t : Option Home) → LiveFits s o → ((h : Home) → o ≡ Some h → (k : Home) × (t ≡ Some k) × (k.size ≡ h.size)) → ToldFits (told_by_stage s (size_of o)) t
told_sized stage.Unknown o t l f = tt
told_sized stage.Live None t l f = absurd l
told_sized stage.Live (Some h) t l f = f h refl
told_sized (stage.Going deleter) o t l f = tt
told_sized stage.Gone o t l f = tt

-- Of each deed.
-- the message came from a node of the world
abbrev pub IsFromNode : ℕ → Cause → Type 0
IsFromNode count (Calls c) = Unit {0}
IsFromNode count (Hears from k) = from < count

ends_near : (n : Node) (count : ℕ) (bytes : List ℕ) (c : Call) (name : Name) (w : What) (ends : Home → HomeStep) (lowers : Remote → RemoteStep) (h : Home) → EndsCall bytes n c name w ends lowers → NodesExist n.me count h → NodesExistAfter n.me count (ends h)
ends_near n count bytes c name w ends lowers h (a_read q v) k = near_read n.me count h k
ends_near n count bytes c name w ends lowers h (a_write q after v) k = near_write n.me count after h k

ends_posts : (n : Node) (bytes : List ℕ) (c : Call) (name : Name) (w : What) (ends : Home → HomeStep) (lowers : Remote → RemoteStep) (r : Remote) → EndsCall bytes n c name w ends lowers → Posts (lowers r)
ends_posts n bytes c name w ends lowers r (a_read q v) = read_posts r
ends_posts n bytes c name w ends lowers r (a_write q after v) = write_posts after r

serves_near : (count : ℕ) (n : Node) (h : Home) (from : ℕ) (k : Kind) (name : Name) (s : HomeStep) → Serves n h from k name s → from < count → NodesExist n.me count h → NodesExistAfter n.me count s
serves_near count n h from k name s (ask_comes f q write have e) g near = near_asked n.me count _ h g near
serves_near count n h from k name s (copy_returns f q version bytes e) g near = near_returned n.me count from bytes h near
serves_near count n h from k name s (copy_lowers f q version bytes e) g near = near_released n.me count from version bytes h near

back_posts : (r : Remote) (k : Kind) (name : Name) (s : RemoteStep) → CallsBack r k name s → Posts s
unfolding remote_takes_recall remote_takes_yield
back_posts r k name s (wholly q version) = recall_posts version r.copy r
back_posts r k name s (to_share q version) = yield_posts version r.copy r

copies_fit : (i count : ℕ) (tables : Tables) (n : Node) (cause : Cause) (o : Outcome) → Copies n cause o → IsFromNode count cause → Sends i count n tables → Sent tables o
unfolding remote_starts
copies_fit i count tables n cause o (home_opens c write name h is e v x) g f = home_mail_fits i count tables n name h _ e f (near_starts n.me count write h (subst (λ k. k < count) (sym f.me) f.few) (f.near name h e))
copies_fit i count tables n cause o (home_waits c write name h is e v x) g f = home_mail_fits i count tables n name h _ e f (near_starts n.me count write h (subst (λ k. k < count) (sym f.me) f.few) (f.near name h e))
copies_fit i count tables n cause o (side_opens c write name r is e w v x) g f = side_mail_fits i count tables n name r (starts_over write r.copy r) w f (start_posts write r.copy r)
copies_fit i count tables n cause o (side_waits c write name r is e w v x) g f = side_mail_fits i count tables n name r (starts_over write r.copy r) w f (start_posts write r.copy r)
copies_fit i count tables n cause o (home_ends c name w ends lowers h is e) g f = home_mail_fits i count tables n name h _ e f (ends_near n count _ c name w ends lowers h is (f.near name h e))
copies_fit i count tables n cause o (side_ends c name w ends lowers r is e y) g f = side_mail_fits i count tables n name r (lowers r) y f (ends_posts n _ c name w ends lowers r is)
copies_fit i count tables n cause o (side_flushes name r other e closed) g f = side_mail_fits i count tables n name r (remote_flushes r) e f (flush_posts r)
copies_fit i count tables n cause o (home_serves from k name h s is e x) g f = home_mail_fits i count tables n name h s e f (serves_near count n h from k name s is g (f.near name h e))
copies_fit i count tables n cause o (home_serves_own from k name h s is e x) g f = home_mail_fits i count tables n name h s e f (serves_near count n h from k name s is g (f.near name h e))
copies_fit i count tables n cause o (grant_comes from name version what r e t) g f = tt
copies_fit i count tables n cause o (side_called from k name r s is e) g f = side_mail_fits i count tables n name r s e f (back_posts r k name s is)

parting_fits : (i count : ℕ) (tables : Tables) (n : Node) (name : Name) (o : Option Remote) → n.remotes name ≡ o → Sends i count n tables → AllMailFits tables (parting n name o)
parting_fits i count tables n name None e f = tt
parting_fits i count tables n name (Some r) e f = side_mail_fits i count tables n name r (remote_flushes r) e f (flush_posts r)

unfit_sized : (s : Stage) (why : Refusal) (t : Told) (d : DeleteTold) (o : Option Home) → Unfit s why t d → ToldFits t o
unfit_sized s why t d o never = tt
unfit_sized s why t d o _ = tt

lives_fit : (i count : ℕ) (tables : Tables) (n : Node) (cause : Cause) (o : Outcome) → Lives n cause o → Sends i count n tables → Sent tables o
lives_fit i count tables n cause o (map_asks name e other c real) f = (tt, tt)
lives_fit i count tables n cause o (map_told from name mine live) f =
    (told_sized stage.Live (home_of n name) (tables name) (subst (λ s. LiveFits s (home_of n name)) live (f.live name)) (λ h e. f.home_there name h e), tt)
lives_fit i count tables n cause o (map_refused from name why t d u) f = (unfit_sized _ why t d (tables name) u, tt)
lives_fit i count tables n cause o (unmaps_doomed name m e one other doomed closed) f = parting_fits i count tables n name (n.remotes name) refl f
lives_fit i count tables n cause o (unmaps_evicting name m old e one other sound closed kept) f = parting_fits i count tables n old (n.remotes old) refl f
lives_fit i count tables n cause o (deletes_own name m ms mine live e) f = purges_fit count tables n name _
lives_fit i count tables n cause o (deletes_for from name m ms mine live e) f = purges_fit count tables n name _
lives_fit i count tables n cause o (delete_asks name other real) f = (tt, tt)
lives_fit i count tables n cause o (deletes_alone_for from name mine live e) f = (tt, tt)
lives_fit i count tables n cause o (delete_refused from name why t d u) f = (tt, tt)
lives_fit i count tables n cause o (dooms from name m e) f = (tt, tt)
lives_fit i count tables n cause o (drops from name size e c) f = all_append (MailFits tables) (parting n name (n.remotes name)) _ (parting_fits i count tables n name (n.remotes name) refl f) (tt, tt)
lives_fit i count tables n cause o (warns from name e c) f = (tt, tt)
lives_fit i count tables n cause o (ends_for from name deleter mine e other missing last) f = (tt, tt)
lives_fit i count tables n cause o _ f = tt

rounds_fit : (count : ℕ) (tables : Tables) (n : Node) (cause : Cause) (o : Outcome) → Rounds n cause o → Sent tables o
rounds_fit count tables n cause o (comes_away part other fits) = (tt, tt)
rounds_fit count tables n cause o (comes_last part parts first fits all) = results_fit count tables n 1 (n.nodes - 1) _ _
rounds_fit count tables n cause o (part_last from round part parts mine k e a all) = results_fit count tables n 1 (n.nodes - 1) _ _
rounds_fit count tables n cause o (part_last_idle from round part parts idle a all) = results_fit count tables n 1 (n.nodes - 1) _ _
rounds_fit count tables n cause o _ = tt

pub mail_of_deed : (i count : ℕ) (tables : Tables) (n : Node) (cause : Cause) (o : Outcome) → Deed n cause o → IsFromNode count cause → Sends i count n tables → Sent tables o
mail_of_deed i count tables n cause o (copies d) g f = copies_fit i count tables n cause o d g f
mail_of_deed i count tables n cause o (lives d) g f = lives_fit i count tables n cause o d f
mail_of_deed i count tables n cause o (rounds d) g f = rounds_fit count tables n cause o d
mail_of_deed i count tables n cause o _ g f = tt
