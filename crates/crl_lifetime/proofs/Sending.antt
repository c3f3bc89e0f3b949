-- Who sends what about a region: its home, and other nodes to it.
use Rattle.std.proofs.Common.{◌≡◌, ℕ, zero, suc, ◌+◌, ◌-◌, ◌==◌, true, false, None, Some, Option, List, [], ◌∷◌, map, refl, sym}
use Rattle.std.specs.List.{AllByRecursion}
use Rattle.std.proofs.lemmas.Bool.{eqb-true}
use Rattle.crl_model.specs.declared.name.Name.{Name}
use Rattle.crl_model.specs.declared.collective.Fold.{Fold}
use Rattle.crl_model.specs.declared.message.Message.{Message}
use Rattle.crl_model.specs.declared.message.Kind.{Kind}
use Rattle.crl_model.specs.declared.message.Kind.TheVariants as kind
use Rattle.crl_protocol.specs.Parcels.{with_load}
use Rattle.crl_protocol.specs.Mail.{Mail, Ask, Letter, kind_about}
use Rattle.crl_protocol.specs.Remote.{Remote, remote_flushes}
use Rattle.crl_protocol.specs.Node.{Node, Outcome, is_mine, letter_messages, mail_messages, message_to}
use Rattle.crl_protocol.specs.Calls.{results_from}
use Rattle.crl_deeds.specs.Deeds.{Cause, parting, Copies, Lives, Rounds, Deed, copies, lives, rounds, home_opens, home_waits, side_opens, side_waits, home_ends, side_ends, side_flushes, home_serves, home_serves_own, grant_comes, side_called, map_asks, map_told, map_refused, unmaps_doomed, unmaps_evicting, deletes_own, delete_asks, deletes_alone_for, deletes_for, delete_refused, dooms, drops, warns, ends_for, comes_away, comes_last, part_last, part_last_idle}
use Rattle.crl_deeds.specs.Counts.{Plain}
use Rattle.crl_deeds.specs.Turns.{Came}
use Rattle.crl_deeds.proofs.Laws.{all_append}

abbrev pub SentKind : ℕ → ℕ → Kind → Type 0
SentKind from to (kind.InfoAsk name) = to ≡ name.home
SentKind from to (kind.InfoIs name t) = (from ≡ name.home) × ((name.home == to) ≡ false)
SentKind from to (kind.DeleteAsk name) = to ≡ name.home
SentKind from to (kind.DeleteIs name t) = from ≡ name.home
SentKind from to (kind.Purge name) = from ≡ name.home
SentKind from to (kind.Purged name) = (to ≡ name.home) × ((name.home == from) ≡ false)
SentKind from to _ = Unit {0}

abbrev pub Sent : Message → Type 0
Sent m = SentKind m.sender m.addressee m.kind

pub sent_part : (from to : ℕ) (part : List ℕ) (k : Kind) → SentKind from to k → SentKind from to (with_load part k)
sent_part from to part (kind.Grant name version granted) h = tt
sent_part from to part (kind.Return name version bytes) h = tt
sent_part from to part (kind.Release name version bytes) h = tt
sent_part from to part _ h = h

mail_sent : (from to : ℕ) (name : Name) (m : Mail) → SentKind from to (kind_about name m)
mail_sent from to name (Ask write have) = tt
mail_sent from to name _ = tt

mails_sent : (n : Node) (name : Name) (posts : List Mail) → AllByRecursion Sent (mail_messages n name posts)
mails_sent n name [] = tt
mails_sent n name (m ∷ posts) = (mail_sent n.me name.home name m, mails_sent n name posts)

letters_sent : (n : Node) (name : Name) (posts : List Letter) → AllByRecursion Sent (letter_messages n name posts)
letters_sent n name [] = tt
letters_sent n name (l ∷ posts) = (mail_sent n.me l.to name l.mail, letters_sent n name posts)

parting_sent : (n : Node) (name : Name) (o : Option Remote) → AllByRecursion Sent (parting n name o)
parting_sent n name None = tt
parting_sent n name (Some r) = mails_sent n name (remote_flushes r).posts

results_sent : (n : Node) (m k round : ℕ) (fold : Fold) → AllByRecursion Sent (results_from n m k round fold)
results_sent n m zero round fold = tt
results_sent n m (suc k) round fold = (tt, results_sent n (m + 1) k round fold)

purges_sent : (n : Node) (name : Name) (ms : List ℕ) → n.me ≡ name.home → AllByRecursion Sent (map (λ m. message_to n m (kind.Purge name)) ms)
purges_sent n name [] e = tt
purges_sent n name (m ∷ ms) e = (e, purges_sent n name ms e)

sent_copies : (n : Node) (cause : Cause) (o : Outcome) → Copies n cause o → AllByRecursion Sent o.posts
sent_copies n cause o (home_opens c write name h is e v w) = letters_sent n name _
sent_copies n cause o (home_waits c write name h is e v w) = letters_sent n name _
sent_copies n cause o (home_ends c name w ends lowers h is e) = letters_sent n name _
sent_copies n cause o (home_serves from k name h s is e x) = letters_sent n name _
sent_copies n cause o (home_serves_own from k name h s is e x) = letters_sent n name _
sent_copies n cause o (grant_comes from name version g r e t) = tt
sent_copies n cause o (side_opens c write name r is e f v x) = mails_sent n name _
sent_copies n cause o (side_waits c write name r is e f v x) = mails_sent n name _
sent_copies n cause o (side_ends c name w ends lowers r is e f) = mails_sent n name _
sent_copies n cause o (side_flushes name r other e closed) = mails_sent n name _
sent_copies n cause o (side_called from k name r s is e) = mails_sent n name _

own_name : (n : Node) (name : Name) → is_mine n name ≡ true → n.me ≡ name.home
own_name n name mine = sym (eqb-true name.home n.me mine)

sent_lives : (count : ℕ) (n : Node) (cause : Cause) (o : Outcome) → Lives n cause o → Came (λ m. Plain count m × Sent m) n.me cause → AllByRecursion Sent o.posts
sent_lives count n cause o (map_asks name e other c real) f = (refl, tt)
sent_lives count n cause o (map_told from name mine live) f = ((own_name n name mine, f.0.1.0), tt)
sent_lives count n cause o (map_refused from name why t d u) f = ((f.1, f.0.1.0), tt)
sent_lives count n cause o (unmaps_doomed name m e one other doomed closed) f = parting_sent n name (n.remotes name)
sent_lives count n cause o (unmaps_evicting name m old e one other sound closed kept) f = parting_sent n old (n.remotes old)
sent_lives count n cause o (deletes_own name m ms mine live e) f = purges_sent n name _ (own_name n name mine)
sent_lives count n cause o (delete_asks name other real) f = (refl, tt)
sent_lives count n cause o (deletes_alone_for from name mine live e) f = (own_name n name mine, tt)
sent_lives count n cause o (deletes_for from name m ms mine live e) f = purges_sent n name _ (own_name n name mine)
sent_lives count n cause o (delete_refused from name why t d u) f = (f.1, tt)
sent_lives count n cause o (dooms from name m e) f = ((f.1, f.0.1.0), tt)
sent_lives count n cause o (drops from name size e c) f = all_append Sent (parting n name (n.remotes name)) _ (parting_sent n name (n.remotes name)) ((f.1, f.0.1.0), tt)
sent_lives count n cause o (warns from name e c) f = ((f.1, f.0.1.0), tt)
sent_lives count n cause o (ends_for from name deleter mine e other missing last) f = (own_name n name mine, tt)
sent_lives count n cause o _ f = tt

sent_rounds : (n : Node) (cause : Cause) (o : Outcome) → Rounds n cause o → AllByRecursion Sent o.posts
sent_rounds n cause o (comes_away part other fits) = (tt, tt)
sent_rounds n cause o (comes_last part parts first fits full) = results_sent n 1 (n.nodes - 1) _ _
sent_rounds n cause o (part_last from round part parts mine k e a full) = results_sent n 1 (n.nodes - 1) _ _
sent_rounds n cause o (part_last_idle from round part parts idle a full) = results_sent n 1 (n.nodes - 1) _ _
sent_rounds n cause o _ = tt

pub sent_deed : (count : ℕ) (n : Node) (cause : Cause) (o : Outcome) → Deed n cause o → Came (λ m. Plain count m × Sent m) n.me cause → AllByRecursion Sent o.posts
sent_deed count n cause o (copies d) f = sent_copies n cause o d
sent_deed count n cause o (lives d) f = sent_lives count n cause o d f
sent_deed count n cause o (rounds d) f = sent_rounds n cause o d
sent_deed count n cause o _ f = tt
