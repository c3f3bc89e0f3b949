-- The versions of a region's copies, and of its mail under way, go from 1 to the last that was granted; and an ask to read
-- names none.
use Rattle.std.proofs.Common.{◌≡◌, ℕ, zero, suc, ◌+◌, ◌≤◌, ◌==◌, nat_lt, Bool, true, false, not, ◌&&◌, None, Some, Option, List, [], ◌∷◌, ◌++◌, if◌then◌else◌, refl, sym, subst, arith}
use Rattle.std.specs.List.{AllByRecursion}
use Rattle.std.proofs.lemmas.Bool.{cond_both}
use Rattle.crl_model.specs.declared.directory.Section.{Section}
use Rattle.crl_model.specs.declared.directory.Section.TheVariants as section
use Rattle.crl_model.specs.declared.directory.Asked.{Asked}
use Rattle.crl_model.specs.declared.directory.Listing.{Listing}
use Rattle.crl_model.specs.declared.message.Granted.{Granted}
use Rattle.crl_model.specs.declared.message.Granted.TheVariants.{Shared, Exclusive, Upgrade}
use Rattle.crl_protocol.specs.Places.{at, put}
use Rattle.crl_protocol.specs.Mail.{Mail, Ask, Grant, Recall, Yield, Return, Release, Letter}
use Rattle.crl_protocol.specs.Home.{Home, HomeStep, is_servable, is_to_mark, with_marks, recalls_and_yields, open_own, grant_next, grant_for, posts_first, opens_own_section, serve, home_takes_ask, home_takes_return, home_takes_release, is_to_lower, bytes_after, shared_listing, own_ask, is_empty, is_reading, home_starts, one_section_less, home_ends_read, home_ends_write}
use Rattle.crl_protocol.specs.Remote.{Copy, Remote, RemoteStep, sends_nothing, is_closed, gives_back, lowers, starts_over, remote_starts, copy_after_grant, remote_takes_grant, recall_in, recall_over, remote_takes_recall, yield_in, yield_over, remote_takes_yield, leaves_over, lowers_over, remote_ends_read, with_written, remote_ends_write, flushes_over, remote_flushes, overtakes, notes_due, with_due, is_newer}
use Rattle.crl_rounds.proofs.Laws.{all_map}

abbrev pub IsVersion : ℕ → ℕ → Type 0
IsVersion last version = (1 ≤ version) × (version ≤ last)

abbrev pub Numbered : ℕ → Mail → Type 0
Numbered last (Ask true have) = have ≤ last
Numbered last (Ask false have) = have ≡ 0
Numbered last (Grant version granted) = IsVersion last version
Numbered last (Recall version) = IsVersion last version
Numbered last (Yield version) = IsVersion last version
Numbered last (Return version bytes) = IsVersion last version
Numbered last (Release version bytes) = IsVersion last version

abbrev pub ListedNumbered : ℕ → Option Listing → Type 0
ListedNumbered last None = Unit {0}
ListedNumbered last (Some l) = IsVersion last l.version

abbrev pub CopyNumbered : ℕ → Option Copy → Type 0
CopyNumbered last None = Unit {0}
CopyNumbered last (Some c) = IsVersion last c.version

-- More were granted.
version_up : (last more version : ℕ) → last ≤ more → IsVersion last version → IsVersion more version
version_up last more version l v = (v.0, (let b = v.1 in omega arith))

pub mail_up : (last more : ℕ) → last ≤ more → (m : Mail) → Numbered last m → Numbered more m
mail_up last more l (Ask true have) n = omega arith
mail_up last more l (Ask false have) n = n
mail_up last more l (Grant version granted) n = version_up last more version l n
mail_up last more l (Recall version) n = version_up last more version l n
mail_up last more l (Yield version) n = version_up last more version l n
mail_up last more l (Return version bytes) n = version_up last more version l n
mail_up last more l (Release version bytes) n = version_up last more version l n

listed_up : (last more : ℕ) → last ≤ more → (o : Option Listing) → ListedNumbered last o → ListedNumbered more o
listed_up last more l None n = tt
listed_up last more l (Some k) n = version_up last more k.version l n

pub copy_up : (last more : ℕ) → last ≤ more → (o : Option Copy) → CopyNumbered last o → CopyNumbered more o
copy_up last more l None n = tt
copy_up last more l (Some c) n = version_up last more c.version l n

-- The home's list.
put_numbered : (last n : ℕ) (o : Option Listing) (listed : List (Option Listing)) → ListedNumbered last o → AllByRecursion (ListedNumbered last) listed → AllByRecursion (ListedNumbered last) (put n o listed)
put_numbered last zero o [] k h = (k, tt)
put_numbered last (suc n) o [] k h = (tt, put_numbered last n o [] k tt)
put_numbered last zero o (x ∷ xs) k h = (k, h.1)
put_numbered last (suc n) o (x ∷ xs) k h = (h.0, put_numbered last n o xs k h.1)

marks_numbered : (last m : ℕ) (listed : List (Option Listing)) (ask : Asked) → AllByRecursion (ListedNumbered last) listed → AllByRecursion (ListedNumbered last) (with_marks m listed ask)
marks_numbered last m [] ask h = tt
marks_numbered last m (None ∷ listed) ask h = (tt, marks_numbered last (m + 1) listed ask h.1)
marks_numbered last m (Some copy ∷ listed) ask h =
    (cond_both (is_to_mark m copy ask) _ _ (λ (l : Listing). IsVersion last l.version) (λ w. h.0) (λ w. h.0), marks_numbered last (m + 1) listed ask h.1)

abbrev PostNumbered : ℕ → Letter → Type 0
PostNumbered last l = Numbered last l.mail

call_numbered : (last version : ℕ) (write : Bool) → IsVersion last version → Numbered last (if write then Recall version else Yield version)
call_numbered last version true v = v
call_numbered last version false v = v

calls_numbered : (last m : ℕ) (listed : List (Option Listing)) (ask : Asked) → AllByRecursion (ListedNumbered last) listed → AllByRecursion (PostNumbered last) (recalls_and_yields m listed ask)
calls_numbered last m [] ask h = tt
calls_numbered last m (None ∷ listed) ask h = calls_numbered last (m + 1) listed ask h.1
calls_numbered last m (Some copy ∷ listed) ask h =
    let rest = calls_numbered last (m + 1) listed ask h.1 in
    cond_both (is_to_mark m copy ask) _ _ (AllByRecursion (PostNumbered last)) (λ w. (call_numbered last copy.version ask.write h.0, rest)) (λ w. rest)

-- What a step of a home with so many grants leaves.
pub record HomeNumbered (last size : ℕ) (s : HomeStep) : Type 0 where
  pub grows : last ≤ s.home.last
  pub listed : AllByRecursion (ListedNumbered s.home.last) s.home.listed
  pub posts : AllByRecursion (PostNumbered s.home.last) s.posts
  pub size_stays : s.home.size ≡ size

serve_numbered : (me : ℕ) (h : Home) (queue : List Asked) → AllByRecursion (ListedNumbered h.last) h.listed → HomeNumbered h.last h.size (serve me h queue)
serve_numbered me h [] l = record { grows = omega arith; listed = l; posts = tt; size_stays = refl }
serve_numbered me h (ask ∷ queue) l =
    go (is_servable h ask) (ask.node == me) (serve_numbered me (open_own h ask) queue l)
    (serve_numbered me (grant_next h ask) queue
    (put_numbered (h.last + 1) ask.node _ h.listed (one_more h.last) (all_map (ListedNumbered h.last) (ListedNumbered (h.last + 1)) (listed_up h.last (h.last + 1) (more_grants h.last)) h.listed l)))
  where
    more_grants : (k : ℕ) → k ≤ k + 1
    more_grants k = omega arith

    one_more : (k : ℕ) → IsVersion (k + 1) (k + 1)
    one_more k = (omega arith, omega arith)

    go : (servable own : Bool) → HomeNumbered h.last h.size (serve me (open_own h ask) queue) → HomeNumbered (h.last + 1) h.size (serve me (grant_next h ask) queue)
        → HomeNumbered h.last h.size (if servable then (if own then opens_own_section (serve me (open_own h ask) queue) else posts_first (grant_for h ask) (serve me (grant_next h ask) queue))
        else record { home = record h { listed = with_marks 0 h.listed ask; queue = ask ∷ queue }; posts = recalls_and_yields 0 h.listed ask; opened = false })
    go true true x y = record { grows = x.grows; listed = x.listed; posts = x.posts; size_stays = x.size_stays }
    go true false x y = record {
      grows = let g = y.grows in omega arith;
      listed = y.listed;
      posts = (((let g = y.grows in omega arith), y.grows), y.posts);
      size_stays = y.size_stays;
    }
    go false own x y = record { grows = omega arith; listed = marks_numbered h.last 0 h.listed ask l; posts = calls_numbered h.last 0 h.listed ask l; size_stays = refl }

abbrev pub TableNumbered : Home → Type 0
TableNumbered h = AllByRecursion (ListedNumbered h.last) h.listed

pub asked_numbered : (me : ℕ) (ask : Asked) (h : Home) → TableNumbered h → HomeNumbered h.last h.size (home_takes_ask me ask h)
unfolding home_takes_ask
asked_numbered me ask h l = serve_numbered me h (h.queue ++ ask ∷ []) l

pub returned_numbered : (me n : ℕ) (bytes : Option (List ℕ)) (h : Home) → TableNumbered h → HomeNumbered h.last h.size (home_takes_return me n bytes h)
unfolding home_takes_return
returned_numbered me n bytes h l = serve_numbered me (record h { bytes = bytes_after bytes h.bytes; listed = put n None h.listed }) h.queue (put_numbered h.last n None h.listed tt l)

still_numbered : (h : Home) (posts_none : Bool) → TableNumbered h → HomeNumbered h.last h.size (record { home = h; posts = []; opened = posts_none })
still_numbered h o l = record { grows = omega arith; listed = l; posts = tt; size_stays = refl }

pub released_numbered : (me n version : ℕ) (bytes : List ℕ) (h : Home) → IsVersion h.last version → TableNumbered h → HomeNumbered h.last h.size (home_takes_release me n version bytes h)
unfolding home_takes_release
released_numbered me n version bytes h v l =
    cond_both (is_to_lower version (at n h.listed)) _ _ (λ (x : HomeStep). HomeNumbered h.last h.size x)
    (λ w. serve_numbered me (record h { bytes = bytes; listed = put n (Some (shared_listing version)) h.listed }) h.queue (put_numbered h.last n _ h.listed v l)) (λ w. still_numbered h false l)

pub started_numbered : (me : ℕ) (write : Bool) (h : Home) → TableNumbered h → HomeNumbered h.last h.size (home_starts me write h)
unfolding home_starts
started_numbered me write h l =
    cond_both (not write && is_reading h.mine) _ _ (λ (x : HomeStep). HomeNumbered h.last h.size x) (λ w. record { grows = omega arith; listed = l; posts = tt; size_stays = refl })
    (λ w. cond_both (is_empty h.queue && is_servable h (own_ask me write)) _ _ (λ (x : HomeStep). HomeNumbered h.last h.size x) (λ w. record { grows = omega arith; listed = l; posts = tt; size_stays = refl })
    (λ w. serve_numbered me h (h.queue ++ own_ask me write ∷ []) l))

pub read_numbered : (me : ℕ) (h : Home) → TableNumbered h → HomeNumbered h.last h.size (home_ends_read me h)
unfolding home_ends_read
read_numbered me h l = serve_numbered me (record h { mine = one_section_less h.mine }) h.queue l

pub write_numbered : (me : ℕ) (bytes : List ℕ) (h : Home) → TableNumbered h → HomeNumbered h.last h.size (home_ends_write me bytes h)
unfolding home_ends_write
write_numbered me bytes h l = serve_numbered me (record h { bytes = bytes; mine = section.Closed }) h.queue l

-- A node's side.
pub record SideNumbered (last : ℕ) (s : RemoteStep) : Type 0 where
  pub copy : CopyNumbered last s.remote.copy
  pub posts : AllByRecursion (Numbered last) s.posts

abbrev Side : ℕ → Remote → Type 0
Side last r = CopyNumbered last r.copy

back_numbered : (last : ℕ) (c : Copy) (r : Remote) → IsVersion last c.version → SideNumbered last (gives_back c r)
back_numbered last c r v = record { copy = tt; posts = (v, tt) }

lowers_numbered : (last : ℕ) (c : Copy) (r : Remote) → IsVersion last c.version → SideNumbered last (lowers c r)
lowers_numbered last c r v = record { copy = v; posts = (v, tt) }

none_named : (last : ℕ) (write : Bool) → Numbered last (Ask write 0)
none_named last true = omega arith
none_named last false = refl

starts_numbered_over : (last : ℕ) (write : Bool) (o : Option Copy) (r : Remote) → CopyNumbered last o → Side last r → SideNumbered last (starts_over write o r)
starts_numbered_over last write None r o s = record { copy = s; posts = (none_named last write, tt) }
starts_numbered_over last write (Some c) r o s =
    cond_both (not write) _ _ (λ (x : RemoteStep). SideNumbered last x) (λ w. record { copy = s; posts = tt })
    (λ w. cond_both c.exclusive _ _ (λ (x : RemoteStep). SideNumbered last x) (λ w. record { copy = s; posts = tt }) (λ w. record { copy = s; posts = (o.1, tt) }))

pub starts_numbered : (last : ℕ) (write : Bool) (r : Remote) → Side last r → SideNumbered last (remote_starts write r)
unfolding remote_starts
starts_numbered last write r s = starts_numbered_over last write r.copy r s s

granted_over : (last version : ℕ) (g : Granted) (o : Option Copy) → IsVersion last version → CopyNumbered last (copy_after_grant version g o)
granted_over last version (Shared bytes) o v = v
granted_over last version (Exclusive bytes) o v = v
granted_over last version Upgrade None v = tt
granted_over last version Upgrade (Some c) v = v

pub granted_numbered : (last version : ℕ) (g : Granted) (r : Remote) → IsVersion last version → Side last (remote_takes_grant version g r)
unfolding remote_takes_grant
granted_numbered last version g r v = granted_over last version g r.copy v

due_same : (version : ℕ) (yields : Bool) (r : Remote) → (with_due version yields r).copy ≡ r.copy
due_same version yields r = cond_both (is_newer version r.due) _ _ (λ (x : Remote). x.copy ≡ r.copy) (λ w. refl) (λ w. refl)

notes_same : (version : ℕ) (yields : Bool) (o : Option Bool) (r : Remote) → (notes_due version yields o r).copy ≡ r.copy
notes_same version yields None r = refl
notes_same version yields (Some w) r = due_same version yields r

notes_numbered : (last version : ℕ) (yields : Bool) (o : Option Bool) (r : Remote) → Side last r → Side last (notes_due version yields o r)
notes_numbered last version yields o r s = subst (CopyNumbered last) (sym (notes_same version yields o r)) s

overtaken : (last version old : ℕ) (yields : Bool) (r : Remote) → Side last r → SideNumbered last (overtakes version old yields r)
overtaken last version old yields r s = record { copy = cond_both (nat_lt old version) _ _ (Side last) (λ w. notes_numbered last version yields r.asking r s) (λ w. s); posts = tt }

recall_numbered_in : (last : ℕ) (s : Section) (c : Copy) (r : Remote) → IsVersion last c.version → Side last r → SideNumbered last (recall_in s c r)
recall_numbered_in last section.Closed c r v s = back_numbered last c r v
recall_numbered_in last (section.Reading k) c r v s = record { copy = s; posts = tt }
recall_numbered_in last section.Writing c r v s = record { copy = s; posts = tt }

recall_numbered_over : (last version : ℕ) (o : Option Copy) (r : Remote) → CopyNumbered last o → Side last r → SideNumbered last (recall_over version o r)
recall_numbered_over last version None r o s = record { copy = notes_numbered last version false r.asking r s; posts = tt }
recall_numbered_over last version (Some c) r o s =
    cond_both (version == c.version) _ _ (SideNumbered last) (λ w. recall_numbered_in last r.here c r o s) (λ w. overtaken last version c.version false r s)

pub recall_numbered : (last version : ℕ) (r : Remote) → Side last r → SideNumbered last (remote_takes_recall version r)
unfolding remote_takes_recall
recall_numbered last version r s = recall_numbered_over last version r.copy r s s

yield_numbered_in : (last : ℕ) (s : Section) (c : Copy) (r : Remote) → IsVersion last c.version → Side last r → SideNumbered last (yield_in s c r)
yield_numbered_in last section.Closed c r v s = lowers_numbered last c r v
yield_numbered_in last (section.Reading k) c r v s = lowers_numbered last c r v
yield_numbered_in last section.Writing c r v s = record { copy = s; posts = tt }

yield_numbered_over : (last version : ℕ) (o : Option Copy) (r : Remote) → CopyNumbered last o → Side last r → SideNumbered last (yield_over version o r)
yield_numbered_over last version None r o s = record { copy = notes_numbered last version true r.asking r s; posts = tt }
yield_numbered_over last version (Some c) r o s =
    cond_both ((version == c.version) && c.exclusive) _ _ (SideNumbered last) (λ w. yield_numbered_in last r.here c r o s) (λ w. overtaken last version c.version true r s)

pub yield_numbered : (last version : ℕ) (r : Remote) → Side last r → SideNumbered last (remote_takes_yield version r)
unfolding remote_takes_yield
yield_numbered last version r s = yield_numbered_over last version r.copy r s s

leaves_numbered : (last : ℕ) (o : Option Copy) (r : Remote) → CopyNumbered last o → SideNumbered last (leaves_over o r)
leaves_numbered last None r o = record { copy = tt; posts = tt }
leaves_numbered last (Some c) r o = back_numbered last c r o

lowered_numbered : (last : ℕ) (o : Option Copy) (r : Remote) → CopyNumbered last o → Side last r → SideNumbered last (lowers_over o r)
lowered_numbered last None r o s = record { copy = s; posts = tt }
lowered_numbered last (Some c) r o s = lowers_numbered last c r o

pub side_read_numbered : (last : ℕ) (r : Remote) → Side last r → SideNumbered last (remote_ends_read r)
unfolding remote_ends_read
side_read_numbered last r s =
    let after : Remote = record r { here = one_section_less r.here } in
    cond_both (is_closed after.here && after.leaving) (leaves_over after.copy after) (sends_nothing after) (λ (x : RemoteStep). SideNumbered last x) (λ w. leaves_numbered last after.copy after s) (λ w. record { copy = s; posts = tt })

written_numbered : (last : ℕ) (bytes : List ℕ) (o : Option Copy) → CopyNumbered last o → CopyNumbered last (with_written bytes o)
written_numbered last bytes None n = tt
written_numbered last bytes (Some c) n = n

pub side_write_numbered : (last : ℕ) (bytes : List ℕ) (r : Remote) → Side last r → SideNumbered last (remote_ends_write bytes r)
unfolding remote_ends_write
side_write_numbered last bytes r s =
    let n = written_numbered last bytes r.copy s in
    cond_both r.leaving _ _ (SideNumbered last) (λ w. leaves_numbered last (with_written bytes r.copy) _ n)
    (λ w. cond_both r.lowering _ _ (SideNumbered last) (λ w. lowered_numbered last (with_written bytes r.copy) _ n n) (λ w. record { copy = n; posts = tt }))

pub flush_numbered : (last : ℕ) (r : Remote) → Side last r → SideNumbered last (remote_flushes r)
unfolding remote_flushes
flush_numbered last r s = go r.copy s
  where
    go : (o : Option Copy) → CopyNumbered last o → SideNumbered last (flushes_over o r)
    go None o = record { copy = s; posts = tt }
    go (Some c) o = back_numbered last c r o
