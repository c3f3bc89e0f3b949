-- What a step of a home, or of another node's side, leaves are bytes: in the table, in the copy and in mail.
use Rattle.std.proofs.Common.{ℕ, ◌+◌, ◌==◌, nat_lt, Bool, true, false, not, ◌&&◌, ◌||◌, None, Some, Option, List, [], ◌∷◌, ◌++◌, if◌then◌else◌}
use Rattle.std.specs.List.{AllByRecursion}
use Rattle.std.proofs.lemmas.Bool.{cond_both}
use Rattle.crl_model.specs.declared.directory.Section.{Section}
use Rattle.crl_model.specs.declared.directory.Section.TheVariants as section
use Rattle.crl_model.specs.declared.directory.Asked.{Asked}
use Rattle.crl_model.specs.declared.directory.Listing.{Listing}
use Rattle.crl_model.specs.declared.message.Granted.{Granted}
use Rattle.crl_model.specs.declared.message.Granted.TheVariants.{Shared, Exclusive, Upgrade}
use Rattle.crl_protocol.specs.Places.{at, put}
use Rattle.crl_protocol.specs.Mail.{Mail, Grant, Recall, Yield, Return, Release, Letter}
use Rattle.crl_protocol.specs.Home.{Home, HomeStep, is_servable, is_to_mark, with_marks, recalls_and_yields, grant_to, open_own, grant_next, grant_for, posts_first, opens_own_section, serve, home_takes_ask, home_takes_return, home_takes_release, is_to_lower, bytes_after, shared_listing, own_ask, is_empty, is_reading, home_starts, one_section_less, home_ends_read, home_ends_write}
use Rattle.crl_protocol.specs.Remote.{Copy, Remote, RemoteStep, is_closed, gives_back, lowers, starts_over, remote_starts, copy_after_grant, remote_takes_grant, recall_in, recall_over, remote_takes_recall, yield_in, yield_over, remote_takes_yield, leaves_over, lowers_over, sends_nothing, remote_ends_read, with_written, remote_ends_write, flushes_over, remote_flushes, overtakes, notes_due, is_newer}
use Rattle.crl_frames.specs.Frames.{AreBytes}
use Rattle.crl_frames.proofs.Folds.{Given}

abbrev pub GrantBytes : Granted → Type 0
GrantBytes (Shared bytes) = AreBytes bytes
GrantBytes (Exclusive bytes) = AreBytes bytes
GrantBytes Upgrade = Unit {0}

abbrev pub MailBytes : Mail → Type 0
MailBytes (Grant version granted) = GrantBytes granted
MailBytes (Return version bytes) = Given AreBytes bytes
MailBytes (Release version bytes) = AreBytes bytes
MailBytes _ = Unit {0}

abbrev pub CopyBytes : Option Copy → Type 0
CopyBytes o = Given (λ (c : Copy). AreBytes c.bytes) o

abbrev LetterBytes : Letter → Type 0
LetterBytes l = MailBytes l.mail

pub record HomeBytes (s : HomeStep) : Type 0 where
  pub table : AreBytes s.home.bytes
  pub posts : AllByRecursion LetterBytes s.posts

-- A home.
granted_bytes : (o : Option Listing) (ask : Asked) (bytes : List ℕ) → AreBytes bytes → GrantBytes (grant_to o ask bytes)
granted_bytes o ask bytes h = cond_both ask.write _ _ GrantBytes (λ w. over o) (λ w. h)
  where
    over : (o : Option Listing) → GrantBytes (elim o [ None ↦ Exclusive bytes | Some copy ↦ Upgrade ])
    over None = h
    over (Some copy) = tt

call_bytes : (version : ℕ) (write : Bool) → MailBytes (if write then Recall version else Yield version)
call_bytes version true = tt
call_bytes version false = tt

calls_bytes : (m : ℕ) (listed : List (Option Listing)) (ask : Asked) → AllByRecursion LetterBytes (recalls_and_yields m listed ask)
calls_bytes m [] ask = tt
calls_bytes m (None ∷ listed) ask = calls_bytes (m + 1) listed ask
calls_bytes m (Some copy ∷ listed) ask =
    let rest = calls_bytes (m + 1) listed ask in cond_both (is_to_mark m copy ask) _ _ (AllByRecursion LetterBytes) (λ w. (call_bytes copy.version ask.write, rest)) (λ w. rest)

serve_bytes : (me : ℕ) (h : Home) (queue : List Asked) → AreBytes h.bytes → HomeBytes (serve me h queue)
serve_bytes me h [] b = record { table = b; posts = tt }
serve_bytes me h (ask ∷ queue) b = go (is_servable h ask) (ask.node == me) (serve_bytes me (open_own h ask) queue b) (serve_bytes me (grant_next h ask) queue b)
  where
    go : (servable own : Bool) → HomeBytes (serve me (open_own h ask) queue) → HomeBytes (serve me (grant_next h ask) queue)
        → HomeBytes (if servable then (if own then opens_own_section (serve me (open_own h ask) queue) else posts_first (grant_for h ask) (serve me (grant_next h ask) queue))
        else record { home = record h { listed = with_marks 0 h.listed ask; queue = ask ∷ queue }; posts = recalls_and_yields 0 h.listed ask; opened = false })
    go true true x y = record { table = x.table; posts = x.posts }
    go true false x y = record { table = y.table; posts = (granted_bytes (at ask.node h.listed) ask h.bytes b, y.posts) }
    go false own x y = record { table = b; posts = calls_bytes 0 h.listed ask }

pub asked_bytes : (me : ℕ) (ask : Asked) (h : Home) → AreBytes h.bytes → HomeBytes (home_takes_ask me ask h)
unfolding home_takes_ask
asked_bytes me ask h b = serve_bytes me h (h.queue ++ ask ∷ []) b

pub news : (o : Option (List ℕ)) (old : List ℕ) → Given AreBytes o → AreBytes old → AreBytes (bytes_after o old)
news None old o h = h
news (Some bytes) old o h = o

pub returned_bytes : (me n : ℕ) (bytes : Option (List ℕ)) (h : Home) → Given AreBytes bytes → AreBytes h.bytes → HomeBytes (home_takes_return me n bytes h)
unfolding home_takes_return
returned_bytes me n bytes h g b = serve_bytes me (record h { bytes = bytes_after bytes h.bytes; listed = put n None h.listed }) h.queue (news bytes h.bytes g b)

pub released_bytes : (me n version : ℕ) (bytes : List ℕ) (h : Home) → AreBytes bytes → AreBytes h.bytes → HomeBytes (home_takes_release me n version bytes h)
unfolding home_takes_release
released_bytes me n version bytes h g b =
    cond_both (is_to_lower version (at n h.listed)) _ _ HomeBytes (λ w. serve_bytes me (record h { bytes = bytes; listed = put n (Some (shared_listing version)) h.listed }) h.queue g) (λ w. record { table = b; posts = tt })

pub started_bytes : (me : ℕ) (write : Bool) (h : Home) → AreBytes h.bytes → HomeBytes (home_starts me write h)
unfolding home_starts
started_bytes me write h b =
    cond_both (not write && is_reading h.mine) _ _ HomeBytes (λ w. record { table = b; posts = tt })
    (λ w. cond_both (is_empty h.queue && is_servable h (own_ask me write)) _ _ HomeBytes (λ w. record { table = b; posts = tt }) (λ w. serve_bytes me h (h.queue ++ own_ask me write ∷ []) b))

pub read_bytes : (me : ℕ) (h : Home) → AreBytes h.bytes → HomeBytes (home_ends_read me h)
unfolding home_ends_read
read_bytes me h b = serve_bytes me (record h { mine = one_section_less h.mine }) h.queue b

pub write_bytes : (me : ℕ) (bytes : List ℕ) (h : Home) → AreBytes bytes → HomeBytes (home_ends_write me bytes h)
unfolding home_ends_write
write_bytes me bytes h b = serve_bytes me (record h { bytes = bytes; mine = section.Closed }) h.queue b

-- Another node's side.
pub record SideBytes (s : RemoteStep) : Type 0 where
  pub copy : CopyBytes s.remote.copy
  pub posts : AllByRecursion MailBytes s.posts

back_bytes : (c : Copy) (r : Remote) → AreBytes c.bytes → SideBytes (gives_back c r)
back_bytes c r b = record { copy = tt; posts = (cond_both (c.exclusive || r.given) _ _ (Given AreBytes) (λ w. b) (λ w. tt), tt) }

lowers_bytes : (c : Copy) (r : Remote) → AreBytes c.bytes → SideBytes (lowers c r)
lowers_bytes c r b = record { copy = b; posts = (b, tt) }

same_bytes : (r : Remote) → CopyBytes r.copy → SideBytes (sends_nothing r)
same_bytes r b = record { copy = b; posts = tt }

pub starts_bytes : (write : Bool) (r : Remote) → CopyBytes r.copy → SideBytes (remote_starts write r)
unfolding remote_starts
starts_bytes write r b = go r.copy
  where
    go : (o : Option Copy) → SideBytes (starts_over write o r)
    go None = record { copy = b; posts = (tt, tt) }
    go (Some c) =
        cond_both (not write) _ _ SideBytes (λ w. record { copy = b; posts = tt })
        (λ w. cond_both c.exclusive _ _ SideBytes (λ w. record { copy = b; posts = tt }) (λ w. record { copy = b; posts = (tt, tt) }))

over_bytes : (version : ℕ) (g : Granted) (o : Option Copy) → GrantBytes g → CopyBytes o → CopyBytes (copy_after_grant version g o)
over_bytes version (Shared bytes) o g b = g
over_bytes version (Exclusive bytes) o g b = g
over_bytes version Upgrade None g b = tt
over_bytes version Upgrade (Some c) g b = b

pub takes_bytes : (version : ℕ) (g : Granted) (r : Remote) → GrantBytes g → CopyBytes r.copy → CopyBytes (remote_takes_grant version g r).copy
unfolding remote_takes_grant
takes_bytes version g r f b = over_bytes version g r.copy f b

notes_bytes : (version : ℕ) (yields : Bool) (o : Option Bool) (r : Remote) → CopyBytes r.copy → CopyBytes (notes_due version yields o r).copy
notes_bytes version yields None r b = b
notes_bytes version yields (Some w) r b = cond_both (is_newer version r.due) _ _ (λ (x : Remote). CopyBytes x.copy) (λ w. b) (λ w. b)

overtaken : (version old : ℕ) (yields : Bool) (r : Remote) → CopyBytes r.copy → SideBytes (overtakes version old yields r)
overtaken version old yields r b = record { copy = cond_both (nat_lt old version) _ _ (λ (x : Remote). CopyBytes x.copy) (λ w. notes_bytes version yields r.asking r b) (λ w. b); posts = tt }

recall_bytes_in : (s : Section) (c : Copy) (r : Remote) → AreBytes c.bytes → CopyBytes r.copy → SideBytes (recall_in s c r)
recall_bytes_in section.Closed c r v b = back_bytes c r v
recall_bytes_in (section.Reading k) c r v b = record { copy = b; posts = tt }
recall_bytes_in section.Writing c r v b = record { copy = b; posts = tt }

recall_bytes_over : (version : ℕ) (o : Option Copy) (r : Remote) → CopyBytes o → CopyBytes r.copy → SideBytes (recall_over version o r)
recall_bytes_over version None r o b = record { copy = notes_bytes version false r.asking r b; posts = tt }
recall_bytes_over version (Some c) r o b = cond_both (version == c.version) _ _ SideBytes (λ w. recall_bytes_in r.here c r o b) (λ w. overtaken version c.version false r b)

pub recall_bytes : (version : ℕ) (r : Remote) → CopyBytes r.copy → SideBytes (remote_takes_recall version r)
unfolding remote_takes_recall
recall_bytes version r b = recall_bytes_over version r.copy r b b

yield_bytes_in : (s : Section) (c : Copy) (r : Remote) → AreBytes c.bytes → CopyBytes r.copy → SideBytes (yield_in s c r)
yield_bytes_in section.Closed c r v b = lowers_bytes c r v
yield_bytes_in (section.Reading k) c r v b = lowers_bytes c r v
yield_bytes_in section.Writing c r v b = record { copy = b; posts = tt }

yield_bytes_over : (version : ℕ) (o : Option Copy) (r : Remote) → CopyBytes o → CopyBytes r.copy → SideBytes (yield_over version o r)
yield_bytes_over version None r o b = record { copy = notes_bytes version true r.asking r b; posts = tt }
yield_bytes_over version (Some c) r o b = cond_both ((version == c.version) && c.exclusive) _ _ SideBytes (λ w. yield_bytes_in r.here c r o b) (λ w. overtaken version c.version true r b)

pub yield_bytes : (version : ℕ) (r : Remote) → CopyBytes r.copy → SideBytes (remote_takes_yield version r)
unfolding remote_takes_yield
yield_bytes version r b = yield_bytes_over version r.copy r b b

leaves_bytes : (o : Option Copy) (r : Remote) → CopyBytes o → SideBytes (leaves_over o r)
leaves_bytes None r o = record { copy = tt; posts = tt }
leaves_bytes (Some c) r o = back_bytes c r o

lowered_bytes : (o : Option Copy) (r : Remote) → CopyBytes o → CopyBytes r.copy → SideBytes (lowers_over o r)
lowered_bytes None r o b = same_bytes r b
lowered_bytes (Some c) r o b = lowers_bytes c r o

pub side_read_bytes : (r : Remote) → CopyBytes r.copy → SideBytes (remote_ends_read r)
unfolding remote_ends_read
side_read_bytes r b =
    let after : Remote = record r { here = one_section_less r.here } in
    cond_both (is_closed after.here && after.leaving) (leaves_over after.copy after) (sends_nothing after) SideBytes (λ w. leaves_bytes after.copy after b) (λ w. same_bytes after b)

written_bytes : (bytes : List ℕ) (o : Option Copy) → AreBytes bytes → CopyBytes (with_written bytes o)
written_bytes bytes None b = tt
written_bytes bytes (Some c) b = b

pub side_write_bytes : (bytes : List ℕ) (r : Remote) → AreBytes bytes → SideBytes (remote_ends_write bytes r)
unfolding remote_ends_write
side_write_bytes bytes r b =
    let n = written_bytes bytes r.copy b in
    cond_both r.leaving _ _ SideBytes (λ w. leaves_bytes (with_written bytes r.copy) _ n)
    (λ w. cond_both r.lowering _ _ SideBytes (λ w. lowered_bytes (with_written bytes r.copy) _ n n) (λ w. record { copy = n; posts = tt }))

pub flush_bytes : (r : Remote) → CopyBytes r.copy → SideBytes (remote_flushes r)
unfolding remote_flushes
flush_bytes r b = go r.copy b
  where
    go : (o : Option Copy) → CopyBytes o → SideBytes (flushes_over o r)
    go None o = same_bytes r b
    go (Some c) o = back_bytes c r o
