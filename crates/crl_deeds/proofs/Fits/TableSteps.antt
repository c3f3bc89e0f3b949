-- What the events of a region's home and of another node's side leave: sizes stay, and no asks are posted.
use Rattle.std.proofs.Common.{◌≡◌, ℕ, ◌+◌, ◌==◌, nat_lt, Bool, true, false, not, ◌&&◌, None, Some, Option, List, [], ◌∷◌, ◌++◌, length, if◌then◌else◌, refl, ap, ◌∙◌}
use Rattle.std.specs.Bool.{MatchBool}
use Rattle.std.proofs.lemmas.Bool.{and_parts, eqb-true, cond_both, MatchBool-at_true, MatchBool-at_false}
use Rattle.crl_model.specs.declared.directory.Section.{Section}
use Rattle.crl_model.specs.declared.directory.Section.TheVariants as section
use Rattle.crl_model.specs.declared.directory.Asked.{Asked}
use Rattle.crl_model.specs.declared.directory.Listing.{Listing}
use Rattle.crl_protocol.specs.Places.{at}
use Rattle.crl_protocol.specs.Home.{Home, HomeStep, is_servable, is_to_mark, recall_or_yield, recalls_and_yields, open_own, grant_next, grant_for, opens_own_section, posts_first, serve, with_marks, home_takes_ask, bytes_after, return_fits, bytes_fit, home_takes_return, is_to_lower, home_takes_release, release_fits, own_ask, is_empty, is_reading, home_starts, home_ends_read, home_ends_write, one_section_less}
use Rattle.crl_protocol.specs.Remote.{Copy, Remote, RemoteStep, remote_starts, starts_over, notes_due, is_newer, overtakes, recall_in, recall_over, remote_takes_recall, yield_in, yield_over, remote_takes_yield, leaves_over, lowers_over, is_closed, remote_ends_read, with_written, remote_ends_write, flushes_over, remote_flushes, gives_back, lowers, sends_nothing}
use Rattle.crl_deeds.specs.NodeFacts.{NoOwn, OneOwn, CopyFits}
use Rattle.crl_deeds.specs.TableFacts.{NoAsk, NoAsks, HomeGoes, HomeStarts, RemoteGoes, RemoteStarts}
use Rattle.crl_deeds.proofs.Chosen.Lists.{all_append}

pub no_is_one : (me : ℕ) (queue : List Asked) → NoOwn me queue → OneOwn me queue
no_is_one me [] h = tt
no_is_one me (ask ∷ queue) h = rw h.0 (no_is_one me queue h.1)

-- Serve, over a queue.
record Serves (me : ℕ) (h : Home) (queue : List Asked) (s : HomeStep) : Type 0 where
  size : s.home.size ≡ h.size
  bytes : s.home.bytes ≡ h.bytes
  mail : NoAsks s.posts
  none : NoOwn me queue → NoOwn me s.home.queue
  silent : NoOwn me queue → s.opened ≡ false
  one : OneOwn me queue → OneOwn me s.home.queue
  after : OneOwn me queue → s.opened ≡ true → NoOwn me s.home.queue

call_mail : (ask : Asked) (version m : ℕ) → NoAsk (recall_or_yield ask version m).mail
call_mail ask version m = cond_both ask.write _ _ NoAsk (λ w. tt) (λ w. tt)

calls_mail : (m : ℕ) (listed : List (Option Listing)) (ask : Asked) → NoAsks (recalls_and_yields m listed ask)
calls_mail m [] ask = tt
calls_mail m (None ∷ listed) ask = calls_mail (m + 1) listed ask
calls_mail m (Some copy ∷ listed) ask =
    cond_both (is_to_mark m copy ask) _ _ NoAsks (λ w. (call_mail ask copy.version m, calls_mail (m + 1) listed ask)) (λ w. calls_mail (m + 1) listed ask)

served_next : (me : ℕ) (h : Home) (ask : Asked) (queue : List Asked) (x y : HomeStep) (servable own : Bool) → (ask.node == me) ≡ own
    → Serves me (open_own h ask) queue x → Serves me (grant_next h ask) queue y
    → Serves me h (ask ∷ queue) (if servable then (if own then opens_own_section x else posts_first (grant_for h ask) y)
    else record { home = record h { listed = with_marks 0 h.listed ask; queue = ask ∷ queue }; posts = recalls_and_yields 0 h.listed ask; opened = false })
served_next me h ask queue x y true true e fx fy = record {
  size = fx.size;
  bytes = fx.bytes;
  mail = fx.mail;
  none = λ none. let w = none.0 in cc;
  silent = λ none. let w = none.0 in cc;
  one = λ one. no_is_one me x.home.queue (fx.none (MatchBool-at_true _ _ e one));
  after = λ one w. fx.none (MatchBool-at_true _ _ e one);
}
served_next me h ask queue x y true false e fx fy = record {
  size = fy.size;
  bytes = fy.bytes;
  mail = (tt, fy.mail);
  none = λ none. fy.none none.1;
  silent = λ none. fy.silent none.1;
  one = λ one. fy.one (MatchBool-at_false _ _ e one);
  after = λ one w. fy.after (MatchBool-at_false _ _ e one) w;
}
served_next me h ask queue x y false own e fx fy = record {
  size = refl;
  bytes = refl;
  mail = calls_mail 0 h.listed ask;
  none = λ none. none;
  silent = λ none. refl;
  one = λ one. one;
  after = λ one w. cc;
}

serves : (me : ℕ) (h : Home) (queue : List Asked) → Serves me h queue (serve me h queue)
serves me h [] = record { size = refl; bytes = refl; mail = tt; none = λ w. tt; silent = λ w. refl; one = λ w. tt; after = λ w e. tt }
serves me h (ask ∷ queue) =
    served_next me h ask queue (serve me (open_own h ask) queue) (serve me (grant_next h ask) queue) (is_servable h ask) (ask.node == me) refl
    (serves me (open_own h ask) queue) (serves me (grant_next h ask) queue)

-- An event at the home that isn't the start of one of its own sections.
goes : (me : ℕ) (h g : Home) (queue : List Asked) → g.size ≡ h.size → length g.bytes ≡ h.size → (NoOwn me h.queue → NoOwn me queue)
    → (OneOwn me h.queue → OneOwn me queue) → HomeGoes me h (serve me g queue)
goes me h g queue e b none one =
    let f = serves me g queue in record {
      size = f.size ∙ e;
      bytes = ap (λ xs. length xs) f.bytes ∙ b;
      mail = f.mail;
      none = λ w. f.none (none w);
      silent = λ w. f.silent (none w);
      one = λ w. f.one (one w);
      after = λ w o. f.after (one w) o;
    }

pub more_none : (me : ℕ) (queue : List Asked) (ask : Asked) → (ask.node == me) ≡ false → NoOwn me queue → NoOwn me (queue ++ ask ∷ [])
more_none me queue ask e h = all_append _ queue (ask ∷ []) h (e, tt)

both_ways : (b : Bool) (P Q R S : Type 0) → (P → R) → (Q → S) → MatchBool b P Q → MatchBool b R S
both_ways true P Q R S f g h = f h
both_ways false P Q R S f g h = g h

by_both : (b : Bool) (P Q : Type 0) → P → Q → MatchBool b P Q
by_both true P Q p q = p
by_both false P Q p q = q

more_one : (me : ℕ) (queue : List Asked) (ask : Asked) → (ask.node == me) ≡ false → OneOwn me queue → OneOwn me (queue ++ ask ∷ [])
more_one me [] ask e h = rw e tt
more_one me (x ∷ queue) ask e h = both_ways (x.node == me) _ _ _ _ (λ w. more_none me queue ask e w) (λ w. more_one me queue ask e w) h

-- no own ask, and one more
one_more_own : (me : ℕ) (queue : List Asked) (ask : Asked) → NoOwn me queue → OneOwn me (queue ++ ask ∷ [])
one_more_own me [] ask h = by_both (ask.node == me) _ _ tt tt
one_more_own me (x ∷ queue) ask h = rw h.0 (one_more_own me queue ask h.1)

pub asked_goes : (me : ℕ) (ask : Asked) (h : Home) → (ask.node == me) ≡ false → length h.bytes ≡ h.size → HomeGoes me h (home_takes_ask me ask h)
unfolding home_takes_ask
asked_goes me ask h e b = goes me h h (h.queue ++ ask ∷ []) refl b (more_none me h.queue ask e) (more_one me h.queue ask e)

after_length : (bytes : Option (List ℕ)) (old : List ℕ) (size : ℕ) (copy : Option Listing) → length old ≡ size → bytes_fit bytes copy size ≡ true
    → length (bytes_after bytes old) ≡ size
after_length None old size copy b f = b
after_length (Some bytes) old size copy b f = eqb-true (length bytes) size f

pub returned_goes : (me n version : ℕ) (bytes : Option (List ℕ)) (h : Home) → length h.bytes ≡ h.size → return_fits n version bytes h ≡ true
    → HomeGoes me h (home_takes_return me n bytes h)
unfolding home_takes_return
returned_goes me n version bytes h b f =
    goes me h _ h.queue refl (after_length bytes h.bytes h.size (at n h.listed) b (and_parts _ _ f).1) (λ w. w) (λ w. w)

pub released_goes : (me n version : ℕ) (bytes : List ℕ) (h : Home) → length h.bytes ≡ h.size → release_fits bytes h ≡ true → HomeGoes me h (home_takes_release me n version bytes h)
unfolding home_takes_release
released_goes me n version bytes h b f =
    cond_both (is_to_lower version (at n h.listed)) _ _ (HomeGoes me h) (λ w. goes me h _ h.queue refl (eqb-true (length bytes) h.size f) (λ w. w) (λ w. w))
    (λ w. record { size = refl; bytes = b; mail = tt; none = λ w. w; silent = λ w. refl; one = λ w. w; after = λ w e. cc })

pub read_goes : (me : ℕ) (h : Home) → length h.bytes ≡ h.size → HomeGoes me h (home_ends_read me h)
unfolding home_ends_read
read_goes me h b = goes me h _ h.queue refl b (λ w. w) (λ w. w)

pub write_goes : (me : ℕ) (bytes : List ℕ) (h : Home) → length bytes ≡ h.size → HomeGoes me h (home_ends_write me bytes h)
unfolding home_ends_write
write_goes me bytes h b = goes me h _ h.queue refl b (λ w. w) (λ w. w)

-- The start of an own section, where no own ask waits.
pub starts_fit : (me : ℕ) (write : Bool) (h : Home) → length h.bytes ≡ h.size → NoOwn me h.queue → HomeStarts me h (home_starts me write h)
unfolding home_starts
starts_fit me write h b none =
    let at_once : (section : Section) → HomeStarts me h (record { home = record h { mine = section }; posts = []; opened = true }) =
    λ section. record { size = refl; bytes = b; mail = tt; one = no_is_one me h.queue none; after = λ w. none } in
    let queued = serves me h (h.queue ++ own_ask me write ∷ []) in
    let last = one_more_own me h.queue (own_ask me write) none in
    cond_both (not write && is_reading h.mine) _ _ (HomeStarts me h) (λ w. at_once _)
    (λ w. cond_both (is_empty h.queue && is_servable h (own_ask me write)) _ _ (HomeStarts me h) (λ w. at_once _)
    (λ w. record { size = queued.size; bytes = ap (λ xs. length xs) queued.bytes ∙ b; mail = queued.mail; one = queued.one last; after = λ o. queued.after last o }))

-- An event at another node's side that isn't the start of a section.
still : (r : Remote) → CopyFits r.copy r.size → RemoteGoes r (sends_nothing r)
still r f = record { size = refl; bytes = f; asking = refl }

back : (copy : Copy) (r : Remote) → RemoteGoes r (gives_back copy r)
back copy r = record { size = refl; bytes = tt; asking = refl }

lower : (copy : Copy) (r : Remote) → length copy.bytes ≡ r.size → RemoteGoes r (lowers copy r)
lower copy r f = record { size = refl; bytes = f; asking = refl }

noted : (version : ℕ) (yields : Bool) (asking : Option Bool) (r : Remote) → CopyFits r.copy r.size → RemoteGoes r (sends_nothing (notes_due version yields asking r))
noted version yields None r f = still r f
noted version yields (Some write) r f =
    cond_both (is_newer version r.due) _ _ (λ x. RemoteGoes r (sends_nothing x)) (λ w. record { size = refl; bytes = f; asking = refl }) (λ w. still r f)

overtaken : (version old : ℕ) (yields : Bool) (r : Remote) → CopyFits r.copy r.size → RemoteGoes r (overtakes version old yields r)
overtaken version old yields r f = cond_both (nat_lt old version) _ _ (λ x. RemoteGoes r (sends_nothing x)) (λ w. noted version yields r.asking r f) (λ w. still r f)

recall_in_fits : (here : Section) (copy : Copy) (r : Remote) → CopyFits r.copy r.size → RemoteGoes r (recall_in here copy r)
recall_in_fits section.Closed copy r f = back copy r
recall_in_fits (section.Reading count) copy r f = record { size = refl; bytes = f; asking = refl }
recall_in_fits section.Writing copy r f = record { size = refl; bytes = f; asking = refl }

recall_over_fits : (version : ℕ) (copy : Option Copy) (r : Remote) → CopyFits r.copy r.size → RemoteGoes r (recall_over version copy r)
recall_over_fits version None r f = noted version false r.asking r f
recall_over_fits version (Some copy) r f =
    cond_both (version == copy.version) _ _ (RemoteGoes r) (λ w. recall_in_fits r.here copy r f) (λ w. overtaken version copy.version false r f)

pub recalled_goes : (version : ℕ) (r : Remote) → CopyFits r.copy r.size → RemoteGoes r (remote_takes_recall version r)
unfolding remote_takes_recall
recalled_goes version r f = recall_over_fits version r.copy r f

yield_in_fits : (here : Section) (copy : Copy) (r : Remote) → CopyFits r.copy r.size → length copy.bytes ≡ r.size → RemoteGoes r (yield_in here copy r)
yield_in_fits section.Closed copy r f g = lower copy r g
yield_in_fits (section.Reading count) copy r f g = lower copy r g
yield_in_fits section.Writing copy r f g = record { size = refl; bytes = f; asking = refl }

yield_over_fits : (version : ℕ) (copy : Option Copy) (r : Remote) → CopyFits r.copy r.size → CopyFits copy r.size → RemoteGoes r (yield_over version copy r)
yield_over_fits version None r f g = noted version true r.asking r f
yield_over_fits version (Some copy) r f g =
    cond_both ((version == copy.version) && copy.exclusive) _ _ (RemoteGoes r) (λ w. yield_in_fits r.here copy r f g) (λ w. overtaken version copy.version true r f)

pub yields_goes : (version : ℕ) (r : Remote) → CopyFits r.copy r.size → RemoteGoes r (remote_takes_yield version r)
unfolding remote_takes_yield
yields_goes version r f = yield_over_fits version r.copy r f f

leave_over : (copy : Option Copy) (r : Remote) → RemoteGoes r (leaves_over copy r)
leave_over None r = record { size = refl; bytes = tt; asking = refl }
leave_over (Some copy) r = back copy r

lower_over : (copy : Option Copy) (r : Remote) → CopyFits r.copy r.size → CopyFits copy r.size → RemoteGoes r (lowers_over copy r)
lower_over None r f g = still r f
lower_over (Some copy) r f g = lower copy r g

-- the step began with a part of it changed
as_before : (r q : Remote) (s : RemoteStep) → q.size ≡ r.size → q.asking ≡ r.asking → RemoteGoes q s → RemoteGoes r s
as_before r q s e a g = record { size = g.size ∙ e; bytes = rw (← e) g.bytes; asking = g.asking ∙ a }

pub read_ends : (r : Remote) → CopyFits r.copy r.size → RemoteGoes r (remote_ends_read r)
unfolding remote_ends_read
read_ends r f =
    let after : Remote = record r { here = one_section_less r.here } in
    cond_both (is_closed after.here && after.leaving) _ _ (RemoteGoes r) (λ w. as_before r after _ refl refl (leave_over r.copy after))
    (λ w. as_before r after _ refl refl (still after f))

written_fits : (bytes : List ℕ) (copy : Option Copy) (size : ℕ) → length bytes ≡ size → CopyFits (with_written bytes copy) size
written_fits bytes None size e = tt
written_fits bytes (Some copy) size e = e

pub write_ends : (bytes : List ℕ) (r : Remote) → length bytes ≡ r.size → RemoteGoes r (remote_ends_write bytes r)
unfolding remote_ends_write
write_ends bytes r e =
    let after : Remote = record r { here = section.Closed; copy = with_written bytes r.copy } in
    let f = written_fits bytes r.copy r.size e in
    cond_both r.leaving _ _ (RemoteGoes r) (λ w. as_before r after _ refl refl (leave_over after.copy after))
    (λ w. cond_both r.lowering _ _ (RemoteGoes r) (λ w. as_before r after _ refl refl (lower_over after.copy after f f))
    (λ w. as_before r after _ refl refl (still after f)))

flush_over : (copy : Option Copy) (r : Remote) → CopyFits r.copy r.size → RemoteGoes r (flushes_over copy r)
flush_over None r f = still r f
flush_over (Some copy) r f = back copy r

pub flushes_goes : (r : Remote) → CopyFits r.copy r.size → RemoteGoes r (remote_flushes r)
unfolding remote_flushes
flushes_goes r f = flush_over r.copy r f

-- The start of a section at another node's side: it opens over the copy, or the node asks.
start_over : (write : Bool) (copy : Option Copy) (r : Remote) → r.copy ≡ copy → RemoteStarts r (starts_over write copy r)
start_over write None r e = record { size = refl; copy = refl; asking = λ w. cc; bytes = λ w. cc }
start_over false (Some copy) r e = record { size = refl; copy = refl; asking = λ w. refl; bytes = λ w. (copy, e) }
start_over true (Some copy) r e =
    cond_both copy.exclusive _ _ (RemoteStarts r) (λ w. record { size = refl; copy = refl; asking = λ o. refl; bytes = λ o. (copy, e) })
    (λ w. record { size = refl; copy = refl; asking = λ o. cc; bytes = λ o. cc })

pub remote_start : (write : Bool) (r : Remote) → RemoteStarts r (remote_starts write r)
unfolding remote_starts
remote_start write r = start_over write r.copy r refl
