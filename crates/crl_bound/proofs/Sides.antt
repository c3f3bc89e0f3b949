-- What a node's copy of another node's region may make it send.
use Rattle.std.proofs.Common.{◌≡◌, ℕ, ◌+◌, ◌*◌, ◌≤◌, ◌==◌, nat_lt, Bool, true, false, ◌&&◌, ◌||◌, None, Some, Option, List, length, if◌then◌else◌, refl, ap, sym, ◌∙◌, arith}
use Rattle.std.proofs.lemmas.Bool.{cond_both, and_parts, cond-true}
use Rattle.crl_model.specs.declared.directory.Section.{Section}
use Rattle.crl_model.specs.declared.directory.Section.TheVariants as section
use Rattle.crl_model.specs.declared.message.Granted.{Granted}
use Rattle.crl_model.specs.declared.message.Granted.TheVariants.{Shared, Exclusive, Upgrade}
use Rattle.crl_pieces.specs.Pieces.{count}
use Rattle.crl_protocol.specs.Home.{one_section_less}
use Rattle.crl_protocol.specs.Remote.{Copy, Remote, RemoteStep, sends_nothing, gives_back, lowers, remote_starts, starts_over, opens_here, asks_home, remote_takes_grant, copy_after_grant, notes_due, is_newer, overtakes, recall_in, recall_over, remote_takes_recall, yield_in, yield_over, remote_takes_yield, leaves_over, lowers_over, is_closed, remote_ends_read, with_written, remote_ends_write, flushes_over, remote_flushes}
use Rattle.crl_deeds.specs.NodeFacts.{CopyFits}
use Rattle.crl_bound.proofs.Costs.{count_some, mail_cost, mails_cost}

abbrev pub copy_credit : ℕ → Bool → Option Copy → ℕ
copy_credit p given None = 0
copy_credit p given (Some copy) = if copy.exclusive then 2 * p else if given then p else 1

abbrev pub side_credit : ℕ → Option Remote → ℕ
side_credit p None = 0
side_credit p (Some r) = copy_credit p r.given r.copy

abbrev pub SideCredit : ℕ → Remote → RemoteStep → ℕ → Type 0
SideCredit p r s more = side_credit p (Some s.remote) + mails_cost p s.posts ≤ side_credit p (Some r) + more

-- the copy goes back, and becomes a shared one
back : (p : ℕ) (copy : Copy) (r : Remote) → r.copy ≡ Some copy → count (length copy.bytes) ≡ p → SideCredit p r (gives_back copy r) 0
back p copy r is e = go copy.exclusive r.given refl refl
  where
    some : 1 ≤ p
    some = let s = count_some (length copy.bytes) in omega arith

    go : (exclusive given : Bool) → copy.exclusive ≡ exclusive → r.given ≡ given → SideCredit p r (gives_back copy r) 0
    go exclusive given w v =
        let had : side_credit p (Some r) ≡ (if exclusive then 2 * p else if given then p else 1) = ap (copy_credit p r.given) is ∙ ap (λ b. if b then 2 * p else if r.given then p else 1) w ∙ ap (λ b. if exclusive then 2 * p else if b then p else 1) v in
        let sent : mails_cost p (gives_back copy r).posts ≡ mail_cost p (Rattle.crl_protocol.specs.Mail.Return copy.version (if exclusive || given then Some copy.bytes else None)) + 0 = ap (λ b. mail_cost p (Rattle.crl_protocol.specs.Mail.Return copy.version (if b then Some copy.bytes else None)) + 0) (ap (λ b. b || r.given) w ∙ ap (λ b. exclusive || b) v) in
        by exclusive given had sent
      where
        by : (exclusive given : Bool) → side_credit p (Some r) ≡ (if exclusive then 2 * p else if given then p else 1) → mails_cost p (gives_back copy r).posts ≡ mail_cost p (Rattle.crl_protocol.specs.Mail.Return copy.version (if exclusive || given then Some copy.bytes else None)) + 0
            → SideCredit p r (gives_back copy r) 0
        by true given had sent = omega (arith, some, e, had, sent)
        by false true had sent = omega (arith, some, e, had, sent)
        by false false had sent = omega (arith, some, e, had, sent)

lower : (p : ℕ) (copy : Copy) (r : Remote) → r.copy ≡ Some copy → copy.exclusive ≡ true → count (length copy.bytes) ≡ p → SideCredit p r (lowers copy r) 0
lower p copy r is w e =
    let had : side_credit p (Some r) ≡ 2 * p = ap (copy_credit p r.given) is ∙ cond-true copy.exclusive _ _ w in omega arith

copy_pieces : (size p : ℕ) (copy : Copy) → CopyFits (Some copy) size → p ≡ count size → count (length copy.bytes) ≡ p
copy_pieces size p copy f e = ap count f ∙ sym e

-- of a copy that there is
abbrev OfCopy : ℕ → Remote → (Option Copy → RemoteStep) → Type 0
OfCopy p r step = (o : Option Copy) → r.copy ≡ o → CopyFits o r.size → SideCredit p r (step o) 0

same_due : (p version : ℕ) (yields : Bool) (asking : Option Bool) (r : Remote) → side_credit p (Some (notes_due version yields asking r)) ≡ side_credit p (Some r)
same_due p version yields None r = refl
same_due p version yields (Some write) r = cond_both (is_newer version r.due) _ _ (λ x. side_credit p (Some x) ≡ side_credit p (Some r)) (λ w. refl) (λ w. refl)

overtaken : (p version old : ℕ) (yields : Bool) (r : Remote) → SideCredit p r (overtakes version old yields r) 0
overtaken p version old yields r =
    cond_both (nat_lt old version) _ _ (λ x. SideCredit p r (sends_nothing x) 0) (λ w. let e = same_due p version yields r.asking r in omega arith) (λ w. omega arith)

pub recall_credits : (p version : ℕ) (r : Remote) → CopyFits r.copy r.size → p ≡ count r.size → SideCredit p r (remote_takes_recall version r) 0
unfolding remote_takes_recall
recall_credits p version r f e = go r.copy refl f
  where
    in_section : (here : Section) (copy : Copy) → r.copy ≡ Some copy → count (length copy.bytes) ≡ p → SideCredit p r (recall_in here copy r) 0
    in_section section.Closed copy is b = back p copy r is b
    in_section (section.Reading k) copy is b = omega arith
    in_section section.Writing copy is b = omega arith

    go : OfCopy p r (λ o. recall_over version o r)
    go None is f = let d = same_due p version false r.asking r in omega arith
    go (Some copy) is f =
        cond_both (version == copy.version) _ _ (λ s. SideCredit p r s 0) (λ w. in_section r.here copy is (copy_pieces r.size p copy f e)) (λ w. overtaken p version copy.version false r)

pub yield_credits : (p version : ℕ) (r : Remote) → CopyFits r.copy r.size → p ≡ count r.size → SideCredit p r (remote_takes_yield version r) 0
unfolding remote_takes_yield
yield_credits p version r f e = go r.copy refl f
  where
    in_section : (here : Section) (copy : Copy) → r.copy ≡ Some copy → copy.exclusive ≡ true → count (length copy.bytes) ≡ p → SideCredit p r (yield_in here copy r) 0
    in_section section.Closed copy is w b = lower p copy r is w b
    in_section (section.Reading k) copy is w b = lower p copy r is w b
    in_section section.Writing copy is w b = omega arith

    go : OfCopy p r (λ o. yield_over version o r)
    go None is f = let d = same_due p version true r.asking r in omega arith
    go (Some copy) is f =
        cond_both ((version == copy.version) && copy.exclusive) _ _ (λ s. SideCredit p r s 0) (λ w. in_section r.here copy is (and_parts _ _ w).1 (copy_pieces r.size p copy f e)) (λ w. overtaken p version copy.version true r)

pub flush_credits : (p : ℕ) (r : Remote) → CopyFits r.copy r.size → p ≡ count r.size → SideCredit p r (remote_flushes r) 0
unfolding remote_flushes
flush_credits p r f e = go r.copy refl f
  where
    go : OfCopy p r (λ o. flushes_over o r)
    go None is f = omega arith
    go (Some copy) is f = back p copy r is (copy_pieces r.size p copy f e)

leave : (p : ℕ) (r : Remote) (o : Option Copy) → r.copy ≡ o → CopyFits o r.size → p ≡ count r.size → SideCredit p r (leaves_over o r) 0
leave p r None is f e = omega arith
leave p r (Some copy) is f e = back p copy r is (copy_pieces r.size p copy f e)

pub read_end_credits : (p : ℕ) (r : Remote) → CopyFits r.copy r.size → p ≡ count r.size → SideCredit p r (remote_ends_read r) 0
unfolding remote_ends_read
read_end_credits p r f e =
    let after : Remote = record r { here = one_section_less r.here } in
    cond_both (is_closed after.here && after.leaving) _ _ (λ s. SideCredit p r s 0) (λ w. leave p after after.copy refl f e) (λ w. omega arith)

-- who writes has an exclusive copy
abbrev pub IsExclusive : Option Copy → Type 0
IsExclusive None = Unit {0}
IsExclusive (Some copy) = copy.exclusive ≡ true

written_same : (p : ℕ) (given : Bool) (bytes : List ℕ) (o : Option Copy) → copy_credit p given (with_written bytes o) ≡ copy_credit p given o
written_same p given bytes None = refl
written_same p given bytes (Some copy) = refl

written_fits : (bytes : List ℕ) (o : Option Copy) (size : ℕ) → length bytes ≡ size → CopyFits (with_written bytes o) size
written_fits bytes None size e = tt
written_fits bytes (Some copy) size e = e

written_exclusive : (bytes : List ℕ) (o : Option Copy) → IsExclusive o → IsExclusive (with_written bytes o)
written_exclusive bytes None h = tt
written_exclusive bytes (Some copy) h = h

lower_over : (p : ℕ) (r : Remote) (o : Option Copy) → r.copy ≡ o → IsExclusive o → CopyFits o r.size → p ≡ count r.size → SideCredit p r (lowers_over o r) 0
lower_over p r None is w f e = omega arith
lower_over p r (Some copy) is w f e = lower p copy r is w (copy_pieces r.size p copy f e)

pub write_end_credits : (p : ℕ) (bytes : List ℕ) (r : Remote) → length bytes ≡ r.size → IsExclusive r.copy → p ≡ count r.size → SideCredit p r (remote_ends_write bytes r) 0
unfolding remote_ends_write
write_end_credits p bytes r b w e =
    let after : Remote = record r { here = section.Closed; copy = with_written bytes r.copy } in
    let same = written_same p r.given bytes r.copy in
    let f = written_fits bytes r.copy r.size b in
    cond_both r.leaving _ _ (λ s. SideCredit p r s 0) (λ x. let l = leave p after after.copy refl f e in omega arith)
    (λ x. cond_both r.lowering _ _ (λ s. SideCredit p r s 0) (λ y. let l = lower_over p after after.copy refl (written_exclusive bytes r.copy w) f e in omega arith) (λ y. omega arith))

-- a start opens, or sends an ask
pub start_credits : (p : ℕ) (write : Bool) (r : Remote) → SideCredit p r (remote_starts write r) (3 + p)
unfolding remote_starts
start_credits p write r = go write r.copy
  where
    go : (write : Bool) (o : Option Copy) → SideCredit p r (starts_over write o r) (3 + p)
    go write None = omega arith
    go false (Some copy) = omega arith
    go true (Some copy) = cond_both copy.exclusive _ _ (λ s. SideCredit p r s (3 + p)) (λ w. omega arith) (λ w. omega arith)

pub open_credits : (p : ℕ) (write : Bool) (r : Remote) → (remote_starts write r).opened ≡ true → SideCredit p r (remote_starts write r) 0
unfolding remote_starts
open_credits p write r opened = go write r.copy opened
  where
    go : (write : Bool) (o : Option Copy) → (starts_over write o r).opened ≡ true → SideCredit p r (starts_over write o r) 0
    go write None w = cc
    go false (Some copy) w = omega arith
    go true (Some copy) w = by copy.exclusive w
      where
        by : (b : Bool) → (if b then opens_here section.Writing r else asks_home true copy.version r).opened ≡ true → SideCredit p r (if b then opens_here section.Writing r else asks_home true copy.version r) 0
        by true w = omega arith
        by false w = cc

pub grant_credits : (p version : ℕ) (g : Granted) (r : Remote) → 1 ≤ p → side_credit p (Some (remote_takes_grant version g r)) ≤ 2 * p
unfolding remote_takes_grant
grant_credits p version (Shared bytes) r some = omega arith
grant_credits p version (Exclusive bytes) r some = omega arith
grant_credits p version Upgrade r some = go r.copy
  where
    go : (o : Option Copy) → copy_credit p false (copy_after_grant version Upgrade o) ≤ 2 * p
    go None = omega arith
    go (Some copy) = omega arith
