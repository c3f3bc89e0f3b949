-- Which copies stand in the way of an ask, and how they are called.
use Rattle.std.proofs.Common.{ℕ, zero, suc, ◌+◌, List, [], ◌∷◌, Bool, true, false, not, ◌&&◌, ◌≡◌, ◌<◌, if◌then◌else◌, refl, arith, ap, ap₂, ◌∙◌, add-zero}
use Rattle.std.specs.declared.option.Option.{Option}
use Rattle.std.specs.declared.option.Option.TheVariants.{None, Some}
use Rattle.crl_model.specs.declared.directory.Mark.{Mark}
use Rattle.crl_model.specs.declared.directory.Listing.{Listing}
use Rattle.crl_model.specs.declared.directory.Asked.{Asked}
use Rattle.crl_protocol.specs.Places.{at}
use Rattle.crl_protocol.specs.Mail.{Mail, Recall, Yield}
use Rattle.crl_protocol.specs.Home.{blocks, is_clear, is_to_mark, mark_for, recall_or_yield, with_marks, recalls_and_yields}
use Rattle.crl_coherence.specs.Region.{sent, flies}
use Rattle.crl_coherence.proofs.Lists.{picked_none, picked_some}
use Rattle.crl_coherence.proofs.Pairs.{mark, called}
use Rattle.crl_coherence.proofs.Mails.{mail_of, mails, mail_here, mail_other}

next : (k n : ℕ) → k + 1 + n ≡ k + suc n
next k n = omega arith

from_zero : (n : ℕ) → 0 + n ≡ n
from_zero n = omega arith

tail_of : (b c : Bool) → b && c ≡ true → c ≡ true
tail_of true c h = h
tail_of false c h = cc

head_of : (b c : Bool) → not b && c ≡ true → b ≡ false
head_of true c h = cc
head_of false c h = refl

-- where an ask is clear, no listed copy blocks it
clear_from : (k n : ℕ) (ls : List (Option Listing)) (a : Asked) (l : Listing) → is_clear k ls a ≡ true → at n ls ≡ Some l → blocks (k + n) l a ≡ false
clear_from k n [] a l h e = cc
clear_from k zero (None ∷ ls) a l h e = cc
clear_from k zero (Some x ∷ ls) a l h e = let f : x ≡ l = cc in rw (add-zero k, ← f) (head_of (blocks k x a) _ h)
clear_from k (suc n) (None ∷ ls) a l h e = rw (← (next k n)) (clear_from (k + 1) n ls a l h e)
clear_from k (suc n) (Some x ∷ ls) a l h e = rw (← (next k n)) (clear_from (k + 1) n ls a l (tail_of _ _ h) e)

pub clear_at : (n : ℕ) (ls : List (Option Listing)) (a : Asked) (l : Listing) → is_clear 0 ls a ≡ true → at n ls ≡ Some l → blocks n l a ≡ false
clear_at n ls a l h e = rw (from_zero n) at (clear_from 0 n ls a l h e)

-- where it isn't, one does
abbrev pub Blocker : ℕ → List (Option Listing) → Asked → Type 0
Blocker k ls a = (n : ℕ) × (l : Listing) × (at n ls ≡ Some l) × (blocks (k + n) l a ≡ true)

behind : (k : ℕ) (o : Option Listing) (ls : List (Option Listing)) (a : Asked) → Blocker (k + 1) ls a → Blocker k (o ∷ ls) a
behind k o ls a b = (suc b.0, b.1, b.2, (rw (next k b.0) at b.3))

blocker_from : (k : ℕ) (ls : List (Option Listing)) (a : Asked) → is_clear k ls a ≡ false → Blocker k ls a
blocker_from k [] a h = cc
blocker_from k (None ∷ ls) a h = behind k None ls a (blocker_from (k + 1) ls a h)
blocker_from k (Some l ∷ ls) a h = go (blocks k l a) refl h (λ e. blocker_from (k + 1) ls a e)
  where
    go : (b : Bool) → blocks k l a ≡ b → not b && is_clear (k + 1) ls a ≡ false → (is_clear (k + 1) ls a ≡ false → Blocker (k + 1) ls a) → Blocker k (Some l ∷ ls) a
    go true e f g = (zero, l, refl, (rw (add-zero k) e))
    go false e f g = behind k (Some l) ls a (g f)

pub blocker : (ls : List (Option Listing)) (a : Asked) → is_clear 0 ls a ≡ false → (n : ℕ) × (l : Listing) × (at n ls ≡ Some l) × (blocks n l a ≡ true)
blocker ls a h = let b = blocker_from 0 ls a h in (b.0, b.1, b.2, (rw (from_zero b.0) at b.3))

-- what is listed of a node after the copies in the way were called
marked_from : (k n : ℕ) (ls : List (Option Listing)) (a : Asked) → at n (with_marks k ls a) ≡ mark (k + n) (at n ls) a
marked_from k n [] a = refl
marked_from k zero (None ∷ ls) a = refl
marked_from k zero (Some l ∷ ls) a = rw (add-zero k) refl
marked_from k (suc n) (None ∷ ls) a = rw (← (next k n)) (marked_from (k + 1) n ls a)
marked_from k (suc n) (Some l ∷ ls) a = rw (← (next k n)) (marked_from (k + 1) n ls a)

pub at-marked : (n : ℕ) (ls : List (Option Listing)) (a : Asked) → at n (with_marks 0 ls a) ≡ mark n (at n ls) a
at-marked n ls a = rw (from_zero n) at (marked_from 0 n ls a)

-- a mark changes nothing of what a copy blocks
mark_blocks : (n : ℕ) (l : Listing) (b : Asked) (m : Mark) (c : Bool) → blocks n (if c then record l { mark = m } else l) b ≡ blocks n l b
mark_blocks n l b m true = refl
mark_blocks n l b m false = refl

clear_from-marked : (m : ℕ) (ls : List (Option Listing)) (a b : Asked) → is_clear m (with_marks m ls a) b ≡ is_clear m ls b
clear_from-marked m [] a b = refl
clear_from-marked m (None ∷ ls) a b = clear_from-marked (m + 1) ls a b
clear_from-marked m (Some l ∷ ls) a b = ap₂ (λ x y. not x && y) (mark_blocks m l b (mark_for a) (is_to_mark m l a)) (clear_from-marked (m + 1) ls a b)

pub clear-marked : (ls : List (Option Listing)) (a b : Asked) → is_clear 0 (with_marks 0 ls a) b ≡ is_clear 0 ls b
clear-marked ls a b = clear_from-marked 0 ls a b

-- the calls that one node gets
abbrev call_of : Asked → ℕ → Mail
call_of a version = if a.write then Recall version else Yield version

mails_none : (n k : ℕ) (ls : List (Option Listing)) (a : Asked) → n < k → mails n (sent (recalls_and_yields k ls a)) ≡ []
mails_none n k [] a h = refl
mails_none n k (None ∷ ls) a h = mails_none n (k + 1) ls a (omega arith)
mails_none n k (Some l ∷ ls) a h = go (is_to_mark k l a) (mails_none n (k + 1) ls a (omega arith))
  where
    go : (b : Bool) → mails n (sent (recalls_and_yields (k + 1) ls a)) ≡ [] → mails n (sent (if b then recall_or_yield a l.version k ∷ recalls_and_yields (k + 1) ls a else recalls_and_yields (k + 1) ls a)) ≡ []
    go true e = picked_none (mail_of n (flies k (call_of a l.version))) (mails n (sent (recalls_and_yields (k + 1) ls a))) (mail_other n k (call_of a l.version) (omega arith)) ∙ e
    go false e = e

mails_from : (k n : ℕ) (ls : List (Option Listing)) (a : Asked) → mails (k + n) (sent (recalls_and_yields k ls a)) ≡ called (k + n) (at n ls) a
mails_from k n [] a = refl
mails_from k zero (None ∷ ls) a = mails_none (k + 0) (k + 1) ls a (omega arith)
mails_from k (suc n) (None ∷ ls) a = rw (← (next k n)) (mails_from (k + 1) n ls a)
mails_from k zero (Some l ∷ ls) a = rw (add-zero k) (go (is_to_mark k l a) (mails_none k (k + 1) ls a (omega arith)))
  where
    go : (b : Bool) → mails k (sent (recalls_and_yields (k + 1) ls a)) ≡ [] → mails k (sent (if b then recall_or_yield a l.version k ∷ recalls_and_yields (k + 1) ls a else recalls_and_yields (k + 1) ls a)) ≡ (if b then call_of a l.version ∷ [] else [])
    go true e = picked_some (mail_of k (flies k (call_of a l.version))) (call_of a l.version) (mails k (sent (recalls_and_yields (k + 1) ls a))) (mail_here k (call_of a l.version)) ∙ ap (λ x. call_of a l.version ∷ x) e
    go false e = e
mails_from k (suc n) (Some l ∷ ls) a = rw (← (next k n)) (go (is_to_mark k l a) (mails_from (k + 1) n ls a))
  where
    go : (b : Bool) → mails (k + 1 + n) (sent (recalls_and_yields (k + 1) ls a)) ≡ called (k + 1 + n) (at n ls) a
        → mails (k + 1 + n) (sent (if b then recall_or_yield a l.version k ∷ recalls_and_yields (k + 1) ls a else recalls_and_yields (k + 1) ls a)) ≡ called (k + 1 + n) (at n ls) a
    go true e = picked_none (mail_of (k + 1 + n) (flies k (call_of a l.version))) (mails (k + 1 + n) (sent (recalls_and_yields (k + 1) ls a))) (mail_other (k + 1 + n) k (call_of a l.version) (omega arith)) ∙ e
    go false e = e

pub mails-calls : (n : ℕ) (ls : List (Option Listing)) (a : Asked) → mails n (sent (recalls_and_yields 0 ls a)) ≡ called n (at n ls) a
mails-calls n ls a = rw (from_zero n) at (mails_from 0 n ls a)
