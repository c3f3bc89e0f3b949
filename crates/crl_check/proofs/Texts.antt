-- What is said of a text, from what is said of its entries.
use Rattle.std.proofs.Common.{◌≡◌, ℕ, ◌≤◌, List, length, Ok, Err, subst, arith}
use Rattle.std.specs.Prelude.{Result, OnOk}
use Rattle.crl_model.specs.declared.entry.Entry.{Entry}
use Rattle.crl_machine.specs.SingleMachine.{State}
use Rattle.crl_account.specs.Account.{lines_of, IsAccount, IsFirstBad}
use Rattle.crl_account_reader.specs.declared.fault.AccountFault.{AccountFault}
use Rattle.crl_account_reader.specs.declared.fault.AccountFault.TheVariants as account_faults
use Rattle.crl_account_reader.specs.Unread.{Unread}
use Rattle.crl_account_reader.specs.Reader.{HasGiven, IsWhole, Gave}
use Rattle.crl_check.specs.declared.fault.CheckFault.{CheckFault}
use Rattle.crl_check.specs.declared.fault.CheckFault.TheVariants as faults
use Rattle.crl_check.specs.declared.judge.Judge.{Judge}
use Rattle.crl_check.specs.Faults.{fault_of}
use Rattle.crl_check.specs.Histories.{SaysOf}
use Rattle.crl_check.specs.Accounts.{IsLegalText, IsIllegalText, SaysOfText}
use Rattle.crl_check.specs.Judging.{HasJudged}
use Rattle.crl_check.proofs.Prefixes.{illegal_inside}

-- the entries that the reader has given are judged
pub record SoFar (s : State) (text : List ℕ) (unread : Unread) (judge : Judge) : Type 0 where
  pub given : List Entry
  pub read : HasGiven text given unread
  pub judged : HasJudged s given judge

-- a fault of reading
pub says_fault : (s : State) (text : List ℕ) (given : List Entry) (fault : AccountFault) (later : Unread) → Gave text given (Err fault) later → SaysOfText s text (Err (fault_of fault))
says_fault s text given (account_faults.BadLine line) later h = h.1
says_fault s text given account_faults.OutOfMemory later h = tt

-- a text that is read to its end
pub says_whole : (s : State) (text : List ℕ) (given : List Entry) (r : Result (Unit {0}) CheckFault) → IsWhole text given → length given ≤ length text → SaysOf s given r → SaysOfText s text r
says_whole s text given (Ok unit) whole few says = record { entries = given; whole = whole; legal = says }
says_whole s text given (Err (faults.Illegal i)) whole few says =
    record { entries = given; whole = whole; first = says; inside = omega (arith, few, illegal_inside s given i says) }
says_whole s text given (Err (faults.BadLine line)) whole few says = absurd says
says_whole s text given (Err faults.OutOfMemory) whole few says = tt

-- ---- each answer by itself

pub text_legal : (s : State) (text : List ℕ) (r : Result (Unit {0}) CheckFault) → SaysOfText s text r → OnOk r (IsLegalText s text)
text_legal s text (Ok unit) h = h
text_legal s text (Err fault) h = tt

pub text_illegal : (s : State) (text : List ℕ) (r : Result (Unit {0}) CheckFault) → SaysOfText s text r → (i : ℕ) → r ≡ Err (faults.Illegal i) → IsIllegalText s text i
text_illegal s text r h i e = subst (λ (x : Result (Unit {0}) CheckFault). SaysOfText s text x) e h

pub text_bad : (s : State) (text : List ℕ) (r : Result (Unit {0}) CheckFault) → SaysOfText s text r → (line : ℕ) → r ≡ Err (faults.BadLine line) → IsFirstBad (lines_of text) line
text_bad s text r h line e = (subst (λ (x : Result (Unit {0}) CheckFault). SaysOfText s text x) e h).first

pub text_only : (s : State) (text : List ℕ) (r : Result (Unit {0}) CheckFault) → SaysOfText s text r → (entries : List Entry) → IsAccount (lines_of text) entries → SaysOf s entries r
text_only s text (Ok unit) h entries is = rw (h.whole.only entries is) h.legal
text_only s text (Err (faults.Illegal i)) h entries is = rw (h.whole.only entries is) h.first
text_only s text (Err (faults.BadLine line)) h entries is = h.none entries is
text_only s text (Err faults.OutOfMemory) h entries is = tt
