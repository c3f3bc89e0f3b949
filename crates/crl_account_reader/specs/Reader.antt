-- Reading an account entry by entry: what a reader has before it, and what it has given.
use Rattle.std.specs.Prelude.{◌≡◌, ℕ, ◌+◌, ◌≤◌, List, [], ◌∷◌, ◌++◌, length, Option, Some, None, Result, Ok, Err, option_to_list}
use Rattle.crl_model.specs.declared.entry.Entry.{Entry}
use Rattle.crl_account.specs.declared.line.Stage.{Stage}
use Rattle.crl_account.specs.declared.line.Stage.TheVariants as stages
use Rattle.crl_account.specs.Account.{lines_of, IsAccount, AreRegions, AreStuck, IsFirstBad}
use Rattle.crl_account_reader.specs.declared.fault.AccountFault.{AccountFault}
use Rattle.crl_account_reader.specs.declared.fault.AccountFault.TheVariants as faults
use Rattle.crl_account_reader.specs.Unread.{Unread}

-- what may stand behind lines up to this stage, with these entries in it
abbrev pub IsBehind : Stage → List (List ℕ) → List Entry → Type 0
IsBehind stages.Entries rest entries = IsAccount rest entries
IsBehind stages.Regions rest [] = AreRegions rest
IsBehind stages.Regions rest (entry ∷ entries) = ⊥
IsBehind stages.Stuck rest [] = AreStuck rest
IsBehind stages.Stuck rest (entry ∷ entries) = ⊥
IsBehind stages.Counts [] [] = Unit {0}
IsBehind stages.Counts [] (entry ∷ entries) = ⊥
IsBehind stages.Counts (line ∷ rest) entries = ⊥

-- These lines are read: just what may stand behind them makes an account of them, with these entries in front.
pub record IsRead (done : List (List ℕ)) (given : List Entry) (stage : Stage) : Type 0 where
  pub to : (rest : List (List ℕ)) (entries : List Entry) → IsBehind stage rest entries → IsAccount (done ++ rest) (given ++ entries)
  pub from : (rest : List (List ℕ)) (all : List Entry) → IsAccount (done ++ rest) all → (entries : List Entry) × (all ≡ given ++ entries) × IsBehind stage rest entries

-- A reader of the text has read the lines before what is left, each of a byte at least, and has given the entries in them.
pub record HasGiven (text : List ℕ) (given : List Entry) (unread : Unread) : Type 0 where
  pub done : List (List ℕ)
  pub parts_are : lines_of text ≡ done ++ lines_of unread.bytes
  pub count : unread.number ≡ length done
  pub read : IsRead done given unread.stage
  pub within : unread.number + length unread.bytes ≤ length text

-- The text is an account of these entries, and of no others.
pub record IsWhole (text : List ℕ) (given : List Entry) : Type 0 where
  pub account : IsAccount (lines_of text) given
  pub only : (entries : List Entry) → IsAccount (lines_of text) entries → entries ≡ given

-- The line is the first of the text that fits no allowed place, and so the text is no account.
pub record IsBroken (text : List ℕ) (number : ℕ) : Type 0 where
  pub first : IsFirstBad (lines_of text) number
  pub none : (entries : List Entry) → IsAccount (lines_of text) entries → ⊥

-- what it says of a text of which these entries were given, and what it has given then
abbrev pub Gave : List ℕ → List Entry → Result (Option Entry) AccountFault → Unread → Type 0
Gave text given (Ok (Some entry)) later = HasGiven text (given ++ entry ∷ []) later
Gave text given (Ok None) later = HasGiven text given later × IsWhole text given
Gave text given (Err (faults.BadLine number)) later = HasGiven text given later × IsBroken text number
Gave text given (Err faults.OutOfMemory) later = HasGiven text given later

-- the same of one line, which may have no entry
abbrev pub GaveLine : List ℕ → List Entry → Result (Option Entry) AccountFault → Unread → Type 0
GaveLine text given (Ok entry) later = HasGiven text (given ++ option_to_list entry) later
GaveLine text given (Err (faults.BadLine number)) later = HasGiven text given later × IsBroken text number
GaveLine text given (Err faults.OutOfMemory) later = HasGiven text given later
