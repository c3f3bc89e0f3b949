-- What a reader gives, line by line.
use Rattle.std.proofs.Common.{◌≡◌, ℕ, ◌+◌, ◌<◌, ◌≤◌, List, [], ◌∷◌, ◌++◌, length, Option, Some, None, Ok, Err, refl, sym, ap, subst, ◌∙◌, append_assoc, arith}
use Rattle.std.specs.Prelude.{option_to_list}
use Rattle.std.proofs.lemmas.List.{nil_from_length, length-append, append-nil}
use Rattle.crl_model.specs.declared.entry.Entry.{Entry}
use Rattle.crl_account.specs.declared.line.Stage.{Stage}
use Rattle.crl_account.specs.declared.line.Stage.TheVariants as stages
use Rattle.crl_account.specs.Account.{lines_of, stage_of, IsAccount, IsFirstBad}
use Rattle.crl_account_reader.specs.declared.fault.AccountFault.{AccountFault}
use Rattle.crl_account_reader.specs.declared.fault.AccountFault.TheVariants as faults
use Rattle.crl_account_reader.specs.Step.{entries_in, Took, IsRefused}
use Rattle.crl_account_reader.specs.Unread.{Unread}
use Rattle.crl_account_reader.specs.Reader.{IsRead, HasGiven, IsWhole, IsBroken, Gave, GaveLine}
use Rattle.crl_account_reader.proofs.Stages.{read_none, read_more, read_all, only_these, refused_here, first_bad}

-- nothing is read
pub given_none : (text : List ℕ) → HasGiven text [] (record { bytes = text; number = 0; stage = stages.Entries })
given_none text = record { done = []; parts_are = refl; count = refl; read = read_none; within = omega arith }

-- a line more
pub given_line : (text : List ℕ) (given : List Entry) (old : Unread) (bytes after : List ℕ) (next : Stage) (entry : Option Entry) → HasGiven text given old → lines_of old.bytes ≡ bytes ∷ lines_of after
    → length after < length old.bytes → Took bytes old.stage next entry → HasGiven text (given ++ option_to_list entry) (record { bytes = after; number = old.number + 1; stage = next })
given_line text given old bytes after next entry h e fewer took =
    let done = h.done ++ bytes ∷ [] in
    let more : IsRead done (given ++ entries_in took.line) (stage_of took.line) = read_more h.done given old.stage took.line bytes h.read took.is took.allowed in
    record {
      done = done;
      parts_are = h.parts_are ∙ ap (λ (ls : List (List ℕ)). h.done ++ ls) e ∙ sym (append_assoc h.done (bytes ∷ []) (lines_of after));
      count = ap (λ (n : ℕ). n + 1) h.count ∙ sym (length-append h.done (bytes ∷ []));
      read = subst (λ (s : Stage). IsRead done (given ++ option_to_list entry) s) (sym took.next_is)
          (subst (λ (o : Option Entry). IsRead done (given ++ option_to_list o) (stage_of took.line)) (sym took.entry_is) more);
      within = omega (arith, h.within);
    }

-- a line that can't stand there
pub given_broken : (text : List ℕ) (given : List Entry) (old : Unread) (bytes after : List ℕ) → HasGiven text given old → lines_of old.bytes ≡ bytes ∷ lines_of after → IsRefused bytes old.stage
    → IsBroken text (old.number + 1)
given_broken text given old bytes after h e refused =
    let whole : lines_of text ≡ h.done ++ bytes ∷ lines_of after = h.parts_are ∙ ap (λ (ls : List (List ℕ)). h.done ++ ls) e in
    record {
      first = first_bad h.done given old.stage bytes (lines_of after) (lines_of text) (old.number + 1) h.read refused whole (ap (λ (n : ℕ). n + 1) h.count);
      none = λ all is. refused_here h.done given all old.stage bytes (lines_of after) h.read refused (subst (λ (ls : List (List ℕ)). IsAccount ls all) whole is);
    }

-- no line is left
pub given_whole : (text : List ℕ) (given : List Entry) (old : Unread) → HasGiven text given old → length old.bytes ≡ 0 → IsWhole text given
given_whole text given old h none =
    let all : lines_of text ≡ h.done = h.parts_are ∙ ap (λ (r : List ℕ). h.done ++ lines_of r) (nil_from_length old.bytes none) ∙ append-nil h.done in
    record {
      account = subst (λ (ls : List (List ℕ)). IsAccount ls given) (sym all) (read_all h.done given old.stage h.read);
      only = λ entries is. only_these h.done given entries old.stage h.read (subst (λ (ls : List (List ℕ)). IsAccount ls entries) all is);
    }

-- there are no more entries than lines, and no more lines than bytes
entries_fit : (ls : List (List ℕ)) (entries : List Entry) → IsAccount ls entries → length entries ≤ length ls
entries_fit ls [] is = omega arith
entries_fit [] (entry ∷ entries) is = absurd is
entries_fit (line ∷ ls) (entry ∷ entries) is = let fewer = entries_fit ls entries is.1 in omega (arith, fewer)

pub given_fits : (text : List ℕ) (given : List Entry) (old : Unread) → HasGiven text given old → length given ≤ length text
given_fits text given old h = omega (arith, entries_fit h.done given (read_all h.done given old.stage h.read), h.count, h.within)

-- what a line gives is what the reader gives, if it has an entry
pub gives_entry : (text : List ℕ) (given : List Entry) (entry : Entry) (later : Unread) → GaveLine text given (Ok (Some entry)) later → Gave text given (Ok (Some entry)) later
gives_entry text given entry later h = h

pub gives_fault : (text : List ℕ) (given : List Entry) (fault : AccountFault) (later : Unread) → GaveLine text given (Err fault) later → Gave text given (Err fault) later
gives_fault text given (faults.BadLine number) later h = h
gives_fault text given faults.OutOfMemory later h = h

pub gives_none : (text : List ℕ) (given : List Entry) (later : Unread) → GaveLine text given (Ok None) later → HasGiven text given later
gives_none text given later h = subst (λ (es : List Entry). HasGiven text es later) (append-nil given) h

-- a fault says that the text is no account, or that memory is wanting
pub fault_only : (text : List ℕ) (given : List Entry) (fault : AccountFault) (later : Unread) → Gave text given (Err fault) later → (entries : List Entry) → IsAccount (lines_of text) entries
    → fault ≡ faults.OutOfMemory
fault_only text given (faults.BadLine number) later h entries is = absurd (h.1.none entries is)
fault_only text given faults.OutOfMemory later h entries is = refl

pub fault_bad : (text : List ℕ) (given : List Entry) (fault : AccountFault) (later : Unread) → Gave text given (Err fault) later → (line : ℕ) → fault ≡ faults.BadLine line
    → IsFirstBad (lines_of text) line
fault_bad text given (faults.BadLine number) later h line e = let same : number ≡ line = cc in subst (λ (n : ℕ). IsFirstBad (lines_of text) n) same h.1.first
fault_bad text given faults.OutOfMemory later h line e = cc
