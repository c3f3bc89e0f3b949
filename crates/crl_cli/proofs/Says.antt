-- What is said of the bytes that were read, from what is said of their parts.
use Rattle.std.proofs.Common.{◌≡◌, ◌≤◌, ◌+◌, ◌∙◌, refl, ℕ, Bool, true, false, true≢false, if◌then◌else◌, List, [], length, sym, subst, ap, Ok, Err}
use Rattle.std.specs.Prelude.{IfOk, Result, None, Some, unwrap_or}
use Rattle.std.specs.declared.option.Option.{Option}
use Rattle.std.specs.Io.KnownBytes.{Appends}
use Rattle.std.specs.List.{AllByRecursion}
use Rattle.crl_model.specs.declared.entry.Entry.{Entry}
use Rattle.crl_model.specs.Reports.{Reported}
use Rattle.crl_machine.specs.SingleMachine.{start, after_all}
use Rattle.crl_machine.specs.FinalRegions.{final_regions}
use Rattle.crl_check.specs.Accounts.{IsLegalText, IsIllegalText}
use Rattle.crl_protocol.specs.Chosen.{always_first}
use Rattle.crl_order.specs.declared.order.Order.{Order}
use Rattle.crl_order.specs.Words.{words_to_come}
use Rattle.crl_script.specs.Program.{Program}
use Rattle.crl_script.specs.Sentence.{script_of}
use Rattle.crl_account.specs.Account.{lines_of, IsAccount}
use Rattle.crl_account.specs.Text.{report_text}
use Rattle.crl_account.specs.Reports.{HasBytes, IsPrintableReport}
use Rattle.crl_printed.proofs.Laws.{printable_history, regions_filled}
use Rattle.crl_outside.specs.Faults.{Rose}
use Rattle.crl_commands.specs.declared.command.Command.{Command}
use Rattle.crl_commands.specs.declared.command.Command.TheVariants as command
use Rattle.crl_cli.specs.declared.TheConstants.{SCRIPT_LIMIT, ACCOUNT_LIMIT}
use Rattle.crl_cli.specs.declared.outcome.Outcome.{Outcome}
use Rattle.crl_cli.specs.declared.status.Status.{Status}
use Rattle.crl_cli.specs.declared.status.Status.TheVariants as status
use Rattle.crl_cli.specs.declared.account.Unread.TheVariants as unread
use Rattle.crl_cli.specs.Answers.{Prints, HasHeadlineBy, HasHeadline, HasSomeHeadline, IsAnswered}
use Rattle.crl_cli.specs.Reading.{IsScriptOf, IsUnread, unread_for}
use Rattle.crl_cli.specs.Outcome.{SaysOrder, SaysSome, SaysCheck, Says, quietly, SaysOf, status_of, does_read, limit_of, IsBadScript, IsBadAccount, Asked, asked, IsInput, Comes, usage, read_fault, said, made}
use Rattle.crl_cli.specs.Runs.{IsHistoryOf}
use Rattle.crl_cli.specs.Texts.{usage_text, read_fault_text, legal_text, illegal_text}

-- the answer to bytes that aren't a script
pub unread_bytes : {E : Type 0} (r : Result Outcome E) (bytes text : List ℕ) → IsBadScript bytes text → IfOk r (λ o. o.status ≡ status.BadScript) → IfOk r (λ o. o.text.items ≡ text) → IsUnread bytes (unread_for r)
unread_bytes (Ok o) bytes text bad is same = (is, subst (IsBadScript bytes) (sym same) bad)
unread_bytes (Err e) bytes text bad is same = tt

pub bad_says : (words : ℕ → ℕ) (bytes : List ℕ) (o : Outcome) → IsUnread bytes (unread.Bad o) → SaysOrder words o.status bytes o.text.items
bad_says words bytes o h = subst (λ (s : Status). SaysOrder words s bytes o.text.items) (sym h.0) h.1

of_script : (words : ℕ → ℕ) (s : Status) (bytes text : List ℕ) (program : Program) → length bytes ≤ SCRIPT_LIMIT → script_of bytes ≡ Ok program → SaysOf words s program text → SaysOrder words s bytes text
of_script words status.Ok bytes text program within reads h = record { program = program; within = within; reads = reads; account = h }
of_script words status.Stuck bytes text program within reads h = record { program = program; within = within; reads = reads; account = h }
of_script words status.BadScript bytes text program within reads h = absurd h
of_script words status.Usage bytes text program within reads h = h
of_script words status.ReadFault bytes text program within reads h = h
of_script words status.WriteFault bytes text program within reads h = h
of_script words status.OutOfMemory bytes text program within reads h = h
of_script words status.Illegal bytes text program within reads h = h
of_script words status.BadAccount bytes text program within reads h = h

-- the answer to bytes that are a script
pub read_bytes : {E : Type 0} (r : Result Outcome E) (words : ℕ → ℕ) (bytes : List ℕ) (program : Program) → IsScriptOf bytes program
    → IfOk r (λ o. SaysOf words o.status program o.text.items) → IfOk r (λ o. SaysOrder words o.status bytes o.text.items)
read_bytes (Ok o) words bytes program is h = of_script words o.status bytes o.text.items program is.within is.reads h
read_bytes (Err e) words bytes program is h = tt

pub some_bytes : {E : Type 0} (r : Result Outcome E) (bytes : List ℕ) (program : Program) (words : ℕ → ℕ) → IsScriptOf bytes program
    → IfOk r (λ o. SaysOf words o.status program o.text.items) → IfOk r (λ o. SaysSome o.status bytes o.text.items)
some_bytes (Ok o) bytes program words is h = (words, of_script words o.status bytes o.text.items program is.within is.reads h)
some_bytes (Err e) bytes program words is h = tt

bad_account_one : (nodes : ℕ) (bytes text given : List ℕ) (s : Status) → IsBadAccount bytes text → s ≡ status.BadAccount → given ≡ text → SaysCheck nodes s bytes given
bad_account_one nodes bytes text given s bad is same = rw (is, same) bad

-- the answer to bytes that aren't an account
pub bad_account_bytes : {E : Type 0} (r : Result Outcome E) (nodes : ℕ) (bytes text : List ℕ) → IsBadAccount bytes text → IfOk r (λ o. o.status ≡ status.BadAccount) → IfOk r (λ o. o.text.items ≡ text)
    → IfOk r (λ o. SaysCheck nodes o.status bytes o.text.items)
bad_account_bytes (Ok o) nodes bytes text bad is same = bad_account_one nodes bytes text o.text.items o.status bad is same
bad_account_bytes (Err e) nodes bytes text bad is same = tt

legal_one : (nodes : ℕ) (bytes given : List ℕ) (s : Status) → length bytes ≤ ACCOUNT_LIMIT → IsLegalText (start nodes) bytes → s ≡ status.Ok → given ≡ legal_text → SaysCheck nodes s bytes given
legal_one nodes bytes given s within legal is same = rw is (record { within = within; entries = legal.entries; account = legal.whole.account; legal = legal.legal; says = same })

-- the answer to the account of a legal history
pub legal_bytes : {E : Type 0} (r : Result Outcome E) (nodes : ℕ) (bytes : List ℕ) → length bytes ≤ ACCOUNT_LIMIT → IsLegalText (start nodes) bytes → IfOk r (λ o. o.status ≡ status.Ok) → IfOk r (λ o. o.text.items ≡ legal_text)
    → IfOk r (λ o. SaysCheck nodes o.status bytes o.text.items)
legal_bytes (Ok o) nodes bytes within legal is same = legal_one nodes bytes o.text.items o.status within legal is same
legal_bytes (Err e) nodes bytes within legal is same = tt

illegal_one : (nodes : ℕ) (bytes given : List ℕ) (s : Status) (place : ℕ) → length bytes ≤ ACCOUNT_LIMIT → IsIllegalText (start nodes) bytes place → s ≡ status.Illegal → given ≡ illegal_text (place + 1)
    → SaysCheck nodes s bytes given
illegal_one nodes bytes given s place within illegal is same =
    rw is (record { within = within; entries = illegal.entries; account = illegal.whole.account; place = place; first = illegal.first; says = same })

-- the answer to the account of a history that is no legal one
pub illegal_bytes : {E : Type 0} (r : Result Outcome E) (nodes : ℕ) (bytes : List ℕ) (place : ℕ) → length bytes ≤ ACCOUNT_LIMIT → IsIllegalText (start nodes) bytes place → IfOk r (λ o. o.status ≡ status.Illegal)
    → IfOk r (λ o. o.text.items ≡ illegal_text (place + 1)) → IfOk r (λ o. SaysCheck nodes o.status bytes o.text.items)
illegal_bytes (Ok o) nodes bytes place within illegal is same = illegal_one nodes bytes o.text.items o.status place within illegal is same
illegal_bytes (Err e) nodes bytes place within illegal is same = tt

usage_one : (a : Asked) (s : Status) (text : List ℕ) → a.command ≡ None → s ≡ status.Usage → text ≡ usage_text → Comes a s text
usage_one a s text none is same = rw (is, same) (usage none)

-- the answer to words that are no command
pub usage_comes : {E : Type 0} (r : Result Outcome E) (a : Asked) → a.command ≡ None → IfOk r (λ o. o.status ≡ status.Usage) → IfOk r (λ o. o.text.items ≡ usage_text)
    → IfOk r (λ o. Comes a o.status o.text.items)
usage_comes (Ok o) a none is same = usage_one a o.status o.text.items none is same
usage_comes (Err e) a none is same = tt

fault_one : (a : Asked) (s : Status) (text : List ℕ) (c : Command) → a.command ≡ Some c → does_read c ≡ true → Rose a.faults a.faults_later → s ≡ status.ReadFault → text ≡ read_fault_text → Comes a s text
fault_one a s text c some reads rose is same = rw (is, same) (read_fault c some reads rose)

-- the answer to a source that failed
pub fault_comes : {E : Type 0} (r : Result Outcome E) (a : Asked) (c : Command) → a.command ≡ Some c → does_read c ≡ true → Rose a.faults a.faults_later → IfOk r (λ o. o.status ≡ status.ReadFault)
    → IfOk r (λ o. o.text.items ≡ read_fault_text) → IfOk r (λ o. Comes a o.status o.text.items)
fault_comes (Ok o) a c some reads rose is same = fault_one a o.status o.text.items c some reads rose is same
fault_comes (Err e) a c some reads rose is same = tt

-- the answer of a command to the bytes that were read
pub said_comes : {E : Type 0} (r : Result Outcome E) (a : Asked) (c : Command) (bytes : List ℕ) → a.command ≡ Some c → does_read c ≡ true → IsInput (limit_of c) a.left a.later bytes
    → IfOk r (λ o. Says c o.status bytes o.text.items) → IfOk r (λ o. Comes a o.status o.text.items)
said_comes (Ok o) a c bytes some reads input h = said c o.status bytes o.text.items some reads input h
said_comes (Err e) a c bytes some reads input h = tt

-- the answer of a command that reads nothing
pub made_comes : {E : Type 0} (r : Result Outcome E) (a : Asked) (c : Command) → a.command ≡ Some c → does_read c ≡ false
    → IfOk r (λ o. Says c o.status [] o.text.items) → IfOk r (λ o. Comes a o.status o.text.items)
made_comes (Ok o) a c some reads h = made c o.status o.text.items some reads h
made_comes (Err e) a c some reads h = tt

-- No command says that a push failed, or that memory was wanting.
says_no_fault : (c : Command) (bytes text : List ℕ) → Says c status.WriteFault bytes text → ⊥
says_no_fault (command.Order order) bytes text h = h
says_no_fault (command.Check nodes) bytes text h = h
says_no_fault (command.Gen recipe) bytes text h = h
says_no_fault (command.Summary recipe) bytes text h = h
says_no_fault (command.Threads workers) bytes text h = h.1

says_no_want : (c : Command) (bytes text : List ℕ) → Says c status.OutOfMemory bytes text → ⊥
says_no_want (command.Order order) bytes text h = h
says_no_want (command.Check nodes) bytes text h = h
says_no_want (command.Gen recipe) bytes text h = h
says_no_want (command.Summary recipe) bytes text h = h
says_no_want (command.Threads workers) bytes text h = h.1

pub comes_no_fault : (a : Asked) (s : Status) (text : List ℕ) → Comes a s text → s ≡ status.WriteFault → ⊥
comes_no_fault a s text (usage none) e = cc
comes_no_fault a s text (read_fault c some reads rose) e = cc
comes_no_fault a s text (said c status bytes told some reads input says) e = says_no_fault c bytes told (subst (λ (x : Status). Says c x bytes told) e says)
comes_no_fault a s text (made c status told some reads says) e = says_no_fault c [] told (subst (λ (x : Status). Says c x [] told) e says)

pub comes_no_want : (a : Asked) (s : Status) (text : List ℕ) → Comes a s text → s ≡ status.OutOfMemory → ⊥
comes_no_want a s text (usage none) e = cc
comes_no_want a s text (read_fault c some reads rose) e = cc
comes_no_want a s text (said c status bytes told some reads input says) e = says_no_want c bytes told (subst (λ (x : Status). Says c x bytes told) e says)
comes_no_want a s text (made c status told some reads says) e = says_no_want c [] told (subst (λ (x : Status). Says c x [] told) e says)

-- ---- what is printed

-- what came and was printed whole
pub print_whole : (a : Asked) (held later : Option (List ℕ)) (s : Status) (text : List ℕ) → Comes a s text → Appends held later text → Prints a held later s
print_whole a held later status.Ok text comes shown = (text, comes, shown)
print_whole a held later status.Stuck text comes shown = (text, comes, shown)
print_whole a held later status.Usage text comes shown = (text, comes, shown)
print_whole a held later status.BadScript text comes shown = (text, comes, shown)
print_whole a held later status.ReadFault text comes shown = (text, comes, shown)
print_whole a held later status.Illegal text comes shown = (text, comes, shown)
print_whole a held later status.BadAccount text comes shown = (text, comes, shown)
print_whole a held later status.WriteFault text comes shown = absurd (comes_no_fault a status.WriteFault text comes refl)
print_whole a held later status.OutOfMemory text comes shown = tt

-- what is said of all that comes and is printed whole
module _ (a : Asked) (held later : Option (List ℕ)) (Q : Status → Type 0) (fault : Q status.WriteFault) (want : Q status.OutOfMemory) (come : (s : Status) (text : List ℕ) → Comes a s text → Appends held later text → Q s) where
  by_prints : (s : Status) → Prints a held later s → Q s
  by_prints status.Ok p = come status.Ok p.0 p.1 p.2
  by_prints status.Stuck p = come status.Stuck p.0 p.1 p.2
  by_prints status.Usage p = come status.Usage p.0 p.1 p.2
  by_prints status.BadScript p = come status.BadScript p.0 p.1 p.2
  by_prints status.ReadFault p = come status.ReadFault p.0 p.1 p.2
  by_prints status.Illegal p = come status.Illegal p.0 p.1 p.2
  by_prints status.BadAccount p = come status.BadAccount p.0 p.1 p.2
  by_prints status.WriteFault p = fault
  by_prints status.OutOfMemory p = want

-- ---- the headline

one_command : (c d : Command) (o : Option Command) → o ≡ Some c → o ≡ Some d → c ≡ d
one_command c d o e h = some_is (sym e ∙ h)
  where
    some_is : Some c ≡ Some d → c ≡ d
    some_is same = ap (λ o. unwrap_or o c) same

-- what is said of a script and printed whole
printed_headline : (words : ℕ → ℕ) (left later held held_later : Option (List ℕ)) (s : Status) (bytes text : List ℕ) → IsInput SCRIPT_LIMIT left later bytes → SaysOrder words s bytes text
    → Appends held held_later text → HasHeadlineBy words left later held held_later s
printed_headline words left later held held_later status.Ok bytes text input says shown = record { bytes = bytes; text = text; input = input; run = says; shown = shown }
printed_headline words left later held held_later status.Stuck bytes text input says shown = record { bytes = bytes; text = text; input = input; run = says; shown = shown }
printed_headline words left later held held_later status.Usage bytes text input says shown = tt
printed_headline words left later held held_later status.BadScript bytes text input says shown = tt
printed_headline words left later held held_later status.ReadFault bytes text input says shown = tt
printed_headline words left later held held_later status.WriteFault bytes text input says shown = tt
printed_headline words left later held held_later status.OutOfMemory bytes text input says shown = tt
printed_headline words left later held held_later status.Illegal bytes text input says shown = tt
printed_headline words left later held held_later status.BadAccount bytes text input says shown = tt

-- What came for a command that reads is said of what was read.
module _ (a : Asked) (d : Command) (is : a.command ≡ Some d) (reads : does_read d ≡ true) where
  input_of : (c : Command) (bytes : List ℕ) → a.command ≡ Some c → IsInput (limit_of c) a.left a.later bytes → IsInput (limit_of d) a.left a.later bytes
  input_of c bytes some input = subst (λ (x : Command). IsInput (limit_of x) a.left a.later bytes) (one_command c d a.command some is) input

  says_of : (c : Command) (s : Status) (bytes text : List ℕ) → a.command ≡ Some c → Says c s bytes text → Says d s bytes text
  says_of c s bytes text some says = subst (λ (x : Command). Says x s bytes text) (one_command c d a.command some is) says

  not_made : (c : Command) → a.command ≡ Some c → does_read c ≡ false → ⊥
  not_made c some not = true≢false (sym reads ∙ sym (ap does_read (one_command c d a.command some is)) ∙ not)

order_came : (a : Asked) (held later : Option (List ℕ)) (order : Order) → a.command ≡ Some (command.Order order) → (s : Status) (text : List ℕ) → Comes a s text → Appends held later text → HasHeadline order a.left a.later held later s
order_came a held later order is s text (usage none) shown = tt
order_came a held later order is s text (read_fault c some reads rose) shown = tt
order_came a held later order is s text (said c status bytes told some reads input says) shown =
    printed_headline (words_to_come order) a.left a.later held later status bytes told (input_of a (command.Order order) is refl c bytes some input) (says_of a (command.Order order) is refl c status bytes told some says) shown
order_came a held later order is s text (made c status told some reads says) shown = absurd (not_made a (command.Order order) is refl c some reads)

threads_came : (a : Asked) (held later : Option (List ℕ)) (workers : ℕ) → a.command ≡ Some (command.Threads workers) → (s : Status) (text : List ℕ) → Comes a s text → Appends held later text → HasSomeHeadline a.left a.later held later s
threads_came a held later workers is s text (usage none) shown = (always_first, tt)
threads_came a held later workers is s text (read_fault c some reads rose) shown = (always_first, tt)
threads_came a held later workers is s text (said c status bytes told some reads input says) shown =
    let h : SaysSome status bytes told = says_of a (command.Threads workers) is refl c status bytes told some says in
    (h.0, printed_headline h.0 a.left a.later held later status bytes told (input_of a (command.Threads workers) is refl c bytes some input) h.1 shown)
threads_came a held later workers is s text (made c status told some reads says) shown = absurd (not_made a (command.Threads workers) is refl c some reads)

-- What was printed for a run, under an order or by threads.
pub headline : (a : Asked) (held later : Option (List ℕ)) (s : Status) → Prints a held later s → (order : Order) → a.command ≡ Some (command.Order order) → HasHeadline order a.left a.later held later s
headline a held later s p order is = by_prints a held later (λ x. HasHeadline order a.left a.later held later x) tt tt (order_came a held later order is) s p

pub some_headline : (a : Asked) (held later : Option (List ℕ)) (s : Status) → Prints a held later s → (workers : ℕ) → a.command ≡ Some (command.Threads workers) → HasSomeHeadline a.left a.later held later s
some_headline a held later s p workers is = by_prints a held later (λ x. HasSomeHeadline a.left a.later held later x) (always_first, tt) (always_first, tt) (threads_came a held later workers is) s p

-- an outcome that came is answered
pub answered : {E : Type 0} (r : Result Outcome E) (a : Asked) → IfOk r (λ o. Comes a o.status o.text.items) → IfOk r IsAnswered
answered (Ok o) a comes = (a, comes)
answered (Err e) a comes = tt

-- it came for the same command
pub asked_so : {E : Type 0} (r : Result Outcome E) (c d : Option Command) → c ≡ d → (left later : Option (List ℕ)) (faults faults_later : ℕ)
    → IfOk r (λ o. Comes (asked c left later faults faults_later) o.status o.text.items) → IfOk r (λ o. Comes (asked d left later faults faults_later) o.status o.text.items)
asked_so r c d same left later faults faults_later comes = subst (λ (x : Option Command). IfOk r (λ o. Comes (asked x left later faults faults_later) o.status o.text.items)) same comes

-- `order` is a command of a call that waits for nobody
pub quiet_order : (o : Option Command) (order : Order) → o ≡ Some (command.Order order) → quietly o ≡ Some (command.Order order)
quiet_order o order e = ap quietly e

-- ---- what is printed of a script

none_filled : (entries : List Entry) (stuck : Bool) (count : ℕ) → AllByRecursion HasBytes (final_regions (after_all (start count) entries))
    → AllByRecursion HasBytes (if stuck then [] else final_regions (after_all (start count) entries))
none_filled entries true count h = tt
none_filled entries false count h = h

-- what is reported of a run can be read again
printable_report : (program : Program) (words : ℕ → ℕ) (stuck : Bool) (report : Reported) → IsHistoryOf program words stuck report → IsPrintableReport report
printable_report program words stuck report is = record {
  entries = printable_history program.nodes report.entries is.legal;
  regions = subst (AllByRecursion HasBytes) (sym is.regions) (none_filled report.entries stuck program.nodes (regions_filled program.nodes report.entries is.legal));
}

-- the text of a run that ended is its account
pub account_of : (program : Program) (words : ℕ → ℕ) (stuck : Bool) (report : Reported) (text : List ℕ) → IsHistoryOf program words stuck report → text ≡ report_text report
    → (IsPrintableReport report → IsAccount (lines_of text) report.entries) → SaysOf words (status_of stuck) program text
account_of program words true report text is printed reads = record { report = report; history = is; printed = printed; judged = reads (printable_report program words true report is) }
account_of program words false report text is printed reads = record { report = report; history = is; printed = printed; judged = reads (printable_report program words false report is) }
