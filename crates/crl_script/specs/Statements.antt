-- The statements, but for `create`: a word, and the words behind it.
use Rattle.std.specs.Prelude.{ℕ, if◌then◌else◌, List, [], ◌∷◌, codes, Option, Some, None, Result, Ok, Err}
use Rattle.std.specs.Str.{bytes_eq}
use Rattle.crl_model.specs.declared.name.Name.{Name}
use Rattle.crl_model.specs.declared.call.Call as calls
use Rattle.crl_model.specs.declared.call.Call.TheVariants as call
use Rattle.crl_model.specs.declared.call.CallKind.{CallKind}
use Rattle.crl_model.specs.declared.call.CallKind.TheVariants.{Delete, Map, Unmap, Flush, Read, EndRead, Write, EndWrite, Put, Add, Barrier, Send, Receive, Sum, Min, Max}
use Rattle.crl_model.specs.declared.collective.Part.{Part}
use Rattle.crl_model.specs.declared.collective.Part.TheVariants as part
use Rattle.crl_model.specs.declared.statement.Statement.{Statement}
use Rattle.crl_model.specs.declared.statement.Statement.TheVariants as statement
use Rattle.crl_script.specs.declared.fault.ScriptWhy.{ScriptWhy}
use Rattle.crl_script.specs.declared.fault.ScriptWhy.TheVariants.{BadWord, BadNumber, UnknownLabel}
use Rattle.crl_script.specs.Labels.{Names}
use Rattle.crl_script.specs.Reading.{◌>>=◌}
use Rattle.crl_script.specs.Words.{is_label, number_of, value_of, bytes_of}

-- a value, or this fault
abbrev pub or_fault : {A : Type 0} → ScriptWhy → Option A → Result A ScriptWhy
or_fault why None = Err why
or_fault why (Some x) = Ok x

-- the name that a label stands for
unfoldable pub region_of : Names → List ℕ → Result Name ScriptWhy
region_of names label = if is_label label then or_fault UnknownLabel (names label) else Err BadWord

-- the first word of a statement
unfoldable pub kind_of : List ℕ → Option CallKind
kind_of word =
    if bytes_eq word (codes "write") then Some Write
    else if bytes_eq word (codes "put") then Some Put
    else if bytes_eq word (codes "endwrite") then Some EndWrite
    else if bytes_eq word (codes "read") then Some Read
    else if bytes_eq word (codes "endread") then Some EndRead
    else if bytes_eq word (codes "add") then Some Add
    else if bytes_eq word (codes "map") then Some Map
    else if bytes_eq word (codes "unmap") then Some Unmap
    else if bytes_eq word (codes "flush") then Some Flush
    else if bytes_eq word (codes "delete") then Some Delete
    else if bytes_eq word (codes "barrier") then Some Barrier
    else if bytes_eq word (codes "send") then Some Send
    else if bytes_eq word (codes "receive") then Some Receive
    else if bytes_eq word (codes "sum") then Some Sum
    else if bytes_eq word (codes "min") then Some Min
    else if bytes_eq word (codes "max") then Some Max
    else None

-- a statement of a word alone
unfoldable pub alone_of : CallKind → Result Part ScriptWhy
alone_of Barrier = Ok part.Barrier
alone_of Receive = Ok part.Receive
alone_of kind = Err BadWord

-- a call about a region
unfoldable pub call_of : CallKind → Name → Result calls.Call ScriptWhy
call_of Delete name = Ok (call.Delete name)
call_of Map name = Ok (call.Map name)
call_of Unmap name = Ok (call.Unmap name)
call_of Flush name = Ok (call.Flush name)
call_of Read name = Ok (call.StartRead name)
call_of EndRead name = Ok (call.EndRead name)
call_of Write name = Ok (call.StartWrite name)
call_of EndWrite name = Ok (call.EndWrite name [])
call_of kind name = Err BadWord

-- delete L, map L, unmap L, flush L, read L, endread L, write L and endwrite L
unfoldable pub about_of : Names → CallKind → List ℕ → Result calls.Call ScriptWhy
about_of names kind label = do
  name ← region_of names label
  call_of kind name

-- a statement with one word behind the first
unfoldable pub one_of : Names → CallKind → List ℕ → Result calls.Call ScriptWhy
one_of names Send word = do
  bytes ← bytes_of word
  Ok (call.Come (part.Send bytes))
one_of names Sum word = do
  value ← value_of word
  Ok (call.Come (part.Sum value))
one_of names Min word = do
  value ← value_of word
  Ok (call.Come (part.Min value))
one_of names Max word = do
  value ← value_of word
  Ok (call.Come (part.Max value))
one_of names kind word = about_of names kind word

-- put L OFFSET HEX
unfoldable pub put_of : Names → List ℕ → List ℕ → List ℕ → Result Statement ScriptWhy
put_of names label offset hex = do
  name ← region_of names label
  n ← number_of 4294967295 BadNumber offset
  bytes ← bytes_of hex
  Ok (statement.Put name n bytes)

-- add L OFFSET NUMBER
unfoldable pub add_of : Names → List ℕ → List ℕ → List ℕ → Result Statement ScriptWhy
add_of names label offset number = do
  name ← region_of names label
  n ← number_of 4294967295 BadNumber offset
  k ← number_of 18446744073709551615 BadNumber number
  Ok (statement.Add name n k)

-- a statement with three words behind the first
unfoldable pub three_of : Names → CallKind → List ℕ → List ℕ → List ℕ → Result Statement ScriptWhy
three_of names Put label offset last = put_of names label offset last
three_of names Add label offset last = add_of names label offset last
three_of names kind label offset last = Err BadWord

-- a statement that is a call
abbrev pub called : Result calls.Call ScriptWhy → Result Statement ScriptWhy
called (Ok c) = Ok (statement.Call c)
called (Err why) = Err why

abbrev pub come : Result Part ScriptWhy → Result calls.Call ScriptWhy
come (Ok p) = Ok (call.Come p)
come (Err why) = Err why

-- a statement: its first word, and the words behind it
unfoldable pub statement_of : Names → CallKind → List (List ℕ) → Result Statement ScriptWhy
statement_of names kind [] = called (come (alone_of kind))
statement_of names kind (a ∷ []) = called (one_of names kind a)
statement_of names kind (a ∷ b ∷ []) = Err BadWord
statement_of names kind (a ∷ b ∷ c ∷ []) = three_of names kind a b c
statement_of names kind (a ∷ b ∷ c ∷ d ∷ words) = Err BadWord
