-- What is read of a script so far, and how each line goes on from there.
use Rattle.std.specs.Prelude.{ℕ, ◌+◌, ◌==◌, ◌&&◌, nat_le, nat_lt, if◌then◌else◌, List, [], ◌∷◌, ◌++◌, length, replicate, slice_set, slice_index_or, codes, Option, Some, None, Result, Ok, Err, is_some}
use Rattle.std.specs.List.{list_any}
use Rattle.std.specs.Map.{update}
use Rattle.std.specs.Str.{bytes_eq}
use Rattle.crl_model.specs.declared.call.Call.TheVariants.{Create}
use Rattle.crl_model.specs.declared.call.CallKind.{CallKind}
use Rattle.crl_script.specs.declared.place.Place.{Place}
use Rattle.crl_script.specs.declared.place.Place.TheVariants.{Start, Head, Outside, Inside}
use Rattle.crl_model.specs.declared.statement.Statement.{Statement}
use Rattle.crl_model.specs.declared.statement.Statement.TheVariants.{Call}
use Rattle.crl_script.specs.declared.fault.ScriptWhy.{ScriptWhy}
use Rattle.crl_script.specs.declared.fault.ScriptWhy.TheVariants.{NoNodes, BadNodes, BadWord, BadNumber, TwiceLabel, BadSize, BadNode, TwiceNode, LineTooLong}
use Rattle.crl_script.specs.Labels.{Names, no_names}
use Rattle.crl_script.specs.Reading.{◌>>=◌}
use Rattle.crl_script.specs.Statements.{statement_of, kind_of}
use Rattle.crl_script.specs.Text.{Line, words_of, is_comment}
use Rattle.crl_script.specs.Words.{is_label, number_of}

-- where reading stands, what `cache` says, the nodes whose blocks have begun, the names of the labels
-- created so far, how many of them the present block created, and each node's statements
pub record Progress : Type 0 where
  pub place : Place
  pub cache : ℕ
  pub begun : List ℕ
  pub names : Names
  pub made : ℕ
  pub blocks : List (List Statement)

-- before the first line
abbrev pub start : Progress
start = record { place = Start; cache = 16; begun = []; names = no_names; made = 0; blocks = [] }

-- so many nodes, 1 to 64
abbrev pub with_nodes : Progress → ℕ → Result Progress ScriptWhy
with_nodes p n = if nat_le 1 n && nat_le n 64 then Ok (record p { place = Head; blocks = replicate n [] }) else Err BadNodes

-- nodes N
unfoldable pub nodes_line : Progress → List (List ℕ) → Result Progress ScriptWhy
nodes_line p (word ∷ []) = do
  n ← number_of 18446744073709551615 BadNumber word
  with_nodes p n
nodes_line p words = Err BadWord

-- cache C
unfoldable pub cache_line : Progress → List (List ℕ) → Result Progress ScriptWhy
cache_line p (word ∷ []) = do
  n ← number_of 65535 BadNumber word
  Ok (record p { place = Outside; cache = n })
cache_line p words = Err BadWord

-- the block of this node begins
abbrev pub with_block : Progress → ℕ → Result Progress ScriptWhy
with_block p n =
    if nat_le (length p.blocks) n then Err BadNode
    else if list_any (λ k. k == n) p.begun then Err TwiceNode
    else Ok (record p { place = Inside n; begun = p.begun ++ n ∷ []; made = 0 })

-- node I
unfoldable pub node_line : Progress → List (List ℕ) → Result Progress ScriptWhy
node_line p (word ∷ []) = do
  n ← number_of 4294967295 BadNumber word
  with_block p n
node_line p words = Err BadWord

-- a statement at the end of a node's block
unfoldable pub with_statement : ℕ → Statement → Progress → Progress
with_statement node s p = record p { blocks = slice_set p.blocks node (slice_index_or p.blocks node [] ++ s ∷ []) }

-- The k-th create of node I names region I:k.
abbrev pub with_name : ℕ → List ℕ → Progress → Progress
with_name node label p = record p { names = update bytes_eq p.names label (Some (record { home = node; serial = p.made + 1 })); made = p.made + 1 }

-- a region more, with this label
abbrev pub with_region : ℕ → List ℕ → ℕ → Progress → Progress
with_region node label size p = with_name node label (with_statement node (Call (Create size)) p)

-- create L SIZE
unfoldable pub create_line : Progress → ℕ → List (List ℕ) → Result Progress ScriptWhy
create_line p node (label ∷ size ∷ []) =
    if is_label label then (
    if is_some (p.names label) then Err TwiceLabel else (do
      n ← number_of 4294967295 BadSize size
      Ok (with_region node label n p)))
    else Err BadWord
create_line p node words = Err BadWord

-- a statement but for `create`
unfoldable pub other_line : Names → Progress → ℕ → Option CallKind → List (List ℕ) → Result Progress ScriptWhy
other_line names p node None words = Err BadWord
other_line names p node (Some kind) words = do
  s ← statement_of names kind words
  Ok (with_statement node s p)

-- a statement
unfoldable pub statement_line : Names → Progress → ℕ → List ℕ → List (List ℕ) → Result Progress ScriptWhy
statement_line names p node word words =
    if bytes_eq word (codes "create") then create_line p node words else other_line names p node (kind_of word) words

-- a line that begins with this word, and has these words behind it
unfoldable pub line_at : Names → Progress → Place → List ℕ → List (List ℕ) → Result Progress ScriptWhy
line_at names p Start word words = if bytes_eq word (codes "nodes") then nodes_line p words else Err NoNodes
line_at names p Head word words =
    if bytes_eq word (codes "node") then node_line p words
    else if bytes_eq word (codes "cache") then cache_line p words
    else Err BadWord
line_at names p Outside word words = if bytes_eq word (codes "node") then node_line p words else Err BadWord
line_at names p (Inside node) word words =
    if bytes_eq word (codes "node") then node_line p words else statement_line names p node word words

-- a line of these words, which is skipped if it has none, or is a comment
abbrev pub words_line : Names → Progress → List (List ℕ) → Result Progress ScriptWhy
words_line names p [] = Ok p
words_line names p (word ∷ words) = if is_comment word then Ok p else line_at names p p.place word words

-- a line
unfoldable pub line_of : Names → Progress → Line → Result Progress ScriptWhy
line_of names p line = if nat_lt 140000 line.size then Err LineTooLong else words_line names p (words_of line.bytes)
