-- The canonical text of a script.
use Rattle.std.specs.Prelude.{ℕ, ◌+◌, List, [], ◌∷◌, ◌++◌, codes, decimal}
use Rattle.std.specs.Fmt.{signed_decimal}
use Rattle.hex.specs.Hex.{encode_lower}
use Rattle.crl_model.specs.declared.name.Name.{Name}
use Rattle.crl_model.specs.declared.call.Call as calls
use Rattle.crl_model.specs.declared.call.Call.TheVariants as call
use Rattle.crl_model.specs.declared.collective.Part.{Part}
use Rattle.crl_model.specs.declared.collective.Part.TheVariants.{Barrier, Send, Receive, Sum, Min, Max}
use Rattle.crl_model.specs.declared.statement.Statement.{Statement}
use Rattle.crl_model.specs.declared.statement.Statement.TheVariants.{Call, Put, Add}
use Rattle.crl_script.specs.Program.{Program}

-- a line of these words, with single spaces
abbrev pub line_text : List (List ℕ) → List ℕ
line_text [] = 10 ∷ []
line_text (word ∷ []) = word ++ 10 ∷ []
line_text (word ∷ next ∷ words) = word ++ 32 ∷ line_text (next ∷ words)

-- the label of the region that is the home's create of this number: rI_k for region I:k
unfoldable pub label_text : ℕ → ℕ → List ℕ
label_text home serial = codes "r" ++ (decimal home ++ (codes "_" ++ decimal serial))

abbrev pub label_of : Name → List ℕ
label_of name = label_text name.home name.serial

-- what a node brings to a round
abbrev pub part_words : Part → List (List ℕ)
part_words Barrier = codes "barrier" ∷ []
part_words (Send bytes) = codes "send" ∷ encode_lower bytes ∷ []
part_words Receive = codes "receive" ∷ []
part_words (Sum value) = codes "sum" ∷ signed_decimal value ∷ []
part_words (Min value) = codes "min" ∷ signed_decimal value ∷ []
part_words (Max value) = codes "max" ∷ signed_decimal value ∷ []

-- a call in the block of a node that has created so many regions there; no word makes a call Put or Add
abbrev pub call_words : ℕ → ℕ → calls.Call → List (List ℕ)
call_words node made (call.Create size) = codes "create" ∷ label_text node (made + 1) ∷ decimal size ∷ []
call_words node made (call.Delete name) = codes "delete" ∷ label_of name ∷ []
call_words node made (call.Map name) = codes "map" ∷ label_of name ∷ []
call_words node made (call.Unmap name) = codes "unmap" ∷ label_of name ∷ []
call_words node made (call.StartRead name) = codes "read" ∷ label_of name ∷ []
call_words node made (call.EndRead name) = codes "endread" ∷ label_of name ∷ []
call_words node made (call.StartWrite name) = codes "write" ∷ label_of name ∷ []
call_words node made (call.EndWrite name after) = codes "endwrite" ∷ label_of name ∷ []
call_words node made (call.Put name offset len) = []
call_words node made (call.Add name offset) = []
call_words node made (call.Flush name) = codes "flush" ∷ label_of name ∷ []
call_words node made (call.Come part) = part_words part

-- a statement
abbrev pub statement_words : ℕ → ℕ → Statement → List (List ℕ)
statement_words node made (Call c) = call_words node made c
statement_words node made (Put name offset bytes) = codes "put" ∷ label_of name ∷ decimal offset ∷ encode_lower bytes ∷ []
statement_words node made (Add name offset number) = codes "add" ∷ label_of name ∷ decimal offset ∷ decimal number ∷ []

-- how many regions the block has created behind a statement
abbrev pub made_after : ℕ → Statement → ℕ
made_after made (Call (call.Create size)) = made + 1
made_after made statement = made

-- the statements of a node's block, behind so many creates
abbrev pub block_text : ℕ → ℕ → List Statement → List ℕ
block_text node made [] = []
block_text node made (s ∷ ss) = line_text (statement_words node made s) ++ block_text node (made_after made s) ss

-- the block of a node, if it has statements
abbrev pub node_text : ℕ → List Statement → List ℕ
node_text node [] = []
node_text node (s ∷ ss) = line_text (codes "node" ∷ decimal node ∷ []) ++ block_text node 0 (s ∷ ss)

-- the blocks of the nodes from this one on
abbrev pub blocks_text : ℕ → List (List Statement) → List ℕ
blocks_text node [] = []
blocks_text node (block ∷ blocks) = node_text node block ++ blocks_text (node + 1) blocks

-- the canonical text: `nodes N`, `cache C`, and for each node with statements `node I` and these
unfoldable pub canonical_of : Program → List ℕ
canonical_of p =
    line_text (codes "nodes" ∷ decimal p.nodes ∷ []) ++ (line_text (codes "cache" ∷ decimal p.cache ∷ []) ++ blocks_text 0 p.blocks)
