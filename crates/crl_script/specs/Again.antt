-- Which scripts are read again from their canonical text.
use Rattle.std.specs.Prelude.{◌≡◌, ℕ, ◌<◌, ◌≤◌, ◌^◌, List, [], ◌∷◌, length, slice_index_or, ℤ, pos, negsuc, Option, Some, None, IfSome}
use Rattle.std.specs.List.{AllByRecursion}
use Rattle.hex.specs.Hex.{IsBytes}
use Rattle.crl_model.specs.declared.name.Name.{Name}
use Rattle.crl_model.specs.declared.call.Call as calls
use Rattle.crl_model.specs.declared.call.Call.TheVariants as call
use Rattle.crl_model.specs.declared.collective.Part.{Part}
use Rattle.crl_model.specs.declared.collective.Part.TheVariants.{Barrier, Send, Receive, Sum, Min, Max}
use Rattle.crl_model.specs.declared.statement.Statement.{Statement}
use Rattle.crl_model.specs.declared.statement.Statement.TheVariants.{Call, Put, Add}
use Rattle.crl_script.specs.Canonical.{made_after, canonical_of}
use Rattle.crl_script.specs.Program.{Program}
use Rattle.crl_script.specs.Text.{lines_of}

-- a number of an i64
abbrev pub IsValue : ℤ → Type 0
IsValue (pos n) = n < 2 ^ 63
IsValue (negsuc n) = n < 2 ^ 63

-- bytes, at least one
abbrev pub IsSomeBytes : List ℕ → Type 0
IsSomeBytes bytes = (0 < length bytes) × IsBytes bytes

abbrev pub IsPart : Part → Type 0
IsPart Barrier = Unit {0}
IsPart (Send bytes) = IsSomeBytes bytes
IsPart Receive = Unit {0}
IsPart (Sum value) = IsValue value
IsPart (Min value) = IsValue value
IsPart (Max value) = IsValue value

-- a call that a word makes
abbrev pub IsCall : calls.Call → Type 0
IsCall (call.Create size) = size < 2 ^ 32
IsCall (call.EndWrite name after) = after ≡ []
IsCall (call.Put name offset len) = ⊥
IsCall (call.Add name offset) = ⊥
IsCall (call.Come part) = IsPart part
IsCall (call.Delete name) = Unit {0}
IsCall (call.Map name) = Unit {0}
IsCall (call.Unmap name) = Unit {0}
IsCall (call.StartRead name) = Unit {0}
IsCall (call.EndRead name) = Unit {0}
IsCall (call.StartWrite name) = Unit {0}
IsCall (call.Flush name) = Unit {0}

-- a statement that a line makes, which has at most 140,000 bytes
abbrev pub IsStatement : Statement → Type 0
IsStatement (Call c) = IsCall c
IsStatement (Put name offset bytes) = (offset < 2 ^ 32) × IsSomeBytes bytes × (length bytes < 2 ^ 32)
IsStatement (Add name offset number) = (offset < 2 ^ 32) × (number < 2 ^ 64)

abbrev pub AllStatements : List (List Statement) → Type 0
AllStatements blocks = AllByRecursion (λ block. AllByRecursion IsStatement block) blocks

-- what every script is
pub record IsScript (p : Program) : Type 0 where
  pub nodes : p.nodes ≡ length p.blocks
  pub some : 0 < p.nodes
  pub limit : p.nodes ≤ 64
  pub cache : p.cache < 2 ^ 16
  pub statements : AllStatements p.blocks

-- how many regions a block has created, behind so many creates
abbrev pub made_by : ℕ → List Statement → ℕ
made_by made [] = made
made_by made (s ∷ ss) = made_by (made_after made s) ss

-- the name is I:k for a node I with at least k creates
abbrev pub IsNamed : List (List Statement) → Name → Type 0
IsNamed blocks name = (0 < name.serial) × (name.serial ≤ made_by 0 (slice_index_or blocks name.home []))

-- the name in a call
abbrev pub name_in_call : calls.Call → Option Name
name_in_call (call.Create size) = None
name_in_call (call.Delete name) = Some name
name_in_call (call.Map name) = Some name
name_in_call (call.Unmap name) = Some name
name_in_call (call.StartRead name) = Some name
name_in_call (call.EndRead name) = Some name
name_in_call (call.StartWrite name) = Some name
name_in_call (call.EndWrite name after) = Some name
name_in_call (call.Put name offset len) = Some name
name_in_call (call.Add name offset) = Some name
name_in_call (call.Flush name) = Some name
name_in_call (call.Come part) = None

-- the name in a statement
abbrev pub name_in : Statement → Option Name
name_in (Call c) = name_in_call c
name_in (Put name offset bytes) = Some name
name_in (Add name offset number) = Some name

abbrev pub AllNamed : List (List Statement) → Type 0
AllNamed blocks = AllByRecursion (λ block. AllByRecursion (λ s. IfSome (name_in s) (IsNamed blocks)) block) blocks

-- a statement that brings no bytes: neither a put nor a send
abbrev pub IsPlain : Statement → Type 0
IsPlain (Call (call.Come (Send bytes))) = ⊥
IsPlain (Put name offset bytes) = ⊥
IsPlain _ = Unit {0}

abbrev pub AllPlain : List (List Statement) → Type 0
AllPlain blocks = AllByRecursion (λ block. AllByRecursion IsPlain block) blocks

-- Each name in a script is I:k for a node I with at least k creates, no line of its canonical text is
-- over 140,000 bytes, and that text has fewer than 2^32 bytes.
pub record IsPrintable (p : Program) : Type 0 where
  pub named : AllNamed p.blocks
  pub lines : AllByRecursion (λ line. line.size ≤ 140000) (lines_of (canonical_of p))
  pub size : length (canonical_of p) < 2 ^ 32
