-- Words in which the worked runs are written.
use Rattle.std.specs.Prelude.{◌≡◌, ℕ, List, [], pos}
use Rattle.crl_model.specs.declared.name.Name.{Name}
use Rattle.crl_model.specs.declared.collective.Part.TheVariants as part
use Rattle.crl_model.specs.declared.call.Call.TheVariants as call
use Rattle.crl_model.specs.declared.entry.Entry.{Entry}
use Rattle.crl_model.specs.declared.entry.What.{What}
use Rattle.crl_model.specs.declared.statement.Statement.{Statement}
use Rattle.crl_model.specs.declared.statement.Statement.TheVariants as statement
use Rattle.crl_protocol.specs.World.{new_world}
use Rattle.crl_protocol.specs.Chosen.{Running, running, turns_from, IsChosen}
use Rattle.crl_protocol.specs.Talk.{talk, AreLinesOf, lines_of_node}
use Rattle.crl_protocol.specs.Ends.{FinalRegion, Reported, report}

-- the regions of the worked runs
abbrev pub r0_1 : Name
r0_1 = record { home = 0; serial = 1 }

abbrev pub r0_2 : Name
r0_2 = record { home = 0; serial = 2 }

-- names that no create gives, where there are no more than five nodes
abbrev pub r0_0 : Name
r0_0 = record { home = 0; serial = 0 }

abbrev pub r5_1 : Name
r5_1 = record { home = 5; serial = 1 }

-- the statements of scripts
abbrev pub create : ℕ → Statement
create size = statement.Call (call.Create size)

abbrev pub delete : Name → Statement
delete name = statement.Call (call.Delete name)

abbrev pub map : Name → Statement
map name = statement.Call (call.Map name)

abbrev pub unmap : Name → Statement
unmap name = statement.Call (call.Unmap name)

abbrev pub flush : Name → Statement
flush name = statement.Call (call.Flush name)

abbrev pub read : Name → Statement
read name = statement.Call (call.StartRead name)

abbrev pub endread : Name → Statement
endread name = statement.Call (call.EndRead name)

abbrev pub write : Name → Statement
write name = statement.Call (call.StartWrite name)

abbrev pub endwrite : Name → Statement
endwrite name = statement.Call (call.EndWrite name [])

abbrev pub change : Name → ℕ → List ℕ → Statement
change name offset bytes = statement.Put name offset bytes

abbrev pub add : Name → ℕ → ℕ → Statement
add name offset number = statement.Add name offset number

abbrev pub barrier : Statement
barrier = statement.Call (call.Come part.Barrier)

abbrev pub send : List ℕ → Statement
send bytes = statement.Call (call.Come (part.Send bytes))

abbrev pub receive : Statement
receive = statement.Call (call.Come part.Receive)

abbrev pub sum : ℕ → Statement
sum v = statement.Call (call.Come (part.Sum (pos v)))

-- an entry of a node, and the bytes of a region at the end
abbrev pub by : ℕ → What → Entry
by node what = record { node = node; what = what }

abbrev pub holds : Name → List ℕ → FinalRegion
holds name bytes = record { name = name; bytes = bytes }

-- The run that a script of so many nodes, with so many names in each cache, and an order choose has this report.
pub record Gives (count capacity : ℕ) (blocks : List (List Statement)) (words : ℕ → ℕ) (expected : Reported) : Type 0 where
  pub end : Running
  pub chosen : IsChosen count capacity blocks words end
  pub reported : report end ≡ expected

-- After so many turns of such a run of two nodes, each node's lines in the account are those of its calls with their answers.
abbrev pub run_of_two : List (List Statement) → (ℕ → ℕ) → ℕ → Running
run_of_two blocks words turns = turns_from words 1 turns (running 2 16 blocks)

abbrev pub IsTold : ℕ → Running → Type 0
IsTold n end = AreLinesOf n (talk n (new_world 2 16) end.events) (lines_of_node n end.entries)

pub record TwoAreTold (blocks : List (List Statement)) (words : ℕ → ℕ) (turns : ℕ) : Type 0 where
  pub first : IsTold 0 (run_of_two blocks words turns)
  pub second : IsTold 1 (run_of_two blocks words turns)
