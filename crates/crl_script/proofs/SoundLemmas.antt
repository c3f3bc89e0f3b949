-- A statement that a line makes, of a region that the script creates.
use Rattle.std.proofs.Common.{◌≡◌, ◌<◌, ◌^◌, List, [], ◌∷◌}
use Rattle.std.specs.Prelude.{IfSome}
use Rattle.std.specs.List.{AllByRecursion}
use Rattle.crl_model.specs.declared.call.Call as calls
use Rattle.crl_model.specs.declared.call.Call.TheVariants as call
use Rattle.crl_model.specs.declared.statement.Statement.{Statement}
use Rattle.crl_model.specs.declared.statement.Statement.TheVariants.{Call, Put, Add}
use Rattle.crl_script.specs.Again.{IsCall, IsStatement, AllStatements, IsPart, IsSomeBytes, IsNamed, name_in, name_in_call}

abbrev pub IsSoundCall : List (List Statement) → calls.Call → Type 0
IsSoundCall blocks (call.Create size) = size < 2 ^ 32
IsSoundCall blocks (call.Delete name) = IsNamed blocks name
IsSoundCall blocks (call.Map name) = IsNamed blocks name
IsSoundCall blocks (call.Unmap name) = IsNamed blocks name
IsSoundCall blocks (call.StartRead name) = IsNamed blocks name
IsSoundCall blocks (call.EndRead name) = IsNamed blocks name
IsSoundCall blocks (call.StartWrite name) = IsNamed blocks name
IsSoundCall blocks (call.EndWrite name after) = IsNamed blocks name × (after ≡ [])
IsSoundCall blocks (call.Put name offset len) = ⊥
IsSoundCall blocks (call.Add name offset) = ⊥
IsSoundCall blocks (call.Flush name) = IsNamed blocks name
IsSoundCall blocks (call.Come part) = IsPart part

abbrev pub IsSound : List (List Statement) → Statement → Type 0
IsSound blocks (Call c) = IsSoundCall blocks c
IsSound blocks (Put name offset bytes) = IsNamed blocks name × (offset < 2 ^ 32) × IsSomeBytes bytes
IsSound blocks (Add name offset number) = IsNamed blocks name × (offset < 2 ^ 32) × (number < 2 ^ 64)

sound_call : (blocks : List (List Statement)) (c : calls.Call) → IsCall c → IfSome (name_in_call c) (IsNamed blocks) → IsSoundCall blocks c
sound_call blocks (call.Create size) h n = h
sound_call blocks (call.Delete name) h n = n
sound_call blocks (call.Map name) h n = n
sound_call blocks (call.Unmap name) h n = n
sound_call blocks (call.StartRead name) h n = n
sound_call blocks (call.EndRead name) h n = n
sound_call blocks (call.StartWrite name) h n = n
sound_call blocks (call.EndWrite name after) h n = (n, h)
sound_call blocks (call.Put name offset len) h n = h
sound_call blocks (call.Add name offset) h n = h
sound_call blocks (call.Flush name) h n = n
sound_call blocks (call.Come part) h n = h

sound : (blocks : List (List Statement)) (s : Statement) → IsStatement s → IfSome (name_in s) (IsNamed blocks) → IsSound blocks s
sound blocks (Call c) h n = sound_call blocks c h n
sound blocks (Put name offset bytes) h n = (n, h.0, h.1)
sound blocks (Add name offset number) h n = (n, h.0, h.1)

sound_block : (blocks : List (List Statement)) (ss : List Statement) → AllByRecursion IsStatement ss → AllByRecursion (λ s. IfSome (name_in s) (IsNamed blocks)) ss → AllByRecursion (IsSound blocks) ss
sound_block blocks [] h n = tt
sound_block blocks (s ∷ ss) h n = (sound blocks s h.0 n.0, sound_block blocks ss h.1 n.1)

-- each statement of these blocks
pub all_sound : (all blocks : List (List Statement)) → AllStatements blocks → AllByRecursion (λ block. AllByRecursion (λ s. IfSome (name_in s) (IsNamed all)) block) blocks
    → AllByRecursion (λ block. AllByRecursion (IsSound all) block) blocks
all_sound all [] h n = tt
all_sound all (block ∷ blocks) h n = (sound_block all block h.0 n.0, all_sound all blocks h.1 n.1)
