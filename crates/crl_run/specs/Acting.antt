-- What a node does for a statement, and the guards that it holds after it.
use Rattle.std.specs.Prelude.{◌≡◌, ◌+◌, ◌<◌, ◌^◌, true, false, List, [], length}
use Rattle.std.specs.declared.option.Option.{Option}
use Rattle.std.specs.declared.option.Option.TheVariants.{None, Some}
use Rattle.crl_model.specs.declared.call.Call as calls
use Rattle.crl_model.specs.declared.call.Call.TheVariants as call
use Rattle.crl_model.specs.declared.call.Refusal.{Refusal}
use Rattle.crl_model.specs.declared.statement.Statement.{Statement}
use Rattle.crl_model.specs.declared.statement.Statement.TheVariants as statement
use Rattle.crl_model.specs.Patches.{put_at}
use Rattle.crl_protocol.specs.Chosen.{with_sum}
use Rattle.crl_talk.specs.Guards.{Given}
use Rattle.crl_run.specs.declared.act.Act.{Act}
use Rattle.crl_run.specs.declared.act.Act.TheVariants as act
use Rattle.crl_run.specs.Players.{newest, guards_without, guards_with, IsOfKind, CanChange}

-- The call of a statement that is refused, or that isn't the end of a section. An end of a write section that is
-- refused brings no bytes.
abbrev pub plain_call : Statement → calls.Call
plain_call (statement.Call (call.EndWrite name after)) = call.EndWrite name []
plain_call (statement.Call c) = c
plain_call (statement.Put name offset bytes) = call.Put name offset (length bytes)
plain_call (statement.Add name offset number) = call.Add name offset

-- the bytes of a change are few enough for a call
abbrev pub IsShort : Statement → Type 0
IsShort (statement.Call c) = Unit {0}
IsShort (statement.Put name offset bytes) = length bytes < 2 ^ 32
IsShort (statement.Add name offset number) = Unit {0}

-- A statement that isn't refused and that needs a guard finds one.
abbrev pub CanAct : Option Refusal → Statement → List Given → Type 0
CanAct (Some why) s guards = Unit {0}
CanAct None (statement.Call (call.EndRead name)) guards = IsOfKind false (newest name guards)
CanAct None (statement.Call (call.EndWrite name after)) guards = IsOfKind true (newest name guards)
CanAct None (statement.Call c) guards = Unit {0}
CanAct None (statement.Put name offset bytes) guards = CanChange (offset + length bytes) (newest name guards)
CanAct None (statement.Add name offset number) guards = CanChange (offset + 8) (newest name guards)

-- the guard that is spent
abbrev pub guard_spent : Act → Option Given
guard_spent (act.Call c) = None
guard_spent (act.EndRead guard) = Some (record { write = false; guard = guard })
guard_spent (act.EndWrite guard) = Some (record { write = true; guard = guard })
guard_spent act.Inside = None

-- For a statement with this verdict the node does this, and holds these guards after it: the end of a section spends its
-- newest guard, a change is made on the guard's bytes, and anything else is a call.
abbrev pub Acts : Option Refusal → Statement → List Given → Act → List Given → Type 0
Acts (Some why) s old a new = (a ≡ act.Call (plain_call s)) × (new ≡ old)
Acts None (statement.Call (call.EndRead name)) old a new = (guard_spent a ≡ newest name old) × (new ≡ guards_without name old)
Acts None (statement.Call (call.EndWrite name after)) old a new = (guard_spent a ≡ newest name old) × (new ≡ guards_without name old)
Acts None (statement.Call c) old a new = (a ≡ act.Call c) × (new ≡ old)
Acts None (statement.Put name offset bytes) old a new = (a ≡ act.Inside) × (new ≡ guards_with name (put_at offset bytes) old)
Acts None (statement.Add name offset number) old a new = (a ≡ act.Inside) × (new ≡ guards_with name (with_sum offset number) old)
