-- What is ready for a call.
use Rattle.std.specs.Prelude.{◌≡◌, ℕ}
use Rattle.std.specs.declared.option.Option.TheVariants.{None, Some}
use Rattle.crl_model.specs.declared.name.Name.{Name}
use Rattle.crl_model.specs.declared.call.Call.{Call}
use Rattle.crl_model.specs.declared.call.Call.TheVariants as call
use Rattle.crl_model.specs.declared.collective.Part as parts
use Rattle.crl_protocol.specs.Verdict.{verdict}
use Rattle.crl_desk.specs.declared.desk.Desk.{Desk}
use Rattle.crl_desk.specs.Desks.{state, HasRoom}
use Rattle.crl_desk.specs.Kits.{IsSectionReady}
use Rattle.crl_naming.specs.Forgetting.{UnmapIsReady}
use Rattle.crl_naming.specs.Readied.{CreateIsReady, MapIsReady, RefuseIsReady}
use Rattle.crl_sectioning.specs.Acts.{IsFlushReady}
use Rattle.crl_meeting.specs.Meetings.{IsComeReady}
use Rattle.crl_node.specs.declared.kits.CallKit.{CallKit}
use Rattle.crl_node.specs.declared.kits.CallKit.TheVariants.{Refused, Taken}
use Rattle.crl_node.specs.declared.kits.TakenKit.{TakenKit}
use Rattle.crl_node.specs.declared.kits.TakenKit.TheVariants.{Create, Sheets, Section, Come}

-- a region of this size may be created with this kit
abbrev pub CreatesWith : ℕ → TakenKit → Desk → Type 0
CreatesWith size (Create home) d = CreateIsReady size home d
CreatesWith size _ d = ⊥

-- the region may be unmapped, or flushed
abbrev pub UnmapsWith : Name → TakenKit → Desk → Type 0
UnmapsWith name (Sheets sheets) d = UnmapIsReady name sheets d
UnmapsWith name _ d = ⊥

abbrev pub FlushesWith : Name → TakenKit → Desk → Type 0
FlushesWith name (Sheets sheets) d = IsFlushReady name sheets d
FlushesWith name _ d = ⊥

-- a section of the region may start
abbrev pub StartsWith : Name → TakenKit → Desk → Type 0
StartsWith name (Section kit) d = IsSectionReady name kit d
StartsWith name _ d = ⊥

-- the node may come with this part
abbrev pub ComesWith : parts.Part → TakenKit → Desk → Type 0
ComesWith part (Come noted kit) d = (noted ≡ part) × IsComeReady part kit d
ComesWith part _ d = ⊥

-- the call may be taken; the end of a section goes by its guard
abbrev pub TakesWith : Call → TakenKit → Desk → Type 0
TakesWith (call.Create size) kit d = CreatesWith size kit d
TakesWith (call.Delete name) kit d = HasRoom 64 2 1 d
TakesWith (call.Map name) kit d = MapIsReady name d
TakesWith (call.Unmap name) kit d = UnmapsWith name kit d
TakesWith (call.StartRead name) kit d = StartsWith name kit d
TakesWith (call.StartWrite name) kit d = StartsWith name kit d
TakesWith (call.Flush name) kit d = FlushesWith name kit d
TakesWith (call.Come part) kit d = ComesWith part kit d
TakesWith (call.EndRead name) kit d = ⊥
TakesWith (call.EndWrite name after) kit d = ⊥
TakesWith (call.Put name offset len) kit d = ⊥
TakesWith (call.Add name offset) kit d = ⊥

-- the call may be made: refused for this reason, or taken
abbrev pub IsCallReady : Call → CallKit → Desk → Type 0
IsCallReady c (Refused why) d = (verdict (state d) c ≡ Some why) × RefuseIsReady c d
IsCallReady c (Taken kit) d = (verdict (state d) c ≡ None) × TakesWith c kit d
