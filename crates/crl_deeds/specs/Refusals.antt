-- Why a node refuses a call by itself: what it finds, by the reason.
use Rattle.std.specs.Prelude.{◌≡◌, ℕ, ◌==◌, nat_lt, ◌||◌, true, false, List, length}
use Rattle.std.specs.declared.option.Option.TheVariants.{Some}
use Rattle.crl_model.specs.declared.TheConstants.{REGION_LIMIT, BROADCAST_LIMIT}
use Rattle.crl_model.specs.declared.name.Name.{Name}
use Rattle.crl_model.specs.declared.stage.Stage.TheVariants as stage
use Rattle.crl_model.specs.declared.collective.Part.TheVariants as part
use Rattle.crl_model.specs.declared.call.Call.{Call}
use Rattle.crl_model.specs.declared.call.Call.TheVariants as call
use Rattle.crl_model.specs.declared.call.Refusal.{Refusal}
use Rattle.crl_model.specs.declared.call.Refusal.TheVariants as refusal
use Rattle.crl_model.specs.declared.message.Told.{Told}
use Rattle.crl_model.specs.declared.message.DeleteTold.{DeleteTold}
use Rattle.crl_protocol.specs.Lifetimes.{Mapping}
use Rattle.crl_protocol.specs.Remote.{is_closed}
use Rattle.crl_protocol.specs.Sections.{section_at, count_of, is_writing}
use Rattle.crl_protocol.specs.Node.{Node, COUNT_LIMIT, serials_used, is_mine, is_real, lifetime_of, map_count}
use Rattle.crl_deeds.specs.Deeds.{Unfit}

-- The calls about a region that has to be mapped, those of a write section, those where none may be open, and changes.
pub data NeedsMap : Call → Name → Type 0 where
  unmap : (q : Name) → NeedsMap (call.Unmap q) q
  start_read : (q : Name) → NeedsMap (call.StartRead q) q
  end_read : (q : Name) → NeedsMap (call.EndRead q) q
  start_write : (q : Name) → NeedsMap (call.StartWrite q) q
  end_write : (q : Name) (after : List ℕ) → NeedsMap (call.EndWrite q after) q
  put : (q : Name) (offset len : ℕ) → NeedsMap (call.Put q offset len) q
  add : (q : Name) (offset : ℕ) → NeedsMap (call.Add q offset) q
  flush : (q : Name) → NeedsMap (call.Flush q) q

pub data NeedsWriting : Call → Name → Type 0 where
  ends : (q : Name) (after : List ℕ) → NeedsWriting (call.EndWrite q after) q
  puts : (q : Name) (offset len : ℕ) → NeedsWriting (call.Put q offset len) q
  adds : (q : Name) (offset : ℕ) → NeedsWriting (call.Add q offset) q

pub data NeedsClosed : Call → Name → Type 0 where
  unmaps : (q : Name) → NeedsClosed (call.Unmap q) q
  flushes : (q : Name) → NeedsClosed (call.Flush q) q

pub data Changes : Call → Name → Type 0 where
  by_put : (q : Name) (offset len : ℕ) → Changes (call.Put q offset len) q
  by_add : (q : Name) (offset : ℕ) → Changes (call.Add q offset) q

abbrev pub IsMappedAt : Node → Name → Type 0
IsMappedAt n q = (map_count (n.maps q) == 0) ≡ false

pub data Refuses (n : Node) : Call → Refusal → Type 0 where
  bad_size : (size : ℕ) → ((size == 0) || nat_lt REGION_LIMIT size) ≡ true → Refuses n (call.Create size) refusal.BadSize
  names_spent : (size : ℕ) → (serials_used n == COUNT_LIMIT) ≡ true → Refuses n (call.Create size) refusal.NamesSpent
  -- a map and a delete: at the home by the stage, elsewhere where the mapping is doomed or the name unreal
  own_map : (q : Name) (why : Refusal) (t : Told) (d : DeleteTold) → is_mine n q ≡ true → Unfit (lifetime_of n q).stage why t d → Refuses n (call.Map q) why
  own_delete : (q : Name) (why : Refusal) (t : Told) (d : DeleteTold) → is_mine n q ≡ true → Unfit (lifetime_of n q).stage why t d → Refuses n (call.Delete q) why
  doomed_map : (q : Name) (m : Mapping) → is_mine n q ≡ false → n.maps q ≡ Some m → m.doomed ≡ true → Refuses n (call.Map q) refusal.Deleted
  unreal_map : (q : Name) → is_mine n q ≡ false → is_real n q ≡ false → Refuses n (call.Map q) refusal.Unknown
  unreal_delete : (q : Name) → is_mine n q ≡ false → is_real n q ≡ false → Refuses n (call.Delete q) refusal.Unknown
  too_many_own : (q : Name) → is_mine n q ≡ true → (lifetime_of n q).stage ≡ stage.Live → (map_count (n.maps q) == COUNT_LIMIT) ≡ true → Refuses n (call.Map q) refusal.TooMany
  too_many_maps : (q : Name) (m : Mapping) → is_mine n q ≡ false → n.maps q ≡ Some m → m.doomed ≡ false → (m.count == COUNT_LIMIT) ≡ true → Refuses n (call.Map q) refusal.TooMany
  -- calls about a region that has to be mapped
  not_mapped : (c : Call) (q : Name) → NeedsMap c q → (map_count (n.maps q) == 0) ≡ true → Refuses n c refusal.NotMapped
  section_open_read : (q : Name) → IsMappedAt n q → is_writing (section_at q n.sections) ≡ true → Refuses n (call.StartRead q) refusal.SectionOpen
  section_open_write : (q : Name) → IsMappedAt n q → is_closed (section_at q n.sections) ≡ false → Refuses n (call.StartWrite q) refusal.SectionOpen
  too_many_reads : (q : Name) → IsMappedAt n q → is_writing (section_at q n.sections) ≡ false → (count_of (section_at q n.sections) == COUNT_LIMIT) ≡ true → Refuses n (call.StartRead q) refusal.TooMany
  not_reading : (q : Name) → IsMappedAt n q → (count_of (section_at q n.sections) == 0) ≡ true → Refuses n (call.EndRead q) refusal.NotReading
  not_writing : (c : Call) (q : Name) → NeedsWriting c q → IsMappedAt n q → is_writing (section_at q n.sections) ≡ false → Refuses n c refusal.NotWriting
  in_section : (c : Call) (q : Name) → NeedsClosed c q → IsMappedAt n q → is_closed (section_at q n.sections) ≡ false → Refuses n c refusal.InSection
  out_of_range : (c : Call) (q : Name) → Changes c q → IsMappedAt n q → is_writing (section_at q n.sections) ≡ true → Refuses n c refusal.OutOfRange
  -- a broadcast
  wrong_size : (bytes : List ℕ) → ((length bytes == 0) || nat_lt BROADCAST_LIMIT (length bytes)) ≡ true → Refuses n (call.Come (part.Send bytes)) refusal.WrongSize
