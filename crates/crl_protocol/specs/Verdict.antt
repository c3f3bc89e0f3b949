-- What a node knows at once of a call: the first of the reasons for which it is refused.
use Rattle.std.specs.Prelude.{ℕ, ◌+◌, ◌==◌, nat_lt, Bool, true, false, not, ◌||◌, if◌then◌else◌, [], ◌∷◌, ◌++◌, length}
use Rattle.std.specs.declared.option.Option.{Option}
use Rattle.std.specs.declared.option.Option.TheVariants.{None, Some}
use Rattle.crl_model.specs.declared.TheConstants.{REGION_LIMIT, BROADCAST_LIMIT}
use Rattle.crl_model.specs.declared.name.Name.{Name}
use Rattle.crl_model.specs.declared.stage.Stage.{Stage}
use Rattle.crl_model.specs.declared.stage.Stage.TheVariants as stage
use Rattle.crl_model.specs.declared.directory.Section.{Section}
use Rattle.crl_model.specs.declared.collective.Part.{Part}
use Rattle.crl_model.specs.declared.collective.Part.TheVariants as part
use Rattle.crl_model.specs.declared.call.Call.{Call}
use Rattle.crl_model.specs.declared.call.Call.TheVariants as call
use Rattle.crl_model.specs.declared.call.CallKind.{CallKind}
use Rattle.crl_model.specs.declared.call.CallKind.TheVariants as kind
use Rattle.crl_model.specs.declared.call.Refusal.{Refusal}
use Rattle.crl_model.specs.declared.call.Refusal.TheVariants.{BadSize, NamesSpent, Unknown, Deleted, NotMapped, SectionOpen, NotReading, NotWriting, InSection, OutOfRange, WrongSize, TooMany}
use Rattle.crl_model.specs.declared.entry.Place.{Place}
use Rattle.crl_model.specs.declared.entry.Place.TheVariants.{Region, Round}
use Rattle.crl_model.specs.declared.entry.What.TheVariants as what
use Rattle.crl_model.specs.Calls.{kind_of}
use Rattle.crl_protocol.specs.Lifetimes.{Mapping, cached_size}
use Rattle.crl_protocol.specs.Sections.{section_at, count_of, is_writing}
use Rattle.crl_protocol.specs.Remote.{is_closed}
use Rattle.crl_protocol.specs.Node.{Node, Outcome, Refused, COUNT_LIMIT, serials_used, is_mine, lifetime_of, map_count, is_real, entry_of}

-- the first reason of two
abbrev pub else_if : Option Refusal → Option Refusal → Option Refusal
else_if None second = second
else_if (Some why) second = Some why

abbrev pub refuse_if : Bool → Refusal → Option Refusal
refuse_if b why = if b then Some why else None

-- of a name that has to be there: the home knows by its stage
abbrev pub by_stage : Stage → Option Refusal
by_stage stage.Unknown = Some Unknown
by_stage stage.Live = None
by_stage (stage.Going deleter) = Some Deleted
by_stage stage.Gone = Some Deleted

-- of a map where the region is mapped here, or isn't
abbrev pub of_more : ℕ → Option Refusal
of_more count = refuse_if (count == COUNT_LIMIT) TooMany

abbrev pub of_cached : Node → Name → Option ℕ → Option Refusal
of_cached n name (Some size) = None
of_cached n name None = refuse_if (not (is_real n name)) Unknown

abbrev pub of_mapped : Node → Name → Option Mapping → Option Refusal
of_mapped n name (Some m) = else_if (refuse_if m.doomed Deleted) (of_more m.count)
of_mapped n name None = of_cached n name (cached_size name n.cache)

abbrev pub of_map : Node → Name → Option Refusal
of_map n name =
    if is_mine n name then else_if (by_stage (lifetime_of n name).stage) (of_more (map_count (n.maps name)))
    else of_mapped n name (n.maps name)

abbrev pub of_delete : Node → Name → Option Refusal
of_delete n name = if is_mine n name then by_stage (lifetime_of n name).stage else refuse_if (not (is_real n name)) Unknown

abbrev pub of_create : Node → ℕ → Option Refusal
of_create n size = else_if (refuse_if ((size == 0) || nat_lt REGION_LIMIT size) BadSize) (refuse_if (serials_used n == COUNT_LIMIT) NamesSpent)

-- of a call about a region that has to be mapped
abbrev pub of_unmapped : Node → Name → Option Refusal
of_unmapped n name = refuse_if (map_count (n.maps name) == 0) NotMapped

abbrev pub of_open : Section → Option Refusal
of_open s = refuse_if (not (is_closed s)) InSection

abbrev pub of_start : Bool → Section → Option Refusal
of_start write s =
    if write then refuse_if (not (is_closed s)) SectionOpen
    else else_if (refuse_if (is_writing s) SectionOpen) (of_more (count_of s))

abbrev pub of_end : Bool → Section → Option Refusal
of_end write s = if write then refuse_if (not (is_writing s)) NotWriting else refuse_if (count_of s == 0) NotReading

abbrev pub mapped_size : Option Mapping → ℕ
mapped_size None = 0
mapped_size (Some m) = m.size

-- of a change of so many bytes from the offset on
abbrev pub of_change : Node → Name → ℕ → ℕ → Option Refusal
of_change n name offset len =
    else_if (of_end true (section_at name n.sections)) (refuse_if (nat_lt (mapped_size (n.maps name)) (offset + len)) OutOfRange)

abbrev pub of_part : Part → Option Refusal
of_part (part.Send bytes) = refuse_if ((length bytes == 0) || nat_lt BROADCAST_LIMIT (length bytes)) WrongSize
of_part part.Barrier = None
of_part part.Receive = None
of_part (part.Sum v) = None
of_part (part.Min v) = None
of_part (part.Max v) = None

-- The first reason for which the call is refused, as far as the node itself knows. Of a map or a delete of
-- another home's region the home may know another.
unfoldable pub verdict : Node → Call → Option Refusal
verdict n (call.Create size) = of_create n size
verdict n (call.Delete name) = of_delete n name
verdict n (call.Map name) = of_map n name
verdict n (call.Unmap name) = else_if (of_unmapped n name) (of_open (section_at name n.sections))
verdict n (call.StartRead name) = else_if (of_unmapped n name) (of_start false (section_at name n.sections))
verdict n (call.EndRead name) = else_if (of_unmapped n name) (of_end false (section_at name n.sections))
verdict n (call.StartWrite name) = else_if (of_unmapped n name) (of_start true (section_at name n.sections))
verdict n (call.EndWrite name after) = else_if (of_unmapped n name) (of_end true (section_at name n.sections))
verdict n (call.Put name offset len) = else_if (of_unmapped n name) (of_change n name offset len)
verdict n (call.Add name offset) = else_if (of_unmapped n name) (of_change n name offset 8)
verdict n (call.Flush name) = else_if (of_unmapped n name) (of_open (section_at name n.sections))
verdict n (call.Come part) = of_part part

-- the script's word of a call
abbrev pub word_of : Call → CallKind
word_of (call.Create size) = kind.Create
word_of (call.Delete name) = kind.Delete
word_of (call.Map name) = kind.Map
word_of (call.Unmap name) = kind.Unmap
word_of (call.StartRead name) = kind.Read
word_of (call.EndRead name) = kind.EndRead
word_of (call.StartWrite name) = kind.Write
word_of (call.EndWrite name after) = kind.EndWrite
word_of (call.Put name offset len) = kind.Put
word_of (call.Add name offset) = kind.Add
word_of (call.Flush name) = kind.Flush
word_of (call.Come part) = kind_of part

-- The serial of a refused create: the next one, which is used up with it, or 0 where all are.
abbrev pub refused_serial : Node → ℕ
refused_serial n = if serials_used n == COUNT_LIMIT then 0 else serials_used n + 1

-- what a refused call was about
abbrev pub place_of : Node → Call → Place
place_of n (call.Create size) = Region (record { home = n.me; serial = refused_serial n })
place_of n (call.Delete name) = Region name
place_of n (call.Map name) = Region name
place_of n (call.Unmap name) = Region name
place_of n (call.StartRead name) = Region name
place_of n (call.EndRead name) = Region name
place_of n (call.StartWrite name) = Region name
place_of n (call.EndWrite name after) = Region name
place_of n (call.Put name offset len) = Region name
place_of n (call.Add name offset) = Region name
place_of n (call.Flush name) = Region name
place_of n (call.Come part) = Round (n.rounds + 1)

abbrev pub uses_serial : Node → Node
uses_serial n = if serials_used n == COUNT_LIMIT then n else record n { homes = n.homes ++ None ∷ [] }

abbrev pub after_refusal : Call → Node → Node
after_refusal (call.Create size) n = uses_serial n
after_refusal (call.Delete name) n = n
after_refusal (call.Map name) n = n
after_refusal (call.Unmap name) n = n
after_refusal (call.StartRead name) n = n
after_refusal (call.EndRead name) n = n
after_refusal (call.StartWrite name) n = n
after_refusal (call.EndWrite name after) n = n
after_refusal (call.Put name offset len) n = n
after_refusal (call.Add name offset) n = n
after_refusal (call.Flush name) n = n
after_refusal (call.Come part) n = n

-- A refused call leaves its entry, and a refused create uses its serial.
unfoldable pub refuses_call : Refusal → Call → Node → Outcome
refuses_call why c n = record {
  node = after_refusal c n;
  answer = Refused why;
  entries = entry_of n.me (what.Refused (word_of c) (place_of n c) why) ∷ [];
  posts = [];
}
