-- The text of an account. Each entry is a line: words parted by one space, ended by a line feed. Numbers
-- are decimal, and bytes are two lower-case hexadecimal digits each.
use Rattle.std.specs.Prelude.{◌≡◌, ◌≢◌, ℕ, Bool, true, false, List, [], ◌∷◌, ◌++◌, codes, decimal}
use Rattle.std.specs.Fmt.{signed_decimal}
use Rattle.std.specs.List.{flat_map}
use Rattle.hex.specs.Hex.{encode_lower}
use Rattle.crl_model.specs.declared.name.Name.{Name}
use Rattle.crl_model.specs.declared.blocked.Blocked.{Blocked}
use Rattle.crl_model.specs.declared.blocked.Blocked.TheVariants as blocks
use Rattle.crl_model.specs.declared.report.FinalRegion.{FinalRegion}
use Rattle.crl_model.specs.Reports.{Reported}
use Rattle.crl_model.specs.declared.call.CallKind.{CallKind}
use Rattle.crl_model.specs.declared.call.CallKind.TheVariants as kinds
use Rattle.crl_model.specs.declared.call.Refusal.{Refusal}
use Rattle.crl_model.specs.declared.call.Refusal.TheVariants as refusals
use Rattle.crl_model.specs.declared.collective.Part.{Part}
use Rattle.crl_model.specs.declared.collective.Part.TheVariants as parts
use Rattle.crl_model.specs.declared.collective.Fold.{Fold}
use Rattle.crl_model.specs.declared.collective.Fold.TheVariants as folds
use Rattle.crl_model.specs.declared.entry.Entry.{Entry}
use Rattle.crl_model.specs.declared.entry.What.{What}
use Rattle.crl_model.specs.declared.entry.What.TheVariants as whats
use Rattle.crl_model.specs.declared.entry.Place.{Place}
use Rattle.crl_model.specs.declared.entry.Place.TheVariants as places

-- `home:serial`
abbrev pub name_text : Name → List ℕ
name_text name = decimal name.home ++ codes ":" ++ decimal name.serial

-- each word after one space
abbrev pub spaced : List (List ℕ) → List ℕ
spaced [] = []
spaced (word ∷ words) = codes " " ++ word ++ spaced words

-- the script's word for a call
abbrev pub call_word : CallKind → List ℕ
call_word kinds.Create = codes "create"
call_word kinds.Delete = codes "delete"
call_word kinds.Map = codes "map"
call_word kinds.Unmap = codes "unmap"
call_word kinds.Read = codes "read"
call_word kinds.EndRead = codes "endread"
call_word kinds.Write = codes "write"
call_word kinds.Put = codes "put"
call_word kinds.Add = codes "add"
call_word kinds.EndWrite = codes "endwrite"
call_word kinds.Flush = codes "flush"
call_word kinds.Barrier = codes "barrier"
call_word kinds.Send = codes "send"
call_word kinds.Receive = codes "receive"
call_word kinds.Sum = codes "sum"
call_word kinds.Min = codes "min"
call_word kinds.Max = codes "max"

abbrev pub refusal_word : Refusal → List ℕ
refusal_word refusals.BadSize = codes "BadSize"
refusal_word refusals.NamesSpent = codes "NamesSpent"
refusal_word refusals.Unknown = codes "Unknown"
refusal_word refusals.Deleted = codes "Deleted"
refusal_word refusals.NotMapped = codes "NotMapped"
refusal_word refusals.SectionOpen = codes "SectionOpen"
refusal_word refusals.NotReading = codes "NotReading"
refusal_word refusals.NotWriting = codes "NotWriting"
refusal_word refusals.InSection = codes "InSection"
refusal_word refusals.OutOfRange = codes "OutOfRange"
refusal_word refusals.WrongSize = codes "WrongSize"
refusal_word refusals.TooMany = codes "TooMany"
refusal_word refusals.Mixed = codes "Mixed"

-- a region's name, or a round's number
abbrev pub place_text : Place → List ℕ
place_text (places.Region name) = name_text name
place_text (places.Round round) = decimal round

-- the words of what a node brings to a round
abbrev pub part_words : Part → List (List ℕ)
part_words parts.Barrier = codes "barrier" ∷ []
part_words (parts.Send bytes) = codes "send" ∷ encode_lower bytes ∷ []
part_words parts.Receive = codes "receive" ∷ []
part_words (parts.Sum value) = codes "sum" ∷ signed_decimal value ∷ []
part_words (parts.Min value) = codes "min" ∷ signed_decimal value ∷ []
part_words (parts.Max value) = codes "max" ∷ signed_decimal value ∷ []

-- the words of what a round gives; no account that is read has the last
abbrev pub fold_words : ℕ → Fold → List (List ℕ)
fold_words round folds.Barrier = codes "barrier" ∷ decimal round ∷ []
fold_words round (folds.Broadcast bytes) = codes "broadcast" ∷ decimal round ∷ encode_lower bytes ∷ []
fold_words round (folds.Sum value) = codes "sum" ∷ decimal round ∷ signed_decimal value ∷ []
fold_words round (folds.Min value) = codes "min" ∷ decimal round ∷ signed_decimal value ∷ []
fold_words round (folds.Max value) = codes "max" ∷ decimal round ∷ signed_decimal value ∷ []
fold_words round folds.Mixed = codes "mixed" ∷ decimal round ∷ []

-- the words of an entry behind the number of its node
abbrev pub what_words : What → List (List ℕ)
what_words (whats.Create name size) = codes "create" ∷ name_text name ∷ decimal size ∷ []
what_words (whats.Map name size) = codes "map" ∷ name_text name ∷ decimal size ∷ []
what_words (whats.Unmap name) = codes "unmap" ∷ name_text name ∷ []
what_words (whats.StartRead name) = codes "startread" ∷ name_text name ∷ []
what_words (whats.Read name seen) = codes "read" ∷ name_text name ∷ encode_lower seen ∷ []
what_words (whats.StartWrite name) = codes "startwrite" ∷ name_text name ∷ []
what_words (whats.Write name before after) = codes "write" ∷ name_text name ∷ encode_lower before ∷ encode_lower after ∷ []
what_words (whats.Flush name) = codes "flush" ∷ name_text name ∷ []
what_words (whats.Deleting name) = codes "deleting" ∷ name_text name ∷ []
what_words (whats.Deleted name) = codes "deleted" ∷ name_text name ∷ []
what_words (whats.Come part) = codes "come" ∷ part_words part
what_words (whats.Came round fold) = fold_words round fold
what_words (whats.Refused kind place why) = codes "refused" ∷ call_word kind ∷ place_text place ∷ refusal_word why ∷ []

-- the line of an entry: its node, and what it says
abbrev pub entry_text : Entry → List ℕ
entry_text entry = decimal entry.node ++ spaced (what_words entry.what) ++ codes "\n"

-- the lines of the entries, in order
abbrev pub account_text : List Entry → List ℕ
account_text entries = flat_map entry_text entries

-- `region NAME BYTES`: what a region has at the end
abbrev pub region_text : Name → List ℕ → List ℕ
region_text name bytes = codes "region" ++ spaced (name_text name ∷ encode_lower bytes ∷ []) ++ codes "\n"

-- `stuck N NAME by HOLDER`: the node waits for a section of a region that another node has
abbrev pub stuck_section_text : ℕ → Name → ℕ → List ℕ
stuck_section_text node name holder = codes "stuck" ++ spaced (decimal node ∷ name_text name ∷ codes "by" ∷ decimal holder ∷ []) ++ codes "\n"

-- `stuck N round ROUND without ABSENT`: the node waits for a round to which another node hasn't come
abbrev pub stuck_round_text : ℕ → ℕ → ℕ → List ℕ
stuck_round_text node round absent = codes "stuck" ++ spaced (decimal node ∷ codes "round" ∷ decimal round ∷ codes "without" ∷ decimal absent ∷ []) ++ codes "\n"

-- `events E messages M`
abbrev pub counts_text : ℕ → ℕ → List ℕ
counts_text events messages = codes "events" ++ spaced (decimal events ∷ codes "messages" ∷ decimal messages ∷ []) ++ codes "\n"

-- a region that is there at the end, and what keeps a node waiting
abbrev pub final_text : FinalRegion → List ℕ
final_text region = region_text region.name region.bytes

abbrev pub blocked_text : Blocked → List ℕ
blocked_text (blocks.Region node name holder) = stuck_section_text node name holder
blocked_text (blocks.Round node round absent) = stuck_round_text node round absent

-- what is printed of a run
abbrev pub report_text : Reported → List ℕ
report_text report =
    account_text report.entries ++ flat_map final_text report.regions ++ flat_map blocked_text report.blocked ++ counts_text report.events report.messages

-- whether a refusal for this reason names a round
abbrev pub is_of_round : Refusal → Bool
is_of_round refusals.WrongSize = true
is_of_round refusals.Mixed = true
is_of_round _ = false

abbrev pub is_round : Place → Bool
is_round (places.Region name) = false
is_round (places.Round round) = true

abbrev pub IsPrintablePart : Part → Type 0
IsPrintablePart (parts.Send bytes) = bytes ≢ []
IsPrintablePart _ = Unit {0}

abbrev pub IsPrintableFold : Fold → Type 0
IsPrintableFold (folds.Broadcast bytes) = bytes ≢ []
IsPrintableFold folds.Mixed = ⊥
IsPrintableFold _ = Unit {0}

abbrev pub IsPrintableWhat : What → Type 0
IsPrintableWhat (whats.Read name seen) = seen ≢ []
IsPrintableWhat (whats.Write name before after) = (before ≢ []) × (after ≢ [])
IsPrintableWhat (whats.Come part) = IsPrintablePart part
IsPrintableWhat (whats.Came round fold) = IsPrintableFold fold
IsPrintableWhat (whats.Refused kind place why) = is_round place ≡ is_of_round why
IsPrintableWhat _ = Unit {0}

-- No list of bytes in it is empty, what its round gave isn't Mixed, and what was refused is about a round
-- exactly where the reason is WrongSize or Mixed.
abbrev pub IsPrintable : Entry → Type 0
IsPrintable entry = IsPrintableWhat entry.what
