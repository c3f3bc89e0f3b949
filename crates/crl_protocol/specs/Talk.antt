-- What a node hears in a run: its calls, each with its answer, and the entries that they stand for.
use Rattle.std.specs.Prelude.{◌≡◌, ℕ, ◌+◌, ◌*◌, ◌==◌, if◌then◌else◌, List, [], ◌∷◌, ◌++◌}
use Rattle.std.specs.declared.option.Option.{Option}
use Rattle.std.specs.declared.option.Option.TheVariants.{None, Some}
use Rattle.crl_model.specs.declared.call.Call.{Call}
use Rattle.crl_model.specs.declared.call.Call.TheVariants as call
use Rattle.crl_model.specs.declared.call.Refusal.{Refusal}
use Rattle.crl_model.specs.declared.call.Refusal.TheVariants.{Mixed}
use Rattle.crl_model.specs.declared.collective.Part.{Part}
use Rattle.crl_model.specs.declared.entry.Entry.{Entry}
use Rattle.crl_model.specs.declared.entry.Place.{Place}
use Rattle.crl_model.specs.declared.entry.Place.TheVariants.{Region, Round}
use Rattle.crl_model.specs.declared.entry.What.{What}
use Rattle.crl_model.specs.declared.entry.What.TheVariants as what
use Rattle.crl_model.specs.declared.event.Event.{Event}
use Rattle.crl_model.specs.declared.event.Event.TheVariants as event
use Rattle.crl_protocol.specs.Node.{Answer, Made, Mapped, Reading, Writing, Done, Came, Refused, Wait}
use Rattle.crl_protocol.specs.Verdict.{word_of}
use Rattle.crl_model.specs.declared.name.Name.{Name}
use Rattle.crl_model.specs.Names.{name_eq}
use Rattle.crl_pieces.specs.Pieces.{count}
use Rattle.crl_protocol.specs.World.{World, new_world, step}

-- a call or a collect of a node, with the answer that it has at this event
pub data Heard : Type 0 where
  Called : (call : Call) (answer : Answer) → Heard
  Collected : (answer : Answer) → Heard

-- of the events from this world on, those of node n
abbrev pub hears_of : ℕ → Event → Answer → List Heard
hears_of n (event.Call i c) answer = if i == n then Called c answer ∷ [] else []
hears_of n (event.Collect i) answer = if i == n then Collected answer ∷ [] else []
hears_of n (event.Handle i place) answer = []
hears_of n (event.Carry i place) answer = []

abbrev pub hears : ℕ → World → List Event → List Heard
hears n w [] = []
hears n w (e ∷ es) = hears_of n e (step e w).answer ++ hears n (step e w).world es

-- A node's calls, each with its answer: the call's own, or the one that was collected after it. The last call
-- may have none yet.
pub record ToldCall : Type 0 where
  pub call : Call
  pub answer : Option Answer

abbrev pub next_collected : List Heard → Option Answer
next_collected [] = None
next_collected (Called c answer ∷ hs) = None
next_collected (Collected answer ∷ hs) = Some answer

abbrev pub answer_to : Answer → List Heard → Option Answer
answer_to Wait hs = next_collected hs
answer_to answer hs = Some answer

abbrev pub calls_told : List Heard → List ToldCall
calls_told [] = []
calls_told (Called c answer ∷ hs) = record { call = c; answer = answer_to answer hs } ∷ calls_told hs
calls_told (Collected answer ∷ hs) = calls_told hs

abbrev pub talk : ℕ → World → List Event → List ToldCall
talk n w es = calls_told (hears n w es)

-- The lines of node n's call with this answer. Call and answer don't fix the bytes with which a section began, the
-- serial of a refused create, and the round of a refused collective call: there some line of the form is meant.
abbrev pub IsPlaceOf : ℕ → Call → Place → Type 0
IsPlaceOf n (call.Create size) (Region name) = name.home ≡ n
IsPlaceOf n (call.Delete q) place = place ≡ Region q
IsPlaceOf n (call.Map q) place = place ≡ Region q
IsPlaceOf n (call.Unmap q) place = place ≡ Region q
IsPlaceOf n (call.StartRead q) place = place ≡ Region q
IsPlaceOf n (call.EndRead q) place = place ≡ Region q
IsPlaceOf n (call.StartWrite q) place = place ≡ Region q
IsPlaceOf n (call.EndWrite q after) place = place ≡ Region q
IsPlaceOf n (call.Put q offset len) place = place ≡ Region q
IsPlaceOf n (call.Add q offset) place = place ≡ Region q
IsPlaceOf n (call.Flush q) place = place ≡ Region q
IsPlaceOf n (call.Come part) (Round round) = Unit {0}
IsPlaceOf n _ _ = ⊥

-- a refused call has one line
abbrev pub AreRefused : ℕ → Call → Refusal → List What → Type 0
AreRefused n c why lines = (place : Place) × IsPlaceOf n c place × (lines ≡ what.Refused (word_of c) place why ∷ [])

-- a collective call has two, the second of them its result, or its refusal where the parts don't agree
abbrev pub AreRound : ℕ → Part → Answer → List What → Type 0
AreRound n part (Came round fold) lines = lines ≡ what.Come part ∷ what.Came round fold ∷ []
AreRound n part (Refused Mixed) lines =
    (round : ℕ) × (lines ≡ what.Come part ∷ what.Refused (word_of (call.Come part)) (Round round) Mixed ∷ [])
AreRound n part (Refused why) lines = AreRefused n (call.Come part) why lines
AreRound n part _ lines = ⊥

abbrev pub AreLines : ℕ → Call → Answer → List What → Type 0
AreLines n (call.Come part) answer lines = AreRound n part answer lines
AreLines n c (Refused why) lines = AreRefused n c why lines
AreLines n (call.Create size) (Made name) lines = lines ≡ what.Create name size ∷ []
AreLines n (call.Delete name) Done lines = lines ≡ what.Deleting name ∷ what.Deleted name ∷ []
AreLines n (call.Map name) (Mapped q size) lines = (q ≡ name) × (lines ≡ what.Map name size ∷ [])
AreLines n (call.Unmap name) Done lines = lines ≡ what.Unmap name ∷ []
AreLines n (call.StartRead name) (Reading guard) lines = (guard.name ≡ name) × (lines ≡ what.StartRead name ∷ [])
AreLines n (call.EndRead name) Done lines = (seen : List ℕ) × (lines ≡ what.Read name seen ∷ [])
AreLines n (call.StartWrite name) (Writing guard) lines = (guard.name ≡ name) × (lines ≡ what.StartWrite name ∷ [])
AreLines n (call.EndWrite name after) Done lines = (before : List ℕ) × (lines ≡ what.Write name before after ∷ [])
AreLines n (call.Flush name) Done lines = lines ≡ what.Flush name ∷ []
AreLines n _ _ lines = ⊥

-- The lines of a node's calls, in order. Of a call that isn't answered yet a part of the lines may stand.
abbrev pub ArePart : ℕ → Call → List What → Type 0
ArePart n c front = (answer : Answer) × (rest : List What) × AreLines n c answer (front ++ rest)

pub data AreLinesOf (n : ℕ) : List ToldCall → List What → Type 0 where
  nothing : AreLinesOf n [] []
  answered : {calls : List ToldCall} {lines : List What} (c : Call) (answer : Answer) (its : List What)
      → AreLines n c answer its → AreLinesOf n calls lines → AreLinesOf n (record { call = c; answer = Some answer } ∷ calls) (its ++ lines)
  waiting : (c : Call) (its : List What) → ArePart n c its → AreLinesOf n (record { call = c; answer = None } ∷ []) its

-- the lines of node n in an account
abbrev pub lines_of_node : ℕ → List Entry → List What
lines_of_node n [] = []
lines_of_node n (e ∷ es) = if e.node == n then e.what ∷ lines_of_node n es else lines_of_node n es

-- The size with which an account creates a region, and into how many pieces its bytes are cut: as if it had one byte
-- where no create of it stands.
abbrev pub size_in : Name → What → Option ℕ → Option ℕ
size_in q (what.Create name size) behind = if name_eq name q then Some size else behind
size_in q _ behind = behind

abbrev pub created_size : Name → List Entry → Option ℕ
created_size q [] = None
created_size q (e ∷ es) = size_in q e.what (created_size q es)

abbrev pub pieces_or_one : Option ℕ → ℕ
pieces_or_one None = 1
pieces_or_one (Some size) = count size

abbrev pub created_pieces : Name → List Entry → ℕ
created_pieces q es = pieces_or_one (created_size q es)

-- The most messages that a run may send, by its calls and the entries before each of them: for a section three and three
-- for each piece of the region, two for each map and each collective call, and two per node for each delete.
abbrev pub bound_of : ℕ → List Entry → Call → ℕ
bound_of nodes before (call.StartRead name) = 3 + 3 * created_pieces name before
bound_of nodes before (call.StartWrite name) = 3 + 3 * created_pieces name before
bound_of nodes before (call.Map name) = 2
bound_of nodes before (call.Delete name) = 2 * nodes
bound_of nodes before (call.Come part) = 2
bound_of nodes before _ = 0

abbrev pub bound_at : ℕ → List Entry → Event → ℕ
bound_at nodes before (event.Call i c) = bound_of nodes before c
bound_at nodes before _ = 0

abbrev pub bound_from : World → List Entry → List Event → ℕ
bound_from w before [] = 0
bound_from w before (e ∷ es) = bound_at w.count before e + bound_from (step e w).world (before ++ (step e w).entries) es

abbrev pub bound : ℕ → ℕ → List Event → ℕ
bound nodes capacity run = bound_from (new_world nodes capacity) [] run
