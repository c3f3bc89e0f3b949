-- The sections that are open at a node, by the guards that it was given and the calls by which it ended them.
use Rattle.std.specs.Prelude.{◌≡◌, ℕ, ◌+◌, ◌≤◌, Bool, true, false, ◌&&◌, if◌then◌else◌, List, [], ◌∷◌, ◌++◌}
use Rattle.std.specs.declared.option.Option.{Option}
use Rattle.std.specs.declared.option.Option.TheVariants.{None, Some}
use Rattle.crl_model.specs.declared.name.Name.{Name}
use Rattle.crl_model.specs.declared.call.Call.{Call}
use Rattle.crl_model.specs.declared.call.Call.TheVariants as call
use Rattle.crl_model.specs.declared.directory.Section.TheVariants as section
use Rattle.crl_model.specs.declared.entry.What.TheVariants as what
use Rattle.crl_model.specs.declared.event.Event.TheVariants as event
use Rattle.crl_model.specs.Names.{name_eq}
use Rattle.crl_protocol.specs.Sections.{Guard, OpenSection}
use Rattle.crl_protocol.specs.Node.{Answer, Reading, Writing, Done, Activity, Ready, entry_of}
use Rattle.crl_protocol.specs.Talk.{Heard, Called, Collected}
use Rattle.crl_protocol.specs.Verdict.{verdict}
use Rattle.crl_protocol.specs.World.{World, is_enabled}
use Rattle.crl_deeds.specs.Entries.{entries_at}

-- a guard that a node was given, to read or to write
pub record Given : Type 0 where
  pub write : Bool
  pub guard : Guard

-- the guard of the region that an answer gives
abbrev pub given_of : Name → Answer → List Given
given_of q (Reading guard) = if name_eq guard.name q then record { write = false; guard = guard } ∷ [] else []
given_of q (Writing guard) = if name_eq guard.name q then record { write = true; guard = guard } ∷ [] else []
given_of q _ = []

-- the one that a node that is ready has yet to be given
abbrev pub given_yet : Name → Activity → List Given
given_yet q (Ready answer) = given_of q answer
given_yet q _ = []

-- a call that ended a section of the region
abbrev pub ends_section : Name → Call → Bool
ends_section q (call.EndRead name) = name_eq name q
ends_section q (call.EndWrite name after) = name_eq name q
ends_section q _ = false

abbrev pub is_done : Answer → Bool
is_done Done = true
is_done _ = false

-- Of the guards that a node was given of the region those whose sections it hasn't ended, the newest first. A section
-- that ends is the newest.
abbrev pub without_newest : List Given → List Given
without_newest [] = []
without_newest (g ∷ gs) = gs

abbrev pub held_after : Name → Heard → List Given → List Given
held_after q (Called c answer) gs = given_of q answer ++ (if is_done answer && ends_section q c then without_newest gs else gs)
held_after q (Collected answer) gs = given_of q answer ++ gs

abbrev pub guards_held : Name → List Given → List Heard → List Given
guards_held q gs [] = gs
guards_held q gs (h ∷ hs) = guards_held q (held_after q h gs) hs

-- These guards of node n, the newest first, are those of the region's sections that are open there: one to write, or
-- several to read, inside each other. Those have one number, and the node's bytes are the outermost's.
pub data AreGuards (n : ℕ) : List Given → Option OpenSection → Type 0 where
  closed : AreGuards n [] None
  writing : (g : Guard) → g.node ≡ n → AreGuards n (record { write = true; guard = g } ∷ []) (Some (record { section = section.Writing; number = g.number; bytes = g.bytes }))
  reading : (g : Guard) → g.node ≡ n → AreGuards n (record { write = false; guard = g } ∷ []) (Some (record { section = section.Reading 1; number = g.number; bytes = g.bytes }))
  nested : (g : Guard) (gs : List Given) (count number : ℕ) (bytes : List ℕ) → g.node ≡ n → g.number ≡ number → 1 ≤ count → AreGuards n gs (Some (record { section = section.Reading count; number = number; bytes = bytes }))
      → AreGuards n (record { write = false; guard = g } ∷ gs) (Some (record { section = section.Reading (count + 1); number = number; bytes = bytes }))

-- Node n, which heard this: its open sections are those whose guards it was given and that it hasn't ended, and that of
-- the guard that it has yet to be given.
abbrev pub SectionsAreGuards : ℕ → World → List Heard → Type 0
SectionsAreGuards n w heard = (q : Name) → AreGuards n (given_yet q (w.nodes n).activity ++ guards_held q [] heard) ((w.nodes n).sections.records q)

-- the bytes with which the open section began: those of the outermost guard
abbrev pub bytes_held : List Given → List ℕ
bytes_held [] = []
bytes_held (g ∷ []) = g.guard.bytes
bytes_held (g ∷ (h ∷ gs)) = bytes_held (h ∷ gs)

-- What node n enters where it ends a section, after a run in which it heard this: the bytes that the guard gave it.
pub record EndsShowGuards (n : ℕ) (w : World) (heard : List Heard) : Type 0 where
  pub read : (q : Name) → is_enabled (event.Call n (call.EndRead q)) w ≡ true → verdict (w.nodes n) (call.EndRead q) ≡ None
      → entries_at (event.Call n (call.EndRead q)) w ≡ entry_of n (what.Read q (bytes_held (guards_held q [] heard))) ∷ []
  pub write : (q : Name) (after : List ℕ) → is_enabled (event.Call n (call.EndWrite q after)) w ≡ true → verdict (w.nodes n) (call.EndWrite q after) ≡ None
      → entries_at (event.Call n (call.EndWrite q after)) w ≡ entry_of n (what.Write q (bytes_held (guards_held q [] heard)) after) ∷ []
