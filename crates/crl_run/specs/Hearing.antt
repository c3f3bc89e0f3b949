-- The guards that a node holds are those that it was given and whose sections it hasn't ended.
use Rattle.std.specs.Prelude.{◌≡◌, false, ◌&&◌, if◌then◌else◌, List, [], ◌∷◌, length}
use Rattle.std.specs.List.{AllByRecursion}
use Rattle.crl_model.specs.declared.name.Name.{Name}
use Rattle.crl_protocol.specs.Talk.{Heard}
use Rattle.crl_model.specs.declared.call.Call.{Call}
use Rattle.crl_protocol.specs.Node.{Answer}
use Rattle.crl_talk.specs.Guards.{Given, is_done, ends_section, without_newest, guards_held, bytes_held}
use Rattle.crl_run.specs.Actors.{guards_of}

-- The guard is the one that was given; in a write section its bytes may have changed.
pub record IsLike (g h : Given) : Type 0 where
  pub write : g.write ≡ h.write
  pub node : g.guard.node ≡ h.guard.node
  pub name : g.guard.name ≡ h.guard.name
  pub number : g.guard.number ≡ h.guard.number
  pub size : length g.guard.bytes ≡ length h.guard.bytes
  pub read : g.write ≡ false → g.guard.bytes ≡ h.guard.bytes

abbrev pub AreLike : List Given → List Given → Type 0
AreLike [] [] = Unit {0}
AreLike (g ∷ gs) (h ∷ hs) = IsLike g h × AreLike gs hs
AreLike _ _ = ⊥

-- the guards of read sections inside each other show the same bytes
abbrev pub AreShown : List Given → Type 0
AreShown gs = AllByRecursion (λ (g : Given). g.write ≡ false → g.guard.bytes ≡ bytes_held gs) gs

-- A node that heard this holds these guards.
pub record HoldsHeard (heard : List Heard) (guards : List Given) : Type 0 where
  pub like : (q : Name) → AreLike (guards_of q guards) (guards_held q [] heard)
  pub shown : (q : Name) → AreShown (guards_held q [] heard)

-- A call with this answer: of the guards of each region the newest is spent, where the call ended its section.
abbrev pub Spends : Call → Answer → List Given → List Given → Type 0
Spends c answer old new = (q : Name) → AreLike (guards_of q new) (if is_done answer && ends_section q c then without_newest (guards_of q old) else guards_of q old)
