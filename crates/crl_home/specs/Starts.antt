-- The home's own sections, the head of its queue, and what comes with a return.
use Rattle.std.specs.Prelude.{ℕ, ◌<◌, ◌≡◌, ◌&&◌, ◌||◌, Bool, true, false, not, List, [], ◌∷◌, length}
use Rattle.std.specs.declared.option.Option.{Option}
use Rattle.std.specs.declared.option.Option.TheVariants.{None, Some}
use Rattle.crl_model.specs.declared.directory.Section.{Section}
use Rattle.crl_model.specs.declared.directory.Section.TheVariants.{Closed, Reading, Writing}
use Rattle.crl_model.specs.declared.directory.Asked.{Asked}
use Rattle.crl_protocol.specs.Home.{Home, is_reading, is_empty, is_servable, own_ask, open_own, one_section_more}

-- the bytes, if there are any, have this size
abbrev pub HaveSize : Option (List ℕ) → ℕ → Type 0
HaveSize None size = Unit {0}
HaveSize (Some bytes) size = length bytes ≡ size

-- fewer read sections are open than so many
abbrev pub ReadsBelow : ℕ → Section → Type 0
ReadsBelow limit Closed = Unit {0}
ReadsBelow limit (Reading count) = count < limit
ReadsBelow limit Writing = Unit {0}

-- the ask stands at the head
abbrev pub IsHead : Asked → List Asked → Type 0
IsHead ask [] = ⊥
IsHead ask (first ∷ queue) = first ≡ ask

abbrev pub head_of : List Asked → Option Asked
head_of [] = None
head_of (first ∷ queue) = Some first

abbrev pub behind_head : List Asked → List Asked
behind_head [] = []
behind_head (first ∷ queue) = queue

-- a section opens at once inside other read sections, or if nothing stands in its way
abbrev pub opens_inside : Bool → Home → Bool
opens_inside write h = not write && is_reading h.mine

abbrev pub opens_first : ℕ → Bool → Home → Bool
opens_first me write h = is_empty h.queue && is_servable h (own_ask me write)

-- whether it opened at once, and the table then
pub record OpensNow (me : ℕ) (write : Bool) (old new : Home) (opened : Bool) : Type 0 where
  pub whether : opened ≡ (opens_inside write old || opens_first me write old)
  pub inside : opens_inside write old ≡ true → new ≡ record old { mine = one_section_more old.mine }
  pub first : opens_inside write old ≡ false → opens_first me write old ≡ true → new ≡ open_own old (own_ask me write)
  pub waits : opened ≡ false → new ≡ old
