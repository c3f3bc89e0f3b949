-- The pieces that came to a node of messages of which some are missing.
use Rattle.std.specs.Prelude.{◌≡◌, ⊤, ℕ, if◌then◌else◌, List, [], ◌∷◌}
use Rattle.std.specs.declared.option.Option.{Option}
use Rattle.std.specs.declared.option.Option.TheVariants.{None, Some}
use Rattle.crl_pieces.specs.Gathering.{Gathering}
use Rattle.crl_protocol.specs.Parcels.{Key, key_eq, PartsGathered}
use Rattle.crl_parcels.specs.declared.parcel.Parcel.{Parcel}
use Rattle.crl_parcels.specs.ParcelKeys.{key_of_parcel}

-- what came, by key, and how many more messages there is room for
pub record ParcelsState : Type 0 where
  pub list : List Parcel
  pub room : ℕ

-- what came of the message with this key
abbrev pub gathering_in : Key → List Parcel → Option Gathering
gathering_in key [] = None
gathering_in key (p ∷ ps) = if key_eq key (key_of_parcel p.key) then Some p.gather else gathering_in key ps

abbrev pub slots_gathered : Option Gathering → Option (List (Option (List ℕ)))
slots_gathered None = None
slots_gathered (Some g) = Some g.slots

abbrev pub size_gathered : Option Gathering → Option ℕ
size_gathered None = None
size_gathered (Some g) = Some g.size

-- as the protocol sees it
abbrev pub parcels_of : ParcelsState → PartsGathered
parcels_of s key = slots_gathered (gathering_in key s.list)

-- how many bytes the messages carry
abbrev pub sizes_of : ParcelsState → Key → Option ℕ
sizes_of s key = size_gathered (gathering_in key s.list)

-- each key stands there at most once
abbrev pub AreApart : List Parcel → Type 0
AreApart [] = ⊤
AreApart (p ∷ ps) = (gathering_in (key_of_parcel p.key) ps ≡ None) × AreApart ps
