-- By what the pieces of a message are told from those of others.
use Rattle.std.specs.Prelude.{ℕ, Bool, true, false, List}
use Rattle.std.specs.declared.option.Option.{Option}
use Rattle.std.specs.declared.option.Option.TheVariants.{None, Some}
use Rattle.crl_model.specs.declared.message.Granted.{Granted}
use Rattle.crl_model.specs.declared.message.Granted.TheVariants.{Shared, Exclusive, Upgrade}
use Rattle.crl_model.specs.declared.message.Kind.{Kind}
use Rattle.crl_model.specs.declared.message.Kind.TheVariants as kind
use Rattle.crl_protocol.specs.Parcels.{Load, OfGrant, OfReturn, OfRelease, Key}
use Rattle.crl_parcels.specs.declared.key.LoadKind.{LoadKind}
use Rattle.crl_parcels.specs.declared.key.LoadKind.TheVariants as load
use Rattle.crl_parcels.specs.declared.key.ParcelKey.{ParcelKey}

abbrev pub load_named : LoadKind → Load
load_named load.Grant = OfGrant
load_named load.Return = OfReturn
load_named load.Release = OfRelease

abbrev pub key_of_parcel : ParcelKey → Key
key_of_parcel k = record { sender = k.sender; name = k.name; load = load_named k.load; version = k.version }

abbrev pub key_of_some : Option ParcelKey → Option Key
key_of_some None = None
key_of_some (Some k) = Some (key_of_parcel k)

-- the message is of a kind that carries bytes of a region
abbrev pub grant_has_load : Granted → Bool
grant_has_load (Shared bytes) = true
grant_has_load (Exclusive bytes) = true
grant_has_load Upgrade = false

abbrev pub return_has_load : Option (List ℕ) → Bool
return_has_load None = false
return_has_load (Some bytes) = true

abbrev pub has_load : Kind → Bool
has_load (kind.Grant name version granted) = grant_has_load granted
has_load (kind.Return name version bytes) = return_has_load bytes
has_load (kind.Release name version bytes) = true
has_load _ = false
