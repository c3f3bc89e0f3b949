-- Messages that carry bytes of a region.
use Rattle.std.specs.Prelude.{ℕ, List, Some}
use Rattle.crl_model.specs.declared.name.Name.{Name}
use Rattle.crl_model.specs.declared.message.Granted.TheVariants.{Shared, Exclusive}
use Rattle.crl_model.specs.declared.message.Message.{Message}
use Rattle.crl_model.specs.declared.message.Kind.{Kind}
use Rattle.crl_model.specs.declared.message.Kind.TheVariants as kind
use Rattle.crl_outbox.specs.declared.cover.Cover.{Cover}
use Rattle.crl_outbox.specs.declared.cover.CoverKind.{CoverKind}
use Rattle.crl_outbox.specs.declared.cover.CoverKind.TheVariants.{SharedGrant, ExclusiveGrant, Return, Release}

abbrev pub kind_with : CoverKind → Name → ℕ → List ℕ → Kind
kind_with SharedGrant name version bytes = kind.Grant name version (Shared bytes)
kind_with ExclusiveGrant name version bytes = kind.Grant name version (Exclusive bytes)
kind_with Return name version bytes = kind.Return name version (Some bytes)
kind_with Release name version bytes = kind.Release name version bytes

-- the message under this cover with these bytes
abbrev pub message_with : Cover → List ℕ → Message
message_with cover bytes = record { sender = cover.sender; addressee = cover.addressee; kind = kind_with cover.kind cover.name cover.version bytes }
