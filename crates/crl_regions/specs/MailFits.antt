-- What mail about copies says of its region: it goes between its home and another node, and the region is there. And a
-- size that a node is told is the region's.
use Rattle.std.specs.Prelude.{◌≡◌, ℕ, ◌==◌, false, List}
use Rattle.std.specs.List.{AllByRecursion}
use Rattle.std.specs.declared.option.Option.{Option}
use Rattle.std.specs.declared.option.Option.TheVariants.{Some}
use Rattle.crl_model.specs.declared.name.Name.{Name}
use Rattle.crl_model.specs.declared.message.Told.{Told}
use Rattle.crl_model.specs.declared.message.Told.TheVariants as told
use Rattle.crl_model.specs.declared.message.Message.{Message}
use Rattle.crl_model.specs.declared.message.Kind.{Kind}
use Rattle.crl_model.specs.declared.message.Kind.TheVariants as kind
use Rattle.crl_protocol.specs.Home.{Home}
use Rattle.crl_safety.specs.Tests.{HasTable}

-- the tables of all regions that are there, by name
abbrev pub Tables : Type 0
Tables = Name → Option Home

abbrev pub HasSize : ℕ → Option Home → Type 0
HasSize size o = (h : Home) × (o ≡ Some h) × (h.size ≡ size)

abbrev pub ToldFits : Told → Option Home → Type 0
ToldFits (told.Live size) o = HasSize size o
ToldFits told.Unknown o = Unit {0}
ToldFits told.Deleted o = Unit {0}

abbrev pub IsToHome : Tables → Name → ℕ → ℕ → Type 0
IsToHome tables name from to = (name.home ≡ to) × ((from == name.home) ≡ false) × HasTable (tables name)

abbrev pub IsFromHome : Tables → Name → ℕ → ℕ → Type 0
IsFromHome tables name from to = (from ≡ name.home) × ((to == name.home) ≡ false) × HasTable (tables name)

abbrev pub FitsTables : Tables → ℕ → ℕ → Kind → Type 0
FitsTables tables from to (kind.Ask name write have) = IsToHome tables name from to
FitsTables tables from to (kind.Grant name version granted) = IsFromHome tables name from to
FitsTables tables from to (kind.Recall name version) = IsFromHome tables name from to
FitsTables tables from to (kind.Yield name version) = IsFromHome tables name from to
FitsTables tables from to (kind.Return name version bytes) = IsToHome tables name from to
FitsTables tables from to (kind.Release name version bytes) = IsToHome tables name from to
FitsTables tables from to (kind.InfoIs name t) = ToldFits t (tables name)
FitsTables tables from to _ = Unit {0}

abbrev pub MailFits : Tables → Message → Type 0
MailFits tables m = FitsTables tables m.sender m.addressee m.kind

abbrev pub AllMailFits : Tables → List Message → Type 0
AllMailFits tables messages = AllByRecursion (MailFits tables) messages
