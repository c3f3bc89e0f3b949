-- What the home of a region and another node tell each other of the copies. The region's name is left out:
-- all of a step's mail is about one region.
use Rattle.std.specs.Prelude.{ℕ, List, Bool}
use Rattle.std.specs.declared.option.Option.{Option}
use Rattle.crl_model.specs.declared.name.Name.{Name}
use Rattle.crl_model.specs.declared.message.Granted.{Granted}
use Rattle.crl_model.specs.declared.message.Kind.{Kind}
use Rattle.crl_model.specs.declared.message.Kind.TheVariants as kind

pub data Mail : Type 0 where
  -- to the home: for a copy to write or to read, with the version of the shared copy that is here, else 0
  Ask : (write : Bool) (have : ℕ) → Mail
  -- from the home: a copy of this version
  Grant : (version : ℕ) (granted : Granted) → Mail
  -- from the home: the copy is wanted back, or is to become a shared one
  Recall : (version : ℕ) → Mail
  Yield : (version : ℕ) → Mail
  -- to the home: the copy comes back, or became a shared one
  Return : (version : ℕ) (bytes : Option (List ℕ)) → Mail
  Release : (version : ℕ) (bytes : List ℕ) → Mail

-- mail of the home, with the node that it is for
pub record Letter : Type 0 where
  pub to : ℕ
  pub mail : Mail

-- the kind of the message that it is under the region's name
abbrev pub kind_about : Name → Mail → Kind
kind_about name (Ask write have) = kind.Ask name write have
kind_about name (Grant version granted) = kind.Grant name version granted
kind_about name (Recall version) = kind.Recall name version
kind_about name (Yield version) = kind.Yield name version
kind_about name (Return version bytes) = kind.Return name version bytes
kind_about name (Release version bytes) = kind.Release name version bytes
