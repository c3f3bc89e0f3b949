-- The tests that a message about copies, and a piece of one, meet where they come.
use Rattle.std.specs.Prelude.{◌≡◌, ℕ, true, false}
use Rattle.std.specs.declared.option.Option.{Option}
use Rattle.std.specs.declared.option.Option.TheVariants.{Some}
use Rattle.crl_model.specs.declared.message.Kind.{Kind}
use Rattle.crl_model.specs.declared.message.Kind.TheVariants as kind
use Rattle.crl_pieces.specs.Pieces.{is_missing}
use Rattle.crl_protocol.specs.Home.{Home, return_fits, release_fits}
use Rattle.crl_protocol.specs.Remote.{Remote, grant_fits}
use Rattle.crl_protocol.specs.Node.{Node, home_of}
use Rattle.crl_protocol.specs.Handlers.{is_queued_in}
use Rattle.crl_protocol.specs.Parcels.{Piece, Key, slots_or, fits_size}
use Rattle.crl_protocol.specs.Receiving.{size_for}

abbrev pub HasTable : Option Home → Type 0
HasTable o = (h : Home) × (o ≡ Some h)

-- At its addressee the message finds the region and meets the handler's test. A recall or a yield has no test, and may
-- find that the region was forgotten.
abbrev pub MeetsTest : Node → ℕ → Kind → Type 0
MeetsTest n from (kind.Ask name write have) = HasTable (home_of n name) × (is_queued_in from n.homes ≡ false)
MeetsTest n from (kind.Grant name version granted) = (r : Remote) × (n.remotes name ≡ Some r) × (grant_fits granted r ≡ true)
MeetsTest n from (kind.Return name version bytes) = (h : Home) × (home_of n name ≡ Some h) × (return_fits from version bytes h ≡ true)
MeetsTest n from (kind.Release name version bytes) = (h : Home) × (home_of n name ≡ Some h) × (release_fits bytes h ≡ true)
MeetsTest n from _ = Unit {0}

-- The piece is taken in: the node knows the size of its message, which it fits, and hasn't got it yet.
pub record PieceFits (n : Node) (p : Piece) (key : Key) : Type 0 where
  pub size : ℕ
  pub known : size_for key.load key.name n ≡ Some size
  pub fits : fits_size size p ≡ true
  pub missing : is_missing p.index (slots_or p.pieces (n.parcels key)) ≡ true
