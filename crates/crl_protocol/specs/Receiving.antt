-- What a node does with a piece that comes. With the last missing one the row of its message is done.
use Rattle.std.specs.Prelude.{ℕ, ◌&&◌, if◌then◌else◌, List}
use Rattle.std.specs.declared.option.Option.{Option}
use Rattle.std.specs.declared.option.Option.TheVariants.{None, Some}
use Rattle.crl_model.specs.declared.name.Name.{Name}
use Rattle.crl_pieces.specs.Pieces.{is_missing, with_piece, is_complete, joined}
use Rattle.crl_protocol.specs.Parcels.{Piece, load_of, with_load, Load, OfGrant, OfReturn, OfRelease, Key, key_of, slots_or, at_key, fits_size}
use Rattle.crl_protocol.specs.Home.{Home}
use Rattle.crl_protocol.specs.Remote.{Remote}
use Rattle.crl_protocol.specs.Node.{Node, Done, Outcome, only, home_of}
use Rattle.crl_protocol.specs.Handlers.{ignores, node_handles}

-- the size that the node knows of the region: that of its own side for a grant, else that of its home
abbrev pub remote_size : Option Remote → Option ℕ
remote_size None = None
remote_size (Some r) = Some r.size

abbrev pub home_size : Option Home → Option ℕ
home_size None = None
home_size (Some h) = Some h.size

abbrev pub size_for : Load → Name → Node → Option ℕ
size_for OfGrant name n = remote_size (n.remotes name)
size_for OfReturn name n = home_size (home_of n name)
size_for OfRelease name n = home_size (home_of n name)

abbrev pub slots_with : Piece → Option (List (Option (List ℕ))) → List (Option (List ℕ))
slots_with p o = with_piece p.index (load_of p.message.kind) (slots_or p.pieces o)

abbrev pub gathers_piece : Key → Piece → List (Option (List ℕ)) → Node → Outcome
gathers_piece key p slots n =
    if is_complete slots
    then node_handles p.message.sender (with_load (joined slots) p.message.kind) (record n { parcels = at_key n.parcels key None })
    else only (record n { parcels = at_key n.parcels key (Some slots) }) Done

abbrev pub receives_part : Key → Piece → Option ℕ → Node → Outcome
receives_part key p None n = ignores n
receives_part key p (Some size) n =
    if fits_size size p && is_missing p.index (slots_or p.pieces (n.parcels key))
    then gathers_piece key p (slots_with p (n.parcels key)) n
    else ignores n

abbrev pub receives_as : Option Key → Piece → Node → Outcome
receives_as None p n = node_handles p.message.sender p.message.kind n
receives_as (Some key) p n = receives_part key p (size_for key.load key.name n) n

abbrev pub receives : Piece → Node → Outcome
receives p n = receives_as (key_of p.message) p n
