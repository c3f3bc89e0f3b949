-- Which region an act forgets, whose copy goes back then, and what is readied for it.
use Rattle.std.specs.Prelude.{ℕ, ◌+◌, ◌==◌, ◌≡◌, ◌++◌, if◌then◌else◌}
use Rattle.std.specs.declared.option.Option.{Option}
use Rattle.std.specs.declared.option.Option.TheVariants.{None, Some}
use Rattle.crl_model.specs.declared.name.Name.{Name}
use Rattle.crl_pieces.specs.Pieces.{count}
use Rattle.crl_table.specs.Tables.{table_of}
use Rattle.crl_protocol.specs.Parcels.{pieces_in}
use Rattle.crl_protocol.specs.Lifetimes.{Mapping, cached_size, cache_with}
use Rattle.crl_protocol.specs.Node.{Node, Outcome, is_mine}
use Rattle.crl_remote.specs.RemotesState.{row_or}
use Rattle.crl_desk.specs.declared.desk.Desk.{Desk}
use Rattle.crl_desk.specs.Desks.{state, HasRoom}

-- the node after an outcome that records nothing
abbrev pub with_posts : Outcome → Node
with_posts o = record o.node { outbox = o.node.outbox ++ pieces_in o.posts }

-- the name that the node forgets if the last map of this one is undone
abbrev pub parted_name : Name → Mapping → Node → Option Name
parted_name name m n =
    if is_mine n name then None
    else if m.doomed then Some name
    else (cache_with n.capacity (record { name = name; size = m.size }) n.cache).evicted

-- the name that an unmap of this one forgets
abbrev pub unmapped_name : Name → Option Mapping → Node → Option Name
unmapped_name name None n = None
unmapped_name name (Some m) n = if m.count == 1 then parted_name name m n else None

-- the name that a purge of this one forgets
abbrev pub name_if : Name → Option ℕ → Option Name
name_if name None = None
name_if name (Some size) = Some name

abbrev pub purged_name : Name → Option Mapping → Node → Option Name
purged_name name (Some m) n = None
purged_name name None n = name_if name (cached_size name n.cache)

-- the size of the region that is forgotten, if there is one
abbrev pub forgotten_size : Option Name → Node → ℕ
forgotten_size None n = 0
forgotten_size (Some name) n = (row_or (n.remotes name)).size

-- paper for the copy of the region that may be forgotten, room for its pieces and one more, and for an entry and a note
pub record ForgetIsReady (forgotten : Option Name) (paper : ℕ) (d : Desk) : Type 0 where
  pub sized : paper ≡ forgotten_size forgotten (state d)
  pub room : HasRoom (count paper + 1) 1 1 d

-- for an unmap of the name, and for a purge of it
abbrev pub UnmapIsReady : Name → ℕ → Desk → Type 0
UnmapIsReady name paper d = ForgetIsReady (unmapped_name name (table_of d.maps name) (state d)) paper d

abbrev pub PurgeIsReady : Name → ℕ → Desk → Type 0
PurgeIsReady name paper d = ForgetIsReady (purged_name name (table_of d.maps name) (state d)) paper d
