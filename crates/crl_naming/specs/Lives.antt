-- Who has a region, after one event.
use Rattle.std.specs.Prelude.{ℕ, Bool, List, [], ◌∷◌, ◌++◌, map, if◌then◌else◌}
use Rattle.crl_model.specs.declared.name.Name.{Name}
use Rattle.crl_model.specs.declared.call.CallKind.{CallKind}
use Rattle.crl_model.specs.declared.call.Refusal.{Refusal}
use Rattle.crl_model.specs.declared.entry.Entry.{Entry}
use Rattle.crl_model.specs.declared.entry.Place.TheVariants.{Region}
use Rattle.crl_model.specs.declared.entry.What.TheVariants as what
use Rattle.crl_model.specs.declared.message.Message.{Message}
use Rattle.crl_model.specs.declared.message.Kind.TheVariants as kind
use Rattle.crl_protocol.specs.Parcels.{pieces_in}
use Rattle.crl_protocol.specs.Lifetimes.{members, Lifetime, lifetime_with_asker, lifetime_begins_delete, lifetime_takes_purged}
use Rattle.crl_protocol.specs.Calls.{purges}
use Rattle.crl_protocol.specs.Node.{Node, is_mine, lifetime_of, with_lifetime, entry_of}

-- the node knows that this one asked for the region, if it is the region's home
abbrev pub with_asker : ℕ → Name → Node → Node
with_asker from name n = if is_mine n name then with_lifetime name (lifetime_with_asker from (lifetime_of n name)) n else n

-- the entry of a call that a home refuses
abbrev pub refused_entry : ℕ → CallKind → Name → Refusal → Entry
refused_entry from word name why = entry_of from (what.Refused word (Region name) why)

-- the lifetime of the region once its delete has begun
abbrev pub lifetime_in_delete : ℕ → Name → Node → Lifetime
lifetime_in_delete deleter name n = lifetime_begins_delete n.nodes deleter (lifetime_of n name)

-- the lifetime of the region once this node parted with it
abbrev pub lifetime_without : ℕ → Name → Node → Lifetime
lifetime_without from name n = lifetime_takes_purged n.nodes from (lifetime_of n name)

-- what a node is told whose region is purged
abbrev pub purge_to : ℕ → Name → ℕ → Message
purge_to me name to = record { sender = me; addressee = to; kind = kind.Purge name }

-- the purge for one node, if it asked
abbrev pub purge_if : ℕ → Name → ℕ → Bool → List Message
purge_if me name to asked = if asked then purge_to me name to ∷ [] else []

-- the purges for the nodes that asked, by number
abbrev pub purges_for : ℕ → Name → ℕ → (ℕ → Bool) → List Message
purges_for me name nodes asked = map (purge_to me name) (members nodes asked)

-- a node that recorded one entry more, and one that posted these messages
abbrev pub recorded_one : ℕ → Entry → Node → Node
recorded_one position e n = record n { records = n.records ++ record { position = position; entry = e } ∷ [] }

abbrev pub posted_these : List Message → Node → Node
posted_these ms n = record n { outbox = n.outbox ++ pieces_in ms }

-- the entries of a delete
abbrev pub deleting_by : ℕ → Name → Entry
deleting_by deleter name = entry_of deleter (what.Deleting name)

abbrev pub deleted_by : ℕ → Name → Entry
deleted_by deleter name = entry_of deleter (what.Deleted name)

-- a delete began at the home, which tells the nodes that asked for the region
abbrev pub askers_told : ℕ → ℕ → Name → Node → Node
askers_told position deleter name n = posted_these (purges n name (lifetime_of n name)) (recorded_one position (deleting_by deleter name) n)
