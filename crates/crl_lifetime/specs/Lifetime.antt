-- Who has a region, as it stands in a world: its lifetime at its home, entries of nodes, and messages of maps and
-- deletes under way.
use Rattle.std.specs.Prelude.{◌≡◌, ℕ, ◌+◌, ◌≤◌, ◌<◌, ◌==◌, Bool, true, false, ◌&&◌, ◌||◌, if◌then◌else◌, List, [], ◌∷◌}
use Rattle.std.specs.declared.option.Option.{Option}
use Rattle.std.specs.declared.option.Option.TheVariants.{None, Some}
use Rattle.crl_model.specs.declared.name.Name.{Name}
use Rattle.crl_model.specs.declared.stage.Stage.{Stage}
use Rattle.crl_model.specs.declared.stage.Stage.TheVariants.{Unknown, Live, Going, Gone}
use Rattle.crl_model.specs.declared.message.Told.{Told}
use Rattle.crl_model.specs.declared.message.Told.TheVariants as told
use Rattle.crl_model.specs.declared.message.Message.{Message}
use Rattle.crl_model.specs.declared.message.Kind.{Kind}
use Rattle.crl_model.specs.declared.message.Kind.TheVariants as kind
use Rattle.crl_model.specs.Names.{name_eq}
use Rattle.crl_model.specs.Stages.{is_deleted}
use Rattle.crl_protocol.specs.Parcels.{Piece}
use Rattle.crl_protocol.specs.Home.{Home}
use Rattle.crl_protocol.specs.Lifetimes.{Mapping, Lifetime, cached_size}
use Rattle.crl_protocol.specs.Node.{Node, Activity, Waiting, ForMap, ForDelete, home_of, lifetime_of}
use Rattle.crl_protocol.specs.World.{World, pieces_in_boxes}

-- A stage as a step leaves it: it stays, a region is created, its delete begins or is done at once, or ends.
pub data StageMoves : Stage → Stage → Type 0 where
  stays : {s : Stage} → StageMoves s s
  created : StageMoves Unknown Live
  begins : (deleter : ℕ) → StageMoves Live (Going deleter)
  deleted : StageMoves Live Gone
  ends : (deleter : ℕ) → StageMoves (Going deleter) Gone

-- A region at its home: its lifetime, where it stands, and its table.
abbrev pub home_lifetime : Name → World → Lifetime
home_lifetime r w = lifetime_of (w.nodes r.home) r

abbrev pub home_stage : Name → World → Stage
home_stage r w = (home_lifetime r w).stage

abbrev pub home_table : Name → World → Option Home
home_table r w = home_of (w.nodes r.home) r

-- there is a table, of this size
abbrev pub TableHasSize : Name → ℕ → World → Type 0
TableHasSize r size w = (h : Home) × (home_table r w ≡ Some h) × (h.size ≡ size)

-- What node n says and hears of a map and of a delete of the region: its ask and the answer to it.
abbrev pub is_about_map : ℕ → Name → ℕ → ℕ → Kind → Bool
is_about_map n r from to (kind.InfoAsk name) = (from == n) && name_eq name r
is_about_map n r from to (kind.InfoIs name t) = (to == n) && name_eq name r
is_about_map n r from to _ = false

abbrev pub is_about_delete : ℕ → Name → ℕ → ℕ → Kind → Bool
is_about_delete n r from to (kind.DeleteAsk name) = (from == n) && name_eq name r
is_about_delete n r from to (kind.DeleteIs name t) = (to == n) && name_eq name r
is_about_delete n r from to _ = false

-- node n is told that the region is there, with a size like this
abbrev pub is_live_with : (ℕ → Bool) → Told → Bool
is_live_with like (told.Live size) = like size
is_live_with like told.Unknown = false
is_live_with like told.Deleted = false

abbrev pub tells_live : (ℕ → Bool) → ℕ → Name → ℕ → ℕ → Kind → Bool
tells_live like n r from to (kind.InfoIs name t) = (to == n) && (name_eq name r && is_live_with like t)
tells_live like n r from to _ = false

abbrev pub any_size : ℕ → Bool
any_size size = true

-- a Purge to node n, and its answer
abbrev pub is_purge_order : ℕ → Name → ℕ → ℕ → Kind → Bool
is_purge_order n r from to (kind.Purge name) = (to == n) && name_eq name r
is_purge_order n r from to _ = false

abbrev pub is_purge_answer : ℕ → Name → ℕ → ℕ → Kind → Bool
is_purge_answer n r from to (kind.Purged name) = (from == n) && name_eq name r
is_purge_answer n r from to _ = false

-- How many such messages are under way: each of them is one piece.
abbrev pub one_if : Bool → ℕ
one_if b = if b then 1 else 0

abbrev pub how_many : (ℕ → ℕ → Kind → Bool) → List Piece → ℕ
how_many test [] = 0
how_many test (p ∷ ps) = one_if (test p.message.sender p.message.addressee p.message.kind) + how_many test ps

abbrev pub under_way : (ℕ → ℕ → Kind → Bool) → World → ℕ
under_way test w = how_many test (pieces_in_boxes w)

-- What a node waits for.
abbrev pub waits_for_map : Name → Activity → Bool
waits_for_map r (Waiting (ForMap name purged)) = name_eq name r
waits_for_map r _ = false

abbrev pub waits_for_delete : Name → Activity → Bool
waits_for_delete r (Waiting (ForDelete name)) = name_eq name r
waits_for_delete r _ = false

-- it waits for a map of the region, and a Purge came meanwhile
abbrev pub waits_purged : Name → Activity → Bool
waits_purged r (Waiting (ForMap name purged)) = name_eq name r && purged
waits_purged r _ = false

-- the home is deleting it for node n
abbrev pub is_deleting : ℕ → Stage → Bool
is_deleting n (Going deleter) = deleter == n
is_deleting n _ = false

-- What a node has of a region: a mapping that isn't doomed or is, and a place in the cache.
abbrev pub is_sound : Option Mapping → Bool
is_sound None = false
is_sound (Some m) = if m.doomed then false else true

abbrev pub is_doomed : Option Mapping → Bool
is_doomed None = false
is_doomed (Some m) = m.doomed

abbrev pub is_some_size : Option ℕ → Bool
is_some_size None = false
is_some_size (Some size) = true

abbrev pub has_sound : Name → Node → Bool
has_sound r n = is_sound (n.maps r) || is_some_size (cached_size r n.cache)

abbrev pub has_doomed : Name → Node → Bool
has_doomed r n = is_doomed (n.maps r)

abbrev pub has_entry : Name → Node → Bool
has_entry r n = has_doomed r n || has_sound r n

-- Of a node's own waits: a map has one message, a delete has one message or the home that is deleting.
pub record WaitsHaveOne (n : ℕ) (r : Name) (w : World) : Type 0 where
  pub map : under_way (is_about_map n r) w ≡ one_if (waits_for_map r (w.nodes n).activity)
  pub delete : under_way (is_about_delete n r) w + one_if (is_deleting n (home_stage r w)) ≡ one_if (waits_for_delete r (w.nodes n).activity)

-- Of a region's home: only other nodes of the world asked for it or are missing. Nobody asked for a region that wasn't
-- created. Some node is missing exactly while a delete goes on, and a region that was created has a table.
pub record HomeAgrees (r : Name) (w : World) : Type 0 where
  pub askers : (n : ℕ) → (home_lifetime r w).asked n ≡ true → (n < w.count) × ((r.home == n) ≡ false)
  pub missers : (n : ℕ) → (home_lifetime r w).missing n ≡ true → (n < w.count) × ((r.home == n) ≡ false)
  pub unknown : home_stage r w ≡ Unknown → (n : ℕ) → (home_lifetime r w).asked n ≡ false
  pub going : (deleter : ℕ) → home_stage r w ≡ Going deleter → (n : ℕ) × ((home_lifetime r w).missing n ≡ true)
  pub missing : (n : ℕ) → (home_lifetime r w).missing n ≡ true → (deleter : ℕ) × (home_stage r w ≡ Going deleter)
  pub table : (home_stage r w ≡ Unknown → ⊥) → (h : Home) × (home_table r w ≡ Some h)

-- Of its own region: what is mapped there was created, is never doomed and never cached, and nothing is under way to
-- or from the home itself.
pub record OwnAgrees (r : Name) (w : World) : Type 0 where
  pub mapped : (m : Mapping) → (w.nodes r.home).maps r ≡ Some m → (m.doomed ≡ false) × (home_stage r w ≡ Unknown → ⊥) × TableHasSize r m.size w
  pub cached : cached_size r (w.nodes r.home).cache ≡ None
  pub map : under_way (is_about_map r.home r) w ≡ 0
  pub purge : under_way (is_purge_order r.home r) w + under_way (is_purge_answer r.home r) w ≡ 0

-- Of a region at another node than its home.
pub record NodeAgrees (r : Name) (n : ℕ) (w : World) : Type 0 where
  -- the node is missing exactly where one Purge to it, or its answer, is under way
  pub missing : under_way (is_purge_order n r) w + under_way (is_purge_answer n r) w ≡ one_if ((home_lifetime r w).missing n)
  -- what it has, or is told to be there, was created
  pub created : has_entry r (w.nodes n) ≡ true → home_stage r w ≡ Unknown → ⊥
  pub told_created : 1 ≤ under_way (tells_live any_size n r) w → home_stage r w ≡ Unknown → ⊥
  -- what it has, or is told to be there, it asked for; a doomed entry or a purged map is of a deleted region
  pub asked : has_sound r (w.nodes n) ≡ true → (home_lifetime r w).asked n ≡ true
  pub told : 1 ≤ under_way (tells_live any_size n r) w → (home_lifetime r w).asked n ≡ true
  pub doomed : has_doomed r (w.nodes n) ≡ true → is_deleted (home_stage r w) ≡ true
  pub marked : waits_purged r (w.nodes n).activity ≡ true → is_deleted (home_stage r w) ≡ true
  -- what it has of a deleted region and doesn't know to be deleted, or will have, its Purge is under way for
  pub had : is_deleted (home_stage r w) ≡ true → has_sound r (w.nodes n) ≡ true → 1 ≤ under_way (is_purge_order n r) w
  pub coming : is_deleted (home_stage r w) ≡ true → 1 ≤ under_way (tells_live any_size n r) w → waits_purged r (w.nodes n).activity ≡ false → 1 ≤ under_way (is_purge_order n r) w
  -- once the delete is done, it has at most a doomed entry, or will have
  pub gone : home_stage r w ≡ Gone → has_sound r (w.nodes n) ≡ false
  pub gone_coming : home_stage r w ≡ Gone → 1 ≤ under_way (tells_live any_size n r) w → waits_purged r (w.nodes n).activity ≡ true
  -- it has it once: mapped, cached, or to come
  pub cached : is_some_size (cached_size r (w.nodes n).cache) ≡ true → (w.nodes n).maps r ≡ None
  pub waits : waits_for_map r (w.nodes n).activity ≡ true → ((w.nodes n).maps r ≡ None) × (cached_size r (w.nodes n).cache ≡ None)
  -- sizes are those of the home
  pub size_mapped : (m : Mapping) → (w.nodes n).maps r ≡ Some m → TableHasSize r m.size w
  pub size_cached : (size : ℕ) → cached_size r (w.nodes n).cache ≡ Some size → TableHasSize r size w
  pub size_told : (size : ℕ) → 1 ≤ under_way (tells_live (λ s. s == size) n r) w → TableHasSize r size w

-- A message that is under way will fit: who asks waits at its end, and the home and its nodes are in the state that
-- the message is for.
abbrev pub TalkFits : World → ℕ → ℕ → Kind → Type 0
TalkFits w from to (kind.InfoAsk name) = (to ≡ name.home) × (waits_for_map name (w.nodes from).activity ≡ true)
TalkFits w from to (kind.InfoIs name t) = (from ≡ name.home) × (purged : Bool) × ((w.nodes to).activity ≡ Waiting (ForMap name purged))
TalkFits w from to (kind.DeleteAsk name) = (to ≡ name.home) × (waits_for_delete name (w.nodes from).activity ≡ true)
TalkFits w from to (kind.DeleteIs name t) = (from ≡ name.home) × ((w.nodes to).activity ≡ Waiting (ForDelete name))
TalkFits w from to (kind.Purge name) = (from ≡ name.home) × ((name.home == to) ≡ false) × ((home_lifetime name w).missing to ≡ true)
TalkFits w from to (kind.Purged name) = (to ≡ name.home) × ((home_lifetime name w).missing from ≡ true) × (deleter : ℕ) × (home_stage name w ≡ Going deleter)
TalkFits w from to _ = Unit {0}

abbrev pub MessageFits : World → Message → Type 0
MessageFits w m = TalkFits w m.sender m.addressee m.kind
