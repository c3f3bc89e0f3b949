-- Where the asks for copies of a region and the versions of its copies stand after each event, in words of their own.
use Rattle.std.specs.Prelude.{◌≡◌, ◌≢◌, ◌⊎◌, ℕ, ◌<◌, Bool, true, false, List, [], ◌∷◌}
use Rattle.std.specs.declared.option.Option.{Option}
use Rattle.std.specs.declared.option.Option.TheVariants.{None, Some}
use Rattle.crl_model.specs.declared.directory.Section.TheVariants.{Closed, Writing}
use Rattle.crl_model.specs.declared.directory.Mark.TheVariants.{Recalled}
use Rattle.crl_model.specs.declared.directory.Listing.{Listing}
use Rattle.crl_model.specs.declared.directory.Asked.{Asked}
use Rattle.crl_model.specs.declared.directory.Due.{Due}
use Rattle.crl_model.specs.declared.message.Granted.{Granted}
use Rattle.crl_model.specs.declared.message.Granted.TheVariants.{Shared, Exclusive, Upgrade}
use Rattle.crl_protocol.specs.Home.{blocks, mark_for}
use Rattle.crl_protocol.specs.Remote.{Copy, Remote}
use Rattle.crl_coherence.specs.Region.{Region}
use Rattle.crl_coherence.specs.Pairs.{In, Given, Back, HomeAndNode, HasVersion, FitsAsking, pair_of}

-- all that concerns the home and node n: what is listed, the messages under way, and the node's side
abbrev pub between : Region → ℕ → HomeAndNode
between g n = pair_of g.home.listed g.home.queue g.remotes g.flight n

-- x is one of the list
abbrev pub Among : {A : Type 0} → A → List A → Type 0
Among x [] = ⊥
Among x (y ∷ ys) = (x ≡ y) ⊎ Among x ys

-- The ask of a node that waits stands in one place: it is under way or queued, or its grant is under way.
pub data AskStands (write : Bool) (p : HomeAndNode) : Type 0 where
  waits_to_be_served : (ask : Asked) → p.pending ≡ ask ∷ [] → ask.write ≡ write → p.grants ≡ [] → AskStands write p
  was_granted : (grant : Given) → p.grants ≡ grant ∷ [] → FitsAsking write grant.what → p.pending ≡ [] → AskStands write p

-- what its node has while the grant is under way: no copy, or under an upgrade an older shared one
abbrev pub UnderGrant : ℕ → Granted → Option Copy → Type 0
UnderGrant version (Shared bytes) copy = copy ≡ None
UnderGrant version (Exclusive bytes) copy = copy ≡ None
UnderGrant version Upgrade copy = (older : Copy) × (copy ≡ Some older) × (older.exclusive ≡ false) × (older.version < version)

-- the node has its copy in this version
abbrev pub Holds : ℕ → Remote → Type 0
Holds version r = (copy : Copy) × (r.copy ≡ Some copy) × (copy.version ≡ version)

-- this version's return is under way, the node's only one, and with these bytes
abbrev pub ComesBack : ℕ → HomeAndNode → Type 0
ComesBack version p = (back : Back) × (p.returns ≡ back ∷ []) × (back.version ≡ version)

abbrev pub ComesBackWith : ℕ → List ℕ → HomeAndNode → Type 0
ComesBackWith version bytes p = (back : Back) × (p.returns ≡ back ∷ []) × (back.version ≡ version) × (back.bytes ≡ Some bytes)

-- A listed version stands in one place: its grant is under way, or it is the node's copy, or its return is under way.
pub data VersionStands (version : ℕ) (p : HomeAndNode) : Type 0 where
  grant_under_way : (grant : Given) → p.grants ≡ grant ∷ [] → grant.version ≡ version → UnderGrant version grant.what p.remote.copy → p.returns ≡ [] → VersionStands version p
  copy_here : Holds version p.remote → p.grants ≡ [] → p.returns ≡ [] → VersionStands version p
  return_under_way : ComesBack version p → p.remote.copy ≡ None → p.grants ≡ [] → VersionStands version p

-- nothing of the node is listed, and neither a copy, nor a grant, nor a return is anywhere
abbrev pub HasNothing : HomeAndNode → Type 0
HasNothing p = (p.remote.copy ≡ None) × (p.grants ≡ []) × (p.returns ≡ [])

-- a version whose release is under way: a shared copy that was exclusive, or it comes back with its bytes
abbrev pub ReleasedStands : ℕ → List ℕ → HomeAndNode → Type 0
ReleasedStands version array p =
    ((copy : Copy) × (p.remote.copy ≡ Some copy) × (copy.version ≡ version) × (copy.exclusive ≡ false) × (p.remote.given ≡ true)) ⊎ ComesBackWith version array p

-- a recall or a yield of this version is under way to the node, or due there
abbrev pub IsCalled : ℕ → HomeAndNode → Type 0
IsCalled version p = In version p.recalls ⊎ In version p.yields ⊎ ((due : Due) × (p.remote.due ≡ Some due) × (due.version ≡ version))

-- Where the recall of a recalled version stands.
pub data RecallStands (version : ℕ) (p : HomeAndNode) : Type 0 where
  recall_under_way : In version p.recalls → RecallStands version p
  recall_is_due : p.remote.due ≡ Some (record { version = version; yields = false }) → p.remote.asking ≢ None → RecallStands version p
  copy_leaves : Holds version p.remote → p.remote.leaving ≡ true → p.remote.here ≢ Closed → RecallStands version p
  copy_returns : ComesBack version p → RecallStands version p

-- Where the yield of a yielding version stands.
pub data YieldStands (version : ℕ) (p : HomeAndNode) : Type 0 where
  yield_under_way : In version p.yields → YieldStands version p
  yield_is_due : p.remote.due ≡ Some (record { version = version; yields = true }) → p.remote.asking ≢ None → YieldStands version p
  copy_lowers : Holds version p.remote → p.remote.lowering ≡ true → p.remote.here ≡ Writing → YieldStands version p
  release_under_way : HasVersion version p.releases → YieldStands version p
  bytes_return : (bytes : List ℕ) → ComesBackWith version bytes p → YieldStands version p

-- the ask at the head, of another node, was it that called this copy
abbrev pub IsForHead : ℕ → Listing → List Asked → Type 0
IsForHead n l queue = (a : Asked) × (q : List Asked) × (queue ≡ a ∷ q) × (a.node ≢ n) × (blocks n l a ≡ true) × (l.mark ≡ mark_for a)

-- Where the shared copy is that an ask names: its node has it, or gave it back and nothing is listed any more,
-- or it was recalled and comes back.
pub data HaveStands (version : ℕ) (p : HomeAndNode) : Type 0 where
  still_here : Holds version p.remote → (copy : Copy) → p.remote.copy ≡ Some copy → copy.exclusive ≡ false → HaveStands version p
  listed_no_more : p.remote.copy ≡ None → p.listed ≡ None → HaveStands version p
  was_recalled : p.remote.copy ≡ None → (l : Listing) → p.listed ≡ Some l → l.version ≡ version → l.mark ≡ Recalled → ComesBack version p → HaveStands version p

-- a grant's bytes, where it has any
abbrev pub GrantShows : List ℕ → Granted → Type 0
GrantShows array (Shared bytes) = bytes ≡ array
GrantShows array (Exclusive bytes) = bytes ≡ array
GrantShows array Upgrade = Unit {0}
