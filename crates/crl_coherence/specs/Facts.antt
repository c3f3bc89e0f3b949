-- What is known of a coherent region, in words of their own.
use Rattle.std.specs.Prelude.{◌≡◌, ◌≢◌, ◌⊎◌, ℕ, List, [], ◌∷◌, Bool, true, false, ◌≤◌, length}
use Rattle.std.specs.declared.option.Option.{Option}
use Rattle.std.specs.declared.option.Option.TheVariants.{None, Some}
use Rattle.crl_model.specs.declared.directory.Asked.{Asked}
use Rattle.crl_model.specs.declared.directory.Listing.{Listing}
use Rattle.crl_model.specs.declared.directory.Section.TheVariants.{Closed, Writing, Reading}
use Rattle.crl_model.specs.declared.message.Granted.{Granted}
use Rattle.crl_protocol.specs.Places.{at, Took, find_all}
use Rattle.crl_protocol.specs.Mail.{Ask, Grant, Return, Release}
use Rattle.crl_protocol.specs.Home.{home_takes_ask, home_takes_return, home_takes_release, home_starts, return_fits, release_fits, blocks, is_servable, mark_for}
use Rattle.crl_protocol.specs.Remote.{Copy, remote_starts, remote_takes_grant, grant_fits}
use Rattle.crl_protocol.specs.Sections.{is_writing}
use Rattle.crl_protocol.specs.Handlers.{is_queued}
use Rattle.crl_coherence.specs.Region.{Flying, Region, flies, MayStart, IsIdle}
use Rattle.crl_coherence.specs.Pairs.{Places, Given, Back, Freed, Distinct, HasVersion, queued_of}
use Rattle.crl_coherence.specs.Coherent.{HeadWaits, node_section, bytes_at_node, MayOpen}
use Rattle.crl_model.specs.declared.directory.Mark.TheVariants.{Plain, Recalled, Yielding}
use Rattle.crl_coherence.specs.Directory.{between, Among, AskStands, VersionStands, HasNothing, ReleasedStands, IsCalled, RecallStands, YieldStands, IsForHead, HaveStands, ComesBack, GrantShows}

-- A section that opens may open: no write section is open anywhere, and for writing no section at all. It
-- opens at another node by its own call or with a grant, and at the home by its call or while the queue is
-- served, which a return or a release lets go on. The ask of another node opens none.
pub record OpensRightly (me : ℕ) (g : Region) : Type 0 where
  pub by_call : (n : ℕ) (write : Bool) → n ≢ me → MayStart write (g.remotes n).here → (g.remotes n).asking ≡ None → (remote_starts write (g.remotes n)).opened ≡ true → MayOpen write (node_section me g)
  pub by_grant : (n version : ℕ) (granted : Granted) (rest : List Flying) → n ≢ me → Took (flies n (Grant version granted)) g.flight rest → (write : Bool) × ((g.remotes n).asking ≡ Some write) × MayOpen write (node_section me g)
  pub at_home : (write : Bool) → MayStart write g.home.mine → IsIdle me g.home.queue → (home_starts me write g.home).opened ≡ true → MayOpen write (node_section me g)
  pub by_ask : (ask : Asked) → ask.node ≢ me → (home_takes_ask me ask g.home).opened ≡ false
  pub by_return : (n version : ℕ) (bytes : Option (List ℕ)) (rest : List Flying) → n ≢ me → Took (flies n (Return version bytes)) g.flight rest → (home_takes_return me n bytes g.home).opened ≡ true → (g.home.mine ≡ Closed) × MayOpen (is_writing (home_takes_return me n bytes g.home).home.mine) (node_section me g)
  pub by_release : (n version : ℕ) (bytes : List ℕ) (rest : List Flying) → n ≢ me → Took (flies n (Release version bytes)) g.flight rest → (home_takes_release me n version bytes g.home).opened ≡ true → (g.home.mine ≡ Closed) × MayOpen (is_writing (home_takes_release me n version bytes g.home).home.mine) (node_section me g)

-- The bytes with which a section opens are the array's.
pub record ShowsTheArray (me : ℕ) (g : Region) : Type 0 where
  pub by_call : (n : ℕ) (write : Bool) → n ≢ me → MayStart write (g.remotes n).here → (g.remotes n).asking ≡ None → (remote_starts write (g.remotes n)).opened ≡ true → (copy : Copy) × ((g.remotes n).copy ≡ Some copy) × (copy.bytes ≡ g.array)
  pub by_grant : (n version : ℕ) (granted : Granted) (rest : List Flying) → n ≢ me → Took (flies n (Grant version granted)) g.flight rest → (copy : Copy) × ((remote_takes_grant version granted (g.remotes n)).copy ≡ Some copy) × (copy.bytes ≡ g.array)
  pub at_home : (write : Bool) → MayStart write g.home.mine → IsIdle me g.home.queue → (home_starts me write g.home).opened ≡ true → (home_starts me write g.home).home.bytes ≡ g.array
  pub by_return : (n version : ℕ) (bytes : Option (List ℕ)) (rest : List Flying) → n ≢ me → Took (flies n (Return version bytes)) g.flight rest → (home_takes_return me n bytes g.home).opened ≡ true → (home_takes_return me n bytes g.home).home.bytes ≡ g.array
  pub by_release : (n version : ℕ) (bytes : List ℕ) (rest : List Flying) → n ≢ me → Took (flies n (Release version bytes)) g.flight rest → (home_takes_release me n version bytes g.home).opened ≡ true → (home_takes_release me n version bytes g.home).home.bytes ≡ g.array

-- An exclusive copy is alone, and each version that is listed stands in exactly one place: its grant under way,
-- the node's copy, or its return under way.
pub record CopiesStandOnce (me : ℕ) (g : Region) : Type 0 where
  pub alone : (n m : ℕ) (l k : Listing) → at n g.home.listed ≡ Some l → l.exclusive ≡ true → at m g.home.listed ≡ Some k → n ≡ m
  pub places : (n : ℕ) → n ≢ me → Places g.array (at n g.home.listed) (g.remotes n).copy (between g n).grants (between g n).returns

-- Each message that comes fits: a grant what was asked for, a return the copy that is listed, a release the
-- region's size, and an ask is its node's only one.
pub record MessagesFit (me : ℕ) (g : Region) : Type 0 where
  pub grants : (n version : ℕ) (granted : Granted) (rest : List Flying) → n ≢ me → Took (flies n (Grant version granted)) g.flight rest → grant_fits granted (g.remotes n) ≡ true
  pub returns : (n version : ℕ) (bytes : Option (List ℕ)) (rest : List Flying) → n ≢ me → Took (flies n (Return version bytes)) g.flight rest → return_fits n version bytes g.home ≡ true
  pub releases : (n version : ℕ) (bytes : List ℕ) (rest : List Flying) → n ≢ me → Took (flies n (Release version bytes)) g.flight rest → release_fits bytes g.home ≡ true
  pub asks : (n : ℕ) (write : Bool) (have : ℕ) (rest : List Flying) → n ≢ me → Took (flies n (Ask write have)) g.flight rest → is_queued n g.home.queue ≡ false

-- After each event the head of the queue can't be served, and each copy of another node that blocks it was
-- called. Where no message is under way and a node waits for a section, another node has one open.
pub record WhoWaitsIsBlocked (me : ℕ) (g : Region) : Type 0 where
  pub head : HeadWaits g.home g.home.queue
  pub other : (n : ℕ) → g.flight ≡ [] → n ≢ me → (g.remotes n).asking ≢ None → (m : ℕ) × (m ≢ n) × (node_section me g m ≢ Closed)
  pub home : g.flight ≡ [] → is_queued me g.home.queue ≡ true → (m : ℕ) × (m ≢ me) × (node_section me g m ≢ Closed)

-- A node waits exactly where its ask stands in one place: it is under way or queued, or its grant is under way.
-- The home's own ask is queued. Who waits has no section open.
pub record AsksStandOnce (me : ℕ) (g : Region) : Type 0 where
  pub waits : (n : ℕ) (write : Bool) → n ≢ me → (g.remotes n).asking ≡ Some write → AskStands write (between g n)
  pub rests : (n : ℕ) → n ≢ me → (g.remotes n).asking ≡ None → ((between g n).pending ≡ []) × ((between g n).grants ≡ [])
  pub closed : (n : ℕ) → n ≢ me → (g.remotes n).asking ≢ None → (g.remotes n).here ≡ Closed
  pub home : is_queued me g.home.queue ≡ true → (g.home.mine ≡ Closed) × ((ask : Asked) × (find_all (queued_of me) g.home.queue ≡ ask ∷ []))

-- A listed version stands in one place: its grant is under way, or it is the node's copy, or its return is under
-- way. Every grant, every return and every copy is of its node's listed version, but for the older shared copy
-- under an upgrade, which is listed no more. Versions are numbered from 1 to the last that was granted, and all
-- different. A section is open only over a copy, to write only over an exclusive one. Of a version, one release at
-- most is under way; where the version is listed, it is exclusive and yielding, and stands as a shared copy that
-- was exclusive, or comes back with its bytes.
pub record VersionsStandOnce (me : ℕ) (g : Region) : Type 0 where
  pub listed : (n : ℕ) (l : Listing) → at n g.home.listed ≡ Some l → VersionStands l.version (between g n)
  pub unlisted : (n : ℕ) → n ≢ me → at n g.home.listed ≡ None → HasNothing (between g n)
  pub home : at me g.home.listed ≡ None
  pub older : (n m : ℕ) (grant : Given) (copy : Copy) (l : Listing) → n ≢ me → (between g n).grants ≡ grant ∷ [] → (g.remotes n).copy ≡ Some copy → at m g.home.listed ≡ Some l → l.version ≢ copy.version
  pub bounds : (n : ℕ) (l : Listing) → at n g.home.listed ≡ Some l → (1 ≤ l.version) × (l.version ≤ g.home.last)
  pub different : (n m : ℕ) (l k : Listing) → at n g.home.listed ≡ Some l → at m g.home.listed ≡ Some k → l.version ≡ k.version → n ≡ m
  pub sections : (n : ℕ) → n ≢ me → (g.remotes n).here ≢ Closed → (copy : Copy) × ((g.remotes n).copy ≡ Some copy) × ((g.remotes n).here ≡ Writing → copy.exclusive ≡ true)
  pub releases : (n : ℕ) → n ≢ me → Distinct (between g n).releases
  pub one_sender : (n m version : ℕ) → n ≢ me → m ≢ me → HasVersion version (between g n).releases → HasVersion version (between g m).releases → n ≡ m
  pub released : (n m : ℕ) (l : Listing) → m ≢ me → at n g.home.listed ≡ Some l → HasVersion l.version (between g m).releases → (m ≡ n) × (l.exclusive ≡ true) × (l.mark ≡ Yielding) × ReleasedStands l.version g.array (between g n)

-- An exclusive copy is listed alone. While the home writes nothing is listed, and while it reads nothing
-- exclusive.
pub record ExclusiveIsAlone (me : ℕ) (g : Region) : Type 0 where
  pub alone : (n m : ℕ) (l k : Listing) → at n g.home.listed ≡ Some l → l.exclusive ≡ true → at m g.home.listed ≡ Some k → n ≡ m
  pub writing : (n : ℕ) → g.home.mine ≡ Writing → at n g.home.listed ≡ None
  pub reading : (n count : ℕ) (l : Listing) → g.home.mine ≡ Reading count → at n g.home.listed ≡ Some l → l.exclusive ≡ false

-- A listed version without a mark isn't called. Of a recalled one the recall is under way, or is due at its node,
-- which asks; or the copy leaves at the end of a section, or comes back. A yielding one is exclusive, and its
-- yield is under way, or is due at its node, which asks; or the copy becomes a shared one at the end of a write
-- section, or its release is under way, or it comes back with its bytes. No call under way or due is of a later
-- version than the listed one, where none is listed than the last. Nothing is due at a node that doesn't ask. A
-- copy is to leave only where it was recalled and a section is open, and to become a shared one only where it
-- yields and a write section is open. A listed copy that was exclusive is listed as shared, or its release is
-- under way.
pub record MarksHaveTheirMessage (me : ℕ) (g : Region) : Type 0 where
  pub plain : (n : ℕ) (l : Listing) → at n g.home.listed ≡ Some l → l.mark ≡ Plain → ¬ IsCalled l.version (between g n)
  pub recalled : (n : ℕ) (l : Listing) → at n g.home.listed ≡ Some l → l.mark ≡ Recalled → RecallStands l.version (between g n)
  pub yielding : (n : ℕ) (l : Listing) → at n g.home.listed ≡ Some l → l.mark ≡ Yielding → (l.exclusive ≡ true) × YieldStands l.version (between g n)
  pub listed_bound : (n version : ℕ) (l : Listing) → at n g.home.listed ≡ Some l → IsCalled version (between g n) → version ≤ l.version
  pub unlisted_bound : (n version : ℕ) → n ≢ me → at n g.home.listed ≡ None → IsCalled version (between g n) → version ≤ g.home.last
  pub rests : (n : ℕ) → n ≢ me → (g.remotes n).asking ≡ None → (g.remotes n).due ≡ None
  pub leaving : (n : ℕ) → n ≢ me → (g.remotes n).leaving ≡ true → ((g.remotes n).here ≢ Closed) × ((l : Listing) × (at n g.home.listed ≡ Some l) × (l.mark ≡ Recalled))
  pub lowering : (n : ℕ) → n ≢ me → (g.remotes n).lowering ≡ true → ((g.remotes n).here ≡ Writing) × ((l : Listing) × (at n g.home.listed ≡ Some l) × (l.mark ≡ Yielding))
  pub given : (n : ℕ) (copy : Copy) (l : Listing) → (g.remotes n).given ≡ true → (g.remotes n).copy ≡ Some copy → at n g.home.listed ≡ Some l → copy.version ≡ l.version → (l.exclusive ≡ false) ⊎ (l.exclusive ≡ true) × (l.mark ≡ Yielding) × HasVersion l.version (between g n).releases

-- The ask at the head can't be served. The copies of other nodes that block it are called, and no others are: for
-- an ask to write they are recalled, for one to read they yield. The shared copy that an ask names is its node's,
-- or was given back and nothing is listed any more, or was recalled and comes back; the node of any other ask has
-- no copy. Where the copy of the node whose ask is at the head blocks it, that copy comes back, and it wasn't
-- called.
pub record HeadsWait (me : ℕ) (g : Region) : Type 0 where
  pub unserved : (a : Asked) (q : List Asked) → g.home.queue ≡ a ∷ q → is_servable g.home a ≡ false
  pub called : (a : Asked) (q : List Asked) (n : ℕ) (l : Listing) → g.home.queue ≡ a ∷ q → at n g.home.listed ≡ Some l → blocks n l a ≡ true → n ≢ a.node → l.mark ≡ mark_for a
  pub marked : (n : ℕ) (l : Listing) → at n g.home.listed ≡ Some l → l.mark ≢ Plain → IsForHead n l g.home.queue
  pub named : (n : ℕ) (a : Asked) → n ≢ me → Among a (between g n).pending → 1 ≤ a.have → HaveStands a.have (between g n)
  pub unnamed : (n : ℕ) (a : Asked) → n ≢ me → Among a (between g n).pending → a.have ≡ 0 → (g.remotes n).copy ≡ None
  pub returned : (a : Asked) (q : List Asked) (l : Listing) → g.home.queue ≡ a ∷ q → at a.node g.home.listed ≡ Some l → blocks a.node l a ≡ true → ComesBack l.version (between g a.node)
  pub kept : (a : Asked) (q : List Asked) (l : Listing) → g.home.queue ≡ a ∷ q → at a.node g.home.listed ≡ Some l → l.mark ≡ Plain

-- The array's bytes stand at the home where nothing exclusive is listed; and in each grant with bytes, each copy,
-- each return with bytes, and each release of a listed version. While a node writes, its copy has the bytes with
-- which the section began. Every release has the region's size.
pub record BytesAreTheArray (me : ℕ) (g : Region) : Type 0 where
  pub home : ((n : ℕ) (l : Listing) → at n g.home.listed ≡ Some l → l.exclusive ≡ false) → g.home.bytes ≡ g.array
  pub grants : (n : ℕ) (grant : Given) → n ≢ me → Among grant (between g n).grants → GrantShows g.array grant.what
  pub copies : (n : ℕ) (copy : Copy) → n ≢ me → (g.remotes n).copy ≡ Some copy → copy.bytes ≡ g.array
  pub returns : (n : ℕ) (back : Back) (bytes : List ℕ) → n ≢ me → Among back (between g n).returns → back.bytes ≡ Some bytes → bytes ≡ g.array
  pub releases : (n m : ℕ) (l : Listing) (freed : Freed) → m ≢ me → at n g.home.listed ≡ Some l → Among freed (between g m).releases → freed.version ≡ l.version → freed.bytes ≡ g.array
  pub sizes : (n : ℕ) (freed : Freed) → n ≢ me → Among freed (between g n).releases → length freed.bytes ≡ g.home.size

-- While the section of node n is open the array stays, or it was a write section, which ended.
abbrev pub KeepsTheArray : ℕ → Region → Region → Type 0
KeepsTheArray me g h = (n : ℕ) → node_section me g n ≢ Closed → (h.array ≡ g.array) ⊎ ((node_section me g n ≡ Writing) × (node_section me h n ≡ Closed))

-- while a section is open, what its node has of the region is the array's bytes
abbrev pub HasTheArray : ℕ → Region → Type 0
HasTheArray me g = (n : ℕ) → node_section me g n ≢ Closed → bytes_at_node me g n ≡ g.array

-- while a node's section is open to write, no other node has one open
abbrev pub WritersAreAlone : ℕ → Region → Type 0
WritersAreAlone me g = (n m : ℕ) → n ≢ m → node_section me g n ≡ Writing → node_section me g m ≡ Closed
