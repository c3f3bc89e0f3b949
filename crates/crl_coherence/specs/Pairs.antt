-- What holds, after each event of a region, of the home and one other node.
use Rattle.std.specs.Prelude.{◌≡◌, ◌≢◌, ◌⊎◌, ℕ, ◌<◌, ◌≤◌, ◌==◌, Bool, true, false, if◌then◌else◌, List, [], ◌∷◌, ◌++◌, length}
use Rattle.std.specs.declared.option.Option.{Option}
use Rattle.std.specs.declared.option.Option.TheVariants.{None, Some}
use Rattle.crl_model.specs.declared.directory.Section.{Section}
use Rattle.crl_model.specs.declared.directory.Section.TheVariants.{Closed, Reading, Writing}
use Rattle.crl_model.specs.declared.directory.Mark.TheVariants.{Recalled, Yielding}
use Rattle.crl_model.specs.declared.directory.Listing.{Listing}
use Rattle.crl_model.specs.declared.directory.Asked.{Asked}
use Rattle.crl_model.specs.declared.directory.Due.{Due}
use Rattle.crl_model.specs.declared.message.Granted.{Granted}
use Rattle.crl_model.specs.declared.message.Granted.TheVariants.{Shared, Exclusive, Upgrade}
use Rattle.crl_protocol.specs.Places.{at, find_all}
use Rattle.crl_protocol.specs.Mail.{Mail, Ask, Grant, Recall, Yield, Return, Release}
use Rattle.crl_protocol.specs.Remote.{Copy, Remote, is_recall_due, is_yield_due}
use Rattle.crl_coherence.specs.Region.{Flying}

-- x stands in the list
abbrev pub In : ℕ → List ℕ → Type 0
In x [] = ⊥
In x (y ∷ ys) = (x ≡ y) ⊎ In x ys

-- a grant, a return and a release under way
pub record Given : Type 0 where
  pub version : ℕ
  pub what : Granted

pub record Back : Type 0 where
  pub version : ℕ
  pub bytes : Option (List ℕ)

pub record Freed : Type 0 where
  pub version : ℕ
  pub bytes : List ℕ

-- All that concerns the home and node n: what is listed of it, its asks under way or queued, the messages under
-- way between the two, and its own side.
pub record HomeAndNode : Type 0 where
  pub listed : Option Listing
  pub pending : List Asked
  pub grants : List Given
  pub recalls : List ℕ
  pub yields : List ℕ
  pub returns : List Back
  pub releases : List Freed
  pub remote : Remote

-- of what is under way, that of node n which the selector takes
abbrev pub of_node : {A : Type 0} → ℕ → (Mail → Option A) → Flying → Option A
of_node n select f = if f.node == n then select f.mail else None

abbrev pub asked_in : ℕ → Mail → Option Asked
asked_in n (Ask write have) = Some (record { node = n; write = write; have = have })
asked_in n _ = None

abbrev pub granted_in : Mail → Option Given
granted_in (Grant version what) = Some (record { version = version; what = what })
granted_in _ = None

abbrev pub recalled_in : Mail → Option ℕ
recalled_in (Recall version) = Some version
recalled_in _ = None

abbrev pub yields_in : Mail → Option ℕ
yields_in (Yield version) = Some version
yields_in _ = None

abbrev pub returned_in : Mail → Option Back
returned_in (Return version bytes) = Some (record { version = version; bytes = bytes })
returned_in _ = None

abbrev pub released_in : Mail → Option Freed
released_in (Release version bytes) = Some (record { version = version; bytes = bytes })
released_in _ = None

abbrev pub queued_of : ℕ → Asked → Option Asked
queued_of n ask = if ask.node == n then Some ask else None

abbrev pub pair_of : List (Option Listing) → List Asked → (ℕ → Remote) → List Flying → ℕ → HomeAndNode
pair_of listed queue remotes flight n = record {
  listed = at n listed;
  pending = find_all (queued_of n) queue ++ find_all (of_node n (asked_in n)) flight;
  grants = find_all (of_node n granted_in) flight;
  recalls = find_all (of_node n recalled_in) flight;
  yields = find_all (of_node n yields_in) flight;
  returns = find_all (of_node n returned_in) flight;
  releases = find_all (of_node n released_in) flight;
  remote = remotes n;
}

abbrev pub FitsGrant : List ℕ → Listing → Granted → Type 0
FitsGrant array l (Shared bytes) = (l.exclusive ≡ false) × (bytes ≡ array)
FitsGrant array l (Exclusive bytes) = (l.exclusive ≡ true) × (bytes ≡ array)
FitsGrant array l Upgrade = ⊥

abbrev pub FitsUpgrade : List ℕ → Listing → Copy → Granted → Type 0
FitsUpgrade array l c (Shared bytes) = ⊥
FitsUpgrade array l c (Exclusive bytes) = ⊥
FitsUpgrade array l c Upgrade = (l.exclusive ≡ true) × (c.exclusive ≡ false) × (c.version < l.version) × (c.bytes ≡ array)

-- a listed version stands in exactly one place: its grant, the copy or its return
abbrev pub Places : List ℕ → Option Listing → Option Copy → List Given → List Back → Type 0
Places array None None [] [] = Unit {0}
Places array (Some l) (Some c) [] [] = (c.version ≡ l.version) × (c.exclusive ≡ true → l.exclusive ≡ true) × (c.bytes ≡ array)
Places array (Some l) None (g ∷ []) [] = (g.version ≡ l.version) × FitsGrant array l g.what
Places array (Some l) (Some c) (g ∷ []) [] = (g.version ≡ l.version) × FitsUpgrade array l c g.what
Places array (Some l) None [] (b ∷ []) = (b.version ≡ l.version) × ((b.bytes ≡ Some array) ⊎ (b.bytes ≡ None) × (l.exclusive ≡ false))
Places array _ _ _ _ = ⊥

-- under an upgrade the older copy, which is listed no more, isn't recalled
abbrev pub OlderFits : Option Copy → List Given → List ℕ → Type 0
OlderFits (Some c) (g ∷ gs) recalls = ¬ In c.version recalls
OlderFits _ _ recalls = Unit {0}

abbrev pub FitsAsking : Bool → Granted → Type 0
FitsAsking w (Shared bytes) = w ≡ false
FitsAsking w (Exclusive bytes) = w ≡ true
FitsAsking w Upgrade = w ≡ true

-- the ask of a node that waits stands in exactly one place
abbrev pub AskPlace : Option Bool → List Asked → List Given → Type 0
AskPlace None [] [] = Unit {0}
AskPlace (Some w) (a ∷ []) [] = a.write ≡ w
AskPlace (Some w) [] (g ∷ []) = FitsAsking w g.what
AskPlace _ _ _ = ⊥

abbrev pub SectionFits : Section → Option Copy → Option Bool → Type 0
SectionFits Closed c w = Unit {0}
SectionFits (Reading k) (Some c) None = 1 ≤ k
SectionFits Writing (Some c) None = c.exclusive ≡ true
SectionFits _ _ _ = ⊥

-- the last version that a message under way may name
abbrev pub limit : ℕ → Option Listing → ℕ
limit last None = last
limit last (Some l) = l.version

abbrev pub due_version : Option Due → ℕ
due_version None = 0
due_version (Some d) = d.version

-- a release of this version is under way
abbrev pub HasVersion : ℕ → List Freed → Type 0
HasVersion v [] = ⊥
HasVersion v (f ∷ fs) = (v ≡ f.version) ⊎ HasVersion v fs

abbrev pub Distinct : List Freed → Type 0
Distinct [] = Unit {0}
Distinct (f ∷ fs) = (¬ HasVersion f.version fs) × Distinct fs

abbrev pub Once : List ℕ → Type 0
Once [] = Unit {0}
Once (v ∷ vs) = (¬ In v vs) × Once vs

abbrev pub WithBytes : List ℕ → List Back → Type 0
WithBytes array [] = ⊥
WithBytes array (b ∷ bs) = b.bytes ≡ Some array

-- a version whose release is under way stands as a shared copy that was exclusive, or in a return with bytes
abbrev pub StandsFreed : List ℕ → ℕ → Option Copy → Bool → List Back → Type 0
StandsFreed array v None given returns = WithBytes array returns
StandsFreed array v (Some c) given returns = (c.version ≡ v) × (given ≡ true) × (c.exclusive ≡ false)

-- the releases under way have the region's size
abbrev pub AreSized : ℕ → List Freed → Type 0
AreSized size [] = Unit {0}
AreSized size (f ∷ fs) = (length f.bytes ≡ size) × AreSized size fs

-- the releases under way of the listed version
abbrev pub ReleasesFit : List ℕ → Listing → Option Copy → Bool → List Back → List Freed → Type 0
ReleasesFit array l c given returns [] = Unit {0}
ReleasesFit array l c given returns (f ∷ fs) = (f.version ≡ l.version → (l.exclusive ≡ true) × (l.mark ≡ Yielding) × (f.bytes ≡ array) × StandsFreed array l.version c given returns) × ReleasesFit array l c given returns fs

-- the marks of a listed version
pub record MarkFits (last : ℕ) (array : List ℕ) (l : Listing) (recalls yields : List ℕ) (returns : List Back) (releases : List Freed) (r : Remote) : Type 0 where
  pub least : 1 ≤ l.version
  pub most : l.version ≤ last
  pub unrecalled : l.mark ≢ Recalled → (is_recall_due l.version r.due ≡ false) × ¬ In l.version recalls
  pub unyielding : l.mark ≢ Yielding → (is_yield_due l.version r.due ≡ false) × ¬ In l.version yields
  pub recalled : l.mark ≡ Recalled → In l.version recalls ⊎ (is_recall_due l.version r.due ≡ true) × (r.asking ≢ None) ⊎ (r.leaving ≡ true) ⊎ (returns ≢ [])
  pub yielding : l.mark ≡ Yielding → (l.exclusive ≡ true) × (In l.version yields ⊎ (is_yield_due l.version r.due ≡ true) × (r.asking ≢ None) ⊎ (r.lowering ≡ true) ⊎ HasVersion l.version releases ⊎ WithBytes array returns)
  pub released : HasVersion l.version releases → (is_yield_due l.version r.due ≡ false) × (¬ In l.version yields) × (r.lowering ≡ false)
  -- a yield that came, and is due or makes the copy a shared one at the end of its section, is under way no more
  pub came : (is_yield_due l.version r.due ≡ true) ⊎ (r.lowering ≡ true) → ¬ In l.version yields
  pub freed : ReleasesFit array l r.copy r.given returns releases

abbrev pub RecallFits : ℕ → List ℕ → Option Listing → List ℕ → List ℕ → List Back → List Freed → Remote → Type 0
RecallFits last array None recalls yields returns releases r = Unit {0}
RecallFits last array (Some l) recalls yields returns releases r = MarkFits last array l recalls yields returns releases r

-- a mark to leave or to lower is on a copy that was called so, with a section open
abbrev pub LeavingFits : Option Listing → Remote → Type 0
LeavingFits None r = (r.leaving ≡ false) × (r.lowering ≡ false)
LeavingFits (Some l) r = (r.leaving ≡ true → (l.mark ≡ Recalled) × (r.here ≢ Closed)) × (r.lowering ≡ true → (l.mark ≡ Yielding) × (r.here ≡ Writing))

abbrev pub GivenFits : Option Copy → Bool → Type 0
GivenFits None given = given ≡ false
GivenFits (Some c) given = given ≡ true → c.exclusive ≡ false

abbrev pub HaveFits : Asked → Option Listing → Option Copy → List Back → Type 0
HaveFits a l (Some c) back = (a.write ≡ true) × (c.version ≡ a.have) × (c.exclusive ≡ false)
HaveFits a None None back = Unit {0}
HaveFits a (Some l) None back = 1 ≤ a.have → (l.version ≡ a.have) × (l.mark ≡ Recalled) × (back ≢ [])

-- a call that is due is of a later version than the copy
abbrev pub DueFits : Option Copy → Option Due → Type 0
DueFits (Some c) (Some d) = c.version < d.version
DueFits _ _ = Unit {0}

-- the one pending ask
abbrev pub HavesFit : List Asked → Option Listing → Option Copy → List Back → Type 0
HavesFit [] l c back = Unit {0}
HavesFit (a ∷ pending) l c back = HaveFits a l c back

-- a shared copy that is listed as exclusive has its release under way
abbrev pub KindFits : Option Listing → Option Copy → List Given → Bool → List Freed → Type 0
KindFits (Some l) (Some c) [] given releases = (c.exclusive ≡ l.exclusive) ⊎ (given ≡ true) × (c.exclusive ≡ false) × (l.exclusive ≡ true) × HasVersion l.version releases
KindFits _ _ _ given releases = Unit {0}

-- the version is the node's: it is listed of it, or its release is under way
abbrev pub Owns : ℕ → HomeAndNode → Type 0
Owns v p = ((l : Listing) × (p.listed ≡ Some l) × (l.version ≡ v)) ⊎ HasVersion v p.releases

pub record PairHolds (last : ℕ) (array : List ℕ) (p : HomeAndNode) : Type 0 where
  pub places : Places array p.listed p.remote.copy p.grants p.returns
  pub kind : KindFits p.listed p.remote.copy p.grants p.remote.given p.releases
  pub older : OlderFits p.remote.copy p.grants p.recalls
  pub ask : AskPlace p.remote.asking p.pending p.grants
  pub section : SectionFits p.remote.here p.remote.copy p.remote.asking
  pub due_limit : due_version p.remote.due ≤ limit last p.listed
  pub recall_limit : (v : ℕ) → In v p.recalls → v ≤ limit last p.listed
  pub yield_limit : (v : ℕ) → In v p.yields → v ≤ limit last p.listed
  pub release_limit : (v : ℕ) → HasVersion v p.releases → v ≤ limit last p.listed
  pub recall : RecallFits last array p.listed p.recalls p.yields p.returns p.releases p.remote
  pub once : Once p.yields
  pub distinct : Distinct p.releases
  pub idle : p.remote.asking ≡ None → p.remote.due ≡ None
  pub due : DueFits p.remote.copy p.remote.due
  pub leaving : LeavingFits p.listed p.remote
  pub given : GivenFits p.remote.copy p.remote.given
  pub have : HavesFit p.pending p.listed p.remote.copy p.returns
  pub asks_size : p.remote.asking ≢ None → p.remote.size ≡ length array
  pub sized : AreSized (length array) p.releases
