-- What holds of a region after each event, and what follows from it.
use Rattle.std.specs.Prelude.{◌≡◌, ◌≢◌, ℕ, ◌==◌, Bool, true, false, if◌then◌else◌, List, [], ◌∷◌, length, replicate}
use Rattle.std.specs.declared.option.Option.TheVariants.{None, Some}
use Rattle.crl_model.specs.declared.directory.Section.{Section}
use Rattle.crl_model.specs.declared.directory.Section.TheVariants.{Closed, Reading, Writing}
use Rattle.crl_model.specs.declared.directory.Mark.TheVariants.{Plain}
use Rattle.crl_model.specs.declared.directory.Listing.{Listing}
use Rattle.crl_model.specs.declared.directory.Asked.{Asked}
use Rattle.crl_protocol.specs.Places.{at, find_all}
use Rattle.crl_protocol.specs.Home.{Home, blocks, is_servable, mark_for, new_home}
use Rattle.crl_protocol.specs.Remote.{Remote, new_remote}
use Rattle.crl_protocol.specs.Sections.{is_writing}
use Rattle.crl_protocol.specs.Sectioning.{copy_bytes}
use Rattle.crl_coherence.specs.Region.{Flying, Region}
use Rattle.crl_coherence.specs.Pairs.{PairHolds, Owns, pair_of, queued_of}

-- the ask at the head is another node's, and the copy stands in its way
abbrev pub HeadBlocks : ℕ → Listing → List Asked → Type 0
HeadBlocks n l [] = ⊥
HeadBlocks n l (a ∷ q) = (blocks n l a ≡ true) × (a.node ≢ n) × (l.mark ≡ mark_for a)

abbrev pub MineFits : Section → Bool → Type 0
MineFits Closed exclusive = Unit {0}
MineFits (Reading k) exclusive = exclusive ≡ false
MineFits Writing exclusive = ⊥

abbrev pub OwnAsk : Section → List Asked → Type 0
OwnAsk s [] = Unit {0}
OwnAsk s (a ∷ []) = s ≡ Closed
OwnAsk s (a ∷ b ∷ q) = ⊥

-- What holds of a region while its queue is served: the queue is `queue`, whatever the table says.
pub record IsLoose (me : ℕ) (array : List ℕ) (h : Home) (queue : List Asked) (remotes : ℕ → Remote) (flight : List Flying) : Type 0 where
  pub pairs : (n : ℕ) → n ≢ me → PairHolds h.last array (pair_of h.listed queue remotes flight n)
  pub own : at me h.listed ≡ None
  pub own_ask : OwnAsk h.mine (find_all (queued_of me) queue)
  pub alone : (n m : ℕ) (l k : Listing) → at n h.listed ≡ Some l → l.exclusive ≡ true → at m h.listed ≡ Some k → n ≡ m
  -- a version is one node's
  pub distinct : (v n m : ℕ) → n ≢ me → m ≢ me → Owns v (pair_of h.listed queue remotes flight n) → Owns v (pair_of h.listed queue remotes flight m) → n ≡ m
  pub mine : (n : ℕ) (l : Listing) → at n h.listed ≡ Some l → MineFits h.mine l.exclusive
  pub bytes : ((n : ℕ) (l : Listing) → at n h.listed ≡ Some l → l.exclusive ≡ false) → h.bytes ≡ array
  pub recalled : (n : ℕ) (l : Listing) → at n h.listed ≡ Some l → l.mark ≢ Plain → HeadBlocks n l queue
  pub size : length array ≡ h.size

-- the head of the queue isn't servable, and each copy of another node that blocks it is recalled
abbrev pub HeadWaits : Home → List Asked → Type 0
HeadWaits h [] = Unit {0}
HeadWaits h (a ∷ q) = (is_servable h a ≡ false) × ((n : ℕ) (l : Listing) → at n h.listed ≡ Some l → blocks n l a ≡ true → n ≢ a.node → l.mark ≢ Plain)

-- what holds of a region after each event
pub record IsCoherent (me : ℕ) (g : Region) : Type 0 where
  pub loose : IsLoose me g.array g.home g.home.queue g.remotes g.flight
  pub head : HeadWaits g.home g.home.queue

-- a region that was just created among so many nodes, of which no other node knows
abbrev pub created : ℕ → ℕ → (ℕ → ℕ) → Region
created nodes size sizes = record {
  home = new_home nodes size;
  remotes = λ n. new_remote (sizes n);
  flight = [];
  array = replicate size 0;
}

-- the sections that are open at a node
abbrev pub node_section : ℕ → Region → ℕ → Section
node_section me g n = if n == me then g.home.mine else (g.remotes n).here

-- the bytes that a node has of the region
abbrev pub bytes_at_node : ℕ → Region → ℕ → List ℕ
bytes_at_node me g n = if n == me then g.home.bytes else copy_bytes (g.remotes n).copy

-- A section may open as the single machine has it: to read, no write section is open anywhere; to write, no
-- section at all.
abbrev pub MayRead : (ℕ → Section) → Type 0
MayRead sections = (m : ℕ) → is_writing (sections m) ≡ false

abbrev pub MayWrite : (ℕ → Section) → Type 0
MayWrite sections = (m : ℕ) → sections m ≡ Closed

abbrev pub MayOpen : Bool → (ℕ → Section) → Type 0
MayOpen false sections = MayRead sections
MayOpen true sections = MayWrite sections
