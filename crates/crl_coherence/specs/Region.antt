-- One region by itself: its home, the sides of all other nodes, its messages under way, and the bytes that the
-- single machine's array has of it.
use Rattle.std.specs.Prelude.{◌≡◌, ◌≢◌, ℕ, ◌+◌, ◌<◌, ◌^◌, Bool, true, false, List, [], ◌∷◌, ◌++◌, length, map}
use Rattle.std.specs.declared.option.Option.{Option}
use Rattle.std.specs.declared.option.Option.TheVariants.{None}
use Rattle.crl_model.specs.declared.directory.Section.{Section}
use Rattle.crl_model.specs.declared.directory.Section.TheVariants.{Closed, Reading, Writing}
use Rattle.crl_model.specs.declared.directory.Asked.{Asked}
use Rattle.crl_model.specs.declared.message.Granted.{Granted}
use Rattle.crl_model.specs.Names.{at_node}
use Rattle.crl_protocol.specs.Places.{Took}
use Rattle.crl_protocol.specs.Mail.{Mail, Ask, Grant, Recall, Yield, Return, Release, Letter}
use Rattle.crl_protocol.specs.Home.{Home, HomeStep, home_takes_ask, home_takes_return, home_takes_release, home_starts, home_ends_read, home_ends_write}
use Rattle.crl_protocol.specs.Remote.{Remote, RemoteStep, new_remote, remote_starts, remote_takes_grant, remote_takes_recall, remote_takes_yield, remote_ends_read, remote_ends_write, remote_flushes}

-- a message between the home and this other node
pub record Flying : Type 0 where
  pub node : ℕ
  pub mail : Mail

pub record Region : Type 0 where
  pub home : Home
  pub remotes : ℕ → Remote
  pub flight : List Flying
  pub array : List ℕ

-- mail of the home is under way to its addressee, and mail of node n from it
abbrev pub sent : List Letter → List Flying
sent posts = map (λ (l : Letter). record { node = l.to; mail = l.mail }) posts

abbrev pub sent_by : ℕ → List Mail → List Flying
sent_by n posts = map (λ (m : Mail). record { node = n; mail = m }) posts

-- a step at the home, and one at node n. rest is what else is under way
abbrev pub at_home : HomeStep → List Flying → Region → Region
at_home s rest g = record g { home = s.home; flight = rest ++ sent s.posts }

abbrev pub at_remote : ℕ → RemoteStep → List Flying → Region → Region
at_remote n s rest g = record g { remotes = at_node g.remotes n s.remote; flight = rest ++ sent_by n s.posts }

abbrev pub flies : ℕ → Mail → Flying
flies n m = record { node = n; mail = m }

-- a side of a node that doesn't have the region: no copy, no section, nothing asked
abbrev pub IsBlank : Remote → Type 0
IsBlank r = r ≡ new_remote r.size

-- the home's own ask doesn't wait
abbrev pub IsIdle : ℕ → List Asked → Type 0
IsIdle me [] = Unit {0}
IsIdle me (ask ∷ queue) = (ask.node ≢ me) × IsIdle me queue

-- a section may start beside those that are open at the node itself
abbrev pub MayStart : Bool → Section → Type 0
MayStart true Closed = Unit {0}
MayStart true _ = ⊥
MayStart false Closed = Unit {0}
MayStart false (Reading count) = count + 1 < 2 ^ 32
MayStart false Writing = ⊥

-- What may happen to a region whose home is node `me`.
pub data Happens (me : ℕ) : Region → Region → Type 0 where
  -- messages come, at the home
  ask_comes : {g : Region} (n : ℕ) (write : Bool) (have : ℕ) (rest : List Flying) → n ≢ me → Took (flies n (Ask write have)) g.flight rest
      → Happens me g (at_home (home_takes_ask me (record { node = n; write = write; have = have }) g.home) rest g)
  return_comes : {g : Region} (n version : ℕ) (bytes : Option (List ℕ)) (rest : List Flying) → n ≢ me → Took (flies n (Return version bytes)) g.flight rest
      → Happens me g (at_home (home_takes_return me n bytes g.home) rest g)
  release_comes : {g : Region} (n version : ℕ) (bytes : List ℕ) (rest : List Flying) → n ≢ me → Took (flies n (Release version bytes)) g.flight rest
      → Happens me g (at_home (home_takes_release me n version bytes g.home) rest g)
  -- the home's own sections start and end
  home_start : {g : Region} (write : Bool) → MayStart write g.home.mine → IsIdle me g.home.queue
      → Happens me g (at_home (home_starts me write g.home) g.flight g)
  home_end_read : {g : Region} (count : ℕ) → g.home.mine ≡ Reading (count + 1) → IsIdle me g.home.queue
      → Happens me g (at_home (home_ends_read me g.home) g.flight g)
  home_end_write : {g : Region} (bytes : List ℕ) → g.home.mine ≡ Writing → IsIdle me g.home.queue → length bytes ≡ g.home.size
      → Happens me g (record (at_home (home_ends_write me bytes g.home) g.flight g) { array = bytes })
  -- messages come, at another node
  grant_comes : {g : Region} (n version : ℕ) (granted : Granted) (rest : List Flying) → n ≢ me → Took (flies n (Grant version granted)) g.flight rest
      → Happens me g (at_remote n (record { remote = remote_takes_grant version granted (g.remotes n); posts = []; opened = true }) rest g)
  recall_comes : {g : Region} (n version : ℕ) (rest : List Flying) → n ≢ me → Took (flies n (Recall version)) g.flight rest
      → Happens me g (at_remote n (remote_takes_recall version (g.remotes n)) rest g)
  yield_comes : {g : Region} (n version : ℕ) (rest : List Flying) → n ≢ me → Took (flies n (Yield version)) g.flight rest
      → Happens me g (at_remote n (remote_takes_yield version (g.remotes n)) rest g)
  -- another node's sections start and end, its copy is flushed, the name is forgotten, and mapped anew
  start : {g : Region} (n : ℕ) (write : Bool) → n ≢ me → MayStart write (g.remotes n).here → (g.remotes n).asking ≡ None → (g.remotes n).size ≡ g.home.size
      → Happens me g (at_remote n (remote_starts write (g.remotes n)) g.flight g)
  end_read : {g : Region} (n count : ℕ) → n ≢ me → (g.remotes n).here ≡ Reading (count + 1)
      → Happens me g (at_remote n (remote_ends_read (g.remotes n)) g.flight g)
  end_write : {g : Region} (n : ℕ) (bytes : List ℕ) → n ≢ me → (g.remotes n).here ≡ Writing → length bytes ≡ g.home.size
      → Happens me g (record (at_remote n (remote_ends_write bytes (g.remotes n)) g.flight g) { array = bytes })
  flush : {g : Region} (n : ℕ) → n ≢ me → (g.remotes n).here ≡ Closed → (g.remotes n).asking ≡ None
      → Happens me g (at_remote n (remote_flushes (g.remotes n)) g.flight g)
  forget : {g : Region} (n size : ℕ) → n ≢ me → (g.remotes n).here ≡ Closed → (g.remotes n).asking ≡ None
      → Happens me g (record (at_remote n (remote_flushes (g.remotes n)) g.flight g) { remotes = at_node g.remotes n (new_remote size) })
  appears : {g : Region} (n size : ℕ) → n ≢ me → IsBlank (g.remotes n)
      → Happens me g (record g { remotes = at_node g.remotes n (new_remote size) })
  -- a message goes from box to box
  carry : {g : Region} (f : Flying) (rest after : List Flying) → Took f g.flight rest → Took f after rest
      → Happens me g (record g { flight = after })
  -- an event of another region
  elsewhere : {g : Region} → Happens me g g

-- a run of a region's events
pub data Run (me : ℕ) : Region → Region → Type 0 where
  done : {g : Region} → Run me g g
  next : {g h i : Region} → Happens me g h → Run me h i → Run me g i
