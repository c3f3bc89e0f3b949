-- What each step of a region's table at its home, and of a node's side elsewhere, leaves as it was: sizes stay, no asks
-- are posted by a home, and a section opens at the home only with an ask of its own.
use Rattle.std.specs.Prelude.{◌≡◌, ℕ, true, false, List, length}
use Rattle.std.specs.declared.option.Option.TheVariants.{Some}
use Rattle.std.specs.List.{AllByRecursion}
use Rattle.crl_protocol.specs.Mail.{Mail, Ask, Letter}
use Rattle.crl_protocol.specs.Home.{Home, HomeStep}
use Rattle.crl_protocol.specs.Remote.{Copy, Remote, RemoteStep}
use Rattle.crl_deeds.specs.NodeFacts.{NoOwn, OneOwn, CopyFits}

-- mail that is no ask
abbrev pub NoAsk : Mail → Type 0
NoAsk (Ask write have) = ⊥
NoAsk _ = Unit {0}

abbrev pub NoAsks : List Letter → Type 0
NoAsks posts = AllByRecursion (λ (l : Letter). NoAsk l.mail) posts

-- a step of a table: an ask, a return, a release, or the end of a section
pub record HomeGoes (me : ℕ) (h : Home) (s : HomeStep) : Type 0 where
  pub size : s.home.size ≡ h.size
  pub bytes : length s.home.bytes ≡ h.size
  pub mail : NoAsks s.posts
  pub none : NoOwn me h.queue → NoOwn me s.home.queue
  pub silent : NoOwn me h.queue → s.opened ≡ false
  pub one : OneOwn me h.queue → OneOwn me s.home.queue
  pub after : OneOwn me h.queue → s.opened ≡ true → NoOwn me s.home.queue

-- the start of a section at the home
pub record HomeStarts (me : ℕ) (h : Home) (s : HomeStep) : Type 0 where
  pub size : s.home.size ≡ h.size
  pub bytes : length s.home.bytes ≡ h.size
  pub mail : NoAsks s.posts
  pub one : OneOwn me s.home.queue
  pub after : s.opened ≡ true → NoOwn me s.home.queue

-- a step of a side: a recall, a yield, the end of a section, or a flush
pub record RemoteGoes (r : Remote) (s : RemoteStep) : Type 0 where
  pub size : s.remote.size ≡ r.size
  pub bytes : CopyFits s.remote.copy r.size
  pub asking : s.remote.asking ≡ r.asking

-- the start of a section elsewhere
pub record RemoteStarts (r : Remote) (s : RemoteStep) : Type 0 where
  pub size : s.remote.size ≡ r.size
  pub copy : s.remote.copy ≡ r.copy
  pub asking : s.opened ≡ true → s.remote.asking ≡ r.asking
  pub bytes : s.opened ≡ true → (c : Copy) × (r.copy ≡ Some c)
