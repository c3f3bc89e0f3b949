-- Where a section opens with a message, the node waits for it.
use Rattle.std.proofs.Common.{◌≡◌, ℕ, true, Some, length}
use Rattle.crl_model.specs.declared.name.Name.{Name}
use Rattle.crl_model.specs.declared.message.Granted.{Granted}
use Rattle.crl_model.specs.declared.message.Kind.{Kind}
use Rattle.crl_protocol.specs.Home.{Home, HomeStep}
use Rattle.crl_protocol.specs.Remote.{Remote, grant_fits}
use Rattle.crl_protocol.specs.Node.{Node, Waiting, ForSection, home_of}
use Rattle.crl_deeds.specs.Deeds.{Serves, ask_comes, copy_returns, copy_lowers}
use Rattle.crl_deeds.specs.NodeFacts.{IsAway, Fits}
use Rattle.crl_deeds.specs.TableFacts.{HomeGoes}
use Rattle.crl_deeds.proofs.Fits.CopyMessages.{waits_own, waits_granted}
use Rattle.crl_deeds.proofs.Fits.Parts.{home_bytes, queue_of, asking_of}
use Rattle.crl_deeds.proofs.Fits.TableSteps.{asked_goes, returned_goes, released_goes}

pub serves_goes : (n : Node) (h : Home) (from : ℕ) (k : Kind) (name : Name) (s : HomeStep) → Serves n h from k name s → IsAway from n.me k → length h.bytes ≡ h.size → HomeGoes n.me h s
serves_goes n h from k name s (ask_comes f q write have free) away b = asked_goes n.me (record { node = from; write = write; have = have }) h away b
serves_goes n h from k name s (copy_returns f q version bytes fits) away b = returned_goes n.me from version bytes h b fits
serves_goes n h from k name s (copy_lowers f q version bytes fits) away b = released_goes n.me from version bytes h b fits

pub own_waits : (j : ℕ) (n : Node) (h : Home) (from : ℕ) (k : Kind) (name : Name) (s : HomeStep) → Serves n h from k name s → home_of n name ≡ Some h → s.opened ≡ true → IsAway from n.me k → Fits j n
    → n.activity ≡ Waiting (ForSection name)
own_waits j n h from k name s is e x away f = waits_own n.me name h s n.activity x (serves_goes n h from k name s is away (home_bytes j n name h e f)) (queue_of j n name h e f)

pub grant_waits : (j : ℕ) (n : Node) (name : Name) (g : Granted) (r : Remote) → n.remotes name ≡ Some r → grant_fits g r ≡ true → Fits j n → n.activity ≡ Waiting (ForSection name)
grant_waits j n name g r e fits f = waits_granted name g r n.activity fits (asking_of j n name r e f)
