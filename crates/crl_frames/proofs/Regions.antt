-- Each event of a region leaves bytes, where what it leaves in the array are bytes.
use Rattle.std.proofs.Common.{ℕ, zero, suc, ◌==◌, true, List, [], ◌∷◌, replicate, sym, subst, arith}
use Rattle.std.specs.List.{AllByRecursion}
use Rattle.std.proofs.lemmas.Bool.{cond_both}
use Rattle.crl_model.specs.Names.{at_node}
use Rattle.crl_protocol.specs.Mail.{Mail, Letter}
use Rattle.crl_protocol.specs.Home.{Home, HomeStep}
use Rattle.crl_protocol.specs.Remote.{Remote, RemoteStep, new_remote, remote_takes_grant}
use Rattle.crl_deeds.proofs.Laws.{all_append, all_took}
use Rattle.crl_coherence.specs.Region.{Flying, Region, sent, sent_by, at_home, at_remote, Happens}
use Rattle.crl_coherence.specs.Region as event
use Rattle.crl_coherence.specs.Coherent.{created}
use Rattle.crl_regions.specs.Steps.{IsCarried, GoesOn}
use Rattle.crl_framed.proofs.Laws.{put_back, all_moved}
use Rattle.crl_frames.specs.Frames.{AreBytes}
use Rattle.crl_frames.proofs.Copies.{MailBytes, CopyBytes, HomeBytes, SideBytes, asked_bytes, returned_bytes, released_bytes, started_bytes, read_bytes, write_bytes, starts_bytes, takes_bytes, recall_bytes, yield_bytes, side_read_bytes, side_write_bytes, flush_bytes}

abbrev pub FlyingBytes : Flying → Type 0
FlyingBytes f = MailBytes f.mail

-- all that has bytes of the region has bytes
pub record RegionBytes (g : Region) : Type 0 where
  pub table : AreBytes g.home.bytes
  pub copies : (n : ℕ) → CopyBytes (g.remotes n).copy
  pub flight : AllByRecursion FlyingBytes g.flight

sent_bytes : (posts : List Letter) → AllByRecursion (λ (l : Letter). MailBytes l.mail) posts → AllByRecursion FlyingBytes (sent posts)
sent_bytes [] h = tt
sent_bytes (l ∷ posts) h = (h.0, sent_bytes posts h.1)

sent_by_bytes : (n : ℕ) (posts : List Mail) → AllByRecursion MailBytes posts → AllByRecursion FlyingBytes (sent_by n posts)
sent_by_bytes n [] h = tt
sent_by_bytes n (m ∷ posts) h = (h.0, sent_by_bytes n posts h.1)

home_step : (g : Region) (s : HomeStep) (rest : List Flying) → HomeBytes s → RegionBytes g → AllByRecursion FlyingBytes rest → RegionBytes (at_home s rest g)
home_step g s rest x r f = record { table = x.table; copies = r.copies; flight = all_append FlyingBytes rest (sent s.posts) f (sent_bytes s.posts x.posts) }

copies_put : (g : Region) (n : ℕ) (r : Remote) → CopyBytes r.copy → RegionBytes g → (m : ℕ) → CopyBytes (at_node g.remotes n r m).copy
copies_put g n r x k m = cond_both (n == m) r (g.remotes m) (λ (y : Remote). CopyBytes y.copy) (λ w. x) (λ w. k.copies m)

side_step : (g : Region) (n : ℕ) (s : RemoteStep) (rest : List Flying) → SideBytes s → RegionBytes g → AllByRecursion FlyingBytes rest → RegionBytes (at_remote n s rest g)
side_step g n s rest x r f = record { table = r.table; copies = copies_put g n s.remote x.copy r; flight = all_append FlyingBytes rest (sent_by n s.posts) f (sent_by_bytes n s.posts x.posts) }

happens_bytes : (me : ℕ) (g h : Region) → Happens me g h → AreBytes h.array → RegionBytes g → RegionBytes h
happens_bytes me g h (event.ask_comes n write have rest other took) a r =
    let f = all_took FlyingBytes took r.flight in home_step g _ rest (asked_bytes me (record { node = n; write = write; have = have }) g.home r.table) r f.1
happens_bytes me g h (event.return_comes n version bytes rest other took) a r =
    let f = all_took FlyingBytes took r.flight in home_step g _ rest (returned_bytes me n bytes g.home f.0 r.table) r f.1
happens_bytes me g h (event.release_comes n version bytes rest other took) a r =
    let f = all_took FlyingBytes took r.flight in home_step g _ rest (released_bytes me n version bytes g.home f.0 r.table) r f.1
happens_bytes me g h (event.home_start write may idle) a r = home_step g _ g.flight (started_bytes me write g.home r.table) r r.flight
happens_bytes me g h (event.home_end_read count reading idle) a r = home_step g _ g.flight (read_bytes me g.home r.table) r r.flight
happens_bytes me g h (event.home_end_write bytes writing idle sized) a r =
    let x = home_step g _ g.flight (write_bytes me bytes g.home a) r r.flight in record { table = x.table; copies = x.copies; flight = x.flight }
happens_bytes me g h (event.grant_comes n version granted rest other took) a r =
    let f = all_took FlyingBytes took r.flight in
    side_step g n (record { remote = remote_takes_grant version granted (g.remotes n); posts = []; opened = true }) rest (record { copy = takes_bytes version granted (g.remotes n) f.0 (r.copies n); posts = tt }) r f.1
happens_bytes me g h (event.recall_comes n version rest other took) a r =
    let f = all_took FlyingBytes took r.flight in side_step g n _ rest (recall_bytes version (g.remotes n) (r.copies n)) r f.1
happens_bytes me g h (event.yield_comes n version rest other took) a r =
    let f = all_took FlyingBytes took r.flight in side_step g n _ rest (yield_bytes version (g.remotes n) (r.copies n)) r f.1
happens_bytes me g h (event.start n write other may idle size) a r = side_step g n _ g.flight (starts_bytes write (g.remotes n) (r.copies n)) r r.flight
happens_bytes me g h (event.end_read n count other reading) a r = side_step g n _ g.flight (side_read_bytes (g.remotes n) (r.copies n)) r r.flight
happens_bytes me g h (event.end_write n bytes other writing sized) a r =
    let x = side_step g n _ g.flight (side_write_bytes bytes (g.remotes n) a) r r.flight in record { table = x.table; copies = x.copies; flight = x.flight }
happens_bytes me g h (event.flush n other closed idle) a r = side_step g n _ g.flight (flush_bytes (g.remotes n) (r.copies n)) r r.flight
happens_bytes me g h (event.forget n size other closed idle) a r =
    let x = side_step g n _ g.flight (flush_bytes (g.remotes n) (r.copies n)) r r.flight in record { table = x.table; copies = copies_put g n (new_remote size) tt r; flight = x.flight }
happens_bytes me g h (event.appears n size other blank) a r = record { table = r.table; copies = copies_put g n (new_remote size) tt r; flight = r.flight }
happens_bytes me g h (event.carry f rest after out in_) a r = let k = all_took FlyingBytes out r.flight in record { table = r.table; copies = r.copies; flight = put_back FlyingBytes in_ k.0 k.1 }
happens_bytes me g h event.elsewhere a r = r

carried_bytes : (c k : Region) → IsCarried c k → RegionBytes c → RegionBytes k
carried_bytes c k x r = record {
  table = subst (λ (h : Home). AreBytes h.bytes) x.home r.table;
  copies = λ n. subst (λ (y : Remote). CopyBytes y.copy) (x.remotes n) (r.copies n);
  flight = all_moved FlyingBytes x.flight r.flight;
}

pub goes_on_bytes : (me : ℕ) (g k : Region) → GoesOn me g k → AreBytes k.array → RegionBytes g → RegionBytes k
goes_on_bytes me g k x a r = carried_bytes x.0 k x.2 (happens_bytes me g x.0 x.1 (subst AreBytes (sym x.2.array) a) r)

pub zeros : (size : ℕ) → AreBytes (replicate size 0)
zeros zero = tt
zeros (suc size) = (omega arith, zeros size)

pub created_bytes : (nodes size : ℕ) (sizes : ℕ → ℕ) → RegionBytes (created nodes size sizes)
created_bytes nodes size sizes = record { table = zeros size; copies = λ n. tt; flight = tt }
