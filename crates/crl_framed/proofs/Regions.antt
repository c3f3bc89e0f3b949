-- Each event of a region keeps its numbers: of all that is listed, kept or under way.
use Rattle.std.proofs.Common.{ℕ, zero, suc, ◌==◌, true, None, List, [], ◌∷◌, replicate, subst}
use Rattle.std.specs.List.{AllByRecursion}
use Rattle.std.proofs.lemmas.Bool.{cond_both}
use Rattle.crl_model.specs.Names.{at_node}
use Rattle.crl_protocol.specs.Places.{Took, here, there}
use Rattle.crl_protocol.specs.Mail.{Mail, Letter}
use Rattle.crl_protocol.specs.Home.{Home, HomeStep}
use Rattle.crl_protocol.specs.Remote.{Remote, RemoteStep, new_remote, remote_takes_grant}
use Rattle.crl_deeds.proofs.Laws.{all_append, all_took}
use Rattle.crl_flight.specs.Flight.{Moves, still, moved}
use Rattle.crl_coherence.specs.Region.{Flying, Region, sent, sent_by, at_home, at_remote, Happens}
use Rattle.crl_coherence.specs.Region as event
use Rattle.crl_coherence.specs.Coherent.{created}
use Rattle.crl_regions.specs.Steps.{IsCarried, GoesOn}
use Rattle.crl_framed.proofs.Numbers.{Numbered, ListedNumbered, CopyNumbered, TableNumbered, mail_up, copy_up, HomeNumbered, asked_numbered, returned_numbered, released_numbered, started_numbered, read_numbered, write_numbered, SideNumbered, starts_numbered, granted_numbered, recall_numbered, yield_numbered, side_read_numbered, side_write_numbered, flush_numbered}
use Rattle.crl_rounds.proofs.Laws.{all_map}

abbrev FlyingNumbered : ℕ → Flying → Type 0
FlyingNumbered last f = Numbered last f.mail

pub record RegionNumbered (g : Region) : Type 0 where
  pub listed : TableNumbered g.home
  pub copies : (n : ℕ) → CopyNumbered g.home.last (g.remotes n).copy
  pub flight : AllByRecursion (λ f. Numbered g.home.last f.mail) g.flight

sent_numbered : (last : ℕ) (posts : List Letter) → AllByRecursion (λ l. Numbered last l.mail) posts → AllByRecursion (FlyingNumbered last) (sent posts)
sent_numbered last [] h = tt
sent_numbered last (l ∷ posts) h = (h.0, sent_numbered last posts h.1)

sent_by_numbered : (last n : ℕ) (posts : List Mail) → AllByRecursion (Numbered last) posts → AllByRecursion (FlyingNumbered last) (sent_by n posts)
sent_by_numbered last n [] h = tt
sent_by_numbered last n (m ∷ posts) h = (h.0, sent_by_numbered last n posts h.1)

home_step : (g : Region) (s : HomeStep) (rest : List Flying) (size : ℕ) → HomeNumbered g.home.last size s → RegionNumbered g → AllByRecursion (FlyingNumbered g.home.last) rest → RegionNumbered (at_home s rest g)
home_step g s rest size x r f = record {
  listed = x.listed;
  copies = λ n. copy_up g.home.last s.home.last x.grows (g.remotes n).copy (r.copies n);
  flight = all_append (FlyingNumbered s.home.last) rest (sent s.posts)
      (all_map (FlyingNumbered g.home.last) (FlyingNumbered s.home.last) (λ k. mail_up g.home.last s.home.last x.grows k.mail) rest f) (sent_numbered s.home.last s.posts x.posts);
}

copies_put : (g : Region) (n : ℕ) (r : Remote) → CopyNumbered g.home.last r.copy → RegionNumbered g → (m : ℕ) → CopyNumbered g.home.last (at_node g.remotes n r m).copy
copies_put g n r x k m = cond_both (n == m) r (g.remotes m) (λ (y : Remote). CopyNumbered g.home.last y.copy) (λ w. x) (λ w. k.copies m)

side_step : (g : Region) (n : ℕ) (s : RemoteStep) (rest : List Flying) → SideNumbered g.home.last s → RegionNumbered g → AllByRecursion (FlyingNumbered g.home.last) rest → RegionNumbered (at_remote n s rest g)
side_step g n s rest x r f = record {
  listed = r.listed;
  copies = copies_put g n s.remote x.copy r;
  flight = all_append (FlyingNumbered g.home.last) rest (sent_by n s.posts) f (sent_by_numbered g.home.last n s.posts x.posts);
}

pub put_back : {A : Type 0} (P : A → Type 0) {x : A} {xs rest : List A} → Took x xs rest → P x → AllByRecursion P rest → AllByRecursion P xs
put_back P here p h = (p, h)
put_back P (there t) p h = (h.0, put_back P t p h.1)

pub all_moved : {A : Type 0} (P : A → Type 0) {xs ys : List A} → Moves xs ys → AllByRecursion P xs → AllByRecursion P ys
all_moved P still h = h
all_moved P (moved x rest a b m) h = let k = all_took P a h in all_moved P m (put_back P b k.0 k.1)

happens_numbered : (me : ℕ) (g h : Region) → Happens me g h → RegionNumbered g → RegionNumbered h
happens_numbered me g h (event.ask_comes n write have rest other took) r =
    let f = all_took (FlyingNumbered g.home.last) took r.flight in home_step g _ rest g.home.size (asked_numbered me (record { node = n; write = write; have = have }) g.home r.listed) r f.1
happens_numbered me g h (event.return_comes n version bytes rest other took) r =
    let f = all_took (FlyingNumbered g.home.last) took r.flight in home_step g _ rest g.home.size (returned_numbered me n bytes g.home r.listed) r f.1
happens_numbered me g h (event.release_comes n version bytes rest other took) r =
    let f = all_took (FlyingNumbered g.home.last) took r.flight in home_step g _ rest g.home.size (released_numbered me n version bytes g.home f.0 r.listed) r f.1
happens_numbered me g h (event.home_start write may idle) r = home_step g _ g.flight g.home.size (started_numbered me write g.home r.listed) r r.flight
happens_numbered me g h (event.home_end_read count reading idle) r = home_step g _ g.flight g.home.size (read_numbered me g.home r.listed) r r.flight
happens_numbered me g h (event.home_end_write bytes writing idle sized) r =
    let x = home_step g _ g.flight g.home.size (write_numbered me bytes g.home r.listed) r r.flight in record { listed = x.listed; copies = x.copies; flight = x.flight }
happens_numbered me g h (event.grant_comes n version granted rest other took) r =
    let f = all_took (FlyingNumbered g.home.last) took r.flight in side_step g n (record { remote = remote_takes_grant version granted (g.remotes n); posts = []; opened = true }) rest (record { copy = granted_numbered g.home.last version granted (g.remotes n) f.0; posts = tt }) r f.1
happens_numbered me g h (event.recall_comes n version rest other took) r =
    let f = all_took (FlyingNumbered g.home.last) took r.flight in side_step g n _ rest (recall_numbered g.home.last version (g.remotes n) (r.copies n)) r f.1
happens_numbered me g h (event.yield_comes n version rest other took) r =
    let f = all_took (FlyingNumbered g.home.last) took r.flight in side_step g n _ rest (yield_numbered g.home.last version (g.remotes n) (r.copies n)) r f.1
happens_numbered me g h (event.start n write other may idle size) r = side_step g n _ g.flight (starts_numbered g.home.last write (g.remotes n) (r.copies n)) r r.flight
happens_numbered me g h (event.end_read n count other reading) r = side_step g n _ g.flight (side_read_numbered g.home.last (g.remotes n) (r.copies n)) r r.flight
happens_numbered me g h (event.end_write n bytes other writing sized) r =
    let x = side_step g n _ g.flight (side_write_numbered g.home.last bytes (g.remotes n) (r.copies n)) r r.flight in record { listed = x.listed; copies = x.copies; flight = x.flight }
happens_numbered me g h (event.flush n other closed idle) r = side_step g n _ g.flight (flush_numbered g.home.last (g.remotes n) (r.copies n)) r r.flight
happens_numbered me g h (event.forget n size other closed idle) r =
    let x = side_step g n _ g.flight (flush_numbered g.home.last (g.remotes n) (r.copies n)) r r.flight in record { listed = x.listed; copies = copies_put g n (new_remote size) tt r; flight = x.flight }
happens_numbered me g h (event.appears n size other blank) r = record { listed = r.listed; copies = copies_put g n (new_remote size) tt r; flight = r.flight }
happens_numbered me g h (event.carry f rest after a b) r = let k = all_took (FlyingNumbered g.home.last) a r.flight in record { listed = r.listed; copies = r.copies; flight = put_back (FlyingNumbered g.home.last) b k.0 k.1 }
happens_numbered me g h event.elsewhere r = r

carried_numbered : (c k : Region) → IsCarried c k → RegionNumbered c → RegionNumbered k
carried_numbered c k x r = record {
  listed = subst TableNumbered x.home r.listed;
  copies = λ n. subst (λ (y : Remote). CopyNumbered k.home.last y.copy) (x.remotes n) (subst (λ (h : Home). CopyNumbered h.last (c.remotes n).copy) x.home (r.copies n));
  flight = all_moved (FlyingNumbered k.home.last) x.flight (subst (λ (h : Home). AllByRecursion (FlyingNumbered h.last) c.flight) x.home r.flight);
}

pub goes_on_numbered : (me : ℕ) (g k : Region) → GoesOn me g k → RegionNumbered g → RegionNumbered k
goes_on_numbered me g k x r = carried_numbered x.0 k x.2 (happens_numbered me g x.0 x.1 r)

none_listed : (nodes : ℕ) → AllByRecursion (ListedNumbered 0) (replicate nodes None)
none_listed zero = tt
none_listed (suc k) = (tt, none_listed k)

pub created_numbered : (nodes size : ℕ) (sizes : ℕ → ℕ) → RegionNumbered (created nodes size sizes)
created_numbered nodes size sizes = record { listed = none_listed nodes; copies = λ n. tt; flight = tt }
