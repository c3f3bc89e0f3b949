-- The home's own sections keep what holds of the region.
use Rattle.std.proofs.Common.{ℕ, ◌-◌, List, [], ◌∷◌, ◌++◌, Bool, true, false, not, ◌&&◌, ◌≡◌, ◌==◌, if◌then◌else◌, length, refl, sym, ap, subst, ◌∙◌, append-nil}
use Rattle.std.specs.declared.option.Option.{Option}
use Rattle.std.specs.declared.option.Option.TheVariants.{None, Some}
use Rattle.crl_model.specs.declared.directory.Section.{Section}
use Rattle.crl_model.specs.declared.directory.Section.TheVariants.{Closed, Reading, Writing}
use Rattle.crl_model.specs.declared.directory.Listing.{Listing}
use Rattle.crl_model.specs.declared.directory.Asked.{Asked}
use Rattle.crl_protocol.specs.Places.{at, find_all}
use Rattle.crl_protocol.specs.Home.{Home, is_clear, is_servable, lets_open, is_empty, is_reading, one_section_more, one_section_less, own_ask, open_own, serve, home_starts, home_ends_read, home_ends_write}
use Rattle.crl_coherence.specs.Region.{Region, at_home, MayStart, IsIdle}
use Rattle.crl_coherence.specs.Pairs.{pair_of, queued_of}
use Rattle.crl_coherence.specs.Coherent.{IsLoose, IsCoherent, HeadWaits, MineFits, OwnAsk}
use Rattle.crl_coherence.proofs.Mails.{mails, kept_to, kept_from, kept_at}
use Rattle.crl_coherence.proofs.RemoteSections.{other_array}
use Rattle.crl_coherence.proofs.Serve.{first_other, last_here, last_other, open_loose}
use Rattle.crl_coherence.proofs.HomeEvents.{served, head_blocks_more}

pub idle_none : (me : ℕ) (q : List Asked) → IsIdle me q → find_all (queued_of me) q ≡ []
idle_none me [] i = refl
idle_none me (a ∷ q) i = first_other me a q i.0 ∙ idle_none me q i.1

own_asks_none : (s : Section) (xs : List Asked) → xs ≡ [] → OwnAsk s xs
own_asks_none s xs e = subst (λ l. OwnAsk s l) (sym e) tt

-- the home's own sections change where none of its asks waits
mine_loose : (me : ℕ) (g : Region) (s : Section) → IsIdle me g.home.queue → ((x : Bool) → MineFits g.home.mine x → MineFits s x) → IsCoherent me g → IsLoose me g.array (record g.home { mine = s }) g.home.queue g.remotes g.flight
mine_loose me g s idle fits k = record {
  pairs = k.loose.pairs;
  own = k.loose.own;
  own_ask = own_asks_none s (find_all (queued_of me) g.home.queue) (idle_none me g.home.queue idle);
  alone = k.loose.alone;
  distinct = k.loose.distinct;
  mine = λ n l e. fits l.exclusive (k.loose.mine n l e);
  bytes = k.loose.bytes;
  recalled = k.loose.recalled;
  size = k.loose.size;
}

-- the home's own ask joins the queue
join_loose : (me : ℕ) (g : Region) (write : Bool) → g.home.mine ≡ Closed → IsIdle me g.home.queue → IsCoherent me g → IsLoose me g.array g.home (g.home.queue ++ own_ask me write ∷ []) g.remotes g.flight
join_loose me g write closed idle k = record {
  pairs = λ n other.
      kept_from g.home.last g.array g.home.listed (g.home.queue ++ own_ask me write ∷ []) g.remotes g.flight n
      (kept_at g.home.last n g.array {ms = mails n g.flight} refl (sym (last_other n (own_ask me write) g.home.queue (λ e. other (sym e)))) refl refl (kept_to g.home.last g.array g.home.listed g.home.queue g.remotes g.flight n (k.loose.pairs n other)));
  own = k.loose.own;
  own_ask = subst (λ l. OwnAsk g.home.mine l) (sym (last_here me (own_ask me write) g.home.queue refl ∙ ap (λ l. l ++ own_ask me write ∷ []) (idle_none me g.home.queue idle))) closed;
  alone = k.loose.alone;
  distinct = k.loose.distinct;
  mine = k.loose.mine;
  bytes = k.loose.bytes;
  recalled = λ n l e r. head_blocks_more n l g.home.queue (own_ask me write) (k.loose.recalled n l e r);
  size = k.loose.size;
}

-- one read section more
more_fits : (s : Section) (x : Bool) → is_reading s ≡ true → MineFits s x → MineFits (one_section_more s) x
more_fits (Reading c) x e m = m
more_fits Closed x e m = cc
more_fits Writing x e m = cc

more_lets : (s : Section) (w : Bool) → is_reading s ≡ true → lets_open (one_section_more s) w ≡ lets_open s w
more_lets (Reading c) w e = refl
more_lets Closed w e = cc
more_lets Writing w e = cc

more_waits : (h : Home) (q : List Asked) → is_reading h.mine ≡ true → HeadWaits h q → HeadWaits (record h { mine = one_section_more h.mine }) q
more_waits h [] e w = tt
more_waits h (a ∷ q) e w = (ap (λ b. b && is_clear 0 h.listed a) (more_lets h.mine a.write e) ∙ w.0, w.1)

second : (w b : Bool) → not w && b ≡ true → b ≡ true
second false b e = e
second true b e = cc

-- a start that isn't inside a read section begins where none is open
start_closed : (write : Bool) (s : Section) → MayStart write s → not write && is_reading s ≡ false → s ≡ Closed
start_closed true Closed m e = refl
start_closed false Closed m e = refl
start_closed false (Reading c) m e = cc
start_closed true (Reading c) m e = elim m [ ]
start_closed true Writing m e = elim m [ ]
start_closed false Writing m e = elim m [ ]

empty_nil : (q : List Asked) (b : Bool) → is_empty q && b ≡ true → (q ≡ []) × (b ≡ true)
empty_nil [] b e = (refl, e)
empty_nil (a ∷ q) b e = cc

head_none : (h : Home) (q : List Asked) → q ≡ [] → HeadWaits h q
head_none h q e = subst (λ l. HeadWaits h l) (sym e) tt

module _ (me : ℕ) (g : Region) (write : Bool) (may : MayStart write g.home.mine) (idle : IsIdle me g.home.queue) (k : IsCoherent me g)
  where
    more_case : not write && is_reading g.home.mine ≡ true → IsCoherent me (at_home (record { home = record g.home { mine = one_section_more g.home.mine }; posts = []; opened = true }) g.flight g)
    more_case e = record {
      loose = subst (λ l. IsLoose me g.array (record g.home { mine = one_section_more g.home.mine }) g.home.queue g.remotes l) (sym (append-nil g.flight))
          (mine_loose me g (one_section_more g.home.mine) idle (λ x m. more_fits g.home.mine x (second write (is_reading g.home.mine) e) m) k);
      head = more_waits g.home g.home.queue (second write (is_reading g.home.mine) e) k.head;
    }

    join_case : not write && is_reading g.home.mine ≡ false → IsLoose me g.array g.home (g.home.queue ++ own_ask me write ∷ []) g.remotes g.flight
    join_case e = join_loose me g write (start_closed write g.home.mine may e) idle k

    open_case : not write && is_reading g.home.mine ≡ false → is_empty g.home.queue && is_servable g.home (own_ask me write) ≡ true
        → IsCoherent me (at_home (record { home = open_own g.home (own_ask me write); posts = []; opened = true }) g.flight g)
    open_case e f = let u = empty_nil g.home.queue (is_servable g.home (own_ask me write)) f in record {
      loose = subst (λ l. IsLoose me g.array (open_own g.home (own_ask me write)) g.home.queue g.remotes l) (sym (append-nil g.flight))
          (subst (λ q. IsLoose me g.array (open_own g.home (own_ask me write)) q g.remotes g.flight) (sym u.0)
          (open_loose me g.array g.home (own_ask me write) [] g.remotes g.flight (subst (λ q. IsLoose me g.array g.home (q ++ own_ask me write ∷ []) g.remotes g.flight) u.0 (join_case e)) u.1 refl));
      head = head_none (open_own g.home (own_ask me write)) g.home.queue u.0;
    }

    start_case : (b : Bool) → not write && is_reading g.home.mine ≡ b → (c : Bool) → is_empty g.home.queue && is_servable g.home (own_ask me write) ≡ c
        → IsCoherent me (at_home (if b then record { home = record g.home { mine = one_section_more g.home.mine }; posts = []; opened = true }
        else if c then record { home = open_own g.home (own_ask me write); posts = []; opened = true }
        else serve me g.home (g.home.queue ++ own_ask me write ∷ [])) g.flight g)
    start_case true e c f = more_case e
    start_case false e true f = open_case e f
    start_case false e false f = served me g.array g g.home (g.home.queue ++ own_ask me write ∷ []) g.flight (join_case e)

    pub home_start_event : IsCoherent me (at_home (home_starts me write g.home) g.flight g)
    unfolding home_starts
    home_start_event = start_case (not write && is_reading g.home.mine) refl (is_empty g.home.queue && is_servable g.home (own_ask me write)) refl

-- one read section less
less_fits : (s : Section) (x : Bool) → MineFits s x → MineFits (one_section_less s) x
less_fits Closed x m = m
less_fits Writing x m = m
less_fits (Reading c) x m = go (c == 1)
  where
    go : (b : Bool) → MineFits (if b then Closed else Reading (c - 1)) x
    go true = tt
    go false = m

pub home_end_read_event : (me : ℕ) (g : Region) → IsIdle me g.home.queue → IsCoherent me g → IsCoherent me (at_home (home_ends_read me g.home) g.flight g)
unfolding home_ends_read
home_end_read_event me g idle k =
    served me g.array g (record g.home { mine = one_section_less g.home.mine }) g.home.queue g.flight (mine_loose me g (one_section_less g.home.mine) idle (λ x m. less_fits g.home.mine x m) k)

-- the home's write section ends, while nothing is listed
end_write_loose : (me : ℕ) (g : Region) (bytes : List ℕ) → g.home.mine ≡ Writing → IsIdle me g.home.queue → length bytes ≡ g.home.size → IsCoherent me g
    → IsLoose me bytes (record g.home { bytes = bytes; mine = Closed }) g.home.queue g.remotes g.flight
end_write_loose me g bytes writing idle sized k = record {
  pairs = λ n other. other_array g.home.last g.array bytes (pair_of g.home.listed g.home.queue g.remotes g.flight n) (none n (at n g.home.listed) refl) (sized ∙ sym k.loose.size) (k.loose.pairs n other);
  own = k.loose.own;
  own_ask = own_asks_none Closed (find_all (queued_of me) g.home.queue) (idle_none me g.home.queue idle);
  alone = k.loose.alone;
  distinct = k.loose.distinct;
  mine = λ n l e. tt;
  bytes = λ e. refl;
  recalled = k.loose.recalled;
  size = sized;
}
  where
    none : (n : ℕ) (o : Option Listing) → at n g.home.listed ≡ o → at n g.home.listed ≡ None
    none n None e = e
    none n (Some l) e = let m : MineFits Writing l.exclusive = subst (λ s. MineFits s l.exclusive) writing (k.loose.mine n l e) in elim m [ ]

pub home_end_write_event : (me : ℕ) (g : Region) (bytes : List ℕ) → g.home.mine ≡ Writing → IsIdle me g.home.queue → length bytes ≡ g.home.size → IsCoherent me g
    → IsCoherent me (record (at_home (home_ends_write me bytes g.home) g.flight g) { array = bytes })
unfolding home_ends_write
home_end_write_event me g bytes writing idle sized k =
    served me bytes g (record g.home { bytes = bytes; mine = Closed }) g.home.queue g.flight (end_write_loose me g bytes writing idle sized k)
