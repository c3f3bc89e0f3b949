-- A section that opens may open, and shows the array.
use Rattle.std.proofs.Common.{ℕ, List, [], ◌∷◌, ◌++◌, Bool, true, false, not, ◌&&◌, ◌≡◌, ◌≢◌, ◌==◌, if◌then◌else◌, refl, arith, inl, inr, sym, subst, ◌∙◌}
use Rattle.std.specs.declared.option.Option.{Option}
use Rattle.std.specs.declared.option.Option.TheVariants.{None, Some}
use Rattle.crl_model.specs.declared.directory.Section.{Section}
use Rattle.crl_model.specs.declared.directory.Section.TheVariants.{Closed, Reading, Writing}
use Rattle.crl_model.specs.declared.directory.Listing.{Listing}
use Rattle.crl_model.specs.declared.directory.Asked.{Asked}
use Rattle.crl_model.specs.declared.message.Granted.{Granted}
use Rattle.crl_protocol.specs.Places.{at, find_all, Took}
use Rattle.crl_protocol.specs.Mail.{Grant}
use Rattle.crl_protocol.specs.Home.{Home, blocks, is_servable, lets_open, is_empty, is_reading, one_section_more, own_ask, open_own, grant_next, grant_for, opens_own_section, posts_first, with_marks, recalls_and_yields, HomeStep, serve, home_starts, home_takes_ask}
use Rattle.crl_protocol.specs.Remote.{Copy, Remote, starts_over, remote_starts, remote_takes_grant}
use Rattle.crl_coherence.specs.Region.{Flying, Region, flies, MayStart}
use Rattle.crl_coherence.specs.Pairs.{pair_of, of_node, granted_in}
use Rattle.crl_coherence.specs.Coherent.{IsLoose, IsCoherent, HeadWaits, MineFits, node_section, MayRead, MayWrite, MayOpen}
use Rattle.crl_coherence.proofs.Lists.{same_or, took_some, took_all}
use Rattle.crl_coherence.proofs.Calls.{clear_at}
use Rattle.crl_coherence.proofs.Facts.{grants_one, reader_listed, writer_listed, copy_listed, grant_listed, grant_shows, section_closed, not_writing}

-- the sections that are open, where s is the home's own
abbrev pub open_at : ℕ → Section → (ℕ → Remote) → ℕ → Section
open_at me s remotes n = if n == me then s else (remotes n).here

pub open_here : (me n : ℕ) (s : Section) (remotes : ℕ → Remote) → n ≡ me → open_at me s remotes n ≡ s
open_here me n s remotes e = grind arith

pub open_there : (me n : ℕ) (s : Section) (remotes : ℕ → Remote) → n ≢ me → open_at me s remotes n ≡ (remotes n).here
open_there me n s remotes e = grind arith

pub all_read : (me : ℕ) (s : Section) (remotes : ℕ → Remote) → s ≢ Writing → ((n : ℕ) → n ≢ me → (remotes n).here ≢ Writing) → MayRead (open_at me s remotes)
all_read me s remotes own other n = elim (same_or n me) [
  | inl e ↦ not_writing (open_at me s remotes n) (λ w. own (sym (open_here me n s remotes e) ∙ w))
  | inr ne ↦ not_writing (open_at me s remotes n) (λ w. other n ne (sym (open_there me n s remotes ne) ∙ w))
]

pub all_closed : (me : ℕ) (s : Section) (remotes : ℕ → Remote) → s ≡ Closed → ((n : ℕ) → n ≢ me → (remotes n).here ≢ Closed → ⊥) → MayWrite (open_at me s remotes)
all_closed me s remotes own other n = elim (same_or n me) [
  | inl e ↦ open_here me n s remotes e ∙ own
  | inr ne ↦ section_closed (open_at me s remotes n) (λ w. other n ne (λ c. w (open_there me n s remotes ne ∙ c)))
]

own_closed : (s : Section) → MineFits s true → s ≡ Closed
own_closed Closed h = refl
own_closed (Reading k) h = cc
own_closed Writing h = elim h [ ]

module _ (me : ℕ) (array : List ℕ) (h : Home) (q : List Asked) (remotes : ℕ → Remote) (flight : List Flying) (k : IsLoose me array h q remotes flight)
  where
    -- what is listed of a node, by its open section
    pub reader_at : (n : ℕ) → n ≢ me → (remotes n).here ≢ Closed → (l : Listing) × (at n h.listed ≡ Some l)
    reader_at n other is_open = reader_listed h.last array (pair_of h.listed q remotes flight n) is_open (k.pairs n other)

    pub writer_at : (n : ℕ) → n ≢ me → (remotes n).here ≡ Writing → (l : Listing) × (at n h.listed ≡ Some l) × (l.exclusive ≡ true)
    writer_at n other writes = writer_listed h.last array (pair_of h.listed q remotes flight n) writes (k.pairs n other)

    -- beside a listed copy nobody else writes, and beside an exclusive one nobody else has a section open
    pub writer_is : (n m : ℕ) (l : Listing) → at n h.listed ≡ Some l → m ≢ me → (remotes m).here ≡ Writing → m ≡ n
    writer_is n m l e other writes = let u = writer_at m other writes in k.alone m n u.0 l u.1 u.2 e

    pub reader_is : (n m : ℕ) (l : Listing) → at n h.listed ≡ Some l → l.exclusive ≡ true → m ≢ me → (remotes m).here ≢ Closed → n ≡ m
    reader_is n m l e x other is_open = let u = reader_at m other is_open in k.alone n m l u.0 e x u.1

    pub own_reads : (n : ℕ) (l : Listing) → at n h.listed ≡ Some l → h.mine ≢ Writing
    own_reads n l e w = let m = k.mine n l e in grind arith

    pub own_shut : (n : ℕ) (l : Listing) → at n h.listed ≡ Some l → l.exclusive ≡ true → h.mine ≡ Closed
    own_shut n l e x = own_closed h.mine (rw x at (k.mine n l e))

    -- a node whose copy is listed may open a section over it
    pub may_read : (n : ℕ) (l : Listing) → at n h.listed ≡ Some l → (remotes n).here ≢ Writing → MayRead (open_at me h.mine remotes)
    may_read n l e here = all_read me h.mine remotes (own_reads n l e) (λ m other w. here (subst (λ x. (remotes x).here ≡ Writing) (writer_is n m l e other w) w))

    pub may_write : (n : ℕ) (l : Listing) → at n h.listed ≡ Some l → l.exclusive ≡ true → (remotes n).here ≡ Closed → MayWrite (open_at me h.mine remotes)
    may_write n l e x here = all_closed me h.mine remotes (own_shut n l e x) (λ m other is_open. is_open (subst (λ y. (remotes y).here ≡ Closed) (reader_is n m l e x other is_open) here))

    pub may_open : (write : Bool) (n : ℕ) (l : Listing) → at n h.listed ≡ Some l → (write ≡ true → l.exclusive ≡ true) → (remotes n).here ≡ Closed → MayOpen write (open_at me h.mine remotes)
    may_open false n l e x here = may_read n l e (λ w. cc)
    may_open true n l e x here = may_write n l e (x refl) here

    -- where nothing listed is exclusive, the home may read, and its bytes are the array's; where nothing is
    -- listed, it may write
    pub home_reads : ((n : ℕ) (l : Listing) → at n h.listed ≡ Some l → l.exclusive ≡ false) → h.mine ≢ Writing → MayRead (open_at me h.mine remotes)
    home_reads shared own = all_read me h.mine remotes own (λ m other w. let u = writer_at m other w in let v = shared m u.0 u.1 in let x = u.2 in cc)

    pub home_writes : ((n : ℕ) (l : Listing) → at n h.listed ≡ Some l → ⊥) → h.mine ≡ Closed → MayWrite (open_at me h.mine remotes)
    home_writes none own = all_closed me h.mine remotes own (λ m other is_open. let u = reader_at m other is_open in none m u.0 u.1)

    -- so where the home's own ask can be served
    module _ (a : Asked) (at_me : a.node ≡ me) (s : is_servable h a ≡ true)
      where
        clear_here : (n : ℕ) (l : Listing) → at n h.listed ≡ Some l → blocks n l a ≡ false
        clear_here n l e = clear_at n h.listed a l (let x = s in grind arith) e

        pub own_shared : (n : ℕ) (l : Listing) → at n h.listed ≡ Some l → l.exclusive ≡ false
        own_shared n l e = let c = clear_here n l e in grind arith

        pub own_bytes : h.bytes ≡ array
        own_bytes = k.bytes own_shared

        own_alone : a.write ≡ true → (n : ℕ) (l : Listing) → at n h.listed ≡ Some l → ⊥
        own_alone w n l e = let c = clear_here n l e in let o = k.own in elim (same_or n me) [ inl x ↦ (let f : at me h.listed ≡ Some l = subst (λ y. at y h.listed ≡ Some l) x e in cc) | inr x ↦ grind arith ]

        own_lets : (s : Section) (w : Bool) → lets_open s w ≡ true → (s ≢ Writing) × (w ≡ true → s ≡ Closed)
        own_lets Closed w e = ((λ f. cc), λ f. refl)
        own_lets (Reading c) w e = ((λ f. cc), λ f. cc)
        own_lets Writing w e = cc

        own_allowed : (h.mine ≢ Writing) × (a.write ≡ true → h.mine ≡ Closed)
        own_allowed = own_lets h.mine a.write (let x = s in grind arith)

        pub own_opens : MayOpen a.write (open_at me h.mine remotes)
        own_opens = go a.write refl
          where
            go : (w : Bool) → a.write ≡ w → MayOpen w (open_at me h.mine remotes)
            go false e = home_reads own_shared own_allowed.0
            go true e = home_writes (own_alone e) (own_allowed.1 e)

-- a call of another node
abbrev pub CallOpens : ℕ → Region → ℕ → Bool → Type 0
CallOpens me g n write = MayOpen write (node_section me g) × ((copy : Copy) × ((g.remotes n).copy ≡ Some copy) × (copy.bytes ≡ g.array))

not_opened : (write : Bool) (c : Copy) (r : Remote) → (starts_over write (Some c) r).opened ≡ true → write ≡ true → c.exclusive ≡ true
not_opened write c r e w = grind arith

start_here : (write : Bool) (s : Section) → MayStart write s → (s ≢ Writing) × (write ≡ true → s ≡ Closed)
start_here true Closed m = ((λ f. cc), λ f. refl)
start_here false Closed m = ((λ f. cc), λ f. cc)
start_here false (Reading c) m = ((λ f. cc), λ f. cc)
start_here true (Reading c) m = elim m [ ]
start_here true Writing m = elim m [ ]
start_here false Writing m = elim m [ ]

pub call_opens : (me : ℕ) (g : Region) (n : ℕ) (write : Bool) → IsCoherent me g → n ≢ me → MayStart write (g.remotes n).here → (g.remotes n).asking ≡ None → (remote_starts write (g.remotes n)).opened ≡ true → CallOpens me g n write
unfolding remote_starts
call_opens me g n write k other may idle opened = go (g.remotes n).copy refl opened
  where
    s : ((g.remotes n).here ≢ Writing) × (write ≡ true → (g.remotes n).here ≡ Closed)
    s = start_here write (g.remotes n).here may

    opens : (w : Bool) (l : Listing) → write ≡ w → at n g.home.listed ≡ Some l → (write ≡ true → l.exclusive ≡ true) → MayOpen w (node_section me g)
    opens false l e f x = may_read me g.array g.home g.home.queue g.remotes g.flight k.loose n l f s.0
    opens true l e f x = may_write me g.array g.home g.home.queue g.remotes g.flight k.loose n l f (x e) (s.1 e)

    go : (o : Option Copy) → (g.remotes n).copy ≡ o → (starts_over write o (g.remotes n)).opened ≡ true → CallOpens me g n write
    go None e f = cc
    go (Some c) e f = let u = copy_listed g.home.last g.array (pair_of g.home.listed g.home.queue g.remotes g.flight n) c e idle (k.loose.pairs n other) in
        (opens write u.0 refl u.1 (λ w. u.2 (not_opened write c (g.remotes n) f w)), (c, e, u.3))

-- a grant that comes
grant_found : (n version : ℕ) (granted : Granted) → of_node n granted_in (flies n (Grant version granted)) ≡ Some (record { version = version; what = granted })
grant_found n version granted = grind arith

pub only_grant : (me : ℕ) (g : Region) (n version : ℕ) (granted : Granted) (rest : List Flying) → IsCoherent me g → n ≢ me → Took (flies n (Grant version granted)) g.flight rest
    → (pair_of g.home.listed g.home.queue g.remotes g.flight n).grants ≡ record { version = version; what = granted } ∷ []
only_grant me g n version granted rest k other took =
    (took_all (record { version = version; what = granted }) (find_all (of_node n granted_in) g.flight) (find_all (of_node n granted_in) rest)
    (took_some (of_node n granted_in) took (record { version = version; what = granted }) (grant_found n version granted))
    (grants_one g.home.last g.array (pair_of g.home.listed g.home.queue g.remotes g.flight n) (k.loose.pairs n other))).0

pub grant_opens : (me : ℕ) (g : Region) (n version : ℕ) (granted : Granted) (rest : List Flying) → IsCoherent me g → n ≢ me → Took (flies n (Grant version granted)) g.flight rest
    → (write : Bool) × ((g.remotes n).asking ≡ Some write) × MayOpen write (node_section me g)
grant_opens me g n version granted rest k other took =
    let one = only_grant me g n version granted rest k other took in
    let x = grant_listed g.home.last g.array (pair_of g.home.listed g.home.queue g.remotes g.flight n) (record { version = version; what = granted }) one (k.loose.pairs n other) in
    (x.1, x.3, may_open me g.array g.home g.home.queue g.remotes g.flight k.loose x.1 n x.0 x.2 x.5 x.4)

pub grant_shown : (me : ℕ) (g : Region) (n version : ℕ) (granted : Granted) (rest : List Flying) → IsCoherent me g → n ≢ me → Took (flies n (Grant version granted)) g.flight rest
    → (copy : Copy) × ((remote_takes_grant version granted (g.remotes n)).copy ≡ Some copy) × (copy.bytes ≡ g.array)
unfolding remote_takes_grant
grant_shown me g n version granted rest k other took =
    grant_shows g.home.last g.array (pair_of g.home.listed g.home.queue g.remotes g.flight n) (record { version = version; what = granted }) (only_grant me g n version granted rest k other took) (k.loose.pairs n other)

-- where the head waits, Serve opens nothing
stopped_quiet : (me : ℕ) (h : Home) (a : Asked) (q : List Asked) → is_servable h a ≡ false → (serve me h (a ∷ q)).opened ≡ false
stopped_quiet me h a q e = go (is_servable h a) e
  where
    go : (b : Bool) → b ≡ false → (if b then (if a.node == me then opens_own_section (serve me (open_own h a) q) else posts_first (grant_for h a) (serve me (grant_next h a) q))
        else record { home = record h { listed = with_marks 0 h.listed a; queue = a ∷ q }; posts = recalls_and_yields 0 h.listed a; opened = false }).opened ≡ false
    go true e = cc
    go false e = refl

-- the ask of another node opens nothing at the home
pub ask_quiet : (me : ℕ) (h : Home) (q : List Asked) (a : Asked) → HeadWaits h q → a.node ≢ me → (serve me h (q ++ a ∷ [])).opened ≡ false
ask_quiet me h (b ∷ q) a w other = stopped_quiet me h b (q ++ a ∷ []) w.0
ask_quiet me h [] a w other = go (is_servable h a) (a.node == me) (grind arith)
  where
    go : (b c : Bool) → c ≡ false → (if b then (if c then opens_own_section (serve me (open_own h a) []) else posts_first (grant_for h a) (serve me (grant_next h a) []))
        else record { home = record h { listed = with_marks 0 h.listed a; queue = a ∷ [] }; posts = recalls_and_yields 0 h.listed a; opened = false }).opened ≡ false
    go true true e = cc
    go true false e = refl
    go false c e = refl

-- a call of the home
abbrev pub HomeOpens : ℕ → Region → Bool → HomeStep → Type 0
HomeOpens me g write s = s.opened ≡ true → MayOpen write (node_section me g) × (s.home.bytes ≡ g.array)

pub home_opens : (me : ℕ) (g : Region) (write : Bool) → IsCoherent me g → HomeOpens me g write (home_starts me write g.home)
unfolding home_starts
home_opens me g write k = go (not write && is_reading g.home.mine) refl (is_empty g.home.queue && is_servable g.home (own_ask me write)) refl
  where
    reading : (s : Section) (w x : Bool) → not w && is_reading s ≡ true → MineFits s x → (w ≡ false) × (s ≢ Writing) × (x ≡ false)
    reading (Reading c) false x e m = (refl, (λ f. cc), m)
    reading (Reading c) true x e m = cc
    reading Closed w x e m = grind arith
    reading Writing w x e m = grind arith

    is_read : not write && is_reading g.home.mine ≡ true → write ≡ false
    is_read e = grind arith

    reads : not write && is_reading g.home.mine ≡ true → g.home.mine ≢ Writing
    reads e w = grind arith

    shared : not write && is_reading g.home.mine ≡ true → (n : ℕ) (l : Listing) → at n g.home.listed ≡ Some l → l.exclusive ≡ false
    shared e n l f = (reading g.home.mine write l.exclusive e (k.loose.mine n l f)).2

    waits : (q : List Asked) → HeadWaits g.home q → is_empty q && is_servable g.home (own_ask me write) ≡ false → (serve me g.home (q ++ own_ask me write ∷ [])).opened ≡ false
    waits (a ∷ q) w e = stopped_quiet me g.home a (q ++ own_ask me write ∷ []) w.0
    waits [] w e = stopped_quiet me g.home (own_ask me write) [] e

    go : (b : Bool) → not write && is_reading g.home.mine ≡ b → (c : Bool) → is_empty g.home.queue && is_servable g.home (own_ask me write) ≡ c
        → HomeOpens me g write (if b then record { home = record g.home { mine = one_section_more g.home.mine }; posts = []; opened = true }
        else if c then record { home = open_own g.home (own_ask me write); posts = []; opened = true }
        else serve me g.home (g.home.queue ++ own_ask me write ∷ []))
    go true e c f = λ o. (subst (λ w. MayOpen w (node_section me g)) (sym (is_read e)) (home_reads me g.array g.home g.home.queue g.remotes g.flight k.loose (shared e) (reads e)), k.loose.bytes (shared e))
    go false e true f = λ o. let s : is_servable g.home (own_ask me write) ≡ true = grind arith in
        (own_opens me g.array g.home g.home.queue g.remotes g.flight k.loose (own_ask me write) refl s, own_bytes me g.array g.home g.home.queue g.remotes g.flight k.loose (own_ask me write) refl s)
    go false e false f = λ o. let w = waits g.home.queue k.head f in cc

-- the ask of another node
pub asked_quiet : (me : ℕ) (g : Region) (a : Asked) → IsCoherent me g → a.node ≢ me → (home_takes_ask me a g.home).opened ≡ true → ⊥
unfolding home_takes_ask
asked_quiet me g a k other o = let w = ask_quiet me g.home g.home.queue a k.head other in cc
