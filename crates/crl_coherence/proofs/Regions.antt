-- What is said of a region sentence by sentence follows from what holds of it.
use Rattle.std.proofs.Common.{ℕ, List, [], ◌∷◌, ◌++◌, true, false, ◌≡◌, ◌≢◌, refl, arith, inl, sym, ap, subst, ◌∙◌, inr}
use Rattle.std.specs.declared.option.Option.{Option}
use Rattle.std.specs.declared.option.Option.TheVariants.{None, Some}
use Rattle.crl_model.specs.declared.directory.Section.{Section}
use Rattle.crl_model.specs.declared.directory.Section.TheVariants.{Closed, Reading, Writing}
use Rattle.crl_model.specs.declared.directory.Mark.{Mark}
use Rattle.crl_model.specs.declared.directory.Mark.TheVariants.{Plain, Recalled, Yielding}
use Rattle.crl_model.specs.declared.directory.Listing.{Listing}
use Rattle.crl_model.specs.declared.directory.Asked.{Asked}
use Rattle.crl_protocol.specs.Places.{at, find_all}
use Rattle.crl_protocol.specs.Home.{blocks, is_servable, mark_for}
use Rattle.crl_protocol.specs.Remote.{Copy}
use Rattle.crl_protocol.specs.Handlers.{is_queued}
use Rattle.crl_coherence.specs.Region.{Region}
use Rattle.crl_coherence.specs.Pairs.{Given, PairHolds, of_node, asked_in, queued_of, Freed, HasVersion}
use Rattle.crl_coherence.specs.Coherent.{IsCoherent, HeadWaits, HeadBlocks, MineFits, OwnAsk}
use Rattle.crl_coherence.specs.Directory.{between, Among, ComesBack, IsForHead, ReleasedStands}
use Rattle.crl_coherence.proofs.Fits.{queued_none}
use Rattle.crl_coherence.proofs.Lists.{picked_some}
use Rattle.crl_coherence.proofs.Stands.{older_copy, own_returns, released_stands, released_bytes}

-- the home's own ask, where it waits, is the only one, and the home has no section open
own_stands : (me : ℕ) (s : Section) (q : List Asked) → is_queued me q ≡ true → OwnAsk s (find_all (queued_of me) q) → (s ≡ Closed) × ((ask : Asked) × (find_all (queued_of me) q ≡ ask ∷ []))
own_stands me s q e o = go (find_all (queued_of me) q) refl o
  where
    go : (xs : List Asked) → find_all (queued_of me) q ≡ xs → OwnAsk s xs → (s ≡ Closed) × ((ask : Asked) × (find_all (queued_of me) q ≡ ask ∷ []))
    go [] f x = let w = queued_none me q f in cc
    go (a ∷ []) f x = (x, (a, f))
    go (a ∷ b ∷ xs) f x = elim x [ ]

among_has : (v : ℕ) (f : Freed) (fs : List Freed) → Among f fs → f.version ≡ v → HasVersion v fs
among_has v f [] i e = elim i [ ]
among_has v f (x ∷ fs) (inl y) e = inl (sym e ∙ ap (λ z. z.version) y)
among_has v f (x ∷ fs) (inr i) e = inr (among_has v f fs i e)

module _ (me : ℕ) (g : Region) (k : IsCoherent me g)
  where
    pub other : (n : ℕ) (l : Listing) → at n g.home.listed ≡ Some l → n ≢ me
    other n l e f = let o = k.loose.own in let x : at me g.home.listed ≡ Some l = subst (λ m. at m g.home.listed ≡ Some l) f e in cc

    pub kept : (n : ℕ) → n ≢ me → PairHolds g.home.last g.array (between g n)
    kept n ne = k.loose.pairs n ne

    pub kept_listed : (n : ℕ) (l : Listing) → at n g.home.listed ≡ Some l → PairHolds g.home.last g.array (between g n)
    kept_listed n l e = kept n (other n l e)

    -- a version is one node's
    pub different : (n m : ℕ) (l j : Listing) → at n g.home.listed ≡ Some l → at m g.home.listed ≡ Some j → l.version ≡ j.version → n ≡ m
    different n m l j e f v = k.loose.distinct l.version n m (other n l e) (other m j f) (inl (l, e, refl)) (inl (j, f, sym v))

    sender : (n m : ℕ) (l : Listing) → m ≢ me → at n g.home.listed ≡ Some l → HasVersion l.version (between g m).releases → m ≡ n
    sender n m l ne e i = k.loose.distinct l.version m n ne (other n l e) (inr i) (inl (l, e, refl))

    pub released : (n m : ℕ) (l : Listing) → m ≢ me → at n g.home.listed ≡ Some l → HasVersion l.version (between g m).releases → (m ≡ n) × (l.exclusive ≡ true) × (l.mark ≡ Yielding) × ReleasedStands l.version g.array (between g n)
    released n m l ne e i =
        let s = sender n m l ne e i in
        let u = released_stands g.home.last g.array (between g n) l e (subst (λ x. HasVersion l.version (between g x).releases) s i) (kept_listed n l e) in (s, u.0, u.1, u.2)

    pub released_array : (n m : ℕ) (l : Listing) (freed : Freed) → m ≢ me → at n g.home.listed ≡ Some l → Among freed (between g m).releases → freed.version ≡ l.version → freed.bytes ≡ g.array
    released_array n m l freed ne e i v =
        let s = sender n m l ne e (among_has l.version freed (between g m).releases i v) in
        released_bytes g.home.last g.array (between g n) l freed e (subst (λ x. Among freed (between g x).releases) s i) v (kept_listed n l e)

    pub own_ask : is_queued me g.home.queue ≡ true → (g.home.mine ≡ Closed) × ((ask : Asked) × (find_all (queued_of me) g.home.queue ≡ ask ∷ []))
    own_ask e = own_stands me g.home.mine g.home.queue e k.loose.own_ask

    pub older_unlisted : (n m : ℕ) (grant : Given) (copy : Copy) (l : Listing) → n ≢ me → (between g n).grants ≡ grant ∷ [] → (g.remotes n).copy ≡ Some copy → at m g.home.listed ≡ Some l → l.version ≢ copy.version
    older_unlisted n m grant copy l ne e f listed same =
        let u = older_copy g.home.last g.array (between g n) grant copy e f (kept n ne) in
        let i : n ≡ m = k.loose.alone n m u.0 l u.1 u.2 listed in
        let j : at n g.home.listed ≡ Some l = subst (λ x. at x g.home.listed ≡ Some l) (sym i) listed in
        let a = u.1 in
        let v : u.0 ≡ l = cc in
        let w : u.0.version ≡ l.version = ap (λ x. x.version) v in
        let b = u.3 in
        omega arith

    pub unlisted_writing : (n : ℕ) → g.home.mine ≡ Writing → at n g.home.listed ≡ None
    unlisted_writing n w = go (at n g.home.listed) refl
      where
        go : (o : Option Listing) → at n g.home.listed ≡ o → at n g.home.listed ≡ None
        go None e = e
        go (Some l) e = let m : MineFits Writing l.exclusive = subst (λ s. MineFits s l.exclusive) w (k.loose.mine n l e) in elim m [ ]

    pub shared_reading : (n count : ℕ) (l : Listing) → g.home.mine ≡ Reading count → at n g.home.listed ≡ Some l → l.exclusive ≡ false
    shared_reading n count l r e = subst (λ s. MineFits s l.exclusive) r (k.loose.mine n l e)

    -- the head of the queue
    pub unserved : (a : Asked) (q : List Asked) → g.home.queue ≡ a ∷ q → is_servable g.home a ≡ false
    unserved a q e = (subst (λ x. HeadWaits g.home x) e k.head).0

    pub head_marks : (a : Asked) (q : List Asked) (n : ℕ) (l : Listing) → g.home.queue ≡ a ∷ q → at n g.home.listed ≡ Some l → l.mark ≢ Plain → (blocks n l a ≡ true) × (a.node ≢ n) × (l.mark ≡ mark_for a)
    head_marks a q n l e f r = subst (λ x. HeadBlocks n l x) e (k.loose.recalled n l f r)

    pub called : (a : Asked) (q : List Asked) (n : ℕ) (l : Listing) → g.home.queue ≡ a ∷ q → at n g.home.listed ≡ Some l → blocks n l a ≡ true → n ≢ a.node → l.mark ≡ mark_for a
    called a q n l e f b ne = (head_marks a q n l e f ((subst (λ x. HeadWaits g.home x) e k.head).1 n l f b ne)).2

    pub for_head : (n : ℕ) (l : Listing) → at n g.home.listed ≡ Some l → l.mark ≢ Plain → IsForHead n l g.home.queue
    for_head n l f r = go g.home.queue refl (k.loose.recalled n l f r)
      where
        go : (q : List Asked) → g.home.queue ≡ q → HeadBlocks n l q → IsForHead n l g.home.queue
        go [] e h = elim h [ ]
        go (a ∷ q) e h = (a, q, e, h.1, h.0, h.2)

    pub head_plain : (a : Asked) (q : List Asked) (l : Listing) → g.home.queue ≡ a ∷ q → at a.node g.home.listed ≡ Some l → l.mark ≡ Plain
    head_plain a q l e f = go l.mark refl
      where
        marked : l.mark ≢ Plain → ⊥
        marked r = (head_marks a q a.node l e f r).1 refl

        go : (m : Mark) → l.mark ≡ m → l.mark ≡ Plain
        go Plain x = x
        go Recalled x = absurd (marked (λ y. cc))
        go Yielding x = absurd (marked (λ y. cc))

    pub head_returns : (a : Asked) (q : List Asked) (l : Listing) → g.home.queue ≡ a ∷ q → at a.node g.home.listed ≡ Some l → blocks a.node l a ≡ true → ComesBack l.version (between g a.node)
    head_returns a q l e f b = own_returns g.home.last a.node g.array (between g a.node) a l first refl f b (head_plain a q l e f) (kept_listed a.node l f)
      where
        one : find_all (queued_of a.node) g.home.queue ≡ a ∷ find_all (queued_of a.node) q
        one = ap (λ x. find_all (queued_of a.node) x) e ∙ picked_some (queued_of a.node a) a (find_all (queued_of a.node) q) (grind arith)

        first : Among a (between g a.node).pending
        first = subst (λ x. Among a (x ++ find_all (of_node a.node (asked_in a.node)) g.flight)) (sym one) (inl refl)
