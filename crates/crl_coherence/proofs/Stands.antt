-- Where asks, versions and calls stand, of the home and one node.
use Rattle.std.proofs.Common.{ℕ, List, [], ◌∷◌, Bool, true, false, ◌≡◌, ◌≢◌, ◌⊎◌, ◌≤◌, ◌<◌, length, refl, arith, inl, inr, sym, ap, subst, ◌∙◌}
use Rattle.std.specs.declared.option.Option.{Option}
use Rattle.std.specs.declared.option.Option.TheVariants.{None, Some}
use Rattle.crl_model.specs.declared.directory.Section.TheVariants.{Closed, Writing}
use Rattle.crl_model.specs.declared.directory.Mark.TheVariants.{Plain, Recalled, Yielding}
use Rattle.crl_model.specs.declared.directory.Listing.{Listing}
use Rattle.crl_model.specs.declared.directory.Asked.{Asked}
use Rattle.crl_model.specs.declared.directory.Due.{Due}
use Rattle.crl_model.specs.declared.message.Granted.{Granted}
use Rattle.crl_model.specs.declared.message.Granted.TheVariants.{Shared, Exclusive, Upgrade}
use Rattle.crl_protocol.specs.Home.{blocks}
use Rattle.crl_protocol.specs.Remote.{Copy, is_recall_due, is_yield_due}
use Rattle.crl_coherence.specs.Pairs.{In, Given, Back, Freed, HomeAndNode, PairHolds, MarkFits, LeavingFits, KindFits, HaveFits, HavesFit, HasVersion, ReleasesFit, StandsFreed, AreSized, WithBytes, limit, due_version}
use Rattle.crl_coherence.specs.Directory.{Among, AskStands, waits_to_be_served, was_granted, UnderGrant, Holds, ComesBack, ComesBackWith, VersionStands, grant_under_way, copy_here, return_under_way, HasNothing, ReleasedStands, IsCalled, RecallStands, recall_under_way, recall_is_due, copy_leaves, copy_returns, YieldStands, yield_under_way, yield_is_due, copy_lowers, release_under_way, bytes_return, HaveStands, still_here, listed_no_more, was_recalled, GrantShows}
use Rattle.crl_coherence.proofs.Facts.{marks_of, listed_version}

-- asks
pub ask_stands : (last : ℕ) (array : List ℕ) (p : HomeAndNode) (write : Bool) → p.remote.asking ≡ Some write → PairHolds last array p → AskStands write p
ask_stands last array p write e h = go p.pending p.grants refl refl
  where
    go : (asks : List Asked) (grants : List Given) → p.pending ≡ asks → p.grants ≡ grants → AskStands write p
    go [] [] f g = let a = h.ask in absurd (grind arith)
    go (a ∷ []) [] f g = waits_to_be_served a f (let k = h.ask in grind arith) g
    go [] (x ∷ []) f g = was_granted x g (let k = h.ask in grind arith) f
    go (a ∷ b ∷ asks) grants f g = let k = h.ask in absurd (grind arith)
    go (a ∷ []) (x ∷ grants) f g = let k = h.ask in absurd (grind arith)
    go [] (x ∷ y ∷ grants) f g = let k = h.ask in absurd (grind arith)

pub ask_rests : (last : ℕ) (array : List ℕ) (p : HomeAndNode) → p.remote.asking ≡ None → PairHolds last array p → (p.pending ≡ []) × (p.grants ≡ [])
ask_rests last array p e h = ((let a = h.ask in grind arith), (let a = h.ask in grind arith))

pub ask_closed : (last : ℕ) (array : List ℕ) (p : HomeAndNode) → p.remote.asking ≢ None → PairHolds last array p → p.remote.here ≡ Closed
ask_closed last array p e h = let s = h.section in grind arith

-- versions
under_grant : (version : ℕ) (what : Granted) (copy : Option Copy) (grant : Given) → grant.what ≡ what → UnderGrant version what copy → UnderGrant version grant.what copy
under_grant version what copy grant e u = subst (λ w. UnderGrant version w copy) (sym e) u

pub version_stands : (last : ℕ) (array : List ℕ) (p : HomeAndNode) (l : Listing) → p.listed ≡ Some l → PairHolds last array p → VersionStands l.version p
version_stands last array p l e h = go p.remote.copy p.grants p.returns refl refl refl
  where
    over : (what : Granted) (copy : Option Copy) (g : Given) → g.what ≡ what → p.remote.copy ≡ copy → p.grants ≡ g ∷ [] → UnderGrant l.version what p.remote.copy
    over (Shared bytes) None g w f x = f
    over (Exclusive bytes) None g w f x = f
    over Upgrade None g w f x = let k = h.places in absurd (grind arith)
    over (Shared bytes) (Some c) g w f x = let k = h.places in absurd (grind arith)
    over (Exclusive bytes) (Some c) g w f x = let k = h.places in absurd (grind arith)
    over Upgrade (Some c) g w f x = (c, f, (let k = h.places in grind arith), (let k = h.places in grind arith))

    go : (copy : Option Copy) (grants : List Given) (returns : List Back) → p.remote.copy ≡ copy → p.grants ≡ grants → p.returns ≡ returns → VersionStands l.version p
    go copy (g ∷ grants) (b ∷ returns) f x y = let k = h.places in absurd (grind arith)
    go copy (g ∷ g' ∷ grants) [] f x y = let k = h.places in absurd (grind arith)
    go copy (g ∷ []) [] f x y = grant_under_way g x (let k = h.places in grind arith) (over g.what copy g refl f x) y
    go (Some c) [] [] f x y = copy_here (c, f, (let k = h.places in grind arith)) x y
    go None [] [] f x y = let k = h.places in absurd (grind arith)
    go None [] (b ∷ []) f x y = return_under_way (b, y, (let k = h.places in grind arith)) f x
    go None [] (b ∷ b' ∷ returns) f x y = let k = h.places in absurd (grind arith)
    go (Some c) [] (b ∷ returns) f x y = let k = h.places in absurd (grind arith)

pub nothing_stands : (last : ℕ) (array : List ℕ) (p : HomeAndNode) → p.listed ≡ None → PairHolds last array p → HasNothing p
nothing_stands last array p e h = let k = h.places in ((grind arith), (grind arith), (grind arith))

-- under an upgrade the node's listed version is exclusive, and later than its copy's
pub older_copy : (last : ℕ) (array : List ℕ) (p : HomeAndNode) (grant : Given) (copy : Copy) → p.grants ≡ grant ∷ [] → p.remote.copy ≡ Some copy → PairHolds last array p
    → (l : Listing) × (p.listed ≡ Some l) × (l.exclusive ≡ true) × (copy.version < l.version)
older_copy last array p grant copy e f h = go p.listed grant.what refl refl
  where
    go : (o : Option Listing) (what : Granted) → p.listed ≡ o → grant.what ≡ what → (l : Listing) × (p.listed ≡ Some l) × (l.exclusive ≡ true) × (copy.version < l.version)
    go None what x w = let k = h.places in absurd (grind arith)
    go (Some l) (Shared bytes) x w = let k = h.places in absurd (grind arith)
    go (Some l) (Exclusive bytes) x w = let k = h.places in absurd (grind arith)
    go (Some l) Upgrade x w = (l, x, (let k = h.places in grind arith), (let k = h.places in grind arith))

pub open_copy : (last : ℕ) (array : List ℕ) (p : HomeAndNode) → p.remote.here ≢ Closed → PairHolds last array p → (copy : Copy) × (p.remote.copy ≡ Some copy) × (p.remote.here ≡ Writing → copy.exclusive ≡ true)
open_copy last array p e h = go p.remote.copy refl
  where
    go : (o : Option Copy) → p.remote.copy ≡ o → (copy : Copy) × (p.remote.copy ≡ Some copy) × (p.remote.here ≡ Writing → copy.exclusive ≡ true)
    go None f = let s = h.section in absurd (grind arith)
    go (Some c) f = (c, f, λ w. let s = h.section in grind arith)

-- releases of the listed version
freed_fits : (array : List ℕ) (l : Listing) (c : Option Copy) (given : Bool) (returns : List Back) (fs : List Freed) → HasVersion l.version fs → ReleasesFit array l c given returns fs
    → (l.exclusive ≡ true) × (l.mark ≡ Yielding) × StandsFreed array l.version c given returns
freed_fits array l c given returns [] i m = elim i [ ]
freed_fits array l c given returns (f ∷ fs) (inl e) m = let u = m.0 (sym e) in (u.0, u.1, u.3)
freed_fits array l c given returns (f ∷ fs) (inr i) m = freed_fits array l c given returns fs i m.1

comes_with : (last : ℕ) (array : List ℕ) (p : HomeAndNode) (l : Listing) → p.listed ≡ Some l → PairHolds last array p → WithBytes array p.returns → ComesBackWith l.version array p
comes_with last array p l e h w = go p.returns refl w
  where
    go : (bs : List Back) → p.returns ≡ bs → WithBytes array bs → ComesBackWith l.version array p
    go [] f x = elim x [ ]
    go (b ∷ []) f x = (b, f, (let k = h.places in grind arith), x)
    go (b ∷ b' ∷ bs) f x = let k = h.places in absurd (grind arith)

pub released_stands : (last : ℕ) (array : List ℕ) (p : HomeAndNode) (l : Listing) → p.listed ≡ Some l → HasVersion l.version p.releases → PairHolds last array p
    → (l.exclusive ≡ true) × (l.mark ≡ Yielding) × ReleasedStands l.version array p
released_stands last array p l e i h = (u.0, u.1, go p.remote.copy refl u.2)
  where
    u : (l.exclusive ≡ true) × (l.mark ≡ Yielding) × StandsFreed array l.version p.remote.copy p.remote.given p.returns
    u = freed_fits array l p.remote.copy p.remote.given p.returns p.releases i (marks_of last array p l e h).freed

    go : (o : Option Copy) → p.remote.copy ≡ o → StandsFreed array l.version o p.remote.given p.returns → ReleasedStands l.version array p
    go None f s = inr (comes_with last array p l e h s)
    go (Some c) f s = inl (c, f, s.0, s.2, s.1)

-- marks
recall_due : (version : ℕ) (o : Option Due) → is_recall_due version o ≡ true → o ≡ Some (record { version = version; yields = false })
recall_due version None e = cc
recall_due version (Some d) e = let v : d.version ≡ version = grind arith in let y : d.yields ≡ false = grind arith in λ i. Some (record { version = v i; yields = y i })

yield_due : (version : ℕ) (o : Option Due) → is_yield_due version o ≡ true → o ≡ Some (record { version = version; yields = true })
yield_due version None e = cc
yield_due version (Some d) e = let v : d.version ≡ version = grind arith in let y : d.yields ≡ true = grind arith in λ i. Some (record { version = v i; yields = y i })

not_due : (version : ℕ) (d : Due) (yields : Bool) → d.yields ≡ yields → is_recall_due version (Some d) ≡ false → is_yield_due version (Some d) ≡ false → d.version ≢ version
not_due version d true y e f v = grind arith
not_due version d false y e f v = grind arith

pub plain_uncalled : (last : ℕ) (array : List ℕ) (p : HomeAndNode) (l : Listing) → p.listed ≡ Some l → l.mark ≡ Plain → PairHolds last array p → ¬ IsCalled l.version p
plain_uncalled last array p l e plain h = λ called. elim called [
  | inl i ↦ (m.unrecalled (λ x. cc)).1 i
  | inr rest ↦ elim rest [
    | inl i ↦ (m.unyielding (λ x. cc)).1 i
    | inr due ↦ not_due l.version due.0 due.0.yields refl (subst (λ o. is_recall_due l.version o ≡ false) due.1 (m.unrecalled (λ x. cc)).0) (subst (λ o. is_yield_due l.version o ≡ false) due.1 (m.unyielding (λ x. cc)).0) due.2
  ]
]
  where
    m : MarkFits last array l p.recalls p.yields p.returns p.releases p.remote
    m = marks_of last array p l e h

-- the copy of a node with a section open is the listed one
open_holds : (last : ℕ) (array : List ℕ) (p : HomeAndNode) (l : Listing) → p.listed ≡ Some l → p.remote.here ≢ Closed → PairHolds last array p → Holds l.version p.remote
open_holds last array p l e here h = go p.remote.copy refl
  where
    go : (o : Option Copy) → p.remote.copy ≡ o → Holds l.version p.remote
    go None f = let s = h.section in absurd (grind arith)
    go (Some c) f = (c, f, (let s = h.section in let a = h.ask in let k = h.places in grind arith))

comes_back : (last : ℕ) (array : List ℕ) (p : HomeAndNode) (l : Listing) → p.listed ≡ Some l → p.returns ≢ [] → PairHolds last array p → ComesBack l.version p
comes_back last array p l e r h = go p.returns refl
  where
    go : (bs : List Back) → p.returns ≡ bs → ComesBack l.version p
    go [] f = absurd (r f)
    go (b ∷ []) f = (b, f, (let k = h.places in grind arith))
    go (b ∷ b' ∷ bs) f = let k = h.places in absurd (grind arith)

leaving_fits : (last : ℕ) (array : List ℕ) (p : HomeAndNode) (l : Listing) → p.listed ≡ Some l → PairHolds last array p → (p.remote.leaving ≡ true → (l.mark ≡ Recalled) × (p.remote.here ≢ Closed)) × (p.remote.lowering ≡ true → (l.mark ≡ Yielding) × (p.remote.here ≡ Writing))
leaving_fits last array p l e h = subst (λ o. LeavingFits o p.remote) e h.leaving

pub recall_stands : (last : ℕ) (array : List ℕ) (p : HomeAndNode) (l : Listing) → p.listed ≡ Some l → l.mark ≡ Recalled → PairHolds last array p → RecallStands l.version p
recall_stands last array p l e r h = elim ((marks_of last array p l e h).recalled r) [
  | inl i ↦ recall_under_way i
  | inr x ↦ elim x [
    | inl d ↦ recall_is_due (recall_due l.version p.remote.due d.0) d.1
    | inr y ↦ elim y [
      | inl z ↦ (let here = ((leaving_fits last array p l e h).0 z).1 in copy_leaves (open_holds last array p l e here h) z here)
      | inr z ↦ copy_returns (comes_back last array p l e z h)
    ]
  ]
]

pub yield_stands : (last : ℕ) (array : List ℕ) (p : HomeAndNode) (l : Listing) → p.listed ≡ Some l → l.mark ≡ Yielding → PairHolds last array p → (l.exclusive ≡ true) × YieldStands l.version p
yield_stands last array p l e r h = (
  u.0,
  elim u.1 [
    | inl i ↦ yield_under_way i
    | inr x ↦ elim x [
      | inl d ↦ yield_is_due (yield_due l.version p.remote.due d.0) d.1
      | inr y ↦ elim y [
        | inl z ↦ (let here = ((leaving_fits last array p l e h).1 z).1 in copy_lowers (open_holds last array p l e (λ c. let w = here in cc) h) z here)
        | inr z ↦ elim z [
          | inl i ↦ release_under_way i
          | inr w ↦ bytes_return array (comes_with last array p l e h w)
        ]
      ]
    ]
  ],
)
  where
    u : (l.exclusive ≡ true) × (In l.version p.yields ⊎ (is_yield_due l.version p.remote.due ≡ true) × (p.remote.asking ≢ None) ⊎ (p.remote.lowering ≡ true) ⊎ HasVersion l.version p.releases ⊎ WithBytes array p.returns)
    u = (marks_of last array p l e h).yielding r

-- what is under way or due names no later version
called_bound : (last version : ℕ) (array : List ℕ) (p : HomeAndNode) → IsCalled version p → PairHolds last array p → version ≤ limit last p.listed
called_bound last version array p (inl i) h = h.recall_limit version i
called_bound last version array p (inr (inl i)) h = h.yield_limit version i
called_bound last version array p (inr (inr (d, e, f))) h = let u : due_version p.remote.due ≡ version = ap due_version e ∙ f in let x = h.due_limit in omega arith

pub listed_called : (last version : ℕ) (array : List ℕ) (p : HomeAndNode) (l : Listing) → p.listed ≡ Some l → IsCalled version p → PairHolds last array p → version ≤ l.version
listed_called last version array p l e i h = subst (λ o. version ≤ limit last o) e (called_bound last version array p i h)

pub unlisted_called : (last version : ℕ) (array : List ℕ) (p : HomeAndNode) → p.listed ≡ None → IsCalled version p → PairHolds last array p → version ≤ last
unlisted_called last version array p e i h = subst (λ o. version ≤ limit last o) e (called_bound last version array p i h)

pub leaving_listed : (last : ℕ) (array : List ℕ) (p : HomeAndNode) → p.remote.leaving ≡ true → PairHolds last array p → (p.remote.here ≢ Closed) × ((l : Listing) × (p.listed ≡ Some l) × (l.mark ≡ Recalled))
leaving_listed last array p e h = go p.listed refl
  where
    go : (o : Option Listing) → p.listed ≡ o → (p.remote.here ≢ Closed) × ((l : Listing) × (p.listed ≡ Some l) × (l.mark ≡ Recalled))
    go None f = let k = h.leaving in absurd (grind arith)
    go (Some l) f = let u = (leaving_fits last array p l f h).0 e in (u.1, (l, f, u.0))

pub lowering_listed : (last : ℕ) (array : List ℕ) (p : HomeAndNode) → p.remote.lowering ≡ true → PairHolds last array p → (p.remote.here ≡ Writing) × ((l : Listing) × (p.listed ≡ Some l) × (l.mark ≡ Yielding))
lowering_listed last array p e h = go p.listed refl
  where
    go : (o : Option Listing) → p.listed ≡ o → (p.remote.here ≡ Writing) × ((l : Listing) × (p.listed ≡ Some l) × (l.mark ≡ Yielding))
    go None f = let k = h.leaving in absurd (grind arith)
    go (Some l) f = let u = (leaving_fits last array p l f h).1 e in (u.1, (l, f, u.0))

pub given_listed : (last : ℕ) (array : List ℕ) (p : HomeAndNode) (c : Copy) (l : Listing) → p.remote.given ≡ true → p.remote.copy ≡ Some c → p.listed ≡ Some l → c.version ≡ l.version → PairHolds last array p
    → (l.exclusive ≡ false) ⊎ (l.exclusive ≡ true) × (l.mark ≡ Yielding) × HasVersion l.version p.releases
given_listed last array p c l given e f v h = elim kinds [
  | inl x ↦ inl (sym x ∙ shared)
  | inr x ↦ (let u = released_stands last array p l f x.3 h in inr (u.0, u.1, x.3))
]
  where
    shared : c.exclusive ≡ false
    shared = let g = h.given in grind arith

    none : p.grants ≡ []
    none = let k = h.places in grind arith

    kinds : (c.exclusive ≡ l.exclusive) ⊎ (p.remote.given ≡ true) × (c.exclusive ≡ false) × (l.exclusive ≡ true) × HasVersion l.version p.releases
    kinds = subst (λ gs. KindFits (Some l) (Some c) gs p.remote.given p.releases) none (subst (λ o. KindFits (Some l) o p.grants p.remote.given p.releases) e (subst (λ o. KindFits o p.remote.copy p.grants p.remote.given p.releases) f h.kind))

-- the copy that an ask names
have_fits : (last : ℕ) (array : List ℕ) (p : HomeAndNode) (a : Asked) → Among a p.pending → PairHolds last array p → (p.pending ≡ a ∷ []) × (p.grants ≡ []) × HaveFits a p.listed p.remote.copy p.returns
have_fits last array p a i h = go p.pending refl i
  where
    go : (asks : List Asked) → p.pending ≡ asks → Among a asks → (p.pending ≡ a ∷ []) × (p.grants ≡ []) × HaveFits a p.listed p.remote.copy p.returns
    go [] e x = elim x [ ]
    go (b ∷ c ∷ asks) e x = let k = h.ask in absurd (grind arith)
    go (b ∷ []) e (inr x) = elim x [ ]
    go (b ∷ []) e (inl x) =
        let one : p.pending ≡ a ∷ [] = e ∙ ap (λ y. y ∷ []) (sym x) in
        (one, (let k = h.ask in grind arith), subst (λ asks. HavesFit asks p.listed p.remote.copy p.returns) one h.have)

pub named_stands : (last : ℕ) (array : List ℕ) (p : HomeAndNode) (a : Asked) → Among a p.pending → 1 ≤ a.have → PairHolds last array p → HaveStands a.have p
named_stands last array p a i least h = go p.remote.copy p.listed refl refl
  where
    u : (p.pending ≡ a ∷ []) × (p.grants ≡ []) × HaveFits a p.listed p.remote.copy p.returns
    u = have_fits last array p a i h

    go : (copy : Option Copy) (o : Option Listing) → p.remote.copy ≡ copy → p.listed ≡ o → HaveStands a.have p
    go (Some c) o f e = let v = u.2 in still_here (c, f, (grind arith)) c f (grind arith)
    go None None f e = listed_no_more f e
    go None (Some l) f e =
        let w : (l.version ≡ a.have) × (l.mark ≡ Recalled) × (p.returns ≢ []) = (subst (λ x. HaveFits a (Some l) x p.returns) f (subst (λ x. HaveFits a x p.remote.copy p.returns) e u.2)) least in
        was_recalled f l e w.0 w.1 (subst (λ v. ComesBack v p) w.0 (comes_back last array p l e w.2 h))

pub unnamed_stands : (last : ℕ) (array : List ℕ) (p : HomeAndNode) (a : Asked) → Among a p.pending → a.have ≡ 0 → PairHolds last array p → p.remote.copy ≡ None
unnamed_stands last array p a i none h = go p.remote.copy p.listed refl refl
  where
    u : (p.pending ≡ a ∷ []) × (p.grants ≡ []) × HaveFits a p.listed p.remote.copy p.returns
    u = have_fits last array p a i h

    go : (copy : Option Copy) (o : Option Listing) → p.remote.copy ≡ copy → p.listed ≡ o → p.remote.copy ≡ None
    go None o f e = f
    go (Some c) None f e = let k = h.places in absurd (grind arith)
    go (Some c) (Some l) f e = let v = u.2 in let w = u.1 in let k = h.places in let m = (listed_version last array p l e h).0 in absurd (grind arith)

-- where the node's own copy blocks its ask and isn't called, it comes back
pub own_returns : (last n : ℕ) (array : List ℕ) (p : HomeAndNode) (a : Asked) (l : Listing) → Among a p.pending → a.node ≡ n → p.listed ≡ Some l → blocks n l a ≡ true → l.mark ≡ Plain → PairHolds last array p → ComesBack l.version p
own_returns last n array p a l i at_n e b plain h = go p.remote.copy refl
  where
    u : (p.pending ≡ a ∷ []) × (p.grants ≡ []) × HaveFits a p.listed p.remote.copy p.returns
    u = have_fits last array p a i h

    freed : HasVersion l.version p.releases → ⊥
    freed x = let y = (released_stands last array p l e x h).1 in cc

    kinds : (c : Copy) → p.remote.copy ≡ Some c → (c.exclusive ≡ l.exclusive) ⊎ (p.remote.given ≡ true) × (c.exclusive ≡ false) × (l.exclusive ≡ true) × HasVersion l.version p.releases
    kinds c f = subst (λ gs. KindFits (Some l) (Some c) gs p.remote.given p.releases) u.1 (subst (λ o. KindFits (Some l) o p.grants p.remote.given p.releases) f (subst (λ o. KindFits o p.remote.copy p.grants p.remote.given p.releases) e h.kind))

    go : (o : Option Copy) → p.remote.copy ≡ o → ComesBack l.version p
    go None f = comes_back last array p l e (λ x. let k = h.places in let w = u.1 in grind arith) h
    go (Some c) f = elim (kinds c f) [
      | inl x ↦ (let v = u.2 in let w = u.1 in let k = h.places in absurd (grind arith))
      | inr x ↦ absurd (freed x.3)
    ]

-- bytes
pub grant_bytes : (last : ℕ) (array : List ℕ) (p : HomeAndNode) (grant : Given) → Among grant p.grants → PairHolds last array p → GrantShows array grant.what
grant_bytes last array p grant i h = go p.grants refl i
  where
    shows : (g : Given) (what : Granted) → p.grants ≡ g ∷ [] → g.what ≡ what → GrantShows array what
    shows g (Shared bytes) e w = let k = h.places in grind arith
    shows g (Exclusive bytes) e w = let k = h.places in grind arith
    shows g Upgrade e w = tt

    go : (gs : List Given) → p.grants ≡ gs → Among grant gs → GrantShows array grant.what
    go [] e x = elim x [ ]
    go (g ∷ g' ∷ gs) e x = let k = h.places in absurd (grind arith)
    go (g ∷ []) e (inr x) = elim x [ ]
    go (g ∷ []) e (inl x) = shows grant grant.what (e ∙ ap (λ y. y ∷ []) (sym x)) refl

pub copy_bytes : (last : ℕ) (array : List ℕ) (p : HomeAndNode) (c : Copy) → p.remote.copy ≡ Some c → PairHolds last array p → c.bytes ≡ array
copy_bytes last array p c e h = let k = h.places in grind arith

pub return_bytes : (last : ℕ) (array bytes : List ℕ) (p : HomeAndNode) (b : Back) → Among b p.returns → b.bytes ≡ Some bytes → PairHolds last array p → bytes ≡ array
return_bytes last array bytes p b i e h = go p.returns refl i
  where
    go : (bs : List Back) → p.returns ≡ bs → Among b bs → bytes ≡ array
    go [] f x = elim x [ ]
    go (d ∷ d' ∷ bs) f x = let k = h.places in absurd (grind arith)
    go (d ∷ []) f (inr x) = elim x [ ]
    go (d ∷ []) f (inl x) = let one : p.returns ≡ b ∷ [] = f ∙ ap (λ y. y ∷ []) (sym x) in let k = h.places in grind arith

freed_bytes : (array : List ℕ) (l : Listing) (c : Option Copy) (given : Bool) (returns : List Back) (fs : List Freed) (f : Freed) → Among f fs → f.version ≡ l.version → ReleasesFit array l c given returns fs → f.bytes ≡ array
freed_bytes array l c given returns [] f i v m = elim i [ ]
freed_bytes array l c given returns (x ∷ fs) f (inl e) v m = ap (λ y. y.bytes) e ∙ (m.0 (sym (ap (λ y. y.version) e) ∙ v)).2
freed_bytes array l c given returns (x ∷ fs) f (inr i) v m = freed_bytes array l c given returns fs f i v m.1

pub released_bytes : (last : ℕ) (array : List ℕ) (p : HomeAndNode) (l : Listing) (f : Freed) → p.listed ≡ Some l → Among f p.releases → f.version ≡ l.version → PairHolds last array p → f.bytes ≡ array
released_bytes last array p l f e i v h = freed_bytes array l p.remote.copy p.remote.given p.returns p.releases f i v (marks_of last array p l e h).freed

pub sized : (size : ℕ) (fs : List Freed) (f : Freed) → Among f fs → AreSized size fs → length f.bytes ≡ size
sized size [] f i s = elim i [ ]
sized size (x ∷ fs) f (inl e) s = ap (λ y. length y.bytes) e ∙ s.0
sized size (x ∷ fs) f (inr i) s = sized size fs f i s.1
