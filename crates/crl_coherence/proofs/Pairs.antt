-- Events at the home keep what holds of each other node.
use Rattle.std.proofs.Common.{ℕ, List, [], ◌∷◌, ◌++◌, Bool, true, false, ◌&&◌, if◌then◌else◌, ◌+◌, ◌≡◌, ◌≢◌, ◌==◌, ◌≤◌, ◌⊎◌, length, refl, arith, inl, inr, sym, append-nil, subst}
use Rattle.std.specs.declared.option.Option.{Option}
use Rattle.std.specs.declared.option.Option.TheVariants.{None, Some}
use Rattle.crl_model.specs.declared.directory.Mark.{Mark}
use Rattle.crl_model.specs.declared.directory.Mark.TheVariants.{Plain, Recalled, Yielding}
use Rattle.crl_model.specs.declared.directory.Listing.{Listing}
use Rattle.crl_model.specs.declared.directory.Asked.{Asked}
use Rattle.crl_protocol.specs.Places.{Took, here, there, find_all}
use Rattle.crl_protocol.specs.Mail.{Mail, Recall, Yield}
use Rattle.crl_protocol.specs.Home.{blocks, grant_to, is_to_mark, is_to_lower, is_plain, shared_listing, mark_for}
use Rattle.crl_protocol.specs.Remote.{Copy}
use Rattle.crl_coherence.specs.Pairs.{In, Given, Back, Freed, HomeAndNode, PairHolds, asked_in, granted_in, recalled_in, yields_in, returned_in, released_in, Places, RecallFits, MarkFits, OlderFits, HasVersion, Distinct, Once, ReleasesFit, StandsFreed, KindFits, AreSized, limit}

pub raised_kept : (last : ℕ) (array : List ℕ) (p : HomeAndNode) → PairHolds last array p → PairHolds (last + 1) array p
raised_kept last array p h =
    record {
      places = h.places;
      kind = h.kind;
      older = h.older;
      ask = h.ask;
      section = h.section;
      due_limit = grind arith;
      recall_limit = λ v i. let j = h.recall_limit v i in grind arith;
      yield_limit = λ v i. let j = h.yield_limit v i in grind arith;
      release_limit = λ v i. let j = h.release_limit v i in grind arith;
      recall = go p.listed refl h.recall;
      once = h.once;
      distinct = h.distinct;
      idle = h.idle;
      due = h.due;
      leaving = h.leaving;
      given = h.given;
      have = h.have;
      asks_size = h.asks_size;
      sized = h.sized;
    }
  where
    go : (o : Option Listing) → p.listed ≡ o → RecallFits last array o p.recalls p.yields p.returns p.releases p.remote → RecallFits (last + 1) array o p.recalls p.yields p.returns p.releases p.remote
    go None e m = tt
    go (Some l) e m = record { least = m.least; most = omega arith; unrecalled = m.unrecalled; unyielding = m.unyielding; recalled = m.recalled; yielding = m.yielding; released = m.released; came = m.came; freed = m.freed }

abbrev pub new_listing : ℕ → Asked → Listing
new_listing last a = record { exclusive = a.write; version = last + 1; mark = Plain }

abbrev pub served : ℕ → List ℕ → Asked → List Asked → HomeAndNode → HomeAndNode
served last array a rest p = record p {
  listed = Some (new_listing last a);
  pending = rest;
  grants = p.grants ++ record { version = last + 1; what = grant_to p.listed a array } ∷ [];
}

abbrev pub OwnFits : ℕ → Option Listing → Asked → Type 0
OwnFits n None a = Unit {0}
OwnFits n (Some l) a = (blocks n l a ≡ false) × (l.mark ≡ Plain)

-- no release under way names a version over the limit
none_above : (array : List ℕ) (l : Listing) (c : Option Copy) (g : Bool) (x : List Back) (fs : List Freed) → (HasVersion l.version fs → ⊥) → ReleasesFit array l c g x fs
none_above array l c g x [] n = tt
none_above array l c g x (f ∷ fs) n = (λ e. absurd (n (inl (sym e))), none_above array l c g x fs (λ i. n (inr i)))

pub limit_last : (last : ℕ) (array : List ℕ) (p : HomeAndNode) → PairHolds last array p → limit last p.listed ≤ last
limit_last last array p h = grind arith

pub served_kept : (last : ℕ) (array : List ℕ) (n : ℕ) (a : Asked) (rest : List Asked) (p : HomeAndNode) → p.pending ≡ a ∷ rest → a.node ≡ n
    → OwnFits n p.listed a → PairHolds last array p → PairHolds (last + 1) array (served last array a rest p)
served_kept last array n a rest p e at_n own h =
    let b = limit_last last array p h in
    let r = h.recall_limit (last + 1) in
    let y = h.yield_limit (last + 1) in
    let f = h.release_limit (last + 1) in
    record {
      places = grind arith;
      kind = grind arith;
      older = grind arith;
      ask = grind arith;
      section = grind arith;
      due_limit = grind arith;
      recall_limit = λ v i. let j = h.recall_limit v i in omega arith;
      yield_limit = λ v i. let j = h.yield_limit v i in omega arith;
      release_limit = λ v i. let j = h.release_limit v i in omega arith;
      recall = record {
        least = omega arith;
        most = omega arith;
        unrecalled = λ u. (grind arith, λ i. let j = r i in omega arith);
        unyielding = λ u. (grind arith, λ i. let j = y i in omega arith);
        recalled = λ u. grind arith;
        yielding = λ u. grind arith;
        released = λ u. let j = f u in absurd (omega arith);
        came = λ u. λ i. let j = y i in omega arith;
        freed = none_above array (new_listing last a) p.remote.copy p.remote.given p.returns p.releases (λ i. let j = f i in omega arith);
      };
      once = h.once;
      distinct = h.distinct;
      idle = h.idle;
      due = h.due;
      leaving = grind arith;
      given = h.given;
      have = grind arith;
      asks_size = h.asks_size;
      sized = h.sized;
    }

-- a return is taken out and handled
pub returned_kept : (last : ℕ) (array : List ℕ) (p : HomeAndNode) (b : Back) → p.returns ≡ b ∷ [] → PairHolds last array p → PairHolds last array (record p { listed = None; returns = [] })
returned_kept last array p b e h =
    let u = limit_last last array p h in
    record {
      places = grind arith;
      kind = tt;
      older = grind arith;
      ask = grind arith;
      section = grind arith;
      due_limit = omega arith;
      recall_limit = λ v i. let j = h.recall_limit v i in omega arith;
      yield_limit = λ v i. let j = h.yield_limit v i in omega arith;
      release_limit = λ v i. let j = h.release_limit v i in omega arith;
      recall = tt;
      once = h.once;
      distinct = h.distinct;
      idle = h.idle;
      due = h.due;
      leaving = grind arith;
      given = h.given;
      have = grind arith;
      asks_size = h.asks_size;
      sized = h.sized;
    }

pub taken_in : {f : Freed} (v : ℕ) {xs ys : List Freed} → Took f xs ys → HasVersion v ys → HasVersion v xs
taken_in v here i = inr i
taken_in v (there t) (inl e) = inl e
taken_in v (there t) (inr i) = inr (taken_in v t i)

pub taken_self : {f : Freed} {xs ys : List Freed} → Took f xs ys → HasVersion f.version xs
taken_self here = inl refl
taken_self (there t) = inr (taken_self t)

pub distinct_taken : {f : Freed} {xs ys : List Freed} → Took f xs ys → Distinct xs → Distinct ys × ¬ HasVersion f.version ys
distinct_taken here d = (d.1, d.0)
distinct_taken (there {y = g} t) d = let u = distinct_taken t d.1 in ((λ i. d.0 (taken_in g.version t i), u.0), λ i. elim i [ inl e ↦ d.0 (rw e at (taken_self t)) | inr k ↦ u.1 k ])

pub fits_taken : {f : Freed} {xs ys : List Freed} (array : List ℕ) (l : Listing) (c : Option Copy) (g : Bool) (x : List Back) → Took f xs ys → ReleasesFit array l c g x xs → ReleasesFit array l c g x ys × (f.version ≡ l.version → (l.exclusive ≡ true) × (l.mark ≡ Yielding) × (f.bytes ≡ array) × StandsFreed array l.version c g x)
fits_taken array l c g x here r = (r.1, r.0)
fits_taken array l c g x (there t) r = let u = fits_taken array l c g x t r.1 in ((r.0, u.0), u.1)

pub sized_taken : {f : Freed} {xs ys : List Freed} (size : ℕ) → Took f xs ys → AreSized size xs → AreSized size ys × (length f.bytes ≡ size)
sized_taken size here r = (r.1, r.0)
sized_taken size (there t) r = let u = sized_taken size t r.1 in ((r.0, u.0), u.1)

-- A release under way has the region's size, and one of the listed version the array's bytes.
pub release_size : (last : ℕ) (array : List ℕ) (p : HomeAndNode) (f : Freed) (rest : List Freed) → Took f p.releases rest → PairHolds last array p → length f.bytes ≡ length array
release_size last array p f rest took h = (sized_taken (length array) took h.sized).1

pub release_bytes : (last : ℕ) (array : List ℕ) (p : HomeAndNode) (l : Listing) (f : Freed) (rest : List Freed) → Took f p.releases rest → p.listed ≡ Some l → f.version ≡ l.version → PairHolds last array p → f.bytes ≡ array
release_bytes last array p l f rest took e v h =
    let m : MarkFits last array l p.recalls p.yields p.returns p.releases p.remote = subst (λ o. RecallFits last array o p.recalls p.yields p.returns p.releases p.remote) e h.recall in
    ((fits_taken array l p.remote.copy p.remote.given p.returns took m.freed).1 v).2

-- a release of the listed version is taken out and handled
pub released_kept : (last : ℕ) (array : List ℕ) (p : HomeAndNode) (l : Listing) (f : Freed) (rest : List Freed) → Took f p.releases rest → p.listed ≡ Some l → l.exclusive ≡ true → f.version ≡ l.version → PairHolds last array p
    → PairHolds last array (record p { listed = Some (record { exclusive = false; version = l.version; mark = Plain }); releases = rest })
released_kept last array p l f rest took e x v h =
    let m : MarkFits last array l p.recalls p.yields p.returns p.releases p.remote = subst (λ o. RecallFits last array o p.recalls p.yields p.returns p.releases p.remote) e h.recall in
    let u = distinct_taken took h.distinct in
    let w = fits_taken array l p.remote.copy p.remote.given p.returns took m.freed in
    let k = w.1 v in
    let s = m.released (rw v at (taken_self took)) in
    record {
      places = grind arith;
      kind = grind arith;
      older = grind arith;
      ask = grind arith;
      section = grind arith;
      due_limit = grind arith;
      recall_limit = λ v i. let j = h.recall_limit v i in grind arith;
      yield_limit = λ v i. let j = h.yield_limit v i in grind arith;
      release_limit = λ v i. let j = h.release_limit v (taken_in v took i) in grind arith;
      recall = record {
        least = m.least;
        most = m.most;
        unrecalled = λ n. grind arith;
        unyielding = λ n. grind arith;
        recalled = λ n. cc;
        yielding = λ n. cc;
        released = λ n. (s.0, s.1, s.2);
        came = λ n. s.1;
        freed = none_above array (record { exclusive = false; version = l.version; mark = Plain }) p.remote.copy p.remote.given p.returns rest (λ i. u.1 (rw (← v) at i));
      };
      once = h.once;
      distinct = u.0;
      idle = h.idle;
      due = h.due;
      leaving = grind arith;
      given = h.given;
      have = grind arith;
      asks_size = h.asks_size;
      sized = (sized_taken (length array) took h.sized).0;
    }

pub left_in : {f : Freed} {xs ys : List Freed} (v : ℕ) → Took f xs ys → v ≢ f.version → HasVersion v xs → HasVersion v ys
left_in v here n (inl e) = absurd (n e)
left_in v here n (inr i) = i
left_in v (there t) n (inl e) = inl e
left_in v (there t) n (inr i) = inr (left_in v t n i)

-- a release of a version that isn't listed as exclusive is ignored
pub stale_kept : (last : ℕ) (array : List ℕ) (p : HomeAndNode) (f : Freed) (rest : List Freed) → Took f p.releases rest → is_to_lower f.version p.listed ≡ false → PairHolds last array p → PairHolds last array (record p { releases = rest })
stale_kept last array p f rest took stale h =
    record {
      places = h.places;
      kind = kinds p.listed p.remote.copy p.grants stale h.kind;
      older = h.older;
      ask = h.ask;
      section = h.section;
      due_limit = h.due_limit;
      recall_limit = h.recall_limit;
      yield_limit = h.yield_limit;
      release_limit = λ v i. h.release_limit v (taken_in v took i);
      recall = go p.listed stale h.recall;
      once = h.once;
      distinct = (distinct_taken took h.distinct).0;
      idle = h.idle;
      due = h.due;
      leaving = h.leaving;
      given = h.given;
      have = h.have;
      asks_size = h.asks_size;
      sized = (sized_taken (length array) took h.sized).0;
    }
  where
    other : (l : Listing) → l.exclusive ≡ true → (l.exclusive && l.version == f.version) ≡ false → l.version ≢ f.version
    other l e n = grind arith

    kinds : (o : Option Listing) (c : Option Copy) (g : List Given) → is_to_lower f.version o ≡ false → KindFits o c g p.remote.given p.releases → KindFits o c g p.remote.given rest
    kinds (Some l) (Some c) [] n k = elim k [ inl e ↦ inl e | inr w ↦ inr (w.0, w.1, w.2, left_in l.version took (other l w.2 n) w.3) ]
    kinds None c g n k = tt
    kinds (Some l) None g n k = tt
    kinds (Some l) (Some c) (x ∷ xs) n k = tt

    go : (o : Option Listing) → is_to_lower f.version o ≡ false → RecallFits last array o p.recalls p.yields p.returns p.releases p.remote → RecallFits last array o p.recalls p.yields p.returns rest p.remote
    go None n m = tt
    go (Some l) n m = record {
      least = m.least;
      most = m.most;
      unrecalled = m.unrecalled;
      unyielding = m.unyielding;
      recalled = m.recalled;
      yielding = λ y. let u = m.yielding y in let v = left_in l.version took (other l u.0 n) in grind arith;
      released = λ i. m.released (taken_in l.version took i);
      came = m.came;
      freed = (fits_taken array l p.remote.copy p.remote.given p.returns took m.freed).0;
    }

in_append : (v : ℕ) (xs ys : List ℕ) → In v (xs ++ ys) → In v xs ⊎ In v ys
in_append v [] ys i = inr i
in_append v (x ∷ xs) ys (inl e) = inl (inl e)
in_append v (x ∷ xs) ys (inr i) = elim (in_append v xs ys i) [ inl j ↦ inl (inr j) | inr j ↦ inr j ]

in_right : (v : ℕ) (xs ys : List ℕ) → In v ys → In v (xs ++ ys)
in_right v [] ys i = i
in_right v (x ∷ xs) ys i = inr (in_right v xs ys i)

once_snoc : (xs : List ℕ) (v : ℕ) → Once xs → ¬ In v xs → Once (xs ++ v ∷ [])
once_snoc [] v o n = ((λ i. elim i [ ]), tt)
once_snoc (x ∷ xs) v o n = ((λ i. elim (in_append x xs (v ∷ []) i) [ inl j ↦ o.0 j | inr j ↦ n (inl (elim j [ inl e ↦ sym e | inr k ↦ elim k [ ] ])) ]), once_snoc xs v o.1 (λ i. n (inr i)))

-- a plain copy that blocks a write is recalled
pub recall_called : (last : ℕ) (array : List ℕ) (p : HomeAndNode) (l : Listing) → p.listed ≡ Some l → l.mark ≡ Plain → PairHolds last array p
    → PairHolds last array (record p { listed = Some (record l { mark = Recalled }); recalls = p.recalls ++ l.version ∷ [] })
recall_called last array p l e plain h =
    let m : MarkFits last array l p.recalls p.yields p.returns p.releases p.remote = subst (λ o. RecallFits last array o p.recalls p.yields p.returns p.releases p.remote) e h.recall in
    record {
      places = grind arith;
      kind = grind arith;
      older = older p.remote.copy p.grants p.returns h.places h.older;
      ask = grind arith;
      section = grind arith;
      due_limit = grind arith;
      recall_limit = λ v i. let j = in_append v p.recalls (l.version ∷ []) i in let k = h.recall_limit v in grind arith;
      yield_limit = λ v i. let k = h.yield_limit v i in grind arith;
      release_limit = λ v i. let k = h.release_limit v i in grind arith;
      recall = record {
        least = m.least;
        most = m.most;
        unrecalled = λ n. absurd (n refl);
        unyielding = λ n. m.unyielding (λ x. cc);
        recalled = λ n. inl (in_right l.version p.recalls (l.version ∷ []) (inl refl));
        yielding = λ n. cc;
        released = m.released;
        came = m.came;
        freed = none_above array (record l { mark = Recalled }) p.remote.copy p.remote.given p.returns p.releases (λ i. unfreed p.releases m.freed i);
      };
      once = h.once;
      distinct = h.distinct;
      idle = h.idle;
      due = h.due;
      leaving = grind arith;
      given = h.given;
      have = grind arith;
      asks_size = h.asks_size;
      sized = h.sized;
    }
  where
    unfreed : (fs : List Freed) → ReleasesFit array l p.remote.copy p.remote.given p.returns fs → HasVersion l.version fs → ⊥
    unfreed [] r i = elim i [ ]
    unfreed (f ∷ fs) r (inl x) = let u = r.0 (sym x) in let v = u.1 in cc
    unfreed (f ∷ fs) r (inr i) = unfreed fs r.1 i

    older : (c : Option Copy) (g : List Given) (x : List Back) → Places array p.listed c g x → OlderFits c g p.recalls → OlderFits c g (p.recalls ++ l.version ∷ [])
    older (Some c) (g ∷ gs) x pl o = λ i. let j = in_append c.version p.recalls (l.version ∷ []) i in grind arith
    older None g x pl o = tt
    older (Some c) [] x pl o = tt

-- a plain exclusive copy that blocks a read is asked to yield
pub yield_called : (last : ℕ) (array : List ℕ) (p : HomeAndNode) (l : Listing) → p.listed ≡ Some l → l.mark ≡ Plain → l.exclusive ≡ true → PairHolds last array p
    → PairHolds last array (record p { listed = Some (record l { mark = Yielding }); yields = p.yields ++ l.version ∷ [] })
yield_called last array p l e plain exclusive h =
    let m : MarkFits last array l p.recalls p.yields p.returns p.releases p.remote = subst (λ o. RecallFits last array o p.recalls p.yields p.returns p.releases p.remote) e h.recall in
    let no_yield = (m.unyielding (λ x. cc)).1 in
    record {
      places = grind arith;
      kind = grind arith;
      older = h.older;
      ask = grind arith;
      section = grind arith;
      due_limit = grind arith;
      recall_limit = λ v i. let k = h.recall_limit v i in grind arith;
      yield_limit = λ v i. let j = in_append v p.yields (l.version ∷ []) i in let k = h.yield_limit v in grind arith;
      release_limit = λ v i. let k = h.release_limit v i in grind arith;
      recall = record {
        least = m.least;
        most = m.most;
        unrecalled = λ n. m.unrecalled (λ x. cc);
        unyielding = λ n. absurd (n refl);
        recalled = λ n. cc;
        yielding = λ n. (exclusive, inl (in_right l.version p.yields (l.version ∷ []) (inl refl)));
        released = λ i. absurd (unfreed p.releases m.freed i);
        came = λ n. grind arith;
        freed = none_above array (record l { mark = Yielding }) p.remote.copy p.remote.given p.returns p.releases (λ i. unfreed p.releases m.freed i);
      };
      once = once_snoc p.yields l.version h.once no_yield;
      distinct = h.distinct;
      idle = h.idle;
      due = h.due;
      leaving = grind arith;
      given = h.given;
      have = grind arith;
      asks_size = h.asks_size;
      sized = h.sized;
    }
  where
    unfreed : (fs : List Freed) → ReleasesFit array l p.remote.copy p.remote.given p.returns fs → HasVersion l.version fs → ⊥
    unfreed [] r i = elim i [ ]
    unfreed (f ∷ fs) r (inl x) = let u = r.0 (sym x) in let v = u.1 in cc
    unfreed (f ∷ fs) r (inr i) = unfreed fs r.1 i

-- a release is taken out and handled, and the copy is listed as a shared one
pub lowered_kept : (last : ℕ) (array : List ℕ) (p : HomeAndNode) (f : Freed) (rest : List Freed) → Took f p.releases rest → is_to_lower f.version p.listed ≡ true → PairHolds last array p
    → PairHolds last array (record p { listed = Some (shared_listing f.version); releases = rest })
lowered_kept last array p f rest took is h = go p.listed refl is
  where
    go : (o : Option Listing) → p.listed ≡ o → is_to_lower f.version o ≡ true → PairHolds last array (record p { listed = Some (shared_listing f.version); releases = rest })
    go None e b = cc
    go (Some l) e b =
        let v : f.version ≡ l.version = grind arith in
        let x : l.exclusive ≡ true = grind arith in
        rw v (released_kept last array p l f rest took e x v h)

-- what is listed of a node after the copies in the way were called, and the calls that it gets
abbrev pub mark : ℕ → Option Listing → Asked → Option Listing
mark m None a = None
mark m (Some l) a = Some (if is_to_mark m l a then record l { mark = mark_for a } else l)

abbrev pub called : ℕ → Option Listing → Asked → List Mail
called m None a = []
called m (Some l) a = if is_to_mark m l a then (if a.write then Recall l.version else Yield l.version) ∷ [] else []

-- the pair after it, where this was listed
abbrev pub called_pair : ℕ → Option Listing → Asked → HomeAndNode → HomeAndNode
called_pair n o a p = record p {
  listed = mark n o a;
  pending = p.pending ++ find_all (asked_in n) (called n o a);
  grants = p.grants ++ find_all granted_in (called n o a);
  recalls = p.recalls ++ find_all recalled_in (called n o a);
  yields = p.yields ++ find_all yields_in (called n o a);
  returns = p.returns ++ find_all returned_in (called n o a);
  releases = p.releases ++ find_all released_in (called n o a);
}

pub called_kept : (last n : ℕ) (array : List ℕ) (a : Asked) (o : Option Listing) (p : HomeAndNode) → p.listed ≡ o → PairHolds last array p → PairHolds last array (called_pair n o a p)
called_kept last n array a None p e h = simp append-nil (subst (λ o. PairHolds last array (record p { listed = o })) e h)
called_kept last n array a (Some l) p e h = go (is_to_mark n l a) refl
  where
    listed_kept : PairHolds last array (record p { listed = Some l })
    listed_kept = subst (λ o. PairHolds last array (record p { listed = o })) e h

    plain : (m : Mark) → is_plain m ≡ true → m ≡ Plain
    plain Plain b = refl
    plain Recalled b = cc
    plain Yielding b = cc

    calls : (b : Bool) → a.write ≡ b → l.mark ≡ Plain → (b ≡ false → l.exclusive ≡ true) → PairHolds last array (record p {
      listed = Some (record l { mark = if b then Recalled else Yielding });
      pending = p.pending ++ find_all (asked_in n) ((if b then Recall l.version else Yield l.version) ∷ []);
      grants = p.grants ++ find_all granted_in ((if b then Recall l.version else Yield l.version) ∷ []);
      recalls = p.recalls ++ find_all recalled_in ((if b then Recall l.version else Yield l.version) ∷ []);
      yields = p.yields ++ find_all yields_in ((if b then Recall l.version else Yield l.version) ∷ []);
      returns = p.returns ++ find_all returned_in ((if b then Recall l.version else Yield l.version) ∷ []);
      releases = p.releases ++ find_all released_in ((if b then Recall l.version else Yield l.version) ∷ []);
    })
    calls true w m x = simp append-nil (recall_called last array p l e m h)
    calls false w m x = simp append-nil (yield_called last array p l e m (x refl) h)

    go : (b : Bool) → is_to_mark n l a ≡ b → PairHolds last array (record p {
      listed = Some (if b then record l { mark = mark_for a } else l);
      pending = p.pending ++ find_all (asked_in n) (if b then (if a.write then Recall l.version else Yield l.version) ∷ [] else []);
      grants = p.grants ++ find_all granted_in (if b then (if a.write then Recall l.version else Yield l.version) ∷ [] else []);
      recalls = p.recalls ++ find_all recalled_in (if b then (if a.write then Recall l.version else Yield l.version) ∷ [] else []);
      yields = p.yields ++ find_all yields_in (if b then (if a.write then Recall l.version else Yield l.version) ∷ [] else []);
      returns = p.returns ++ find_all returned_in (if b then (if a.write then Recall l.version else Yield l.version) ∷ [] else []);
      releases = p.releases ++ find_all released_in (if b then (if a.write then Recall l.version else Yield l.version) ∷ [] else []);
    })
    go false c = simp append-nil listed_kept
    go true c = calls a.write refl (plain l.mark (grind arith)) (λ w. grind arith)
