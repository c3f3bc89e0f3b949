-- The order of the messages under way between the home and a node doesn't matter.
use Rattle.std.proofs.Common.{ℕ, List, [], ◌∷◌, ◌++◌, Bool, true, ◌≡◌, ◌⊎◌, length, refl, arith, inl, inr, sym, subst, ◌∙◌}
use Rattle.std.specs.declared.option.Option.{Option}
use Rattle.std.specs.declared.option.Option.TheVariants.{None, Some}
use Rattle.crl_model.specs.declared.directory.Mark.TheVariants.{Yielding}
use Rattle.crl_model.specs.declared.directory.Listing.{Listing}
use Rattle.crl_model.specs.declared.directory.Asked.{Asked}
use Rattle.crl_protocol.specs.Places.{Took, here, there, find_all}
use Rattle.crl_protocol.specs.Mail.{Mail}
use Rattle.crl_protocol.specs.Remote.{Copy, Remote}
use Rattle.crl_coherence.specs.Pairs.{In, Given, Back, Freed, HomeAndNode, PairHolds, asked_in, granted_in, recalled_in, yields_in, returned_in, released_in, RecallFits, OlderFits, KindFits, HasVersion, Distinct, Once, ReleasesFit, StandsFreed, AreSized}
use Rattle.crl_coherence.proofs.Lists.{NoTwo, moved_one, right_one, took_some, took_none}
use Rattle.crl_coherence.proofs.Mails.{pair_at}
use Rattle.crl_coherence.proofs.Facts.{grants_one, returns_one, pending_one}
use Rattle.crl_coherence.proofs.Remote.{took_in, took_self, took_other}
use Rattle.crl_coherence.proofs.RemoteLowers.{once_took}
use Rattle.crl_coherence.proofs.Pairs.{taken_in, taken_self, distinct_taken, fits_taken, sized_taken}

-- one element may have gone to another place
pub data Reordered {A : Type 0} : List A → List A → Type 0 where
  same : {xs : List A} → Reordered xs xs
  moves : {x : A} {xs ys zs : List A} → Took x xs zs → Took x ys zs → Reordered xs ys

pub picks_reordered : {A B : Type 0} (f : A → Option B) (m : A) (xs ys zs : List A) → Took m xs zs → Took m ys zs → Reordered (find_all f xs) (find_all f ys)
picks_reordered {B = B} f m xs ys zs t u = go (f m) refl
  where
    go : (o : Option B) → f m ≡ o → Reordered (find_all f xs) (find_all f ys)
    go None e = subst (λ l. Reordered (find_all f xs) l) (took_none f t e ∙ sym (took_none f u e)) same
    go (Some y) e = moves (took_some f t y e) (took_some f u y e)

pub reordered_one : {A : Type 0} {xs ys : List A} → Reordered xs ys → NoTwo xs → xs ≡ ys
reordered_one same n = refl
reordered_one (moves {x = x} {xs = xs} {ys = ys} {zs = zs} t u) n = moved_one x xs ys zs t u n

pub turned : {A : Type 0} {xs ys : List A} → Reordered xs ys → Reordered ys xs
turned same = same
turned (moves t u) = moves u t

pub reordered_in : {xs ys : List ℕ} (v : ℕ) → Reordered xs ys → In v xs → In v ys
reordered_in v same i = i
reordered_in v (moves t u) i = elim (took_other v t i) [ inl e ↦ rw e (took_self u) | inr j ↦ took_in v u j ]

once_put : {v : ℕ} {xs ys : List ℕ} → Took v xs ys → Once ys → ¬ In v ys → Once xs
once_put here o n = (n, o)
once_put (there {y = y} t) o n = ((λ i. elim (took_other y t i) [ inl e ↦ n (inl (sym e)) | inr j ↦ o.0 j ]), once_put t o.1 (λ i. n (inr i)))

pub reordered_once : {xs ys : List ℕ} → Reordered xs ys → Once xs → Once ys
reordered_once same o = o
reordered_once (moves t u) o = let w = once_took t o in once_put u w.0 w.1

taken_other : {f : Freed} (v : ℕ) {xs ys : List Freed} → Took f xs ys → HasVersion v xs → (v ≡ f.version) ⊎ HasVersion v ys
taken_other v here (inl e) = inl e
taken_other v here (inr i) = inr i
taken_other v (there t) (inl e) = inr (inl e)
taken_other v (there t) (inr i) = elim (taken_other v t i) [ inl e ↦ inl e | inr j ↦ inr (inr j) ]

pub reordered_has : {xs ys : List Freed} (v : ℕ) → Reordered xs ys → HasVersion v xs → HasVersion v ys
reordered_has v same i = i
reordered_has v (moves t u) i = elim (taken_other v t i) [ inl e ↦ rw e (taken_self u) | inr j ↦ taken_in v u j ]

distinct_put : {f : Freed} {xs ys : List Freed} → Took f xs ys → Distinct ys → ¬ HasVersion f.version ys → Distinct xs
distinct_put here d n = (n, d)
distinct_put (there {y = y} t) d n = ((λ i. elim (taken_other y.version t i) [ inl e ↦ n (inl (sym e)) | inr j ↦ d.0 j ]), distinct_put t d.1 (λ i. n (inr i)))

pub reordered_distinct : {xs ys : List Freed} → Reordered xs ys → Distinct xs → Distinct ys
reordered_distinct same d = d
reordered_distinct (moves t u) d = let w = distinct_taken t d in distinct_put u w.0 w.1

sized_put : {f : Freed} {xs ys : List Freed} (size : ℕ) → Took f xs ys → AreSized size ys → length f.bytes ≡ size → AreSized size xs
sized_put size here r e = (e, r)
sized_put size (there t) r e = (r.0, sized_put size t r.1 e)

pub reordered_sized : {xs ys : List Freed} (size : ℕ) → Reordered xs ys → AreSized size xs → AreSized size ys
reordered_sized size same r = r
reordered_sized size (moves t u) r = let w = sized_taken size t r in sized_put size u w.0 w.1

fits_put : {f : Freed} {xs ys : List Freed} (array : List ℕ) (l : Listing) (c : Option Copy) (g : Bool) (x : List Back) → Took f xs ys → ReleasesFit array l c g x ys
    → (f.version ≡ l.version → (l.exclusive ≡ true) × (l.mark ≡ Yielding) × (f.bytes ≡ array) × StandsFreed array l.version c g x) → ReleasesFit array l c g x xs
fits_put array l c g x here r e = (e, r)
fits_put array l c g x (there t) r e = (r.0, fits_put array l c g x t r.1 e)

pub reordered_fits : {xs ys : List Freed} (array : List ℕ) (l : Listing) (c : Option Copy) (g : Bool) (x : List Back) → Reordered xs ys → ReleasesFit array l c g x xs → ReleasesFit array l c g x ys
reordered_fits array l c g x same r = r
reordered_fits array l c g x (moves t u) r = let w = fits_taken array l c g x t r in fits_put array l c g x u w.0 w.1

pub recalls_kept : (last : ℕ) (array : List ℕ) (p : HomeAndNode) (ys : List ℕ) → Reordered p.recalls ys → PairHolds last array p → PairHolds last array (record p { recalls = ys })
recalls_kept last array p ys o h =
    record {
      places = h.places;
      kind = h.kind;
      older = older p.remote.copy p.grants h.older;
      ask = h.ask;
      section = h.section;
      due_limit = h.due_limit;
      recall_limit = λ v i. h.recall_limit v (from v i);
      yield_limit = h.yield_limit;
      release_limit = h.release_limit;
      recall = go p.listed h.recall;
      once = h.once;
      distinct = h.distinct;
      idle = h.idle;
      due = h.due;
      leaving = h.leaving;
      given = h.given;
      have = h.have;
      asks_size = h.asks_size;
      sized = h.sized;
    }
  where
    from : (v : ℕ) → In v ys → In v p.recalls
    from v i = reordered_in v (turned o) i

    older : (c : Option Copy) (g : List Given) → OlderFits c g p.recalls → OlderFits c g ys
    older (Some c) (g ∷ gs) f = λ i. f (from c.version i)
    older (Some c) [] f = tt
    older None gs f = tt

    go : (l : Option Listing) → RecallFits last array l p.recalls p.yields p.returns p.releases p.remote → RecallFits last array l ys p.yields p.returns p.releases p.remote
    go None m = tt
    go (Some l) m = record {
      least = m.least;
      most = m.most;
      unrecalled = λ e. ((m.unrecalled e).0, λ i. (m.unrecalled e).1 (from l.version i));
      unyielding = m.unyielding;
      recalled = λ e. let u = reordered_in l.version o in let k = m.recalled e in grind arith;
      yielding = m.yielding;
      released = m.released;
      came = m.came;
      freed = m.freed;
    }

pub yields_kept : (last : ℕ) (array : List ℕ) (p : HomeAndNode) (ys : List ℕ) → Reordered p.yields ys → PairHolds last array p → PairHolds last array (record p { yields = ys })
yields_kept last array p ys o h =
    record {
      places = h.places;
      kind = h.kind;
      older = h.older;
      ask = h.ask;
      section = h.section;
      due_limit = h.due_limit;
      recall_limit = h.recall_limit;
      yield_limit = λ v i. h.yield_limit v (from v i);
      release_limit = h.release_limit;
      recall = go p.listed h.recall;
      once = reordered_once o h.once;
      distinct = h.distinct;
      idle = h.idle;
      due = h.due;
      leaving = h.leaving;
      given = h.given;
      have = h.have;
      asks_size = h.asks_size;
      sized = h.sized;
    }
  where
    from : (v : ℕ) → In v ys → In v p.yields
    from v i = reordered_in v (turned o) i

    go : (l : Option Listing) → RecallFits last array l p.recalls p.yields p.returns p.releases p.remote → RecallFits last array l p.recalls ys p.returns p.releases p.remote
    go None m = tt
    go (Some l) m = record {
      least = m.least;
      most = m.most;
      unrecalled = m.unrecalled;
      unyielding = λ e. ((m.unyielding e).0, λ i. (m.unyielding e).1 (from l.version i));
      recalled = m.recalled;
      yielding = λ e. let u = reordered_in l.version o in let k = m.yielding e in grind arith;
      released = λ e. let k = m.released e in (k.0, λ i. k.1 (from l.version i), k.2);
      came = λ e. λ i. m.came e (from l.version i);
      freed = m.freed;
    }

pub releases_kept : (last : ℕ) (array : List ℕ) (p : HomeAndNode) (ys : List Freed) → Reordered p.releases ys → PairHolds last array p → PairHolds last array (record p { releases = ys })
releases_kept last array p ys o h =
    record {
      places = h.places;
      kind = kinds p.listed p.remote.copy p.grants h.kind;
      older = h.older;
      ask = h.ask;
      section = h.section;
      due_limit = h.due_limit;
      recall_limit = h.recall_limit;
      yield_limit = h.yield_limit;
      release_limit = λ v i. h.release_limit v (from v i);
      recall = go p.listed h.recall;
      once = h.once;
      distinct = reordered_distinct o h.distinct;
      idle = h.idle;
      due = h.due;
      leaving = h.leaving;
      given = h.given;
      have = h.have;
      asks_size = h.asks_size;
      sized = reordered_sized (length array) o h.sized;
    }
  where
    from : (v : ℕ) → HasVersion v ys → HasVersion v p.releases
    from v i = reordered_has v (turned o) i

    kinds : (l : Option Listing) (c : Option Copy) (g : List Given) → KindFits l c g p.remote.given p.releases → KindFits l c g p.remote.given ys
    kinds (Some l) (Some c) [] k = elim k [ inl e ↦ inl e | inr w ↦ inr (w.0, w.1, w.2, reordered_has l.version o w.3) ]
    kinds None c g k = tt
    kinds (Some l) None g k = tt
    kinds (Some l) (Some c) (x ∷ xs) k = tt

    go : (l : Option Listing) → RecallFits last array l p.recalls p.yields p.returns p.releases p.remote → RecallFits last array l p.recalls p.yields p.returns ys p.remote
    go None m = tt
    go (Some l) m = record {
      least = m.least;
      most = m.most;
      unrecalled = m.unrecalled;
      unyielding = m.unyielding;
      recalled = m.recalled;
      yielding = λ e. let u = reordered_has l.version o in let k = m.yielding e in grind arith;
      released = λ e. m.released (from l.version e);
      came = m.came;
      freed = reordered_fits array l p.remote.copy p.remote.given p.returns o m.freed;
    }

-- a message between the two goes to another place
pub carried_kept : (last n : ℕ) (array : List ℕ) (listed : Option Listing) (queued : List Asked) (remote : Remote) (m : Mail) (ms ks rest : List Mail) → Took m ms rest → Took m ks rest
    → PairHolds last array (pair_at n listed queued ms remote) → PairHolds last array (pair_at n listed queued ks remote)
carried_kept last n array listed queued remote m ms ks rest t u h =
    let p = pair_at n listed queued ms remote in
    let a = reordered_one (picks_reordered (asked_in n) m ms ks rest t u) (right_one queued (find_all (asked_in n) ms) (pending_one last array p h)) in
    let b = reordered_one (picks_reordered granted_in m ms ks rest t u) (grants_one last array p h) in
    let c = reordered_one (picks_reordered returned_in m ms ks rest t u) (returns_one last array p h) in
    let x = recalls_kept last array p (find_all recalled_in ks) (picks_reordered recalled_in m ms ks rest t u) h in
    let y = yields_kept last array (record p { recalls = find_all recalled_in ks }) (find_all yields_in ks) (picks_reordered yields_in m ms ks rest t u) x in
    let z = releases_kept last array (record p { recalls = find_all recalled_in ks; yields = find_all yields_in ks }) (find_all released_in ks) (picks_reordered released_in m ms ks rest t u) y in
    subst (λ q. PairHolds last array q) (λ i. record {
      listed = listed;
      pending = queued ++ a i;
      grants = b i;
      recalls = find_all recalled_in ks;
      yields = find_all yields_in ks;
      returns = c i;
      releases = find_all released_in ks;
      remote = remote;
    }) z
