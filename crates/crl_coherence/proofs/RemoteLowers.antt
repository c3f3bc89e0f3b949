-- An exclusive copy becomes a shared one, and a copy goes back: what holds of the home and the node is kept.
use Rattle.std.proofs.Common.{ℕ, List, [], ◌∷◌, ◌++◌, Bool, true, false, ◌≡◌, ◌⊎◌, length, refl, arith, inl, inr, subst}
use Rattle.std.specs.declared.option.Option.{Option}
use Rattle.std.specs.declared.option.Option.TheVariants.{None, Some}
use Rattle.crl_model.specs.declared.directory.Section.{Section}
use Rattle.crl_model.specs.declared.directory.Section.TheVariants.{Closed}
use Rattle.crl_model.specs.declared.directory.Listing.{Listing}
use Rattle.crl_protocol.specs.Places.{Took, here, there}
use Rattle.crl_protocol.specs.Remote.{Copy, bytes_back, without_copy}
use Rattle.crl_coherence.specs.Pairs.{In, Back, Freed, HomeAndNode, PairHolds, SectionFits, RecallFits, HasVersion, Distinct, Once, ReleasesFit, StandsFreed, AreSized}
use Rattle.crl_coherence.proofs.Remote.{took_in, took_self, freed_moves}

pub has_append : (v : ℕ) (xs ys : List Freed) → HasVersion v (xs ++ ys) → HasVersion v xs ⊎ HasVersion v ys
has_append v [] ys i = inr i
has_append v (x ∷ xs) ys (inl e) = inl (inl e)
has_append v (x ∷ xs) ys (inr i) = elim (has_append v xs ys i) [ inl j ↦ inl (inr j) | inr j ↦ inr j ]

pub has_left : (v : ℕ) (xs ys : List Freed) → HasVersion v xs → HasVersion v (xs ++ ys)
has_left v [] ys i = elim i [ ]
has_left v (x ∷ xs) ys (inl e) = inl e
has_left v (x ∷ xs) ys (inr i) = inr (has_left v xs ys i)

pub has_right : (v : ℕ) (xs ys : List Freed) → HasVersion v ys → HasVersion v (xs ++ ys)
has_right v [] ys i = i
has_right v (x ∷ xs) ys i = inr (has_right v xs ys i)

pub distinct_append : (xs ys : List Freed) → Distinct xs → Distinct ys → ((v : ℕ) → HasVersion v xs → HasVersion v ys → ⊥) → Distinct (xs ++ ys)
distinct_append [] ys d e n = e
distinct_append (x ∷ xs) ys d e n = (λ i. elim (has_append x.version xs ys i) [ inl j ↦ d.0 j | inr j ↦ n x.version (inl refl) j ], distinct_append xs ys d.1 e (λ v i. n v (inr i)))

pub sized_append : (size : ℕ) (xs ys : List Freed) → AreSized size xs → AreSized size ys → AreSized size (xs ++ ys)
sized_append size [] ys a b = b
sized_append size (x ∷ xs) ys a b = (a.0, sized_append size xs ys a.1 b)

pub once_took : {v : ℕ} {xs ys : List ℕ} → Took v xs ys → Once xs → Once ys × ¬ In v ys
once_took here o = (o.1, o.0)
once_took (there {y = y} t) o = let u = once_took t o.1 in ((λ i. o.0 (took_in y t i), u.0), λ i. elim i [ inl e ↦ o.0 (rw e at (took_self t)) | inr k ↦ u.1 k ])

pub releases_append : (array : List ℕ) (l : Listing) (c : Option Copy) (g : Bool) (x : List Back) (fs hs : List Freed) → ReleasesFit array l c g x fs → ReleasesFit array l c g x hs → ReleasesFit array l c g x (fs ++ hs)
releases_append array l c g x [] hs r s = s
releases_append array l c g x (f ∷ fs) hs r s = (r.0, releases_append array l c g x fs hs r.1 s)

abbrev pub freed_by : Copy → Freed
freed_by c = record { version = c.version; bytes = c.bytes }

pub has_new : (c : Copy) → HasVersion c.version (freed_by c ∷ [])
has_new c = inl refl

-- The exclusive copy becomes shared, its bytes go to the home, and of the sections s is left. rest are the yields
-- that are left.
abbrev pub lowered_pair : Copy → Section → List ℕ → HomeAndNode → HomeAndNode
lowered_pair c s rest p = record p {
  yields = rest;
  releases = p.releases ++ freed_by c ∷ [];
  remote = record p.remote { copy = Some (record c { exclusive = false }); given = true; lowering = false; here = s };
}

pub lower_kept : (last : ℕ) (array : List ℕ) (p : HomeAndNode) (c : Copy) (s : Section) (rest : List ℕ) → p.remote.copy ≡ Some c → c.exclusive ≡ true
    → SectionFits s (Some (record c { exclusive = false })) p.remote.asking → Once rest → (In c.version p.yields ⊎ (p.remote.lowering ≡ true))
    → ((w : ℕ) → In w rest → In w p.yields) → ¬ In c.version rest → PairHolds last array p → PairHolds last array (lowered_pair c s rest p)
lower_kept last array p c s rest copy exclusive section once why fewer none h =
    record {
      places = grind arith;
      kind = let u = has_right c.version p.releases (freed_by c ∷ []) (has_new c) in grind arith;
      older = grind arith;
      ask = grind arith;
      section = section;
      due_limit = grind arith;
      recall_limit = h.recall_limit;
      yield_limit = λ w k. h.yield_limit w (fewer w k);
      release_limit = λ w k. elim (has_append w p.releases (freed_by c ∷ []) k) [ inl a ↦ h.release_limit w a | inr a ↦ grind arith ];
      recall = go p.listed refl h.recall;
      once = once;
      distinct = distinct_append p.releases (freed_by c ∷ []) h.distinct (λ i. elim i [ ], tt) (λ v i k. apart p.listed refl h.recall v i k);
      idle = grind arith;
      due = grind arith;
      leaving = grind arith;
      given = grind arith;
      have = grind arith;
      asks_size = grind arith;
      sized = sized_append (length array) p.releases (freed_by c ∷ []) h.sized (grind arith, tt);
    }
  where
    apart : (o : Option Listing) → p.listed ≡ o → RecallFits last array o p.recalls p.yields p.returns p.releases p.remote → (v : ℕ) → HasVersion v p.releases → HasVersion v (freed_by c ∷ []) → ⊥
    apart None e m v i k = grind arith
    apart (Some l) e m v i k = let u : v ≡ l.version = grind arith in let w = m.released (subst (λ x. HasVersion x p.releases) u i) in grind arith

    go : (o : Option Listing) → p.listed ≡ o → RecallFits last array o p.recalls p.yields p.returns p.releases p.remote
        → RecallFits last array o p.recalls rest p.returns (lowered_pair c s rest p).releases (lowered_pair c s rest p).remote
    go None e m = tt
    go (Some l) e m = let u = has_right c.version p.releases (freed_by c ∷ []) (has_new c) in record {
      least = m.least;
      most = m.most;
      unrecalled = λ n. ((m.unrecalled n).0, (m.unrecalled n).1);
      unyielding = λ n. ((m.unyielding n).0, λ k. (m.unyielding n).1 (fewer l.version k));
      recalled = λ n. grind arith;
      yielding = λ n. grind arith;
      released = λ n. grind arith;
      came = λ n. grind arith;
      freed = releases_append array l (Some (record c { exclusive = false })) true p.returns p.releases (freed_by c ∷ [])
          (freed_moves array l p.remote.copy (Some (record c { exclusive = false })) p.remote.given true p.returns p.returns p.releases (λ s. grind arith) m.freed)
          (λ f. grind arith, tt);
    }

-- The copy goes back, and of the sections none is left. It is one that was recalled, or nothing is asked.
abbrev pub given_back : Copy → HomeAndNode → HomeAndNode
given_back c p = record p {
  returns = p.returns ++ record { version = c.version; bytes = bytes_back p.remote.given c } ∷ [];
  remote = record (without_copy p.remote) { here = Closed };
}

pub give_kept : (last : ℕ) (array : List ℕ) (p : HomeAndNode) (c : Copy) → p.remote.copy ≡ Some c → p.remote.asking ≡ None → PairHolds last array p → PairHolds last array (given_back c p)
give_kept last array p c copy free h =
    record {
      places = grind arith;
      kind = grind arith;
      older = grind arith;
      ask = grind arith;
      section = tt;
      due_limit = h.due_limit;
      recall_limit = h.recall_limit;
      yield_limit = h.yield_limit;
      release_limit = h.release_limit;
      recall = go p.listed refl h.recall;
      once = h.once;
      distinct = h.distinct;
      idle = h.idle;
      due = tt;
      leaving = grind arith;
      given = grind arith;
      have = grind arith;
      asks_size = h.asks_size;
      sized = h.sized;
    }
  where
    moves : (l : Listing) → p.listed ≡ Some l → StandsFreed array l.version p.remote.copy p.remote.given p.returns → StandsFreed array l.version None false (given_back c p).returns
    moves = λ l e s. grind arith

    go : (o : Option Listing) → p.listed ≡ o → RecallFits last array o p.recalls p.yields p.returns p.releases p.remote
        → RecallFits last array o p.recalls p.yields (given_back c p).returns p.releases (given_back c p).remote
    go None e m = tt
    go (Some l) e m = record {
      least = m.least;
      most = m.most;
      unrecalled = m.unrecalled;
      unyielding = m.unyielding;
      recalled = λ n. grind arith;
      yielding = λ n. grind arith;
      released = λ n. grind arith;
      came = λ n. grind arith;
      freed = freed_moves array l p.remote.copy None p.remote.given false p.returns (given_back c p).returns p.releases (moves l e) m.freed;
    }
