-- Events at a node that isn't the home keep what holds of the two: the words, and the calls that come.
use Rattle.std.proofs.Common.{ℕ, List, [], ◌∷◌, ◌++◌, Bool, ◌≡◌, ◌⊎◌, refl, inl, inr, append-nil}
use Rattle.std.specs.declared.option.Option.{Option}
use Rattle.crl_model.specs.declared.directory.Listing.{Listing}
use Rattle.crl_protocol.specs.Places.{Took, here, there, find_all}
use Rattle.crl_protocol.specs.Mail.{Mail, Ask, Grant, Recall, Yield, Return, Release}
use Rattle.crl_protocol.specs.Remote.{Copy, Remote, RemoteStep}
use Rattle.crl_coherence.specs.Pairs.{In, Back, Freed, HomeAndNode, PairHolds, asked_in, granted_in, recalled_in, yields_in, returned_in, released_in, ReleasesFit, StandsFreed}

-- the pair after a step at node n, whose mail is under way
abbrev pub moved : ℕ → RemoteStep → HomeAndNode → HomeAndNode
moved n s p = record p {
  pending = p.pending ++ find_all (asked_in n) s.posts;
  grants = p.grants ++ find_all granted_in s.posts;
  recalls = p.recalls ++ find_all recalled_in s.posts;
  yields = p.yields ++ find_all yields_in s.posts;
  returns = p.returns ++ find_all returned_in s.posts;
  releases = p.releases ++ find_all released_in s.posts;
  remote = s.remote;
}

pub took_in : {v : ℕ} (w : ℕ) {xs ys : List ℕ} → Took v xs ys → In w ys → In w xs
took_in w here i = inr i
took_in w (there t) (inl e) = inl e
took_in w (there t) (inr i) = inr (took_in w t i)

pub took_self : {v : ℕ} {xs ys : List ℕ} → Took v xs ys → In v xs
took_self here = inl refl
took_self (there t) = inr (took_self t)

pub took_other : {v : ℕ} (w : ℕ) {xs ys : List ℕ} → Took v xs ys → In w xs → (w ≡ v) ⊎ In w ys
took_other w here (inl e) = inl e
took_other w here (inr i) = inr i
took_other w (there t) (inl e) = inr (inl e)
took_other w (there t) (inr i) = elim (took_other w t i) [ inl e ↦ inl e | inr j ↦ inr (inr j) ]

-- what stands for the releases may move
pub freed_moves : (array : List ℕ) (l : Listing) (c d : Option Copy) (g h : Bool) (x y : List Back) (fs : List Freed) → (StandsFreed array l.version c g x → StandsFreed array l.version d h y) → ReleasesFit array l c g x fs → ReleasesFit array l d h y fs
freed_moves array l c d g h x y [] m r = tt
freed_moves array l c d g h x y (f ∷ fs) m r = (λ e. let u = r.0 e in (u.0, u.1, u.2, m u.3), freed_moves array l c d g h x y fs m r.1)

-- where nothing can stand for a release of the listed version, none is under way, and the bytes may change
pub freed_array : (array bytes : List ℕ) (l : Listing) (c d : Option Copy) (g h : Bool) (x y : List Back) (fs : List Freed) → (StandsFreed array l.version c g x → ⊥) → ReleasesFit array l c g x fs → ReleasesFit bytes l d h y fs
freed_array array bytes l c d g h x y [] m r = tt
freed_array array bytes l c d g h x y (f ∷ fs) m r = (λ e. absurd (m (r.0 e).3), freed_array array bytes l c d g h x y fs m r.1)

-- Mail that holds a return at most, and a release at most.
abbrev pub OnlyReturns : List Mail → Type 0
OnlyReturns [] = Unit {0}
OnlyReturns (Return version bytes ∷ []) = Unit {0}
OnlyReturns _ = ⊥

-- a step without mail, and steps with a return, a release and an ask
pub quiet_moved : (last n : ℕ) (array : List ℕ) (p : HomeAndNode) (r : Remote) (opens : Bool) → PairHolds last array (record p { remote = r }) → PairHolds last array (moved n (record { remote = r; posts = []; opened = opens }) p)
quiet_moved last n array p r opens h = simp append-nil h

pub return_moved : (last n v : ℕ) (array : List ℕ) (p : HomeAndNode) (r : Remote) (bytes : Option (List ℕ)) (opens : Bool) → PairHolds last array (record p { returns = p.returns ++ record { version = v; bytes = bytes } ∷ []; remote = r })
    → PairHolds last array (moved n (record { remote = r; posts = Return v bytes ∷ []; opened = opens }) p)
return_moved last n v array p r bytes opens h = simp append-nil h

pub release_moved : (last n v : ℕ) (array : List ℕ) (p : HomeAndNode) (r : Remote) (bytes : List ℕ) (opens : Bool) → PairHolds last array (record p { releases = p.releases ++ record { version = v; bytes = bytes } ∷ []; remote = r })
    → PairHolds last array (moved n (record { remote = r; posts = Release v bytes ∷ []; opened = opens }) p)
release_moved last n v array p r bytes opens h = simp append-nil h

pub ask_moved : (last n have : ℕ) (array : List ℕ) (p : HomeAndNode) (r : Remote) (write opens : Bool) → PairHolds last array (record p { pending = p.pending ++ record { node = n; write = write; have = have } ∷ []; remote = r })
    → PairHolds last array (moved n (record { remote = r; posts = Ask write have ∷ []; opened = opens }) p)
ask_moved last n have array p r write opens h = simp append-nil h

-- what is left of a step that posts a return at most
pub returns_moved : (last n : ℕ) (array : List ℕ) (p : HomeAndNode) (r : Remote) (posts : List Mail) (opens : Bool) → OnlyReturns posts → PairHolds last array (record p { returns = p.returns ++ find_all returned_in posts; remote = r })
    → PairHolds last array (moved n (record { remote = r; posts = posts; opened = opens }) p)
returns_moved last n array p r [] opens only h = simp append-nil (simp append-nil at h)
returns_moved last n array p r (Return v bytes ∷ []) opens only h = return_moved last n v array p r bytes opens h
returns_moved last n array p r (Return v bytes ∷ m ∷ posts) opens only h = elim only [ ]
returns_moved last n array p r (Ask write have ∷ posts) opens only h = elim only [ ]
returns_moved last n array p r (Grant v what ∷ posts) opens only h = elim only [ ]
returns_moved last n array p r (Recall v ∷ posts) opens only h = elim only [ ]
returns_moved last n array p r (Yield v ∷ posts) opens only h = elim only [ ]
returns_moved last n array p r (Release v bytes ∷ posts) opens only h = elim only [ ]
