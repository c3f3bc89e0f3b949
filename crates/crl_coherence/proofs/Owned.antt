-- Which versions are a node's, before and after a step.
use Rattle.std.proofs.Common.{ℕ, List, [], ◌∷◌, ◌++◌, Bool, true, false, not, ◌&&◌, ◌≡◌, ◌⊎◌, if◌then◌else◌, refl, arith, inl, inr, sym, ap, subst, ◌∙◌}
use Rattle.std.specs.declared.option.Option.{Option}
use Rattle.std.specs.declared.option.Option.TheVariants.{None, Some}
use Rattle.crl_model.specs.declared.directory.Section.TheVariants.{Closed, Writing}
use Rattle.crl_model.specs.declared.directory.Listing.{Listing}
use Rattle.crl_model.specs.declared.directory.Asked.{Asked}
use Rattle.crl_protocol.specs.Places.{at, find_all, Took, here, there}
use Rattle.crl_protocol.specs.Mail.{Mail, Ask, Grant, Recall, Yield, Return, Release}
use Rattle.crl_protocol.specs.Home.{recalls_and_yields, is_to_mark, one_section_less, one_section_more}
use Rattle.crl_protocol.specs.Remote.{Copy, Remote, asks_home, opens_here, starts_over, remote_starts, recall_over, remote_takes_recall, yield_over, remote_takes_yield, sends_nothing, is_closed, leaves_over, lowers_over, with_written, remote_ends_read, remote_ends_write, flushes_over, remote_flushes}
use Rattle.crl_coherence.specs.Region.{Flying, sent, sent_by, flies}
use Rattle.crl_coherence.specs.Pairs.{Freed, HomeAndNode, PairHolds, HasVersion, of_node, released_in}
use Rattle.crl_coherence.proofs.Lists.{same_or, picks-append, more_none}
use Rattle.crl_coherence.proofs.Mails.{picks-mails, mails, mails-sent_by, mails-sent_other}
use Rattle.crl_coherence.proofs.Calls.{mails-calls}
use Rattle.crl_coherence.proofs.Pairs.{called}
use Rattle.crl_coherence.proofs.Remote.{OnlyReturns}
use Rattle.crl_coherence.proofs.RemoteLowers.{has_append}
use Rattle.crl_coherence.proofs.RemoteCalls.{only_returns}
use Rattle.crl_coherence.proofs.RemoteYields.{Lowers, either}
use Rattle.crl_model.specs.declared.message.Granted.{Granted}

-- a message is taken out
has_behind : (v : ℕ) (o : Option Freed) (xs : List Freed) → HasVersion v xs → HasVersion v (elim o [ None ↦ xs | Some y ↦ y ∷ xs ])
has_behind v None xs i = i
has_behind v (Some y) xs i = inr i

has_both : (v : ℕ) (o : Option Freed) (xs ys : List Freed) → (HasVersion v xs → HasVersion v ys) → HasVersion v (elim o [ None ↦ xs | Some y ↦ y ∷ xs ]) → HasVersion v (elim o [ None ↦ ys | Some y ↦ y ∷ ys ])
has_both v None xs ys f i = f i
has_both v (Some y) xs ys f (inl e) = inl e
has_both v (Some y) xs ys f (inr i) = inr (f i)

pub has_before : {A : Type 0} (select : A → Option Freed) {x : A} {xs ys : List A} → Took x xs ys → (v : ℕ) → HasVersion v (find_all select ys) → HasVersion v (find_all select xs)
has_before select (here {x = x} {xs = xs}) v i = has_behind v (select x) (find_all select xs) i
has_before select (there {x = x} {y = y} {xs = xs} {ys = ys} t) v i = has_both v (select y) (find_all select ys) (find_all select xs) (λ j. has_before select t v j) i

-- the home posts no releases
none_called : (n : ℕ) (o : Option Listing) (a : Asked) → find_all released_in (called n o a) ≡ []
none_called n None a = refl
none_called n (Some l) a = go (is_to_mark n l a) a.write
  where
    go : (b w : Bool) → find_all released_in (if b then (if w then Recall l.version else Yield l.version) ∷ [] else []) ≡ []
    go true true = refl
    go true false = refl
    go false w = refl

none_granted : (n k version : ℕ) (granted : Granted) → of_node n released_in (flies k (Grant version granted)) ≡ None
none_granted n k version granted = grind arith

pub has_granted : (v n : ℕ) (flight : List Flying) (k version : ℕ) (granted : Granted) → HasVersion v (find_all (of_node n released_in) (flight ++ flies k (Grant version granted) ∷ [])) → HasVersion v (find_all (of_node n released_in) flight)
has_granted v n flight k version granted i = subst (λ l. HasVersion v l) (more_none (of_node n released_in) flight (flies k (Grant version granted)) (none_granted n k version granted)) i

pub has_calls : (v n : ℕ) (flight : List Flying) (ls : List (Option Listing)) (a : Asked) → HasVersion v (find_all (of_node n released_in) (flight ++ sent (recalls_and_yields 0 ls a))) → HasVersion v (find_all (of_node n released_in) flight)
has_calls v n flight ls a i =
    elim (has_append v (find_all (of_node n released_in) flight) (find_all (of_node n released_in) (sent (recalls_and_yields 0 ls a))) (subst (λ l. HasVersion v l) (picks-append (of_node n released_in) flight (sent (recalls_and_yields 0 ls a))) i)) [
      | inl j ↦ j
      | inr j ↦ (let e : find_all (of_node n released_in) (sent (recalls_and_yields 0 ls a)) ≡ [] = picks-mails n released_in (sent (recalls_and_yields 0 ls a)) ∙ (ap (λ l. find_all released_in l) (mails-calls n ls a) ∙ none_called n (at n ls) a) in
          elim (subst (λ l. HasVersion v l) e j) [ ])
    ]

-- node k posts its mail
pub has_posted : (v n k : ℕ) (rest : List Flying) (posts : List Mail) → HasVersion v (find_all (of_node n released_in) (rest ++ sent_by k posts))
    → HasVersion v (find_all (of_node n released_in) rest) ⊎ (n ≡ k) × HasVersion v (find_all released_in posts)
has_posted v n k rest posts i =
    elim (has_append v (find_all (of_node n released_in) rest) (find_all (of_node n released_in) (sent_by k posts)) (subst (λ l. HasVersion v l) (picks-append (of_node n released_in) rest (sent_by k posts)) i)) [
      | inl j ↦ inl j
      | inr j ↦ (let j' : HasVersion v (find_all released_in (mails n (sent_by k posts))) = subst (λ l. HasVersion v l) (picks-mails n released_in (sent_by k posts)) j in elim (same_or n k) [
        | inl e ↦ inr (e, subst (λ l. HasVersion v (find_all released_in l)) (subst (λ x. mails x (sent_by k posts) ≡ posts) (sym e) (mails-sent_by k posts)) j')
        | inr ne ↦ elim (subst (λ l. HasVersion v (find_all released_in l)) (mails-sent_other n k posts (λ e. ne (sym e))) j') [ ]
      ])
    ]

-- a node posts releases of its listed version alone
abbrev pub ReleasesListed : Option Listing → List Mail → Type 0
ReleasesListed o posts = (v : ℕ) → HasVersion v (find_all released_in posts) → (l : Listing) × (o ≡ Some l) × (l.version ≡ v)

returns_listed : (o : Option Listing) (posts : List Mail) → OnlyReturns posts → ReleasesListed o posts
returns_listed o [] only v i = elim i [ ]
returns_listed o (Return version bytes ∷ []) only v i = elim i [ ]
returns_listed o (Return version bytes ∷ m ∷ posts) only v i = elim only [ ]
returns_listed o (Ask write have ∷ posts) only v i = elim only [ ]
returns_listed o (Grant version what ∷ posts) only v i = elim only [ ]
returns_listed o (Recall version ∷ posts) only v i = elim only [ ]
returns_listed o (Yield version ∷ posts) only v i = elim only [ ]
returns_listed o (Release version bytes ∷ posts) only v i = elim only [ ]

exclusive_listed : (last : ℕ) (array : List ℕ) (p : HomeAndNode) (c : Copy) → p.remote.copy ≡ Some c → c.exclusive ≡ true → PairHolds last array p → (l : Listing) × (p.listed ≡ Some l) × (l.version ≡ c.version)
exclusive_listed last array p c e x h = go p.listed refl
  where
    go : (o : Option Listing) → p.listed ≡ o → (l : Listing) × (p.listed ≡ Some l) × (l.version ≡ c.version)
    go None f = let k = h.places in absurd (grind arith)
    go (Some l) f = (l, f, (let k = h.places in grind arith))

by_version : {o : Option Listing} {w v : ℕ} → (l : Listing) × (o ≡ Some l) × (l.version ≡ w) → v ≡ w → (l : Listing) × (o ≡ Some l) × (l.version ≡ v)
by_version x e = (x.0, x.1, x.2 ∙ sym e)

pub recall_releases : (v : ℕ) (o : Option Listing) (r : Remote) → ReleasesListed o (remote_takes_recall v r).posts
unfolding remote_takes_recall
recall_releases v o r = returns_listed o (recall_over v r.copy r).posts (only_returns v r.copy r)

pub yield_releases : (last v : ℕ) (array : List ℕ) (p : HomeAndNode) → PairHolds last array p → ReleasesListed p.listed (remote_takes_yield v p.remote).posts
unfolding remote_takes_yield
yield_releases last v array p h w i = elim (either v p.remote) [
  | inl none ↦ elim (subst (λ l. HasVersion w (find_all released_in l)) none i) [ ]
  | inr u ↦ lowered u i
]
  where
    lowered : Lowers v p.remote → HasVersion w (find_all released_in (yield_over v p.remote.copy p.remote).posts) → (l : Listing) × (p.listed ≡ Some l) × (l.version ≡ w)
    lowered u j = let x = exclusive_listed last array p u.0 u.1 u.2 h in
        elim (subst (λ s. HasVersion w (find_all released_in s.posts)) u.5 j) [ inl e ↦ (x.0, x.1, x.2 ∙ sym e) | inr none ↦ elim none [ ] ]

pub start_releases : (write : Bool) (o : Option Listing) (r : Remote) → ReleasesListed o (remote_starts write r).posts
unfolding remote_starts
start_releases write o r v i = go r.copy i
  where
    over : (w b : Bool) (c : Copy) → HasVersion v (find_all released_in (if not w then opens_here (one_section_more r.here) r else if b then opens_here Writing r else asks_home true c.version r).posts) → ⊥
    over true true c j = j
    over true false c j = j
    over false b c j = j

    go : (c : Option Copy) → HasVersion v (find_all released_in (starts_over write c r).posts) → (l : Listing) × (o ≡ Some l) × (l.version ≡ v)
    go None j = elim j [ ]
    go (Some c) j = absurd (over write c.exclusive c j)

leaves_listed : (o : Option Listing) (c : Option Copy) (r : Remote) → ReleasesListed o (leaves_over c r).posts
leaves_listed o None r v i = elim i [ ]
leaves_listed o (Some c) r v i = elim i [ ]

pub end_read_releases : (o : Option Listing) (r : Remote) → ReleasesListed o (remote_ends_read r).posts
unfolding remote_ends_read
end_read_releases o r v i = go (is_closed (one_section_less r.here) && r.leaving) i
  where
    go : (b : Bool) → HasVersion v (find_all released_in (if b then leaves_over r.copy (record r { here = one_section_less r.here }) else sends_nothing (record r { here = one_section_less r.here })).posts) → (l : Listing) × (o ≡ Some l) × (l.version ≡ v)
    go true j = leaves_listed o r.copy (record r { here = one_section_less r.here }) v j
    go false j = elim j [ ]

pub end_write_releases : (last : ℕ) (array bytes : List ℕ) (p : HomeAndNode) → p.remote.here ≡ Writing → PairHolds last array p → ReleasesListed p.listed (remote_ends_write bytes p.remote).posts
unfolding remote_ends_write
end_write_releases last array bytes p writing h v i = go p.remote.leaving p.remote.lowering i
  where
    after : Remote
    after = record p.remote { here = Closed; copy = with_written bytes p.remote.copy }

    lowered : (c : Option Copy) → p.remote.copy ≡ c → HasVersion v (find_all released_in (lowers_over (with_written bytes c) after).posts) → (l : Listing) × (p.listed ≡ Some l) × (l.version ≡ v)
    lowered None e j = elim j [ ]
    lowered (Some c) e (inl f) = by_version (exclusive_listed last array p c e (let s = h.section in grind arith) h) f
    lowered (Some c) e (inr j) = elim j [ ]

    go : (b d : Bool) → HasVersion v (find_all released_in (if b then leaves_over (with_written bytes p.remote.copy) after else if d then lowers_over (with_written bytes p.remote.copy) after else sends_nothing after).posts) → (l : Listing) × (p.listed ≡ Some l) × (l.version ≡ v)
    go true d j = leaves_listed p.listed (with_written bytes p.remote.copy) after v j
    go false true j = lowered p.remote.copy refl j
    go false false j = elim j [ ]

pub flush_releases : (o : Option Listing) (r : Remote) → ReleasesListed o (remote_flushes r).posts
unfolding remote_flushes
flush_releases o r v i = go r.copy i
  where
    go : (c : Option Copy) → HasVersion v (find_all released_in (flushes_over c r).posts) → (l : Listing) × (o ≡ Some l) × (l.version ≡ v)
    go None j = elim j [ ]
    go (Some c) j = elim j [ ]
