-- Serve keeps what holds of a region, and leaves a head that waits.
use Rattle.std.proofs.Common.{ℕ, ◌+◌, List, [], ◌∷◌, ◌++◌, true, false, ◌≡◌, ◌≢◌, ◌⊎◌, refl, arith, inl, inr, sym, ap, subst, ◌∙◌}
use Rattle.std.specs.declared.option.Option.{Option}
use Rattle.std.specs.declared.option.Option.TheVariants.{None, Some}
use Rattle.crl_model.specs.declared.directory.Section.{Section}
use Rattle.crl_model.specs.declared.directory.Mark.{Mark}
use Rattle.crl_model.specs.declared.directory.Mark.TheVariants.{Plain, Recalled, Yielding}
use Rattle.crl_model.specs.declared.directory.Listing.{Listing}
use Rattle.crl_model.specs.declared.directory.Asked.{Asked}
use Rattle.crl_protocol.specs.Places.{at, find_all}
use Rattle.crl_protocol.specs.Mail.{Mail, Grant}
use Rattle.crl_protocol.specs.Home.{Home, blocks, is_servable, grant_to, open_own, grant_next, grant_for}
use Rattle.crl_protocol.specs.Remote.{Remote}
use Rattle.crl_coherence.specs.Region.{Flying, sent, flies}
use Rattle.crl_coherence.specs.Pairs.{HomeAndNode, PairHolds, pair_of, asked_in, granted_in, recalled_in, yields_in, returned_in, released_in, queued_of, Owns}
use Rattle.crl_coherence.specs.Coherent.{IsLoose, OwnAsk}
use Rattle.crl_coherence.proofs.Lists.{at-put_same, at-put_other, same_or, picked_none, picked_some, more_none, more_some}
use Rattle.crl_coherence.proofs.Mails.{mail_of, mails, mail_here, mail_other, pair_at, kept_to, kept_from, kept_at, lengthened-at}
use Rattle.crl_coherence.proofs.Calls.{clear_at}
use Rattle.crl_coherence.proofs.Facts.{listed_version}
use Rattle.crl_coherence.proofs.Pairs.{raised_kept, new_listing, served, OwnFits, served_kept, mark, called, called_pair, called_kept, limit_last}
use Rattle.crl_coherence.proofs.Owned.{has_granted}

-- the ask at the head is served: the asker's pair
served_at : (last n : ℕ) (array : List ℕ) (a : Asked) (o : Option Listing) (q : List Asked) (ms : List Mail) (r : Remote) → a.node ≡ n → OwnFits n o a → PairHolds last array (pair_at n o (a ∷ q) ms r)
    → PairHolds (last + 1) array (pair_at n (Some (new_listing last a)) q (ms ++ Grant (last + 1) (grant_to o a array) ∷ []) r)
served_at last n array a o q ms r at_n own k =
    subst (λ p. PairHolds (last + 1) array p) way (served_kept last array n a (q ++ find_all (asked_in n) ms) (pair_at n o (a ∷ q) ms r) refl at_n own k)
  where
    new : Mail
    new = Grant (last + 1) (grant_to o a array)

    way : served last array a (q ++ find_all (asked_in n) ms) (pair_at n o (a ∷ q) ms r) ≡ pair_at n (Some (new_listing last a)) q (ms ++ Grant (last + 1) (grant_to o a array) ∷ []) r
    way = λ i. record {
      listed = Some (new_listing last a);
      pending = q ++ sym (more_none (asked_in n) ms new refl) i;
      grants = sym (more_some granted_in ms new (record { version = last + 1; what = grant_to o a array }) refl) i;
      recalls = sym (more_none recalled_in ms new refl) i;
      yields = sym (more_none yields_in ms new refl) i;
      returns = sym (more_none returned_in ms new refl) i;
      releases = sym (more_none released_in ms new refl) i;
      remote = r;
    }

-- the copies in the way are called: each node's pair
pub called_at : (last n : ℕ) (array : List ℕ) (a : Asked) (o : Option Listing) (q : List Asked) (ms : List Mail) (r : Remote) → PairHolds last array (pair_at n o q ms r)
    → PairHolds last array (pair_at n (mark n o a) q (ms ++ called n o a) r)
called_at last n array a o q ms r k =
    subst (λ p. PairHolds last array p) way (called_kept last n array a o (pair_at n o q ms r) refl k)
  where
    way : called_pair n o a (pair_at n o q ms r) ≡ pair_at n (mark n o a) q (ms ++ called n o a) r
    way = ap {A = HomeAndNode} (λ p. record p { listed = mark n o a }) (lengthened-at n o q ms (called n o a) r r)

-- the ask at the head is another's, or the node's
queued_here : (n : ℕ) (a : Asked) → a.node ≡ n → queued_of n a ≡ Some a
queued_here n a h = grind arith

queued_other : (n : ℕ) (a : Asked) → a.node ≢ n → queued_of n a ≡ None
queued_other n a h = grind arith

pub first_here : (n : ℕ) (a : Asked) (q : List Asked) → a.node ≡ n → find_all (queued_of n) (a ∷ q) ≡ a ∷ find_all (queued_of n) q
first_here n a q h = picked_some (queued_of n a) a (find_all (queued_of n) q) (queued_here n a h)

pub first_other : (n : ℕ) (a : Asked) (q : List Asked) → a.node ≢ n → find_all (queued_of n) (a ∷ q) ≡ find_all (queued_of n) q
first_other n a q h = picked_none (queued_of n a) (find_all (queued_of n) q) (queued_other n a h)

pub last_here : (n : ℕ) (a : Asked) (q : List Asked) → a.node ≡ n → find_all (queued_of n) (q ++ a ∷ []) ≡ find_all (queued_of n) q ++ a ∷ []
last_here n a q h = more_some (queued_of n) q a a (queued_here n a h)

pub last_other : (n : ℕ) (a : Asked) (q : List Asked) → a.node ≢ n → find_all (queued_of n) (q ++ a ∷ []) ≡ find_all (queued_of n) q
last_other n a q h = more_none (queued_of n) q a (queued_other n a h)

own_next : (s t : Section) (a : Asked) (xs : List Asked) → OwnAsk s (a ∷ xs) → OwnAsk t xs
own_next s t a [] h = tt
own_next s t a (b ∷ xs) h = elim h [ ]

-- One round of Serve, where the head can be served.
module _ (me : ℕ) (array : List ℕ) (h : Home) (a : Asked) (q : List Asked) (remotes : ℕ → Remote) (flight : List Flying)
    (k : IsLoose me array h (a ∷ q) remotes flight) (s : is_servable h a ≡ true)
  where
    free : (n : ℕ) (l : Listing) → at n h.listed ≡ Some l → blocks n l a ≡ false
    free n l e = clear_at n h.listed a l (let x = s in grind arith) e

    shared : (n : ℕ) (l : Listing) → at n h.listed ≡ Some l → l.exclusive ≡ false
    shared n l e = let f = free n l e in grind arith

    alone_writer : (n : ℕ) (l : Listing) → at n h.listed ≡ Some l → a.write ≡ true → n ≡ a.node
    alone_writer n l e w = let f = free n l e in grind arith

    -- no mark is left
    unmarked : (n : ℕ) (l : Listing) → at n h.listed ≡ Some l → l.mark ≡ Plain
    unmarked n l e = go l.mark refl
      where
        go : (m : Mark) → l.mark ≡ m → l.mark ≡ Plain
        go Plain f = f
        go Recalled f = let b = (k.recalled n l e (λ x. cc)).0 in let c = free n l e in cc
        go Yielding f = let b = (k.recalled n l e (λ x. cc)).0 in let c = free n l e in cc

    whole : h.bytes ≡ array
    whole = k.bytes shared

    own_fits : (n : ℕ) (o : Option Listing) → at n h.listed ≡ o → OwnFits n o a
    own_fits n None e = tt
    own_fits n (Some l) e = (free n l e, unmarked n l e)

    after : List Flying
    after = flight ++ flies a.node (Grant (h.last + 1) (grant_to (at a.node h.listed) a h.bytes)) ∷ []

    granted_here : a.node ≢ me → PairHolds (h.last + 1) array (pair_of (grant_next h a).listed q remotes after a.node)
    unfolding after
    granted_here other =
        kept_from (h.last + 1) array (grant_next h a).listed q remotes after a.node
        (kept_at (h.last + 1) a.node array (sym (at-put_same a.node (Some (new_listing h.last a)) h.listed)) refl
        (ap (λ b. mails a.node flight ++ Grant (h.last + 1) (grant_to (at a.node h.listed) a b) ∷ []) (sym whole) ∙ sym (more_some (mail_of a.node) flight (flies a.node (Grant (h.last + 1) (grant_to (at a.node h.listed) a h.bytes))) (Grant (h.last + 1) (grant_to (at a.node h.listed) a h.bytes)) (mail_here a.node _)))
        refl
        (served_at h.last a.node array a (at a.node h.listed) (find_all (queued_of a.node) q) (mails a.node flight) (remotes a.node) refl (own_fits a.node (at a.node h.listed) refl)
        (kept_at h.last a.node array {ms = mails a.node flight} refl (first_here a.node a q refl) refl refl (kept_to h.last array h.listed (a ∷ q) remotes flight a.node (k.pairs a.node other)))))

    granted_there : (n : ℕ) → a.node ≢ n → n ≢ me → PairHolds (h.last + 1) array (pair_of (grant_next h a).listed q remotes after n)
    unfolding after
    granted_there n ne other =
        kept_from (h.last + 1) array (grant_next h a).listed q remotes after n
        (kept_at (h.last + 1) n array (sym (at-put_other n a.node (Some (new_listing h.last a)) h.listed (λ e. ne (sym e)))) (first_other n a q ne)
        (sym (more_none (mail_of n) flight (flies a.node (Grant (h.last + 1) (grant_to (at a.node h.listed) a h.bytes))) (mail_other n a.node _ ne)))
        refl
        (kept_to (h.last + 1) array h.listed (a ∷ q) remotes flight n (raised_kept h.last array (pair_of h.listed (a ∷ q) remotes flight n) (k.pairs n other))))

    -- what is listed after the grant
    listed_after : (n : ℕ) (l : Listing) → at n (grant_next h a).listed ≡ Some l → ((n ≡ a.node) × (l ≡ new_listing h.last a)) ⊎ ((n ≢ a.node) × (at n h.listed ≡ Some l))
    listed_after n l e = elim (same_or n a.node) [
      | inl f ↦ inl (f, let g : at a.node (grant_next h a).listed ≡ Some l = subst (λ m. at m (grant_next h a).listed ≡ Some l) f e in let w = at-put_same a.node (Some (new_listing h.last a)) h.listed in cc)
      | inr ne ↦ inr (ne, let w = at-put_other n a.node (Some (new_listing h.last a)) h.listed ne in cc)
    ]

    -- the version that is granted is above all that are some node's
    below : (v n : ℕ) → n ≢ me → Owns v (pair_of h.listed (a ∷ q) remotes flight n) → v ≡ h.last + 1 → ⊥
    below v n other (inl (l, e, f)) x = let u = (listed_version h.last array (pair_of h.listed (a ∷ q) remotes flight n) l e (k.pairs n other)).1 in omega arith
    below v n other (inr i) x =
        let u = (k.pairs n other).release_limit v i in
        let w = limit_last h.last array (pair_of h.listed (a ∷ q) remotes flight n) (k.pairs n other) in omega arith

    owned_before : (v n : ℕ) → Owns v (pair_of (grant_next h a).listed q remotes after n) → ((n ≡ a.node) × (v ≡ h.last + 1)) ⊎ Owns v (pair_of h.listed (a ∷ q) remotes flight n)
    unfolding after
    owned_before v n (inl (l, e, f)) = elim (listed_after n l e) [ inl u ↦ inl (u.0, sym f ∙ ap (λ x. x.version) u.1) | inr u ↦ inr (inl (l, u.1, f)) ]
    owned_before v n (inr i) = inr (inr (has_granted v n flight a.node (h.last + 1) (grant_to (at a.node h.listed) a h.bytes) i))

    distinct_after : (v n m : ℕ) → n ≢ me → m ≢ me → Owns v (pair_of (grant_next h a).listed q remotes after n) → Owns v (pair_of (grant_next h a).listed q remotes after m) → n ≡ m
    distinct_after v n m other more x y = elim (owned_before v n x) [
      | inl u ↦ elim (owned_before v m y) [ inl w ↦ u.0 ∙ sym w.0 | inr w ↦ absurd (below v m more w u.1) ]
      | inr u ↦ elim (owned_before v m y) [ inl w ↦ absurd (below v n other u w.1) | inr w ↦ k.distinct v n m other more u w ]
    ]

    pub grant_loose : a.node ≢ me → IsLoose me array (grant_next h a) q remotes (flight ++ sent (grant_for h a ∷ []))
    unfolding after
    grant_loose not_me =
        record {
          pairs = λ n other. elim (same_or a.node n) [
            | inl e ↦ subst (λ m. PairHolds (h.last + 1) array (pair_of (grant_next h a).listed q remotes after m)) e (granted_here not_me)
            | inr ne ↦ granted_there n ne other
          ];
          own = at-put_other me a.node (Some (new_listing h.last a)) h.listed (λ e. not_me (sym e)) ∙ k.own;
          own_ask = subst (λ l. OwnAsk h.mine l) (first_other me a q not_me) k.own_ask;
          alone = λ n m l j e x f. let u = listed_after n l e in let v = listed_after m j f in let w = alone_writer m j in let y = shared n l in grind arith;
          distinct = distinct_after;
          mine = λ n l e. let u = listed_after n l e in let y = shared n l in let z = k.mine n l in grind arith;
          bytes = λ e. whole;
          recalled = λ n l e r. let u = listed_after n l e in let y = unmarked n l in absurd (grind arith);
          size = k.size;
        }

    pub open_loose : a.node ≡ me → IsLoose me array (open_own h a) q remotes flight
    open_loose at_me =
        record {
          pairs = λ n other.
              kept_from h.last array h.listed q remotes flight n
              (kept_at h.last n array {ms = mails n flight} refl (first_other n a q (λ e. other (sym e ∙ at_me))) refl refl (kept_to h.last array h.listed (a ∷ q) remotes flight n (k.pairs n other)));
          own = k.own;
          own_ask = own_next h.mine (open_own h a).mine a (find_all (queued_of me) q) (subst (λ l. OwnAsk h.mine l) (first_here me a q at_me) k.own_ask);
          alone = k.alone;
          distinct = k.distinct;
          mine = λ n l e. let u = shared n l e in let v = alone_writer n l e in let o = k.own in grind arith;
          bytes = k.bytes;
          recalled = λ n l e r. absurd (r (unmarked n l e));
          size = k.size;
        }
