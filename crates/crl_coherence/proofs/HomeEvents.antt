-- The events of the home keep what holds of the region.
use Rattle.std.proofs.Common.{ℕ, List, [], ◌∷◌, ◌++◌, Bool, true, false, ◌≡◌, ◌≢◌, ◌⊎◌, if◌then◌else◌, refl, arith, inl, inr, sym, ap, subst, ◌∙◌, append-nil}
use Rattle.std.specs.declared.option.Option.{Option}
use Rattle.std.specs.declared.option.Option.TheVariants.{None, Some}
use Rattle.crl_model.specs.declared.directory.Section.{Section}
use Rattle.crl_model.specs.declared.directory.Section.TheVariants.{Closed, Reading, Writing}
use Rattle.crl_model.specs.declared.directory.Mark.TheVariants.{Plain}
use Rattle.crl_model.specs.declared.directory.Listing.{Listing}
use Rattle.crl_model.specs.declared.directory.Asked.{Asked}
use Rattle.crl_protocol.specs.Places.{at, put, find_all, Took}
use Rattle.crl_protocol.specs.Mail.{Mail, Ask, Return, Release}
use Rattle.crl_protocol.specs.Home.{Home, bytes_after, is_to_lower, shared_listing, serve, home_takes_ask, home_takes_return, home_takes_release}
use Rattle.crl_protocol.specs.Remote.{Remote}
use Rattle.crl_coherence.specs.Region.{Flying, Region, at_home, flies}
use Rattle.crl_coherence.specs.Pairs.{PairHolds, pair_of, of_node, asked_in, granted_in, recalled_in, yields_in, returned_in, released_in, queued_of, Owns}
use Rattle.crl_coherence.specs.Coherent.{IsLoose, IsCoherent, HeadBlocks, MineFits, OwnAsk}
use Rattle.crl_coherence.proofs.Lists.{at-put_same, at-put_other, same_or, took_some, took_none, took_all, took_right}
use Rattle.crl_coherence.proofs.Mails.{mails, pair_at, kept_to, kept_from, kept_at, took_mail, took_mail_other}
use Rattle.crl_coherence.proofs.Facts.{returns_one, pending_one}
use Rattle.crl_coherence.proofs.Fits.{return_at, release_found}
use Rattle.crl_coherence.proofs.Pairs.{returned_kept, lowered_kept, stale_kept, release_bytes}
use Rattle.crl_coherence.proofs.Serve.{last_here, last_other}
use Rattle.crl_coherence.proofs.Rounds.{serve_kept}
use Rattle.crl_coherence.proofs.Owned.{has_before}

pub served : (me : ℕ) (array : List ℕ) (g : Region) (h : Home) (q : List Asked) (rest : List Flying) → IsLoose me array h q g.remotes rest → IsCoherent me (record (at_home (serve me h q) rest g) { array = array })
served me array g h q rest k = let u = serve_kept me array h q g.remotes rest k in record { loose = u.0; head = u.1 }

-- an ask joins the queue
pub head_blocks_more : (n : ℕ) (l : Listing) (q : List Asked) (a : Asked) → HeadBlocks n l q → HeadBlocks n l (q ++ a ∷ [])
head_blocks_more n l [] a h = elim h [ ]
head_blocks_more n l (b ∷ q) a h = h

ask_out : (n : ℕ) (write : Bool) (have : ℕ) (o : Option Listing) (q : List Asked) (ms ks : List Mail) (r : Remote) → Took (Ask write have) ms ks → q ≡ [] → find_all (asked_in n) ms ≡ record { node = n; write = write; have = have } ∷ [] → find_all (asked_in n) ks ≡ []
    → pair_at n o q ms r ≡ pair_at n o (q ++ record { node = n; write = write; have = have } ∷ []) ks r
ask_out n write have o q ms ks r t e f g = λ i. record {
  listed = o;
  pending = all i;
  grants = took_none granted_in t refl i;
  recalls = took_none recalled_in t refl i;
  yields = took_none yields_in t refl i;
  returns = took_none returned_in t refl i;
  releases = took_none released_in t refl i;
  remote = r;
}
  where
    all : q ++ find_all (asked_in n) ms ≡ (q ++ record { node = n; write = write; have = have } ∷ []) ++ find_all (asked_in n) ks
    all = rw (e, f, g) refl

ask_at : (last n : ℕ) (write : Bool) (have : ℕ) (array : List ℕ) (o : Option Listing) (q : List Asked) (ms ks : List Mail) (r : Remote) → Took (Ask write have) ms ks → PairHolds last array (pair_at n o q ms r)
    → PairHolds last array (pair_at n o (q ++ record { node = n; write = write; have = have } ∷ []) ks r)
ask_at last n write have array o q ms ks r t k =
    let one = took_right (record { node = n; write = write; have = have }) q (find_all (asked_in n) ms) (find_all (asked_in n) ks) (took_some (asked_in n) t (record { node = n; write = write; have = have }) refl) (pending_one last array (pair_at n o q ms r) k) in
    subst (λ p. PairHolds last array p) (ask_out n write have o q ms ks r t one.0 one.1 one.2) k

-- a message is taken out, and each version is still one node's
taken_distinct : (me : ℕ) (g : Region) (f : Flying) (rest : List Flying) → Took f g.flight rest → IsCoherent me g → (v n m : ℕ) → n ≢ me → m ≢ me
    → Owns v (pair_of g.home.listed g.home.queue g.remotes rest n) → Owns v (pair_of g.home.listed g.home.queue g.remotes rest m) → n ≡ m
taken_distinct me g f rest took k v n m other more a b = k.loose.distinct v n m other more (before n a) (before m b)
  where
    before : (n : ℕ) → Owns v (pair_of g.home.listed g.home.queue g.remotes rest n) → Owns v (pair_of g.home.listed g.home.queue g.remotes g.flight n)
    before n (inl u) = inl u
    before n (inr i) = inr (has_before (of_node n released_in) took v i)

ask_loose : (me : ℕ) (g : Region) (a : Asked) (rest : List Flying) → a.node ≢ me → Took (flies a.node (Ask a.write a.have)) g.flight rest → IsCoherent me g
    → IsLoose me g.array g.home (g.home.queue ++ a ∷ []) g.remotes rest
ask_loose me g a rest other took k =
    record {
      pairs = λ m m_other. elim (same_or m a.node) [
        | inl e ↦ subst (λ x. PairHolds g.home.last g.array (pair_of g.home.listed (g.home.queue ++ a ∷ []) g.remotes rest x)) (sym e)
            (kept_from g.home.last g.array g.home.listed (g.home.queue ++ a ∷ []) g.remotes rest a.node
            (kept_at g.home.last a.node g.array {ms = mails a.node rest} refl (sym (last_here a.node a g.home.queue refl)) refl refl
            (ask_at g.home.last a.node a.write a.have g.array (at a.node g.home.listed) (find_all (queued_of a.node) g.home.queue) (mails a.node g.flight) (mails a.node rest) (g.remotes a.node)
            (took_mail a.node (Ask a.write a.have) g.flight rest took) (kept_to g.home.last g.array g.home.listed g.home.queue g.remotes g.flight a.node (k.loose.pairs a.node other)))))
        | inr ne ↦
            kept_from g.home.last g.array g.home.listed (g.home.queue ++ a ∷ []) g.remotes rest m
            (kept_at g.home.last m g.array refl (sym (last_other m a g.home.queue (λ e. ne (sym e)))) (took_mail_other m a.node (Ask a.write a.have) g.flight rest took (λ e. ne (sym e))) refl
            (kept_to g.home.last g.array g.home.listed g.home.queue g.remotes g.flight m (k.loose.pairs m m_other)))
      ];
      own = k.loose.own;
      own_ask = subst (λ l. OwnAsk g.home.mine l) (sym (last_other me a g.home.queue other)) k.loose.own_ask;
      alone = k.loose.alone;
      distinct = taken_distinct me g (flies a.node (Ask a.write a.have)) rest took k;
      mine = k.loose.mine;
      bytes = k.loose.bytes;
      recalled = λ n l e r. head_blocks_more n l g.home.queue a (k.loose.recalled n l e r);
      size = k.loose.size;
    }

pub ask_event : (me : ℕ) (g : Region) (a : Asked) (rest : List Flying) → a.node ≢ me → Took (flies a.node (Ask a.write a.have)) g.flight rest → IsCoherent me g → IsCoherent me (at_home (home_takes_ask me a g.home) rest g)
unfolding home_takes_ask
ask_event me g a rest other took k = served me g.array g g.home (g.home.queue ++ a ∷ []) rest (ask_loose me g a rest other took k)

-- a copy comes back
return_out : (n v : ℕ) (bytes : Option (List ℕ)) (q : List Asked) (o : Option Listing) (ms ks : List Mail) (r : Remote) → Took (Return v bytes) ms ks → find_all returned_in ks ≡ []
    → record (pair_at n o q ms r) { listed = None; returns = [] } ≡ pair_at n None q ks r
return_out n v bytes q o ms ks r t e = λ i. record {
  listed = None;
  pending = q ++ took_none (asked_in n) t refl i;
  grants = took_none granted_in t refl i;
  recalls = took_none recalled_in t refl i;
  yields = took_none yields_in t refl i;
  returns = sym e i;
  releases = took_none released_in t refl i;
  remote = r;
}

returned_at : (last n v : ℕ) (bytes : Option (List ℕ)) (array : List ℕ) (o : Option Listing) (q : List Asked) (ms ks : List Mail) (r : Remote) → Took (Return v bytes) ms ks → PairHolds last array (pair_at n o q ms r) → PairHolds last array (pair_at n None q ks r)
returned_at last n v bytes array o q ms ks r t k =
    let one = took_all (record { version = v; bytes = bytes }) (find_all returned_in ms) (find_all returned_in ks) (took_some returned_in t (record { version = v; bytes = bytes }) refl) (returns_one last array (pair_at n o q ms r) k) in
    subst (λ p. PairHolds last array p) (return_out n v bytes q o ms ks r t one.1) (returned_kept last array (pair_at n o q ms r) (record { version = v; bytes = bytes }) one.0 k)

-- what is listed after one node's listing was put to another
put_listed : (m n : ℕ) (ls : List (Option Listing)) (o : Option Listing) (l : Listing) → at m (put n o ls) ≡ Some l → ((m ≡ n) × (o ≡ Some l)) ⊎ ((m ≢ n) × (at m ls ≡ Some l))
put_listed m n ls o l e = elim (same_or m n) [
  | inl f ↦ inl (f, sym (at-put_same n o ls) ∙ subst (λ x. at x (put n o ls) ≡ Some l) f e)
  | inr ne ↦ inr (ne, sym (at-put_other m n o ls ne) ∙ e)
]

left_listed : (m n : ℕ) (ls : List (Option Listing)) (l : Listing) → at m (put n None ls) ≡ Some l → (m ≢ n) × (at m ls ≡ Some l)
left_listed m n ls l e = elim (put_listed m n ls None l e) [ inl u ↦ (let v = u.1 in cc) | inr u ↦ u ]

pub return_loose : (me : ℕ) (g : Region) (n version : ℕ) (bytes : Option (List ℕ)) (rest : List Flying) → n ≢ me → Took (flies n (Return version bytes)) g.flight rest → IsCoherent me g
    → IsLoose me g.array (record g.home { bytes = bytes_after bytes g.home.bytes; listed = put n None g.home.listed }) g.home.queue g.remotes rest
return_loose me g n version bytes rest other took k =
    record {
      pairs = λ m m_other. elim (same_or m n) [
        | inl e ↦ subst (λ x. PairHolds g.home.last g.array (pair_of (put n None g.home.listed) g.home.queue g.remotes rest x)) (sym e)
            (kept_from g.home.last g.array (put n None g.home.listed) g.home.queue g.remotes rest n
            (kept_at g.home.last n g.array {q = find_all (queued_of n) g.home.queue} {ms = mails n rest} (sym (at-put_same n None g.home.listed)) refl refl refl
            (returned_at g.home.last n version bytes g.array (at n g.home.listed) (find_all (queued_of n) g.home.queue) (mails n g.flight) (mails n rest) (g.remotes n)
            (took_mail n (Return version bytes) g.flight rest took) (kept_to g.home.last g.array g.home.listed g.home.queue g.remotes g.flight n (k.loose.pairs n other)))))
        | inr ne ↦
            kept_from g.home.last g.array (put n None g.home.listed) g.home.queue g.remotes rest m
            (kept_at g.home.last m g.array {q = find_all (queued_of m) g.home.queue} (sym (at-put_other m n None g.home.listed ne)) refl (took_mail_other m n (Return version bytes) g.flight rest took (λ e. ne (sym e))) refl
            (kept_to g.home.last g.array g.home.listed g.home.queue g.remotes g.flight m (k.loose.pairs m m_other)))
      ];
      own = at-put_other me n None g.home.listed (λ e. other (sym e)) ∙ k.loose.own;
      own_ask = k.loose.own_ask;
      alone = λ m j l p e x f. k.loose.alone m j l p (left_listed m n g.home.listed l e).1 x (left_listed j n g.home.listed p f).1;
      distinct = λ v m j m_other j_other a b. k.loose.distinct v m j m_other j_other (before v m a) (before v j b);
      mine = λ m l e. k.loose.mine m l (left_listed m n g.home.listed l e).1;
      bytes = λ none. let u = return_at me g n version bytes rest k other took in after u.0 u.1 u.3 none;
      recalled = λ m l e r. k.loose.recalled m l (left_listed m n g.home.listed l e).1 r;
      size = k.loose.size;
    }
  where
    before : (v m : ℕ) → Owns v (pair_of (put n None g.home.listed) g.home.queue g.remotes rest m) → Owns v (pair_of g.home.listed g.home.queue g.remotes g.flight m)
    before v m (inl (l, e, f)) = inl (l, (left_listed m n g.home.listed l e).1, f)
    before v m (inr i) = inr (has_before (of_node m released_in) took v i)

    -- a return without bytes is of a shared copy, so nothing exclusive was listed
    none_before : (l : Listing) → at n g.home.listed ≡ Some l → l.exclusive ≡ false → ((m : ℕ) (j : Listing) → at m (put n None g.home.listed) ≡ Some j → j.exclusive ≡ false)
        → (m : ℕ) (j : Listing) → at m g.home.listed ≡ Some j → j.exclusive ≡ false
    none_before l e x none m j f = elim (same_or m n) [
      | inl i ↦ (let w : Some l ≡ Some j = sym e ∙ subst (λ y. at y g.home.listed ≡ Some j) i f in let v : l ≡ j = cc in subst (λ y. y.exclusive ≡ false) v x)
      | inr i ↦ none m j (at-put_other m n None g.home.listed i ∙ f)
    ]

    after : (l : Listing) → at n g.home.listed ≡ Some l → (bytes ≡ Some g.array) ⊎ (bytes ≡ None) × (l.exclusive ≡ false)
        → ((m : ℕ) (j : Listing) → at m (put n None g.home.listed) ≡ Some j → j.exclusive ≡ false) → bytes_after bytes g.home.bytes ≡ g.array
    after l e (inl f) none = ap (λ b. bytes_after b g.home.bytes) f
    after l e (inr (f, x)) none = ap (λ b. bytes_after b g.home.bytes) f ∙ k.loose.bytes (none_before l e x none)

pub return_event : (me : ℕ) (g : Region) (n version : ℕ) (bytes : Option (List ℕ)) (rest : List Flying) → n ≢ me → Took (flies n (Return version bytes)) g.flight rest → IsCoherent me g → IsCoherent me (at_home (home_takes_return me n bytes g.home) rest g)
unfolding home_takes_return
return_event me g n version bytes rest other took k =
    served me g.array g (record g.home { bytes = bytes_after bytes g.home.bytes; listed = put n None g.home.listed }) g.home.queue rest (return_loose me g n version bytes rest other took k)

-- a copy became a shared one
release_out : (n v : ℕ) (bytes : List ℕ) (o p : Option Listing) (q : List Asked) (ms ks : List Mail) (r : Remote) → Took (Release v bytes) ms ks
    → record (pair_at n o q ms r) { listed = p; releases = find_all released_in ks } ≡ pair_at n p q ks r
release_out n v bytes o p q ms ks r t = λ i. record {
  listed = p;
  pending = q ++ took_none (asked_in n) t refl i;
  grants = took_none granted_in t refl i;
  recalls = took_none recalled_in t refl i;
  yields = took_none yields_in t refl i;
  returns = took_none returned_in t refl i;
  releases = find_all released_in ks;
  remote = r;
}

lowered_at : (last n v : ℕ) (bytes array : List ℕ) (o : Option Listing) (q : List Asked) (ms ks : List Mail) (r : Remote) → Took (Release v bytes) ms ks → is_to_lower v o ≡ true → PairHolds last array (pair_at n o q ms r)
    → PairHolds last array (pair_at n (Some (shared_listing v)) q ks r)
lowered_at last n v bytes array o q ms ks r t e k =
    subst (λ p. PairHolds last array p) (release_out n v bytes o (Some (shared_listing v)) q ms ks r t)
    (lowered_kept last array (pair_at n o q ms r) (record { version = v; bytes = bytes }) (find_all released_in ks) (took_some released_in t (record { version = v; bytes = bytes }) refl) e k)

stale_at : (last n v : ℕ) (bytes array : List ℕ) (o : Option Listing) (q : List Asked) (ms ks : List Mail) (r : Remote) → Took (Release v bytes) ms ks → is_to_lower v o ≡ false → PairHolds last array (pair_at n o q ms r)
    → PairHolds last array (pair_at n o q ks r)
stale_at last n v bytes array o q ms ks r t e k =
    subst (λ p. PairHolds last array p) (release_out n v bytes o o q ms ks r t)
    (stale_kept last array (pair_at n o q ms r) (record { version = v; bytes = bytes }) (find_all released_in ks) (took_some released_in t (record { version = v; bytes = bytes }) refl) e k)

-- what is listed of a node whose release is taken
lowered_listed : (v : ℕ) (o : Option Listing) → is_to_lower v o ≡ true → (l : Listing) × (o ≡ Some l) × (l.exclusive ≡ true) × (v ≡ l.version)
lowered_listed v None e = cc
lowered_listed v (Some l) e = (l, refl, (grind arith), (grind arith))

shared_fits : (s : Section) → MineFits s true → MineFits s false
shared_fits Closed m = tt
shared_fits (Reading c) m = cc
shared_fits Writing m = elim m [ ]

module _ (me : ℕ) (g : Region) (n version : ℕ) (bytes : List ℕ) (rest : List Flying) (other : n ≢ me) (took : Took (flies n (Release version bytes)) g.flight rest) (k : IsCoherent me g)
  where
    here : PairHolds g.home.last g.array (pair_at n (at n g.home.listed) (find_all (queued_of n) g.home.queue) (mails n g.flight) (g.remotes n))
    here = kept_to g.home.last g.array g.home.listed g.home.queue g.remotes g.flight n (k.loose.pairs n other)

    mail : Took (Release version bytes) (mails n g.flight) (mails n rest)
    mail = took_mail n (Release version bytes) g.flight rest took

    there : (m : ℕ) → m ≢ me → m ≢ n → PairHolds g.home.last g.array (pair_at m (at m g.home.listed) (find_all (queued_of m) g.home.queue) (mails m rest) (g.remotes m))
    there m m_other ne =
        kept_at g.home.last m g.array {q = find_all (queued_of m) g.home.queue} refl refl (took_mail_other m n (Release version bytes) g.flight rest took (λ e. ne (sym e))) refl
        (kept_to g.home.last g.array g.home.listed g.home.queue g.remotes g.flight m (k.loose.pairs m m_other))

    -- a release that is ignored
    stale_loose : is_to_lower version (at n g.home.listed) ≡ false → IsLoose me g.array g.home g.home.queue g.remotes rest
    stale_loose stale =
        record {
          pairs = λ m m_other. elim (same_or m n) [
            | inl e ↦ subst (λ x. PairHolds g.home.last g.array (pair_of g.home.listed g.home.queue g.remotes rest x)) (sym e)
                (kept_from g.home.last g.array g.home.listed g.home.queue g.remotes rest n
                (stale_at g.home.last n version bytes g.array (at n g.home.listed) (find_all (queued_of n) g.home.queue) (mails n g.flight) (mails n rest) (g.remotes n) mail stale here))
            | inr ne ↦ kept_from g.home.last g.array g.home.listed g.home.queue g.remotes rest m (there m m_other ne)
          ];
          own = k.loose.own;
          own_ask = k.loose.own_ask;
          alone = k.loose.alone;
          distinct = taken_distinct me g (flies n (Release version bytes)) rest took k;
          mine = k.loose.mine;
          bytes = k.loose.bytes;
          recalled = k.loose.recalled;
          size = k.loose.size;
        }

    module _ (is : is_to_lower version (at n g.home.listed) ≡ true)
      where
        before : (l : Listing) × (at n g.home.listed ≡ Some l) × (l.exclusive ≡ true) × (version ≡ l.version)
        before = lowered_listed version (at n g.home.listed) is

        table : List (Option Listing)
        table = put n (Some (shared_listing version)) g.home.listed

        -- what is listed then
        listed_then : (m : ℕ) (l : Listing) → at m table ≡ Some l → ((m ≡ n) × (l.exclusive ≡ false) × (l.mark ≡ Plain)) ⊎ ((m ≢ n) × (at m g.home.listed ≡ Some l))
        unfolding table
        listed_then m l e = elim (put_listed m n g.home.listed (Some (shared_listing version)) l e) [
          | inl u ↦ (let v : shared_listing version ≡ l = (let w = u.1 in cc) in inl (u.0, sym (ap (λ x. x.exclusive) v), sym (ap (λ x. x.mark) v)))
          | inr u ↦ inr u
        ]

        -- the node's copy keeps its version
        version_then : (m : ℕ) (l : Listing) → at m table ≡ Some l → (old : Listing) × (at m g.home.listed ≡ Some old) × (old.version ≡ l.version)
        unfolding table
        version_then m l e = elim (put_listed m n g.home.listed (Some (shared_listing version)) l e) [
          | inl u ↦ (let v : shared_listing version ≡ l = (let w = u.1 in cc) in (before.0, subst (λ x. at x g.home.listed ≡ Some before.0) (sym u.0) before.1, sym before.3 ∙ ap (λ x. x.version) v))
          | inr u ↦ (l, u.1, refl)
        ]

        owned_before : (v m : ℕ) → Owns v (pair_of table g.home.queue g.remotes rest m) → Owns v (pair_of g.home.listed g.home.queue g.remotes g.flight m)
        owned_before v m (inl (l, e, f)) = let u = version_then m l e in inl (u.0, u.1, u.2 ∙ f)
        owned_before v m (inr i) = inr (has_before (of_node m released_in) took v i)

        alone_then : (m j : ℕ) (l p : Listing) → at m table ≡ Some l → l.exclusive ≡ true → at j table ≡ Some p → m ≡ j
        alone_then m j l p e x f = elim (listed_then m l e) [
          | inl u ↦ (let v = u.1 in cc)
          | inr u ↦ elim (listed_then j p f) [
            | inl v ↦ k.loose.alone m n l before.0 u.1 x before.1 ∙ sym v.0
            | inr v ↦ k.loose.alone m j l p u.1 x v.1
          ]
        ]

        mine_then : (m : ℕ) (l : Listing) → at m table ≡ Some l → MineFits g.home.mine l.exclusive
        mine_then m l e = elim (listed_then m l e) [
          | inl u ↦ subst (λ x. MineFits g.home.mine x) (sym u.1) (shared_fits g.home.mine (subst (λ x. MineFits g.home.mine x) before.2 (k.loose.mine n before.0 before.1)))
          | inr u ↦ k.loose.mine m l u.1
        ]

        marks_then : (m : ℕ) (l : Listing) → at m table ≡ Some l → l.mark ≢ Plain → HeadBlocks m l g.home.queue
        marks_then m l e r = elim (listed_then m l e) [ inl u ↦ absurd (r u.2) | inr u ↦ k.loose.recalled m l u.1 r ]

        pub lowered_loose : IsLoose me g.array (record g.home { bytes = bytes; listed = put n (Some (shared_listing version)) g.home.listed }) g.home.queue g.remotes rest
        unfolding table
        lowered_loose =
            record {
              pairs = λ m m_other. elim (same_or m n) [
                | inl e ↦ subst (λ x. PairHolds g.home.last g.array (pair_of table g.home.queue g.remotes rest x)) (sym e)
                    (kept_from g.home.last g.array table g.home.queue g.remotes rest n
                    (kept_at g.home.last n g.array {q = find_all (queued_of n) g.home.queue} {ms = mails n rest} (sym (at-put_same n (Some (shared_listing version)) g.home.listed)) refl refl refl
                    (lowered_at g.home.last n version bytes g.array (at n g.home.listed) (find_all (queued_of n) g.home.queue) (mails n g.flight) (mails n rest) (g.remotes n) mail is here)))
                | inr ne ↦
                    kept_from g.home.last g.array table g.home.queue g.remotes rest m
                    (kept_at g.home.last m g.array {q = find_all (queued_of m) g.home.queue} {ms = mails m rest} (sym (at-put_other m n (Some (shared_listing version)) g.home.listed ne)) refl refl refl (there m m_other ne))
              ];
              own = at-put_other me n (Some (shared_listing version)) g.home.listed (λ e. other (sym e)) ∙ k.loose.own;
              own_ask = k.loose.own_ask;
              alone = alone_then;
              distinct = λ v m j m_other j_other a b. k.loose.distinct v m j m_other j_other (owned_before v m a) (owned_before v j b);
              mine = mine_then;
              bytes = λ none.
                  release_bytes g.home.last g.array (pair_of g.home.listed g.home.queue g.remotes g.flight n) before.0 (record { version = version; bytes = bytes }) (find_all (of_node n released_in) rest)
                  (took_some (of_node n released_in) took (record { version = version; bytes = bytes }) (release_found n version bytes)) before.1 before.3 (k.loose.pairs n other);
              recalled = marks_then;
              size = k.loose.size;
            }

    release_case : (b : Bool) → is_to_lower version (at n g.home.listed) ≡ b
        → IsCoherent me (at_home (if b then serve me (record g.home { bytes = bytes; listed = put n (Some (shared_listing version)) g.home.listed }) g.home.queue else record { home = g.home; posts = []; opened = false }) rest g)
    release_case true e = served me g.array g (record g.home { bytes = bytes; listed = put n (Some (shared_listing version)) g.home.listed }) g.home.queue rest (lowered_loose e)
    release_case false e = record { loose = subst (λ l. IsLoose me g.array g.home g.home.queue g.remotes l) (sym (append-nil rest)) (stale_loose e); head = k.head }

    pub release_event : IsCoherent me (at_home (home_takes_release me n version bytes g.home) rest g)
    unfolding home_takes_release
    release_event = release_case (is_to_lower version (at n g.home.listed)) refl
