-- The events of a node that isn't the home keep what holds of the region.
use Rattle.std.proofs.Common.{ℕ, ◌+◌, List, [], ◌++◌, Bool, true, ◌≡◌, ◌≢◌, length, refl, inl, inr, sym, ap, subst, ◌∙◌, append-nil}
use Rattle.std.specs.declared.option.Option.{Option}
use Rattle.std.specs.declared.option.Option.TheVariants.{None, Some}
use Rattle.crl_model.specs.declared.directory.Section.TheVariants.{Closed, Reading, Writing}
use Rattle.crl_model.specs.declared.directory.Listing.{Listing}
use Rattle.crl_model.specs.declared.directory.Asked.{Asked}
use Rattle.crl_model.specs.declared.message.Granted.{Granted}
use Rattle.crl_model.specs.Names.{at_node}
use Rattle.crl_protocol.specs.Places.{at, find_all, Took}
use Rattle.crl_protocol.specs.Mail.{Mail, Grant, Recall, Yield}
use Rattle.crl_protocol.specs.Home.{Home}
use Rattle.crl_protocol.specs.Remote.{Remote, RemoteStep, new_remote, remote_starts, remote_takes_grant, remote_takes_recall, remote_takes_yield, remote_ends_read, remote_ends_write, remote_flushes}
use Rattle.crl_coherence.specs.Region.{Flying, Region, sent_by, at_remote, flies, IsBlank, MayStart}
use Rattle.crl_coherence.specs.Pairs.{PairHolds, pair_of, asked_in, granted_in, recalled_in, yields_in, returned_in, released_in, queued_of, Owns, HasVersion, of_node}
use Rattle.crl_coherence.specs.Coherent.{IsCoherent}
use Rattle.crl_coherence.proofs.Lists.{same_or, took_some, took_none, took_all}
use Rattle.crl_coherence.proofs.Mails.{mails, pair_at, kept_to, kept_from, kept_at, lengthened-at, mails-append, mails-sent_by, mails-sent_other, took_mail, took_mail_other, set_here, set_there}
use Rattle.crl_coherence.proofs.Facts.{grants_one, writer_listed}
use Rattle.crl_coherence.proofs.Remote.{moved}
use Rattle.crl_coherence.proofs.RemoteCalls.{recall_kept}
use Rattle.crl_coherence.proofs.RemoteYields.{yield_kept, grant_kept}
use Rattle.crl_coherence.proofs.RemoteSections.{start_kept, flush_kept, end_read_kept, end_write_kept, appears_kept, other_array}
use Rattle.crl_coherence.proofs.Owned.{has_before, has_posted, ReleasesListed, recall_releases, yield_releases, start_releases, end_read_releases, end_write_releases, flush_releases}

-- a pair after a step of its node, by its mail
moved-at : (n : ℕ) (o : Option Listing) (q : List Asked) (ms : List Mail) (r : Remote) (s : RemoteStep) → moved n s (pair_at n o q ms r) ≡ pair_at n o q (ms ++ s.posts) s.remote
moved-at n o q ms r s = lengthened-at n o q ms s.posts r s.remote

-- and after a message of each kind is taken out
recall_out : (n v : ℕ) (o : Option Listing) (q : List Asked) (ms ks : List Mail) (r : Remote) → Took (Recall v) ms ks → record (pair_at n o q ms r) { recalls = find_all recalled_in ks } ≡ pair_at n o q ks r
recall_out n v o q ms ks r t = λ i. record {
  listed = o;
  pending = q ++ took_none (asked_in n) t refl i;
  grants = took_none granted_in t refl i;
  recalls = find_all recalled_in ks;
  yields = took_none yields_in t refl i;
  returns = took_none returned_in t refl i;
  releases = took_none released_in t refl i;
  remote = r;
}

yield_out : (n v : ℕ) (o : Option Listing) (q : List Asked) (ms ks : List Mail) (r : Remote) → Took (Yield v) ms ks → record (pair_at n o q ms r) { yields = find_all yields_in ks } ≡ pair_at n o q ks r
yield_out n v o q ms ks r t = λ i. record {
  listed = o;
  pending = q ++ took_none (asked_in n) t refl i;
  grants = took_none granted_in t refl i;
  recalls = took_none recalled_in t refl i;
  yields = find_all yields_in ks;
  returns = took_none returned_in t refl i;
  releases = took_none released_in t refl i;
  remote = r;
}

grant_out : (n v : ℕ) (w : Granted) (o : Option Listing) (q : List Asked) (ms ks : List Mail) (r : Remote) → Took (Grant v w) ms ks → find_all granted_in ks ≡ [] → record (pair_at n o q ms r) { grants = [] } ≡ pair_at n o q ks r
grant_out n v w o q ms ks r t e = λ i. record {
  listed = o;
  pending = q ++ took_none (asked_in n) t refl i;
  grants = sym e i;
  recalls = took_none recalled_in t refl i;
  yields = took_none yields_in t refl i;
  returns = took_none returned_in t refl i;
  releases = took_none released_in t refl i;
  remote = r;
}

-- messages that come
recall_at : (last n v : ℕ) (array : List ℕ) (o : Option Listing) (q : List Asked) (ms ks : List Mail) (r : Remote) → Took (Recall v) ms ks → PairHolds last array (pair_at n o q ms r)
    → PairHolds last array (pair_at n o q (ks ++ (remote_takes_recall v r).posts) (remote_takes_recall v r).remote)
recall_at last n v array o q ms ks r t k =
    subst (λ p. PairHolds last array p) (ap (λ p. moved n (remote_takes_recall v r) p) (recall_out n v o q ms ks r t) ∙ moved-at n o q ks r (remote_takes_recall v r))
    (recall_kept last n v array (pair_at n o q ms r) (find_all recalled_in ks) (took_some recalled_in t v refl) k)

yield_at : (last n v : ℕ) (array : List ℕ) (o : Option Listing) (q : List Asked) (ms ks : List Mail) (r : Remote) → Took (Yield v) ms ks → PairHolds last array (pair_at n o q ms r)
    → PairHolds last array (pair_at n o q (ks ++ (remote_takes_yield v r).posts) (remote_takes_yield v r).remote)
yield_at last n v array o q ms ks r t k =
    subst (λ p. PairHolds last array p) (ap (λ p. moved n (remote_takes_yield v r) p) (yield_out n v o q ms ks r t) ∙ moved-at n o q ks r (remote_takes_yield v r))
    (yield_kept last n v array (pair_at n o q ms r) (find_all yields_in ks) (took_some yields_in t v refl) k)

abbrev pub granted_step : ℕ → Granted → Remote → RemoteStep
granted_step v w r = record { remote = remote_takes_grant v w r; posts = []; opened = true }

grant_at : (last n v : ℕ) (w : Granted) (array : List ℕ) (o : Option Listing) (q : List Asked) (ms ks : List Mail) (r : Remote) → Took (Grant v w) ms ks → PairHolds last array (pair_at n o q ms r)
    → PairHolds last array (pair_at n o q (ks ++ []) (remote_takes_grant v w r))
grant_at last n v w array o q ms ks r t k =
    let one = took_all (record { version = v; what = w }) (find_all granted_in ms) (find_all granted_in ks) (took_some granted_in t (record { version = v; what = w }) refl) (grants_one last array (pair_at n o q ms r) k) in
    subst (λ p. PairHolds last array p) (ap (λ p. moved n (granted_step v w r) p) (grant_out n v w o q ms ks r t one.1) ∙ moved-at n o q ks r (granted_step v w r))
    (grant_kept last n array (pair_at n o q ms r) (record { version = v; what = w }) one.0 k)

-- the mail of a node's step
step_here : (n : ℕ) (rest : List Flying) (posts : List Mail) → mails n (rest ++ sent_by n posts) ≡ mails n rest ++ posts
step_here n rest posts = mails-append n rest (sent_by n posts) ∙ ap (λ l. mails n rest ++ l) (mails-sent_by n posts)

step_there : (m n : ℕ) (rest : List Flying) (posts : List Mail) → m ≢ n → mails m (rest ++ sent_by n posts) ≡ mails m rest
step_there m n rest posts h = mails-append m rest (sent_by n posts) ∙ (ap (λ l. mails m rest ++ l) (mails-sent_other m n posts (λ e. h (sym e))) ∙ append-nil (mails m rest))

-- another node's pair, where only node n took a step
other_pair : (last m n : ℕ) (array : List ℕ) (h : Home) (q : List Asked) (remotes : ℕ → Remote) (r : Remote) (flight after : List Flying) → m ≢ n → mails m flight ≡ mails m after
    → PairHolds last array (pair_of h.listed q remotes flight m) → PairHolds last array (pair_of h.listed q (at_node remotes n r) after m)
other_pair last m n array h q remotes r flight after ne alike k =
    kept_from last array h.listed q (at_node remotes n r) after m
    (kept_at last m array refl refl alike (sym (set_there remotes n m r ne)) (kept_to last array h.listed q remotes flight m k))

own_pair : (last n : ℕ) (array : List ℕ) (h : Home) (q : List Asked) (remotes : ℕ → Remote) (r : Remote) (ms : List Mail) (after : List Flying) → ms ≡ mails n after
    → PairHolds last array (pair_at n (at n h.listed) (find_all (queued_of n) q) ms r) → PairHolds last array (pair_of h.listed q (at_node remotes n r) after n)
own_pair last n array h q remotes r ms after e k =
    kept_from last array h.listed q (at_node remotes n r) after n (kept_at last n array refl refl e (sym (set_here remotes n r)) k)

pair_here : (me n : ℕ) (g : Region) → IsCoherent me g → n ≢ me → PairHolds g.home.last g.array (pair_at n (at n g.home.listed) (find_all (queued_of n) g.home.queue) (mails n g.flight) (g.remotes n))
pair_here me n g k other = kept_to g.home.last g.array g.home.listed g.home.queue g.remotes g.flight n (k.loose.pairs n other)

-- a node's own step: the others' pairs stay
node_step : (me n : ℕ) (g : Region) (r : Remote) (ms : List Mail) (after : List Flying) → IsCoherent me g → ((m : ℕ) → m ≢ n → mails m g.flight ≡ mails m after) → ms ≡ mails n after
    → ((v m : ℕ) → Owns v (pair_of g.home.listed g.home.queue g.remotes after m) → Owns v (pair_of g.home.listed g.home.queue g.remotes g.flight m))
    → PairHolds g.home.last g.array (pair_at n (at n g.home.listed) (find_all (queued_of n) g.home.queue) ms r) → IsCoherent me (record g { remotes = at_node g.remotes n r; flight = after })
node_step me n g r ms after k alike e before new = record {
  loose = record {
    pairs = λ m other. elim (same_or m n) [
      | inl f ↦ subst (λ x. PairHolds g.home.last g.array (pair_of g.home.listed g.home.queue (at_node g.remotes n r) after x)) (sym f) (own_pair g.home.last n g.array g.home g.home.queue g.remotes r ms after e new)
      | inr ne ↦ other_pair g.home.last m n g.array g.home g.home.queue g.remotes r g.flight after ne (alike m ne) (k.loose.pairs m other)
    ];
    own = k.loose.own;
    own_ask = k.loose.own_ask;
    alone = k.loose.alone;
    distinct = λ v m j m_other j_other a b. k.loose.distinct v m j m_other j_other (before v m a) (before v j b);
    mine = k.loose.mine;
    bytes = k.loose.bytes;
    recalled = k.loose.recalled;
    size = k.loose.size;
  };
  head = k.head;
}

-- what is a node's after a step of node n
owned_before : (n : ℕ) (g : Region) (posts : List Mail) (rest : List Flying) → ((v m : ℕ) → HasVersion v (find_all (of_node m released_in) rest) → HasVersion v (find_all (of_node m released_in) g.flight)) → ReleasesListed (at n g.home.listed) posts
    → (v m : ℕ) → Owns v (pair_of g.home.listed g.home.queue g.remotes (rest ++ sent_by n posts) m) → Owns v (pair_of g.home.listed g.home.queue g.remotes g.flight m)
owned_before n g posts rest fewer own v m (inl u) = inl u
owned_before n g posts rest fewer own v m (inr i) = elim (has_posted v m n rest posts i) [
  | inl j ↦ inr (fewer v m j)
  | inr j ↦ inl (subst (λ x. (l : Listing) × (at x g.home.listed ≡ Some l) × (l.version ≡ v)) (sym j.0) (own v j.1))
]

remote_step : (me n : ℕ) (g : Region) (s : RemoteStep) (rest : List Flying) → IsCoherent me g → ((m : ℕ) → m ≢ n → mails m g.flight ≡ mails m rest)
    → ((v m : ℕ) → HasVersion v (find_all (of_node m released_in) rest) → HasVersion v (find_all (of_node m released_in) g.flight)) → ReleasesListed (at n g.home.listed) s.posts
    → PairHolds g.home.last g.array (pair_at n (at n g.home.listed) (find_all (queued_of n) g.home.queue) (mails n rest ++ s.posts) s.remote) → IsCoherent me (at_remote n s rest g)
remote_step me n g s rest k alike fewer own new =
    node_step me n g s.remote (mails n rest ++ s.posts) (rest ++ sent_by n s.posts) k (λ m ne. alike m ne ∙ sym (step_there m n rest s.posts ne)) (sym (step_here n rest s.posts)) (owned_before n g s.posts rest fewer own) new

-- a step without a message that comes
call_step : (me n : ℕ) (g : Region) (s : RemoteStep) → IsCoherent me g → ReleasesListed (at n g.home.listed) s.posts
    → PairHolds g.home.last g.array (moved n s (pair_at n (at n g.home.listed) (find_all (queued_of n) g.home.queue) (mails n g.flight) (g.remotes n))) → IsCoherent me (at_remote n s g.flight g)
call_step me n g s k own new =
    remote_step me n g s g.flight k (λ m ne. refl) (λ v m i. i) own
    (subst (λ p. PairHolds g.home.last g.array p) (moved-at n (at n g.home.listed) (find_all (queued_of n) g.home.queue) (mails n g.flight) (g.remotes n) s) new)

pub recall_event : (me : ℕ) (g : Region) (n version : ℕ) (rest : List Flying) → n ≢ me → Took (flies n (Recall version)) g.flight rest → IsCoherent me g → IsCoherent me (at_remote n (remote_takes_recall version (g.remotes n)) rest g)
recall_event me g n version rest other took k =
    remote_step me n g (remote_takes_recall version (g.remotes n)) rest k (λ m ne. took_mail_other m n (Recall version) g.flight rest took (λ e. ne (sym e))) (λ v m i. has_before (of_node m released_in) took v i)
    (recall_releases version (at n g.home.listed) (g.remotes n))
    (recall_at g.home.last n version g.array (at n g.home.listed) (find_all (queued_of n) g.home.queue) (mails n g.flight) (mails n rest) (g.remotes n) (took_mail n (Recall version) g.flight rest took) (pair_here me n g k other))

pub yield_event : (me : ℕ) (g : Region) (n version : ℕ) (rest : List Flying) → n ≢ me → Took (flies n (Yield version)) g.flight rest → IsCoherent me g → IsCoherent me (at_remote n (remote_takes_yield version (g.remotes n)) rest g)
yield_event me g n version rest other took k =
    remote_step me n g (remote_takes_yield version (g.remotes n)) rest k (λ m ne. took_mail_other m n (Yield version) g.flight rest took (λ e. ne (sym e))) (λ v m i. has_before (of_node m released_in) took v i)
    (yield_releases g.home.last version g.array (pair_of g.home.listed g.home.queue g.remotes g.flight n) (k.loose.pairs n other))
    (yield_at g.home.last n version g.array (at n g.home.listed) (find_all (queued_of n) g.home.queue) (mails n g.flight) (mails n rest) (g.remotes n) (took_mail n (Yield version) g.flight rest took) (pair_here me n g k other))

pub grant_event : (me : ℕ) (g : Region) (n version : ℕ) (granted : Granted) (rest : List Flying) → n ≢ me → Took (flies n (Grant version granted)) g.flight rest → IsCoherent me g
    → IsCoherent me (at_remote n (granted_step version granted (g.remotes n)) rest g)
grant_event me g n version granted rest other took k =
    remote_step me n g (granted_step version granted (g.remotes n)) rest k (λ m ne. took_mail_other m n (Grant version granted) g.flight rest took (λ e. ne (sym e))) (λ v m i. has_before (of_node m released_in) took v i)
    (λ v i. elim i [ ])
    (grant_at g.home.last n version granted g.array (at n g.home.listed) (find_all (queued_of n) g.home.queue) (mails n g.flight) (mails n rest) (g.remotes n) (took_mail n (Grant version granted) g.flight rest took) (pair_here me n g k other))

pub start_event : (me : ℕ) (g : Region) (n : ℕ) (write : Bool) → n ≢ me → MayStart write (g.remotes n).here → (g.remotes n).asking ≡ None → (g.remotes n).size ≡ g.home.size → IsCoherent me g
    → IsCoherent me (at_remote n (remote_starts write (g.remotes n)) g.flight g)
start_event me g n write other may idle size k =
    call_step me n g (remote_starts write (g.remotes n)) k (start_releases write (at n g.home.listed) (g.remotes n))
    (start_kept g.home.last n g.array (pair_at n (at n g.home.listed) (find_all (queued_of n) g.home.queue) (mails n g.flight) (g.remotes n)) write may idle (size ∙ sym k.loose.size) (pair_here me n g k other))

pub end_read_event : (me : ℕ) (g : Region) (n count : ℕ) → n ≢ me → (g.remotes n).here ≡ Reading (count + 1) → IsCoherent me g → IsCoherent me (at_remote n (remote_ends_read (g.remotes n)) g.flight g)
end_read_event me g n count other reading k =
    call_step me n g (remote_ends_read (g.remotes n)) k (end_read_releases (at n g.home.listed) (g.remotes n))
    (end_read_kept g.home.last n count g.array (pair_at n (at n g.home.listed) (find_all (queued_of n) g.home.queue) (mails n g.flight) (g.remotes n)) reading (pair_here me n g k other))

pub flush_event : (me : ℕ) (g : Region) (n : ℕ) → n ≢ me → (g.remotes n).here ≡ Closed → (g.remotes n).asking ≡ None → IsCoherent me g → IsCoherent me (at_remote n (remote_flushes (g.remotes n)) g.flight g)
flush_event me g n other closed idle k =
    call_step me n g (remote_flushes (g.remotes n)) k (flush_releases (at n g.home.listed) (g.remotes n))
    (flush_kept g.home.last n g.array (pair_at n (at n g.home.listed) (find_all (queued_of n) g.home.queue) (mails n g.flight) (g.remotes n)) closed idle (pair_here me n g k other))

pub appears_event : (me : ℕ) (g : Region) (n size : ℕ) → n ≢ me → IsBlank (g.remotes n) → IsCoherent me g → IsCoherent me (record g { remotes = at_node g.remotes n (new_remote size) })
appears_event me g n size other blank k =
    node_step me n g (new_remote size) (mails n g.flight) g.flight k (λ m ne. refl) refl (λ v m a. a)
    (appears_kept g.home.last size g.array (pair_at n (at n g.home.listed) (find_all (queued_of n) g.home.queue) (mails n g.flight) (g.remotes n)) blank (pair_here me n g k other))

-- a write section ends: every other node has no copy listed
module _ (me : ℕ) (g : Region) (n : ℕ) (bytes : List ℕ) (other : n ≢ me) (writing : (g.remotes n).here ≡ Writing) (sized : length bytes ≡ g.home.size) (k : IsCoherent me g)
  where
    s : RemoteStep
    s = remote_ends_write bytes (g.remotes n)

    same_size : length bytes ≡ length g.array
    same_size = sized ∙ sym k.loose.size

    writer : (l : Listing) × (at n g.home.listed ≡ Some l) × (l.exclusive ≡ true)
    writer = writer_listed g.home.last g.array (pair_of g.home.listed g.home.queue g.remotes g.flight n) writing (k.loose.pairs n other)

    unlisted : (m : ℕ) → m ≢ n → at m g.home.listed ≡ None
    unlisted m ne = go (at m g.home.listed) refl
      where
        go : (o : Option Listing) → at m g.home.listed ≡ o → at m g.home.listed ≡ None
        go None e = e
        go (Some l) e = absurd (ne (sym (k.loose.alone n m writer.0 l writer.1 writer.2 e)))

    after : List Flying
    after = g.flight ++ sent_by n (remote_ends_write bytes (g.remotes n)).posts

    before : (v m : ℕ) → Owns v (pair_of g.home.listed g.home.queue g.remotes after m) → Owns v (pair_of g.home.listed g.home.queue g.remotes g.flight m)
    unfolding after
    before = owned_before n g (remote_ends_write bytes (g.remotes n)).posts g.flight (λ v m i. i) (end_write_releases g.home.last g.array bytes (pair_of g.home.listed g.home.queue g.remotes g.flight n) writing (k.loose.pairs n other))

    pub end_write_event : IsCoherent me (record (at_remote n (remote_ends_write bytes (g.remotes n)) g.flight g) { array = bytes })
    unfolding s after
    end_write_event = record {
      loose = record {
        pairs = λ m m_other. elim (same_or m n) [
          | inl f ↦ subst (λ x. PairHolds g.home.last bytes (pair_of g.home.listed g.home.queue (at_node g.remotes n s.remote) after x)) (sym f)
              (own_pair g.home.last n bytes g.home g.home.queue g.remotes s.remote (mails n g.flight ++ s.posts) after (sym (step_here n g.flight s.posts))
              (subst (λ p. PairHolds g.home.last bytes p) (moved-at n (at n g.home.listed) (find_all (queued_of n) g.home.queue) (mails n g.flight) (g.remotes n) s)
              (end_write_kept g.home.last n g.array bytes (pair_at n (at n g.home.listed) (find_all (queued_of n) g.home.queue) (mails n g.flight) (g.remotes n)) writing same_size (pair_here me n g k other))))
          | inr ne ↦ other_pair g.home.last m n bytes g.home g.home.queue g.remotes s.remote g.flight after ne (sym (step_there m n g.flight s.posts ne))
              (other_array g.home.last g.array bytes (pair_of g.home.listed g.home.queue g.remotes g.flight m) (unlisted m ne) same_size (k.loose.pairs m m_other))
        ];
        own = k.loose.own;
        own_ask = k.loose.own_ask;
        alone = k.loose.alone;
        distinct = λ v m j m_other j_other a b. k.loose.distinct v m j m_other j_other (before v m a) (before v j b);
        mine = k.loose.mine;
        bytes = λ none. let u = none n writer.0 writer.1 in let x = writer.2 in cc;
        recalled = k.loose.recalled;
        size = sized;
      };
      head = k.head;
    }
