-- Serve keeps what holds of a region, over the whole queue.
use Rattle.std.proofs.Common.{ℕ, List, [], ◌∷◌, ◌++◌, Bool, true, false, not, ◌&&◌, ◌≡◌, ◌≢◌, ◌==◌, if◌then◌else◌, refl, arith, sym, ap, subst, ◌∙◌, append-nil, append_assoc, inl, inr}
use Rattle.std.specs.declared.option.Option.{Option}
use Rattle.std.specs.declared.option.Option.TheVariants.{None, Some}
use Rattle.crl_model.specs.declared.directory.Section.{Section}
use Rattle.crl_model.specs.declared.directory.Section.TheVariants.{Closed, Reading, Writing}
use Rattle.crl_model.specs.declared.directory.Mark.{Mark}
use Rattle.crl_model.specs.declared.directory.Mark.TheVariants.{Plain, Recalled, Yielding}
use Rattle.crl_model.specs.declared.directory.Listing.{Listing}
use Rattle.crl_model.specs.declared.directory.Asked.{Asked}
use Rattle.crl_protocol.specs.Places.{at, find_all}
use Rattle.crl_protocol.specs.Mail.{Letter}
use Rattle.crl_protocol.specs.Home.{Home, HomeStep, blocks, is_servable, lets_open, is_to_mark, is_plain, mark_for, with_marks, recalls_and_yields, open_own, grant_next, grant_for, posts_first, opens_own_section, serve}
use Rattle.crl_protocol.specs.Remote.{Remote}
use Rattle.crl_protocol.specs.Sections.{is_writing}
use Rattle.crl_coherence.specs.Region.{Flying, sent}
use Rattle.crl_coherence.specs.Pairs.{PairHolds, pair_of, queued_of, Owns}
use Rattle.crl_coherence.specs.Coherent.{IsLoose, HeadWaits, HeadBlocks, OwnAsk, MayOpen}
use Rattle.crl_coherence.proofs.Mails.{mails, kept_to, kept_from, kept_at, mails-append}
use Rattle.crl_coherence.proofs.Calls.{at-marked, clear-marked, mails-calls}
use Rattle.crl_coherence.proofs.Pairs.{mark}
use Rattle.crl_coherence.proofs.Serve.{called_at, first_here, first_other, grant_loose, open_loose}
use Rattle.crl_coherence.proofs.Opens.{open_at, own_opens, own_bytes}
use Rattle.crl_coherence.proofs.Owned.{has_calls}

-- a listing that was called or not
abbrev pub marked_if : Bool → Mark → Listing → Listing
marked_if b m l = if b then record l { mark = m } else l

same_kind : (b : Bool) (m : Mark) (l : Listing) → (marked_if b m l).exclusive ≡ l.exclusive
same_kind true m l = refl
same_kind false m l = refl

same_version : (b : Bool) (m : Mark) (l : Listing) → (marked_if b m l).version ≡ l.version
same_version true m l = refl
same_version false m l = refl

same_blocks : (b : Bool) (m : Mark) (n : ℕ) (l : Listing) (a : Asked) → blocks n (marked_if b m l) a ≡ blocks n l a
same_blocks true m n l a = refl
same_blocks false m n l a = refl

mark_plain : (a : Asked) → mark_for a ≢ Plain
mark_plain a = go a.write
  where
    go : (w : Bool) → (if w then Recalled else Yielding) ≢ Plain
    go true e = cc
    go false e = cc

-- who is called: a plain copy of another node that is in the way
all_three : (b c d : Bool) → b && (not c && d) ≡ true → (b ≡ true) × (c ≡ false) × (d ≡ true)
all_three true false true e = (refl, refl, refl)
all_three true false false e = cc
all_three true true d e = cc
all_three false c d e = cc

called_parts : (n : ℕ) (l : Listing) (a : Asked) → is_to_mark n l a ≡ true → (blocks n l a ≡ true) × (a.node ≢ n)
called_parts n l a e = let u = all_three (blocks n l a) (n == a.node) (is_plain l.mark) e in let v = u.1 in (u.0, (grind arith))

plain_called : (n : ℕ) (l : Listing) (a : Asked) → blocks n l a ≡ true → n ≢ a.node → l.mark ≡ Plain → is_to_mark n l a ≡ true
plain_called n l a e other p = let f : (n == a.node) ≡ false = grind arith in rw (e, f, p) refl

abbrev pub stopped : Home → Asked → List Asked → Home
stopped h a q = record h { listed = with_marks 0 h.listed a; queue = a ∷ q }

-- The round in which the head can't be served.
module _ (me : ℕ) (array : List ℕ) (h : Home) (a : Asked) (q : List Asked) (remotes : ℕ → Remote) (flight : List Flying)
    (k : IsLoose me array h (a ∷ q) remotes flight) (s : is_servable h a ≡ false)
  where
    stopped_pair : (n : ℕ) → n ≢ me → PairHolds h.last array (pair_of (with_marks 0 h.listed a) (a ∷ q) remotes (flight ++ sent (recalls_and_yields 0 h.listed a)) n)
    stopped_pair n other =
        kept_from h.last array (with_marks 0 h.listed a) (a ∷ q) remotes (flight ++ sent (recalls_and_yields 0 h.listed a)) n
        (kept_at h.last n array (sym (at-marked n h.listed a)) refl (ap (λ l. mails n flight ++ l) (sym (mails-calls n h.listed a)) ∙ sym (mails-append n flight (sent (recalls_and_yields 0 h.listed a)))) refl
        (called_at h.last n array a (at n h.listed) (find_all (queued_of n) (a ∷ q)) (mails n flight) (remotes n) (kept_to h.last array h.listed (a ∷ q) remotes flight n (k.pairs n other))))

    -- what is listed, with the mark that it now has
    listed_before : (n : ℕ) (l : Listing) → at n (with_marks 0 h.listed a) ≡ Some l → (old : Listing) × (at n h.listed ≡ Some old) × (l ≡ marked_if (is_to_mark n old a) (mark_for a) old)
    listed_before n l e = go (at n h.listed) refl
      where
        go : (o : Option Listing) → at n h.listed ≡ o → (old : Listing) × (at n h.listed ≡ Some old) × (l ≡ marked_if (is_to_mark n old a) (mark_for a) old)
        go None f = let u : mark n (at n h.listed) a ≡ None = ap (λ o. mark n o a) f in let w : Some l ≡ None = sym e ∙ at-marked n h.listed a ∙ u in cc
        go (Some old) f = let u : mark n (at n h.listed) a ≡ mark n (Some old) a = ap (λ o. mark n o a) f in
            let w : Some l ≡ Some (marked_if (is_to_mark n old a) (mark_for a) old) = sym e ∙ at-marked n h.listed a ∙ u in (old, f, cc)

    version_before : (n : ℕ) (old l : Listing) → l ≡ marked_if (is_to_mark n old a) (mark_for a) old → old.version ≡ l.version
    version_before n old l e = sym (ap (λ x. x.version) e ∙ same_version (is_to_mark n old a) (mark_for a) old)

    blocks_head : (n : ℕ) (old : Listing) → at n h.listed ≡ Some old → (b : Bool) → is_to_mark n old a ≡ b → (marked_if b (mark_for a) old).mark ≢ Plain → HeadBlocks n (marked_if b (mark_for a) old) (a ∷ q)
    blocks_head n old e true f r = let c = called_parts n old a f in (c.0, c.1, refl)
    blocks_head n old e false f r = k.recalled n old e r

    waits_marked : (n : ℕ) (old : Listing) (b : Bool) → is_to_mark n old a ≡ b → blocks n old a ≡ true → n ≢ a.node → (marked_if b (mark_for a) old).mark ≢ Plain
    waits_marked n old true f e other = mark_plain a
    waits_marked n old false f e other = λ p. let c = plain_called n old a e other p in cc

    owned_before : (v n : ℕ) → Owns v (pair_of (with_marks 0 h.listed a) (a ∷ q) remotes (flight ++ sent (recalls_and_yields 0 h.listed a)) n) → Owns v (pair_of h.listed (a ∷ q) remotes flight n)
    owned_before v n (inl (l, e, f)) = let u = listed_before n l e in inl (u.0, u.1, version_before n u.0 l u.2 ∙ f)
    owned_before v n (inr i) = inr (has_calls v n flight h.listed a i)

    pub stopped_loose : IsLoose me array (stopped h a q) (a ∷ q) remotes (flight ++ sent (recalls_and_yields 0 h.listed a))
    stopped_loose =
        record {
          pairs = stopped_pair;
          own = at-marked me h.listed a ∙ ap (λ o. mark me o a) k.own;
          own_ask = k.own_ask;
          alone = λ n m l j e x f. let u = listed_before n l e in let v = listed_before m j f in
              k.alone n m u.0 v.0 u.1 (sym (same_kind (is_to_mark n u.0 a) (mark_for a) u.0) ∙ sym (ap (λ y. y.exclusive) u.2) ∙ x) v.1;
          distinct = λ v n m other more x y. k.distinct v n m other more (owned_before v n x) (owned_before v m y);
          mine = λ n l e. let u = listed_before n l e in rw (ap (λ y. y.exclusive) u.2 ∙ same_kind (is_to_mark n u.0 a) (mark_for a) u.0) (k.mine n u.0 u.1);
          bytes = λ b. k.bytes (λ n l e. sym (same_kind (is_to_mark n l a) (mark_for a) l) ∙ b n (marked_if (is_to_mark n l a) (mark_for a) l) (at-marked n h.listed a ∙ ap (λ o. mark n o a) e));
          recalled = λ n l e r. let u = listed_before n l e in
              subst (λ x. HeadBlocks n x (a ∷ q)) (sym u.2) (blocks_head n u.0 u.1 (is_to_mark n u.0 a) refl (subst (λ x. x.mark ≢ Plain) u.2 r));
          size = k.size;
        }

    pub stopped_waits : HeadWaits (stopped h a q) (a ∷ q)
    stopped_waits = (
      ap (λ b. lets_open h.mine a.write && b) (clear-marked h.listed a a) ∙ s,
      λ n l e b other. let u = listed_before n l e in
          subst (λ x. x.mark ≢ Plain) (sym u.2) (waits_marked n u.0 (is_to_mark n u.0 a) refl (sym (same_blocks (is_to_mark n u.0 a) (mark_for a) n u.0 a) ∙ (ap (λ x. blocks n x a) (sym u.2) ∙ b)) other),
    )

-- the queue that the table itself has doesn't matter
requeue : (me : ℕ) (array : List ℕ) (h : Home) (q p : List Asked) (remotes : ℕ → Remote) (flight : List Flying) → IsLoose me array h q remotes flight → IsLoose me array (record h { queue = p }) q remotes flight
requeue me array h q p remotes flight k = record { pairs = k.pairs; own = k.own; own_ask = k.own_ask; alone = k.alone; distinct = k.distinct; mine = k.mine; bytes = k.bytes; recalled = k.recalled; size = k.size }

abbrev pub IsServed : ℕ → List ℕ → (ℕ → Remote) → List Flying → HomeStep → Type 0
IsServed me array remotes flight s = IsLoose me array s.home s.home.queue remotes (flight ++ sent s.posts) × HeadWaits s.home s.home.queue

after_grant : (me : ℕ) (array : List ℕ) (remotes : ℕ → Remote) (flight : List Flying) (m : Letter) (s : HomeStep) → IsServed me array remotes (flight ++ sent (m ∷ [])) s → IsServed me array remotes flight (posts_first m s)
after_grant me array remotes flight m s u = (subst (λ l. IsLoose me array s.home s.home.queue remotes l) (append_assoc flight (sent (m ∷ [])) (sent s.posts)) u.0, u.1)

pub serve_kept : (me : ℕ) (array : List ℕ) (h : Home) (q : List Asked) (remotes : ℕ → Remote) (flight : List Flying) → IsLoose me array h q remotes flight → IsServed me array remotes flight (serve me h q)
serve_kept me array h [] remotes flight k = (subst (λ l. IsLoose me array (record h { queue = [] }) [] remotes l) (sym (append-nil flight)) (requeue me array h [] [] remotes flight k), tt)
serve_kept me array h (a ∷ q) remotes flight k =
    go (is_servable h a) refl (a.node == me) refl (λ e i. serve_kept me array (open_own h a) q remotes flight (open_loose me array h a q remotes flight k e i))
    (λ e i. serve_kept me array (grant_next h a) q remotes (flight ++ sent (grant_for h a ∷ [])) (grant_loose me array h a q remotes flight k e i))
  where
    go : (b : Bool) → is_servable h a ≡ b → (c : Bool) → (a.node == me) ≡ c
        → ((is_servable h a ≡ true) → (a.node ≡ me) → IsServed me array remotes flight (serve me (open_own h a) q))
        → ((is_servable h a ≡ true) → (a.node ≢ me) → IsServed me array remotes (flight ++ sent (grant_for h a ∷ [])) (serve me (grant_next h a) q))
        → IsServed me array remotes flight (if b then (if c then opens_own_section (serve me (open_own h a) q) else posts_first (grant_for h a) (serve me (grant_next h a) q))
        else record { home = stopped h a q; posts = recalls_and_yields 0 h.listed a; opened = false })
    go true e true f own other = own e (grind arith)
    go true e false f own other = after_grant me array remotes flight (grant_for h a) (serve me (grant_next h a) q) (other e (grind arith))
    go false e c f own other = (stopped_loose me array h a q remotes flight k e, stopped_waits me array h a q remotes flight k e)

-- Serve changes no bytes, and the home's own sections only for its own ask.
pub serve_bytes : (me : ℕ) (h : Home) (q : List Asked) → (serve me h q).home.bytes ≡ h.bytes
serve_bytes me h [] = refl
serve_bytes me h (a ∷ q) = go (is_servable h a) (a.node == me) (serve_bytes me (open_own h a) q) (serve_bytes me (grant_next h a) q)
  where
    go : (b c : Bool) → (serve me (open_own h a) q).home.bytes ≡ h.bytes → (serve me (grant_next h a) q).home.bytes ≡ h.bytes
        → (if b then (if c then opens_own_section (serve me (open_own h a) q) else posts_first (grant_for h a) (serve me (grant_next h a) q))
        else record { home = stopped h a q; posts = recalls_and_yields 0 h.listed a; opened = false }).home.bytes ≡ h.bytes
    go true true own other = own
    go true false own other = other
    go false c own other = refl

pub serve_mine : (me : ℕ) (h : Home) (q : List Asked) → find_all (queued_of me) q ≡ [] → (serve me h q).home.mine ≡ h.mine
serve_mine me h [] e = refl
serve_mine me h (a ∷ q) e = go (is_servable h a) (a.node == me) refl (λ f. serve_mine me (grant_next h a) q (sym (first_other me a q f) ∙ e))
  where
    not_own : a.node ≡ me → ⊥
    not_own f = let x : a ∷ find_all (queued_of me) q ≡ [] = sym (first_here me a q f) ∙ e in cc

    go : (b c : Bool) → (a.node == me) ≡ c → (a.node ≢ me → (serve me (grant_next h a) q).home.mine ≡ h.mine)
        → (if b then (if c then opens_own_section (serve me (open_own h a) q) else posts_first (grant_for h a) (serve me (grant_next h a) q))
        else record { home = stopped h a q; posts = recalls_and_yields 0 h.listed a; opened = false }).home.mine ≡ h.mine
    go true true f other = absurd (not_own (grind arith))
    go true false f other = other (grind arith)
    go false c f other = refl

-- Where it opens the home's section, it may.
abbrev pub ServeOpens : ℕ → List ℕ → Section → (ℕ → Remote) → HomeStep → Type 0
ServeOpens me array mine remotes s = (mine ≡ Closed) × MayOpen (is_writing s.home.mine) (open_at me mine remotes) × (s.home.bytes ≡ array)

own_after : (me : ℕ) (s : Section) (a : Asked) (q : List Asked) → a.node ≡ me → OwnAsk s (find_all (queued_of me) (a ∷ q)) → (s ≡ Closed) × (find_all (queued_of me) q ≡ [])
own_after me s a q e o = go (find_all (queued_of me) q) (subst (λ l. OwnAsk s l) (first_here me a q e) o)
  where
    go : (xs : List Asked) → OwnAsk s (a ∷ xs) → (s ≡ Closed) × (xs ≡ [])
    go [] r = (r, refl)
    go (x ∷ xs) r = elim r [ ]

writes_own : (w : Bool) → is_writing (if w then Writing else Reading 1) ≡ w
writes_own true = refl
writes_own false = refl

pub serve_opens : (me : ℕ) (array : List ℕ) (h : Home) (q : List Asked) (remotes : ℕ → Remote) (flight : List Flying) → IsLoose me array h q remotes flight
    → (serve me h q).opened ≡ true → ServeOpens me array h.mine remotes (serve me h q)
serve_opens me array h [] remotes flight k o = cc
serve_opens me array h (a ∷ q) remotes flight k o =
    go (is_servable h a) refl (a.node == me) refl o
    (λ e i f. serve_opens me array (grant_next h a) q remotes (flight ++ sent (grant_for h a ∷ [])) (grant_loose me array h a q remotes flight k e i) f)
  where
    opened_own : is_servable h a ≡ true → a.node ≡ me → ServeOpens me array h.mine remotes (opens_own_section (serve me (open_own h a) q))
    opened_own e i = let u = own_after me h.mine a q i k.own_ask in (
      u.0,
      subst (λ w. MayOpen w (open_at me h.mine remotes)) (sym (ap is_writing (serve_mine me (open_own h a) q u.1) ∙ writes_own a.write)) (own_opens me array h (a ∷ q) remotes flight k a i e),
      serve_bytes me (open_own h a) q ∙ own_bytes me array h (a ∷ q) remotes flight k a i e,
    )

    go : (b : Bool) → is_servable h a ≡ b → (c : Bool) → (a.node == me) ≡ c
        → (if b then (if c then opens_own_section (serve me (open_own h a) q) else posts_first (grant_for h a) (serve me (grant_next h a) q))
        else record { home = stopped h a q; posts = recalls_and_yields 0 h.listed a; opened = false }).opened ≡ true
        → ((is_servable h a ≡ true) → (a.node ≢ me) → (serve me (grant_next h a) q).opened ≡ true → ServeOpens me array h.mine remotes (serve me (grant_next h a) q))
        → ServeOpens me array h.mine remotes (if b then (if c then opens_own_section (serve me (open_own h a) q) else posts_first (grant_for h a) (serve me (grant_next h a) q))
        else record { home = stopped h a q; posts = recalls_and_yields 0 h.listed a; opened = false })
    go true e true f g other = opened_own e (grind arith)
    go true e false f g other = other e (grind arith) g
    go false e c f g other = cc
