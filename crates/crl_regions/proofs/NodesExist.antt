-- The home lists and queues other nodes of the world, and writes to them only.
use Rattle.std.proofs.Common.{◌≡◌, inl, inr, ℕ, zero, suc, ◌+◌, ◌<◌, ◌==◌, Bool, true, false, not, ◌&&◌, None, Some, Option, List, [], ◌∷◌, ◌++◌, replicate, if◌then◌else◌, refl, sym, ◌∙◌, subst, arith}
use Rattle.std.specs.List.{AllByRecursion}
use Rattle.std.proofs.lemmas.Bool.{cond_both}
use Rattle.crl_model.specs.declared.directory.Asked.{Asked}
use Rattle.crl_model.specs.declared.directory.Listing.{Listing}
use Rattle.crl_protocol.specs.Places.{at, put}
use Rattle.crl_protocol.specs.Mail.{Mail, Grant, Recall, Yield, Letter}
use Rattle.crl_protocol.specs.Home.{Home, HomeStep, new_home, is_servable, is_to_mark, recalls_and_yields, open_own, grant_next, grant_for, opens_own_section, posts_first, serve, with_marks, home_takes_ask, home_takes_return, is_to_lower, shared_listing, home_takes_release, own_ask, is_empty, is_reading, home_starts, home_ends_read, home_ends_write}
use Rattle.crl_coherence.proofs.Laws.{at-put_same, at-put_other, same_or}
use Rattle.crl_deeds.proofs.Laws.{all_append}

-- a node of the world other than the home
abbrev pub IsOther : ℕ → ℕ → ℕ → Type 0
IsOther me count n = (n < count) × ((n == me) ≡ false)

abbrev pub OfHome : Mail → Type 0
OfHome (Grant version granted) = Unit {0}
OfHome (Recall version) = Unit {0}
OfHome (Yield version) = Unit {0}
OfHome _ = ⊥

abbrev pub ToOther : ℕ → ℕ → Letter → Type 0
ToOther me count l = OfHome l.mail × IsOther me count l.to

abbrev pub Listed : ℕ → ℕ → List (Option Listing) → Type 0
Listed me count listed = (n : ℕ) (l : Listing) → at n listed ≡ Some l → IsOther me count n

abbrev pub Queued : ℕ → List Asked → Type 0
Queued count queue = AllByRecursion (λ (a : Asked). a.node < count) queue

pub record NodesExist (me count : ℕ) (h : Home) : Type 0 where
  pub listed : Listed me count h.listed
  pub queue : Queued count h.queue

pub record NodesExistAfter (me count : ℕ) (s : HomeStep) : Type 0 where
  pub near : NodesExist me count s.home
  pub posts : AllByRecursion (ToOther me count) s.posts

-- the copies that are called, and their marks
calls_near : (me count m : ℕ) (listed : List (Option Listing)) (ask : Asked) → ((n : ℕ) (l : Listing) → at n listed ≡ Some l → IsOther me count (m + n)) → AllByRecursion (ToOther me count) (recalls_and_yields m listed ask)
calls_near me count m [] ask h = tt
calls_near me count m (None ∷ listed) ask h = calls_near me count (m + 1) listed ask (λ n l e. subst (λ k. IsOther me count k) (omega arith) (h (suc n) l e))
calls_near me count m (Some copy ∷ listed) ask h =
    let others = calls_near me count (m + 1) listed ask (λ n l e. subst (λ k. IsOther me count k) (omega arith) (h (suc n) l e)) in
    let first : IsOther me count m = subst (λ k. IsOther me count k) (omega arith) (h 0 copy refl) in
    cond_both (is_to_mark m copy ask) _ _ (AllByRecursion (ToOther me count)) (λ w. ((call_mail ask.write, first), others)) (λ w. others)
  where
    call_mail : (b : Bool) → OfHome (if b then Recall copy.version else Yield copy.version)
    call_mail true = tt
    call_mail false = tt

was_listed : (m : ℕ) (listed : List (Option Listing)) (ask : Asked) (n : ℕ) (l : Listing) → at n (with_marks m listed ask) ≡ Some l → (k : Listing) × (at n listed ≡ Some k)
was_listed m [] ask n l e = cc
was_listed m (None ∷ listed) ask zero l e = cc
was_listed m (None ∷ listed) ask (suc n) l e = was_listed (m + 1) listed ask n l e
was_listed m (Some copy ∷ listed) ask zero l e = (copy, refl)
was_listed m (Some copy ∷ listed) ask (suc n) l e = was_listed (m + 1) listed ask n l e

put_near : (me count n : ℕ) (copy : Listing) (listed : List (Option Listing)) → IsOther me count n → Listed me count listed → Listed me count (put n (Some copy) listed)
put_near me count n copy listed other h m l e = elim (same_or m n) [
  | inl same ↦ subst (λ k. IsOther me count k) (sym same) other
  | inr ne ↦ h m l (sym (at-put_other m n (Some copy) listed ne) ∙ e)
]

gone_near : (me count n : ℕ) (listed : List (Option Listing)) → Listed me count listed → Listed me count (put n None listed)
gone_near me count n listed h m l e = elim (same_or m n) [
  | inl same ↦ absurd (let w : at m (put n None listed) ≡ None = subst (λ k. at k (put n None listed) ≡ None) (sym same) (at-put_same n None listed) in cc)
  | inr ne ↦ h m l (sym (at-put_other m n None listed ne) ∙ e)
]

-- Serve
near_next : (me count : ℕ) (h : Home) (ask : Asked) (opened granted blocked : HomeStep) (b c : Bool) → (ask.node == me) ≡ c → ask.node < count → NodesExistAfter me count opened
    → (c ≡ false → NodesExistAfter me count granted) → NodesExistAfter me count blocked
    → NodesExistAfter me count (if b then (if c then opens_own_section opened else posts_first (grant_for h ask) granted) else blocked)
near_next me count h ask o g blocked true true e f a k w = record { near = a.near; posts = a.posts }
near_next me count h ask o g blocked true false e f a k w = let n = k refl in record { near = n.near; posts = ((tt, (f, e)), n.posts) }
near_next me count h ask o g blocked false c e f a k w = w

pub near_serve : (me count : ℕ) (h : Home) (queue : List Asked) → Listed me count h.listed → Queued count queue → NodesExistAfter me count (serve me h queue)
near_serve me count h [] listed q = record { near = record { listed = listed; queue = tt }; posts = tt }
near_serve me count h (ask ∷ queue) listed q =
    near_next me count h ask (serve me (open_own h ask) queue) (serve me (grant_next h ask) queue) _ (is_servable h ask) (ask.node == me) refl q.0
    (near_serve me count (open_own h ask) queue listed q.1)
    (granted q.1 (near_serve me count (grant_next h ask) queue))
    (record { near = record { listed = λ n l e. let w = was_listed 0 h.listed ask n l e in listed n w.0 w.1; queue = q }; posts = calls_near me count 0 h.listed ask (λ n l e. let same : n ≡ 0 + n = omega arith in subst (λ k. IsOther me count k) same (listed n l e)) })
  where
    granted : Queued count queue → (Listed me count (grant_next h ask).listed → Queued count queue → NodesExistAfter me count (serve me (grant_next h ask) queue)) → (ask.node == me) ≡ false
        → NodesExistAfter me count (serve me (grant_next h ask) queue)
    granted rest go other = go (put_near me count ask.node _ h.listed (q.0, other) listed) rest

pub near_asked : (me count : ℕ) (ask : Asked) (h : Home) → ask.node < count → NodesExist me count h → NodesExistAfter me count (home_takes_ask me ask h)
unfolding home_takes_ask
near_asked me count ask h few n = near_serve me count h (h.queue ++ ask ∷ []) n.listed (all_append (λ (a : Asked). a.node < count) h.queue (ask ∷ []) n.queue (few, tt))

pub near_returned : (me count k : ℕ) (bytes : Option (List ℕ)) (h : Home) → NodesExist me count h → NodesExistAfter me count (home_takes_return me k bytes h)
unfolding home_takes_return
near_returned me count k bytes h n = near_serve me count _ h.queue (gone_near me count k h.listed n.listed) n.queue

lowered_near : (me count k version : ℕ) (bytes : List ℕ) (h : Home) (o : Option Listing) → at k h.listed ≡ o → is_to_lower version o ≡ true → NodesExist me count h → Listed me count (put k (Some (shared_listing version)) h.listed)
lowered_near me count k version bytes h None e w n = cc
lowered_near me count k version bytes h (Some l) e w n = put_near me count k (shared_listing version) h.listed (n.listed k l e) n.listed

pub near_released : (me count k version : ℕ) (bytes : List ℕ) (h : Home) → NodesExist me count h → NodesExistAfter me count (home_takes_release me k version bytes h)
unfolding home_takes_release
near_released me count k version bytes h n =
    cond_both (is_to_lower version (at k h.listed)) _ _ (NodesExistAfter me count)
    (λ w. near_serve me count _ h.queue (lowered_near me count k version bytes h (at k h.listed) refl w n) n.queue) (λ w. record { near = n; posts = tt })

pub near_starts : (me count : ℕ) (write : Bool) (h : Home) → me < count → NodesExist me count h → NodesExistAfter me count (home_starts me write h)
unfolding home_starts
near_starts me count write h few n =
    cond_both (not write && is_reading h.mine) _ _ (NodesExistAfter me count) (λ w. record { near = record { listed = n.listed; queue = n.queue }; posts = tt })
    (λ w. cond_both (is_empty h.queue && is_servable h (own_ask me write)) _ _ (NodesExistAfter me count) (λ v. record { near = record { listed = n.listed; queue = n.queue }; posts = tt })
    (λ v. near_serve me count h (h.queue ++ own_ask me write ∷ []) n.listed (all_append (λ (a : Asked). a.node < count) h.queue (own_ask me write ∷ []) n.queue (few, tt))))

pub near_read : (me count : ℕ) (h : Home) → NodesExist me count h → NodesExistAfter me count (home_ends_read me h)
unfolding home_ends_read
near_read me count h n = near_serve me count _ h.queue n.listed n.queue

pub near_write : (me count : ℕ) (bytes : List ℕ) (h : Home) → NodesExist me count h → NodesExistAfter me count (home_ends_write me bytes h)
unfolding home_ends_write
near_write me count bytes h n = near_serve me count _ h.queue n.listed n.queue

none_at : (n k : ℕ) (l : Listing) → at n (replicate {A = Option Listing} k None) ≡ Some l → ⊥
none_at n zero l e = cc
none_at zero (suc k) l e = cc
none_at (suc n) (suc k) l e = none_at n k l e

pub near_new : (me count nodes size : ℕ) → NodesExist me count (new_home nodes size)
near_new me count nodes size = record { listed = λ n l e. absurd (none_at n nodes l e); queue = tt }
