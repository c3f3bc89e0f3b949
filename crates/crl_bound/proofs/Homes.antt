-- What a region's table may make its home send: Serve's credit is the work.
use Rattle.std.proofs.Common.{◌≡◌, ℕ, zero, suc, ◌+◌, ◌≤◌, ◌==◌, Bool, true, false, ◌&&◌, not, None, Some, Option, List, [], ◌∷◌, ◌++◌, length, replicate, if◌then◌else◌, refl, ap, sym, ◌∙◌, arith}
use Rattle.std.proofs.lemmas.Bool.{cond_both, and_parts, eqb-true, cond-true, cond-false}
use Rattle.crl_model.specs.declared.directory.Section.{Section}
use Rattle.crl_model.specs.declared.directory.Mark.TheVariants.{Plain, Recalled, Yielding}
use Rattle.crl_model.specs.declared.directory.Listing.{Listing}
use Rattle.crl_model.specs.declared.directory.Asked.{Asked}
use Rattle.crl_pieces.specs.Pieces.{count}
use Rattle.crl_protocol.specs.Places.{at, put}
use Rattle.crl_protocol.specs.Mail.{Letter}
use Rattle.crl_protocol.specs.Home.{Home, HomeStep, new_home, blocks, is_servable, is_plain, mark_for, recall_or_yield, is_to_mark, with_marks, recalls_and_yields, grant_to, open_own, grant_next, grant_for, posts_first, opens_own_section, serve, home_takes_ask, home_takes_return, home_takes_release, bytes_after, bytes_fit, return_fits, is_to_lower, shared_listing, release_fits, own_ask, is_empty, is_reading, one_section_more, home_starts, home_ends_read, home_ends_write}
use Rattle.crl_bound.proofs.Costs.{count_some, grant_pieces, mail_cost, letters_cost}

-- how often a listed copy may still be called, and what an ask of another node that waits may make the home send
abbrev pub one_if : Bool → ℕ
one_if b = if b then 1 else 0

abbrev pub listing_credit : Option Listing → ℕ
listing_credit None = 0
listing_credit (Some copy) = one_if copy.exclusive + one_if (is_plain copy.mark)

abbrev pub listed_credit : List (Option Listing) → ℕ
listed_credit [] = 0
listed_credit (o ∷ listed) = listing_credit o + listed_credit listed

abbrev pub asked_credit : ℕ → ℕ → Asked → ℕ
asked_credit p me ask = if ask.node == me then 0 else 2 + p

abbrev pub queue_credit : ℕ → ℕ → List Asked → ℕ
queue_credit p me [] = 0
queue_credit p me (ask ∷ queue) = asked_credit p me ask + queue_credit p me queue

abbrev pub table_credit : ℕ → ℕ → Option Home → ℕ
table_credit p me None = 0
table_credit p me (Some h) = listed_credit h.listed + queue_credit p me h.queue

queue_append : (p me : ℕ) (xs ys : List Asked) → queue_credit p me (xs ++ ys) ≡ queue_credit p me xs + queue_credit p me ys
queue_append p me [] ys = omega arith
queue_append p me (x ∷ xs) ys = let h = queue_append p me xs ys in omega arith

-- a listing is put
listed_put : (k : ℕ) (o : Option Listing) (listed : List (Option Listing)) → listed_credit (put k o listed) + listing_credit (at k listed) ≡ listed_credit listed + listing_credit o
listed_put zero o [] = omega arith
listed_put (suc k) o [] = let h = listed_put k o [] in let e : listing_credit (at k []) ≡ 0 = none k in omega arith
  where
    none : (k : ℕ) → listing_credit (at k []) ≡ 0
    none k = refl
listed_put zero o (x ∷ xs) = omega arith
listed_put (suc k) o (x ∷ xs) = let h = listed_put k o xs in omega arith

-- the copies that are called
marks_cost : (p m : ℕ) (listed : List (Option Listing)) (ask : Asked) → listed_credit (with_marks m listed ask) + letters_cost p (recalls_and_yields m listed ask) ≤ listed_credit listed
marks_cost p m [] ask = omega arith
marks_cost p m (None ∷ listed) ask = let h = marks_cost p (m + 1) listed ask in omega arith
marks_cost p m (Some copy ∷ listed) ask = go (is_to_mark m copy ask) refl (marks_cost p (m + 1) listed ask)
  where
    letter : (write : Bool) → mail_cost p (if write then Rattle.crl_protocol.specs.Mail.Recall copy.version else Rattle.crl_protocol.specs.Mail.Yield copy.version) ≡ 1
    letter true = refl
    letter false = refl

    marked : (write : Bool) → one_if (is_plain (if write then Recalled else Yielding)) ≡ 0
    marked true = refl
    marked false = refl

    go : (b : Bool) → is_to_mark m copy ask ≡ b → listed_credit (with_marks (m + 1) listed ask) + letters_cost p (recalls_and_yields (m + 1) listed ask) ≤ listed_credit listed
        → (listing_credit (Some (if b then record copy { mark = mark_for ask } else copy)) + listed_credit (with_marks (m + 1) listed ask))
        + letters_cost p (if b then recall_or_yield ask copy.version m ∷ recalls_and_yields (m + 1) listed ask else recalls_and_yields (m + 1) listed ask) ≤ listing_credit (Some copy) + listed_credit listed
    go true e h =
        let plain : is_plain copy.mark ≡ true = (and_parts _ _ (and_parts _ _ e).1).1 in
        let one : one_if (is_plain copy.mark) ≡ 1 = cond-true (is_plain copy.mark) 1 0 plain in
        let none = marked ask.write in
        let sent = letter ask.write in omega arith
    go false e h = omega arith

-- Serve, over a queue.
pub record Served (p me : ℕ) (h : Home) (queue : List Asked) (s : HomeStep) : Type 0 where
  pub size : s.home.size ≡ h.size
  pub credit : table_credit p me (Some s.home) + letters_cost p s.posts ≤ listed_credit h.listed + queue_credit p me queue

granted_cost : (p : ℕ) (own : Option Listing) (write : Bool) (bytes : List ℕ) → count (length bytes) ≡ p → grant_pieces (if write then elim own [ None ↦ Rattle.crl_model.specs.declared.message.Granted.TheVariants.Exclusive bytes | Some copy ↦ Rattle.crl_model.specs.declared.message.Granted.TheVariants.Upgrade ] else Rattle.crl_model.specs.declared.message.Granted.TheVariants.Shared bytes) ≤ p
granted_cost p None true bytes e = omega arith
granted_cost p (Some copy) true bytes e = let s = count_some (length bytes) in omega arith
granted_cost p own false bytes e = omega arith

serves : (p me : ℕ) (h : Home) (queue : List Asked) → count (length h.bytes) ≡ p → Served p me h queue (serve me h queue)
serves p me h [] e = record { size = refl; credit = omega arith }
serves p me h (ask ∷ queue) e = go (is_servable h ask) (ask.node == me) refl (serves p me (open_own h ask) queue e) (serves p me (grant_next h ask) queue e)
  where
    go : (servable own : Bool) → (ask.node == me) ≡ own → Served p me (open_own h ask) queue (serve me (open_own h ask) queue) → Served p me (grant_next h ask) queue (serve me (grant_next h ask) queue)
        → Served p me h (ask ∷ queue) (if servable then (if own then opens_own_section (serve me (open_own h ask) queue) else posts_first (grant_for h ask) (serve me (grant_next h ask) queue))
        else record { home = record h { listed = with_marks 0 h.listed ask; queue = ask ∷ queue }; posts = recalls_and_yields 0 h.listed ask; opened = false })
    go true true w x y = record { size = x.size; credit = let c = x.credit in omega arith }
    go true false w x y = record {
      size = y.size;
      credit = (let c = y.credit in
          let put = listed_put ask.node (Some (record { exclusive = ask.write; version = h.last + 1; mark = Plain })) h.listed in
          let sent = granted_cost p (at ask.node h.listed) ask.write h.bytes e in
          let paid : asked_credit p me ask ≡ 2 + p = cond-false (ask.node == me) _ _ w in
          let most = at_most ask.write in omega arith);
    }
      where
        at_most : (b : Bool) → one_if b ≤ 1
        at_most true = omega arith
        at_most false = omega arith
    go false own w x y = record { size = refl; credit = let m = marks_cost p 0 h.listed ask in omega arith }

-- The events of a home: what they leave and send is at most what was there and came.
pub record HomeCredit (p me : ℕ) (h : Home) (s : HomeStep) (came : ℕ) : Type 0 where
  pub size : s.home.size ≡ h.size
  pub credit : table_credit p me (Some s.home) + letters_cost p s.posts ≤ table_credit p me (Some h) + came

pub asked_credits : (p me : ℕ) (ask : Asked) (h : Home) → count (length h.bytes) ≡ p → HomeCredit p me h (home_takes_ask me ask h) (2 + p)
unfolding home_takes_ask
asked_credits p me ask h e =
    let s = serves p me h (h.queue ++ ask ∷ []) e in
    let q = queue_append p me h.queue (ask ∷ []) in
    let few : asked_credit p me ask ≤ 2 + p = cond_both (ask.node == me) _ _ (λ x. x ≤ 2 + p) (λ w. omega arith) (λ w. omega arith) in record { size = s.size; credit = let c = s.credit in omega arith }

returned_bytes : (size p : ℕ) (bytes : Option (List ℕ)) (old : List ℕ) (copy : Option Listing) → count (length old) ≡ p → p ≡ count size → bytes_fit bytes copy size ≡ true → count (length (bytes_after bytes old)) ≡ p
returned_bytes size p None old copy e f w = e
returned_bytes size p (Some bytes) old copy e f w = ap count (eqb-true (length bytes) size w) ∙ sym f

pub returned_credits : (p me n version : ℕ) (bytes : Option (List ℕ)) (h : Home) → count (length h.bytes) ≡ p → p ≡ count h.size → return_fits n version bytes h ≡ true → HomeCredit p me h (home_takes_return me n bytes h) 0
unfolding home_takes_return
returned_credits p me n version bytes h e f fits =
    let s = serves p me (record h { bytes = bytes_after bytes h.bytes; listed = put n None h.listed }) h.queue (returned_bytes h.size p bytes h.bytes (at n h.listed) e f (and_parts _ _ fits).1) in
    let put_none = listed_put n None h.listed in record { size = s.size; credit = let c = s.credit in omega arith }

lowered_some : (version : ℕ) (o : Option Listing) → is_to_lower version o ≡ true → 1 ≤ listing_credit o
lowered_some version None w = cc
lowered_some version (Some copy) w = let one : one_if copy.exclusive ≡ 1 = cond-true copy.exclusive 1 0 (and_parts copy.exclusive (copy.version == version) w).0 in omega arith

pub released_credits : (p me n version : ℕ) (bytes : List ℕ) (h : Home) → p ≡ count h.size → release_fits bytes h ≡ true → HomeCredit p me h (home_takes_release me n version bytes h) 0
unfolding home_takes_release
released_credits p me n version bytes h f fits =
    cond_both (is_to_lower version (at n h.listed)) _ _ (λ s. HomeCredit p me h s 0)
    (λ w. let s = serves p me (record h { bytes = bytes; listed = put n (Some (shared_listing version)) h.listed }) h.queue (ap count (eqb-true (length bytes) h.size fits) ∙ sym f) in
    let put_shared = listed_put n (Some (shared_listing version)) h.listed in
    let had = lowered_some version (at n h.listed) w in record { size = s.size; credit = let c = s.credit in omega arith })
    (λ w. record { size = refl; credit = omega arith })

pub started_credits : (p me : ℕ) (write : Bool) (h : Home) → count (length h.bytes) ≡ p → HomeCredit p me h (home_starts me write h) 0
unfolding home_starts
started_credits p me write h e =
    let s = serves p me h (h.queue ++ own_ask me write ∷ []) e in
    let q = queue_append p me h.queue (own_ask me write ∷ []) in
    let none : asked_credit p me (own_ask me write) ≡ 0 = cond-true (me == me) _ _ (Rattle.std.proofs.lemmas.Bool.eq-eqb me me refl) in
    cond_both (not write && is_reading h.mine) _ _ (λ x. HomeCredit p me h x 0) (λ w. record { size = refl; credit = omega arith })
    (λ w. cond_both (is_empty h.queue && is_servable h (own_ask me write)) _ _ (λ x. HomeCredit p me h x 0) (λ w. record { size = refl; credit = omega arith })
    (λ w. record { size = s.size; credit = let c = s.credit in omega arith }))

pub read_credits : (p me : ℕ) (h : Home) → count (length h.bytes) ≡ p → HomeCredit p me h (home_ends_read me h) 0
unfolding home_ends_read
read_credits p me h e = let s = serves p me (record h { mine = Rattle.crl_protocol.specs.Home.one_section_less h.mine }) h.queue e in record { size = s.size; credit = let c = s.credit in omega arith }

pub write_credits : (p me : ℕ) (bytes : List ℕ) (h : Home) → count (length bytes) ≡ p → HomeCredit p me h (home_ends_write me bytes h) 0
unfolding home_ends_write
write_credits p me bytes h e = let s = serves p me (record h { bytes = bytes; mine = Rattle.crl_model.specs.declared.directory.Section.TheVariants.Closed }) h.queue e in record { size = s.size; credit = let c = s.credit in omega arith }

new_listed : (k : ℕ) → listed_credit (replicate k None) ≡ 0
new_listed zero = refl
new_listed (suc k) = let h = new_listed k in omega arith

pub new_credit : (p me nodes size : ℕ) → table_credit p me (Some (new_home nodes size)) ≡ 0
new_credit p me nodes size = let h = new_listed nodes in omega arith
