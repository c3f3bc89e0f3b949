-- The mail of one node among all that is under way, and what of it concerns the pair of home and node.
use Rattle.std.proofs.Common.{ℕ, List, [], ◌∷◌, ◌++◌, Bool, true, false, ◌≡◌, ◌≢◌, ◌==◌, if◌then◌else◌, refl, arith, sym, ap, subst, ◌∙◌, append_assoc}
use Rattle.std.specs.declared.option.Option.{Option}
use Rattle.std.specs.declared.option.Option.TheVariants.{None, Some}
use Rattle.crl_model.specs.declared.directory.Listing.{Listing}
use Rattle.crl_model.specs.declared.directory.Asked.{Asked}
use Rattle.crl_model.specs.Names.{at_node}
use Rattle.crl_protocol.specs.Places.{at, find_all, Took}
use Rattle.crl_protocol.specs.Mail.{Mail}
use Rattle.crl_protocol.specs.Remote.{Remote}
use Rattle.crl_coherence.specs.Region.{Flying, sent_by, flies}
use Rattle.crl_coherence.specs.Pairs.{HomeAndNode, PairHolds, pair_of, of_node, asked_in, granted_in, recalled_in, yields_in, returned_in, released_in, queued_of}
use Rattle.crl_coherence.proofs.Lists.{picked_none, picked_some, picks-append, took_some, took_none}

-- the mail between the home and node n
abbrev pub mail_of : ℕ → Flying → Option Mail
mail_of n f = if f.node == n then Some f.mail else None

abbrev pub mails : ℕ → List Flying → List Mail
mails n flight = find_all (mail_of n) flight

-- what one selector finds behind another
through : {B : Type 0} (b : Bool) (m : Mail) (select : Mail → Option B) (xs : List B) (ms : List Mail) → xs ≡ find_all select ms
    → elim (if b then select m else None) [ None ↦ xs | Some y ↦ y ∷ xs ] ≡ find_all select (elim (if b then Some m else None) [ None ↦ ms | Some k ↦ k ∷ ms ])
through true m select xs ms e = ap (λ l. elim (select m) [ None ↦ l | Some y ↦ y ∷ l ]) e
through false m select xs ms e = e

pub picks-mails : {B : Type 0} (n : ℕ) (select : Mail → Option B) (flight : List Flying) → find_all (of_node n select) flight ≡ find_all select (mails n flight)
picks-mails n select [] = refl
picks-mails n select (f ∷ flight) = through (f.node == n) f.mail select (find_all (of_node n select) flight) (mails n flight) (picks-mails n select flight)

-- what the home and node n have to do with each other, where this is the node's mail
abbrev pub pair_at : ℕ → Option Listing → List Asked → List Mail → Remote → HomeAndNode
pair_at n listed queued ms remote = record {
  listed = listed;
  pending = queued ++ find_all (asked_in n) ms;
  grants = find_all granted_in ms;
  recalls = find_all recalled_in ms;
  yields = find_all yields_in ms;
  returns = find_all returned_in ms;
  releases = find_all released_in ms;
  remote = remote;
}

pub pair-at : (listed : List (Option Listing)) (queue : List Asked) (remotes : ℕ → Remote) (flight : List Flying) (n : ℕ)
    → pair_of listed queue remotes flight n ≡ pair_at n (at n listed) (find_all (queued_of n) queue) (mails n flight) (remotes n)
pair-at listed queue remotes flight n = λ i. record {
  listed = at n listed;
  pending = find_all (queued_of n) queue ++ picks-mails n (asked_in n) flight i;
  grants = picks-mails n granted_in flight i;
  recalls = picks-mails n recalled_in flight i;
  yields = picks-mails n yields_in flight i;
  returns = picks-mails n returned_in flight i;
  releases = picks-mails n released_in flight i;
  remote = remotes n;
}

-- what holds of a pair, by its parts
pub kept_to : (last : ℕ) (array : List ℕ) (listed : List (Option Listing)) (queue : List Asked) (remotes : ℕ → Remote) (flight : List Flying) (n : ℕ)
    → PairHolds last array (pair_of listed queue remotes flight n) → PairHolds last array (pair_at n (at n listed) (find_all (queued_of n) queue) (mails n flight) (remotes n))
kept_to last array listed queue remotes flight n k = subst (λ p. PairHolds last array p) (pair-at listed queue remotes flight n) k

pub kept_from : (last : ℕ) (array : List ℕ) (listed : List (Option Listing)) (queue : List Asked) (remotes : ℕ → Remote) (flight : List Flying) (n : ℕ)
    → PairHolds last array (pair_at n (at n listed) (find_all (queued_of n) queue) (mails n flight) (remotes n)) → PairHolds last array (pair_of listed queue remotes flight n)
kept_from last array listed queue remotes flight n k = subst (λ p. PairHolds last array p) (sym (pair-at listed queue remotes flight n)) k

pub kept_at : (last n : ℕ) (array : List ℕ) {o p : Option Listing} {q s : List Asked} {ms ks : List Mail} {r t : Remote} → o ≡ p → q ≡ s → ms ≡ ks → r ≡ t
    → PairHolds last array (pair_at n o q ms r) → PairHolds last array (pair_at n p s ks t)
kept_at last n array a b c d k = subst (λ x. PairHolds last array x) (λ i. pair_at n (a i) (b i) (c i) (d i)) k

-- a pair whose lists are lengthened by what more mail holds
abbrev pub lengthened : ℕ → List Mail → Remote → HomeAndNode → HomeAndNode
lengthened n posts r p = record p {
  pending = p.pending ++ find_all (asked_in n) posts;
  grants = p.grants ++ find_all granted_in posts;
  recalls = p.recalls ++ find_all recalled_in posts;
  yields = p.yields ++ find_all yields_in posts;
  returns = p.returns ++ find_all returned_in posts;
  releases = p.releases ++ find_all released_in posts;
  remote = r;
}

pub lengthened-at : (n : ℕ) (o : Option Listing) (q : List Asked) (ms posts : List Mail) (r t : Remote) → lengthened n posts t (pair_at n o q ms r) ≡ pair_at n o q (ms ++ posts) t
lengthened-at n o q ms posts r t = λ i. record {
  listed = o;
  pending = (append_assoc q (find_all (asked_in n) ms) (find_all (asked_in n) posts) ∙ ap (λ l. q ++ l) (sym (picks-append (asked_in n) ms posts))) i;
  grants = sym (picks-append granted_in ms posts) i;
  recalls = sym (picks-append recalled_in ms posts) i;
  yields = sym (picks-append yields_in ms posts) i;
  returns = sym (picks-append returned_in ms posts) i;
  releases = sym (picks-append released_in ms posts) i;
  remote = t;
}

-- the mail of a node after a step of the home or of a node
pub mail_here : (n : ℕ) (m : Mail) → mail_of n (flies n m) ≡ Some m
mail_here n m = grind arith

pub mail_other : (n k : ℕ) (m : Mail) → k ≢ n → mail_of n (flies k m) ≡ None
mail_other n k m h = grind arith

pub mails-append : (n : ℕ) (xs ys : List Flying) → mails n (xs ++ ys) ≡ mails n xs ++ mails n ys
mails-append n xs ys = picks-append (mail_of n) xs ys

pub mails-sent_by : (n : ℕ) (posts : List Mail) → mails n (sent_by n posts) ≡ posts
mails-sent_by n [] = refl
mails-sent_by n (m ∷ posts) = picked_some (mail_of n (flies n m)) m (mails n (sent_by n posts)) (mail_here n m) ∙ ap (λ l. m ∷ l) (mails-sent_by n posts)

pub mails-sent_other : (n k : ℕ) (posts : List Mail) → k ≢ n → mails n (sent_by k posts) ≡ []
mails-sent_other n k [] h = refl
mails-sent_other n k (m ∷ posts) h = picked_none (mail_of n (flies k m)) (mails n (sent_by k posts)) (mail_other n k m h) ∙ mails-sent_other n k posts h

pub took_mail : (n : ℕ) (m : Mail) (xs ys : List Flying) → Took (flies n m) xs ys → Took m (mails n xs) (mails n ys)
took_mail n m xs ys t = took_some (mail_of n) t m (mail_here n m)

pub took_mail_other : (n k : ℕ) (m : Mail) (xs ys : List Flying) → Took (flies k m) xs ys → k ≢ n → mails n xs ≡ mails n ys
took_mail_other n k m xs ys t h = took_none (mail_of n) t (mail_other n k m h)

pub set_here : {X : Type 0} (f : ℕ → X) (n : ℕ) (x : X) → at_node f n x n ≡ x
set_here f n x = grind arith

pub set_there : {X : Type 0} (f : ℕ → X) (n m : ℕ) (x : X) → m ≢ n → at_node f n x m ≡ f m
set_there f n m x h = grind arith
