-- What holds of a node after a call or a message, by the parts that these share.
use Rattle.std.proofs.Common.{◌≡◌, ℕ, zero, suc, ◌+◌, ◌==◌, Bool, true, false, None, Some, Option, List, [], ◌∷◌, ◌++◌, length, map, if◌then◌else◌, refl, sym, ◌∙◌, subst}
use Rattle.std.specs.List.{AllByRecursion}
use Rattle.std.proofs.lemmas.Bool.{cond_both, ne_eqb, eqb-false}
use Rattle.std.proofs.Math.Logic.{◌⊎◌, inl, inr}
use Rattle.crl_model.specs.declared.name.Name.{Name}
use Rattle.crl_model.specs.declared.collective.Fold.{Fold}
use Rattle.crl_model.specs.declared.entry.What.{What}
use Rattle.crl_model.specs.declared.message.Message.{Message}
use Rattle.crl_model.specs.declared.message.Kind.TheVariants as kind
use Rattle.crl_model.specs.Names.{name_eq}
use Rattle.crl_protocol.specs.Mail.{Mail, Ask, Grant, Recall, Yield, Return, Release, Letter, kind_about}
use Rattle.crl_protocol.specs.Home.{Home}
use Rattle.crl_protocol.specs.Remote.{Remote, RemoteStep, remote_flushes}
use Rattle.crl_protocol.specs.Lifetimes.{Mapping, Cached, cached_size, cache_without}
use Rattle.crl_protocol.specs.Gathering.{Gathering}
use Rattle.crl_protocol.specs.Node.{Node, Awaited, Free, Waiting, Outcome, only, Done, is_mine, home_of, message_to, letter_messages, mail_messages}
use Rattle.crl_protocol.specs.Sectioning.{waits, with_entry_first, forgets_over, forgets, after_remote}
use Rattle.crl_protocol.specs.Calls.{results_from}
use Rattle.crl_deeds.specs.NodeFacts.{seen, CopyFits, RemoteFits, HomeFits, OwnFits, OwnHere, OwnThere, MappedHere, MappedThere, QueueFits, AskingFits, WaitFits, IsCached, FreshFits, IsAway, Leaves, Fits, free}
use Rattle.crl_deeds.specs.TableFacts.{NoAsk, NoAsks, RemoteGoes}
use Rattle.crl_deeds.proofs.Fits.Fields.{fits_turn, fits_remote, fits_forget}
use Rattle.crl_deeds.proofs.Fits.Names.{Apart, other_name, same_name}

-- the node that a step leaves, and what it sends
pub record Good (i : ℕ) (o : Outcome) : Type 0 where
  pub node : Fits i o.node
  pub posts : AllByRecursion Leaves o.posts

pub good_if : (i : ℕ) (b : Bool) (x y : Outcome) → (b ≡ true → Good i x) → (b ≡ false → Good i y) → Good i (if b then x else y)
good_if i b x y f g = cond_both b x y (λ o. Good i o) f g

pub good_only : (i : ℕ) (n : Node) → Fits i n → Good i (only n Done)
good_only i n f = record { node = f; posts = tt }

pub good_recording : (i : ℕ) (what : What) (o : Outcome) → Good i o → Good i (with_entry_first what o)
good_recording i what o g = record { node = g.node; posts = g.posts }

-- nothing waits at a node that is free
pub free_apart : (q : Name) → Apart q Free
free_apart q = record { section = λ e. cc; delete = λ e. cc }

pub good_waits : (i : ℕ) (n : Node) (awaited : Awaited) (posts : List Message)
    → ((q : Name) → WaitFits q (Waiting awaited) (is_mine n q) (n.maps q)) → FreshFits (Waiting awaited) n.cache → AllByRecursion Leaves posts
    → Fits i (free n) → Good i (waits (free n) awaited posts)
good_waits i n awaited posts wait fresh leave f = record { node = fits_turn i n Free (Waiting awaited) free_apart wait fresh f; posts = leave }

-- what holds of the rounds is none of this
pub fits_rounds : (i : ℕ) (n : Node) (rounds : ℕ) (g : Gathering) → Fits i n → Fits i (record n { rounds = rounds; gathering = g })
fits_rounds i n rounds g f = record { me = f.me; each = f.each; cache = f.cache; fresh = f.fresh; inbox = f.inbox; outbox = f.outbox }

-- Messages leave: those of a home ask for nothing, and those to another home go away.
pub other_way : (a b : ℕ) → (a == b) ≡ false → (b == a) ≡ false
other_way a b e = ne_eqb b a (λ w. eqb-false a b e (sym w))

no_ask_leaves : (from to : ℕ) (name : Name) (m : Mail) → NoAsk m → IsAway from to (kind_about name m)
no_ask_leaves from to name (Ask write have) h = absurd h
no_ask_leaves from to name (Grant version granted) h = tt
no_ask_leaves from to name (Recall version) h = tt
no_ask_leaves from to name (Yield version) h = tt
no_ask_leaves from to name (Return version bytes) h = tt
no_ask_leaves from to name (Release version bytes) h = tt

pub letters_leave : (n : Node) (name : Name) (posts : List Letter) → NoAsks posts → AllByRecursion Leaves (letter_messages n name posts)
letters_leave n name [] h = tt
letters_leave n name (l ∷ posts) h = (no_ask_leaves n.me l.to name l.mail h.0, letters_leave n name posts h.1)

mail_leaves : (from to : ℕ) (name : Name) (m : Mail) → (from == to) ≡ false → IsAway from to (kind_about name m)
mail_leaves from to name (Ask write have) h = h
mail_leaves from to name (Grant version granted) h = tt
mail_leaves from to name (Recall version) h = tt
mail_leaves from to name (Yield version) h = tt
mail_leaves from to name (Return version bytes) h = tt
mail_leaves from to name (Release version bytes) h = tt

pub mails_leave : (n : Node) (name : Name) (posts : List Mail) → is_mine n name ≡ false → AllByRecursion Leaves (mail_messages n name posts)
mails_leave n name [] h = tt
mails_leave n name (m ∷ posts) h = (mail_leaves n.me name.home name m (other_way name.home n.me h), mails_leave n name posts h)

pub results_leave : (n : Node) (m k round : ℕ) (fold : Fold) → AllByRecursion Leaves (results_from n m k round fold)
results_leave n m zero round fold = tt
results_leave n m (suc k) round fold = (tt, results_leave n (m + 1) k round fold)

pub purges_leave : (n : Node) (name : Name) (ms : List ℕ) → AllByRecursion Leaves (map (λ m. message_to n m (kind.Purge name)) ms)
purges_leave n name [] = tt
purges_leave n name (m ∷ ms) = (tt, purges_leave n name ms)

-- A name with a table is the node's own, and one with a copy isn't.
own_here : (i : ℕ) (n : Node) (name : Name) (h : Home) (b : Bool) → is_mine n name ≡ b → home_of n name ≡ Some h
    → OwnFits b (seen n name) → OwnHere (seen n name)
own_here i n name h true e w own = own
own_here i n name h false e w own = let k = own.nothing in cc

pub here_of : (i : ℕ) (n : Node) (name : Name) (h : Home) → home_of n name ≡ Some h → Fits i n → OwnHere (seen n name)
here_of i n name h e f = own_here i n name h (is_mine n name) refl e (f.each name).own

-- what holds of a name that is the node's own, and of one that isn't
pub here_if : (i : ℕ) (n : Node) (name : Name) → is_mine n name ≡ true → Fits i n → OwnHere (seen n name)
here_if i n name e f = subst (λ b. OwnFits b (seen n name)) e (f.each name).own

pub there_if : (i : ℕ) (n : Node) (name : Name) → is_mine n name ≡ false → Fits i n → OwnThere (seen n name)
there_if i n name e f = subst (λ b. OwnFits b (seen n name)) e (f.each name).own

not_own : (n : Node) (name : Name) (r : Remote) (b : Bool) → is_mine n name ≡ b → n.remotes name ≡ Some r → OwnFits b (seen n name) → is_mine n name ≡ false
not_own n name r true e w own = let k = own.nothing in cc
not_own n name r false e w own = e

pub not_mine : (i : ℕ) (n : Node) (name : Name) (r : Remote) → n.remotes name ≡ Some r → Fits i n → is_mine n name ≡ false
not_mine i n name r e f = not_own n name r (is_mine n name) refl e (f.each name).own

pub home_bytes : (i : ℕ) (n : Node) (name : Name) (h : Home) → home_of n name ≡ Some h → Fits i n → length h.bytes ≡ h.size
home_bytes i n name h e f = subst (λ x. HomeFits x) e (here_of i n name h e f).bytes

pub remote_bytes : (i : ℕ) (n : Node) (name : Name) (r : Remote) → n.remotes name ≡ Some r → Fits i n → CopyFits r.copy r.size
remote_bytes i n name r e f = subst (λ x. RemoteFits x) e (there_if i n name (not_mine i n name r e f) f).bytes

pub queue_of : (i : ℕ) (n : Node) (name : Name) (h : Home) → home_of n name ≡ Some h → Fits i n → QueueFits n.me name (Some h) n.activity
queue_of i n name h e f = subst (λ x. QueueFits n.me name x n.activity) e (f.each name).queue

pub asking_of : (i : ℕ) (n : Node) (name : Name) (r : Remote) → n.remotes name ≡ Some r → Fits i n → AskingFits name (Some r) n.activity
asking_of i n name r e f = subst (λ x. AskingFits name x n.activity) e (f.each name).asking

-- sizes of what is mapped
pub mapped_home : (i : ℕ) (n : Node) (name : Name) (h : Home) (m : Mapping) → home_of n name ≡ Some h → n.maps name ≡ Some m → Fits i n → m.size ≡ h.size
mapped_home i n name h m e w f = subst (λ x. MappedHere (Some m) x) e (subst (λ y. MappedHere y (home_of n name)) w (here_of i n name h e f).mapped)

pub mapped_remote : (i : ℕ) (n : Node) (name : Name) (r : Remote) (m : Mapping) → n.remotes name ≡ Some r → n.maps name ≡ Some m → Fits i n → m.size ≡ r.size
mapped_remote i n name r m e w f =
    subst (λ x. MappedThere (Some m) x) e (subst (λ y. MappedThere y (n.remotes name)) w (there_if i n name (not_mine i n name r e f) f).mapped)

-- A node's side of a region moves on, or is forgotten.
pub good_moved : (i : ℕ) (n : Node) (name : Name) (r : Remote) (s : RemoteStep) → n.remotes name ≡ Some r → RemoteGoes r s → Fits i n → Good i (after_remote name s n)
unfolding after_remote
good_moved i n name r s e g f = record {
  node = fits_remote i n name r s.remote e g.size (subst (λ z. CopyFits s.remote.copy z) (sym g.size) g.bytes) (asking_same (asking_of i n name r e f)) f;
  posts = mails_leave n name s.posts (not_mine i n name r e f);
}
  where
    asking_same : AskingFits name (Some r) n.activity → AskingFits name (Some s.remote) n.activity
    asking_same (inl w) = inl (g.asking ∙ w)
    asking_same (inr w) = inr w

good_forgets_over : (i : ℕ) (n : Node) (name : Name) (o : Option Remote) → n.remotes name ≡ o → Fits i n → Good i (forgets_over name o n)
good_forgets_over i n name None e f = good_only i n f
good_forgets_over i n name (Some r) e f = record { node = fits_forget i n name f; posts = mails_leave n name (remote_flushes r).posts (not_mine i n name r e f) }

pub good_forgets : (i : ℕ) (n : Node) (name : Name) → Fits i n → Good i (forgets name n)
unfolding forgets
good_forgets i n name f = good_forgets_over i n name (n.remotes name) refl f

-- The cache.
pub is_cached : (name : Name) (cache : List Cached) (size : ℕ) → cached_size name cache ≡ Some size → IsCached name size cache
is_cached name [] size e = cc
is_cached name (kept ∷ cache) size e = either (name_eq kept.name name) refl e (is_cached name cache size)
  where
    either : (b : Bool) → name_eq kept.name name ≡ b → (if b then Some kept.size else cached_size name cache) ≡ Some size
        → (cached_size name cache ≡ Some size → IsCached name size cache)
        → IsCached name size (kept ∷ cache)
    either true w k rest = inl (same_name kept.name name w, cc)
    either false w k rest = inr (rest k)

pub not_cached : (name : Name) (cache : List Cached) → cached_size name cache ≡ None → (size : ℕ) → IsCached name size cache → ⊥
not_cached name [] e size c = c
not_cached name (kept ∷ cache) e size c = either (name_eq kept.name name) refl e (not_cached name cache) c
  where
    either : (b : Bool) → name_eq kept.name name ≡ b → (if b then Some kept.size else cached_size name cache) ≡ None
        → (cached_size name cache ≡ None → (z : ℕ) → IsCached name z cache → ⊥)
        → IsCached name size (kept ∷ cache) → ⊥
    either true w k rest c = cc
    either false w k rest (inl h) = other_name kept.name name w h.0
    either false w k rest (inr h) = rest k size h

pub kept_dropped : (name q : Name) (size : ℕ) (cache : List Cached) → IsCached q size (cache_without name cache) → IsCached q size cache
kept_dropped name q size [] c = c
kept_dropped name q size (kept ∷ cache) c = either (name_eq kept.name name) (kept_dropped name q size cache) c
  where
    either : (b : Bool) → (IsCached q size (cache_without name cache) → IsCached q size cache)
        → IsCached q size (if b then cache else kept ∷ cache_without name cache) → IsCached q size (kept ∷ cache)
    either true rest c = inr c
    either false rest (inl h) = inl h
    either false rest (inr h) = inr (rest h)

pub kept_more : (q : Name) (size : ℕ) (new : Cached) (cache : List Cached) → IsCached q size (cache ++ new ∷ []) → ((new.name ≡ q) × (new.size ≡ size)) ⊎ IsCached q size cache
kept_more q size new [] (inl h) = inl h
kept_more q size new [] (inr h) = inr h
kept_more q size new (kept ∷ cache) (inl h) = inr (inl h)
kept_more q size new (kept ∷ cache) (inr h) = either (kept_more q size new cache h)
  where
    either : ((new.name ≡ q) × (new.size ≡ size)) ⊎ IsCached q size cache → ((new.name ≡ q) × (new.size ≡ size)) ⊎ IsCached q size (kept ∷ cache)
    either (inl w) = inl w
    either (inr w) = inr (inr w)
