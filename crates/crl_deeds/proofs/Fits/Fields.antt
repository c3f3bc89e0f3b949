-- What holds of a node stays so where one thing of it changes.
use Rattle.std.proofs.Common.{◌≡◌, ℕ, Bool, true, false, None, Some, Option, List, [], ◌∷◌, ◌++◌, length, if◌then◌else◌, refl, sym, ◌∙◌, subst}
use Rattle.crl_model.specs.declared.name.Name.{Name}
use Rattle.crl_model.specs.declared.stage.Stage.{Stage}
use Rattle.crl_model.specs.declared.stage.Stage.TheVariants as stage
use Rattle.crl_model.specs.Names.{name_eq}
use Rattle.crl_protocol.specs.Home.{Home}
use Rattle.crl_protocol.specs.Remote.{Remote}
use Rattle.crl_protocol.specs.Lifetimes.{Mapping, Cached, Lifetime}
use Rattle.crl_protocol.specs.Node.{Node, Activity, is_mine, home_of, lifetime_of, with_home, with_lifetime, with_remote, with_mapping}
use Rattle.crl_deeds.specs.NodeFacts.{Seen, seen, RecordFits, LiveFits, MappedHere, RemoteFits, MappedThere, OwnFits, QueueFits, AskingFits, GoingFits, WaitFits, Holds, IsCached, SizeIs, FreshFits, Fits}
use Rattle.crl_deeds.proofs.Fits.Names.{by_name, Apart, calm}
use Rattle.crl_deeds.proofs.Fits.TableRows.{home_put, lifetime_put, home_none}

-- The activity changes: for no name anything waited, or for this one it is done.
pub fits_turn : (i : ℕ) (n : Node) (a b : Activity) → ((q : Name) → Apart q a) → ((q : Name) → WaitFits q b (is_mine n q) (n.maps q)) → FreshFits b n.cache
    → Fits i (record n { activity = a }) → Fits i (record n { activity = b })
fits_turn i n a b apart wait fresh f = record {
  me = f.me;
  each = λ q. calm n.me q a b (seen (record n { activity = a }) q) (apart q) (wait q) (f.each q);
  cache = f.cache;
  fresh = fresh;
  inbox = f.inbox;
  outbox = f.outbox;
}

pub fits_leave : (i : ℕ) (n : Node) (a b : Activity) (name : Name) → ((q : Name) → name_eq name q ≡ false → Apart q a)
    → ((q : Name) → WaitFits q b (is_mine n q) (n.maps q)) → FreshFits b n.cache
    → QueueFits n.me name (home_of n name) b → AskingFits name (n.remotes name) b → GoingFits n.me name (lifetime_of n name).stage b
    → Fits i (record n { activity = a }) → Fits i (record n { activity = b })
fits_leave i n a b name apart wait fresh queue asking going f = record {
  me = f.me;
  each = by_name name (λ t q. Holds n.me q b (seen (record n { activity = b }) q))
      (at_it (f.each name)) (λ q w. calm n.me q a b (seen (record n { activity = a }) q) (apart q w) (wait q) (f.each q));
  cache = f.cache;
  fresh = fresh;
  inbox = f.inbox;
  outbox = f.outbox;
}
  where
    at_it : Holds n.me name a (seen (record n { activity = a }) name) → Holds n.me name b (seen (record n { activity = a }) name)
    at_it h = record { sections = h.sections; own = h.own; queue = queue; asking = asking; going = going; waiting = wait name }

-- The home's table of a name, with the same size.
live_home : (s : Stage) (h : Home) → LiveFits s (Some h)
live_home stage.Unknown h = tt
live_home stage.Live h = tt
live_home (stage.Going deleter) h = tt
live_home stage.Gone h = tt

mapped_home : (m : Option Mapping) (h g : Home) → g.size ≡ h.size → MappedHere m (Some h) → MappedHere m (Some g)
mapped_home None h g e w = tt
mapped_home (Some m) h g e w = w ∙ sym e

own_home : (b : Bool) (v : Seen) (h g : Home) → v.home ≡ Some h → g.size ≡ h.size → length g.bytes ≡ h.size → OwnFits b v → OwnFits b (record v { home = Some g })
own_home true v h g e size bytes own = record {
  live = live_home v.stage g;
  bytes = bytes ∙ sym size;
  mapped = mapped_home v.mapping h g size (subst (λ x. MappedHere v.mapping x) e own.mapped);
  nothing = own.nothing;
}
own_home false v h g e size bytes own = let w = own.nothing in cc

pub fits_home : (i : ℕ) (n : Node) (name : Name) (h g : Home) → home_of n name ≡ Some h → g.size ≡ h.size
    → length g.bytes ≡ h.size → QueueFits n.me name (Some g) n.activity
    → Fits i n → Fits i (with_home name g n)
fits_home i n name h g e size bytes queue f = record {
  me = f.me;
  each = λ q. subst (λ x. Holds n.me q n.activity (record (seen n q) { home = x })) (sym (home_put n name h g e q))
      (by_name name (λ b p. Holds n.me p n.activity (record (seen n p) { home = if b then Some g else home_of n p })) (at_it (f.each name)) (λ p w. f.each p) q);
  cache = f.cache;
  fresh = f.fresh;
  inbox = f.inbox;
  outbox = f.outbox;
}
  where
    at_it : Holds n.me name n.activity (seen n name) → Holds n.me name n.activity (record (seen n name) { home = Some g })
    at_it x = record {
      sections = x.sections;
      own = own_home (is_mine n name) (seen n name) h g e size bytes x.own;
      queue = queue;
      asking = x.asking;
      going = x.going;
      waiting = x.waiting;
    }

-- A node's side of a region, with the same size.
mapped_remote : (m : Option Mapping) (r s : Remote) → s.size ≡ r.size → MappedThere m (Some r) → MappedThere m (Some s)
mapped_remote None r s e w = tt
mapped_remote (Some m) r s e w = w ∙ sym e

own_remote : (b : Bool) (v : Seen) (r s : Remote) → v.remote ≡ Some r → s.size ≡ r.size → RemoteFits (Some s) → OwnFits b v → OwnFits b (record v { remote = Some s })
own_remote true v r s e size bytes own = let w = own.nothing in cc
own_remote false v r s e size bytes own = record {
  bytes = bytes;
  mapped = mapped_remote v.mapping r s size (subst (λ x. MappedThere v.mapping x) e own.mapped);
  nothing = own.nothing;
  unknown = own.unknown;
}

pub fits_remote : (i : ℕ) (n : Node) (name : Name) (r s : Remote) → n.remotes name ≡ Some r → s.size ≡ r.size
    → RemoteFits (Some s) → AskingFits name (Some s) n.activity
    → Fits i n → Fits i (with_remote name (Some s) n)
fits_remote i n name r s e size bytes asking f = record {
  me = f.me;
  each = by_name name (λ b p. Holds n.me p n.activity (record (seen n p) { remote = if b then Some s else n.remotes p })) (at_it (f.each name)) (λ p w. f.each p);
  cache = λ q z. by_name name (λ b p. IsCached p z n.cache → SizeIs (if b then Some s else n.remotes p) z) (λ w. size ∙ subst (λ x. SizeIs x z) e (f.cache name z w)) (λ p t. f.cache p z) q;
  fresh = f.fresh;
  inbox = f.inbox;
  outbox = f.outbox;
}
  where
    at_it : Holds n.me name n.activity (seen n name) → Holds n.me name n.activity (record (seen n name) { remote = Some s })
    at_it x = record {
      sections = x.sections;
      own = own_remote (is_mine n name) (seen n name) r s e size bytes x.own;
      queue = x.queue;
      asking = asking;
      going = x.going;
      waiting = x.waiting;
    }

-- and forgotten
mapped_nothing : (m : Option Mapping) → MappedThere m None
mapped_nothing None = tt
mapped_nothing (Some m) = tt

own_nothing : (b : Bool) (v : Seen) → OwnFits b v → OwnFits b (record v { remote = None })
own_nothing true v own = record { live = own.live; bytes = own.bytes; mapped = own.mapped; nothing = refl }
own_nothing false v own = record { bytes = tt; mapped = mapped_nothing v.mapping; nothing = own.nothing; unknown = own.unknown }

pub fits_forget : (i : ℕ) (n : Node) (name : Name) → Fits i n → Fits i (with_remote name None n)
fits_forget i n name f = record {
  me = f.me;
  each = by_name name (λ b p. Holds n.me p n.activity (record (seen n p) { remote = if b then None else n.remotes p })) (at_it (f.each name)) (λ p w. f.each p);
  cache = λ q z. by_name name (λ b p. IsCached p z n.cache → SizeIs (if b then None else n.remotes p) z) (λ w. tt) (λ p t. f.cache p z) q;
  fresh = f.fresh;
  inbox = f.inbox;
  outbox = f.outbox;
}
  where
    at_it : Holds n.me name n.activity (seen n name) → Holds n.me name n.activity (record (seen n name) { remote = None })
    at_it x = record {
      sections = x.sections;
      own = own_nothing (is_mine n name) (seen n name) x.own;
      queue = x.queue;
      asking = tt;
      going = x.going;
      waiting = x.waiting;
    }

-- A mapping of a name.
pub fits_mapping : (i : ℕ) (n : Node) (name : Name) (m : Option Mapping) → RecordFits (n.sections.records name) m
    → OwnFits (is_mine n name) (record (seen n name) { mapping = m }) → WaitFits name n.activity (is_mine n name) m
    → Fits i n → Fits i (with_mapping name m n)
fits_mapping i n name m rec own wait f = record {
  me = f.me;
  each = by_name name (λ b p. Holds n.me p n.activity (record (seen n p) { mapping = if b then m else n.maps p })) (at_it (f.each name)) (λ p w. f.each p);
  cache = f.cache;
  fresh = f.fresh;
  inbox = f.inbox;
  outbox = f.outbox;
}
  where
    at_it : Holds n.me name n.activity (seen n name) → Holds n.me name n.activity (record (seen n name) { mapping = m })
    at_it x = record { sections = rec; own = own; queue = x.queue; asking = x.asking; going = x.going; waiting = wait }

-- A lifetime of one of its own regions.
own_lifetime : (b : Bool) (v : Seen) (s : Stage) → b ≡ true → LiveFits s v.home → OwnFits b v → OwnFits b (record v { stage = s })
own_lifetime true v s e live own = record { live = live; bytes = own.bytes; mapped = own.mapped; nothing = own.nothing }
own_lifetime false v s e live own = cc

pub fits_lifetime : (i : ℕ) (n : Node) (name : Name) (lifetime : Lifetime) → is_mine n name ≡ true → LiveFits lifetime.stage (home_of n name)
    → GoingFits n.me name lifetime.stage n.activity
    → Fits i n → Fits i (with_lifetime name lifetime n)
fits_lifetime i n name lifetime mine live going f = record {
  me = f.me;
  each = λ q. subst (λ (x : Lifetime). Holds n.me q n.activity (record (seen n q) { stage = x.stage })) (sym (lifetime_put n name lifetime mine q))
      (by_name name (λ b p. Holds n.me p n.activity (record (seen n p) { stage = (if b then lifetime else lifetime_of n p).stage })) (at_it (f.each name)) (λ p w. f.each p) q);
  cache = f.cache;
  fresh = f.fresh;
  inbox = f.inbox;
  outbox = f.outbox;
}
  where
    at_it : Holds n.me name n.activity (seen n name) → Holds n.me name n.activity (record (seen n name) { stage = lifetime.stage })
    at_it x = record {
      sections = x.sections;
      own = own_lifetime (is_mine n name) (seen n name) lifetime.stage mine live x.own;
      queue = x.queue;
      asking = x.asking;
      going = going;
      waiting = x.waiting;
    }

-- The cache.
pub fits_cache : (i : ℕ) (n : Node) (cache : List Cached)
    → ((q : Name) (size : ℕ) → IsCached q size cache → SizeIs (n.remotes q) size) → FreshFits n.activity cache
    → Fits i n → Fits i (record n { cache = cache })
fits_cache i n cache sizes fresh f = record { me = f.me; each = f.each; cache = sizes; fresh = fresh; inbox = f.inbox; outbox = f.outbox }

-- A serial is used up.
pub fits_used : (i : ℕ) (n : Node) → Fits i n → Fits i (record n { homes = n.homes ++ None ∷ [] })
fits_used i n f = record {
  me = f.me;
  each = λ q. subst (λ x. Holds n.me q n.activity (record (seen n q) { home = x })) (sym (home_none n q)) (f.each q);
  cache = f.cache;
  fresh = f.fresh;
  inbox = f.inbox;
  outbox = f.outbox;
}
