-- What a node may do in one step: its deeds. Each has the node and what the step leaves written out, and the facts
-- under which it comes.
use Rattle.std.proofs.Common.{◌≡◌, ℕ, ◌+◌, ◌-◌, ◌==◌, Bool, true, false, None, Some, Option, List, [], ◌∷◌, ◌++◌}
use Rattle.crl_model.specs.declared.name.Name.{Name}
use Rattle.crl_model.specs.declared.stage.Stage.{Stage}
use Rattle.crl_model.specs.declared.stage.Stage.TheVariants as stage
use Rattle.crl_model.specs.declared.collective.Part.{Part}
use Rattle.crl_model.specs.declared.collective.Fold.{Fold}
use Rattle.crl_model.specs.declared.call.Call.{Call}
use Rattle.crl_model.specs.declared.call.Call.TheVariants as call
use Rattle.crl_model.specs.declared.call.CallKind.{CallKind}
use Rattle.crl_model.specs.declared.call.CallKind.TheVariants as word
use Rattle.crl_model.specs.declared.call.Refusal.{Refusal}
use Rattle.crl_model.specs.declared.call.Refusal.TheVariants as refusal
use Rattle.crl_model.specs.declared.entry.Place.TheVariants.{Region}
use Rattle.crl_model.specs.declared.entry.What.{What}
use Rattle.crl_model.specs.declared.entry.What.TheVariants as what
use Rattle.crl_model.specs.declared.message.Told.{Told}
use Rattle.crl_model.specs.declared.message.Told.TheVariants as told
use Rattle.crl_model.specs.declared.message.DeleteTold.{DeleteTold}
use Rattle.crl_model.specs.declared.message.DeleteTold.TheVariants as delete_told
use Rattle.crl_model.specs.declared.message.Granted.{Granted}
use Rattle.crl_model.specs.declared.message.Message.{Message}
use Rattle.crl_model.specs.declared.message.Kind.{Kind}
use Rattle.crl_model.specs.declared.message.Kind.TheVariants as kind
use Rattle.crl_model.specs.Calls.{kind_of}
use Rattle.crl_model.specs.Names.{at_node, at_name}
use Rattle.crl_model.specs.FoldOf.{fold_of}
use Rattle.crl_protocol.specs.Home.{Home, HomeStep, home_takes_ask, home_takes_return, home_takes_release, home_starts, home_ends_read, home_ends_write, return_fits, release_fits}
use Rattle.crl_protocol.specs.Remote.{Remote, RemoteStep, new_remote, remote_starts, remote_ends_read, remote_ends_write, remote_flushes, remote_takes_grant, remote_takes_recall, remote_takes_yield, grant_fits, asks_to_write, is_closed}
use Rattle.crl_protocol.specs.Lifetimes.{Mapping, new_mapping, cached_size, cache_without, cache_with, members}
use Rattle.crl_protocol.specs.Gathering.{Gathering, no_parts, all_parts, awaits}
use Rattle.crl_protocol.specs.Sections.{section_at, bytes_at, section_begins, is_writing}
use Rattle.crl_protocol.specs.Node.{Node, Mapped, Done, Refused, Wait, ForSection, ForMap, ForDelete, ForRound, Free, Waiting, Outcome, only, COUNT_LIMIT, serials_used, next_name, is_mine, is_real, home_of, lifetime_of, with_home, with_lifetime, with_remote, with_mapping, map_count, message_to, letter_messages, mail_messages, entry_of, SectionOpening, section_opening}
use Rattle.crl_protocol.specs.Sectioning.{waits, opens_now, copy_bytes, closes}
use Rattle.crl_protocol.specs.Verdict.{of_create, of_part, of_start, of_end, word_of, place_of, verdict}
use Rattle.crl_protocol.specs.Calls.{creates, purges, maps_in, size_of, result_of, answer_of, results}
use Rattle.crl_protocol.specs.Handlers.{becomes_ready, delete_answer, purges_waiting, is_queued_in}

-- why a node takes a step: a call of its own, or a message from a node
pub data Cause : Type 0 where
  Calls : (c : Call) → Cause
  Hears : (from : ℕ) (k : Kind) → Cause

-- a node that makes a call is free
abbrev pub FreeIf : Cause → Node → Type 0
FreeIf (Calls c) n = n.activity ≡ Free
FreeIf (Hears from k) n = Unit {0}

-- A section of the region opens at a node, over the sections that are open there.
abbrev pub opened_at : Bool → Name → List ℕ → Node → SectionOpening
opened_at write name bytes n = section_opening write name bytes (section_begins write name bytes n.sections) n

-- what goes back with a name that is forgotten
abbrev pub parting : Node → Name → Option Remote → List Message
parting n name None = []
parting n name (Some r) = mail_messages n name (remote_flushes r).posts

abbrev pub forgotten : Name → Node → Node
forgotten name n = with_remote name None n

-- What a node finds of a region whose section starts or ends, or that it flushes: it is mapped, and its section lets it.
pub record CanStart (n : Node) (write : Bool) (name : Name) : Type 0 where
  pub mapped : (map_count (n.maps name) == 0) ≡ false
  pub section : of_start write (section_at name n.sections) ≡ None

pub record CanEnd (n : Node) (write : Bool) (name : Name) : Type 0 where
  pub mapped : (map_count (n.maps name) == 0) ≡ false
  pub section : of_end write (section_at name n.sections) ≡ None

pub record CanFlush (n : Node) (name : Name) : Type 0 where
  pub mapped : (map_count (n.maps name) == 0) ≡ false
  pub closed : is_closed (section_at name n.sections) ≡ true

-- The calls and messages that step a region's table at its home, and a node's side elsewhere.
pub data StartsCall : Call → Bool → Name → Type 0 where
  to_read : (name : Name) → StartsCall (call.StartRead name) false name
  to_write : (name : Name) → StartsCall (call.StartWrite name) true name

pub data EndsCall (bytes : List ℕ) (n : Node) : Call → Name → What → (Home → HomeStep) → (Remote → RemoteStep) → Type 0 where
  a_read : (name : Name) → CanEnd n false name → EndsCall bytes n (call.EndRead name) name (what.Read name bytes) (home_ends_read n.me) remote_ends_read
  a_write : (name : Name) (after : List ℕ) → CanEnd n true name → EndsCall bytes n (call.EndWrite name after) name (what.Write name bytes after) (home_ends_write n.me after) (remote_ends_write after)

pub data Serves (n : Node) (h : Home) : ℕ → Kind → Name → HomeStep → Type 0 where
  ask_comes : (from : ℕ) (name : Name) (write : Bool) (have : ℕ) → is_queued_in from n.homes ≡ false
      → Serves n h from (kind.Ask name write have) name (home_takes_ask n.me (record { node = from; write = write; have = have }) h)
  copy_returns : (from : ℕ) (name : Name) (version : ℕ) (bytes : Option (List ℕ)) → return_fits from version bytes h ≡ true
      → Serves n h from (kind.Return name version bytes) name (home_takes_return n.me from bytes h)
  copy_lowers : (from : ℕ) (name : Name) (version : ℕ) (bytes : List ℕ) → release_fits bytes h ≡ true
      → Serves n h from (kind.Release name version bytes) name (home_takes_release n.me from version bytes h)

pub data CallsBack (r : Remote) : Kind → Name → RemoteStep → Type 0 where
  wholly : (name : Name) (version : ℕ) → CallsBack r (kind.Recall name version) name (remote_takes_recall version r)
  to_share : (name : Name) (version : ℕ) → CallsBack r (kind.Yield name version) name (remote_takes_yield version r)

-- Deeds over the copies of a region: at its home, and at the side of another node.
pub data Copies (n : Node) : Cause → Outcome → Type 0 where
  home_opens : (c : Call) (write : Bool) (name : Name) (h : Home) → StartsCall c write name → home_of n name ≡ Some h → CanStart n write name
      → (home_starts n.me write h).opened ≡ true
      → Copies n (Calls c) (let s = home_starts n.me write h in opens_now (opened_at write name s.home.bytes (with_home name s.home n)) (letter_messages n name s.posts))
  home_waits : (c : Call) (write : Bool) (name : Name) (h : Home) → StartsCall c write name → home_of n name ≡ Some h → CanStart n write name
      → (home_starts n.me write h).opened ≡ false
      → Copies n (Calls c) (let s = home_starts n.me write h in waits (with_home name s.home n) (ForSection name) (letter_messages n name s.posts))
  side_opens : (c : Call) (write : Bool) (name : Name) (r : Remote) → StartsCall c write name → home_of n name ≡ None → n.remotes name ≡ Some r → CanStart n write name
      → (remote_starts write r).opened ≡ true
      → Copies n (Calls c) (let s = remote_starts write r in opens_now (opened_at write name (copy_bytes s.remote.copy) (with_remote name (Some s.remote) n)) (mail_messages n name s.posts))
  side_waits : (c : Call) (write : Bool) (name : Name) (r : Remote) → StartsCall c write name → home_of n name ≡ None → n.remotes name ≡ Some r → CanStart n write name
      → (remote_starts write r).opened ≡ false
      → Copies n (Calls c) (let s = remote_starts write r in waits (with_remote name (Some s.remote) n) (ForSection name) (mail_messages n name s.posts))
  home_ends : (c : Call) (name : Name) (w : What) (ends : Home → HomeStep) (lowers : Remote → RemoteStep) (h : Home) → EndsCall (bytes_at name n.sections) n c name w ends lowers → home_of n name ≡ Some h
      → Copies n (Calls c) (record { node = with_home name (ends h).home (closes name n); answer = Done; entries = entry_of n.me w ∷ []; posts = letter_messages n name (ends h).posts })
  side_ends : (c : Call) (name : Name) (w : What) (ends : Home → HomeStep) (lowers : Remote → RemoteStep) (r : Remote) → EndsCall (bytes_at name n.sections) n c name w ends lowers → home_of n name ≡ None → n.remotes name ≡ Some r
      → Copies n (Calls c) (record { node = with_remote name (Some (lowers r).remote) (closes name n); answer = Done; entries = entry_of n.me w ∷ []; posts = mail_messages n name (lowers r).posts })
  side_flushes : (name : Name) (r : Remote) → is_mine n name ≡ false → n.remotes name ≡ Some r → CanFlush n name
      → Copies n (Calls (call.Flush name)) (record { node = with_remote name (Some (remote_flushes r).remote) n; answer = Done; entries = entry_of n.me (what.Flush name) ∷ []; posts = mail_messages n name (remote_flushes r).posts })
  home_serves : (from : ℕ) (k : Kind) (name : Name) (h : Home) (s : HomeStep) → Serves n h from k name s → home_of n name ≡ Some h → s.opened ≡ false
      → Copies n (Hears from k) (record { node = with_home name s.home n; answer = Done; entries = []; posts = letter_messages n name s.posts })
  home_serves_own : (from : ℕ) (k : Kind) (name : Name) (h : Home) (s : HomeStep) → Serves n h from k name s → home_of n name ≡ Some h → s.opened ≡ true
      → Copies n (Hears from k) (let o = opened_at (is_writing s.home.mine) name s.home.bytes (with_home name s.home n) in record { node = becomes_ready o.answer o.node; answer = Done; entries = o.entry ∷ []; posts = letter_messages n name s.posts })
  grant_comes : (from : ℕ) (name : Name) (version : ℕ) (g : Granted) (r : Remote) → n.remotes name ≡ Some r → grant_fits g r ≡ true
      → Copies n (Hears from (kind.Grant name version g)) (let s = remote_takes_grant version g r in let o = opened_at (asks_to_write r.asking) name (copy_bytes s.copy) (with_remote name (Some s) n) in record { node = becomes_ready o.answer o.node; answer = Done; entries = o.entry ∷ []; posts = [] })
  side_called : (from : ℕ) (k : Kind) (name : Name) (r : Remote) (s : RemoteStep) → CallsBack r k name s → n.remotes name ≡ Some r
      → Copies n (Hears from k) (record { node = with_remote name (Some s.remote) n; answer = Done; entries = []; posts = mail_messages n name s.posts })

-- why a map and a delete are refused by the home
pub data Unfit : Stage → Refusal → Told → DeleteTold → Type 0 where
  never : Unfit stage.Unknown refusal.Unknown told.Unknown delete_told.Unknown
  going : (deleter : ℕ) → Unfit (stage.Going deleter) refusal.Deleted told.Deleted delete_told.Deleted
  gone : Unfit stage.Gone refusal.Deleted told.Deleted delete_told.Deleted

-- Deeds over who has a region: creates, maps, unmaps and deletes.
pub data Lives (n : Node) : Cause → Outcome → Type 0 where
  made : (size : ℕ) → of_create n size ≡ None → Lives n (Calls (call.Create size)) (creates size n)
  used_up : (size : ℕ) (why : Refusal) → of_create n size ≡ Some why → (serials_used n == COUNT_LIMIT) ≡ false
      → Lives n (Calls (call.Create size)) (record { node = record n { homes = n.homes ++ None ∷ [] }; answer = Refused why; entries = entry_of n.me (what.Refused word.Create (Region (next_name n)) why) ∷ []; posts = [] })
  -- a map
  maps_more : (name : Name) (m : Mapping) → n.maps name ≡ Some m → (m.count == COUNT_LIMIT) ≡ false → (is_mine n name ≡ true → (lifetime_of n name).stage ≡ stage.Live) → (is_mine n name ≡ false → m.doomed ≡ false)
      → Lives n (Calls (call.Map name)) (maps_in name (record m { count = m.count + 1 }) n)
  maps_own : (name : Name) → n.maps name ≡ None → is_mine n name ≡ true → (lifetime_of n name).stage ≡ stage.Live → Lives n (Calls (call.Map name)) (maps_in name (new_mapping (size_of (home_of n name)) false) n)
  maps_cached : (name : Name) (size : ℕ) → n.maps name ≡ None → is_mine n name ≡ false → cached_size name n.cache ≡ Some size
      → Lives n (Calls (call.Map name)) (maps_in name (new_mapping size false) (record n { cache = cache_without name n.cache }))
  map_asks : (name : Name) → n.maps name ≡ None → is_mine n name ≡ false → cached_size name n.cache ≡ None → is_real n name ≡ true
      → Lives n (Calls (call.Map name)) (waits n (ForMap name false) (message_to n name.home (kind.InfoAsk name) ∷ []))
  map_told : (from : ℕ) (name : Name) → is_mine n name ≡ true → (lifetime_of n name).stage ≡ stage.Live
      → Lives n (Hears from (kind.InfoAsk name)) (let size = size_of (home_of n name) in record {
        node = with_lifetime name (record (lifetime_of n name) { asked = at_node (lifetime_of n name).asked from true }) n;
        answer = Done;
        entries = entry_of from (what.Map name size) ∷ [];
        posts = message_to n from (kind.InfoIs name (told.Live size)) ∷ [];
      })
  map_refused : (from : ℕ) (name : Name) (why : Refusal) (t : Told) (d : DeleteTold) → Unfit (lifetime_of n name).stage why t d
      → Lives n (Hears from (kind.InfoAsk name)) (record { node = n; answer = Done; entries = entry_of from (what.Refused word.Map (Region name) why) ∷ []; posts = message_to n from (kind.InfoIs name t) ∷ [] })
  map_comes : (from : ℕ) (name : Name) (purged : Bool) (size : ℕ) → n.activity ≡ Waiting (ForMap name purged)
      → Lives n (Hears from (kind.InfoIs name (told.Live size))) (only (becomes_ready (Mapped name size) (with_mapping name (Some (new_mapping size purged)) (with_remote name (Some (new_remote size)) n))) Done)
  map_denied : (from : ℕ) (name : Name) (purged : Bool) (s : Stage) (why : Refusal) (t : Told) (d : DeleteTold) → Unfit s why t d → n.activity ≡ Waiting (ForMap name purged)
      → Lives n (Hears from (kind.InfoIs name t)) (only (becomes_ready (Refused why) n) Done)
  -- an unmap: one of several, or the last
  unmaps_one : (name : Name) (m : Mapping) → n.maps name ≡ Some m → (m.count == 0) ≡ false → (m.count == 1) ≡ false → is_closed (section_at name n.sections) ≡ true
      → Lives n (Calls (call.Unmap name)) (record { node = with_mapping name (Some (record m { count = m.count - 1 })) n; answer = Done; entries = entry_of n.me (what.Unmap name) ∷ []; posts = [] })
  unmaps_own : (name : Name) (m : Mapping) → n.maps name ≡ Some m → (m.count == 1) ≡ true → is_mine n name ≡ true → is_closed (section_at name n.sections) ≡ true
      → Lives n (Calls (call.Unmap name)) (record { node = with_mapping name None n; answer = Done; entries = entry_of n.me (what.Unmap name) ∷ []; posts = [] })
  unmaps_doomed : (name : Name) (m : Mapping) → n.maps name ≡ Some m → (m.count == 1) ≡ true → is_mine n name ≡ false → m.doomed ≡ true → is_closed (section_at name n.sections) ≡ true
      → Lives n (Calls (call.Unmap name)) (record { node = forgotten name (with_mapping name None n); answer = Done; entries = entry_of n.me (what.Unmap name) ∷ []; posts = parting n name (n.remotes name) })
  unmaps_keeping : (name : Name) (m : Mapping) → n.maps name ≡ Some m → (m.count == 1) ≡ true → is_mine n name ≡ false → m.doomed ≡ false → is_closed (section_at name n.sections) ≡ true
      → (cache_with n.capacity (record { name = name; size = m.size }) n.cache).evicted ≡ None
      → Lives n (Calls (call.Unmap name)) (record { node = record n { maps = at_name n.maps name None; cache = (cache_with n.capacity (record { name = name; size = m.size }) n.cache).cache }; answer = Done; entries = entry_of n.me (what.Unmap name) ∷ []; posts = [] })
  unmaps_evicting : (name : Name) (m : Mapping) (old : Name) → n.maps name ≡ Some m → (m.count == 1) ≡ true → is_mine n name ≡ false → m.doomed ≡ false → is_closed (section_at name n.sections) ≡ true
      → (cache_with n.capacity (record { name = name; size = m.size }) n.cache).evicted ≡ Some old
      → Lives n (Calls (call.Unmap name)) (record { node = forgotten old (record n { maps = at_name n.maps name None; cache = (cache_with n.capacity (record { name = name; size = m.size }) n.cache).cache }); answer = Done; entries = entry_of n.me (what.Unmap name) ∷ []; posts = parting n old (n.remotes old) })
  -- a delete, at the home by itself, for the home with others, and for another node
  deletes_alone : (name : Name) → is_mine n name ≡ true → (lifetime_of n name).stage ≡ stage.Live → members n.nodes (lifetime_of n name).asked ≡ []
      → Lives n (Calls (call.Delete name)) (record { node = with_lifetime name (record (lifetime_of n name) { stage = stage.Gone }) n; answer = Done; entries = entry_of n.me (what.Deleting name) ∷ entry_of n.me (what.Deleted name) ∷ []; posts = [] })
  deletes_own : (name : Name) (m : ℕ) (ms : List ℕ) → is_mine n name ≡ true → (lifetime_of n name).stage ≡ stage.Live → members n.nodes (lifetime_of n name).asked ≡ m ∷ ms
      → Lives n (Calls (call.Delete name)) (record {
        node = record (with_lifetime name (record (lifetime_of n name) { stage = stage.Going n.me; missing = (lifetime_of n name).asked }) n) { activity = Waiting (ForDelete name) };
        answer = Wait;
        entries = entry_of n.me (what.Deleting name) ∷ [];
        posts = purges n name (lifetime_of n name);
      })
  delete_asks : (name : Name) → is_mine n name ≡ false → is_real n name ≡ true → Lives n (Calls (call.Delete name)) (waits n (ForDelete name) (message_to n name.home (kind.DeleteAsk name) ∷ []))
  deletes_alone_for : (from : ℕ) (name : Name) → is_mine n name ≡ true → (lifetime_of n name).stage ≡ stage.Live → members n.nodes (lifetime_of n name).asked ≡ []
      → Lives n (Hears from (kind.DeleteAsk name)) (record { node = with_lifetime name (record (lifetime_of n name) { stage = stage.Gone }) n; answer = Done; entries = entry_of from (what.Deleting name) ∷ entry_of from (what.Deleted name) ∷ []; posts = message_to n from (kind.DeleteIs name delete_told.Done) ∷ [] })
  deletes_for : (from : ℕ) (name : Name) (m : ℕ) (ms : List ℕ) → is_mine n name ≡ true → (lifetime_of n name).stage ≡ stage.Live → members n.nodes (lifetime_of n name).asked ≡ m ∷ ms
      → Lives n (Hears from (kind.DeleteAsk name)) (record {
        node = with_lifetime name (record (lifetime_of n name) { stage = stage.Going from; missing = (lifetime_of n name).asked }) n;
        answer = Done;
        entries = entry_of from (what.Deleting name) ∷ [];
        posts = purges n name (lifetime_of n name);
      })
  delete_refused : (from : ℕ) (name : Name) (why : Refusal) (t : Told) (d : DeleteTold) → Unfit (lifetime_of n name).stage why t d
      → Lives n (Hears from (kind.DeleteAsk name)) (record { node = n; answer = Done; entries = entry_of from (what.Refused word.Delete (Region name) why) ∷ []; posts = message_to n from (kind.DeleteIs name d) ∷ [] })
  delete_comes : (from : ℕ) (name : Name) (d : DeleteTold) → n.activity ≡ Waiting (ForDelete name) → Lives n (Hears from (kind.DeleteIs name d)) (only (becomes_ready (delete_answer d) n) Done)
  -- a purge, and its answer
  dooms : (from : ℕ) (name : Name) (m : Mapping) → n.maps name ≡ Some m
      → Lives n (Hears from (kind.Purge name)) (record { node = with_mapping name (Some (record m { doomed = true })) n; answer = Done; entries = []; posts = message_to n from (kind.Purged name) ∷ [] })
  drops : (from : ℕ) (name : Name) (size : ℕ) → n.maps name ≡ None → cached_size name n.cache ≡ Some size
      → Lives n (Hears from (kind.Purge name)) (record { node = forgotten name (record n { cache = cache_without name n.cache }); answer = Done; entries = []; posts = parting n name (n.remotes name) ++ message_to n from (kind.Purged name) ∷ [] })
  warns : (from : ℕ) (name : Name) → n.maps name ≡ None → cached_size name n.cache ≡ None
      → Lives n (Hears from (kind.Purge name)) (record { node = record n { activity = purges_waiting name n.activity }; answer = Done; entries = []; posts = message_to n from (kind.Purged name) ∷ [] })
  counts_off : (from : ℕ) (name : Name) (deleter : ℕ) (m : ℕ) (ms : List ℕ) → is_mine n name ≡ true → (lifetime_of n name).stage ≡ stage.Going deleter → (lifetime_of n name).missing from ≡ true
      → members n.nodes (at_node (lifetime_of n name).missing from false) ≡ m ∷ ms
      → Lives n (Hears from (kind.Purged name)) (only (with_lifetime name (record (lifetime_of n name) { missing = at_node (lifetime_of n name).missing from false }) n) Done)
  ends_own : (from : ℕ) (name : Name) → is_mine n name ≡ true → (lifetime_of n name).stage ≡ stage.Going n.me → (lifetime_of n name).missing from ≡ true
      → members n.nodes (at_node (lifetime_of n name).missing from false) ≡ []
      → Lives n (Hears from (kind.Purged name)) (record {
        node = becomes_ready Done (with_lifetime name (record (lifetime_of n name) { stage = stage.Gone; missing = at_node (lifetime_of n name).missing from false }) n);
        answer = Done;
        entries = entry_of n.me (what.Deleted name) ∷ [];
        posts = [];
      })
  ends_for : (from : ℕ) (name : Name) (deleter : ℕ) → is_mine n name ≡ true → (lifetime_of n name).stage ≡ stage.Going deleter → (deleter == n.me) ≡ false → (lifetime_of n name).missing from ≡ true
      → members n.nodes (at_node (lifetime_of n name).missing from false) ≡ []
      → Lives n (Hears from (kind.Purged name)) (record {
        node = with_lifetime name (record (lifetime_of n name) { stage = stage.Gone; missing = at_node (lifetime_of n name).missing from false }) n;
        answer = Done;
        entries = entry_of deleter (what.Deleted name) ∷ [];
        posts = message_to n deleter (kind.DeleteIs name delete_told.Done) ∷ [];
      })

-- Deeds of collective calls.
abbrev pub with_parts : ℕ → Part → Gathering → Gathering
with_parts j part g = record g { parts = at_node g.parts j (Some part) }

abbrev pub next_round : Gathering → Gathering
next_round g = record { round = g.round + 1; parts = no_parts }

pub data Rounds (n : Node) : Cause → Outcome → Type 0 where
  comes_away : (part : Part) → (n.me == 0) ≡ false → of_part part ≡ None
      → Rounds n (Calls (call.Come part)) (record {
        node = record n { rounds = n.rounds + 1; activity = Waiting (ForRound (n.rounds + 1) (kind_of part)) };
        answer = Wait;
        entries = entry_of n.me (what.Come part) ∷ [];
        posts = message_to n 0 (kind.Come (n.rounds + 1) part) ∷ [];
      })
  comes_home : (part : Part) → (n.me == 0) ≡ true → of_part part ≡ None → all_parts 0 n.nodes (at_node n.gathering.parts 0 (Some part)) ≡ None
      → Rounds n (Calls (call.Come part)) (record {
        node = record n { rounds = n.rounds + 1; gathering = with_parts 0 part n.gathering; activity = Waiting (ForRound (n.rounds + 1) (kind_of part)) };
        answer = Wait;
        entries = entry_of n.me (what.Come part) ∷ [];
        posts = [];
      })
  comes_last : (part : Part) (parts : List Part) → (n.me == 0) ≡ true → of_part part ≡ None → all_parts 0 n.nodes (at_node n.gathering.parts 0 (Some part)) ≡ Some parts
      → Rounds n (Calls (call.Come part)) (record {
        node = record n { rounds = n.rounds + 1; gathering = next_round n.gathering };
        answer = answer_of (n.rounds + 1) (fold_of parts);
        entries = entry_of n.me (what.Come part) ∷ entry_of n.me (result_of (n.rounds + 1) (kind_of part) (fold_of parts)) ∷ [];
        posts = results n (n.rounds + 1) (fold_of parts);
      })
  part_comes : (from round : ℕ) (part : Part) → awaits from n.gathering ≡ true → all_parts 0 n.nodes (at_node n.gathering.parts from (Some part)) ≡ None
      → Rounds n (Hears from (kind.Come round part)) (only (record n { gathering = with_parts from part n.gathering }) Done)
  part_last : (from round : ℕ) (part : Part) (parts : List Part) (mine : ℕ) (k : CallKind) → n.activity ≡ Waiting (ForRound mine k) → awaits from n.gathering ≡ true → all_parts 0 n.nodes (at_node n.gathering.parts from (Some part)) ≡ Some parts
      → Rounds n (Hears from (kind.Come round part)) (record {
        node = becomes_ready (answer_of mine (fold_of parts)) (record n { gathering = next_round n.gathering });
        answer = Done;
        entries = entry_of n.me (result_of mine k (fold_of parts)) ∷ [];
        posts = results n n.gathering.round (fold_of parts);
      })
  -- node 0 doesn't wait, which in a run it does
  part_last_idle : (from round : ℕ) (part : Part) (parts : List Part) → ((mine : ℕ) (k : CallKind) → n.activity ≡ Waiting (ForRound mine k) → ⊥) → awaits from n.gathering ≡ true → all_parts 0 n.nodes (at_node n.gathering.parts from (Some part)) ≡ Some parts
      → Rounds n (Hears from (kind.Come round part)) (record { node = record n { gathering = next_round n.gathering }; answer = Done; entries = []; posts = results n n.gathering.round (fold_of parts) })
  result_comes : (from round : ℕ) (fold : Fold) (k : CallKind) → n.activity ≡ Waiting (ForRound round k)
      → Rounds n (Hears from (kind.Result round fold)) (record { node = becomes_ready (answer_of round fold) n; answer = Done; entries = entry_of n.me (result_of round k fold) ∷ []; posts = [] })

-- Where nothing happens, and why.
abbrev pub IsNowhere : Node → Name → Type 0
IsNowhere n name = (home_of n name ≡ None) × (n.remotes name ≡ None)

abbrev pub Idles : Cause → Node → Type 0
Idles (Calls (call.Put name offset len)) n = Unit {0}
Idles (Calls (call.Add name offset)) n = Unit {0}
Idles (Calls (call.StartRead name)) n = CanStart n false name × IsNowhere n name
Idles (Calls (call.StartWrite name)) n = CanStart n true name × IsNowhere n name
Idles (Calls _) n = ⊥
Idles (Hears from (kind.InfoAsk name)) n = ⊥
Idles (Hears from (kind.InfoIs name t)) n = (purged : Bool) → n.activity ≡ Waiting (ForMap name purged) → ⊥
Idles (Hears from (kind.DeleteAsk name)) n = ⊥
Idles (Hears from (kind.DeleteIs name d)) n = n.activity ≡ Waiting (ForDelete name) → ⊥
Idles (Hears from (kind.Purge name)) n = ⊥
Idles (Hears from (kind.Purged name)) n = (deleter : ℕ) → (lifetime_of n name).stage ≡ stage.Going deleter → (lifetime_of n name).missing from ≡ true → ⊥
Idles (Hears from (kind.Come round part)) n = awaits from n.gathering ≡ false
Idles (Hears from (kind.Result round fold)) n = (k : CallKind) → n.activity ≡ Waiting (ForRound round k) → ⊥
Idles (Hears from (kind.Ask name write have)) n = (h : Home) → home_of n name ≡ Some h → is_queued_in from n.homes ≡ true
Idles (Hears from (kind.Grant name version g)) n = (r : Remote) → n.remotes name ≡ Some r → grant_fits g r ≡ false
Idles (Hears from (kind.Recall name version)) n = n.remotes name ≡ None
Idles (Hears from (kind.Yield name version)) n = n.remotes name ≡ None
Idles (Hears from (kind.Return name version bytes)) n = (h : Home) → home_of n name ≡ Some h → return_fits from version bytes h ≡ false
Idles (Hears from (kind.Release name version bytes)) n = (h : Home) → home_of n name ≡ Some h → release_fits bytes h ≡ false

-- A call about nothing here that still leaves its entry: an end without a copy, and a flush.
pub data Notes (n : Node) : Call → What → Node → Type 0 where
  ends_nowhere : (c : Call) (name : Name) (w : What) (ends : Home → HomeStep) (lowers : Remote → RemoteStep) → EndsCall (bytes_at name n.sections) n c name w ends lowers → IsNowhere n name → Notes n c w (closes name n)
  flushes_own : (name : Name) → is_mine n name ≡ true → CanFlush n name → Notes n (call.Flush name) (what.Flush name) n
  flushes_nowhere : (name : Name) → is_mine n name ≡ false → n.remotes name ≡ None → CanFlush n name → Notes n (call.Flush name) (what.Flush name) n

pub data Deed (n : Node) : Cause → Outcome → Type 0 where
  copies : {cause : Cause} {o : Outcome} → Copies n cause o → Deed n cause o
  lives : {cause : Cause} {o : Outcome} → Lives n cause o → Deed n cause o
  rounds : {cause : Cause} {o : Outcome} → Rounds n cause o → Deed n cause o
  notes : {c : Call} {w : What} {m : Node} → Notes n c w m → Deed n (Calls c) (record { node = m; answer = Done; entries = entry_of n.me w ∷ []; posts = [] })
  refuses : (c : Call) (why : Refusal) → verdict n c ≡ Some why → Deed n (Calls c) (record { node = n; answer = Refused why; entries = entry_of n.me (what.Refused (word_of c) (place_of n c) why) ∷ []; posts = [] })
  idles : {cause : Cause} → Idles cause n → Deed n cause (only n Done)
