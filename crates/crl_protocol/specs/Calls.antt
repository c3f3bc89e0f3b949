-- What each call of a node does that the node doesn't refuse.
use Rattle.std.specs.Prelude.{ℕ, zero, suc, ◌+◌, ◌-◌, ◌==◌, Bool, true, false, if◌then◌else◌, List, [], ◌∷◌, ◌++◌, map}
use Rattle.std.specs.declared.option.Option.{Option}
use Rattle.std.specs.declared.option.Option.TheVariants.{None, Some}
use Rattle.crl_model.specs.declared.name.Name.{Name}
use Rattle.crl_model.specs.declared.stage.Stage.{Stage}
use Rattle.crl_model.specs.declared.stage.Stage.TheVariants as stage
use Rattle.crl_model.specs.declared.collective.Part.{Part}
use Rattle.crl_model.specs.declared.collective.Fold.{Fold}
use Rattle.crl_model.specs.declared.collective.Fold.TheVariants.{Mixed}
use Rattle.crl_model.specs.declared.call.Call.{Call}
use Rattle.crl_model.specs.declared.call.Call.TheVariants as call
use Rattle.crl_model.specs.declared.call.CallKind.{CallKind}
use Rattle.crl_model.specs.declared.call.Refusal.{Refusal}
use Rattle.crl_model.specs.declared.call.Refusal.TheVariants as refusal
use Rattle.crl_model.specs.declared.entry.Entry.{Entry}
use Rattle.crl_model.specs.declared.entry.Place.TheVariants.{Round}
use Rattle.crl_model.specs.declared.entry.What.{What}
use Rattle.crl_model.specs.declared.entry.What.TheVariants as what
use Rattle.crl_model.specs.declared.message.Message.{Message}
use Rattle.crl_model.specs.declared.message.Kind.TheVariants as kind
use Rattle.crl_model.specs.Calls.{kind_of}
use Rattle.crl_protocol.specs.Home.{Home, new_home}
use Rattle.crl_protocol.specs.Lifetimes.{Mapping, new_mapping, cache_with, cached_size, cache_without, Lifetime, new_lifetime, lifetime_begins_delete, members}
use Rattle.crl_protocol.specs.Gathering.{gathers}
use Rattle.crl_protocol.specs.Node.{Node, Answer, Made, Mapped, Done, Came, Refused, Wait, ForMap, ForDelete, ForRound, Waiting, Outcome, only, next_name, serials_used, is_mine, home_of, lifetime_of, with_lifetime, with_mapping, message_to, entry_of}
use Rattle.crl_protocol.specs.Sectioning.{waits, with_entry_first, forgets, starts, ends_read, ends_write, flushes}
use Rattle.crl_protocol.specs.Verdict.{verdict, refuses_call}
use Rattle.crl_model.specs.Names.{at_node}

-- a create
abbrev pub creates : ℕ → Node → Outcome
creates size n = record {
  node = record n { homes = n.homes ++ Some (new_home n.nodes size) ∷ []; lifetimes = at_node n.lifetimes (serials_used n + 1) new_lifetime };
  answer = Made (next_name n);
  entries = entry_of n.me (what.Create (next_name n) size) ∷ [];
  posts = [];
}

-- A delete. Its home tells the nodes that asked for the region, by number.
abbrev pub purges : Node → Name → Lifetime → List Message
purges n name lifetime = map (λ m. message_to n m (kind.Purge name)) (members n.nodes lifetime.asked)

abbrev pub delete_entries : ℕ → Name → Stage → List Entry
delete_entries deleter name stage.Gone = entry_of deleter (what.Deleting name) ∷ entry_of deleter (what.Deleted name) ∷ []
delete_entries deleter name _ = entry_of deleter (what.Deleting name) ∷ []

abbrev pub is_gone : Stage → Bool
is_gone stage.Gone = true
is_gone _ = false

abbrev pub deletes_own : Name → Lifetime → Node → Outcome
deletes_own name lifetime n = record {
  node = let m = with_lifetime name lifetime n in if is_gone lifetime.stage then m else record m { activity = Waiting (ForDelete name) };
  answer = if is_gone lifetime.stage then Done else Wait;
  entries = delete_entries n.me name lifetime.stage;
  posts = if is_gone lifetime.stage then [] else purges n name lifetime;
}

abbrev pub deletes : Name → Node → Outcome
deletes name n =
    if is_mine n name then deletes_own name (lifetime_begins_delete n.nodes n.me (lifetime_of n name)) n
    else waits n (ForDelete name) (message_to n name.home (kind.DeleteAsk name) ∷ [])

-- A map, of a region that is mapped here, that is cached here, or that this node is the home of; else its
-- home is asked.
abbrev pub maps_in : Name → Mapping → Node → Outcome
maps_in name m n = record {
  node = with_mapping name (Some m) n;
  answer = Mapped name m.size;
  entries = entry_of n.me (what.Map name m.size) ∷ [];
  posts = [];
}

abbrev pub size_of : Option Home → ℕ
size_of None = 0
size_of (Some h) = h.size

abbrev pub maps_cached : Name → Option ℕ → Node → Outcome
maps_cached name (Some size) n = maps_in name (new_mapping size false) (record n { cache = cache_without name n.cache })
maps_cached name None n = waits n (ForMap name false) (message_to n name.home (kind.InfoAsk name) ∷ [])

abbrev pub maps_over : Name → Option Mapping → Node → Outcome
maps_over name (Some m) n = maps_in name (record m { count = m.count + 1 }) n
maps_over name None n =
    if is_mine n name then maps_in name (new_mapping (size_of (home_of n name)) false) n
    else maps_cached name (cached_size name n.cache) n

abbrev pub forgets_evicted : Option Name → Node → Outcome
forgets_evicted None n = only n Done
forgets_evicted (Some name) n = forgets name n

-- An unmap. With the last, another home's region goes into the cache, or is forgotten where it is doomed.
abbrev pub caches : Name → ℕ → Node → Outcome
caches name size n =
    let kept = cache_with n.capacity (record { name = name; size = size }) n.cache in
    forgets_evicted kept.evicted (record n { cache = kept.cache })

abbrev pub parts_with : Name → Mapping → Node → Outcome
parts_with name m n =
    if is_mine n name then only n Done
    else if m.doomed then forgets name n
    else caches name m.size n

abbrev pub unmaps_over : Name → Option Mapping → Node → Outcome
unmaps_over name None n = only n Done
unmaps_over name (Some m) n =
    if m.count == 1 then parts_with name m (with_mapping name None n)
    else only (with_mapping name (Some (record m { count = m.count - 1 })) n) Done

abbrev pub unmaps : Name → Node → Outcome
unmaps name n = with_entry_first (what.Unmap name) (unmaps_over name (n.maps name) n)

-- What a round gives: a node records it as its result, or as its call refused where the parts didn't agree.
abbrev pub result_of : ℕ → CallKind → Fold → What
result_of round kind Mixed = what.Refused kind (Round round) refusal.Mixed
result_of round kind fold = what.Came round fold

abbrev pub answer_of : ℕ → Fold → Answer
answer_of round Mixed = Refused refusal.Mixed
answer_of round fold = Came round fold

-- the nodes but node 0 are told what the round gives, by number
abbrev pub results_from : Node → ℕ → ℕ → ℕ → Fold → List Message
results_from n m zero round fold = []
results_from n m (suc k) round fold = message_to n m (kind.Result round fold) ∷ results_from n (m + 1) k round fold

abbrev pub results : Node → ℕ → Fold → List Message
results n round fold = results_from n 1 (n.nodes - 1) round fold

-- A node comes to its next round. Node 0 gathers it, and is done at once where it is the last.
abbrev pub after_own_part : ℕ → CallKind → Option Fold → Node → Outcome
after_own_part round kind None n = waits n (ForRound round kind) []
after_own_part round kind (Some fold) n = record {
  node = n;
  answer = answer_of round fold;
  entries = entry_of n.me (result_of round kind fold) ∷ [];
  posts = results n round fold;
}

abbrev pub comes_to : ℕ → Part → Node → Outcome
comes_to round part n =
    if n.me == 0
    then (let g = gathers n.nodes 0 part n.gathering in after_own_part round (kind_of part) g.fold (record n { gathering = g.gathering }))
    else waits n (ForRound round (kind_of part)) (message_to n 0 (kind.Come round part) ∷ [])

abbrev pub comes : Part → Node → Outcome
comes part n = with_entry_first (what.Come part) (comes_to (n.rounds + 1) part (record n { rounds = n.rounds + 1 }))

-- A call that isn't refused. A change inside a write section is no event: it is made on the guard's bytes.
unfoldable pub takes_call : Call → Node → Outcome
takes_call (call.Create size) n = creates size n
takes_call (call.Delete name) n = deletes name n
takes_call (call.Map name) n = maps_over name (n.maps name) n
takes_call (call.Unmap name) n = unmaps name n
takes_call (call.StartRead name) n = starts false name n
takes_call (call.EndRead name) n = ends_read name n
takes_call (call.StartWrite name) n = starts true name n
takes_call (call.EndWrite name after) n = ends_write name after n
takes_call (call.Put name offset len) n = only n Done
takes_call (call.Add name offset) n = only n Done
takes_call (call.Flush name) n = flushes name n
takes_call (call.Come part) n = comes part n

abbrev pub call_or_refuse : Option Refusal → Call → Node → Outcome
call_or_refuse None c n = takes_call c n
call_or_refuse (Some why) c n = refuses_call why c n

-- a call of the node
abbrev pub node_calls : Call → Node → Outcome
node_calls c n = call_or_refuse (verdict n c) c n
