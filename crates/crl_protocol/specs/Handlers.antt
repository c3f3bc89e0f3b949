-- What a node does with a message. One that doesn't fit changes nothing but that it is gone. In a run no such
-- message comes, which is for the proofs to show.
use Rattle.std.specs.Prelude.{ℕ, ◌==◌, Bool, true, false, ◌||◌, if◌then◌else◌, List, [], ◌∷◌, ◌++◌}
use Rattle.std.specs.declared.option.Option.{Option}
use Rattle.std.specs.declared.option.Option.TheVariants.{None, Some}
use Rattle.crl_model.specs.declared.name.Name.{Name}
use Rattle.crl_model.specs.declared.stage.Stage.{Stage}
use Rattle.crl_model.specs.declared.stage.Stage.TheVariants as stage
use Rattle.crl_model.specs.declared.directory.Asked.{Asked}
use Rattle.crl_model.specs.declared.collective.Part.{Part}
use Rattle.crl_model.specs.declared.collective.Fold.{Fold}
use Rattle.crl_model.specs.declared.call.CallKind.TheVariants as word
use Rattle.crl_model.specs.declared.call.Refusal.{Refusal}
use Rattle.crl_model.specs.declared.call.Refusal.TheVariants as refusal
use Rattle.crl_model.specs.declared.entry.Entry.{Entry}
use Rattle.crl_model.specs.declared.entry.Place.TheVariants.{Region}
use Rattle.crl_model.specs.declared.entry.What.TheVariants as what
use Rattle.crl_model.specs.declared.message.Told.{Told}
use Rattle.crl_model.specs.declared.message.Told.TheVariants as told
use Rattle.crl_model.specs.declared.message.DeleteTold.{DeleteTold}
use Rattle.crl_model.specs.declared.message.DeleteTold.TheVariants as delete_told
use Rattle.crl_model.specs.declared.message.Granted.{Granted}
use Rattle.crl_model.specs.declared.message.Message.{Message}
use Rattle.crl_model.specs.declared.message.Kind.{Kind}
use Rattle.crl_model.specs.declared.message.Kind.TheVariants as kind
use Rattle.crl_model.specs.Names.{name_eq}
use Rattle.crl_protocol.specs.Home.{Home, home_takes_ask, home_takes_return, home_takes_release, return_fits, release_fits}
use Rattle.crl_protocol.specs.Remote.{Remote, RemoteStep, new_remote, remote_takes_grant, remote_takes_recall, remote_takes_yield, grant_fits, asks_to_write}
use Rattle.crl_protocol.specs.Lifetimes.{Mapping, new_mapping, cached_size, cache_without, Lifetime, lifetime_with_asker, lifetime_begins_delete, lifetime_takes_purged}
use Rattle.crl_protocol.specs.Gathering.{gathers, awaits}
use Rattle.crl_protocol.specs.Node.{Node, Answer, Mapped, Done, Refused, ForMap, ForDelete, ForRound, Activity, Waiting, Ready, Outcome, only, is_mine, home_of, lifetime_of, with_lifetime, with_remote, with_mapping, message_to, entry_of, section_opens}
use Rattle.crl_protocol.specs.Sectioning.{copy_bytes, after_serve, after_remote, forgets}
use Rattle.crl_protocol.specs.Calls.{size_of, purges, delete_entries, is_gone, result_of, answer_of, results}

-- nothing but that the message is gone
abbrev pub ignores : Node → Outcome
ignores n = only n Done

-- the node is ready with the answer
abbrev pub becomes_ready : Answer → Node → Node
becomes_ready answer n = record n { activity = Ready answer }

-- InfoAsk: a node maps the region, and this home knows of it from now on.
abbrev pub told_by_stage : Stage → ℕ → Told
told_by_stage stage.Unknown size = told.Unknown
told_by_stage stage.Live size = told.Live size
told_by_stage (stage.Going deleter) size = told.Deleted
told_by_stage stage.Gone size = told.Deleted

abbrev pub map_entry : ℕ → Name → Told → Entry
map_entry from name (told.Live size) = entry_of from (what.Map name size)
map_entry from name told.Unknown = entry_of from (what.Refused word.Map (Region name) refusal.Unknown)
map_entry from name told.Deleted = entry_of from (what.Refused word.Map (Region name) refusal.Deleted)

abbrev pub takes_info_ask : ℕ → Name → Node → Outcome
takes_info_ask from name n =
    let lifetime = lifetime_of n name in
    let answer = told_by_stage lifetime.stage (size_of (home_of n name)) in
    record {
      node = if is_mine n name then with_lifetime name (lifetime_with_asker from lifetime) n else n;
      answer = Done;
      entries = map_entry from name answer ∷ [];
      posts = message_to n from (kind.InfoIs name answer) ∷ [];
    }

-- InfoIs: the map that waits is done or refused.
abbrev pub after_info : Name → Bool → Told → Node → Node
after_info name takes_purged (told.Live size) n =
    becomes_ready (Mapped name size) (with_mapping name (Some (new_mapping size takes_purged)) (with_remote name (Some (new_remote size)) n))
after_info name takes_purged told.Unknown n = becomes_ready (Refused refusal.Unknown) n
after_info name takes_purged told.Deleted n = becomes_ready (Refused refusal.Deleted) n

abbrev pub takes_info : Name → Told → Activity → Node → Outcome
takes_info name told (Waiting (ForMap waited takes_purged)) n =
    if name_eq waited name then only (after_info name takes_purged told n) Done else ignores n
takes_info name told _ n = ignores n

-- Ask: at most one ask of a node waits at a home, over all of its regions.
abbrev pub is_queued : ℕ → List Asked → Bool
is_queued from [] = false
is_queued from (ask ∷ queue) = (ask.node == from) || is_queued from queue

abbrev pub is_queued_in : ℕ → List (Option Home) → Bool
is_queued_in from [] = false
is_queued_in from (None ∷ homes) = is_queued_in from homes
is_queued_in from (Some h ∷ homes) = is_queued from h.queue || is_queued_in from homes

abbrev pub takes_ask : ℕ → Name → Bool → ℕ → Option Home → Node → Outcome
takes_ask from name write have None n = ignores n
takes_ask from name write have (Some h) n =
    if is_queued_in from n.homes then ignores n
    else after_serve name (home_takes_ask n.me (record { node = from; write = write; have = have }) h) n

-- Return and Release
abbrev pub takes_return : ℕ → Name → ℕ → Option (List ℕ) → Option Home → Node → Outcome
takes_return from name version bytes None n = ignores n
takes_return from name version bytes (Some h) n =
    if return_fits from version bytes h then after_serve name (home_takes_return n.me from bytes h) n else ignores n

abbrev pub takes_release : ℕ → Name → ℕ → List ℕ → Option Home → Node → Outcome
takes_release from name version bytes None n = ignores n
takes_release from name version bytes (Some h) n =
    if release_fits bytes h then after_serve name (home_takes_release n.me from version bytes h) n else ignores n

-- Grant: the section opens for which the node waits.
abbrev pub opens_with_grant : Name → Bool → Remote → Node → Outcome
opens_with_grant name write r n =
    let o = section_opens write name (copy_bytes r.copy) (with_remote name (Some r) n) in
    record { node = becomes_ready o.answer o.node; answer = Done; entries = o.entry ∷ []; posts = [] }

abbrev pub takes_grant : Name → ℕ → Granted → Option Remote → Node → Outcome
takes_grant name version what None n = ignores n
takes_grant name version what (Some r) n =
    if grant_fits what r then opens_with_grant name (asks_to_write r.asking) (remote_takes_grant version what r) n else ignores n

-- Recall and Yield
abbrev pub takes_call_back : Name → (Remote → RemoteStep) → Option Remote → Node → Outcome
takes_call_back name step None n = ignores n
takes_call_back name step (Some r) n = after_remote name (step r) n

-- DeleteAsk: a node deletes the region.
abbrev pub refuses_delete : ℕ → Name → Refusal → DeleteTold → Node → Outcome
refuses_delete from name why answer n = record {
  node = n;
  answer = Done;
  entries = entry_of from (what.Refused word.Delete (Region name) why) ∷ [];
  posts = message_to n from (kind.DeleteIs name answer) ∷ [];
}

abbrev pub begins_delete : ℕ → Name → Lifetime → Node → Outcome
begins_delete from name lifetime n = record {
  node = with_lifetime name lifetime n;
  answer = Done;
  entries = delete_entries from name lifetime.stage;
  posts = if is_gone lifetime.stage then message_to n from (kind.DeleteIs name delete_told.Done) ∷ [] else purges n name lifetime;
}

abbrev pub takes_delete_ask : ℕ → Name → Stage → Node → Outcome
takes_delete_ask from name stage.Unknown n = refuses_delete from name refusal.Unknown delete_told.Unknown n
takes_delete_ask from name stage.Live n = begins_delete from name (lifetime_begins_delete n.nodes from (lifetime_of n name)) n
takes_delete_ask from name (stage.Going deleter) n = refuses_delete from name refusal.Deleted delete_told.Deleted n
takes_delete_ask from name stage.Gone n = refuses_delete from name refusal.Deleted delete_told.Deleted n

-- DeleteIs: the delete that waits is done or refused.
abbrev pub delete_answer : DeleteTold → Answer
delete_answer delete_told.Done = Done
delete_answer delete_told.Unknown = Refused refusal.Unknown
delete_answer delete_told.Deleted = Refused refusal.Deleted

abbrev pub takes_delete_told : Name → DeleteTold → Activity → Node → Outcome
takes_delete_told name told (Waiting (ForDelete waited)) n =
    if name_eq waited name then only (becomes_ready (delete_answer told) n) Done else ignores n
takes_delete_told name told _ n = ignores n

-- Purge: a cached region is forgotten, a mapped one is doomed, and one that is being mapped will be.
abbrev pub purges_waiting : Name → Activity → Activity
purges_waiting name (Waiting (ForMap waited takes_purged)) = Waiting (ForMap waited (takes_purged || name_eq waited name))
purges_waiting name activity = activity

abbrev pub purge_over_cache : Name → Option ℕ → Node → Outcome
purge_over_cache name None n = only (record n { activity = purges_waiting name n.activity }) Done
purge_over_cache name (Some size) n = forgets name (record n { cache = cache_without name n.cache })

abbrev pub purge_over : Name → Option Mapping → Node → Outcome
purge_over name (Some m) n = only (with_mapping name (Some (record m { doomed = true })) n) Done
purge_over name None n = purge_over_cache name (cached_size name n.cache) n

abbrev pub with_post_last : Message → Outcome → Outcome
with_post_last m o = record o { posts = o.posts ++ m ∷ [] }

abbrev pub takes_purge : ℕ → Name → Node → Outcome
takes_purge from name n = with_post_last (message_to n from (kind.Purged name)) (purge_over name (n.maps name) n)

-- Purged: with the last answer the delete is done.
abbrev pub delete_done_at : ℕ → Name → Node → Outcome
delete_done_at deleter name n = record {
  node = if deleter == n.me then becomes_ready Done n else n;
  answer = Done;
  entries = entry_of deleter (what.Deleted name) ∷ [];
  posts = if deleter == n.me then [] else message_to n deleter (kind.DeleteIs name delete_told.Done) ∷ [];
}

abbrev pub ends_delete_by : Name → Stage → Lifetime → Node → Outcome
ends_delete_by name (stage.Going deleter) lifetime n =
    if is_gone lifetime.stage then delete_done_at deleter name (with_lifetime name lifetime n) else only (with_lifetime name lifetime n) Done
ends_delete_by name _ lifetime n = ignores n

abbrev pub takes_purged : ℕ → Name → Node → Outcome
takes_purged from name n =
    let lifetime = lifetime_of n name in
    if lifetime.missing from then ends_delete_by name lifetime.stage (lifetime_takes_purged n.nodes from lifetime) n else ignores n

-- Come: node 0 gathers the node's part, and with the last of them all nodes are told.
abbrev pub own_result : Fold → Activity → Node → Outcome
own_result fold (Waiting (ForRound round kind)) n = record {
  node = becomes_ready (answer_of round fold) n;
  answer = Done;
  entries = entry_of n.me (result_of round kind fold) ∷ [];
  posts = [];
}
own_result fold _ n = only n Done

abbrev pub after_part_of : ℕ → Option Fold → Node → Outcome
after_part_of round None n = only n Done
after_part_of round (Some fold) n = let o = own_result fold n.activity n in record o { posts = results n round fold }

abbrev pub takes_part : ℕ → Part → Node → Outcome
takes_part from part n =
    if awaits from n.gathering
    then (let g = gathers n.nodes from part n.gathering in after_part_of n.gathering.round g.fold (record n { gathering = g.gathering }))
    else ignores n

-- Result: the round for which the node waits is over.
abbrev pub takes_result : ℕ → Fold → Activity → Node → Outcome
takes_result round fold (Waiting (ForRound waited kind)) n =
    if waited == round
    then record { node = becomes_ready (answer_of round fold) n; answer = Done; entries = entry_of n.me (result_of round kind fold) ∷ []; posts = [] }
    else ignores n
takes_result round fold _ n = ignores n

-- a message from this node, of this kind
unfoldable pub node_handles : ℕ → Kind → Node → Outcome
node_handles from (kind.InfoAsk name) n = takes_info_ask from name n
node_handles from (kind.InfoIs name told) n = takes_info name told n.activity n
node_handles from (kind.Ask name write have) n = takes_ask from name write have (home_of n name) n
node_handles from (kind.Grant name version what) n = takes_grant name version what (n.remotes name) n
node_handles from (kind.Recall name version) n = takes_call_back name (remote_takes_recall version) (n.remotes name) n
node_handles from (kind.Return name version bytes) n = takes_return from name version bytes (home_of n name) n
node_handles from (kind.DeleteAsk name) n = takes_delete_ask from name (lifetime_of n name).stage n
node_handles from (kind.DeleteIs name told) n = takes_delete_told name told n.activity n
node_handles from (kind.Purge name) n = takes_purge from name n
node_handles from (kind.Purged name) n = takes_purged from name n
node_handles from (kind.Come round part) n = takes_part from part n
node_handles from (kind.Result round fold) n = takes_result round fold n.activity n
node_handles from (kind.Yield name version) n = takes_call_back name (remote_takes_yield version) (n.remotes name) n
node_handles from (kind.Release name version bytes) n = takes_release from name version bytes (home_of n name) n
