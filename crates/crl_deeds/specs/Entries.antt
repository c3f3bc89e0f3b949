-- Where entries are decided: which entries a node records with a call and with a message, by what it knows then. An
-- entry stands for the node whose call it is about: a map and a delete are decided at the home, for the node that asks.
use Rattle.std.specs.Prelude.{ℕ, ◌+◌, ◌==◌, Bool, true, false, ◌&&◌, if◌then◌else◌, List, [], ◌∷◌}
use Rattle.std.specs.declared.option.Option.{Option}
use Rattle.std.specs.declared.option.Option.TheVariants.{None, Some}
use Rattle.crl_model.specs.declared.name.Name.{Name}
use Rattle.crl_model.specs.declared.stage.Stage.{Stage}
use Rattle.crl_model.specs.declared.stage.Stage.TheVariants as stage
use Rattle.crl_model.specs.declared.collective.Part.{Part}
use Rattle.crl_model.specs.declared.collective.Fold.{Fold}
use Rattle.crl_model.specs.declared.call.Call.{Call}
use Rattle.crl_model.specs.declared.call.Call.TheVariants as call
use Rattle.crl_model.specs.declared.call.CallKind.{CallKind}
use Rattle.crl_model.specs.declared.call.CallKind.TheVariants as word
use Rattle.crl_model.specs.declared.call.Refusal.{Refusal}
use Rattle.crl_model.specs.declared.call.Refusal.TheVariants as refusal
use Rattle.crl_model.specs.declared.entry.Entry.{Entry}
use Rattle.crl_model.specs.declared.entry.Place.TheVariants.{Region}
use Rattle.crl_model.specs.declared.entry.What.TheVariants as what
use Rattle.crl_model.specs.declared.event.Event.{Event}
use Rattle.crl_model.specs.declared.event.Event.TheVariants as event
use Rattle.crl_model.specs.declared.message.Granted.{Granted}
use Rattle.crl_model.specs.declared.message.Kind.{Kind}
use Rattle.crl_model.specs.declared.message.Kind.TheVariants as kind
use Rattle.crl_model.specs.Calls.{kind_of}
use Rattle.crl_model.specs.Names.{at_node}
use Rattle.crl_model.specs.FoldOf.{fold_of}
use Rattle.crl_pieces.specs.Pieces.{is_missing, is_complete, joined}
use Rattle.crl_protocol.specs.Parcels.{Piece, Key, key_of, with_load, slots_or, fits_size}
use Rattle.crl_protocol.specs.Receiving.{size_for, slots_with}
use Rattle.crl_protocol.specs.Places.{Taken, take_out}
use Rattle.crl_protocol.specs.Home.{Home, HomeStep, home_takes_ask, home_takes_return, home_takes_release, home_starts, return_fits, release_fits}
use Rattle.crl_protocol.specs.Remote.{Remote, remote_starts, grant_fits, asks_to_write}
use Rattle.crl_protocol.specs.Lifetimes.{Mapping, cached_size, members}
use Rattle.crl_protocol.specs.Gathering.{all_parts, awaits}
use Rattle.crl_protocol.specs.Sections.{bytes_at, is_writing}
use Rattle.crl_protocol.specs.Node.{Node, Activity, Waiting, ForRound, next_name, is_mine, home_of, lifetime_of, entry_of}
use Rattle.crl_protocol.specs.Verdict.{word_of, place_of, verdict}
use Rattle.crl_protocol.specs.Calls.{size_of, result_of}
use Rattle.crl_protocol.specs.Handlers.{is_queued_in}
use Rattle.crl_protocol.specs.World.{World}
use Rattle.crl_deeds.specs.Deeds.{Cause, Calls, Hears}

-- A section of the region that opens, and none where it doesn't.
abbrev pub entries_of_start : Bool → ℕ → Bool → Name → List Entry
entries_of_start opened me write q = if opened then entry_of me (if write then what.StartWrite q else what.StartRead q) ∷ [] else []

-- a section opens at the call over the home's table, or over the node's copy
abbrev pub opens_at_once : ℕ → Bool → Option Home → Option Remote → Bool
opens_at_once me write (Some h) r = (home_starts me write h).opened
opens_at_once me write None (Some r) = (remote_starts write r).opened
opens_at_once me write None None = false

-- the home's own section opens with a message that its table takes
abbrev pub entries_of_serve : ℕ → Name → HomeStep → List Entry
entries_of_serve me q s = entries_of_start s.opened me (is_writing s.home.mine) q

abbrev pub entries_of_ask : ℕ → Bool → Name → Bool → ℕ → ℕ → Option Home → List Entry
entries_of_ask me queued q write have from None = []
entries_of_ask me queued q write have from (Some h) = if queued then [] else entries_of_serve me q (home_takes_ask me (record { node = from; write = write; have = have }) h)

abbrev pub entries_of_return : ℕ → Name → ℕ → Option (List ℕ) → ℕ → Option Home → List Entry
entries_of_return me q version bytes from None = []
entries_of_return me q version bytes from (Some h) = if return_fits from version bytes h then entries_of_serve me q (home_takes_return me from bytes h) else []

abbrev pub entries_of_release : ℕ → Name → ℕ → List ℕ → ℕ → Option Home → List Entry
entries_of_release me q version bytes from None = []
entries_of_release me q version bytes from (Some h) = if release_fits bytes h then entries_of_serve me q (home_takes_release me from version bytes h) else []

abbrev pub entries_of_grant : ℕ → Name → Granted → Option Remote → List Entry
entries_of_grant me q granted None = []
entries_of_grant me q granted (Some r) = entries_of_start (grant_fits granted r) me (asks_to_write r.asking) q

-- A map, and a delete, that the home decides for a node by the region's stage.
abbrev pub refused_at : ℕ → CallKind → Name → Refusal → List Entry
refused_at node word q why = entry_of node (what.Refused word (Region q) why) ∷ []

abbrev pub entries_of_map : ℕ → Name → ℕ → Stage → List Entry
entries_of_map node q size stage.Unknown = refused_at node word.Map q refusal.Unknown
entries_of_map node q size stage.Live = entry_of node (what.Map q size) ∷ []
entries_of_map node q size (stage.Going deleter) = refused_at node word.Map q refusal.Deleted
entries_of_map node q size stage.Gone = refused_at node word.Map q refusal.Deleted

-- by the nodes that asked for the region: without any it is deleted at once
abbrev pub entries_of_delete : ℕ → Name → List ℕ → Stage → List Entry
entries_of_delete node q asked stage.Unknown = refused_at node word.Delete q refusal.Unknown
entries_of_delete node q [] stage.Live = entry_of node (what.Deleting q) ∷ entry_of node (what.Deleted q) ∷ []
entries_of_delete node q (m ∷ ms) stage.Live = entry_of node (what.Deleting q) ∷ []
entries_of_delete node q asked (stage.Going deleter) = refused_at node word.Delete q refusal.Deleted
entries_of_delete node q asked stage.Gone = refused_at node word.Delete q refusal.Deleted

-- the answer to a purge ends the delete where it was missing and no other is
abbrev pub entries_of_purged : Name → Bool → List ℕ → Stage → List Entry
entries_of_purged q true [] (stage.Going deleter) = entry_of deleter (what.Deleted q) ∷ []
entries_of_purged q missing left s = []

-- a map at the call: of a region that is mapped here, that has its home here, or that is in the cache
abbrev pub entries_of_cached : ℕ → Name → Option ℕ → List Entry
entries_of_cached me q (Some size) = entry_of me (what.Map q size) ∷ []
entries_of_cached me q None = []

abbrev pub entries_of_mapping : Node → Name → Option Mapping → List Entry
entries_of_mapping n q (Some m) = entry_of n.me (what.Map q m.size) ∷ []
entries_of_mapping n q None =
    if is_mine n q then entry_of n.me (what.Map q (size_of (home_of n q))) ∷ [] else entries_of_cached n.me q (cached_size q n.cache)

-- The result of a round, where the node learns it: with the last part, or with the Result.
abbrev pub entries_of_round : ℕ → ℕ → CallKind → Option (List Part) → List Entry
entries_of_round me round word None = []
entries_of_round me round word (Some parts) = entry_of me (result_of round word (fold_of parts)) ∷ []

abbrev pub entries_of_part : ℕ → Option (List Part) → Activity → List Entry
entries_of_part me parts (Waiting (ForRound round word)) = entries_of_round me round word parts
entries_of_part me parts _ = []

abbrev pub entries_of_result : ℕ → ℕ → Fold → Activity → List Entry
entries_of_result me round fold (Waiting (ForRound waited word)) = if waited == round then entry_of me (result_of round word fold) ∷ [] else []
entries_of_result me round fold _ = []

-- A call: the node's own refusal, or what the call does at once.
abbrev pub entries_of_call : Node → Call → Option Refusal → List Entry
entries_of_call n c (Some why) = entry_of n.me (what.Refused (word_of c) (place_of n c) why) ∷ []
entries_of_call n (call.Create size) None = entry_of n.me (what.Create (next_name n) size) ∷ []
entries_of_call n (call.Delete q) None = if is_mine n q then entries_of_delete n.me q (members n.nodes (lifetime_of n q).asked) (lifetime_of n q).stage else []
entries_of_call n (call.Map q) None = entries_of_mapping n q (n.maps q)
entries_of_call n (call.Unmap q) None = entry_of n.me (what.Unmap q) ∷ []
entries_of_call n (call.StartRead q) None = entries_of_start (opens_at_once n.me false (home_of n q) (n.remotes q)) n.me false q
entries_of_call n (call.EndRead q) None = entry_of n.me (what.Read q (bytes_at q n.sections)) ∷ []
entries_of_call n (call.StartWrite q) None = entries_of_start (opens_at_once n.me true (home_of n q) (n.remotes q)) n.me true q
entries_of_call n (call.EndWrite q after) None = entry_of n.me (what.Write q (bytes_at q n.sections) after) ∷ []
entries_of_call n (call.Put q offset len) None = []
entries_of_call n (call.Add q offset) None = []
entries_of_call n (call.Flush q) None = entry_of n.me (what.Flush q) ∷ []
entries_of_call n (call.Come part) None =
    entry_of n.me (what.Come part) ∷ (if n.me == 0 then entries_of_round n.me (n.rounds + 1) (kind_of part) (all_parts 0 n.nodes (at_node n.gathering.parts 0 (Some part))) else [])

-- A message, with all its bytes.
abbrev pub entries_of_message : Node → ℕ → Kind → List Entry
entries_of_message n from (kind.InfoAsk q) = entries_of_map from q (size_of (home_of n q)) (lifetime_of n q).stage
entries_of_message n from (kind.InfoIs q told) = []
entries_of_message n from (kind.Ask q write have) = entries_of_ask n.me (is_queued_in from n.homes) q write have from (home_of n q)
entries_of_message n from (kind.Grant q version granted) = entries_of_grant n.me q granted (n.remotes q)
entries_of_message n from (kind.Recall q version) = []
entries_of_message n from (kind.Yield q version) = []
entries_of_message n from (kind.Return q version bytes) = entries_of_return n.me q version bytes from (home_of n q)
entries_of_message n from (kind.Release q version bytes) = entries_of_release n.me q version bytes from (home_of n q)
entries_of_message n from (kind.DeleteAsk q) = entries_of_delete from q (members n.nodes (lifetime_of n q).asked) (lifetime_of n q).stage
entries_of_message n from (kind.DeleteIs q told) = []
entries_of_message n from (kind.Purge q) = []
entries_of_message n from (kind.Purged q) =
    entries_of_purged q ((lifetime_of n q).missing from) (members n.nodes (at_node (lifetime_of n q).missing from false)) (lifetime_of n q).stage
entries_of_message n from (kind.Come round part) =
    if awaits from n.gathering then entries_of_part n.me (all_parts 0 n.nodes (at_node n.gathering.parts from (Some part))) n.activity else []
entries_of_message n from (kind.Result round fold) = entries_of_result n.me round fold n.activity

abbrev pub entries_of : Node → Cause → List Entry
entries_of n (Calls c) = entries_of_call n c (verdict n c)
entries_of n (Hears from k) = entries_of_message n from k

-- The message that a piece makes whole where it comes, with all its bytes; none where the piece is only kept.
abbrev pub made_whole_of_size : Key → Piece → Option ℕ → Node → Option Kind
made_whole_of_size key p None n = None
made_whole_of_size key p (Some size) n =
    if fits_size size p && is_missing p.index (slots_or p.pieces (n.parcels key))
    then (if is_complete (slots_with p (n.parcels key)) then Some (with_load (joined (slots_with p (n.parcels key))) p.message.kind) else None)
    else None

abbrev pub made_whole_as : Option Key → Piece → Node → Option Kind
made_whole_as None p n = Some p.message.kind
made_whole_as (Some key) p n = made_whole_of_size key p (size_for key.load key.name n) n

abbrev pub made_whole : Piece → Node → Option Kind
made_whole p n = made_whole_as (key_of p.message) p n

abbrev pub entries_of_heard : Node → ℕ → Option Kind → List Entry
entries_of_heard n from None = []
entries_of_heard n from (Some k) = entries_of n (Hears from k)

abbrev pub entries_of_taken : Node → Option (Taken Piece) → List Entry
entries_of_taken n None = []
entries_of_taken n (Some t) = let m = record n { inbox = t.rest } in entries_of_heard m t.taken.message.sender (made_whole t.taken m)

-- An event: a call, and a piece that makes its message whole. An answer that is taken, and a piece that is carried, decide nothing.
abbrev pub entries_at : Event → World → List Entry
entries_at (event.Call i c) w = entries_of (w.nodes i) (Calls c)
entries_at (event.Collect i) w = []
entries_at (event.Handle i place) w = entries_of_taken (w.nodes i) (take_out place (w.nodes i).inbox)
entries_at (event.Carry i place) w = []
