-- What the nodes of a run recorded is what the run told.
use Rattle.std.proofs.Common.{◌≡◌, ◌∙◌, sym, ap, refl, ◌+◌, ◌<◌, ◌≤◌, ◌==◌, ◌&&◌, Bool, true, false, if◌then◌else◌, Option, Some, None, ℕ, zero, suc, List, [], ◌∷◌, ◌++◌, length, get_or, subst, append_assoc, zero-add, arith}
use Rattle.std.proofs.lemmas.Bool.{eqb-true, and_parts, ltb-true}
use Rattle.crl_model.specs.declared.event.Event.{Event}
use Rattle.crl_model.specs.declared.event.Event.TheVariants as event
use Rattle.crl_model.specs.declared.entry.Entry.{Entry}
use Rattle.crl_model.specs.declared.journal.Recorded.{Recorded}
use Rattle.crl_model.specs.declared.message.Kind.{Kind}
use Rattle.crl_model.specs.Names.{at_node}
use Rattle.crl_pieces.specs.Pieces.{is_missing, is_complete, joined}
use Rattle.crl_protocol.specs.Parcels.{Piece, Key, key_of, with_load, at_key, slots_or, fits_size}
use Rattle.crl_protocol.specs.Places.{Taken, take_out}
use Rattle.crl_protocol.specs.Node.{Node, Activity, Free, Waiting, Ready, Done, Outcome, only}
use Rattle.crl_protocol.specs.Calls.{node_calls}
use Rattle.crl_protocol.specs.Handlers.{ignores, node_handles}
use Rattle.crl_protocol.specs.Receiving.{receives, receives_as, receives_part, gathers_piece, size_for, slots_with}
use Rattle.crl_protocol.specs.World.{World, new_world, step, steps_node, commits, collects, handles_at, carries, records_of, note, put_in, is_enabled, world_after, world_of, account_from, account, IsRunFrom}
use Rattle.crl_deeds.specs.Laws.{node_of}
use Rattle.crl_deeds.specs.Deeds.{Cause, Calls, Hears, Copies, Lives, Rounds, Notes, Deed}
use Rattle.crl_deeds.specs.Deeds as deed
use Rattle.crl_deeds.proofs.Laws.{call_deed, message_deed, turn_of, turn_count, append_nil, turn_events}
use Rattle.crl_regions.proofs.Laws.{count_in_run}
use Rattle.crl_world.specs.Records.{records_from, records_by_node}
use Rattle.crl_journal.specs.Told.{EventEntries, entries_told, records_at, Ascends, AreRecordsOf}

-- A deed leaves the records alone.
copies_records : (n : Node) (cause : Cause) (o : Outcome) → Copies n cause o → o.node.records ≡ n.records
copies_records n cause o (deed.home_opens c write name h is e v w) = refl
copies_records n cause o _ = refl

lives_records : (n : Node) (cause : Cause) (o : Outcome) → Lives n cause o → o.node.records ≡ n.records
lives_records n cause o (deed.made size e) = refl
lives_records n cause o _ = refl

rounds_records : (n : Node) (cause : Cause) (o : Outcome) → Rounds n cause o → o.node.records ≡ n.records
rounds_records n cause o (deed.comes_away part other fits) = refl
rounds_records n cause o _ = refl

notes_records : (n : Node) (c : _) (w : _) (m : Node) → Notes n c w m → m.records ≡ n.records
notes_records n c w m (deed.flushes_own name mine closed) = refl
notes_records n c w m _ = refl

deed_records : (n : Node) (cause : Cause) (o : Outcome) → Deed n cause o → o.node.records ≡ n.records
deed_records n cause o (deed.copies d) = copies_records n cause o d
deed_records n cause o (deed.lives d) = lives_records n cause o d
deed_records n cause o (deed.rounds d) = rounds_records n cause o d
deed_records n cause o (deed.notes d) = notes_records n _ _ _ d
deed_records n cause o _ = refl

either_records : (b : Bool) (x y : Outcome) (l : List Recorded) → x.node.records ≡ l → y.node.records ≡ l → (if b then x else y).node.records ≡ l
either_records true x y l h k = h
either_records false x y l h k = k

handled_records : (n : Node) (from : ℕ) (k : Kind) → (node_handles from k n).node.records ≡ n.records
handled_records n from k = deed_records n (Hears from k) (node_handles from k n) (message_deed n from k)

gathered_records : (n : Node) (p : Piece) (key : Key) (slots : List (Option (List ℕ))) → (gathers_piece key p slots n).node.records ≡ n.records
gathered_records n p key slots =
    either_records (is_complete slots) (node_handles p.message.sender (with_load (joined slots) p.message.kind) (record n { parcels = at_key n.parcels key None })) (only (record n { parcels = at_key n.parcels key (Some slots) }) Done) n.records
    (handled_records (record n { parcels = at_key n.parcels key None }) p.message.sender (with_load (joined slots) p.message.kind)) refl

part_records : (n : Node) (p : Piece) (key : Key) (size : Option ℕ) → (receives_part key p size n).node.records ≡ n.records
part_records n p key None = refl
part_records n p key (Some size) =
    either_records (fits_size size p && is_missing p.index (slots_or p.pieces (n.parcels key))) (gathers_piece key p (slots_with p (n.parcels key)) n) (ignores n) n.records (gathered_records n p key (slots_with p (n.parcels key))) refl

received_records : (n : Node) (p : Piece) → (receives p n).node.records ≡ n.records
received_records n p = go (key_of p.message)
  where
    go : (o : Option Key) → (receives_as o p n).node.records ≡ n.records
    go None = handled_records n p.message.sender p.message.kind
    go (Some key) = part_records n p key (size_for key.load key.name n)

collected_records : (a : Activity) (n : Node) → (collects a n).node.records ≡ n.records
collected_records (Ready answer) n = refl
collected_records Free n = refl
collected_records (Waiting awaited) n = refl

-- What an event adds to the records of each node.
abbrev AddsAt : ℕ → ℕ → World → World → List Entry → Type 0
AddsAt i m w v entries = (v.nodes m).records ≡ (w.nodes m).records ++ (if i == m then records_of w.events entries else [])

committed : (i : ℕ) (e : Event) (o : Outcome) (w : World) (m : ℕ) → o.node.records ≡ (w.nodes i).records → AddsAt i m w (steps_node i e o w).world o.entries
committed i e o w m same = go (i == m) refl
  where
    go : (b : Bool) → (i == m) ≡ b → (if b then commits w.events e o else w.nodes m).records ≡ (w.nodes m).records ++ (if b then records_of w.events o.entries else [])
    go true here = ap (λ l. l ++ records_of w.events o.entries) (same ∙ ap (λ j. (w.nodes j).records) (eqb-true i m here))
    go false other = sym (append_nil (w.nodes m).records)

nothing_added : (b : Bool) (l : List Recorded) (p : ℕ) → l ≡ l ++ (if b then records_of p [] else [])
nothing_added true l p = sym (append_nil l)
nothing_added false l p = sym (append_nil l)

module _ (w : World) (i : ℕ) (e : Event) (t : Taken Piece) where
  abbrev sender : Node
  sender = note w.events e (record (w.nodes i) { outbox = t.rest })

  sent : (m : ℕ) → (at_node w.nodes i sender m).records ≡ (w.nodes m).records
  sent m = go (i == m) refl
    where
      go : (b : Bool) → (i == m) ≡ b → (if b then sender else w.nodes m).records ≡ (w.nodes m).records
      go true here = ap (λ j. (w.nodes j).records) (eqb-true i m here)
      go false other = refl

  carried : (m : ℕ) → ((carries i e (Some t) w).world.nodes m).records ≡ (w.nodes m).records
  carried m = go (t.taken.message.addressee == m) refl
    where
      go : (b : Bool) → (t.taken.message.addressee == m) ≡ b → (if b then put_in t.taken (at_node w.nodes i sender t.taken.message.addressee) else at_node w.nodes i sender m).records ≡ (w.nodes m).records
      go true here = sent t.taken.message.addressee ∙ ap (λ j. (w.nodes j).records) (eqb-true t.taken.message.addressee m here)
      go false other = sent m

step_adds : (e : Event) (w : World) (m : ℕ) → AddsAt (node_of e) m w (step e w).world (step e w).entries
unfolding step
step_adds (event.Call i c) w m = committed i _ (node_calls c (w.nodes i)) w m (deed_records (w.nodes i) (Calls c) (node_calls c (w.nodes i)) (call_deed (w.nodes i) c))
step_adds (event.Collect i) w m = committed i _ (collects (w.nodes i).activity (w.nodes i)) w m (collected_records (w.nodes i).activity (w.nodes i))
step_adds (event.Handle i place) w m = go (take_out place (w.nodes i).inbox)
  where
    go : (o : Option (Taken Piece)) → AddsAt i m w (handles_at i (event.Handle i place) o w).world (handles_at i (event.Handle i place) o w).entries
    go None = nothing_added (i == m) (w.nodes m).records w.events
    go (Some t) = committed i _ (receives t.taken (record (w.nodes i) { inbox = t.rest })) w m (received_records (record (w.nodes i) { inbox = t.rest }) t.taken)
step_adds (event.Carry i place) w m = go (take_out place (w.nodes i).outbox)
  where
    go : (o : Option (Taken Piece)) → AddsAt i m w (carries i (event.Carry i place) o w).world (carries i (event.Carry i place) o w).entries
    go None = nothing_added (i == m) (w.nodes m).records w.events
    go (Some t) = carried w i (event.Carry i place) t m ∙ nothing_added (i == m) (w.nodes m).records w.events

-- What a run tells.
abbrev pub told_from : World → List Event → List EventEntries
told_from w [] = []
told_from w (e ∷ es) = record { position = w.events; node = node_of e; entries = (step e w).entries } ∷ told_from (step e w).world es

told_account : (w : World) (es : List Event) → entries_told (told_from w es) ≡ account_from w es
told_account w [] = refl
told_account w (e ∷ es) = ap (λ l. (step e w).entries ++ l) (told_account (step e w).world es)

told_records : (w : World) (es : List Event) (m : ℕ) → ((world_after w es).nodes m).records ≡ (w.nodes m).records ++ records_at m (told_from w es)
told_records w [] m = sym (append_nil (w.nodes m).records)
told_records w (e ∷ es) m =
    told_records (step e w).world es m ∙ ap (λ l. l ++ records_at m (told_from (step e w).world es)) (step_adds e w m)
    ∙ append_assoc (w.nodes m).records (if node_of e == m then records_of w.events (step e w).entries else []) (records_at m (told_from (step e w).world es))

node_there : (e : Event) (w : World) → is_enabled e w ≡ true → node_of e < w.count
unfolding is_enabled
node_there (event.Call i c) w may = ltb-true _ _ (and_parts _ _ may).0
node_there (event.Collect i) w may = ltb-true _ _ (and_parts _ _ may).0
node_there (event.Handle i place) w may = ltb-true _ _ (and_parts _ _ may).0
node_there (event.Carry i place) w may = ltb-true _ _ (and_parts _ _ may).0

told_ascends : (count p : ℕ) (w : World) (es : List Event) → w.count ≡ count → p ≤ w.events → IsRunFrom w es → Ascends count p (told_from w es)
told_ascends count p w [] same below r = tt
told_ascends count p w (e ∷ es) same below r =
    let one = turn_events w _ (turn_of w e r.0) in (
      subst (λ n. node_of e < n) same (node_there e w r.0),
      below,
      told_ascends count (w.events + 1) (step e w).world es (turn_count w _ (turn_of w e r.0) ∙ same) (omega arith) r.1,
    )

listed_length : (i k : ℕ) (nodes : ℕ → Node) → length (records_from i k nodes) ≡ k
listed_length i zero nodes = refl
listed_length i (suc k) nodes = let h = listed_length (i + 1) k nodes in omega arith

listed_there : (i k j : ℕ) (nodes : ℕ → Node) → j < k → get_or (records_from i k nodes) j [] ≡ (nodes (i + j)).records
listed_there i zero j nodes lt = absurd (omega arith)
listed_there i (suc k) zero nodes lt = let same : i ≡ i + 0 = omega arith in ap (λ n. (nodes n).records) same
listed_there i (suc k) (suc j) nodes lt = let same : (i + 1) + j ≡ i + suc j = omega arith in listed_there (i + 1) k j nodes (omega arith) ∙ ap (λ n. (nodes n).records) same

module _ (count capacity : ℕ) (run : List Event) (r : IsRunFrom (new_world count capacity) run) where
  pub told_by_run : AreRecordsOf (told_from (new_world count capacity) run) (records_by_node (world_of count capacity run))
  told_by_run =
      let w = world_of count capacity run in
      let many : length (records_by_node w) ≡ count = listed_length 0 w.count w.nodes ∙ count_in_run count capacity run r in
      record {
        ascends = subst (λ n. Ascends n 0 (told_from (new_world count capacity) run)) (sym many) (told_ascends count 0 (new_world count capacity) run refl (omega arith) r);
        recorded = λ i lt. listed_there 0 w.count i w.nodes (subst (λ n. i < n) (listed_length 0 w.count w.nodes) lt) ∙ ap (λ n. (w.nodes n).records) (zero-add i) ∙ told_records (new_world count capacity) run i;
      }

  pub account_told : entries_told (told_from (new_world count capacity) run) ≡ account count capacity run
  account_told = told_account (new_world count capacity) run
