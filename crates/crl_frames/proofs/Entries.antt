-- In every run each part in the account is one that a call brought, and may be sent. What holds of parts in calls holds of it.
use Rattle.std.proofs.Common.{◌≡◌, ℕ, zero, suc, ◌+◌, ◌-◌, ◌==◌, ◌&&◌, Bool, true, false, None, Some, Option, List, [], ◌∷◌, length, get_or, if◌then◌else◌, refl, sym, subst, arith}
use Rattle.std.specs.List.{AllByRecursion}
use Rattle.std.proofs.lemmas.Bool.{cond_both, and_parts}
use Rattle.crl_model.specs.declared.name.Name.{Name}
use Rattle.crl_model.specs.declared.collective.Part.{Part}
use Rattle.crl_model.specs.declared.collective.Part.TheVariants as part
use Rattle.crl_model.specs.declared.collective.Fold.{Fold}
use Rattle.crl_model.specs.declared.collective.Fold.TheVariants as fold
use Rattle.crl_model.specs.declared.call.Call.{Call}
use Rattle.crl_model.specs.declared.call.Call.TheVariants as call
use Rattle.crl_model.specs.declared.call.CallKind.{CallKind}
use Rattle.crl_model.specs.declared.entry.Entry.{Entry}
use Rattle.crl_model.specs.declared.entry.What.{What}
use Rattle.crl_model.specs.declared.entry.What.TheVariants as what
use Rattle.crl_model.specs.declared.event.Event.{Event}
use Rattle.crl_model.specs.declared.event.Event.TheVariants as event
use Rattle.crl_machine.specs.SingleMachine.{State, IsSendable, part_at, parts_from}
use Rattle.crl_protocol.specs.Parcels.{Piece, with_load}
use Rattle.crl_protocol.specs.Places.{Taken, take_out}
use Rattle.crl_protocol.specs.Home.{Home, HomeStep}
use Rattle.crl_protocol.specs.Remote.{Remote, RemoteStep}
use Rattle.crl_protocol.specs.Receiving.{receives}
use Rattle.crl_protocol.specs.Node.{Node, Activity, Free, Waiting, Ready, Outcome}
use Rattle.crl_protocol.specs.Calls.{result_of}
use Rattle.crl_protocol.specs.World.{World, new_world, account, account_from, step, handles_at, carries, collects}
use Rattle.crl_deeds.specs.Deeds.{Cause, Calls, Hears, EndsCall, a_read, a_write, Copies, Lives, Rounds, Notes, Deed}
use Rattle.crl_deeds.specs.Deeds as deed
use Rattle.crl_deeds.proofs.Laws.{all_append, call_deed, message_deed, received}
use Rattle.crl_rounds.specs.Standing.{part_in, parts_brought, machine_of}
use Rattle.crl_rounds.proofs.Laws.{came_from_start}
use Rattle.crl_history.proofs.Laws.{sendable}

-- What the calls of a run say of the parts that they bring.
abbrev pub CallBrings : (Part → Type 0) → Call → Type 0
CallBrings Said (call.Come part) = Said part
CallBrings Said _ = Unit {0}

abbrev EventBrings : (Part → Type 0) → Event → Type 0
EventBrings Said (event.Call i c) = CallBrings Said c
EventBrings Said _ = Unit {0}

abbrev pub CallsBring : (Part → Type 0) → List Event → Type 0
CallsBring Said [] = Unit {0}
CallsBring Said (event.Call i c ∷ es) = CallBrings Said c × CallsBring Said es
CallsBring Said (_ ∷ es) = CallsBring Said es

abbrev CauseBrings : (Part → Type 0) → Cause → Type 0
CauseBrings Said (Calls c) = CallBrings Said c
CauseBrings Said (Hears from k) = Unit {0}

abbrev WhatHolds : (Part → Type 0) → What → Type 0
WhatHolds Holds (what.Come part) = Holds part
WhatHolds Holds _ = Unit {0}

abbrev EntriesHold : (Part → Type 0) → List Entry → Type 0
EntriesHold Holds es = AllByRecursion (λ (e : Entry). WhatHolds Holds e.what) es

-- entries that bring no part
abbrev is_other : What → Bool
is_other (what.Come part) = false
is_other _ = true

abbrev are_other : List Entry → Bool
are_other [] = true
are_other (e ∷ es) = is_other e.what && are_other es

each_event : (Said : Part → Type 0) (e : Event) (es : List Event) → CallsBring Said (e ∷ es) → EventBrings Said e × CallsBring Said es
each_event Said (event.Call i c) es t = t
each_event Said (event.Collect i) es t = (tt, t)
each_event Said (event.Handle i place) es t = (tt, t)
each_event Said (event.Carry i place) es t = (tt, t)

module _ (Said Holds : Part → Type 0) (made : (p : Part) → IsSendable p → Said p → Holds p) (barrier : Holds part.Barrier) where
  other_fits : (w : What) → is_other w ≡ true → WhatHolds Holds w
  other_fits (what.Come part) e = absurd (cc)
  other_fits _ e = tt

  others : (es : List Entry) → are_other es ≡ true → EntriesHold Holds es
  others [] e = tt
  others (x ∷ es) e = let k = and_parts _ _ e in (other_fits x.what k.0, others es k.1)

  begun_fits : (write : Bool) (name : Name) → WhatHolds Holds (if write then what.StartWrite name else what.StartRead name)
  begun_fits true name = tt
  begun_fits false name = tt

  told_fits : (round : ℕ) (k : CallKind) (f : Fold) → WhatHolds Holds (result_of round k f)
  told_fits round k fold.Mixed = tt
  told_fits round k _ = tt

  ended_fits : (bytes : List ℕ) (n : Node) (c : Call) (name : Name) (w : What) (ends : Home → HomeStep) (lowers : Remote → RemoteStep) → EndsCall bytes n c name w ends lowers → WhatHolds Holds w
  ended_fits bytes n c name w ends lowers (a_read q v) = tt
  ended_fits bytes n c name w ends lowers (a_write q after v) = tt

  -- The deeds.
  copies_fit : (n : Node) (cause : Cause) (o : Outcome) → Copies n cause o → EntriesHold Holds o.entries
  copies_fit n cause o (deed.home_opens c write name h is e v x) = (begun_fits write name, tt)
  copies_fit n cause o (deed.side_opens c write name r is e f v x) = (begun_fits write name, tt)
  copies_fit n cause o (deed.home_ends c name w ends lowers h is e) = (ended_fits _ n c name w ends lowers is, tt)
  copies_fit n cause o (deed.side_ends c name w ends lowers r is e f) = (ended_fits _ n c name w ends lowers is, tt)
  copies_fit n cause o (deed.home_serves_own from k name h s is e x) = (begun_fits _ name, tt)
  copies_fit n cause o (deed.grant_comes from name version g r e t) = (begun_fits _ name, tt)
  copies_fit n cause o _ = others o.entries refl

  lives_fit : (n : Node) (cause : Cause) (o : Outcome) → Lives n cause o → EntriesHold Holds o.entries
  lives_fit n cause o (deed.made size e) = (tt, tt)
  lives_fit n cause o _ = others o.entries refl

  rounds_fit : (n : Node) (cause : Cause) (o : Outcome) → Rounds n cause o → CauseBrings Said cause → EntriesHold Holds o.entries
  rounds_fit n cause o (deed.comes_away part other fits) t = (made part (sendable part fits) t, tt)
  rounds_fit n cause o (deed.comes_home part first fits none) t = (made part (sendable part fits) t, tt)
  rounds_fit n cause o (deed.comes_last part parts first fits all) t = (made part (sendable part fits) t, (told_fits _ _ _, tt))
  rounds_fit n cause o (deed.part_last from round part parts mine k e a all) t = (told_fits _ _ _, tt)
  rounds_fit n cause o (deed.result_comes from round f k e) t = (told_fits _ _ _, tt)
  rounds_fit n cause o _ t = tt

  notes_fit : (n : Node) (c : Call) (w : What) (m : Node) → Notes n c w m → WhatHolds Holds w
  notes_fit n c w m (deed.ends_nowhere c0 name w0 ends lowers is none) = ended_fits _ n c name w ends lowers is
  notes_fit n c w m (deed.flushes_own name mine closed) = tt
  notes_fit n c w m (deed.flushes_nowhere name other e closed) = tt

  deed_fit : (n : Node) (cause : Cause) (o : Outcome) → Deed n cause o → CauseBrings Said cause → EntriesHold Holds o.entries
  deed_fit n cause o (deed.copies d) t = copies_fit n cause o d
  deed_fit n cause o (deed.lives d) t = lives_fit n cause o d
  deed_fit n cause o (deed.rounds d) t = rounds_fit n cause o d t
  deed_fit n cause o (deed.notes d) t = (notes_fit n _ _ _ d, tt)
  deed_fit n cause o (deed.refuses c why e) t = (tt, tt)
  deed_fit n cause o (deed.idles idle) t = tt

  -- A piece that comes, and an event.
  received_fit : (p : Piece) (n : Node) → EntriesHold Holds (receives p n).entries
  received_fit p n = received (λ o. EntriesHold Holds o.entries) p n (λ parcels part. deed_fit (record n { parcels = parcels }) _ _ (message_deed (record n { parcels = parcels }) p.message.sender (with_load part p.message.kind)) tt) (λ parcels key h. tt)

  collected_fit : (a : Activity) (n : Node) → EntriesHold Holds (collects a n).entries
  collected_fit Free n = tt
  collected_fit (Waiting awaited) n = tt
  collected_fit (Ready answer) n = tt

  step_fit : (w : World) (e : Event) → EventBrings Said e → EntriesHold Holds (step e w).entries
  unfolding step
  step_fit w (event.Call i c) t = deed_fit (w.nodes i) _ _ (call_deed (w.nodes i) c) t
  step_fit w (event.Collect i) t = collected_fit (w.nodes i).activity (w.nodes i)
  step_fit w (event.Handle i place) t = go (take_out place (w.nodes i).inbox)
    where
      go : (o : Option (Taken Piece)) → EntriesHold Holds (handles_at i (event.Handle i place) o w).entries
      go None = tt
      go (Some y) = received_fit y.taken (record (w.nodes i) { inbox = y.rest })
  step_fit w (event.Carry i place) t = go (take_out place (w.nodes i).outbox)
    where
      go : (o : Option (Taken Piece)) → EntriesHold Holds (carries i (event.Carry i place) o w).entries
      go None = tt
      go (Some y) = tt

  account_fit : (w : World) (es : List Event) → CallsBring Said es → EntriesHold Holds (account_from w es)
  account_fit w [] t = tt
  account_fit w (e ∷ es) t = let x = each_event Said e es t in all_append (λ (y : Entry). WhatHolds Holds y.what) (step e w).entries (account_from (step e w).world es) (step_fit w e x.0) (account_fit (step e w).world es x.1)

  -- So are the parts that the single machine has.
  part_in_fits : (w : What) → WhatHolds Holds w → AllByRecursion Holds (part_in w)
  part_in_fits (what.Come part) h = (h, tt)
  part_in_fits _ h = tt

  brought_fit : (i : ℕ) (es : List Entry) → EntriesHold Holds es → AllByRecursion Holds (parts_brought i es)
  brought_fit i [] h = tt
  brought_fit i (e ∷ es) h =
      let rest = brought_fit i es h.1 in
      cond_both (e.node == i) _ _ (AllByRecursion Holds) (λ w. all_append Holds (part_in e.what) (parts_brought i es) (part_in_fits e.what h.0) rest) (λ w. rest)

  at_fits : (xs : List Part) (k : ℕ) → AllByRecursion Holds xs → Holds (get_or xs k part.Barrier)
  at_fits [] k h = barrier
  at_fits (x ∷ xs) zero h = h.0
  at_fits (x ∷ xs) (suc k) h = at_fits xs k h.1

  pub part_fits : (count capacity : ℕ) (run : List Event) → CallsBring Said run → (i round : ℕ) → Holds (part_at (machine_of count capacity run) i round)
  part_fits count capacity run t i round =
      at_fits _ (round - 1) (subst (AllByRecursion Holds) (sym (came_from_start count i (account count capacity run))) (brought_fit i _ (account_fit (new_world count capacity) run t)))

  pub parts_fit : (count capacity : ℕ) (run : List Event) → CallsBring Said run → (round m k : ℕ) → AllByRecursion Holds (parts_from (machine_of count capacity run) round m k)
  parts_fit count capacity run t round m zero = tt
  parts_fit count capacity run t round m (suc k) = (part_fits count capacity run t m round, parts_fit count capacity run t round (m + 1) k)

pub parts_length : (s : State) (round m k : ℕ) → length (parts_from s round m k) ≡ k
parts_length s round m zero = refl
parts_length s round m (suc k) = let h = parts_length s round (m + 1) k in omega arith
