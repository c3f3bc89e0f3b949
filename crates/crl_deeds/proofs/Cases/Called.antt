-- Each call of a node is one of its deeds.
use Rattle.std.proofs.Common.{◌≡◌, ℕ, ◌+◌, ◌==◌, Bool, true, false, not, None, Some, Option, List, [], ◌∷◌, ◌++◌, if◌then◌else◌, refl, ap, sym, ◌∙◌, subst}
use Rattle.std.proofs.lemmas.Bool.{cond_both, cond-true, cond-false}
use Rattle.crl_model.specs.declared.name.Name.{Name}
use Rattle.crl_model.specs.declared.stage.Stage.TheVariants as stage
use Rattle.crl_model.specs.declared.collective.Part.{Part}
use Rattle.crl_model.specs.declared.call.Call.{Call}
use Rattle.crl_model.specs.declared.call.Call.TheVariants as call
use Rattle.crl_model.specs.declared.call.CallKind.TheVariants as word
use Rattle.crl_model.specs.declared.call.Refusal.{Refusal}
use Rattle.crl_model.specs.declared.call.Refusal.TheVariants.{NotMapped, TooMany}
use Rattle.crl_model.specs.declared.entry.Place.TheVariants.{Region}
use Rattle.crl_model.specs.declared.entry.What.{What}
use Rattle.crl_model.specs.declared.entry.What.TheVariants as what
use Rattle.crl_model.specs.Calls.{kind_of}
use Rattle.crl_model.specs.Names.{name_eq, at_name}
use Rattle.crl_protocol.specs.Home.{Home, HomeStep, home_starts}
use Rattle.crl_protocol.specs.Remote.{Remote, RemoteStep, remote_starts, is_closed}
use Rattle.crl_protocol.specs.Lifetimes.{Mapping, cached_size, cache_with, lifetime_begins_delete, members}
use Rattle.crl_protocol.specs.Gathering.{all_parts, after_parts, gathers}
use Rattle.crl_protocol.specs.Sections.{section_at, bytes_at}
use Rattle.crl_protocol.specs.Node.{Node, Done, Refused, Outcome, only, COUNT_LIMIT, serials_used, is_mine, home_of, lifetime_of, with_mapping, map_count, entry_of, section_opens}
use Rattle.crl_protocol.specs.Sectioning.{with_entry_first, forgets_over, forgets, starts_over_remote, starts_over_home, starts, after_home_end, after_remote, closes, ends_over_remote, ends_over_home, flushes_remote}
use Rattle.crl_protocol.specs.Verdict.{refuse_if, of_open, of_start, of_end, of_mapped, of_cached, of_map, of_delete, of_part, verdict, refuses_call}
use Rattle.crl_protocol.specs.Calls.{deletes_own, deletes, maps_cached, maps_over, forgets_evicted, unmaps_over, after_own_part, comes, takes_call, call_or_refuse, node_calls}
use Rattle.crl_deeds.specs.Deeds.{Cause, parting, forgotten, CanStart, CanEnd, CanFlush, StartsCall, EndsCall, Idles, Deed, with_parts, next_round, Calls}
use Rattle.crl_deeds.proofs.Fits.LifetimeCalls.{none_of, live_by, mapped_by}
use Rattle.crl_deeds.proofs.Fits.Names.{same_name}
use Rattle.crl_deeds.specs.Deeds as deed

pub deed_if : (n : Node) (cause : Cause) (b : Bool) (x y : Outcome) → (b ≡ true → Deed n cause x) → (b ≡ false → Deed n cause y) → Deed n cause (if b then x else y)
deed_if n cause b x y f g = cond_both b x y (λ o. Deed n cause o) f g

pub not_refused : (b : Bool) (why : Refusal) → refuse_if b why ≡ None → b ≡ false
not_refused true why e = cc
not_refused false why e = refl

pub not_not : (b : Bool) → not b ≡ false → b ≡ true
not_not true e = refl
not_not false e = cc

-- a function with the value that it has
pub same_at : {X : Type 0} (f : Name → X) (name : Name) (v : X) → f name ≡ v → at_name f name v ≡ f
same_at f name v e = λ i q. go q (name_eq name q) refl i
  where
    go : (q : Name) (b : Bool) → name_eq name q ≡ b → (if b then v else f q) ≡ f q
    go q true w = sym e ∙ ap f (same_name name q w)
    go q false w = refl

-- a name that is forgotten
pub forgets_is : (n : Node) (name : Name) → forgets name n ≡ record { node = forgotten name n; answer = Done; entries = []; posts = parting n name (n.remotes name) }
unfolding forgets
forgets_is n name = go (n.remotes name) refl
  where
    go : (o : Option Remote) → n.remotes name ≡ o → forgets_over name o n ≡ record { node = forgotten name n; answer = Done; entries = []; posts = parting n name o }
    go None e = λ i. record { node = record n { remotes = sym (same_at n.remotes name None e) i }; answer = Done; entries = []; posts = [] }
    go (Some r) e = refl

-- a call that is refused
refused_create : (n : Node) (size : ℕ) (why : Refusal) → verdict n (call.Create size) ≡ Some why → (b : Bool) → (serials_used n == COUNT_LIMIT) ≡ b
    → Deed n (Calls (call.Create size)) (record {
      node = if b then n else record n { homes = n.homes ++ None ∷ [] };
      answer = Refused why;
      entries = entry_of n.me (what.Refused word.Create (Region (record { home = n.me; serial = if b then 0 else serials_used n + 1 })) why) ∷ [];
      posts = [];
    })
unfolding verdict
refused_create n size why v true e =
    subst (λ s. Deed n (Calls (call.Create size)) (record { node = n; answer = Refused why; entries = entry_of n.me (what.Refused word.Create (Region (record { home = n.me; serial = s })) why) ∷ []; posts = [] }))
    (cond-true (serials_used n == COUNT_LIMIT) 0 (serials_used n + 1) e) (deed.refuses (call.Create size) why v)
refused_create n size why v false e = deed.lives (deed.used_up size why v e)

refused_deed : (n : Node) (c : Call) (why : Refusal) → verdict n c ≡ Some why → Deed n (Calls c) (refuses_call why c n)
unfolding refuses_call
refused_deed n (call.Create size) why v = refused_create n size why v (serials_used n == COUNT_LIMIT) refl
refused_deed n (call.Delete name) why v = deed.refuses (call.Delete name) why v
refused_deed n (call.Map name) why v = deed.refuses (call.Map name) why v
refused_deed n (call.Unmap name) why v = deed.refuses (call.Unmap name) why v
refused_deed n (call.StartRead name) why v = deed.refuses (call.StartRead name) why v
refused_deed n (call.EndRead name) why v = deed.refuses (call.EndRead name) why v
refused_deed n (call.StartWrite name) why v = deed.refuses (call.StartWrite name) why v
refused_deed n (call.EndWrite name after) why v = deed.refuses (call.EndWrite name after) why v
refused_deed n (call.Put name offset len) why v = deed.refuses (call.Put name offset len) why v
refused_deed n (call.Add name offset) why v = deed.refuses (call.Add name offset) why v
refused_deed n (call.Flush name) why v = deed.refuses (call.Flush name) why v
refused_deed n (call.Come part) why v = deed.refuses (call.Come part) why v

-- a delete
delete_own : (n : Node) (name : Name) (ms : List ℕ) → is_mine n name ≡ true → (lifetime_of n name).stage ≡ stage.Live → members n.nodes (lifetime_of n name).asked ≡ ms
    → Deed n (Calls (call.Delete name)) (deletes_own name (elim ms [ [] ↦ record (lifetime_of n name) { stage = stage.Gone } | m ∷ rest ↦ record (lifetime_of n name) { stage = stage.Going n.me; missing = (lifetime_of n name).asked } ]) n)
delete_own n name [] mine live e = deed.lives (deed.deletes_alone name mine live e)
delete_own n name (m ∷ ms) mine live e = deed.lives (deed.deletes_own name m ms mine live e)

delete_deed : (n : Node) (name : Name) → of_delete n name ≡ None → Deed n (Calls (call.Delete name)) (deletes name n)
unfolding lifetime_begins_delete
delete_deed n name v =
    deed_if n (Calls (call.Delete name)) (is_mine n name) _ _
    (λ mine. delete_own n name (members n.nodes (lifetime_of n name).asked) mine (live_by _ (sym (cond-true (is_mine n name) _ _ mine) ∙ v)) refl)
    (λ other. deed.lives (deed.delete_asks name other (not_not _ (not_refused _ _ (sym (cond-false (is_mine n name) _ _ other) ∙ v)))))

-- a map
of_own : (n : Node) (name : Name) → is_mine n name ≡ true → of_map n name ≡ None → ((lifetime_of n name).stage ≡ stage.Live) × (refuse_if (map_count (n.maps name) == COUNT_LIMIT) TooMany ≡ None)
of_own n name mine v = let parts = none_of _ _ (sym (cond-true (is_mine n name) _ _ mine) ∙ v) in (live_by _ parts.0, parts.1)

of_other : (n : Node) (name : Name) → is_mine n name ≡ false → of_map n name ≡ None → of_mapped n name (n.maps name) ≡ None
of_other n name other v = sym (cond-false (is_mine n name) _ _ other) ∙ v

more_fits : (n : Node) (name : Name) (m : Mapping) → n.maps name ≡ Some m → of_map n name ≡ None → (b : Bool) → is_mine n name ≡ b → (m.count == COUNT_LIMIT) ≡ false
more_fits n name m e v true w = not_refused _ TooMany (subst (λ x. refuse_if (map_count x == COUNT_LIMIT) TooMany ≡ None) e (of_own n name w v).1)
more_fits n name m e v false w = not_refused _ TooMany (none_of _ _ (subst (λ x. of_mapped n name x ≡ None) e (of_other n name w v))).1

map_there : (n : Node) (name : Name) (size : Option ℕ) → n.maps name ≡ None → is_mine n name ≡ false → cached_size name n.cache ≡ size → of_cached n name size ≡ None
    → Deed n (Calls (call.Map name)) (maps_cached name size n)
map_there n name (Some size) e other c v = deed.lives (deed.maps_cached name size e other c)
map_there n name None e other c v = deed.lives (deed.map_asks name e other c (not_not _ (not_refused _ _ v)))

map_deed : (n : Node) (name : Name) (o : Option Mapping) → n.maps name ≡ o → of_map n name ≡ None → Deed n (Calls (call.Map name)) (maps_over name o n)
map_deed n name (Some m) e v =
    deed.lives (deed.maps_more name m e (more_fits n name m e v (is_mine n name) refl) (λ mine. (of_own n name mine v).0)
    (λ other. not_refused _ _ (none_of _ _ (subst (λ x. of_mapped n name x ≡ None) e (of_other n name other v))).0))
map_deed n name None e v =
    deed_if n (Calls (call.Map name)) (is_mine n name) _ _ (λ mine. deed.lives (deed.maps_own name e mine (of_own n name mine v).0))
    (λ other. map_there n name (cached_size name n.cache) e other refl (subst (λ x. of_mapped n name x ≡ None) e (of_other n name other v)))

-- an unmap
closed_by : (n : Node) (name : Name) → of_open (section_at name n.sections) ≡ None → is_closed (section_at name n.sections) ≡ true
closed_by n name v = not_not _ (not_refused _ _ v)

unmap_deed : (n : Node) (name : Name) (m : Mapping) → n.maps name ≡ Some m → (m.count == 0) ≡ false → is_closed (section_at name n.sections) ≡ true
    → Deed n (Calls (call.Unmap name)) (with_entry_first (what.Unmap name) (unmaps_over name (Some m) n))
unmap_deed n name m e some closed =
    cond_both (m.count == 1) _ _ Leaves
    (λ one. cond_both (is_mine n name) _ _ Leaves (λ mine. deed.lives (deed.unmaps_own name m e one mine closed))
    (λ other. cond_both m.doomed _ _ Leaves
    (λ doomed. subst Leaves (sym (forgets_is (with_mapping name None n) name)) (deed.lives (deed.unmaps_doomed name m e one other doomed closed)))
    (λ sound. evicts (cache_with n.capacity (record { name = name; size = m.size }) n.cache).evicted one other sound refl)))
    (λ more. deed.lives (deed.unmaps_one name m e some more closed))
  where
    Leaves : Outcome → Type 0
    Leaves o = Deed n (Calls (call.Unmap name)) (with_entry_first (what.Unmap name) o)

    evicts : (old : Option Name) → (m.count == 1) ≡ true → is_mine n name ≡ false → m.doomed ≡ false → (cache_with n.capacity (record { name = name; size = m.size }) n.cache).evicted ≡ old
        → Leaves (forgets_evicted old (record (with_mapping name None n) { cache = (cache_with n.capacity (record { name = name; size = m.size }) n.cache).cache }))
    evicts None one other sound w = deed.lives (deed.unmaps_keeping name m e one other sound closed w)
    evicts (Some old) one other sound w = subst Leaves (sym (forgets_is _ old)) (deed.lives (deed.unmaps_evicting name m old e one other sound closed w))

-- the start of a section
nowhere : (n : Node) (c : Call) (write : Bool) (name : Name) → StartsCall c write name → CanStart n write name → home_of n name ≡ None → n.remotes name ≡ None → Idles (Calls c) n
nowhere n c write name (deed.to_read q) v e f = (v, (e, f))
nowhere n c write name (deed.to_write q) v e f = (v, (e, f))

start_deed : (n : Node) (c : Call) (write : Bool) (name : Name) → StartsCall c write name → CanStart n write name → Deed n (Calls c) (starts write name n)
unfolding section_opens
start_deed n c write name is v = go (home_of n name) refl
  where
    there : (r : Option Remote) → home_of n name ≡ None → n.remotes name ≡ r → Deed n (Calls c) (starts_over_remote write name r n)
    there None e f = deed.idles (nowhere n c write name is v e f)
    there (Some r) e f = deed_if n (Calls c) (remote_starts write r).opened _ _ (λ o. deed.copies (deed.side_opens c write name r is e f v o)) (λ o. deed.copies (deed.side_waits c write name r is e f v o))

    go : (h : Option Home) → home_of n name ≡ h → Deed n (Calls c) (starts_over_home write name h n)
    go None e = there (n.remotes name) e refl
    go (Some h) e = deed_if n (Calls c) (home_starts n.me write h).opened _ _ (λ o. deed.copies (deed.home_opens c write name h is e v o)) (λ o. deed.copies (deed.home_waits c write name h is e v o))

-- the end of a section
end_deed : (n : Node) (c : Call) (name : Name) (w : What) (ends : Home → HomeStep) (lowers : Remote → RemoteStep) → EndsCall (bytes_at name n.sections) n c name w ends lowers
    → Deed n (Calls c) (with_entry_first w (ends_over_home name ends lowers (home_of n name) (closes name n)))
unfolding after_home_end after_remote
end_deed n c name w ends lowers is = go (home_of n name) refl
  where
    there : (r : Option Remote) → home_of n name ≡ None → n.remotes name ≡ r → Deed n (Calls c) (with_entry_first w (ends_over_remote name lowers r (closes name n)))
    there None e f = deed.notes (deed.ends_nowhere c name w ends lowers is (e, f))
    there (Some r) e f = deed.copies (deed.side_ends c name w ends lowers r is e f)

    go : (h : Option Home) → home_of n name ≡ h → Deed n (Calls c) (with_entry_first w (ends_over_home name ends lowers h (closes name n)))
    go None e = there (n.remotes name) e refl
    go (Some h) e = deed.copies (deed.home_ends c name w ends lowers h is e)

-- a flush
flush_deed : (n : Node) (name : Name) → CanFlush n name → Deed n (Calls (call.Flush name)) (with_entry_first (what.Flush name) (if is_mine n name then only n Done else flushes_remote name (n.remotes name) n))
unfolding after_remote
flush_deed n name closed =
    cond_both (is_mine n name) _ _ (λ o. Deed n (Calls (call.Flush name)) (with_entry_first (what.Flush name) o)) (λ mine. deed.notes (deed.flushes_own name mine closed)) (λ other. there (n.remotes name) other refl)
  where
    there : (r : Option Remote) → is_mine n name ≡ false → n.remotes name ≡ r → Deed n (Calls (call.Flush name)) (with_entry_first (what.Flush name) (flushes_remote name r n))
    there None other f = deed.notes (deed.flushes_nowhere name other f closed)
    there (Some r) other f = deed.copies (deed.side_flushes name r other f closed)

-- a collective call
come_deed : (n : Node) (part : Part) → of_part part ≡ None → Deed n (Calls (call.Come part)) (comes part n)
unfolding gathers
come_deed n part v =
    cond_both (n.me == 0) _ _ (λ o. Deed n (Calls (call.Come part)) (with_entry_first (what.Come part) o)) (λ first. gathered (all_parts 0 n.nodes (with_parts 0 part n.gathering).parts) first refl)
    (λ other. deed.rounds (deed.comes_away part other v))
  where
    gathered : (ps : Option (List Part)) → (n.me == 0) ≡ true → all_parts 0 n.nodes (with_parts 0 part n.gathering).parts ≡ ps
        → let g = after_parts ps (with_parts 0 part n.gathering) in Deed n (Calls (call.Come part)) (with_entry_first (what.Come part) (after_own_part (n.rounds + 1) (kind_of part) g.fold (record n { rounds = n.rounds + 1; gathering = g.gathering })))
    gathered None first e = deed.rounds (deed.comes_home part first v e)
    gathered (Some ps) first e = deed.rounds (deed.comes_last part ps first v e)

can_start : (n : Node) (write : Bool) (name : Name) → (refuse_if (map_count (n.maps name) == 0) NotMapped ≡ None) × (of_start write (section_at name n.sections) ≡ None) → CanStart n write name
can_start n write name v = record { mapped = not_refused _ _ v.0; section = v.1 }

can_end : (n : Node) (write : Bool) (name : Name) → (refuse_if (map_count (n.maps name) == 0) NotMapped ≡ None) × (of_end write (section_at name n.sections) ≡ None) → CanEnd n write name
can_end n write name v = record { mapped = not_refused _ _ v.0; section = v.1 }

-- any call
taken_deed : (n : Node) (c : Call) → verdict n c ≡ None → Deed n (Calls c) (takes_call c n)
unfolding verdict takes_call
taken_deed n (call.Create size) v = deed.lives (deed.made size v)
taken_deed n (call.Delete name) v = delete_deed n name v
taken_deed n (call.Map name) v = map_deed n name (n.maps name) refl v
taken_deed n (call.Unmap name) v =
    let parts = none_of _ _ v in
    let m = mapped_by (n.maps name) parts.0 in
    subst (λ o. Deed n (Calls (call.Unmap name)) (with_entry_first (what.Unmap name) (unmaps_over name o n))) (sym m.1)
    (unmap_deed n name m.0 m.1 (not_refused _ _ (subst (λ x. refuse_if (map_count x == 0) NotMapped ≡ None) m.1 parts.0)) (closed_by n name parts.1))
taken_deed n (call.StartRead name) v = start_deed n (call.StartRead name) false name (deed.to_read name) (can_start n false name (none_of _ _ v))
taken_deed n (call.EndRead name) v = end_deed n (call.EndRead name) name _ _ _ (deed.a_read name (can_end n false name (none_of _ _ v)))
taken_deed n (call.StartWrite name) v = start_deed n (call.StartWrite name) true name (deed.to_write name) (can_start n true name (none_of _ _ v))
taken_deed n (call.EndWrite name after) v = end_deed n (call.EndWrite name after) name _ _ _ (deed.a_write name after (can_end n true name (none_of _ _ v)))
taken_deed n (call.Put name offset len) v = deed.idles tt
taken_deed n (call.Add name offset) v = deed.idles tt
taken_deed n (call.Flush name) v = let parts = none_of _ _ v in flush_deed n name (record { mapped = not_refused _ _ parts.0; closed = closed_by n name parts.1 })
taken_deed n (call.Come part) v = come_deed n part v

pub call_deed : (n : Node) (c : Call) → Deed n (Calls c) (node_calls c n)
call_deed n c = go (verdict n c) refl
  where
    go : (o : Option Refusal) → verdict n c ≡ o → Deed n (Calls c) (call_or_refuse o c n)
    go None v = taken_deed n c v
    go (Some why) v = refused_deed n c why v
