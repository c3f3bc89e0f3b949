-- The entries of calls that their node refuses by itself are legal.
use Rattle.std.proofs.Common.{◌≡◌, ◌≢◌, ℕ, ◌+◌, ◌^◌, ◌≤◌, ◌==◌, ◌||◌, Bool, true, false, Some, if◌then◌else◌, refl, ap, sym, ◌∙◌, subst, arith}
use Rattle.std.proofs.Math.Logic.{inl, inr}
use Rattle.std.proofs.lemmas.Bool.{cond-true, cond-false, eqb-true}
use Rattle.crl_model.specs.declared.name.Name.{Name}
use Rattle.crl_model.specs.declared.stage.Stage.{Stage}
use Rattle.crl_model.specs.declared.stage.Stage.TheVariants as stage
use Rattle.crl_model.specs.declared.call.Call.{Call}
use Rattle.crl_model.specs.declared.call.CallKind.TheVariants as word
use Rattle.crl_model.specs.declared.call.Refusal.{Refusal}
use Rattle.crl_model.specs.declared.call.Refusal.TheVariants as refusal
use Rattle.crl_model.specs.declared.directory.Section.{Section}
use Rattle.crl_model.specs.declared.directory.Section.TheVariants as section
use Rattle.crl_model.specs.declared.entry.What.TheVariants as what
use Rattle.crl_model.specs.Stages.{is_there}
use Rattle.crl_machine.specs.SingleMachine.{State, IsMapped, IsOpenAt, IsRefusedSerial, IsLegal}
use Rattle.crl_protocol.specs.Remote.{is_closed}
use Rattle.crl_protocol.specs.Lifetimes.{Mapping, cached_size}
use Rattle.crl_protocol.specs.Sections.{section_at, count_of, is_writing}
use Rattle.crl_protocol.specs.Node.{Node, Free, COUNT_LIMIT, serials_used, is_mine, map_count, entry_of}
use Rattle.crl_protocol.specs.Verdict.{word_of, place_of, refused_serial}
use Rattle.crl_deeds.specs.Refusals.{NeedsMap, NeedsWriting, NeedsClosed, Changes, IsMappedAt, Refuses}
use Rattle.crl_deeds.specs.Refusals as found
use Rattle.crl_lifetime.specs.Lifetime.{is_sound, is_doomed, is_some_size}
use Rattle.crl_deeds.specs.Counts.{FitsReads}
use Rattle.crl_history.proofs.Events.{NodeKnown}
use Rattle.crl_history.proofs.Serials.{SaysUsed}
use Rattle.crl_history.proofs.SectionEntries.{free_now, maps_now, mapped_now}
use Rattle.crl_history.proofs.MapEntries.{one_more, unfit_legal}
use Rattle.crl_history.proofs.Seen.{Sees}

-- the serial of a refused create
all_used : (u : ℕ) (n : Node) → SaysUsed u n → (serials_used n == COUNT_LIMIT) ≡ true → u + 1 ≡ 2 ^ 32
all_used u n h e = let x = eqb-true (serials_used n) COUNT_LIMIT e in let a = h.is in omega arith

no_serial : (n : Node) → (serials_used n == COUNT_LIMIT) ≡ true → refused_serial n ≡ 0
no_serial n e = cond-true (serials_used n == COUNT_LIMIT) 0 (serials_used n + 1) e

serial_refused : (s : State) (n : Node) → Sees s n → IsRefusedSerial (s.used n.me) (refused_serial n)
serial_refused s n h = go (serials_used n == COUNT_LIMIT) refl
  where
    go : (b : Bool) → (serials_used n == COUNT_LIMIT) ≡ b → IsRefusedSerial (s.used n.me) (refused_serial n)
    go true e = inr (all_used _ n h.used e, no_serial n e)
    go false e = inl (one_more _ n h.used e, cond-false (serials_used n == COUNT_LIMIT) 0 (serials_used n + 1) e ∙ ap (λ x. x + 1) (sym h.used.is))

there_apart : (x : Stage) → is_there x ≡ true → x ≢ stage.Gone
there_apart x e w = let a = ap is_there w in cc

full_maps : (u count : ℕ) → u ≡ count → (count == COUNT_LIMIT) ≡ true → u + 1 ≡ 2 ^ 32
full_maps u count e f = let x = eqb-true count COUNT_LIMIT f in omega arith

sound_there : (s : State) (n : Node) (q : Name) (m : Mapping) → is_mine n q ≡ false → n.maps q ≡ Some m → m.doomed ≡ false → Sees s n → is_there (s.stage q) ≡ true
sound_there s n q m apart e sound h = h.sound q apart (ap (λ o. is_sound o || is_some_size (cached_size q n.cache)) e ∙ ap (λ b. (if b then false else true) || is_some_size (cached_size q n.cache)) sound)

-- a section that is open
open_now : (s : State) (j : ℕ) (n : Node) (q : Name) → is_closed (section_at q n.sections) ≡ false → NodeKnown j n → Sees s n → IsOpenAt s n.me q
open_now s j n q e known h = go (section_at q n.sections) e (h.sections q).reads_are (h.sections q).writes_are (known.sections.each q)
  where
    go : (x : Section) → is_closed x ≡ false → s.reads n.me q ≡ count_of x → s.writes n.me q ≡ is_writing x → FitsReads x → IsOpenAt s n.me q
    go section.Closed c r w f = cc
    go (section.Reading count) c r w f = inl (subst (λ x. 1 ≤ x) (sym r) f.0)
    go section.Writing c r w f = inr w

unmapped_legal : (s : State) (n : Node) (c : Call) (q : Name) → NeedsMap c q → n.activity ≡ Free → Sees s n → s.maps n.me q ≡ 0 → IsLegal s (entry_of n.me (what.Refused (word_of c) (place_of n c) refusal.NotMapped))
unmapped_legal s n c name (found.unmap q) free h e = (h.few, (free_now s n h free, (refl, e)))
unmapped_legal s n c name (found.start_read q) free h e = (h.few, (free_now s n h free, (refl, e)))
unmapped_legal s n c name (found.end_read q) free h e = (h.few, (free_now s n h free, (refl, e)))
unmapped_legal s n c name (found.start_write q) free h e = (h.few, (free_now s n h free, (refl, e)))
unmapped_legal s n c name (found.end_write q after) free h e = (h.few, (free_now s n h free, (refl, e)))
unmapped_legal s n c name (found.put q offset len) free h e = (h.few, (free_now s n h free, (refl, e)))
unmapped_legal s n c name (found.add q offset) free h e = (h.few, (free_now s n h free, (refl, e)))
unmapped_legal s n c name (found.flush q) free h e = (h.few, (free_now s n h free, (refl, e)))

unwritten_legal : (s : State) (n : Node) (c : Call) (q : Name) → NeedsWriting c q → n.activity ≡ Free → Sees s n → IsMapped s n.me q → s.writes n.me q ≡ false → IsLegal s (entry_of n.me (what.Refused (word_of c) (place_of n c) refusal.NotWriting))
unwritten_legal s n c name (found.ends q after) free h m e = (h.few, (free_now s n h free, (refl, m, e)))
unwritten_legal s n c name (found.puts q offset len) free h m e = (h.few, (free_now s n h free, (refl, m, e)))
unwritten_legal s n c name (found.adds q offset) free h m e = (h.few, (free_now s n h free, (refl, m, e)))

inside_legal : (s : State) (n : Node) (c : Call) (q : Name) → NeedsClosed c q → n.activity ≡ Free → Sees s n → IsMapped s n.me q → IsOpenAt s n.me q → IsLegal s (entry_of n.me (what.Refused (word_of c) (place_of n c) refusal.InSection))
inside_legal s n c name (found.unmaps q) free h m e = (h.few, (free_now s n h free, (refl, m, e)))
inside_legal s n c name (found.flushes q) free h m e = (h.few, (free_now s n h free, (refl, m, e)))

outside_legal : (s : State) (n : Node) (c : Call) (q : Name) → Changes c q → n.activity ≡ Free → Sees s n → s.writes n.me q ≡ true → IsLegal s (entry_of n.me (what.Refused (word_of c) (place_of n c) refusal.OutOfRange))
outside_legal s n c name (found.by_put q offset len) free h e = (h.few, (free_now s n h free, (refl, e)))
outside_legal s n c name (found.by_add q offset) free h e = (h.few, (free_now s n h free, (refl, e)))

pub refuses_legal : (s : State) (j : ℕ) (n : Node) (c : Call) (why : Refusal) → Refuses n c why → n.activity ≡ Free → NodeKnown j n → Sees s n → IsLegal s (entry_of n.me (what.Refused (word_of c) (place_of n c) why))
refuses_legal s j n c why (found.bad_size size e) free known h = (h.few, (free_now s n h free, (refl, refl, serial_refused s n h)))
refuses_legal s j n c why (found.names_spent size e) free known h = (h.few, (free_now s n h free, (refl, refl, no_serial n e, all_used _ n h.used e)))
refuses_legal s j n c why (found.own_map q y t d mine unfit) free known h = (h.few, (free_now s n h free, unfit_legal s n.me word.Map q _ why t d unfit (h.stages q mine) refl))
refuses_legal s j n c why (found.own_delete q y t d mine unfit) free known h = (h.few, (free_now s n h free, unfit_legal s n.me word.Delete q _ why t d unfit (h.stages q mine) refl))
refuses_legal s j n c why (found.doomed_map q m apart e doomed) free known h = (h.few, (free_now s n h free, (refl, h.doomed q apart (ap is_doomed e ∙ doomed))))
refuses_legal s j n c why (found.unreal_map q apart e) free known h = (h.few, (free_now s n h free, (refl, h.unreal q apart e)))
refuses_legal s j n c why (found.unreal_delete q apart e) free known h = (h.few, (free_now s n h free, (refl, h.unreal q apart e)))
refuses_legal s j n c why (found.too_many_own q mine live e) free known h = (h.few, (free_now s n h free, inl (refl, full_maps _ _ (maps_now s n q h free) e, there_apart _ (ap is_there (h.stages q mine ∙ live)))))
refuses_legal s j n c why (found.too_many_maps q m apart e sound f) free known h =
    (h.few, (free_now s n h free, inl (refl, full_maps _ _ (maps_now s n q h free ∙ ap map_count e) f, there_apart _ (sound_there s n q m apart e sound h))))
refuses_legal s j n c why (found.not_mapped x q needs e) free known h = unmapped_legal s n x q needs free h (maps_now s n q h free ∙ eqb-true _ 0 e)
refuses_legal s j n c why (found.section_open_read q m e) free known h = (h.few, (free_now s n h free, (mapped_now s n q h free m, inl (refl, (h.sections q).writes_are ∙ e))))
refuses_legal s j n c why (found.section_open_write q m e) free known h = (h.few, (free_now s n h free, (mapped_now s n q h free m, inr (refl, open_now s j n q e known h))))
refuses_legal s j n c why (found.too_many_reads q m e f) free known h =
    (h.few, (free_now s n h free, inr (refl, mapped_now s n q h free m, (h.sections q).writes_are ∙ e, full_maps _ _ (h.sections q).reads_are f)))
refuses_legal s j n c why (found.not_reading q m e) free known h = (h.few, (free_now s n h free, (refl, mapped_now s n q h free m, (h.sections q).reads_are ∙ eqb-true _ 0 e)))
refuses_legal s j n c why (found.not_writing x q needs m e) free known h = unwritten_legal s n x q needs free h (mapped_now s n q h free m) ((h.sections q).writes_are ∙ e)
refuses_legal s j n c why (found.in_section x q needs m e) free known h = inside_legal s n x q needs free h (mapped_now s n q h free m) (open_now s j n q e known h)
refuses_legal s j n c why (found.out_of_range x q changes m e) free known h = outside_legal s n x q changes free h ((h.sections q).writes_are ∙ e)
refuses_legal s j n c why (found.wrong_size bytes e) free known h = (h.few, (free_now s n h free, refl, ap (λ x. x + 1) (sym h.came)))
