-- Read sections that are open are counted, and fit.
use Rattle.std.proofs.Common.{◌≡◌, ℕ, ◌+◌, ◌-◌, ◌^◌, ◌<◌, ◌==◌, Bool, true, false, None, Some, Option, List, if◌then◌else◌, refl, sym, subst, arith}
use Rattle.std.proofs.lemmas.Bool.{cond_both, eqb-false}
use Rattle.crl_model.specs.declared.name.Name.{Name}
use Rattle.crl_model.specs.declared.directory.Section.{Section}
use Rattle.crl_model.specs.declared.directory.Section.TheVariants as section
use Rattle.crl_model.specs.declared.call.Call.{Call}
use Rattle.crl_model.specs.declared.entry.What.{What}
use Rattle.crl_model.specs.declared.event.Event.{Event}
use Rattle.crl_protocol.specs.Home.{one_section_more, one_section_less}
use Rattle.crl_protocol.specs.Remote.{asks_to_write}
use Rattle.crl_protocol.specs.Sections.{OpenSection, Sections, section_of, section_at, count_of, is_writing, begins_to_read, section_begins, section_ends, ends_over}
use Rattle.crl_protocol.specs.Node.{Node, Activity, Free, Waiting, ForMap, Outcome}
use Rattle.crl_protocol.specs.Sectioning.{closes}
use Rattle.crl_protocol.specs.Handlers.{purges_waiting}
use Rattle.crl_protocol.specs.World.{new_world, world_of, IsRun}
use Rattle.crl_deeds.specs.Counts.{FitsReads, AwaitsSection, SectionsFit}
use Rattle.crl_deeds.specs.Deeds.{FreeIf, Cause, opened_at, StartsCall, CanStart, Copies, Lives, Rounds, Notes, Deed}
use Rattle.crl_deeds.specs.NodeFacts.{Leaves, Fits}
use Rattle.crl_deeds.specs.Turns.{Came, Kept}
use Rattle.crl_deeds.proofs.Cases.Refused.{write_starts_closed, read_starts_below}
use Rattle.crl_deeds.proofs.Fits.Names.{by_name}
use Rattle.crl_deeds.proofs.Fits.Waits.{own_waits, grant_waits}
use Rattle.crl_deeds.proofs.Fits.Worlds.{fits_start}
use Rattle.crl_deeds.proofs.Runs.Kept.{kept_run}
use Rattle.crl_deeds.specs.Deeds as deed

abbrev Each : Sections → Type 0
Each s = (q : Name) → FitsReads (section_at q s)

-- one section more, and one less
more_fits : (s : Section) → FitsReads s → count_of s + 1 < 2 ^ 32 → FitsReads (one_section_more s)
more_fits section.Closed f few = (omega arith, omega arith)
more_fits (section.Reading count) f few = (omega arith, few)
more_fits section.Writing f few = tt

abbrev less : OpenSection → Section → Option OpenSection
less r s = elim s [ section.Closed ↦ None | section.Reading count ↦ Some (record r { section = section.Reading count }) | section.Writing ↦ None ]

less_fits : (r : OpenSection) (s : Section) → FitsReads s → FitsReads (section_of (less r s))
less_fits r section.Closed f = tt
less_fits r (section.Reading count) f = f
less_fits r section.Writing f = tt

section_less : (s : Section) → FitsReads s → FitsReads (one_section_less s)
section_less section.Closed f = tt
section_less (section.Reading count) f = cond_both (count == 1) _ _ FitsReads (λ w. tt) (λ w. let ne = eqb-false count 1 w in (let some = f.0 in grind arith, let few = f.1 in grind arith))
section_less section.Writing f = tt

ends_each : (name : Name) (o : Option OpenSection) (s : Sections) → s.records name ≡ o → Each s → Each (ends_over name o s)
ends_each name None s e h = h
ends_each name (Some r) s e h =
    by_name name (λ b q. FitsReads (section_of (if b then less r (one_section_less r.section) else s.records q)))
    (less_fits r (one_section_less r.section) (section_less r.section (subst (λ x. FitsReads (section_of x)) e (h name)))) (λ q w. h q)

closes_each : (name : Name) (n : Node) → Each n.sections → Each (closes name n).sections
unfolding section_ends
closes_each name n h = ends_each name (n.sections.records name) n.sections refl h

reads_each : (name : Name) (o : Option OpenSection) (bytes : List ℕ) (s : Sections) → s.records name ≡ o → count_of (section_at name s) + 1 < 2 ^ 32 → Each s → Each (begins_to_read name o bytes s).sections
reads_each name None bytes s e few h =
    by_name name (λ b q. FitsReads (section_of (if b then Some (record { section = section.Reading 1; number = s.last + 1; bytes = bytes }) else s.records q))) (omega arith, omega arith) (λ q w. h q)
reads_each name (Some r) bytes s e few h =
    by_name name (λ b q. FitsReads (section_of (if b then Some (record r { section = one_section_more r.section }) else s.records q)))
    (more_fits r.section (subst (λ x. FitsReads (section_of x)) e (h name)) (subst (λ x. count_of (section_of x) + 1 < 2 ^ 32) e few)) (λ q w. h q)

opens_each : (write : Bool) (name : Name) (bytes : List ℕ) (n : Node) → count_of (section_at name n.sections) + 1 < 2 ^ 32 → Each n.sections → Each (opened_at write name bytes n).node.sections
unfolding section_begins
opens_each true name bytes n few h =
    by_name name (λ b q. FitsReads (section_of (if b then Some (record { section = section.Writing; number = n.sections.last + 1; bytes = bytes }) else n.sections.records q))) tt (λ q w. h q)
opens_each false name bytes n few h = reads_each name (n.sections.records name) bytes n.sections refl few h

-- what the start of a section finds
below : (s : Section) → FitsReads s → (count_of s == 2 ^ 32 - 1) ≡ false → count_of s + 1 < 2 ^ 32
below section.Closed f e = omega arith
below (section.Reading count) f e = let ne = eqb-false count (2 ^ 32 - 1) e in let few = f.1 in grind arith
below section.Writing f e = omega arith

starts_below : (n : Node) (c : Call) (write : Bool) (name : Name) → StartsCall c write name → CanStart n write name → Each n.sections → (is_writing (section_at name n.sections) ≡ false) × (count_of (section_at name n.sections) + 1 < 2 ^ 32)
starts_below n c write name (deed.to_read q) can h = let found = read_starts_below n q can in (found.0, below (section_at q n.sections) (h q) found.1)
starts_below n c write name (deed.to_write q) can h = subst (λ s. (is_writing s ≡ false) × (count_of s + 1 < 2 ^ 32)) (sym (write_starts_closed n q can)) (refl, omega arith)

awaits_free : (a : Activity) (s : Sections) → a ≡ Free → AwaitsSection a s
awaits_free a s e = subst (λ x. AwaitsSection x s) (sym e) tt

-- A deed.
reads_copies : (j : ℕ) (n : Node) (cause : Cause) (o : Outcome) → Copies n cause o → Fits j n → Came Leaves n.me cause → FreeIf cause n → SectionsFit n → SectionsFit o.node
reads_copies j n cause o (deed.home_opens c write name h is e v x) f away free k = record { each = opens_each write name _ n (starts_below n c write name is v k.each).1 k.each; waiting = awaits_free n.activity _ free }
reads_copies j n cause o (deed.side_opens c write name r is e g v x) f away free k = record { each = opens_each write name _ n (starts_below n c write name is v k.each).1 k.each; waiting = awaits_free n.activity _ free }
reads_copies j n cause o (deed.home_waits c write name h is e v x) f away free k = record { each = k.each; waiting = starts_below n c write name is v k.each }
reads_copies j n cause o (deed.side_waits c write name r is e g v x) f away free k = record { each = k.each; waiting = starts_below n c write name is v k.each }
reads_copies j n cause o (deed.home_ends c name w ends lowers h is e) f away free k = record { each = closes_each name n k.each; waiting = awaits_free n.activity _ free }
reads_copies j n cause o (deed.side_ends c name w ends lowers r is e g) f away free k = record { each = closes_each name n k.each; waiting = awaits_free n.activity _ free }
reads_copies j n cause o (deed.home_serves_own from x name h s is e y) f away free k =
    record { each = opens_each (is_writing s.home.mine) name _ n (subst (λ a. AwaitsSection a n.sections) (own_waits j n h from x name s is e y away f) k.waiting).1 k.each; waiting = tt }
reads_copies j n cause o (deed.grant_comes from name version g r e t) f away free k =
    record { each = opens_each (asks_to_write r.asking) name _ n (subst (λ a. AwaitsSection a n.sections) (grant_waits j n name g r e t f) k.waiting).1 k.each; waiting = tt }
reads_copies j n cause o _ f away free k = record { each = k.each; waiting = k.waiting }

warned : (name : Name) (a : Activity) (s : Sections) → AwaitsSection a s → AwaitsSection (purges_waiting name a) s
warned name (Waiting (ForMap p purged)) s h = tt
warned name _ s h = h

reads_lives : (n : Node) (cause : Cause) (o : Outcome) → Lives n cause o → SectionsFit n → SectionsFit o.node
reads_lives n cause o (deed.map_asks name e other c real) k = record { each = k.each; waiting = tt }
reads_lives n cause o (deed.map_comes from name purged size e) k = record { each = k.each; waiting = tt }
reads_lives n cause o (deed.map_denied from name purged s why t x u e) k = record { each = k.each; waiting = tt }
reads_lives n cause o (deed.deletes_own name m ms mine live e) k = record { each = k.each; waiting = tt }
reads_lives n cause o (deed.delete_asks name other real) k = record { each = k.each; waiting = tt }
reads_lives n cause o (deed.delete_comes from name t e) k = record { each = k.each; waiting = tt }
reads_lives n cause o (deed.warns from name e c) k = record { each = k.each; waiting = warned name n.activity n.sections k.waiting }
reads_lives n cause o (deed.ends_own from name mine e missing last) k = record { each = k.each; waiting = tt }
reads_lives n cause o _ k = record { each = k.each; waiting = k.waiting }

reads_rounds : (n : Node) (cause : Cause) (o : Outcome) → Rounds n cause o → SectionsFit n → SectionsFit o.node
reads_rounds n cause o (deed.comes_away part other fits) k = record { each = k.each; waiting = tt }
reads_rounds n cause o (deed.comes_home part first fits all) k = record { each = k.each; waiting = tt }
reads_rounds n cause o (deed.part_last from round part parts mine x e a all) k = record { each = k.each; waiting = tt }
reads_rounds n cause o (deed.result_comes from round v x e) k = record { each = k.each; waiting = tt }
reads_rounds n cause o _ k = record { each = k.each; waiting = k.waiting }

reads_notes : (n : Node) (c : Call) (w : What) (m : Node) → Notes n c w m → n.activity ≡ Free → SectionsFit n → SectionsFit m
reads_notes n c w m (deed.ends_nowhere x name y ends lowers is e) free k = record { each = closes_each name n k.each; waiting = awaits_free n.activity _ free }
reads_notes n c w m _ free k = record { each = k.each; waiting = k.waiting }

reads_deed : (j : ℕ) (n : Node) (cause : Cause) (o : Outcome) → Deed n cause o → Fits j n → Came Leaves n.me cause → FreeIf cause n → SectionsFit n → SectionsFit o.node
reads_deed j n cause o (deed.copies d) f away free k = reads_copies j n cause o d f away free k
reads_deed j n cause o (deed.lives d) f away free k = reads_lives n cause o d k
reads_deed j n cause o (deed.rounds d) f away free k = reads_rounds n cause o d k
reads_deed j n cause o (deed.notes d) f away free k = reads_notes n _ _ _ d free k
reads_deed j n cause o _ f away free k = record { each = k.each; waiting = k.waiting }

pub sections_kept : Kept SectionsFit
sections_kept = record {
  deed = reads_deed;
  boxes = λ n inbox outbox parcels records notes posted k. record { each = k.each; waiting = k.waiting };
  answered = λ n answer e k. record { each = k.each; waiting = tt };
}

pub sections_fit : (count capacity : ℕ) (run : List Event) → IsRun count capacity run → (i : ℕ) → SectionsFit ((world_of count capacity run).nodes i)
sections_fit count capacity run r = kept_run SectionsFit sections_kept (new_world count capacity) run r.enabled (λ i. fits_start count capacity i) (λ i. record { each = λ q. tt; waiting = tt })
