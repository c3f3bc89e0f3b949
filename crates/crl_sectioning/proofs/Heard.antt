-- What the verdict tells of the sections that are open, where it refuses nothing.
use Rattle.std.proofs.Common.{◌≡◌, refl, sym, subst, ℕ, ◌-◌, ◌<◌, ◌^◌, ◌==◌, Bool, true, false, List, length, arith}
use Rattle.std.specs.declared.option.Option.{Option}
use Rattle.std.specs.declared.option.Option.TheVariants.{None, Some}
use Rattle.std.proofs.lemmas.Bool.{eqb-false}
use Rattle.crl_model.specs.declared.name.Name.{Name}
use Rattle.crl_model.specs.declared.directory.Section.{Section}
use Rattle.crl_model.specs.declared.directory.Section.TheVariants.{Closed, Reading, Writing}
use Rattle.crl_model.specs.declared.call.Refusal.{Refusal}
use Rattle.crl_model.specs.declared.call.Refusal.TheVariants.{NotReading}
use Rattle.crl_model.specs.declared.call.Call.TheVariants.{EndRead, EndWrite}
use Rattle.crl_protocol.specs.Home.{is_reading}
use Rattle.crl_protocol.specs.Sections.{OpenSection, section_of, section_at, section_bytes, count_of, is_writing}
use Rattle.crl_protocol.specs.Node.{Node, COUNT_LIMIT}
use Rattle.crl_protocol.specs.Verdict.{verdict, else_if, of_start, of_end, of_more, of_unmapped, refuse_if}
use Rattle.crl_sections.specs.SectionsState.{IsAbsentIfClosed}
use Rattle.crl_remote.specs.Copies.{IsReading, IsWriting}
use Rattle.crl_sectioning.specs.Starts.{start_call, SectionMayOpen}

second_none : (a b : Option Refusal) → else_if a b ≡ None → b ≡ None
second_none None b e = e
second_none (Some why) b e = absurd (cc)

pub heard_start : (write : Bool) (name : Name) (n : Node) → verdict n (start_call write name) ≡ None → of_start write (section_at name n.sections) ≡ None
unfolding verdict
heard_start true name n e = second_none (of_unmapped n name) _ e
heard_start false name n e = second_none (of_unmapped n name) _ e

fewer : (count : ℕ) (b : Bool) → (count == COUNT_LIMIT) ≡ b → of_more count ≡ None → count < 2 ^ 32 → count < 2 ^ 32 - 1
fewer count true e heard word = absurd (cc)
fewer count false e heard word = let other = eqb-false count COUNT_LIMIT e in omega arith

pub count_below : (write : Bool) (s : Section) → of_start write s ≡ None → count_of s < 2 ^ 32 → count_of s < 2 ^ 32 - 1
count_below true Closed e word = omega arith
count_below true (Reading count) e word = absurd (cc)
count_below true Writing e word = absurd (cc)
count_below false Closed e word = omega arith
count_below false (Reading count) e word = fewer count (count == COUNT_LIMIT) refl e word
count_below false Writing e word = absurd (cc)

closed_to_write : (s : Section) → of_start true s ≡ None → s ≡ Closed
closed_to_write Closed e = refl
closed_to_write (Reading count) e = absurd (cc)
closed_to_write Writing e = absurd (cc)

reads_inside : (s : Section) → of_start false s ≡ None → (s ≡ Closed → ⊥) → is_reading s ≡ true
reads_inside Closed e other = absurd (other refl)
reads_inside (Reading count) e other = refl
reads_inside Writing e other = absurd (cc)

none_if_closed : (o : OpenSection) → IsAbsentIfClosed o.section (Some o) → o.section ≡ Closed → ⊥
none_if_closed o absent e = none (subst (λ s. IsAbsentIfClosed s (Some o)) e absent)
  where
    none : Some o ≡ None → ⊥
    none same = cc

-- a section may open that may start
pub may_open : (write : Bool) (size : ℕ) (row : Option OpenSection) → of_start write (section_of row) ≡ None → IsAbsentIfClosed (section_of row) row → count_of (section_of row) < 2 ^ 32
    → ((o : OpenSection) → row ≡ Some o → length o.bytes ≡ size) → SectionMayOpen write size row
may_open write size None heard absent word sized = tt
may_open true size (Some o) heard absent word sized = absurd (none_if_closed o absent (closed_to_write o.section heard))
may_open false size (Some o) heard absent word sized = (reads_inside o.section heard (none_if_closed o absent), count_below false o.section heard word, sym (sized o refl))

-- the sections that an end finds open
pub heard_end_read : (name : Name) (n : Node) → verdict n (EndRead name) ≡ None → of_end false (section_at name n.sections) ≡ None
unfolding verdict
heard_end_read name n e = second_none (of_unmapped n name) _ e

pub heard_end_write : (name : Name) (bytes : List ℕ) (n : Node) → verdict n (EndWrite name bytes) ≡ None → of_end true (section_at name n.sections) ≡ None
unfolding verdict
heard_end_write name bytes n e = second_none (of_unmapped n name) _ e

some_reads : (count : ℕ) (b : Bool) → (count == 0) ≡ b → refuse_if b NotReading ≡ None → 0 < count
some_reads count true e heard = absurd (cc)
some_reads count false e heard = let other = eqb-false count 0 e in omega arith

pub end_reads : (s : Section) → of_end false s ≡ None → is_reading s ≡ true
end_reads Closed e = absurd (cc)
end_reads (Reading count) e = refl
end_reads Writing e = absurd (cc)

pub end_reads_here : (s : Section) → of_end false s ≡ None → IsReading s
end_reads_here Closed e = absurd (cc)
end_reads_here (Reading count) e = some_reads count (count == 0) refl e
end_reads_here Writing e = absurd (cc)

pub end_writes : (s : Section) → of_end true s ≡ None → is_writing s ≡ true
end_writes Closed e = absurd (cc)
end_writes (Reading count) e = absurd (cc)
end_writes Writing e = refl

pub end_writes_here : (s : Section) → of_end true s ≡ None → IsWriting s
end_writes_here Closed e = absurd (cc)
end_writes_here (Reading count) e = absurd (cc)
end_writes_here Writing e = tt

-- a section that is written began with as many bytes as the region has
pub written_size : (size : ℕ) (row : Option OpenSection) → of_end true (section_of row) ≡ None → ((o : OpenSection) → row ≡ Some o → length o.bytes ≡ size) → length (section_bytes row) ≡ size
written_size size None heard sized = absurd (cc)
written_size size (Some o) heard sized = sized o refl
