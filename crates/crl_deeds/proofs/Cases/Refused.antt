-- What a node finds of a call that it takes, and of one that it refuses.
use Rattle.std.proofs.Common.{◌≡◌, ℕ, ◌+◌, ◌≤◌, ◌==◌, nat_lt, Bool, true, false, not, ◌||◌, None, Some, Option, List, length, refl, sym, ◌∙◌, subst, arith}
use Rattle.std.proofs.lemmas.Bool.{cond-true, cond-false, eqb-false, or_parts, ltb-false}
use Rattle.std.proofs.Math.Logic.{◌⊎◌, inl, inr}
use Rattle.crl_model.specs.declared.TheConstants.{REGION_LIMIT, BROADCAST_LIMIT}
use Rattle.crl_model.specs.declared.name.Name.{Name}
use Rattle.crl_model.specs.declared.stage.Stage.{Stage}
use Rattle.crl_model.specs.declared.stage.Stage.TheVariants as stage
use Rattle.crl_model.specs.declared.directory.Section.{Section}
use Rattle.crl_model.specs.declared.directory.Section.TheVariants as section
use Rattle.crl_model.specs.declared.collective.Part.{Part}
use Rattle.crl_model.specs.declared.collective.Part.TheVariants as part
use Rattle.crl_model.specs.declared.call.Call.{Call}
use Rattle.crl_model.specs.declared.call.Call.TheVariants as call
use Rattle.crl_model.specs.declared.call.Refusal.{Refusal}
use Rattle.crl_model.specs.declared.call.Refusal.TheVariants as refusal
use Rattle.crl_model.specs.declared.message.Told.{Told}
use Rattle.crl_model.specs.declared.message.Told.TheVariants as told
use Rattle.crl_model.specs.declared.message.DeleteTold.{DeleteTold}
use Rattle.crl_model.specs.declared.message.DeleteTold.TheVariants as delete_told
use Rattle.crl_protocol.specs.Lifetimes.{Mapping, cached_size}
use Rattle.crl_protocol.specs.Remote.{is_closed}
use Rattle.crl_protocol.specs.Sections.{section_at, count_of, is_writing}
use Rattle.crl_protocol.specs.Node.{Node, COUNT_LIMIT, serials_used, is_mine, lifetime_of, map_count}
use Rattle.crl_protocol.specs.Verdict.{else_if, refuse_if, by_stage, of_more, of_cached, of_mapped, of_map, of_delete, of_create, of_start, of_end, of_change, mapped_size, of_part, verdict}
use Rattle.crl_deeds.specs.Deeds.{Unfit, never, going, gone, CanStart, CanEnd}
use Rattle.crl_deeds.specs.Refusals.{NeedsMap, unmap, start_read, end_read, start_write, end_write, put, add, flush, NeedsWriting, ends, puts, adds, unmaps, flushes, Changes, by_put, by_add, Refuses, bad_size, names_spent, own_map, own_delete, doomed_map, unreal_map, unreal_delete, too_many_own, too_many_maps, not_mapped, section_open_read, section_open_write, too_many_reads, not_reading, not_writing, in_section, out_of_range, wrong_size}
use Rattle.crl_deeds.proofs.Cases.Called.{not_refused, not_not}
use Rattle.crl_deeds.proofs.Fits.LifetimeCalls.{none_of}

-- The first reason of two, and the reason of a test.
first_of : (a b : Option Refusal) (why : Refusal) → else_if a b ≡ Some why → (a ≡ Some why) ⊎ ((a ≡ None) × (b ≡ Some why))
first_of None b why e = inr (refl, e)
first_of (Some x) b why e = inl e

for_test : (b : Bool) (x why : Refusal) → refuse_if b x ≡ Some why → (b ≡ true) × (x ≡ why)
for_test true x why e = (refl, cc)
for_test false x why e = cc

not_open : (b : Bool) → not b ≡ true → b ≡ false
not_open true e = cc
not_open false e = refl

by_the_stage : (s : Stage) (why : Refusal) → by_stage s ≡ Some why → (t : Told) × (d : DeleteTold) × Unfit s why t d
by_the_stage stage.Unknown why e = subst (λ w. (t : Told) × (d : DeleteTold) × Unfit stage.Unknown w t d) (let same : refusal.Unknown ≡ why = cc in same) (told.Unknown, delete_told.Unknown, never)
by_the_stage stage.Live why e = cc
by_the_stage (stage.Going deleter) why e = subst (λ w. (t : Told) × (d : DeleteTold) × Unfit (stage.Going deleter) w t d) (let same : refusal.Deleted ≡ why = cc in same) (told.Deleted, delete_told.Deleted, going deleter)
by_the_stage stage.Gone why e = subst (λ w. (t : Told) × (d : DeleteTold) × Unfit stage.Gone w t d) (let same : refusal.Deleted ≡ why = cc in same) (told.Deleted, delete_told.Deleted, gone)

live_if_none : (s : Stage) → by_stage s ≡ None → s ≡ stage.Live
live_if_none stage.Unknown e = cc
live_if_none stage.Live e = refl
live_if_none (stage.Going deleter) e = cc
live_if_none stage.Gone e = cc

-- a test, its reason and what it shows
tested : (n : Node) (c : Call) (b : Bool) (x why : Refusal) → (b ≡ true → Refuses n c x) → refuse_if b x ≡ Some why → Refuses n c why
tested n c b x why f e = let parts = for_test b x why e in subst (λ w. Refuses n c w) parts.1 (f parts.0)

-- a call about a region that has to be mapped
mapped_first : (n : Node) (c : Call) (q : Name) (rest : Option Refusal) (why : Refusal) → NeedsMap c q → ((map_count (n.maps q) == 0) ≡ false → rest ≡ Some why → Refuses n c why)
    → else_if (refuse_if (map_count (n.maps q) == 0) refusal.NotMapped) rest ≡ Some why → Refuses n c why
mapped_first n c q rest why needs f e = go (first_of _ rest why e)
  where
    go : (refuse_if (map_count (n.maps q) == 0) refusal.NotMapped ≡ Some why) ⊎ ((refuse_if (map_count (n.maps q) == 0) refusal.NotMapped ≡ None) × (rest ≡ Some why)) → Refuses n c why
    go (inl w) = tested n c _ refusal.NotMapped why (not_mapped c q needs) w
    go (inr w) = f (not_refused _ refusal.NotMapped w.0) w.1

by_create : (n : Node) (size : ℕ) (why : Refusal) → of_create n size ≡ Some why → Refuses n (call.Create size) why
by_create n size why e = go (first_of _ _ why e)
  where
    go : (refuse_if ((size == 0) || nat_lt REGION_LIMIT size) refusal.BadSize ≡ Some why) ⊎ ((refuse_if ((size == 0) || nat_lt REGION_LIMIT size) refusal.BadSize ≡ None) × (refuse_if (serials_used n == COUNT_LIMIT) refusal.NamesSpent ≡ Some why)) → Refuses n (call.Create size) why
    go (inl w) = tested n _ _ refusal.BadSize why (bad_size size) w
    go (inr w) = tested n _ _ refusal.NamesSpent why (names_spent size) w.1

by_delete : (n : Node) (q : Name) (why : Refusal) (b : Bool) → is_mine n q ≡ b → of_delete n q ≡ Some why → Refuses n (call.Delete q) why
by_delete n q why true mine e = let u = by_the_stage (lifetime_of n q).stage why (sym (cond-true (is_mine n q) _ _ mine) ∙ e) in own_delete q why u.0 u.1 mine u.2
by_delete n q why false other e = tested n _ _ refusal.Unknown why (λ w. unreal_delete q other (not_open _ w)) (sym (cond-false (is_mine n q) _ _ other) ∙ e)

by_own_map : (n : Node) (q : Name) (why : Refusal) → is_mine n q ≡ true → else_if (by_stage (lifetime_of n q).stage) (of_more (map_count (n.maps q))) ≡ Some why → Refuses n (call.Map q) why
by_own_map n q why mine e = go (first_of _ _ why e)
  where
    go : (by_stage (lifetime_of n q).stage ≡ Some why) ⊎ ((by_stage (lifetime_of n q).stage ≡ None) × (of_more (map_count (n.maps q)) ≡ Some why)) → Refuses n (call.Map q) why
    go (inl w) = let u = by_the_stage (lifetime_of n q).stage why w in own_map q why u.0 u.1 mine u.2
    go (inr w) = tested n _ _ refusal.TooMany why (too_many_own q mine (live_if_none _ w.0)) w.1

by_cached : (n : Node) (q : Name) (why : Refusal) (size : Option ℕ) → is_mine n q ≡ false → of_cached n q size ≡ Some why → Refuses n (call.Map q) why
by_cached n q why (Some size) other e = cc
by_cached n q why None other e = tested n _ _ refusal.Unknown why (λ w. unreal_map q other (not_open _ w)) e

by_mapped : (n : Node) (q : Name) (why : Refusal) (o : Option Mapping) → n.maps q ≡ o → is_mine n q ≡ false → of_mapped n q o ≡ Some why → Refuses n (call.Map q) why
by_mapped n q why None there other e = by_cached n q why (cached_size q n.cache) other e
by_mapped n q why (Some m) there other e = go (first_of _ _ why e)
  where
    go : (refuse_if m.doomed refusal.Deleted ≡ Some why) ⊎ ((refuse_if m.doomed refusal.Deleted ≡ None) × (of_more m.count ≡ Some why)) → Refuses n (call.Map q) why
    go (inl w) = tested n _ _ refusal.Deleted why (doomed_map q m other there) w
    go (inr w) = tested n _ _ refusal.TooMany why (too_many_maps q m other there (not_refused _ refusal.Deleted w.0)) w.1

by_map : (n : Node) (q : Name) (why : Refusal) (b : Bool) → is_mine n q ≡ b → of_map n q ≡ Some why → Refuses n (call.Map q) why
by_map n q why true mine e = by_own_map n q why mine (sym (cond-true (is_mine n q) _ _ mine) ∙ e)
by_map n q why false other e = by_mapped n q why (n.maps q) refl other (sym (cond-false (is_mine n q) _ _ other) ∙ e)

by_read : (n : Node) (q : Name) (why : Refusal) → (map_count (n.maps q) == 0) ≡ false → of_start false (section_at q n.sections) ≡ Some why → Refuses n (call.StartRead q) why
by_read n q why mapped e = go (first_of _ _ why e)
  where
    go : (refuse_if (is_writing (section_at q n.sections)) refusal.SectionOpen ≡ Some why) ⊎ ((refuse_if (is_writing (section_at q n.sections)) refusal.SectionOpen ≡ None) × (of_more (count_of (section_at q n.sections)) ≡ Some why)) → Refuses n (call.StartRead q) why
    go (inl w) = tested n _ _ refusal.SectionOpen why (section_open_read q mapped) w
    go (inr w) = tested n _ _ refusal.TooMany why (too_many_reads q mapped (not_refused _ refusal.SectionOpen w.0)) w.1

by_change : (n : Node) (c : Call) (q : Name) (offset len : ℕ) (why : Refusal) → NeedsWriting c q → Changes c q → (map_count (n.maps q) == 0) ≡ false → of_change n q offset len ≡ Some why → Refuses n c why
by_change n c q offset len why needs changes mapped e = go (first_of _ _ why e)
  where
    go : (of_end true (section_at q n.sections) ≡ Some why) ⊎ ((of_end true (section_at q n.sections) ≡ None) × (refuse_if (nat_lt (mapped_size (n.maps q)) (offset + len)) refusal.OutOfRange ≡ Some why)) → Refuses n c why
    go (inl w) = tested n _ _ refusal.NotWriting why (λ x. not_writing c q needs mapped (not_open _ x)) w
    go (inr w) = tested n _ _ refusal.OutOfRange why (λ x. out_of_range c q changes mapped (not_not _ (not_refused _ refusal.NotWriting w.0))) w.1

by_part : (n : Node) (p : Part) (why : Refusal) → of_part p ≡ Some why → Refuses n (call.Come p) why
by_part n (part.Send bytes) why e = tested n _ _ refusal.WrongSize why (wrong_size bytes) e
by_part n part.Barrier why e = cc
by_part n part.Receive why e = cc
by_part n (part.Sum v) why e = cc
by_part n (part.Min v) why e = cc
by_part n (part.Max v) why e = cc

pub refused_for : (n : Node) (c : Call) (why : Refusal) → verdict n c ≡ Some why → Refuses n c why
unfolding verdict
refused_for n (call.Create size) why e = by_create n size why e
refused_for n (call.Delete q) why e = by_delete n q why (is_mine n q) refl e
refused_for n (call.Map q) why e = by_map n q why (is_mine n q) refl e
refused_for n (call.Unmap q) why e = mapped_first n _ q _ why (unmap q) (λ mapped w. tested n _ _ refusal.InSection why (λ x. in_section _ q (unmaps q) mapped (not_open _ x)) w) e
refused_for n (call.StartRead q) why e = mapped_first n _ q _ why (start_read q) (by_read n q why) e
refused_for n (call.EndRead q) why e = mapped_first n _ q _ why (end_read q) (λ mapped w. tested n _ _ refusal.NotReading why (not_reading q mapped) w) e
refused_for n (call.StartWrite q) why e = mapped_first n _ q _ why (start_write q) (λ mapped w. tested n _ _ refusal.SectionOpen why (λ x. section_open_write q mapped (not_open _ x)) w) e
refused_for n (call.EndWrite q after) why e = mapped_first n _ q _ why (end_write q after) (λ mapped w. tested n _ _ refusal.NotWriting why (λ x. not_writing _ q (ends q after) mapped (not_open _ x)) w) e
refused_for n (call.Put q offset len) why e = mapped_first n _ q _ why (put q offset len) (λ mapped w. by_change n _ q offset len why (puts q offset len) (by_put q offset len) mapped w) e
refused_for n (call.Add q offset) why e = mapped_first n _ q _ why (add q offset) (λ mapped w. by_change n _ q offset 8 why (adds q offset) (by_add q offset) mapped w) e
refused_for n (call.Flush q) why e = mapped_first n _ q _ why (flush q) (λ mapped w. tested n _ _ refusal.InSection why (λ x. in_section _ q (flushes q) mapped (not_open _ x)) w) e
refused_for n (call.Come p) why e = by_part n p why e

-- What a call finds that isn't refused.
pub closed_is : (s : Section) → is_closed s ≡ true → s ≡ section.Closed
closed_is section.Closed e = refl
closed_is (section.Reading count) e = cc
closed_is section.Writing e = cc

is_writing_so : (s : Section) → is_writing s ≡ true → s ≡ section.Writing
is_writing_so section.Closed e = cc
is_writing_so (section.Reading count) e = cc
is_writing_so section.Writing e = refl

pub is_mapped_by : (o : Option Mapping) → (map_count o == 0) ≡ false → 1 ≤ map_count o
is_mapped_by o e = let ne = eqb-false (map_count o) 0 e in grind arith

pub write_starts_closed : (n : Node) (q : Name) → CanStart n true q → section_at q n.sections ≡ section.Closed
write_starts_closed n q can = closed_is _ (not_not _ (not_refused _ refusal.SectionOpen can.section))

pub read_starts_below : (n : Node) (q : Name) → CanStart n false q → (is_writing (section_at q n.sections) ≡ false) × ((count_of (section_at q n.sections) == COUNT_LIMIT) ≡ false)
read_starts_below n q can = let parts = none_of _ _ can.section in (not_refused _ refusal.SectionOpen parts.0, not_refused _ refusal.TooMany parts.1)

pub read_ends_open : (n : Node) (q : Name) → CanEnd n false q → 1 ≤ count_of (section_at q n.sections)
read_ends_open n q can = let ne = eqb-false (count_of (section_at q n.sections)) 0 (not_refused _ refusal.NotReading can.section) in grind arith

pub write_ends_open : (n : Node) (q : Name) → CanEnd n true q → section_at q n.sections ≡ section.Writing
write_ends_open n q can = is_writing_so _ (not_not _ (not_refused _ refusal.NotWriting can.section))

pub create_fits : (n : Node) (size : ℕ) → of_create n size ≡ None → (1 ≤ size) × (size ≤ REGION_LIMIT) × ((serials_used n == COUNT_LIMIT) ≡ false)
create_fits n size e =
    let parts = none_of _ _ e in
    let bounds = or_parts (size == 0) (nat_lt REGION_LIMIT size) (not_refused _ refusal.BadSize parts.0) in
    (let ne = eqb-false size 0 bounds.0 in grind arith, ltb-false _ _ bounds.1, not_refused _ refusal.NamesSpent parts.1)

pub send_fits : (bytes : List ℕ) → of_part (part.Send bytes) ≡ None → (1 ≤ length bytes) × (length bytes ≤ BROADCAST_LIMIT)
send_fits bytes e =
    let bounds = or_parts (length bytes == 0) (nat_lt BROADCAST_LIMIT (length bytes)) (not_refused _ refusal.WrongSize e) in
    (let ne = eqb-false (length bytes) 0 bounds.0 in grind arith, ltb-false _ _ bounds.1)
