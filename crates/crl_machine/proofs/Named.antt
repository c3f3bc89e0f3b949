-- Each name that was created has one of the serials that its home has used.
use Rattle.std.proofs.Common.{◌≡◌, ◌≢◌, ℕ, ◌+◌, ◌<◌, ◌≤◌, ◌^◌, Bool, true, false, if◌then◌else◌, List, [], ◌∷◌, refl, sym, ap, subst, ◌∙◌, arith, inl, inr}
use Rattle.std.proofs.lemmas.Grind.{common_steps}
use Rattle.crl_model.specs.declared.name.Name.{Name}
use Rattle.crl_model.specs.declared.stage.Stage.{Stage}
use Rattle.crl_model.specs.declared.stage.Stage.TheVariants.{Unknown, Live, Going, Gone}
use Rattle.std.specs.Prelude.{min, ◌-◌}
use Rattle.crl_model.specs.declared.call.CallKind.{CallKind}
use Rattle.crl_model.specs.declared.entry.Place.{Place}
use Rattle.crl_model.specs.declared.entry.Place.TheVariants.{Region, Round}
use Rattle.crl_model.specs.declared.call.Refusal.{Refusal}
use Rattle.crl_model.specs.declared.call.Refusal.TheVariants as refusal
use Rattle.crl_model.specs.declared.entry.What.{What}
use Rattle.crl_model.specs.declared.entry.What.TheVariants.{Create, Map, Unmap, StartRead, Read, StartWrite, Write, Flush, Deleting, Deleted, Come, Came, Refused}
use Rattle.crl_model.specs.declared.entry.Entry.{Entry}
use Rattle.crl_model.specs.Names.{name_eq, at_node, at_name}
use Rattle.crl_model.proofs.Laws.{same_name}
use Rattle.crl_machine.specs.SingleMachine.{State, start, Applies, IsRefusedSerial, change, used_after, after, IsHistory, after_all}
use Rattle.crl_machine.specs.Laws.{IsUsed, AreNamed}

-- more serials used, and the same names
more_used : (s : State) (used : ℕ → ℕ) → ((m : ℕ) → s.used m ≤ used m) → AreNamed s → AreNamed (record s { used = used })
more_used s used more x q there = let h = x q there in record { home = h.home; counted = h.counted; used = let m = more q.home in omega (arith, h.used, m) }

at_least : (used : ℕ → ℕ) (n v m : ℕ) → used n ≤ v → used m ≤ at_node used n v m
at_least used n v m h = grind (arith, common_steps, h)

-- a name of this kind moves on to another stage
moved_on : (s : State) (name : Name) (to : Stage) → IsUsed s name → AreNamed s → AreNamed (record s { stage = at_name s.stage name to })
moved_on s name to u x q there = go (name_eq name q) refl
  where
    go : (b : Bool) → name_eq name q ≡ b → IsUsed (record s { stage = at_name s.stage name to }) q
    go true same = let e = same_name name q same in subst (λ (p : Name). IsUsed (record s { stage = at_name s.stage name to }) p) e (record { home = u.home; counted = u.counted; used = u.used })
    go false other = let h = x q (subst (λ (t : Stage). t ≢ Unknown) (ap (λ c. if c then to else s.stage q) other) there) in record { home = h.home; counted = h.counted; used = h.used }

-- a refused create that uses a serial has one to use
serial_left : (used serial : ℕ) → IsRefusedSerial used serial → used ≤ min (used + 1) (2 ^ 32 - 1)
serial_left used serial (inl h) = let few = h.0 in omega (arith, few)
serial_left used serial (inr h) = let few = h.0 in omega (arith, few)

refused_uses : (s : State) (n : ℕ) (kind : CallKind) (place : Place) (why : Refusal) → Applies s n (Refused kind place why) → s.used n ≤ used_after why (s.used n)
refused_uses s n kind (Region name) refusal.BadSize a = serial_left (s.used n) name.serial a.1.2
refused_uses s n kind (Round round) refusal.BadSize a = absurd a
refused_uses s n kind place refusal.NamesSpent a = omega arith
refused_uses s n kind place refusal.Unknown a = omega arith
refused_uses s n kind place refusal.Deleted a = omega arith
refused_uses s n kind place refusal.NotMapped a = omega arith
refused_uses s n kind place refusal.SectionOpen a = omega arith
refused_uses s n kind place refusal.NotReading a = omega arith
refused_uses s n kind place refusal.NotWriting a = omega arith
refused_uses s n kind place refusal.InSection a = omega arith
refused_uses s n kind place refusal.OutOfRange a = omega arith
refused_uses s n kind place refusal.WrongSize a = omega arith
refused_uses s n kind place refusal.TooMany a = omega arith
refused_uses s n kind place refusal.Mixed a = omega arith

named_step : (s : State) (n : ℕ) (w : What) → n < s.nodes → AreNamed s → Applies s n w → AreNamed (change s n w)
named_step s n (Create name size) h x a =
    let t = more_used s (at_node s.used n (s.used n + 1)) (λ m. at_least s.used n (s.used n + 1) m (omega arith)) x in
    let u : IsUsed (record s { used = at_node s.used n (s.used n + 1) }) name = record { home = omega (arith, h, a.1); counted = omega (arith, a.2); used = grind (arith, common_steps, a.1, a.2) } in
    λ q there. let k = moved_on (record s { used = at_node s.used n (s.used n + 1) }) name Live u t q there in record { home = k.home; counted = k.counted; used = k.used }
named_step s n (Map name size) h x a = λ q there. let k = x q there in record { home = k.home; counted = k.counted; used = k.used }
named_step s n (Unmap name) h x a = λ q there. let k = x q there in record { home = k.home; counted = k.counted; used = k.used }
named_step s n (Flush name) h x a = x
named_step s n (StartRead name) h x a = λ q there. let k = x q there in record { home = k.home; counted = k.counted; used = k.used }
named_step s n (Read name seen) h x a = λ q there. let k = x q there in record { home = k.home; counted = k.counted; used = k.used }
named_step s n (StartWrite name) h x a = λ q there. let k = x q there in record { home = k.home; counted = k.counted; used = k.used }
named_step s n (Write name before written) h x a = λ q there. let k = x q there in record { home = k.home; counted = k.counted; used = k.used }
named_step s n (Deleting name) h x a = moved_on s name (Going n) (x name (λ e. let both : Live ≡ Unknown = sym a.1 ∙ e in cc)) x
named_step s n (Deleted name) h x a = moved_on s name Gone (x name (λ e. let both : Going n ≡ Unknown = sym a ∙ e in cc)) x
named_step s n (Come part) h x a = λ q there. let k = x q there in record { home = k.home; counted = k.counted; used = k.used }
named_step s n (Came round fold) h x a = λ q there. let k = x q there in record { home = k.home; counted = k.counted; used = k.used }
named_step s n (Refused kind place why) h x a =
    let t = more_used s (at_node s.used n (used_after why (s.used n))) (λ m. at_least s.used n (used_after why (s.used n)) m (refused_uses s n kind place why a)) x in
    λ q there. let k = t q there in record { home = k.home; counted = k.counted; used = k.used }

pub named_all : (s : State) (es : List Entry) → AreNamed s → IsHistory s es → AreNamed (after_all s es)
named_all s [] x legal = x
named_all s (e ∷ es) x legal = named_all (after s e) es (named_step s e.node e.what legal.0.0 x legal.0.1) legal.1

pub named_start : (n : ℕ) → AreNamed (start n)
named_start n q there = absurd (there refl)
