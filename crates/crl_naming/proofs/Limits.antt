-- What a call that isn't refused counts has room for one more.
use Rattle.std.proofs.Common.{◌≡◌, ℕ, ◌+◌, ◌<◌, ◌^◌, ◌==◌, Bool, true, false, length, refl, arith, if◌then◌else◌}
use Rattle.std.proofs.lemmas.Bool.Decides.{nat_tests}
use Rattle.std.specs.declared.option.Option.{Option}
use Rattle.std.specs.declared.option.Option.TheVariants.{None, Some}
use Rattle.crl_model.specs.declared.name.Name.{Name}
use Rattle.crl_model.specs.declared.stage.Stage.{Stage}
use Rattle.crl_model.specs.declared.call.Call.TheVariants as call
use Rattle.crl_model.specs.declared.call.Refusal.{Refusal}
use Rattle.crl_model.specs.declared.call.Refusal.TheVariants.{NamesSpent, TooMany, Deleted, NotMapped}
use Rattle.crl_protocol.specs.Lifetimes.{Mapping}
use Rattle.crl_protocol.specs.Sections.{section_at}
use Rattle.crl_protocol.specs.Node.{Node, COUNT_LIMIT, is_mine, lifetime_of}
use Rattle.crl_protocol.specs.Verdict.{verdict, else_if, refuse_if, by_stage, of_more, of_mapped, of_open}

-- the second of two reasons isn't there
second_none : (o : Option Refusal) (b : Bool) (why : Refusal) → else_if o (refuse_if b why) ≡ None → b ≡ false
second_none None true why e = cc
second_none None false why e = refl
second_none (Some other) b why e = cc

below : (count : ℕ) → (count == COUNT_LIMIT) ≡ false → count < 2 ^ 32 → count + 1 < 2 ^ 32
below count e b = grind (arith, nat_tests)

pub create_fits : (n : Node) (size : ℕ) → verdict n (call.Create size) ≡ None → length n.homes < 2 ^ 32 → length n.homes + 1 < 2 ^ 32
unfolding verdict
create_fits n size v b = below (length n.homes) (second_none _ (length n.homes == COUNT_LIMIT) NamesSpent v) b

counted : (mine : Bool) (stage : Stage) (n : Node) (name : Name) (m : Mapping)
    → (if mine then else_if (by_stage stage) (of_more m.count) else of_mapped n name (Some m)) ≡ None → (m.count == COUNT_LIMIT) ≡ false
counted true stage n name m e = second_none (by_stage stage) (m.count == COUNT_LIMIT) TooMany e
counted false stage n name m e = second_none (refuse_if m.doomed Deleted) (m.count == COUNT_LIMIT) TooMany e

pub map_fits : (n : Node) (name : Name) (m : Mapping) → verdict n (call.Map name) ≡ None → n.maps name ≡ Some m → (m.count == COUNT_LIMIT) ≡ false
unfolding verdict
map_fits n name m v e = counted (is_mine n name) (lifetime_of n name).stage n name m (rw e at v)

-- an unmap that isn't refused has a map to undo
first_none : (b : Bool) (why : Refusal) (o : Option Refusal) → else_if (refuse_if b why) o ≡ None → b ≡ false
first_none true why o e = cc
first_none false why o e = refl

pub unmap_counts : (n : Node) (name : Name) (m : Mapping) → verdict n (call.Unmap name) ≡ None → n.maps name ≡ Some m → (m.count == 0) ≡ false
unfolding verdict
unmap_counts n name m v e = first_none (m.count == 0) NotMapped (of_open (section_at name n.sections)) (rw e at v)
