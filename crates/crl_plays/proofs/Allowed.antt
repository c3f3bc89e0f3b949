-- Two nodes that heard the same allow the same changes and ends of write sections.
use Rattle.std.proofs.Common.{◌≡◌, ℕ, ◌+◌, ◌==◌, nat_lt, not, Bool, true, false, Option, Some, None, List, length, refl, ap, sym, ◌∙◌, subst, arith}
use Rattle.std.proofs.lemmas.Bool.{ne_eqb}
use Rattle.crl_model.specs.declared.name.Name.{Name}
use Rattle.crl_model.specs.declared.call.Call.{Call}
use Rattle.crl_model.specs.declared.call.Call.TheVariants as call
use Rattle.crl_model.specs.declared.call.Refusal.TheVariants as refusal
use Rattle.crl_protocol.specs.Lifetimes.{Mapping}
use Rattle.crl_protocol.specs.Sections.{OpenSection, section_of, section_at, section_bytes, is_writing}
use Rattle.crl_protocol.specs.Node.{Node, Free, map_count}
use Rattle.crl_protocol.specs.Talk.{Heard}
use Rattle.crl_protocol.specs.Verdict.{verdict, of_change, mapped_size}
use Rattle.crl_protocol.specs.World.{world_of}
use Rattle.crl_deeds.specs.Counts.{Counts}
use Rattle.crl_deeds.proofs.Laws.{open_size, not_refused, none_of}
use Rattle.crl_plays.specs.Plays.{HasHeard, IsInWriting}
use Rattle.crl_plays.proofs.Heard.{known_heard, same_sections}

-- What is known of a region whose write section is open.
record Written (n : Node) (q : Name) : Type 0 where
  mapped : (map_count (n.maps q) == 0) ≡ false
  size : mapped_size (n.maps q) ≡ length (section_bytes (n.sections.records q))

counted : (mine : Bool) (o : Option Mapping) (m : Mapping) → o ≡ Some m → Counts mine o → (map_count o == 0) ≡ false
counted mine None m e c = cc
counted mine (Some k) m e c = ne_eqb k.count 0 (λ z. let some = c.0 in omega arith)

written : (i : ℕ) (heard : List Heard) (n : Node) (q : Name) → HasHeard i heard n → is_writing (section_at q n.sections) ≡ true → Written n q
written i heard n q h = subst (λ (m : Node). is_writing (section_at q m.sections) ≡ true → Written m q) (sym h.node) there
  where
    node : Node
    node = (world_of h.count h.capacity h.run).nodes i

    there : is_writing (section_at q node.sections) ≡ true → Written node q
    there w =
        let known = known_heard i heard n h in
        let size = open_size (node.sections.records q) (node.maps q) w ((known.fits i).each q).sections in
        record { mapped = counted _ (node.maps q) size.0 size.1 ((known.held i).node.maps q); size = ap mapped_size size.1 ∙ sym size.2 }

-- What a verdict says that refuses nothing.

not_not : (b : Bool) → not b ≡ false → b ≡ true
not_not true e = refl
not_not false e = cc

may_end : (n : Node) (q : Name) (after : List ℕ) → verdict n (call.EndWrite q after) ≡ None → is_writing (section_at q n.sections) ≡ true
unfolding verdict
may_end n q after e = not_not _ (not_refused _ refusal.NotWriting (none_of _ _ e).1)

can_end : (n : Node) (q : Name) (after : List ℕ) → Written n q → is_writing (section_at q n.sections) ≡ true → verdict n (call.EndWrite q after) ≡ None
unfolding verdict
can_end n q after known w = rw (known.mapped, w) refl

may_change : (n : Node) (q : Name) (offset len : ℕ) → of_change n q offset len ≡ None → (is_writing (section_at q n.sections) ≡ true) × (nat_lt (mapped_size (n.maps q)) (offset + len) ≡ false)
may_change n q offset len e = let parts = none_of _ _ e in (not_not _ (not_refused _ refusal.NotWriting parts.0), not_refused _ refusal.OutOfRange parts.1)

can_change : (n : Node) (q : Name) (offset len : ℕ) → is_writing (section_at q n.sections) ≡ true → nat_lt (mapped_size (n.maps q)) (offset + len) ≡ false → of_change n q offset len ≡ None
can_change n q offset len w below = rw (w, below) refl

-- Nodes whose region has the same open section.
module _ (n m : Node) (q : Name) (same : n.sections.records q ≡ m.sections.records q) (here : is_writing (section_at q n.sections) ≡ true → Written n q) (there : is_writing (section_at q m.sections) ≡ true → Written m q) where
  writing_too : is_writing (section_at q n.sections) ≡ true → is_writing (section_at q m.sections) ≡ true
  writing_too w = subst (λ (o : Option OpenSection). is_writing (section_of o) ≡ true) same w

  end_too : (after : List ℕ) → verdict n (call.EndWrite q after) ≡ None → verdict m (call.EndWrite q after) ≡ None
  end_too after e = let w = writing_too (may_end n q after e) in can_end m q after (there w) w

  change_too : (offset len : ℕ) → of_change n q offset len ≡ None → of_change m q offset len ≡ None
  change_too offset len e =
      let may = may_change n q offset len e in
      let w = writing_too may.0 in
      let size : mapped_size (n.maps q) ≡ mapped_size (m.maps q) = (here may.0).size ∙ ap (λ (o : Option OpenSection). length (section_bytes o)) same ∙ sym (there w).size in
      can_change m q offset len w (subst (λ k. nat_lt k (offset + len) ≡ false) size may.1)

  put_too : (offset len : ℕ) → verdict n (call.Put q offset len) ≡ None → verdict m (call.Put q offset len) ≡ None
  unfolding verdict
  put_too offset len e =
      let change = (none_of _ _ e).1 in
      let known = there (writing_too (may_change n q offset len change).0) in rw (known.mapped) (change_too offset len change)

  add_too : (offset : ℕ) → verdict n (call.Add q offset) ≡ None → verdict m (call.Add q offset) ≡ None
  unfolding verdict
  add_too offset e =
      let change = (none_of _ _ e).1 in
      let known = there (writing_too (may_change n q offset 8 change).0) in rw (known.mapped) (change_too offset 8 change)

pub allowed_as_heard : (i : ℕ) (heard : List Heard) (n m : Node) (c : Call) → HasHeard i heard n → HasHeard i heard m → n.activity ≡ Free → IsInWriting c → verdict n c ≡ None → verdict m c ≡ None
allowed_as_heard i heard n m (call.EndWrite q after) h k free is e = end_too n m q (same_sections i heard n m q h k free) (written i heard n q h) (written i heard m q k) after e
allowed_as_heard i heard n m (call.Put q offset len) h k free is e = put_too n m q (same_sections i heard n m q h k free) (written i heard n q h) (written i heard m q k) offset len e
allowed_as_heard i heard n m (call.Add q offset) h k free is e = add_too n m q (same_sections i heard n m q h k free) (written i heard n q h) (written i heard m q k) offset e
allowed_as_heard i heard n m _ h k free is e = absurd is
