use Rattle.std.proofs.Common.{◌++◌, ◌∙◌, List, ℕ, ap}
use Rattle.std.specs.Prelude.{ℤ}
use Rattle.std.specs.Int.{w128, to_be_bytes, cast_unsigned}
use Rattle.std.proofs.lemmas.Int.{to_z-of_z}
use Rattle.crl_wire.proofs.body.put_total.Goals as goal

pub returns-clause-items : goal.returns-clause-items
returns-clause-items c =
    let bytes = c.to_be_bytes.ensures ∙ ap (to_be_bytes w128) c.cast_unsigned.ensures ∙ ap (λ (z : ℤ). to_be_bytes w128 (cast_unsigned w128 z)) (to_z-of_z w128 c.args.value c.ranges.value) in
    c.put.ensures.items ∙ ap (λ (x : List ℕ). c.args.out.now.items ++ x) bytes
