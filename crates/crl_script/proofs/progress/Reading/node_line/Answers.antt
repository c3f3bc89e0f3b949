use Rattle.std.proofs.Common.{◌≡◌, ◌==◌, true, false, nat_le, length, rules, refl, arith}
use Rattle.std.proofs.lemmas.List.{length-map}
use Rattle.std.specs.List.{list_any}
use Rattle.crl_script.specs.Progress.{node_line}
use Rattle.crl_script.specs.Seen.{seen}
use Rattle.crl_script.proofs.progress.Reading.node_line.Goals as goal

pub returns-then-is_among-clause-read : goal.returns-then-is_among-clause-read
unfolding node_line
returns-then-is_among-clause-read c =
    let p = seen c.args.self.now in
    let among : list_any (λ k. k == c.in_ok-number.number) p.begun ≡ true = search rules in
    let below : nat_le (length p.blocks) c.in_ok-number.number ≡ false = grind (arith, length-map c.args.self.now.blocks.items (λ b. b.items)) in
    rw (c.in-One.ensures, c.in_ok-number.ensures, below, among) refl
