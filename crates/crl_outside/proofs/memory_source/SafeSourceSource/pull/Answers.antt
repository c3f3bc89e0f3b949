use Rattle.std.proofs.Common.{◌≡◌, ◌≤◌, ◌+◌, take, drop, length, arith}
use Rattle.std.proofs.lemmas.Grind.{common_steps}
use Rattle.crl_outside.proofs.Streams.{pulled}
use Rattle.crl_outside.proofs.memory_source.SafeSourceSource.pull.Goals as goal

pub returns-clause-bytes : goal.returns-clause-bytes
returns-clause-bytes c =
    let n = c.min-count.result in
    let bytes = c.self.inside.bytes in
    let at = c.self.inside.given in
    let is : c.copy_from_slice.new.self ≡ take n (drop at bytes) = grind (arith, common_steps) in
    let fits : at + n ≤ length bytes = grind (arith, common_steps) in
    rw (← c.self.view_is) (rw is (pulled bytes (drop n c.args.into.now) at n fits), grind (arith, common_steps))
