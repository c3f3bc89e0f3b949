use Rattle.std.proofs.Common.{◌≡◌, ◌<◌, ◌++◌, ◌∷◌, [], length, rules, arith}
use Rattle.crl_script.proofs.BlockLemmas.{put_at}
use Rattle.crl_script.proofs.progress.put_statement.Goals as goal

pub returns-in_ok-push-clause-put : goal.returns-in_ok-push-clause-put
returns-in_ok-push-clause-put c =
    let xs = c.args.blocks.now.items in
    let within : c.args.node < length xs = grind arith in
    let more : c.push.new.self.items ≡ c.in-Some.block.now.items ++ c.args.statement ∷ [] = search rules in
    put_at (λ b. b.items) xs c.args.node c.in-Some.block.now c.push.new.self c.args.statement within c.in-Some.ensures.value more
