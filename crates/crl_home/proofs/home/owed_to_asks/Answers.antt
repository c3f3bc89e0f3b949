use Rattle.std.proofs.Common.{rules, arith, ◌≡◌, length}
use Rattle.crl_home.proofs.Owing.{asks_owe}
use Rattle.crl_home.proofs.home.owed_to_asks.Goals as goal

pub overflow_mul-result : goal.overflow_mul-result
overflow_mul-result c =
    let n : c.len.result ≡ length c.args.queue.now.items = search rules in
    omega (arith, asks_owe c.args.size c.ask_debt.result c.len.result c.args.queue.now.items c.ask_debt.ensures.debt n, c.requires)

pub returns : goal.returns
returns c =
    let n : c.len.result ≡ length c.args.queue.now.items = search rules in
    asks_owe c.args.size c.ask_debt.result c.len.result c.args.queue.now.items c.ask_debt.ensures.debt n
