use Rattle.std.proofs.lemmas.Map.Text.{btree_map_updates_str}
use Rattle.crl_script.proofs.label.give.Goals as goal

pub returns : goal.returns
returns c = λ i q. btree_map_updates_str c.args.label.now c.args.labels.now c.insert.new.self _ c.in_ok-insert.ensures.updates q i
