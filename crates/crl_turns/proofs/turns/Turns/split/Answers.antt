use Rattle.std.proofs.Common.{rules}
use Rattle.crl_turns.specs.Rule.{StandsFor}
use Rattle.crl_turns.proofs.Parting.{parts}
use Rattle.crl_turns.proofs.turns.Turns.split.Goals as goal

pub split_seat-new-requires : goal.split_seat-new-requires
split_seat-new-requires g c = let key = c.args.self.now.table.shared.key in
    (search rules, search rules, parts (g.V.Turned.enabled key) (g.V.Turned.touches key) (StandsFor g.V.Turned.shape g.V.Turned.stands key) _ _)
