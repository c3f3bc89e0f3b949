use Rattle.std.proofs.Common.{◌≡◌, min}
use Rattle.crl_pieces.specs.declared.TheConstants.{PIECE_LEN}
use Rattle.crl_outbox.specs.Stacks.{IsStack}
use Rattle.crl_outbox.proofs.paper.stack.Given as goal

abbrev pub invariant-loop : goal.invariant-loop
invariant-loop l = (l.room ≡ min l.size PIECE_LEN) × IsStack l.size l.counter l.sheets.items
