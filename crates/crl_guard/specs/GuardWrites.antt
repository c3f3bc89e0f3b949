-- What a write section's guard ends as, once the slice of its bytes has ended.
use Rattle.std.specs.Prelude.{ℕ, List, length}
use Rattle.std.specs.Borrow.{Fml, MutBor, Array, Lends, u8}
use Rattle.std.specs.List.{refill}
use Rattle.crl_model.specs.Guards.{Guard}
use Rattle.crl_guard.specs.contracts.guards.Writing.{the_row}

-- the guard with other bytes
abbrev pub guard_with : Guard → List ℕ → Guard
guard_with g xs = record { node = g.node; name = g.name; number = g.number; bytes = xs }

-- the bytes are the last ones written through r
abbrev pub LendsGuard : MutBor Guard → MutBor (List ℕ) → Fml
LendsGuard g r = Lends the_row (Array u8 0) g r (λ ws. guard_with g.now (refill (length g.now.bytes) g.now.bytes ws))
