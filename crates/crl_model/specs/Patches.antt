-- Bytes of a region that are changed in part.
use Rattle.std.specs.Prelude.{ℕ, ◌+◌, ◌++◌, List, take, drop, length}

-- the old bytes, with these in the place of as many from the offset on
abbrev pub put_at : ℕ → List ℕ → List ℕ → List ℕ
put_at offset bytes old = take offset old ++ bytes ++ drop (offset + length bytes) old
