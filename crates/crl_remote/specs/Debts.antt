-- How many pieces a node may still have to post for its open sections, whatever comes.
use Rattle.std.specs.Prelude.{ℕ}
use Rattle.crl_model.specs.declared.directory.Section.{Section}
use Rattle.crl_model.specs.declared.directory.Section.TheVariants.{Closed, Reading, Writing}
use Rattle.crl_pieces.specs.Pieces.{count}
use Rattle.crl_protocol.specs.Remote.{Remote}

-- the end of the last section of a region may post the region's bytes once
abbrev pub section_debt : ℕ → Section → ℕ
section_debt pieces Closed = 0
section_debt pieces (Reading number) = pieces
section_debt pieces Writing = pieces

abbrev pub owed : Remote → ℕ
owed r = section_debt (count r.size) r.here
