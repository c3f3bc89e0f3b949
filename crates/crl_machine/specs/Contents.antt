-- What a region of the machine's table holds.
use Rattle.std.specs.Prelude.{ℕ, List, length, nat_eq, if◌then◌else◌, replicate, slice_index_or}
use Rattle.crl_machine.specs.declared.share.Share.{Share}
use Rattle.crl_machine.specs.declared.region.Region.{Region}
use Rattle.crl_machine.specs.Tables.{blank}

-- its bytes: those of the last write section, or else zeros
abbrev pub bytes_of : Region → List ℕ
bytes_of r = if nat_eq (length r.written.items) 0 then replicate r.size 0 else r.written.items

-- what the node has of it
abbrev pub share_at : Region → ℕ → Share
share_at r n = slice_index_or r.shares.items n blank
