use Rattle.std.proofs.Common.{append_assoc}
use Rattle.crl_wire.specs.Frame.{layout}
use Rattle.crl_wire.proofs.header.put_header.Goals as goal

pub returns-clause-items : goal.returns-clause-items
unfolding layout
returns-clause-items c =
    rw (c.put-9.ensures.items, c.to_be_bytes-8.ensures, c.put-8.ensures.items, c.to_be_bytes-7.ensures, c.put-7.ensures.items, c.to_be_bytes-6.ensures, c.put-6.ensures.items, c.to_be_bytes-5.ensures, c.put-5.ensures.items, c.to_be_bytes-4.ensures, c.put-4.ensures.items, c.to_be_bytes-3.ensures, c.put-3.ensures.items, c.to_be_bytes-2.ensures, c.put-2.ensures.items, c.to_be_bytes.ensures, c.put.ensures.items)
    (simp append_assoc)
