-- What a recall and a yield need.
use Rattle.std.specs.Prelude.{ℕ}
use Rattle.crl_model.specs.declared.name.Name.{Name}
use Rattle.crl_protocol.specs.Node.{Node}
use Rattle.crl_protocol.specs.Receiving.{remote_size}
use Rattle.crl_desk.specs.Desks.{size_or}

-- the size of the region as the node has it on its side, 0 if it isn't here
abbrev pub remote_size_at : Name → Node → ℕ
remote_size_at name n = size_or (remote_size (n.remotes name))
