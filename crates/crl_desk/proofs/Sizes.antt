-- The size of a region is read off the node for which a desk stands.
use Rattle.std.proofs.Common.{◌≡◌, ap}
use Rattle.crl_model.specs.declared.name.Name.{Name}
use Rattle.crl_desk.specs.declared.desk.Desk.{Desk}
use Rattle.crl_desk.specs.Desks.{state, region_size, size_at}

pub same_size : (name : Name) (old new : Desk) → state new ≡ state old → size_at name new ≡ size_at name old
same_size name old new same = ap (region_size name) same
