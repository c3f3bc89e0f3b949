use Rattle.std.proofs.Common.{subst, sym}
use Rattle.crl_parcels.specs.ParcelsState.{AreApart}
use Rattle.crl_parcels.proofs.Finding.{apart_left}
use Rattle.crl_parcels.proofs.parcels.Parcels.take.Goals as goal

pub invariant_of-self : goal.invariant_of-self
invariant_of-self c = subst AreApart (sym c.remove.ensures.items) (apart_left c.self.inside.list.items c.in-Some.place c.self.invariant)
