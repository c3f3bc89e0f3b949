-- A row that is taken out and put back.
use Rattle.std.proofs.Common.{◌≡◌, Bool, true, false, if◌then◌else◌, refl, ◌∙◌, ap}
use Rattle.std.specs.declared.option.Option.{Option}
use Rattle.std.specs.declared.option.Option.TheVariants.{None}
use Rattle.crl_model.specs.declared.name.Name.{Name}
use Rattle.crl_model.specs.Names.{name_eq, at_name}
use Rattle.crl_protocol.specs.Remote.{Remote}
use Rattle.crl_remote.specs.RemotesState.{RemotesState, HasRow}

twice : {X : Type 0} (f : Name → X) (name : Name) (v w : X) → at_name (at_name f name w) name v ≡ at_name f name v
twice {X} f name v w = λ i q. go (name_eq name q) (f q) i
  where
    go : (b : Bool) (x : X) → (if b then v else if b then w else x) ≡ (if b then v else x)
    go true x = refl
    go false x = refl

pub over_gone : (name : Name) (r : Option Remote) (old mid new : RemotesState) → HasRow name None old mid → HasRow name r mid new → HasRow name r old new
over_gone name r old mid new g h = record {
  me = h.me ∙ g.me;
  rows = h.rows ∙ (ap (λ f. at_name f name r) g.rows ∙ twice _ name r None);
  places = h.places ∙ g.places;
}
