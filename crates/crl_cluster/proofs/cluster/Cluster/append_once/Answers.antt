use Rattle.std.proofs.Common.{subst, refl}
use Rattle.crl_turns.specs.Fronts.{Runs}
use Rattle.crl_cluster.specs.Standing.{MayCome}
use Rattle.crl_cluster.specs.Clusters.{view_of, shape_of}
use Rattle.crl_cluster.proofs.Coming.{still_may, still_has, comes, undone}
use Rattle.crl_cluster.proofs.cluster.Cluster.append_once.Goals as goal

pub append-requires-clause-enabled : goal.append-requires-clause-enabled
append-requires-clause-enabled g c =
    let looks = c.seen-saw.ensures.told in
    let old = view_of c.args.pass.now in
    let runs = subst (λ s. Runs (MayCome s) old.front) c.requires.here.shape_is c.args.pass.now.runs in
    still_may (shape_of c.args.self.now) _ old _ looks.grows.begins runs looks.grows.runs looks.grows.spares looks.view c.requires.enabled c.requires.has

pub append-requires-clause-has : goal.append-requires-clause-has
append-requires-clause-has g c =
    let looks = c.seen-saw.ensures.told in
    let old = view_of c.args.pass.now in
    let runs = subst (λ s. Runs (MayCome s) old.front) c.requires.here.shape_is c.args.pass.now.runs in
    still_has (shape_of c.args.self.now) _ old _ looks.grows.begins runs looks.grows.runs looks.grows.spares looks.view c.requires.enabled c.requires.has _ c.args.self.now.all

pub returns-in-Ok-clause-told : goal.returns-in-Ok-clause-told
returns-in-Ok-clause-told g c =
    let looks = c.seen-saw.ensures.told in
    let appends = c.in-Ok.ensures.told in
    let old = view_of c.args.pass.now in
    let runs = subst (λ s. Runs (MayCome s) old.front) c.requires.here.shape_is c.args.pass.now.runs in
    comes (shape_of c.args.self.now) _ old _ looks.grows.begins runs looks.grows.runs looks.grows.spares looks.view c.requires.enabled c.requires.has _ _ looks.counts appends.limit appends.ends appends.view

pub returns-in-Err-clause-told : goal.returns-in-Err-clause-told
returns-in-Err-clause-told g c =
    let looks = c.seen-saw.ensures.told in
    undone (shape_of c.args.self.now) (view_of c.args.pass.now) _ _ looks.grows.begins looks.grows.runs looks.grows.spares looks.view _ _ _ c.in-Err.fault _ looks.counts refl c.in-Err.ensures.told
