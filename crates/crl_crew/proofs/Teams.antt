-- What the tasks of workers leave.
use Rattle.std.proofs.Common.{◌≡◌, subst, ◌<◌, List, length}
use Rattle.std.specs.Prelude.{IfOk, slice_index_or}
use Rattle.std.specs.List.{All}
use Rattle.std.specs.declared.result.Result.{Result}
use Rattle.std.specs.declared.alloc.AllocError.{AllocError}
use Rattle.crl_model.specs.declared.statement.Statement.{Statement}
use Rattle.crl_cluster.specs.declared.cluster.Cluster.{Cluster}
use Rattle.crl_cluster.specs.declared.cluster.Pass.{Pass}
use Rattle.crl_crew.specs.declared.place.Place.{Place}
use Rattle.crl_crew.specs.declared.crews.Worker.{Worker}
use Rattle.crl_crew.specs.Working.{IsIdle}
use Rattle.crl_crew.specs.Tasks.{AreEndsOf, IsReady, IsIdleEnd}

pub all_idle : {N S G R A B : Type 0} (cluster : Cluster N (Place S) A B) (blocks : List (List Statement)) (crew : List (Worker N S G R A B)) (ends : List (Result Pass AllocError)) → length ends ≡ length crew
    → All (IsReady cluster blocks) crew → AreEndsOf (λ (w : Worker N S G R A B) pass. IsIdle w.nodes.now pass) crew ends → All (IsIdleEnd cluster) ends
all_idle {N} {S} {G} {R} {A} {B} cluster blocks crew ends many ready left k d within =
    let below : k < length crew = subst (λ n. k < n) many within in
    let end = left k d below in
    let is : end.task.nodes.now ≡ cluster = (subst (λ (w : Worker N S G R A B). IsReady cluster blocks w) (end.task_is end.task) (ready k end.task below)).1 in
    subst (λ (c : Cluster N (Place S) A B). IfOk (slice_index_or ends k d) (λ pass. IsIdle c pass)) is end.left
