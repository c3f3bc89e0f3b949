-- What the threads of several tasks leave.
use Rattle.std.specs.Prelude.{◌≡◌, ℕ, ◌<◌, ◌^◌, List, length, map, slice_index_or, IfOk}
use Rattle.std.specs.declared.result.Result.{Result}
use Rattle.std.specs.declared.alloc.AllocError.{AllocError}
use Rattle.crl_model.specs.declared.statement.Statement.{Statement}
use Rattle.crl_cluster.specs.declared.cluster.Cluster.{Cluster}
use Rattle.crl_cluster.specs.declared.cluster.Pass.{Pass}
use Rattle.crl_crew.specs.declared.place.Place.{Place}
use Rattle.crl_crew.specs.declared.crews.Worker.{Worker}
use Rattle.crl_crew.specs.Working.{IsIdle}

-- the end of one of these tasks
pub record IsEndOf {J : Type 0} (leaves : J → Pass → Type 0) (tasks : List J) (i : ℕ) (end : Result Pass AllocError) : Type 0 where
  pub task : J
  pub task_is : (d : J) → slice_index_or tasks i d ≡ task
  pub left : IfOk end (λ pass. leaves task pass)

abbrev pub AreEndsOf : {J : Type 0} → (J → Pass → Type 0) → List J → List (Result Pass AllocError) → Type 0
AreEndsOf leaves tasks ends = (i : ℕ) (d : Result Pass AllocError) → i < length tasks → IsEndOf leaves tasks i (slice_index_or ends i d)

-- a worker of this cluster and this script, whose pass holds no node
abbrev pub IsReady : {N S G R A B : Type 0} → Cluster N (Place S) A B → List (List Statement) → Worker N S G R A B → Type 0
IsReady cluster blocks w = IsIdle cluster w.pass × (w.nodes.now ≡ cluster) × (map (λ b. b.items) w.blocks.now ≡ blocks) × (w.first < 2 ^ 15)

-- a pass that holds no node, or want of memory
abbrev pub IsIdleEnd : {N T A B : Type 0} → Cluster N T A B → Result Pass AllocError → Type 0
IsIdleEnd cluster end = IfOk end (λ pass. IsIdle cluster pass)
