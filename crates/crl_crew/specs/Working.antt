-- What a worker is given, and what it leaves.
use Rattle.std.specs.Prelude.{◌≡◌, ℕ, List, length}
use Rattle.crl_model.specs.declared.statement.Statement.{Statement}
use Rattle.crl_protocol.specs.Node.{Node}
use Rattle.crl_deeds.specs.Laws.{AreStatements}
use Rattle.crl_turns.specs.declared.view.View.{View}
use Rattle.crl_turns.specs.declared.view.Place.TheVariants.{Free}
use Rattle.crl_turns.specs.Rule.{value_place}
use Rattle.crl_turns.specs.Closing.{HoldsNone}
use Rattle.crl_cluster.specs.declared.cluster.Cluster.{Cluster}
use Rattle.crl_cluster.specs.declared.cluster.Pass.{Pass}
use Rattle.crl_cluster.specs.declared.held.Held.{Held}
use Rattle.crl_cluster.specs.Standing.{heard_at}
use Rattle.crl_cluster.specs.Clusters.{view_of, shape_of, IsOf, IsHeld}
use Rattle.crl_run.specs.PlayerState.{PlayerState}
use Rattle.crl_run.specs.Playing.{AreShort}
use Rattle.crl_crew.specs.Standing.{StandsAt}

-- the lists of statements of so many nodes, as scripts have them
pub record IsScriptOf (count : ℕ) (blocks : List (List Statement)) : Type 0 where
  pub many : length blocks ≡ count
  pub are : AreStatements blocks
  pub short : AreShort blocks

-- the pass holds no node but this
abbrev pub HoldsOnly : ℕ → View → Type 0
HoldsOnly i view = (j : ℕ) → (j ≡ i → ⊥) → value_place j view.holds ≡ Free

module _ {N T A B : Type 0} where
  -- a pass of this cluster that holds no node
  pub record IsIdle (cluster : Cluster N T A B) (pass : Pass) : Type 0 where
    pub here : IsOf cluster pass
    pub idle : HoldsNone (view_of pass)

  -- The pass holds the node of this number and no other, and the player stands for what the node heard.
  pub record WorksAt (state : N → Node) (cluster : Cluster N T A B) (number : ℕ) (statements : List Statement) (pass : Pass) (held : Held N T) (p : PlayerState) : Type 0 where
    pub here : IsOf cluster pass
    pub number_is : held.number ≡ number
    pub held_is : IsHeld state (shape_of cluster) (view_of pass) held
    pub only : HoldsOnly number (view_of pass)
    pub stands : StandsAt number statements (heard_at (shape_of cluster) number (view_of pass).front) p

  -- The same node is held, and it has heard nothing more.
  pub record HeardNothing (state : N → Node) (cluster : Cluster N T A B) (pass_old : Pass) (held_old : Held N T) (pass : Pass) (held : Held N T) : Type 0 where
    pub here : IsOf cluster pass
    pub number : held.number ≡ held_old.number
    pub held_is : IsHeld state (shape_of cluster) (view_of pass) held
    pub only : HoldsOnly held_old.number (view_of pass_old) → HoldsOnly held_old.number (view_of pass)
    pub heard : heard_at (shape_of cluster) held_old.number (view_of pass).front ≡ heard_at (shape_of cluster) held_old.number (view_of pass_old).front

  -- Whatever the player stood for it stands for.
  abbrev pub StaysAt : (N → Node) → Cluster N T A B → Pass → Held N T → PlayerState → Pass → Held N T → PlayerState → Type 0
  StaysAt state cluster pass_old held_old old pass held p =
      (statements : List Statement) → WorksAt state cluster held_old.number statements pass_old held_old old → WorksAt state cluster held_old.number statements pass held p
