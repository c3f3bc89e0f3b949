-- What keeps the nodes of a stuck world waiting, and what the report names of it.
use Rattle.std.specs.Prelude.{◌≡◌, ◌≢◌, ℕ, zero, suc, ◌+◌, ◌<◌, ◌≤◌, Bool, true, false, if◌then◌else◌, List, [], ◌∷◌, ◌++◌, map}
use Rattle.std.specs.List.{All}
use Rattle.std.specs.declared.option.Option.TheVariants.{Some}
use Rattle.crl_model.specs.declared.name.Name.{Name}
use Rattle.crl_model.specs.declared.call.CallKind.{CallKind}
use Rattle.crl_model.specs.declared.directory.Section.TheVariants.{Closed}
use Rattle.crl_model.specs.declared.blocked.Blocked.{Blocked}
use Rattle.crl_model.specs.declared.blocked.Blocked.TheVariants as blocked
use Rattle.crl_protocol.specs.Sections.{section_at}
use Rattle.crl_protocol.specs.Node.{Awaited, Waiting, ForSection, ForMap, ForDelete, ForRound}
use Rattle.crl_protocol.specs.World.{World, pieces_in_boxes}
use Rattle.crl_protocol.specs.Chosen.{Running, choices}
use Rattle.crl_protocol.specs.Ends.{blocked_at, is_finished, IsTrulyStuck, report}

-- The node waits for a section of the region, and the holder is the least other node that has one open.
pub record IsKeptOut (w : World) (i : ℕ) (name : Name) (holder : ℕ) : Type 0 where
  pub waits : (w.nodes i).activity ≡ Waiting (ForSection name)
  pub node : holder < w.count
  pub other : holder ≢ i
  pub has_open : section_at name (w.nodes holder).sections ≢ Closed
  pub least : (m : ℕ) → m < holder → m ≢ i → section_at name (w.nodes m).sections ≡ Closed

-- The node waits in the round, and this is the least node that hasn't come to it.
pub record IsAwaiting (w : World) (i round absent : ℕ) : Type 0 where
  pub kind : CallKind
  pub waits : (w.nodes i).activity ≡ Waiting (ForRound round kind)
  pub node : absent < w.count
  pub not_come : (w.nodes absent).rounds < round
  pub least : (m : ℕ) → m < absent → round ≤ (w.nodes m).rounds

-- the cause stands for a node of the world, and is why it waits
abbrev pub stuck_node : Blocked → ℕ
stuck_node (blocked.Region i name holder) = i
stuck_node (blocked.Round i round absent) = i

abbrev pub IsCause : World → Blocked → Type 0
IsCause w (blocked.Region i name holder) = IsKeptOut w i name holder
IsCause w (blocked.Round i round absent) = IsAwaiting w i round absent

-- the node's cause is named, and it is one
pub record IsBlocked (w : World) (i : ℕ) : Type 0 where
  pub cause : Blocked
  pub named : blocked_at i w ≡ Some cause
  pub own : stuck_node cause ≡ i
  pub stands : IsCause w cause

-- Each node that waits is blocked, and none waits for a map or a delete.
pub record WaitersAreBlocked (w : World) : Type 0 where
  pub blocked : (i : ℕ) (a : Awaited) → i < w.count → (w.nodes i).activity ≡ Waiting a → IsBlocked w i
  pub no_map : (i : ℕ) (name : Name) (purged : Bool) → i < w.count → (w.nodes i).activity ≢ Waiting (ForMap name purged)
  pub no_delete : (i : ℕ) (name : Name) → i < w.count → (w.nodes i).activity ≢ Waiting (ForDelete name)

-- An end that is truly stuck: each unfinished node waits.
pub record EndsStuck (end : Running) : Type 0 where
  pub truly : IsTrulyStuck end
  pub waits : (i : ℕ) → i < end.world.count → is_finished i end ≡ false → (a : Awaited) × ((end.world.nodes i).activity ≡ Waiting a)
  pub waiters : WaitersAreBlocked end.world

-- The statements, of a world that a run reaches.
abbrev pub QuietIsBlocked : World → Type 0
QuietIsBlocked w = pieces_in_boxes w ≡ [] → WaitersAreBlocked w

abbrev pub StopsStuck : World → Type 0
StopsStuck w = (end : Running) → end.world ≡ w → choices end ≡ [] → EndsStuck end

-- the nodes that aren't finished, by node
abbrev pub unfinished_from : ℕ → ℕ → Running → List ℕ
unfinished_from i zero r = []
unfinished_from i (suc k) r = (if is_finished i r then [] else i ∷ []) ++ unfinished_from (i + 1) k r

abbrev pub unfinished : Running → List ℕ
unfinished r = unfinished_from 0 r.world.count r

-- What the report names are causes, one of each unfinished node, by node. Where all nodes are finished, it names none.
pub record ReportNamesStuck (end : Running) : Type 0 where
  pub nodes : map stuck_node (report end).blocked ≡ unfinished end
  pub causes : All (IsCause end.world) (report end).blocked
  pub none : ((i : ℕ) → i < end.world.count → is_finished i end ≡ true) → (report end).blocked ≡ []
