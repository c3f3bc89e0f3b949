-- The end of a run: what has become of the regions, and what a node waits for.
use Rattle.std.specs.Prelude.{◌≡◌, ℕ, zero, suc, ◌+◌, ◌==◌, nat_lt, Bool, true, false, not, ◌&&◌, if◌then◌else◌, List, [], ◌∷◌, ◌++◌, length}
use Rattle.std.specs.declared.option.Option.{Option}
use Rattle.std.specs.declared.option.Option.TheVariants.{None, Some}
pub use Rattle.crl_model.specs.declared.report.FinalRegion.{FinalRegion}
pub use Rattle.crl_model.specs.Reports.{Reported}
use Rattle.crl_model.specs.declared.name.Name.{Name}
use Rattle.crl_model.specs.declared.blocked.Blocked.{Blocked}
use Rattle.crl_model.specs.declared.blocked.Blocked.TheVariants as blocked
use Rattle.crl_model.specs.Stages.{is_there}
use Rattle.crl_protocol.specs.Home.{Home, is_empty}
use Rattle.crl_protocol.specs.Remote.{Copy, Remote, is_closed}
use Rattle.crl_protocol.specs.Sections.{section_at}
use Rattle.crl_protocol.specs.Node.{Node, Activity, Free, Waiting, Ready, ForSection, ForMap, ForDelete, ForRound, home_of, lifetime_of}
use Rattle.crl_protocol.specs.World.{World, pieces_in_boxes, messages_sent, is_free}
use Rattle.crl_protocol.specs.Chosen.{Running}

-- The bytes of a region where no message is under way: those of the exclusive copy, where there is one, else
-- the home's. While a write section is open, they are those with which it began.
abbrev pub exclusive_bytes : Option Copy → Option (List ℕ)
exclusive_bytes None = None
exclusive_bytes (Some copy) = if copy.exclusive then Some copy.bytes else None

abbrev pub copy_of : Option Remote → Option Copy
copy_of None = None
copy_of (Some r) = r.copy

abbrev pub first_some : Option (List ℕ) → List ℕ → List ℕ
first_some None other = other
first_some (Some bytes) other = bytes

abbrev pub bytes_from : Name → List ℕ → ℕ → ℕ → (ℕ → Node) → List ℕ
bytes_from name bytes i zero nodes = bytes
bytes_from name bytes i (suc k) nodes =
    first_some (exclusive_bytes (copy_of ((nodes i).remotes name))) (bytes_from name bytes (i + 1) k nodes)

abbrev pub region_bytes : Name → World → Option Home → Option (List ℕ)
region_bytes name w None = None
region_bytes name w (Some h) = Some (bytes_from name h.bytes 0 w.count w.nodes)

abbrev pub final_bytes : Name → World → Option (List ℕ)
final_bytes name w =
    let n = w.nodes name.home in
    if nat_lt name.home w.count && is_there (lifetime_of n name).stage then region_bytes name w (home_of n name) else None

-- the regions that are there, by name
abbrev pub region_line : Name → Option (List ℕ) → List FinalRegion
region_line name None = []
region_line name (Some bytes) = record { name = name; bytes = bytes } ∷ []

abbrev pub regions_of : ℕ → ℕ → List (Option Home) → World → List FinalRegion
regions_of i serial [] w = []
regions_of i serial (h ∷ homes) w =
    let name : Name = record { home = i; serial = serial } in region_line name (final_bytes name w) ++ regions_of i (serial + 1) homes w

abbrev pub regions_from : ℕ → ℕ → World → List FinalRegion
regions_from i zero w = []
regions_from i (suc k) w = regions_of i 1 (w.nodes i).homes w ++ regions_from (i + 1) k w

abbrev pub regions : World → List FinalRegion
regions w = regions_from 0 w.count w

-- A node that waits for a section is blocked by the least other node that has one open; one that waits in a
-- round, by the least that hasn't come to it.
abbrev pub holds_open : ℕ → Name → ℕ → Node → Bool
holds_open i name m n = not (m == i) && not (is_closed (section_at name n.sections))

abbrev pub is_absent : ℕ → ℕ → Node → Bool
is_absent round m n = nat_lt n.rounds round

abbrev pub least_node_from : (ℕ → Node → Bool) → ℕ → ℕ → (ℕ → Node) → Option ℕ
least_node_from test m zero nodes = None
least_node_from test m (suc k) nodes = if test m (nodes m) then Some m else least_node_from test (m + 1) k nodes

abbrev pub least_node : (ℕ → Node → Bool) → World → Option ℕ
least_node test w = least_node_from test 0 w.count w.nodes

abbrev pub by_holder : ℕ → Name → Option ℕ → Option Blocked
by_holder i name None = None
by_holder i name (Some holder) = Some (blocked.Region i name holder)

abbrev pub by_absent : ℕ → ℕ → Option ℕ → Option Blocked
by_absent i round None = None
by_absent i round (Some absent) = Some (blocked.Round i round absent)

abbrev pub blocked_while : ℕ → Activity → World → Option Blocked
blocked_while i (Waiting (ForSection name)) w = by_holder i name (least_node (holds_open i name) w)
blocked_while i (Waiting (ForRound round kind)) w = by_absent i round (least_node (is_absent round) w)
blocked_while i (Waiting (ForMap name purged)) w = None
blocked_while i (Waiting (ForDelete name)) w = None
blocked_while i Free w = None
blocked_while i (Ready answer) w = None

abbrev pub blocked_at : ℕ → World → Option Blocked
blocked_at i w = blocked_while i (w.nodes i).activity w

-- A node is finished where it is free and has no statement left. A world is truly stuck where no message is
-- under way and each unfinished node is blocked.
abbrev pub is_finished : ℕ → Running → Bool
is_finished i r = is_free (r.world.nodes i).activity && is_empty (r.actors i).left

abbrev pub IsTrulyStuck : Running → Type 0
IsTrulyStuck r =
    (pieces_in_boxes r.world ≡ []) × ((i : ℕ) → is_finished i r ≡ false → nat_lt i r.world.count ≡ true → (b : Blocked) × (blocked_at i r.world ≡ Some b))

-- What is printed of a run: its account, the regions or else what blocks each unfinished node, and the
-- numbers of events and messages.
abbrev pub blocked_line : Option Blocked → List Blocked
blocked_line None = []
blocked_line (Some b) = b ∷ []

abbrev pub blocked_from : ℕ → ℕ → Running → List Blocked
blocked_from i zero r = []
blocked_from i (suc k) r = (if is_finished i r then [] else blocked_line (blocked_at i r.world)) ++ blocked_from (i + 1) k r

abbrev pub all_finished : ℕ → ℕ → Running → Bool
all_finished i zero r = true
all_finished i (suc k) r = is_finished i r && all_finished (i + 1) k r

abbrev pub is_stuck : Running → Bool
is_stuck r = not (all_finished 0 r.world.count r)

abbrev pub report : Running → Reported
report r = record {
  entries = r.entries;
  regions = if is_stuck r then [] else regions r.world;
  blocked = if is_stuck r then blocked_from 0 r.world.count r else [];
  events = length r.events;
  messages = messages_sent r.world;
}
