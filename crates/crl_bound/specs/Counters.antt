-- How many events of each kind a run has, and how far the counters of a node may have come.
use Rattle.std.specs.Prelude.{◌≡◌, ℕ, ◌+◌, ◌*◌, ◌<◌, ◌≤◌, List, [], ◌∷◌, length}
use Rattle.std.specs.declared.option.Option.TheVariants.{Some}
use Rattle.crl_model.specs.declared.name.Name.{Name}
use Rattle.crl_model.specs.declared.event.Event.{Event}
use Rattle.crl_model.specs.declared.event.Event.TheVariants as event
use Rattle.crl_protocol.specs.Home.{Home}
use Rattle.crl_protocol.specs.Sections.{OpenSection}
use Rattle.crl_protocol.specs.Talk.{bound}
use Rattle.crl_protocol.specs.World.{World, new_world, world_of, messages_sent, IsRunFrom}
use Rattle.crl_protocol.specs.Node.{Node, serials_used, home_of}

abbrev pub count_calls : List Event → ℕ
count_calls [] = 0
count_calls (event.Call i c ∷ es) = 1 + count_calls es
count_calls (_ ∷ es) = count_calls es

abbrev pub count_collects : List Event → ℕ
count_collects [] = 0
count_collects (event.Collect i ∷ es) = 1 + count_collects es
count_collects (_ ∷ es) = count_collects es

abbrev pub count_handles : List Event → ℕ
count_handles [] = 0
count_handles (event.Handle i place ∷ es) = 1 + count_handles es
count_handles (_ ∷ es) = count_handles es

abbrev pub count_carries : List Event → ℕ
count_carries [] = 0
count_carries (event.Carry i place ∷ es) = 1 + count_carries es
count_carries (_ ∷ es) = count_carries es

-- A run has at most its calls, as many answers taken, and each piece carried and handled once.
pub record EventsFew (nodes capacity : ℕ) (run : List Event) : Type 0 where
  pub kinds : length run ≤ count_calls run + count_collects run + 2 * messages_sent (world_of nodes capacity run)
  pub collects : count_collects run ≤ count_calls run
  pub all : length run ≤ 2 * count_calls run + 2 * bound nodes capacity run

-- The counters of a node after so many events: the serials and rounds that it used, the round that it gathers, the numbers
-- of its sections, and of each of its regions the copies that were granted or are asked for.
pub record CountersFit (events : ℕ) (n : Node) : Type 0 where
  pub serials : serials_used n ≤ events
  pub rounds : n.rounds ≤ events
  pub gathering : n.gathering.round ≤ events + 1
  pub sections : n.sections.last ≤ events
  pub numbers : (q : Name) (r : OpenSection) → n.sections.records q ≡ Some r → r.number ≤ events
  pub versions : (q : Name) (h : Home) → home_of n q ≡ Some h → h.last + length h.queue ≤ events

-- and what it sent
abbrev pub AllCountersFit : World → ℕ → ℕ → Type 0
AllCountersFit w events sent = (i : ℕ) → i < w.count → CountersFit events (w.nodes i) × ((w.nodes i).posted ≤ sent)

-- The statements, of a run among so many nodes.
abbrev pub MessagesFew : ℕ → ℕ → List Event → Type 0
MessagesFew nodes capacity run = messages_sent (world_of nodes capacity run) ≤ bound nodes capacity run

abbrev pub CountersFew : ℕ → ℕ → List Event → Type 0
CountersFew nodes capacity run = AllCountersFit (world_of nodes capacity run) (length run) (bound nodes capacity run)

abbrev pub BoundsEachRun : (ℕ → ℕ → List Event → Type 0) → Type 0
BoundsEachRun Holds = (nodes capacity : ℕ) (run : List Event) → IsRunFrom (new_world nodes capacity) run → Holds nodes capacity run
