-- What a call tells that holds a node for one event.
use Rattle.std.specs.Prelude.{◌≡◌, ℕ, ◌≤◌, ◌⊎◌, Bool, true, false, ◌&&◌, length}
use Rattle.crl_model.specs.declared.event.Event.TheVariants as event
use Rattle.std.specs.declared.option.Option.{Option}
use Rattle.std.specs.declared.option.Option.TheVariants.{None, Some}
use Rattle.crl_model.specs.declared.call.Call.{Call}
use Rattle.crl_model.specs.declared.call.Call.TheVariants as call
use Rattle.crl_model.specs.declared.call.Refusal.{Refusal}
use Rattle.crl_protocol.specs.Node.{Node}
use Rattle.crl_protocol.specs.Verdict.{verdict}
use Rattle.crl_protocol.specs.Places.{take_out}
use Rattle.crl_protocol.specs.World.{World, is_free, is_ready}
use Rattle.crl_member.specs.Members.{addressee_of}
use Rattle.crl_turns.specs.declared.turned.Shape.{Shape}
use Rattle.crl_turns.specs.declared.view.View.{View}
use Rattle.crl_turns.specs.Calls.{after_take, after_give_back}
use Rattle.crl_turns.specs.Plays.{after_try}
use Rattle.crl_cluster.specs.declared.faults.TryFault.{TryFault}
use Rattle.crl_cluster.specs.declared.faults.TryFault.TheVariants.{Busy, Nothing, Step}
use Rattle.crl_cluster.specs.Standing.{world_at}
use Rattle.crl_cluster.specs.Clusters.{GrowsPast, held_by}
use Rattle.crl_cluster.specs.Acting.{Comes, IsUndone}

-- The node was held, by one exchange of its turn. Then something happened, and the node was released.
pub record Alone (s : Shape) (node : ℕ) (old new : View) (Happens : View → View → Type 0) : Type 0 where
  pub held : View
  pub done : View
  pub grows : GrowsPast (held_by old) s old.front held.front
  pub takes : held ≡ after_take node held.front old
  pub happens : Happens held done
  pub gives : new ≡ after_give_back node done

-- why there is nothing to do at a node
abbrev pub HasNoPiece : ℕ → ℕ → World → Type 0
HasNoPiece node place w = length (w.nodes node).inbox ≤ place

abbrev pub HasNoAnswer : ℕ → World → Type 0
HasNoAnswer node w = is_ready (w.nodes node).activity ≡ false

-- A call goes, with this verdict on it: it is refused, or it is neither a change nor the end of a section, which goes by a
-- guard.
abbrev pub goes_as_call : Call → Bool
goes_as_call (call.EndRead name) = false
goes_as_call (call.EndWrite name after) = false
goes_as_call (call.Put name offset len) = false
goes_as_call (call.Add name offset) = false
goes_as_call c = true

abbrev pub may_go : Call → Option Refusal → Bool
may_go c (Some why) = true
may_go c None = goes_as_call c

abbrev pub can_make : Call → Node → Bool
can_make c n = is_free n.activity && may_go c (verdict n c)

abbrev pub HasNoCall : ℕ → Call → World → Type 0
HasNoCall node c w = can_make c (w.nodes node) ≡ false

-- Why the event was not done at a held node.
abbrev pub IsUntried : Shape → (World → Type 0) → View → TryFault → View → Type 0
IsUntried s HasNothing old (Busy node) new = ⊥
IsUntried s HasNothing old Nothing new = (new ≡ old) × HasNothing (world_at s old.front)
IsUntried s HasNothing old (Step fault) new = IsUndone s old fault new

-- Why it was not done where the node was to be held for it: its turn was out, or by the above.
abbrev pub IsNotTried : Shape → ℕ → (World → Type 0) → View → TryFault → View → Type 0
IsNotTried s node HasNothing old (Busy out) new = (out ≡ node) × (new ≡ after_try node false old)
IsNotTried s node HasNothing old Nothing new = Alone s node old new (λ held done. (done ≡ held) × HasNothing (world_at s held.front))
IsNotTried s node HasNothing old (Step fault) new = Alone s node old new (λ held done. IsUndone s held fault done)

-- A piece of a held node's outbox: its addressee was held for it too.
abbrev pub addressee_at : ℕ → ℕ → World → ℕ
addressee_at i place w = addressee_of (take_out place (w.nodes i).outbox)

abbrev pub HasNoPieceToSend : ℕ → ℕ → World → Type 0
HasNoPieceToSend node place w = length (w.nodes node).outbox ≤ place

abbrev pub IsCarried : Shape → ℕ → ℕ → View → View → Type 0
IsCarried s i place old new = Alone s (addressee_at i place (world_at s old.front)) old new (Comes s (event.Carry i place))

abbrev pub IsUncarried : Shape → ℕ → ℕ → View → TryFault → View → Type 0
IsUncarried s i place old (Busy out) new = (out ≡ addressee_at i place (world_at s old.front)) × (new ≡ after_try out false old)
IsUncarried s i place old Nothing new = (new ≡ old) × HasNoPieceToSend i place (world_at s old.front)
IsUncarried s i place old (Step fault) new = Alone s (addressee_at i place (world_at s old.front)) old new (λ held done. IsUndone s held fault done)

-- Why a piece was not carried where its sender was to be held for it too.
abbrev pub IsNotCarried : Shape → ℕ → ℕ → View → TryFault → View → Type 0
IsNotCarried s i place old (Busy out) new = ((out ≡ i) × (new ≡ after_try i false old)) ⊎ Alone s i old new (λ held done. IsUncarried s i place held (Busy out) done)
IsNotCarried s i place old Nothing new = Alone s i old new (λ held done. IsUncarried s i place held Nothing done)
IsNotCarried s i place old (Step fault) new = Alone s i old new (λ held done. IsUncarried s i place held (Step fault) done)
