-- What one try tells, and tries one after another.
use Rattle.std.proofs.Common.{◌≡◌, ℕ, refl, sym, subst}
use Rattle.std.specs.Prelude.{MatchResult, OnErr}
use Rattle.std.specs.declared.result.Result.{Result}
use Rattle.std.specs.declared.result.Result.TheVariants.{Ok, Err}
use Rattle.crl_model.specs.declared.call.Call.{Call}
use Rattle.crl_model.specs.declared.event.Event.{Event}
use Rattle.crl_model.specs.declared.event.Event.TheVariants as event
use Rattle.crl_protocol.specs.Node.{Answer}
use Rattle.crl_protocol.specs.World.{World}
use Rattle.crl_turns.specs.declared.turned.Shape.{Shape}
use Rattle.crl_turns.specs.declared.view.View.{View}
use Rattle.crl_cluster.specs.declared.faults.StepFault.TheVariants as fault
use Rattle.crl_cluster.specs.declared.faults.TryFault.{TryFault}
use Rattle.crl_cluster.specs.declared.faults.TryFault.TheVariants.{Busy, Nothing, Step}
use Rattle.crl_cluster.specs.Acting.{Comes, IsDone}
use Rattle.crl_cluster.specs.Trying.{Alone, IsNotTried, IsCarried, IsNotCarried, HasNoPiece}
use Rattle.crl_calls.specs.Trails.{Moves, MovesToTheEnd, Does}
use Rattle.crl_calls.specs.Tries.{never_of, IsNever}
use Rattle.crl_calls.proofs.Walking.{walk_untried, walk_handled, walk_carried, walk_uncarried, walk_done, full_untried, full_uncarried, ends_alone, last_alone}
use Rattle.crl_calls.proofs.Telling.{moves_walk, moves_one, moves_then, does_now, full_unmade}

abbrev HandleTold : Shape → ℕ → ℕ → View → View → Result (Unit {0}) TryFault → Type 0
HandleTold s node place old new r = MatchResult r (λ _. Alone s node old new (Comes s (event.Handle node place))) (λ why. IsNotTried s node (HasNoPiece node place) old why new)

handled : (s : Shape) (node place : ℕ) (old new : View) (r : Result (Unit {0}) TryFault) → HandleTold s node place old new r → Moves old new
handled s node place old new (Ok done) told = moves_one (event.Handle node place) old new refl (walk_handled s node place old new told)
handled s node place old new (Err why) told = moves_walk old new (walk_untried s node (HasNoPiece node place) old new why told)

pub handled_told : {E : Type 0} (s : Shape) (node place : ℕ) (old new : View) (r : Result (Unit {0}) TryFault) (q : Result (Unit {0}) E) → HandleTold s node place old new r → OnErr q (r ≡ Err (Step fault.Spent))
    → MatchResult q (λ _. Moves old new) (λ _. MovesToTheEnd old new)
handled_told s node place old new r (Ok done) told on = handled s node place old new r told
handled_told s node place old new r (Err full) told on =
    (handled s node place old new r told, full_untried s node (HasNoPiece node place) old new (subst (HandleTold s node place old new) on told))

abbrev CarryTold : Shape → ℕ → ℕ → View → View → Result (Unit {0}) TryFault → Type 0
CarryTold s node place old new r = MatchResult r (λ _. Alone s node old new (IsCarried s node place)) (λ why. IsNotCarried s node place old why new)

carried : (s : Shape) (node place : ℕ) (old new : View) (r : Result (Unit {0}) TryFault) → CarryTold s node place old new r → Moves old new
carried s node place old new (Ok done) told = moves_one (event.Carry node place) old new refl (walk_carried s node place old new told)
carried s node place old new (Err why) told = moves_walk old new (walk_uncarried s node place old new why told)

pub carried_told : {E : Type 0} (s : Shape) (node place : ℕ) (old new : View) (r : Result (Unit {0}) TryFault) (q : Result (Unit {0}) E) → CarryTold s node place old new r → OnErr q (r ≡ Err (Step fault.Spent))
    → MatchResult q (λ _. Moves old new) (λ _. MovesToTheEnd old new)
carried_told s node place old new r (Ok done) told on = carried s node place old new r told
carried_told s node place old new r (Err full) told on =
    (carried s node place old new r told, full_uncarried s node place old new (subst (CarryTold s node place old new) on told))

-- an event that was done at a node which was held for it
pub tried_does : (s : Shape) (node : ℕ) (e : Event) (answer : Answer) (old new : View) → Alone s node old new (λ held done. IsDone s e held answer done) → Does s e old answer new
tried_does s node e answer old new alone = does_now s e old answer new (walk_done s node e answer old new alone) (ends_alone s node e answer old new alone) (last_alone s node e answer old new alone)

-- a call that was not made at a try, after pieces were moved
pub untried : (s : Shape) (node : ℕ) (c : Call) (HasNothing : World → Type 0) (old mid new : View) (why : TryFault) → Moves old mid → IsNotTried s node HasNothing mid why new
    → MatchResult (never_of why) (λ _. Moves old new) (λ never. IsNever node c old never new)
untried s node c HasNothing old mid new why first is =
    told why is (moves_then old mid new first (moves_walk mid new (walk_untried s node HasNothing mid new why is))) where
      told : (why : TryFault) → IsNotTried s node HasNothing mid why new → Moves old new → MatchResult (never_of why) (λ _. Moves old new) (λ never. IsNever node c old never new)
      told (Busy out) is moves = moves
      told Nothing is moves = moves
      told (Step fault.OutOfMemory) is moves = moves
      told (Step (fault.Moved saw found)) is moves = moves
      told (Step fault.Spent) is moves = full_unmade node c old new (moves, full_untried s node HasNothing mid new is)

-- an answer that was not taken at a try
pub untaken : (s : Shape) (node : ℕ) (HasNothing : World → Type 0) (old mid new : View) (why : TryFault) → Moves old mid → IsNotTried s node HasNothing mid why new → Moves old new
untaken s node HasNothing old mid new why first is = moves_then old mid new first (moves_walk mid new (walk_untried s node HasNothing mid new why is))

pub untaken_at_the_end : (s : Shape) (node : ℕ) (HasNothing : World → Type 0) (old mid new : View) (why : TryFault) (r : Result (Unit {0}) TryFault)
    → Moves old mid → IsNotTried s node HasNothing mid why new → r ≡ Err why → r ≡ Err (Step fault.Spent) → MovesToTheEnd old new
untaken_at_the_end s node HasNothing old mid new why r first is same spent =
    let of_err : MatchResult r (λ _. Unit {0}) (λ w. IsNotTried s node HasNothing mid w new) = subst (λ r. MatchResult r (λ _. Unit {0}) (λ w. IsNotTried s node HasNothing mid w new)) (sym same) is in
    let full : IsNotTried s node HasNothing mid (Step fault.Spent) new = subst (λ r. MatchResult r (λ _. Unit {0}) (λ w. IsNotTried s node HasNothing mid w new)) spent of_err in
    (untaken s node HasNothing old mid new why first is, full_untried s node HasNothing mid new full)
