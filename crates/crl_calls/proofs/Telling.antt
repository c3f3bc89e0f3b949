-- Moved pieces, then an event, then more of them: what a call tells, step by step.
use Rattle.std.proofs.Common.{◌≡◌, ℕ, ⊎_elim, true, false, List, [], ◌∷◌, ◌++◌, sym, ◌∙◌, subst, append_assoc}
use Rattle.crl_model.specs.declared.call.Call.{Call}
use Rattle.crl_model.specs.declared.event.Event.{Event}
use Rattle.crl_model.specs.declared.event.Event.TheVariants as event
use Rattle.crl_protocol.specs.Node.{Answer, Wait}
use Rattle.crl_turns.specs.declared.turned.Shape.{Shape}
use Rattle.crl_turns.specs.declared.view.View.{View}
use Rattle.crl_turns.specs.Closing.{HoldsNone}
use Rattle.crl_calls.specs.Trails.{is_move, AreMoves, Walks, Moves, MovesToTheEnd, Ends, OwnsLast, Does, at_once, collected, AnswersCall, unmade, waiting, RunsFull}
use Rattle.crl_calls.proofs.Walking.{walk_none, walk_then}
use Rattle.std.specs.Prelude.{MatchResult}
use Rattle.std.specs.declared.result.Result.{Result}
use Rattle.std.specs.declared.result.Result.TheVariants.{Ok, Err}

are_both : (es fs : List Event) → AreMoves es → AreMoves fs → AreMoves (es ++ fs)
are_both [] fs are then = then
are_both (e ∷ es) fs are then = (are.0, are_both es fs are.1 then)

pub moves_none : (v : View) → Moves v v
moves_none v = record { events = []; moves = tt; walks = walk_none v }

pub moves_walk : (old new : View) → Walks old [] new → Moves old new
moves_walk old new walks = record { events = []; moves = tt; walks = walks }

pub moves_one : (e : Event) (old new : View) → is_move e ≡ true → Walks old (e ∷ []) new → Moves old new
moves_one e old new is walks = record { events = e ∷ []; moves = (is, tt); walks = walks }

pub moves_then : (a b c : View) → Moves a b → Moves b c → Moves a c
moves_then a b c first second = record {
  events = first.events ++ second.events;
  moves = are_both first.events second.events first.moves second.moves;
  walks = walk_then a b c first.events second.events first.walks second.walks;
}

pub moves_full : (a b c : View) → Moves a b → MovesToTheEnd b c → MovesToTheEnd a c
moves_full a b c first second = (moves_then a b c first second.0, second.1)

pub moves_on : {E : Type 0} (a b c : View) (r : Result (Unit {0}) E) → Moves a b → MatchResult r (λ _. Moves b c) (λ _. MovesToTheEnd b c) → MatchResult r (λ _. Moves a c) (λ _. MovesToTheEnd a c)
moves_on a b c (Ok done) first second = moves_then a b c first second
moves_on a b c (Err full) first second = moves_full a b c first second

pub does_now : (s : Shape) (e : Event) (old : View) (answer : Answer) (new : View) → Walks old (e ∷ []) new → Ends s e answer new.front → OwnsLast new → Does s e old answer new
does_now s e old answer new walks ends last = record { events = []; moves = tt; walks = walks; ends = ends; last = last }

pub does_after : (s : Shape) (e : Event) (a b : View) (answer : Answer) (c : View) → Moves a b → Does s e b answer c → Does s e a answer c
does_after s e a b answer c first does = record {
  events = first.events ++ does.events;
  moves = are_both first.events does.events first.moves does.moves;
  walks = subst (λ es. Walks a es c) (sym (append_assoc first.events does.events (e ∷ []))) (walk_then a b c first.events (does.events ++ e ∷ []) first.walks does.walks);
  ends = does.ends;
  last = does.last;
}

pub answered_at_once : (s : Shape) (node : ℕ) (c : Call) (old : View) (answer : Answer) (new : View) → Does s (event.Call node c) old answer new → AnswersCall s node c old false answer new
answered_at_once s node c old answer new does =
    record { events = does.events ++ event.Call node c ∷ []; trail = at_once does.events does.moves; walks = does.walks; ends = does.ends; last = does.last; waited = tt }

pub answered_later : (s : Shape) (node : ℕ) (c : Call) (old mid : View) (answer : Answer) (new : View)
    → Does s (event.Call node c) old Wait mid → Does s (event.Collect node) mid answer new → AnswersCall s node c old true answer new
answered_later s node c old mid answer new made took = record {
  events = (made.events ++ event.Call node c ∷ []) ++ (took.events ++ event.Collect node ∷ []);
  trail = collected made.events took.events made.moves took.moves;
  walks = walk_then old mid new _ _ made.walks took.walks;
  ends = took.ends;
  last = took.last;
  waited = record { middle = mid; made = made; took = took };
}

pub full_unmade : (node : ℕ) (c : Call) (old new : View) → MovesToTheEnd old new → RunsFull node c old new
full_unmade node c old new is = record { events = is.0.events; trail = unmade is.0.events is.0.moves; walks = is.0.walks; full = is.1 }

pub full_waiting : (s : Shape) (node : ℕ) (c : Call) (old : View) (first : Answer) (mid new : View) → Does s (event.Call node c) old first mid → MovesToTheEnd mid new → RunsFull node c old new
full_waiting s node c old first mid new made is = record {
  events = (made.events ++ event.Call node c ∷ []) ++ is.0.events;
  trail = waiting made.events is.0.events made.moves is.0.moves;
  walks = walk_then old mid new _ _ made.walks is.0.walks;
  full = is.1;
}

-- it still holds no turn
pub idle_on : (old : View) (es : List Event) (new : View) → HoldsNone old → Walks old es new → HoldsNone new
idle_on old es new idle walks part = ⊎_elim (λ free. free) (λ same. same ∙ idle part) (walks.holds part)
