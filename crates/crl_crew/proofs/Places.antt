-- A player stands for what its node heard, after each event of the node.
use Rattle.std.proofs.Common.{◌≡◌, ◌∙◌, sym, ap, refl, subst, ◌==◌, if◌then◌else◌, ℕ, List, [], ◌∷◌, ◌++◌, drop, eq-eqb}
use Rattle.std.proofs.lemmas.Bool.{cond-true}
use Rattle.crl_model.specs.declared.event.Event.{Event}
use Rattle.crl_model.specs.declared.event.Event.TheVariants as event
use Rattle.crl_model.specs.declared.statement.Statement.{Statement}
use Rattle.crl_protocol.specs.Node.{Answer}
use Rattle.crl_protocol.specs.Talk.{Heard, Collected}
use Rattle.crl_protocol.specs.World.{new_world, step, IsRunFrom}
use Rattle.crl_protocol.specs.Chosen.{Actor}
use Rattle.crl_talk.specs.Guards.{Given}
use Rattle.crl_talk.specs.Script.{Drafts, drafts_given, no_drafts}
use Rattle.crl_plays.specs.Plays.{Plays, begins, collects}
use Rattle.crl_turns.specs.declared.turned.Shape.{Shape}
use Rattle.crl_cluster.specs.Standing.{world_at, heard_at, MayCome, hears_then}
use Rattle.crl_run.specs.PlayerState.{PlayerState}
use Rattle.crl_run.specs.Players.{guards_given}
use Rattle.crl_run.specs.Actors.{IsActor}
use Rattle.crl_run.specs.Hearing.{HoldsHeard}
use Rattle.crl_run.proofs.Laws as run
use Rattle.crl_crew.specs.Standing.{StandsAt}
use Rattle.crl_crew.proofs.Calls.{given_actor}

pub stands_as : (i : ℕ) (statements : List Statement) (heard : List Heard) (d : Drafts) (place : ℕ) (gs : List Given) (q : PlayerState) → q.place ≡ place → q.guards ≡ gs
    → Plays i statements heard (drop place statements) d → IsActor statements place gs (record { left = drop place statements; drafts = d }) → HoldsHeard heard gs → StandsAt i statements heard q
stands_as i statements heard d place gs q e f plays actor holds = record {
  drafts = d;
  plays = subst (λ k. Plays i statements heard (drop k statements) d) (sym e) plays;
  actor = subst (λ k. IsActor statements k q.guards (record { left = drop k statements; drafts = d })) (sym e)
      (subst (λ g. IsActor statements place g (record { left = drop place statements; drafts = d })) (sym f) actor);
  holds = subst (λ g. HoldsHeard heard g) (sym f) holds;
}

-- at the start
pub stands_first : (i : ℕ) (statements : List Statement) (q : PlayerState) → q.place ≡ 0 → q.guards ≡ [] → StandsAt i statements [] q
stands_first i statements q e f = stands_as i statements [] no_drafts 0 [] q e f begins (run.begins statements) run.none_held

-- the actor keeps the guard of an answer
pub actor_given : (statements : List Statement) (place : ℕ) (gs : List Given) (answer : Answer) (l : List Statement) (d : Drafts) → IsActor statements place gs (record { left = l; drafts = d })
    → IsActor statements place (guards_given answer ++ gs) (record { left = l; drafts = drafts_given answer d })
actor_given statements place gs answer l d h =
    subst (λ (a : Actor). IsActor statements place (guards_given answer ++ gs) a) (given_actor answer l d) (run.keeps statements place gs answer (record { left = l; drafts = d }) h)

pub heard_own : (i : ℕ) (h : Heard) → (if i == i then h ∷ [] else []) ≡ h ∷ []
heard_own i h = cond-true (i == i) (h ∷ []) [] (eq-eqb i i refl)

-- The node takes the answer for which it waited.
module _ (s : Shape) (i : ℕ) (statements : List Statement) (before : List Event) (r : IsRunFrom (new_world s.parts s.extra) before) (may : MayCome s before (event.Collect i)) (p : PlayerState) (st : StandsAt i statements (heard_at s i before) p) where
  abbrev pub collected_answer : Answer
  collected_answer = (step (event.Collect i) (world_at s before)).answer

  collected_heard : heard_at s i (before ++ event.Collect i ∷ []) ≡ heard_at s i before ++ Collected collected_answer ∷ []
  collected_heard = hears_then i (new_world s.parts s.extra) before (event.Collect i) ∙ ap (λ hs. heard_at s i before ++ hs) (heard_own i (Collected collected_answer))

  pub stands_collected : (q : PlayerState) → q.place ≡ p.place → q.guards ≡ guards_given collected_answer ++ p.guards → StandsAt i statements (heard_at s i (before ++ event.Collect i ∷ [])) q
  stands_collected q e f =
      stands_as i statements (heard_at s i (before ++ event.Collect i ∷ [])) (drafts_given collected_answer st.drafts) p.place (guards_given collected_answer ++ p.guards) q e f
      (subst (λ hs. Plays i statements hs (drop p.place statements) (drafts_given collected_answer st.drafts)) (sym collected_heard) (collects collected_answer st.plays))
      (actor_given statements p.place p.guards collected_answer (drop p.place statements) st.drafts st.actor)
      (run.hears_answer s.parts s.extra before r (event.Collect i) may i (heard_own i (Collected collected_answer)) p.guards st.holds)
