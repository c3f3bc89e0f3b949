-- A node takes its next statement, and its player stands for what it heard then.
use Rattle.std.proofs.Common.{◌≡◌, ◌∙◌, sym, ap, refl, subst, ◌<◌, ℕ, suc, Some, None, List, [], ◌∷◌, ◌++◌, drop}
use Rattle.crl_model.specs.declared.call.Call as calls
use Rattle.crl_model.specs.declared.event.Event.{Event}
use Rattle.crl_model.specs.declared.event.Event.TheVariants as event
use Rattle.crl_model.specs.declared.statement.Statement.{Statement}
use Rattle.crl_protocol.specs.Node.{Node, Answer, Free}
use Rattle.crl_protocol.specs.Calls.{node_calls}
use Rattle.crl_protocol.specs.Verdict.{verdict}
use Rattle.crl_protocol.specs.Talk.{Called}
use Rattle.crl_protocol.specs.World.{new_world, step, IsRun, IsRunFrom}
use Rattle.crl_protocol.specs.Chosen.{Actor, after_change}
use Rattle.crl_talk.specs.Guards.{Given}
use Rattle.crl_talk.specs.Script.{CallsFor, drafts_given}
use Rattle.crl_plays.specs.Plays.{Plays, HasHeard}
use Rattle.crl_plays.specs.Plays as plays
use Rattle.crl_turns.specs.declared.turned.Shape.{Shape}
use Rattle.crl_cluster.specs.Standing.{world_at, heard_at, MayCome, hears_then}
use Rattle.crl_run.specs.declared.act.Act.{Act}
use Rattle.crl_run.specs.PlayerState.{PlayerState}
use Rattle.crl_run.specs.Players.{guards_given}
use Rattle.crl_run.specs.Acting.{CanAct, Acts}
use Rattle.crl_run.specs.Actors.{IsExclusive, asked_call, call_made, IsTakenBy}
use Rattle.crl_run.specs.Hearing.{HoldsHeard, Spends}
use Rattle.crl_run.specs.Fits.{GuardFits}
use Rattle.crl_run.proofs.Laws as run
use Rattle.crl_run.proofs.Laws.{SpendsOne, IsUnguarded}
use Rattle.crl_crew.specs.Standing.{StandsAt}
use Rattle.crl_crew.proofs.Calls.{change_of}
use Rattle.crl_crew.proofs.Places.{stands_as, actor_given, heard_own}
use Rattle.crl_talk.proofs.Laws.{call_for}

module _ (s : Shape) (i : ℕ) (statements : List Statement) (front : List Event) (r : IsRun s.parts s.extra front) (few : i < s.parts) (p : PlayerState) (st : StandsAt i statements (heard_at s i front) p)
    (free : ((world_at s front).nodes i).activity ≡ Free) (x : Statement) where
  abbrev pub node : Node
  node = (world_at s front).nodes i

  pub can : CanAct (verdict node (asked_call x)) x p.guards
  can = run.can_act s.parts s.extra front r.enabled i p.guards free st.holds x

  apart : IsExclusive p.guards
  apart = run.exclusive s.parts s.extra front r.enabled i p.guards free st.holds

  has_heard : HasHeard i (heard_at s i front) node
  has_heard = record { count = s.parts; capacity = s.extra; run = front; is_run = r; within = few; hears = refl; node = refl }

  module _ (does : Act) (new : List Given) (acts : Acts (verdict node (asked_call x)) x p.guards does new) (next : drop p.place statements ≡ x ∷ drop (suc p.place) statements) where
    abbrev pub rest : List Statement
    rest = drop (suc p.place) statements

    abbrev pub actor : Actor
    actor = record { left = rest; drafts = st.drafts }

    pub taken : IsTakenBy statements (suc p.place) new node x actor (call_made does)
    taken = run.takes statements p.place p.guards new node x does (record { left = drop p.place statements; drafts = st.drafts }) next st.actor apart can acts

    pub spends : SpendsOne node p.guards new (call_made does)
    spends = run.act_spends node p.guards new x does can acts

    plays_next : Plays i statements (heard_at s i front) (x ∷ rest) st.drafts
    plays_next = subst (λ l. Plays i statements (heard_at s i front) l st.drafts) next st.plays

    -- a change that is made, and is no event
    pub stands_changed : (q : PlayerState) → IsTakenBy statements (suc p.place) new node x actor None → q.place ≡ suc p.place → q.guards ≡ new → StandsAt i statements (heard_at s i front) q
    stands_changed q (flag, is) e f =
        let change = change_of node actor x flag in
        stands_as i statements (heard_at s i front) (after_change x actor).drafts (suc p.place) new q e f
        (plays.inside x (asked_call x) node has_heard free change.changes change.allowed plays_next)
        (record { left = refl; drafts = is.drafts })
        (run.changed_holds (heard_at s i front) p.guards st.holds x does new change.is (subst (λ o. CanAct o x p.guards) change.allowed can) (subst (λ o. Acts o x p.guards does new) change.allowed acts))

    -- a call, which comes after this
    module _ (c : calls.Call) (before : List Event) (rb : IsRunFrom (new_world s.parts s.extra) before) (may : MayCome s before (event.Call i c)) (same : (world_at s before).nodes i ≡ node)
        (heard : heard_at s i before ≡ heard_at s i front) where
      abbrev pub answer : Answer
      answer = (step (event.Call i c) (world_at s before)).answer

      called_heard : heard_at s i (before ++ event.Call i c ∷ []) ≡ heard_at s i front ++ Called c answer ∷ []
      called_heard = hears_then i (new_world s.parts s.extra) before (event.Call i c) ∙ ap (λ hs. heard_at s i before ++ hs) (heard_own i (Called c answer)) ∙ ap (λ hs. hs ++ Called c answer ∷ []) heard

      pub stands_called : (q : PlayerState) → IsTakenBy statements (suc p.place) new node x actor (Some c) → Spends c (node_calls c node).answer p.guards new → q.place ≡ suc p.place → q.guards ≡ guards_given answer ++ new
          → StandsAt i statements (heard_at s i (before ++ event.Call i c ∷ [])) q
      stands_called q (flag, is, own) spends e f =
          stands_as i statements (heard_at s i (before ++ event.Call i c ∷ [])) (drafts_given answer st.drafts) (suc p.place) (guards_given answer ++ new) q e f
          (subst (λ hs. Plays i statements hs rest (drafts_given answer st.drafts)) (sym called_heard)
          (plays.calls x c answer node has_heard (subst (λ d. CallsFor node st.drafts x d) (sym is) (call_for node actor x flag)) plays_next))
          (actor_given statements (suc p.place) new answer rest st.drafts own)
          (run.hears_call s.parts s.extra before rb (event.Call i c) may i c (heard_own i (Called c answer)) p.guards new
          (subst (λ a. Spends c a p.guards new) (ap (λ (n : Node). (node_calls c n).answer) (sym same) ∙ sym (run.call_answer i c (world_at s before))) spends)
          (subst (λ hs. HoldsHeard hs p.guards) (sym heard) st.holds))

    -- What is done may be done: a call that isn't the end of a section that is allowed, or such an end by a guard that fits.
    pub fits : GuardFits i node does
    fits = run.act_fits s.parts s.extra front r.enabled i p.guards free st.holds x does new acts

    pub unguarded : IsUnguarded node does
    unguarded = run.act_unguarded node p.guards new x does can acts
