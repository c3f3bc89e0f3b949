-- A statement that is taken: the players stand for the run after it.
use Rattle.std.proofs.Common.{◌≡◌, ◌∙◌, sym, ap, refl, ◌==◌, ◌&&◌, ◌+◌, ◌^◌, ◌%◌, ◌<◌, ◌≤◌, Bool, true, false, if◌then◌else◌, Option, Some, None, ℕ, suc, List, [], ◌∷◌, length, drop, subst}
use Rattle.std.specs.Int.{to_be_bytes, from_be_bytes, w64}
use Rattle.std.proofs.lemmas.Bool.{cond-true, cond-false, eq-eqb}
use Rattle.crl_model.specs.declared.call.Call as calls
use Rattle.crl_model.specs.declared.choice.Choice.TheVariants as choice
use Rattle.crl_model.specs.declared.event.Event.TheVariants as event
use Rattle.crl_model.specs.declared.statement.Statement.{Statement}
use Rattle.crl_model.specs.declared.statement.Statement.TheVariants as statement
use Rattle.crl_model.specs.Names.{at_node}
use Rattle.crl_model.specs.Patches.{put_at}
use Rattle.crl_protocol.specs.Node.{Node, Free}
use Rattle.crl_protocol.specs.Calls.{node_calls}
use Rattle.crl_protocol.specs.Verdict.{verdict}
use Rattle.crl_protocol.specs.Talk.{Heard, hears}
use Rattle.crl_protocol.specs.World.{World, new_world, step, is_enabled, world_of}
use Rattle.crl_protocol.specs.Chosen.{Actor, new_actor, Running, running, call_of, is_change, is_allowed, after_change, eight_at, with_sum, goes_on, with_actor, makes_call, takes_statement, takes_choice, block_of}
use Rattle.crl_talk.specs.Guards.{Given}
use Rattle.crl_run.specs.declared.act.Act.{Act}
use Rattle.crl_run.specs.PlayerState.{PlayerState}
use Rattle.crl_run.specs.Players.{newest, guards_with, CanChange}
use Rattle.crl_run.specs.Acting.{CanAct, Acts}
use Rattle.crl_run.specs.Actors.{IsActor, IsExclusive, guards_of, asked_call, call_made, IsTakenBy}
use Rattle.crl_run.specs.Fits.{GuardFits}
use Rattle.crl_run.specs.Hearing.{HoldsHeard, Spends}
use Rattle.crl_deeds.specs.Laws.{is_inside, next_call}
use Rattle.crl_run.specs.Staging.{IsOnItsWay, PlayerStands, AllStand, AfterTaken, CallsMayCome}
use Rattle.crl_run.proofs.ActorLemmas.{begins, takes}
use Rattle.crl_run.proofs.Likeness.{with_of, like_chain, KeepsSize}
use Rattle.crl_run.proofs.Heard.{none_held, act_spends, SpendsOne}
use Rattle.crl_run.proofs.Fitting.{can_act, exclusive, act_fits}
use Rattle.crl_run.proofs.Stages.{call_stands, inside_stands}
use Rattle.crl_deeds.proofs.Laws.{allowed, put_length}
use Rattle.crl_talk.proofs.Laws.{call_of_left}

-- A change leaves as many bytes.

keeps_size : (f : List ℕ → List ℕ) (end : ℕ) (o : Option Given) → ((bytes : List ℕ) → end ≤ length bytes → length (f bytes) ≡ length bytes) → CanChange end o → KeepsSize f o
keeps_size f end None h can = tt
keeps_size f end (Some g) h can = (can.0, h g.guard.bytes can.1)

module _ (heard : List Heard) (old : List Given) (h : HoldsHeard heard old) where
  with_holds : (name : _) (f : List ℕ → List ℕ) (new : List Given) → KeepsSize f (newest name old) → new ≡ guards_with name f old → HoldsHeard heard new
  with_holds name f new k e = subst (λ gs. HoldsHeard heard gs) (sym e) (record { like = λ q. like_chain (guards_of q (guards_with name f old)) _ _ (with_of name f q old k) (h.like q); shown = h.shown })

  pub changed_holds : (s : Statement) (does : Act) (new : List Given) → is_change s ≡ true → CanAct None s old → Acts None s old does new → HoldsHeard heard new
  changed_holds (statement.Call c) does new e can acts = cc
  changed_holds (statement.Put name offset bytes) does new e can acts = with_holds name (put_at offset bytes) new (keeps_size _ (offset + length bytes) (newest name old) (λ b. put_length offset bytes b) can) acts.1
  changed_holds (statement.Add name offset number) does new e can acts =
      with_holds name (with_sum offset number) new (keeps_size _ (offset + 8) (newest name old) (λ b. put_length offset (to_be_bytes w64 ((from_be_bytes w64 (eight_at offset b) + number) % 2 ^ 64)) b) can) acts.1

pub call_answer : (i : ℕ) (c : calls.Call) (w : World) → (step (event.Call i c) w).answer ≡ (node_calls c (w.nodes i)).answer
unfolding step
call_answer i c w = refl

by_both : {A : Type 0} (a b : Bool) (x y : A) (both : Bool) → (a && b) ≡ both → (if a then (if b then x else y) else y) ≡ (if both then x else y)
by_both true true x y both e = ap (λ k. if k then x else y) e
by_both true false x y both e = ap (λ k. if k then x else y) e
by_both false b x y both e = ap (λ k. if k then x else y) e

none_of_change : (n : Node) (a : Actor) (s : Statement) → (is_change s && is_allowed (verdict n (call_of n a s))) ≡ true → (is_change s ≡ true) × (verdict n (asked_call s) ≡ None)
none_of_change n a (statement.Call c) e = cc
none_of_change n a (statement.Put name offset bytes) e = (refl, allowed _ e)
none_of_change n a (statement.Add name offset number) e = (refl, allowed _ e)

-- At the start.
pub players_begin : (count capacity : ℕ) (blocks : List (List Statement)) (players : ℕ → PlayerState) → ((i : ℕ) → i < count → ((players i).place ≡ 0) × ((players i).guards ≡ [])) → AllStand count capacity blocks (running count capacity blocks) players
players_begin count capacity blocks players h i few =
    let own = h i few in
    record {
      actor = subst (λ k. IsActor (block_of blocks i) k (players i).guards (new_actor (block_of blocks i))) (sym own.0) (subst (λ gs. IsActor (block_of blocks i) 0 gs (new_actor (block_of blocks i))) (sym own.1) (begins (block_of blocks i)));
      heard = subst (λ gs. HoldsHeard [] gs) (sym own.1) none_held;
    }

module _ (count capacity : ℕ) (blocks : List (List Statement)) (r : Running) (way : IsOnItsWay count capacity r) (players : ℕ → PlayerState) (all : AllStand count capacity blocks r players) (i : ℕ) (few : i < count)
    (free : (r.world.nodes i).activity ≡ Free) (s : Statement) (next : drop (players i).place (block_of blocks i) ≡ s ∷ drop (suc (players i).place) (block_of blocks i)) where
  abbrev node : Node
  node = r.world.nodes i

  abbrev rest : List Statement
  rest = drop (suc (players i).place) (block_of blocks i)

  abbrev actor : Actor
  actor = record (r.actors i) { left = rest }

  abbrev past : Running
  past = with_actor i actor r

  abbrev old : List Given
  old = (players i).guards

  own : PlayerStands count capacity blocks r i (players i)
  own = all i few

  past_way : IsOnItsWay count capacity past
  past_way = record { run = way.run; world = way.world }

  past_others : (j : ℕ) → j < count → (i == j) ≡ false → PlayerStands count capacity blocks past j (players j)
  past_others j near other = let h = all j near in record {
    actor = subst (λ (x : Actor). IsActor (block_of blocks j) (players j).place (players j).guards x) (sym (cond-false (i == j) actor (r.actors j) other)) h.actor;
    heard = h.heard;
  }

  past_actor : past.actors i ≡ actor
  past_actor = cond-true (i == i) actor (r.actors i) (eq-eqb i i refl)

  there_free : ((world_of count capacity r.events).nodes i).activity ≡ Free
  there_free = subst (λ (w : World). (w.nodes i).activity ≡ Free) way.world free

  pub statement_can : CanAct (verdict node (asked_call s)) s (players i).guards
  statement_can = subst (λ (w : World). CanAct (verdict (w.nodes i) (asked_call s)) s (players i).guards) (sym way.world) (can_act count capacity r.events way.run i (players i).guards there_free own.heard s)

  pub statement_fits : (does : Act) (new : List Given) → Acts (verdict node (asked_call s)) s (players i).guards does new → GuardFits i node does
  statement_fits does new acts = subst (λ (w : World). GuardFits i (w.nodes i) does) (sym way.world)
      (act_fits count capacity r.events way.run i (players i).guards there_free own.heard s does new (subst (λ (w : World). Acts (verdict (w.nodes i) (asked_call s)) s (players i).guards does new) way.world acts))

  taken_choice : (both : Bool) → (is_change s && is_allowed (verdict node (call_of node actor s))) ≡ both
      → takes_choice (choice.Statement i) r ≡ (if both then with_actor i (after_change s actor) past else goes_on i (event.Call i (call_of node actor s)) past)
  unfolding takes_choice
  taken_choice both e =
      let left : (r.actors i).left ≡ s ∷ rest = own.actor.left ∙ next in
      ap (λ l. takes_statement i l r) left ∙ ap (λ c. makes_call i s c past) (sym (call_of_left node (r.actors i) rest s))
      ∙ by_both (is_change s) (is_allowed (verdict node (call_of node actor s))) (with_actor i (after_change s (past.actors i)) past) (goes_on i (event.Call i (call_of node actor s)) past) both e
      ∙ ap (λ a. if both then with_actor i (after_change s a) past else goes_on i (event.Call i (call_of node actor s)) past) past_actor

  apart : IsExclusive (players i).guards
  apart = exclusive count capacity r.events way.run i (players i).guards there_free own.heard

  pub statement_taken : (does : Act) (new : List Given) → Acts (verdict node (asked_call s)) s (players i).guards does new → AfterTaken count capacity blocks r players i new (call_made does)
  statement_taken does new acts = go (call_made does) (takes (block_of blocks i) (players i).place old new node s does (r.actors i) next own.actor apart statement_can acts) (act_spends node old new s does statement_can acts)
    where
      go : (o : Option calls.Call) → IsTakenBy (block_of blocks i) (suc (players i).place) new node s actor o → SpendsOne node old new o → AfterTaken count capacity blocks r players i new o
      go None (flag, stands) spends = λ p place guards.
          subst (λ (x : Running). AllStand count capacity blocks x (at_node players i p)) (sym (taken_choice true flag))
          (inside_stands count capacity blocks past past_way players p i few (after_change s actor) past_others
          (subst (λ gs. HoldsHeard (hears i (new_world count capacity) r.events) gs) (sym guards) (let none = none_of_change node actor s flag in
          changed_holds (hears i (new_world count capacity) r.events) old own.heard s does new none.0 (subst (λ o. CanAct o s old) none.1 statement_can) (subst (λ o. Acts o s old does new) none.1 acts)))
          (subst (λ k. IsActor (block_of blocks i) k p.guards (after_change s actor)) (sym place) (subst (λ gs. IsActor (block_of blocks i) (suc (players i).place) gs (after_change s actor)) (sym guards) stands)))
      go (Some c) (flag, is, stands) spends = λ p place guards may.
          subst (λ (x : Running). AllStand count capacity blocks x (at_node players i p)) (sym (taken_choice false flag ∙ ap (λ d. goes_on i (event.Call i d) past) (sym is)))
          (call_stands count capacity blocks past past_way players p i few c new may past_others own.heard
          (subst (λ (a : Actor). IsActor (block_of blocks i) p.place new a) (sym past_actor) (subst (λ k. IsActor (block_of blocks i) k new actor) (sym place) stands))
          (subst (λ answer. Spends c answer old new) (sym (call_answer i c r.world)) spends) guards)

  -- The world after it, and that a call that is made may come.
  abbrev pub AfterMade : Option calls.Call → Type 0
  AfterMade None = (takes_choice (choice.Statement i) r).world ≡ r.world
  AfterMade (Some c) = ((takes_choice (choice.Statement i) r).world ≡ (step (event.Call i c) r.world).world) × (CallsMayCome count capacity blocks r → i < r.world.count → is_enabled (event.Call i c) r.world ≡ true)

  pub statement_made : (does : Act) (new : List Given) → Acts (verdict node (asked_call s)) s (players i).guards does new → AfterMade (call_made does)
  statement_made does new acts = go (call_made does) (takes (block_of blocks i) (players i).place old new node s does (r.actors i) next own.actor apart statement_can acts)
    where
      go : (o : Option calls.Call) → IsTakenBy (block_of blocks i) (suc (players i).place) new node s actor o → AfterMade o
      go None (flag, stands) = ap (λ (x : Running). x.world) (taken_choice true flag)
      go (Some c) (flag, is, stands) =
          let same : c ≡ next_call r i s = is ∙ call_of_left node (r.actors i) rest s in
          let out : is_inside r i s ≡ false = subst (λ d. (is_change s && is_allowed (verdict node d)) ≡ false) (call_of_left node (r.actors i) rest s) flag in (
            ap (λ (x : Running). x.world) (taken_choice false flag ∙ ap (λ d. goes_on i (event.Call i d) past) (sym is)),
            λ come below. subst (λ d. is_enabled (event.Call i d) r.world ≡ true) (sym same) (come i s rest below free (own.actor.left ∙ next) out),
          )
