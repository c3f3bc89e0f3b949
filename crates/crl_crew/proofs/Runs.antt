-- What the workers leave is a run on its way, which some order of steps chose.
use Rattle.std.proofs.Common.{◌≡◌, ◌∙◌, sym, ap, refl, subst, ◌<◌, nat_lt, Bool, true, false, ℕ, zero, suc, List, [], ◌∷◌, length, map, drop, arith, Some}
use Rattle.std.specs.Prelude.{slice_get}
use Rattle.std.proofs.lemmas.Bool.{ltb-true, lt-ltb}
use Rattle.std.proofs.lemmas.List.{length-map}
use Rattle.crl_model.specs.declared.statement.Statement.{Statement}
use Rattle.crl_protocol.specs.Talk.{Heard, hears}
use Rattle.crl_protocol.specs.World.{World, new_world}
use Rattle.crl_protocol.specs.Chosen.{block_of}
use Rattle.crl_talk.specs.Script.{Drafts, no_drafts}
use Rattle.crl_plays.specs.Plays.{Plays, IsFollowed, PlaysAreRuns}
use Rattle.crl_cluster.specs.Starting.{shape_with}
use Rattle.crl_run.specs.PlayerState.{PlayerState}
use Rattle.crl_run.specs.Players.{newest}
use Rattle.crl_run.specs.Playing.{player_of}
use Rattle.crl_run.specs.Actors.{IsActor, IsDraftOf}
use Rattle.crl_run.specs.Hearing.{HoldsHeard}
use Rattle.crl_run.specs.Finishing.{IsAtTurn}
use Rattle.crl_crew.specs.Standing.{StandsAt}
use Rattle.crl_crew.specs.Ending.{IsEnd}

-- what stands at a place
pub record IsThere {T : Type 0} (f : T → PlayerState) (xs : List T) (i : ℕ) : Type 0 where
  pub own : T
  pub got : slice_get xs i ≡ Some own
  pub player : player_of (map f xs) i ≡ f own

there_at : {T : Type 0} (f : T → PlayerState) (xs : List T) (i : ℕ) → i < length xs → IsThere f xs i
there_at f [] i few = absurd (omega arith)
there_at f (x ∷ xs) zero few = record { own = x; got = refl; player = refl }
there_at f (x ∷ xs) (suc i) few = let h = there_at f xs i (omega arith) in record { own = h.own; got = h.got; player = h.player }

module _ {T : Type 0} (f : T → PlayerState) (capacity : ℕ) (blocks : List (List Statement)) (w : World) (luggage : List T) (plays : PlaysAreRuns) where
  abbrev count : ℕ
  count = length (map f luggage)

  abbrev players : List PlayerState
  players = map f luggage

  module _ (end : IsEnd (λ i heard own. StandsAt i (block_of blocks i) heard (f own)) (shape_with count capacity) w luggage) where
    abbrev heard : ℕ → List Heard
    heard i = hears i (new_world count capacity) end.history

    abbrev left : ℕ → List Statement
    left i = drop (player_of players i).place (block_of blocks i)

    stood : (i : ℕ) → i < count → StandsAt i (block_of blocks i) (heard i) (player_of players i)
    stood i few =
        let at = there_at f luggage i (subst (λ n. i < n) (length-map luggage f) few) in
        subst (λ (p : PlayerState). StandsAt i (block_of blocks i) (heard i) p) (sym at.player) (end.each i at.own at.got)

    drafts_if : (i : ℕ) (b : Bool) → nat_lt i count ≡ b → Drafts
    drafts_if i true e = (stood i (ltb-true i count e)).drafts
    drafts_if i false e = no_drafts

    abbrev drafts : ℕ → Drafts
    drafts i = drafts_if i (nat_lt i count) refl

    abbrev Stood : ℕ → Drafts → Type 0
    Stood i d = Plays i (block_of blocks i) (heard i) (left i) d × IsActor (block_of blocks i) (player_of players i).place (player_of players i).guards (record { left = left i; drafts = d }) × HoldsHeard (heard i) (player_of players i).guards

    stood_if : (i : ℕ) → i < count → (b : Bool) (e : nat_lt i count ≡ b) → Stood i (drafts_if i b e)
    unfolding drafts_if stood
    stood_if i few true e = let st = stood i (ltb-true i count e) in (st.plays, st.actor, st.holds)
    stood_if i few false e = absurd (let on : nat_lt i count ≡ true = lt-ltb i count few in cc)

    followed : IsFollowed count capacity blocks end.history left drafts
    followed = plays count capacity blocks end.history left drafts end.run (λ i few. (stood_if i few (nat_lt i count) refl).0)

    pub at_turn : IsAtTurn capacity blocks w players
    at_turn = record {
      reached = followed.reached;
      chosen = followed.chosen;
      stands = record {
        world = end.world_is ∙ sym followed.world;
        all = λ i few. let st = stood_if i few (nat_lt i count) refl in record {
          actor = record {
            left = followed.left_is i few;
            drafts = λ q. subst (λ (d : Drafts). IsDraftOf (d q) (newest q (player_of players i).guards)) (sym (followed.drafts_are i few)) (st.1.drafts q);
          };
          heard = subst (λ es. HoldsHeard (hears i (new_world count capacity) es) (player_of players i).guards) (sym followed.events) st.2;
        };
      };
    }

-- the same of a script by another name, and of so many nodes
module _ {T : Type 0} (f : T → PlayerState) (nodes capacity : ℕ) (blocks all : List (List Statement)) (w : World) (luggage : List T) (players : List PlayerState) (same : all ≡ blocks) (is : players ≡ map f luggage)
    (end : IsEnd (λ i heard own. StandsAt i (block_of blocks i) heard (f own)) (shape_with nodes capacity) w luggage) where
  pub as_many : length players ≡ nodes
  as_many = ap length is ∙ length-map luggage f ∙ end.many

  pub reached : PlaysAreRuns → IsAtTurn capacity all w players
  reached plays =
      let many : length (map f luggage) ≡ nodes = length-map luggage f ∙ end.many in
      let named : IsEnd (λ i heard own. StandsAt i (block_of all i) heard (f own)) (shape_with nodes capacity) w luggage =
      subst (λ bs. IsEnd (λ i heard own. StandsAt i (block_of bs i) heard (f own)) (shape_with nodes capacity) w luggage) (sym same) end in
      let counted : IsEnd (λ i heard own. StandsAt i (block_of all i) heard (f own)) (shape_with (length (map f luggage)) capacity) w luggage =
      subst (λ n. IsEnd (λ i heard own. StandsAt i (block_of all i) heard (f own)) (shape_with n capacity) w luggage) (sym many) named in
      subst (λ ps. IsAtTurn capacity all w ps) (sym is) (at_turn f capacity all w luggage plays counted)
