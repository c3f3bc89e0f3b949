-- Where all nodes stand in their rounds, in every run.
use Rattle.std.proofs.Common.{◌≡◌, ℕ, zero, suc, ◌+◌, ◌<◌, ◌==◌, None, List, [], ◌∷◌, if◌then◌else◌, refl, ap, sym, ◌∙◌, subst, arith}
use Rattle.std.specs.List.{AllByRecursion}
use Rattle.std.proofs.Math.Logic.{◌⊎◌, inl, inr}
use Rattle.crl_model.specs.declared.call.Call.{Call}
use Rattle.crl_model.specs.declared.event.Event.{Event}
use Rattle.crl_model.specs.declared.event.Event.TheVariants as event
use Rattle.crl_model.specs.declared.message.Message.{Message}
use Rattle.crl_model.specs.declared.message.Kind.{Kind}
use Rattle.crl_model.specs.declared.message.Kind.TheVariants as kind
use Rattle.crl_model.specs.Names.{at_node}
use Rattle.crl_machine.specs.SingleMachine.{State, start, after_all}
use Rattle.crl_protocol.specs.Parcels.{Piece, with_load, PartsGathered}
use Rattle.crl_protocol.specs.Places.{Took}
use Rattle.crl_protocol.specs.Gathering.{Gathering, first_round, all_parts, no_parts}
use Rattle.crl_protocol.specs.Node.{Node, Done, Free, Outcome, only}
use Rattle.crl_protocol.specs.World.{World, WorldStep, new_world, note, put_in, steps_node, step, IsRunFrom, world_after, account_from}
use Rattle.crl_deeds.specs.Deeds.{Cause, Calls, Hears}
use Rattle.crl_deeds.proofs.Laws.{away_load, turn_of, deed_frame, all_took, each_at, weigh_took, sum_part, sum_new, none_to, token_turn, part_same, keyed_none, known_start, known_step}
use Rattle.crl_deeds.specs.Counts.{PlainKind, Plain, Known}
use Rattle.crl_deeds.specs.NodeFacts.{Leaves, ComesIn, Fits}
use Rattle.crl_deeds.specs.Tokens.{on_piece, load, Balanced, Balance, came}
use Rattle.crl_deeds.specs.Turns.{noted_as, Turn, calls, hears, gathers, answers, carriage, Came, HeldIn, HeldOut}
use Rattle.crl_rounds.specs.Standing.{FitAll, round_awaited, IsBetween, StandsIn, Stands}
use Rattle.crl_rounds.proofs.States.{same_self, after_append}
use Rattle.crl_rounds.proofs.Counts.{token_kind, token, gathering, waits_round, tokens, no_mail, HeardFits, Facts}
use Rattle.crl_rounds.proofs.Balances.{Kinds, of_other, of_rounds, kinds_of, deed_balance}
use Rattle.crl_rounds.proofs.Boxes.{KindKept, Kept, kept_parts, boxed_carriage}
use Rattle.crl_rounds.proofs.Story.{Story, Steps, TokensAfter, stands_self, story_still}
use Rattle.crl_rounds.proofs.Rounding.{After, Loads, activities, round_story}

-- What is known of a node that takes a step.
idle_stands : (k : ℕ) (s : State) (i : ℕ) (n : Node) → Stands k s i n → round_awaited n.activity ≡ None → n.rounds + 1 ≡ k
idle_stands k s i n h e = let b : IsBetween k s i n.rounds = subst (λ o. StandsIn k s i n.rounds o) e h.call in b.next

heard_of : (count k : ℕ) (s : State) (from to me : ℕ) (part : List ℕ) (m : Kind) → to ≡ me → KindKept count k s from to m → HeardFits count k me (Hears from (with_load part m))
heard_of count k s from to me part (kind.Come round p) e h = (h.sender, sym e ∙ h.to_first, h.current_one)
heard_of count k s from to me part _ e h = tt

-- the node that hears, without the piece
abbrev hearer : World → ℕ → List Piece → PartsGathered → Node
hearer w j rest parcels = record (w.nodes j) { inbox = rest; parcels = parcels }

abbrev heard : Piece → List ℕ → Cause
heard p part = Hears p.message.sender (with_load part p.message.kind)

record HeardSo (w : World) (s : State) (g : Gathering) (j : ℕ) (p : Piece) (rest : List Piece) (parcels : PartsGathered) (part : List ℕ) : Type 0 where
  weight : (i r : ℕ) → token i r p.message ≡ came (token i r) (w.nodes j).me (heard p part)
  loads : Loads w j (hearer w j rest parcels) (heard p part)
  mail : Came (Kept w.count g.round s) (w.nodes j).me (heard p part)
  facts : Facts w.count g (activities w) (hearer w j rest parcels) (heard p part)
  fits : Fits j (w.nodes j) → Fits j (hearer w j rest parcels)
  away : Came Leaves (w.nodes j).me (heard p part)
  steps : Steps w s g j (hearer w j rest parcels)

heard_so : (w : World) (s : State) (g : Gathering) → Known w → Story w s g → (j : ℕ) (p : Piece) (rest : List Piece) (parcels : PartsGathered) (part : List ℕ) → j < w.count → Took p (w.nodes j).inbox rest → HeardSo w s g j p rest parcels part
heard_so w s g x h j p rest parcels part few took = record {
  weight = weight;
  loads = loads;
  mail = kept_parts w.count g.round s (record m { addressee = n.me }) part (subst (λ to. Kept w.count g.round s (record m { addressee = to })) (mine.0.1 ∙ sym t.me) mine.0.0);
  facts = record {
    small = subst (λ k. k < w.count) (sym t.me) few;
    few = (x.held j).node.few;
    first = λ e. ap (λ k. (w.nodes k).gathering) (sym t.me ∙ e) ∙ h.first;
    here = ap (λ k. (w.nodes k).activity) t.me;
    between = λ e. idle_stands g.round s j n (h.each j few) e;
    heard = heard_of w.count g.round s m.sender m.addressee n.me part m.kind (mine.0.1 ∙ sym t.me) mine.0.0;
    portion = λ i r small. (let a = loads i r in let b = sum_part (load (token i r) (gathering i r)) w j few in let c = h.tokens i r small in omega arith);
  };
  fits = λ f. record { me = f.me; each = f.each; cache = f.cache; fresh = f.fresh; inbox = (all_took (ComesIn n.me) took f.inbox).1; outbox = f.outbox };
  away = subst (λ (y : Type 0). y) (away_load m.sender n.me part m.kind) (all_took (ComesIn n.me) took t.inbox).0;
  steps = record { few = few; me = t.me; nodes = (x.held j).node.few; rounds = refl; gathering = refl; activity = refl; box = record { inbox = mine.1; outbox = (h.boxes j few).outbox } };
}
  where
    n : Node
    n = w.nodes j

    m : Message
    m = p.message

    t : Fits j (w.nodes j)
    t = x.fits j

    mine : HeldIn (Kept w.count g.round s) j p × AllByRecursion (HeldIn (Kept w.count g.round s) j) rest
    mine = all_took (HeldIn (Kept w.count g.round s) j) took (h.boxes j few).inbox

    weight : (i r : ℕ) → token i r p.message ≡ came (token i r) (w.nodes j).me (heard p part)
    weight i r = ap (λ a. token i r (record { sender = m.sender; addressee = a; kind = m.kind })) (mine.0.1 ∙ sym t.me) ∙ sym (part_same (token i r) (no_mail i r) m.sender n.me part m.kind)

    loads : Loads w j (hearer w j rest parcels) (heard p part)
    loads i r = let a = weight i r in let took_out = weigh_took (on_piece (token i r)) took in omega arith

called_facts : (w : World) (s : State) (g : Gathering) → Known w → Story w s g → (j : ℕ) (c : Call) → j < w.count → Facts w.count g (activities w) (w.nodes j) (Calls c)
called_facts w s g x h j c few = record {
  small = subst (λ k. k < w.count) (sym (x.fits j).me) few;
  few = (x.held j).node.few;
  first = λ e. ap (λ k. (w.nodes k).gathering) (sym (x.fits j).me ∙ e) ∙ h.first;
  here = ap (λ k. (w.nodes k).activity) (x.fits j).me;
  between = λ e. idle_stands g.round s j (w.nodes j) (h.each j few) e;
  heard = tt;
  portion = λ i r small. (let b = sum_part (load (token i r) (gathering i r)) w j few in let c = h.tokens i r small in omega arith);
}

called_steps : (w : World) (s : State) (g : Gathering) → Known w → Story w s g → (j : ℕ) → j < w.count → Steps w s g j (w.nodes j)
called_steps w s g x h j few = record { few = few; me = (x.fits j).me; nodes = (x.held j).node.few; rounds = refl; gathering = refl; activity = refl; box = h.boxes j few }

near : (i r count from to : ℕ) (k : Kind) → PlainKind count from to k → (token_kind i r from to k ≡ 0) ⊎ (to < count)
near i r count from to (kind.Come round part) h = inr h
near i r count from to (kind.Result round fold) h = inr h
near i r count from to _ h = inl refl

balanced : (w : World) (s : State) (g : Gathering) → Known w → Story w s g → (i r : ℕ) → i < w.count → Balanced (token i r) (gathering i r) (waits_round r) i w
balanced w s g x h i r small = record {
  me = λ j. (x.fits j).me;
  calls = λ j c o few free d.
      (let f = called_facts w s g x h j c few in
      deed_balance i r w.count g (activities w) (w.nodes j) (Calls c) o (kinds_of w.count j g (activities w) (w.nodes j) (Calls c) o d (x.fits j) tt free f) (deed_frame _ _ _ d).me f free small);
  hears = λ j p rest parcels part o few took d.
      (let y = heard_so w s g x h j p rest parcels part few took in
      subst (λ c. Balance (token i r) (gathering i r) (waits_round r) i (hearer w j rest parcels) c o) (sym (y.weight i r))
      (deed_balance i r w.count g (activities w) (hearer w j rest parcels) (heard p part) o (kinds_of w.count j g (activities w) (hearer w j rest parcels) (heard p part) o d (y.fits (x.fits j)) y.away tt y.facts) (deed_frame _ _ _ d).me y.facts tt small));
  gathers = λ p key e. keyed_none (token i r) (no_mail i r) p.message.sender p.message.addressee p.message.kind key e;
  carriage = λ j p rest few took. near i r w.count p.message.sender p.message.addressee p.message.kind (all_took (HeldOut (Plain w.count)) took (x.held j).outbox).0.1;
}

-- A turn.
abbrev pub TurnLeaves : World → State → WorldStep → Type 0
TurnLeaves w s v = After w v.world s (after_all s v.entries) × FitAll s v.entries

pub story_turn : (w : World) (s : State) (g : Gathering) (v : WorldStep) {e : Event} → Turn w e v → Known w → Story w s g → TurnLeaves w s v
story_turn w s g v (calls j c o few free may d) x h =
    let f = called_facts w s g x h j c few in
    let st = called_steps w s g x h j few in
    let after : TokensAfter w j (noted_as w j c) o = λ i r small. token_turn (token i r) (gathering i r) (waits_round r) (tokens i r) i w _ (calls j c o few free may d) (balanced w s g x h i r small) (h.tokens i r small) in
    go (kinds_of w.count j g (activities w) (w.nodes j) (Calls c) o d (x.fits j) tt free f) f st after
  where
    go : Kinds w.count (w.nodes j) (Calls c) o → Facts w.count g (activities w) (w.nodes j) (Calls c) → Steps w s g j (w.nodes j) → TokensAfter w j (noted_as w j c) o → TurnLeaves w s (steps_node j (noted_as w j c) o w)
    go (of_other still none) f st after = (record { gathering = g; story = story_still w s g j (w.nodes j) (noted_as w j c) o h st still (deed_frame _ _ _ d) after }, still.fit g.round s (stands_self w s g j (w.nodes j) h st))
    go (of_rounds y) f st after = round_story w s g j (w.nodes j) (noted_as w j c) (Calls c) o y h st free f tt (λ i r. omega arith) (deed_frame _ _ _ d) after
story_turn w s g v (hears j place p rest parcels part o few took d) x h =
    let y = heard_so w s g x h j p rest parcels part few took in
    let after : TokensAfter w j (event.Handle j place) o = λ i r small. token_turn (token i r) (gathering i r) (waits_round r) (tokens i r) i w _ (hears j place p rest parcels part o few took d) (balanced w s g x h i r small) (h.tokens i r small) in
    go (kinds_of w.count j g (activities w) (hearer w j rest parcels) (heard p part) o d (y.fits (x.fits j)) y.away tt y.facts) y after
  where
    go : Kinds w.count (hearer w j rest parcels) (heard p part) o → HeardSo w s g j p rest parcels part → TokensAfter w j (event.Handle j place) o → TurnLeaves w s (steps_node j (event.Handle j place) o w)
    go (of_other still none) y after = (record { gathering = g; story = story_still w s g j (hearer w j rest parcels) (event.Handle j place) o h y.steps still (deed_frame _ _ _ d) after }, still.fit g.round s (stands_self w s g j (hearer w j rest parcels) h y.steps))
    go (of_rounds z) y after = round_story w s g j (hearer w j rest parcels) (event.Handle j place) (heard p part) o z h y.steps tt y.facts y.mail y.loads (deed_frame _ _ _ d) after
story_turn w s g v (gathers j place p rest parcels key few took keyed) x h =
    let y = heard_so w s g x h j p rest parcels [] few took in
    let m : Node = hearer w j rest parcels in
    let after : TokensAfter w j (event.Handle j place) (only m Done) = λ i r small. token_turn (token i r) (gathering i r) (waits_round r) (tokens i r) i w _ (gathers j place p rest parcels key few took keyed) (balanced w s g x h i r small) (h.tokens i r small) in
    (record { gathering = g; story = story_still w s g j m (event.Handle j place) (only m Done) h y.steps (record { rounds = refl; gathering = refl; awaited = refl; same = same_self; fit = λ k z l. tt; posts = tt }) (record { me = refl; nodes = refl; capacity = refl; inbox = refl; outbox = refl; parcels = refl }) after }, tt)
story_turn w s g v (answers j answer few ready) x h =
    let n = w.nodes j in
    let o : Outcome = record { node = record n { activity = Free }; answer = answer; entries = []; posts = [] } in
    let after : TokensAfter w j (event.Collect j) o = λ i r small. token_turn (token i r) (gathering i r) (waits_round r) (tokens i r) i w _ (answers j answer few ready) (balanced w s g x h i r small) (h.tokens i r small) in
    (record { gathering = g; story = story_still w s g j n (event.Collect j) o h (called_steps w s g x h j few) (record { rounds = refl; gathering = refl; awaited = sym (ap round_awaited ready); same = same_self; fit = λ k z l. tt; posts = tt }) (record { me = refl; nodes = refl; capacity = refl; inbox = refl; outbox = refl; parcels = refl }) after }, tt)
story_turn w s g v (carriage j place p rest few took) x h =
    let n : Node = note w.events (event.Carry j place) (record (w.nodes j) { outbox = rest }) in
    let sent : ℕ → Node = at_node w.nodes j n in
    let stood : (i : ℕ) → i < w.count → Stands g.round s i (sent i) = each_at (λ i m. i < w.count → Stands g.round s i m) w.nodes j n h.each (λ small. record { came = (h.each j small).came; call = (h.each j small).call }) in
    let first : (i : ℕ) → (sent i).gathering ≡ (w.nodes i).gathering = each_at (λ i m. m.gathering ≡ (w.nodes i).gathering) w.nodes j n (λ i. refl) refl in (
      record {
        gathering = g;
        story = record {
          nodes = h.nodes;
          first = each_at (λ i m. m.gathering ≡ (w.nodes i).gathering) sent p.message.addressee (put_in p (sent p.message.addressee)) first (first p.message.addressee) 0 ∙ h.first;
          positive = h.positive;
          each = each_at (λ i m. i < w.count → Stands g.round s i m) sent p.message.addressee (put_in p (sent p.message.addressee)) stood (λ small. record { came = (stood p.message.addressee small).came; call = (stood p.message.addressee small).call });
          gathered = h.gathered;
          missing = h.missing;
          tokens = λ i r small. token_turn (token i r) (gathering i r) (waits_round r) (tokens i r) i w _ (carriage j place p rest few took) (balanced w s g x h i r small) (h.tokens i r small);
          boxes = boxed_carriage (Kept w.count g.round s) w j (event.Carry j place) p rest few took h.boxes;
        };
      },
      tt,
    )

-- A run.
none_begins : (count : ℕ) → 0 < count → all_parts 0 count no_parts ≡ None
none_begins zero h = absurd (omega arith)
none_begins (suc k) h = refl

story_start : (count capacity : ℕ) → Story (new_world count capacity) (start count) first_round
story_start count capacity = record {
  nodes = refl;
  first = refl;
  positive = omega arith;
  each = λ i small. record { came = refl; call = record { told = refl; next = refl } };
  gathered = λ i p small e. cc;
  missing = none_begins count;
  tokens = λ i r small. sum_new (load (token i r) (gathering i r)) count capacity (λ j. (let a = none_to (1 == r) 0 in ap (λ x. 0 + 0 + (if j == 0 then x else 0)) a ∙ ap (λ x. 0 + 0 + x) (none_to (j == 0) 0)));
  boxes = λ i small. record { inbox = tt; outbox = tt };
}

pub record RunStory (w : World) (s : State) : Type 0 where
  pub gathering : Gathering
  pub story : Story w s gathering
  pub known : Known w

story_run : (es : List Event) (w : World) (s : State) → IsRunFrom w es → RunStory w s → RunStory (world_after w es) (after_all s (account_from w es))
story_run [] w s r h = h
story_run (e ∷ es) w s r h =
    let t = story_turn w s h.gathering (step e w) (turn_of w e r.0) h.known h.story in
    subst (λ x. RunStory (world_after (step e w).world es) x) (sym (after_append s (step e w).entries (account_from (step e w).world es)))
    (story_run es (step e w).world (after_all s (step e w).entries) r.1 (record { gathering = t.0.gathering; story = t.0.story; known = known_step w e r.0 h.known }))

pub story_of : (count capacity : ℕ) (run : List Event) → IsRunFrom (new_world count capacity) run → RunStory (world_after (new_world count capacity) run) (after_all (start count) (account_from (new_world count capacity) run))
story_of count capacity run r = story_run run (new_world count capacity) (start count) r (record { gathering = first_round; story = story_start count capacity; known = known_start count capacity })
