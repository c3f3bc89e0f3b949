-- The theorems, read off what is known of every run.
use Rattle.std.proofs.Common.{◌≡◌, ℕ, zero, suc, ◌+◌, ◌-◌, ◌≤◌, ◌<◌, ◌==◌, ◌&&◌, Bool, true, false, None, Some, Option, List, [], ◌∷◌, ◌++◌, if◌then◌else◌, refl, ap, sym, ◌∙◌, subst, arith}
use Rattle.std.specs.List.{All, AllByRecursion}
use Rattle.std.proofs.lemmas.List.Elements.{All-from_recursion}
use Rattle.std.proofs.lemmas.Bool.{cond_both, cond-true, cond-false, eqb-true, eq-eqb, ne_eqb}
use Rattle.std.proofs.Math.Logic.{◌⊎◌, inl, inr}
use Rattle.crl_model.specs.declared.collective.Part.{Part}
use Rattle.crl_model.specs.declared.call.CallKind.{CallKind}
use Rattle.crl_model.specs.declared.call.Refusal.{Refusal}
use Rattle.crl_model.specs.declared.call.Refusal.TheVariants as refusal
use Rattle.crl_model.specs.declared.entry.Entry.{Entry}
use Rattle.crl_model.specs.declared.entry.What.{What}
use Rattle.crl_model.specs.declared.entry.What.TheVariants as what
use Rattle.crl_model.specs.declared.event.Event.{Event}
use Rattle.crl_model.specs.declared.message.Kind.{Kind}
use Rattle.crl_model.specs.declared.message.Kind.TheVariants as kind
use Rattle.crl_model.specs.Calls.{kind_of}
use Rattle.crl_machine.specs.SingleMachine.{State, start, change, after, after_all, told_after, part_at}
use Rattle.crl_protocol.specs.Parcels.{Piece}
use Rattle.crl_protocol.specs.Gathering.{Gathering, with_part, all_parts}
use Rattle.crl_protocol.specs.Node.{Node}
use Rattle.crl_protocol.specs.World.{World, boxes_from, pieces_in_boxes, new_world, world_of, step, IsRunFrom}
use Rattle.crl_deeds.proofs.Laws.{all_append, turn_of, boxed_sum, none_to}
use Rattle.crl_deeds.specs.Tokens.{weighs, sum_from}
use Rattle.crl_deeds.specs.Turns.{HeldIn}
use Rattle.crl_rounds.specs.Standing.{InEveryRun, RoundMailFitsAll, RoundEntriesFit, RoundsStand, RoundCall, round_awaited, current_round, part_gathered, WaitsIn, StandsIn, Stands, IsRoundMail, RoundMailFits, is_part_from, is_result_for, count_parts, count_results, RoundPlace, nowhere, sent, gathered, told, IsGathered, IsMissing, IsAbsent, part_in, is_mixed, is_result, parts_brought, results_told, machine_of}
use Rattle.crl_rounds.proofs.Counts.{of_round, token_kind, token, there, gathering, waits_call, waits_round, one_round, at_most_one, none_there, waits_in}
use Rattle.crl_rounds.proofs.Counts as counts
use Rattle.crl_rounds.proofs.Boxes.{KindKept, Kept, split_from, all_map}
use Rattle.crl_rounds.proofs.Story.{Story}
use Rattle.crl_rounds.proofs.Runs.{RunStory, story_turn, story_of}

-- all boxes in one list
boxes_held : (Q : Piece → Type 0) (count i k : ℕ) (nodes : ℕ → Node) → i + k ≤ count → ((j : ℕ) → j < count → AllByRecursion Q (nodes j).inbox × AllByRecursion Q (nodes j).outbox) → AllByRecursion Q (boxes_from i k nodes)
boxes_held Q count i zero nodes l h = tt
boxes_held Q count i (suc k) nodes l h =
    all_append Q ((nodes i).inbox ++ (nodes i).outbox) (boxes_from (i + 1) k nodes) (all_append Q (nodes i).inbox (nodes i).outbox (h i (omega arith)).0 (h i (omega arith)).1) (boxes_held Q count (i + 1) k nodes (omega arith) h)

abbrev KeptPiece : World → State → Gathering → Piece → Type 0
KeptPiece w s g p = Kept w.count g.round s p.message

all_kept : (w : World) (s : State) (g : Gathering) → Story w s g → AllByRecursion (KeptPiece w s g) (pieces_in_boxes w)
all_kept w s g h = boxes_held (KeptPiece w s g) w.count 0 w.count w.nodes (omega arith) (λ j small. (all_map (HeldIn (Kept w.count g.round s) j) (KeptPiece w s g) (λ p x. x.0) _ (h.boxes j small).inbox, (h.boxes j small).outbox))

-- the tokens in the boxes, and the part that is gathered
after_first : (i r a k : ℕ) (nodes : ℕ → Node) → 1 ≤ a → ((j : ℕ) → (nodes j).me ≡ j) → sum_from (gathering i r) a k nodes ≡ 0
after_first i r a zero nodes l me = refl
after_first i r a (suc k) nodes l me =
    let rest = after_first i r (a + 1) k nodes (omega arith) me in
    let here : gathering i r (nodes a) ≡ 0 = cond-false ((nodes a).me == 0) _ _ (ne_eqb (nodes a).me 0 (λ e. let x = me a in omega arith)) in omega arith

sum_first : (i r k : ℕ) (nodes : ℕ → Node) → 0 < k → ((j : ℕ) → (nodes j).me ≡ j) → sum_from (gathering i r) 0 k nodes ≡ counts.gathered i r (nodes 0).gathering
sum_first i r zero nodes l me = absurd (omega arith)
sum_first i r (suc k) nodes l me =
    let rest = after_first i r (0 + 1) k nodes (omega arith) me in
    let here : gathering i r (nodes 0) ≡ counts.gathered i r (nodes 0).gathering = cond-true ((nodes 0).me == 0) _ _ (eq-eqb _ _ (me 0)) in omega arith

tokens_boxed : (w : World) (s : State) → RunStory w s → (i r : ℕ) → i < w.count → weighs (token i r) (pieces_in_boxes w) + counts.gathered i r (w.nodes 0).gathering ≡ waits_round r (w.nodes i).activity
tokens_boxed w s h i r small =
    let all = h.story.tokens i r small in
    let split = split_from (token i r) (gathering i r) 0 w.count w.nodes in
    let boxed = boxed_sum (token i r) w in
    let own = sum_first i r w.count w.nodes (omega arith) (λ j. (h.known.fits j).me) in omega arith

-- parts are of the current round, and results of the one before
part_weight : (count k : ℕ) (s : State) (i from to : ℕ) (m : Kind) → KindKept count k s from to m → token_kind i k from to m ≡ (if is_part_from i from m then 1 else 0)
part_weight count k s i from to (kind.Come round part) h = ap (λ x. if from == i then x else 0) (ap (λ r. of_round r k) h.current_one ∙ one_round k)
part_weight count k s i from to (kind.Result round fold) h = ap (λ x. if to == i then x else 0) (cond-false (round == k) _ _ (ne_eqb round k (λ e. let b = h.before in omega arith))) ∙ none_to (to == i) 0
part_weight count k s i from to _ h = refl

result_weight : (count k j : ℕ) (s : State) (i from to : ℕ) (m : Kind) → j + 1 ≡ k → KindKept count k s from to m → token_kind i j from to m ≡ (if is_result_for i to m then 1 else 0)
result_weight count k j s i from to (kind.Come round part) e h = ap (λ x. if from == i then x else 0) (cond-false (round == j) _ _ (ne_eqb round j (λ x. let b = h.current_one in omega arith))) ∙ none_to (from == i) 0
result_weight count k j s i from to (kind.Result round fold) e h = let same : round ≡ j = (let b = h.before in omega arith) in ap (λ x. if to == i then x else 0) (ap (λ r. of_round r j) same ∙ one_round j)
result_weight count k j s i from to _ e h = refl

parts_counted : (w : World) (s : State) (g : Gathering) (i : ℕ) (ps : List Piece) → AllByRecursion (KeptPiece w s g) ps → weighs (token i g.round) ps ≡ count_parts i ps
parts_counted w s g i [] h = refl
parts_counted w s g i (p ∷ ps) h = let rest = parts_counted w s g i ps h.1 in let here = part_weight w.count g.round s i p.message.sender p.message.addressee p.message.kind h.0 in omega arith

results_counted : (w : World) (s : State) (g : Gathering) (i j : ℕ) (ps : List Piece) → j + 1 ≡ g.round → AllByRecursion (KeptPiece w s g) ps → weighs (token i j) ps ≡ count_results i ps
results_counted w s g i j [] e h = refl
results_counted w s g i j (p ∷ ps) e h = let rest = results_counted w s g i j ps e h.1 in let here = result_weight w.count g.round j s i p.message.sender p.message.addressee p.message.kind e h.0 in omega arith

record Counted (w : World) (s : State) (i : ℕ) : Type 0 where
  parts : count_parts i (pieces_in_boxes w) + there (part_gathered w i) ≡ waits_round (current_round w) (w.nodes i).activity
  results : (j : ℕ) → j + 1 ≡ current_round w → count_results i (pieces_in_boxes w) ≡ waits_round j (w.nodes i).activity

abbrev gathering_of : World → Gathering
gathering_of w = (w.nodes 0).gathering

now : (w : World) (s : State) → RunStory w s → Story w s (gathering_of w)
now w s h = subst (Story w s) (sym h.story.first) h.story

counted : (w : World) (s : State) → RunStory w s → (i : ℕ) → i < w.count → Counted w s i
counted w s h i small = record {
  parts = (let k = current_round w in
      let t = tokens_boxed w s h i k small in
      let c = parts_counted w s (gathering_of w) i (pieces_in_boxes w) (all_kept w s (gathering_of w) (now w s h)) in
      let g : counts.gathered i k (gathering_of w) ≡ there (part_gathered w i) = cond-true (k == k) _ _ (eq-eqb k k refl) in omega arith);
  results = λ j e.
      (let k = current_round w in
      let t = tokens_boxed w s h i j small in
      let c = results_counted w s (gathering_of w) i j (pieces_in_boxes w) e (all_kept w s (gathering_of w) (now w s h)) in
      let g : counts.gathered i j (gathering_of w) ≡ 0 = cond-false (k == j) _ _ (ne_eqb k j (λ x. omega arith)) in omega arith);
}

-- where a node stands
pub stands : (w : World) (s : State) → RunStory w s → (i : ℕ) → i < w.count → Stands (current_round w) s i (w.nodes i)
stands w s h i small = (now w s h).each i small

pub place : (w : World) (s : State) → RunStory w s → (i : ℕ) → i < w.count → RoundPlace w s i (round_awaited (w.nodes i).activity)
place w s h i small = go (round_awaited (w.nodes i).activity) (stands w s h i small).call (part_gathered w i) refl (λ p e. ((now w s h).gathered i p small e).brought) number.parts (number.results (k - 1) below) refl
  where
    k : ℕ
    k = current_round w

    number : Counted w s i
    number = counted w s h i small

    below : k - 1 + 1 ≡ k
    below = let p = (now w s h).positive in omega arith

    of_other : (a : ℕ) → (a ≡ k - 1 → ⊥) → of_round a (k - 1) ≡ 0
    of_other a x = cond-false (a == k - 1) _ _ (ne_eqb a (k - 1) x)

    go : (o : Option RoundCall) → StandsIn k s i (w.nodes i).rounds o → (there_is : Option Part) → part_gathered w i ≡ there_is → ((p : Part) → there_is ≡ Some p → part_at s i k ≡ p) → count_parts i (pieces_in_boxes w) + there there_is ≡ waits_call k o
        → count_results i (pieces_in_boxes w) ≡ waits_call (k - 1) o → round_awaited (w.nodes i).activity ≡ o → RoundPlace w s i o
    go None x None e is parts results same = nowhere (record { parts_sent = omega arith; results_sent = omega arith; part_there = e })
    go None x (Some p) e is parts results same = absurd (omega arith)
    go (Some c) x there_is e is parts results same = near x.near
      where
        own : c.round ≡ (w.nodes i).rounds
        own = x.own

        near : ((w.nodes i).rounds ≡ k) ⊎ ((w.nodes i).rounds + 1 ≡ k) → RoundPlace w s i (Some c)
        near (inl at) = by there_is e is parts
          where
            is_at : c.round ≡ k
            is_at = own ∙ at

            one : of_round c.round k ≡ 1
            one = ap (λ r. of_round r k) is_at ∙ one_round k

            zero_one : of_round c.round (k - 1) ≡ 0
            zero_one = of_other c.round (λ y. omega arith)

            by : (there_is : Option Part) → part_gathered w i ≡ there_is → ((p : Part) → there_is ≡ Some p → part_at s i k ≡ p) → count_parts i (pieces_in_boxes w) + there there_is ≡ of_round c.round k → RoundPlace w s i (Some c)
            by None e is parts = sent c is_at (record { parts_sent = omega (arith, one); results_sent = results ∙ zero_one; part_there = e })
            by (Some p) e is parts = gathered c is_at (record { parts_sent = omega (arith, one); results_sent = results ∙ zero_one; part_there = e ∙ ap Some (sym (is p refl) ∙ ap (part_at s i) (sym is_at)) })
        near (inr past) =
            let is_past : c.round + 1 ≡ k = ap (λ r. r + 1) own ∙ past in
            let none : of_round c.round k ≡ 0 = cond-false (c.round == k) _ _ (ne_eqb c.round k (λ y. omega arith)) in
            let same : c.round ≡ k - 1 = omega arith in
            let one : of_round c.round (k - 1) ≡ 1 = ap (λ r. of_round r (k - 1)) same ∙ one_round (k - 1) in
            told c is_past (record { parts_sent = omega arith; results_sent = results ∙ one; part_there = e ∙ none_there there_is (omega arith) })

-- the messages of rounds
mail_fits : (w : World) (s : State) → RunStory w s → (ps : List Piece) → AllByRecursion (KeptPiece w s (gathering_of w)) ps → ((i r : ℕ) → i < w.count → weighs (token i r) ps ≤ waits_round r (w.nodes i).activity)
    → ((i : ℕ) → i < w.count → weighs (token i (current_round w)) ps + there (part_gathered w i) ≤ 1) → AllByRecursion (RoundMailFits w s) ps
mail_fits w s h [] all few once = tt
mail_fits w s h (p ∷ ps) all few once = (
  fits p.message.sender p.message.addressee p.message.kind all.0 (λ i r small. let f = few i r small in omega arith) (λ i small. let f = once i small in omega arith),
  mail_fits w s h ps all.1 (λ i r small. let f = few i r small in omega arith) (λ i small. let f = once i small in omega arith),
)
  where
    k : ℕ
    k = current_round w

    -- who waits in a round came to it with a part of the kind that it notes
    kind_in : (i r : ℕ) (c : CallKind) → i < w.count → round_awaited (w.nodes i).activity ≡ Some (record { round = r; kind = c }) → round_awaited (w.nodes i).activity ≡ Some (record { round = r; kind = kind_of (part_at s i r) })
    kind_in i r c small e =
        let call : RoundCall = record { round = r; kind = c } in
        let x : WaitsIn k s i (w.nodes i).rounds call = subst (λ o. StandsIn k s i (w.nodes i).rounds o) e (stands w s h i small).call in
        e ∙ ap (λ z. Some (record { round = r; kind = z })) (x.kind ∙ ap (λ z. kind_of (part_at s i z)) (sym x.own))

    awaited : (i r : ℕ) → i < w.count → 1 ≤ waits_round r (w.nodes i).activity → round_awaited (w.nodes i).activity ≡ Some (record { round = r; kind = kind_of (part_at s i r) })
    awaited i r small one = let y = waits_in (w.nodes i).activity r one in kind_in i r y.0 small (ap round_awaited y.1)

    fits : (from to : ℕ) (m : Kind) → KindKept w.count k s from to m → ((i r : ℕ) → i < w.count → token_kind i r from to m ≤ waits_round r (w.nodes i).activity) → ((i : ℕ) → i < w.count → token_kind i k from to m + there (part_gathered w i) ≤ 1) → IsRoundMail w s from to m
    fits from to (kind.Come round part) x few once =
        let one : (if from == from then of_round round round else 0) ≡ of_round round round = cond-true (from == from) _ _ (eq-eqb from from refl) in
        let it = one_round round in
        let f = few from round x.sender in
        let at : (if from == from then of_round round k else 0) ≡ of_round round k = cond-true (from == from) _ _ (eq-eqb from from refl) in
        let is_at : of_round round k ≡ 1 = ap (λ r. of_round r k) x.current_one ∙ one_round k in
        let l = once from x.sender in
        record { sender = x.sender; to_first = x.to_first; current = x.current_one; waits = awaited from round x.sender (omega arith) ∙ ap (λ p. Some (record { round = round; kind = kind_of p })) (sym x.brought); brought = x.brought; awaited = none_there (part_gathered w from) (omega arith) }
    fits from to (kind.Result round fold) x few once =
        let one : (if to == to then of_round round round else 0) ≡ of_round round round = cond-true (to == to) _ _ (eq-eqb to to refl) in
        let it = one_round round in
        let f = few to round x.addressee in
        record { addressee = x.addressee; before = x.before; waits = awaited to round x.addressee (omega arith); all_came = x.all_came; gives = x.gives }
    fits from to _ x few once = tt

pub mail_fits_all : (w : World) (s : State) → RunStory w s → All (RoundMailFits w s) (pieces_in_boxes w)
mail_fits_all w s h =
    All-from_recursion (RoundMailFits w s) (pieces_in_boxes w) (mail_fits w s h (pieces_in_boxes w) (all_kept w s (gathering_of w) (now w s h)) (λ i r small. let t = tokens_boxed w s h i r small in omega arith)
    (λ i small. let k = current_round w in let t = tokens_boxed w s h i k small in
    let g : counts.gathered i k (gathering_of w) ≡ there (part_gathered w i) = cond-true (k == k) _ _ (eq-eqb k k refl) in let most = at_most_one k (round_awaited (w.nodes i).activity) in omega arith))

-- the parts that are gathered, and one that isn't
call_of : (k : ℕ) (s : State) (i rounds : ℕ) (o : Option RoundCall) → StandsIn k s i rounds o → 1 ≤ waits_call k o → rounds ≡ k
call_of k s i rounds None x h = absurd (omega arith)
call_of k s i rounds (Some c) x h = sym x.own ∙ counts.is_round c.round k h

pub part_there : (w : World) (s : State) → RunStory w s → (i : ℕ) (p : Part) → i < w.count → part_gathered w i ≡ Some p → IsGathered w s i p
part_there w s h i p small e =
    let c = (counted w s h i small).parts in
    let one : there (part_gathered w i) ≡ 1 = ap there e in
    let st = stands w s h i small in
    record { came = st.came ∙ call_of (current_round w) s i (w.nodes i).rounds (round_awaited (w.nodes i).activity) st.call (omega arith); brought = sym ((now w s h).gathered i p small e).brought }

missing_from : (count m k : ℕ) (parts : ℕ → Option Part) → m + k ≤ count → all_parts m k parts ≡ None → (i : ℕ) × ((i < count) × (parts i ≡ None))
missing_from count m zero parts l e = cc
missing_from count m (suc k) parts l e = go (parts m) refl (all_parts (m + 1) k parts) e (missing_from count (m + 1) k parts (omega arith))
  where
    go : (o : Option Part) → parts m ≡ o → (r : Option (List Part)) → with_part o r ≡ None → (r ≡ None → (i : ℕ) × ((i < count) × (parts i ≡ None))) → (i : ℕ) × ((i < count) × (parts i ≡ None))
    go None x r y rest = (m, (omega arith, x))
    go (Some p) x None y rest = rest refl
    go (Some p) x (Some ps) y rest = cc

pub missing : (w : World) (s : State) → RunStory w s → 0 < w.count → (m : ℕ) × IsMissing w m
missing w s h some = missing_from w.count 0 w.count (gathering_of w).parts (omega arith) ((now w s h).missing some)

-- where no piece is in a box
no_parts_sent : (w : World) (i : ℕ) → pieces_in_boxes w ≡ [] → count_parts i (pieces_in_boxes w) ≡ 0
no_parts_sent w i e = ap (count_parts i) e

no_results_sent : (w : World) (i : ℕ) → pieces_in_boxes w ≡ [] → count_results i (pieces_in_boxes w) ≡ 0
no_results_sent w i e = ap (count_results i) e

absent : (w : World) (s : State) → RunStory w s → pieces_in_boxes w ≡ [] → (m : ℕ) → m < w.count → part_gathered w m ≡ None → IsAbsent w s m
absent w s h quiet m small none = go (round_awaited (w.nodes m).activity) refl (place w s h m small) (stands w s h m small).call
  where
    go : (o : Option RoundCall) → round_awaited (w.nodes m).activity ≡ o → RoundPlace w s m o → StandsIn (current_round w) s m (w.nodes m).rounds o → IsAbsent w s m
    go o e (nowhere u) x = record { node = small; part = none; came = ap (λ r. r + 1) (stands w s h m small).came ∙ x.next; waits = e }
    go o e (sent c same u) x = let a = u.parts_sent in let b = no_parts_sent w m quiet in absurd (omega arith)
    go o e (gathered c same u) x = let a = sym none ∙ u.part_there in cc
    go o e (told c same u) x = let a = u.results_sent in let b = no_results_sent w m quiet in absurd (omega arith)

pub absent_when_quiet : (w : World) (s : State) → RunStory w s → pieces_in_boxes w ≡ [] → (i : ℕ) (c : RoundCall) → i < w.count → round_awaited (w.nodes i).activity ≡ Some c → (c.round ≡ current_round w) × (m : ℕ) × IsAbsent w s m
absent_when_quiet w s h quiet i c small e = (go (round_awaited (w.nodes i).activity) e (place w s h i small), away.0, absent w s h quiet away.0 away.1.0 away.1.1)
  where
    away : (m : ℕ) × IsMissing w m
    away = missing w s h (omega arith)

    same_call : (a b : RoundCall) → Some a ≡ Some b → a.round ≡ b.round
    same_call a b x = let y : a ≡ b = cc in ap (λ (z : RoundCall). z.round) y

    go : (o : Option RoundCall) → o ≡ Some c → RoundPlace w s i o → c.round ≡ current_round w
    go o x (nowhere u) = cc
    go o x (sent d at u) = let a = u.parts_sent in let b = no_parts_sent w i quiet in absurd (omega arith)
    go o x (gathered d at u) = sym (same_call d c x) ∙ at
    go o x (told d at u) = let a = u.results_sent in let b = no_results_sent w i quiet in absurd (omega arith)

-- what the account has of it
append_same : {A : Type 0} (xs ys zs : List A) → (xs ++ ys) ++ zs ≡ xs ++ (ys ++ zs)
append_same [] ys zs = refl
append_same (x ∷ xs) ys zs = ap (λ l. x ∷ l) (append_same xs ys zs)

append_none : {A : Type 0} (xs : List A) → xs ≡ xs ++ []
append_none [] = refl
append_none (x ∷ xs) = ap (λ l. x ∷ l) (append_none xs)

came_one : (s : State) (e : Entry) (i : ℕ) → (after s e).came i ≡ s.came i ++ (if e.node == i then part_in e.what else [])
came_one s e i = go e.what
  where
    none : s.came i ≡ s.came i ++ (if e.node == i then [] else [])
    none = cond_both (e.node == i) [] [] (λ l. s.came i ≡ s.came i ++ l) (λ w. append_none (s.came i)) (λ w. append_none (s.came i))

    go : (x : What) → (change s e.node x).came i ≡ s.came i ++ (if e.node == i then part_in x else [])
    go (what.Come p) = at (e.node == i) refl
      where
        at : (b : Bool) → (e.node == i) ≡ b → (if b then s.came e.node ++ p ∷ [] else s.came i) ≡ s.came i ++ (if b then p ∷ [] else [])
        at true w = ap (λ k. s.came k ++ p ∷ []) (eqb-true e.node i w)
        at false w = append_none (s.came i)
    go _ = none

pub came_is : (s : State) (es : List Entry) (i : ℕ) → (after_all s es).came i ≡ s.came i ++ parts_brought i es
came_is s [] i = append_none (s.came i)
came_is s (e ∷ es) i =
    came_is (after s e) es i ∙ ap (λ l. l ++ parts_brought i es) (came_one s e i) ∙ append_same (s.came i) _ (parts_brought i es) ∙ ap (λ l. s.came i ++ l) (cond_both (e.node == i) (part_in e.what) [] (λ l. l ++ parts_brought i es ≡ (if e.node == i then part_in e.what ++ parts_brought i es else parts_brought i es))
    (λ w. sym (cond-true (e.node == i) _ _ w)) (λ w. sym (cond-false (e.node == i) _ _ w)))

told_one : (s : State) (e : Entry) (i : ℕ) → (after s e).told i ≡ s.told i + (if (e.node == i) && is_result e.what then 1 else 0)
told_one s e i = go e.what
  where
    none : s.told i ≡ s.told i + (if (e.node == i) && false then 1 else 0)
    none = by (e.node == i)
      where
        by : (b : Bool) → s.told i ≡ s.told i + (if b && false then 1 else 0)
        by true = omega arith
        by false = omega arith

    one : (b : Bool) → (e.node == i) ≡ b → (if b then s.told e.node + 1 else s.told i) ≡ s.told i + (if b && true then 1 else 0)
    one true w = ap (λ k. s.told k + 1) (eqb-true e.node i w)
    one false w = omega arith

    refused : (why : Refusal) (b : Bool) → (e.node == i) ≡ b → (if b then told_after why (s.told e.node) else s.told i) ≡ s.told i + (if b && is_mixed why then 1 else 0)
    refused refusal.Mixed b w = one b w
    refused _ true w = ap s.told (eqb-true e.node i w) ∙ (omega arith)
    refused _ false w = omega arith

    go : (x : What) → (change s e.node x).told i ≡ s.told i + (if (e.node == i) && is_result x then 1 else 0)
    go (what.Came round fold) = one (e.node == i) refl
    go (what.Refused kind place why) = refused why (e.node == i) refl
    go _ = none

pub told_is_counted : (s : State) (es : List Entry) (i : ℕ) → (after_all s es).told i ≡ s.told i + results_told i es
told_is_counted s [] i = omega arith
told_is_counted s (e ∷ es) i =
    let rest = told_is_counted (after s e) es i in
    let here = told_one s e i in
    let two : (if (e.node == i) && is_result e.what then 1 else 0) + results_told i es ≡ results_told i (e ∷ es) = cond_both ((e.node == i) && is_result e.what) 1 0 (λ x. x + results_told i es ≡ (if (e.node == i) && is_result e.what then 1 + results_told i es else results_told i es)) (λ w. sym (cond-true _ _ _ w)) (λ w. let z = cond-false ((e.node == i) && is_result e.what) (1 + results_told i es) (results_told i es) w in omega arith) in omega arith

-- of a run
pub run_story : (count capacity : ℕ) (run : List Event) → IsRunFrom (new_world count capacity) run → RunStory (world_of count capacity run) (machine_of count capacity run)
run_story count capacity run r = story_of count capacity run r

pub entries_fit : InEveryRun RoundEntriesFit
entries_fit count capacity run r e h =
    let x = run_story count capacity run r in
    let w = world_of count capacity run in (story_turn w (machine_of count capacity run) x.gathering (step e w) (turn_of w e h) x.known x.story).1

pub rounds_stand : (w : World) (s : State) → RunStory w s → RoundsStand w s
rounds_stand w s h = record { stands = stands w s h; place = place w s h; gathered = part_there w s h; missing = missing w s h; absent = absent_when_quiet w s h }

pub told_from_start : (count i : ℕ) (es : List Entry) → (after_all (start count) es).told i ≡ results_told i es
told_from_start count i es = let h = told_is_counted (start count) es i in omega arith

pub rounds_in_runs : InEveryRun RoundsStand
rounds_in_runs count capacity run r = rounds_stand (world_of count capacity run) (machine_of count capacity run) (run_story count capacity run r)

pub mail_in_runs : InEveryRun RoundMailFitsAll
mail_in_runs count capacity run r = mail_fits_all (world_of count capacity run) (machine_of count capacity run) (run_story count capacity run r)

pub came_from_start : (count i : ℕ) (es : List Entry) → (after_all (start count) es).came i ≡ parts_brought i es
came_from_start count i es = came_is (start count) es i
