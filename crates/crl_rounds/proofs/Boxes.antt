-- The messages of rounds in the boxes of all nodes.
use Rattle.std.proofs.Common.{◌≡◌, ℕ, zero, suc, ◌+◌, ◌≤◌, ◌<◌, ◌==◌, false, Some, List, [], ◌∷◌, length, if◌then◌else◌, refl, ap, sym, ◌∙◌, subst, arith}
use Rattle.std.specs.List.{AllByRecursion}
use Rattle.std.proofs.lemmas.Bool.{cond_both, cond-true, eqb-true, eq-eqb}
use Rattle.crl_model.specs.declared.collective.Part.{Part}
use Rattle.crl_model.specs.declared.collective.Fold.{Fold}
use Rattle.crl_model.specs.declared.event.Event.{Event}
use Rattle.crl_model.specs.declared.message.Message.{Message}
use Rattle.crl_model.specs.declared.message.Kind.{Kind}
use Rattle.crl_model.specs.declared.message.Kind.TheVariants as kind
use Rattle.crl_model.specs.Names.{at_node}
use Rattle.crl_model.specs.FoldOf.{fold_of}
use Rattle.crl_machine.specs.SingleMachine.{State, part_at, parts_of}
use Rattle.crl_pieces.specs.Pieces.{count}
use Rattle.crl_protocol.specs.Parcels.{Piece, with_load, pieces_in}
use Rattle.crl_protocol.specs.Places.{Took}
use Rattle.crl_protocol.specs.Node.{Node, Outcome}
use Rattle.crl_protocol.specs.World.{World, note, put_in, commits, steps_node, carries}
use Rattle.crl_deeds.proofs.Laws.{all_append, all_took, each_at, sum_with, sum_part, pieces_held}
use Rattle.crl_deeds.specs.Tokens.{weighs, sum_from, sum, load}
use Rattle.crl_deeds.specs.Turns.{Frame, Parts, HeldIn, HeldOut}
use Rattle.crl_rounds.proofs.Still.{IsOther, IsOtherKind}
use Rattle.crl_rounds.proofs.States.{Grows, parts_of_grow}
use Rattle.crl_rounds.proofs.Counts.{of_round, token_kind, token, one_round}

-- A part that goes to node 0 is that with which its sender came to the current round; a result is that of the round
-- before, to which all came.
pub record PartKept (count current : ℕ) (s : State) (from to round : ℕ) (part : Part) : Type 0 where
  pub sender : from < count
  pub to_first : to ≡ 0
  pub current_one : round ≡ current
  pub came : round ≤ length (s.came from)
  pub brought : part ≡ part_at s from round

pub record ResultKept (count current : ℕ) (s : State) (to round : ℕ) (fold : Fold) : Type 0 where
  pub addressee : to < count
  pub some : 1 ≤ round
  pub before : round + 1 ≡ current
  pub all_came : (m : ℕ) → m < count → round ≤ length (s.came m)
  pub gives : fold ≡ fold_of (parts_of s round)

abbrev pub KindKept : ℕ → ℕ → State → ℕ → ℕ → Kind → Type 0
KindKept count current s from to (kind.Come round part) = PartKept count current s from to round part
KindKept count current s from to (kind.Result round fold) = ResultKept count current s to round fold
KindKept count current s from to _ = Unit {0}

abbrev pub Kept : ℕ → ℕ → State → Message → Type 0
Kept count current s m = KindKept count current s m.sender m.addressee m.kind

kind_parts : (count current : ℕ) (s : State) (from to : ℕ) (part : List ℕ) (k : Kind) → KindKept count current s from to k → KindKept count current s from to (with_load part k)
kind_parts count current s from to part (kind.Grant name version granted) h = tt
kind_parts count current s from to part (kind.Return name version bytes) h = tt
kind_parts count current s from to part (kind.Release name version bytes) h = tt
kind_parts count current s from to part _ h = h

pub kept_parts : (count current : ℕ) (s : State) → Parts (Kept count current s)
kept_parts count current s m part h = kind_parts count current s m.sender m.addressee part m.kind h

kind_grows : (count current : ℕ) (s t : State) (from to : ℕ) (k : Kind) → Grows s t → s.nodes ≡ count → 1 ≤ current → KindKept count current s from to k → KindKept count current t from to k
kind_grows count current s t from to (kind.Come round part) g few some h =
    let c = h.came in
    let l = g.longer from in
    let e = h.current_one in
    record { sender = h.sender; to_first = h.to_first; current_one = h.current_one; came = omega arith; brought = h.brought ∙ sym (g.part from round (omega arith) h.came) }
kind_grows count current s t from to (kind.Result round fold) g few some h =
    record { addressee = h.addressee; some = h.some; before = h.before; all_came = λ m small. (let a = h.all_came m small in let l = g.longer m in omega arith); gives = h.gives ∙ sym (ap fold_of (parts_of_grow s t count round g few h.some h.all_came)) }
kind_grows count current s t from to _ g few some h = tt

pub kept_grows : (count current : ℕ) (s t : State) → Grows s t → s.nodes ≡ count → 1 ≤ current → (m : Message) → Kept count current s m → Kept count current t m
kept_grows count current s t g few some m h = kind_grows count current s t m.sender m.addressee m.kind g few some h

kind_other : (count current : ℕ) (s : State) (from to : ℕ) (k : Kind) → IsOtherKind k → KindKept count current s from to k
kind_other count current s from to (kind.Come round part) h = absurd h
kind_other count current s from to (kind.Result round fold) h = absurd h
kind_other count current s from to _ h = tt

pub kept_other : (count current : ℕ) (s : State) (m : Message) → IsOther m → Kept count current s m
kept_other count current s m h = kind_other count current s m.sender m.addressee m.kind h

pub all_map : {A : Type 0} (P Q : A → Type 0) → ((x : A) → P x → Q x) → (xs : List A) → AllByRecursion P xs → AllByRecursion Q xs
all_map P Q f [] h = tt
all_map P Q f (x ∷ xs) h = (f x h.0, all_map P Q f xs h.1)

-- the pieces of messages
-- The boxes.
pub record BoxAt (Q : Message → Type 0) (i : ℕ) (n : Node) : Type 0 where
  pub inbox : AllByRecursion (HeldIn Q i) n.inbox
  pub outbox : AllByRecursion (HeldOut Q) n.outbox

abbrev pub Boxed : (Message → Type 0) → World → Type 0
Boxed Q w = (i : ℕ) → i < w.count → BoxAt Q i (w.nodes i)

pub box_map : (P Q : Message → Type 0) → ((m : Message) → P m → Q m) → (i : ℕ) (n : Node) → BoxAt P i n → BoxAt Q i n
box_map P Q f i n h = record { inbox = all_map (HeldIn P i) (HeldIn Q i) (λ p h. (f p.message h.0, h.1)) n.inbox h.inbox; outbox = all_map (HeldOut P) (HeldOut Q) (λ p h. f p.message h) n.outbox h.outbox }

pub boxed_outcome : (Q : Message → Type 0) → Parts Q → (w : World) (i : ℕ) (before : Node) (e : Event) (o : Outcome) → Frame before o.node → ((j : ℕ) → j < w.count → (i == j) ≡ false → BoxAt Q j (w.nodes j)) → BoxAt Q i before → AllByRecursion Q o.posts
    → Boxed Q (steps_node i e o w).world
boxed_outcome Q parts w i before e o frame others here posts j small =
    cond_both (i == j) (commits w.events e o) (w.nodes j) (λ m. BoxAt Q j m)
    (λ x. subst (λ k. BoxAt Q k (commits w.events e o)) (eqb-true i j x) (record {
      inbox = subst (AllByRecursion (HeldIn Q i)) (sym frame.inbox) here.inbox;
      outbox = all_append (HeldOut Q) o.node.outbox (pieces_in o.posts) (subst (AllByRecursion (HeldOut Q)) (sym frame.outbox) here.outbox) (pieces_held Q parts o.posts posts);
    })) (λ x. others j small x)

pub boxed_carriage : (Q : Message → Type 0) (w : World) (i : ℕ) (e : Event) (p : Piece) (rest : List Piece) → i < w.count → Took p (w.nodes i).outbox rest → Boxed Q w → Boxed Q (carries i e (Some (record { taken = p; rest = rest })) w).world
boxed_carriage Q w i e p rest few took h =
    let parts = all_took (HeldOut Q) took (h i few).outbox in
    let after : Node = note w.events e (record (w.nodes i) { outbox = rest }) in
    let sent : (j : ℕ) → j < w.count → BoxAt Q j (at_node w.nodes i after j) = each_at (λ j m. j < w.count → BoxAt Q j m) w.nodes i after h (λ small. record { inbox = (h i few).inbox; outbox = parts.1 }) in
    each_at (λ j m. j < w.count → BoxAt Q j m) (at_node w.nodes i after) p.message.addressee (put_in p (at_node w.nodes i after p.message.addressee)) sent (λ small. record {
      inbox = all_append (HeldIn Q p.message.addressee) _ (p ∷ []) (sent p.message.addressee small).inbox ((parts.0, refl), tt);
      outbox = (sent p.message.addressee small).outbox;
    })

-- Where nothing stands under way for any node, the boxes hold no message of a round.
zero_other : (count current : ℕ) (s : State) (from to : ℕ) (k : Kind) → KindKept count current s from to k → ((i j : ℕ) → i < count → token_kind i j from to k ≡ 0) → IsOtherKind k
zero_other count current s from to (kind.Come round part) h empty =
    let z = empty from round h.sender in
    let a : (if from == from then of_round round round else 0) ≡ of_round round round = cond-true (from == from) _ _ (eq-eqb from from refl) in
    let b = one_round round in absurd (omega arith)
zero_other count current s from to (kind.Result round fold) h empty =
    let z = empty to round h.addressee in
    let a : (if to == to then of_round round round else 0) ≡ of_round round round = cond-true (to == to) _ _ (eq-eqb to to refl) in
    let b = one_round round in absurd (omega arith)
zero_other count current s from to _ h empty = tt

zero_in : (count current : ℕ) (s : State) (h : ℕ) (ps : List Piece) → AllByRecursion (HeldIn (Kept count current s) h) ps → ((i j : ℕ) → i < count → weighs (token i j) ps ≡ 0) → AllByRecursion (HeldIn IsOther h) ps
zero_in count current s h [] all empty = tt
zero_in count current s h (p ∷ ps) all empty =
    ((zero_other count current s p.message.sender p.message.addressee p.message.kind all.0.0 (λ i j small. let z = empty i j small in omega arith), all.0.1), zero_in count current s h ps all.1 (λ i j small. let z = empty i j small in omega arith))

zero_out : (count current : ℕ) (s : State) (ps : List Piece) → AllByRecursion (HeldOut (Kept count current s)) ps → ((i j : ℕ) → i < count → weighs (token i j) ps ≡ 0) → AllByRecursion (HeldOut IsOther) ps
zero_out count current s [] all empty = tt
zero_out count current s (p ∷ ps) all empty =
    (zero_other count current s p.message.sender p.message.addressee p.message.kind all.0 (λ i j small. let z = empty i j small in omega arith), zero_out count current s ps all.1 (λ i j small. let z = empty i j small in omega arith))

pub zero_box : (count current : ℕ) (s : State) (h : ℕ) (n : Node) → BoxAt (Kept count current s) h n → ((i j : ℕ) → i < count → weighs (token i j) n.inbox + weighs (token i j) n.outbox ≡ 0) → BoxAt IsOther h n
zero_box count current s h n box empty = record {
  inbox = zero_in count current s h n.inbox box.inbox (λ i j small. let z = empty i j small in omega arith);
  outbox = zero_out count current s n.outbox box.outbox (λ i j small. let z = empty i j small in omega arith);
}

-- what stands in boxes, and what node 0 has gathered
abbrev pub none : Node → ℕ
none n = 0

pub split_from : (f : Message → ℕ) (g : Node → ℕ) (i k : ℕ) (nodes : ℕ → Node) → sum_from (load f g) i k nodes ≡ sum_from (load f none) i k nodes + sum_from g i k nodes
split_from f g i zero nodes = refl
split_from f g i (suc k) nodes = let h = split_from f g (i + 1) k nodes in omega arith

-- where all that stands for a wait is at one node, nothing is in another box, nor left in its own
pub spent : (f : Message → ℕ) (g : Node → ℕ) (w : World) (h : ℕ) (before : Node) (came : ℕ) → h < w.count → load f g (w.nodes h) ≡ came + load f g before → sum (load f g) w ≤ came + g before
    → (i : ℕ) → i < w.count → weighs f (at_node w.nodes h before i).inbox + weighs f (at_node w.nodes h before i).outbox ≡ 0
spent f g w h before came few same most i small =
    let left : World = record w { nodes = at_node w.nodes h before } in
    let change = sum_with (load f g) w.count h w.nodes before few in
    let split = split_from f g 0 w.count (at_node w.nodes h before) in
    let own = sum_part g left h few in
    let it : g (at_node w.nodes h before h) ≡ g before = ap g (cond-true (h == h) _ _ (eq-eqb h h refl)) in
    let part = sum_part (load f none) left i small in omega arith
