-- Sums over the boxes of all nodes, as an event changes them; and the messages that stand for what a node waits for, each
-- kind by itself.
use Rattle.std.proofs.Common.{◌≡◌, ℕ, zero, suc, ◌+◌, ◌≤◌, ◌<◌, ◌==◌, Bool, true, false, Some, List, [], ◌∷◌, if◌then◌else◌, refl, ap, ◌∙◌, arith}
use Rattle.std.proofs.lemmas.Bool.{cond_both, eqb-true, eqb-false, eq-eqb, cases_lt}
use Rattle.std.proofs.Math.Logic.{◌⊎◌, inl, inr}
use Rattle.crl_model.specs.declared.name.Name.{Name}
use Rattle.crl_model.specs.declared.event.Event.{Event}
use Rattle.crl_model.specs.declared.message.Told.{Told}
use Rattle.crl_model.specs.declared.message.Told.TheVariants as told
use Rattle.crl_model.specs.declared.message.DeleteTold.{DeleteTold}
use Rattle.crl_model.specs.declared.message.DeleteTold.TheVariants as delete_told
use Rattle.crl_model.specs.declared.message.Message.{Message}
use Rattle.crl_model.specs.declared.message.Kind.{Kind}
use Rattle.crl_model.specs.declared.message.Kind.TheVariants as kind
use Rattle.crl_model.specs.Names.{at_node}
use Rattle.crl_protocol.specs.Mail.{Ask}
use Rattle.crl_protocol.specs.Parcels.{Piece, pieces_in, PartsGathered}
use Rattle.crl_protocol.specs.Places.{Took}
use Rattle.crl_protocol.specs.Node.{Node, Recorded, Note, Outcome}
use Rattle.crl_protocol.specs.World.{World, note, put_in, commits, steps_node, carries}
use Rattle.crl_deeds.specs.Counts.{PlainKind}
use Rattle.crl_deeds.specs.Tokens.{sum_from, sum, weigh, on_piece, weighs, Whole, load, NoMail, of_name, map_token, map_token_kind, delete_token, delete_token_kind}
use Rattle.crl_deeds.specs.Turns.{Frame}
use Rattle.crl_deeds.proofs.Laws.{sum_with, sum_part, weigh_append, weigh_took, weighs_posted, whole_of}

-- no entry of a table has a weight
abbrev pub nothing : Node → ℕ
nothing n = 0

-- what tables weigh doesn't look at boxes
abbrev pub BlindLoad : (Node → ℕ) → Type 0
BlindLoad g = (n : Node) (inbox outbox : List Piece) (parcels : PartsGathered) (records : List Recorded) (notes : List Note) (posted : ℕ) → g (record n { inbox = inbox; outbox = outbox; parcels = parcels; records = records; notes = notes; posted = posted }) ≡ g n

-- the world without a piece that a node takes out of its inbox
abbrev pub removed : World → ℕ → List Piece → PartsGathered → World
removed w j rest parcels = record w { nodes = at_node w.nodes j (record (w.nodes j) { inbox = rest; parcels = parcels }) }

pub sum_rest : (f : Message → ℕ) (g : Node → ℕ) → BlindLoad g → (w : World) (j : ℕ) (p : Piece) (rest : List Piece) (parcels : PartsGathered) → j < w.count → Took p (w.nodes j).inbox rest
    → sum (load f g) w ≡ f p.message + sum (load f g) (removed w j rest parcels)
sum_rest f g blind w j p rest parcels few took =
    let n = w.nodes j in
    let changes = sum_with (load f g) w.count j w.nodes (record n { inbox = rest; parcels = parcels }) few in
    let out = weigh_took (on_piece f) took in
    let kept = blind n rest n.outbox parcels n.records n.notes n.posted in omega arith

le_from : (a b : Node → ℕ) → ((n : Node) → a n ≤ b n) → (i k : ℕ) (nodes : ℕ → Node) → sum_from a i k nodes ≤ sum_from b i k nodes
le_from a b h i zero nodes = omega arith
le_from a b h i (suc k) nodes = let t = le_from a b h (i + 1) k nodes in let x = h (nodes i) in omega arith

gap_from : (a b : Node → ℕ) → ((n : Node) → a n ≤ b n) → (i k j : ℕ) (nodes : ℕ → Node) → i ≤ j → j < i + k → sum_from a i k nodes + b (nodes j) ≤ sum_from b i k nodes + a (nodes j)
gap_from a b h i zero j nodes l m = absurd (omega arith)
gap_from a b h i (suc k) j nodes l m = go (j == i) refl (λ w. gap_from a b h (i + 1) k j nodes w (omega arith))
  where
    go : (c : Bool) → (j == i) ≡ c → (i + 1 ≤ j → sum_from a (i + 1) k nodes + b (nodes j) ≤ sum_from b (i + 1) k nodes + a (nodes j)) → sum_from a i (suc k) nodes + b (nodes j) ≤ sum_from b i (suc k) nodes + a (nodes j)
    go true e r =
        let x : a (nodes j) ≡ a (nodes i) = ap (λ z. a (nodes z)) (eqb-true j i e) in
        let y : b (nodes j) ≡ b (nodes i) = ap (λ z. b (nodes z)) (eqb-true j i e) in
        let t = le_from a b h (i + 1) k nodes in omega arith
    go false e r = let ne = eqb-false j i e in let t = r (grind arith) in let x = h (nodes i) in omega arith

weigh_le : (f g : Message → ℕ) → ((m : Message) → f m ≤ g m) → (ps : List Piece) → weighs f ps ≤ weighs g ps
weigh_le f g h [] = omega arith
weigh_le f g h (p ∷ ps) = let t = weigh_le f g h ps in let x = h p.message in omega arith

load_le : (f h : Message → ℕ) (g : Node → ℕ) → ((m : Message) → f m ≤ h m) → (n : Node) → load f nothing n ≤ load h g n
load_le f h g le n = let a = weigh_le f h le n.inbox in let b = weigh_le f h le n.outbox in omega arith

pub sum_le : (f h : Message → ℕ) (g : Node → ℕ) → ((m : Message) → f m ≤ h m) → (w : World) → sum (load f nothing) w ≤ sum (load h g) w
sum_le f h g le w = le_from (load f nothing) (load h g) (load_le f h g le) 0 w.count w.nodes

-- what a table weighs besides
pub sum_gap : (f h : Message → ℕ) (g : Node → ℕ) → ((m : Message) → f m ≤ h m) → (w : World) (j : ℕ) → j < w.count → sum (load f nothing) w + g (w.nodes j) ≤ sum (load h g) w
sum_gap f h g le w j few =
    let t = gap_from (load f nothing) (load h g) (load_le f h g le) 0 w.count j w.nodes (omega arith) (omega arith) in
    let n = w.nodes j in
    let a = weigh_le f h le n.inbox in
    let b = weigh_le f h le n.outbox in omega arith

pub table_le : (f : Message → ℕ) (g : Node → ℕ) (w : World) (j : ℕ) → j < w.count → g (w.nodes j) ≤ sum (load f g) w
table_le f g w j few = let t = sum_part (load f g) w j few in omega arith

-- A node's step: what came is gone, what is posted is there.
pub sum_stepped : (f : Message → ℕ) → Whole f → (w : World) (j : ℕ) (before : Node) (e : Event) (came : ℕ) (o : Outcome) → j < w.count → Frame before o.node → before.outbox ≡ (w.nodes j).outbox
    → came + weighs f before.inbox ≡ weighs f (w.nodes j).inbox → came + sum (load f nothing) (steps_node j e o w).world ≡ sum (load f nothing) w + weigh f o.posts
sum_stepped f whole w j before e came o few frame out gone =
    let changes = sum_with (load f nothing) w.count j w.nodes (commits w.events e o) few in
    let sent = weigh_append (on_piece f) o.node.outbox (pieces_in o.posts) in
    let posts = weighs_posted f whole o.posts in
    let inbox = ap (weighs f) frame.inbox in
    let outbox = ap (weighs f) (frame.outbox ∙ out) in omega arith

past_from : (a : Node → ℕ) (i k j : ℕ) (nodes : ℕ → Node) (n : Node) → i + k ≤ j → sum_from a i k (at_node nodes j n) ≡ sum_from a i k nodes
past_from a i zero j nodes n h = refl
past_from a i (suc k) j nodes n h =
    let t = past_from a (i + 1) k j nodes n (omega arith) in
    cond_both (j == i) _ _ (λ (x : Node). a x + sum_from a (i + 1) k (at_node nodes j n) ≡ a (nodes i) + sum_from a (i + 1) k nodes) (λ w. let same = eqb-true j i w in absurd (omega arith)) (λ w. omega arith)

pub sum_carried : (f : Message → ℕ) (w : World) (i : ℕ) (e : Event) (p : Piece) (rest : List Piece) → i < w.count → Took p (w.nodes i).outbox rest → ((f p.message ≡ 0) ⊎ (p.message.addressee < w.count))
    → sum (load f nothing) (carries i e (Some (record { taken = p; rest = rest })) w).world ≡ sum (load f nothing) w
sum_carried f w i e p rest few took near =
    let out = weigh_took (on_piece f) took in
    let one = sum_with (load f nothing) w.count i w.nodes after few in
    go (cases_lt p.message.addressee w.count) near (omega arith)
  where
    after : Node
    after = note w.events e (record (w.nodes i) { outbox = rest })

    sent : ℕ → Node
    sent = at_node w.nodes i after

    go : (p.message.addressee < w.count) ⊎ (w.count ≤ p.message.addressee) → (f p.message ≡ 0) ⊎ (p.message.addressee < w.count) → sum_from (load f nothing) 0 w.count sent + f p.message ≡ sum (load f nothing) w
        → sum (load f nothing) (carries i e (Some (record { taken = p; rest = rest })) w).world ≡ sum (load f nothing) w
    go (inl l) k one =
        let n = sent p.message.addressee in
        let two = sum_with (load f nothing) w.count p.message.addressee sent (put_in p n) l in
        let more = weigh_append (on_piece f) n.inbox (p ∷ []) in omega arith
    go (inr l) (inl none) one = let two = past_from (load f nothing) 0 w.count p.message.addressee sent (put_in p (sent p.message.addressee)) (omega arith) in omega arith
    go (inr l) (inr k) one = absurd (omega arith)

-- The messages about node n's map or delete of a region, each kind by itself.
pub data Token : Type 0 where
  MapAsk : Token
  MapIs : (t : Told) → Token
  DeleteAsk : Token
  DeleteIs : (d : DeleteTold) → Token

abbrev pub same_told : Told → Told → Bool
same_told (told.Live a) (told.Live b) = a == b
same_told told.Unknown told.Unknown = true
same_told told.Deleted told.Deleted = true
same_told _ _ = false

abbrev pub same_delete : DeleteTold → DeleteTold → Bool
same_delete delete_told.Done delete_told.Done = true
same_delete delete_told.Unknown delete_told.Unknown = true
same_delete delete_told.Deleted delete_told.Deleted = true
same_delete _ _ = false

pub told_is : (a b : Told) → same_told a b ≡ true → a ≡ b
told_is (told.Live a) (told.Live b) e = ap told.Live (eqb-true a b e)
told_is (told.Live a) told.Unknown e = cc
told_is (told.Live a) told.Deleted e = cc
told_is told.Unknown (told.Live b) e = cc
told_is told.Unknown told.Unknown e = refl
told_is told.Unknown told.Deleted e = cc
told_is told.Deleted (told.Live b) e = cc
told_is told.Deleted told.Unknown e = cc
told_is told.Deleted told.Deleted e = refl

pub told_self : (a : Told) → same_told a a ≡ true
told_self (told.Live a) = eq-eqb a a refl
told_self told.Unknown = refl
told_self told.Deleted = refl

pub delete_is : (a b : DeleteTold) → same_delete a b ≡ true → a ≡ b
delete_is delete_told.Done delete_told.Done e = refl
delete_is delete_told.Done delete_told.Unknown e = cc
delete_is delete_told.Done delete_told.Deleted e = cc
delete_is delete_told.Unknown delete_told.Done e = cc
delete_is delete_told.Unknown delete_told.Unknown e = refl
delete_is delete_told.Unknown delete_told.Deleted e = cc
delete_is delete_told.Deleted delete_told.Done e = cc
delete_is delete_told.Deleted delete_told.Unknown e = cc
delete_is delete_told.Deleted delete_told.Deleted e = refl

pub delete_self : (a : DeleteTold) → same_delete a a ≡ true
delete_self delete_told.Done = refl
delete_self delete_told.Unknown = refl
delete_self delete_told.Deleted = refl

abbrev pub token_of : Token → ℕ → Name → ℕ → ℕ → Kind → ℕ
token_of MapAsk n q from to (kind.InfoAsk name) = if from == n then of_name name q else 0
token_of (MapIs t) n q from to (kind.InfoIs name x) = if same_told t x then (if to == n then of_name name q else 0) else 0
token_of DeleteAsk n q from to (kind.DeleteAsk name) = if from == n then of_name name q else 0
token_of (DeleteIs d) n q from to (kind.DeleteIs name x) = if same_delete d x then (if to == n then of_name name q else 0) else 0
token_of _ n q from to _ = 0

abbrev pub token : Token → ℕ → Name → Message → ℕ
token k n q m = token_of k n q m.sender m.addressee m.kind

pub token_mail : (k : Token) (n : ℕ) (q : Name) → NoMail (token k n q)
token_mail MapAsk n q from to name (Ask write have) = refl
token_mail MapAsk n q from to name _ = refl
token_mail (MapIs t) n q from to name (Ask write have) = refl
token_mail (MapIs t) n q from to name _ = refl
token_mail DeleteAsk n q from to name (Ask write have) = refl
token_mail DeleteAsk n q from to name _ = refl
token_mail (DeleteIs d) n q from to name (Ask write have) = refl
token_mail (DeleteIs d) n q from to name _ = refl

pub token_whole : (k : Token) (n : ℕ) (q : Name) → Whole (token k n q)
token_whole k n q m = whole_of (token k n q) (token_mail k n q) m.sender m.addressee m.kind

-- a token under way goes to a node of the world
pub token_near : (k : Token) (n : ℕ) (q : Name) (count from to : ℕ) (x : Kind) → PlainKind count from to x → (token_of k n q from to x ≡ 0) ⊎ (to < count)
token_near k n q count from to (kind.InfoAsk name) h = inr h.1
token_near k n q count from to (kind.InfoIs name t) h = inr h
token_near k n q count from to (kind.DeleteAsk name) h = inr h
token_near k n q count from to (kind.DeleteIs name t) h = inr h
token_near MapAsk n q count from to _ h = inl refl
token_near (MapIs t) n q count from to _ h = inl refl
token_near DeleteAsk n q count from to _ h = inl refl
token_near (DeleteIs d) n q count from to _ h = inl refl

part_le : (b : Bool) (x : ℕ) → (if b then x else 0) ≤ x
part_le true x = omega arith
part_le false x = omega arith

-- each is one of those that a map, or a delete, has
pub ask_le_map : (n : ℕ) (q : Name) (m : Message) → token MapAsk n q m ≤ map_token n q m
ask_le_map n q m = go m.sender m.addressee m.kind
  where
    go : (from to : ℕ) (k : Kind) → token_of MapAsk n q from to k ≤ map_token_kind n q from to k
    go from to (kind.InfoAsk name) = omega arith
    go from to _ = omega arith

pub is_le_map : (t : Told) (n : ℕ) (q : Name) (m : Message) → token (MapIs t) n q m ≤ map_token n q m
is_le_map t n q m = go m.sender m.addressee m.kind
  where
    go : (from to : ℕ) (k : Kind) → token_of (MapIs t) n q from to k ≤ map_token_kind n q from to k
    go from to (kind.InfoIs name x) = part_le (same_told t x) (if to == n then of_name name q else 0)
    go from to _ = omega arith

pub ask_le_delete : (n : ℕ) (q : Name) (m : Message) → token DeleteAsk n q m ≤ delete_token n q m
ask_le_delete n q m = go m.sender m.addressee m.kind
  where
    go : (from to : ℕ) (k : Kind) → token_of DeleteAsk n q from to k ≤ delete_token_kind n q from to k
    go from to (kind.DeleteAsk name) = omega arith
    go from to _ = omega arith

pub is_le_delete : (d : DeleteTold) (n : ℕ) (q : Name) (m : Message) → token (DeleteIs d) n q m ≤ delete_token n q m
is_le_delete d n q m = go m.sender m.addressee m.kind
  where
    go : (from to : ℕ) (k : Kind) → token_of (DeleteIs d) n q from to k ≤ delete_token_kind n q from to k
    go from to (kind.DeleteIs name x) = part_le (same_delete d x) (if to == n then of_name name q else 0)
    go from to _ = omega arith
