-- Tokens: messages and entries of tables that stand for what a node waits for. They are counted in the boxes, so a
-- message that has a weight is one piece.
use Rattle.std.specs.Prelude.{◌≡◌, ◌⊎◌, ℕ, zero, suc, ◌+◌, ◌≤◌, ◌<◌, ◌==◌, if◌then◌else◌, List, [], ◌∷◌}
use Rattle.std.specs.declared.option.Option.TheVariants.{Some}
use Rattle.crl_model.specs.declared.name.Name.{Name}
use Rattle.crl_model.specs.declared.collective.Part.{Part}
use Rattle.crl_model.specs.declared.collective.Fold.{Fold}
use Rattle.crl_model.specs.declared.call.Call.{Call}
use Rattle.crl_model.specs.declared.call.CallKind.{CallKind}
use Rattle.crl_model.specs.declared.message.Message.{Message}
use Rattle.crl_model.specs.declared.message.Kind.{Kind}
use Rattle.crl_model.specs.declared.message.Kind.TheVariants as kind
use Rattle.crl_protocol.specs.Mail.{Mail, kind_about}
use Rattle.crl_protocol.specs.Parcels.{Piece, with_load, pieces_of, Key, key_of, PartsGathered}
use Rattle.crl_protocol.specs.Places.{Took}
use Rattle.crl_model.specs.declared.stage.Stage.{Stage}
use Rattle.crl_model.specs.declared.stage.Stage.TheVariants as stage
use Rattle.crl_model.specs.Names.{name_eq}
use Rattle.crl_protocol.specs.Node.{Node, Recorded, Note, Answer, Activity, Free, Waiting, Ready, ForSection, ForMap, ForDelete, ForRound, Outcome, lifetime_of}
use Rattle.crl_protocol.specs.World.{World, pieces_in_boxes}
use Rattle.crl_deeds.specs.Deeds.{FreeIf, Cause, Calls, Hears, Lives, Idles, Deed}
use Rattle.crl_deeds.specs.NodeFacts.{Fits}
use Rattle.crl_deeds.specs.Counts.{PlainKind, NoneYet}

-- A sum over nodes.
abbrev pub sum_from : (Node → ℕ) → ℕ → ℕ → (ℕ → Node) → ℕ
sum_from load i zero nodes = 0
sum_from load i (suc k) nodes = load (nodes i) + sum_from load (i + 1) k nodes

abbrev pub sum : (Node → ℕ) → World → ℕ
sum load w = sum_from load 0 w.count w.nodes

-- Weights of messages.
abbrev pub weigh : {A : Type 0} → (A → ℕ) → List A → ℕ
weigh f [] = 0
weigh f (m ∷ ms) = f m + weigh f ms

-- those of pieces
abbrev pub on_piece : (Message → ℕ) → Piece → ℕ
on_piece f p = f p.message

abbrev pub weighs : (Message → ℕ) → List Piece → ℕ
weighs f ps = weigh (on_piece f) ps

abbrev pub Whole : (Message → ℕ) → Type 0
Whole f = (m : Message) → weighs f (pieces_of m) ≡ f m

-- The tokens of what node i waits for: messages weigh f, tables g, and an activity wants so many.
abbrev pub load : (Message → ℕ) → (Node → ℕ) → Node → ℕ
load f g n = weighs f n.inbox + weighs f n.outbox + g n

abbrev pub waited : (Activity → ℕ) → ℕ → Node → ℕ
waited waits i n = if n.me == i then waits n.activity else 0

pub record Tokens (f : Message → ℕ) (g : Node → ℕ) (waits : Activity → ℕ) : Type 0 where
  pub whole : Whole f
  pub blind : (n : Node) (inbox outbox : List Piece) (parcels : PartsGathered) (records : List Recorded) (notes : List Note) (posted : ℕ) → g (record n { inbox = inbox; outbox = outbox; parcels = parcels; records = records; notes = notes; posted = posted }) ≡ g n
  pub answered : (n : Node) → g (record n { activity = Free }) ≡ g n
  pub free : waits Free ≡ 0
  pub ready : (answer : Answer) → waits (Ready answer) ≡ 0

-- an outcome, with what came: tokens sent and kept are those that came and were kept, by what it waits for
abbrev pub Balance : (Message → ℕ) → (Node → ℕ) → (Activity → ℕ) → ℕ → Node → ℕ → Outcome → Type 0
Balance f g waits i n came o = (weigh f o.posts + g o.node) + waited waits i n ≡ (came + g n) + waited waits i o.node

pub record Balanced (f : Message → ℕ) (g : Node → ℕ) (waits : Activity → ℕ) (i : ℕ) (w : World) : Type 0 where
  pub me : (j : ℕ) → (w.nodes j).me ≡ j
  pub calls : (j : ℕ) (c : Call) (o : Outcome) → j < w.count → (w.nodes j).activity ≡ Free → Deed (w.nodes j) (Calls c) o → Balance f g waits i (w.nodes j) 0 o
  pub hears : (j : ℕ) (p : Piece) (rest : List Piece) (parcels : PartsGathered) (part : List ℕ) (o : Outcome) → j < w.count → Took p (w.nodes j).inbox rest
      → Deed (record (w.nodes j) { inbox = rest; parcels = parcels }) (Hears p.message.sender (with_load part p.message.kind)) o
      → Balance f g waits i (record (w.nodes j) { inbox = rest; parcels = parcels }) (f p.message) o
  pub gathers : (p : Piece) (key : Key) → key_of p.message ≡ Some key → f p.message ≡ 0
  pub carriage : (j : ℕ) (p : Piece) (rest : List Piece) → j < w.count → Took p (w.nodes j).outbox rest → (f p.message ≡ 0) ⊎ (p.message.addressee < w.count)

-- what came, as it weighs
abbrev pub came : (Message → ℕ) → ℕ → Cause → ℕ
came f me (Calls c) = 0
came f me (Hears from k) = f (record { sender = from; addressee = me; kind = k })

abbrev pub NoMail : (Message → ℕ) → Type 0
NoMail f = (from to : ℕ) (name : Name) (m : Mail) → f (record { sender = from; addressee = to; kind = kind_about name m }) ≡ 0

pub record Span (f : Message → ℕ) (g : Node → ℕ) (waits : Activity → ℕ) : Type 0 where
  pub mail : NoMail f
  pub comes : (from to round : ℕ) (part : Part) → f (record { sender = from; addressee = to; kind = kind.Come round part }) ≡ 0
  pub results : (from to round : ℕ) (fold : Fold) → f (record { sender = from; addressee = to; kind = kind.Result round fold }) ≡ 0
  pub purges : (from to : ℕ) (name : Name) → f (record { sender = from; addressee = to; kind = kind.Purge name }) ≡ 0
  pub kept : (n m : Node) → m.me ≡ n.me → m.lifetimes ≡ n.lifetimes → g m ≡ g n
  pub section : (name : Name) → waits (Waiting (ForSection name)) ≡ 0
  pub round : (k : ℕ) (c : CallKind) → waits (Waiting (ForRound k c)) ≡ 0
  pub free : waits Free ≡ 0
  pub ready : (answer : Answer) → waits (Ready answer) ≡ 0

-- The tokens of one lifetime: of what node i waits for.
pub record Life (i : ℕ) (f : Message → ℕ) (g : Node → ℕ) (waits : Activity → ℕ) : Type 0 where
  pub tokens : Tokens f g waits
  pub span : Span f g waits
  pub lives : (j : ℕ) (n : Node) (cause : Cause) (o : Outcome) → Lives n cause o → Fits j n → NoneYet n → FreeIf cause n → Balance f g waits i n (came f n.me cause) o
  pub idle : (n : Node) (cause : Cause) (a : Activity) → Idles cause n → (n.me ≡ i → a ≡ n.activity) → came f n.me cause ≤ waits a → came f n.me cause ≡ 0
  pub near : (count from to : ℕ) (k : Kind) → i < count → PlainKind count from to k → (f (record { sender = from; addressee = to; kind = k }) ≡ 0) ⊎ (to < count)

-- What stands for a map that node i waits for: an ask of its own, or the answer to it.
abbrev pub of_name : Name → Name → ℕ
of_name name r = if name_eq name r then 1 else 0

abbrev pub map_token_kind : ℕ → Name → ℕ → ℕ → Kind → ℕ
map_token_kind i r from to (kind.InfoAsk name) = if from == i then of_name name r else 0
map_token_kind i r from to (kind.InfoIs name t) = if to == i then of_name name r else 0
map_token_kind i r from to _ = 0

abbrev pub map_token : ℕ → Name → Message → ℕ
map_token i r m = map_token_kind i r m.sender m.addressee m.kind

abbrev pub waits_map : Name → Activity → ℕ
waits_map r (Waiting (ForMap p purged)) = of_name p r
waits_map r _ = 0

-- What stands for a delete that node i waits for: an ask of its own, the answer to it, or the home that deletes for it.
abbrev pub delete_token_kind : ℕ → Name → ℕ → ℕ → Kind → ℕ
delete_token_kind i r from to (kind.DeleteAsk name) = if from == i then of_name name r else 0
delete_token_kind i r from to (kind.DeleteIs name t) = if to == i then of_name name r else 0
delete_token_kind i r from to _ = 0

abbrev pub delete_token : ℕ → Name → Message → ℕ
delete_token i r m = delete_token_kind i r m.sender m.addressee m.kind

abbrev pub waits_delete : Name → Activity → ℕ
waits_delete r (Waiting (ForDelete p)) = of_name p r
waits_delete r _ = 0

abbrev pub deletes_for_node : ℕ → Stage → ℕ
deletes_for_node i (stage.Going deleter) = if deleter == i then 1 else 0
deletes_for_node i _ = 0

abbrev pub deleting : ℕ → Name → Node → ℕ
deleting i r n = deletes_for_node i (lifetime_of n r).stage

-- Each node of so many waits for a map, and for a delete, just where one of these stands for it.
abbrev pub WaitsForOneMap : ℕ → World → Type 0
WaitsForOneMap count w = (i : ℕ) (r : Name) → i < count → weighs (map_token i r) (pieces_in_boxes w) ≡ waits_map r (w.nodes i).activity

abbrev pub WaitsForOneDelete : ℕ → World → Type 0
WaitsForOneDelete count w = (i : ℕ) (r : Name) → i < count → sum (load (delete_token i r) (deleting i r)) w ≡ waits_delete r (w.nodes i).activity
