-- What messages cost: the pieces that are sent, and what those under way may still make their addressee send.
use Rattle.crl_deeds.proofs.Laws.{weigh_append, parts_none}
use Rattle.crl_deeds.specs.Tokens.{on_piece, weigh, weighs}
use Rattle.std.proofs.Common.{◌≡◌, ℕ, zero, suc, ◌+◌, ◌-◌, ◌*◌, ◌≤◌, None, Some, List, [], ◌∷◌, ◌++◌, length, drop, refl, ap, ◌∙◌, arith}
use Rattle.crl_model.specs.declared.name.Name.{Name}
use Rattle.crl_model.specs.declared.message.Granted.{Granted}
use Rattle.crl_model.specs.declared.message.Granted.TheVariants.{Shared, Exclusive, Upgrade}
use Rattle.crl_model.specs.declared.message.Message.{Message}
use Rattle.crl_model.specs.declared.message.Kind.{Kind}
use Rattle.crl_model.specs.declared.message.Kind.TheVariants as kind
use Rattle.crl_pieces.specs.declared.TheConstants.{PIECE_LEN}
use Rattle.crl_pieces.specs.Pieces.{count, cut, cut_in, fresh, left_from}
use Rattle.crl_protocol.specs.Parcels.{load_of, with_load, piece_of, pieces_of, pieces_in, Key, key_in}
use Rattle.crl_protocol.specs.Mail.{Mail, Ask, Grant, Recall, Yield, Return, Release, Letter, kind_about}
use Rattle.crl_protocol.specs.Node.{Node, letter_messages, mail_messages, message_to}

-- An ask may make its home send the pieces of a grant, and call the copy back twice. P says how many pieces a region has.
abbrev pub token_kind : (Name → ℕ) → ℕ → Kind → ℕ
token_kind P nodes (kind.Ask name write have) = 2 + P name
token_kind P nodes (kind.InfoAsk name) = 1
token_kind P nodes (kind.DeleteAsk name) = 2 * nodes - 1
token_kind P nodes (kind.Purge name) = 1
token_kind P nodes (kind.Come round part) = 1
token_kind P nodes _ = 0

abbrev pub token : (Name → ℕ) → ℕ → Message → ℕ
token P nodes m = token_kind P nodes m.kind

-- what a list of messages costs, sent and under way
abbrev pub cost : (Name → ℕ) → ℕ → List Message → ℕ
cost P nodes ms = length (pieces_in ms) + weigh (token P nodes) ms

length_append : {A : Type 0} (xs ys : List A) → length (xs ++ ys) ≡ length xs + length ys
length_append [] ys = omega arith
length_append (x ∷ xs) ys = let h = length_append xs ys in omega arith

pub cost_append : (P : Name → ℕ) (nodes : ℕ) (ms ns : List Message) → cost P nodes (ms ++ ns) ≡ cost P nodes ms + cost P nodes ns
cost_append P nodes [] ns = omega arith
cost_append P nodes (m ∷ ms) ns =
    let rest = cost_append P nodes ms ns in
    let a = length_append (pieces_of m) (pieces_in (ms ++ ns)) in
    let b = length_append (pieces_of m) (pieces_in ms) in omega arith

pub cost_more : (P : Name → ℕ) (nodes : ℕ) (m : Message) (ms : List Message) → cost P nodes (m ∷ ms) ≡ (length (pieces_of m) + token P nodes m) + cost P nodes ms
cost_more P nodes m ms = let a = length_append (pieces_of m) (pieces_in ms) in omega arith

-- pieces
fresh_length : {A : Type 0} (f : ℕ → List ℕ → A) (k n : ℕ) (bytes : List ℕ) → length (left_from f k (fresh (cut_in n bytes))) ≡ n
fresh_length f k zero bytes = refl
fresh_length f k (suc n) bytes = let h = fresh_length f (k + 1) n (drop PIECE_LEN bytes) in omega arith

pub pieces_length : (m : Message) → length (pieces_of m) ≡ count (length (load_of m.kind))
unfolding cut
pieces_length m = fresh_length (piece_of m (count (length (load_of m.kind)))) 0 (count (length (load_of m.kind))) (load_of m.kind)

pub one_piece : (m : Message) → load_of m.kind ≡ [] → length (pieces_of m) ≡ 1
one_piece m e = pieces_length m ∙ ap (λ (bs : List ℕ). count (length bs)) e

pub count_some : (size : ℕ) → 1 ≤ count size
count_some size = omega arith

-- mail
abbrev pub grant_pieces : Granted → ℕ
grant_pieces (Shared bytes) = count (length bytes)
grant_pieces (Exclusive bytes) = count (length bytes)
grant_pieces Upgrade = 1

abbrev pub mail_cost : ℕ → Mail → ℕ
mail_cost p (Ask write have) = 3 + p
mail_cost p (Grant version granted) = grant_pieces granted
mail_cost p (Recall version) = 1
mail_cost p (Yield version) = 1
mail_cost p (Return version None) = 1
mail_cost p (Return version (Some bytes)) = count (length bytes)
mail_cost p (Release version bytes) = count (length bytes)

mail_cost_is : (P : Name → ℕ) (nodes from to : ℕ) (name : Name) (m : Mail) → length (pieces_of (record { sender = from; addressee = to; kind = kind_about name m })) + token_kind P nodes (kind_about name m) ≡ mail_cost (P name) m
mail_cost_is P nodes from to name (Ask write have) = let h = pieces_length (record { sender = from; addressee = to; kind = kind.Ask name write have }) in omega arith
mail_cost_is P nodes from to name (Grant version (Shared bytes)) = let h = pieces_length (record { sender = from; addressee = to; kind = kind.Grant name version (Shared bytes) }) in omega arith
mail_cost_is P nodes from to name (Grant version (Exclusive bytes)) = let h = pieces_length (record { sender = from; addressee = to; kind = kind.Grant name version (Exclusive bytes) }) in omega arith
mail_cost_is P nodes from to name (Grant version Upgrade) = let h = pieces_length (record { sender = from; addressee = to; kind = kind.Grant name version Upgrade }) in omega arith
mail_cost_is P nodes from to name (Recall version) = let h = pieces_length (record { sender = from; addressee = to; kind = kind.Recall name version }) in omega arith
mail_cost_is P nodes from to name (Yield version) = let h = pieces_length (record { sender = from; addressee = to; kind = kind.Yield name version }) in omega arith
mail_cost_is P nodes from to name (Return version None) = let h = pieces_length (record { sender = from; addressee = to; kind = kind.Return name version None }) in omega arith
mail_cost_is P nodes from to name (Return version (Some bytes)) = let h = pieces_length (record { sender = from; addressee = to; kind = kind.Return name version (Some bytes) }) in omega arith
mail_cost_is P nodes from to name (Release version bytes) = let h = pieces_length (record { sender = from; addressee = to; kind = kind.Release name version bytes }) in omega arith

abbrev pub letters_cost : ℕ → List Letter → ℕ
letters_cost p [] = 0
letters_cost p (l ∷ posts) = mail_cost p l.mail + letters_cost p posts

abbrev pub mails_cost : ℕ → List Mail → ℕ
mails_cost p [] = 0
mails_cost p (m ∷ posts) = mail_cost p m + mails_cost p posts

pub cost_letters : (P : Name → ℕ) (nodes : ℕ) (n : Node) (name : Name) (posts : List Letter) → cost P nodes (letter_messages n name posts) ≡ letters_cost (P name) posts
cost_letters P nodes n name [] = refl
cost_letters P nodes n name (l ∷ posts) =
    let rest = cost_letters P nodes n name posts in
    let here = mail_cost_is P nodes n.me l.to name l.mail in
    let more = cost_more P nodes (message_to n l.to (kind_about name l.mail)) (letter_messages n name posts) in omega arith

pub cost_mails : (P : Name → ℕ) (nodes : ℕ) (n : Node) (name : Name) (posts : List Mail) → cost P nodes (mail_messages n name posts) ≡ mails_cost (P name) posts
cost_mails P nodes n name [] = refl
cost_mails P nodes n name (m ∷ posts) =
    let rest = cost_mails P nodes n name posts in
    let here = mail_cost_is P nodes n.me name.home name m in
    let more = cost_more P nodes (message_to n name.home (kind_about name m)) (mail_messages n name posts) in omega arith

-- a message without bytes, and nothing after it
pub cost_one : (P : Name → ℕ) (nodes : ℕ) (m : Message) → load_of m.kind ≡ [] → cost P nodes (m ∷ []) ≡ 1 + token P nodes m
cost_one P nodes m e = let a = cost_more P nodes m [] in let b = one_piece m e in omega arith

-- only messages of one piece have a token
pieces_none : (f : Message → ℕ) (m : Message) → ((part : List ℕ) → f (record m { kind = with_load part m.kind }) ≡ 0) → weighs f (pieces_of m) ≡ 0
pieces_none f m h = parts_none f m h (count (length (load_of m.kind))) 0 (fresh (cut (load_of m.kind)))

pub whole : (P : Name → ℕ) (nodes from to : ℕ) (k : Kind) → weighs (token P nodes) (pieces_of (record { sender = from; addressee = to; kind = k })) ≡ token_kind P nodes k
unfolding cut
whole P nodes from to (kind.Grant name version x) = pieces_none (token P nodes) (record { sender = from; addressee = to; kind = kind.Grant name version x }) (λ part. refl)
whole P nodes from to (kind.Return name version x) = pieces_none (token P nodes) (record { sender = from; addressee = to; kind = kind.Return name version x }) (λ part. refl)
whole P nodes from to (kind.Release name version x) = pieces_none (token P nodes) (record { sender = from; addressee = to; kind = kind.Release name version x }) (λ part. refl)
whole P nodes from to _ = omega arith

pub whole_all : (P : Name → ℕ) (nodes : ℕ) (ms : List Message) → weighs (token P nodes) (pieces_in ms) ≡ weigh (token P nodes) ms
whole_all P nodes [] = refl
whole_all P nodes (m ∷ ms) =
    let rest = whole_all P nodes ms in
    let one = whole P nodes m.sender m.addressee m.kind in
    let both = weigh_append (on_piece (token P nodes)) (pieces_of m) (pieces_in ms) in omega arith

pub token_part : (P : Name → ℕ) (nodes : ℕ) (part : List ℕ) (k : Kind) → token_kind P nodes (with_load part k) ≡ token_kind P nodes k
token_part P nodes part (kind.Grant name version x) = refl
token_part P nodes part (kind.Return name version x) = refl
token_part P nodes part (kind.Release name version x) = refl
token_part P nodes part _ = refl

pub token_keyed : (P : Name → ℕ) (nodes from : ℕ) (k : Kind) (key : Key) → key_in from k ≡ Some key → token_kind P nodes k ≡ 0
token_keyed P nodes from (kind.Grant name version x) key e = refl
token_keyed P nodes from (kind.Return name version x) key e = refl
token_keyed P nodes from (kind.Release name version x) key e = refl
token_keyed P nodes from _ key e = cc
