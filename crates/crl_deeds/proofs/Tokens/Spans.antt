-- Tokens of a wait that has nothing to do with copies and rounds: their deeds are balanced.
use Rattle.std.proofs.Common.{◌≡◌, ℕ, zero, suc, ◌+◌, ◌-◌, ◌==◌, None, Some, Option, List, [], ◌∷◌, map, length, if◌then◌else◌, refl, ap, sym, ◌∙◌, arith}
use Rattle.std.proofs.lemmas.Bool.{cond_both}
use Rattle.crl_model.specs.declared.name.Name.{Name}
use Rattle.crl_model.specs.declared.collective.Fold.{Fold}
use Rattle.crl_model.specs.declared.call.Call.{Call}
use Rattle.crl_model.specs.declared.entry.What.{What}
use Rattle.crl_model.specs.declared.message.Message.{Message}
use Rattle.crl_model.specs.declared.message.Kind.{Kind}
use Rattle.crl_model.specs.declared.message.Kind.TheVariants as kind
use Rattle.crl_pieces.specs.Pieces.{count, cut, Cell, fresh, left_from}
use Rattle.crl_protocol.specs.Parcels.{grant_with, return_with, load_of, with_load, piece_of, pieces_of, Key, key_in}
use Rattle.crl_protocol.specs.Mail.{Mail, Ask, Grant, Recall, Yield, Return, Release, Letter}
use Rattle.crl_protocol.specs.Home.{Home, HomeStep}
use Rattle.crl_protocol.specs.Remote.{Remote, RemoteStep, remote_flushes}
use Rattle.crl_protocol.specs.Node.{Node, Activity, Free, Outcome, letter_messages, mail_messages, message_to}
use Rattle.crl_protocol.specs.Calls.{results_from}
use Rattle.crl_model.specs.FoldOf.{fold_of}
use Rattle.crl_deeds.specs.Deeds.{FreeIf, Cause, parting, Copies, Rounds, Notes, Serves, CallsBack}
use Rattle.crl_deeds.specs.NodeFacts.{Leaves, Fits}
use Rattle.crl_deeds.specs.Tokens.{NoMail, Span, came, weigh, weighs, waited, Balance}
use Rattle.crl_deeds.specs.Turns.{Came}
use Rattle.crl_deeds.proofs.Fits.Waits.{own_waits, grant_waits}
use Rattle.crl_deeds.proofs.Tokens.Sums.{none_to}
use Rattle.crl_deeds.specs.Deeds as deed

-- Only messages without bytes have a weight, and each of them is one piece.
pub parts_none : (f : Message → ℕ) (m : Message) → ((part : List ℕ) → f (record m { kind = with_load part m.kind }) ≡ 0) → (n k : ℕ) (cells : List Cell) → weighs f (left_from (piece_of m n) k cells) ≡ 0
parts_none f m h n k [] = refl
parts_none f m h n k (c ∷ cells) =
    let rest = parts_none f m h n (k + 1) cells in
    let e = h c.part in cond_both c.came _ _ (λ ps. weighs f ps ≡ 0) (λ w. rest) (λ w. omega arith)

pieces_none : (f : Message → ℕ) (m : Message) → ((part : List ℕ) → f (record m { kind = with_load part m.kind }) ≡ 0) → weighs f (pieces_of m) ≡ 0
pieces_none f m h = parts_none f m h (count (length (load_of m.kind))) 0 (fresh (cut (load_of m.kind)))

pub whole_of : (f : Message → ℕ) → NoMail f → (from to : ℕ) (k : Kind)
    → weighs f (pieces_of (record { sender = from; addressee = to; kind = k })) ≡ f (record { sender = from; addressee = to; kind = k })
unfolding cut
whole_of f h from to (kind.Grant name version x) =
    pieces_none f (record { sender = from; addressee = to; kind = kind.Grant name version x }) (λ part. h from to name (Grant version (grant_with part x))) ∙ sym (h from to name (Grant version x))
whole_of f h from to (kind.Return name version x) =
    pieces_none f (record { sender = from; addressee = to; kind = kind.Return name version x }) (λ part. h from to name (Return version (return_with part x))) ∙ sym (h from to name (Return version x))
whole_of f h from to (kind.Release name version x) =
    pieces_none f (record { sender = from; addressee = to; kind = kind.Release name version x }) (λ part. h from to name (Release version part)) ∙ sym (h from to name (Release version x))
whole_of f h from to _ = omega arith

pub part_same : (f : Message → ℕ) → NoMail f → (from to : ℕ) (part : List ℕ) (k : Kind)
    → f (record { sender = from; addressee = to; kind = with_load part k }) ≡ f (record { sender = from; addressee = to; kind = k })
part_same f h from to part (kind.Grant name version x) = h from to name (Grant version (grant_with part x)) ∙ sym (h from to name (Grant version x))
part_same f h from to part (kind.Return name version x) = h from to name (Return version (return_with part x)) ∙ sym (h from to name (Return version x))
part_same f h from to part (kind.Release name version x) = h from to name (Release version part) ∙ sym (h from to name (Release version x))
part_same f h from to part _ = refl

pub keyed_none : (f : Message → ℕ) → NoMail f → (from to : ℕ) (k : Kind) (key : Key) → key_in from k ≡ Some key → f (record { sender = from; addressee = to; kind = k }) ≡ 0
keyed_none f h from to (kind.Grant name version x) key e = h from to name (Grant version x)
keyed_none f h from to (kind.Return name version x) key e = h from to name (Return version x)
keyed_none f h from to (kind.Release name version x) key e = h from to name (Release version x)
keyed_none f h from to _ key e = cc

pub no_wait : (waits : Activity → ℕ) (i : ℕ) (n : Node) → waits n.activity ≡ 0 → waited waits i n ≡ 0
no_wait waits i n e = ap (λ x. if n.me == i then x else 0) e ∙ none_to (n.me == i) 0

pub no_wait_as : (waits : Activity → ℕ) (i : ℕ) (n : Node) (a : Activity) → n.activity ≡ a → waits a ≡ 0 → waited waits i n ≡ 0
no_wait_as waits i n a e z = no_wait waits i n (ap waits e ∙ z)

letters_none : (f : Message → ℕ) (g : Node → ℕ) (waits : Activity → ℕ) → Span f g waits → (n : Node) (name : Name) (posts : List Letter) → weigh f (letter_messages n name posts) ≡ 0
letters_none f g waits s n name [] = refl
letters_none f g waits s n name (l ∷ posts) = let h = letters_none f g waits s n name posts in let k = s.mail n.me l.to name l.mail in omega arith

pub mails_none : (f : Message → ℕ) (g : Node → ℕ) (waits : Activity → ℕ) → Span f g waits → (n : Node) (name : Name) (posts : List Mail) → weigh f (mail_messages n name posts) ≡ 0
mails_none f g waits s n name [] = refl
mails_none f g waits s n name (m ∷ posts) = let h = mails_none f g waits s n name posts in let k = s.mail n.me name.home name m in omega arith

pub parting_none : (f : Message → ℕ) (g : Node → ℕ) (waits : Activity → ℕ) → Span f g waits → (n : Node) (name : Name) (o : Option Remote) → weigh f (parting n name o) ≡ 0
parting_none f g waits s n name None = refl
parting_none f g waits s n name (Some x) = mails_none f g waits s n name (remote_flushes x).posts

results_none : (f : Message → ℕ) (g : Node → ℕ) (waits : Activity → ℕ) → Span f g waits → (n : Node) (m k round : ℕ) (fold : Fold) → weigh f (results_from n m k round fold) ≡ 0
results_none f g waits s n m zero round fold = refl
results_none f g waits s n m (suc k) round fold = let h = results_none f g waits s n (m + 1) k round fold in let e = s.results n.me m round fold in omega arith

pub purges_none : (f : Message → ℕ) (g : Node → ℕ) (waits : Activity → ℕ) → Span f g waits → (n : Node) (name : Name) (ms : List ℕ) → weigh f (map (λ m. message_to n m (kind.Purge name)) ms) ≡ 0
purges_none f g waits s n name [] = refl
purges_none f g waits s n name (m ∷ ms) = let h = purges_none f g waits s n name ms in let e = s.purges n.me m name in omega arith

serves_none : (f : Message → ℕ) (g : Node → ℕ) (waits : Activity → ℕ) → Span f g waits → (n : Node) (h : Home) (to from : ℕ) (k : Kind) (name : Name) (x : HomeStep) → Serves n h from k name x → f (record { sender = from; addressee = to; kind = k }) ≡ 0
serves_none f g waits s n h to from k name x (deed.ask_comes y q write have e) = s.mail from to q (Ask write have)
serves_none f g waits s n h to from k name x (deed.copy_returns y q version bytes e) = s.mail from to q (Return version bytes)
serves_none f g waits s n h to from k name x (deed.copy_lowers y q version bytes e) = s.mail from to q (Release version bytes)

back_none : (f : Message → ℕ) (g : Node → ℕ) (waits : Activity → ℕ) → Span f g waits → (r : Remote) (to from : ℕ) (k : Kind) (name : Name) (x : RemoteStep) → CallsBack r k name x → f (record { sender = from; addressee = to; kind = k }) ≡ 0
back_none f g waits s r to from k name x (deed.wholly q version) = s.mail from to q (Recall version)
back_none f g waits s r to from k name x (deed.to_share q version) = s.mail from to q (Yield version)

-- nothing sent and the activity as before, or nothing waited for on either side
pub even : (s x y v : ℕ) → s ≡ 0 → x ≡ y → (s + x) + v ≡ (0 + y) + v
even s x y v e f = omega arith

pub shut : (s x y c v u : ℕ) → s ≡ 0 → x ≡ y → c ≡ 0 → v ≡ 0 → u ≡ 0 → (s + x) + v ≡ (c + y) + u
shut s x y c v u e f g h k = omega arith

pub span_copies : (f : Message → ℕ) (g : Node → ℕ) (waits : Activity → ℕ) → Span f g waits → (i j : ℕ) (n : Node) (cause : Cause) (o : Outcome) → Copies n cause o → Fits j n → Came Leaves n.me cause → FreeIf cause n
    → Balance f g waits i n (came f n.me cause) o
span_copies f g waits s i j n cause o (deed.home_opens c write name h is e v x) t w free = let a = letters_none f g waits s n name _ in let b = s.kept n o.node refl refl in even _ _ _ _ a b
span_copies f g waits s i j n cause o (deed.home_waits c write name h is e v x) t w free =
    shut _ _ _ _ _ _ (letters_none f g waits s n name _) (s.kept n o.node refl refl) refl (no_wait_as waits i n Free free s.free) (no_wait waits i o.node (s.section name))
span_copies f g waits s i j n cause o (deed.side_opens c write name r is e k v x) t w free = even _ _ _ _ (mails_none f g waits s n name _) (s.kept n o.node refl refl)
span_copies f g waits s i j n cause o (deed.side_waits c write name r is e k v x) t w free =
    shut _ _ _ _ _ _ (mails_none f g waits s n name _) (s.kept n o.node refl refl) refl (no_wait_as waits i n Free free s.free) (no_wait waits i o.node (s.section name))
span_copies f g waits s i j n cause o (deed.home_ends c name y ends lowers h is e) t w free = even _ _ _ _ (letters_none f g waits s n name _) (s.kept n o.node refl refl)
span_copies f g waits s i j n cause o (deed.side_ends c name y ends lowers r is e k) t w free = even _ _ _ _ (mails_none f g waits s n name _) (s.kept n o.node refl refl)
span_copies f g waits s i j n cause o (deed.side_flushes name r other e closed) t w free = even _ _ _ _ (mails_none f g waits s n name _) (s.kept n o.node refl refl)
span_copies f g waits s i j n cause o (deed.home_serves from k name h y is e x) t w free =
    let a = letters_none f g waits s n name y.posts in let b = s.kept n o.node refl refl in let c = serves_none f g waits s n h n.me from k name y is in omega arith
span_copies f g waits s i j n cause o (deed.home_serves_own from k name h y is e x) t w free =
    let own = own_waits j n h from k name y is e x w t in
    shut _ _ _ _ _ _ (letters_none f g waits s n name y.posts) (s.kept n o.node refl refl) (serves_none f g waits s n h n.me from k name y is) (no_wait_as waits i n _ own (s.section name)) (no_wait waits i o.node (s.ready _))
span_copies f g waits s i j n cause o (deed.grant_comes from name version what r e y) t w free =
    shut _ _ _ _ _ _ refl (s.kept n o.node refl refl) (s.mail from n.me name (Grant version what)) (no_wait_as waits i n _ (grant_waits j n name what r e y t) (s.section name)) (no_wait waits i o.node (s.ready _))
span_copies f g waits s i j n cause o (deed.side_called from k name r y is e) t w free =
    let a = mails_none f g waits s n name y.posts in let b = s.kept n o.node refl refl in let c = back_none f g waits s r n.me from k name y is in omega arith

pub span_rounds : (f : Message → ℕ) (g : Node → ℕ) (waits : Activity → ℕ) → Span f g waits → (i : ℕ) (n : Node) (cause : Cause) (o : Outcome) → Rounds n cause o → FreeIf cause n → Balance f g waits i n (came f n.me cause) o
span_rounds f g waits s i n cause o (deed.comes_away part other fits) free =
    let z = s.comes n.me 0 (n.rounds + 1) part in
    shut _ _ _ _ _ _ (omega arith) (s.kept n o.node refl refl) refl (no_wait_as waits i n Free free s.free) (no_wait waits i o.node (s.round _ _))
span_rounds f g waits s i n cause o (deed.comes_home part first fits all) free =
    shut _ _ _ _ _ _ refl (s.kept n o.node refl refl) refl (no_wait_as waits i n Free free s.free) (no_wait waits i o.node (s.round _ _))
span_rounds f g waits s i n cause o (deed.comes_last part parts first fits all) free = even _ _ _ _ (results_none f g waits s n 1 (n.nodes - 1) _ _) (s.kept n o.node refl refl)
span_rounds f g waits s i n cause o (deed.part_comes from round part a all) free = let z = s.comes from n.me round part in let b = s.kept n o.node refl refl in omega arith
span_rounds f g waits s i n cause o (deed.part_last from round part parts mine k e a all) free =
    shut _ _ _ _ _ _ (results_none f g waits s n 1 (n.nodes - 1) _ _) (s.kept n o.node refl refl) (s.comes from n.me round part) (no_wait_as waits i n _ e (s.round mine k)) (no_wait waits i o.node (s.ready _))
span_rounds f g waits s i n cause o (deed.part_last_idle from round part parts idle a all) free =
    let y = results_none f g waits s n 1 (n.nodes - 1) n.gathering.round (fold_of parts) in let z = s.comes from n.me round part in let b = s.kept n o.node refl refl in omega arith
span_rounds f g waits s i n cause o (deed.result_comes from round fold k e) free =
    shut _ _ _ _ _ _ refl (s.kept n o.node refl refl) (s.results from n.me round fold) (no_wait_as waits i n _ e (s.round round k)) (no_wait waits i o.node (s.ready _))

pub span_notes : (f : Message → ℕ) (g : Node → ℕ) (waits : Activity → ℕ) → Span f g waits → (i : ℕ) (n : Node) (c : Call) (w : What) (m : Node) → Notes n c w m → (0 + g m) + waited waits i n ≡ (0 + g n) + waited waits i m
span_notes f g waits s i n c w m (deed.ends_nowhere x name y ends lowers is e) = let b = s.kept n m refl refl in omega arith
span_notes f g waits s i n c w m _ = refl
