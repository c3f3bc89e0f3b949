-- Messages about who has a region, as they are counted in the boxes, and what a turn does to their number.
use Rattle.std.proofs.Common.{◌≡◌, ℕ, zero, suc, ◌+◌, ◌-◌, ◌≤◌, ◌<◌, ◌==◌, None, Some, Option, List, [], ◌∷◌, if◌then◌else◌, refl, ap, arith}
use Rattle.std.proofs.lemmas.Bool.{cond-false, ne_eqb, cases_lt}
use Rattle.std.proofs.Math.Logic.{◌⊎◌, inl, inr}
use Rattle.crl_model.specs.declared.name.Name.{Name}
use Rattle.crl_model.specs.declared.collective.Fold.{Fold}
use Rattle.crl_model.specs.declared.collective.Part.{Part}
use Rattle.crl_model.specs.declared.event.Event.{Event}
use Rattle.crl_model.specs.declared.message.Told.{Told}
use Rattle.crl_model.specs.declared.message.Told.TheVariants as told
use Rattle.crl_model.specs.declared.message.Message.{Message}
use Rattle.crl_model.specs.declared.message.Kind.{Kind}
use Rattle.crl_model.specs.declared.message.Kind.TheVariants as kind
use Rattle.crl_model.specs.Names.{name_eq, at_node}
use Rattle.crl_protocol.specs.Parcels.{Piece, pieces_in}
use Rattle.crl_protocol.specs.Places.{Took}
use Rattle.crl_protocol.specs.Mail.{Mail, Ask, Grant, Recall, Yield, Return, Release, Letter}
use Rattle.crl_protocol.specs.Remote.{Remote, RemoteStep, remote_flushes}
use Rattle.crl_protocol.specs.Home.{Home, HomeStep}
use Rattle.crl_protocol.specs.Node.{Node, Outcome, letter_messages, mail_messages}
use Rattle.crl_protocol.specs.Calls.{results_from}
use Rattle.crl_protocol.specs.World.{World, steps_node, carries, commits, note, put_in}
use Rattle.crl_deeds.specs.Deeds.{Cause, parting, Copies, Rounds, home_opens, home_waits, side_opens, side_waits, home_ends, side_ends, side_flushes, home_serves, home_serves_own, grant_comes, side_called, Serves, ask_comes, copy_returns, copy_lowers, CallsBack, wholly, to_share, comes_away, comes_home, comes_last, part_comes, part_last, part_last_idle, result_comes}
use Rattle.crl_deeds.specs.Counts.{PlainKind}
use Rattle.crl_deeds.specs.Tokens.{weigh, weighs, on_piece, sum, sum_from, load, NoMail, came}
use Rattle.crl_deeds.specs.Turns.{Frame}
use Rattle.crl_deeds.proofs.Laws.{weigh_append, weigh_took, weighs_posted, sum_with, whole_of}

abbrev pub if_named : Name → Name → ℕ → ℕ
if_named name r x = if name_eq name r then x else 0

abbrev pub told_weight : (ℕ → ℕ) → Told → ℕ
told_weight f (told.Live size) = f size
told_weight f told.Unknown = 0
told_weight f told.Deleted = 0

-- An InfoIs to node m that the region r is there, weighed by its size; a Purge to m; a Purged from m.
abbrev pub live_kind : (ℕ → ℕ) → ℕ → Name → ℕ → ℕ → Kind → ℕ
live_kind f m r from to (kind.InfoIs name t) = if to == m then if_named name r (told_weight f t) else 0
live_kind f m r from to _ = 0

abbrev pub order_kind : ℕ → Name → ℕ → ℕ → Kind → ℕ
order_kind m r from to (kind.Purge name) = if to == m then if_named name r 1 else 0
order_kind m r from to _ = 0

abbrev pub answer_kind : ℕ → Name → ℕ → ℕ → Kind → ℕ
answer_kind m r from to (kind.Purged name) = if from == m then if_named name r 1 else 0
answer_kind m r from to _ = 0

abbrev pub live_weight : (ℕ → ℕ) → ℕ → Name → Message → ℕ
live_weight f m r x = live_kind f m r x.sender x.addressee x.kind

abbrev pub order_weight : ℕ → Name → Message → ℕ
order_weight m r x = order_kind m r x.sender x.addressee x.kind

abbrev pub answer_weight : ℕ → Name → Message → ℕ
answer_weight m r x = answer_kind m r x.sender x.addressee x.kind

-- Weights of messages that have nothing to do with copies and rounds, and go to nodes of the world.
pub record Talk (f : Message → ℕ) : Type 0 where
  pub mail : NoMail f
  pub comes : (from to round : ℕ) (part : Part) → f (record { sender = from; addressee = to; kind = kind.Come round part }) ≡ 0
  pub results : (from to round : ℕ) (fold : Fold) → f (record { sender = from; addressee = to; kind = kind.Result round fold }) ≡ 0
  pub near : (count from to : ℕ) (k : Kind) → PlainKind count from to k → (f (record { sender = from; addressee = to; kind = k }) ≡ 0) ⊎ (to < count)

live_mail : (f : ℕ → ℕ) (m : ℕ) (r : Name) → NoMail (live_weight f m r)
live_mail f m r from to name (Ask write have) = refl
live_mail f m r from to name _ = refl

live_near : (f : ℕ → ℕ) (m : ℕ) (r : Name) (count from to : ℕ) (k : Kind) → PlainKind count from to k → (live_kind f m r from to k ≡ 0) ⊎ (to < count)
live_near f m r count from to (kind.InfoIs name t) h = inr h
live_near f m r count from to _ h = inl refl

pub live_talk : (f : ℕ → ℕ) (m : ℕ) (r : Name) → Talk (live_weight f m r)
live_talk f m r = record { mail = live_mail f m r; comes = λ from to round part. refl; results = λ from to round fold. refl; near = live_near f m r }

order_mail : (m : ℕ) (r : Name) → NoMail (order_weight m r)
order_mail m r from to name (Ask write have) = refl
order_mail m r from to name _ = refl

order_near : (m : ℕ) (r : Name) (count from to : ℕ) (k : Kind) → PlainKind count from to k → (order_kind m r from to k ≡ 0) ⊎ (to < count)
order_near m r count from to (kind.Purge name) h = inr h.1
order_near m r count from to _ h = inl refl

pub order_talk : (m : ℕ) (r : Name) → Talk (order_weight m r)
order_talk m r = record { mail = order_mail m r; comes = λ from to round part. refl; results = λ from to round fold. refl; near = order_near m r }

answer_mail : (m : ℕ) (r : Name) → NoMail (answer_weight m r)
answer_mail m r from to name (Ask write have) = refl
answer_mail m r from to name _ = refl

answer_near : (m : ℕ) (r : Name) (count from to : ℕ) (k : Kind) → PlainKind count from to k → (answer_kind m r from to k ≡ 0) ⊎ (to < count)
answer_near m r count from to (kind.Purged name) h = inr h
answer_near m r count from to _ h = inl refl

pub answer_talk : (m : ℕ) (r : Name) → Talk (answer_weight m r)
answer_talk m r = record { mail = answer_mail m r; comes = λ from to round part. refl; results = λ from to round fold. refl; near = answer_near m r }

-- Deeds over copies and rounds say nothing of it.
pub letters_none : (f : Message → ℕ) → NoMail f → (n : Node) (name : Name) (posts : List Letter) → weigh f (letter_messages n name posts) ≡ 0
letters_none f t n name [] = refl
letters_none f t n name (l ∷ posts) = let h = letters_none f t n name posts in let k = t n.me l.to name l.mail in omega arith

pub mails_none : (f : Message → ℕ) → NoMail f → (n : Node) (name : Name) (posts : List Mail) → weigh f (mail_messages n name posts) ≡ 0
mails_none f t n name [] = refl
mails_none f t n name (m ∷ posts) = let h = mails_none f t n name posts in let k = t n.me name.home name m in omega arith

pub parting_none : (f : Message → ℕ) → NoMail f → (n : Node) (name : Name) (o : Option Remote) → weigh f (parting n name o) ≡ 0
parting_none f t n name None = refl
parting_none f t n name (Some x) = mails_none f t n name (remote_flushes x).posts

results_none : (f : Message → ℕ) → Talk f → (n : Node) (m k round : ℕ) (fold : Fold) → weigh f (results_from n m k round fold) ≡ 0
results_none f t n m zero round fold = refl
results_none f t n m (suc k) round fold = let h = results_none f t n (m + 1) k round fold in let e = t.results n.me m round fold in omega arith

serves_none : (f : Message → ℕ) → NoMail f → (n : Node) (h : Home) (to from : ℕ) (k : Kind) (name : Name) (x : HomeStep) → Serves n h from k name x → f (record { sender = from; addressee = to; kind = k }) ≡ 0
serves_none f t n h to from k name x (ask_comes y q write have e) = t from to q (Ask write have)
serves_none f t n h to from k name x (copy_returns y q version bytes e) = t from to q (Return version bytes)
serves_none f t n h to from k name x (copy_lowers y q version bytes e) = t from to q (Release version bytes)

back_none : (f : Message → ℕ) → NoMail f → (r : Remote) (to from : ℕ) (k : Kind) (name : Name) (x : RemoteStep) → CallsBack r k name x → f (record { sender = from; addressee = to; kind = k }) ≡ 0
back_none f t r to from k name x (wholly q version) = t from to q (Recall version)
back_none f t r to from k name x (to_share q version) = t from to q (Yield version)

pub copies_silent : (f : Message → ℕ) → NoMail f → (n : Node) (cause : Cause) (o : Outcome) → Copies n cause o → (weigh f o.posts ≡ 0) × (came f n.me cause ≡ 0)
copies_silent f t n cause o (home_opens c write name h is e v x) = (letters_none f t n name _, refl)
copies_silent f t n cause o (home_waits c write name h is e v x) = (letters_none f t n name _, refl)
copies_silent f t n cause o (side_opens c write name r is e k v x) = (mails_none f t n name _, refl)
copies_silent f t n cause o (side_waits c write name r is e k v x) = (mails_none f t n name _, refl)
copies_silent f t n cause o (home_ends c name y ends lowers h is e) = (letters_none f t n name _, refl)
copies_silent f t n cause o (side_ends c name y ends lowers r is e k) = (mails_none f t n name _, refl)
copies_silent f t n cause o (side_flushes name r other e closed) = (mails_none f t n name _, refl)
copies_silent f t n cause o (home_serves from k name h y is e x) = (letters_none f t n name _, serves_none f t n h n.me from k name y is)
copies_silent f t n cause o (home_serves_own from k name h y is e x) = (letters_none f t n name _, serves_none f t n h n.me from k name y is)
copies_silent f t n cause o (grant_comes from name version what r e y) = (refl, t from n.me name (Grant version what))
copies_silent f t n cause o (side_called from k name r y is e) = (mails_none f t n name _, back_none f t r n.me from k name y is)

pub rounds_silent : (f : Message → ℕ) → Talk f → (n : Node) (cause : Cause) (o : Outcome) → Rounds n cause o → (weigh f o.posts ≡ 0) × (came f n.me cause ≡ 0)
rounds_silent f t n cause o (comes_away part other fits) = let z = t.comes n.me 0 (n.rounds + 1) part in (omega arith, refl)
rounds_silent f t n cause o (comes_home part first fits all) = (refl, refl)
rounds_silent f t n cause o (comes_last part parts first fits all) = (results_none f t n 1 (n.nodes - 1) _ _, refl)
rounds_silent f t n cause o (part_comes from round part a all) = (refl, t.comes from n.me round part)
rounds_silent f t n cause o (part_last from round part parts mine k e a all) = (results_none f t n 1 (n.nodes - 1) _ _, t.comes from n.me round part)
rounds_silent f t n cause o (part_last_idle from round part parts idle a all) = (results_none f t n 1 (n.nodes - 1) _ _, t.comes from n.me round part)
rounds_silent f t n cause o (result_comes from round fold k e) = (refl, t.results from n.me round fold)

-- What is under way, by weight, and what a turn does to it.
abbrev pub nothing : Node → ℕ
nothing n = 0

abbrev pub under : (Message → ℕ) → World → ℕ
under f w = sum (load f nothing) w

pub under_step : (f : Message → ℕ) → Talk f → (w : World) (j : ℕ) (before : Node) (e : Event) (c : ℕ) (o : Outcome) → j < w.count → Frame before o.node → load f nothing (w.nodes j) ≡ c + load f nothing before
    → under f (steps_node j e o w).world + c ≡ under f w + weigh f o.posts
under_step f t w j before e c o few frame boxes =
    let changes = sum_with (load f nothing) w.count j w.nodes (commits w.events e o) few in
    let sent = weigh_append (on_piece f) o.node.outbox (pieces_in o.posts) in
    let posts = weighs_posted f (λ m. whole_of f t.mail m.sender m.addressee m.kind) o.posts in
    let inbox = ap (weighs f) frame.inbox in
    let outbox = ap (weighs f) frame.outbox in omega arith

past_from : (g : Node → ℕ) (i k j : ℕ) (nodes : ℕ → Node) (n : Node) → i + k ≤ j → sum_from g i k (at_node nodes j n) ≡ sum_from g i k nodes
past_from g i zero j nodes n h = refl
past_from g i (suc k) j nodes n h =
    let t = past_from g (i + 1) k j nodes n (omega arith) in
    let e = ap g (cond-false (j == i) n (nodes i) (ne_eqb j i (λ w. omega arith))) in omega arith

pub under_carried : (f : Message → ℕ) (w : World) (i : ℕ) (e : Event) (p : Piece) (rest : List Piece) → i < w.count → Took p (w.nodes i).outbox rest → ((f p.message ≡ 0) ⊎ (p.message.addressee < w.count))
    → under f (carries i e (Some (record { taken = p; rest = rest })) w).world ≡ under f w
under_carried f w i e p rest few took near =
    let took_out = weigh_took (on_piece f) took in
    let one = sum_with (load f nothing) w.count i w.nodes after few in
    go (cases_lt p.message.addressee w.count) near (omega arith)
  where
    after : Node
    after = note w.events e (record (w.nodes i) { outbox = rest })

    sent : ℕ → Node
    sent = at_node w.nodes i after

    go : (p.message.addressee < w.count) ⊎ (w.count ≤ p.message.addressee) → (f p.message ≡ 0) ⊎ (p.message.addressee < w.count) → sum_from (load f nothing) 0 w.count sent + f p.message ≡ under f w
        → under f (carries i e (Some (record { taken = p; rest = rest })) w).world ≡ under f w
    go (inl l) k one =
        let n = sent p.message.addressee in
        let two = sum_with (load f nothing) w.count p.message.addressee sent (put_in p n) l in
        let more = weigh_append (on_piece f) n.inbox (p ∷ []) in omega arith
    go (inr l) (inl none) one = let two = past_from (load f nothing) 0 w.count p.message.addressee sent (put_in p (sent p.message.addressee)) (omega arith) in omega arith
    go (inr l) (inr k) one = absurd (omega arith)
