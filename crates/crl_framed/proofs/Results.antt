-- In every run a part of a round goes to node 0, and its result comes from there.
use Rattle.std.proofs.Common.{◌≡◌, ℕ, zero, suc, ◌+◌, None, Some, Option, List, [], ◌∷◌, ◌++◌, map, refl, sym, ◌∙◌, subst}
use Rattle.std.specs.List.{AllByRecursion}
use Rattle.std.proofs.lemmas.Bool.{eqb-true}
use Rattle.crl_model.specs.declared.name.Name.{Name}
use Rattle.crl_model.specs.declared.collective.Fold.{Fold}
use Rattle.crl_model.specs.declared.event.Event.{Event}
use Rattle.crl_model.specs.declared.message.Message.{Message}
use Rattle.crl_model.specs.declared.message.Kind.{Kind}
use Rattle.crl_model.specs.declared.message.Kind.TheVariants as kind
use Rattle.crl_protocol.specs.Calls.{results_from}
use Rattle.crl_protocol.specs.Mail.{Mail, Letter, kind_about}
use Rattle.crl_protocol.specs.Mail as mail
use Rattle.crl_protocol.specs.Node.{Node, Outcome, message_to, letter_messages, mail_messages}
use Rattle.crl_protocol.specs.Parcels.{Piece, with_load}
use Rattle.crl_protocol.specs.Remote.{Remote, remote_flushes}
use Rattle.crl_protocol.specs.World.{new_world, world_of, boxes_from, pieces_in_boxes, IsRunFrom}
use Rattle.crl_deeds.specs.Deeds.{Cause, parting, Copies, Lives, Rounds, Deed}
use Rattle.crl_deeds.specs.Deeds as deed
use Rattle.crl_deeds.specs.Turns.{Came, Local, HeldIn, Held}
use Rattle.crl_deeds.proofs.Laws.{all_append, deed_frame, held_run}
use Rattle.crl_rounds.proofs.Laws.{all_map}

abbrev pub RoundEnds : ℕ → ℕ → Kind → Type 0
RoundEnds from to (kind.Come round part) = to ≡ 0
RoundEnds from to (kind.Result round fold) = from ≡ 0
RoundEnds from to _ = Unit {0}

abbrev pub HasRoundEnds : Message → Type 0
HasRoundEnds m = RoundEnds m.sender m.addressee m.kind

abbrev All : List Message → Type 0
All ms = AllByRecursion HasRoundEnds ms

mail_ends : (from to : ℕ) (name : Name) (m : Mail) → RoundEnds from to (kind_about name m)
mail_ends from to name (mail.Ask write have) = tt
mail_ends from to name (mail.Grant version granted) = tt
mail_ends from to name (mail.Recall version) = tt
mail_ends from to name (mail.Yield version) = tt
mail_ends from to name (mail.Return version bytes) = tt
mail_ends from to name (mail.Release version bytes) = tt

mapped_ends : {A : Type 0} (f : A → Message) (xs : List A) → ((x : A) → HasRoundEnds (f x)) → All (map f xs)
mapped_ends f [] h = tt
mapped_ends f (x ∷ xs) h = (h x, mapped_ends f xs h)

letters_ends : (n : Node) (name : Name) (posts : List Letter) → All (letter_messages n name posts)
letters_ends n name posts = mapped_ends (λ (l : Letter). message_to n l.to (kind_about name l.mail)) posts (λ l. mail_ends n.me l.to name l.mail)

mails_ends : (n : Node) (name : Name) (posts : List Mail) → All (mail_messages n name posts)
mails_ends n name posts = mapped_ends (λ (m : Mail). message_to n name.home (kind_about name m)) posts (λ m. mail_ends n.me name.home name m)

purges_ends : (n : Node) (name : Name) (ms : List ℕ) → All (map (λ m. message_to n m (kind.Purge name)) ms)
purges_ends n name ms = mapped_ends (λ m. message_to n m (kind.Purge name)) ms (λ m. tt)

parting_ends : (n : Node) (name : Name) (o : Option Remote) → All (parting n name o)
parting_ends n name None = tt
parting_ends n name (Some r) = mails_ends n name (remote_flushes r).posts

results_ends : (n : Node) (m k round : ℕ) (fold : Fold) → n.me ≡ 0 → All (results_from n m k round fold)
results_ends n m zero round fold e = tt
results_ends n m (suc k) round fold e = (e, results_ends n (m + 1) k round fold e)

copies_ends : (n : Node) (cause : Cause) (o : Outcome) → Copies n cause o → All o.posts
copies_ends n cause o (deed.home_opens c write name h is e v x) = letters_ends n name _
copies_ends n cause o (deed.home_waits c write name h is e v x) = letters_ends n name _
copies_ends n cause o (deed.home_ends c name w ends lowers h is e) = letters_ends n name _
copies_ends n cause o (deed.home_serves from k name h s is e x) = letters_ends n name _
copies_ends n cause o (deed.home_serves_own from k name h s is e x) = letters_ends n name _
copies_ends n cause o (deed.grant_comes from name version g r e t) = tt
copies_ends n cause o (deed.side_opens c write name r is e f v x) = mails_ends n name _
copies_ends n cause o (deed.side_waits c write name r is e f v x) = mails_ends n name _
copies_ends n cause o (deed.side_ends c name w ends lowers r is e f) = mails_ends n name _
copies_ends n cause o (deed.side_flushes name r other e closed) = mails_ends n name _
copies_ends n cause o (deed.side_called from k name r s is e) = mails_ends n name _

lives_ends : (n : Node) (cause : Cause) (o : Outcome) → Lives n cause o → All o.posts
lives_ends n cause o (deed.map_asks name e other c real) = (tt, tt)
lives_ends n cause o (deed.map_told from name mine live) = (tt, tt)
lives_ends n cause o (deed.map_refused from name why t d u) = (tt, tt)
lives_ends n cause o (deed.unmaps_doomed name m e one other doomed closed) = parting_ends n name (n.remotes name)
lives_ends n cause o (deed.unmaps_evicting name m old e one other sound closed kept) = parting_ends n old (n.remotes old)
lives_ends n cause o (deed.deletes_own name m ms mine live e) = purges_ends n name _
lives_ends n cause o (deed.deletes_for from name m ms mine live e) = purges_ends n name _
lives_ends n cause o (deed.delete_asks name other real) = (tt, tt)
lives_ends n cause o (deed.deletes_alone_for from name mine live e) = (tt, tt)
lives_ends n cause o (deed.delete_refused from name why t d u) = (tt, tt)
lives_ends n cause o (deed.dooms from name m e) = (tt, tt)
lives_ends n cause o (deed.drops from name size e c) = all_append HasRoundEnds (parting n name (n.remotes name)) (message_to n from (kind.Purged name) ∷ []) (parting_ends n name (n.remotes name)) (tt, tt)
lives_ends n cause o (deed.warns from name e c) = (tt, tt)
lives_ends n cause o (deed.ends_for from name deleter mine e other missing last) = (tt, tt)
lives_ends n cause o _ = tt

rounds_ends : (n : Node) (cause : Cause) (o : Outcome) → Rounds n cause o → Came HasRoundEnds n.me cause → All o.posts
rounds_ends n cause o (deed.comes_away part other fits) came = (refl, tt)
rounds_ends n cause o (deed.comes_last part parts first fits full) came = results_ends n 1 _ _ _ (eqb-true n.me 0 first)
rounds_ends n cause o (deed.part_last from round part parts mine k e a full) came = results_ends n 1 _ _ _ came
rounds_ends n cause o (deed.part_last_idle from round part parts idle a full) came = results_ends n 1 _ _ _ came
rounds_ends n cause o _ came = tt

deed_ends : (n : Node) (cause : Cause) (o : Outcome) → Deed n cause o → Came HasRoundEnds n.me cause → All o.posts
deed_ends n cause o (deed.copies d) came = copies_ends n cause o d
deed_ends n cause o (deed.lives d) came = lives_ends n cause o d
deed_ends n cause o (deed.rounds d) came = rounds_ends n cause o d came
deed_ends n cause o _ came = tt

ends_part : (from to : ℕ) (k : Kind) (part : List ℕ) → RoundEnds from to k → RoundEnds from to (with_load part k)
ends_part from to (kind.Come round p) part h = h
ends_part from to (kind.Result round fold) part h = h
ends_part from to (kind.Grant name version granted) part h = tt
ends_part from to (kind.Return name version bytes) part h = tt
ends_part from to (kind.Release name version bytes) part h = tt
ends_part from to _ part h = h

abbrev HasNumber : ℕ → Node → Type 0
HasNumber i n = n.me ≡ i

ends_local : (count : ℕ) → Local count HasNumber HasRoundEnds
ends_local count = record {
  deed = λ i n cause o few d came me. ((deed_frame n cause o d).me ∙ me, deed_ends n cause o d (subst (λ j. Came HasRoundEnds j cause) (sym me) came));
  boxes = λ i n inbox outbox parcels records notes posted me. me;
  answered = λ i n answer e me. me;
  parts = λ m part h. ends_part m.sender m.addressee m.kind part h;
}

pub ends_held : (count capacity : ℕ) (run : List Event) → IsRunFrom (new_world count capacity) run → Held HasNumber HasRoundEnds (world_of count capacity run)
ends_held count capacity run r = held_run count HasNumber HasRoundEnds (ends_local count) run (new_world count capacity) refl r (λ i. record { node = refl; inbox = tt; outbox = tt })

-- All boxes.
all_boxes : (P : Piece → Type 0) (nodes : ℕ → Node) (i k : ℕ) → ((j : ℕ) → AllByRecursion P (nodes j).inbox × AllByRecursion P (nodes j).outbox) → AllByRecursion P (boxes_from i k nodes)
all_boxes P nodes i zero h = tt
all_boxes P nodes i (suc k) h =
    all_append P ((nodes i).inbox ++ (nodes i).outbox) (boxes_from (i + 1) k nodes) (all_append P (nodes i).inbox (nodes i).outbox (h i).0 (h i).1) (all_boxes P nodes (i + 1) k h)

pub ends_boxed : (count capacity : ℕ) (run : List Event) → IsRunFrom (new_world count capacity) run → AllByRecursion (λ (p : Piece). HasRoundEnds p.message) (pieces_in_boxes (world_of count capacity run))
ends_boxed count capacity run r =
    let w = world_of count capacity run in
    all_boxes (λ (p : Piece). HasRoundEnds p.message) w.nodes 0 w.count
    (λ j. let h = ends_held count capacity run r j in (all_map (HeldIn HasRoundEnds j) (λ (p : Piece). HasRoundEnds p.message) (λ p x. x.0) (w.nodes j).inbox h.inbox, h.outbox))
