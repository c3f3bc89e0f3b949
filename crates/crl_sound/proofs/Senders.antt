-- In every run the pieces in a node's outbox are the node's own.
use Rattle.std.proofs.Common.{◌≡◌, ℕ, zero, suc, ◌+◌, None, Some, Option, List, [], ◌∷◌, length, map, refl, sym, ◌∙◌, subst}
use Rattle.std.specs.List.{AllByRecursion}
use Rattle.std.proofs.lemmas.Bool.{cond_both}
use Rattle.crl_model.specs.declared.name.Name.{Name}
use Rattle.crl_model.specs.declared.collective.Fold.{Fold}
use Rattle.crl_model.specs.declared.event.Event.{Event}
use Rattle.crl_model.specs.declared.event.Event.TheVariants as event
use Rattle.crl_model.specs.declared.message.Message.{Message}
use Rattle.crl_model.specs.declared.message.Kind.TheVariants as kind
use Rattle.crl_model.specs.Names.{at_node}
use Rattle.crl_pieces.specs.Pieces.{count, cut, Cell, fresh, left_from}
use Rattle.crl_protocol.specs.Calls.{results_from}
use Rattle.crl_protocol.specs.Mail.{Mail, Letter, kind_about}
use Rattle.crl_protocol.specs.Node.{Node, Outcome, message_to, letter_messages, mail_messages}
use Rattle.crl_protocol.specs.Parcels.{Piece, load_of, piece_of, pieces_of, pieces_in}
use Rattle.crl_protocol.specs.Remote.{Remote, remote_flushes}
use Rattle.crl_protocol.specs.World.{World, WorldStep, new_world, world_of, world_after, step, steps_node, IsRunFrom}
use Rattle.crl_deeds.specs.Deeds.{Cause, parting, Copies, Lives, Rounds, Deed}
use Rattle.crl_deeds.specs.Deeds as deed
use Rattle.crl_deeds.specs.Turns.{noted_as, Turn, calls, hears, gathers, answers, carriage}
use Rattle.crl_deeds.proofs.Laws.{turn_of, deed_frame, each_at, all_append, all_took}

-- What a node sends is its own.
abbrev IsFrom : ℕ → Message → Type 0
IsFrom i m = m.sender ≡ i

abbrev AreFrom : ℕ → List Message → Type 0
AreFrom i ms = AllByRecursion (IsFrom i) ms

mapped_from : {A : Type 0} (i : ℕ) (f : A → Message) (xs : List A) → ((x : A) → IsFrom i (f x)) → AreFrom i (map f xs)
mapped_from i f [] h = tt
mapped_from i f (x ∷ xs) h = (h x, mapped_from i f xs h)

letters_from : (n : Node) (name : Name) (posts : List Letter) → AreFrom n.me (letter_messages n name posts)
letters_from n name posts = mapped_from n.me (λ (l : Letter). message_to n l.to (kind_about name l.mail)) posts (λ l. refl)

mails_from : (n : Node) (name : Name) (posts : List Mail) → AreFrom n.me (mail_messages n name posts)
mails_from n name posts = mapped_from n.me (λ (m : Mail). message_to n name.home (kind_about name m)) posts (λ m. refl)

purges_from : (n : Node) (name : Name) (ms : List ℕ) → AreFrom n.me (map (λ m. message_to n m (kind.Purge name)) ms)
purges_from n name ms = mapped_from n.me (λ m. message_to n m (kind.Purge name)) ms (λ m. refl)

parting_from : (n : Node) (name : Name) (o : Option Remote) → AreFrom n.me (parting n name o)
parting_from n name None = tt
parting_from n name (Some r) = mails_from n name (remote_flushes r).posts

all_results_from : (n : Node) (m k round : ℕ) (fold : Fold) → AreFrom n.me (results_from n m k round fold)
all_results_from n m zero round fold = tt
all_results_from n m (suc k) round fold = (refl, all_results_from n (m + 1) k round fold)

copies_from : (n : Node) (cause : Cause) (o : Outcome) → Copies n cause o → AreFrom n.me o.posts
copies_from n cause o (deed.home_opens c write name h is e v x) = letters_from n name _
copies_from n cause o (deed.home_waits c write name h is e v x) = letters_from n name _
copies_from n cause o (deed.home_ends c name w ends lowers h is e) = letters_from n name _
copies_from n cause o (deed.home_serves from k name h s is e x) = letters_from n name _
copies_from n cause o (deed.home_serves_own from k name h s is e x) = letters_from n name _
copies_from n cause o (deed.grant_comes from name version g r e t) = tt
copies_from n cause o (deed.side_opens c write name r is e f v x) = mails_from n name _
copies_from n cause o (deed.side_waits c write name r is e f v x) = mails_from n name _
copies_from n cause o (deed.side_ends c name w ends lowers r is e f) = mails_from n name _
copies_from n cause o (deed.side_flushes name r other e closed) = mails_from n name _
copies_from n cause o (deed.side_called from k name r s is e) = mails_from n name _

lives_from : (n : Node) (cause : Cause) (o : Outcome) → Lives n cause o → AreFrom n.me o.posts
lives_from n cause o (deed.map_asks name e other c real) = (refl, tt)
lives_from n cause o (deed.map_told from name mine live) = (refl, tt)
lives_from n cause o (deed.map_refused from name why t d u) = (refl, tt)
lives_from n cause o (deed.unmaps_doomed name m e one other doomed closed) = parting_from n name (n.remotes name)
lives_from n cause o (deed.unmaps_evicting name m old e one other sound closed kept) = parting_from n old (n.remotes old)
lives_from n cause o (deed.deletes_own name m ms mine live e) = purges_from n name _
lives_from n cause o (deed.deletes_for from name m ms mine live e) = purges_from n name _
lives_from n cause o (deed.delete_asks name other real) = (refl, tt)
lives_from n cause o (deed.deletes_alone_for from name mine live e) = (refl, tt)
lives_from n cause o (deed.delete_refused from name why t d u) = (refl, tt)
lives_from n cause o (deed.dooms from name m e) = (refl, tt)
lives_from n cause o (deed.drops from name size e c) = all_append (IsFrom n.me) (parting n name (n.remotes name)) (message_to n from (kind.Purged name) ∷ []) (parting_from n name (n.remotes name)) (refl, tt)
lives_from n cause o (deed.warns from name e c) = (refl, tt)
lives_from n cause o (deed.ends_for from name deleter mine e other missing last) = (refl, tt)
lives_from n cause o _ = tt

rounds_from : (n : Node) (cause : Cause) (o : Outcome) → Rounds n cause o → AreFrom n.me o.posts
rounds_from n cause o (deed.comes_away part other fits) = (refl, tt)
rounds_from n cause o (deed.comes_last part parts first fits full) = all_results_from n 1 _ _ _
rounds_from n cause o (deed.part_last from round part parts mine k e a full) = all_results_from n 1 _ _ _
rounds_from n cause o (deed.part_last_idle from round part parts idle a full) = all_results_from n 1 _ _ _
rounds_from n cause o _ = tt

deed_from : (n : Node) (cause : Cause) (o : Outcome) → Deed n cause o → AreFrom n.me o.posts
deed_from n cause o (deed.copies d) = copies_from n cause o d
deed_from n cause o (deed.lives d) = lives_from n cause o d
deed_from n cause o (deed.rounds d) = rounds_from n cause o d
deed_from n cause o _ = tt

-- The same of pieces.
abbrev pub IsBy : ℕ → Piece → Type 0
IsBy i p = p.message.sender ≡ i

left_by : (i : ℕ) (m : Message) (n k : ℕ) (cells : List Cell) → IsFrom i m → AllByRecursion (IsBy i) (left_from (piece_of m n) k cells)
left_by i m n k [] h = tt
left_by i m n k (c ∷ cells) h = let rest = left_by i m n (k + 1) cells h in cond_both c.came _ _ (AllByRecursion (IsBy i)) (λ w. rest) (λ w. (h, rest))

pieces_by : (i : ℕ) (ms : List Message) → AreFrom i ms → AllByRecursion (IsBy i) (pieces_in ms)
pieces_by i [] h = tt
pieces_by i (m ∷ ms) h =
    all_append (IsBy i) (pieces_of m) (pieces_in ms) (left_by i m (count (length (load_of m.kind))) 0 (fresh (cut (load_of m.kind))) h.0) (pieces_by i ms h.1)

-- Of each node.
record Sends (i : ℕ) (n : Node) : Type 0 where
  me : n.me ≡ i
  outbox : AllByRecursion (IsBy i) n.outbox

abbrev AllSend : World → Type 0
AllSend w = (i : ℕ) → Sends i (w.nodes i)

sends_deed : (w : World) (i : ℕ) (n : Node) (e : Event) (cause : Cause) (o : Outcome) → Deed n cause o → Sends i n → AllSend w → AllSend (steps_node i e o w).world
sends_deed w i n e cause o d s h =
    let frame = deed_frame n cause o d in
    each_at Sends w.nodes i _ h (record {
      me = frame.me ∙ s.me;
      outbox = all_append (IsBy i) o.node.outbox (pieces_in o.posts) (subst (AllByRecursion (IsBy i)) (sym frame.outbox) s.outbox) (pieces_by i o.posts (subst (λ j. AreFrom j o.posts) s.me (deed_from n cause o d)));
    })

sends_turn : (w : World) (v : WorldStep) {e : Event} → Turn w e v → AllSend w → AllSend v.world
sends_turn w v (calls i c o few free may d) h = sends_deed w i (w.nodes i) (noted_as w i c) _ o d (h i) h
sends_turn w v (hears i place p rest parcels part o few took d) h = sends_deed w i (record (w.nodes i) { inbox = rest; parcels = parcels }) (event.Handle i place) _ o d (record { me = (h i).me; outbox = (h i).outbox }) h
sends_turn w v (gathers i place p rest parcels key few took keyed) h = each_at Sends w.nodes i _ h (record { me = (h i).me; outbox = all_append (IsBy i) (w.nodes i).outbox [] (h i).outbox tt })
sends_turn w v (answers i answer few ready) h = each_at Sends w.nodes i _ h (record { me = (h i).me; outbox = all_append (IsBy i) (w.nodes i).outbox [] (h i).outbox tt })
sends_turn w v (carriage i place p rest few took) h =
    let sent : AllSend (record w { nodes = at_node w.nodes i _ }) = each_at Sends w.nodes i _ h (record { me = (h i).me; outbox = (all_took (IsBy i) took (h i).outbox).1 }) in
    let to = p.message.addressee in each_at Sends _ to _ sent (record { me = (sent to).me; outbox = (sent to).outbox })

sends_run : (w : World) (es : List Event) → IsRunFrom w es → AllSend w → AllSend (world_after w es)
sends_run w [] r h = h
sends_run w (e ∷ es) r h = sends_run (step e w).world es r.1 (sends_turn w _ (turn_of w e r.0) h)

pub senders_in_runs : (count capacity : ℕ) (run : List Event) → IsRunFrom (new_world count capacity) run → (i : ℕ) → AllByRecursion (IsBy i) ((world_of count capacity run).nodes i).outbox
senders_in_runs count capacity run r i = (sends_run (new_world count capacity) run r (λ j. record { me = refl; outbox = tt }) i).outbox
