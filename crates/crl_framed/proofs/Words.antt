-- The version or round of a piece in a box fits a word.
use Rattle.std.proofs.Common.{◌≡◌, ℕ, ◌≤◌, ◌<◌, ◌^◌, true, false, None, Some, Option, List, ◌∷◌, length, if◌then◌else◌, ap, sym, subst, arith}
use Rattle.std.specs.List.{AllByRecursion}
use Rattle.std.proofs.lemmas.Bool.{cond-true}
use Rattle.std.proofs.lemmas.List.Elements.{recursion_from_All}
use Rattle.crl_model.specs.declared.name.Name.{Name}
use Rattle.crl_model.specs.declared.event.Event.{Event}
use Rattle.crl_model.specs.declared.message.Message.{Message}
use Rattle.crl_model.specs.declared.message.Kind.{Kind}
use Rattle.crl_model.specs.declared.message.Kind.TheVariants as kind
use Rattle.crl_model.specs.Names.{name_eq}
use Rattle.crl_protocol.specs.Mail.{Mail, Ask, Grant, Recall, Yield, Return, Release}
use Rattle.crl_protocol.specs.Parcels.{Piece, with_load}
use Rattle.crl_protocol.specs.Places.{find_all, Took, here, there}
use Rattle.crl_protocol.specs.Home.{Home}
use Rattle.crl_protocol.specs.World.{world_of, pieces_in_boxes, IsRun}
use Rattle.crl_machine.specs.SingleMachine.{State}
use Rattle.crl_bound.specs.Counters.{CountersFit}
use Rattle.crl_bound.proofs.Laws.{counters_fit}
use Rattle.crl_deeds.proofs.Laws.{name_self}
use Rattle.crl_flight.specs.Flight.{messages_of}
use Rattle.crl_coherence.specs.Region.{Flying}
use Rattle.crl_regions.specs.Addresses.{GoesToOther}
use Rattle.crl_regions.specs.MailFits.{Tables, FitsTables, MailFits}
use Rattle.crl_regions.specs.View.{table_of, tables_of, table_or_blank, mail_in, other_end, flown, flying}
use Rattle.crl_regions.proofs.Laws.{messages_to_others, all_by_took}
use Rattle.crl_rounds.specs.Standing.{RoundMailFits, IsRoundMail, RoundCall, StandsIn, current_round, machine_of}
use Rattle.crl_rounds.proofs.Laws.{mail_in_runs, rounds_in_runs}
use Rattle.crl_framed.specs.Framed.{InEachBox, FitsWord, FitsNumber, NumberFits}
use Rattle.crl_framed.proofs.Ends.{all_boxed, both}
use Rattle.crl_framed.proofs.Numbers.{IsVersion, Numbered}
use Rattle.crl_framed.proofs.Runs.{Reached, reached}

-- What holds of all mail of a region under way holds of each message's.
found_first : (P : Flying → Type 0) (o : Option Flying) (f : Flying) (rest : List Flying) → o ≡ Some f → AllByRecursion P (elim o [ None ↦ rest | Some y ↦ y ∷ rest ]) → P f
found_first P None f rest e h = absurd (cc)
found_first P (Some g) f rest e h = let same : g ≡ f = cc in subst P same h.0

found_rest : (P : Flying → Type 0) (o : Option Flying) (rest : List Flying) → AllByRecursion P (elim o [ None ↦ rest | Some y ↦ y ∷ rest ]) → AllByRecursion P rest
found_rest P None rest h = h
found_rest P (Some g) rest h = h.1

pub found : (P : Flying → Type 0) (q : Name) (f : Flying) {m : Message} {messages rest : List Message} → Took m messages rest → flying q m ≡ Some f → AllByRecursion P (find_all (flying q) messages) → P f
found P q f (here {x = m} {xs = ms}) e h = found_first P (flying q m) f (find_all (flying q) ms) e h
found P q f (there {y = y} {xs = ms} t) e h = found P q f t e (found_rest P (flying q y) (find_all (flying q) ms) h)

-- of messages about copies
abbrev CopyNumber : Kind → Type 0
CopyNumber (kind.Come round part) = Unit {0}
CopyNumber (kind.Result round fold) = Unit {0}
CopyNumber k = FitsNumber k

copy_part : (k : Kind) (part : List ℕ) → CopyNumber k → CopyNumber (with_load part k)
copy_part (kind.Grant name version granted) part h = h
copy_part (kind.Return name version bytes) part h = h
copy_part (kind.Release name version bytes) part h = h
copy_part k part h = h

-- The mail's numbers are those of its region, whose last version is within the limit.
abbrev Bounded : Tables → ℕ → Kind → Type 0
Bounded tables count k = (q : Name) (h : Home) (mail : Mail) → q.home < count → tables q ≡ Some h → mail_in q k ≡ Some mail → Numbered h.last mail × (h.last ≤ 2 ^ 62)

in_word : (last version : ℕ) → IsVersion last version × (last ≤ 2 ^ 62) → FitsWord version
in_word last version f = (f.0.0, (let a = f.0.1 in let b = f.1 in omega arith))

pub about_self : (name : Name) (mail : Mail) → ◌≡◌ {A = Option Mail} (if name_eq name name then Some mail else None) (Some mail)
about_self name mail = cond-true (name_eq name name) (Some mail) None (name_self name)

number_of_kind : (tables : Tables) (count from to : ℕ) (k : Kind) → from < count → to < count → FitsTables tables from to k → Bounded tables count k → CopyNumber k
number_of_kind tables count from to (kind.Ask name true have) f l t b =
    let g = b name t.2.0 (Ask true have) (subst (λ j. j < count) (sym t.0) l) t.2.1 (about_self name _) in let a = g.0 in let c = g.1 in omega arith
number_of_kind tables count from to (kind.Ask name false have) f l t b = (b name t.2.0 (Ask false have) (subst (λ j. j < count) (sym t.0) l) t.2.1 (about_self name _)).0
number_of_kind tables count from to (kind.Grant name version granted) f l t b = in_word _ version (b name t.2.0 (Grant version granted) (subst (λ j. j < count) t.0 f) t.2.1 (about_self name _))
number_of_kind tables count from to (kind.Recall name version) f l t b = in_word _ version (b name t.2.0 (Recall version) (subst (λ j. j < count) t.0 f) t.2.1 (about_self name _))
number_of_kind tables count from to (kind.Yield name version) f l t b = in_word _ version (b name t.2.0 (Yield version) (subst (λ j. j < count) t.0 f) t.2.1 (about_self name _))
number_of_kind tables count from to (kind.Return name version bytes) f l t b = in_word _ version (b name t.2.0 (Return version bytes) (subst (λ j. j < count) (sym t.0) l) t.2.1 (about_self name _))
number_of_kind tables count from to (kind.Release name version bytes) f l t b = in_word _ version (b name t.2.0 (Release version bytes) (subst (λ j. j < count) (sym t.0) l) t.2.1 (about_self name _))
number_of_kind tables count from to _ f l t b = tt

-- The counters of a run.
counted : (count capacity : ℕ) (run : List Event) → IsRun count capacity run → (i : ℕ) → i < (world_of count capacity run).count → CountersFit (length run) ((world_of count capacity run).nodes i)
counted count capacity run r i few = (counters_fit count capacity run r.enabled i few).0

bounded_message : (count capacity : ℕ) (run : List Event) → IsRun count capacity run → (x : Reached (world_of count capacity run)) (m : Message) (rest : List Message) → Took m (messages_of x.under) rest
    → Bounded (tables_of (world_of count capacity run)) (world_of count capacity run).count m.kind
bounded_message count capacity run r x m rest took q h mail few known e =
    let w = world_of count capacity run in
    let last = subst (λ o. Numbered (table_or_blank o).last mail) known
    (found (λ (f : Flying). Numbered (table_or_blank (table_of q w)).last f.mail) q (record { node = other_end q m; mail = mail }) took (ap (λ o. flown (other_end q m) o) e) (x.numbered q h known).flight) in
    (last, (let v = (counted count capacity run r q.home few).versions q h known in let l = r.limit in omega arith))

copies_numbered : (count capacity : ℕ) (run : List Event) → IsRun count capacity run → (x : Reached (world_of count capacity run)) → AllByRecursion (λ (m : Message). CopyNumber m.kind) (messages_of x.under)
copies_numbered count capacity run r x =
    let w = world_of count capacity run in
    let each = all_by_took (λ (m : Message). Bounded (tables_of w) w.count m.kind) (messages_of x.under) (λ m rest took. bounded_message count capacity run r x m rest took) in
    let ends = messages_to_others count capacity run r.enabled x.under x.hold.under_way in
    both (λ (m : Message). MailFits (tables_of w) m × Bounded (tables_of w) w.count m.kind) (GoesToOther w.count) (λ (m : Message). CopyNumber m.kind)
    (λ m k g. number_of_kind (tables_of w) w.count m.sender m.addressee m.kind g.sender g.addressee k.0 k.1) (messages_of x.under)
    (both (MailFits (tables_of w)) (λ (m : Message). Bounded (tables_of w) w.count m.kind) (λ (m : Message). MailFits (tables_of w) m × Bounded (tables_of w) w.count m.kind) (λ m a b. (a, b)) (messages_of x.under) x.hold.mail each) ends

-- Rounds: a node that waits in one came to it last.
round_in_word : (current : ℕ) (s : State) (i rounds events : ℕ) (o : Option RoundCall) (c : RoundCall) → o ≡ Some c → StandsIn current s i rounds o → rounds ≤ events → events ≤ 2 ^ 62 → FitsWord c.round
round_in_word current s i rounds events o c e stands few limit =
    let k = subst (λ y. StandsIn current s i rounds y) e stands in let a = k.own in let b = k.told in (omega arith, omega arith)

number_in_round : (count capacity : ℕ) (run : List Event) → IsRun count capacity run → (from to : ℕ) (k : Kind) → CopyNumber k → IsRoundMail (world_of count capacity run) (machine_of count capacity run) from to k → FitsNumber k
number_in_round count capacity run r from to (kind.Come round part) n m =
    let w = world_of count capacity run in
    round_in_word (current_round w) (machine_of count capacity run) from (w.nodes from).rounds (length run) _ _ m.waits ((rounds_in_runs count capacity run r.enabled).stands from m.sender).call (counted count capacity run r from m.sender).rounds r.limit
number_in_round count capacity run r from to (kind.Result round fold) n m =
    let w = world_of count capacity run in
    round_in_word (current_round w) (machine_of count capacity run) to (w.nodes to).rounds (length run) _ _ m.waits ((rounds_in_runs count capacity run r.enabled).stands to m.addressee).call (counted count capacity run r to m.addressee).rounds r.limit
number_in_round count capacity run r from to (kind.Ask name write have) n m = n
number_in_round count capacity run r from to (kind.Grant name version granted) n m = n
number_in_round count capacity run r from to (kind.Recall name version) n m = n
number_in_round count capacity run r from to (kind.Yield name version) n m = n
number_in_round count capacity run r from to (kind.Return name version bytes) n m = n
number_in_round count capacity run r from to (kind.Release name version bytes) n m = n
number_in_round count capacity run r from to (kind.InfoAsk name) n m = n
number_in_round count capacity run r from to (kind.InfoIs name told) n m = n
number_in_round count capacity run r from to (kind.DeleteAsk name) n m = n
number_in_round count capacity run r from to (kind.DeleteIs name told) n m = n
number_in_round count capacity run r from to (kind.Purge name) n m = n
number_in_round count capacity run r from to (kind.Purged name) n m = n

pub numbers_fit : InEachBox NumberFits
numbers_fit count capacity run r =
    let w = world_of count capacity run in
    let s = machine_of count capacity run in
    let x = reached count capacity run r.enabled in
    both (λ (p : Piece). CopyNumber p.message.kind) (RoundMailFits w s) (λ (p : Piece). NumberFits p.message)
    (λ p n m. number_in_round count capacity run r p.message.sender p.message.addressee p.message.kind n m) (pieces_in_boxes w)
    (all_boxed (λ (m : Message). CopyNumber m.kind) (λ m part h. copy_part m.kind part h) w x (copies_numbered count capacity run r x))
    (recursion_from_All (RoundMailFits w s) (pieces_in_boxes w) (mail_in_runs count capacity run r.enabled))
