-- The ends of a piece in a box, and the home of its name.
use Rattle.std.proofs.Common.{ℕ, ◌+◌, ◌≤◌, List, [], ◌∷◌, sym, subst, arith}
use Rattle.std.specs.List.{AllByRecursion}
use Rattle.std.proofs.lemmas.List.Elements.{recursion_from_All}
use Rattle.crl_model.specs.declared.event.Event.{Event}
use Rattle.crl_model.specs.declared.message.Message.{Message}
use Rattle.crl_model.specs.declared.message.Kind.{Kind}
use Rattle.crl_model.specs.declared.message.Kind.TheVariants as kind
use Rattle.crl_pieces.specs.Pieces.{Cell, left_from}
use Rattle.crl_protocol.specs.Parcels.{Piece, piece_of, with_load}
use Rattle.crl_protocol.specs.World.{World, new_world, world_of, pieces_in_boxes, IsRunFrom}
use Rattle.crl_machine.specs.SingleMachine.{State}
use Rattle.crl_deeds.specs.Turns.{Parts}
use Rattle.crl_deeds.proofs.Laws.{all_append}
use Rattle.crl_flight.specs.Flight.{Under, left_of, lefts, messages_of}
use Rattle.crl_lifetime.specs.Lifetime.{TalkFits, MessageFits}
use Rattle.crl_lifetime.proofs.Laws.{messages_in_runs}
use Rattle.crl_regions.specs.Addresses.{GoesToOther}
use Rattle.crl_regions.specs.MailFits.{Tables, FitsTables}
use Rattle.crl_regions.specs.View.{tables_of}
use Rattle.crl_regions.proofs.Laws.{pieces_to_others, count_in_run, all_by_took}
use Rattle.crl_rounds.specs.Standing.{RoundMailFits, IsRoundMail, machine_of}
use Rattle.crl_rounds.proofs.Laws.{mail_in_runs, all_map}
use Rattle.std.proofs.lemmas.Bool.{cond_both}
use Rattle.crl_framed.specs.Framed.{InEachBox, InBoxesOfFew, FitsEnds, FitsHome, HomeIsAnEnd}
use Rattle.crl_framed.proofs.Regions.{all_moved}
use Rattle.crl_framed.proofs.Results.{RoundEnds, HasRoundEnds, ends_boxed}
use Rattle.crl_framed.proofs.Runs.{Reached, reached}

-- What holds of all messages under way, whatever part of their bytes they have, holds of all pieces in boxes.
pub each_part : (Q : Message → Type 0) → Parts Q → (m : Message) (n k : ℕ) (cells : List Cell) → Q m → AllByRecursion (λ (p : Piece). Q p.message) (left_from (piece_of m n) k cells)
each_part Q parts m n k [] h = tt
each_part Q parts m n k (c ∷ cells) h =
    let rest = each_part Q parts m n (k + 1) cells h in cond_both c.came _ _ (AllByRecursion (λ (p : Piece). Q p.message)) (λ w. rest) (λ w. (parts m c.part h, rest))

all_lefts : (Q : Message → Type 0) → Parts Q → (us : List Under) → AllByRecursion Q (messages_of us) → AllByRecursion (λ (p : Piece). Q p.message) (lefts us)
all_lefts Q parts [] h = tt
all_lefts Q parts (u ∷ us) h = all_append (λ (p : Piece). Q p.message) (left_of u) (lefts us) (each_part Q parts u.message _ 0 u.cells h.0) (all_lefts Q parts us h.1)

pub all_boxed : (Q : Message → Type 0) → Parts Q → (w : World) (x : Reached w) → AllByRecursion Q (messages_of x.under) → AllByRecursion (λ (p : Piece). Q p.message) (pieces_in_boxes w)
all_boxed Q parts w x h = all_moved (λ (p : Piece). Q p.message) x.hold.under_way.boxed (all_lefts Q parts x.under h)

pub both : {A : Type 0} (P Q R : A → Type 0) → ((x : A) → P x → Q x → R x) → (xs : List A) → AllByRecursion P xs → AllByRecursion Q xs → AllByRecursion R xs
both P Q R f [] p q = tt
both P Q R f (x ∷ xs) p q = (f x p.0 q.0, both P Q R f xs p.1 q.1)

pub ends_fit : InBoxesOfFew FitsEnds
ends_fit count capacity run small r =
    let w = world_of count capacity run in
    let few : w.count ≤ 64 = subst (λ k. k ≤ 64) (sym (count_in_run count capacity run r.enabled)) small in
    all_map (λ (p : Piece). GoesToOther w.count p.message) (λ (p : Piece). FitsEnds p.message)
    (λ p g. record { sender = (let s = g.sender in omega arith); addressee = (let s = g.addressee in omega arith); other = g.other }) (pieces_in_boxes w) (pieces_to_others count capacity run r.enabled)

-- The home.
abbrev pub MailOf : Tables → Message → Type 0
MailOf tables m = FitsTables tables m.sender m.addressee m.kind

told_parts : (tables : Tables) (from to : ℕ) (k : Kind) (part : List ℕ) → FitsTables tables from to k → FitsTables tables from to (with_load part k)
told_parts tables from to (kind.Grant name version granted) part h = h
told_parts tables from to (kind.Return name version bytes) part h = h
told_parts tables from to (kind.Release name version bytes) part h = h
told_parts tables from to _ part h = h

home_of_kind : (w : World) (s : State) (from to : ℕ) (k : Kind) → FitsTables (tables_of w) from to k → TalkFits w from to k → IsRoundMail w s from to k → RoundEnds from to k → FitsHome from to k
home_of_kind w s from to (kind.InfoAsk name) t f m e = sym f.0
home_of_kind w s from to (kind.InfoIs name told) t f m e = sym f.0
home_of_kind w s from to (kind.Ask name write have) t f m e = t.0
home_of_kind w s from to (kind.Grant name version granted) t f m e = sym t.0
home_of_kind w s from to (kind.Recall name version) t f m e = sym t.0
home_of_kind w s from to (kind.Yield name version) t f m e = sym t.0
home_of_kind w s from to (kind.Return name version bytes) t f m e = t.0
home_of_kind w s from to (kind.Release name version bytes) t f m e = t.0
home_of_kind w s from to (kind.DeleteAsk name) t f m e = sym f.0
home_of_kind w s from to (kind.DeleteIs name told) t f m e = sym f.0
home_of_kind w s from to (kind.Purge name) t f m e = sym f.0
home_of_kind w s from to (kind.Purged name) t f m e = sym f.0
home_of_kind w s from to (kind.Come round part) t f m e = m.to_first
home_of_kind w s from to (kind.Result round fold) t f m e = e

pub mail_boxed : (count capacity : ℕ) (run : List Event) → IsRunFrom (new_world count capacity) run → let w = world_of count capacity run in AllByRecursion (λ (p : Piece). MailOf (tables_of w) p.message) (pieces_in_boxes w)
mail_boxed count capacity run r =
    let w = world_of count capacity run in
    let x = reached count capacity run r in all_boxed (MailOf (tables_of w)) (λ m part h. told_parts (tables_of w) m.sender m.addressee m.kind part h) w x x.hold.mail

pub talk_boxed : (count capacity : ℕ) (run : List Event) → IsRunFrom (new_world count capacity) run → let w = world_of count capacity run in AllByRecursion (λ (p : Piece). MessageFits w p.message) (pieces_in_boxes w)
talk_boxed count capacity run r =
    let w = world_of count capacity run in all_by_took (λ (p : Piece). MessageFits w p.message) (pieces_in_boxes w) (λ p rest took. messages_in_runs count capacity run p rest r took)

pub homes_fit : InEachBox HomeIsAnEnd
homes_fit count capacity run r =
    let w = world_of count capacity run in
    let s = machine_of count capacity run in
    let rounds = recursion_from_All (RoundMailFits w s) (pieces_in_boxes w) (mail_in_runs count capacity run r.enabled) in
    both (λ (p : Piece). MailOf (tables_of w) p.message × MessageFits w p.message) (λ (p : Piece). RoundMailFits w s p × HasRoundEnds p.message) (λ (p : Piece). HomeIsAnEnd p.message)
    (λ p k m. home_of_kind w s p.message.sender p.message.addressee p.message.kind k.0 k.1 m.0 m.1) (pieces_in_boxes w)
    (both (λ (p : Piece). MailOf (tables_of w) p.message) (λ (p : Piece). MessageFits w p.message) (λ (p : Piece). MailOf (tables_of w) p.message × MessageFits w p.message) (λ p a b. (a, b)) (pieces_in_boxes w)
    (mail_boxed count capacity run r.enabled) (talk_boxed count capacity run r.enabled))
    (both (RoundMailFits w s) (λ (p : Piece). HasRoundEnds p.message) (λ (p : Piece). RoundMailFits w s p × HasRoundEnds p.message) (λ p a b. (a, b)) (pieces_in_boxes w) rounds (ends_boxed count capacity run r.enabled))
