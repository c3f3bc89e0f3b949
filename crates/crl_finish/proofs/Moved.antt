-- A node stays at its place where a message comes, an answer is taken, or its boxes change; and is at the next one after a
-- change inside a write section.
use Rattle.std.proofs.Common.{◌≡◌, ℕ, Bool, true, List, ◌∷◌, ap, sym, ◌∙◌, subst, arith}
use Rattle.std.proofs.Math.Logic.{inl, inr}
use Rattle.crl_model.specs.declared.name.Name.{Name}
use Rattle.crl_model.specs.declared.statement.Statement.{Statement}
use Rattle.crl_model.specs.declared.statement.Statement.TheVariants as statement
use Rattle.crl_protocol.specs.Parcels.{Piece, PartsGathered}
use Rattle.crl_protocol.specs.Sections.{section_begins}
use Rattle.crl_protocol.specs.Node.{Node, Answer, Free, Waiting, Ready, ForSection, Recorded, Note}
use Rattle.crl_protocol.specs.Chosen.{is_change}
use Rattle.crl_talk.proofs.Laws.{AskedAs}
use Rattle.crl_finish.specs.Unnested.{Within, Outside, Inside, is_unnested_from, rounds_in}
use Rattle.crl_finish.proofs.Effects.{HearEffect, opened, stays}
use Rattle.crl_finish.proofs.Opened.{AreWithin, opened_within}
use Rattle.crl_finish.proofs.Places.{Shut, calm_shut, calm_waits, IsAt}

-- boxes, parcels and lists
pub boxes_at : (n : Node) (inbox outbox : List Piece) (parcels : PartsGathered) (records : List Recorded) (notes : List Note) (posted : ℕ) (left : List Statement) (total : ℕ) → IsAt n left total
    → IsAt (record n { inbox = inbox; outbox = outbox; parcels = parcels; records = records; notes = notes; posted = posted }) left total
boxes_at n inbox outbox parcels records notes posted left total h = record {
  within = h.within;
  unnested = h.unnested;
  sections = h.sections;
  asked = λ name e. (let a = h.asked name e in (a.0, record { home = a.1.home; side = a.1.side }, a.2));
  shut = h.shut;
  rounds = h.rounds;
}

-- the answer for which it waited
pub answered_at : (n : Node) (answer : Answer) (left : List Statement) (total : ℕ) → n.activity ≡ Ready answer → IsAt n left total → IsAt (record n { activity = Free }) left total
answered_at n answer left total e h = record { within = h.within; unnested = h.unnested; sections = h.sections; asked = λ name w. cc; shut = tt; rounds = h.rounds }

-- a message
abbrev pub KeepsAsked : Node → Node → Type 0
KeepsAsked n m = (write : Bool) (name : Name) → n.activity ≡ Waiting (ForSection name) → AskedAs write name n → AskedAs write name m

pub heard_at : (n m : Node) (left : List Statement) (total : ℕ) → HearEffect n m → KeepsAsked n m → IsAt n left total → IsAt m left total
heard_at n m left total (opened write name bytes waits asks s calm r) keeps h =
    let a = h.asked name waits in
    let closed : AreWithin Outside n.sections = subst (λ x. Shut x n.sections) waits h.shut in
    let here : Inside write name ≡ h.within = ap (λ b. Inside b name) (asks a.0 a.1) ∙ sym a.2 in
    let k = h.rounds in record {
      within = h.within;
      unnested = h.unnested;
      sections = subst (AreWithin h.within) (sym s) (subst (λ w. AreWithin w (section_begins write name bytes n.sections).sections) here (opened_within write name bytes n.sections closed));
      asked = λ q e. absurd (calm_waits m.activity q calm e);
      shut = calm_shut m.activity m.sections calm;
      rounds = omega arith;
    }
heard_at n m left total (stays s (inl same) r) keeps h =
    let k = h.rounds in record {
      within = h.within;
      unnested = h.unnested;
      sections = subst (AreWithin h.within) (sym s) h.sections;
      asked = λ q e. (let waits = sym same ∙ e in let a = h.asked q waits in (a.0, keeps a.0 q waits a.1, a.2));
      shut = subst (λ x. Shut m.activity x) (sym s) (subst (λ x. Shut x n.sections) (sym same) h.shut);
      rounds = omega arith;
    }
heard_at n m left total (stays s (inr calm) r) keeps h =
    let k = h.rounds in record {
      within = h.within;
      unnested = h.unnested;
      sections = subst (AreWithin h.within) (sym s) h.sections;
      asked = λ q e. absurd (calm_waits m.activity q calm e);
      shut = calm_shut m.activity m.sections calm;
      rounds = omega arith;
    }

-- a change

changed_from : (w : Within) (s : Statement) (left : List Statement) → is_change s ≡ true → is_unnested_from w (s ∷ left) ≡ true → is_unnested_from w left ≡ true
changed_from w (statement.Call c) left e u = cc
changed_from Outside (statement.Put name offset bytes) left e u = u
changed_from Outside (statement.Add name offset number) left e u = u
changed_from (Inside write q) (statement.Put name offset bytes) left e u = u
changed_from (Inside write q) (statement.Add name offset number) left e u = u

changed_rounds : (s : Statement) (left : List Statement) → is_change s ≡ true → rounds_in (s ∷ left) ≡ rounds_in left
changed_rounds (statement.Call c) left e = cc
changed_rounds (statement.Put name offset bytes) left e = omega arith
changed_rounds (statement.Add name offset number) left e = omega arith

pub changed_at : (n : Node) (s : Statement) (left : List Statement) (total : ℕ) → is_change s ≡ true → IsAt n (s ∷ left) total → IsAt n left total
changed_at n s left total e h =
    let same = changed_rounds s left e in
    let k = h.rounds in
    record { within = h.within; unnested = changed_from h.within s left e h.unnested; sections = h.sections; asked = h.asked; shut = h.shut; rounds = omega arith }
