-- Whoever has a region mapped or a section of it open has one with bytes, so each legal entry is printable.
use Rattle.std.proofs.Common.{◌≡◌, ◌≢◌, ℕ, ◌+◌, ◌-◌, ◌<◌, ◌≤◌, Bool, true, false, if◌then◌else◌, List, [], ◌∷◌, length, get_or, ◌++◌, ◌==◌, ◌&&◌, refl, sym, ap, subst, arith, true≢false}
use Rattle.std.proofs.lemmas.List.{length-replicate}
use Rattle.std.specs.Prelude.{replicate}
use Rattle.std.specs.List.{AllByRecursion}
use Rattle.crl_model.specs.declared.name.Name.{Name}
use Rattle.crl_model.specs.declared.stage.Stage.{Stage}
use Rattle.crl_model.specs.declared.stage.Stage.TheVariants.{Unknown, Live, Going, Gone}
use Rattle.crl_model.specs.declared.collective.Part.{Part}
use Rattle.crl_model.specs.declared.collective.Part.TheVariants as part
use Rattle.crl_model.specs.declared.call.CallKind.{CallKind}
use Rattle.crl_model.specs.declared.call.Refusal.{Refusal}
use Rattle.crl_model.specs.declared.call.Refusal.TheVariants as refusal
use Rattle.crl_model.specs.declared.entry.Place.{Place}
use Rattle.crl_model.specs.declared.entry.Place.TheVariants.{Region, Round}
use Rattle.crl_model.specs.declared.entry.What.{What}
use Rattle.crl_model.specs.declared.entry.What.TheVariants.{Create, Map, Unmap, StartRead, Read, StartWrite, Write, Flush, Deleting, Deleted, Come, Came, Refused}
use Rattle.crl_model.specs.declared.entry.Entry.{Entry}
use Rattle.crl_model.specs.Names.{name_eq, at_node, at_name, at_pair}
use Rattle.crl_model.specs.Stages.{is_there}
use Rattle.crl_model.proofs.Laws.{same_name}
use Rattle.crl_machine.specs.SingleMachine.{State, start, Applies, IsSendable, change, after, IsHistory, after_all}
use Rattle.crl_account.specs.Text.{IsPrintable, IsPrintablePart, IsPrintableWhat, is_round, is_of_round}
use Rattle.crl_printed.proofs.Rounds.{ArePrintable, one_more, fold_printable}

-- what is had or there has bytes, and so has each part that sends
pub record AreFilled (s : State) : Type 0 where
  pub there : (q : Name) → is_there (s.stage q) ≡ true → 1 ≤ length (s.bytes q)
  pub mapped : (m : ℕ) (q : Name) → 1 ≤ s.maps m q → 1 ≤ length (s.bytes q)
  pub read : (m : ℕ) (q : Name) → 1 ≤ s.reads m q → 1 ≤ length (s.bytes q)
  pub written : (m : ℕ) (q : Name) → s.writes m q ≡ true → 1 ≤ length (s.bytes q)
  pub sent : (m : ℕ) → ArePrintable (s.came m)

-- ---- one entry

some_bytes : (bytes : List ℕ) → 1 ≤ length bytes → bytes ≢ []
some_bytes bytes some none = let empty : length bytes ≡ 0 = ap length none in absurd (omega (arith, some, empty))

sendable_printable : (p : Part) → IsSendable p → IsPrintablePart p
sendable_printable part.Barrier can = tt
sendable_printable (part.Send bytes) can = some_bytes bytes can.0
sendable_printable part.Receive can = tt
sendable_printable (part.Sum value) can = tt
sendable_printable (part.Min value) can = tt
sendable_printable (part.Max value) can = tt

refused_printable : (s : State) (n : ℕ) (kind : CallKind) (place : Place) (why : Refusal) → Applies s n (Refused kind place why) → is_round place ≡ is_of_round why
refused_printable s n kind (Region name) refusal.BadSize a = refl
refused_printable s n kind (Region name) refusal.NamesSpent a = refl
refused_printable s n kind (Region name) refusal.Unknown a = refl
refused_printable s n kind (Region name) refusal.Deleted a = refl
refused_printable s n kind (Region name) refusal.NotMapped a = refl
refused_printable s n kind (Region name) refusal.SectionOpen a = refl
refused_printable s n kind (Region name) refusal.NotReading a = refl
refused_printable s n kind (Region name) refusal.NotWriting a = refl
refused_printable s n kind (Region name) refusal.InSection a = refl
refused_printable s n kind (Region name) refusal.OutOfRange a = refl
refused_printable s n kind (Region name) refusal.WrongSize a = absurd a.1
refused_printable s n kind (Region name) refusal.TooMany a = refl
refused_printable s n kind (Region name) refusal.Mixed a = absurd a.1
refused_printable s n kind (Round round) refusal.BadSize a = absurd a
refused_printable s n kind (Round round) refusal.NamesSpent a = absurd a
refused_printable s n kind (Round round) refusal.Unknown a = absurd a
refused_printable s n kind (Round round) refusal.Deleted a = absurd a
refused_printable s n kind (Round round) refusal.NotMapped a = absurd a
refused_printable s n kind (Round round) refusal.SectionOpen a = absurd a
refused_printable s n kind (Round round) refusal.NotReading a = absurd a
refused_printable s n kind (Round round) refusal.NotWriting a = absurd a
refused_printable s n kind (Round round) refusal.InSection a = absurd a
refused_printable s n kind (Round round) refusal.OutOfRange a = absurd a
refused_printable s n kind (Round round) refusal.WrongSize a = refl
refused_printable s n kind (Round round) refusal.TooMany a = absurd a
refused_printable s n kind (Round round) refusal.Mixed a = refl

printable_step : (s : State) (n : ℕ) (w : What) → AreFilled s → Applies s n w → IsPrintableWhat w
printable_step s n (Create name size) x a = tt
printable_step s n (Map name size) x a = tt
printable_step s n (Unmap name) x a = tt
printable_step s n (Flush name) x a = tt
printable_step s n (StartRead name) x a = tt
printable_step s n (Read name seen) x a = some_bytes seen (subst (λ (b : List ℕ). 1 ≤ length b) (sym a.2) (x.read n name a.1))
printable_step s n (StartWrite name) x a = tt
printable_step s n (Write name before written) x a =
    let some : 1 ≤ length before = subst (λ (b : List ℕ). 1 ≤ length b) (sym a.2) (x.written n name a.1) in
    (some_bytes before some, some_bytes written (subst (λ (k : ℕ). 1 ≤ k) (sym a.3) some))
printable_step s n (Deleting name) x a = tt
printable_step s n (Deleted name) x a = tt
printable_step s n (Come part) x a = sendable_printable part a.1
printable_step s n (Came round fold) x a = fold_printable s round fold x.sent a.1
printable_step s n (Refused kind place why) x a = refused_printable s n kind place why a

-- ---- what an entry keeps

-- regions with these bytes at this name have bytes where they had some
more_bytes : (bytes : Name → List ℕ) (name q : Name) (new : List ℕ) → 1 ≤ length new → 1 ≤ length (bytes q) → 1 ≤ length (at_name bytes name new q)
more_bytes bytes name q new some had = go (name_eq name q) where
  go : (b : Bool) → 1 ≤ length (if b then new else bytes q)
  go true = some
  go false = had

-- it is the region of this name
here_at : (s : State) (name q : Name) → 1 ≤ length (s.bytes name) → name_eq name q ≡ true → 1 ≤ length (s.bytes q)
here_at s name q some same = subst (λ (p : Name). 1 ≤ length (s.bytes p)) (same_name name q same) some

second : (a b : Bool) → (a && b) ≡ true → b ≡ true
second true b e = e
second false b e = absurd (true≢false (sym e))

-- a count, and a mark, of a region with bytes
counted : (s : State) (f : ℕ → Name → ℕ) (n : ℕ) (name : Name) (v m : ℕ) (q : Name) → 1 ≤ length (s.bytes name) → (1 ≤ f m q → 1 ≤ length (s.bytes q)) → 1 ≤ at_pair f n name v m q → 1 ≤ length (s.bytes q)
counted s f n name v m q some old is = go ((n == m) && name_eq name q) refl is where
  go : (b : Bool) → ((n == m) && name_eq name q) ≡ b → 1 ≤ (if b then v else f m q) → 1 ≤ length (s.bytes q)
  go true same h = here_at s name q some (second (n == m) (name_eq name q) same)
  go false same h = old h

marked : (s : State) (n : ℕ) (name : Name) (v : Bool) (m : ℕ) (q : Name) → 1 ≤ length (s.bytes name) → (s.writes m q ≡ true → 1 ≤ length (s.bytes q)) → at_pair s.writes n name v m q ≡ true → 1 ≤ length (s.bytes q)
marked s n name v m q some old is = go ((n == m) && name_eq name q) refl is where
  go : (b : Bool) → ((n == m) && name_eq name q) ≡ b → (if b then v else s.writes m q) ≡ true → 1 ≤ length (s.bytes q)
  go true same h = here_at s name q some (second (n == m) (name_eq name q) same)
  go false same h = old h

-- the stage of a region with bytes
staged : (s : State) (name : Name) (to : Stage) (q : Name) → (is_there to ≡ true → 1 ≤ length (s.bytes name)) → (is_there (s.stage q) ≡ true → 1 ≤ length (s.bytes q)) → is_there (at_name s.stage name to q) ≡ true → 1 ≤ length (s.bytes q)
staged s name to q some old is = go (name_eq name q) refl is where
  go : (b : Bool) → name_eq name q ≡ b → is_there (if b then to else s.stage q) ≡ true → 1 ≤ length (s.bytes q)
  go true same h = here_at s name q (some h) same
  go false same h = old h

-- a region that was created
created : (s : State) (name : Name) (new : List ℕ) (q : Name) → 1 ≤ length new → (is_there (s.stage q) ≡ true → 1 ≤ length (s.bytes q)) → is_there (at_name s.stage name Live q) ≡ true → 1 ≤ length (at_name s.bytes name new q)
created s name new q some old is = go (name_eq name q) is where
  go : (b : Bool) → is_there (if b then Live else s.stage q) ≡ true → 1 ≤ length (if b then new else s.bytes q)
  go true h = some
  go false h = old h

-- a write section that ended
unmarked : (s : State) (n : ℕ) (name : Name) (new : List ℕ) (m : ℕ) (q : Name) → 1 ≤ length new → (s.writes m q ≡ true → 1 ≤ length (s.bytes q)) → at_pair s.writes n name false m q ≡ true → 1 ≤ length (at_name s.bytes name new q)
unmarked s n name new m q some old is = go ((n == m) && name_eq name q) is where
  go : (b : Bool) → (if b then false else s.writes m q) ≡ true → 1 ≤ length (at_name s.bytes name new q)
  go true h = absurd (true≢false (sym h))
  go false h = more_bytes s.bytes name q new some (old h)

-- a node came with one part more
came_more : (s : State) (n : ℕ) (p : Part) (m : ℕ) → ArePrintable (s.came n) → ArePrintable (s.came m) → IsPrintablePart p → ArePrintable (at_node s.came n (s.came n ++ p ∷ []) m)
came_more s n p m own old one = go (n == m) where
  go : (b : Bool) → ArePrintable (if b then s.came n ++ p ∷ [] else s.came m)
  go true = one_more (s.came n) p own one
  go false = old

live_there : (to : Stage) → to ≡ Live → is_there to ≡ true
live_there to e = ap is_there e

filled_step : (s : State) (n : ℕ) (w : What) → AreFilled s → Applies s n w → AreFilled (change s n w)
filled_step s n (Create name size) x a =
    let some : 1 ≤ length (replicate size 0) = subst (λ (k : ℕ). 1 ≤ k) (sym (length-replicate size 0)) a.4 in record {
      there = λ q. created s name (replicate size 0) q some (x.there q);
      mapped = λ m q h. more_bytes s.bytes name q (replicate size 0) some (x.mapped m q h);
      read = λ m q h. more_bytes s.bytes name q (replicate size 0) some (x.read m q h);
      written = λ m q h. more_bytes s.bytes name q (replicate size 0) some (x.written m q h);
      sent = x.sent;
    }
filled_step s n (Map name size) x a = record { there = x.there; mapped = λ m q. counted s s.maps n name (s.maps n name + 1) m q (x.there name a.1) (x.mapped m q); read = x.read; written = x.written; sent = x.sent }
filled_step s n (Unmap name) x a = record { there = x.there; mapped = λ m q. counted s s.maps n name (s.maps n name - 1) m q (x.mapped n name a.1) (x.mapped m q); read = x.read; written = x.written; sent = x.sent }
filled_step s n (Flush name) x a = x
filled_step s n (StartRead name) x a = record { there = x.there; mapped = x.mapped; read = λ m q. counted s s.reads n name (s.reads n name + 1) m q (x.mapped n name a.1) (x.read m q); written = x.written; sent = x.sent }
filled_step s n (Read name seen) x a = record { there = x.there; mapped = x.mapped; read = λ m q. counted s s.reads n name (s.reads n name - 1) m q (x.read n name a.1) (x.read m q); written = x.written; sent = x.sent }
filled_step s n (StartWrite name) x a = record { there = x.there; mapped = x.mapped; read = x.read; written = λ m q. marked s n name true m q (x.mapped n name a.1) (x.written m q); sent = x.sent }
filled_step s n (Write name before new) x a =
    let some : 1 ≤ length new = subst (λ (k : ℕ). 1 ≤ k) (sym a.3) (subst (λ (b : List ℕ). 1 ≤ length b) (sym a.2) (x.written n name a.1)) in record {
      there = λ q h. more_bytes s.bytes name q new some (x.there q h);
      mapped = λ m q h. more_bytes s.bytes name q new some (x.mapped m q h);
      read = λ m q h. more_bytes s.bytes name q new some (x.read m q h);
      written = λ m q. unmarked s n name new m q some (x.written m q);
      sent = x.sent;
    }
filled_step s n (Deleting name) x a = record { there = λ q. staged s name (Going n) q (λ _. x.there name (live_there (s.stage name) a.1)) (x.there q); mapped = x.mapped; read = x.read; written = x.written; sent = x.sent }
filled_step s n (Deleted name) x a = record { there = λ q. staged s name Gone q (λ h. absurd (true≢false (sym h))) (x.there q); mapped = x.mapped; read = x.read; written = x.written; sent = x.sent }
filled_step s n (Come part) x a = record { there = x.there; mapped = x.mapped; read = x.read; written = x.written; sent = λ m. came_more s n part m (x.sent n) (x.sent m) (sendable_printable part a.1) }
filled_step s n (Came round fold) x a = record { there = x.there; mapped = x.mapped; read = x.read; written = x.written; sent = x.sent }
filled_step s n (Refused kind place why) x a = record { there = x.there; mapped = x.mapped; read = x.read; written = x.written; sent = x.sent }

-- ---- a history

filled_start : (n : ℕ) → AreFilled (start n)
filled_start n = record { there = λ q h. absurd (true≢false (sym h)); mapped = λ m q h. absurd (omega (arith, h)); read = λ m q h. absurd (omega (arith, h)); written = λ m q h. absurd (true≢false (sym h)); sent = λ m i. tt }

printable_from : (s : State) (es : List Entry) → AreFilled s → IsHistory s es → AllByRecursion IsPrintable es
printable_from s [] x legal = tt
printable_from s (e ∷ es) x legal = (printable_step s e.node e.what x legal.0.1, printable_from (after s e) es (filled_step s e.node e.what x legal.0.1) legal.1)

filled_from : (s : State) (es : List Entry) → AreFilled s → IsHistory s es → AreFilled (after_all s es)
filled_from s [] x legal = x
filled_from s (e ∷ es) x legal = filled_from (after s e) es (filled_step s e.node e.what x legal.0.1) legal.1

pub printable_history : (n : ℕ) (es : List Entry) → IsHistory (start n) es → AllByRecursion IsPrintable es
printable_history n es legal = printable_from (start n) es (filled_start n) legal

-- what is there at the end has bytes
pub filled_at_end : (n : ℕ) (es : List Entry) (q : Name) → IsHistory (start n) es → is_there ((after_all (start n) es).stage q) ≡ true → (after_all (start n) es).bytes q ≢ []
filled_at_end n es q legal is = some_bytes ((after_all (start n) es).bytes q) ((filled_from (start n) es (filled_start n) legal).there q is)
