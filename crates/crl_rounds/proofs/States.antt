-- What entries change of the rounds in the single machine.
use Rattle.std.proofs.Common.{◌≡◌, ℕ, zero, suc, ◌+◌, ◌-◌, ◌≤◌, ◌<◌, ◌==◌, None, Some, Option, List, [], ◌∷◌, ◌++◌, length, get_or, refl, ap, sym, ◌∙◌, subst, arith}
use Rattle.std.specs.List.{AllByRecursion}
use Rattle.std.proofs.lemmas.Bool.{cond_both, cond-true, eqb-true, eq-eqb}
use Rattle.std.proofs.Math.Seq.{get_or-append_seam}
use Rattle.std.proofs.lemmas.List.{get_or_append_left}
use Rattle.crl_model.specs.declared.collective.Part.{Part}
use Rattle.crl_model.specs.declared.collective.Part.TheVariants as part
use Rattle.crl_model.specs.declared.collective.Fold.{Fold}
use Rattle.crl_model.specs.declared.collective.Fold.TheVariants as fold
use Rattle.crl_model.specs.declared.call.CallKind.{CallKind}
use Rattle.crl_model.specs.declared.call.Refusal.{Refusal}
use Rattle.crl_model.specs.declared.call.Refusal.TheVariants as refusal
use Rattle.crl_model.specs.declared.entry.Entry.{Entry}
use Rattle.crl_model.specs.declared.entry.Place.{Place}
use Rattle.crl_model.specs.declared.entry.Place.TheVariants.{Region, Round}
use Rattle.crl_model.specs.declared.entry.What.{What}
use Rattle.crl_model.specs.declared.entry.What.TheVariants as what
use Rattle.crl_model.specs.Names.{at_node}
use Rattle.crl_machine.specs.SingleMachine.{State, change, after, after_all, told_after, part_at, parts_from, parts_of}
use Rattle.crl_protocol.specs.Node.{Node}
use Rattle.crl_protocol.specs.Calls.{result_of}
use Rattle.crl_rounds.specs.Standing.{RoundCall, round_awaited, StandsIn, Stands, FitsRounds, FitAll}

abbrev pub NotMixed : Refusal → Type 0
NotMixed refusal.Mixed = ⊥
NotMixed _ = Unit {0}

-- entries that are of no round
abbrev pub IsOtherWhat : What → Type 0
IsOtherWhat (what.Come part) = ⊥
IsOtherWhat (what.Came round fold) = ⊥
IsOtherWhat (what.Refused kind (Region name) why) = NotMixed why
IsOtherWhat (what.Refused kind (Round round) why) = ⊥
IsOtherWhat _ = Unit {0}

abbrev pub IsOtherEntry : Entry → Type 0
IsOtherEntry e = IsOtherWhat e.what

-- they leave the rounds as they are
pub record SameRounds (s t : State) : Type 0 where
  pub nodes : t.nodes ≡ s.nodes
  pub came : t.came ≡ s.came
  pub told : (i : ℕ) → t.told i ≡ s.told i

pub same_self : (s : State) → SameRounds s s
same_self s = record { nodes = refl; came = refl; told = λ i. refl }

told_same : (why : Refusal) (x : ℕ) → NotMixed why → told_after why x ≡ x
told_same refusal.Mixed x h = absurd h
told_same _ x h = refl

at_same : (f : ℕ → ℕ) (n v i : ℕ) → v ≡ f n → at_node f n v i ≡ f i
at_same f n v i e = cond_both (n == i) v (f i) (λ x. x ≡ f i) (λ w. e ∙ ap f (eqb-true n i w)) (λ w. refl)

pub refused_same : (s : State) (n : ℕ) (kind : CallKind) (place : Place) (why : Refusal) → NotMixed why → SameRounds s (change s n (what.Refused kind place why))
refused_same s n kind place why h = record { nodes = refl; came = refl; told = λ i. at_same s.told n (told_after why (s.told n)) i (told_same why (s.told n) h) }

change_same : (s : State) (n : ℕ) (w : What) → IsOtherWhat w → SameRounds s (change s n w)
change_same s n (what.Come part) h = absurd h
change_same s n (what.Came round fold) h = absurd h
change_same s n (what.Refused kind (Region name) why) h = refused_same s n kind (Region name) why h
change_same s n (what.Refused kind (Round round) why) h = absurd h
change_same s n _ h = record { nodes = refl; came = refl; told = λ i. refl }

pub all_same : (s : State) (es : List Entry) → AllByRecursion IsOtherEntry es → SameRounds s (after_all s es)
all_same s [] h = same_self s
all_same s (e ∷ es) h =
    let one = change_same s e.node e.what h.0 in
    let rest = all_same (after s e) es h.1 in record { nodes = rest.nodes ∙ one.nodes; came = rest.came ∙ one.came; told = λ i. rest.told i ∙ one.told i }

pub told_result : (s : State) (n round : ℕ) (kind : CallKind) (f : Fold) → (change s n (result_of round kind f)).told ≡ at_node s.told n (s.told n + 1)
told_result s n round kind fold.Mixed = refl
told_result s n round kind _ = refl

pub came_result : (s : State) (n round : ℕ) (kind : CallKind) (f : Fold) → (change s n (result_of round kind f)).came ≡ s.came
came_result s n round kind fold.Mixed = refl
came_result s n round kind _ = refl

pub nodes_result : (s : State) (n round : ℕ) (kind : CallKind) (f : Fold) → (change s n (result_of round kind f)).nodes ≡ s.nodes
nodes_result s n round kind fold.Mixed = refl
nodes_result s n round kind _ = refl

pub after_append : (s : State) (xs ys : List Entry) → after_all s (xs ++ ys) ≡ after_all (after_all s xs) ys
after_append s [] ys = refl
after_append s (x ∷ xs) ys = after_append (after s x) xs ys

-- More parts: those that there were stay.
pub record Grows (s t : State) : Type 0 where
  pub nodes : t.nodes ≡ s.nodes
  pub longer : (i : ℕ) → length (s.came i) ≤ length (t.came i)
  pub part : (i round : ℕ) → 1 ≤ round → round ≤ length (s.came i) → part_at t i round ≡ part_at s i round

part_list : List Part → ℕ → Part
part_list xs round = get_or xs (round - 1) part.Barrier

pub grows_same : (s t : State) → t.nodes ≡ s.nodes → t.came ≡ s.came → Grows s t
grows_same s t nodes came = record {
  nodes = nodes;
  longer = λ i. subst (λ (f : ℕ → List Part). length (s.came i) ≤ length (f i)) (sym came) (omega arith);
  part = λ i round some few. ap (λ (f : ℕ → List Part). get_or (f i) (round - 1) part.Barrier) came;
}

length_one : (xs : List Part) (p : Part) → length (xs ++ p ∷ []) ≡ length xs + 1
length_one [] p = refl
length_one (x ∷ xs) p = let h = length_one xs p in omega arith

pub length_put : (f : ℕ → List Part) (n : ℕ) (p : Part) → length (at_node f n (f n ++ p ∷ []) n) ≡ length (f n) + 1
length_put f n p = ap length (cond-true (n == n) (f n ++ p ∷ []) (f n) (eq-eqb n n refl)) ∙ length_one (f n) p

pub grows_one : (s t : State) (n : ℕ) (p : Part) → t.nodes ≡ s.nodes → t.came ≡ at_node s.came n (s.came n ++ p ∷ []) → Grows s t
grows_one s t n p nodes came = record { nodes = nodes; longer = longer; part = same }
  where
    longer : (i : ℕ) → length (s.came i) ≤ length (t.came i)
    longer i =
        subst (λ (f : ℕ → List Part). length (s.came i) ≤ length (f i)) (sym came)
        (cond_both (n == i) (s.came n ++ p ∷ []) (s.came i) (λ xs. length (s.came i) ≤ length xs)
        (λ e. let one = length_one (s.came n) p in let it : length (s.came i) ≡ length (s.came n) = ap (λ k. length (s.came k)) (sym (eqb-true n i e)) in omega arith) (λ e. omega arith))

    same : (i round : ℕ) → 1 ≤ round → round ≤ length (s.came i) → part_at t i round ≡ part_at s i round
    same i round some few =
        ap (λ (f : ℕ → List Part). get_or (f i) (round - 1) part.Barrier) came
        ∙ cond_both (n == i) (s.came n ++ p ∷ []) (s.came i) (λ xs. get_or xs (round - 1) part.Barrier ≡ part_at s i round)
        (λ e. let it : n ≡ i = eqb-true n i e in
        subst (λ k. get_or (s.came k ++ p ∷ []) (round - 1) part.Barrier ≡ part_at s i round) (sym it) (get_or_append_left (s.came i) (p ∷ []) part.Barrier (round - 1) (omega arith))) (λ e. refl)

pub part_last_came : (s t : State) (n : ℕ) (p : Part) → t.came ≡ at_node s.came n (s.came n ++ p ∷ []) → part_at t n (length (s.came n) + 1) ≡ p
part_last_came s t n p came =
    ap (λ (f : ℕ → List Part). get_or (f n) (length (s.came n) + 1 - 1) part.Barrier) came
    ∙ ap (λ xs. get_or xs (length (s.came n) + 1 - 1) part.Barrier) (cond-true (n == n) (s.came n ++ p ∷ []) (s.came n) (eq-eqb n n refl))
    ∙ ap (λ k. get_or (s.came n ++ p ∷ []) k part.Barrier) (omega arith) ∙ get_or-append_seam (s.came n) p [] part.Barrier

pub parts_grow : (s t : State) (count round m k : ℕ) → Grows s t → 1 ≤ round → ((i : ℕ) → i < count → round ≤ length (s.came i)) → m + k ≤ count → parts_from t round m k ≡ parts_from s round m k
parts_grow s t count round m zero g some all few = refl
parts_grow s t count round m (suc k) g some all few =
    ap (λ p. p ∷ parts_from t round (m + 1) k) (g.part m round some (all m (omega arith))) ∙ ap (λ ps. part_at s m round ∷ ps) (parts_grow s t count round (m + 1) k g some all (omega arith))

pub parts_of_grow : (s t : State) (count round : ℕ) → Grows s t → s.nodes ≡ count → 1 ≤ round → ((i : ℕ) → i < count → round ≤ length (s.came i)) → parts_of t round ≡ parts_of s round
parts_of_grow s t count round g few some all = ap (λ k. parts_from t round 0 k) g.nodes ∙ parts_grow s t count round 0 s.nodes g some all (omega arith)

-- Where a node stands.
stands_in_same : (k : ℕ) (s t : State) (i rounds : ℕ) (o : Option RoundCall) → t.told i ≡ s.told i → part_at t i rounds ≡ part_at s i rounds → StandsIn k s i rounds o → StandsIn k t i rounds o
stands_in_same k s t i rounds None told same h = record { told = told ∙ h.told; next = h.next }
stands_in_same k s t i rounds (Some c) told same h =
    record { own = h.own; kind = h.kind ∙ sym (ap (λ p. Rattle.crl_model.specs.Calls.kind_of p) same); told = ap (λ x. x + 1) told ∙ h.told; near = h.near }

pub stands_same : (k : ℕ) (s t : State) (i : ℕ) (n m : Node) → t.came i ≡ s.came i → t.told i ≡ s.told i → m.rounds ≡ n.rounds → round_awaited m.activity ≡ round_awaited n.activity → Stands k s i n → Stands k t i m
stands_same k s t i n m came told rounds awaited h = record {
  came = ap length came ∙ h.came ∙ sym rounds;
  call = subst (λ r. StandsIn k t i r (round_awaited m.activity)) (sym rounds)
      (subst (λ o. StandsIn k t i n.rounds o) (sym awaited) (stands_in_same k s t i n.rounds (round_awaited n.activity) told (ap (λ xs. get_or xs (n.rounds - 1) part.Barrier) came) h.call));
}

-- The entries of an event, each in its place.
fits_other : (s : State) (n : ℕ) (w : What) → IsOtherWhat w → FitsRounds s n w
fits_other s n (what.Come part) h = absurd h
fits_other s n (what.Came round fold) h = absurd h
fits_other s n (what.Refused kind (Region name) why) h = tt
fits_other s n (what.Refused kind (Round round) why) h = absurd h
fits_other s n _ h = tt

pub all_fit : (s : State) (es : List Entry) → AllByRecursion IsOtherEntry es → FitAll s es
all_fit s [] h = tt
all_fit s (e ∷ es) h = (fits_other s e.node e.what h.0, all_fit (after s e) es h.1)
