-- The parts of a round, and to which rounds every node came.
use Rattle.std.proofs.Common.{◌≡◌, ℕ, zero, suc, ◌+◌, ◌-◌, ◌<◌, ◌≤◌, Bool, true, false, List, [], ◌∷◌, length, get_or, refl, sym, ap, subst, ◌∙◌, arith, add-zero, true≢false}
use Rattle.std.proofs.lemmas.Grind.{common_steps}
use Rattle.std.specs.Prelude.{nat_le}
use Rattle.std.specs.Bool.{MatchBool}
use Rattle.std.specs.List.{list_all}
use Rattle.std.specs.declared.option.Option.{Option}
use Rattle.crl_model.specs.declared.name.Name.{Name}
use Rattle.crl_machine.specs.declared.region.Region.{Region}
use Rattle.crl_machine.specs.declared.node_row.NodeRow.{NodeRow}
use Rattle.crl_model.specs.declared.collective.Part.{Part}
use Rattle.crl_model.specs.declared.collective.Part.TheVariants as part
use Rattle.crl_model.specs.declared.collective.Fold.{Fold}
use Rattle.crl_model.specs.declared.collective.Fold.TheVariants.{Mixed}
use Rattle.crl_model.specs.Folds.{Agrees, IsMixed}
use Rattle.crl_model.specs.FoldOf.{fold_of}
use Rattle.crl_machine.specs.Rounds.{cames, parts_in}
use Rattle.crl_machine.specs.Seen.{state_of}
use Rattle.crl_machine.specs.SingleMachine.{State, parts_from, parts_of, IsFull}
use Rattle.crl_machine.specs.Tables.{came_at}
use Rattle.crl_model.proofs.Laws.{agrees_of, fold_agreed}

-- whether every node came to the round, as the state has it
all_came : (ds : List NodeRow) (round : ℕ) → list_all (λ (d : NodeRow). nat_le round (length d.came.items)) ds ≡ true → (m : ℕ) → m < length ds → round ≤ length (came_at ds m)
all_came [] round e m h = absurd (omega (arith, h))
all_came (d ∷ ds) round e zero h = grind (arith, common_steps)
all_came (d ∷ ds) round e (suc m) h = all_came ds round (grind (arith, common_steps)) m (omega (arith, h))

not_all_came : (ds : List NodeRow) (round : ℕ) → list_all (λ (d : NodeRow). nat_le round (length d.came.items)) ds ≡ false → ((m : ℕ) → m < length ds → round ≤ length (came_at ds m)) → ⊥
not_all_came [] round e h = true≢false e
not_all_came (d ∷ ds) round e h =
    let here : round ≤ length d.came.items = h 0 (omega arith) in
    not_all_came ds round (grind (arith, common_steps, here)) (λ m inside. h (suc m) (omega (arith, inside)))

pub full_or_not : (nodes : ℕ) (G : Name → Option Region) (ds : List NodeRow) (n round : ℕ) (b : Bool) → length ds ≡ nodes → b ≡ list_all (λ (d : NodeRow). nat_le round (length d.came.items)) ds
    → round ≡ (state_of nodes G ds).told n + 1 → round ≡ length ((state_of nodes G ds).came n) → MatchBool b (IsFull (state_of nodes G ds) n round) (IsFull (state_of nodes G ds) n round → ⊥)
full_or_not nodes G ds n round true fit all told came = (told, came, λ m inside. all_came ds round (sym all) m (omega (arith, fit, inside)))
full_or_not nodes G ds n round false fit all told came = λ full. not_all_came ds round (sym all) (λ m inside. full.2 m (omega (arith, fit, inside)))

-- of each node its parts, as the state has them
came_is : (ds : List NodeRow) (n : ℕ) → get_or (cames ds) n [] ≡ came_at ds n
came_is [] n = refl
came_is (d ∷ ds) zero = refl
came_is (d ∷ ds) (suc n) = came_is ds n

parts_along : (s : State) (round n : ℕ) (ds : List NodeRow) → ((j : ℕ) → s.came (n + j) ≡ came_at ds j) → parts_from s round n (length ds) ≡ parts_in part.Barrier (round - 1) (cames ds)
parts_along s round n [] h = refl
parts_along s round n (d ∷ ds) h =
    let here : s.came n ≡ d.came.items = ap s.came (sym (add-zero n)) ∙ h 0 in
    let rest = parts_along s round (n + 1) ds (λ j. let same : (n + 1) + j ≡ n + suc j = omega arith in ap s.came same ∙ h (suc j)) in
    λ i. get_or (here i) (round - 1) part.Barrier ∷ rest i

pub parts_are : (nodes : ℕ) (G : Name → Option Region) (ds : List NodeRow) (round : ℕ) → length ds ≡ nodes → parts_of (state_of nodes G ds) round ≡ parts_in part.Barrier (round - 1) (cames ds)
parts_are nodes G ds round fit =
    subst (λ k. parts_from (state_of nodes G ds) round 0 k ≡ parts_in part.Barrier (round - 1) (cames ds)) fit
    (parts_along (state_of nodes G ds) round 0 ds (λ j. let same : 0 + j ≡ j = omega arith in ap (came_at ds) same))

-- there are parts, where there are nodes
pub some_parts : (s : State) (round n : ℕ) → n < s.nodes → 0 < length (parts_of s round)
some_parts s round n inside = omega (arith, inside, many s.nodes 0)
  where
    many : (k m : ℕ) → length (parts_from s round m k) ≡ k
    many zero m = refl
    many (suc k) m = let rest = many k (m + 1) in omega (arith, rest)

-- on what the parts agree, and that they don't
agree_on : (ps : List Part) (f g : Fold) → f ≡ fold_of ps → f ≡ g → (g ≡ Mixed → ⊥) → Agrees ps g
agree_on ps f g is same some = subst (Agrees ps) (sym is ∙ same) (agrees_of ps (λ e. some (sym same ∙ is ∙ e)))

are_mixed : (ps : List Part) → Mixed ≡ fold_of ps → 0 < length ps → IsMixed ps
are_mixed ps is some f a = subst (Agrees ps) (sym (fold_agreed ps f some a) ∙ sym is) a

arent_mixed : (ps : List Part) (f : Fold) → f ≡ fold_of ps → (f ≡ Mixed → ⊥) → IsMixed ps → ⊥
arent_mixed ps f is some mixed = mixed (fold_of ps) (agrees_of ps (λ e. some (is ∙ e)))

-- the tests of agreement, by whether the fold of the parts is this
pub agree_by : (ps : List Part) (f : Fold) (b : Bool) → 0 < length ps → (f ≡ Mixed → ⊥) → MatchBool b (f ≡ fold_of ps) (f ≡ fold_of ps → ⊥) → MatchBool b (Agrees ps f) (Agrees ps f → ⊥)
agree_by ps f true some apart is = agree_on ps f f is refl apart
agree_by ps f false some apart isnt = λ a. isnt (sym (fold_agreed ps f some a))

pub mixed_by : (ps : List Part) (b : Bool) → 0 < length ps → MatchBool b (Mixed ≡ fold_of ps) (Mixed ≡ fold_of ps → ⊥) → MatchBool b (IsMixed ps) (IsMixed ps → ⊥)
mixed_by ps true some is = are_mixed ps is some
mixed_by ps false some isnt = arent_mixed ps (fold_of ps) refl (λ e. isnt (sym e))
