-- What stands for a collective call that waits: its part under way, its part gathered, its result under way. There is one
-- of the three, of its own round, and none for a node that waits in no round.
use Rattle.std.proofs.Common.{◌≡◌, ℕ, zero, suc, ◌+◌, ◌≤◌, ◌<◌, ◌==◌, Bool, true, false, None, Some, Option, List, if◌then◌else◌, refl, ap, sym, ◌∙◌, arith}
use Rattle.std.proofs.lemmas.Bool.{cond-true, cond-false, eqb-true, eqb-false, eq-eqb, ne_eqb}
use Rattle.crl_model.specs.declared.name.Name.{Name}
use Rattle.crl_model.specs.declared.collective.Part.{Part}
use Rattle.crl_model.specs.declared.collective.Fold.{Fold}
use Rattle.crl_model.specs.declared.call.CallKind.{CallKind}
use Rattle.crl_model.specs.declared.message.Message.{Message}
use Rattle.crl_model.specs.declared.message.Kind.{Kind}
use Rattle.crl_model.specs.declared.message.Kind.TheVariants as kind
use Rattle.crl_model.specs.Names.{at_node}
use Rattle.crl_protocol.specs.Mail.{Mail, Ask, kind_about}
use Rattle.crl_protocol.specs.Gathering.{Gathering, all_parts, with_part, awaits}
use Rattle.crl_protocol.specs.Node.{Node, ForRound, Activity, Waiting}
use Rattle.crl_protocol.specs.Calls.{results_from}
use Rattle.crl_deeds.specs.Deeds.{Cause, Hears}
use Rattle.crl_deeds.proofs.Laws.{whole_of}
use Rattle.crl_deeds.specs.Tokens.{weigh, Tokens, came}
use Rattle.crl_rounds.specs.Standing.{RoundCall, round_awaited}

-- a round counts where it is this one
abbrev pub of_round : ℕ → ℕ → ℕ
of_round round j = if round == j then 1 else 0

abbrev pub token_kind : ℕ → ℕ → ℕ → ℕ → Kind → ℕ
token_kind i j from to (kind.Come round part) = if from == i then of_round round j else 0
token_kind i j from to (kind.Result round fold) = if to == i then of_round round j else 0
token_kind i j from to _ = 0

abbrev pub token : ℕ → ℕ → Message → ℕ
token i j m = token_kind i j m.sender m.addressee m.kind

abbrev pub there : Option Part → ℕ
there None = 0
there (Some p) = 1

abbrev pub gathered : ℕ → ℕ → Gathering → ℕ
gathered i j g = if g.round == j then there (g.parts i) else 0

abbrev pub gathering : ℕ → ℕ → Node → ℕ
gathering i j n = if n.me == 0 then gathered i j n.gathering else 0

abbrev pub waits_call : ℕ → Option RoundCall → ℕ
waits_call j None = 0
waits_call j (Some c) = of_round c.round j

abbrev pub waits_round : ℕ → Activity → ℕ
waits_round j a = waits_call j (round_awaited a)

mail_none : (i j from to : ℕ) (name : Name) (m : Mail) → token_kind i j from to (kind_about name m) ≡ 0
mail_none i j from to name (Ask write have) = refl
mail_none i j from to name _ = refl

pub no_mail : (i j : ℕ) (from to : ℕ) (name : Name) (m : Mail) → token i j (record { sender = from; addressee = to; kind = kind_about name m }) ≡ 0
no_mail i j from to name m = mail_none i j from to name m

pub tokens : (i j : ℕ) → Tokens (token i j) (gathering i j) (waits_round j)
tokens i j = record {
  whole = λ m. whole_of (token i j) (no_mail i j) m.sender m.addressee m.kind;
  blind = λ n inbox outbox parcels records notes posted. refl;
  answered = λ n. refl;
  free = refl;
  ready = λ answer. refl;
}

-- Small facts of the three.
pub one_round : (r : ℕ) → of_round r r ≡ 1
one_round r = cond-true (r == r) _ _ (eq-eqb r r refl)

pub is_round : (r j : ℕ) → 1 ≤ of_round r j → r ≡ j
is_round r j h = go (r == j) refl h
  where
    go : (b : Bool) → (r == j) ≡ b → 1 ≤ (if b then 1 else 0) → r ≡ j
    go true e w = eqb-true r j e
    go false e w = absurd (omega arith)

pub at_most_one : (j : ℕ) (o : Option RoundCall) → waits_call j o ≤ 1
at_most_one j None = omega arith
at_most_one j (Some c) = go (c.round == j)
  where
    go : (b : Bool) → (if b then 1 else 0) ≤ 1
    go true = omega arith
    go false = omega arith

pub is_there : (o : Option Part) → 1 ≤ there o → (p : Part) × (o ≡ Some p)
is_there None h = absurd (omega arith)
is_there (Some p) h = (p, refl)

pub none_there : (o : Option Part) → there o ≡ 0 → o ≡ None
none_there None h = refl
none_there (Some p) h = absurd (omega arith)

pub awaits_none : (i : ℕ) (g : Gathering) → awaits i g ≡ true → g.parts i ≡ None
awaits_none i g h = go (g.parts i) h
  where
    go : (o : Option Part) → elim o [ None ↦ true | Some p ↦ false ] ≡ true → o ≡ None
    go None w = refl
    go (Some p) w = cc

pub gathers_some : (i : ℕ) (g : Gathering) → awaits i g ≡ false → there (g.parts i) ≡ 1
gathers_some i g h = go (g.parts i) h
  where
    go : (o : Option Part) → elim o [ None ↦ true | Some p ↦ false ] ≡ false → there o ≡ 1
    go None w = cc
    go (Some p) w = refl

call_there : (o : Option RoundCall) (j : ℕ) → 1 ≤ waits_call j o → (c : RoundCall) × (o ≡ Some c) × (c.round ≡ j)
call_there None j h = absurd (omega arith)
call_there (Some c) j h = (c, refl, is_round c.round j h)

activity_of : (a : Activity) (c : RoundCall) → round_awaited a ≡ Some c → a ≡ Waiting (ForRound c.round c.kind)
activity_of (Waiting (ForRound r k)) c e = let same : record { round = r; kind = k } ≡ c = cc in ap (λ (x : RoundCall). Waiting (ForRound x.round x.kind)) same
activity_of _ c e = cc

pub waits_in : (a : Activity) (j : ℕ) → 1 ≤ waits_round j a → (k : CallKind) × (a ≡ Waiting (ForRound j k))
waits_in a j h = let w = call_there (round_awaited a) j h in (w.0.kind, activity_of a w.0 w.1 ∙ ap (λ r. Waiting (ForRound r w.0.kind)) w.2)

-- parts that are put
pub there_put : (parts : ℕ → Option Part) (from : ℕ) (p : Part) (i : ℕ) → parts from ≡ None → there (at_node parts from (Some p) i) ≡ there (parts i) + (if from == i then 1 else 0)
there_put parts from p i e = go (from == i) refl
  where
    go : (b : Bool) → (from == i) ≡ b → there (if b then Some p else parts i) ≡ there (parts i) + (if b then 1 else 0)
    go true w = let z : there (parts i) ≡ 0 = ap (λ k. there (parts k)) (sym (eqb-true from i w)) ∙ ap there e in omega arith
    go false w = omega arith

both_there : (o : Option Part) (r : Option (List Part)) (ps : List Part) → with_part o r ≡ Some ps → (there o ≡ 1) × (qs : List Part) × (r ≡ Some qs)
both_there None r ps e = cc
both_there (Some p) None ps e = cc
both_there (Some p) (Some qs) ps e = (refl, qs, refl)

pub all_there : (m k : ℕ) (parts : ℕ → Option Part) (ps : List Part) (i : ℕ) → all_parts m k parts ≡ Some ps → m ≤ i → i < m + k → there (parts i) ≡ 1
all_there m zero parts ps i e h l = absurd (omega arith)
all_there m (suc k) parts ps i e h l =
    let both = both_there (parts m) (all_parts (m + 1) k parts) ps e in go (m == i) refl both.0 (λ w. all_there (m + 1) k parts both.1 i both.2 w (omega arith))
  where
    go : (b : Bool) → (m == i) ≡ b → there (parts m) ≡ 1 → (m + 1 ≤ i → there (parts i) ≡ 1) → there (parts i) ≡ 1
    go true w here rest = ap (λ x. there (parts x)) (sym (eqb-true m i w)) ∙ here
    go false w here rest = let ne = eqb-false m i w in rest (grind arith)

-- the results that are sent
pub results_before : (i j : ℕ) (n : Node) (m k round : ℕ) (fold : Fold) → i < m → weigh (token i j) (results_from n m k round fold) ≡ 0
results_before i j n m zero round fold h = refl
results_before i j n m (suc k) round fold h =
    let rest = results_before i j n (m + 1) k round fold (omega arith) in
    let here : (if m == i then of_round round j else 0) ≡ 0 = cond-false (m == i) _ _ (ne_eqb m i (λ w. omega arith)) in omega arith

pub results_at : (i j : ℕ) (n : Node) (m k round : ℕ) (fold : Fold) → m ≤ i → i < m + k → weigh (token i j) (results_from n m k round fold) ≡ of_round round j
results_at i j n m zero round fold h l = absurd (omega arith)
results_at i j n m (suc k) round fold h l = go (m == i) refl (λ w. results_at i j n (m + 1) k round fold w (omega arith))
  where
    go : (b : Bool) → (m == i) ≡ b → (m + 1 ≤ i → weigh (token i j) (results_from n (m + 1) k round fold) ≡ of_round round j) → weigh (token i j) (results_from n m (suc k) round fold) ≡ of_round round j
    go true w rest =
        let same = eqb-true m i w in
        let none = results_before i j n (m + 1) k round fold (omega arith) in
        let here : (if m == i then of_round round j else 0) ≡ of_round round j = cond-true (m == i) _ _ w in omega arith
    go false w rest =
        let ne = eqb-false m i w in
        let r = rest (grind arith) in
        let here : (if m == i then of_round round j else 0) ≡ 0 = cond-false (m == i) _ _ w in omega arith

-- What is known of a node where it takes a step, and of the message that comes.
abbrev pub HeardFits : ℕ → ℕ → ℕ → Cause → Type 0
HeardFits count current me (Hears from (kind.Come round part)) = (from < count) × (me ≡ 0) × (round ≡ current)
HeardFits count current me _ = Unit {0}

pub record Facts (count : ℕ) (g : Gathering) (activities : ℕ → Activity) (n : Node) (cause : Cause) : Type 0 where
  pub small : n.me < count
  pub few : n.nodes ≡ count
  pub first : n.me ≡ 0 → n.gathering ≡ g
  pub here : activities n.me ≡ n.activity
  pub between : round_awaited n.activity ≡ None → n.rounds + 1 ≡ g.round
  pub heard : HeardFits count g.round n.me cause
  pub portion : (i j : ℕ) → i < count → came (token i j) n.me cause + gathering i j n ≤ waits_round j (activities i)
