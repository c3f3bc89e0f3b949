-- What a node may still send, by names: a step changes it at one name.
use Rattle.std.proofs.Common.{◌≡◌, ℕ, zero, suc, ◌+◌, ◌-◌, ◌*◌, ◌≤◌, ◌==◌, Bool, true, false, None, Some, Option, List, [], ◌∷◌, ◌++◌, if◌then◌else◌, refl, ap, sym, ◌∙◌, subst, arith}
use Rattle.std.specs.List.{AllByRecursion}
use Rattle.std.proofs.lemmas.Bool.{cond_both, cond-true, cond-false}
use Rattle.crl_model.specs.declared.name.Name.{Name}
use Rattle.crl_model.specs.declared.collective.Part.{Part}
use Rattle.crl_model.specs.declared.stage.Stage.{Stage}
use Rattle.crl_model.specs.declared.stage.Stage.TheVariants as stage
use Rattle.crl_model.specs.Names.{name_eq, at_name, at_node}
use Rattle.crl_protocol.specs.Home.{Home, HomeStep, new_home}
use Rattle.crl_protocol.specs.Remote.{Remote, RemoteStep, remote_flushes}
use Rattle.crl_protocol.specs.Lifetimes.{Lifetime, new_lifetime}
use Rattle.crl_protocol.specs.Node.{Node, Activity, Waiting, ForSection, is_mine, home_of, lifetime_of, with_home, with_remote, with_lifetime, next_name, serials_used, letter_messages, mail_messages}
use Rattle.crl_protocol.specs.Calls.{creates}
use Rattle.crl_deeds.specs.Deeds.{parting, forgotten}
use Rattle.crl_deeds.proofs.Laws.{same_name, name_self, home_put, home_end, home_none, lifetime_put}
use Rattle.crl_deeds.specs.NodeFacts.{CopyFits}
use Rattle.crl_bound.proofs.Costs.{cost, cost_letters, cost_mails}
use Rattle.crl_bound.proofs.Homes.{table_credit, HomeCredit, new_credit}
use Rattle.crl_bound.proofs.Sides.{side_credit, SideCredit, flush_credits}
use Rattle.crl_pieces.specs.Pieces.{count}

-- who deletes a region of this home from elsewhere is still to be told
abbrev pub stage_credit : ℕ → Stage → ℕ
stage_credit me (stage.Going deleter) = if deleter == me then 0 else 1
stage_credit me _ = 0

abbrev pub name_credit : (Name → ℕ) → Node → Name → ℕ
name_credit P n q = side_credit (P q) (n.remotes q) + table_credit (P q) n.me (home_of n q) + stage_credit n.me (lifetime_of n q).stage

-- a node that waits for a section of another home's region will have a copy of it
abbrev pub wait_credit : (Name → ℕ) → ℕ → Activity → ℕ
wait_credit P me (Waiting (ForSection q)) = if q.home == me then 0 else 2 * P q
wait_credit P me _ = 0

-- who came to the round is to be told its result
abbrev pub there : Option Part → ℕ
there None = 0
there (Some p) = 1

abbrev pub parts_credit : ℕ → ℕ → (ℕ → Option Part) → ℕ
parts_credit m zero parts = 0
parts_credit m (suc k) parts = there (parts m) + parts_credit (m + 1) k parts

abbrev pub fixed_credit : (Name → ℕ) → Node → ℕ
fixed_credit P n = wait_credit P n.me n.activity + parts_credit 1 (n.nodes - 1) n.gathering.parts

-- A change at one name, with so much sent.
pub record Moved (before after : Name → ℕ) (spent slack : ℕ) : Type 0 where
  pub name : Name
  pub others : (q : Name) → name_eq name q ≡ false → after q ≤ before q
  pub own : after name + spent ≤ before name + slack

some_name : Name
some_name = record { home = 0; serial = 0 }

pub still_moved : (c : Name → ℕ) (spent slack : ℕ) → spent ≤ slack → Moved c c spent slack
still_moved c spent slack h = record { name = some_name; others = λ q x. omega arith; own = omega arith }

-- a sum over names, each of them once
abbrev pub sum_names : (Name → ℕ) → List Name → ℕ
sum_names c [] = 0
sum_names c (q ∷ qs) = c q + sum_names c qs

abbrev pub NotIn : Name → List Name → Type 0
NotIn name qs = AllByRecursion (λ q. name_eq name q ≡ false) qs

abbrev pub Distinct : List Name → Type 0
Distinct [] = Unit {0}
Distinct (q ∷ qs) = NotIn q qs × Distinct qs

abbrev has_name : Name → List Name → Bool
has_name name [] = false
has_name name (q ∷ qs) = if name_eq name q then true else has_name name qs

not_in : (name : Name) (qs : List Name) → has_name name qs ≡ false → NotIn name qs
not_in name [] e = tt
not_in name (q ∷ qs) e = go (name_eq name q) refl e (not_in name qs)
  where
    go : (b : Bool) → name_eq name q ≡ b → (if b then true else has_name name qs) ≡ false → (has_name name qs ≡ false → NotIn name qs) → NotIn name (q ∷ qs)
    go true w x rest = cc
    go false w x rest = (w, rest x)

sum_others : (name : Name) (c d : Name → ℕ) (qs : List Name) → ((q : Name) → name_eq name q ≡ false → d q ≤ c q) → NotIn name qs → sum_names d qs ≤ sum_names c qs
sum_others name c d [] h away = omega arith
sum_others name c d (q ∷ qs) h away = let one = h q away.0 in let rest = sum_others name c d qs h away.1 in omega arith

sum_own : (name : Name) (c d : Name → ℕ) (spent slack : ℕ) (qs : List Name) → ((q : Name) → name_eq name q ≡ false → d q ≤ c q) → d name + spent ≤ c name + slack → Distinct qs → has_name name qs ≡ true → sum_names d qs + spent ≤ sum_names c qs + slack
sum_own name c d spent slack [] h own distinct e = cc
sum_own name c d spent slack (q ∷ qs) h own distinct e = go (name_eq name q) refl e (sum_own name c d spent slack qs h own distinct.1)
  where
    go : (b : Bool) → name_eq name q ≡ b → (if b then true else has_name name qs) ≡ true → (has_name name qs ≡ true → sum_names d qs + spent ≤ sum_names c qs + slack) → sum_names d (q ∷ qs) + spent ≤ sum_names c (q ∷ qs) + slack
    go true w x next =
        let same : name ≡ q = same_name name q w in
        let rest = sum_others name c d qs h (subst (λ p. NotIn p qs) (sym same) distinct.0) in
        let a : d q ≡ d name = ap d (sym same) in
        let b : c q ≡ c name = ap c (sym same) in omega arith
    go false w x next = let one = h q w in let rest = next x in omega arith

pub record Covers (before after : Name → ℕ) (spent slack : ℕ) (qs : List Name) : Type 0 where
  pub names : List Name
  pub distinct : Distinct names
  pub few : sum_names after qs + spent ≤ sum_names before names + slack

pub covers : (c d : Name → ℕ) (spent slack : ℕ) (qs : List Name) → Moved c d spent slack → Distinct qs → Covers c d spent slack qs
covers c d spent slack qs m distinct = go (has_name m.name qs) refl
  where
    go : (b : Bool) → has_name m.name qs ≡ b → Covers c d spent slack qs
    go true e = record { names = qs; distinct = distinct; few = sum_own m.name c d spent slack qs m.others m.own distinct e }
    go false e =
        let away = not_in m.name qs e in
        let rest = sum_others m.name c d qs m.others away in
        let own = m.own in record { names = m.name ∷ qs; distinct = (away, distinct); few = omega arith }

-- At a home, at another node's side, and of a lifetime.
pub home_moved : (P : Name → ℕ) (nodes : ℕ) (n : Node) (name : Name) (h : Home) (s : HomeStep) (slack : ℕ) → home_of n name ≡ Some h → HomeCredit (P name) n.me h s slack
    → Moved (name_credit P n) (name_credit P (with_home name s.home n)) (cost P nodes (letter_messages n name s.posts)) slack
home_moved P nodes n name h s slack is c = record {
  name = name;
  others = λ q x. (let e : table_credit (P q) n.me (home_of (with_home name s.home n) q) ≡ table_credit (P q) n.me (home_of n q) = ap (table_credit (P q) n.me) (home_put n name h s.home is q ∙ cond-false (name_eq name q) (Some s.home) (home_of n q) x) in omega arith);
  own = (let e : table_credit (P name) n.me (home_of (with_home name s.home n) name) ≡ table_credit (P name) n.me (Some s.home) = ap (table_credit (P name) n.me) (home_put n name h s.home is name ∙ cond-true (name_eq name name) (Some s.home) (home_of n name) (name_self name)) in
      let f : table_credit (P name) n.me (home_of n name) ≡ table_credit (P name) n.me (Some h) = ap (table_credit (P name) n.me) is in
      let paid = c.credit in
      let sent = cost_letters P nodes n name s.posts in omega arith);
}

pub side_put : (P : Name → ℕ) (n : Node) (name q : Name) (o : Option Remote) → name_eq name q ≡ false → side_credit (P q) ((with_remote name o n).remotes q) ≡ side_credit (P q) (n.remotes q)
side_put P n name q o x = ap (side_credit (P q)) (cond-false (name_eq name q) o (n.remotes q) x)

pub side_there : (P : Name → ℕ) (n : Node) (name : Name) (o : Option Remote) → side_credit (P name) ((with_remote name o n).remotes name) ≡ side_credit (P name) o
side_there P n name o = ap (side_credit (P name)) (cond-true (name_eq name name) o (n.remotes name) (name_self name))

pub side_moved : (P : Name → ℕ) (nodes : ℕ) (n : Node) (name : Name) (r : Remote) (s : RemoteStep) (slack : ℕ) → n.remotes name ≡ Some r → SideCredit (P name) r s slack
    → Moved (name_credit P n) (name_credit P (with_remote name (Some s.remote) n)) (cost P nodes (mail_messages n name s.posts)) slack
side_moved P nodes n name r s slack is c = record {
  name = name;
  others = λ q x. (let e = side_put P n name q (Some s.remote) x in omega arith);
  own = (let e = side_there P n name (Some s.remote) in
      let f : side_credit (P name) (n.remotes name) ≡ side_credit (P name) (Some r) = ap (side_credit (P name)) is in
      let sent = cost_mails P nodes n name s.posts in omega arith);
}

pub forget_moved : (P : Name → ℕ) (nodes : ℕ) (n : Node) (name : Name) (o : Option Remote) → n.remotes name ≡ o → ((r : Remote) → o ≡ Some r → CopyFits r.copy r.size × (P name ≡ count r.size))
    → Moved (name_credit P n) (name_credit P (forgotten name n)) (cost P nodes (parting n name o)) 0
forget_moved P nodes n name None is fits = record {
  name = name;
  others = λ q x. (let e = side_put P n name q None x in omega arith);
  own = let e = side_there P n name None in omega arith;
}
forget_moved P nodes n name (Some r) is fits =
    let f = fits r refl in
    let c = flush_credits (P name) r f.0 f.1 in record {
      name = name;
      others = λ q x. (let e = side_put P n name q None x in omega arith);
      own = (let e = side_there P n name None in
          let g : side_credit (P name) (n.remotes name) ≡ side_credit (P name) (Some r) = ap (side_credit (P name)) is in
          let sent = cost_mails P nodes n name (remote_flushes r).posts in omega arith);
    }

pub stage_moved : (P : Name → ℕ) (n : Node) (name : Name) (lifetime : Lifetime) (s t : Stage) (spent slack : ℕ) → is_mine n name ≡ true → (lifetime_of n name).stage ≡ s → lifetime.stage ≡ t → stage_credit n.me t + spent ≤ stage_credit n.me s + slack
    → Moved (name_credit P n) (name_credit P (with_lifetime name lifetime n)) spent slack
stage_moved P n name lifetime s t spent slack mine was now h = record {
  name = name;
  others = λ q x. (let e : stage_credit n.me (lifetime_of (with_lifetime name lifetime n) q).stage ≡ stage_credit n.me (lifetime_of n q).stage = ap (λ (l : Lifetime). stage_credit n.me l.stage) (lifetime_put n name lifetime mine q ∙ cond-false (name_eq name q) lifetime (lifetime_of n q) x) in omega arith);
  own = (let e : stage_credit n.me (lifetime_of (with_lifetime name lifetime n) name).stage ≡ stage_credit n.me t = ap (λ (l : Lifetime). stage_credit n.me l.stage) (lifetime_put n name lifetime mine name ∙ cond-true (name_eq name name) lifetime (lifetime_of n name) (name_self name)) ∙ ap (stage_credit n.me) now in
      let f : stage_credit n.me (lifetime_of n name).stage ≡ stage_credit n.me s = ap (stage_credit n.me) was in omega arith);
}

made_stage : (n : Node) (size : ℕ) (q : Name) → stage_credit n.me (lifetime_of (creates size n).node q).stage ≤ stage_credit n.me (lifetime_of n q).stage
made_stage n size q = go (is_mine n q)
  where
    go : (b : Bool) → stage_credit n.me (if b then at_node n.lifetimes (serials_used n + 1) new_lifetime q.serial else Rattle.crl_protocol.specs.Lifetimes.no_lifetime).stage ≤ stage_credit n.me (if b then n.lifetimes q.serial else Rattle.crl_protocol.specs.Lifetimes.no_lifetime).stage
    go true = cond_both (serials_used n + 1 == q.serial) new_lifetime (n.lifetimes q.serial) (λ (l : Lifetime). stage_credit n.me l.stage ≤ stage_credit n.me (n.lifetimes q.serial).stage) (λ w. omega arith) (λ w. omega arith)
    go false = omega arith

pub made_moved : (P : Name → ℕ) (n : Node) (size slack : ℕ) → Moved (name_credit P n) (name_credit P (creates size n).node) 0 slack
made_moved P n size slack =
    let name = next_name n in
    let at : (q : Name) → home_of (creates size n).node q ≡ at_name (home_of n) name (Some (new_home n.nodes size)) q = home_end n (creates size n).node (new_home n.nodes size) refl refl in
    record {
      name = name;
      others = λ q x. (let e : table_credit (P q) n.me (home_of (creates size n).node q) ≡ table_credit (P q) n.me (home_of n q) = ap (table_credit (P q) n.me) (at q ∙ cond-false (name_eq name q) (Some (new_home n.nodes size)) (home_of n q) x) in
          let s = made_stage n size q in omega arith);
      own = (let e : table_credit (P name) n.me (home_of (creates size n).node name) ≡ table_credit (P name) n.me (Some (new_home n.nodes size)) = ap (table_credit (P name) n.me) (at name ∙ cond-true (name_eq name name) (Some (new_home n.nodes size)) (home_of n name) (name_self name)) in
          let none = new_credit (P name) n.me n.nodes size in
          let s = made_stage n size name in omega arith);
    }

pub used_moved : (P : Name → ℕ) (n : Node) (slack : ℕ) → Moved (name_credit P n) (name_credit P (record n { homes = n.homes ++ None ∷ [] })) 0 slack
used_moved P n slack = record {
  name = some_name;
  others = λ q x. (let e = ap (table_credit (P q) n.me) (home_none n q) in omega arith);
  own = let e = ap (table_credit (P some_name) n.me) (home_none n some_name) in omega arith;
}
