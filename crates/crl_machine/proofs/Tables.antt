-- What the machine's tables agree on after a region or a row was written.
use Rattle.std.proofs.Common.{◌≡◌, ℕ, ◌+◌, ◌<◌, ◌≤◌, Bool, true, false, Ok, Err, ◌==◌, List, length, set, refl, sym, ap, subst, ◌∙◌, arith, if◌then◌else◌, true≢false}
use Rattle.std.proofs.lemmas.Bool.{eqb-true, eqb-false, eq-eqb}
use Rattle.std.specs.Option.{option_map_or}
use Rattle.std.specs.declared.option.Option.{Option}
use Rattle.std.specs.declared.option.Option.TheVariants.{None, Some}
use Rattle.crl_model.specs.declared.name.Name.{Name}
use Rattle.crl_machine.specs.declared.region.Region.{Region}
use Rattle.crl_machine.specs.declared.share.Share.{Share}
use Rattle.crl_model.specs.declared.stage.Stage.{Stage}
use Rattle.crl_model.specs.declared.stage.Stage.TheVariants.{Unknown, Live, Going, Gone}
use Rattle.crl_machine.specs.declared.node_row.NodeRow.{NodeRow}
use Rattle.crl_model.specs.Names.{name_eq, at_node, at_name}
use Rattle.crl_machine.specs.Tables.{used_at, deletes_at}
use Rattle.crl_machine.specs.Regions.{Agree, TablesAgree, RegionFits, RegionsFit, HasShare, stage_in, is_in}
use Rattle.std.specs.Prelude.{Result, OnOk}
use Rattle.crl_model.proofs.Laws.{same_name, name_eq_self}
use Rattle.crl_table.proofs.Laws.{at_name_same}
use Rattle.crl_machine.proofs.Functions.{at_node_same}
use Rattle.crl_machine.proofs.RowSet.{row_set}
use Rattle.crl_machine.proofs.States.{read_put}

-- agreement over equal functions
pub agree_by : {there there' : Name → Bool} {stage stage' : Name → Stage} {used used' : ℕ → ℕ} {deletes deletes' : ℕ → Option Name}
    → there' ≡ there → stage' ≡ stage → used' ≡ used → deletes' ≡ deletes → Agree there stage used deletes → Agree there' stage' used' deletes'
agree_by {there = there} {there' = there'} {stage = stage} {stage' = stage'} {used = used} {used' = used'} {deletes = deletes} t s u d a =
    subst (λ x. Agree there' stage' used' x) (sym d) (subst (λ x. Agree there' stage' x deletes) (sym u)
    (subst (λ x. Agree there' x used deletes) (sym s) (subst (λ x. Agree x stage used deletes) (sym t) a)))

some_name : (a b : Name) → ◌≡◌ {A = Option Name} (Some a) (Some b) → a ≡ b
some_name a b e = cc

going_node : (a b : ℕ) → Going a ≡ Going b → a ≡ b
going_node a b e = cc

no_name : {q : Name} {o : Option Name} → o ≡ None → o ≡ Some q → ⊥
no_name e h = cc

-- the node's delete of a live region begins, and is noted in its row
begun : (there : Name → Bool) (stage : Name → Stage) (used : ℕ → ℕ) (deletes : ℕ → Option Name) (n : ℕ) (name : Name)
    → stage name ≡ Live → deletes n ≡ None → Agree there stage used deletes → Agree there (at_name stage name (Going n)) used (at_node deletes n (Some name))
begun there stage used deletes n name live none a = record {
  fresh = a.fresh;
  going = λ q m h. is_noted q m (name_eq name q) (n == m) refl refl h;
  noted = λ q m h. is_going q m (name_eq name q) (n == m) refl refl h;
}
  where
    is_noted : (q : Name) (m : ℕ) (b c : Bool) → name_eq name q ≡ b → (n == m) ≡ c → (if b then Going n else stage q) ≡ Going m → (if c then Some name else deletes m) ≡ Some q
    is_noted q m true true e k h = ap Some (same_name name q e)
    is_noted q m true false e k h = absurd (eqb-false n m k (going_node n m h))
    is_noted q m false true e k h = absurd (no_name none (ap deletes (eqb-true n m k) ∙ a.going q m h))
    is_noted q m false false e k h = a.going q m h

    is_going : (q : Name) (m : ℕ) (b c : Bool) → name_eq name q ≡ b → (n == m) ≡ c → (if c then Some name else deletes m) ≡ Some q → (if b then Going n else stage q) ≡ Going m
    is_going q m true true e k h = ap Going (eqb-true n m k)
    is_going q m false true e k h = absurd (true≢false (sym (name_eq_self name) ∙ ap (name_eq name) (some_name name q h) ∙ e))
    is_going q m true false e k h = absurd (not_live (sym live ∙ ap stage (same_name name q e) ∙ a.noted q m h))
      where
        not_live : {m : ℕ} → Live ≡ Going m → ⊥
        not_live e = cc
    is_going q m false false e k h = a.noted q m h

-- the node's delete of the region ends, and its row notes none
ended : (there : Name → Bool) (stage : Name → Stage) (used : ℕ → ℕ) (deletes : ℕ → Option Name) (n : ℕ) (name : Name)
    → stage name ≡ Going n → Agree there stage used deletes → Agree there (at_name stage name Gone) used (at_node deletes n None)
ended there stage used deletes n name going a = record {
  fresh = a.fresh;
  going = λ q m h. is_noted q m (name_eq name q) (n == m) refl refl h;
  noted = λ q m h. is_going q m (name_eq name q) (n == m) refl refl h;
}
  where
    not_gone : {m : ℕ} → Gone ≡ Going m → ⊥
    not_gone e = cc

    is_noted : (q : Name) (m : ℕ) (b c : Bool) → name_eq name q ≡ b → (n == m) ≡ c → (if b then Gone else stage q) ≡ Going m → (if c then None else deletes m) ≡ Some q
    is_noted q m true c e k h = absurd (not_gone h)
    is_noted q m false true e k h =
        let same : name ≡ q = some_name name q (sym (a.going name n going) ∙ ap deletes (eqb-true n m k) ∙ a.going q m h) in
        absurd (true≢false (sym (name_eq_self name) ∙ ap (name_eq name) same ∙ e))
    is_noted q m false false e k h = a.going q m h

    is_going : (q : Name) (m : ℕ) (b c : Bool) → name_eq name q ≡ b → (n == m) ≡ c → (if c then None else deletes m) ≡ Some q → (if b then Gone else stage q) ≡ Going m
    is_going q m b true e k h = absurd (no_name refl h)
    is_going q m true false e k h = absurd (eqb-false n m k (going_node n m (sym going ∙ ap stage (same_name name q e) ∙ a.noted q m h)))
    is_going q m false false e k h = a.noted q m h

-- more serials are used
more_used : (there : Name → Bool) (stage : Name → Stage) (used : ℕ → ℕ) (deletes : ℕ → Option Name) (n k : ℕ) → used n ≤ k → Agree there stage used deletes → Agree there stage (at_node used n k) deletes
more_used there stage used deletes n k more a = record { fresh = λ q h. far q.home (n == q.home) refl (a.fresh q h); going = a.going; noted = a.noted }
  where
    far : {s : ℕ} (m : ℕ) (b : Bool) → (n == m) ≡ b → s ≤ used m → s ≤ (if b then k else used m)
    far m true e h = let same = ap used (eqb-true n m e) in omega (arith, same, h, more)
    far m false e h = h

-- a region is added with the next serial of its home
added : (there : Name → Bool) (stage : Name → Stage) (used : ℕ → ℕ) (deletes : ℕ → Option Name) (n : ℕ) (name : Name)
    → stage name ≡ Unknown → name.home ≡ n → name.serial ≡ used n + 1 → Agree there stage used deletes → Agree (at_name there name true) (at_name stage name Live) (at_node used n (used n + 1)) deletes
added there stage used deletes n name unknown home serial a = record {
  fresh = λ q h. is_used q (name_eq name q) refl h;
  going = λ q m h. is_noted q m (name_eq name q) h;
  noted = λ q m h. is_going q m (name_eq name q) refl (a.noted q m h);
}
  where
    is_used : (q : Name) (b : Bool) → name_eq name q ≡ b → (if b then true else there q) ≡ true → q.serial ≤ at_node used n (used n + 1) q.home
    is_used q true e h =
        let is = same_name name q e in
        let here : (n == q.home) ≡ true = eq-eqb _ _ (sym home ∙ ap (λ (x : Name). x.home) is) in
        let same = ap (λ (x : Name). x.serial) is in
        rw here (omega (arith, same, serial))
    is_used q false e h = (more_used there stage used deletes n (used n + 1) (omega arith) a).fresh q h

    is_noted : (q : Name) (m : ℕ) (b : Bool) → (if b then Live else stage q) ≡ Going m → deletes m ≡ Some q
    is_noted q m true h = absurd (not_live h)
      where
        not_live : {m : ℕ} → Live ≡ Going m → ⊥
        not_live e = cc
    is_noted q m false h = a.going q m h

    is_going : (q : Name) (m : ℕ) (b : Bool) → name_eq name q ≡ b → stage q ≡ Going m → (if b then Live else stage q) ≡ Going m
    is_going q m true e h = absurd (not_unknown (sym unknown ∙ ap stage (same_name name q e) ∙ h))
      where
        not_unknown : {m : ℕ} → Unknown ≡ Going m → ⊥
        not_unknown e = cc
    is_going q m false e h = h

-- a region that was there is written
there_still : (G : Name → Option Region) (name : Name) (r w : Region) → G name ≡ Some r → is_in (at_name G name (Some w)) ≡ is_in G
there_still G name r w found = read_put (λ r. true) false G name w ∙ at_name_same (is_in G) name true (rw found refl)

stage_still : (G : Name → Option Region) (name : Name) (r w : Region) → G name ≡ Some r → w.stage ≡ r.stage → stage_in (at_name G name (Some w)) ≡ stage_in G
stage_still G name r w found e = read_put (λ r. r.stage) Unknown G name w ∙ at_name_same (stage_in G) name w.stage (rw found (sym e))

-- one that stands where it stood
pub agree_written : (G H : Name → Option Region) (ds : List NodeRow) (name : Name) (r w : Region) → H ≡ at_name G name (Some w) → G name ≡ Some r → w.stage ≡ r.stage → TablesAgree G ds → TablesAgree H ds
agree_written G H ds name r w put found stage a = subst (λ g. TablesAgree g ds) (sym put) (agree_by (there_still G name r w found) (stage_still G name r w found stage) refl refl a)

-- a row that deletes what it deleted, and has used at least as many serials
pub agree_row : (G : Name → Option Region) (ds : List NodeRow) (n : ℕ) (d : NodeRow) → n < length ds → used_at ds n ≤ d.used → d.deletes ≡ deletes_at ds n → TablesAgree G ds → TablesAgree G (set ds n d)
agree_row G ds n d inside used deletes a =
    agree_by refl refl (row_set (λ (d : NodeRow). d.used) 0 ds n d inside) (row_set (λ (d : NodeRow). d.deletes) None ds n d inside ∙ at_node_same (deletes_at ds) n d.deletes deletes)
    (more_used (is_in G) (stage_in G) (used_at ds) (deletes_at ds) n d.used used a)

used_still : (ds : List NodeRow) (n : ℕ) (d : NodeRow) → n < length ds → d.used ≡ used_at ds n → used_at (set ds n d) ≡ used_at ds
used_still ds n d inside used = row_set (λ (d : NodeRow). d.used) 0 ds n d inside ∙ at_node_same (used_at ds) n d.used used

noted : (ds : List NodeRow) (n : ℕ) (d : NodeRow) (o : Option Name) → n < length ds → d.deletes ≡ o → deletes_at (set ds n d) ≡ at_node (deletes_at ds) n o
noted ds n d o inside e = row_set (λ (d : NodeRow). d.deletes) None ds n d inside ∙ ap (at_node (deletes_at ds) n) e

pub agree_begun : (G H : Name → Option Region) (ds : List NodeRow) (n : ℕ) (name : Name) (r w : Region) (d : NodeRow) → H ≡ at_name G name (Some w) → G name ≡ Some r → n < length ds
    → r.stage ≡ Live → w.stage ≡ Going n → d.used ≡ used_at ds n → d.deletes ≡ Some name → deletes_at ds n ≡ None → TablesAgree G ds → TablesAgree H (set ds n d)
agree_begun G H ds n name r w d put found inside live going used deletes none a = subst (λ g. TablesAgree g (set ds n d)) (sym put)
    (agree_by (there_still G name r w found) (read_put (λ r. r.stage) Unknown G name w ∙ ap (at_name (stage_in G) name) going) (used_still ds n d inside used) (noted ds n d (Some name) inside deletes)
    (begun (is_in G) (stage_in G) (used_at ds) (deletes_at ds) n name (rw found live) none a))

pub agree_ended : (G H : Name → Option Region) (ds : List NodeRow) (n : ℕ) (name : Name) (r w : Region) (d : NodeRow) → H ≡ at_name G name (Some w) → G name ≡ Some r → n < length ds
    → r.stage ≡ Going n → w.stage ≡ Gone → d.used ≡ used_at ds n → d.deletes ≡ None → TablesAgree G ds → TablesAgree H (set ds n d)
agree_ended G H ds n name r w d put found inside going gone used deletes a = subst (λ g. TablesAgree g (set ds n d)) (sym put)
    (agree_by (there_still G name r w found) (read_put (λ r. r.stage) Unknown G name w ∙ ap (at_name (stage_in G) name) gone) (used_still ds n d inside used) (noted ds n d None inside deletes)
    (ended (is_in G) (stage_in G) (used_at ds) (deletes_at ds) n name (rw found going) a))

-- a name whose serial isn't used has no region
pub was_absent : (G : Name → Option Region) (ds : List NodeRow) (n : ℕ) (name : Name) → TablesAgree G ds → name.home ≡ n → name.serial ≡ used_at ds n + 1 → G name ≡ None
was_absent G ds n name a home serial = go (G name) (a.fresh name)
  where
    go : (o : Option Region) → (option_map_or (λ (r : Region). true) o false ≡ true → name.serial ≤ used_at ds name.home) → o ≡ None
    go None h = refl
    go (Some r) h = let most = h refl in let same = ap (used_at ds) home in absurd (omega (arith, most, same, serial))

pub agree_added : (G H : Name → Option Region) (ds : List NodeRow) (n : ℕ) (name : Name) (w : Region) (d : NodeRow) → H ≡ at_name G name (Some w) → G name ≡ None → n < length ds → name.home ≡ n
    → name.serial ≡ used_at ds n + 1 → w.stage ≡ Live → d.used ≡ used_at ds n + 1 → d.deletes ≡ deletes_at ds n → TablesAgree G ds → TablesAgree H (set ds n d)
agree_added G H ds n name w d put none inside home serial live used deletes a = subst (λ g. TablesAgree g (set ds n d)) (sym put)
    (agree_by (read_put (λ r. true) false G name w) (read_put (λ r. r.stage) Unknown G name w ∙ ap (at_name (stage_in G) name) live)
    (row_set (λ (d : NodeRow). d.used) 0 ds n d inside ∙ ap (at_node (used_at ds) n) used) (row_set (λ (d : NodeRow). d.deletes) None ds n d inside ∙ at_node_same (deletes_at ds) n d.deletes deletes)
    (added (is_in G) (stage_in G) (used_at ds) (deletes_at ds) n name (rw none refl) home serial a))

-- no region, and rows that note nothing
pub agree_start : (G : Name → Option Region) (ds : List NodeRow) → G ≡ (λ q. None) → ((n : ℕ) → deletes_at ds n ≡ None) → TablesAgree G ds
agree_start G ds none quiet = subst (λ g. TablesAgree g ds) (sym none) (record { fresh = λ q h. absurd (true≢false (sym h)); going = λ q n h. absurd (not_going h); noted = λ q n h. absurd (no_name (quiet n) h) })
  where
    not_going : {m : ℕ} → Unknown ≡ Going m → ⊥
    not_going e = cc

-- each region fits, the written one too
pub fit_put : (nodes zeros : ℕ) (G H : Name → Option Region) (name : Name) (w : Region) → H ≡ at_name G name (Some w) → RegionFits nodes zeros w → RegionsFit nodes zeros G → RegionsFit nodes zeros H
fit_put nodes zeros G H name w put here fit q r e = go (name_eq name q) (sym (ap (λ f. f q) put) ∙ e)
  where
    some_region : (a b : Region) → ◌≡◌ {A = Option Region} (Some a) (Some b) → a ≡ b
    some_region a b e = cc

    go : (b : Bool) → (if b then Some w else G q) ≡ Some r → RegionFits nodes zeros r
    go true h = subst (λ x. RegionFits nodes zeros x) (some_region w r h) here
    go false h = fit q r h

pub fit_as : (nodes zeros : ℕ) (r w : Region) → length w.shares.items ≤ nodes → ((n : ℕ) → w.writer ≡ Some n → n < nodes) → w.size ≡ r.size → RegionFits nodes zeros r → RegionFits nodes zeros w
fit_as nodes zeros r w shares writer size fit = record { shares = shares; writer = writer; size = subst (λ k. k ≤ zeros) (sym size) fit.size }

pub fit_kept : (nodes zeros : ℕ) (r w : Region) → w.shares.items ≡ r.shares.items → w.writer ≡ r.writer → w.size ≡ r.size → RegionFits nodes zeros r → RegionFits nodes zeros w
fit_kept nodes zeros r w shares writer size fit =
    fit_as nodes zeros r w (subst (λ (xs : List Share). length xs ≤ nodes) (sym shares) fit.shares) (λ n e. fit.writer n (sym writer ∙ e)) size fit

-- a region that is put has the share that there is room for
pub has_share : {A E : Type 0} (result : Result A E) (o : Option Region) (n : ℕ) (w : Region) → o ≡ Some w → OnOk result (n < length w.shares.items) → OnOk result (HasShare n o)
has_share (Ok v) o n w e h = rw e h
has_share (Err x) o n w e h = tt

pub fit_start : (nodes zeros : ℕ) (G : Name → Option Region) → G ≡ (λ q. None) → RegionsFit nodes zeros G
fit_start nodes _ G none q r e = absurd (no_region (sym (ap (λ f. f q) none) ∙ e))
  where
    no_region : ◌≡◌ {A = Option Region} None (Some r) → ⊥
    no_region e = cc
