-- The laws, in each world of a run.
use Rattle.std.proofs.Common.{◌≡◌, ◌||◌, ℕ, zero, suc, ◌+◌, ◌≤◌, ◌<◌, ◌==◌, Bool, true, false, ◌&&◌, None, Some, Option, List, [], if◌then◌else◌, refl, ap, sym, ◌∙◌, subst, arith}
use Rattle.std.proofs.lemmas.Bool.{cond_both, cond-false, eqb-true, eqb-false, eq-eqb, ne_eqb, and_from, and_parts, cases_lt}
use Rattle.std.proofs.Math.Logic.{◌⊎◌, inl, inr}
use Rattle.crl_model.specs.declared.name.Name.{Name}
use Rattle.crl_model.specs.declared.stage.Stage.{Stage}
use Rattle.crl_model.specs.declared.stage.Stage.TheVariants as stage
use Rattle.crl_model.specs.declared.message.Message.{Message}
use Rattle.crl_model.specs.declared.message.Kind.{Kind}
use Rattle.crl_model.specs.declared.message.Kind.TheVariants as kind
use Rattle.crl_model.specs.declared.message.Told.TheVariants as told
use Rattle.crl_model.specs.Names.{name_eq}
use Rattle.crl_protocol.specs.Parcels.{Piece}
use Rattle.crl_protocol.specs.Places.{Took}
use Rattle.crl_protocol.specs.Home.{Home}
use Rattle.crl_protocol.specs.Lifetimes.{Mapping, Lifetime}
use Rattle.crl_protocol.specs.Node.{Node, ForMap, Activity, Waiting, is_mine}
use Rattle.crl_protocol.specs.World.{World, pieces_in_boxes}
use Rattle.crl_deeds.specs.Counts.{Counts, WaitsAway}
use Rattle.crl_deeds.specs.NodeFacts.{MappedHere}
use Rattle.crl_deeds.specs.Tokens.{sum, sum_from, load, waits_map, delete_token, deletes_for_node, deleting}
use Rattle.crl_deeds.specs.Turns.{Held}
use Rattle.crl_deeds.proofs.Laws.{name_self, here_if, all_took}
use Rattle.crl_lifetime.specs.Lifetime.{has_doomed, has_sound, home_lifetime, home_stage, home_table, is_about_map, is_about_delete, any_size, is_purge_order, is_purge_answer, one_if, how_many, under_way, waits_for_map, waits_for_delete, is_deleting, WaitsHaveOne, HomeAgrees, OwnAgrees, NodeAgrees, TalkFits, MessageFits}
use Rattle.crl_lifetime.proofs.Weights.{live_weight, order_weight, nothing, under}
use Rattle.crl_lifetime.proofs.Storing.{named_self, one, mapped_weight, entry_weight, made_of, going_of, deleted_of, two_maps, none_stored, stored_out}
use Rattle.crl_lifetime.proofs.Lived.{Lived, Spoken}
use Rattle.crl_lifetime.proofs.Asking.{LifeFits}
use Rattle.crl_lifetime.proofs.Pairs.{PairAt, under_less, Followed}
use Rattle.crl_lifetime.proofs.Sizes.{wrong, Allows, SizesAt}
use Rattle.crl_lifetime.proofs.Stages.{HasTable}
use Rattle.crl_lifetime.proofs.Counts.{true_of, false_of, map_count_is, delete_count_is, order_count_is, answer_count_is, size_weight, live_count_is, map_wait_is, delete_wait_is, marked_is, waits_at, deletes_at, deleting_is, deleted_is, going_at, not_unknown, deleted_made, doomed_is, cached_counts, sound_counts, member_of, spoken_boxes, none_counts, there_counts}

-- A sum of which all parts but one are nothing.
sum_nothing : (g : Node → ℕ) (i k : ℕ) (nodes : ℕ → Node) → ((j : ℕ) → i ≤ j → g (nodes j) ≡ 0) → sum_from g i k nodes ≡ 0
sum_nothing g i zero nodes h = refl
sum_nothing g i (suc k) nodes h = let a = h i (omega arith) in let b = sum_nothing g (i + 1) k nodes (λ j l. h j (omega arith)) in omega arith

sum_one : (g : Node → ℕ) (i k h : ℕ) (nodes : ℕ → Node) → i ≤ h → h < i + k → ((j : ℕ) → (j == h) ≡ false → g (nodes j) ≡ 0) → sum_from g i k nodes ≡ g (nodes h)
sum_one g i zero h nodes few less z = absurd (omega arith)
sum_one g i (suc k) h nodes few less z = go (i == h) refl (λ w. sum_one g (i + 1) k h nodes w (omega arith) z)
  where
    go : (b : Bool) → (i == h) ≡ b → (i + 1 ≤ h → sum_from g (i + 1) k nodes ≡ g (nodes h)) → g (nodes i) + sum_from g (i + 1) k nodes ≡ g (nodes h)
    go true e rest =
        let same = eqb-true i h e in
        let a = ap (λ x. g (nodes x)) same in
        let b = sum_nothing g (i + 1) k nodes (λ j l. z j (ne_eqb j h (λ w. omega arith))) in omega arith
    go false e rest = let ne = eqb-false i h e in let a = z i e in let b = rest (grind arith) in omega arith

sum_parts : (f : Message → ℕ) (g : Node → ℕ) (i k : ℕ) (nodes : ℕ → Node) → sum_from (load f g) i k nodes ≡ sum_from (load f nothing) i k nodes + sum_from g i k nodes
sum_parts f g i zero nodes = refl
sum_parts f g i (suc k) nodes = let a = sum_parts f g (i + 1) k nodes in omega arith

-- the home alone deletes
pub stage_past : (w : World) (r : Name) → Held (Lived w.count) (Spoken w.count) w → w.count ≤ r.home → home_stage r w ≡ stage.Unknown
stage_past w r held far = cond_both (is_mine (w.nodes r.home) r) _ _ (λ (l : Lifetime). l.stage ≡ stage.Unknown) (λ e. (held r.home).node.past far r.serial) (λ e. refl)

deleting_one : (w : World) (n : ℕ) (r : Name) → Held (Lived w.count) (Spoken w.count) w → sum (deleting n r) w ≡ deletes_for_node n (home_stage r w)
deleting_one w n r held = go (cases_lt r.home w.count)
  where
    other : (j : ℕ) → (j == r.home) ≡ false → deleting n r (w.nodes j) ≡ 0
    other j e = ap (λ (l : Lifetime). deletes_for_node n l.stage) (cond-false (is_mine (w.nodes j) r) _ _ (ne_eqb r.home (w.nodes j).me (λ x. eqb-false j r.home e (sym ((held j).node.counted.me) ∙ sym x))))

    any : (j : ℕ) → deletes_for_node n (home_stage r w) ≡ 0 → (b : Bool) → (j == r.home) ≡ b → deleting n r (w.nodes j) ≡ 0
    any j z true e = ap (λ i. deleting n r (w.nodes i)) (eqb-true j r.home e) ∙ z
    any j z false e = other j e

    go : (r.home < w.count) ⊎ (w.count ≤ r.home) → sum (deleting n r) w ≡ deletes_for_node n (home_stage r w)
    go (inl l) = sum_one (deleting n r) 0 w.count r.home w.nodes (omega arith) (omega arith) other
    go (inr l) =
        let z = ap (deletes_for_node n) (stage_past w r held l) in
        sum_nothing (deleting n r) 0 w.count w.nodes (λ j k. any j z (j == r.home) refl) ∙ sym z

-- Waits.
pub waits_stand : (w : World) (n : ℕ) (r : Name) → n < w.count → Followed w → WaitsHaveOne n r w
waits_stand w n r few x = record {
  map = sym (map_count_is n r w) ∙ x.maps n r few ∙ map_wait_is r (w.nodes n).activity;
  delete =
      let a = x.deletes n r few in
      let b = sum_parts (delete_token n r) (deleting n r) 0 w.count w.nodes in
      let c = delete_count_is n r w in
      let d = deleting_one w n r x.held in
      let e = deleting_is n (home_stage r w) in
      let f = delete_wait_is r (w.nodes n).activity in omega arith;
}

-- The home.
pub home_stands : (w : World) (r : Name) → Followed w → HasTable (home_stage r w) (home_table r w) → HomeAgrees r w
home_stands w r x table = record {
  askers = λ n e. (life.askers n e, ne_eqb r.home n (λ s. let k = subst (λ i. (home_lifetime r w).asked i ≡ true) (sym s) e in let z = home.counted.asked r in let y = subst (λ i. (home_lifetime r w).asked i ≡ false) me z in cc));
  missers = λ n e. (life.missers n e, ne_eqb r.home n (λ s. let k = subst (λ i. (home_lifetime r w).missing i ≡ true) (sym s) e in let y = subst (λ i. (home_lifetime r w).missing i ≡ false) me life.home in cc));
  unknown = λ e n. false_of _ (let a = life.fresh n in let b = ap made_of e in omega arith);
  going = λ deleter e. member_of (home_lifetime r w).missing 0 w.count (let a = life.some in let b = ap going_of e in omega arith);
  missing = λ n e. going_at (home_stage r w) (let a = life.going n in let b = ap one_if e in omega arith);
  table = table;
}
  where
    home : Lived w.count r.home (w.nodes r.home)
    home = (x.held r.home).node

    me : (w.nodes r.home).me ≡ r.home
    me = home.counted.me

    life : LifeFits w.count (w.nodes r.home).me (home_lifetime r w)
    life = home.life r

own_mine : (w : World) (r : Name) → Followed w → is_mine (w.nodes r.home) r ≡ true
own_mine w r x = eq-eqb r.home (w.nodes r.home).me (sym (x.held r.home).node.counted.me)

made_stage : (s : Stage) → 1 ≤ made_of s → s ≡ stage.Unknown → ⊥
made_stage s h e = not_unknown s h e

mapped_size : (m : Mapping) (o : Option Home) → MappedHere (Some m) o → (h : Home) × (o ≡ Some h) × (h.size ≡ m.size)
mapped_size m None f = absurd f
mapped_size m (Some h) f = (h, refl, sym f)

home_waits_none : (r : Name) (me : ℕ) (a : Activity) → r.home ≡ me → WaitsAway me a → waits_map r a ≡ 0
home_waits_none r me (Waiting (ForMap p purged)) e w = cond_both (name_eq p r) _ _ (λ k. k ≡ 0) (λ same. absurd (let h = (and_parts (p.home == r.home) (p.serial == r.serial) same).0 in let k = eq-eqb p.home me (eqb-true p.home r.home h ∙ e) in cc)) (λ other. refl)
home_waits_none r me _ e w = refl

pub own_stands : (w : World) (r : Name) → r.home < w.count → Followed w → OwnAgrees r w
own_stands w r few x = record {
  mapped = λ m e. (
    (subst (λ o. Counts (is_mine home r) o) e (node.counted.maps r)).2 mine,
    made_stage (home_stage r w) (let a = node.made r mine in let b : mapped_weight one (home.maps r) ≡ 1 = ap (mapped_weight one) e in omega arith),
    mapped_size m (home_table r w) (subst (λ o. MappedHere o (home_table r w)) e (here_if r.home home r mine (x.known.fits r.home)).mapped),
  );
  cached = none_stored r home.cache (node.own r mine);
  map = sym (map_count_is r.home r w) ∙ x.maps r.home r few ∙ home_waits_none r home.me home.activity (sym node.counted.me) node.counted.waits;
  purge =
      let a = none_counts w.count (is_purge_order r.home r) (λ m s. no_purge m s m.kind refl) (pieces_in_boxes w) (spoken_boxes w x.held) in
      let b = none_counts w.count (is_purge_answer r.home r) (λ m s. no_purged m s m.kind refl) (pieces_in_boxes w) (spoken_boxes w x.held) in omega arith;
}
  where
    home : Node
    home = w.nodes r.home

    node : Lived w.count r.home home
    node = (x.held r.home).node

    mine : is_mine home r ≡ true
    mine = own_mine w r x

    both : (name : Name) (i : ℕ) (b c : Bool) → (i == r.home) ≡ b → name_eq name r ≡ c → (name.home == i) ≡ false → b && c ≡ false
    both name i false c e f g = refl
    both name i true false e f g = refl
    both name i true true e f g = absurd (let h = (and_parts (name.home == r.home) (name.serial == r.serial) f).0 in let k = eq-eqb name.home i (eqb-true name.home r.home h ∙ sym (eqb-true i r.home e)) in cc)

    no_purge : (m : Message) → Spoken w.count m → (k : Kind) → m.kind ≡ k → is_purge_order r.home r m.sender m.addressee k ≡ false
    no_purge m s (kind.Purge name) e = let t = subst (λ y. Spoken w.count (record m { kind = y })) e s in both name m.addressee _ _ refl refl t.0.1.0
    no_purge m s _ e = refl

    no_purged : (m : Message) → Spoken w.count m → (k : Kind) → m.kind ≡ k → is_purge_answer r.home r m.sender m.addressee k ≡ false
    no_purged m s (kind.Purged name) e = let t = subst (λ y. Spoken w.count (record m { kind = y })) e s in both name m.sender _ _ refl refl t.1.1
    no_purged m s _ e = refl

-- Another node. An entry is of a region that was created.
entry_created : (w : World) (r : Name) (n : ℕ) → Followed w → PairAt r n w → 1 ≤ entry_weight one r (w.nodes n) → home_stage r w ≡ stage.Unknown → ⊥
entry_created w r n x p some =
    let a = two_maps ((w.nodes n).maps r) in
    let b = p.had in
    let c = p.doomed in
    let d = ((x.held r.home).node.life r).fresh n in
    let e = deleted_made (home_stage r w) in
    made_stage (home_stage r w) (omega arith)

abbrev none_if : Bool → ℕ
none_if b = if b then 0 else 1

right_size : (size other : ℕ) → wrong size other ≡ 0 → other ≡ size
right_size size other e = go (other == size) refl e
  where
    go : (b : Bool) → (other == size) ≡ b → none_if b ≡ 0 → other ≡ size
    go true w z = eqb-true other size w
    go false w z = absurd (omega arith)

table_size : (w : World) (r : Name) (n : ℕ) → Followed w → HasTable (home_stage r w) (home_table r w) → SizesAt r n w → (home_stage r w ≡ stage.Unknown → ⊥)
    → (h : Home) × (home_table r w ≡ Some h) × (entry_weight (wrong h.size) r (w.nodes n) + under (live_weight (wrong h.size) n r) w ≡ 0)
table_size w r n x table sizes made = let t = table made in (t.0, t.1, sizes t.0.size (subst (Allows t.0.size) (sym t.1) refl))

told_more : (n : ℕ) (r : Name) (size other : ℕ) → (other ≡ size → ⊥) → (m : Message) → live_weight (size_weight (λ s. s == other)) n r m ≤ live_weight (wrong size) n r m
told_more n r size other ne m = go m.kind
  where
    size_more : (s : ℕ) → one_if (s == other) ≤ wrong size s
    size_more s = cond_both (s == size) 0 1 (λ k. one_if (s == other) ≤ k) (λ e. let z = ap one_if (ne_eqb s other (λ w. ne (sym w ∙ eqb-true s size e))) in omega arith) (λ e. cond_both (s == other) 1 0 (λ k. k ≤ 1) (λ w. omega arith) (λ w. omega arith))

    both : (b c : Bool) (x y : ℕ) → x ≤ y → (if b then (if c then x else 0) else 0) ≤ (if b then (if c then y else 0) else 0)
    both true true x y h = h
    both true false x y h = omega arith
    both false c x y h = omega arith

    go : (k : Kind) → live_weight (size_weight (λ s. s == other)) n r (record m { kind = k }) ≤ live_weight (wrong size) n r (record m { kind = k })
    go (kind.InfoIs name (told.Live s)) = both (m.addressee == n) (name_eq name r) (one_if (s == other)) (wrong size s) (size_more s)
    go (kind.InfoIs name t) = omega arith
    go _ = omega arith

told_any : (n : ℕ) (r : Name) (other : ℕ) (m : Message) → live_weight (size_weight (λ s. s == other)) n r m ≤ live_weight one n r m
told_any n r other m = go m.kind
  where
    both : (b c d : Bool) → (if b then (if c then one_if d else 0) else 0) ≤ (if b then (if c then 1 else 0) else 0)
    both true true true = omega arith
    both true true false = omega arith
    both true false d = omega arith
    both false c d = omega arith

    go : (k : Kind) → live_weight (size_weight (λ s. s == other)) n r (record m { kind = k }) ≤ live_weight one n r (record m { kind = k })
    go (kind.InfoIs name (told.Live s)) = both (m.addressee == n) (name_eq name r) (s == other)
    go (kind.InfoIs name t) = omega arith
    go _ = omega arith

pub node_stands : (w : World) (r : Name) (n : ℕ) → Followed w → PairAt r n w → HasTable (home_stage r w) (home_table r w) → SizesAt r n w → NodeAgrees r n w
node_stands w r n x p table sizes = record {
  missing = let a = order_count_is n r w in let b = answer_count_is n r w in let c = p.missing in omega arith;
  created = λ e. entry_created w r n x p (some_entry (has_doomed r node) refl e);
  told_created = λ e. made_stage (home_stage r w) (let a = live_count_is any_size n r w in let b = p.told in let c = ((x.held r.home).node.life r).fresh n in omega arith);
  asked = λ e. true_of _ (let a = sound_counts r node e in let b = p.had in omega arith);
  told = λ e. true_of _ (let a = live_count_is any_size n r w in let b = p.told in omega arith);
  doomed = λ e. true_of _ (let a = ap one_if e in let b = doomed_is (node.maps r) in let c = p.doomed in let d = deleted_is (home_stage r w) in omega arith);
  marked = λ e. true_of _ (let a = ap one_if e in let b = marked_is r node.activity in let c = p.marked in let d = deleted_is (home_stage r w) in omega arith);
  had = λ e f. let a = sound_counts r node f in let b = ap one_if e in let c = deleted_is (home_stage r w) in let d = p.purged_entry in let g = order_count_is n r w in omega arith;
  coming = λ e f g. let a = ap one_if e in let b = ap one_if g in let c = deleted_is (home_stage r w) in let d = marked_is r node.activity in let h = live_count_is any_size n r w in let i = order_count_is n r w in let j = p.purged_map in omega arith;
  gone = λ e. not_sound (has_sound r node) refl e;
  gone_coming = λ e f. true_of _ (let a = live_count_is any_size n r w in let b = p.purged_map in let c = ap deleted_of e in let d = no_purge e in let g = marked_is r node.activity in omega arith);
  cached = λ e. no_mapping (node.maps r) refl (let a = cached_counts r node.cache e in let b = each in omega arith);
  waits = λ e. let a = ap one_if e in let b = map_wait_is r node.activity in let c = each in (no_mapping (node.maps r) refl (omega arith), none_stored r node.cache (omega arith));
  size_mapped = λ m e.
      let i : mapped_weight one (node.maps r) ≡ 1 = ap (mapped_weight one) e in
      let t = table_size w r n x table sizes (entry_created w r n x p (omega arith)) in
      let f : mapped_weight (wrong t.0.size) (node.maps r) ≡ wrong t.0.size m.size = ap (mapped_weight (wrong t.0.size)) e in
      let z = t.2 in (t.0, t.1, sym (right_size t.0.size m.size (omega arith)));
  size_cached = λ size e.
      let i = stored_out one r size node.cache e r in
      let j = named_self r 1 in
      let t = table_size w r n x table sizes (entry_created w r n x p (omega arith)) in
      let f = stored_out (wrong t.0.size) r size node.cache e r in
      let g = named_self r (wrong t.0.size size) in
      let z = t.2 in (t.0, t.1, sym (right_size t.0.size size (omega arith)));
  size_told = λ size e.
      let a = live_count_is (λ s. s == size) n r w in
      let b = under_less _ _ (told_any n r size) w in
      let c = p.told in
      let d = ((x.held r.home).node.life r).fresh n in
      let t = table_size w r n x table sizes (made_stage (home_stage r w) (omega arith)) in
      let z = t.2 in (t.0, t.1, go t.0.size size (λ ne. let k = under_less _ _ (told_more n r t.0.size size ne) w in omega arith));
}
  where
    node : Node
    node = w.nodes n

    some_entry : (b : Bool) → has_doomed r node ≡ b → b || has_sound r node ≡ true → 1 ≤ entry_weight one r node
    some_entry true e h = let a = ap one_if e in let b = doomed_is (node.maps r) in let c = two_maps (node.maps r) in omega arith
    some_entry false e h = let a = sound_counts r node h in let c = two_maps (node.maps r) in omega arith

    no_purge : home_stage r w ≡ stage.Gone → under (order_weight n r) w ≡ 0
    no_purge e = let a = p.missing in let b = ((x.held r.home).node.life r).going n in let c = ap going_of e in omega arith

    not_sound : (b : Bool) → has_sound r node ≡ b → home_stage r w ≡ stage.Gone → has_sound r node ≡ false
    not_sound false e gone = e
    not_sound true e gone = absurd (let a = sound_counts r node e in let b = p.purged_entry in let c = ap deleted_of gone in let d = no_purge gone in omega arith)

    each : entry_weight one r node + waits_map r node.activity ≤ 1
    each = (x.held n).node.each r

    no_mapping : (o : Option Mapping) → node.maps r ≡ o → mapped_weight one (node.maps r) ≡ 0 → node.maps r ≡ None
    no_mapping None e z = e
    no_mapping (Some m) e z = absurd (let a : mapped_weight one (node.maps r) ≡ 1 = ap (mapped_weight one) e in omega arith)

    go : (s size : ℕ) → ((size ≡ s → ⊥) → ⊥) → s ≡ size
    go s size h = by (size == s) refl
      where
        by : (b : Bool) → (size == s) ≡ b → s ≡ size
        by true e = sym (eqb-true size s e)
        by false e = absurd (h (eqb-false size s e))

-- Messages.
named : (n i : ℕ) (name : Name) → n ≡ i → (n == i) && name_eq name name ≡ true
named n i name e = and_from _ _ (eq-eqb n i e) (name_self name)

pub message_stands : (w : World) → Followed w → (p : Piece) (rest : List Piece) → Took p (pieces_in_boxes w) rest → MessageFits w p.message
message_stands w x p rest took = go p.message.kind refl (all_took _ took (spoken_boxes w x.held)).0
  where
    from : ℕ
    from = p.message.sender

    to : ℕ
    to = p.message.addressee

    counts : (test : ℕ → ℕ → Kind → Bool) (k : Kind) → p.message.kind ≡ k → test from to k ≡ true → 1 ≤ under_way test w
    counts test k e h = there_counts test took (subst (λ y. test from to y ≡ true) (sym e) h)

    wants_map : (i : ℕ) (name : Name) → i < w.count → 1 ≤ under_way (is_about_map i name) w → waits_for_map name (w.nodes i).activity ≡ true
    wants_map i name few h = true_of _ (let a = (waits_stand w i name few x).map in omega arith)

    wants_delete : (i : ℕ) (name : Name) → i < w.count → 1 ≤ under_way (is_about_delete i name) w → waits_for_delete name (w.nodes i).activity ≡ true
    wants_delete i name few h = true_of _ (let a = (waits_stand w i name few x).delete in omega arith)

    is_missing : (i : ℕ) (name : Name) → i < w.count → (name.home == i) ≡ false → 1 ≤ under_way (is_purge_order i name) w + under_way (is_purge_answer i name) w → (home_lifetime name w).missing i ≡ true
    is_missing i name few apart h = true_of _ (let a = (x.pairs name i few apart).missing in let b = order_count_is i name w in let c = answer_count_is i name w in omega arith)

    go : (k : Kind) → p.message.kind ≡ k → Spoken w.count (record { sender = from; addressee = to; kind = p.message.kind }) → TalkFits w from to p.message.kind
    go k e s = subst (λ y. TalkFits w from to y) (sym e) (of_kind k e (subst (λ y. Spoken w.count (record { sender = from; addressee = to; kind = y })) e s))
      where
        of_kind : (k : Kind) → p.message.kind ≡ k → Spoken w.count (record { sender = from; addressee = to; kind = k }) → TalkFits w from to k
        of_kind (kind.InfoAsk name) e s = (s.1, wants_map from name s.0.0 (counts (is_about_map from name) (kind.InfoAsk name) e (named from from name refl)))
        of_kind (kind.InfoIs name t) e s =
            let a = waits_at name (w.nodes to).activity (wants_map to name s.0.1 (counts (is_about_map to name) (kind.InfoIs name t) e (named to to name refl))) in (s.1.0, a.0, a.1)
        of_kind (kind.DeleteAsk name) e s = (s.1, wants_delete from name s.0.0 (counts (is_about_delete from name) (kind.DeleteAsk name) e (named from from name refl)))
        of_kind (kind.DeleteIs name t) e s = (s.1, deletes_at name (w.nodes to).activity (wants_delete to name s.0.1 (counts (is_about_delete to name) (kind.DeleteIs name t) e (named to to name refl))))
        of_kind (kind.Purge name) e s = (s.1, s.0.1.0, is_missing to name s.0.1.1 s.0.1.0 (let a = counts (is_purge_order to name) (kind.Purge name) e (named to to name refl) in omega arith))
        of_kind (kind.Purged name) e s =
            let a = is_missing from name s.0.0 s.1.1 (let a = counts (is_purge_answer from name) (kind.Purged name) e (named from from name refl) in omega arith) in
            let life = (x.held name.home).node.life name in
            let d = going_at (home_stage name w) (let g = life.going from in let h = ap one_if a in omega arith) in (s.1.0, a, d.0, d.1)
        of_kind _ e s = tt

-- Nothing under way, nobody waits.
pub nothing_waits : (w : World) → Followed w → pieces_in_boxes w ≡ [] → (n : ℕ) (r : Name) → n < w.count → (waits_for_map r (w.nodes n).activity ≡ false) × (waits_for_delete r (w.nodes n).activity ≡ false)
nothing_waits w x empty n r few = (
  false_of _ (let a = (waits_stand w n r few x).map in let b = quiet (is_about_map n r) in omega arith),
  false_of _ (let a = (waits_stand w n r few x).delete in let b = quiet (is_about_delete n r) in let c = nobody (home_stage r w) refl in omega arith),
)
  where
    quiet : (test : ℕ → ℕ → Kind → Bool) → under_way test w ≡ 0
    quiet test = ap (how_many test) empty

    nobody : (s : Stage) → home_stage r w ≡ s → one_if (is_deleting n (home_stage r w)) ≡ 0
    nobody (stage.Going deleter) e =
        let h = home_stands_going deleter e in
        absurd (let a = (x.pairs r h.0 h.1 h.2).missing in let b = order_count_is h.0 r w in let c = answer_count_is h.0 r w in let d = quiet (is_purge_order h.0 r) in let f = quiet (is_purge_answer h.0 r) in let g = ap one_if h.3 in omega arith)
      where
        home_stands_going : (deleter : ℕ) → home_stage r w ≡ stage.Going deleter → (i : ℕ) × (i < w.count) × ((r.home == i) ≡ false) × ((home_lifetime r w).missing i ≡ true)
        home_stands_going deleter e =
            let life = (x.held r.home).node.life r in
            let i = member_of (home_lifetime r w).missing 0 w.count (let a = life.some in let b = ap going_of e in omega arith) in
            (i.0, life.missers i.0 i.1, ne_eqb r.home i.0 (λ s. let k = subst (λ j. (home_lifetime r w).missing j ≡ true) (sym s) i.1 in let y = subst (λ j. (home_lifetime r w).missing j ≡ false) (x.held r.home).node.counted.me life.home in cc), i.1)
    nobody stage.Unknown e = ap (λ s. one_if (is_deleting n s)) e
    nobody stage.Live e = ap (λ s. one_if (is_deleting n s)) e
    nobody stage.Gone e = ap (λ s. one_if (is_deleting n s)) e
