-- Where nothing is under way, the bytes of each region that is there are the array's.
use Rattle.std.proofs.Common.{◌≡◌, ◌≢◌, ℕ, zero, suc, ◌+◌, ◌<◌, ◌≤◌, ◌==◌, ◌&&◌, Bool, true, false, nat_lt, None, Some, Option, List, [], ◌∷◌, ◌++◌, length, if◌then◌else◌, refl, ap, sym, ◌∙◌, subst, arith}
use Rattle.std.proofs.Math.Logic.{◌⊎◌, inl, inr}
use Rattle.std.proofs.lemmas.Bool.{cond_both, cond-true, cond-false, eqb-true, eqb-false, ne_eqb, ltb-true, ltb-false, and_from}
use Rattle.crl_model.specs.declared.name.Name.{Name}
use Rattle.crl_model.specs.declared.event.Event.{Event}
use Rattle.crl_model.specs.Names.{at_node}
use Rattle.crl_model.specs.Stages.{is_there}
use Rattle.crl_machine.specs.SingleMachine.{State, start}
use Rattle.crl_machine.specs.FinalRegions.{region_named, regions_at, final_regions}
use Rattle.crl_machine.specs.FinalRegions as machine
use Rattle.crl_model.specs.declared.directory.Listing.{Listing}
use Rattle.crl_protocol.specs.Home.{Home}
use Rattle.crl_protocol.specs.Remote.{Copy, Remote}
use Rattle.crl_protocol.specs.Parcels.{Piece}
use Rattle.crl_protocol.specs.Places.{at}
use Rattle.crl_protocol.specs.Node.{Node}
use Rattle.crl_protocol.specs.World.{World, WorldStep, new_world, world_of, IsRunFrom, put_in}
use Rattle.crl_protocol.specs.Ends.{exclusive_bytes, copy_of, first_some, bytes_from, region_bytes, final_bytes, region_line, regions_of, regions_from}
use Rattle.crl_deeds.specs.Turns.{Turn}
use Rattle.crl_deeds.specs.Turns as turn
use Rattle.crl_deeds.proofs.Laws.{turn_of, turn_count, here_of}
use Rattle.crl_coherence.specs.Coherent.{IsCoherent}
use Rattle.crl_coherence.specs.Pairs.{Places, KindFits}
use Rattle.crl_lifetime.specs.Lifetime.{home_stage}
use Rattle.crl_lifetime.proofs.Laws.{homes_in_runs}
use Rattle.crl_regions.specs.Steps.{RegionsHold}
use Rattle.crl_regions.specs.View.{side, table_of, table_or_blank, view}
use Rattle.crl_regions.proofs.Laws.{quiet_boxes}
use Rattle.crl_rounds.specs.Standing.{machine_of, InEveryRun}
use Rattle.crl_history.specs.Legal.{bytes_there, QuietWorldsEnd}
use Rattle.crl_history.proofs.Grounds.{Ground, stage_is}
use Rattle.crl_history.proofs.Histories.{ground_in_runs}
use Rattle.crl_history.proofs.Runs.{runs_by_end}

-- A node past the world's takes no step, so it has no copy.
abbrev NoneBeyond : World → State → Type 0
NoneBeyond w s = (i : ℕ) → w.count ≤ i → (q : Name) → (w.nodes i).remotes q ≡ None

apart_from : (j i count : ℕ) → j < count → count ≤ i → (j == i) ≡ false
apart_from j i count few far = ne_eqb j i (λ e. omega arith)

put_same : (nodes : ℕ → Node) (to i : ℕ) (p : Piece) → (at_node nodes to (put_in p (nodes to)) i).remotes ≡ (nodes i).remotes
put_same nodes to i p = cond_both (to == i) (put_in p (nodes to)) (nodes i) (λ (n : Node). n.remotes ≡ (nodes i).remotes) (λ e. ap (λ k. (nodes k).remotes) (eqb-true to i e)) (λ e. refl)

beyond_turn : (w : World) (v : WorldStep) {e : Event} → Turn w e v → (i : ℕ) → w.count ≤ i → (v.world.nodes i).remotes ≡ (w.nodes i).remotes
beyond_turn w v (turn.calls j c o few free is d) i far = ap (λ (n : Node). n.remotes) (cond-false (j == i) _ (w.nodes i) (apart_from j i w.count few far))
beyond_turn w v (turn.hears j place p rest parcels part o few took d) i far = ap (λ (n : Node). n.remotes) (cond-false (j == i) _ (w.nodes i) (apart_from j i w.count few far))
beyond_turn w v (turn.gathers j place p rest parcels key few took is) i far = ap (λ (n : Node). n.remotes) (cond-false (j == i) _ (w.nodes i) (apart_from j i w.count few far))
beyond_turn w v (turn.answers j answer few ready) i far = ap (λ (n : Node). n.remotes) (cond-false (j == i) _ (w.nodes i) (apart_from j i w.count few far))
beyond_turn w v (turn.carriage j place p rest few took) i far =
    put_same (at_node w.nodes j _) p.message.addressee i p ∙ ap (λ (n : Node). n.remotes) (cond-false (j == i) _ (w.nodes i) (apart_from j i w.count few far))

beyond_run : (count capacity : ℕ) (run : List Event) → IsRunFrom (new_world count capacity) run → NoneBeyond (world_of count capacity run) (machine_of count capacity run)
beyond_run count capacity run r =
    runs_by_end NoneBeyond count capacity (start count)
    (λ run e r may h i far q. (let w = world_of count capacity run in
    let t = turn_of w e may in
    let near = subst (λ k. k ≤ i) (turn_count w _ t) far in ap (λ f. f q) (beyond_turn w _ t i near) ∙ h i near q)) (λ i far q. refl) run r

-- Of a copy where neither a grant nor a return is under way.
kept_bytes : (array : List ℕ) (l : Option Listing) (c : Copy) → Places array l (Some c) [] [] → c.bytes ≡ array
kept_bytes array None c p = absurd p
kept_bytes array (Some l) c p = p.2

none_or_array : (array : List ℕ) (l : Option Listing) (o : Option Copy) → Places array l o [] [] → (exclusive_bytes o ≡ None) ⊎ (exclusive_bytes o ≡ Some array)
none_or_array array l None p = inl refl
none_or_array array l (Some c) p = cond_both c.exclusive (Some c.bytes) None (λ x. (x ≡ None) ⊎ (x ≡ Some array)) (λ e. inr (ap Some (kept_bytes array l c p))) (λ e. inl refl)

listed_shown : (array : List ℕ) (l : Listing) (o : Option Copy) (given : Bool) → Places array (Some l) o [] [] → KindFits (Some l) o [] given [] → l.exclusive ≡ true → exclusive_bytes o ≡ Some array
listed_shown array l None given p k e = absurd p
listed_shown array l (Some c) given p (inl same) e = cond-true c.exclusive (Some c.bytes) None (same ∙ e) ∙ ap Some p.2
listed_shown array l (Some c) given p (inr lowered) e = absurd lowered.3

past : (n i : ℕ) → n ≢ i → i ≤ n → i + 1 ≤ n
past n i ne le = grind arith

and_none : (a b : Bool) → b ≡ false → (a && b) ≡ false
and_none true b e = e
and_none false b e = refl

less : (k : ℕ) (homes : List (Option Home)) (h : Option Home) → suc k ≡ length (h ∷ homes) → k ≡ length homes
less k homes h e = omega arith

-- Of all nodes in order, the first exclusive copy shows the array, and else the home's bytes do.
bytes_shown : (array : List ℕ) (name : Name) (bytes : List ℕ) (i k : ℕ) (nodes : ℕ → Node) → ((n : ℕ) → (exclusive_bytes (copy_of ((nodes n).remotes name)) ≡ None) ⊎ (exclusive_bytes (copy_of ((nodes n).remotes name)) ≡ Some array))
    → (((n : ℕ) → i ≤ n → n < i + k → exclusive_bytes (copy_of ((nodes n).remotes name)) ≡ None) → bytes ≡ array) → bytes_from name bytes i k nodes ≡ array
bytes_shown array name bytes i zero nodes each none = none (λ n le lt. absurd (omega arith))
bytes_shown array name bytes i (suc k) nodes each none = go (each i) (λ all. bytes_shown array name bytes (i + 1) k nodes each all)
  where
    rest : List ℕ
    rest = bytes_from name bytes (i + 1) k nodes

    later : exclusive_bytes (copy_of ((nodes i).remotes name)) ≡ None → ((n : ℕ) → i + 1 ≤ n → n < (i + 1) + k → exclusive_bytes (copy_of ((nodes n).remotes name)) ≡ None) → (n : ℕ) → i ≤ n → n < i + suc k → exclusive_bytes (copy_of ((nodes n).remotes name)) ≡ None
    later e all n le lt = by (n == i) refl
      where
        by : (b : Bool) → (n == i) ≡ b → exclusive_bytes (copy_of ((nodes n).remotes name)) ≡ None
        by true same = subst (λ m. exclusive_bytes (copy_of ((nodes m).remotes name)) ≡ None) (sym (eqb-true n i same)) e
        by false apart = let ne = eqb-false n i apart in all n (past n i ne le) (omega arith)

    go : (exclusive_bytes (copy_of ((nodes i).remotes name)) ≡ None) ⊎ (exclusive_bytes (copy_of ((nodes i).remotes name)) ≡ Some array)
        → ((((n : ℕ) → i + 1 ≤ n → n < (i + 1) + k → exclusive_bytes (copy_of ((nodes n).remotes name)) ≡ None) → bytes ≡ array) → rest ≡ array) → first_some (exclusive_bytes (copy_of ((nodes i).remotes name))) rest ≡ array
    go (inl e) shorter = ap (λ o. first_some o rest) e ∙ shorter (λ all. none (later e all))
    go (inr e) shorter = ap (λ o. first_some o rest) e

side_copy : (size : ℕ) (o : Option Remote) → (side size o).copy ≡ copy_of o
side_copy size None = refl
side_copy size (Some r) = refl

-- A region by itself.
home_shown : (count capacity : ℕ) (run : List Event) (q : Name) (h : Home) → IsRunFrom (new_world count capacity) run → RegionsHold (world_of count capacity run) [] (machine_of count capacity run).bytes → table_of q (world_of count capacity run) ≡ Some h
    → bytes_from q h.bytes 0 (world_of count capacity run).count (world_of count capacity run).nodes ≡ (machine_of count capacity run).bytes q
home_shown count capacity run q h r holds e = bytes_shown array q h.bytes 0 w.count w.nodes (λ n. each n (n == q.home) refl) (λ all. sym (ap (λ o. (table_or_blank o).bytes) e) ∙ coherent.loose.bytes (λ n l listed. shared n l listed all l.exclusive refl))
  where
    w : World
    w = world_of count capacity run

    array : List ℕ
    array = (machine_of count capacity run).bytes q

    coherent : IsCoherent q.home (view q array [] w)
    coherent = holds.coherent q h e

    shows : ℕ → Option (List ℕ)
    shows n = exclusive_bytes (copy_of ((w.nodes n).remotes q))

    same : (n : ℕ) → exclusive_bytes ((view q array [] w).remotes n).copy ≡ shows n
    same n = ap exclusive_bytes (side_copy _ ((w.nodes n).remotes q))

    own : (n : ℕ) → n ≡ q.home → shows n ≡ None
    own n at_home = ap (λ o. exclusive_bytes (copy_of o)) (ap (λ k. (w.nodes k).remotes q) at_home ∙ (here_of q.home (w.nodes q.home) q h e ((ground_in_runs count capacity run r).known.fits q.home)).nothing)

    each : (n : ℕ) (b : Bool) → (n == q.home) ≡ b → (shows n ≡ None) ⊎ (shows n ≡ Some array)
    each n true at_home = inl (own n (eqb-true n q.home at_home))
    each n false apart = subst (λ x. (x ≡ None) ⊎ (x ≡ Some array)) (same n) (none_or_array array _ _ (coherent.loose.pairs n (eqb-false n q.home apart)).places)

    nobody : (n : ℕ) → ((m : ℕ) → 0 ≤ m → m < 0 + w.count → shows m ≡ None) → shows n ≡ None
    nobody n all = go (nat_lt n w.count) refl
      where
        go : (b : Bool) → nat_lt n w.count ≡ b → shows n ≡ None
        go true few = let x = ltb-true _ _ few in all n (omega arith) (omega arith)
        go false far = ap (λ o. exclusive_bytes (copy_of o)) (beyond_run count capacity run r n (ltb-false _ _ far) q)

    shared : (n : ℕ) (l : Listing) → at n (view q array [] w).home.listed ≡ Some l → ((m : ℕ) → 0 ≤ m → m < 0 + w.count → shows m ≡ None) → (b : Bool) → l.exclusive ≡ b → l.exclusive ≡ false
    shared n l listed all false x = x
    shared n l listed all true x = absurd (go (n == q.home) refl)
      where
        go : (b : Bool) → (n == q.home) ≡ b → ⊥
        go true at_home = let none = ap (λ k. at k (view q array [] w).home.listed) (eqb-true n q.home at_home) ∙ coherent.loose.own in cc
        go false apart =
            let pair = coherent.loose.pairs n (eqb-false n q.home apart) in
            let some = listed_shown array l ((view q array [] w).remotes n).copy ((view q array [] w).remotes n).given (subst (λ o. Places array o ((view q array [] w).remotes n).copy [] []) listed pair.places) (subst (λ o. KindFits o ((view q array [] w).remotes n).copy [] ((view q array [] w).remotes n).given []) listed pair.kind) x in
            let none = nobody n all in
            let both = same n in cc

there_shown : (count capacity : ℕ) (run : List Event) (q : Name) → IsRunFrom (new_world count capacity) run → RegionsHold (world_of count capacity run) [] (machine_of count capacity run).bytes → is_there (home_stage q (world_of count capacity run)) ≡ true
    → region_bytes q (world_of count capacity run) (table_of q (world_of count capacity run)) ≡ Some ((machine_of count capacity run).bytes q)
there_shown count capacity run q r holds there =
    let w = world_of count capacity run in
    let t = (homes_in_runs count capacity run q r).table (λ unknown. (let x = ap is_there unknown in cc)) in
    ap (λ o. region_bytes q w o) t.1 ∙ ap Some (home_shown count capacity run q t.0 r holds t.1)

bytes_final : (count capacity : ℕ) (run : List Event) (q : Name) → IsRunFrom (new_world count capacity) run → RegionsHold (world_of count capacity run) [] (machine_of count capacity run).bytes → final_bytes q (world_of count capacity run) ≡ bytes_there (machine_of count capacity run) q
bytes_final count capacity run q r holds = go (nat_lt q.home w.count) (is_there (home_stage q w)) refl refl ∙ sym (ap (λ x. if is_there x then Some (s.bytes q) else None) (stage_is w s q g))
  where
    w : World
    w = world_of count capacity run

    s : State
    s = machine_of count capacity run

    g : Ground w s
    g = ground_in_runs count capacity run r

    go : (a b : Bool) → nat_lt q.home w.count ≡ a → is_there (home_stage q w) ≡ b → (if nat_lt q.home w.count && is_there (home_stage q w) then region_bytes q w (table_of q w) else None) ≡ (if is_there (home_stage q w) then Some (s.bytes q) else None)
    go true true few there = cond-true _ _ None (and_from _ _ few there) ∙ there_shown count capacity run q r holds there ∙ sym (cond-true _ _ None there)
    go a false few none = cond-false _ _ None (and_none (nat_lt q.home w.count) _ none) ∙ sym (cond-false _ _ None none)
    go false true far there = let unknown = ap is_there (g.nowhere q (inl (ltb-false _ _ far))) in cc

-- The regions in order.
named_same : (s : State) (q : Name) → region_line q (bytes_there s q) ≡ region_named s q
named_same s q = go (is_there (s.stage q))
  where
    go : (b : Bool) → region_line q (if b then Some (s.bytes q) else None) ≡ (if b then record { name = q; bytes = s.bytes q } ∷ [] else [])
    go true = refl
    go false = refl

home_regions : (w : World) (s : State) → ((q : Name) → final_bytes q w ≡ bytes_there s q) → (i serial : ℕ) (homes : List (Option Home)) (k : ℕ) → k ≡ length homes → regions_of i serial homes w ≡ regions_at s i serial k
home_regions w s same i serial [] zero e = refl
home_regions w s same i serial [] (suc k) e = absurd (omega arith)
home_regions w s same i serial (h ∷ homes) zero e = absurd (let x = length homes in omega arith)
home_regions w s same i serial (h ∷ homes) (suc k) e =
    let q : Name = record { home = i; serial = serial } in
    let shorter = less k homes h e in
    ap (λ x. x ++ regions_of i (serial + 1) homes w) (ap (λ o. region_line q o) (same q) ∙ named_same s q) ∙ ap (λ x. region_named s q ++ x) (home_regions w s same i (serial + 1) homes k shorter)

all_regions : (w : World) (s : State) → ((q : Name) → final_bytes q w ≡ bytes_there s q) → ((i : ℕ) → i < w.count → s.used i ≡ length (w.nodes i).homes) → (i k : ℕ) → i + k ≤ w.count → regions_from i k w ≡ machine.regions_from s i k
all_regions w s same used i zero le = refl
all_regions w s same used i (suc k) le =
    ap (λ x. x ++ regions_from (i + 1) k w) (home_regions w s same i 1 (w.nodes i).homes (s.used i) (used i (omega arith))) ∙ ap (λ x. regions_at s i 1 (s.used i) ++ x) (all_regions w s same used (i + 1) k (omega arith))

pub quiet_ends : InEveryRun QuietWorldsEnd
quiet_ends count capacity run r empty =
    let w = world_of count capacity run in
    let s = machine_of count capacity run in
    let m = (ground_in_runs count capacity run r).mirrors in
    let holds : RegionsHold w [] s.bytes = subst (λ us. RegionsHold w us s.bytes) (quiet_boxes count capacity run r m.bytes.0 m.bytes.1.under_way empty) m.bytes.1 in
    let bytes : (q : Name) → final_bytes q w ≡ bytes_there s q = λ q. bytes_final count capacity run q r holds in
    record { bytes = bytes; regions_are = all_regions w s bytes m.used 0 w.count (omega arith) ∙ ap (λ k. machine.regions_from s 0 k) (sym m.nodes) }
