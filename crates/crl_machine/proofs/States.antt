-- What the state is after a region or a row was written.
use Rattle.std.proofs.Common.{◌≡◌, ℕ, ◌<◌, Bool, true, false, cond, refl, sym, ap, ◌∙◌, arith, List, [], length, get_or, set, eqb, true≢false, replicate, if◌then◌else◌}
use Rattle.std.proofs.Common.{Ok, Err}
use Rattle.std.specs.Prelude.{Result, OnOk, OnErr}
use Rattle.std.specs.Option.{option_map_or}
use Rattle.std.specs.List.{All}
use Rattle.std.specs.declared.option.Option.{Option}
use Rattle.std.specs.declared.option.Option.TheVariants.{None, Some}
use Rattle.std.proofs.Common.{get_or-set_other}
use Rattle.std.proofs.lemmas.Grind.{get_or-set_at}
use Rattle.crl_model.specs.declared.name.Name.{Name}
use Rattle.crl_machine.specs.declared.region.Region.{Region}
use Rattle.crl_machine.specs.declared.share.Share.{Share}
use Rattle.crl_model.specs.declared.stage.Stage.{Stage}
use Rattle.crl_model.specs.declared.stage.Stage.TheVariants.{Unknown, Live}
use Rattle.crl_machine.specs.declared.node_row.NodeRow.{NodeRow}
use Rattle.crl_model.specs.declared.collective.Part.{Part}
use Rattle.crl_model.specs.Names.{name_eq, at_node, at_name, at_pair}
use Rattle.crl_table.proofs.Laws.{at_name_same}
use Rattle.crl_machine.specs.Judging.{with_share, the_share}
use Rattle.crl_machine.specs.Contents.{bytes_of, share_at}
use Rattle.crl_machine.specs.Tables.{blank, is_writer}
use Rattle.crl_machine.specs.Seen.{state_of, share_of}
use Rattle.crl_machine.specs.SingleMachine.{State, start}
use Rattle.crl_machine.proofs.Blank.{IsBlank, used_blank, came_blank, told_blank}
use Rattle.crl_machine.proofs.Functions.{at_node_same, at_pair_of}
use Rattle.crl_machine.proofs.RowSet.{row_set}

-- no region, and rows of nodes that did nothing
pub started : (nodes : ℕ) (G : Name → Option Region) (ds : List NodeRow) → G ≡ (λ q. None) → All IsBlank ds → state_of nodes G ds ≡ start nodes
started nodes G ds none blank = ap (λ g. state_of nodes g ds) none ∙ λ i. record (start nodes) {
  used = λ n. used_blank ds n blank i;
  came = λ n. came_blank ds n blank i;
  told = λ n. told_blank ds n blank i;
}

-- what is read of a table after a region was put
pub read_put : {X : Type 0} (f : Region → X) (d : X) (G : Name → Option Region) (name : Name) (w : Region) → (λ q. option_map_or f (at_name G name (Some w) q) d) ≡ at_name (λ q. option_map_or f (G q) d) name (f w)
read_put {X} f d G name w = λ i q. go (G q) (name_eq name q) i
  where
    go : (o : Option Region) (b : Bool) → option_map_or f (if b then Some w else o) d ≡ (if b then f w else option_map_or f o d)
    go o true = refl
    go o false = refl

-- the state with another region at a name
abbrev with_region : State → Name → Region → State
with_region s name w = record s {
  stage = at_name s.stage name w.stage;
  bytes = at_name s.bytes name (bytes_of w);
  maps = λ n. at_name (s.maps n) name (share_at w n).maps;
  reads = λ n. at_name (s.reads n) name (share_at w n).reads;
  writes = λ n. at_name (s.writes n) name (is_writer w.writer n);
}

pushed : {X : Type 0} (f : Share → X) (G : Name → Option Region) (n : ℕ) → ◌≡◌ {A = Name → X} (λ q. f (share_of G n q)) (λ q. option_map_or (λ r. f (share_at r n)) (G q) (f blank))
pushed {X} f G n = λ i q. go (G q) i
  where
    go : (o : Option Region) → f (option_map_or (λ r. share_at r n) o blank) ≡ option_map_or (λ r. f (share_at r n)) o (f blank)
    go None = refl
    go (Some r) = refl

share_put : {X : Type 0} (f : Share → X) (G : Name → Option Region) (name : Name) (w : Region) (n : ℕ) → ◌≡◌ {A = Name → X} (λ q. f (share_of (at_name G name (Some w)) n q)) (at_name (λ q. f (share_of G n q)) name (f (share_at w n)))
share_put f G name w n = pushed f (at_name G name (Some w)) n ∙ read_put (λ r. f (share_at r n)) (f blank) G name w ∙ ap (λ g. at_name g name (f (share_at w n))) (sym (pushed f G n))

pub region_put : (nodes : ℕ) (G H : Name → Option Region) (ds : List NodeRow) (name : Name) (w : Region) → H ≡ at_name G name (Some w) → state_of nodes H ds ≡ with_region (state_of nodes G ds) name w
region_put nodes G H ds name w put = ap (λ g. state_of nodes g ds) put ∙ λ i. record (state_of nodes G ds) {
  stage = read_put (λ r. r.stage) Unknown G name w i;
  bytes = read_put bytes_of [] G name w i;
  maps = λ n. share_put (λ s. s.maps) G name w n i;
  reads = λ n. share_put (λ s. s.reads) G name w n i;
  writes = λ n. read_put (λ r. is_writer r.writer n) false G name w i;
}

-- the state with other numbers and parts of a node
abbrev with_row : State → ℕ → ℕ → List Part → ℕ → State
with_row s n used came told = record s { used = at_node s.used n used; came = at_node s.came n came; told = at_node s.told n told }

pub row_put : (nodes : ℕ) (G : Name → Option Region) (ds : List NodeRow) (n : ℕ) (d : NodeRow) → n < length ds → state_of nodes G (set ds n d) ≡ with_row (state_of nodes G ds) n d.used d.came.items d.told
row_put nodes G ds n d inside = λ i. record (state_of nodes G ds) {
  used = row_set (λ (d : NodeRow). d.used) 0 ds n d inside i;
  came = row_set (λ (d : NodeRow). d.came.items) [] ds n d inside i;
  told = row_set (λ (d : NodeRow). d.told) 0 ds n d inside i;
}

-- what a region was that is there
pub record Found (s : State) (name : Name) (r : Region) : Type 0 where
  pub stage : r.stage ≡ s.stage name
  pub bytes : bytes_of r ≡ s.bytes name
  pub maps : (n : ℕ) → (share_at r n).maps ≡ s.maps n name
  pub reads : (n : ℕ) → (share_at r n).reads ≡ s.reads n name
  pub writes : (n : ℕ) → is_writer r.writer n ≡ s.writes n name

pub found : (nodes : ℕ) (G : Name → Option Region) (ds : List NodeRow) (name : Name) (r : Region) → G name ≡ Some r → Found (state_of nodes G ds) name r
found nodes G ds name r e = record { stage = rw e refl; bytes = rw e refl; maps = λ n. rw e refl; reads = λ n. rw e refl; writes = λ n. rw e refl }

-- a region with the same shares, writer, bytes or stage
same_maps : (s : State) (name : Name) (r w : Region) → Found s name r → ((n : ℕ) → share_at w n ≡ share_at r n) → (λ n. at_name (s.maps n) name (share_at w n).maps) ≡ s.maps
same_maps s name r w f e = λ i n. at_name_same (s.maps n) name (share_at w n).maps (sym (ap (λ (t : Share). t.maps) (e n) ∙ f.maps n)) i

same_reads : (s : State) (name : Name) (r w : Region) → Found s name r → ((n : ℕ) → share_at w n ≡ share_at r n) → (λ n. at_name (s.reads n) name (share_at w n).reads) ≡ s.reads
same_reads s name r w f e = λ i n. at_name_same (s.reads n) name (share_at w n).reads (sym (ap (λ (t : Share). t.reads) (e n) ∙ f.reads n)) i

same_writes : (s : State) (name : Name) (r w : Region) → Found s name r → w.writer ≡ r.writer → (λ n. at_name (s.writes n) name (is_writer w.writer n)) ≡ s.writes
same_writes s name r w f e = λ i n. at_name_same (s.writes n) name (is_writer w.writer n) (sym (ap (λ o. is_writer o n) e ∙ f.writes n)) i

same_stage : (s : State) (name : Name) (r w : Region) → Found s name r → w.stage ≡ r.stage → at_name s.stage name w.stage ≡ s.stage
same_stage s name r w f e = at_name_same s.stage name w.stage (sym (e ∙ f.stage))

same_bytes : (s : State) (name : Name) (r w : Region) → Found s name r → bytes_of w ≡ bytes_of r → at_name s.bytes name (bytes_of w) ≡ s.bytes
same_bytes s name r w f e = at_name_same s.bytes name (bytes_of w) (sym (e ∙ f.bytes))

-- room was made for a share
pub share_readied : (s : State) (name : Name) (r w : Region) → Found s name r → w.stage ≡ r.stage → bytes_of w ≡ bytes_of r → w.writer ≡ r.writer → ((n : ℕ) → share_at w n ≡ share_at r n) → with_region s name w ≡ s
share_readied s name r w f stage bytes writer shares = λ i. record s {
  stage = same_stage s name r w f stage i;
  bytes = same_bytes s name r w f bytes i;
  maps = same_maps s name r w f shares i;
  reads = same_reads s name r w f shares i;
  writes = same_writes s name r w f writer i;
}

-- one share was put
share_set : (xs : List Share) (n m : ℕ) (share : Share) → n < length xs → get_or (set xs n share) m blank ≡ cond (eqb n m) share (get_or xs m blank)
share_set xs n m share inside = elim (eqb n m) as (λ b. eqb n m ≡ b → get_or (set xs n share) m blank ≡ cond b share (get_or xs m blank)) [
  | true ↦ λ here. let same : n ≡ m = grind arith in get_or-set_at xs n m share blank (sym same) inside
  | false ↦ λ there. let ne : m ≡ n → ⊥ = grind arith in get_or-set_other xs n m share blank ne
] refl

share_of_set : {X : Type 0} (f : Share → X) (g : ℕ → X) (r w : Region) (n : ℕ) (share : Share) → w.shares.items ≡ set r.shares.items n share → n < length r.shares.items → ((m : ℕ) → f (share_at r m) ≡ g m) → (m : ℕ) → f (share_at w m) ≡ cond (eqb n m) (f share) (g m)
share_of_set {X} f g r w n share shares inside e m = ap (λ xs. f (get_or xs m blank)) shares ∙ ap f (share_set r.shares.items n m share inside) ∙ go (eqb n m) (share_at r m) (e m)
  where
    go : (b : Bool) (t : Share) → f t ≡ g m → f (cond b share t) ≡ cond b (f share) (g m)
    go true t h = refl
    go false t h = h

pub share_written : (s : State) (n : ℕ) (name : Name) (r w : Region) (share : Share) → Found s name r → w.stage ≡ r.stage → bytes_of w ≡ bytes_of r → w.writer ≡ r.writer → w.shares.items ≡ set r.shares.items n share → n < length r.shares.items → with_region s name w ≡ with_share s n name share
share_written s n name r w share f stage bytes writer shares inside = λ i. record s {
  stage = same_stage s name r w f stage i;
  bytes = same_bytes s name r w f bytes i;
  maps = at_pair_of s.maps n name share.maps (λ m. (share_at w m).maps) (share_of_set (λ t. t.maps) (λ m. s.maps m name) r w n share shares inside f.maps) i;
  reads = at_pair_of s.reads n name share.reads (λ m. (share_at w m).reads) (share_of_set (λ t. t.reads) (λ m. s.reads m name) r w n share shares inside f.reads) i;
  writes = same_writes s name r w f writer i;
}

-- the share of a region that is there
pub share_is : (nodes : ℕ) (G : Name → Option Region) (ds : List NodeRow) (n : ℕ) (name : Name) (r : Region) → G name ≡ Some r → share_at r n ≡ the_share (state_of nodes G ds) n name
share_is nodes G ds n name r e = rw e refl

-- a share that differs from what stands there in one number
pair_same : {X : Type 0} (f : ℕ → Name → X) (n : ℕ) (name : Name) (v : X) → v ≡ f n name → at_pair f n name v ≡ f
pair_same {X} f n name v e = sym (at_pair_of f n name v (λ m. f m name) (λ m. here m)) ∙ λ i m. at_name_same (f m) name (f m name) refl i
  where
    here : (m : ℕ) → f m name ≡ (if eqb n m then v else f m name)
    here m = elim (eqb n m) as (λ b. eqb n m ≡ b → f m name ≡ (if b then v else f m name)) [
      | true ↦ λ h. let same : n ≡ m = grind arith in ap (λ k. f k name) (sym same) ∙ sym e
      | false ↦ λ _. refl
    ] refl

pub put_maps : (s : State) (n : ℕ) (name : Name) (share : Share) (k j : ℕ) → share ≡ the_share s n name → k ≡ j
    → with_share s n name (record share { maps = k }) ≡ record s { maps = at_pair s.maps n name j }
put_maps s n name share k j e h = λ i. record s {
  maps = at_pair s.maps n name (h i);
  reads = pair_same s.reads n name share.reads (ap (λ (t : Share). t.reads) e) i;
}

pub put_reads : (s : State) (n : ℕ) (name : Name) (share : Share) (k j : ℕ) → share ≡ the_share s n name → k ≡ j
    → with_share s n name (record share { reads = k }) ≡ record s { reads = at_pair s.reads n name j }
put_reads s n name share k j e h = λ i. record s {
  maps = pair_same s.maps n name share.maps (ap (λ (t : Share). t.maps) e) i;
  reads = at_pair s.reads n name (h i);
}

shares_kept : (r w : Region) → w.shares.items ≡ r.shares.items → (n : ℕ) → share_at w n ≡ share_at r n
shares_kept r w e n = ap (λ xs. get_or xs n blank) e

-- the region's write section opens at a node, where none was open
pub write_opened : (s : State) (n : ℕ) (name : Name) (r w : Region) → Found s name r → w.stage ≡ r.stage → bytes_of w ≡ bytes_of r → w.shares.items ≡ r.shares.items → r.writer ≡ None → w.writer ≡ Some n
    → with_region s name w ≡ record s { writes = at_pair s.writes n name true }
write_opened s n name r w f stage bytes shares none opened = λ i. record s {
  stage = same_stage s name r w f stage i;
  bytes = same_bytes s name r w f bytes i;
  maps = same_maps s name r w f (shares_kept r w shares) i;
  reads = same_reads s name r w f (shares_kept r w shares) i;
  writes = at_pair_of s.writes n name true (λ m. is_writer w.writer m) (λ m. ap (λ o. is_writer o m) opened ∙ test m) i;
}
  where
    test : (m : ℕ) → eqb n m ≡ cond (eqb n m) true (s.writes m name)
    test m = elim (eqb n m) as (λ b. b ≡ cond b true (s.writes m name)) [ true ↦ refl | false ↦ ap (λ o. is_writer o m) (sym none) ∙ f.writes m ]

-- the node's write section closes, and leaves these bytes
pub write_closed : (s : State) (n : ℕ) (name : Name) (r w : Region) (after : List ℕ) → Found s name r → w.stage ≡ r.stage → bytes_of w ≡ after → w.shares.items ≡ r.shares.items → is_writer r.writer n ≡ true → w.writer ≡ None
    → with_region s name w ≡ record s { writes = at_pair s.writes n name false; bytes = at_name s.bytes name after }
write_closed s n name r w after f stage bytes shares opened closed = λ i. record s {
  stage = same_stage s name r w f stage i;
  bytes = at_name s.bytes name (bytes i);
  maps = same_maps s name r w f (shares_kept r w shares) i;
  reads = same_reads s name r w f (shares_kept r w shares) i;
  writes = at_pair_of s.writes n name false (λ m. is_writer w.writer m) (λ m. ap (λ o. is_writer o m) closed ∙ alone r.writer m opened ∙ ap (cond (eqb n m) false) (f.writes m)) i;
}
  where
    alone : (o : Option ℕ) (m : ℕ) → is_writer o n ≡ true → false ≡ cond (eqb n m) false (is_writer o m)
    alone None m h = absurd (true≢false (sym h))
    alone (Some k) m h = let is : k ≡ n = grind arith in rw is (elim (eqb n m) as (λ b. false ≡ cond b false b) [ true ↦ refl | false ↦ refl ])

-- the region stands elsewhere
pub stage_written : (s : State) (name : Name) (r w : Region) (stage : Stage) → Found s name r → w.stage ≡ stage → bytes_of w ≡ bytes_of r → w.writer ≡ r.writer → w.shares.items ≡ r.shares.items
    → with_region s name w ≡ record s { stage = at_name s.stage name stage }
stage_written s name r w stage f is bytes writer shares = λ i. record s {
  stage = at_name s.stage name (is i);
  bytes = same_bytes s name r w f bytes i;
  maps = same_maps s name r w f (shares_kept r w shares) i;
  reads = same_reads s name r w f (shares_kept r w shares) i;
  writes = same_writes s name r w f writer i;
}

-- a name without a region
pub absent : (nodes : ℕ) (G : Name → Option Region) (ds : List NodeRow) (name : Name) → G name ≡ None → ((n : ℕ) → 0 ≡ (state_of nodes G ds).maps n name) × ((n : ℕ) → 0 ≡ (state_of nodes G ds).reads n name) × ((n : ℕ) → false ≡ (state_of nodes G ds).writes n name)
absent nodes G ds name e = (λ n. rw e refl, λ n. rw e refl, λ n. rw e refl)

-- a live region of zeros is added at such a name
pub region_added : (s : State) (name : Name) (w : Region) (size : ℕ) → ((n : ℕ) → 0 ≡ s.maps n name) × ((n : ℕ) → 0 ≡ s.reads n name) × ((n : ℕ) → false ≡ s.writes n name)
    → w.stage ≡ Live → bytes_of w ≡ replicate size 0 → w.shares.items ≡ [] → w.writer ≡ None
    → with_region s name w ≡ record s { stage = at_name s.stage name Live; bytes = at_name s.bytes name (replicate size 0) }
region_added s name w size none stage bytes shares writer = λ i. record s {
  stage = at_name s.stage name (stage i);
  bytes = at_name s.bytes name (bytes i);
  maps = λ n. at_name_same (s.maps n) name (share_at w n).maps (sym (ap (λ xs. (get_or xs n blank).maps) shares ∙ none.0 n)) i;
  reads = λ n. at_name_same (s.reads n) name (share_at w n).reads (sym (ap (λ xs. (get_or xs n blank).reads) shares ∙ none.1 n)) i;
  writes = λ n. at_name_same (s.writes n) name (is_writer w.writer n) (sym (ap (λ o. is_writer o n) writer ∙ none.2 n)) i;
}

-- numbers and parts that are the same, or all but one of them
pub row_same : (s : State) (n used : ℕ) (came : List Part) (told : ℕ) → used ≡ s.used n → came ≡ s.came n → told ≡ s.told n → with_row s n used came told ≡ s
row_same s n used came told u c t = λ i. record s { used = at_node_same s.used n used u i; came = at_node_same s.came n came c i; told = at_node_same s.told n told t i }

pub serial_used : (s : State) (n used : ℕ) (came : List Part) (told k : ℕ) → used ≡ k → came ≡ s.came n → told ≡ s.told n → with_row s n used came told ≡ record s { used = at_node s.used n k }
serial_used s n used came told k u c t = λ i. record s { used = at_node s.used n (u i); came = at_node_same s.came n came c i; told = at_node_same s.told n told t i }

pub told_more : (s : State) (n used : ℕ) (came : List Part) (told k : ℕ) → used ≡ s.used n → came ≡ s.came n → told ≡ k → with_row s n used came told ≡ record s { told = at_node s.told n k }
told_more s n used came told k u c t = λ i. record s { used = at_node_same s.used n used u i; came = at_node_same s.came n came c i; told = at_node s.told n (t i) }

pub part_came : (s : State) (n used : ℕ) (came : List Part) (told : ℕ) (parts : List Part) → used ≡ s.used n → came ≡ parts → told ≡ s.told n → with_row s n used came told ≡ record s { came = at_node s.came n parts }
part_came s n used came told parts u c t = λ i. record s { used = at_node_same s.used n used u i; came = at_node s.came n (c i); told = at_node_same s.told n told t i }

-- a refusal of mixed parts uses no serial
pub only_told : (s : State) (n : ℕ) (told : ℕ → ℕ) → record s { told = told } ≡ record s { used = at_node s.used n (s.used n); told = told }
only_told s n told = λ i. record s { used = sym (at_node_same s.used n (s.used n) refl) i; told = told }

pub on_ok : {A E P : Type 0} (r : Result A E) {Q : Type 0} → OnOk r Q → (Q → P) → OnOk r P
on_ok (Ok v) h f = f h
on_ok (Err e) h f = tt

pub on_err : {A E P : Type 0} (r : Result A E) {Q : Type 0} → OnErr r Q → (Q → P) → OnErr r P
on_err (Ok v) h f = tt
on_err (Err e) h f = f h
