-- A script is read from its canonical text.
use Rattle.std.proofs.Common.{◌≡◌, ℕ, ◌+◌, ◌<◌, ◌≤◌, ◌^◌, Bool, true, false, List, [], ◌∷◌, ◌++◌, length, map, replicate, None, Ok, refl, sym, ap, ◌∙◌, arith, append_assoc, length-append}
use Rattle.std.specs.Prelude.{codes, decimal, nat_le, ◌==◌}
use Rattle.std.specs.List.{AllByRecursion, list_any}
use Rattle.std.proofs.lemmas.List.{length-replicate}
use Rattle.crl_model.specs.declared.name.Name.{Name}
use Rattle.crl_script.specs.declared.fault.ScriptWhy.TheVariants.{BadNumber}
use Rattle.crl_script.specs.declared.place.Place.{Place}
use Rattle.crl_script.specs.declared.place.Place.TheVariants.{Start, Head, Outside, Inside}
use Rattle.crl_model.specs.declared.statement.Statement.{Statement}
use Rattle.crl_script.specs.Again.{made_by}
use Rattle.crl_script.proofs.SoundLemmas.{IsSound}
use Rattle.crl_script.specs.Canonical.{line_text, label_text, made_after, block_text, blocks_text}
use Rattle.crl_script.specs.Labels.{Names}
use Rattle.crl_script.specs.Progress.{Progress, words_line, line_at, node_line}
use Rattle.crl_script.specs.Sentence.{lines_from}
use Rattle.crl_script.specs.Text.{lines_of}
use Rattle.crl_script.proofs.NumberLemmas.{number_again, decimal_ink}
use Rattle.crl_script.proofs.RunLemmas.{AllShort, step_line, Knows, renamed, name_after, inside}
use Rattle.crl_script.proofs.BlockRun.{name_kept, made_grows, block_names, block_read}
use Rattle.crl_script.proofs.TextLemmas.{line_none}

-- a line `node` may follow
abbrev pub AcceptsNode : Place → Type 0
AcceptsNode Start = ⊥
AcceptsNode Head = Unit {0}
AcceptsNode Outside = Unit {0}
AcceptsNode (Inside node) = Unit {0}

node_at : (known : Names) (p : Progress) (place : Place) (ws : List (List ℕ)) → AcceptsNode place → line_at known p place (codes "node") ws ≡ node_line p ws
unfolding line_at
node_at known p Start ws h = absurd h
node_at known p Head ws h = refl
node_at known p Outside ws h = refl
node_at known p (Inside node) ws h = refl

pub node_read : (known : Names) (p : Progress) (node : ℕ) → AcceptsNode p.place → node < 64 → node < length p.blocks → list_any (λ k. k == node) p.begun ≡ false
    → words_line known p (codes "node" ∷ decimal node ∷ []) ≡ Ok (record p { place = Inside node; begun = p.begun ++ node ∷ []; made = 0 })
unfolding node_line
node_read known p node h small within new =
    let below : nat_le (length p.blocks) node ≡ false = grind arith in
    node_at known p p.place (decimal node ∷ []) h ∙ rw (number_again 4294967295 node BadNumber (omega arith) (omega arith), below, new) refl

-- a block creates no other region
pub names_kept : (node : ℕ) (ss : List Statement) (made : ℕ) (names : Names) (j m : ℕ) → node < 64 → made + length ss < 2 ^ 64 → j < 64 → m < 2 ^ 64
    → (node ≡ j → made < m → ⊥) → block_names node made ss names (label_text j m) ≡ names (label_text j m)
names_kept node [] made names j m hn hs hj hm apart = refl
names_kept node (s ∷ ss) made names j m hn hs hj hm apart =
    let grows = made_grows made s in
    names_kept node ss (made_after made s) (name_after node made s names) j m hn (omega arith) hj hm (λ e l. apart e (omega arith))
    ∙ name_kept node made s names j m hn (omega arith) hj hm (λ e l. apart e (omega arith))

-- the names behind all blocks
abbrev pub all_names : ℕ → List (List Statement) → Names → Names
all_names node [] names = names
all_names node (block ∷ blocks) names = all_names (node + 1) blocks (block_names node 0 block names)

abbrev pub AllSmall : List (List Statement) → Type 0
AllSmall blocks = AllByRecursion (λ block. length block < 2 ^ 64) blocks

any_more : (p : ℕ → Bool) (xs : List ℕ) (y : ℕ) → list_any p xs ≡ false → p y ≡ false → list_any p (xs ++ y ∷ []) ≡ false
any_more p [] y h k = rw k refl
any_more p (x ∷ xs) y h k = go (p x) refl (any_more p xs y) where
  go : (b : Bool) → p x ≡ b → (list_any p xs ≡ false → p y ≡ false → list_any p (xs ++ y ∷ []) ≡ false) → list_any p ((x ∷ xs) ++ y ∷ []) ≡ false
  go true e again = let wrong = rw e at h in cc wrong
  go false e again = rw e (again (rw e at h) k)

-- before the block of a node, reading has the blocks of the nodes before it
abbrev pub before : Place → ℕ → List ℕ → Names → ℕ → List (List Statement) → ℕ → Progress
before place cache begun names made front left =
    record { place = place; cache = cache; begun = begun; names = names; made = made; blocks = front ++ replicate left [] }

-- all blocks are read
pub record BlocksRead (known : Names) (f : Name → Name) (p : Progress) (n cache node : ℕ) (names : Names) (front : List (List Statement)) (blocks : List (List Statement)) : Type 0 where
  pub end : Progress
  pub read : lines_from known p n (lines_of (blocks_text node blocks)) ≡ Ok end
  pub cache_is : end.cache ≡ cache
  pub names_are : end.names ≡ all_names node blocks names
  pub blocks_are : end.blocks ≡ front ++ map (map (renamed f)) blocks

-- what holds before the block of a node
pub record Ready (place : Place) (begun : List ℕ) (names : Names) (front : List (List Statement)) (node : ℕ) (blocks : List (List Statement)) : Type 0 where
  pub place_is : AcceptsNode place
  pub room : node + length blocks ≤ 64
  pub node_is : node ≡ length front
  pub free : (j m : ℕ) → node ≤ j → j < 64 → m < 2 ^ 64 → names (label_text j m) ≡ None
  pub new : (j : ℕ) → node ≤ j → list_any (λ k. k == j) begun ≡ false
  pub small : AllSmall blocks

-- the same behind a block
ready_next : (place : Place) (begun : List ℕ) (names : Names) (front : List (List Statement)) (node : ℕ) (block done : List Statement) (blocks : List (List Statement))
    → Ready place begun names front node (block ∷ blocks)
    → Ready (Inside node) (begun ++ node ∷ []) (block_names node 0 block names) (front ++ done ∷ []) (node + 1) blocks
ready_next place begun names front node block done blocks r =
    let room = r.room in
    record {
      place_is = tt;
      room = omega arith;
      node_is = let e = r.node_is in let l = length-append front (done ∷ []) in omega arith;
      free = λ j m h hj hm. names_kept node block 0 names j m (omega arith) (let fits = r.small.0 in omega arith) hj hm (λ e l. absurd (omega arith)) ∙ r.free j m (omega arith) hj hm;
      new = λ j h. any_more (λ k. k == j) begun node (r.new j (omega arith)) (let less : node < j = omega arith in grind arith);
      small = r.small.1;
    }

-- the same behind an empty block, which has no line
ready_empty : (place : Place) (begun : List ℕ) (names : Names) (front : List (List Statement)) (node : ℕ) (done : List Statement) (blocks : List (List Statement))
    → Ready place begun names front node ([] ∷ blocks)
    → Ready place begun names (front ++ done ∷ []) (node + 1) blocks
ready_empty place begun names front node done blocks r =
    let room = r.room in
    record {
      place_is = r.place_is;
      room = omega arith;
      node_is = let e = r.node_is in let l = length-append front (done ∷ []) in omega arith;
      free = λ j m h hj hm. r.free j m (omega arith) hj hm;
      new = λ j h. r.new j (omega arith);
      small = r.small.1;
    }

has_room : (node : ℕ) (front : List (List Statement)) (left : ℕ) → node ≡ length front → 0 < left → node < length (front ++ replicate left [])
has_room node front left e h =
    let empty : List Statement = [] in
    let l = length-append front (replicate left empty) in
    let m = length-replicate left empty in
    omega arith

pub blocks_read : (known : Names) (f : Name → Name) (all : List (List Statement)) → Knows known f all
    → (cache : ℕ) (blocks : List (List Statement)) (place : Place) (begun : List ℕ) (names : Names) (made : ℕ) (front : List (List Statement)) (node n : ℕ)
    → Ready place begun names front node blocks → AllByRecursion (λ block. AllByRecursion (IsSound all) block) blocks
    → AllShort (lines_of (blocks_text node blocks))
    → BlocksRead known f (before place cache begun names made front (length blocks)) n cache node names front blocks
blocks_read known f all k cache [] place begun names made front node n r sound short =
    record {
      end = before place cache begun names made front 0;
      read = ap (lines_from known (before place cache begun names made front 0) n) (line_none [] refl);
      cache_is = refl;
      names_are = refl;
      blocks_are = refl;
    }
blocks_read known f all k cache ([] ∷ blocks) place begun names made front node n r sound short =
    let more = blocks_read known f all k cache blocks place begun names made (front ++ [] ∷ []) (node + 1) n (ready_empty place begun names front node [] blocks r) sound.1 short in
    let regroup = append_assoc front ([] ∷ []) (replicate (length blocks) []) in
    record {
      end = more.end;
      read = ap (λ (bs : List (List Statement)). lines_from known (record { place = place; cache = cache; begun = begun; names = names; made = made; blocks = bs }) n (lines_of (blocks_text (node + 1) blocks))) (sym regroup) ∙ more.read;
      cache_is = more.cache_is;
      names_are = more.names_are;
      blocks_are = more.blocks_are ∙ append_assoc front ([] ∷ []) (map (map (renamed f)) blocks);
    }
blocks_read known f all k cache ((s ∷ ss) ∷ blocks) place begun names made front node n r sound short =
    let block : List Statement = s ∷ ss in
    let back : List (List Statement) = replicate (length blocks) [] in
    let done : List Statement = map (renamed f) block in
    let p : Progress = before place cache begun names made front (length (block ∷ blocks)) in
    let room = r.room in
    let hn : node < 64 = omega arith in
    let within : node < length (front ++ replicate (length (block ∷ blocks)) []) = has_room node front (length (block ∷ blocks)) r.node_is (omega arith) in
    let head = line_text (codes "node" ∷ decimal node ∷ []) in
    let rest = block_text node 0 block ++ blocks_text (node + 1) blocks in
    let whole : blocks_text node (block ∷ blocks) ≡ head ++ rest = append_assoc head (block_text node 0 block) (blocks_text (node + 1) blocks) in
    let first = step_line known p (inside node cache (begun ++ node ∷ []) names 0 front [] back) n (codes "node" ∷ decimal node ∷ []) rest
    ((refl, refl), (decimal_ink node (omega arith), tt)) (rw whole at short)
    (node_read known p node r.place_is hn within (r.new node (omega arith))) in
    let body = block_read known f all k node cache (begun ++ node ∷ []) front back (blocks_text (node + 1) blocks) r.node_is hn block names 0 (n + 1) []
    (let fits = r.small.0 in omega arith) (λ j h fits. r.free node j (omega arith) hn fits) sound.0 first.short in
    let more = blocks_read known f all k cache blocks (Inside node) (begun ++ node ∷ []) (block_names node 0 block names) (made_by 0 block) (front ++ done ∷ []) (node + 1) body.line
    (ready_next place begun names front node block done blocks r) sound.1 body.short in
    record {
      end = more.end;
      read = ap (λ (t : List ℕ). lines_from known p n (lines_of t)) whole ∙ first.read ∙ body.read
          ∙ ap (λ (bs : List (List Statement)). lines_from known (record { place = Inside node; cache = cache; begun = begun ++ node ∷ []; names = block_names node 0 block names; made = made_by 0 block; blocks = bs }) body.line (lines_of (blocks_text (node + 1) blocks)))
          (sym (append_assoc front (done ∷ []) back))
          ∙ more.read;
      cache_is = more.cache_is;
      names_are = more.names_are;
      blocks_are = more.blocks_are ∙ append_assoc front (done ∷ []) (map (map (renamed f)) blocks);
    }
