-- A printable script is read again from its canonical text.
use Rattle.std.proofs.Common.{◌≡◌, ℕ, ◌+◌, ◌<◌, ◌≤◌, ◌^◌, ◌⊎◌, inl, inr, Bool, true, false, zero, suc, List, [], ◌∷◌, ◌++◌, length, map, replicate, Some, Result, Ok, refl, sym, ap, ◌∙◌, arith, length-append}
use Rattle.std.specs.Prelude.{codes, decimal, nat_lt, nat_le, ◌==◌, slice_index_or}
use Rattle.std.specs.Str.{bytes_eq}
use Rattle.std.proofs.lemmas.Slice.Eq.{bytes_eq-Decides}
use Rattle.crl_model.specs.declared.name.Name.{Name}
use Rattle.crl_model.specs.declared.call.Call as calls
use Rattle.crl_model.specs.declared.call.Call.TheVariants as call
use Rattle.crl_script.specs.declared.fault.ScriptWhy.TheVariants.{BadNumber}
use Rattle.crl_script.specs.declared.place.Place.TheVariants.{Head, Outside}
use Rattle.crl_model.specs.declared.statement.Statement.{Statement}
use Rattle.crl_model.specs.declared.statement.Statement.TheVariants.{Call, Put, Add}
use Rattle.crl_script.specs.Again.{IsScript, IsPrintable, IsNamed, made_by}
use Rattle.crl_script.specs.Canonical.{canonical_of, line_text, label_of, label_text, statement_words, made_after, block_text, node_text, blocks_text}
use Rattle.crl_script.specs.Labels.{Names, no_names, any_name}
use Rattle.crl_script.specs.Program.{Program, Fault}
use Rattle.crl_script.specs.Progress.{Progress, start, words_line, line_at, nodes_line, cache_line}
use Rattle.crl_script.specs.Sentence.{lines_from, read_by, read_with, script_of, program_of, ◌>=>◌}
use Rattle.crl_script.specs.Text.{lines_of}
use Rattle.crl_script.proofs.NumberLemmas.{number_again, decimal_ink}
use Rattle.crl_script.proofs.RunLemmas.{step_line, Knows, renamed, renamed_call, name_after}
use Rattle.crl_script.proofs.SoundLemmas.{all_sound}
use Rattle.crl_script.proofs.BlockRun.{made_grows, block_names}
use Rattle.crl_script.proofs.ScriptRun.{blocks_read, names_kept, all_names, AllSmall, before}

line_some : (ws : List (List ℕ)) → 0 < length (line_text ws)
line_some [] = omega arith
line_some (w ∷ []) = let l = length-append w (10 ∷ []) in omega arith
line_some (w ∷ v ∷ ws) = let l = length-append w (32 ∷ line_text (v ∷ ws)) in omega arith

block_long : (node made : ℕ) (ss : List Statement) → length ss ≤ length (block_text node made ss)
block_long node made [] = omega arith
block_long node made (s ∷ ss) =
    let more = block_long node (made_after made s) ss in
    let some = line_some (statement_words node made s) in
    let l = length-append (line_text (statement_words node made s)) (block_text node (made_after made s) ss) in
    omega arith

node_long : (node : ℕ) (block : List Statement) → length block ≤ length (node_text node block)
node_long node [] = omega arith
node_long node (s ∷ ss) =
    let more = block_long node 0 (s ∷ ss) in
    let l = length-append (line_text (codes "node" ∷ decimal node ∷ [])) (block_text node 0 (s ∷ ss)) in
    omega arith

small_blocks : (node : ℕ) (blocks : List (List Statement)) → length (blocks_text node blocks) < 2 ^ 64 → AllSmall blocks
small_blocks node [] h = tt
small_blocks node (block ∷ blocks) h =
    let l = length-append (node_text node block) (blocks_text (node + 1) blocks) in
    let long = node_long node block in
    (omega arith, small_blocks (node + 1) blocks (omega arith))

-- how many regions a block creates
pub made_most : (made : ℕ) (ss : List Statement) → (made ≤ made_by made ss) × (made_by made ss ≤ made + length ss)
made_most made [] = (omega arith, omega arith)
made_most made (s ∷ ss) = let grows = made_grows made s in let more = made_most (made_after made s) ss in (omega arith, omega arith)

label_itself : (i k : ℕ) → bytes_eq (label_text i k) (label_text i k) ≡ true
label_itself i k = (bytes_eq-Decides (label_text i k) (label_text i k)).1 refl

-- the region that a create makes
name_made : (node made : ℕ) (s : Statement) (names : Names) → made < made_after made s → name_after node made s names (label_text node (made + 1)) ≡ Some (record { home = node; serial = made + 1 })
name_made node made (Call (call.Create size)) names h = rw (label_itself node (made + 1)) refl
name_made node made (Call (call.Delete name)) names h = absurd (omega arith)
name_made node made (Call (call.Map name)) names h = absurd (omega arith)
name_made node made (Call (call.Unmap name)) names h = absurd (omega arith)
name_made node made (Call (call.StartRead name)) names h = absurd (omega arith)
name_made node made (Call (call.EndRead name)) names h = absurd (omega arith)
name_made node made (Call (call.StartWrite name)) names h = absurd (omega arith)
name_made node made (Call (call.EndWrite name after)) names h = absurd (omega arith)
name_made node made (Call (call.Put name offset len)) names h = absurd (omega arith)
name_made node made (Call (call.Add name offset)) names h = absurd (omega arith)
name_made node made (Call (call.Flush name)) names h = absurd (omega arith)
name_made node made (Call (call.Come part)) names h = absurd (omega arith)
name_made node made (Put name offset bytes) names h = absurd (omega arith)
name_made node made (Add name offset number) names h = absurd (omega arith)

pub either : (a b : ℕ) → (a < b) ⊎ (b ≤ a)
either a b = go (nat_lt a b) refl where
  go : (t : Bool) → nat_lt a b ≡ t → (a < b) ⊎ (b ≤ a)
  go true e = inl (grind arith)
  go false e = inr (grind arith)

-- a region of a block has its name behind the block
block_given : (node : ℕ) (ss : List Statement) (made : ℕ) (names : Names) (serial : ℕ) → node < 64 → made + length ss < 2 ^ 64 → made < serial → serial ≤ made_by made ss
    → block_names node made ss names (label_text node serial) ≡ Some (record { home = node; serial = serial })
block_given node [] made names serial hn hs h k = absurd (omega arith)
block_given node (s ∷ ss) made names serial hn hs h k = go (either (made_after made s) serial) (block_given node ss (made_after made s) (name_after node made s names) serial hn) where
  go : (made_after made s < serial) ⊎ (serial ≤ made_after made s)
      → (made_after made s + length ss < 2 ^ 64 → made_after made s < serial → serial ≤ made_by (made_after made s) ss
      → block_names node (made_after made s) ss (name_after node made s names) (label_text node serial) ≡ Some (record { home = node; serial = serial }))
      → block_names node made (s ∷ ss) names (label_text node serial) ≡ Some (record { home = node; serial = serial })
  go (inl later) again = let grows = made_grows made s in again (omega arith) later k
  go (inr here) again =
      let grows = made_grows made s in
      let most = made_most made (s ∷ ss) in
      let same : made + 1 ≡ serial = omega arith in
      names_kept node ss (made_after made s) (name_after node made s names) node serial hn (omega arith) hn (omega arith) (λ _ l. absurd (omega arith))
      ∙ ap (λ (k : ℕ). name_after node made s names (label_text node k)) (sym same)
      ∙ name_made node made s names (omega arith)
      ∙ ap (λ (k : ℕ). Some (record { home = node; serial = k })) same

-- the blocks of later nodes leave a name as it is
all_kept : (blocks : List (List Statement)) (node : ℕ) (names : Names) (j m : ℕ) → node + length blocks ≤ 64 → AllSmall blocks → j < node → m < 2 ^ 64
    → all_names node blocks names (label_text j m) ≡ names (label_text j m)
all_kept [] node names j m hn hs hj hm = refl
all_kept (block ∷ blocks) node names j m hn hs hj hm =
    all_kept blocks (node + 1) (block_names node 0 block names) j m (omega arith) hs.1 (omega arith) hm
    ∙ names_kept node block 0 names j m (omega arith) (let fits = hs.0 in omega arith) (omega arith) hm (λ e _. absurd (omega arith))

-- each region of the script has its name
all_given : (blocks : List (List Statement)) (node : ℕ) (names : Names) (i serial : ℕ) → node + length blocks ≤ 64 → AllSmall blocks
    → 0 < serial → serial ≤ made_by 0 (slice_index_or blocks i [])
    → (i < length blocks) × (serial < 2 ^ 64) × (all_names node blocks names (label_text (node + i) serial) ≡ Some (record { home = node + i; serial = serial }))
all_given [] node names i serial hn hs h k = absurd (omega arith)
all_given (block ∷ blocks) node names zero serial hn hs h k =
    let fits = hs.0 in
    let most = made_most 0 block in
    let here : node + 0 ≡ node = omega arith in
    let given = all_kept blocks (node + 1) (block_names node 0 block names) node serial (omega arith) hs.1 (omega arith) (omega arith)
    ∙ block_given node block 0 names serial (omega arith) (omega arith) h k in
    (omega arith, omega arith, rw here given)
all_given (block ∷ blocks) node names (suc i) serial hn hs h k =
    let more = all_given blocks (node + 1) (block_names node 0 block names) i serial (omega arith) hs.1 h k in
    let there : node + suc i ≡ (node + 1) + i = omega arith in
    (let below = more.0 in omega arith, more.1, rw there more.2)

-- nodes N
nodes_read : (known : Names) (n : ℕ) → 0 < n → n ≤ 64
    → words_line known start (codes "nodes" ∷ decimal n ∷ []) ≡ Ok (record { place = Head; cache = 16; begun = []; names = no_names; made = 0; blocks = replicate n [] })
unfolding line_at nodes_line
nodes_read known n h k =
    let low : nat_le 1 n ≡ true = grind arith in
    let high : nat_le n 64 ≡ true = grind arith in
    rw (number_again 18446744073709551615 n BadNumber (omega arith) (omega arith), low, high) refl

-- cache C
cache_read : (known : Names) (n c : ℕ) → c < 2 ^ 16
    → words_line known (record { place = Head; cache = 16; begun = []; names = no_names; made = 0; blocks = replicate n [] }) (codes "cache" ∷ decimal c ∷ [])
    ≡ Ok (before Outside c [] no_names 0 [] n)
unfolding line_at cache_line
cache_read known n c h = rw (number_again 65535 c BadNumber (omega arith) (omega arith)) refl

-- the text is read, with names for its labels
record ReadAgain (known : Names) (f : Name → Name) (p : Program) : Type 0 where
  pub end : Progress
  pub read : read_with known (canonical_of p) ≡ Ok end
  pub cache_is : end.cache ≡ p.cache
  pub names_are : end.names ≡ all_names 0 p.blocks no_names
  pub blocks_are : end.blocks ≡ map (map (renamed f)) p.blocks

-- the text of the blocks is shorter than the whole text
blocks_short : (p : Program) → IsPrintable p → AllSmall p.blocks
unfolding canonical_of
blocks_short p h =
    let nodes = line_text (codes "nodes" ∷ decimal p.nodes ∷ []) in
    let cache = line_text (codes "cache" ∷ decimal p.cache ∷ []) in
    let size = h.size in
    let outer = length-append nodes (cache ++ blocks_text 0 p.blocks) in
    let inner = length-append cache (blocks_text 0 p.blocks) in
    small_blocks 0 p.blocks (omega arith)

text_read : (known : Names) (f : Name → Name) (p : Program) → Knows known f p.blocks → IsScript p → IsPrintable p → ReadAgain known f p
unfolding read_by canonical_of
text_read known f p k g h =
    let rest = line_text (codes "cache" ∷ decimal p.cache ∷ []) ++ blocks_text 0 p.blocks in
    let cache = g.cache in
    let some = g.some in
    let limit = g.limit in
    let empty : List Statement = [] in
    let head : Progress = record { place = Head; cache = 16; begun = []; names = no_names; made = 0; blocks = replicate p.nodes empty } in
    let first = step_line known start head 1 (codes "nodes" ∷ decimal p.nodes ∷ []) rest ((refl, refl), (decimal_ink p.nodes (omega arith), tt)) h.lines (nodes_read known p.nodes some limit) in
    let second = step_line known head (before Outside p.cache [] no_names 0 [] p.nodes) 2 (codes "cache" ∷ decimal p.cache ∷ []) (blocks_text 0 p.blocks)
    ((refl, refl), (decimal_ink p.cache (omega arith), tt)) first.short (cache_read known p.nodes p.cache cache) in
    let nodes = g.nodes in
    let more = blocks_read known f p.blocks k p.cache p.blocks Outside [] no_names 0 [] 0 3
    (record { place_is = tt; room = omega arith; node_is = refl; free = λ j m _ _ _. refl; new = λ j _. refl; small = blocks_short p h }) (all_sound p.blocks p.blocks g.statements h.named) second.short in
    record {
      end = more.end;
      read = first.read ∙ second.read ∙ ap (λ (n : ℕ). lines_from known (before Outside p.cache [] no_names 0 [] n) 3 (lines_of (blocks_text 0 p.blocks))) nodes ∙ more.read;
      cache_is = more.cache_is;
      names_are = more.names_are;
      blocks_are = more.blocks_are;
    }

call_same : (c : calls.Call) → renamed_call (λ name. name) c ≡ c
call_same (call.Create size) = refl
call_same (call.Delete name) = refl
call_same (call.Map name) = refl
call_same (call.Unmap name) = refl
call_same (call.StartRead name) = refl
call_same (call.EndRead name) = refl
call_same (call.StartWrite name) = refl
call_same (call.EndWrite name after) = refl
call_same (call.Put name offset len) = refl
call_same (call.Add name offset) = refl
call_same (call.Flush name) = refl
call_same (call.Come part) = refl

statement_same : (s : Statement) → renamed (λ name. name) s ≡ s
statement_same (Call c) = ap Call (call_same c)
statement_same (Put name offset bytes) = refl
statement_same (Add name offset number) = refl

block_same : (ss : List Statement) → map (renamed (λ name. name)) ss ≡ ss
block_same [] = refl
block_same (s ∷ ss) = ap (λ (t : Statement). t ∷ map (renamed (λ name. name)) ss) (statement_same s) ∙ ap (λ (ts : List Statement). s ∷ ts) (block_same ss)

blocks_same : (blocks : List (List Statement)) → map (map (renamed (λ name. name))) blocks ≡ blocks
blocks_same [] = refl
blocks_same (block ∷ blocks) =
    ap (λ (b : List Statement). b ∷ map (map (renamed (λ name. name))) blocks) (block_same block) ∙ ap (λ (bs : List (List Statement)). block ∷ bs) (blocks_same blocks)

-- what is known of a region's name
named : (p : Program) → IsScript p → IsPrintable p → (name : Name) → IsNamed p.blocks name
    → (name.home < 64) × (name.serial < 2 ^ 64) × (all_names 0 p.blocks no_names (label_of name) ≡ Some name)
named p g h name i =
    let nodes = g.nodes in
    let limit = g.limit in
    let given = all_given p.blocks 0 no_names name.home name.serial (omega arith) (blocks_short p h) i.0 i.1 in
    let zero_more : 0 + name.home ≡ name.home = omega arith in
    (let below = given.0 in omega arith, given.1, rw zero_more at given.2)

nowhere : Name → Name
nowhere name = record { home = 0; serial = 0 }

any_knows : (p : Program) → IsScript p → IsPrintable p → Knows any_name nowhere p.blocks
unfolding nowhere
any_knows p g h = record { reads = λ name i. let n = named p g h name i in record { home = n.0; serial = n.1; known = refl } }

all_know : (p : Program) → IsScript p → IsPrintable p → Knows (all_names 0 p.blocks no_names) (λ name. name) p.blocks
all_know p g h = record { reads = λ name i. let n = named p g h name i in record { home = n.0; serial = n.1; known = n.2 } }

program_again : (q : Progress) (p : Program) → q.blocks ≡ p.blocks → q.cache ≡ p.cache → p.nodes ≡ length p.blocks → 0 < p.nodes → program_of q ≡ Ok p
program_again q p blocks cache nodes some =
    let not_empty : (length p.blocks == 0) ≡ false = grind arith in
    rw (blocks, not_empty, cache, ← nodes) refl

-- A printable script is read again.
pub again : (p : Program) → IsScript p → IsPrintable p → script_of (canonical_of p) ≡ Ok p
unfolding script_of
again p g h =
    let text = canonical_of p in
    let first = text_read any_name nowhere p (any_knows p g h) g h in
    let second = text_read (all_names 0 p.blocks no_names) (λ name. name) p (all_know p g h) g h in
    ap (λ (r : Result Progress Fault). r >=> (λ q. read_with q.names text >=> program_of)) first.read
    ∙ ap (λ (names : Names). read_with names text >=> program_of) first.names_are
    ∙ ap (λ (r : Result Progress Fault). r >=> program_of) second.read
    ∙ program_again second.end p (second.blocks_are ∙ blocks_same p.blocks) second.cache_is g.nodes g.some
