-- A script whose statements bring no bytes is printable.
use Rattle.std.proofs.Common.{◌≡◌, ℕ, zero, suc, ◌+◌, ◌<◌, ◌≤◌, ◌^◌, List, [], ◌∷◌, ◌++◌, length, map, sym, subst, arith, append_assoc, length-append}
use Rattle.std.specs.Prelude.{codes, decimal, sum, slice_index_or, ℤ, pos, negsuc}
use Rattle.std.specs.Fmt.{signed_decimal}
use Rattle.std.specs.List.{AllByRecursion, sum_by}
use Rattle.std.proofs.lemmas.Fmt.{length-decimal-le}
use Rattle.std.proofs.lemmas.List.Sums.{sum_by-cons, sum-map}
use Rattle.crl_model.specs.declared.name.Name.{Name}
use Rattle.crl_model.specs.declared.call.Call as calls
use Rattle.crl_model.specs.declared.call.Call.TheVariants as call
use Rattle.crl_model.specs.declared.collective.Part.{Part}
use Rattle.crl_model.specs.declared.collective.Part.TheVariants.{Barrier, Send, Receive, Sum, Min, Max}
use Rattle.crl_model.specs.declared.statement.Statement.{Statement}
use Rattle.crl_model.specs.declared.statement.Statement.TheVariants.{Call, Put, Add}
use Rattle.crl_script.specs.Again.{IsScript, IsPrintable, IsNamed, IsValue, IsPart, IsPlain, AllPlain, AllNamed, made_by}
use Rattle.crl_script.specs.Canonical.{canonical_of, line_text, label_of, label_text, part_words, statement_words, made_after, block_text, blocks_text}
use Rattle.crl_script.specs.Program.{Program}
use Rattle.crl_script.proofs.AgainLemmas.{made_most}
use Rattle.crl_script.proofs.BlockRun.{made_grows}
use Rattle.crl_script.proofs.ShortTexts.{IsShortText, no_text, line_before, lines_are_short}
use Rattle.crl_script.proofs.SoundLemmas.{IsSound, IsSoundCall, all_sound}

-- lines of one to four words
one_word : (a : List ℕ) → length (line_text (a ∷ [])) ≡ length a + 1
one_word a = length-append a (10 ∷ [])

two_words : (a b : List ℕ) → length (line_text (a ∷ b ∷ [])) ≡ length a + length b + 2
two_words a b = let l = length-append a (32 ∷ line_text (b ∷ [])) in let m = one_word b in omega arith

three_words : (a b c : List ℕ) → length (line_text (a ∷ b ∷ c ∷ [])) ≡ length a + length b + length c + 3
three_words a b c = let l = length-append a (32 ∷ line_text (b ∷ c ∷ [])) in let m = two_words b c in omega arith

four_words : (a b c d : List ℕ) → length (line_text (a ∷ b ∷ c ∷ d ∷ [])) ≡ length a + length b + length c + length d + 4
four_words a b c d = let l = length-append a (32 ∷ line_text (b ∷ c ∷ d ∷ [])) in let m = three_words b c d in omega arith

-- how long words are
number_length : (n : ℕ) → n < 2 ^ 64 → length (decimal n) ≤ 20
number_length n h = length-decimal-le 20 n (omega arith) (omega arith) h

short_length : (n : ℕ) → n < 2 ^ 32 → length (decimal n) ≤ 10
short_length n h = length-decimal-le 10 n (omega arith) (omega arith) (omega arith)

value_length : (z : ℤ) → IsValue z → length (signed_decimal z) ≤ 21
value_length (pos n) h = let l = number_length n (omega arith) in omega arith
value_length (negsuc n) h = let l = number_length (suc n) (omega arith) in omega arith

label_length : (home serial : ℕ) → home < 64 → serial < 2 ^ 32 → length (label_text home serial) ≤ 14
unfolding label_text
label_length home serial h k =
    let a = length-decimal-le 2 home (omega arith) (omega arith) (omega arith) in
    let b = short_length serial k in
    let l = length-append (decimal home) (codes "_" ++ decimal serial) in
    omega arith

-- a statement's line has at most 60 bytes
abbrev IsBrief : Statement → Type 0
IsBrief s = (node made : ℕ) → node < 64 → made + 1 < 2 ^ 32 → length (line_text (statement_words node made s)) ≤ 60

abbrev NamesFit : List (List Statement) → Type 0
NamesFit blocks = (name : Name) → IsNamed blocks name → (name.home < 64) × (name.serial < 2 ^ 32)

about_brief : (word : List ℕ) (blocks : List (List Statement)) (name : Name) → length word ≤ 8 → NamesFit blocks → IsNamed blocks name → length (line_text (word ∷ label_of name ∷ [])) ≤ 60
about_brief word blocks name h fits named =
    let f = fits name named in let l = label_length name.home name.serial f.0 f.1 in let m = two_words word (label_of name) in omega arith

value_brief : (word : List ℕ) (value : ℤ) → length word ≤ 8 → IsValue value → length (line_text (word ∷ signed_decimal value ∷ [])) ≤ 60
value_brief word value h is = let l = value_length value is in let m = two_words word (signed_decimal value) in omega arith

part_brief : (part : Part) → IsPart part → IsPlain (Call (call.Come part)) → length (line_text (part_words part)) ≤ 60
part_brief Barrier h plain = omega arith
part_brief (Send bytes) h plain = absurd plain
part_brief Receive h plain = omega arith
part_brief (Sum value) h plain = value_brief (codes "sum") value (omega arith) h
part_brief (Min value) h plain = value_brief (codes "min") value (omega arith) h
part_brief (Max value) h plain = value_brief (codes "max") value (omega arith) h

create_brief : (node made size : ℕ) → node < 64 → made + 1 < 2 ^ 32 → size < 2 ^ 32 → length (line_text (codes "create" ∷ label_text node (made + 1) ∷ decimal size ∷ [])) ≤ 60
create_brief node made size h k small =
    let l = label_length node (made + 1) h k in let d = short_length size small in
    let m = three_words (codes "create") (label_text node (made + 1)) (decimal size) in omega arith

call_brief : (blocks : List (List Statement)) → NamesFit blocks → (c : calls.Call) → IsSoundCall blocks c → IsPlain (Call c) → IsBrief (Call c)
call_brief blocks fits (call.Create size) h plain = λ node made a b. create_brief node made size a b h
call_brief blocks fits (call.Delete name) h plain = λ node made a b. about_brief (codes "delete") blocks name (omega arith) fits h
call_brief blocks fits (call.Map name) h plain = λ node made a b. about_brief (codes "map") blocks name (omega arith) fits h
call_brief blocks fits (call.Unmap name) h plain = λ node made a b. about_brief (codes "unmap") blocks name (omega arith) fits h
call_brief blocks fits (call.StartRead name) h plain = λ node made a b. about_brief (codes "read") blocks name (omega arith) fits h
call_brief blocks fits (call.EndRead name) h plain = λ node made a b. about_brief (codes "endread") blocks name (omega arith) fits h
call_brief blocks fits (call.StartWrite name) h plain = λ node made a b. about_brief (codes "write") blocks name (omega arith) fits h
call_brief blocks fits (call.EndWrite name after) h plain = λ node made a b. about_brief (codes "endwrite") blocks name (omega arith) fits h.0
call_brief blocks fits (call.Put name offset len) h plain = absurd h
call_brief blocks fits (call.Add name offset) h plain = absurd h
call_brief blocks fits (call.Flush name) h plain = λ node made a b. about_brief (codes "flush") blocks name (omega arith) fits h
call_brief blocks fits (call.Come part) h plain = λ node made a b. part_brief part h plain

add_brief : (blocks : List (List Statement)) (name : Name) (offset number : ℕ) → NamesFit blocks → IsNamed blocks name → offset < 2 ^ 32 → number < 2 ^ 64
    → length (line_text (codes "add" ∷ label_of name ∷ decimal offset ∷ decimal number ∷ [])) ≤ 60
add_brief blocks name offset number fits named h k =
    let f = fits name named in let l = label_length name.home name.serial f.0 f.1 in let o = short_length offset h in let n = number_length number k in
    let m = four_words (codes "add") (label_of name) (decimal offset) (decimal number) in omega arith

brief : (blocks : List (List Statement)) → NamesFit blocks → (s : Statement) → IsSound blocks s → IsPlain s → IsBrief s
brief blocks fits (Call c) h plain = call_brief blocks fits c h plain
brief blocks fits (Put name offset bytes) h plain = absurd plain
brief blocks fits (Add name offset number) h plain = λ node made a b. add_brief blocks name offset number fits h.0 h.1 h.2

block_brief : (blocks : List (List Statement)) → NamesFit blocks → (ss : List Statement) → AllByRecursion (IsSound blocks) ss → AllByRecursion IsPlain ss → AllByRecursion IsBrief ss
block_brief blocks fits [] h plain = tt
block_brief blocks fits (s ∷ ss) h plain = (brief blocks fits s h.0 plain.0, block_brief blocks fits ss h.1 plain.1)

all_brief : (all : List (List Statement)) → NamesFit all → (blocks : List (List Statement)) → AllByRecursion (λ block. AllByRecursion (IsSound all) block) blocks → AllPlain blocks
    → AllByRecursion (λ block. AllByRecursion IsBrief block) blocks
all_brief all fits [] h plain = tt
all_brief all fits (block ∷ blocks) h plain = (block_brief all fits block h.0 plain.0, all_brief all fits blocks h.1 plain.1)

-- the texts of blocks
block_before : (node made : ℕ) (ss : List Statement) (rest : List ℕ) (lines : ℕ) → node < 64 → made + length ss < 2 ^ 32 → AllByRecursion IsBrief ss → IsShortText lines rest
    → IsShortText (lines + length ss) (block_text node made ss ++ rest)
block_before node made [] rest lines h k all short = subst (λ n. IsShortText n rest) (omega arith) short
block_before node made (s ∷ ss) rest lines h k all short =
    let grows = made_grows made s in
    let more = block_before node (made_after made s) ss rest lines h (omega arith) all.1 short in
    let line = line_before (statement_words node made s) (block_text node (made_after made s) ss ++ rest) (lines + length ss) (all.0 node made h (omega arith)) more in
    let count : (lines + length ss) + 1 ≡ lines + length (s ∷ ss) = omega arith in
    subst (λ n. IsShortText n (block_text node made (s ∷ ss) ++ rest)) count
    (subst (λ (t : List ℕ). IsShortText ((lines + length ss) + 1) t) (sym (append_assoc (line_text (statement_words node made s)) (block_text node (made_after made s) ss) rest)) line)

node_line_length : (node : ℕ) → node < 2 ^ 32 → length (line_text (codes "node" ∷ decimal node ∷ [])) ≤ 60
node_line_length node h = let l = short_length node h in let m = two_words (codes "node") (decimal node) in omega arith

blocks_short : (node : ℕ) (blocks : List (List Statement)) → node + length blocks ≤ 64 → sum_by length blocks ≤ 2 ^ 26 → AllByRecursion (λ block. AllByRecursion IsBrief block) blocks
    → IsShortText (sum_by length blocks + length blocks) (blocks_text node blocks)
blocks_short node [] h k all = no_text
blocks_short node ([] ∷ blocks) h k all =
    let s = sum_by-cons length [] blocks in
    let more = blocks_short (node + 1) blocks (omega arith) (omega arith) all.1 in
    let size = more.size in
    record { parts = more.parts; size = omega arith }
blocks_short node ((s ∷ ss) ∷ blocks) h k all =
    let block : List Statement = s ∷ ss in
    let c = sum_by-cons length block blocks in
    let more = blocks_short (node + 1) blocks (omega arith) (omega arith) all.1 in
    let behind = block_before node 0 block (blocks_text (node + 1) blocks) (sum_by length blocks + length blocks) (omega arith) (omega arith) all.0 more in
    let line = line_before (codes "node" ∷ decimal node ∷ []) (block_text node 0 block ++ blocks_text (node + 1) blocks) ((sum_by length blocks + length blocks) + length block)
    (node_line_length node (omega arith)) behind in
    let count : ((sum_by length blocks + length blocks) + length block) + 1 ≡ sum_by length (block ∷ blocks) + length (block ∷ blocks) = omega arith in
    subst (λ n. IsShortText n (blocks_text node (block ∷ blocks))) count
    (subst (λ (t : List ℕ). IsShortText (((sum_by length blocks + length blocks) + length block) + 1) t)
    (sym (append_assoc (line_text (codes "node" ∷ decimal node ∷ [])) (block_text node 0 block) (blocks_text (node + 1) blocks))) line)

-- a region that a script creates is one of a node's, and there are at most as many as statements
created : (blocks : List (List Statement)) (i : ℕ) → 0 < made_by 0 (slice_index_or blocks i []) → (i < length blocks) × (made_by 0 (slice_index_or blocks i []) ≤ sum_by length blocks)
created [] i h = absurd (omega arith)
created (block ∷ blocks) zero h = let most = made_most 0 block in let c = sum_by-cons length block blocks in (omega arith, omega arith)
created (block ∷ blocks) (suc i) h = let more = created blocks i h in let c = sum_by-cons length block blocks in (omega arith, omega arith)

names_fit : (blocks : List (List Statement)) → length blocks ≤ 64 → sum_by length blocks ≤ 2 ^ 26 → NamesFit blocks
names_fit blocks h k = λ name named. let made = created blocks name.home (omega arith) in (omega arith, omega arith)

pub plain_is_printable : (p : Program) → IsScript p → AllNamed p.blocks → AllPlain p.blocks → sum (map length p.blocks) ≤ 2 ^ 26 → IsPrintable p
unfolding canonical_of
plain_is_printable p is named plain few =
    let same = sum-map length p.blocks in
    let nodes : p.nodes ≡ length p.blocks = is.nodes in
    let limit : p.nodes ≤ 64 = is.limit in
    let sound = all_sound p.blocks p.blocks is.statements named in
    let blocks = blocks_short 0 p.blocks (omega arith) (omega arith) (all_brief p.blocks (names_fit p.blocks (omega arith) (omega arith)) p.blocks sound plain) in
    let cache : p.cache < 2 ^ 32 = let c = is.cache in omega arith in
    let cache_line : length (line_text (codes "cache" ∷ decimal p.cache ∷ [])) ≤ 60 = let l = short_length p.cache cache in let m = two_words (codes "cache") (decimal p.cache) in omega arith in
    let nodes_line : length (line_text (codes "nodes" ∷ decimal p.nodes ∷ [])) ≤ 60 = let l = short_length p.nodes (omega arith) in let m = two_words (codes "nodes") (decimal p.nodes) in omega arith in
    let behind = line_before (codes "cache" ∷ decimal p.cache ∷ []) (blocks_text 0 p.blocks) (sum_by length p.blocks + length p.blocks) cache_line blocks in
    let all = line_before (codes "nodes" ∷ decimal p.nodes ∷ []) (line_text (codes "cache" ∷ decimal p.cache ∷ []) ++ blocks_text 0 p.blocks) ((sum_by length p.blocks + length p.blocks) + 1) nodes_line behind in
    let size = all.size in
    record { named = named; lines = lines_are_short (((sum_by length p.blocks + length p.blocks) + 1) + 1) (canonical_of p) all; size = omega arith }
