-- A block is read from the lines of its statements.
use Rattle.std.proofs.Common.{◌≡◌, ℕ, ◌+◌, ◌<◌, ◌≤◌, ◌^◌, false, List, [], ◌∷◌, ◌++◌, length, map, None, Ok, refl, sym, ap, ◌∙◌, arith, append_assoc}
use Rattle.std.specs.List.{AllByRecursion}
use Rattle.std.specs.Str.{bytes_eq}
use Rattle.std.proofs.lemmas.List.{append-nil}
use Rattle.std.proofs.lemmas.Slice.Eq.{bytes_eq-Decides}
use Rattle.std.proofs.lemmas.Bool.{false_from_ne_true}
use Rattle.crl_model.specs.declared.name.Name.{Name}
use Rattle.crl_model.specs.declared.call.Call as calls
use Rattle.crl_model.specs.declared.call.Call.TheVariants as call
use Rattle.crl_model.specs.declared.collective.Part.{Part}
use Rattle.crl_model.specs.declared.collective.Part.TheVariants.{Barrier, Send, Receive, Sum, Min, Max}
use Rattle.crl_model.specs.declared.statement.Statement.{Statement}
use Rattle.crl_model.specs.declared.statement.Statement.TheVariants.{Call, Put, Add}
use Rattle.crl_script.specs.Again.{IsPart, made_by}
use Rattle.crl_script.proofs.SoundLemmas.{IsSound, IsSoundCall}
use Rattle.crl_script.specs.Canonical.{line_text, label_text, statement_words, call_words, part_words, made_after, block_text}
use Rattle.crl_script.specs.Labels.{Names}
use Rattle.crl_script.specs.Progress.{Progress, words_line, with_name}
use Rattle.crl_script.specs.Sentence.{lines_from}
use Rattle.crl_script.specs.Text.{lines_of}
use Rattle.crl_script.proofs.NumberLemmas.{decimal_ink, signed_ink, hex_text_ink, label_ink, label_same}
use Rattle.crl_script.proofs.SpellLemmas.{AllInk}
use Rattle.crl_script.proofs.StatementLemmas.{part_again, delete_again, map_again, unmap_again, flush_again, read_again, endread_again, write_again, endwrite_again, put_again, add_again, create_again}
use Rattle.crl_script.proofs.RunLemmas.{AllShort, step_line, Knows, named_ink, renamed, renamed_call, name_after, inside, put_inside}

part_ink : (part : Part) → IsPart part → AllInk (part_words part)
part_ink Barrier h = ((refl, refl), tt)
part_ink (Send bytes) h = ((refl, refl), (hex_text_ink bytes h.0 h.1, tt))
part_ink Receive h = ((refl, refl), tt)
part_ink (Sum value) h = ((refl, refl), (signed_ink value h, tt))
part_ink (Min value) h = ((refl, refl), (signed_ink value h, tt))
part_ink (Max value) h = ((refl, refl), (signed_ink value h, tt))

call_ink : (known : Names) (f : Name → Name) (blocks : List (List Statement)) → Knows known f blocks → (node made : ℕ) (c : calls.Call)
    → node < 64 → made + 1 < 2 ^ 64 → IsSoundCall blocks c → AllInk (call_words node made c)
call_ink known f blocks k node made (call.Create size) h m i = ((refl, refl), (label_ink node (made + 1) h m, (decimal_ink size (omega arith), tt)))
call_ink known f blocks k node made (call.Delete name) h m i = ((refl, refl), named_ink known f blocks k name i)
call_ink known f blocks k node made (call.Map name) h m i = ((refl, refl), named_ink known f blocks k name i)
call_ink known f blocks k node made (call.Unmap name) h m i = ((refl, refl), named_ink known f blocks k name i)
call_ink known f blocks k node made (call.StartRead name) h m i = ((refl, refl), named_ink known f blocks k name i)
call_ink known f blocks k node made (call.EndRead name) h m i = ((refl, refl), named_ink known f blocks k name i)
call_ink known f blocks k node made (call.StartWrite name) h m i = ((refl, refl), named_ink known f blocks k name i)
call_ink known f blocks k node made (call.EndWrite name after) h m i = ((refl, refl), named_ink known f blocks k name i.0)
call_ink known f blocks k node made (call.Put name offset len) h m i = absurd i
call_ink known f blocks k node made (call.Add name offset) h m i = absurd i
call_ink known f blocks k node made (call.Flush name) h m i = ((refl, refl), named_ink known f blocks k name i)
call_ink known f blocks k node made (call.Come part) h m i = part_ink part i

statement_ink : (known : Names) (f : Name → Name) (blocks : List (List Statement)) → Knows known f blocks → (node made : ℕ) (s : Statement)
    → node < 64 → made + 1 < 2 ^ 64 → IsSound blocks s → AllInk (statement_words node made s)
statement_ink known f blocks k node made (Call c) h m i = call_ink known f blocks k node made c h m i
statement_ink known f blocks k node made (Put name offset bytes) h m i =
    ((refl, refl), ((named_ink known f blocks k name i.0).0, (decimal_ink offset (omega arith), (hex_text_ink bytes i.2.0 i.2.1, tt))))
statement_ink known f blocks k node made (Add name offset number) h m i =
    ((refl, refl), ((named_ink known f blocks k name i.0).0, (decimal_ink offset (omega arith), (decimal_ink number i.2, tt))))

-- the node has created no region behind this one
abbrev pub Free : Names → ℕ → ℕ → Type 0
Free names node made = (j : ℕ) → made < j → j < 2 ^ 64 → names (label_text node j) ≡ None

call_read : (known : Names) (f : Name → Name) (blocks : List (List Statement)) → Knows known f blocks
    → (node cache : ℕ) (begun : List ℕ) (names : Names) (made : ℕ) (front : List (List Statement)) (block : List Statement) (back : List (List Statement)) (c : calls.Call)
    → node ≡ length front → node < 64 → made + 1 < 2 ^ 64 → Free names node made → IsSoundCall blocks c
    → words_line known (inside node cache begun names made front block back) (call_words node made c)
    ≡ Ok (inside node cache begun (name_after node made (Call c) names) (made_after made (Call c)) front (block ++ Call (renamed_call f c) ∷ []) back)
call_read known f blocks k node cache begun names made front block back (call.Create size) e h m free i =
    let p = inside node cache begun names made front block back in
    create_again known p node (made + 1) size refl h m i (free (made + 1) (omega arith) m)
    ∙ ap (λ q. Ok (with_name node (label_text node (made + 1)) q)) (put_inside node cache begun names made front block back (Call (call.Create size)) e)
call_read known f blocks k node cache begun names made front block back (call.Delete name) e h m free i =
    delete_again known (inside node cache begun names made front block back) node name (f name) refl (k.reads name i) ∙ ap Ok (put_inside node cache begun names made front block back _ e)
call_read known f blocks k node cache begun names made front block back (call.Map name) e h m free i =
    map_again known (inside node cache begun names made front block back) node name (f name) refl (k.reads name i) ∙ ap Ok (put_inside node cache begun names made front block back _ e)
call_read known f blocks k node cache begun names made front block back (call.Unmap name) e h m free i =
    unmap_again known (inside node cache begun names made front block back) node name (f name) refl (k.reads name i) ∙ ap Ok (put_inside node cache begun names made front block back _ e)
call_read known f blocks k node cache begun names made front block back (call.StartRead name) e h m free i =
    read_again known (inside node cache begun names made front block back) node name (f name) refl (k.reads name i) ∙ ap Ok (put_inside node cache begun names made front block back _ e)
call_read known f blocks k node cache begun names made front block back (call.EndRead name) e h m free i =
    endread_again known (inside node cache begun names made front block back) node name (f name) refl (k.reads name i) ∙ ap Ok (put_inside node cache begun names made front block back _ e)
call_read known f blocks k node cache begun names made front block back (call.StartWrite name) e h m free i =
    write_again known (inside node cache begun names made front block back) node name (f name) refl (k.reads name i) ∙ ap Ok (put_inside node cache begun names made front block back _ e)
call_read known f blocks k node cache begun names made front block back (call.EndWrite name after) e h m free i =
    endwrite_again known (inside node cache begun names made front block back) node name (f name) refl (k.reads name i.0) ∙ ap Ok (put_inside node cache begun names made front block back _ e)
    ∙ ap (λ (after : List ℕ). Ok (inside node cache begun names made front (block ++ Call (call.EndWrite (f name) after) ∷ []) back)) (sym i.1)
call_read known f blocks k node cache begun names made front block back (call.Put name offset len) e h m free i = absurd i
call_read known f blocks k node cache begun names made front block back (call.Add name offset) e h m free i = absurd i
call_read known f blocks k node cache begun names made front block back (call.Flush name) e h m free i =
    flush_again known (inside node cache begun names made front block back) node name (f name) refl (k.reads name i) ∙ ap Ok (put_inside node cache begun names made front block back _ e)
call_read known f blocks k node cache begun names made front block back (call.Come part) e h m free i =
    part_again known (inside node cache begun names made front block back) node made part refl i ∙ ap Ok (put_inside node cache begun names made front block back _ e)

statement_read : (known : Names) (f : Name → Name) (blocks : List (List Statement)) → Knows known f blocks
    → (node cache : ℕ) (begun : List ℕ) (names : Names) (made : ℕ) (front : List (List Statement)) (block : List Statement) (back : List (List Statement)) (s : Statement)
    → node ≡ length front → node < 64 → made + 1 < 2 ^ 64 → Free names node made → IsSound blocks s
    → words_line known (inside node cache begun names made front block back) (statement_words node made s)
    ≡ Ok (inside node cache begun (name_after node made s names) (made_after made s) front (block ++ renamed f s ∷ []) back)
statement_read known f blocks k node cache begun names made front block back (Call c) e h m free i =
    call_read known f blocks k node cache begun names made front block back c e h m free i
statement_read known f blocks k node cache begun names made front block back (Put name offset bytes) e h m free i =
    put_again known (inside node cache begun names made front block back) node name (f name) offset bytes refl (k.reads name i.0) i.1 i.2
    ∙ ap Ok (put_inside node cache begun names made front block back _ e)
statement_read known f blocks k node cache begun names made front block back (Add name offset number) e h m free i =
    add_again known (inside node cache begun names made front block back) node name (f name) offset number refl (k.reads name i.0) i.1 i.2
    ∙ ap Ok (put_inside node cache begun names made front block back _ e)

-- labels of other regions differ
pub label_apart : (i k j m : ℕ) → i < 64 → k < 2 ^ 64 → j < 64 → m < 2 ^ 64 → (i ≡ j → k ≡ m → ⊥) → bytes_eq (label_text i k) (label_text j m) ≡ false
label_apart i k j m hi hk hj hm apart =
    false_from_ne_true (bytes_eq (label_text i k) (label_text j m))
    (λ e. let same = label_same i k j m hi hk hj hm ((bytes_eq-Decides (label_text i k) (label_text j m)).0 e) in apart same.0 same.1)

-- a statement creates no other region
pub name_kept : (node made : ℕ) (s : Statement) (names : Names) (j m : ℕ) → node < 64 → made + 1 < 2 ^ 64 → j < 64 → m < 2 ^ 64
    → (node ≡ j → made + 1 ≡ m → ⊥) → name_after node made s names (label_text j m) ≡ names (label_text j m)
name_kept node made (Call (call.Create size)) names j m hn hm hj hk apart = rw (label_apart node (made + 1) j m hn hm hj hk apart) refl
name_kept node made (Call (call.Delete name)) names j m hn hm hj hk apart = refl
name_kept node made (Call (call.Map name)) names j m hn hm hj hk apart = refl
name_kept node made (Call (call.Unmap name)) names j m hn hm hj hk apart = refl
name_kept node made (Call (call.StartRead name)) names j m hn hm hj hk apart = refl
name_kept node made (Call (call.EndRead name)) names j m hn hm hj hk apart = refl
name_kept node made (Call (call.StartWrite name)) names j m hn hm hj hk apart = refl
name_kept node made (Call (call.EndWrite name after)) names j m hn hm hj hk apart = refl
name_kept node made (Call (call.Put name offset len)) names j m hn hm hj hk apart = refl
name_kept node made (Call (call.Add name offset)) names j m hn hm hj hk apart = refl
name_kept node made (Call (call.Flush name)) names j m hn hm hj hk apart = refl
name_kept node made (Call (call.Come part)) names j m hn hm hj hk apart = refl
name_kept node made (Put name offset bytes) names j m hn hm hj hk apart = refl
name_kept node made (Add name offset number) names j m hn hm hj hk apart = refl

pub made_grows : (made : ℕ) (s : Statement) → (made ≤ made_after made s) × (made_after made s ≤ made + 1)
made_grows made (Call (call.Create size)) = (omega arith, omega arith)
made_grows made (Call (call.Delete name)) = (omega arith, omega arith)
made_grows made (Call (call.Map name)) = (omega arith, omega arith)
made_grows made (Call (call.Unmap name)) = (omega arith, omega arith)
made_grows made (Call (call.StartRead name)) = (omega arith, omega arith)
made_grows made (Call (call.EndRead name)) = (omega arith, omega arith)
made_grows made (Call (call.StartWrite name)) = (omega arith, omega arith)
made_grows made (Call (call.EndWrite name after)) = (omega arith, omega arith)
made_grows made (Call (call.Put name offset len)) = (omega arith, omega arith)
made_grows made (Call (call.Add name offset)) = (omega arith, omega arith)
made_grows made (Call (call.Flush name)) = (omega arith, omega arith)
made_grows made (Call (call.Come part)) = (omega arith, omega arith)
made_grows made (Put name offset bytes) = (omega arith, omega arith)
made_grows made (Add name offset number) = (omega arith, omega arith)

-- the names behind a block's statements
abbrev pub block_names : ℕ → ℕ → List Statement → Names → Names
block_names node made [] names = names
block_names node made (s ∷ ss) names = block_names node (made_after made s) ss (name_after node made s names)

-- A statement leaves the node's later regions free: a create takes the next one, and another statement none.
free_create : (node made : ℕ) (names : Names) → node < 64 → made + 1 < 2 ^ 64 → Free names node made
    → (size : ℕ) → Free (name_after node made (Call (call.Create size)) names) node (made + 1)
free_create node made names hn hm free size = λ j above fits.
    rw (label_apart node (made + 1) node j hn hm hn fits (λ _ e. absurd (omega arith))) (free j (omega arith) fits)

pub free_after : (node made : ℕ) (s : Statement) (names : Names) → node < 64 → made + 1 < 2 ^ 64 → Free names node made → Free (name_after node made s names) node (made_after made s)
free_after node made (Call (call.Create size)) names hn hm free = free_create node made names hn hm free size
free_after node made (Call (call.Delete name)) names hn hm free = free
free_after node made (Call (call.Map name)) names hn hm free = free
free_after node made (Call (call.Unmap name)) names hn hm free = free
free_after node made (Call (call.StartRead name)) names hn hm free = free
free_after node made (Call (call.EndRead name)) names hn hm free = free
free_after node made (Call (call.StartWrite name)) names hn hm free = free
free_after node made (Call (call.EndWrite name after)) names hn hm free = free
free_after node made (Call (call.Put name offset len)) names hn hm free = free
free_after node made (Call (call.Add name offset)) names hn hm free = free
free_after node made (Call (call.Flush name)) names hn hm free = free
free_after node made (Call (call.Come part)) names hn hm free = free
free_after node made (Put name offset bytes) names hn hm free = free
free_after node made (Add name offset number) names hn hm free = free

-- a block is read, and the lines behind it are left
pub record BlockRead (known : Names) (p next : Progress) (n : ℕ) (text rest : List ℕ) : Type 0 where
  pub line : ℕ
  pub read : lines_from known p n (lines_of text) ≡ lines_from known next line (lines_of rest)
  pub short : AllShort (lines_of rest)

pub block_read : (known : Names) (f : Name → Name) (blocks : List (List Statement)) → Knows known f blocks
    → (node cache : ℕ) (begun : List ℕ) (front : List (List Statement)) (back : List (List Statement)) (rest : List ℕ) → node ≡ length front → node < 64
    → (ss : List Statement) (names : Names) (made n : ℕ) (block : List Statement) → made + length ss < 2 ^ 64 → Free names node made → AllByRecursion (IsSound blocks) ss
    → AllShort (lines_of (block_text node made ss ++ rest))
    → BlockRead known (inside node cache begun names made front block back)
    (inside node cache begun (block_names node made ss names) (made_by made ss) front (block ++ map (renamed f) ss) back) n (block_text node made ss ++ rest) rest
block_read known f blocks k node cache begun front back rest e hn [] names made n block hm free all short =
    record {
      line = n;
      read = ap (λ (b : List Statement). lines_from known (inside node cache begun names made front b back) n (lines_of rest)) (sym (append-nil block));
      short = short;
    }
block_read known f blocks k node cache begun front back rest e hn (s ∷ ss) names made n block hm free all short =
    let next = inside node cache begun (name_after node made s names) (made_after made s) front (block ++ renamed f s ∷ []) back in
    let text = block_text node (made_after made s) ss ++ rest in
    let whole : block_text node made (s ∷ ss) ++ rest ≡ line_text (statement_words node made s) ++ text =
    append_assoc (line_text (statement_words node made s)) (block_text node (made_after made s) ss) rest in
    let grows = made_grows made s in
    let step = step_line known (inside node cache begun names made front block back) next n (statement_words node made s) text
    (statement_ink known f blocks k node made s hn (omega arith) all.0)
    (rw whole at short)
    (statement_read known f blocks k node cache begun names made front block back s e hn (omega arith) free all.0) in
    let more = block_read known f blocks k node cache begun front back rest e hn ss (name_after node made s names) (made_after made s) (n + 1) (block ++ renamed f s ∷ [])
    (omega arith) (free_after node made s names hn (omega arith) free) all.1 step.short in
    record {
      line = more.line;
      read = ap (λ (t : List ℕ). lines_from known (inside node cache begun names made front block back) n (lines_of t)) whole ∙ step.read ∙ more.read
          ∙ ap (λ (b : List Statement). lines_from known (inside node cache begun (block_names node made (s ∷ ss) names) (made_by made (s ∷ ss)) front b back) more.line (lines_of rest))
          (append_assoc block (renamed f s ∷ []) (map (renamed f) ss));
      short = more.short;
    }
