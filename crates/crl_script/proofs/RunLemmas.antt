-- The statements of a block, and the blocks of a script, are read from their lines.
use Rattle.std.proofs.Common.{◌≡◌, ℕ, ◌+◌, ◌≤◌, false, List, [], ◌∷◌, ◌++◌, length, get_or, Some, Ok, refl, ap, ◌∙◌, arith}
use Rattle.std.specs.Prelude.{slice_set, slice_index_or, nat_lt}
use Rattle.std.specs.List.{AllByRecursion}
use Rattle.std.specs.Map.{update}
use Rattle.std.specs.Str.{bytes_eq}
use Rattle.std.proofs.Math.Seq.{set-append_seam}
use Rattle.crl_model.specs.declared.name.Name.{Name}
use Rattle.crl_model.specs.declared.call.Call as calls
use Rattle.crl_model.specs.declared.call.Call.TheVariants as call
use Rattle.crl_script.specs.declared.place.Place.TheVariants.{Inside}
use Rattle.crl_model.specs.declared.statement.Statement.{Statement}
use Rattle.crl_model.specs.declared.statement.Statement.TheVariants.{Call, Put, Add}
use Rattle.crl_script.specs.Again.{IsNamed}
use Rattle.crl_script.specs.Canonical.{line_text, label_of, label_text}
use Rattle.crl_script.specs.Labels.{Names}
use Rattle.crl_script.specs.Progress.{Progress, line_of, words_line, with_statement}
use Rattle.crl_script.specs.Sentence.{lines_from}
use Rattle.crl_script.specs.Text.{Line, lines_of}
use Rattle.crl_script.proofs.NumberLemmas.{label_ink}
use Rattle.crl_script.proofs.ReadingLemmas.{line_read}
use Rattle.crl_script.proofs.SpellLemmas.{AllInk, line_of_words, joined, lines_step, words_joined}
use Rattle.crl_script.proofs.StatementLemmas.{Reads}

-- no line is too long
abbrev pub AllShort : List Line → Type 0
AllShort lines = AllByRecursion (λ line. line.size ≤ 140000) lines

words_read : (known : Names) (p : Progress) (ws : List (List ℕ)) → AllInk ws → length (joined ws) ≤ 140000 → line_of known p (line_of_words ws) ≡ words_line known p ws
unfolding line_of
words_read known p ws h short =
    let fits : nat_lt 140000 (length (joined ws)) ≡ false = grind arith in
    rw (fits, words_joined ws h) refl

-- a line of words is read, and the lines behind it are left
pub record Steps (known : Names) (p next : Progress) (n : ℕ) (text rest : List ℕ) : Type 0 where
  pub read : lines_from known p n (lines_of text) ≡ lines_from known next (n + 1) (lines_of rest)
  pub short : AllShort (lines_of rest)

pub step_line : (known : Names) (p next : Progress) (n : ℕ) (ws : List (List ℕ)) (rest : List ℕ) → AllInk ws
    → AllShort (lines_of (line_text ws ++ rest)) → words_line known p ws ≡ Ok next → Steps known p next n (line_text ws ++ rest) rest
step_line known p next n ws rest ink short e =
    let lines = lines_step ws rest ink in
    let both : AllShort (line_of_words ws ∷ lines_of rest) = rw lines at short in
    record {
      read = ap (lines_from known p n) lines ∙ line_read known p next n (line_of_words ws) (lines_of rest) (words_read known p ws ink both.0 ∙ e);
      short = both.1;
    }

-- a call with other names
abbrev pub renamed_call : (Name → Name) → calls.Call → calls.Call
renamed_call f (call.Create size) = call.Create size
renamed_call f (call.Delete name) = call.Delete (f name)
renamed_call f (call.Map name) = call.Map (f name)
renamed_call f (call.Unmap name) = call.Unmap (f name)
renamed_call f (call.StartRead name) = call.StartRead (f name)
renamed_call f (call.EndRead name) = call.EndRead (f name)
renamed_call f (call.StartWrite name) = call.StartWrite (f name)
renamed_call f (call.EndWrite name after) = call.EndWrite (f name) after
renamed_call f (call.Put name offset len) = call.Put (f name) offset len
renamed_call f (call.Add name offset) = call.Add (f name) offset
renamed_call f (call.Flush name) = call.Flush (f name)
renamed_call f (call.Come part) = call.Come part

-- a statement with other names
abbrev pub renamed : (Name → Name) → Statement → Statement
renamed f (Call c) = Call (renamed_call f c)
renamed f (Put name offset bytes) = Put (f name) offset bytes
renamed f (Add name offset number) = Add (f name) offset number

-- the names behind a statement
abbrev pub name_after : ℕ → ℕ → Statement → Names → Names
name_after node made (Call (call.Create size)) names = update bytes_eq names (label_text node (made + 1)) (Some (record { home = node; serial = made + 1 }))
name_after node made s names = names

-- reading stands inside a node's block
abbrev pub inside : ℕ → ℕ → List ℕ → Names → ℕ → List (List Statement) → List Statement → List (List Statement) → Progress
inside node cache begun names made front block back =
    record { place = Inside node; cache = cache; begun = begun; names = names; made = made; blocks = front ++ block ∷ back }

get_seam : (front : List (List Statement)) (block : List Statement) (back : List (List Statement)) → get_or (front ++ block ∷ back) (length front) [] ≡ block
get_seam [] block back = refl
get_seam (x ∷ front) block back = get_seam front block back

-- the block gets a statement more
pub put_inside : (node cache : ℕ) (begun : List ℕ) (names : Names) (made : ℕ) (front : List (List Statement)) (block : List Statement) (back : List (List Statement)) (s : Statement)
    → node ≡ length front → with_statement node s (inside node cache begun names made front block back) ≡ inside node cache begun names made front (block ++ s ∷ []) back
unfolding with_statement
put_inside node cache begun names made front block back s e =
    let blocks : slice_set (front ++ block ∷ back) node (slice_index_or (front ++ block ∷ back) node [] ++ s ∷ []) ≡ front ++ (block ++ s ∷ []) ∷ back =
    rw (e, get_seam front block back) (set-append_seam front block back (block ++ s ∷ [])) in
    ap (λ (bs : List (List Statement)). record { place = Inside node; cache = cache; begun = begun; names = names; made = made; blocks = bs }) blocks

-- what is known of the names of a script's regions
pub record Knows (known : Names) (f : Name → Name) (blocks : List (List Statement)) : Type 0 where
  pub reads : (name : Name) → IsNamed blocks name → Reads known name (f name)

pub named_ink : (known : Names) (f : Name → Name) (blocks : List (List Statement)) → Knows known f blocks → (name : Name) → IsNamed blocks name → AllInk (label_of name ∷ [])
named_ink known f blocks k name h = let r = k.reads name h in (label_ink name.home name.serial r.home r.serial, tt)
