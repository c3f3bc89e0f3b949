-- What is read of a text is a script.
use Rattle.std.proofs.Common.{◌≡◌, ℕ, ◌+◌, Bool, true, false, cond, zero, suc, List, [], ◌∷◌, ◌++◌, length, replicate, set, get_or, Option, Some, None, Result, Ok, Err, refl, subst, arith, ◌≤◌}
use Rattle.std.specs.Prelude.{codes, nat_lt, nat_le, ◌==◌, ◌&&◌, is_some}
use Rattle.std.specs.List.{AllByRecursion, list_any}
use Rattle.std.specs.Str.{bytes_eq}
use Rattle.crl_model.specs.declared.call.Call.TheVariants.{Create}
use Rattle.crl_model.specs.declared.call.CallKind.{CallKind}
use Rattle.crl_script.specs.declared.fault.ScriptWhy.{ScriptWhy}
use Rattle.crl_script.specs.declared.fault.ScriptWhy.TheVariants.{NoNodes, BadNodes, BadWord, BadNumber, TwiceLabel, BadSize, BadNode, TwiceNode, LineTooLong}
use Rattle.crl_script.specs.declared.place.Place.{Place}
use Rattle.crl_script.specs.declared.place.Place.TheVariants.{Start, Head, Outside, Inside}
use Rattle.crl_model.specs.declared.statement.Statement.{Statement}
use Rattle.crl_model.specs.declared.statement.Statement.TheVariants.{Call}
use Rattle.crl_script.specs.Again.{IsStatement, AllStatements}
use Rattle.crl_script.specs.Labels.{Names}
use Rattle.crl_script.specs.Program.{Fault}
use Rattle.crl_script.specs.Progress.{Progress, start, with_nodes, nodes_line, cache_line, with_block, node_line, with_statement, with_region, create_line, other_line, statement_line, line_at, words_line, line_of}
use Rattle.crl_script.specs.Reading.{◌>>=◌}
use Rattle.crl_script.specs.Sentence.{lines_by, read_by, at_line, ◌>=>◌}
use Rattle.crl_script.specs.Statements.{statement_of, kind_of}
use Rattle.crl_script.specs.Text.{Line, lines_of, words_of, is_comment}
use Rattle.crl_script.specs.Words.{is_label, number_of}
use Rattle.crl_script.proofs.PlainLemmas.{bind_ok, chosen, chosen_yes, number_below, statement_is}
use Rattle.crl_script.proofs.WordLengths.{AllWithin, AllSized, words_within, lines_sized}

-- each statement so far is one that a line makes
abbrev pub AllMade : Progress → Type 0
AllMade p = AllStatements p.blocks

made_same : (p q : Progress) → AllMade p → ◌≡◌ {A = Result Progress ScriptWhy} (Ok p) (Ok q) → AllMade q
made_same p q h e = let same : p ≡ q = cc e in subst AllMade same h

end_same : (p q : Progress) → AllMade p → ◌≡◌ {A = Result Progress Fault} (Ok p) (Ok q) → AllMade q
end_same p q h e = let same : p ≡ q = cc e in subst AllMade same h

one_more : (ss : List Statement) (s : Statement) → AllByRecursion IsStatement ss → IsStatement s → AllByRecursion IsStatement (ss ++ s ∷ [])
one_more [] s h i = (i, tt)
one_more (t ∷ ts) s h i = (h.0, one_more ts s h.1 i)

get_made : (blocks : List (List Statement)) (k : ℕ) → AllStatements blocks → AllByRecursion IsStatement (get_or blocks k [])
get_made [] k h = tt
get_made (b ∷ bs) zero h = h.0
get_made (b ∷ bs) (suc k) h = get_made bs k h.1

set_made : (blocks : List (List Statement)) (k : ℕ) (block : List Statement) → AllStatements blocks → AllByRecursion IsStatement block → AllStatements (set blocks k block)
set_made [] k block h i = tt
set_made (b ∷ bs) zero block h i = (i, h.1)
set_made (b ∷ bs) (suc k) block h i = (h.0, set_made bs k block h.1 i)

empty_made : (n : ℕ) → AllStatements (replicate n [])
empty_made zero = tt
empty_made (suc n) = (tt, empty_made n)

put_made : (node : ℕ) (s : Statement) (p : Progress) → AllMade p → IsStatement s → AllMade (with_statement node s p)
unfolding with_statement
put_made node s p h i = set_made p.blocks node (get_or p.blocks node [] ++ s ∷ []) h (one_more (get_or p.blocks node []) s (get_made p.blocks node h) i)

nodes_made : (p q : Progress) (words : List (List ℕ)) → nodes_line p words ≡ Ok q → AllMade q
unfolding nodes_line
nodes_made p q [] h = cc h
nodes_made p q (word ∷ []) h =
    let r = bind_ok (number_of 18446744073709551615 BadNumber word) (with_nodes p) q h in
    made_same (record p { place = Head; blocks = replicate r.0 [] }) q (empty_made r.0)
    (chosen_yes (nat_le 1 r.0 && nat_le r.0 64) BadNodes (Ok (record p { place = Head; blocks = replicate r.0 [] })) q r.2)
nodes_made p q (word ∷ next ∷ words) h = cc h

cache_made : (p q : Progress) (words : List (List ℕ)) → AllMade p → cache_line p words ≡ Ok q → AllMade q
unfolding cache_line
cache_made p q [] i h = cc h
cache_made p q (word ∷ []) i h =
    let r = bind_ok (number_of 65535 BadNumber word) (λ n. Ok (record p { place = Outside; cache = n })) q h in
    made_same (record p { place = Outside; cache = r.0 }) q i r.2
cache_made p q (word ∷ next ∷ words) i h = cc h

node_made : (p q : Progress) (words : List (List ℕ)) → AllMade p → node_line p words ≡ Ok q → AllMade q
unfolding node_line
node_made p q [] i h = cc h
node_made p q (word ∷ []) i h =
    let r = bind_ok (number_of 4294967295 BadNumber word) (with_block p) q h in
    let next : Progress = record p { place = Inside r.0; begun = p.begun ++ r.0 ∷ []; made = 0 } in
    made_same next q i
    (chosen (list_any (λ k. k == r.0) p.begun) TwiceNode (Ok next) q
    (chosen (nat_le (length p.blocks) r.0) BadNode (cond (list_any (λ k. k == r.0) p.begun) (Err TwiceNode) (Ok next)) q r.2))
node_made p q (word ∷ next ∷ words) i h = cc h

create_made : (p q : Progress) (node : ℕ) (words : List (List ℕ)) → AllMade p → create_line p node words ≡ Ok q → AllMade q
unfolding create_line
create_made p q node [] i h = cc h
create_made p q node (label ∷ []) i h = cc h
create_made p q node (label ∷ size ∷ []) i h =
    let read : Result Progress ScriptWhy = number_of 4294967295 BadSize size >>= λ n. Ok (with_region node label n p) in
    let r = bind_ok (number_of 4294967295 BadSize size) (λ n. Ok (with_region node label n p)) q
    (chosen (is_some (p.names label)) TwiceLabel read q (chosen_yes (is_label label) BadWord (cond (is_some (p.names label)) (Err TwiceLabel) read) q h)) in
    let most = number_below 4294967295 BadSize size r.0 r.1 in
    made_same (with_region node label r.0 p) q (put_made node (Call (Create r.0)) p i (omega arith)) r.2
create_made p q node (label ∷ size ∷ more ∷ words) i h = cc h

other_made : (known : Names) (p q : Progress) (node : ℕ) (k : Option CallKind) (words : List (List ℕ)) → AllWithin 140000 words → AllMade p → other_line known p node k words ≡ Ok q → AllMade q
unfolding other_line
other_made known p q node None words short i h = cc h
other_made known p q node (Some k) words short i h =
    let r = bind_ok (statement_of known k words) (λ s. Ok (with_statement node s p)) q h in
    made_same (with_statement node r.0 p) q (put_made node r.0 p i (statement_is known k words r.0 short r.1)) r.2

-- either of two lines
either_made : (b : Bool) (r t : Result Progress ScriptWhy) (q : Progress) → (r ≡ Ok q → AllMade q) → (t ≡ Ok q → AllMade q) → cond b r t ≡ Ok q → AllMade q
either_made true r t q f g h = f h
either_made false r t q f g h = g h

refused : (why : ScriptWhy) (q : Progress) → ◌≡◌ {A = Result Progress ScriptWhy} (Err why) (Ok q) → AllMade q
refused why q h = cc h

statement_made : (known : Names) (p q : Progress) (node : ℕ) (word : List ℕ) (words : List (List ℕ)) → AllWithin 140000 words → AllMade p → statement_line known p node word words ≡ Ok q → AllMade q
unfolding statement_line
statement_made known p q node word words short i h =
    either_made (bytes_eq word (codes "create")) (create_line p node words) (other_line known p node (kind_of word) words) q
    (create_made p q node words i) (other_made known p q node (kind_of word) words short i) h

at_made : (known : Names) (p q : Progress) (place : Place) (word : List ℕ) (words : List (List ℕ)) → AllWithin 140000 words → AllMade p → line_at known p place word words ≡ Ok q → AllMade q
unfolding line_at
at_made known p q Start word words short i h =
    either_made (bytes_eq word (codes "nodes")) (nodes_line p words) (Err NoNodes) q (nodes_made p q words) (refused NoNodes q) h
at_made known p q Head word words short i h =
    either_made (bytes_eq word (codes "node")) (node_line p words) (cond (bytes_eq word (codes "cache")) (cache_line p words) (Err BadWord)) q (node_made p q words i)
    (either_made (bytes_eq word (codes "cache")) (cache_line p words) (Err BadWord) q (cache_made p q words i) (refused BadWord q)) h
at_made known p q Outside word words short i h =
    either_made (bytes_eq word (codes "node")) (node_line p words) (Err BadWord) q (node_made p q words i) (refused BadWord q) h
at_made known p q (Inside node) word words short i h =
    either_made (bytes_eq word (codes "node")) (node_line p words) (statement_line known p node word words) q (node_made p q words i) (statement_made known p q node word words short i) h

words_made : (known : Names) (p q : Progress) (words : List (List ℕ)) → AllWithin 140000 words → AllMade p → words_line known p words ≡ Ok q → AllMade q
words_made known p q [] short i h = made_same p q i h
words_made known p q (word ∷ words) short i h =
    either_made (is_comment word) (Ok p) (line_at known p p.place word words) q (made_same p q i) (at_made known p q p.place word words short.1 i) h

line_made : (known : Names) (p q : Progress) (line : Line) → length line.bytes ≤ line.size → AllMade p → line_of known p line ≡ Ok q → AllMade q
unfolding line_of
line_made known p q line sized i h = go (nat_lt 140000 line.size) refl h where
  go : (b : Bool) → nat_lt 140000 line.size ≡ b → cond b (Err LineTooLong) (words_line known p (words_of line.bytes)) ≡ Ok q → AllMade q
  go true e h = refused LineTooLong q h
  go false e h = let most : line.size ≤ 140000 = grind arith in words_made known p q (words_of line.bytes) (words_within 140000 line.bytes (omega arith)) i h

lines_made : (known : Names → Names) (lines : List Line) (p q : Progress) (n : ℕ) → AllSized lines → AllMade p → lines_by known p n lines ≡ Ok q → AllMade q
lines_made known [] p q n sized i h = end_same p q i h
lines_made known (line ∷ lines) p q n sized i h = go (line_of (known p.names) p line) (λ next. line_made (known p.names) p next line sized.0 i) (λ next. lines_made known lines next q (n + 1) sized.1) h where
  go : (r : Result Progress ScriptWhy) → ((next : Progress) → r ≡ Ok next → AllMade next) → ((next : Progress) → AllMade next → lines_by known next (n + 1) lines ≡ Ok q → AllMade q)
      → (at_line n r >=> (λ next. lines_by known next (n + 1) lines)) ≡ Ok q → AllMade q
  go (Ok next) made more h = more next (made next refl) h
  go (Err why) made more h = cc h

-- what is read of a text
pub text_made : (known : Names → Names) (text : List ℕ) (q : Progress) → read_by known text ≡ Ok q → AllStatements q.blocks
unfolding read_by
text_made known text q h = lines_made known (lines_of text) start q 1 (lines_sized text) tt h
