-- Where each label stands behind its `create`, a text is read once, with the labels created so far, as it is read twice.
-- Another fault than an unknown label is the text's, too.
use Rattle.std.proofs.Common.{◌≡◌, ◌≢◌, ◌⊎◌, inl, inr, ℕ, ◌+◌, Bool, true, false, cond, List, [], ◌∷◌, ◌++◌, length, replicate, set, get_or, Option, Some, None, Result, Ok, Err, refl, sym, ap, ◌∙◌, subst}
use Rattle.std.specs.Prelude.{⊤, codes, nat_lt, nat_le, ◌==◌, ◌&&◌, is_some}
use Rattle.std.specs.List.{list_any}
use Rattle.std.specs.Map.{update}
use Rattle.std.specs.Str.{bytes_eq}
use Rattle.std.proofs.lemmas.List.{length-set}
use Rattle.std.proofs.lemmas.Slice.Eq.{bytes_eq-Decides}
use Rattle.crl_model.specs.declared.name.Name.{Name}
use Rattle.crl_model.specs.declared.call.Call as calls
use Rattle.crl_model.specs.declared.call.Call.TheVariants as call
use Rattle.crl_model.specs.declared.call.CallKind.{CallKind}
use Rattle.crl_model.specs.declared.call.CallKind.TheVariants as kind
use Rattle.crl_model.specs.declared.statement.Statement.{Statement}
use Rattle.crl_model.specs.declared.statement.Statement.TheVariants.{Call, Put, Add}
use Rattle.crl_script.specs.declared.fault.ScriptWhy.{ScriptWhy}
use Rattle.crl_script.specs.declared.fault.ScriptWhy.TheVariants.{NoNodes, BadNodes, BadWord, BadNumber, UnknownLabel, TwiceLabel, BadSize, BadNode, TwiceNode, LineTooLong}
use Rattle.crl_script.specs.declared.place.Place.{Place}
use Rattle.crl_script.specs.declared.place.Place.TheVariants.{Start, Head, Outside, Inside}
use Rattle.crl_script.specs.Labels.{Names, any_name}
use Rattle.crl_script.specs.Program.{Fault}
use Rattle.crl_script.specs.Progress.{Progress, start, with_nodes, nodes_line, cache_line, with_block, node_line, with_statement, with_region, create_line, other_line, statement_line, line_at, words_line, line_of}
use Rattle.crl_script.specs.Reading.{◌>>=◌}
use Rattle.crl_script.specs.Sentence.{lines_by, lines_from, read_by, at_line, ◌>=>◌, program_of, script_of}
use Rattle.crl_script.specs.Statements.{statement_of, kind_of, one_of, about_of, call_of, region_of, three_of, put_of, add_of, alone_of, called, come, or_fault}
use Rattle.crl_script.specs.Text.{Line, lines_of, words_of, is_comment}
use Rattle.crl_script.specs.Words.{is_label, number_of, bytes_of}

-- ---- statements, read with a name for each label

-- Both are read, or have the same fault; or the first has a label that isn't known.
abbrev Alike : {A : Type 0} → Result A ScriptWhy → Result A ScriptWhy → Type 0
Alike {A} (Ok x) s = (y : A) × (s ≡ Ok y)
Alike (Err why) s = (why ≡ UnknownLabel) ⊎ (s ≡ Err why)

alike_itself : {A : Type 0} (r : Result A ScriptWhy) → Alike r r
alike_itself (Ok x) = (x, refl)
alike_itself (Err why) = inr refl

then_alike : {A B : Type 0} (r s : Result A ScriptWhy) (f g : A → Result B ScriptWhy) → Alike r s → ((x y : A) → Alike (f x) (g y)) → Alike (r >>= f) (s >>= g)
then_alike (Ok x) s f g h more = rw h.1 (more x h.0)
then_alike (Err why) s f g (inl e) more = inl e
then_alike (Err why) s f g (inr e) more = rw e (inr refl)

and_alike : {A B : Type 0} (r : Result A ScriptWhy) (f g : A → Result B ScriptWhy) → ((x : A) → Alike (f x) (g x)) → Alike (r >>= f) (r >>= g)
and_alike (Ok x) f g more = more x
and_alike (Err why) f g more = inr refl

region_alike : (known : Names) (label : List ℕ) → Alike (region_of known label) (region_of any_name label)
unfolding region_of
region_alike known label = go (is_label label) (known label) where
  go : (b : Bool) (o : Option Name) → Alike (cond b (or_fault UnknownLabel o) (Err BadWord)) (cond b (or_fault UnknownLabel (any_name label)) (Err BadWord))
  go true None = inl refl
  go true (Some n) = (record { home = 0; serial = 0 }, refl)
  go false o = inr refl

call_alike : (k : CallKind) (name other : Name) → Alike (call_of k name) (call_of k other)
unfolding call_of
call_alike kind.Delete name other = (call.Delete other, refl)
call_alike kind.Map name other = (call.Map other, refl)
call_alike kind.Unmap name other = (call.Unmap other, refl)
call_alike kind.Flush name other = (call.Flush other, refl)
call_alike kind.Read name other = (call.StartRead other, refl)
call_alike kind.EndRead name other = (call.EndRead other, refl)
call_alike kind.Write name other = (call.StartWrite other, refl)
call_alike kind.EndWrite name other = (call.EndWrite other [], refl)
call_alike k name other = inr refl

about_alike : (known : Names) (k : CallKind) (label : List ℕ) → Alike (about_of known k label) (about_of any_name k label)
unfolding about_of
about_alike known k label = then_alike (region_of known label) (region_of any_name label) (call_of k) (call_of k) (region_alike known label) (call_alike k)

one_alike : (known : Names) (k : CallKind) (word : List ℕ) → Alike (one_of known k word) (one_of any_name k word)
unfolding one_of
one_alike known kind.Send word = alike_itself (one_of known kind.Send word)
one_alike known kind.Sum word = alike_itself (one_of known kind.Sum word)
one_alike known kind.Min word = alike_itself (one_of known kind.Min word)
one_alike known kind.Max word = alike_itself (one_of known kind.Max word)
one_alike known kind.Create word = about_alike known kind.Create word
one_alike known kind.Delete word = about_alike known kind.Delete word
one_alike known kind.Map word = about_alike known kind.Map word
one_alike known kind.Unmap word = about_alike known kind.Unmap word
one_alike known kind.Flush word = about_alike known kind.Flush word
one_alike known kind.Read word = about_alike known kind.Read word
one_alike known kind.EndRead word = about_alike known kind.EndRead word
one_alike known kind.Write word = about_alike known kind.Write word
one_alike known kind.EndWrite word = about_alike known kind.EndWrite word
one_alike known kind.Put word = about_alike known kind.Put word
one_alike known kind.Add word = about_alike known kind.Add word
one_alike known kind.Barrier word = about_alike known kind.Barrier word
one_alike known kind.Receive word = about_alike known kind.Receive word

called_alike : (r s : Result calls.Call ScriptWhy) → Alike r s → Alike (called r) (called s)
called_alike (Ok c) s h = (Call h.0, ap called h.1)
called_alike (Err why) s (inl e) = inl e
called_alike (Err why) s (inr e) = inr (ap called e)

put_alike : (known : Names) (label offset hex : List ℕ) → Alike (put_of known label offset hex) (put_of any_name label offset hex)
unfolding put_of
put_alike known label offset hex =
    then_alike (region_of known label) (region_of any_name label) (λ name. number_of 4294967295 BadNumber offset >>= λ n. bytes_of hex >>= λ bytes. Ok (Put name n bytes))
    (λ name. number_of 4294967295 BadNumber offset >>= λ n. bytes_of hex >>= λ bytes. Ok (Put name n bytes)) (region_alike known label) (λ name other.
    and_alike (number_of 4294967295 BadNumber offset) (λ n. bytes_of hex >>= λ bytes. Ok (Put name n bytes)) (λ n. bytes_of hex >>= λ bytes. Ok (Put other n bytes)) (λ n.
    and_alike (bytes_of hex) (λ bytes. Ok (Put name n bytes)) (λ bytes. Ok (Put other n bytes)) (λ bytes. (Put other n bytes, refl))))

add_alike : (known : Names) (label offset number : List ℕ) → Alike (add_of known label offset number) (add_of any_name label offset number)
unfolding add_of
add_alike known label offset number =
    then_alike (region_of known label) (region_of any_name label) (λ name. number_of 4294967295 BadNumber offset >>= λ n. number_of 18446744073709551615 BadNumber number >>= λ k. Ok (Add name n k))
    (λ name. number_of 4294967295 BadNumber offset >>= λ n. number_of 18446744073709551615 BadNumber number >>= λ k. Ok (Add name n k)) (region_alike known label) (λ name other.
    and_alike (number_of 4294967295 BadNumber offset) (λ n. number_of 18446744073709551615 BadNumber number >>= λ k. Ok (Add name n k)) (λ n. number_of 18446744073709551615 BadNumber number >>= λ k. Ok (Add other n k)) (λ n.
    and_alike (number_of 18446744073709551615 BadNumber number) (λ k. Ok (Add name n k)) (λ k. Ok (Add other n k)) (λ k. (Add other n k, refl))))

three_alike : (known : Names) (k : CallKind) (a b c : List ℕ) → Alike (three_of known k a b c) (three_of any_name k a b c)
unfolding three_of
three_alike known kind.Put a b c = put_alike known a b c
three_alike known kind.Add a b c = add_alike known a b c
three_alike known k a b c = inr refl

statement_alike : (known : Names) (k : CallKind) (words : List (List ℕ)) → Alike (statement_of known k words) (statement_of any_name k words)
unfolding statement_of
statement_alike known k [] = alike_itself (called (come (alone_of k)))
statement_alike known k (a ∷ []) = called_alike (one_of known k a) (one_of any_name k a) (one_alike known k a)
statement_alike known k (a ∷ b ∷ []) = inr refl
statement_alike known k (a ∷ b ∷ c ∷ []) = three_alike known k a b c
statement_alike known k (a ∷ b ∷ c ∷ d ∷ words) = inr refl

-- ---- lines, read with a name for each label

-- what is read so far, but for the statements
abbrev but_blocks : Progress → List (List Statement) → Progress
but_blocks p blocks = record p { blocks = blocks }

-- Both lead to the same, but for the statements in as many blocks, or have the same fault; or the first has a label that
-- isn't known.
abbrev Follows : Result Progress ScriptWhy → Result Progress ScriptWhy → Type 0
Follows (Ok q) s = (blocks : List (List Statement)) × (length blocks ≡ length q.blocks) × (s ≡ Ok (but_blocks q blocks))
Follows (Err why) s = (why ≡ UnknownLabel) ⊎ (s ≡ Err why)

-- either of two lines
either_follows : (b : Bool) (r t s u : Result Progress ScriptWhy) → Follows r s → Follows t u → Follows (cond b r t) (cond b s u)
either_follows true r t s u f g = f
either_follows false r t s u f g = g

value_follows : {A : Type 0} (r : Result A ScriptWhy) (f g : A → Result Progress ScriptWhy) → ((x : A) → Follows (f x) (g x)) → Follows (r >>= f) (r >>= g)
value_follows (Ok x) f g more = more x
value_follows (Err why) f g more = inr refl

nodes_follow : (p : Progress) (blocks : List (List Statement)) (words : List (List ℕ)) → Follows (nodes_line p words) (nodes_line (but_blocks p blocks) words)
unfolding nodes_line
nodes_follow p blocks [] = inr refl
nodes_follow p blocks (word ∷ []) = value_follows (number_of 18446744073709551615 BadNumber word) (with_nodes p) (with_nodes (but_blocks p blocks)) (λ n.
    either_follows (nat_le 1 n && nat_le n 64) (Ok (record p { place = Head; blocks = replicate n [] })) (Err BadNodes) (Ok (record (but_blocks p blocks) { place = Head; blocks = replicate n [] })) (Err BadNodes)
    (replicate n [], refl, refl) (inr refl))
nodes_follow p blocks (word ∷ next ∷ words) = inr refl

cache_follows : (p : Progress) (blocks : List (List Statement)) (words : List (List ℕ)) → length blocks ≡ length p.blocks → Follows (cache_line p words) (cache_line (but_blocks p blocks) words)
unfolding cache_line
cache_follows p blocks [] e = inr refl
cache_follows p blocks (word ∷ []) e = value_follows (number_of 65535 BadNumber word) (λ n. Ok (record p { place = Outside; cache = n })) (λ n. Ok (record (but_blocks p blocks) { place = Outside; cache = n })) (λ n. (blocks, e, refl))
cache_follows p blocks (word ∷ next ∷ words) e = inr refl

node_follows : (p : Progress) (blocks : List (List Statement)) (words : List (List ℕ)) → length blocks ≡ length p.blocks → Follows (node_line p words) (node_line (but_blocks p blocks) words)
unfolding node_line
node_follows p blocks [] e = inr refl
node_follows p blocks (word ∷ []) e = value_follows (number_of 4294967295 BadNumber word) (with_block p) (with_block (but_blocks p blocks)) (λ n. rw e (go n (nat_le (length p.blocks) n) (list_any (λ k. k == n) p.begun))) where
  go : (n : ℕ) (far twice : Bool) → Follows (cond far (Err BadNode) (cond twice (Err TwiceNode) (Ok (record p { place = Inside n; begun = p.begun ++ n ∷ []; made = 0 }))))
      (cond far (Err BadNode) (cond twice (Err TwiceNode) (Ok (record (but_blocks p blocks) { place = Inside n; begun = p.begun ++ n ∷ []; made = 0 }))))
  go n true twice = inr refl
  go n false true = inr refl
  go n false false = (blocks, e, refl)
node_follows p blocks (word ∷ next ∷ words) e = inr refl

-- a statement more in each
put_follows : (node : ℕ) (s t : Statement) (p : Progress) (blocks : List (List Statement)) → length blocks ≡ length p.blocks
    → (more : List (List Statement)) × (length more ≡ length (with_statement node s p).blocks) × (with_statement node t (but_blocks p blocks) ≡ but_blocks (with_statement node s p) more)
unfolding with_statement
put_follows node s t p blocks e = (
  set blocks node (get_or blocks node [] ++ t ∷ []),
  length-set blocks node (get_or blocks node [] ++ t ∷ []) ∙ e ∙ sym (length-set p.blocks node (get_or p.blocks node [] ++ s ∷ [])),
  refl,
)

create_follows : (p : Progress) (blocks : List (List Statement)) (node : ℕ) (words : List (List ℕ)) → length blocks ≡ length p.blocks → Follows (create_line p node words) (create_line (but_blocks p blocks) node words)
unfolding create_line with_statement put_follows
create_follows p blocks node [] e = inr refl
create_follows p blocks node (label ∷ []) e = inr refl
create_follows p blocks node (label ∷ size ∷ []) e = go (is_label label) (is_some (p.names label)) where
  made : Follows (number_of 4294967295 BadSize size >>= λ n. Ok (with_region node label n p)) (number_of 4294967295 BadSize size >>= λ n. Ok (with_region node label n (but_blocks p blocks)))
  made = value_follows (number_of 4294967295 BadSize size) (λ n. Ok (with_region node label n p)) (λ n. Ok (with_region node label n (but_blocks p blocks))) (λ n.
      let more = put_follows node (Call (call.Create n)) (Call (call.Create n)) p blocks e in (more.0, more.1, refl))

  go : (good twice : Bool) → Follows (cond good (cond twice (Err TwiceLabel) (number_of 4294967295 BadSize size >>= λ n. Ok (with_region node label n p))) (Err BadWord))
      (cond good (cond twice (Err TwiceLabel) (number_of 4294967295 BadSize size >>= λ n. Ok (with_region node label n (but_blocks p blocks)))) (Err BadWord))
  go true true = inr refl
  go true false = made
  go false twice = inr refl
create_follows p blocks node (label ∷ size ∷ more ∷ words) e = inr refl

other_follows : (known : Names) (p : Progress) (blocks : List (List Statement)) (node : ℕ) (k : Option CallKind) (words : List (List ℕ)) → length blocks ≡ length p.blocks
    → Follows (other_line known p node k words) (other_line any_name (but_blocks p blocks) node k words)
unfolding other_line
other_follows known p blocks node None words e = inr refl
other_follows known p blocks node (Some k) words e = go (statement_of known k words) (statement_of any_name k words) (statement_alike known k words) where
  go : (r s : Result Statement ScriptWhy) → Alike r s → Follows (r >>= λ x. Ok (with_statement node x p)) (s >>= λ x. Ok (with_statement node x (but_blocks p blocks)))
  go (Ok x) s h = let more = put_follows node x h.0 p blocks e in rw h.1 (more.0, more.1, ap Ok more.2)
  go (Err why) s (inl u) = inl u
  go (Err why) s (inr u) = rw u (inr refl)

statement_line_follows : (known : Names) (p : Progress) (blocks : List (List Statement)) (node : ℕ) (word : List ℕ) (words : List (List ℕ)) → length blocks ≡ length p.blocks
    → Follows (statement_line known p node word words) (statement_line any_name (but_blocks p blocks) node word words)
unfolding statement_line
statement_line_follows known p blocks node word words e =
    either_follows (bytes_eq word (codes "create")) (create_line p node words) (other_line known p node (kind_of word) words)
    (create_line (but_blocks p blocks) node words) (other_line any_name (but_blocks p blocks) node (kind_of word) words)
    (create_follows p blocks node words e) (other_follows known p blocks node (kind_of word) words e)

at_follows : (known : Names) (p : Progress) (blocks : List (List Statement)) (place : Place) (word : List ℕ) (words : List (List ℕ)) → length blocks ≡ length p.blocks
    → Follows (line_at known p place word words) (line_at any_name (but_blocks p blocks) place word words)
unfolding line_at
at_follows known p blocks Start word words e =
    either_follows (bytes_eq word (codes "nodes")) (nodes_line p words) (Err NoNodes) (nodes_line (but_blocks p blocks) words) (Err NoNodes) (nodes_follow p blocks words) (inr refl)
at_follows known p blocks Head word words e =
    either_follows (bytes_eq word (codes "node")) (node_line p words) (cond (bytes_eq word (codes "cache")) (cache_line p words) (Err BadWord))
    (node_line (but_blocks p blocks) words) (cond (bytes_eq word (codes "cache")) (cache_line (but_blocks p blocks) words) (Err BadWord))
    (node_follows p blocks words e)
    (either_follows (bytes_eq word (codes "cache")) (cache_line p words) (Err BadWord) (cache_line (but_blocks p blocks) words) (Err BadWord) (cache_follows p blocks words e) (inr refl))
at_follows known p blocks Outside word words e =
    either_follows (bytes_eq word (codes "node")) (node_line p words) (Err BadWord) (node_line (but_blocks p blocks) words) (Err BadWord) (node_follows p blocks words e) (inr refl)
at_follows known p blocks (Inside node) word words e =
    either_follows (bytes_eq word (codes "node")) (node_line p words) (statement_line known p node word words)
    (node_line (but_blocks p blocks) words) (statement_line any_name (but_blocks p blocks) node word words)
    (node_follows p blocks words e) (statement_line_follows known p blocks node word words e)

words_follow : (known : Names) (p : Progress) (blocks : List (List Statement)) (words : List (List ℕ)) → length blocks ≡ length p.blocks
    → Follows (words_line known p words) (words_line any_name (but_blocks p blocks) words)
words_follow known p blocks [] e = (blocks, e, refl)
words_follow known p blocks (word ∷ words) e =
    either_follows (is_comment word) (Ok p) (line_at known p p.place word words) (Ok (but_blocks p blocks)) (line_at any_name (but_blocks p blocks) p.place word words)
    (blocks, e, refl) (at_follows known p blocks p.place word words e)

line_follows : (known : Names) (p : Progress) (blocks : List (List Statement)) (line : Line) → length blocks ≡ length p.blocks
    → Follows (line_of known p line) (line_of any_name (but_blocks p blocks) line)
unfolding line_of
line_follows known p blocks line e =
    either_follows (nat_lt 140000 line.size) (Err LineTooLong) (words_line known p (words_of line.bytes)) (Err LineTooLong) (words_line any_name (but_blocks p blocks) (words_of line.bytes))
    (inr refl) (words_follow known p blocks (words_of line.bytes) e)

-- ---- lines, read with further labels

-- each label has the name that it had
abbrev Extends : Names → Names → Type 0
Extends more names = (label : List ℕ) (name : Name) → names label ≡ Some name → more label ≡ Some name

-- what was read is read again
abbrev Stays : {A : Type 0} → Result A ScriptWhy → Result A ScriptWhy → Type 0
Stays (Ok x) s = s ≡ Ok x
Stays (Err why) s = ⊤

stays_itself : {A : Type 0} (r : Result A ScriptWhy) → Stays r r
stays_itself (Ok x) = refl
stays_itself (Err why) = tt

then_stays : {A B : Type 0} (r s : Result A ScriptWhy) (f : A → Result B ScriptWhy) → Stays r s → Stays (r >>= f) (s >>= f)
then_stays (Ok x) s f h = rw h (stays_itself (f x))
then_stays (Err why) s f h = tt

either_stays : {A : Type 0} (b : Bool) (r s t : Result A ScriptWhy) → Stays s t → Stays (cond b r s) (cond b r t)
either_stays true r s t h = stays_itself r
either_stays false r s t h = h

module _ (more names : Names) (extends : Extends more names) where
  region_stays : (label : List ℕ) → Stays (region_of names label) (region_of more label)
  unfolding region_of
  region_stays label = go (is_label label) (names label) (extends label) where
    go : (b : Bool) (o : Option Name) → ((name : Name) → o ≡ Some name → more label ≡ Some name) → Stays (cond b (or_fault UnknownLabel o) (Err BadWord)) (cond b (or_fault UnknownLabel (more label)) (Err BadWord))
    go true None h = tt
    go true (Some n) h = rw (h n refl) refl
    go false o h = tt

  about_stays : (k : CallKind) (label : List ℕ) → Stays (about_of names k label) (about_of more k label)
  unfolding about_of
  about_stays k label = then_stays (region_of names label) (region_of more label) (call_of k) (region_stays label)

  one_stays : (k : CallKind) (word : List ℕ) → Stays (one_of names k word) (one_of more k word)
  unfolding one_of
  one_stays kind.Send word = stays_itself (one_of names kind.Send word)
  one_stays kind.Sum word = stays_itself (one_of names kind.Sum word)
  one_stays kind.Min word = stays_itself (one_of names kind.Min word)
  one_stays kind.Max word = stays_itself (one_of names kind.Max word)
  one_stays kind.Create word = about_stays kind.Create word
  one_stays kind.Delete word = about_stays kind.Delete word
  one_stays kind.Map word = about_stays kind.Map word
  one_stays kind.Unmap word = about_stays kind.Unmap word
  one_stays kind.Flush word = about_stays kind.Flush word
  one_stays kind.Read word = about_stays kind.Read word
  one_stays kind.EndRead word = about_stays kind.EndRead word
  one_stays kind.Write word = about_stays kind.Write word
  one_stays kind.EndWrite word = about_stays kind.EndWrite word
  one_stays kind.Put word = about_stays kind.Put word
  one_stays kind.Add word = about_stays kind.Add word
  one_stays kind.Barrier word = about_stays kind.Barrier word
  one_stays kind.Receive word = about_stays kind.Receive word

  called_stays : (r s : Result calls.Call ScriptWhy) → Stays r s → Stays (called r) (called s)
  called_stays (Ok c) s h = ap called h
  called_stays (Err why) s h = tt

  three_stays : (k : CallKind) (a b c : List ℕ) → Stays (three_of names k a b c) (three_of more k a b c)
  unfolding three_of put_of add_of
  three_stays kind.Put a b c = then_stays (region_of names a) (region_of more a) (λ name. number_of 4294967295 BadNumber b >>= λ n. bytes_of c >>= λ bytes. Ok (Put name n bytes)) (region_stays a)
  three_stays kind.Add a b c = then_stays (region_of names a) (region_of more a) (λ name. number_of 4294967295 BadNumber b >>= λ n. number_of 18446744073709551615 BadNumber c >>= λ k. Ok (Add name n k)) (region_stays a)
  three_stays k a b c = tt

  statement_stays : (k : CallKind) (words : List (List ℕ)) → Stays (statement_of names k words) (statement_of more k words)
  unfolding statement_of
  statement_stays k [] = stays_itself (called (come (alone_of k)))
  statement_stays k (a ∷ []) = called_stays (one_of names k a) (one_of more k a) (one_stays k a)
  statement_stays k (a ∷ b ∷ []) = tt
  statement_stays k (a ∷ b ∷ c ∷ []) = three_stays k a b c
  statement_stays k (a ∷ b ∷ c ∷ d ∷ words) = tt

  other_stays : (p : Progress) (node : ℕ) (k : Option CallKind) (words : List (List ℕ)) → Stays (other_line names p node k words) (other_line more p node k words)
  unfolding other_line
  other_stays p node None words = tt
  other_stays p node (Some k) words = then_stays (statement_of names k words) (statement_of more k words) (λ s. Ok (with_statement node s p)) (statement_stays k words)

  at_stays : (p : Progress) (place : Place) (word : List ℕ) (words : List (List ℕ)) → Stays (line_at names p place word words) (line_at more p place word words)
  unfolding line_at statement_line
  at_stays p Start word words = stays_itself (line_at names p Start word words)
  at_stays p Head word words = stays_itself (line_at names p Head word words)
  at_stays p Outside word words = stays_itself (line_at names p Outside word words)
  at_stays p (Inside node) word words =
      either_stays (bytes_eq word (codes "node")) (node_line p words) (statement_line names p node word words) (statement_line more p node word words)
      (either_stays (bytes_eq word (codes "create")) (create_line p node words) (other_line names p node (kind_of word) words) (other_line more p node (kind_of word) words)
      (other_stays p node (kind_of word) words))

  words_stay : (p : Progress) (words : List (List ℕ)) → Stays (words_line names p words) (words_line more p words)
  words_stay p [] = refl
  words_stay p (word ∷ words) = either_stays (is_comment word) (Ok p) (line_at names p p.place word words) (line_at more p p.place word words) (at_stays p p.place word words)

  line_stays : (p : Progress) (line : Line) → Stays (line_of names p line) (line_of more p line)
  unfolding line_of
  line_stays p line = either_stays (nat_lt 140000 line.size) (Err LineTooLong) (words_line names p (words_of line.bytes)) (words_line more p (words_of line.bytes)) (words_stay p (words_of line.bytes))

-- ---- labels, which only come

-- what is read has the labels that there were
abbrev Grows : Progress → Result Progress ScriptWhy → Type 0
Grows p (Ok q) = Extends q.names p.names
Grows p (Err why) = ⊤

either_grows : (p : Progress) (b : Bool) (r s : Result Progress ScriptWhy) → Grows p r → Grows p s → Grows p (cond b r s)
either_grows p true r s g h = g
either_grows p false r s g h = h

value_grows : {A : Type 0} (p : Progress) (r : Result A ScriptWhy) (f : A → Result Progress ScriptWhy) → ((x : A) → Grows p (f x)) → Grows p (r >>= f)
value_grows p (Ok x) f h = h x
value_grows p (Err why) f h = tt

nodes_grow : (p : Progress) (words : List (List ℕ)) → Grows p (nodes_line p words)
unfolding nodes_line
nodes_grow p [] = tt
nodes_grow p (word ∷ []) = value_grows p (number_of 18446744073709551615 BadNumber word) (with_nodes p) (λ n.
    either_grows p (nat_le 1 n && nat_le n 64) (Ok (record p { place = Head; blocks = replicate n [] })) (Err BadNodes) (λ label name h. h) tt)
nodes_grow p (word ∷ next ∷ words) = tt

cache_grows : (p : Progress) (words : List (List ℕ)) → Grows p (cache_line p words)
unfolding cache_line
cache_grows p [] = tt
cache_grows p (word ∷ []) = value_grows p (number_of 65535 BadNumber word) (λ n. Ok (record p { place = Outside; cache = n })) (λ n label name h. h)
cache_grows p (word ∷ next ∷ words) = tt

node_grows : (p : Progress) (words : List (List ℕ)) → Grows p (node_line p words)
unfolding node_line
node_grows p [] = tt
node_grows p (word ∷ []) = value_grows p (number_of 4294967295 BadNumber word) (with_block p) (λ n.
    either_grows p (nat_le (length p.blocks) n) (Err BadNode) (cond (list_any (λ k. k == n) p.begun) (Err TwiceNode) (Ok (record p { place = Inside n; begun = p.begun ++ n ∷ []; made = 0 }))) tt
    (either_grows p (list_any (λ k. k == n) p.begun) (Err TwiceNode) (Ok (record p { place = Inside n; begun = p.begun ++ n ∷ []; made = 0 })) tt (λ label name h. h)))
node_grows p (word ∷ next ∷ words) = tt

-- a label that has no name is given one
update_grows : (names : Names) (label : List ℕ) (new : Name) → is_some (names label) ≡ false → Extends (update bytes_eq names label (Some new)) names
update_grows names label new none = λ other name h. go other name h (bytes_eq label other) refl where
  go : (other : List ℕ) (name : Name) → names other ≡ Some name → (b : Bool) → bytes_eq label other ≡ b → cond b (Some new) (names other) ≡ Some name
  go other name h true e =
      let same : label ≡ other = (bytes_eq-Decides label other).0 e in
      let there : is_some (names label) ≡ true = rw (same, h) refl in
      cc (sym none ∙ there)
  go other name h false e = h

create_grows : (p : Progress) (node : ℕ) (words : List (List ℕ)) → Grows p (create_line p node words)
unfolding create_line with_statement
create_grows p node [] = tt
create_grows p node (label ∷ []) = tt
create_grows p node (label ∷ size ∷ []) = either_grows p (is_label label) (cond (is_some (p.names label)) (Err TwiceLabel) (number_of 4294967295 BadSize size >>= λ n. Ok (with_region node label n p))) (Err BadWord)
    (go (is_some (p.names label)) refl) tt where
      go : (b : Bool) → is_some (p.names label) ≡ b → Grows p (cond b (Err TwiceLabel) (number_of 4294967295 BadSize size >>= λ n. Ok (with_region node label n p)))
      go true e = tt
      go false e = value_grows p (number_of 4294967295 BadSize size) (λ n. Ok (with_region node label n p)) (λ n. update_grows p.names label (record { home = node; serial = p.made + 1 }) e)
create_grows p node (label ∷ size ∷ more ∷ words) = tt

other_grows : (known : Names) (p : Progress) (node : ℕ) (k : Option CallKind) (words : List (List ℕ)) → Grows p (other_line known p node k words)
unfolding other_line with_statement
other_grows known p node None words = tt
other_grows known p node (Some k) words = value_grows p (statement_of known k words) (λ s. Ok (with_statement node s p)) (λ s label name h. h)

at_grows : (known : Names) (p : Progress) (place : Place) (word : List ℕ) (words : List (List ℕ)) → Grows p (line_at known p place word words)
unfolding line_at statement_line
at_grows known p Start word words = either_grows p (bytes_eq word (codes "nodes")) (nodes_line p words) (Err NoNodes) (nodes_grow p words) tt
at_grows known p Head word words =
    either_grows p (bytes_eq word (codes "node")) (node_line p words) (cond (bytes_eq word (codes "cache")) (cache_line p words) (Err BadWord)) (node_grows p words)
    (either_grows p (bytes_eq word (codes "cache")) (cache_line p words) (Err BadWord) (cache_grows p words) tt)
at_grows known p Outside word words = either_grows p (bytes_eq word (codes "node")) (node_line p words) (Err BadWord) (node_grows p words) tt
at_grows known p (Inside node) word words =
    either_grows p (bytes_eq word (codes "node")) (node_line p words) (statement_line known p node word words) (node_grows p words)
    (either_grows p (bytes_eq word (codes "create")) (create_line p node words) (other_line known p node (kind_of word) words) (create_grows p node words) (other_grows known p node (kind_of word) words))

words_grow : (known : Names) (p : Progress) (words : List (List ℕ)) → Grows p (words_line known p words)
words_grow known p [] = λ label name h. h
words_grow known p (word ∷ words) = either_grows p (is_comment word) (Ok p) (line_at known p p.place word words) (λ label name h. h) (at_grows known p p.place word words)

line_grows : (known : Names) (p : Progress) (line : Line) → Grows p (line_of known p line)
unfolding line_of
line_grows known p line = either_grows p (nat_lt 140000 line.size) (Err LineTooLong) (words_line known p (words_of line.bytes)) tt (words_grow known p (words_of line.bytes))

-- ---- texts

-- the names of labels at a line are those of the labels created before it
abbrev so_far : Names → Names
so_far names = names

lines_grow : (lines : List Line) (p q : Progress) (n : ℕ) → lines_by so_far p n lines ≡ Ok q → Extends q.names p.names
lines_grow [] p q n h = let same : p ≡ q = cc h in subst (λ (q : Progress). Extends q.names p.names) same (λ label name h. h)
lines_grow (line ∷ lines) p q n h = go (line_of p.names p line) (line_grows p.names p line) (λ next. lines_grow lines next q (n + 1)) h where
  go : (r : Result Progress ScriptWhy) → Grows p r → ((next : Progress) → lines_by so_far next (n + 1) lines ≡ Ok q → Extends q.names next.names)
      → (at_line n r >=> (λ next. lines_by so_far next (n + 1) lines)) ≡ Ok q → Extends q.names p.names
  go (Ok next) grows rest h = λ label name there. rest next h label name (grows label name there)
  go (Err why) grows rest h = cc h

-- the same lines, read with the names of all labels
lines_stay : (lines : List Line) (p q : Progress) (n : ℕ) (more : Names) → Extends more q.names → lines_by so_far p n lines ≡ Ok q → lines_from more p n lines ≡ Ok q
lines_stay [] p q n more x h = h
lines_stay (line ∷ lines) p q n more x h =
    go (line_of p.names p line) (line_of more p line) (line_stays more p.names (λ label name there. x label name (lines_grow (line ∷ lines) p q n h label name there)) p line) (λ next. lines_stay lines next q (n + 1) more x) h where
      go : (r s : Result Progress ScriptWhy) → Stays r s → ((next : Progress) → lines_by so_far next (n + 1) lines ≡ Ok q → lines_from more next (n + 1) lines ≡ Ok q)
          → (at_line n r >=> (λ next. lines_by so_far next (n + 1) lines)) ≡ Ok q → (at_line n s >=> (λ next. lines_from more next (n + 1) lines)) ≡ Ok q
      go (Ok next) s stays rest h = rw stays (rest next h)
      go (Err why) s stays rest h = cc h

-- Reading with a name for each label leads to the same labels, or has the same fault; or a label isn't known.
abbrev Finds : Result Progress Fault → Result Progress Fault → Type 0
Finds (Ok q) s = (found : Progress) × (s ≡ Ok found) × (found.names ≡ q.names)
Finds (Err fault) s = (fault.why ≡ UnknownLabel) ⊎ (s ≡ Err fault)

lines_find : (lines : List Line) (p : Progress) (blocks : List (List Statement)) (n : ℕ) → length blocks ≡ length p.blocks
    → Finds (lines_by so_far p n lines) (lines_from any_name (but_blocks p blocks) n lines)
lines_find [] p blocks n e = (but_blocks p blocks, refl, refl)
lines_find (line ∷ lines) p blocks n e =
    go (line_of p.names p line) (line_of any_name (but_blocks p blocks) line) (line_follows p.names p blocks line e) (λ next more. lines_find lines next more (n + 1)) where
      go : (r s : Result Progress ScriptWhy) → Follows r s
          → ((next : Progress) (more : List (List Statement)) → length more ≡ length next.blocks → Finds (lines_by so_far next (n + 1) lines) (lines_from any_name (but_blocks next more) (n + 1) lines))
          → Finds (at_line n r >=> (λ next. lines_by so_far next (n + 1) lines)) (at_line n s >=> (λ next. lines_from any_name next (n + 1) lines))
      go (Ok next) s follows rest = rw follows.2 (rest next follows.0 follows.1)
      go (Err why) s (inl u) rest = inl u
      go (Err why) s (inr u) rest = rw u (inr refl)

-- a text whose labels stand behind their creates
pub read_so_far : (text : List ℕ) (q : Progress) → read_by so_far text ≡ Ok q → script_of text ≡ program_of q
unfolding read_by script_of
read_so_far text q h = go (lines_by so_far start 1 (lines_of text)) (lines_from any_name start 1 (lines_of text)) (lines_find (lines_of text) start [] 1 refl) h where
  go : (r s : Result Progress Fault) → Finds r s → r ≡ Ok q → (s >=> (λ first. lines_from first.names start 1 (lines_of text) >=> program_of)) ≡ program_of q
  go (Ok p) s finds e =
      let same : p ≡ q = cc e in
      let names : finds.0.names ≡ q.names = finds.2 ∙ ap (λ (p : Progress). p.names) same in
      rw (finds.1, names, lines_stay (lines_of text) start q 1 q.names (λ label name there. there) h) refl
  go (Err fault) s finds e = cc e

-- another fault than a label that isn't known
pub fault_so_far : (text : List ℕ) (fault : Fault) → read_by so_far text ≡ Err fault → fault.why ≢ UnknownLabel → script_of text ≡ Err fault
unfolding read_by script_of
fault_so_far text fault h other = go (lines_by so_far start 1 (lines_of text)) (lines_from any_name start 1 (lines_of text)) (lines_find (lines_of text) start [] 1 refl) h where
  go : (r s : Result Progress Fault) → Finds r s → r ≡ Err fault → (s >=> (λ first. lines_from first.names start 1 (lines_of text) >=> program_of)) ≡ Err fault
  go (Ok p) s finds e = cc e
  go (Err found) s (inl u) e = let same : found ≡ fault = cc e in absurd (other (sym (ap (λ (f : Fault). f.why) same) ∙ u))
  go (Err found) s (inr u) e = let same : found ≡ fault = cc e in rw (u, same) refl
