-- The parse agrees with the table of commands.
use Rattle.std.proofs.Common.{◌≡◌, ◌⊎◌, ◌||◌, ◌∙◌, Bool, cond, true, false, true≢false, map, List, [], ◌∷◌, refl, codes, Option, Some, None, sym, ap, ap₂, subst, inl, inr}
use Rattle.std.specs.Prelude.{unwrap_or, option_map}
use Rattle.std.specs.List.{list_any}
use Rattle.std.specs.Str.{bytes_eq}
use Rattle.std.proofs.lemmas.Slice.Eq.{bytes_eq-Decides}
use Rattle.clap.specs.Words.{Row, Text, all_of, fault_of, subcommand_of}
use Rattle.clap.specs.Walk.{idle, subcommand_met}
use Rattle.clap.specs.Kinds.{HasKind, IsAmong, Kinds, or_else}
use Rattle.clap.specs.Values.{kind_of}
use Rattle.clap.specs.declared.error.Error.{Error}
use Rattle.clap.specs.declared.error.kind.ErrorKind.{ErrorKind}
use Rattle.clap.specs.declared.error.kind.ErrorKind.TheVariants as kind
use Rattle.crl_commands.specs.Commands.{any_hyphenated, command_by, command_named, is_hyphenated}
use Rattle.crl_commands.specs.CommandLine.{command_in, named_words, command_line}
use Rattle.crl_commands.proofs.Walks.{first_nil, neither, not_nil}
use Rattle.crl_commands.proofs.Parses.{IsNamed, names, named_fault, named_gives, no_value, no_words, unnamed, words_fit, words_given}

-- ---- names

-- a command's name is met as such
order_named : IsNamed (codes "order")
order_named = record { met = refl; found = refl; other = refl }

check_named : IsNamed (codes "check")
check_named = record { met = refl; found = refl; other = refl }

gen_named : IsNamed (codes "gen")
gen_named = record { met = refl; found = refl; other = refl }

summary_named : IsNamed (codes "summary")
summary_named = record { met = refl; found = refl; other = refl }

threads_named : IsNamed (codes "threads")
threads_named = record { met = refl; found = refl; other = refl }

by_name : (w name : Text) → IsNamed name → bytes_eq w name ≡ true → IsNamed w
by_name w name named e = subst IsNamed (sym ((bytes_eq-Decides w name).0 e)) named

swapped : (a w : Text) → bytes_eq w a ≡ false → bytes_eq a w ≡ false
swapped a w e = go (bytes_eq a w) refl
  where
    go : (b : Bool) → bytes_eq a w ≡ b → bytes_eq a w ≡ false
    go true same = absurd (true≢false (sym ((bytes_eq-Decides w a).1 (sym ((bytes_eq-Decides a w).0 same))) ∙ e))
    go false same = same

abbrev IsNoCommand : Text → Type 0
IsNoCommand w = (subcommand_met names idle w ≡ None) × ((words : List Text) → command_named w words ≡ None)

is_other : (w : Text) → bytes_eq w (codes "order") ≡ false → bytes_eq w (codes "check") ≡ false → bytes_eq w (codes "gen") ≡ false → bytes_eq w (codes "summary") ≡ false → bytes_eq w (codes "threads") ≡ false → IsNoCommand w
is_other w a b c d e = (
  rw (swapped (codes "order") w a, swapped (codes "check") w b, swapped (codes "gen") w c, swapped (codes "summary") w d, swapped (codes "threads") w e) refl,
  λ words. rw (a, b, c, d, e) refl,
)

known : (w : Text) → IsNamed w ⊎ IsNoCommand w
known w = go (bytes_eq w (codes "order")) (bytes_eq w (codes "check")) (bytes_eq w (codes "gen")) (bytes_eq w (codes "summary")) (bytes_eq w (codes "threads")) refl refl refl refl refl
  where
    go : (a b c d x : Bool) → bytes_eq w (codes "order") ≡ a → bytes_eq w (codes "check") ≡ b → bytes_eq w (codes "gen") ≡ c → bytes_eq w (codes "summary") ≡ d → bytes_eq w (codes "threads") ≡ x → IsNamed w ⊎ IsNoCommand w
    go true b c d x e f g h k = inl (by_name w (codes "order") order_named e)
    go false true c d x e f g h k = inl (by_name w (codes "check") check_named f)
    go false false true d x e f g h k = inl (by_name w (codes "gen") gen_named g)
    go false false false true x e f g h k = inl (by_name w (codes "summary") summary_named h)
    go false false false false true e f g h k = inl (by_name w (codes "threads") threads_named k)
    go false false false false false e f g h k = inr (is_other w e f g h k)

-- ---- words

-- what clap makes of the words, and what the table says of them
data Agrees (words : List Text) : Type 0 where
  takes : (name : Text) (rest : List Text) → words ≡ name ∷ rest → fault_of command_line words ≡ [] → named_words (subcommand_of command_line words) ≡ Some (name, rest) → Agrees words
  leaves : command_by words ≡ None → (fault_of command_line words ≡ [] → ⊥) → Agrees words

none_anyhow : {X : Type 0} (a : Bool) (o : Option X) → o ≡ None → cond a None o ≡ None
none_anyhow true o e = refl
none_anyhow false o e = e

-- no command is its name alone
alone : (w : Text) → command_named w [] ≡ None
alone w = none_anyhow (bytes_eq w (codes "order")) _ (none_anyhow (bytes_eq w (codes "check")) _ (none_anyhow (bytes_eq w (codes "gen")) _ (none_anyhow (bytes_eq w (codes "summary")) _ (none_anyhow (bytes_eq w (codes "threads")) _ refl))))

-- clap takes the words exactly where the table has the name, and a word stands behind it
agrees : (words : List Text) → any_hyphenated words ≡ false → Agrees words
agrees [] e = leaves refl no_words
agrees (w ∷ []) e = leaves (alone w) (λ well. go (known w) well)
  where
    go : IsNamed w ⊎ IsNoCommand w → fault_of command_line (w ∷ []) ≡ [] → ⊥
    go (inl k) well = no_value w (first_nil _ _ (sym (named_fault w [] k) ∙ well))
    go (inr k) well = unnamed w [] (neither _ _ e).0 k.0 well
agrees (w ∷ v ∷ rest) e = go (known w)
  where
    plain : any_hyphenated (v ∷ rest) ≡ false
    plain = (neither (is_hyphenated w) _ e).1

    go : IsNamed w ⊎ IsNoCommand w → Agrees (w ∷ v ∷ rest)
    go (inl k) = takes w (v ∷ rest) refl (named_fault w (v ∷ rest) k ∙ ap (λ f. or_else f []) (words_fit w v rest plain))
        (ap named_words (named_gives w (v ∷ rest) k) ∙ ap (option_map (λ (t : List Text). (w, t))) (words_given w v rest plain))
    go (inr k) = leaves (k.1 (v ∷ rest)) (unnamed w (v ∷ rest) (neither _ _ e).0 k.0)

-- ---- what the code makes of the parse

-- the parse went well
pub well : (words : List Text) → any_hyphenated words ≡ false → fault_of command_line words ≡ [] → command_in (named_words (subcommand_of command_line words)) ≡ command_by words
well words e none = go (agrees words e)
  where
    go : Agrees words → command_in (named_words (subcommand_of command_line words)) ≡ command_by words
    go (takes name rest are fits given) = ap command_in given ∙ ap command_by (sym are)
    go (leaves is bad) = absurd (bad none)

among_some : (k : ErrorKind) (ks : Kinds) → IsAmong k ks → ks ≡ [] → ⊥
among_some k [] h e = h
among_some k (x ∷ ks) h e = not_nil x ks e

-- the parse failed, and not for want of memory
pub failed : (words : List Text) (e : Error) → any_hyphenated words ≡ false → HasKind (fault_of command_line words) e → (kind_of e ≡ kind.OutOfMemory → ⊥) → command_by words ≡ None
failed words e plain has other = go (agrees words plain) has
  where
    go : Agrees words → HasKind (fault_of command_line words) e → command_by words ≡ None
    go (leaves is bad) h = is
    go (takes name rest are fits given) (inl memory) = absurd (other memory)
    go (takes name rest are fits given) (inr among) = absurd (among_some _ _ among fits)

-- a name and rows that are read one by one are read of one command
pub apart : {B : Type 0} (f : B → Text) (g : B → List Row) (o : Option B) (n : Text) (r : List Row) → Some n ≡ option_map f o
    → Some r ≡ option_map (λ (p : Text × List Row). p.1) (option_map {U = Text × List Row} (λ b. (f b, g b)) o)
    → option_map {U = Text × List Row} (λ b. (f b, g b)) o ≡ Some (n, r)
apart f g None n r e h = cc
apart f g (Some b) n r e h = both_are (some_is _ _ e) (some_is _ _ h)
  where
    some_is : {X : Type 0} (x y : X) → Some x ≡ Some y → x ≡ y
    some_is x y e = ap (λ o. unwrap_or o x) e

    both_are : n ≡ f b → r ≡ g b → ◌≡◌ {A = Option (Text × List Row)} (Some (f b, g b)) (Some (n, r))
    both_are a c = ap₂ (λ (x : Text) (y : List Row). Some (x, y)) (sym a) (sym c)

-- the test of the words in the code
pub any_in : {X : Type 0} (f : X → Text) (xs : List X) → any_hyphenated (map f xs) ≡ list_any (λ x. is_hyphenated (f x)) xs
any_in f [] = refl
any_in f (x ∷ xs) = ap (λ b. is_hyphenated (f x) || b) (any_in f xs)

-- the command of a name and its rows
pub command_from : (found : Option (Text × List Row)) (name : Text) (r : List Row) (v : Option (List Text)) → found ≡ Some (name, r) → all_of (codes "words") r ≡ v
    → command_in (named_words found) ≡ command_in (option_map (λ (w : List Text). (name, w)) v)
command_from found name r v is words_are = ap (λ (f : Option (Text × List Row)). command_in (named_words f)) is ∙ ap (λ (o : Option (List Text)). command_in (option_map (λ (w : List Text). (name, w)) o)) words_are
