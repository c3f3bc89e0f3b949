-- What clap makes of words that don't begin with a hyphen: a command's name and the words behind it, or a fault.
use Rattle.std.proofs.Common.{◌≡◌, ◌&&◌, ◌∙◌, ◌++◌, Bool, cond, true, false, List, [], ◌∷◌, refl, codes, Some, None, is_some, sym, ap, ap₂}
use Rattle.std.specs.Prelude.{option_map, find, fold}
use Rattle.std.specs.Option.{option_map_or}
use Rattle.std.specs.Str.{bytes_eq}
use Rattle.std.proofs.lemmas.List.{append_assoc}
use Rattle.clap.specs.Words.{App, Row, Text, all_of, fault_of, is_simple, is_simple_and_free, subcommand_of}
use Rattle.clap.specs.Walk.{Held, Names, Walk, after_step, answers_to, finished, idle, nothing_held, positional, reading_by, rows_after, settled, subcommand_met, subcommand_or_other, walk, walk_from, walked}
use Rattle.clap.specs.Kinds.{Kinds, or_else}
use Rattle.clap.specs.Faults.{check_fault, defaults_fault, entered_fault, level_fault, other_fault, settle_fault, step_fault, turn_fault, walk_fault}
use Rattle.clap.specs.Simple.{Shape, built, built_leaf, entered, inherited, label_of, names_of, new_rule, filled, rows_at}
use Rattle.clap.specs.declared.builder.action.ArgAction.TheVariants.{Append}
use Rattle.clap.specs.declared.error.kind.ErrorKind.TheVariants as kind
use Rattle.clap.specs.declared.parser.matches.ValueSource.TheVariants.{CommandLine}
use Rattle.clap.proofs.OnLiterals.{clap_on_literals}
use Rattle.crl_commands.specs.Commands.{any_hyphenated, is_hyphenated}
use Rattle.crl_commands.specs.CommandLine.{command_line, words_behind}
use Rattle.crl_commands.proofs.Walks.{IsPlainWord, at, stopped_at, turn, placed, taken, taken_well, first_nil, neither, not_nil}

pub is_free : is_simple_and_free command_line ≡ true
unfolding clap_on_literals
is_free = refl

pub is_plain : is_simple command_line ≡ true
unfolding clap_on_literals
is_plain = refl

abbrev pub whole : App
whole = built command_line

abbrev pub names : Names
names = names_of whole

-- the faults of a level, from the walk over its words
abbrev level_by : Shape → Bool → Kinds → Kinds → Walk → Kinds
level_by s inner below faults w = or_else faults (or_else below (or_else (settle_fault s.rules s.args_override_self w.held)
    (or_else (defaults_fault (settled s.rules w.held).rows s.rules) (check_fault s (finished s.rules w.held) inner))))

abbrev whole_by : Kinds → Walk → Kinds
whole_by faults w = level_by whole.top (is_some (entered whole w.stopped)) (entered_fault whole w.stopped) faults w

-- ---- a command and the words behind it

abbrev pub leaf : Text → Shape
leaf name = built_leaf (inherited command_line.top (words_behind name).top)

abbrev pub leaf_fault : Text → List Text → Kinds
leaf_fault name words = level_fault (leaf name) [] nothing_held words false []

-- what was read of some words: a row of them all, once there is one
abbrev row_of : List Text → Row
row_of words = record {
  id = codes "words";
  values = words;
  count = None;
  source = Some CommandLine;
  reading = reading_by (filled (record (new_rule (codes "words")) { required = true; action = Some Append }));
}

abbrev rows_of : List Text → List Row
rows_of [] = []
rows_of (w ∷ words) = row_of (w ∷ words) ∷ []

-- these words were read, and then one more
abbrev reading : List Text → Text → Held
reading front last = record { rows = rows_of front; pending = Some (codes "words", last ∷ []); skip = 0 }

abbrev behind : List Text → Text → Walk
behind front last = at (reading front last) positional 1

plain_first : (name w : Text) → is_hyphenated w ≡ false → IsPlainWord (leaf name).rules [] w nothing_held idle
plain_first name w e = record { plain = e; unmet = refl; free = refl }

plain_next : (name : Text) (front : List Text) (last w : Text) → is_hyphenated w ≡ false → IsPlainWord (leaf name).rules [] w (reading front last) positional
plain_next name front last w e = record { plain = e; unmet = refl; free = refl }

first_step : (name w : Text) → is_hyphenated w ≡ false → walked (leaf name).rules [] (walk_from nothing_held) w ≡ behind [] w
unfolding clap_on_literals
first_step name w e = placed (leaf name).rules [] w nothing_held idle 1 (plain_first name w e)

next_step : (name : Text) (front : List Text) (last w : Text) → is_hyphenated w ≡ false → walked (leaf name).rules [] (behind front last) w ≡ behind (front ++ last ∷ []) w
unfolding clap_on_literals
next_step name [] last w e = placed (leaf name).rules [] w (reading [] last) positional 1 (plain_next name [] last w e)
next_step name (x ∷ front) last w e = placed (leaf name).rules [] w (reading (x ∷ front) last) positional 1 (plain_next name (x ∷ front) last w e)

first_turn : (name w : Text) → is_hyphenated w ≡ false → turn_fault (leaf name) [] (walk_from nothing_held) w ≡ []
unfolding clap_on_literals
first_turn name w e = turn (leaf name) [] w nothing_held idle 1 (plain_first name w e)

next_turn : (name : Text) (front : List Text) (last w : Text) → is_hyphenated w ≡ false → turn_fault (leaf name) [] (behind front last) w ≡ []
unfolding clap_on_literals
next_turn name front last w e = turn (leaf name) [] w (reading front last) positional 1 (plain_next name front last w e)

-- where a walk over more words ends: it has read them all
record Ends (name : Text) (front : List Text) (last : Text) (rest : List Text) : Type 0 where
  before : List Text
  final : Text
  there : fold (walked (leaf name).rules []) (behind front last) rest ≡ behind before final
  all : before ++ final ∷ [] ≡ front ++ last ∷ rest
  well : walk_fault (leaf name) [] (behind front last) rest ≡ []

ends : (name : Text) (front : List Text) (last : Text) (rest : List Text) → any_hyphenated rest ≡ false → Ends name front last rest
unfolding walk_fault
ends name front last [] e = record { before = front; final = last; there = refl; all = refl; well = refl }
ends name front last (w ∷ rest) e =
    let plain = neither _ _ e in
    let step = next_step name front last w plain.0 in
    let later : Ends name (front ++ last ∷ []) w rest = ends name (front ++ last ∷ []) w rest plain.1 in
    record {
      before = later.before;
      final = later.final;
      there = ap (λ s. fold (walked (leaf name).rules []) s rest) step ∙ later.there;
      all = later.all ∙ append_assoc front (last ∷ []) (w ∷ rest);
      well = ap₂ (λ f s. or_else f (walk_fault (leaf name) [] s rest)) (next_turn name front last w plain.0) step ∙ later.well;
    }

-- what is made of the end
end_fits : (name : Text) (before : List Text) (final : Text) → level_by (leaf name) false [] [] (behind before final) ≡ []
unfolding clap_on_literals
end_fits name [] final = refl
end_fits name (x ∷ before) final = refl

end_gives : (name : Text) (before : List Text) (final : Text) → all_of (codes "words") (finished (leaf name).rules (reading before final)) ≡ Some (before ++ final ∷ [])
end_gives name [] final = refl
end_gives name (x ∷ before) final = refl

-- a command takes words behind it
pub words_fit : (name v : Text) (rest : List Text) → any_hyphenated (v ∷ rest) ≡ false → leaf_fault name (v ∷ rest) ≡ []
unfolding walk_fault
words_fit name v rest e =
    let plain = neither _ _ e in
    let step = first_step name v plain.0 in
    let later : Ends name [] v rest = ends name [] v rest plain.1 in
    ap₂ (λ f w. level_by (leaf name) false [] f w)
    (ap₂ (λ f s. or_else f (walk_fault (leaf name) [] s rest)) (first_turn name v plain.0) step ∙ later.well)
    (ap (λ s. fold (walked (leaf name).rules []) s rest) step ∙ later.there)
    ∙ end_fits name later.before later.final

pub words_given : (name v : Text) (rest : List Text) → any_hyphenated (v ∷ rest) ≡ false → all_of (codes "words") (rows_after (leaf name).rules [] (v ∷ rest)) ≡ Some (v ∷ rest)
words_given name v rest e =
    let plain = neither _ _ e in
    let later : Ends name [] v rest = ends name [] v rest plain.1 in
    ap (λ w. all_of (codes "words") (finished (leaf name).rules w.held)) (ap (λ s. fold (walked (leaf name).rules []) s rest) (first_step name v plain.0) ∙ later.there)
    ∙ (end_gives name later.before later.final ∙ ap (λ ws. Some ws) later.all)

-- and wants one
pub no_value : (name : Text) → leaf_fault name [] ≡ [] → ⊥
unfolding clap_on_literals
no_value name e = not_nil kind.MissingRequiredArgument [] e

-- ---- the program

-- the text names a command
pub record IsNamed (name : Text) : Type 0 where
  pub met : subcommand_met names idle name ≡ Some name
  pub found : find (λ s. answers_to name (label_of s)) whole.subs ≡ Some (leaf name)
  pub other : bytes_eq name (codes "help") ≡ false

begun : (name : Text) → IsNamed name → walked whole.top.rules names (at nothing_held idle 1) name ≡ stopped_at nothing_held 1 name []
unfolding walked
begun name k =
    ap (λ o. after_step whole.top.rules name (at nothing_held idle 1) (subcommand_or_other whole.top.rules o idle 1 name nothing_held).0 (subcommand_or_other whole.top.rules o idle 1 name nothing_held).1) k.met

begun_well : (name : Text) → IsNamed name → turn_fault whole.top names (at nothing_held idle 1) name ≡ []
begun_well name k =
    ap (λ o. or_else (other_fault whole.top o name nothing_held) (step_fault whole.top 1 (subcommand_or_other whole.top.rules o idle 1 name nothing_held).0 (subcommand_or_other whole.top.rules o idle 1 name nothing_held).1)) k.met
    ∙ ap (λ b. or_else (cond (b && false) (kind.DisplayHelp ∷ kind.InvalidSubcommand ∷ []) []) []) k.other

named_walk : (name : Text) (rest : List Text) → IsNamed name → walk whole.top.rules names nothing_held (name ∷ rest) ≡ stopped_at nothing_held 1 name rest
named_walk name rest k = ap (λ w. fold (walked whole.top.rules names) w rest) (begun name k) ∙ taken whole.top.rules names nothing_held 1 name [] rest

named_well : (name : Text) (rest : List Text) → IsNamed name → walk_fault whole.top names (walk_from nothing_held) (name ∷ rest) ≡ []
unfolding walk_fault
named_well name rest k = ap₂ (λ f w. or_else f (walk_fault whole.top names w rest)) (begun_well name k) (begun name k) ∙ taken_well whole.top names nothing_held 1 name [] rest

-- the command has the faults of what follows its name
pub named_fault : (name : Text) (rest : List Text) → IsNamed name → fault_of command_line (name ∷ rest) ≡ or_else (leaf_fault name rest) []
unfolding defaults_fault
named_fault name rest k =
    ap₂ whole_by (named_well name rest k) (named_walk name rest k)
    ∙ ap (λ o. or_else (option_map_or (λ s. level_fault s [] nothing_held rest false []) o []) (check_fault whole.top [] (is_some (option_map (λ s. rows_at s rest) o)))) k.found

pub named_gives : (name : Text) (rest : List Text) → IsNamed name → subcommand_of command_line (name ∷ rest) ≡ Some (name, rows_after (leaf name).rules [] rest)
named_gives name rest k = ap (λ w. entered whole w.stopped) (named_walk name rest k) ∙ ap (option_map (λ s. rows_at s rest)) k.found

pub unnamed : (w : Text) (rest : List Text) → is_hyphenated w ≡ false → subcommand_met names idle w ≡ None → fault_of command_line (w ∷ rest) ≡ [] → ⊥
unfolding walk_fault
unnamed w rest e none well =
    let walked_well : walk_fault whole.top names (walk_from nothing_held) (w ∷ rest) ≡ [] = first_nil _ _ well in
    let first : turn_fault whole.top names (at nothing_held idle 1) w ≡ [] = first_nil _ _ walked_well in
    let plain : IsPlainWord whole.top.rules names w nothing_held idle = record { plain = e; unmet = none; free = refl } in
    not_nil kind.UnknownArgument (kind.InvalidSubcommand ∷ []) (sym (turn whole.top names w nothing_held idle 1 plain) ∙ first)

pub no_words : fault_of command_line [] ≡ [] → ⊥
unfolding clap_on_literals
no_words e = not_nil kind.MissingSubcommand [] e
