-- What clap's walk does at words that don't begin with a hyphen.
use Rattle.std.proofs.Common.{◌≡◌, ◌&&◌, ◌||◌, ◌∙◌, ◌++◌, ℕ, Bool, cond, true, false, true≢false, List, [], ◌∷◌, refl, sym, ap, ap₂, Some, None}
use Rattle.std.specs.Prelude.{fold, option_and_then}
use Rattle.std.specs.Option.{option_map_or}
use Rattle.std.specs.Str.{bytes_eq}
use Rattle.std.proofs.lemmas.List.{append-nil, append_assoc}
use Rattle.clap.specs.Lexer.{long_of, long_of_rest, short_of, short_of_rest, strip_byte}
use Rattle.clap.specs.Walk.{Held, Names, Rule, Text, Waiting, Walk, after_step, arg_by_index, idle, long_or_other, plain_word, short_or_plain, subcommand_met, subcommand_or_other, to_positional, trailing, value, walked, word_met}
use Rattle.clap.specs.Kinds.{Kinds, or_else}
use Rattle.clap.specs.Faults.{bundle_fault, flag_word_fault, other_fault, step_fault, turn_fault, walk_fault, word_fault}
use Rattle.clap.specs.Simple.{Shape}
use Rattle.clap.specs.declared.error.kind.ErrorKind.{ErrorKind}
use Rattle.crl_commands.specs.Commands.{is_hyphenated}

pub neither : (a b : Bool) → (a || b) ≡ false → (a ≡ false) × (b ≡ false)
neither false b e = (refl, e)
neither true b e = absurd (true≢false e)

no_long : (w : Text) → is_hyphenated w ≡ false → long_of w ≡ None
no_long [] e = refl
no_long (x ∷ xs) e = ap (λ b. option_and_then long_of_rest (option_and_then (strip_byte 45) (cond b (Some xs) None))) e

no_short : (w : Text) → is_hyphenated w ≡ false → short_of w ≡ None
no_short [] e = refl
no_short (x ∷ xs) e = ap (λ b. option_and_then short_of_rest (cond b (Some xs) None)) e

no_dashes : (w : Text) → is_hyphenated w ≡ false → bytes_eq w (45 ∷ 45 ∷ []) ≡ false
no_dashes [] e = refl
no_dashes (x ∷ xs) e = ap (λ b. b && bytes_eq xs (45 ∷ [])) e

-- the walk before a word at place k
abbrev pub at : Held → Waiting → ℕ → Walk
at h waiting k = record { held = h; waiting = waiting; position = k; is_trailing = false; stopped = None }

-- the walk behind the subcommand of this name
abbrev pub stopped_at : Held → ℕ → Text → List Text → Walk
stopped_at h k name rest = record { held = h; waiting = idle; position = k; is_trailing = false; stopped = Some (name, rest) }

-- the word names no subcommand, and nothing waits for it as its value
pub record IsPlainWord (c : List Rule) (names : Names) (w : Text) (h : Held) (waiting : Waiting) : Type 0 where
  pub plain : is_hyphenated w ≡ false
  pub unmet : subcommand_met names waiting w ≡ None
  pub free : plain_word c waiting w h ≡ (h, value)

met : (c : List Rule) (names : Names) (w : Text) (h : Held) (waiting : Waiting) (k : ℕ) → IsPlainWord c names w h waiting → word_met c names false waiting k w h ≡ (h, value)
met c names w h waiting k p =
    ap (λ o. subcommand_or_other c o waiting k w h) p.unmet
    ∙ (ap₂ (λ b o. cond b (h, trailing k) (long_or_other c waiting w o h)) (no_dashes w p.plain) (no_long w p.plain)
    ∙ (ap (λ o. short_or_plain c waiting w o h) (no_short w p.plain) ∙ p.free))

no_word_fault : (s : Shape) (names : Names) (w : Text) (h : Held) (waiting : Waiting) → IsPlainWord s.rules names w h waiting → word_fault s names false waiting w h ≡ []
no_word_fault s names w h waiting p =
    ap (λ o. other_fault s o w h) p.unmet
    ∙ (ap₂ (λ b o. cond b [] (flag_word_fault s.rules s.args_override_self o w h)) (no_dashes w p.plain) (no_long w p.plain)
    ∙ ap (λ o. option_map_or (λ flags. bundle_fault s.rules s.args_override_self flags h) o []) (no_short w p.plain))

-- a word that is no subcommand goes to the positional of its place
pub turn : (s : Shape) (names : Names) (w : Text) (h : Held) (waiting : Waiting) (k : ℕ) → IsPlainWord s.rules names w h waiting → turn_fault s names (at h waiting k) w ≡ step_fault s k h value
turn s names w h waiting k p =
    ap₂ (λ f m. or_else f (step_fault s k m.0 m.1)) (no_word_fault s names w h waiting p) (met s.rules names w h waiting k p)

pub placed : (c : List Rule) (names : Names) (w : Text) (h : Held) (waiting : Waiting) (k : ℕ) → IsPlainWord c names w h waiting → walked c names (at h waiting k) w ≡ to_positional c (arg_by_index c k) w (at h waiting k) h
unfolding walked
placed c names w h waiting k p = ap (λ m. after_step c w (at h waiting k) m.0 m.1) (met c names w h waiting k p)

-- a subcommand takes all the words behind it
pub taken : (c : List Rule) (names : Names) (h : Held) (k : ℕ) (name : Text) (front rest : List Text) → fold (walked c names) (stopped_at h k name front) rest ≡ stopped_at h k name (front ++ rest)
unfolding walked
taken c names h k name front [] = ap (stopped_at h k name) (sym (append-nil front))
taken c names h k name front (w ∷ rest) = taken c names h k name (front ++ w ∷ []) rest ∙ ap (stopped_at h k name) (append_assoc front (w ∷ []) rest)

pub taken_well : (s : Shape) (names : Names) (h : Held) (k : ℕ) (name : Text) (front rest : List Text) → walk_fault s names (stopped_at h k name front) rest ≡ []
unfolding walked walk_fault
taken_well s names h k name front [] = refl
taken_well s names h k name front (w ∷ rest) = taken_well s names h k name (front ++ w ∷ []) rest

pub first_nil : (xs ys : Kinds) → or_else xs ys ≡ [] → xs ≡ []
first_nil [] ys e = refl
first_nil (x ∷ xs) ys e = e

pub not_nil : (k : ErrorKind) (ks : Kinds) → k ∷ ks ≡ [] → ⊥
not_nil k ks e = cc
