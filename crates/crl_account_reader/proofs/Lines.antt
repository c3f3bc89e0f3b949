-- A line that was written is guessed again, so no bytes are two lines.
use Rattle.std.proofs.Common.{◌≡◌, ◌≢◌, ℕ, ◌^◌, ◌<◌, false, eqb, List, [], ◌∷◌, ◌++◌, get_or, Option, Some, None, Result, refl, sym, ap, subst, ◌∙◌, arith, append_assoc}
use Rattle.std.specs.Prelude.{decimal, codes}
use Rattle.std.specs.Str.{bytes_eq}
use Rattle.std.proofs.lemmas.Bool.{ne_eqb}
use Rattle.std.proofs.lemmas.Option.{same_Some}
use Rattle.crl_model.specs.declared.name.Name.{Name}
use Rattle.crl_model.specs.declared.entry.What.{What}
use Rattle.crl_account.specs.declared.line.Line.{Line}
use Rattle.crl_account.specs.declared.line.Line.TheVariants as lines
use Rattle.crl_account.specs.Text.{name_text, what_words}
use Rattle.crl_account.specs.Account.{FitsName, FitsLine, IsPrintableLine, IsLine}
use Rattle.crl_account.proofs.Laws.{first_word, other_words, line_parts}
use Rattle.crl_account_reader.specs.declared.fault.LineFault.{LineFault}
use Rattle.crl_account_reader.specs.Words.{verb_of}
use Rattle.crl_account_reader.specs.Reading.{◌>>=◌, Gives, number_of}
use Rattle.crl_account_reader.specs.Guess.{name_and_bytes, what_by, entry_by, region_by, stuck_round_by, stuck_section_by, stuck_at, stuck_by, counts_by, line_by, line_of}
use Rattle.crl_account_reader.proofs.Digits.{number_again, first_digit}
use Rattle.crl_account_reader.proofs.Again.{says, name_again, bytes_again, what_again}

-- a number is none of the words that begin other lines
other_word : (word : List ℕ) (c : ℕ) (cs : List ℕ) → get_or word 0 0 ≢ c → bytes_eq word (c ∷ cs) ≡ false
other_word [] c cs apart = refl
other_word (b ∷ bs) c cs apart = let e : eqb b c ≡ false = ne_eqb b c apart in rw e refl

-- nor is a name
other_front : (word rest : List ℕ) (c : ℕ) (cs : List ℕ) → 0 < get_or word 0 0 → get_or word 0 0 ≢ c → bytes_eq (word ++ rest) (c ∷ cs) ≡ false
other_front [] rest c cs some apart = absurd (omega arith)
other_front (b ∷ bs) rest c cs some apart = let e : eqb b c ≡ false = ne_eqb b c apart in rw e refl

name_is_no_word : (name : Name) → FitsName name → bytes_eq (name_text name) (codes "round") ≡ false
name_is_no_word name fits =
    let digit = first_digit name.home (omega (arith, fits.0)) in
    ap (λ (w : List ℕ). bytes_eq w (codes "round")) (append_assoc (decimal name.home) (codes ":") (decimal name.serial))
    ∙ other_front (decimal name.home) (codes ":" ++ decimal name.serial) 114 (codes "ound") (omega arith) (omega arith)

bind_more : {A B C : Type 0} (o : Option A) (f : A → Option B) (g : B → Option C) (y : B) → (o >>= f) ≡ Some y → (o >>= λ x. f x >>= g) ≡ g y
bind_more None f g y e = absurd cc
bind_more (Some x) f g y e = rw e refl

entry_says : (first : List ℕ) (words : List (List ℕ)) (node : ℕ) (what : What) → number_of (2 ^ 16) first ≡ Some node → says words ≡ Some what
    → entry_by first words ≡ Some (lines.Entry (record { node = node; what = what }))
unfolding entry_by says
entry_says first [] node what is_node is_what = absurd cc
entry_says first (word ∷ words) node what is_node is_what =
    rw is_node (bind_more (verb_of word) (λ verb. what_by verb words) (λ w. Some (lines.Entry (record { node = node; what = w }))) what is_what)

guess_again : (line : Line) → IsPrintableLine line → FitsLine line → line_by (first_word line ∷ other_words line) ≡ Some line
unfolding line_by region_by name_and_bytes stuck_by stuck_at stuck_round_by stuck_section_by counts_by
guess_again (lines.Entry entry) prints fits =
    let wide : entry.node < 10 ^ 64 = omega (arith, fits.0) in
    let digit = first_digit entry.node wide in
    let word = decimal entry.node in
    let region : bytes_eq (decimal entry.node) (codes "region") ≡ false = other_word (decimal entry.node) 114 (codes "egion") (omega arith) in
    let stuck : bytes_eq (decimal entry.node) (codes "stuck") ≡ false = other_word (decimal entry.node) 115 (codes "tuck") (omega arith) in
    let events : bytes_eq (decimal entry.node) (codes "events") ≡ false = other_word (decimal entry.node) 101 (codes "vents") (omega arith) in
    rw (region, stuck, events) (entry_says (decimal entry.node) (what_words entry.what) entry.node entry.what (number_again (2 ^ 16) entry.node fits.0 wide) (what_again entry.what prints fits.1))
guess_again (lines.Region name bytes) prints fits = rw (name_again name fits.0, bytes_again bytes fits.1) refl
guess_again (lines.StuckSection node name holder) prints fits =
    let word : bytes_eq (name_text name) (codes "round") ≡ false = name_is_no_word name fits.1 in
    rw (number_again (2 ^ 16) node fits.0 (omega (arith, fits.0)), word, name_again name fits.1, number_again (2 ^ 16) holder fits.2 (omega (arith, fits.2))) refl
guess_again (lines.StuckRound node round absent) prints fits =
    rw (number_again (2 ^ 16) node fits.0 (omega (arith, fits.0)), number_again (2 ^ 64) round fits.1 (omega (arith, fits.1)), number_again (2 ^ 16) absent fits.2 (omega (arith, fits.2))) refl
guess_again (lines.Counts events messages) prints fits =
    rw (number_again (2 ^ 64) events fits.0 (omega (arith, fits.0)), number_again (2 ^ 64) messages fits.1 (omega (arith, fits.1))) refl

pub line_again : (line : Line) (bytes : List ℕ) → IsLine line bytes → line_of bytes ≡ Some line
unfolding line_of
line_again line bytes is = ap line_by (line_parts line bytes is) ∙ guess_again line is.printable is.fits

-- no bytes are two lines
pub line_unique : (a b : Line) (bytes : List ℕ) → IsLine a bytes → IsLine b bytes → a ≡ b
line_unique a b bytes is_a is_b = same_Some a b (sym (line_again a bytes is_a) ∙ line_again b bytes is_b)

-- ---- a guess that is held against the text

-- what is guessed of a line's text is the line
pub gives_line : (r : Result Line LineFault) (text : List ℕ) → Gives r (line_of text) → (line : Line) → IsLine line text → Gives r (Some line)
gives_line r text gives line is = subst (λ (o : Option Line). Gives r o) (line_again line text is) gives

pub guessed_is : (guess line : Line) (text : List ℕ) → line_of text ≡ Some guess → IsLine line text → guess ≡ line
guessed_is guess line text guessed is = same_Some guess line (sym guessed ∙ line_again line text is)
