-- The first line of a text, and the lines of an account that was written.
use Rattle.std.proofs.Common.{◌≡◌, ℕ, Bool, true, false, cond, eqb, List, [], ◌∷◌, ◌++◌, refl, sym, ap, subst, ◌∙◌, append_assoc, arith}
use Rattle.std.specs.List.{onto_first, AllByRecursion}
use Rattle.std.proofs.lemmas.List.Concat.{flat_map-cons}
use Rattle.crl_model.specs.declared.entry.Entry.{Entry}
use Rattle.crl_account.specs.declared.line.Line.TheVariants as lines
use Rattle.crl_account.specs.Text.{spaced, entry_text, account_text}
use Rattle.crl_account.specs.Parts.{parts}
use Rattle.crl_account.specs.Account.{without_empty_end, lines_of, IsLine, AreRegions, IsAccount, IsReadable}
use Rattle.crl_account.proofs.Plain.{avoids, plain_avoids, avoids-append, spaced_avoids, parts_word}
use Rattle.crl_account.proofs.Lines.{first_word, other_words, first_plain, others_plain}

-- there is one part at least
parts_some : (separator : ℕ) (text : List ℕ) → (w : List ℕ) × (ws : List (List ℕ)) × (parts separator text ≡ w ∷ ws)
parts_some separator [] = ([], [], refl)
parts_some separator (b ∷ bs) = go (eqb b separator) (parts separator bs) where
  go : (test : Bool) (others : List (List ℕ)) → (w : List ℕ) × (ws : List (List ℕ)) × (cond test ([] ∷ others) (onto_first b others) ≡ w ∷ ws)
  go true others = ([], others, refl)
  go false [] = (b ∷ [], [], refl)
  go false (part ∷ others) = (b ∷ part, others, refl)

more_behind : (line w : List ℕ) (ws : List (List ℕ)) → without_empty_end (line ∷ w ∷ ws) ≡ line ∷ without_empty_end (w ∷ ws)
more_behind [] w ws = refl
more_behind (b ∷ bs) w ws = refl

-- a line feed parts the first line from the others
pub lines_some : (text line after : List ℕ) → parts 10 text ≡ line ∷ parts 10 after → lines_of text ≡ line ∷ lines_of after
lines_some text line after e =
    let some = parts_some 10 after in
    ap without_empty_end (e ∙ ap (λ (ps : List (List ℕ)). line ∷ ps) some.2) ∙ more_behind line some.0 some.1
    ∙ ap (λ (ps : List (List ℕ)). line ∷ without_empty_end ps) (sym some.2)

-- ---- an account that was written

pub written_lines : (entries : List Entry) (behind : List ℕ) → AllByRecursion IsReadable entries → AreRegions (lines_of behind) → IsAccount (lines_of (account_text entries ++ behind)) entries
written_lines [] behind can others = others
written_lines (entry ∷ entries) behind can others =
    let line = lines.Entry entry in
    let body = first_word line ++ spaced (other_words line) in
    let free : avoids 10 body ≡ true = avoids-append 10 (first_word line) (spaced (other_words line)) (plain_avoids 10 (first_word line) (omega arith) (first_plain line can.0.1)) (spaced_avoids (other_words line) (others_plain line can.0.1)) in
    let whole : account_text (entry ∷ entries) ++ behind ≡ body ++ 10 ∷ (account_text entries ++ behind) =
    ap (λ (t : List ℕ). t ++ behind) (flat_map-cons entry_text entry entries)
    ∙ append_assoc (entry_text entry) (account_text entries) behind
    ∙ append_assoc body (10 ∷ []) (account_text entries ++ behind) in
    let cut : lines_of (account_text (entry ∷ entries) ++ behind) ≡ body ∷ lines_of (account_text entries ++ behind) =
    ap lines_of whole ∙ lines_some (body ++ 10 ∷ (account_text entries ++ behind)) body (account_text entries ++ behind) (parts_word 10 body (account_text entries ++ behind) free) in
    let is : IsLine line body = record { text = refl; printable = can.0.0; fits = can.0.1 } in
    subst (λ (ls : List (List ℕ)). IsAccount ls (entry ∷ entries)) (sym cut) (is, written_lines entries behind can.1 others)
