-- The words of a line, none of which has a space or a line feed.
use Rattle.std.proofs.Common.{◌≡◌, ℕ, ◌^◌, ◌<◌, true, ◌&&◌, List, [], ◌∷◌, ◌++◌, refl, ap, ◌∙◌, arith}
use Rattle.std.specs.Prelude.{decimal, codes}
use Rattle.std.specs.Fmt.{signed_decimal}
use Rattle.std.proofs.lemmas.List.{append_cancel_right}
use Rattle.hex.specs.Hex.{encode_lower}
use Rattle.crl_model.specs.declared.name.Name.{Name}
use Rattle.crl_model.specs.declared.call.CallKind.{CallKind}
use Rattle.crl_model.specs.declared.call.CallKind.TheVariants as kinds
use Rattle.crl_model.specs.declared.call.Refusal.{Refusal}
use Rattle.crl_model.specs.declared.call.Refusal.TheVariants as refusals
use Rattle.crl_model.specs.declared.collective.Part.{Part}
use Rattle.crl_model.specs.declared.collective.Part.TheVariants as parts
use Rattle.crl_model.specs.declared.collective.Fold.{Fold}
use Rattle.crl_model.specs.declared.collective.Fold.TheVariants as folds
use Rattle.crl_model.specs.declared.entry.What.{What}
use Rattle.crl_model.specs.declared.entry.What.TheVariants as whats
use Rattle.crl_model.specs.declared.entry.Place.{Place}
use Rattle.crl_model.specs.declared.entry.Place.TheVariants as places
use Rattle.crl_account.specs.declared.line.Line.{Line}
use Rattle.crl_account.specs.declared.line.Line.TheVariants as lines
use Rattle.crl_account.specs.Text.{name_text, spaced, call_word, refusal_word, place_text, part_words, fold_words, what_words}
use Rattle.crl_account.specs.Parts as texts
use Rattle.crl_account.specs.Account.{line_text, FitsName, FitsPlace, FitsPart, FitsFold, FitsWhat, FitsLine, IsLine}
use Rattle.crl_account.proofs.Plain.{plain, all_plain, both, plain_decimal, plain_signed64, plain_signed128, plain_hex, plain_name, parts_spaced}

-- ---- what an entry says

plain_kind : (kind : CallKind) → plain (call_word kind) ≡ true
plain_kind kinds.Create = refl
plain_kind kinds.Delete = refl
plain_kind kinds.Map = refl
plain_kind kinds.Unmap = refl
plain_kind kinds.Read = refl
plain_kind kinds.EndRead = refl
plain_kind kinds.Write = refl
plain_kind kinds.Put = refl
plain_kind kinds.Add = refl
plain_kind kinds.EndWrite = refl
plain_kind kinds.Flush = refl
plain_kind kinds.Barrier = refl
plain_kind kinds.Send = refl
plain_kind kinds.Receive = refl
plain_kind kinds.Sum = refl
plain_kind kinds.Min = refl
plain_kind kinds.Max = refl

plain_refusal : (why : Refusal) → plain (refusal_word why) ≡ true
plain_refusal refusals.BadSize = refl
plain_refusal refusals.NamesSpent = refl
plain_refusal refusals.Unknown = refl
plain_refusal refusals.Deleted = refl
plain_refusal refusals.NotMapped = refl
plain_refusal refusals.SectionOpen = refl
plain_refusal refusals.NotReading = refl
plain_refusal refusals.NotWriting = refl
plain_refusal refusals.InSection = refl
plain_refusal refusals.OutOfRange = refl
plain_refusal refusals.WrongSize = refl
plain_refusal refusals.TooMany = refl
plain_refusal refusals.Mixed = refl

plain_place : (place : Place) → FitsPlace place → plain (place_text place) ≡ true
plain_place (places.Region name) fits = plain_name name fits
plain_place (places.Round round) fits = plain_decimal round (omega arith)

plain_part : (part : Part) → FitsPart part → all_plain (part_words part) ≡ true
plain_part parts.Barrier fits = refl
plain_part (parts.Send bytes) fits = both (plain (encode_lower bytes)) true (plain_hex bytes fits) refl
plain_part parts.Receive fits = refl
plain_part (parts.Sum value) fits = both (plain (signed_decimal value)) true (plain_signed64 value fits) refl
plain_part (parts.Min value) fits = both (plain (signed_decimal value)) true (plain_signed64 value fits) refl
plain_part (parts.Max value) fits = both (plain (signed_decimal value)) true (plain_signed64 value fits) refl

plain_fold : (round : ℕ) (fold : Fold) → round < 2 ^ 64 → FitsFold fold → all_plain (fold_words round fold) ≡ true
plain_fold round folds.Barrier lt fits = both (plain (decimal round)) true (plain_decimal round (omega arith)) refl
plain_fold round (folds.Broadcast bytes) lt fits = both (plain (decimal round)) (plain (encode_lower bytes) && true) (plain_decimal round (omega arith)) (both (plain (encode_lower bytes)) true (plain_hex bytes fits) refl)
plain_fold round (folds.Sum value) lt fits = both (plain (decimal round)) (plain (signed_decimal value) && true) (plain_decimal round (omega arith)) (both (plain (signed_decimal value)) true (plain_signed128 value fits) refl)
plain_fold round (folds.Min value) lt fits = both (plain (decimal round)) (plain (signed_decimal value) && true) (plain_decimal round (omega arith)) (both (plain (signed_decimal value)) true (plain_signed64 value fits) refl)
plain_fold round (folds.Max value) lt fits = both (plain (decimal round)) (plain (signed_decimal value) && true) (plain_decimal round (omega arith)) (both (plain (signed_decimal value)) true (plain_signed64 value fits) refl)
plain_fold round folds.Mixed lt fits = both (plain (decimal round)) true (plain_decimal round (omega arith)) refl

name_plain : (name : Name) → FitsName name → all_plain (name_text name ∷ []) ≡ true
name_plain name fits = both (plain (name_text name)) true (plain_name name fits) refl

plain_what : (what : What) → FitsWhat what → all_plain (what_words what) ≡ true
plain_what (whats.Create name size) fits = both (plain (name_text name)) (plain (decimal size) && true) (plain_name name fits.0) (both (plain (decimal size)) true (plain_decimal size (omega (arith, fits.1))) refl)
plain_what (whats.Map name size) fits = both (plain (name_text name)) (plain (decimal size) && true) (plain_name name fits.0) (both (plain (decimal size)) true (plain_decimal size (omega (arith, fits.1))) refl)
plain_what (whats.Unmap name) fits = name_plain name fits
plain_what (whats.StartRead name) fits = name_plain name fits
plain_what (whats.Read name seen) fits = both (plain (name_text name)) (plain (encode_lower seen) && true) (plain_name name fits.0) (both (plain (encode_lower seen)) true (plain_hex seen fits.1) refl)
plain_what (whats.StartWrite name) fits = name_plain name fits
plain_what (whats.Write name before after) fits = both (plain (name_text name)) (plain (encode_lower before) && (plain (encode_lower after) && true)) (plain_name name fits.0) (both (plain (encode_lower before)) (plain (encode_lower after) && true) (plain_hex before fits.1) (both (plain (encode_lower after)) true (plain_hex after fits.2) refl))
plain_what (whats.Flush name) fits = name_plain name fits
plain_what (whats.Deleting name) fits = name_plain name fits
plain_what (whats.Deleted name) fits = name_plain name fits
plain_what (whats.Come part) fits = plain_part part fits
plain_what (whats.Came round fold) fits = plain_fold round fold fits.0 fits.1
plain_what (whats.Refused kind place why) fits =
    both (plain (call_word kind)) (plain (place_text place) && (plain (refusal_word why) && true)) (plain_kind kind)
    (both (plain (place_text place)) (plain (refusal_word why) && true) (plain_place place fits) (both (plain (refusal_word why)) true (plain_refusal why) refl))

-- ---- a line

-- the words of a line: the first, and those behind
abbrev pub first_word : Line → List ℕ
first_word (lines.Entry entry) = decimal entry.node
first_word (lines.Region name bytes) = codes "region"
first_word (lines.StuckSection node name holder) = codes "stuck"
first_word (lines.StuckRound node round absent) = codes "stuck"
first_word (lines.Counts events messages) = codes "events"

abbrev pub other_words : Line → List (List ℕ)
other_words (lines.Entry entry) = what_words entry.what
other_words (lines.Region name bytes) = name_text name ∷ encode_lower bytes ∷ []
other_words (lines.StuckSection node name holder) = decimal node ∷ name_text name ∷ codes "by" ∷ decimal holder ∷ []
other_words (lines.StuckRound node round absent) = decimal node ∷ codes "round" ∷ decimal round ∷ codes "without" ∷ decimal absent ∷ []
other_words (lines.Counts events messages) = decimal events ∷ codes "messages" ∷ decimal messages ∷ []

pub text_is : (line : Line) → line_text line ≡ (first_word line ++ spaced (other_words line)) ++ codes "\n"
text_is (lines.Entry entry) = refl
text_is (lines.Region name bytes) = refl
text_is (lines.StuckSection node name holder) = refl
text_is (lines.StuckRound node round absent) = refl
text_is (lines.Counts events messages) = refl

pub first_plain : (line : Line) → FitsLine line → plain (first_word line) ≡ true
first_plain (lines.Entry entry) fits = plain_decimal entry.node (omega (arith, fits.0))
first_plain (lines.Region name bytes) fits = refl
first_plain (lines.StuckSection node name holder) fits = refl
first_plain (lines.StuckRound node round absent) fits = refl
first_plain (lines.Counts events messages) fits = refl

pub others_plain : (line : Line) → FitsLine line → all_plain (other_words line) ≡ true
others_plain (lines.Entry entry) fits = plain_what entry.what fits.1
others_plain (lines.Region name bytes) fits = both (plain (name_text name)) (plain (encode_lower bytes) && true) (plain_name name fits.0) (both (plain (encode_lower bytes)) true (plain_hex bytes fits.1) refl)
others_plain (lines.StuckSection node name holder) fits =
    both (plain (decimal node)) (plain (name_text name) && (plain (decimal holder) && true)) (plain_decimal node (omega (arith, fits.0)))
    (both (plain (name_text name)) (plain (decimal holder) && true) (plain_name name fits.1) (both (plain (decimal holder)) true (plain_decimal holder (omega (arith, fits.2))) refl))
others_plain (lines.StuckRound node round absent) fits =
    both (plain (decimal node)) (plain (decimal round) && (plain (decimal absent) && true)) (plain_decimal node (omega (arith, fits.0)))
    (both (plain (decimal round)) (plain (decimal absent) && true) (plain_decimal round (omega (arith, fits.1))) (both (plain (decimal absent)) true (plain_decimal absent (omega (arith, fits.2))) refl))
others_plain (lines.Counts events messages) fits =
    both (plain (decimal events)) (plain (decimal messages) && true) (plain_decimal events (omega (arith, fits.0)))
    (both (plain (decimal messages)) true (plain_decimal messages (omega (arith, fits.1))) refl)

-- ---- the spaces of a line part its words

pub line_parts : (line : Line) (bytes : List ℕ) → IsLine line bytes → texts.parts 32 bytes ≡ first_word line ∷ other_words line
line_parts line bytes is =
    let words : bytes ≡ first_word line ++ spaced (other_words line) = append_cancel_right bytes (first_word line ++ spaced (other_words line)) (codes "\n") (is.text ∙ text_is line) in
    ap (texts.parts 32) words ∙ parts_spaced (first_word line) (other_words line) (first_plain line is.fits) (others_plain line is.fits)
